-- What a tree says, by its head, its binders and what its parts say.
use Rattle.std.proofs.Common.{◌≡◌, refl, sym, ◌∙◌, ap, ℕ, ◌+◌, ◌==◌, ◌<◌, ◌≤◌, add-one, List, ◌++◌, append_assoc, append-nil, length, drop, map, get_or, Bool, true, false, Option, None, Some, Ok, Err, inr}
use Rattle.std.proofs.Math.Seq.{drop-cons}
use Rattle.std.proofs.lemmas.List.{drop_all, length-map}
use Rattle.std.specs.Prelude.{IfOk}
use Rattle.kts_base.specs.Reads.{and_then, Gives}
use Rattle.kts_syntax.specs.declared.expr.Expr.{Expr, out-Expr, roll-Expr}
use Rattle.kts_syntax.specs.declared.expr.Expr.TheOpen.{Expr-F}
use Rattle.kts_syntax.specs.declared.expr.Expr.TheFolds.{fold_out-Expr, fold-roll-Expr}
use Rattle.kts_syntax.specs.declared.head.Head.{Head}
use Rattle.kts_syntax.specs.declared.head.Head.TheVariants.{Use}
use Rattle.kts_syntax.specs.declared.word.Word.{Word}
use Rattle.kts_check.specs.Faults.{Judged, IsNoMemory}
use Rattle.kts_check.specs.Declarations.{Declarations, entry_of}
use Rattle.kts_check.specs.Contexts.{Context, context_of, name_of, operator_context, plain_context, reference, reference_context}
use Rattle.kts_check.specs.Scopes.{Scope, variable}
use Rattle.kts_check.specs.Trees.{Judgement, phrase_of, phrase_step, phrases_at, with_part, with_last, operator_phrase, reference_of, reference_phrase, tree_phrase}
use Rattle.kts_check.specs.Faults.{SpecFault}
use Rattle.kts_check.specs.declared.entry.Entry.{Entry}
use Rattle.kts_check.specs.declared.phrase.Phrases.{Phrases}
use Rattle.kts_check.specs.declared.phrase.Phrase.{Phrase}
use Rattle.kts_check.specs.declared.phrase.Phrase.TheVariants.{Value, Truth}
use Rattle.kts_check.specs.declared.reference.Reference.{Reference}
use Rattle.kts_check.proofs.Inversions.{some_is}

module _ (d : Declarations) (own : List ℕ) where
  pub phrase_of-out : (expr : Expr) (scope : Scope) (way : Option ℕ) → phrase_of d own expr scope way
      ≡ and_then (context_of d.names own (out-Expr expr).head (out-Expr expr).binders (length (out-Expr expr).parts == 0) scope way)
      (λ p. and_then (phrases_at p.scope p.way (map (phrase_of d own) (out-Expr expr).parts)) (tree_phrase d (out-Expr expr).at (out-Expr expr).head p))
  unfolding phrase_of
  phrase_of-out expr scope way = ap (λ (f : Judgement). f scope way) (fold_out-Expr Judgement (phrase_step d own) expr) ∙ rw (length-map (out-Expr expr).parts (phrase_of d own)) refl

  pub phrase_of-roll : (x : Expr-F Expr) (scope : Scope) (way : Option ℕ) → phrase_of d own (roll-Expr x) scope way
      ≡ and_then (context_of d.names own x.head x.binders (length x.parts == 0) scope way) (λ p. and_then (phrases_at p.scope p.way (map (phrase_of d own) x.parts)) (tree_phrase d x.at x.head p))
  unfolding phrase_of
  phrase_of-roll x scope way = ap (λ (f : Judgement). f scope way) (fold-roll-Expr Judgement (phrase_step d own) x) ∙ rw (length-map x.parts (phrase_of d own)) refl

  pub entered_fails : (expr : Expr) (scope : Scope) (way : Option ℕ) (head : Head) (bs : List (Word × Word × ℕ)) (alone : Bool) (f : SpecFault)
      → head ≡ (out-Expr expr).head → bs ≡ (out-Expr expr).binders → alone ≡ (length (out-Expr expr).parts == 0) → context_of d.names own head bs alone scope way ≡ Err f → phrase_of d own expr scope way ≡ Err f
  entered_fails expr scope way head bs alone f h b a e =
      let here : context_of d.names own (out-Expr expr).head (out-Expr expr).binders (length (out-Expr expr).parts == 0) scope way ≡ Err f = rw (← h, ← b, ← a) e in
      phrase_of-out expr scope way ∙ rw here refl

  pub entered_on : (expr : Expr) (scope : Scope) (way : Option ℕ) (head : Head) (bs : List (Word × Word × ℕ)) (alone : Bool) (p : Context)
      → head ≡ (out-Expr expr).head → bs ≡ (out-Expr expr).binders → alone ≡ (length (out-Expr expr).parts == 0) → context_of d.names own head bs alone scope way ≡ Ok p
      → phrase_of d own expr scope way ≡ and_then (phrases_at p.scope p.way (map (phrase_of d own) (out-Expr expr).parts)) (tree_phrase d (out-Expr expr).at (out-Expr expr).head p)
  entered_on expr scope way head bs alone p h b a e =
      let here : context_of d.names own (out-Expr expr).head (out-Expr expr).binders (length (out-Expr expr).parts == 0) scope way ≡ Ok p = rw (← h, ← b, ← a) e in
      phrase_of-out expr scope way ∙ rw here refl

  pub parts_fail : (expr : Expr) (scope : Scope) (way : Option ℕ) (head : Head) (bs : List (Word × Word × ℕ)) (alone : Bool) (p : Context) (parts : List Expr) (f : SpecFault)
      → head ≡ (out-Expr expr).head → bs ≡ (out-Expr expr).binders → alone ≡ (length (out-Expr expr).parts == 0) → context_of d.names own head bs alone scope way ≡ Ok p
      → parts ≡ (out-Expr expr).parts → phrases_at p.scope p.way (map (phrase_of d own) parts) ≡ Err f → phrase_of d own expr scope way ≡ Err f
  parts_fail expr scope way head bs alone p parts f h b a e q s =
      let here : phrases_at p.scope p.way (map (phrase_of d own) (out-Expr expr).parts) ≡ Err f = rw (← q) s in
      entered_on expr scope way head bs alone p h b a e ∙ rw here refl

  pub phrase_is : (expr : Expr) (scope : Scope) (way : Option ℕ) (head : Head) (bs : List (Word × Word × ℕ)) (alone : Bool) (p : Context) (parts : List Expr) (phrases : Phrases) (at : ℕ) (again : Head)
      → head ≡ (out-Expr expr).head → bs ≡ (out-Expr expr).binders → alone ≡ (length (out-Expr expr).parts == 0) → context_of d.names own head bs alone scope way ≡ Ok p
      → parts ≡ (out-Expr expr).parts → phrases_at p.scope p.way (map (phrase_of d own) parts) ≡ Ok phrases → at ≡ (out-Expr expr).at → again ≡ (out-Expr expr).head → phrase_of d own expr scope way ≡ tree_phrase d at again p phrases
  phrase_is expr scope way head bs alone p parts phrases at again h b a e q s t r =
      let here : phrases_at p.scope p.way (map (phrase_of d own) (out-Expr expr).parts) ≡ Ok phrases = rw (← q) s in
      entered_on expr scope way head bs alone p h b a e ∙ rw (here, ← r, ← t) refl

  -- ---- a name

  name_use : (head : Head) (word : Word) → name_of head ≡ Some word → Use word ≡ head
  unfolding name_of
  name_use (Use w) word e = ap Use (sym (some_is w word e))
  name_use head word e = absurd cc

  still_alone : (at : ℕ) (alone : Bool) (o : Option (ℕ × ℕ)) (en : Option Entry) (r : Reference) → reference at alone o en ≡ Ok r → reference at true o en ≡ Ok r
  unfolding reference
  still_alone at true o en r e = e
  still_alone at false (Some v) en r e = absurd cc
  still_alone at false None en r e = e

  module _ (expr : Expr) (scope : Scope) (way : Option ℕ) (word : Word) (alone : Bool) (named : name_of (out-Expr expr).head ≡ Some word) (lone : alone ≡ (length (out-Expr expr).parts == 0)) where
    -- the name is at fault
    pub name_fails : (f : SpecFault) → reference word.at alone (variable scope word.name) (entry_of d.names word.name) ≡ Err f → phrase_of d own expr scope way ≡ Err f
    unfolding context_of reference_context
    name_fails f e = entered_fails expr scope way (Use word) (out-Expr expr).binders alone f (name_use _ word named) refl lone (rw e refl)

    module _ (r : Reference) (is : reference word.at alone (variable scope word.name) (entry_of d.names word.name) ≡ Ok r) where
      name_context : context_of d.names own (Use word) (out-Expr expr).binders alone scope way ≡ Ok (plain_context scope None)
      unfolding context_of reference_context
      name_context = rw is refl

      name_tree : (at : ℕ) (phrases : Phrases) → tree_phrase d at (Use word) (plain_context scope None) phrases ≡ reference_phrase d at r phrases.terms phrases.kinds
      unfolding tree_phrase reference_of
      name_tree at phrases = rw (still_alone word.at alone (variable scope word.name) (entry_of d.names word.name) r is) refl

      -- one of the arguments is at fault
      pub arguments_fail : (f : SpecFault) → phrases_at scope None (map (phrase_of d own) (out-Expr expr).parts) ≡ Err f → phrase_of d own expr scope way ≡ Err f
      arguments_fail f e = parts_fail expr scope way (Use word) (out-Expr expr).binders alone (plain_context scope None) (out-Expr expr).parts f (name_use _ word named) refl lone name_context refl e

      -- a name before its arguments
      pub name_says : (phrases : Phrases) → phrases_at scope None (map (phrase_of d own) (out-Expr expr).parts) ≡ Ok phrases
          → phrase_of d own expr scope way ≡ reference_phrase d (out-Expr expr).at r phrases.terms phrases.kinds
      name_says phrases e =
          phrase_is expr scope way (Use word) (out-Expr expr).binders alone (plain_context scope None) (out-Expr expr).parts phrases (out-Expr expr).at (Use word) (name_use _ word named) refl lone name_context refl e refl (name_use _ word named)
          ∙ name_tree (out-Expr expr).at phrases

  -- ---- another head

  operator_place : (head : Head) (bs : List (Word × Word × ℕ)) (alone : Bool) (scope : Scope) (way : Option ℕ) → name_of head ≡ None → context_of d.names own head bs alone scope way ≡ operator_context d.names own head bs scope way
  unfolding name_of context_of
  operator_place (Use word) bs alone scope way e = absurd cc
  operator_place head bs alone scope way e = refl

  operator_tree : (at : ℕ) (head : Head) (p : Context) (phrases : Phrases) → name_of head ≡ None → tree_phrase d at head p phrases ≡ operator_phrase at head p.indexes phrases
  unfolding name_of tree_phrase
  operator_tree at (Use word) p phrases e = absurd cc
  operator_tree at head p phrases e = refl

  module _ (expr : Expr) (scope : Scope) (way : Option ℕ) (plain : name_of (out-Expr expr).head ≡ None) where
    -- a binder is at fault
    pub operator_fails : (f : SpecFault) → operator_context d.names own (out-Expr expr).head (out-Expr expr).binders scope way ≡ Err f → phrase_of d own expr scope way ≡ Err f
    operator_fails f e =
        entered_fails expr scope way (out-Expr expr).head (out-Expr expr).binders (length (out-Expr expr).parts == 0) f refl refl refl (operator_place (out-Expr expr).head (out-Expr expr).binders _ scope way plain ∙ e)

    module _ (p : Context) (is : operator_context d.names own (out-Expr expr).head (out-Expr expr).binders scope way ≡ Ok p) where
      -- a part is at fault
      pub operands_fail : (f : SpecFault) → phrases_at p.scope p.way (map (phrase_of d own) (out-Expr expr).parts) ≡ Err f → phrase_of d own expr scope way ≡ Err f
      operands_fail f e =
          parts_fail expr scope way (out-Expr expr).head (out-Expr expr).binders (length (out-Expr expr).parts == 0) p (out-Expr expr).parts f refl refl refl
          (operator_place (out-Expr expr).head (out-Expr expr).binders _ scope way plain ∙ is) refl e

      -- a tree by what its parts say
      pub operator_says : (phrases : Phrases) → phrases_at p.scope p.way (map (phrase_of d own) (out-Expr expr).parts) ≡ Ok phrases
          → phrase_of d own expr scope way ≡ operator_phrase (out-Expr expr).at (out-Expr expr).head p.indexes phrases
      operator_says phrases e =
          phrase_is expr scope way (out-Expr expr).head (out-Expr expr).binders (length (out-Expr expr).parts == 0) p (out-Expr expr).parts phrases (out-Expr expr).at (out-Expr expr).head refl refl refl
          (operator_place (out-Expr expr).head (out-Expr expr).binders _ scope way plain ∙ is) refl e refl refl
          ∙ operator_tree (out-Expr expr).at (out-Expr expr).head p phrases plain

-- what was read without memory
pub gives_same : {A : Type 0} (read result : Judged A) → read ≡ result → Gives IsNoMemory (λ x. x) result read
gives_same read (Ok x) e = e
gives_same read (Err f) e = inr e

pub if_ok : {A : Type 0} {P : Type 0} (result : Judged A) → P → IfOk result (λ x. P)
if_ok (Ok x) h = h
if_ok (Err f) h = tt

-- what parts said before, before what they say now
abbrev pub phrases_after : Phrases → Judged Phrases → Judged Phrases
phrases_after front (Ok s) = Ok (record { terms = front.terms ++ s.terms; kinds = front.kinds ++ s.kinds; formulas = front.formulas ++ s.formulas })
phrases_after front (Err e) = Err e

regroup : (front : Phrases) (p : Phrase) (r : Judged Phrases) → phrases_after front (and_then r (λ ps. Ok (with_part p ps))) ≡ phrases_after (with_last front p) r
regroup front (Value t k) (Ok s) = simp append_assoc
regroup front (Truth q) (Ok s) = simp append_assoc
regroup front p (Err e) = refl

module _ {A : Type 0} (read : A → Judgement) (scope : Scope) (way : Option ℕ) where
  said_here : (xs : List A) (i : ℕ) (x : A) → i < length xs → x ≡ get_or xs i x
      → phrases_at scope way (map read (drop i xs)) ≡ and_then (read x scope way) (λ p. and_then (phrases_at scope way (map read (drop (i + 1) xs))) (λ ps. Ok (with_part p ps)))
  unfolding phrases_at
  said_here xs i x h e = ap (λ (ys : List A). phrases_at scope way (map read ys)) (drop-cons xs i x h) ∙ rw (← e, add-one) refl

  pub part_fails : (xs : List A) (i : ℕ) (x : A) (front : Phrases) (f : SpecFault) (whole : Judged Phrases) → i < length xs → x ≡ get_or xs i x → read x scope way ≡ Err f
      → phrases_after front (phrases_at scope way (map read (drop i xs))) ≡ whole → whole ≡ Err f
  part_fails xs i x front f whole h is fails so_far =
      let p : phrases_at scope way (map read (drop i xs)) ≡ Err f = rw (said_here xs i x h is, fails) refl in sym so_far ∙ ap (phrases_after front) p

  pub part_on : (xs : List A) (i : ℕ) (x : A) (front : Phrases) (s : Phrase) (whole : Judged Phrases) → i < length xs → x ≡ get_or xs i x → read x scope way ≡ Ok s
      → phrases_after front (phrases_at scope way (map read (drop i xs))) ≡ whole → phrases_after (with_last front s) (phrases_at scope way (map read (drop (i + 1) xs))) ≡ whole
  part_on xs i x front s whole h is ok so_far =
      let rest = phrases_at scope way (map read (drop (i + 1) xs)) in
      let p : phrases_at scope way (map read (drop i xs)) ≡ and_then rest (λ ps. Ok (with_part s ps)) = rw (said_here xs i x h is, ok) refl in
      sym (ap (phrases_after front) p ∙ regroup front s rest) ∙ so_far

  pub parts_end : (xs : List A) (i : ℕ) (front : Phrases) (whole : Judged Phrases) → length xs ≤ i → phrases_after front (phrases_at scope way (map read (drop i xs))) ≡ whole → whole ≡ Ok front
  unfolding phrases_at
  parts_end xs i front whole h so_far =
      sym so_far ∙ ap (λ (ys : List A). phrases_after front (phrases_at scope way (map read ys))) (drop_all i xs h) ∙ simp append-nil
