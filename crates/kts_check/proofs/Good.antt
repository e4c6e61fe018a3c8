-- What an expression says is well typed, and of the expression's size: one induction.
use Rattle.std.proofs.Common.{◌≡◌, refl, sym, ◌∙◌, subst, ℕ, suc, ◌+◌, ◌≤◌, ◌==◌, min, max, List, [], ◌∷◌, length, map, Bool, true, false, ◌&&◌, if◌then◌else◌, Option, None, Some, Ok, arith}
use Rattle.std.proofs.lemmas.Bool.Decides.{nat_tests}
use Rattle.std.proofs.lemmas.List.{length-map}
use Rattle.kts_spec.specs.declared.schema.Schema.{Schema}
use Rattle.kts_syntax.specs.Sizes.{trees, size_step, total, most, nest_step, expr_nest}
use Rattle.kts_syntax.specs.declared.expr.Expr.{Expr, roll-Expr}
use Rattle.kts_syntax.specs.declared.expr.Expr.TheOpen.{Expr-F}
use Rattle.kts_syntax.specs.declared.expr.Expr.TheFolds.{fold-roll-Expr, ind-Expr}
use Rattle.kts_syntax.specs.declared.head.Head.{Head}
use Rattle.kts_syntax.specs.declared.head.Head.TheVariants.{Add, Sub, Mul, Min, Max, Sum, Le, Lt, Ge, Gt, Eq, Ne, And, Or, Not, Implies, Forall, Exists, Number, Use}
use Rattle.kts_syntax.specs.declared.word.Word.{Word}
use Rattle.kts_check.specs.Declarations.{Declarations, entry_of}
use Rattle.kts_check.specs.Contexts.{operator_context, reference, Context, plain_context, context_of, reference_context}
use Rattle.kts_check.specs.Scopes.{Scope, variable}
use Rattle.kts_check.specs.Sound.{Extends, IsThere}
use Rattle.kts_check.specs.Trees.{operator_phrase, reference_phrase, phrase_of, phrases_at, tree_phrase, reference_of, with_part, no_phrases}
use Rattle.kts_check.specs.declared.entry.Entry.{Entry}
use Rattle.kts_check.specs.declared.entry.Entry.TheVariants as entry
use Rattle.kts_check.specs.declared.phrase.Phrases.{Phrases}
use Rattle.kts_check.specs.declared.phrase.Phrase.{Phrase}
use Rattle.kts_check.specs.declared.phrase.Phrase.TheVariants.{Value, Truth}
use Rattle.kts_check.proofs.GoodBinders.{is_bound, good_forall, good_exists, good_summed}
use Rattle.kts_check.proofs.GoodTrees.{good_number, good_variable, good_given, good_choice, good_sum, good_difference, good_product, good_least, good_greatest, good_and, good_or, good_not, good_implies, terms_small}
use Rattle.kts_check.proofs.Inversions.{ok_is, both_ok, usable_place}
use Rattle.kts_check.proofs.SizeLemmas.{within_more}
use Rattle.kts_check.proofs.TreeLemmas.{phrase_of-roll}
use Rattle.kts_check.proofs.WellTyped.{IsGood, AreGood, good_none, good_part, good_comparison}

module _ (schema : Schema) (d : Declarations) (own : List ℕ) (ext : Extends d schema) (there : (name : List ℕ) (e : Entry) → entry_of d.names name ≡ Some e → IsThere d e) where
  good_use : (scope : Scope) (way : Option ℕ) (n m at where_ : ℕ) (name : List ℕ) (alone : Bool) (o : Option (ℕ × ℕ)) (en : Option Entry) (p : Context) (phrases : Phrases) (s : Phrase) → variable scope name ≡ o
      → reference_context where_ alone o en scope ≡ Ok p → (plain_context scope None ≡ p → AreGood schema scope None n m phrases) → reference_of d at where_ o en phrases.terms phrases.kinds ≡ Ok s → IsGood schema scope way (suc n) (suc m) s
  unfolding reference_context reference_of reference reference_phrase
  good_use scope way n m at plain_context name alone (Some v) en p phrases s is e good u = subst (IsGood schema scope way (suc n) (suc m)) (ok_is _ s u) (good_variable schema scope way n m name v is)
  good_use scope way n m at plain_context name alone None None p phrases s is e good u = absurd cc
  good_use scope way n m at plain_context name alone None (Some (entry.Index i)) p phrases s is e good u = absurd cc
  good_use scope way n m at plain_context name alone None (Some entry.Formula) p phrases s is e good u = absurd cc
  good_use scope way n m at plain_context name alone None (Some (entry.Given f)) p phrases s is e good u =
      good_given schema scope way None n m at phrases s (good (ok_is _ p e)) f d.givens ext.more_givens ext.givens u
  good_use scope way n m at plain_context name alone None (Some (entry.Choice x)) p phrases s is e good u =
      good_choice schema scope way None n m at phrases s (good (ok_is _ p e)) x d.choices ext.more_choices ext.choices u

  module _ (scope : Scope) (way : Option ℕ) (p : Context) (n m at : ℕ) (phrases : Phrases) (s : Phrase) (bs : List (Word × Word × ℕ)) (alone : Bool) (good : AreGood schema p.scope p.way n m phrases) where
    plain : (inner : Option ℕ) → plain_context scope inner ≡ p → AreGood schema scope inner n m phrases
    plain inner same = subst (λ (q : Context). AreGood schema q.scope q.way n m phrases) (sym same) good

    abbrev Good : Type 0
    Good = IsGood schema scope way (suc n) (suc m) s

    good_combined : (head : Head) → context_of d.names own head bs alone scope way ≡ Ok p → tree_phrase d at head p phrases ≡ Ok s → Good
    unfolding context_of tree_phrase operator_context operator_phrase
    good_combined (Number z) e c = good_number schema scope way n m at z s c
    good_combined (Use word) e c =
        let same = usable_place word.at alone (variable scope word.name) (entry_of d.names word.name) scope p e in
        good_use scope way n m at word.at word.name alone (variable scope word.name) (entry_of d.names word.name) p phrases s refl e (plain None)
        (subst (λ (q : Context). reference_of d at word.at (variable q.scope word.name) (entry_of d.names word.name) phrases.terms phrases.kinds ≡ Ok s) (sym same) c)
    good_combined Add e c = good_sum schema scope way None n m at phrases s (plain None (ok_is _ p e)) c
    good_combined Sub e c = good_difference schema scope way None n m at phrases s (plain None (ok_is _ p e)) c
    good_combined Mul e c = good_product schema scope way None n m at phrases s (plain None (ok_is _ p e)) c
    good_combined Min e c = good_least schema scope way None n m at phrases s (plain None (ok_is _ p e)) c
    good_combined Max e c = good_greatest schema scope way None n m at phrases s (plain None (ok_is _ p e)) c
    good_combined Sum e c = good_summed schema d own ext there scope way None p n m at phrases s good (is_bound schema d own ext there scope None bs p e) c
    good_combined And e c = good_and schema scope way way n m at phrases s (plain way (ok_is _ p e)) refl c
    good_combined Or e c = good_or schema scope way None n m at phrases s (plain None (ok_is _ p e)) c
    good_combined Not e c = good_not schema scope way None n m at phrases s (plain None (ok_is _ p e)) c
    good_combined Implies e c = good_implies schema scope way None n m at phrases s (plain None (ok_is _ p e)) c
    good_combined Forall e c = good_forall schema d own ext there scope way way p n m at phrases s good (is_bound schema d own ext there scope way bs p e) refl c
    good_combined Exists e c = good_exists schema d own ext there scope way None p n m at phrases s good (is_bound schema d own ext there scope None bs p e) c
    good_combined Le e c = let g = plain None (ok_is _ p e) in good_comparison schema scope way n m at Le phrases.terms phrases.kinds s c g.kinds (terms_small schema scope way None n m at phrases s g)
    good_combined Lt e c = let g = plain None (ok_is _ p e) in good_comparison schema scope way n m at Lt phrases.terms phrases.kinds s c g.kinds (terms_small schema scope way None n m at phrases s g)
    good_combined Ge e c = let g = plain None (ok_is _ p e) in good_comparison schema scope way n m at Ge phrases.terms phrases.kinds s c g.kinds (terms_small schema scope way None n m at phrases s g)
    good_combined Gt e c = let g = plain None (ok_is _ p e) in good_comparison schema scope way n m at Gt phrases.terms phrases.kinds s c g.kinds (terms_small schema scope way None n m at phrases s g)
    good_combined Eq e c = let g = plain None (ok_is _ p e) in good_comparison schema scope way n m at Eq phrases.terms phrases.kinds s c g.kinds (terms_small schema scope way None n m at phrases s g)
    good_combined Ne e c = let g = plain None (ok_is _ p e) in good_comparison schema scope way n m at Ne phrases.terms phrases.kinds s c g.kinds (terms_small schema scope way None n m at phrases s g)

  -- ---- the induction

  abbrev IsWell : Expr → Type 0
  IsWell e = (scope : Scope) (way : Option ℕ) (s : Phrase) → phrase_of d own e scope way ≡ Ok s → IsGood schema scope way (trees e) (suc (expr_nest e)) s

  abbrev Part : Type 0
  Part = (e : Expr) × IsWell e

  abbrev exprs : List Part → List Expr
  exprs ps = map (λ p. p.0) ps

  good_more : (scope : Scope) (way : Option ℕ) (n m l : ℕ) (s : Phrase) → IsGood schema scope way n m s → m ≤ l → IsGood schema scope way n l s
  good_more scope way n m l (Value t k) g h = (g.0, within_more _ n m n l g.1 (omega arith) h)
  good_more scope way n m l (Truth p) g h = (g.0, g.1, within_more _ n m n l g.2 (omega arith) h)

  parts_good : (ps : List Part) (scope : Scope) (way : Option ℕ) (m : ℕ) (phrases : Phrases) → phrases_at scope way (map (phrase_of d own) (exprs ps)) ≡ Ok phrases → most (map expr_nest (exprs ps)) + min 1 (length ps) ≤ m
      → AreGood schema scope way (total (map trees (exprs ps))) m phrases
  unfolding phrases_at
  parts_good [] scope way m phrases e low = subst (AreGood schema scope way 0 m) (ok_is no_phrases phrases e) (good_none schema scope way m)
  parts_good (p ∷ ps) scope way m phrases e low =
      let one = both_ok (phrase_of d own p.0 scope way) _ phrases e in
      let others = both_ok (phrases_at scope way (map (phrase_of d own) (exprs ps))) _ phrases one.2 in
      subst (AreGood schema scope way (trees p.0 + total (map trees (exprs ps))) m) (ok_is (with_part one.0 others.0) phrases others.2)
      (good_part schema scope way (trees p.0) (total (map trees (exprs ps))) m one.0 others.0
      (good_more scope way (trees p.0) (suc (expr_nest p.0)) m one.0 (p.1 scope way one.0 one.1) (omega arith))
      (parts_good ps scope way m others.0 others.1 (omega arith)))

  nest_by : (b : Bool) (bs : List (Word × Word × ℕ)) (ps : List Part) → (length bs == 0 && length ps == 0) ≡ b → most (map expr_nest (exprs ps)) + min 1 (length ps) ≤ (if b then 0 else suc (max (min 1 (length bs)) (most (map expr_nest (exprs ps)))))
  nest_by false bs ps is = omega arith
  nest_by true bs [] is = omega arith
  nest_by true bs (p ∷ ps) is = absurd (grind (arith, nat_tests))

  abbrev expr_with : Expr-F Part → Expr-F Expr
  expr_with y = record { at = y.at; head = y.head; binders = y.binders; parts = exprs y.parts }

  trees-roll : (x : Expr-F Expr) → trees (roll-Expr x) ≡ suc (total (map trees x.parts))
  unfolding trees
  trees-roll x = fold-roll-Expr ℕ size_step x

  nest-roll : (x : Expr-F Expr) → expr_nest (roll-Expr x) ≡ (if length x.binders == 0 && length x.parts == 0 then 0 else suc (max (min 1 (length x.binders)) (most (map expr_nest x.parts))))
  unfolding expr_nest
  nest-roll x = fold-roll-Expr ℕ nest_step x ∙ rw (length-map x.parts expr_nest) refl

  well_step : (y : Expr-F Part) → IsWell (roll-Expr (expr_with y))
  well_step y scope way s e =
      let x = expr_with y in
      let in_place = both_ok (context_of d.names own x.head x.binders (length x.parts == 0) scope way) _ s (sym (phrase_of-roll d own x scope way) ∙ e) in
      let p = in_place.0 in
      let parts = both_ok (phrases_at p.scope p.way (map (phrase_of d own) x.parts)) _ s in_place.2 in
      let size = length-map y.parts (λ (q : Part). q.0) in
      let low : most (map expr_nest (exprs y.parts)) + min 1 (length y.parts) ≤ expr_nest (roll-Expr x) = rw (nest-roll x, size) (nest_by (length y.binders == 0 && length y.parts == 0) y.binders y.parts refl) in
      subst (λ (k : ℕ). IsGood schema scope way k (suc (expr_nest (roll-Expr x))) s) (sym (trees-roll x))
      (good_combined scope way p (total (map trees (exprs y.parts))) (expr_nest (roll-Expr x)) x.at parts.0 s x.binders (length x.parts == 0)
      (parts_good y.parts p.scope p.way (expr_nest (roll-Expr x)) parts.0 parts.1 low) x.head in_place.1 parts.2)

  -- what an expression says is well typed
  pub well : (e : Expr) (scope : Scope) (way : Option ℕ) (s : Phrase) → phrase_of d own e scope way ≡ Ok s → IsGood schema scope way (trees e) (suc (expr_nest e)) s
  well = ind-Expr IsWell (λ x y is. subst (λ z. IsWell (roll-Expr z)) is (well_step y))
