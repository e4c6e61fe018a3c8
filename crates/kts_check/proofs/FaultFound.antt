-- The first fault that the checker finds in an expression that may be written is the one that the rules of faults give.
use Rattle.std.proofs.Common.{◌≡◌, refl, sym, ◌∙◌, ap, subst, ℕ, zero, suc, ◌+◌, ◌<◌, ◌≤◌, ℤ, slice_get, List, [], ◌∷◌, ◌++◌, length, map, Bool, true, false, ◌&&◌, Option, None, Some, Ok, Err, nat_le, inl, inr, arith}
use Rattle.std.specs.Prelude.{◌==◌}
use Rattle.std.proofs.lemmas.Bool.{and_parts}
use Rattle.std.proofs.lemmas.Bool.Decides.{nat_tests}
use Rattle.std.proofs.lemmas.Int.{ints}
use Rattle.std.proofs.lemmas.List.{length-map}
use Rattle.kts_base.specs.Reads.{and_then}
use Rattle.kts_spec.specs.Ranges.{one_number, difference_range, product_range, least_range, greatest_range}
use Rattle.kts_base.specs.Limits.{most_parts}
use Rattle.kts_spec.specs.declared.tree.Formula.{Formula}
use Rattle.kts_spec.specs.declared.tree.Formula.TheVariants as formula
use Rattle.kts_spec.specs.declared.tree.Term.TheVariants as term
use Rattle.kts_spec.specs.declared.declarations.Family.{Family}
use Rattle.kts_syntax.specs.Fitting.{has_role, head_fits, is_small as is_small_number, is_empty, is_binder, binder_fits, exprs_fit, parts_fit, expr_fits}
use Rattle.kts_syntax.specs.Heads.{has_parts, layout_of, role_in, layout_after}
use Rattle.kts_syntax.specs.Sizes.{trees, size_step, total as total_trees}
use Rattle.kts_syntax.specs.declared.expr.Expr.{Expr, roll-Expr}
use Rattle.kts_syntax.specs.declared.expr.Expr.TheOpen.{Expr-F}
use Rattle.kts_syntax.specs.declared.expr.Expr.TheFolds.{ind-Expr, fold_out-Expr, fold-roll-Expr}
use Rattle.kts_syntax.specs.declared.head.Head.{Head}
use Rattle.kts_syntax.specs.declared.head.Head.TheVariants.{Add, Sub, Mul, Min, Max, Sum, Le, Lt, Ge, Gt, Eq, Ne, And, Or, Not, Implies, Forall, Exists, Number, Use}
use Rattle.kts_syntax.specs.declared.layout.Layout.{Layout}
use Rattle.kts_syntax.specs.declared.layout.Layout.TheVariants.{Terms, Formulas, Summed, Filtered, Quantified}
use Rattle.kts_syntax.specs.declared.layout.Role.{Role}
use Rattle.kts_syntax.specs.declared.layout.Role.TheVariants as role
use Rattle.kts_syntax.specs.declared.word.Word.{Word}
use Rattle.kts_syntax.proofs.Fits.{expr_fits-roll, expr_fits-out}
use Rattle.kts_check.specs.Faults.{Judged}
use Rattle.kts_check.specs.Faulty.{along, IsNoName, BindsVariables, IsArithmetic, HasRange, IsOrder, IsEquality, UseFault, StandsFor, IsWellTyped, RuleFault, FaultIn, FaultAmong}
use Rattle.kts_check.specs.Declarations.{Declarations, entry_of}
use Rattle.kts_check.specs.Contexts.{operator_context, reference, Context, plain_context, reference_context, bind, context_of}
use Rattle.kts_check.specs.Rules.{Binder, written, Way, past, IsLimited, HasLimitedEnds, Binds, AreFormulas, no_formula}
use Rattle.kts_check.specs.Scopes.{Scope, variable}
use Rattle.kts_check.specs.Sound.{IsThere}
use Rattle.kts_check.specs.Trees.{operator_phrase, reference_phrase, phrase_of, phrases_at, with_part, no_phrases, binder_body, reference_of, tree_phrase}
use Rattle.kts_check.specs.declared.entry.Entry.{Entry}
use Rattle.kts_check.specs.declared.entry.Entry.TheVariants as entry
use Rattle.kts_check.specs.Faults.{SpecFault}
use Rattle.kts_check.specs.declared.phrase.Phrases.{Phrases}
use Rattle.kts_check.specs.declared.phrase.Phrase.{Phrase}
use Rattle.kts_check.specs.declared.phrase.Phrase.TheVariants.{Value, Truth}
use Rattle.kts_check.proofs.Inversions.{ok_is, both_ok, some_is}
use Rattle.kts_check.proofs.FaultBinders.{err_is}
use Rattle.kts_base.proofs.Orders.{nat_le_yes}
use Rattle.kts_check.proofs.FaultKept.{stands_used}
use Rattle.kts_check.proofs.FaultNames.{either, bind_found}
use Rattle.kts_check.proofs.FaultParts.{measured_found, access_found, plus_found, operation_found, sum_found, order_found, equality_found, no_many, no_not, no_implies, no_body}
use Rattle.kts_check.proofs.RuleBinders.{after, binds_if}
use Rattle.kts_check.proofs.RuleFound.{found_if, terms_bare, formulas_bare, quantified, one_said, two_said}
use Rattle.kts_check.proofs.RuleParts.{Follows, AreTerms, no_term, term_more, formula_more}
use Rattle.kts_check.proofs.RuleTests.{variable_if, unbound_if}
use Rattle.kts_check.proofs.TreeLemmas.{phrase_of-roll}

-- ---- what fits

-- an expression stands after binders
some_body : (bs : List Binder) → 1 ≤ length bs → parts_fit Quantified bs [] ≡ true → ⊥
unfolding role_in layout_after
some_body [] n e = omega arith
some_body (b ∷ []) n e = cc
some_body (b ∷ c ∷ bs) n e = some_body (c ∷ bs) (omega arith) (and_parts (is_binder (role_in Quantified false) && binder_fits b) (parts_fit Quantified (c ∷ bs) []) e).1

-- no expression is a binder
no_binder : (e : Expr) → expr_fits e role.Binder ≡ true → ⊥
unfolding has_role
no_binder e fit = let no : expr_fits e role.Binder ≡ false = expr_fits-out e role.Binder in cc

small_number : (n : ℤ) → is_small_number n ≡ true → IsLimited n
small_number n e = record { low = grind (arith, ints, nat_tests); high = grind (arith, ints, nat_tests) }

-- ---- sizes

size-roll : (x : Expr-F Expr) → trees (roll-Expr x) ≡ suc (total_trees (map trees x.parts))
unfolding trees
size-roll x = fold-roll-Expr ℕ size_step x

some_trees : (e : Expr) → 1 ≤ trees e
unfolding trees
some_trees e = let same = fold_out-Expr ℕ size_step e in omega arith

few_parts : (es : List Expr) → length es ≤ total_trees (map trees es)
few_parts [] = omega arith
few_parts (e ∷ es) = let one = some_trees e in let more = few_parts es in omega arith

-- a number of a list below its length is one of an item
pub beyond : {A : Type 0} (xs : List A) (n : ℕ) → n < length xs → slice_get xs n ≡ None → ⊥
beyond [] n low e = omega arith
beyond (x ∷ xs) zero low e = cc
beyond (x ∷ xs) (suc n) low e = beyond xs n (omega arith) e

module _ (d : Declarations) (there : (name : List ℕ) (e : Entry) → entry_of d.names name ≡ Some e → IsThere d e) (own : List ℕ) where
  -- the fault that the checker finds in an expression that may have a role, and isn't too large, is that of the rules
  abbrev Claim : Expr → Type 0
  Claim e = (r : Role) (scope : Scope) (way : Way) (f : SpecFault) → expr_fits e r ≡ true → trees e ≤ 1000 → phrase_of d own e scope way ≡ Err f → FaultIn d own scope way e f

  abbrev Part : Type 0
  Part = (e : Expr) × Claim e

  abbrev exprs : List Part → List Expr
  exprs ps = map (λ (p : Part). p.0) ps

  abbrev fits : List Part → List (Role → Bool)
  fits ps = map expr_fits (exprs ps)

  abbrev size : List Part → ℕ
  size ps = total_trees (map trees (exprs ps))

  -- ---- parts

  typed_of : (r : Role) (scope : Scope) (way : Way) (e : Expr) (s : Phrase) → Follows d own r scope way e s → IsWellTyped d own scope way e
  typed_of role.Binder scope way e s h = absurd h
  typed_of role.Term scope way e (Value t k) h = IsWellTyped.term h
  typed_of role.Term scope way e (Truth p) h = absurd h
  typed_of role.Formula scope way e (Value t k) h = absurd h
  typed_of role.Formula scope way e (Truth p) h = IsWellTyped.formula h

  parts_found : (layout : Layout) (ps : List Part) (scope : Scope) (way : Way) (f : SpecFault) → exprs_fit layout (fits ps) ≡ true → size ps ≤ 1000 → phrases_at scope way (map (phrase_of d own) (exprs ps)) ≡ Err f → FaultAmong d own scope way (exprs ps) f
  unfolding phrases_at
  parts_found layout [] scope way f fit low e = absurd cc
  parts_found layout (p ∷ ps) scope way f fit low e =
      let fitting = and_parts (expr_fits p.0 (role_in layout (is_empty (fits ps)))) (exprs_fit (layout_after layout) (fits ps)) fit in
      elim (either (phrase_of d own p.0 scope way) _ f e) [
        | inl here ↦ FaultAmong.first (p.1 (role_in layout (is_empty (fits ps))) scope way f fitting.0 (omega arith) here)
        | inr one ↦ FaultAmong.later (typed_of (role_in layout (is_empty (fits ps))) scope way p.0 one.0 (found_if d own p.0 (role_in layout (is_empty (fits ps))) scope way one.0 fitting.0 one.1))
            (elim (either (phrases_at scope way (map (phrase_of d own) (exprs ps))) _ f one.2) [
              | inl later ↦ parts_found (layout_after layout) ps scope way f fitting.1 (omega arith) later
              | inr all ↦ absurd (let h = all.2 in cc)
            ])
      ]

  terms_said : (es : List Expr) (scope : Scope) (way : Way) (phrases : Phrases) → exprs_fit Terms (map expr_fits es) ≡ true → phrases_at scope way (map (phrase_of d own) es) ≡ Ok phrases → AreTerms d own scope es phrases.terms phrases.kinds
  unfolding phrases_at role_in layout_after
  terms_said [] scope way phrases f e = subst (λ (x : Phrases). AreTerms d own scope [] x.terms x.kinds) (ok_is no_phrases phrases e) no_term
  terms_said (x ∷ es) scope way phrases f e =
      let fit = and_parts (expr_fits x role.Term) (exprs_fit Terms (map expr_fits es)) f in
      let one = both_ok (phrase_of d own x scope way) _ phrases e in
      let others = both_ok (phrases_at scope way (map (phrase_of d own) es)) _ phrases one.2 in
      subst (λ (y : Phrases). AreTerms d own scope (x ∷ es) y.terms y.kinds) (ok_is (with_part one.0 others.0) phrases others.2)
      (term_more d own scope way x es one.0 others.0 (found_if d own x role.Term scope way one.0 fit.0 one.1) (terms_said es scope way others.0 fit.1 others.1))

  formulas_said : (es : List Expr) (scope : Scope) (way : Way) (phrases : Phrases) → exprs_fit Formulas (map expr_fits es) ≡ true → phrases_at scope way (map (phrase_of d own) es) ≡ Ok phrases → AreFormulas d own scope way es phrases.formulas
  unfolding phrases_at role_in layout_after
  formulas_said [] scope way phrases f e = subst (λ (x : Phrases). AreFormulas d own scope way [] x.formulas) (ok_is no_phrases phrases e) no_formula
  formulas_said (x ∷ es) scope way phrases f e =
      let fit = and_parts (expr_fits x role.Formula) (exprs_fit Formulas (map expr_fits es)) f in
      let one = both_ok (phrase_of d own x scope way) _ phrases e in
      let others = both_ok (phrases_at scope way (map (phrase_of d own) es)) _ phrases one.2 in
      subst (λ (y : Phrases). AreFormulas d own scope way (x ∷ es) y.formulas) (ok_is (with_part one.0 others.0) phrases others.2)
      (formula_more d own scope way x es one.0 others.0 (found_if d own x role.Formula scope way one.0 fit.0 one.1) (formulas_said es scope way others.0 fit.1 others.1))

  at_least : (ps : List Part) → nat_le 2 (0 + length ps) ≡ true → 2 ≤ length (exprs ps)
  at_least ps n = let h = nat_le_yes 2 (0 + length ps) n in let same = length-map ps (λ (p : Part). p.0) in omega arith

  yes_nat_le : (ps : List Part) → size ps ≤ 999 → length (exprs ps) ≤ most_parts
  yes_nat_le ps low = let few = few_parts (exprs ps) in omega arith

  exactly : (ps : List Part) (k : ℕ) → (0 + length ps == k) ≡ true → length (exprs ps) ≡ k
  exactly ps k n = let same = length-map ps (λ (p : Part). p.0) in let count : 0 + length ps ≡ k = grind (arith, nat_tests) in omega arith

  binds_count : {scope : Scope} {way : Way} {bs : List Binder} {variables : Scope} → Binds d own scope way bs variables → length variables ≡ length bs
  binds_count Binds.no_binder = refl
  binds_count (Binds.binder h j few room more) = ap suc (binds_count more)

  -- ---- names

  -- a name that is used, as it was judged
  data UseIs (scope : Scope) (word : Word) (es : List Expr) : Judged Context → Type 0 where
    bad : {f : SpecFault} → UseFault d scope word es f → UseIs scope word es (Err f)
    variable_alone : {v : ℕ × ℕ} → es ≡ [] → variable scope word.name ≡ Some v → UseIs scope word es (Ok (plain_context scope None))
    of_family : {family : Family} → StandsFor d scope word.name family → UseIs scope word es (Ok (plain_context scope None))

  given_there : (scope : Scope) (word : Word) (es : List Expr) (g : ℕ) → variable scope word.name ≡ None → entry_of d.names word.name ≡ Some (entry.Given g) → (o : Option Family) → slice_get d.givens g ≡ o → UseIs scope word es (Ok (plain_context scope None))
  given_there scope word es g v n (Some family) found = of_family (StandsFor.given (unbound_if scope word.name 0 v) n found)
  given_there scope word es g v n None found = let low = there word.name (entry.Given g) n in absurd (beyond d.givens g low found)

  choice_there : (scope : Scope) (word : Word) (es : List Expr) (g : ℕ) → variable scope word.name ≡ None → entry_of d.names word.name ≡ Some (entry.Choice g) → (o : Option Family) → slice_get d.choices g ≡ o → UseIs scope word es (Ok (plain_context scope None))
  choice_there scope word es g v n (Some family) found = of_family (StandsFor.choice (unbound_if scope word.name 0 v) n found)
  choice_there scope word es g v n None found = let low = there word.name (entry.Choice g) n in absurd (beyond d.choices g low found)

  use_is : (scope : Scope) (word : Word) (es : List Expr) (o : Option (ℕ × ℕ)) (en : Option Entry) → variable scope word.name ≡ o → entry_of d.names word.name ≡ en → UseIs scope word es (reference_context word.at (length es == 0) o en scope)
  unfolding reference_context reference
  use_is scope word [] (Some v) en is n = variable_alone refl is
  use_is scope word (x ∷ es) (Some (k, i)) en is n =
      let some : (length (x ∷ es) == 0) ≡ false = grind (arith, nat_tests) in rw some (bad (UseFault.variable (variable_if scope word.name 0 k i is).2))
  use_is scope word es None None v n = bad (UseFault.unknown (unbound_if scope word.name 0 v) n)
  use_is scope word es None (Some (entry.Index i)) v n = bad (UseFault.index (unbound_if scope word.name 0 v) n)
  use_is scope word es None (Some entry.Formula) v n = bad (UseFault.formula (unbound_if scope word.name 0 v) n)
  use_is scope word es None (Some (entry.Given g)) v n = given_there scope word es g v n (slice_get d.givens g) refl
  use_is scope word es None (Some (entry.Choice x)) v n = choice_there scope word es x v n (slice_get d.choices x) refl

  module _ (scope : Scope) (way : Way) (at : ℕ) (f : SpecFault) where
    -- a tree is found to fail, by its head, its binders and its parts
    abbrev Fails : Head → List Binder → List Expr → Type 0
    Fails head bs es = and_then (context_of d.names own head bs (length es == 0) scope way) (λ p. and_then (phrases_at p.scope p.way (map (phrase_of d own) es)) (tree_phrase d at head p)) ≡ Err f

    abbrev Found : Head → List Binder → List Expr → Type 0
    Found head bs es = FaultIn d own scope way (written at head bs es) f

    alone_fails : (word : Word) (es : List Expr) (v : ℕ × ℕ) → es ≡ [] → variable scope word.name ≡ Some v → and_then (phrases_at scope None (map (phrase_of d own) es)) (tree_phrase d at (Use word) (plain_context scope None)) ≡ Err f → ⊥
    unfolding phrases_at tree_phrase reference_of reference reference_phrase operator_phrase
    alone_fails word [] v none is e = let h = rw is at e in cc
    alone_fails word (x ∷ es) v none is e = cc

    use_found : (word : Word) (ps : List Part) → exprs_fit Terms (fits ps) ≡ true → size ps ≤ 1000 → Fails (Use word) [] (exprs ps) → Found (Use word) [] (exprs ps)
    unfolding context_of tree_phrase operator_context operator_phrase
    use_found word ps fit low e =
        by (reference_context word.at (length es == 0) (variable scope word.name) (entry_of d.names word.name) scope) (use_is scope word es (variable scope word.name) (entry_of d.names word.name) refl refl) e
      where
        es : List Expr
        es = exprs ps

        by : (r : Judged Context) → UseIs scope word es r → and_then r (λ p. and_then (phrases_at p.scope p.way (map (phrase_of d own) es)) (tree_phrase d at (Use word) p)) ≡ Err f → Found (Use word) [] es
        by _ (bad {f = g} h) e = FaultIn.name at word (subst (UseFault d scope word es) (err_is {A = Phrase} g f e) h)
        by _ (variable_alone {v = v} none is) e = absurd (alone_fails word es v none is e)
        by _ (of_family {family = family} stands) e =
            elim (either (phrases_at scope None (map (phrase_of d own) es)) _ f e) [
              | inl parts ↦ FaultIn.argument at word stands (parts_found Terms ps scope None f fit low parts)
              | inr all ↦
                  let u = stands_used d own stands at word.at all.0.terms all.0.kinds in
                  FaultIn.tree (access_found d own scope at f word family es u.0 all.0.terms all.0.kinds stands (terms_said es scope None all.0 fit all.1) (sym u.1 ∙ all.2))
            ]

    -- a tree without binders: a part has a fault, or the tree
    parts_or_tree : (head : Head) (layout : Layout) (ps : List Part) (k : Phrases → Judged Phrase) → IsNoName head → exprs_fit layout (fits ps) ≡ true → size ps ≤ 1000
        → ((phrases : Phrases) → phrases_at scope (along head way) (map (phrase_of d own) (exprs ps)) ≡ Ok phrases → k phrases ≡ Err f → RuleFault d own scope (written at head [] (exprs ps)) f)
        → and_then (phrases_at scope (along head way) (map (phrase_of d own) (exprs ps))) k ≡ Err f → Found head [] (exprs ps)
    parts_or_tree head layout ps k word fit low tree e =
        elim (either (phrases_at scope (along head way) (map (phrase_of d own) (exprs ps))) k f e) [
          | inl parts ↦ FaultIn.part at word (parts_found layout ps scope (along head way) f fit low parts)
          | inr all ↦ FaultIn.tree (tree all.0 all.1 all.2)
        ]

    -- a tree with binders: a binder has a fault, or a part, or the tree
    binders_or_parts : (head : Head) (layout : Layout) (bs : List Binder) (ps : List Part) (k : Context → Phrases → Judged Phrase) → BindsVariables head → exprs_fit layout (fits ps) ≡ true → size ps ≤ 1000
        → ((variables : Scope) (phrases : Phrases) → Binds d own scope (along head way) bs variables → phrases_at (scope ++ variables) (past (along head way) (length variables)) (map (phrase_of d own) (exprs ps)) ≡ Ok phrases
        → k (after d own (plain_context scope (along head way)) variables) phrases ≡ Err f → RuleFault d own scope (written at head bs (exprs ps)) f)
        → and_then (bind d.names own (plain_context scope (along head way)) bs) (λ p. and_then (phrases_at p.scope p.way (map (phrase_of d own) (exprs ps))) (k p)) ≡ Err f → Found head bs (exprs ps)
    binders_or_parts head layout bs ps k binds fit low tree e =
        elim (either (bind d.names own (plain_context scope (along head way)) bs) _ f e) [
          | inl wrong ↦ FaultIn.binder at (exprs ps) binds (bind_found d own (plain_context scope (along head way)) bs f wrong)
          | inr p ↦
              let b = binds_if d own (plain_context scope (along head way)) bs p.0 p.1 in
              let inside : and_then (phrases_at (scope ++ b.0) (past (along head way) (length b.0)) (map (phrase_of d own) (exprs ps))) (k (after d own (plain_context scope (along head way)) b.0)) ≡ Err f =
              subst (λ (q : Context). and_then (phrases_at q.scope q.way (map (phrase_of d own) (exprs ps))) (k q) ≡ Err f) (sym b.2) p.2 in
              elim (either (phrases_at (scope ++ b.0) (past (along head way) (length b.0)) (map (phrase_of d own) (exprs ps))) _ f inside) [
                | inl parts ↦ FaultIn.bound_part at binds b.1 (parts_found layout ps (scope ++ b.0) (past (along head way) (length b.0)) f fit low parts)
                | inr all ↦ FaultIn.tree (tree b.0 all.0 b.1 all.1 all.2)
              ]
        ]

    number_found : (n : ℤ) (ps : List Part) → ((0 + length ps == 0) && is_small_number n) ≡ true → Fails (Number n) [] (exprs ps) → Found (Number n) [] (exprs ps)
    unfolding context_of tree_phrase phrases_at operator_context operator_phrase
    number_found n [] fit e =
        let small = small_number n (and_parts (0 + length ps_none == 0) (is_small_number n) fit).1 in
        measured_found at (term.Number n) (Some (one_number n)) f (λ g. FaultIn d own scope way (written at (Number n) [] []) g) e (λ none. absurd cc)
        (λ w is wide. absurd (wide (subst HasLimitedEnds (some_is (one_number n) w is) (record { least = small; greatest = small }))))
      where
        ps_none : List Part
        ps_none = []
    number_found n (p ∷ ps) fit e = let none = and_parts (0 + length (p ∷ ps) == 0) (is_small_number n) fit in absurd (let h = none.0 in grind (arith, nat_tests))

    sum_tree : (b : Binder) (x y : Expr) (variables : Scope) (phrases : Phrases) → Binds d own scope None (b ∷ []) variables → expr_fits x role.Formula ≡ true → expr_fits y role.Term ≡ true
        → phrases_at (scope ++ variables) None (phrase_of d own x ∷ phrase_of d own y ∷ []) ≡ Ok phrases → tree_phrase d at Sum (after d own (plain_context scope None) variables) phrases ≡ Err f → RuleFault d own scope (written at Sum (b ∷ []) (x ∷ y ∷ [])) f
    unfolding tree_phrase operator_phrase
    sum_tree b x y variables phrases binds p t all e =
        let two = two_said d own x y (scope ++ variables) None phrases all in
        sum_found d own scope at f b x y variables two.0 two.1 binds (found_if d own x role.Formula (scope ++ variables) None two.0 p two.2) (found_if d own y role.Term (scope ++ variables) None two.1 t two.3)
        (subst (λ (z : Phrases). tree_phrase d at Sum (after d own (plain_context scope None) variables) z ≡ Err f) (sym two.4) e)

    sum_by : (bs : List Binder) (ps : List Part) → head_fits Sum (length bs + length ps) ≡ true → parts_fit Summed bs (fits ps) ≡ true → size ps ≤ 1000 → Fails Sum bs (exprs ps) → Found Sum bs (exprs ps)
    unfolding context_of head_fits has_parts role_in layout_after operator_context
    sum_by [] [] n fit low e = absurd cc
    sum_by [] (x ∷ ps) n fit low e = absurd (no_front x ps fit)
      where
        no_front : (x : Part) (ps : List Part) → exprs_fit Summed (fits (x ∷ ps)) ≡ true → ⊥
        no_front x ps fit =
            let first = and_parts (expr_fits x.0 role.Binder) (exprs_fit Filtered (fits ps)) fit in no_binder x.0 first.0
    sum_by (b ∷ c ∷ bs) ps n fit low e = let more = and_parts _ (parts_fit Filtered (c ∷ bs) (fits ps)) fit in absurd (let h = more.1 in cc)
    sum_by (b ∷ []) [] n fit low e = absurd cc
    sum_by (b ∷ []) (x ∷ []) n fit low e = absurd cc
    sum_by (b ∷ []) (x ∷ y ∷ (z ∷ ps)) n fit low e = absurd (grind (arith, nat_tests))
    sum_by (b ∷ []) (x ∷ y ∷ []) n fit low e =
        let fitting = and_parts _ (expr_fits x.0 role.Formula && (expr_fits y.0 role.Term && true)) fit in
        let first = and_parts (expr_fits x.0 role.Formula) (expr_fits y.0 role.Term && true) fitting.1 in
        let second = and_parts (expr_fits y.0 role.Term) true first.1 in
        binders_or_parts Sum Filtered (b ∷ []) (x ∷ y ∷ []) (tree_phrase d at Sum) BindsVariables.sum fitting.1 low
        (λ variables phrases binds all own_fault. sum_tree b x.0 y.0 variables phrases binds first.0 second.0 all own_fault) e

    -- one formula stands after the binders of a quantifier, of which there is one at least
    no_quantifier : (head : Head) (make : List ℕ → Formula → Phrase) (bs : List Binder) (ps : List Part) → 2 ≤ length bs + length ps → parts_fit Quantified bs (fits ps) ≡ true
        → (variables : Scope) (phrases : Phrases) → Binds d own scope (along head way) bs variables
        → phrases_at (scope ++ variables) (past (along head way) (length variables)) (map (phrase_of d own) (exprs ps)) ≡ Ok phrases
        → (let is = map (λ (v : List ℕ × ℕ). v.1) variables in and_then (binder_body at is phrases.formulas) (λ q. Ok (make is q)) ≡ Err f) → ⊥
    unfolding role_in
    no_quantifier head make bs [] n fit variables phrases binds all e = some_body bs (omega arith) fit
    no_quantifier head make bs (x ∷ y ∷ ps) n fit variables phrases binds all e =
        let fitting = and_parts (expr_fits x.0 role.Binder) _ (quantified bs (fits (x ∷ y ∷ ps)) fit) in no_binder x.0 fitting.0
    no_quantifier head make bs (x ∷ []) n fit variables phrases binds all e =
        let fitting = and_parts (expr_fits x.0 role.Formula) true (quantified bs (fits (x ∷ [])) fit) in
        let inside = scope ++ variables in
        let inner = past (along head way) (length variables) in
        let one = one_said d own x.0 inside inner phrases all in
        let is = map (λ (v : List ℕ × ℕ). v.1) variables in
        let count : 1 ≤ length is = (let a = length-map variables (λ (v : List ℕ × ℕ). v.1) in let b = binds_count binds in omega arith) in
        no_body d own scope at f is inside inner x.0 (make is) one.0 count (found_if d own x.0 role.Formula inside inner one.0 fitting.0 one.1)
        (subst (λ (z : Phrases). and_then (binder_body at is z.formulas) (λ q. Ok (make is q)) ≡ Err f) (sym one.2) e)

    body_found : (head : Head) (make : List ℕ → Formula → Phrase) (bs : List Binder) (ps : List Part) → BindsVariables head → 2 ≤ length bs + length ps → parts_fit Quantified bs (fits ps) ≡ true → size ps ≤ 1000
        → and_then (bind d.names own (plain_context scope (along head way)) bs) (λ p. and_then (phrases_at p.scope p.way (map (phrase_of d own) (exprs ps))) (λ phrases. and_then (binder_body at p.indexes phrases.formulas) (λ q. Ok (make p.indexes q)))) ≡ Err f
        → Found head bs (exprs ps)
    body_found head make bs ps binds n fit low e =
        binders_or_parts head Quantified bs ps (λ p phrases. and_then (binder_body at p.indexes phrases.formulas) (λ q. Ok (make p.indexes q))) binds (quantified bs (fits ps) fit) low
        (λ variables phrases binder_index all own_fault. absurd (no_quantifier head make bs ps n fit variables phrases binder_index all own_fault)) e

    -- a tree, by its head
    found_by : (head : Head) (bs : List Binder) (ps : List Part) → head_fits head (length bs + length ps) ≡ true → parts_fit (layout_of head) bs (fits ps) ≡ true → size ps ≤ 999 → Fails head bs (exprs ps) → Found head bs (exprs ps)
    unfolding layout_of context_of tree_phrase head_fits has_parts operator_context operator_phrase
    found_by Add bs ps n fit low e =
        terms_bare (λ l. nat_le 2 (length l + length ps) ≡ true → Found Add l (exprs ps)) bs (fits ps) fit
        (λ g n. parts_or_tree Add Terms ps (tree_phrase d at Add (plain_context scope None)) (λ word e. cc) g (omega arith)
        (λ phrases all own_fault. plus_found d own scope at f (exprs ps) phrases.terms phrases.kinds (terms_said (exprs ps) scope None phrases g all) (at_least ps n) (yes_nat_le ps low) own_fault) e) n
    found_by Sub bs ps n fit low e =
        terms_bare (λ l. (length l + length ps == 2) ≡ true → Found Sub l (exprs ps)) bs (fits ps) fit
        (λ g n. parts_or_tree Sub Terms ps (tree_phrase d at Sub (plain_context scope None)) (λ word e. cc) g (omega arith)
        (λ phrases all own_fault. operation_found d own scope at f Sub term.Sub difference_range IsArithmetic.minus (λ v w. HasRange.minus) (terms_said (exprs ps) scope None phrases g all) (exactly ps 2 n) own_fault) e) n
    found_by Mul bs ps n fit low e =
        terms_bare (λ l. (length l + length ps == 2) ≡ true → Found Mul l (exprs ps)) bs (fits ps) fit
        (λ g n. parts_or_tree Mul Terms ps (tree_phrase d at Mul (plain_context scope None)) (λ word e. cc) g (omega arith)
        (λ phrases all own_fault. operation_found d own scope at f Mul term.Mul product_range IsArithmetic.times (λ v w. HasRange.times) (terms_said (exprs ps) scope None phrases g all) (exactly ps 2 n) own_fault) e) n
    found_by Min bs ps n fit low e =
        terms_bare (λ l. (length l + length ps == 2) ≡ true → Found Min l (exprs ps)) bs (fits ps) fit
        (λ g n. parts_or_tree Min Terms ps (tree_phrase d at Min (plain_context scope None)) (λ word e. cc) g (omega arith)
        (λ phrases all own_fault. operation_found d own scope at f Min term.Min least_range IsArithmetic.lesser (λ v w. HasRange.lesser) (terms_said (exprs ps) scope None phrases g all) (exactly ps 2 n) own_fault) e) n
    found_by Max bs ps n fit low e =
        terms_bare (λ l. (length l + length ps == 2) ≡ true → Found Max l (exprs ps)) bs (fits ps) fit
        (λ g n. parts_or_tree Max Terms ps (tree_phrase d at Max (plain_context scope None)) (λ word e. cc) g (omega arith)
        (λ phrases all own_fault. operation_found d own scope at f Max term.Max greatest_range IsArithmetic.greater (λ v w. HasRange.greater) (terms_said (exprs ps) scope None phrases g all) (exactly ps 2 n) own_fault) e) n
    found_by Sum bs ps n fit low e = sum_by bs ps n fit (omega arith) e
    found_by Le bs ps n fit low e =
        terms_bare (λ l. (length l + length ps == 2) ≡ true → Found Le l (exprs ps)) bs (fits ps) fit
        (λ g n. parts_or_tree Le Terms ps (tree_phrase d at Le (plain_context scope None)) (λ word e. cc) g (omega arith)
        (λ phrases all own_fault. order_found d own scope at f Le IsOrder.le (terms_said (exprs ps) scope None phrases g all) (exactly ps 2 n) own_fault) e) n
    found_by Lt bs ps n fit low e =
        terms_bare (λ l. (length l + length ps == 2) ≡ true → Found Lt l (exprs ps)) bs (fits ps) fit
        (λ g n. parts_or_tree Lt Terms ps (tree_phrase d at Lt (plain_context scope None)) (λ word e. cc) g (omega arith)
        (λ phrases all own_fault. order_found d own scope at f Lt IsOrder.lt (terms_said (exprs ps) scope None phrases g all) (exactly ps 2 n) own_fault) e) n
    found_by Ge bs ps n fit low e =
        terms_bare (λ l. (length l + length ps == 2) ≡ true → Found Ge l (exprs ps)) bs (fits ps) fit
        (λ g n. parts_or_tree Ge Terms ps (tree_phrase d at Ge (plain_context scope None)) (λ word e. cc) g (omega arith)
        (λ phrases all own_fault. order_found d own scope at f Ge IsOrder.ge (terms_said (exprs ps) scope None phrases g all) (exactly ps 2 n) own_fault) e) n
    found_by Gt bs ps n fit low e =
        terms_bare (λ l. (length l + length ps == 2) ≡ true → Found Gt l (exprs ps)) bs (fits ps) fit
        (λ g n. parts_or_tree Gt Terms ps (tree_phrase d at Gt (plain_context scope None)) (λ word e. cc) g (omega arith)
        (λ phrases all own_fault. order_found d own scope at f Gt IsOrder.gt (terms_said (exprs ps) scope None phrases g all) (exactly ps 2 n) own_fault) e) n
    found_by Eq bs ps n fit low e =
        terms_bare (λ l. (length l + length ps == 2) ≡ true → Found Eq l (exprs ps)) bs (fits ps) fit
        (λ g n. parts_or_tree Eq Terms ps (tree_phrase d at Eq (plain_context scope None)) (λ word e. cc) g (omega arith)
        (λ phrases all own_fault. equality_found d own scope at f Eq IsEquality.eq (terms_said (exprs ps) scope None phrases g all) (exactly ps 2 n) own_fault) e) n
    found_by Ne bs ps n fit low e =
        terms_bare (λ l. (length l + length ps == 2) ≡ true → Found Ne l (exprs ps)) bs (fits ps) fit
        (λ g n. parts_or_tree Ne Terms ps (tree_phrase d at Ne (plain_context scope None)) (λ word e. cc) g (omega arith)
        (λ phrases all own_fault. equality_found d own scope at f Ne IsEquality.ne (terms_said (exprs ps) scope None phrases g all) (exactly ps 2 n) own_fault) e) n
    found_by And bs ps n fit low e =
        formulas_bare (λ l. nat_le 2 (length l + length ps) ≡ true → Found And l (exprs ps)) bs (fits ps) fit
        (λ g n. parts_or_tree And Formulas ps (tree_phrase d at And (plain_context scope way)) (λ word e. cc) g (omega arith)
        (λ phrases all own_fault. absurd (no_many d own scope at f way true (exprs ps) phrases.formulas (formulas_said (exprs ps) scope way phrases g all) (at_least ps n) own_fault)) e) n
    found_by Or bs ps n fit low e =
        formulas_bare (λ l. nat_le 2 (length l + length ps) ≡ true → Found Or l (exprs ps)) bs (fits ps) fit
        (λ g n. parts_or_tree Or Formulas ps (tree_phrase d at Or (plain_context scope None)) (λ word e. cc) g (omega arith)
        (λ phrases all own_fault. absurd (no_many d own scope at f None false (exprs ps) phrases.formulas (formulas_said (exprs ps) scope None phrases g all) (at_least ps n) own_fault)) e) n
    found_by Not bs ps n fit low e =
        formulas_bare (λ l. (length l + length ps == 1) ≡ true → Found Not l (exprs ps)) bs (fits ps) fit
        (λ g n. parts_or_tree Not Formulas ps (tree_phrase d at Not (plain_context scope None)) (λ word e. cc) g (omega arith)
        (λ phrases all own_fault. absurd (no_not d own scope at f (formulas_said (exprs ps) scope None phrases g all) (exactly ps 1 n) own_fault)) e) n
    found_by Implies bs ps n fit low e =
        formulas_bare (λ l. (length l + length ps == 2) ≡ true → Found Implies l (exprs ps)) bs (fits ps) fit
        (λ g n. parts_or_tree Implies Formulas ps (tree_phrase d at Implies (plain_context scope None)) (λ word e. cc) g (omega arith)
        (λ phrases all own_fault. absurd (no_implies d own scope at f (formulas_said (exprs ps) scope None phrases g all) (exactly ps 2 n) own_fault)) e) n
    found_by Forall bs ps n fit low e = body_found Forall (λ is q. Truth (formula.Forall is q)) bs ps BindsVariables.for_all (nat_le_yes 2 (length bs + length ps) n) fit (omega arith) e
    found_by Exists bs ps n fit low e = body_found Exists (λ is q. Truth (formula.Exists is q)) bs ps BindsVariables.for_some (nat_le_yes 2 (length bs + length ps) n) fit (omega arith) e
    found_by (Number z) bs ps n fit low e =
        terms_bare (λ l. ((length l + length ps == 0) && is_small_number z) ≡ true → Found (Number z) l (exprs ps)) bs (fits ps) fit (λ g n. number_found z ps n e) n
    found_by (Use word) bs ps n fit low e = terms_bare (λ l. Found (Use word) l (exprs ps)) bs (fits ps) fit (λ g. use_found word ps g (omega arith) e)

  -- ---- the induction

  abbrev expr_with : Expr-F Part → Expr-F Expr
  expr_with y = record { at = y.at; head = y.head; binders = y.binders; parts = exprs y.parts }

  step : (y : Expr-F Part) → Claim (roll-Expr (expr_with y))
  step y r scope way f fit low e =
      let x = expr_with y in
      let all = and_parts (has_role x.head r && head_fits x.head (length x.binders + length x.parts)) (parts_fit (layout_of x.head) x.binders (map expr_fits x.parts)) (sym (expr_fits-roll x r) ∙ fit) in
      let front = and_parts (has_role x.head r) (head_fits x.head (length x.binders + length x.parts)) all.0 in
      let connective_phrase : head_fits y.head (length y.binders + length y.parts) ≡ true = subst (λ (k : ℕ). head_fits y.head (length y.binders + k) ≡ true) (length-map y.parts (λ (q : Part). q.0)) front.1 in
      let same = size-roll x in
      found_by scope way y.at f y.head y.binders y.parts connective_phrase all.1 (omega arith) (sym (phrase_of-roll d own x scope way) ∙ e)

  -- what the checker finds is what the rules of faults give
  pub fault_if : (e : Expr) → Claim e
  fault_if = ind-Expr Claim (λ x y is. subst (λ z. Claim (roll-Expr z)) is (step y))
