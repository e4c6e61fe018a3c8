-- Each form of tree says what is well typed, where its parts do.
use Rattle.std.proofs.Common.{◌≡◌, refl, sym, ◌∙◌, ap, subst, ℕ, zero, suc, ℤ, List, [], ◌∷◌, ◌++◌, length, map, Bool, true, false, ◌&&◌, Option, Some, Ok, nat_le, slice_get, arith}
use Rattle.std.specs.Prelude.{option_map}
use Rattle.std.specs.List.{list_all}
use Rattle.std.proofs.lemmas.Bool.{and_parts, and_from}
use Rattle.kts_base.specs.Names.{is_between}
use Rattle.kts_spec.specs.Ranges.{one_number, difference_range, product_range, least_range, greatest_range}
use Rattle.kts_spec.specs.Sizes.{Size, no_trees, size_of_term, size_of_formula, all_beside, beside, tree_over, sum_tree_over}
use Rattle.kts_spec.specs.Typing.{whole_within, is_typed, MemberOf}
use Rattle.kts_spec.specs.declared.declarations.Family.{Family}
use Rattle.kts_base.specs.Limits.{most_parts}
use Rattle.kts_spec.specs.declared.schema.Schema.{Schema}
use Rattle.kts_spec.specs.declared.tree.Formula.{Formula}
use Rattle.kts_spec.specs.declared.tree.Formula.TheVariants as formula
use Rattle.kts_spec.specs.declared.tree.Term.TheVariants as term
use Rattle.kts_spec.proofs.Typings.{kind_of-Number, kind_of-Var, kind_of-Given, kind_of-Choice, kind_of-Add, kind_of-Sub, kind_of-Mul, kind_of-Min, kind_of-Max, is_typed-And, is_typed-Or, is_typed-Not, is_typed-Implies}
use Rattle.kts_spec.proofs.TreeSizes.{size_of_term-Number, size_of_term-Var, size_of_term-Given, size_of_term-Choice, size_of_term-Add, size_of_term-Sub, size_of_term-Mul, size_of_term-Min, size_of_term-Max, size_of_formula-And, size_of_formula-Or, size_of_formula-Not, size_of_formula-Implies, has_short_prefixes-And, has_short_prefixes-Or, has_short_prefixes-Not, has_short_prefixes-Implies}
use Rattle.kts_check.specs.Measures.{limited_term, total, two}
use Rattle.kts_check.specs.Scopes.{Scope, variable}
use Rattle.kts_check.specs.Trees.{access_phrase, only, both, addition_phrase, connective_phrase, negation_phrase, implication_phrase}
use Rattle.kts_check.specs.declared.kind.Kind.TheVariants.{Member}
use Rattle.kts_check.specs.declared.phrase.Phrases.{Phrases}
use Rattle.kts_check.specs.declared.phrase.Phrase.{Phrase}
use Rattle.kts_check.specs.declared.phrase.Phrase.TheVariants.{Value, Truth}
use Rattle.kts_check.proofs.Inversions.{ok_is, both_ok, test_ok, some_is, only_ok, both_are}
use Rattle.kts_check.proofs.SizeLemmas.{Within, within_none, within_more, within_one, within_two, within_tree, within_sum}
use Rattle.kts_check.proofs.WellTyped.{kinds_in, variable_at, members_shown, total_typed, two_typed, IsGood, AreGood, good_measured, good_access}

pub slice_front : {A : Type 0} (xs ys : List A) (k : ℕ) (x : A) → slice_get xs k ≡ Some x → slice_get (xs ++ ys) k ≡ Some x
slice_front [] ys k x e = absurd cc
slice_front (y ∷ xs) ys zero x e = e
slice_front (y ∷ xs) ys (suc k) x e = slice_front xs ys k x e

pub one_true : {A : Type 0} (test : A → Bool) (xs : List A) (x : A) → xs ≡ x ∷ [] → list_all test xs ≡ true → test x ≡ true
one_true test xs x is all = (and_parts (test x) true (sym (ap (list_all test) is) ∙ all)).0

two_true : {A : Type 0} (test : A → Bool) (xs : List A) (x y : A) → xs ≡ x ∷ y ∷ [] → list_all test xs ≡ true → (test x ≡ true) × (test y ≡ true)
two_true test xs x y is all =
    let both = and_parts (test x) (test y && true) (sym (ap (list_all test) is) ∙ all) in (both.0, (and_parts (test y) true both.1).0)

module _ (schema : Schema) where
  abbrev Size_in : ℕ → ℕ → Size → Type 0
  Size_in n m s = Within s n m

  -- no tree in a part
  leaf : (n m : ℕ) → Within (tree_over no_trees) (suc n) (suc m)
  leaf n m = within_more (tree_over no_trees) 1 (suc m) (suc n) (suc m) (within_tree no_trees 0 m (within_none m)) (omega arith) (omega arith)

  pub good_number : (scope : Scope) (way : Option ℕ) (n m at : ℕ) (z : ℤ) (s : Phrase) → limited_term at (term.Number z) (Some (one_number z)) ≡ Ok s → IsGood schema scope way (suc n) (suc m) s
  good_number scope way n m at z s e =
      good_measured schema scope way (suc n) (suc m) at (term.Number z) (Some (one_number z)) s e
      (λ q is. kind_of-Number schema (kinds_in scope) z ∙ ap whole_within (some_is (one_number z) q is)) (subst (Size_in (suc n) (suc m)) (sym (size_of_term-Number z)) (leaf n m))

  pub good_variable : (scope : Scope) (way : Option ℕ) (n m : ℕ) (name : List ℕ) (v : ℕ × ℕ) → variable scope name ≡ Some v → IsGood schema scope way (suc n) (suc m) (Value (term.Var v.0) (Member v.1))
  good_variable scope way n m name v e =
      (kind_of-Var schema (kinds_in scope) v.0 ∙ ap (option_map MemberOf) (variable_at scope name v e), subst (Size_in (suc n) (suc m)) (sym (size_of_term-Var v.0)) (leaf n m))

  module _ (scope : Scope) (way inner : Option ℕ) (n m at : ℕ) (phrases : Phrases) (s : Phrase) (good : AreGood schema scope inner n m phrases) where
    pub terms_small : Within (all_beside (map size_of_term phrases.terms)) n m
    terms_small = let room = good.room in within_more (all_beside (map size_of_term phrases.terms)) good.term_trees m n m good.terms_within (omega arith) (omega arith)

    formulas_small : Within (all_beside (map size_of_formula phrases.formulas)) n m
    formulas_small = let room = good.room in within_more (all_beside (map size_of_formula phrases.formulas)) good.formula_trees m n m good.formulas_within (omega arith) (omega arith)

    abbrev over_terms : Within (tree_over (all_beside (map size_of_term phrases.terms))) (suc n) (suc m)
    over_terms = within_tree (all_beside (map size_of_term phrases.terms)) n m terms_small

    abbrev sum_of_terms : Within (sum_tree_over (all_beside (map size_of_term phrases.terms))) (suc n) (suc m)
    sum_of_terms = within_sum (all_beside (map size_of_term phrases.terms)) n m terms_small

    pub good_given : (f : ℕ) (fs gs : List Family) → schema.givens ≡ fs ++ gs → access_phrase at (term.Given f phrases.terms) (slice_get fs f) phrases.kinds ≡ Ok s → IsGood schema scope way (suc n) (suc m) s
    good_given f fs gs all e =
        good_access schema scope way (suc n) (suc m) at (term.Given f phrases.terms) (slice_get fs f) phrases.kinds s e
        (λ family found members. let there : slice_get schema.givens f ≡ Some family = rw all (slice_front fs gs f family found) in
        kind_of-Given schema (kinds_in scope) f phrases.terms ∙ rw (there, good.kinds, members_shown family.args phrases.kinds members) refl)
        (subst (Size_in (suc n) (suc m)) (sym (size_of_term-Given f phrases.terms)) over_terms)

    pub good_choice : (f : ℕ) (fs gs : List Family) → schema.choices ≡ fs ++ gs → access_phrase at (term.Choice f phrases.terms) (slice_get fs f) phrases.kinds ≡ Ok s → IsGood schema scope way (suc n) (suc m) s
    good_choice f fs gs all e =
        good_access schema scope way (suc n) (suc m) at (term.Choice f phrases.terms) (slice_get fs f) phrases.kinds s e
        (λ family found members. let there : slice_get schema.choices f ≡ Some family = rw all (slice_front fs gs f family found) in
        kind_of-Choice schema (kinds_in scope) f phrases.terms ∙ rw (there, good.kinds, members_shown family.args phrases.kinds members) refl)
        (subst (Size_in (suc n) (suc m)) (sym (size_of_term-Choice f phrases.terms)) over_terms)

    pub good_sum : addition_phrase at phrases.terms phrases.kinds ≡ Ok s → IsGood schema scope way (suc n) (suc m) s
    unfolding addition_phrase
    good_sum e =
        let tested = test_ok (is_between 2 most_parts (length phrases.terms)) (limited_term at (term.Add phrases.terms) (total phrases.kinds)) _ s e in
        good_measured schema scope way (suc n) (suc m) at (term.Add phrases.terms) (total phrases.kinds) s tested.1
        (λ q is. kind_of-Add schema (kinds_in scope) phrases.terms ∙ rw (tested.0, good.kinds) (total_typed q phrases.kinds is))
        (subst (Size_in (suc n) (suc m)) (sym (size_of_term-Add phrases.terms)) sum_of_terms)

    pub good_difference : limited_term at (term.Sub phrases.terms) (two difference_range phrases.kinds) ≡ Ok s → IsGood schema scope way (suc n) (suc m) s
    good_difference e =
        good_measured schema scope way (suc n) (suc m) at (term.Sub phrases.terms) (two difference_range phrases.kinds) s e
        (λ q is. kind_of-Sub schema (kinds_in scope) phrases.terms ∙ rw good.kinds (two_typed difference_range q phrases.kinds is)) (subst (Size_in (suc n) (suc m)) (sym (size_of_term-Sub phrases.terms)) sum_of_terms)

    pub good_product : limited_term at (term.Mul phrases.terms) (two product_range phrases.kinds) ≡ Ok s → IsGood schema scope way (suc n) (suc m) s
    good_product e =
        good_measured schema scope way (suc n) (suc m) at (term.Mul phrases.terms) (two product_range phrases.kinds) s e
        (λ q is. kind_of-Mul schema (kinds_in scope) phrases.terms ∙ rw good.kinds (two_typed product_range q phrases.kinds is)) (subst (Size_in (suc n) (suc m)) (sym (size_of_term-Mul phrases.terms)) over_terms)

    pub good_least : limited_term at (term.Min phrases.terms) (two least_range phrases.kinds) ≡ Ok s → IsGood schema scope way (suc n) (suc m) s
    good_least e =
        good_measured schema scope way (suc n) (suc m) at (term.Min phrases.terms) (two least_range phrases.kinds) s e
        (λ q is. kind_of-Min schema (kinds_in scope) phrases.terms ∙ rw good.kinds (two_typed least_range q phrases.kinds is)) (subst (Size_in (suc n) (suc m)) (sym (size_of_term-Min phrases.terms)) over_terms)

    pub good_greatest : limited_term at (term.Max phrases.terms) (two greatest_range phrases.kinds) ≡ Ok s → IsGood schema scope way (suc n) (suc m) s
    good_greatest e =
        good_measured schema scope way (suc n) (suc m) at (term.Max phrases.terms) (two greatest_range phrases.kinds) s e
        (λ q is. kind_of-Max schema (kinds_in scope) phrases.terms ∙ rw good.kinds (two_typed greatest_range q phrases.kinds is)) (subst (Size_in (suc n) (suc m)) (sym (size_of_term-Max phrases.terms)) over_terms)

    pub good_and : way ≡ inner → connective_phrase at true phrases.formulas ≡ Ok s → IsGood schema scope way (suc n) (suc m) s
    unfolding connective_phrase
    good_and same e =
        let tested = test_ok (nat_le 2 (length phrases.formulas)) (Ok (Truth (formula.And phrases.formulas))) _ s e in
        subst (IsGood schema scope way (suc n) (suc m)) (ok_is (Truth (formula.And phrases.formulas)) s tested.1) (
          is_typed-And schema (kinds_in scope) phrases.formulas ∙ and_from (nat_le 2 (length phrases.formulas)) _ tested.0 good.typed,
          (λ i w. has_short_prefixes-And phrases.formulas i ∙ good.short i (sym same ∙ w)),
          subst (Size_in (suc n) (suc m)) (sym (size_of_formula-And phrases.formulas)) (within_tree _ n m formulas_small),
        )

    pub good_or : connective_phrase at false phrases.formulas ≡ Ok s → IsGood schema scope way (suc n) (suc m) s
    unfolding connective_phrase
    good_or e =
        let tested = test_ok (nat_le 2 (length phrases.formulas)) (Ok (Truth (formula.Or phrases.formulas))) _ s e in
        subst (IsGood schema scope way (suc n) (suc m)) (ok_is (Truth (formula.Or phrases.formulas)) s tested.1) (
          is_typed-Or schema (kinds_in scope) phrases.formulas ∙ and_from (nat_le 2 (length phrases.formulas)) _ tested.0 good.typed,
          (λ i w. has_short_prefixes-Or phrases.formulas i),
          subst (Size_in (suc n) (suc m)) (sym (size_of_formula-Or phrases.formulas)) (within_tree _ n m formulas_small),
        )

    one_small : (p : Formula) → phrases.formulas ≡ p ∷ [] → Within (size_of_formula p) n m
    one_small p is = within_one (size_of_formula p) n m (subst (λ (ps : List Formula). Within (all_beside (map size_of_formula ps)) n m) is formulas_small)

    pub good_not : negation_phrase at phrases.formulas ≡ Ok s → IsGood schema scope way (suc n) (suc m) s
    unfolding negation_phrase
    good_not e =
        let one = both_ok (only at phrases.formulas) _ s e in
        let is = only_ok at phrases.formulas one.0 one.1 in
        subst (IsGood schema scope way (suc n) (suc m)) (ok_is (Truth (formula.Not one.0)) s one.2) (
          is_typed-Not schema (kinds_in scope) one.0 ∙ one_true (λ p. is_typed schema p (kinds_in scope)) phrases.formulas one.0 is good.typed,
          (λ i w. has_short_prefixes-Not one.0 i),
          subst (Size_in (suc n) (suc m)) (sym (size_of_formula-Not one.0)) (within_tree (size_of_formula one.0) n m (one_small one.0 is)),
        )

    pub good_implies : implication_phrase at phrases.formulas ≡ Ok s → IsGood schema scope way (suc n) (suc m) s
    unfolding implication_phrase
    good_implies e =
        let pair = both_ok (both at phrases.formulas) _ s e in
        let is = both_are at phrases.formulas pair.0 pair.1 in
        let typed = two_true (λ p. is_typed schema p (kinds_in scope)) phrases.formulas pair.0.0 pair.0.1 is good.typed in
        subst (IsGood schema scope way (suc n) (suc m)) (ok_is (Truth (formula.Implies pair.0.0 pair.0.1)) s pair.2) (
          is_typed-Implies schema (kinds_in scope) pair.0.0 pair.0.1 ∙ and_from _ _ typed.0 typed.1,
          (λ i w. has_short_prefixes-Implies pair.0.0 pair.0.1 i),
          subst (Size_in (suc n) (suc m)) (sym (size_of_formula-Implies pair.0.0 pair.0.1)) (within_tree (beside (size_of_formula pair.0.0) (size_of_formula pair.0.1)) n m
              (within_two (size_of_formula pair.0.0) (size_of_formula pair.0.1) n m (subst (λ (ps : List Formula). Within (all_beside (map size_of_formula ps)) n m) is formulas_small))),
        )
