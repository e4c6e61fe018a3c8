-- What an expression says is well typed, in every schema that begins with the declarations, and of the expression's size.
use Rattle.std.proofs.Common.{◌≡◌, refl, sym, ◌∙◌, ap, subst, ℕ, suc, ◌+◌, ◌≤◌, ◌==◌, pos, List, [], ◌∷◌, length, map, fold, Bool, true, false, if◌then◌else◌, Option, None, Some, Ok, nat_eq, slice_get, arith}
use Rattle.std.specs.Prelude.{option_and_then}
use Rattle.std.specs.List.{list_all}
use Rattle.std.proofs.lemmas.Bool.{and_parts, and_from}
use Rattle.kts_spec.specs.Ranges.{Range, sum_range, total_range, sum_over_range}
use Rattle.kts_spec.specs.Sizes.{Size, size_of_term, size_of_formula, has_short_prefixes, all_beside, beside}
use Rattle.kts_spec.specs.Typing.{whole_of, whole_within, ranges, two_wholes as two_ranges, kind_of_type, are_members as members_of, are_comparable, kind_of as typing_of, is_typed, Kind as KindOf, Whole as WholeOf, MemberOf}
use Rattle.kts_spec.specs.declared.declarations.Family.{Family}
use Rattle.kts_spec.specs.declared.declarations.ValueType.{ValueType}
use Rattle.kts_spec.specs.declared.declarations.ValueType.TheVariants as type
use Rattle.kts_spec.specs.declared.schema.Schema.{Schema}
use Rattle.kts_spec.specs.declared.tree.Comparison.{Comparison}
use Rattle.kts_spec.specs.declared.tree.Comparison.TheVariants as comparison
use Rattle.kts_spec.specs.declared.tree.Formula.{Formula}
use Rattle.kts_spec.specs.declared.tree.Formula.TheVariants as formula
use Rattle.kts_spec.specs.declared.tree.Term.{Term}
use Rattle.kts_spec.proofs.Typings.{is_typed-Compare}
use Rattle.kts_spec.proofs.TreeSizes.{size_of_formula-Compare, has_short_prefixes-Compare}
use Rattle.kts_check.specs.Measures.{limited_term, total, total_from, two_wholes, two, range_of_sum, kind_of, are_members}
use Rattle.kts_check.specs.Scopes.{Scope, variable_from, variable}
use Rattle.kts_check.specs.Trees.{access_phrase, of_wholes, of_members, comparison_of, comparison_phrase, comparison_by, both, no_phrases, with_part}
use Rattle.kts_check.specs.declared.phrase.Phrases.{Phrases}
use Rattle.kts_check.specs.declared.kind.Kind.{Kind}
use Rattle.kts_check.specs.declared.kind.Kind.TheVariants.{Whole, Member}
use Rattle.kts_check.specs.declared.phrase.Phrase.{Phrase}
use Rattle.kts_check.specs.declared.phrase.Phrase.TheVariants.{Value, Truth}
use Rattle.kts_syntax.specs.declared.head.Head.{Head}
use Rattle.kts_syntax.specs.declared.head.Head.TheVariants.{Add, Sub, Mul, Min, Max, Sum, Le, Lt, Ge, Gt, Eq, Ne, And, Or, Not, Implies, Forall, Exists, Number, Use}
use Rattle.kts_check.proofs.Inversions.{ok_is, both_ok, test_ok, some_is, both_are, kind_shown, measured_ok}
use Rattle.kts_check.proofs.SizeLemmas.{Within, within_none, within_front, within_two, within_comparison}

-- the indexes of the variables in scope
abbrev pub kinds_in : Scope → List ℕ
kinds_in scope = map (λ v. v.1) scope

abbrev pub shown_all : List Kind → List (Option KindOf)
shown_all ks = map (λ k. Some (kind_shown k)) ks

-- ---- variables

variable_there : (j : ℕ) (scope : Scope) (name : List ℕ) (v : ℕ × ℕ) → variable_from j scope name ≡ Some v → (n : ℕ) × (v.0 ≡ j + n) × (slice_get (kinds_in scope) n ≡ Some v.1)
variable_there j [] name v e = absurd cc
variable_there j (x ∷ scope) name v e = by _ (variable_there (suc j) scope name v) e
  where
    by : (b : Bool) → (variable_from (suc j) scope name ≡ Some v → (n : ℕ) × (v.0 ≡ suc j + n) × (slice_get (kinds_in scope) n ≡ Some v.1)) → (if b then Some (j, x.1) else variable_from (suc j) scope name) ≡ Some v
        → (n : ℕ) × (v.0 ≡ j + n) × (slice_get (kinds_in (x ∷ scope)) n ≡ Some v.1)
    by true later e = let same = some_is (j, x.1) v e in (0, sym (ap (λ (p : ℕ × ℕ). p.0) same) ∙ (omega arith), ap (λ (p : ℕ × ℕ). Some p.1) same)
    by false later e = let more = later e in (suc more.0, more.1 ∙ (omega arith), more.2)

pub variable_at : (scope : Scope) (name : List ℕ) (v : ℕ × ℕ) → variable scope name ≡ Some v → slice_get (kinds_in scope) v.0 ≡ Some v.1
variable_at scope name v e =
    let found = variable_there 0 scope name v e in
    let same : v.0 ≡ found.0 = omega arith in
    ap (slice_get (kinds_in scope)) same ∙ found.2

-- ---- kinds

pub type_shown : (t : ValueType) → kind_of_type t ≡ kind_shown (kind_of t)
unfolding kind_of
type_shown (type.Int low high) = refl
type_shown (type.Member i) = refl

pub members_shown : (is : List ℕ) (ks : List Kind) → are_members is ks ≡ true → members_of is (shown_all ks) ≡ true
unfolding are_members
members_shown [] [] e = refl
members_shown [] (k ∷ ks) e = absurd cc
members_shown (i ∷ is) [] e = absurd cc
members_shown (i ∷ is) (Whole a b ∷ ks) e = absurd cc
members_shown (i ∷ is) (Member j ∷ ks) e =
    let both = and_parts (nat_eq i j) (are_members is ks) e in and_from (nat_eq i j) (members_of is (shown_all ks)) both.0 (members_shown is ks both.1)

total_shown : (r q : Range) (ks : List Kind) → total_from r ks ≡ Some q → (ws : List Range) × (ranges (shown_all ks) ≡ Some ws) × (fold sum_range r ws ≡ q)
total_shown r q [] e = ([], refl, some_is r q e)
total_shown r q (Whole a b ∷ ks) e =
    let more = total_shown (sum_range r (a, b)) q ks e in ((a, b) ∷ more.0, rw more.1 refl, more.2)
total_shown r q (Member i ∷ ks) e = absurd cc

pub total_typed : (q : Range) (ks : List Kind) → total ks ≡ Some q → option_and_then (λ ws. whole_within (total_range ws)) (ranges (shown_all ks)) ≡ whole_within q
unfolding total
total_typed q ks e = let t = total_shown (pos 0, pos 0) q ks e in rw t.1 (ap whole_within t.2)

pub two_typed : (f : Range → Range → Range) (q : Range) (ks : List Kind) → two f ks ≡ Some q → two_ranges f (shown_all ks) ≡ whole_within q
unfolding two_wholes
two_typed f q [] e = absurd cc
two_typed f q (k ∷ []) e = absurd cc
two_typed f q (Whole a b ∷ Whole c d ∷ []) e = ap whole_within (some_is (f (a, b) (c, d)) q e)
two_typed f q (Whole a b ∷ Member j ∷ []) e = absurd cc
two_typed f q (Member i ∷ l ∷ []) e = absurd cc
two_typed f q (k ∷ l ∷ (m ∷ ks)) e = absurd cc

pub sum_typed : (q : Range) (k : Kind) → range_of_sum k ≡ Some q → option_and_then (λ w. whole_within (sum_over_range w)) (option_and_then whole_of (Some (kind_shown k))) ≡ whole_within q
unfolding range_of_sum
sum_typed q (Whole a b) e = ap whole_within (some_is (sum_over_range (a, b)) q e)
sum_typed q (Member i) e = absurd cc

wholes_comparable : (head : Head) (c : Comparison) (v w : Range) → of_wholes head ≡ Some c → are_comparable c (Some (WholeOf v)) (Some (WholeOf w)) ≡ true
unfolding of_wholes
wholes_comparable Le c v w e = ap (λ (c : Comparison). are_comparable c (Some (WholeOf v)) (Some (WholeOf w))) (sym (some_is comparison.Le c e))
wholes_comparable Lt c v w e = ap (λ (c : Comparison). are_comparable c (Some (WholeOf v)) (Some (WholeOf w))) (sym (some_is comparison.Lt c e))
wholes_comparable Ge c v w e = ap (λ (c : Comparison). are_comparable c (Some (WholeOf v)) (Some (WholeOf w))) (sym (some_is comparison.Ge c e))
wholes_comparable Gt c v w e = ap (λ (c : Comparison). are_comparable c (Some (WholeOf v)) (Some (WholeOf w))) (sym (some_is comparison.Gt c e))
wholes_comparable Eq c v w e = ap (λ (c : Comparison). are_comparable c (Some (WholeOf v)) (Some (WholeOf w))) (sym (some_is comparison.Eq c e))
wholes_comparable Ne c v w e = ap (λ (c : Comparison). are_comparable c (Some (WholeOf v)) (Some (WholeOf w))) (sym (some_is comparison.Ne c e))
wholes_comparable Add c v w e = absurd cc
wholes_comparable Sub c v w e = absurd cc
wholes_comparable Mul c v w e = absurd cc
wholes_comparable Min c v w e = absurd cc
wholes_comparable Max c v w e = absurd cc
wholes_comparable Sum c v w e = absurd cc
wholes_comparable And c v w e = absurd cc
wholes_comparable Or c v w e = absurd cc
wholes_comparable Not c v w e = absurd cc
wholes_comparable Implies c v w e = absurd cc
wholes_comparable Forall c v w e = absurd cc
wholes_comparable Exists c v w e = absurd cc
wholes_comparable (Number n) c v w e = absurd cc
wholes_comparable (Use x) c v w e = absurd cc

members_comparable : (head : Head) (c : Comparison) (i j : ℕ) → nat_eq i j ≡ true → of_members head ≡ Some c → are_comparable c (Some (MemberOf i)) (Some (MemberOf j)) ≡ true
unfolding of_members
members_comparable Eq c i j same e = ap (λ (c : Comparison). are_comparable c (Some (MemberOf i)) (Some (MemberOf j))) (sym (some_is comparison.Same c e)) ∙ same
members_comparable Ne c i j same e = ap (λ (c : Comparison). are_comparable c (Some (MemberOf i)) (Some (MemberOf j))) (sym (some_is comparison.Other c e)) ∙ same
members_comparable Le c i j same e = absurd cc
members_comparable Lt c i j same e = absurd cc
members_comparable Ge c i j same e = absurd cc
members_comparable Gt c i j same e = absurd cc
members_comparable Add c i j same e = absurd cc
members_comparable Sub c i j same e = absurd cc
members_comparable Mul c i j same e = absurd cc
members_comparable Min c i j same e = absurd cc
members_comparable Max c i j same e = absurd cc
members_comparable Sum c i j same e = absurd cc
members_comparable And c i j same e = absurd cc
members_comparable Or c i j same e = absurd cc
members_comparable Not c i j same e = absurd cc
members_comparable Implies c i j same e = absurd cc
members_comparable Forall c i j same e = absurd cc
members_comparable Exists c i j same e = absurd cc
members_comparable (Number n) c i j same e = absurd cc
members_comparable (Use x) c i j same e = absurd cc

pub comparable : (head : Head) (k l : Kind) (c : Comparison) → comparison_of head k l ≡ Some c → are_comparable c (Some (kind_shown k)) (Some (kind_shown l)) ≡ true
unfolding comparison_of
comparable head (Whole a b) (Whole p q) c e = wholes_comparable head c (a, b) (p, q) e
comparable head (Whole a b) (Member j) c e = absurd cc
comparable head (Member i) (Whole p q) c e = absurd cc
comparable head (Member i) (Member j) c e = by (nat_eq i j) refl e
  where
    by : (b : Bool) → nat_eq i j ≡ b → (if b then of_members head else None) ≡ Some c → are_comparable c (Some (MemberOf i)) (Some (MemberOf j)) ≡ true
    by true same e = members_comparable head c i j same e
    by false same e = absurd cc

-- ---- what trees say

-- on the way from the body of a formula, the variables of prefixes are few
abbrev pub IsShort : Option ℕ → Formula → Type 0
IsShort way p = (n : ℕ) → way ≡ Some n → has_short_prefixes p n ≡ true

module _ (schema : Schema) where
  -- what is said is well typed, and has at most n trees, of which at most m are in one another
  abbrev pub IsGood : Scope → Option ℕ → ℕ → ℕ → Phrase → Type 0
  IsGood scope way n m (Value t k) = (typing_of schema t (kinds_in scope) ≡ Some (kind_shown k)) × Within (size_of_term t) n m
  IsGood scope way n m (Truth p) = (is_typed schema p (kinds_in scope) ≡ true) × IsShort way p × Within (size_of_formula p) n m

  -- a whole number that an operation gives
  pub good_measured : (scope : Scope) (way : Option ℕ) (n m at : ℕ) (t : Term) (range : Option Range) (s : Phrase) → limited_term at t range ≡ Ok s
      → ((q : Range) → range ≡ Some q → typing_of schema t (kinds_in scope) ≡ whole_within q) → Within (size_of_term t) n m → IsGood scope way n m s
  good_measured scope way n m at t range s e typed small =
      let made = measured_ok at t range s e in
      subst (IsGood scope way n m) made.2 (typed made.0 made.1 ∙ made.3, small)

  -- an access
  pub good_access : (scope : Scope) (way : Option ℕ) (n m at : ℕ) (t : Term) (found : Option Family) (ks : List Kind) (s : Phrase) → access_phrase at t found ks ≡ Ok s
      → ((family : Family) → found ≡ Some family → are_members family.args ks ≡ true → typing_of schema t (kinds_in scope) ≡ Some (kind_of_type family.kind)) → Within (size_of_term t) n m → IsGood scope way n m s
  unfolding access_phrase
  good_access scope way n m at t None ks s e typed small = absurd cc
  good_access scope way n m at t (Some family) ks s e typed small =
      let tested = test_ok (length ks == length family.args) _ _ s e in
      let members = test_ok (are_members family.args ks) (Ok (Value t (kind_of family.kind))) _ s tested.1 in
      subst (IsGood scope way n m) (ok_is (Value t (kind_of family.kind)) s members.1) (typed family refl members.0 ∙ ap Some (type_shown family.kind), small)

  two_same : (x y p q : Option KindOf) → (x ∷ y ∷ []) ≡ (p ∷ q ∷ []) → (x ≡ p) × (y ≡ q)
  two_same x y p q e = (cc, cc)

  good_two : (scope : Scope) (way : Option ℕ) (n m at : ℕ) (head : Head) (a b : Term) (k l : Kind) (o : Option Comparison) (s : Phrase) → comparison_of head k l ≡ o → comparison_by at o a b ≡ Ok s
      → typing_of schema a (kinds_in scope) ≡ Some (kind_shown k) → typing_of schema b (kinds_in scope) ≡ Some (kind_shown l) → Within (all_beside (size_of_term a ∷ size_of_term b ∷ [])) n m → IsGood scope way (suc n) (suc m) s
  good_two scope way n m at head a b k l None s is e p q small = absurd cc
  good_two scope way n m at head a b k l (Some c) s is e p q small =
      subst (IsGood scope way (suc n) (suc m)) (ok_is (Truth (formula.Compare c a b)) s e) (
        is_typed-Compare schema (kinds_in scope) c a b ∙ rw (p, q) (comparable head k l c is),
        (λ i w. has_short_prefixes-Compare c a b i),
        subst (λ (z : Size). Within z (suc n) (suc m)) (sym (size_of_formula-Compare c a b)) (within_comparison c (beside (size_of_term a) (size_of_term b)) n m (within_two (size_of_term a) (size_of_term b) n m small)),
      )

  -- a comparison
  pub good_comparison : (scope : Scope) (way : Option ℕ) (n m at : ℕ) (head : Head) (ts : List Term) (ks : List Kind) (s : Phrase) → comparison_phrase at head ts ks ≡ Ok s
      → map (λ t. typing_of schema t (kinds_in scope)) ts ≡ shown_all ks → Within (all_beside (map size_of_term ts)) n m → IsGood scope way (suc n) (suc m) s
  unfolding comparison_phrase
  good_comparison scope way n m at head ts ks s e typed small =
      let kinds = both_ok (both at ks) _ s e in
      let terms = both_ok (both at ts) _ s kinds.2 in
      let same = two_same _ _ _ _ (sym (ap (map (λ t. typing_of schema t (kinds_in scope))) (both_are at ts terms.0 terms.1)) ∙ typed ∙ ap shown_all (both_are at ks kinds.0 kinds.1)) in
      good_two scope way n m at head terms.0.0 terms.0.1 kinds.0.0 kinds.0.1 (comparison_of head kinds.0.0 kinds.0.1) s refl terms.2 same.0 same.1
      (subst (λ (l : List Term). Within (all_beside (map size_of_term l)) n m) (both_are at ts terms.0 terms.1) small)

  -- what parts say is well typed, and has at most n trees, of which at most m are in one another
  pub record AreGood (scope : Scope) (way : Option ℕ) (n m : ℕ) (phrases : Phrases) : Type 0 where
    pub kinds : map (λ t. typing_of schema t (kinds_in scope)) phrases.terms ≡ shown_all phrases.kinds
    pub typed : list_all (λ p. is_typed schema p (kinds_in scope)) phrases.formulas ≡ true
    pub short : (k : ℕ) → way ≡ Some k → list_all (λ p. has_short_prefixes p k) phrases.formulas ≡ true
    pub term_trees : ℕ
    pub formula_trees : ℕ
    pub terms_within : Within (all_beside (map size_of_term phrases.terms)) term_trees m
    pub formulas_within : Within (all_beside (map size_of_formula phrases.formulas)) formula_trees m
    pub room : term_trees + formula_trees ≤ n

  pub good_none : (scope : Scope) (way : Option ℕ) (m : ℕ) → AreGood scope way 0 m no_phrases
  good_none scope way m = record {
    kinds = refl;
    typed = refl;
    short = (λ k w. refl);
    term_trees = 0;
    formula_trees = 0;
    terms_within = within_none m;
    formulas_within = within_none m;
    room = omega arith;
  }

  pub good_part : (scope : Scope) (way : Option ℕ) (n k m : ℕ) (s : Phrase) (phrases : Phrases) → IsGood scope way n m s → AreGood scope way k m phrases → AreGood scope way (n + k) m (with_part s phrases)
  good_part scope way n k m (Value t j) phrases good more =
      let room = more.room in
      record {
        kinds = ap (λ (x : Option KindOf). x ∷ map (λ t. typing_of schema t (kinds_in scope)) phrases.terms) good.0 ∙ ap (λ xs. Some (kind_shown j) ∷ xs) more.kinds;
        typed = more.typed;
        short = more.short;
        term_trees = n + more.term_trees;
        formula_trees = more.formula_trees;
        terms_within = within_front (size_of_term t) (map size_of_term phrases.terms) n more.term_trees m good.1 more.terms_within;
        formulas_within = more.formulas_within;
        room = omega arith;
      }
  good_part scope way n k m (Truth p) phrases good more =
      let room = more.room in
      record {
        kinds = more.kinds;
        typed = and_from (is_typed schema p (kinds_in scope)) (list_all (λ p. is_typed schema p (kinds_in scope)) phrases.formulas) good.0 more.typed;
        short = (λ i w. and_from (has_short_prefixes p i) (list_all (λ p. has_short_prefixes p i) phrases.formulas) (good.1 i w) (more.short i w));
        term_trees = more.term_trees;
        formula_trees = n + more.formula_trees;
        terms_within = more.terms_within;
        formulas_within = within_front (size_of_formula p) (map size_of_formula phrases.formulas) n more.formula_trees m good.2 more.formulas_within;
        room = omega arith;
      }
