-- What an evaluator computes of a term or formula from what it computes of the parts.
use Rattle.std.proofs.Common.{◌≡◌, refl, sym, ◌∙◌, ap, subst, ℕ, zero, suc, ◌+◌, ◌*◌, ◌-◌, ◌<◌, ◌≤◌, ◌^◌, arith, add-one, List, [], ◌∷◌, ◌++◌, length, map, drop, get_or, Bool, true, false, ◌&&◌, ◌||◌, Some, slice_index_or, ℤ, pos, nat_abs, ◌+ℤ◌, ◌-ℤ◌, ◌*ℤ◌, ◌≤ℤ◌, ◌<ℤ◌, int_le, int_lt, fold, if◌then◌else◌}
use Rattle.std.specs.Prelude.{◌==◌, option_map}
use Rattle.std.specs.Int.{int_min, int_max}
use Rattle.std.specs.List.{list_all, list_any, range_with_len}
use Rattle.std.proofs.Math.Seq.{drop-cons}
use Rattle.std.proofs.lemmas.Bool.{and_parts}
use Rattle.std.proofs.lemmas.Int.{ints, to_z-of_z}
use Rattle.std.proofs.lemmas.List.{length-map}
use mir.Syntax.{w64}
use mir.Val.{SFits, to_z, of_z}
use lib.Signed.{mag}
use Rattle.kts_base.specs.Limits.{most_members}
use Rattle.kts_base.proofs.Orders.{int_le_yes, int_lt_yes}
use Rattle.kts_spec.specs.declared.declarations.Family.{Family}
use Rattle.kts_spec.specs.declared.tree.Comparison.{Comparison}
use Rattle.kts_spec.specs.declared.tree.Comparison.TheVariants.{Le, Lt, Ge, Gt, Eq, Ne, Same, Other}
use Rattle.kts_spec.specs.declared.tree.Formula.{Formula}
use Rattle.kts_spec.specs.declared.tree.Formula.TheVariants as formula
use Rattle.kts_spec.specs.declared.tree.Term.{Term}
use Rattle.kts_spec.specs.declared.tree.Term.TheVariants as term
use Rattle.kts_spec.specs.CellOrder.{AreMembers}
use Rattle.kts_spec.specs.Data.{are_tables, is_table}
use Rattle.kts_spec.specs.Domain.{of_two, comparison_truth}
use Rattle.kts_spec.specs.Meaning.{on_schedule}
use Rattle.kts_spec.specs.Places.{is_in, place, offset, lookup}
use Rattle.kts_spec.specs.Related.{AllOf}
use Rattle.kts_spec.specs.Worlds.{World, size_of, sizes_of, given_of, choice_of, table_of}
use Rattle.kts_spec.proofs.Meanings.{value_on-Given, value_on-Choice, value_on-Sub, value_on-Mul, value_on-Min, value_on-Max, value_on-Sum, truth_on-Compare}
use Rattle.kts_mean.specs.Bounds.{Near, compares}
use Rattle.kts_mean.specs.Evaluation.{world_in, value_in, values_in, truth_in}
use Rattle.kts_mean.specs.declared.evaluator.Evaluator.{Evaluator}
use Rattle.kts_mean.proofs.TermParts.{pairs_length}
use Rattle.kts_mean.proofs.TermValues as values

-- a number of the machine's that was kept as its bits
pub kept : (z : ℤ) → mag z < 2 ^ 63 → to_z w64 (of_z w64 z) ≡ z
kept z h = to_z-of_z w64 z (record { sfits = h })

pub some_left : (n : ℕ) → false ≡ (n == 0) → 0 < n
some_left zero h = cc
some_left (suc n) h = omega arith

pub all_item : {X : Type 0} (P : X → Type 0) (xs : List X) (i : ℕ) (x : X) → AllOf P xs → i < length xs → x ≡ slice_index_or xs i x → P x
all_item P [] i x h l e = absurd (omega arith)
all_item P (y ∷ xs) zero x h l e = subst P (sym e) h.0
all_item P (y ∷ xs) (suc i) x h l e = all_item P xs i x h.1 (omega arith) e

pub drop_here : {X : Type 0} (xs : List X) (i : ℕ) (x : X) → i < length xs → x ≡ get_or xs i x → drop i xs ≡ x ∷ drop (i + 1) xs
drop_here xs i x h e = rw add-one (drop-cons xs i x h ∙ ap (λ y. y ∷ drop (suc i) xs) (sym e))

pub drop_next : (xs : List ℕ) (i : ℕ) → i < length xs → drop i xs ≡ get_or xs i 0 ∷ drop (i + 1) xs
drop_next xs i h = rw add-one (drop-cons xs i 0 h)

pub range_here : (i n : ℕ) → i < n → range_with_len i (n - i) ≡ i ∷ range_with_len (i + 1) (n - (i + 1))
range_here i n h = let e : n - i ≡ suc (n - (i + 1)) = omega arith in rw e refl

pub all_step : (p : ℕ → Bool) (m n : ℕ) (r : Bool) → list_all p (range_with_len m (n - m)) ≡ r → m < n → p m ≡ true → list_all p (range_with_len (m + 1) (n - (m + 1))) ≡ r
all_step p m n r h l e =
    let rest : Bool = list_all p (range_with_len (m + 1) (n - (m + 1))) in
    let s : (p m && rest) ≡ r = rw (range_here m n l) at h in
    ap (λ b. b && rest) (sym e) ∙ s

pub any_step : (p : ℕ → Bool) (m n : ℕ) (r : Bool) → list_any p (range_with_len m (n - m)) ≡ r → m < n → p m ≡ false → list_any p (range_with_len (m + 1) (n - (m + 1))) ≡ r
any_step p m n r h l e =
    let rest : Bool = list_any p (range_with_len (m + 1) (n - (m + 1))) in
    let s : (p m || rest) ≡ r = rw (range_here m n l) at h in
    ap (λ b. b || rest) (sym e) ∙ s

-- one more addend of a total that was small
pub near_more : (k : ℕ) (n m : ℤ) → Near k n → Near 1 m → Near (k + 1) (n +ℤ m)
near_more k n m h l = (omega (arith, ints, h.0, l.0), omega (arith, ints, h.1, l.1))

pub near_fits : (k j : ℕ) (n : ℤ) → k ≤ j → Near k n → Near j n
near_fits k j n l h = (omega (arith, ints, h.0), omega (arith, ints, h.1))

pub near_gated : (b : Bool) (n : ℤ) → Near 1 n → Near 1 (if b then n else pos 0)
near_gated true n h = h
near_gated false n h = (omega (arith, ints), omega (arith, ints))

tables_count : (w : World) (families : List Family) (tables : List (List ℤ)) → are_tables w families tables ≡ true → length families ≡ length tables
tables_count w [] [] h = refl
tables_count w [] (t ∷ tables) h = cc
tables_count w (f ∷ families) [] h = cc
tables_count w (f ∷ families) (t ∷ tables) h = ap suc (tables_count w families tables (and_parts (is_table w f t) (are_tables w families tables) h).1)

module _ (w : World) where
  pub same_tables : are_tables w w.givens w.tables ≡ true → length w.givens ≡ length w.tables
  same_tables h = tables_count w w.givens w.tables h

  pub compares_as : (schedule : List ℤ) (c : Comparison) (a b : ℤ) → compares c a b ≡ comparison_truth (size_of w) (on_schedule w schedule) c a b
  compares_as schedule Le a b = refl
  compares_as schedule Lt a b = refl
  compares_as schedule Ge a b = refl
  compares_as schedule Gt a b = refl
  compares_as schedule Eq a b = refl
  compares_as schedule Ne a b = refl
  compares_as schedule Same a b = refl
  compares_as schedule Other a b = refl

module _ (e : Evaluator) (vars : List ℕ) where
  abbrev w : World
  w = world_in e

  abbrev schedule : List ℤ
  schedule = e.schedule.now

  -- the value of a term, and the truth of a formula, by the form of either
  pub returned : (t u : Term) (z : ℤ) → mag z < 2 ^ 63 → t ≡ u → z ≡ value_in e u vars → to_z w64 (of_z w64 z) ≡ value_in e t vars
  returned t u z fits same is = kept z fits ∙ is ∙ ap (λ (x : Term). value_in e x vars) (sym same)

  pub answered : (p q : Formula) (b : Bool) → p ≡ q → b ≡ truth_in e q vars → b ≡ truth_in e p vars
  answered p q b same is = is ∙ ap (λ (x : Formula). truth_in e x vars) (sym same)

  pub given_value : (f : ℕ) (args : List Term) (at : ℕ) → place (sizes_of w (given_of w f)) (values_in e args vars) ≡ Some at → slice_index_or (table_of w f) at (pos 0) ≡ value_in e (term.Given f args) vars
  given_value f args at h = sym (value_on-Given w schedule vars f args ∙ ap (λ o. lookup (table_of w f) o (pos 0)) h)

  pub choice_value : (x : ℕ) (args : List Term) (at : ℕ) → place (sizes_of w (choice_of w x)) (values_in e args vars) ≡ Some at → slice_index_or schedule (offset w x + at) (pos 0) ≡ value_in e (term.Choice x args) vars
  choice_value x args at h = sym (value_on-Choice w schedule vars x args ∙ ap (λ o. lookup schedule (option_map (λ p. offset w x + p) o) (pos 0)) h)

  -- the value of an operation on two parts, from the numbers that the machine kept of them
  module _ (parts : List Term) (a b : ℤ) (h : values_in e parts vars ≡ a ∷ b ∷ []) (fits : SFits w64 a) (fits_too : SFits w64 b) where
    both_kept : (f : ℤ → ℤ → ℤ) → f (to_z w64 (of_z w64 a)) (to_z w64 (of_z w64 b)) ≡ of_two f (pos 0) (values_in e parts vars)
    both_kept f = rw (to_z-of_z w64 a fits, to_z-of_z w64 b fits_too) (sym (ap (of_two f (pos 0)) h))

    pub sub_value : to_z w64 (of_z w64 a) -ℤ to_z w64 (of_z w64 b) ≡ value_in e (term.Sub parts) vars
    sub_value = both_kept ◌-ℤ◌ ∙ sym (value_on-Sub w schedule vars parts)

    pub mul_value : to_z w64 (of_z w64 a) *ℤ to_z w64 (of_z w64 b) ≡ value_in e (term.Mul parts) vars
    mul_value = both_kept ◌*ℤ◌ ∙ sym (value_on-Mul w schedule vars parts)

    pub min_value : int_min (to_z w64 (of_z w64 a)) (to_z w64 (of_z w64 b)) ≡ value_in e (term.Min parts) vars
    min_value = both_kept int_min ∙ sym (value_on-Min w schedule vars parts)

    pub max_value : int_max (to_z w64 (of_z w64 a)) (to_z w64 (of_z w64 b)) ≡ value_in e (term.Max parts) vars
    max_value = both_kept int_max ∙ sym (value_on-Max w schedule vars parts)

  pub compare_value : (c : Comparison) (a b : Term) → compares c (value_in e a vars) (value_in e b vars) ≡ truth_in e (formula.Compare c a b) vars
  compare_value c a b = compares_as w schedule c (value_in e a vars) (value_in e b vars) ∙ sym (truth_on-Compare w schedule vars c a b)

  pub sum_begins : (i : ℕ) (p : Formula) (a : Term) (n : ℕ) → n ≡ size_of w i
      → fold ◌+ℤ◌ (pos 0) (map (λ m. if truth_in e p (vars ++ m ∷ []) then value_in e a (vars ++ m ∷ []) else pos 0) (range_with_len 0 (n - 0))) ≡ value_in e (term.Sum i p a) vars
  sum_begins i p a n h =
      let same : n - 0 ≡ size_of w i = omega (arith, h) in
      ap (λ k. fold ◌+ℤ◌ (pos 0) (map (λ m. if truth_in e p (vars ++ m ∷ []) then value_in e a (vars ++ m ∷ []) else pos 0) (range_with_len 0 k))) same
      ∙ sym (value_on-Sum w schedule vars i p a)

  -- ---- arguments

  pub as_many : (indexes : List ℕ) (args : List Term) → AreMembers (map (size_of w) indexes) (values_in e args vars) → length indexes ≡ length args
  as_many indexes args h =
      sym (length-map indexes (size_of w)) ∙ pairs_length (λ n m. is_in n m ≡ true) (map (size_of w) indexes) (values_in e args vars) h
      ∙ length-map args (λ t. value_in e t vars)

  pub member_at : (indexes : List ℕ) (args : List Term) (i : ℕ) (t : Term) → AreMembers (map (size_of w) indexes) (values_in e args vars) → i < length args → t ≡ slice_index_or args i t
      → (pos 0 ≤ℤ value_in e t vars) × (value_in e t vars <ℤ pos most_members)
  member_at indexes [] i t h l s = absurd (omega arith)
  member_at [] (u ∷ args) i t h l s = absurd h
  member_at (j ∷ indexes) (u ∷ args) zero t h l s =
      let v = value_in e u vars in
      let both = and_parts (int_le (pos 0) v) (int_lt v (pos (size_of w j))) h.0 in
      let low = int_le_yes (pos 0) v both.0 in
      let high = int_lt_yes v (pos (size_of w j)) both.1 in
      let few = values.few e.schema.now e.inst.now e.schedule.now e.valid e.stands j in
      subst (λ (x : Term). (pos 0 ≤ℤ value_in e x vars) × (value_in e x vars <ℤ pos most_members)) (sym s) (low, omega (arith, ints, high, few))
  member_at (j ∷ indexes) (u ∷ args) (suc i) t h l s = member_at indexes args i t h.1 (omega arith) s

  one_place : (n : ℕ) (v : ℤ) → is_in n v ≡ true → place (n ∷ []) (v ∷ []) ≡ Some (nat_abs v)
  one_place n v h = rw h (let same : nat_abs v * 1 + 0 ≡ nat_abs v = omega arith in ap (λ k. Some k) same)

  pair_place : (n m : ℕ) (v u : ℤ) → is_in n v ≡ true → is_in m u ≡ true → place (n ∷ m ∷ []) (v ∷ u ∷ []) ≡ Some (nat_abs v * m + nat_abs u)
  pair_place n m v u h k =
      let one : m * 1 ≡ m = omega arith in
      let last : nat_abs u * 1 + 0 ≡ nat_abs u = omega arith in
      rw (h, k) (ap (λ c. Some (nat_abs v * c + (nat_abs u * 1 + 0))) one ∙ ap (λ c. Some (nat_abs v * m + c)) last)

  pub place_of_one : (indexes : List ℕ) (args : List Term) (t : Term) → AreMembers (map (size_of w) indexes) (values_in e args vars) → length indexes ≡ 1 → t ≡ slice_index_or args 0 t
      → place (map (size_of w) indexes) (values_in e args vars) ≡ Some (nat_abs (value_in e t vars))
  place_of_one [] args t h l s = absurd (omega (arith, l))
  place_of_one (i ∷ []) [] t h l s = absurd h
  place_of_one (i ∷ []) (u ∷ []) t h l s = one_place (size_of w i) (value_in e u vars) h.0 ∙ ap (λ (x : Term). Some (nat_abs (value_in e x vars))) (sym s)
  place_of_one (i ∷ []) (u ∷ (v ∷ args)) t h l s = absurd h.1
  place_of_one (i ∷ (j ∷ indexes)) args t h l s = absurd (omega (arith, l))

  pub place_of_two : (indexes : List ℕ) (args : List Term) (t u : Term) → AreMembers (map (size_of w) indexes) (values_in e args vars) → length indexes ≡ 2 → t ≡ slice_index_or args 0 t → u ≡ slice_index_or args 1 u
      → place (map (size_of w) indexes) (values_in e args vars) ≡ Some (nat_abs (value_in e t vars) * size_of w (slice_index_or indexes 1 0) + nat_abs (value_in e u vars))
  place_of_two [] args t u h l r s = absurd (omega (arith, l))
  place_of_two (i ∷ []) args t u h l r s = absurd (omega (arith, l))
  place_of_two (i ∷ (j ∷ [])) [] t u h l r s = absurd h
  place_of_two (i ∷ (j ∷ [])) (a ∷ []) t u h l r s = absurd h.1
  place_of_two (i ∷ (j ∷ [])) (a ∷ (b ∷ [])) t u h l r s =
      pair_place (size_of w i) (size_of w j) (value_in e a vars) (value_in e b vars) h.0 h.1.0
      ∙ ap (λ (x : Term). Some (nat_abs (value_in e x vars) * size_of w j + nat_abs (value_in e b vars))) (sym r)
      ∙ ap (λ (x : Term). Some (nat_abs (value_in e t vars) * size_of w j + nat_abs (value_in e x vars))) (sym s)
  place_of_two (i ∷ (j ∷ [])) (a ∷ (b ∷ (c ∷ args))) t u h l r s = absurd h.1.1
  place_of_two (i ∷ (j ∷ (k ∷ indexes))) args t u h l r s = absurd (omega (arith, l))
