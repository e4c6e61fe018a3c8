-- An access to a family at members gives a value of its type.
use Rattle.std.proofs.Common.{◌≡◌, sym, ◌∙◌, ap, subst, ℕ, zero, suc, ◌+◌, ◌<◌, ◌≤◌, List, [], ◌∷◌, length, map, Bool, true, Some, slice_get, slice_index, slice_index_or, ℤ, pos, nat_abs, int_le, int_lt, nat_le, nat_eq, arith}
use Rattle.std.specs.List.{list_all}
use Rattle.std.proofs.lemmas.Bool.{and_parts}
use Rattle.std.proofs.lemmas.Option.{slice_get_within, get_or_from_slice_get}
use Rattle.kts_base.proofs.Orders.{int_le_yes, int_lt_yes, nat_le_yes}
use Rattle.kts_base.specs.Limits.{most_members}
use Rattle.kts_spec.specs.declared.declarations.ValueType.{ValueType}
use Rattle.kts_spec.specs.declared.declarations.ValueType.TheVariants.{Int, Member}
use Rattle.kts_spec.specs.declared.declarations.Family.{Family}
use Rattle.kts_spec.specs.Data.{is_value, is_table, are_tables, are_members_valid}
use Rattle.kts_spec.specs.Names.{is_distinct}
use Rattle.kts_spec.specs.Places.{count_of, place, offset, cell, entry, lookup}
use Rattle.kts_spec.specs.Related.{Pairs}
use Rattle.kts_spec.specs.Schedules.{cells}
use Rattle.kts_spec.specs.Schemas.{no_family}
use Rattle.kts_spec.specs.TypedValues.{IsOfKind}
use Rattle.kts_spec.specs.Typing.{kind_of_type}
use Rattle.kts_spec.specs.Worlds.{World, size_of, sizes_of, given_of, choice_of, table_of}
use Rattle.kts_spec.proofs.CellPlaces.{cell_of, cell_at, number_at, table_fits}
use Rattle.kts_spec.proofs.Conditions.{same_number}
use Rattle.kts_spec.proofs.TypedData.{Suits}
use Rattle.kts_spec.proofs.TuplePlaces.{has_place, tuple_at}
use Rattle.kts_spec.specs.CellOrder.{AreMembers}

-- an item beside one of a list
pair_at : {X : Type 0} (P : X → ℤ → Type 0) (xs : List X) (vs : List ℤ) (k : ℕ) (x : X) (d : ℤ) → Pairs P xs vs → slice_get xs k ≡ Some x → P x (slice_index_or vs k d)
pair_at P [] vs k x d h e = cc
pair_at P (y ∷ xs) [] k x d h e = absurd h
pair_at P (y ∷ xs) (v ∷ vs) zero x d h e = let same : y ≡ x = cc in subst (λ z. P z v) same h.0
pair_at P (y ∷ xs) (v ∷ vs) (suc k) x d h e = pair_at P xs vs k x d h.1 e

item_holds : {X : Type 0} (test : X → Bool) (xs : List X) (p : ℕ) (d : X) → list_all test xs ≡ true → p < length xs → test (slice_index_or xs p d) ≡ true
item_holds test [] p d h l = absurd (omega arith)
item_holds test (x ∷ xs) zero d h l = (and_parts (test x) (list_all test xs) h).0
item_holds test (x ∷ xs) (suc p) d h l = item_holds test xs p d (and_parts (test x) (list_all test xs) h).1 (omega arith)

module _ (w : World) where
  abbrev Holds : Family → ℤ → Type 0
  Holds f v = is_value w f.kind v ≡ true

  -- the value of a choice at members
  pub choice_fits : (schedule : List ℤ) (x : ℕ) (f : Family) (args : List ℤ) → Pairs (Suits w) (cells w) schedule → slice_get w.choices x ≡ Some f → AreMembers (sizes_of w f) args → Holds f (lookup schedule (cell w x args) (pos 0))
  choice_fits schedule x f args h e inside =
      let same : choice_of w x ≡ f = get_or_from_slice_get w.choices x f no_family e in
      let here = has_place (sizes_of w f) args inside in
      let place_is = ap (λ (u : Family). place (sizes_of w u) args) same ∙ here.is in
      let tuple = tuple_at (sizes_of w (choice_of w x)) args here.at place_is in
      let stands = cell_at w x here.at (map nat_abs args) (slice_get_within w.choices x f e) tuple in
      let suits = pair_at (Suits w) (cells w) schedule (offset w x + here.at) (cell_of w x (map nat_abs args)) (pos 0) h stands in
      subst (λ o. Holds f (lookup schedule o (pos 0))) (sym (number_at w x here.at args place_is))
      (subst (λ (u : Family). Holds u (slice_index_or schedule (offset w x + here.at) (pos 0))) same suits)

  -- the value of a given at members
  pub given_fits : (g : ℕ) (f : Family) (args : List ℤ) → are_tables w w.givens w.tables ≡ true → slice_get w.givens g ≡ Some f → AreMembers (sizes_of w f) args → Holds f (lookup (table_of w g) (entry w g args) (pos 0))
  given_fits g f args h e inside =
      let here = has_place (sizes_of w f) args inside in
      let same : given_of w g ≡ f = get_or_from_slice_get w.givens g f no_family e in
      let fits = subst (λ (u : Family). is_table w u (table_of w g) ≡ true) same (table_fits w w.givens w.tables g h (slice_get_within w.givens g f e)) in
      let table = and_parts (nat_eq (length (table_of w g)) (count_of (sizes_of w f))) (list_all (is_value w f.kind) (table_of w g)) fits in
      let count = same_number (length (table_of w g)) (count_of (sizes_of w f)) table.0 in
      let below = here.below in
      rw (same, here.is) (item_holds (is_value w f.kind) (table_of w g) here.at (pos 0) table.1 (omega arith))

  -- a value of a type is of its kind
  pub value_of_kind : (kind : ValueType) (v : ℤ) → is_value w kind v ≡ true → IsOfKind w (kind_of_type kind) v
  value_of_kind (Int lo hi) v h = let p = and_parts (int_le lo v) (int_le v hi) h in (int_le_yes lo v p.0, int_le_yes v hi p.1)
  value_of_kind (Member i) v h = let p = and_parts (int_le (pos 0) v) (int_lt v (pos (size_of w i))) h in (int_le_yes (pos 0) v p.0, int_lt_yes v (pos (size_of w i)) p.1)

-- an index has not too many members
pub few_members : (members : List (List (List ℕ))) (i : ℕ) → list_all are_members_valid members ≡ true → slice_index (map length members) i ≤ most_members
few_members [] i h = omega arith
few_members (names ∷ members) zero h =
    let both = and_parts (are_members_valid names) (list_all are_members_valid members) h in
    nat_le_yes (length names) most_members (and_parts (nat_le (length names) most_members) (is_distinct names) both.0).0
few_members (names ∷ members) (suc i) h = few_members members i (and_parts (are_members_valid names) (list_all are_members_valid members) h).1
