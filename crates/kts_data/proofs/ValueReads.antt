-- What a file says of values of their type is read, in the same way for members that are the same.
use Rattle.std.proofs.Common.{◌≡◌, refl, sym, ◌∙◌, ap, ℕ, ◌+◌, ◌<◌, List, [], ◌∷◌, ◌++◌, length, true, ◌&&◌, Some, Ok, Err, ℤ, int_le, append_assoc, append-nil}
use Rattle.std.specs.Prelude.{option_and_then, slice_get}
use Rattle.std.specs.List.{list_all}
use Rattle.std.proofs.lemmas.Bool.{and_parts}
use Rattle.std.proofs.lemmas.List.Folds.{list_all-append}
use Rattle.serde_json.specs.Data.{Data}
use Rattle.serde_json.specs.Find.{as_str, as_number, as_i64}
use Rattle.kts_base.specs.Names.{is_name}
use Rattle.kts_base.specs.Reads.{and_then}
use Rattle.kts_base.proofs.Orders.{nat_lt_yes}
use Rattle.kts_spec.specs.declared.declarations.Family.{Family}
use Rattle.kts_spec.specs.declared.declarations.ValueType.{ValueType}
use Rattle.kts_spec.specs.declared.declarations.ValueType.TheVariants.{Int, Member}
use Rattle.kts_spec.specs.Data.{is_value}
use Rattle.kts_spec.specs.Names.{is_distinct}
use Rattle.kts_spec.specs.Schemas.{is_type}
use Rattle.kts_spec.specs.Worlds.{World}
use Rattle.kts_data.specs.Faults.{Read, fault, or_fault, fold_read}
use Rattle.kts_data.specs.Files.{SaysValue, SaysValues, SaysRows, no_row, row}
use Rattle.kts_data.specs.Instances.{members_at, in_range, place_in, value_of, with_value, with_row}
use Rattle.kts_data.specs.Json.{so_many}
use Rattle.kts_data.specs.declared.fault.Reason.TheVariants.{NotText, NotWhole, UnknownMember}
use Rattle.kts_data.proofs.NamePlaces.{place_complete}
use Rattle.kts_data.proofs.ReadParts.{then_from, or_fault_from, test_from, fold_from, fold_end, fold_same}
use Rattle.kts_data.proofs.ValueLaws.{so_many_complete}

-- the members of an index are distinct and have names
pub record AreGood (names : List (List ℕ)) : Type 0 where
  pub named : (m : ℕ) (name : List ℕ) → slice_get names m ≡ Some name → is_name name ≡ true
  pub distinct : is_distinct names ≡ true

-- ---- what is said is read

module _ (w : World) (members : List (List (List ℕ))) (good : (i : ℕ) → AreGood (members_at members i)) where
  -- a value of its type that the file says is read
  pub value_complete : (name : List ℕ) (kind : ValueType) (e : ℕ) (d : Data) (v : ℤ) → SaysValue members kind d v → is_value w kind v ≡ true
      → value_of members name kind e d ≡ Ok v
  unfolding value_of
  value_complete name (Int lo hi) e d v says t =
      then_from (or_fault (option_and_then as_i64 (as_number d)) (fault (Some name) e NotWhole)) (in_range name lo hi e) v
      (or_fault_from (option_and_then as_i64 (as_number d)) (fault (Some name) e NotWhole) v says)
      ∙ test_from (int_le lo v && int_le v hi) (Ok v) _ t
  value_complete name (Member i) e d v (m, text, is, stands, says) t =
      then_from (or_fault (as_str d) (fault (Some name) e NotText))
      (λ text. or_fault (place_in (members_at members i) text) (fault (Some name) e UnknownMember)) text
      (or_fault_from (as_str d) (fault (Some name) e NotText) text says)
      ∙ or_fault_from (place_in (members_at members i) text) (fault (Some name) e UnknownMember) v
      (place_complete (members_at members i) text m ((good i).named m text stands) (good i).distinct stands ∙ ap (λ v. Some v) (sym is))

  -- such a value is read after those before it
  value_on : (family : Family) (before : List ℤ) (d : Data) (v : ℤ) → SaysValue members family.kind d v → is_value w family.kind v ≡ true
      → with_value members family before d ≡ Ok (before ++ v ∷ [])
  unfolding with_value
  value_on family before d v says t =
      then_from (value_of members family.name family.kind (length before) d) (λ v. Ok (before ++ v ∷ [])) v
      (value_complete family.name family.kind (length before) d v says t)

  -- values of their type that the file says are read
  pub values_complete : (family : Family) (before : List ℤ) (ds : List Data) (more : List ℤ) → SaysValues members family.kind ds more
      → list_all (is_value w family.kind) more ≡ true → fold_read (with_value members family) before ds ≡ Ok (before ++ more)
  values_complete family before [] [] says t = fold_end (with_value members family) before ∙ ap (λ vs. Ok vs) (sym (append-nil before))
  values_complete family before [] (v ∷ more) says t = absurd says
  values_complete family before (d ∷ ds) [] says t = absurd says
  values_complete family before (d ∷ ds) (v ∷ more) says t =
      let both = and_parts (is_value w family.kind v) (list_all (is_value w family.kind) more) t in
      fold_from (with_value members family) before d ds (before ++ v ∷ []) (value_on family before d v says.0 both.0)
      ∙ values_complete family (before ++ v ∷ []) ds more says.1 both.1
      ∙ ap (λ vs. Ok vs) (append_assoc before (v ∷ []) more)

  -- a row of such values is read after those before it
  row_on : (family : Family) (width r : ℕ) (before : List ℤ) (d : Data) (ds : List Data) (values : List ℤ) → so_many family.name r width d ≡ Ok ds
      → fold_read (with_value members family) before ds ≡ Ok (before ++ values)
      → with_row members family width (r, before) d ≡ Ok (r + 1, before ++ values)
  unfolding with_row
  row_on family width r before d ds values many all =
      then_from (so_many family.name r width d) (λ row. and_then (fold_read (with_value members family) before row) (λ all. Ok (r + 1, all))) ds many
      ∙ then_from (fold_read (with_value members family) before ds) (λ all. Ok (r + 1, all)) (before ++ values) all

  -- rows of values of their type that the file says are read
  pub rows_complete : (family : Family) (width r : ℕ) (before : List ℤ) (rows : List Data) (more : List ℤ)
      → SaysRows members family.kind width rows more → list_all (is_value w family.kind) more ≡ true
      → (s : ℕ) × (fold_read (with_row members family width) (r, before) rows ≡ Ok (s, before ++ more))
  rows_complete family width r before _ _ no_row t = (
    r,
    fold_end (with_row members family width) (r, before) ∙ ap (λ vs. Ok (r, vs))
        (sym (append-nil before)),
  )
  rows_complete family width r before _ _ (row d ds rows values more list long says rest) t =
      let both = and_parts (list_all (is_value w family.kind) values) (list_all (is_value w family.kind) more)
      (sym (list_all-append (is_value w family.kind) values more) ∙ t) in
      let one = row_on family width r before d ds values (so_many_complete family.name r width d ds list long)
      (values_complete family before ds values says both.0) in
      let later = rows_complete family width (r + 1) (before ++ values) rows more rest both.1 in (
        later.0,
        fold_from (with_row members family width) (r, before) d rows (r + 1, before ++ values) one ∙ later.1 ∙ ap (λ vs. Ok (later.0, vs))
            (append_assoc before values more),
      )

-- ---- members that are the same

-- the values so far beside the number of rows
abbrev counted : ℕ → Read (List ℤ) → Read (ℕ × List ℤ)
counted r o = and_then o (λ all. Ok (r + 1, all))

module _ (xs ys : List (List (List ℕ))) (k : ℕ) (same : (i : ℕ) → i < k → members_at xs i ≡ members_at ys i) where
  -- a value of a type over the first indexes is read alike
  pub value_same : (name : List ℕ) (kind : ValueType) (e : ℕ) (d : Data) → is_type k kind ≡ true
      → value_of xs name kind e d ≡ value_of ys name kind e d
  unfolding value_of
  value_same name (Int lo hi) e d t = refl
  value_same name (Member i) e d t =
      ap (λ names. and_then (or_fault (as_str d) (fault (Some name) e NotText))
      (λ text. or_fault (place_in names text) (fault (Some name) e UnknownMember))) (same i (nat_lt_yes i k t))

  -- after those before it too
  pub step_same : (family : Family) → is_type k family.kind ≡ true → (before : List ℤ) (d : Data)
      → with_value xs family before d ≡ with_value ys family before d
  unfolding with_value
  step_same family t before d = ap (λ r. and_then r (λ v. Ok (before ++ v ∷ []))) (value_same family.name family.kind (length before) d t)

  -- and so are values one after another
  pub values_same : (family : Family) → is_type k family.kind ≡ true → (before : List ℤ) (ds : List Data)
      → fold_read (with_value xs family) before ds ≡ fold_read (with_value ys family) before ds
  values_same family t before ds = fold_same (with_value xs family) (with_value ys family) (step_same family t) before ds

  -- and a row of values
  pub row_same : (family : Family) (width : ℕ) → is_type k family.kind ≡ true → (s : ℕ × List ℤ) (d : Data)
      → with_row xs family width s d ≡ with_row ys family width s d
  unfolding with_row
  row_same family width t (r, before) d = by (so_many family.name r width d)
    where
      by : (o : Read (List Data))
          → and_then o (λ row. counted r (fold_read (with_value xs family) before row)) ≡ and_then o
          (λ row. counted r (fold_read (with_value ys family) before row))
      by (Ok ds) = ap (counted r) (values_same family t before ds)
      by (Err e) = refl
