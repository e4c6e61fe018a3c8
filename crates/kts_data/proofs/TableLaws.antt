-- The values of a family are read where the file says them, and they are a table of its type.
use Rattle.std.proofs.Common.{◌≡◌, refl, sym, ◌∙◌, ap, subst, ℕ, suc, ◌+◌, ◌*◌, ◌<◌, ◌≤◌, arith, List, [], ◌∷◌, length, map, true, nat_le, nat_lt, nat_eq, Ok, Err, ℤ, length-append}
use Rattle.std.specs.List.{list_all}
use Rattle.std.proofs.lemmas.Bool.{and_parts, and_from}
use Rattle.serde_json.specs.Data.{Data}
use Rattle.kts_base.specs.Limits.{most_arguments}
use Rattle.kts_base.specs.Reads.{and_then}
use Rattle.kts_base.proofs.Orders.{nat_le_yes, nat_lt_yes}
use Rattle.kts_spec.specs.declared.declarations.Family.{Family}
use Rattle.kts_spec.specs.declared.declarations.ValueType.{ValueType}
use Rattle.kts_spec.specs.Data.{is_value, is_table}
use Rattle.kts_spec.specs.Places.{count_of}
use Rattle.kts_spec.specs.Schemas.{is_family, is_type}
use Rattle.kts_spec.specs.Worlds.{World, size_of, sizes_of}
use Rattle.kts_data.specs.Faults.{Read, fold_read}
use Rattle.kts_data.specs.Files.{SaysValue, SaysValues, SaysRows, SaysTable, no_row, row}
use Rattle.kts_data.specs.Instances.{members_at, size_at, with_value, with_row, table_by, table_of}
use Rattle.kts_data.specs.Json.{so_many}
use Rattle.kts_data.proofs.PairPlaces.{pairs_length}
use Rattle.kts_data.proofs.ReadParts.{same_ok, then_parts, then_from, fold_parts, fold_from, fold_end, fold_same}
use Rattle.kts_data.proofs.ValueLaws.{number_is_same, so_many_sound, so_many_complete, values_sound, rows_sound}
use Rattle.kts_data.proofs.ValueReads.{AreGood, values_complete, rows_complete, step_same, values_same, row_same}

-- the parts of a family's condition
family_parts : (k : ℕ) (family : Family) → is_family k family ≡ true
    → (length family.args ≤ most_arguments) × (list_all (λ i. nat_lt i k) family.args ≡ true) × (is_type k family.kind ≡ true)
family_parts k family h =
    let two = and_parts _ (is_type k family.kind) h in
    let one = and_parts (nat_le (length family.args) most_arguments) (list_all (λ i. nat_lt i k) family.args) two.0 in
    (nat_le_yes (length family.args) most_arguments one.0, one.1, two.1)

-- ---- what is read

module _ (w : World) (members : List (List (List ℕ))) (sizes : (i : ℕ) → size_of w i ≡ size_at members i) where
  -- what is read of a table
  record TableRead (kind : ValueType) (args : List ℕ) (d : Data) (values : List ℤ) : Type 0 where
    says : SaysTable members kind args d values
    long : length values ≡ count_of (map (size_of w) args)
    fit : list_all (is_value w kind) values ≡ true

  -- what is read of a family with one argument
  one_list : (family : Family) (i : ℕ) (d : Data) (values : List ℤ) → table_by members family (i ∷ []) d ≡ Ok values
      → TableRead family.kind (i ∷ []) d values
  unfolding table_by
  one_list family i d values h =
      let p = then_parts (so_many family.name 0 (size_at members i) d) (fold_read (with_value members family) []) values h in
      let l = so_many_sound family.name 0 (size_at members i) d p.0 p.1 in
      let r = values_sound w members sizes family [] p.0 values p.2 in
      let same : r.more ≡ values = sym r.is in
      let size = sizes i in
      let count : length r.more ≡ size_of w i * 1 = let once : size_of w i * 1 ≡ size_of w i = omega arith in r.long ∙ l.1 ∙ sym size ∙ sym once in
      record {
        says = (p.0, l.0, l.1, subst (SaysValues members family.kind p.0) same r.says);
        long = subst (λ vs. length vs ≡ size_of w i * 1) same count;
        fit = subst (λ vs. list_all (is_value w family.kind) vs ≡ true) same r.fit;
      }

  -- what is read of a family with two
  two_lists : (family : Family) (i j : ℕ) (d : Data) (values : List ℤ) → table_by members family (i ∷ j ∷ []) d ≡ Ok values
      → TableRead family.kind (i ∷ j ∷ []) d values
  unfolding table_by
  two_lists family i j d values h =
      let p = then_parts (so_many family.name 0 (size_at members i) d)
      (λ rows. and_then (fold_read (with_row members family (size_at members j)) (0, []) rows) (λ all. Ok all.1)) values h in
      let q = then_parts (fold_read (with_row members family (size_at members j)) (0, []) p.0) (λ all. Ok all.1) values p.2 in
      let l = so_many_sound family.name 0 (size_at members i) d p.0 p.1 in
      let r = rows_sound w members sizes family (size_at members j) 0 [] p.0 q.0 q.1 in
      let same : r.more ≡ values = sym r.is ∙ same_ok q.0.1 values q.2 in
      let once : size_of w j * 1 ≡ size_of w j = omega arith in
      let count : length r.more ≡ size_of w i * (size_of w j * 1) =
      r.long ∙ ap (λ n. n * size_at members j) (l.1 ∙ sym (sizes i)) ∙ ap (λ n. size_of w i * n) (sym (once ∙ sizes j)) in
      record {
        says = (p.0, l.0, l.1, subst (SaysRows members family.kind (size_at members j) p.0) same r.says);
        long = subst (λ vs. length vs ≡ size_of w i * (size_of w j * 1)) same count;
        fit = subst (λ vs. list_all (is_value w family.kind) vs ≡ true) same r.fit;
      }

  -- what is read of a family with none
  one_value : (family : Family) (d : Data) (values : List ℤ) → table_by members family [] d ≡ Ok values → TableRead family.kind [] d values
  unfolding table_by
  one_value family d values h =
      let r = values_sound w members sizes family [] (d ∷ []) values
      (fold_from (with_value members family) [] d [] values h ∙ fold_end (with_value members family) values) in
      let same : r.more ≡ values = sym r.is in
      record {
        says = subst (SaysValues members family.kind (d ∷ [])) same r.says;
        long = subst (λ vs. length vs ≡ 1) same r.long;
        fit = subst (λ vs. list_all (is_value w family.kind) vs ≡ true) same r.fit;
      }

  -- what is read of a family by its arguments
  by_args : (family : Family) (args : List ℕ) (d : Data) (values : List ℤ) → length args ≤ most_arguments
      → table_by members family args d ≡ Ok values → TableRead family.kind args d values
  by_args family [] d values few h = one_value family d values h
  by_args family (i ∷ []) d values few h = one_list family i d values h
  by_args family (i ∷ j ∷ []) d values few h = two_lists family i j d values h
  by_args family (i ∷ j ∷ k ∷ more) d values few h = absurd (omega arith)

  -- the values that are read of a family are those that the file says, and they are a table of it
  pub table_sound : (k : ℕ) (family : Family) (d : Data) (values : List ℤ) → is_family k family ≡ true → table_of members family d ≡ Ok values
      → SaysTable members family.kind family.args d values × (is_table w family values ≡ true)
  table_sound k family d values f h =
      let r = by_args family family.args d values (family_parts k family f).0 h in (
        r.says,
        and_from (nat_eq (length values) (count_of (sizes_of w family))) (list_all (is_value w family.kind) values)
            (number_is_same (length values) (count_of (sizes_of w family)) r.long) r.fit,
      )

-- ---- what is said

module _ (w : World) (members : List (List (List ℕ))) (good : (i : ℕ) → AreGood (members_at members i)) where
  -- values of their type that the file says are read, by the arguments
  said_by_args : (family : Family) (args : List ℕ) (d : Data) (values : List ℤ) → SaysTable members family.kind args d values
      → list_all (is_value w family.kind) values ≡ true → table_by members family args d ≡ Ok values
  unfolding table_by
  said_by_args family [] d values says fit =
      let p = fold_parts (with_value members family) [] d [] values (values_complete w members good family [] (d ∷ []) values says fit) in
      p.1 ∙ sym (fold_end (with_value members family) p.0) ∙ p.2
  said_by_args family (i ∷ []) d values (ds, list, long, says) fit =
      then_from (so_many family.name 0 (size_at members i) d) (fold_read (with_value members family) []) ds
      (so_many_complete family.name 0 (size_at members i) d ds list long)
      ∙ values_complete w members good family [] ds values says fit
  said_by_args family (i ∷ j ∷ []) d values (ds, list, long, says) fit =
      let r = rows_complete w members good family (size_at members j) 0 [] ds values says fit in
      then_from (so_many family.name 0 (size_at members i) d) (λ rows. and_then
      (fold_read (with_row members family (size_at members j)) (0, []) rows) (λ all. Ok all.1)) ds
      (so_many_complete family.name 0 (size_at members i) d ds list long)
      ∙ then_from (fold_read (with_row members family (size_at members j)) (0, []) ds) (λ all. Ok all.1) (r.0, values) r.1
  said_by_args family (i ∷ j ∷ k ∷ more) d values says fit = ap (λ vs. Ok vs) (sym says)

  -- a table of a family that the file says is read
  pub table_complete : (family : Family) (d : Data) (values : List ℤ) → SaysTable members family.kind family.args d values
      → is_table w family values ≡ true → table_of members family d ≡ Ok values
  table_complete family d values says t =
      said_by_args family family.args d values says (and_parts (nat_eq (length values) (count_of (sizes_of w family)))
      (list_all (is_value w family.kind) values) t).1

-- ---- how many are said

-- rows have so many values each
rows_long : (members : List (List (List ℕ))) (kind : ValueType) (width : ℕ) (rows : List Data) (values : List ℤ)
    → SaysRows members kind width rows values → length values ≡ length rows * width
rows_long members kind width _ _ no_row = omega arith
rows_long members kind width _ _ (row d ds rows values more list long says rest) =
    let one = pairs_length (SaysValue members kind) ds values says in
    let later = rows_long members kind width rows more rest in
    let sum = length-append values more in
    let times : width + length rows * width ≡ suc (length rows) * width = omega arith in
    omega (arith, one, long, later, sum, times)

-- a table that the file says has one value for each tuple
pub table_long : (w : World) (members : List (List (List ℕ))) → ((i : ℕ) → size_of w i ≡ size_at members i)
    → (k : ℕ) (family : Family) (d : Data) (values : List ℤ) → is_family k family ≡ true → SaysTable members family.kind family.args d values
    → length values ≡ count_of (sizes_of w family)
table_long w members sizes k family d values f says = by family.args (family_parts k family f).0 says
  where
    by : (args : List ℕ) → length args ≤ most_arguments → SaysTable members family.kind args d values
        → length values ≡ count_of (map (size_of w) args)
    by [] few h = sym (pairs_length (SaysValue members family.kind) (d ∷ []) values h)
    by (i ∷ []) few (ds, list, long, said) =
        let size = sizes i in
        let one = pairs_length (SaysValue members family.kind) ds values said in
        let once : size_of w i * 1 ≡ size_of w i = omega arith in
        sym one ∙ long ∙ sym size ∙ sym once
    by (i ∷ j ∷ []) few (ds, list, long, said) =
        let once : size_of w j * 1 ≡ size_of w j = omega arith in
        rows_long members family.kind (size_at members j) ds values said ∙ ap (λ n. n * size_at members j) (long ∙ sym (sizes i))
        ∙ ap (λ n. size_of w i * n) (sym (once ∙ sizes j))
    by (i ∷ j ∷ l ∷ more) few h = absurd (omega arith)

-- ---- members that are the same

-- the values without the number of rows
abbrev values_only : Read (ℕ × List ℤ) → Read (List ℤ)
values_only o = and_then o (λ all. Ok all.1)

module _ (xs ys : List (List (List ℕ))) (k : ℕ) (same : (i : ℕ) → i < k → members_at xs i ≡ members_at ys i) where
  -- the same by the arguments
  same_by_args : (family : Family) (args : List ℕ) (d : Data) → is_type k family.kind ≡ true → list_all (λ i. nat_lt i k) args ≡ true
      → table_by xs family args d ≡ table_by ys family args d
  unfolding table_by
  same_by_args family [] d t a = step_same xs ys k same family t [] d
  same_by_args family (i ∷ []) d t a =
      let size : size_at xs i ≡ size_at ys i = ap (λ ns. length ns) (same i (nat_lt_yes i k (and_parts (nat_lt i k) true a).0)) in
      ap (λ n. and_then (so_many family.name 0 n d) (fold_read (with_value xs family) [])) size
      ∙ after (so_many family.name 0 (size_at ys i) d)
    where
      after : (o : Read (List Data)) → and_then o (fold_read (with_value xs family) []) ≡ and_then o (fold_read (with_value ys family) [])
      after (Ok ds) = values_same xs ys k same family t [] ds
      after (Err e) = refl
  same_by_args family (i ∷ j ∷ []) d t a =
      let both = and_parts (nat_lt i k) (list_all (λ i. nat_lt i k) (j ∷ [])) a in
      let first : size_at xs i ≡ size_at ys i = ap (λ ns. length ns) (same i (nat_lt_yes i k both.0)) in
      let second : size_at xs j ≡ size_at ys j = ap (λ ns. length ns) (same j (nat_lt_yes j k (and_parts (nat_lt j k) true both.1).0)) in
      ap (λ n. and_then (so_many family.name 0 n d) (λ rows. values_only (fold_read (with_row xs family (size_at xs j)) (0, []) rows))) first
      ∙ ap (λ n. and_then (so_many family.name 0 (size_at ys i) d) (λ rows. values_only (fold_read (with_row xs family n) (0, []) rows))) second
      ∙ after (so_many family.name 0 (size_at ys i) d)
    where
      after : (o : Read (List Data))
          → and_then o (λ rows. values_only (fold_read (with_row xs family (size_at ys j)) (0, []) rows)) ≡ and_then o
          (λ rows. values_only (fold_read (with_row ys family (size_at ys j)) (0, []) rows))
      after (Ok rows) = ap values_only (fold_same (with_row xs family (size_at ys j)) (with_row ys family (size_at ys j))
          (row_same xs ys k same family (size_at ys j) t) (0, []) rows)
      after (Err e) = refl
  same_by_args family (i ∷ j ∷ l ∷ more) d t a = refl

  -- a family over the first indexes reads alike of members that agree there
  pub table_same : (family : Family) (d : Data) → is_family k family ≡ true → table_of xs family d ≡ table_of ys family d
  table_same family d f = let p = family_parts k family f in same_by_args family family.args d p.2 p.1
