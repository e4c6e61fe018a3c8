-- A value, values in order and rows of values are read where the file says them and they are of their type.
use Rattle.std.proofs.Common.{◌≡◌, refl, sym, ◌∙◌, ap, subst, ℕ, suc, ◌+◌, ◌*◌, ◌<◌, arith, List, [], ◌∷◌, ◌++◌, length, Bool, true, false, ◌&&◌, nat_eq, Some, None, Ok, ℤ, int_le, append_assoc, append-nil, length-append}
use Rattle.std.specs.Prelude.{option_and_then, option_map, if◌then◌else◌}
use Rattle.std.specs.List.{list_all}
use Rattle.std.proofs.lemmas.Bool.{and_from}
use Rattle.std.proofs.lemmas.Bool.Decides.{nat_tests}
use Rattle.std.proofs.lemmas.List.Folds.{list_all-append}
use Rattle.serde_json.specs.Data.{Data}
use Rattle.serde_json.specs.Find.{as_array, as_str, as_number, as_i64}
use Rattle.kts_base.specs.Reads.{and_then}
use Rattle.kts_spec.specs.declared.declarations.Family.{Family}
use Rattle.kts_spec.specs.declared.declarations.ValueType.{ValueType}
use Rattle.kts_spec.specs.declared.declarations.ValueType.TheVariants.{Int, Member}
use Rattle.kts_spec.specs.Data.{is_value}
use Rattle.kts_spec.specs.Places.{is_in}
use Rattle.kts_spec.specs.Worlds.{World, size_of}
use Rattle.kts_spec.proofs.Conditions.{same_number}
use Rattle.kts_spec.proofs.TypedData.{member_in}
use Rattle.kts_data.specs.Faults.{fault, or_fault, fold_read}
use Rattle.kts_data.specs.Files.{IsList, SaysValue, SaysValues, SaysRows, no_row, row}
use Rattle.kts_data.specs.Instances.{members_at, size_at, in_range, place_in, value_of, with_value, with_row}
use Rattle.kts_data.specs.Json.{list_of, elements, so_many}
use Rattle.kts_data.specs.declared.fault.Reason.TheVariants.{NotList, NotText, NotWhole, OutOfRange, UnknownMember, WrongLength}
use Rattle.kts_data.proofs.NamePlaces.{place_sound}
use Rattle.kts_data.proofs.ReadParts.{same_ok, then_parts, then_from, or_fault_parts, or_fault_from, test_parts, fold_parts, fold_end}

-- equal numbers pass the test of equality
pub number_is_same : (a b : ℕ) → a ≡ b → nat_eq a b ≡ true
number_is_same a b e = grind (arith, nat_tests)

-- ---- lists of a file

-- elements that are read are those of a list
pub elements_sound : (name : List ℕ) (e : ℕ) (d : Data) (ds : List Data) → elements name e d ≡ Ok ds → IsList d ds
unfolding elements
elements_sound name e d ds h = or_fault_parts (option_map list_of (as_array d)) (fault (Some name) e NotList) ds h

-- those of a list are read
pub elements_complete : (name : List ℕ) (e : ℕ) (d : Data) (ds : List Data) → IsList d ds → elements name e d ≡ Ok ds
unfolding elements
elements_complete name e d ds h = or_fault_from (option_map list_of (as_array d)) (fault (Some name) e NotList) ds h

-- so many elements that are read are those of a list of so many
pub so_many_sound : (name : List ℕ) (e n : ℕ) (d : Data) (ds : List Data) → so_many name e n d ≡ Ok ds → IsList d ds × (length ds ≡ n)
unfolding so_many
so_many_sound name e n d ds h =
    let p = then_parts (elements name e d) (λ ds. or_fault (if nat_eq (length ds) n then Some ds else None) (fault (Some name) e WrongLength)) ds h in
    let q = by p.0 (nat_eq (length p.0) n) (or_fault_parts (if nat_eq (length p.0) n then Some p.0 else None)
    (fault (Some name) e WrongLength) ds p.2) in
    (elements_sound name e d ds (p.1 ∙ ap (λ ds. Ok ds) q.1), subst (λ ds. length ds ≡ n) q.1 (same_number (length p.0) n q.0))
  where
    by : (es : List Data) (b : Bool) → if b then Some es else None ≡ Some ds → (b ≡ true) × (es ≡ ds)
    by es true f = (refl, cc)
    by es false f = absurd (let none : None ≡ Some ds = f in cc)

-- those of a list of so many are read
pub so_many_complete : (name : List ℕ) (e n : ℕ) (d : Data) (ds : List Data) → IsList d ds → length ds ≡ n → so_many name e n d ≡ Ok ds
unfolding so_many
so_many_complete name e n d ds h l =
    then_from (elements name e d) (λ ds. or_fault (if nat_eq (length ds) n then Some ds else None) (fault (Some name) e WrongLength)) ds
    (elements_complete name e d ds h)
    ∙ or_fault_from (if nat_eq (length ds) n then Some ds else None) (fault (Some name) e WrongLength) ds
    (ap (λ b. if b then Some ds else None) (number_is_same (length ds) n l))

-- ---- one value

module _ (w : World) (members : List (List (List ℕ))) (sizes : (i : ℕ) → size_of w i ≡ size_at members i) where
  -- a value that is read is what the file says, and is of its type
  pub value_sound : (name : List ℕ) (kind : ValueType) (e : ℕ) (d : Data) (v : ℤ) → value_of members name kind e d ≡ Ok v
      → SaysValue members kind d v × (is_value w kind v ≡ true)
  unfolding value_of
  value_sound name (Int lo hi) e d v h =
      let p = then_parts (or_fault (option_and_then as_i64 (as_number d)) (fault (Some name) e NotWhole)) (in_range name lo hi e) v h in
      let t = test_parts (int_le lo p.0 && int_le p.0 hi) (Ok p.0) (fault (Some name) e OutOfRange) v p.2 in
      let same : p.0 ≡ v = same_ok p.0 v t.1 in (
        or_fault_parts (option_and_then as_i64 (as_number d)) (fault (Some name) e NotWhole) p.0 p.1 ∙ ap (λ v. Some v) same,
        subst (λ v. (int_le lo v && int_le v hi) ≡ true) same t.0,
      )
  value_sound name (Member i) e d v h =
      let p = then_parts (or_fault (as_str d) (fault (Some name) e NotText))
      (λ text. or_fault (place_in (members_at members i) text) (fault (Some name) e UnknownMember)) v h in
      let q = place_sound (members_at members i) p.0 v (or_fault_parts (place_in (members_at members i) p.0)
      (fault (Some name) e UnknownMember) v p.2) in
      let size = sizes i in
      let less : q.0 < 0 + size_of w i = omega (arith, q.3, size) in (
        (q.0, p.0, q.1, q.2, or_fault_parts (as_str d) (fault (Some name) e NotText) p.0 p.1),
        subst (λ v. is_in (size_of w i) v ≡ true) (sym q.1) (member_in (size_of w i) q.0 less),
      )

  -- what is read of values one after another
  pub record ValuesRead (kind : ValueType) (before : List ℤ) (ds : List Data) (all : List ℤ) : Type 0 where
    pub more : List ℤ
    pub is : all ≡ before ++ more
    pub says : SaysValues members kind ds more
    pub fit : list_all (is_value w kind) more ≡ true
    pub long : length more ≡ length ds

  -- a value that is read stands after those before it
  value_step : (family : Family) (before : List ℤ) (d : Data) (all : List ℤ) → with_value members family before d ≡ Ok all
      → (v : ℤ) × (value_of members family.name family.kind (length before) d ≡ Ok v) × (all ≡ before ++ v ∷ [])
  unfolding with_value
  value_step family before d all h =
      let p = then_parts (value_of members family.name family.kind (length before) d) (λ v. Ok (before ++ v ∷ [])) all h in
      (p.0, p.1, sym (same_ok (before ++ p.0 ∷ []) all p.2))

  -- values that are read one after another
  pub values_sound : (family : Family) (before : List ℤ) (ds : List Data) (all : List ℤ) → fold_read (with_value members family) before ds ≡ Ok all
      → ValuesRead family.kind before ds all
  values_sound family before [] all h = record {
    more = [];
    is = sym (same_ok before all (sym (fold_end (with_value members family) before) ∙ h)) ∙ sym (append-nil before);
    says = tt;
    fit = refl;
    long = refl;
  }
  values_sound family before (d ∷ ds) all h =
      let p = fold_parts (with_value members family) before d ds all h in
      let q = value_step family before d p.0 p.1 in
      let v = value_sound family.name family.kind (length before) d q.0 q.1 in
      let rest = values_sound family p.0 ds all p.2 in
      record {
        more = q.0 ∷ rest.more;
        is = rest.is ∙ ap (λ front. front ++ rest.more) q.2 ∙ append_assoc before (q.0 ∷ []) rest.more;
        says = (v.0, rest.says);
        fit = and_from (is_value w family.kind q.0) (list_all (is_value w family.kind) rest.more) v.1 rest.fit;
        long = ap suc rest.long;
      }

  -- what is read of rows one after another
  pub record RowsRead (kind : ValueType) (width : ℕ) (before : List ℤ) (rows : List Data) (all : List ℤ) : Type 0 where
    pub more : List ℤ
    pub is : all ≡ before ++ more
    pub says : SaysRows members kind width rows more
    pub fit : list_all (is_value w kind) more ≡ true
    pub long : length more ≡ length rows * width

  -- a row that is read is a list of values, which stand after those before it
  row_step : (family : Family) (width r : ℕ) (before : List ℤ) (d : Data) (all : ℕ × List ℤ) → with_row members family width (r, before) d ≡ Ok all
      → (ds : List Data) × IsList d ds × (length ds ≡ width) × ValuesRead family.kind before ds all.1
  unfolding with_row
  row_step family width r before d all h =
      let p = then_parts (so_many family.name r width d) (λ row. and_then (fold_read (with_value members family) before row)
      (λ all. Ok (r + 1, all))) all h in
      let q = then_parts (fold_read (with_value members family) before p.0) (λ all. Ok (r + 1, all)) all p.2 in
      let l = so_many_sound family.name r width d p.0 p.1 in
      let same : q.0 ≡ all.1 = ap (λ (s : ℕ × List ℤ). s.1) (same_ok (r + 1, q.0) all q.2) in
      (p.0, l.0, l.1, values_sound family before p.0 all.1 (q.1 ∙ ap (λ vs. Ok vs) same))

  -- rows that are read one after another
  pub rows_sound : (family : Family) (width r : ℕ) (before : List ℤ) (rows : List Data) (all : ℕ × List ℤ)
      → fold_read (with_row members family width) (r, before) rows ≡ Ok all → RowsRead family.kind width before rows all.1
  rows_sound family width r before [] all h = record {
    more = [];
    is = sym (ap (λ (s : ℕ × List ℤ). s.1) (same_ok (r, before) all (sym (fold_end (with_row members family width) (r, before)) ∙ h))) ∙ sym
        (append-nil before);
    says = no_row;
    fit = refl;
    long = omega arith;
  }
  rows_sound family width r before (d ∷ rows) all h =
      let p = fold_parts (with_row members family width) (r, before) d rows all h in
      let q = row_step family width r before d p.0 p.1 in
      let one = q.3 in
      let rest = rows_sound family width p.0.0 p.0.1 rows all p.2 in
      record {
        more = one.more ++ rest.more;
        is = rest.is ∙ ap (λ front. front ++ rest.more) one.is ∙ append_assoc before one.more rest.more;
        says = row d q.0 rows one.more rest.more q.1 q.2 one.says rest.says;
        fit = list_all-append (is_value w family.kind) one.more rest.more ∙ and_from (list_all (is_value w family.kind) one.more)
            (list_all (is_value w family.kind) rest.more) one.fit rest.fit;
        long = more_rows (length one.more) (length rest.more) (length rows) width (one.long ∙ q.2) rest.long (length-append one.more rest.more);
      }
    where
      more_rows : (a b n k : ℕ) → a ≡ k → b ≡ n * k → {c : ℕ} → c ≡ a + b → c ≡ suc n * k
      more_rows a b n k e f g = let t : k + n * k ≡ suc n * k = omega arith in omega (arith, e, f, g, t)
