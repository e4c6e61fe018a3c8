-- The number of a cell is its place among all cells; what the text of a choice and the table of a given have there.
use Rattle.std.proofs.Common.{◌≡◌, refl, sym, ◌∙◌, ap, subst, ℕ, zero, suc, ◌+◌, ◌<◌, ◌≤◌, arith, List, [], ◌∷◌, length, map, take, drop, true, nat_eq, Option, Some, None, ℤ, pos, nat_abs, length-append, length-drop}
use Rattle.std.specs.Prelude.{slice_get, slice_index_or, option_map, zip}
use Rattle.std.specs.List.{flat_map, list_all, enumerate_from}
use Rattle.std.proofs.lemmas.Bool.{and_parts}
use Rattle.std.proofs.lemmas.List.{length-map}
use Rattle.std.proofs.lemmas.List.Sums.{sum-map, sum_by-cons}
use Rattle.std.proofs.lemmas.Option.{slice_get_within, slice_get-get_or, get_or_from_slice_get, some_pair_parts}
use Rattle.std.proofs.lemmas.Slice.Zip.{length-zip}
use Rattle.kts_spec.specs.declared.declarations.Family.{Family}
use Rattle.kts_spec.specs.declared.schema.Schema.{Schema}
use Rattle.kts_spec.specs.declared.instance.Instance.{Instance}
use Rattle.kts_spec.specs.CellOrder.{IsCell, CellsHaveNumbers, EntriesHaveValues, TableHasValues}
use Rattle.kts_spec.specs.Data.{is_value, is_table, are_tables, is_valid}
use Rattle.kts_spec.specs.Places.{count_of, place, cell_count, offset, cell, lookup}
use Rattle.kts_spec.specs.Schedules.{Cell, tuples, cells_of, cells}
use Rattle.kts_spec.specs.Schemas.{no_family, family_at}
use Rattle.kts_spec.specs.Texts.{entries}
use Rattle.kts_spec.specs.Worlds.{World, world_of, sizes_of, given_of, choice_of, table_of}
use Rattle.kts_spec.proofs.Conditions.{same_number, instance_facts}
use Rattle.kts_spec.proofs.Concatenations.{in_joined, piece_of}
use Rattle.kts_spec.proofs.TuplePlaces.{item_of, item_at, tuple_count, tuple_at, place_at, tuples_have_places, nat_abs_pos}

-- ---- lists

numbered : {X : Type 0} (a : ℕ) (xs : List X) (i : ℕ) (x : X) → slice_get xs i ≡ Some x → slice_get (enumerate_from a xs) i ≡ Some (a + i, x)
numbered a [] i x e = absurd (let none : None ≡ Some x = e in cc)
numbered a (y ∷ xs) zero x e = let same : y ≡ x = cc in let at : a ≡ a + 0 = omega arith in ap (λ n. Some (n, y)) at ∙ ap (λ z. Some (a + 0, z)) same
numbered a (y ∷ xs) (suc i) x e = let at : a + 1 + i ≡ a + suc i = omega arith in numbered (a + 1) xs i x e ∙ ap (λ n. Some (n, x)) at

number_is : {X : Type 0} (a : ℕ) (xs : List X) (i : ℕ) (p : ℕ × X) → slice_get (enumerate_from a xs) i ≡ Some p → (p.0 ≡ a + i) × (slice_get xs i ≡ Some p.1)
number_is a [] i p e = absurd (let none : None ≡ Some p = e in cc)
number_is a (x ∷ xs) zero p e = let same : (a, x) ≡ p = cc in let at : a ≡ p.0 = ap (λ q. q.0) same in (omega (arith, at), ap (λ q. Some q.1) same)
number_is a (x ∷ xs) (suc i) p e = let r = number_is (a + 1) xs i p e in (omega (arith, r.0), r.1)

numbered_first : {X : Type 0} (a : ℕ) (xs : List X) (i : ℕ) → take i (enumerate_from a xs) ≡ enumerate_from a (take i xs)
numbered_first a xs zero = refl
numbered_first a [] (suc i) = refl
numbered_first a (x ∷ xs) (suc i) = ap (λ ps. (a, x) ∷ ps) (numbered_first (a + 1) xs i)

beside : {X Y : Type 0} (xs : List X) (ys : List Y) (j : ℕ) (x : X) (y : Y) → slice_get xs j ≡ Some x → slice_get ys j ≡ Some y → slice_get (zip xs ys) j ≡ Some (x, y)
beside [] ys j x y e f = absurd (let none : None ≡ Some x = e in cc)
beside (a ∷ xs) [] j x y e f = absurd (let none : None ≡ Some y = f in cc)
beside (a ∷ xs) (b ∷ ys) zero x y e f = cc
beside (a ∷ xs) (b ∷ ys) (suc j) x y e f = beside xs ys j x y e f

sides : {X Y : Type 0} (xs : List X) (ys : List Y) (j : ℕ) (x : X) (y : Y) → slice_get (zip xs ys) j ≡ Some (x, y) → (slice_get xs j ≡ Some x) × (slice_get ys j ≡ Some y)
sides [] ys j x y e = absurd (let none : None ≡ Some (x, y) = e in cc)
sides (a ∷ xs) [] j x y e = absurd (let none : None ≡ Some (x, y) = e in cc)
sides (a ∷ xs) (b ∷ ys) zero x y e = let p = some_pair_parts a x b y e in (ap (λ a. Some a) p.0, ap (λ b. Some b) p.1)
sides (a ∷ xs) (b ∷ ys) (suc j) x y e = sides xs ys j x y e

past : {X : Type 0} (n : ℕ) (xs : List X) (j : ℕ) → slice_get (drop n xs) j ≡ slice_get xs (n + j)
past zero xs j = let e : j ≡ 0 + j = omega arith in ap (slice_get xs) e
past (suc n) [] j = refl
past (suc n) (x ∷ xs) j = let e : suc (n + j) ≡ suc n + j = omega arith in past n xs j ∙ ap (slice_get (x ∷ xs)) e

-- the number that a function was applied to
image : (f : ℕ → ℕ) (o : Option ℕ) (k : ℕ) → option_map f o ≡ Some k → (p : ℕ) × (o ≡ Some p) × (f p ≡ k)
image f None k e = absurd (let none : None ≡ Some k = e in cc)
image f (Some p) k e = (p, refl, cc)

-- ---- cells

module _ (w : World) where
  -- the cells of one more choice
  pub more_cells : (family : Family) (families : List Family) → cell_count w (family ∷ families) ≡ count_of (sizes_of w family) + cell_count w families
  more_cells family families =
      let f : Family → ℕ = λ family. count_of (sizes_of w family) in
      sum-map f (family ∷ families) ∙ sum_by-cons f family families ∙ ap (λ n. f family + n) (sym (sum-map f families))

  cells_length : (a : ℕ) (families : List Family) → length (flat_map (cells_of w) (enumerate_from a families)) ≡ cell_count w families
  cells_length a [] = refl
  cells_length a (family ∷ families) =
      let later = flat_map (cells_of w) (enumerate_from (a + 1) families) in
      let one = length-map (tuples (sizes_of w family)) (λ args. let c : Cell = record { choice = a; args = args; kind = family.kind } in c) ∙ tuple_count (sizes_of w family) in
      length-append (cells_of w (a, family)) later
      ∙ ap (λ n. n + length later) one
      ∙ ap (λ n. count_of (sizes_of w family) + n) (cells_length (a + 1) families)
      ∙ sym (more_cells family families)

  before : (x : ℕ) → length (flat_map (cells_of w) (take x (enumerate_from 0 w.choices))) ≡ offset w x
  before x = ap (λ ps. length (flat_map (cells_of w) ps)) (numbered_first 0 w.choices x) ∙ cells_length 0 (take x w.choices)

  -- the cell of a choice at a tuple
  abbrev pub cell_of : ℕ → List ℕ → Cell
  cell_of x tuple = record { choice = x; args = tuple; kind = (choice_of w x).kind }

  pub cell_at : (x j : ℕ) (tuple : List ℕ) → x < length w.choices → slice_get (tuples (sizes_of w (choice_of w x))) j ≡ Some tuple → slice_get (cells w) (offset w x + j) ≡ Some (cell_of x tuple)
  cell_at x j tuple h e =
      let here : slice_get (enumerate_from 0 w.choices) x ≡ Some (x, choice_of w x) = numbered 0 w.choices x (choice_of w x) (slice_get-get_or w.choices x no_family h) ∙ ap (λ n. Some (n, choice_of w x)) (let z : 0 + x ≡ x = omega arith in z) in
      let item = item_at (λ args. let c : Cell = record { choice = x; args = args; kind = (choice_of w x).kind } in c) (tuples (sizes_of w (choice_of w x))) j tuple e in
      ap (λ n. slice_get (cells w) (n + j)) (sym (before x)) ∙ in_joined (cells_of w) (enumerate_from 0 w.choices) x j (x, choice_of w x) (cell_of x tuple) here item

  -- the number of a cell of a choice
  pub number_at : (x j : ℕ) (args : List ℤ) → place (sizes_of w (choice_of w x)) args ≡ Some j → cell w x args ≡ Some (offset w x + j)
  number_at x j args e = ap (λ o. option_map (λ p. offset w x + p) o) e

  pub place_of : (x k : ℕ) (args : List ℤ) → cell w x args ≡ Some k → (j : ℕ) × (place (sizes_of w (choice_of w x)) args ≡ Some j) × (offset w x + j ≡ k)
  place_of x k args e = image (λ p. offset w x + p) (place (sizes_of w (choice_of w x)) args) k e

  from_parts : (x j k : ℕ) (tuple : List ℕ) (family : Family) → x < length w.choices → choice_of w x ≡ family → slice_get (tuples (sizes_of w family)) j ≡ Some tuple → k ≡ offset w x + j → IsCell w k (record { choice = x; args = tuple; kind = family.kind })
  from_parts x j k tuple family h same e at = record {
    declared = h;
    kind = ap (λ (f : Family). f.kind) (sym same);
    number = number_at x j (map pos tuple) (place_at (sizes_of w (choice_of w x)) tuple j (ap (λ (f : Family). slice_get (tuples (sizes_of w f)) j) same ∙ e)) ∙ ap (λ n. Some n) (sym at);
  }

  is_cell : (k : ℕ) (c : Cell) → slice_get (cells w) k ≡ Some c → IsCell w k c
  is_cell k c e =
      let p = piece_of (cells_of w) (enumerate_from 0 w.choices) k c e in
      let n = number_is 0 w.choices p.piece p.source p.stands in
      let i = item_of (λ args. let c : Cell = record { choice = p.source.0; args = args; kind = p.source.1.kind } in c) (tuples (sizes_of w p.source.1)) p.place c p.is in
      let family = get_or_from_slice_get w.choices p.piece p.source.1 no_family n.1 in
      let x : p.piece ≡ p.source.0 = omega (arith, n.0) in
      let whole = from_parts p.piece p.place k i.item p.source.1 (slice_get_within w.choices p.piece p.source.1 n.1) family i.stands (p.sum ∙ ap (λ n. n + p.place) (before p.piece)) in
      subst (IsCell w k) (ap (λ x. let c : Cell = record { choice = x; args = i.item; kind = p.source.1.kind } in c) x ∙ i.is) whole

  is_at : (k : ℕ) (c : Cell) → IsCell w k c → slice_get (cells w) k ≡ Some c
  is_at k c i =
      let p = place_of c.choice k (map pos c.args) i.number in
      let t = tuple_at (sizes_of w (choice_of w c.choice)) (map pos c.args) p.0 p.1 ∙ ap (λ t. Some t) (nat_abs_pos c.args) in
      let same : cell_of c.choice c.args ≡ c = ap (λ kind. let d : Cell = record { choice = c.choice; args = c.args; kind = kind } in d) (sym i.kind) in
      ap (slice_get (cells w)) (sym p.2) ∙ cell_at c.choice p.0 c.args i.declared t ∙ ap (λ c. Some c) same

  pub cells_have_numbers : CellsHaveNumbers w
  cells_have_numbers = record {
    count = cells_length 0 w.choices;
    at = λ k c. (is_cell k c, is_at k c);
    members = λ x args.
        let m = (tuples_have_places (sizes_of w (choice_of w x))).members args in
        (λ h. let p = m.0 h in (offset w x + p.0, number_at x p.0 args p.1), λ p. let q = place_of x p.0 args p.1 in m.1 (q.0, q.1));
    access = λ x k args h e.
        let p = place_of x k args e in
        ap (slice_get (cells w)) (sym p.2) ∙ cell_at x p.0 (map nat_abs args) h (tuple_at (sizes_of w (choice_of w x)) args p.0 p.1);
  }

  -- ---- entries

  entry_parts : (schedule : List ℤ) (x j : ℕ) (tuple : List ℕ) (v : ℤ) → slice_get (entries w schedule x) j ≡ Some (tuple, v) → (cell w x (map pos tuple) ≡ Some (offset w x + j)) × (slice_get schedule (offset w x + j) ≡ Some v)
  entry_parts schedule x j tuple v e =
      let s = sides (tuples (sizes_of w (choice_of w x))) (drop (offset w x) schedule) j tuple v e in
      (number_at x j (map pos tuple) (place_at (sizes_of w (choice_of w x)) tuple j s.0), sym (past (offset w x) schedule j) ∙ s.1)

  entry_from : (schedule : List ℤ) (x j : ℕ) (tuple : List ℕ) (v : ℤ) → cell w x (map pos tuple) ≡ Some (offset w x + j) → slice_get schedule (offset w x + j) ≡ Some v → slice_get (entries w schedule x) j ≡ Some (tuple, v)
  entry_from schedule x j tuple v e f =
      let p = place_of x (offset w x + j) (map pos tuple) e in
      let same : p.0 ≡ j = omega (arith, p.2) in
      let t = ap (slice_get (tuples (sizes_of w (choice_of w x)))) (sym same) ∙ tuple_at (sizes_of w (choice_of w x)) (map pos tuple) p.0 p.1 ∙ ap (λ t. Some t) (nat_abs_pos tuple) in
      beside (tuples (sizes_of w (choice_of w x))) (drop (offset w x) schedule) j tuple v t (past (offset w x) schedule j ∙ f)

  -- a choice has no more cells than there are after those of the choices before it
  room : (families : List Family) (x : ℕ) → x < length families → cell_count w (take x families) + count_of (sizes_of w (family_at families x)) ≤ cell_count w families
  room [] x h = absurd (omega arith)
  room (f ∷ families) zero h = let all = more_cells f families in let none : cell_count w [] ≡ 0 = refl in omega (arith, all, none)
  room (f ∷ families) (suc x) h =
      let all = more_cells f families in
      let front = more_cells f (take x families) in
      let rest = room families x (omega arith) in
      omega (arith, all, front, rest)

  entry_count : (schedule : List ℤ) (x : ℕ) → x < length w.choices → length schedule ≡ cell_count w w.choices → length (entries w schedule x) ≡ count_of (sizes_of w (choice_of w x))
  entry_count schedule x h e =
      let sizes = sizes_of w (choice_of w x) in
      let both = length-zip (tuples sizes) (drop (offset w x) schedule) in
      let left = tuple_count sizes in
      let right = length-drop (offset w x) schedule in
      let fits = room w.choices x h in
      both ∙ omega (arith, left, right, fits, e)

  pub entries_have_values : (schedule : List ℤ) (x : ℕ) → EntriesHaveValues w schedule x
  entries_have_values schedule x = record {
    at = λ j tuple v. (entry_parts schedule x j tuple v, λ p. entry_from schedule x j tuple v p.0 p.1);
    read = λ j tuple v e.
        let p = entry_parts schedule x j tuple v e in
        ap (λ o. lookup schedule o (pos 0)) p.0 ∙ get_or_from_slice_get schedule (offset w x + j) v (pos 0) p.1;
    all = entry_count schedule x;
  }

  -- ---- tables

  pub table_fits : (families : List Family) (tables : List (List ℤ)) (g : ℕ) → are_tables w families tables ≡ true → g < length families → is_table w (family_at families g) (slice_index_or tables g []) ≡ true
  table_fits [] tables g e h = absurd (omega arith)
  table_fits (k ∷ families) [] g e h = cc
  table_fits (k ∷ families) (t ∷ tables) zero e h = (and_parts (is_table w k t) (are_tables w families tables) e).0
  table_fits (k ∷ families) (t ∷ tables) (suc g) e h = table_fits families tables g (and_parts (is_table w k t) (are_tables w families tables) e).1 (omega arith)

  pub table_length : (f : ℕ) → are_tables w w.givens w.tables ≡ true → f < length w.givens → length (table_of w f) ≡ count_of (sizes_of w (given_of w f))
  table_length f valid h =
      let parts = and_parts (nat_eq (length (table_of w f)) (count_of (sizes_of w (given_of w f)))) (list_all (is_value w (given_of w f).kind) (table_of w f)) (table_fits w.givens w.tables f valid h) in
      same_number (length (table_of w f)) (count_of (sizes_of w (given_of w f))) parts.0

  pub table_has_values : (f : ℕ) → are_tables w w.givens w.tables ≡ true → f < length w.givens → TableHasValues w f
  table_has_values f valid h =
      let sizes = sizes_of w (given_of w f) in
      let count = tuple_count sizes in
      let long = table_length f valid h in
      record {
        count = long ∙ sym count;
        at = (tuples_have_places sizes).at;
        read = λ k args e.
            let stands = slice_get_within (tuples sizes) k (map nat_abs args) (tuple_at sizes args k e) in
            let less : k < length (table_of w f) = omega (arith, stands, count, long) in
            slice_get-get_or (table_of w f) k (pos 0) less ∙ ap (λ o. Some (lookup (table_of w f) o (pos 0))) (sym e);
      }

pub tables_have_values : (schema : Schema) (inst : Instance) → is_valid schema inst ≡ true → (f : ℕ) → f < length schema.givens → TableHasValues (world_of schema inst) f
tables_have_values schema inst valid f h = table_has_values (world_of schema inst) f (instance_facts schema inst valid).tables h
