-- A list of values is a schedule where each choice has its table in it, one after another.
use Rattle.std.proofs.Common.{◌≡◌, refl, sym, ◌∙◌, ap, subst, ℕ, zero, suc, ◌+◌, ◌<◌, arith, List, [], ◌∷◌, ◌++◌, length, map, true, nat_eq, ℤ, pos, ◌+ℤ◌, ◌-ℤ◌, int_le, int_lt, nat_abs}
use Rattle.std.specs.Prelude.{flat_map}
use Rattle.std.specs.List.{Contains, list_all, range_with_len, enumerate_from}
use Rattle.std.proofs.lemmas.Bool.{and_parts, and_from}
use Rattle.std.proofs.lemmas.Int.{ints}
use Rattle.std.proofs.lemmas.List.{length-map}
use Rattle.std.proofs.lemmas.List.Elements.{Contains-append_left, Contains-append_right}
use Rattle.kts_base.proofs.Orders.{int_le_yes, int_lt_yes}
use Rattle.kts_spec.specs.declared.declarations.Family.{Family}
use Rattle.kts_spec.specs.declared.declarations.ValueType.{ValueType}
use Rattle.kts_spec.specs.declared.declarations.ValueType.TheVariants.{Int, Member}
use Rattle.kts_spec.specs.Data.{is_value, is_table}
use Rattle.kts_spec.specs.Places.{count_of}
use Rattle.kts_spec.specs.Related.{Pairs}
use Rattle.kts_spec.specs.Schedules.{all, tuples, Cell, cells_of, cells, numbers, values_of, cell_values, schedules}
use Rattle.kts_spec.specs.Worlds.{World, size_of, sizes_of}
use Rattle.kts_spec.proofs.Conditions.{same_number}
use Rattle.kts_spec.proofs.TuplePlaces.{tuple_count}
use Rattle.kts_spec.proofs.TypedData.{Suits, how_far}
use Rattle.kts_data.specs.Files.{joined_tables}
use Rattle.kts_data.proofs.ValueLaws.{number_is_same}

-- ---- what lists contain

-- a list contains its first item
first_has : {X : Type 0} (x : X) (xs : List X) → Contains (x ∷ xs) x
first_has x xs = (0, omega arith, refl)

-- and each of those after it
later_has : {X : Type 0} (y : X) (xs : List X) (x : X) → Contains xs x → Contains (y ∷ xs) x
later_has y xs x (k, l, e) = (suc k, omega (arith, l), e)

-- a list to which a function was applied contains what it makes of an item
map_has : {X Y : Type 0} (f : X → Y) (xs : List X) (x : X) → Contains xs x → Contains (map f xs) (f x)
map_has f [] x (k, l, e) = absurd (omega (arith, l))
map_has f (y ∷ xs) x (zero, l, e) = (0, omega arith, ap f e)
map_has f (y ∷ xs) x (suc k, l, e) = later_has (f y) (map f xs) (f x) (map_has f xs x (k, omega (arith, l), e))

-- joined lists contain what one of them contains
flat_map_has : {X Y : Type 0} (f : X → List Y) (xs : List X) (x : X) (y : Y) → Contains xs x → Contains (f x) y → Contains (flat_map f xs) y
flat_map_has f [] x y (k, l, e) h = absurd (omega (arith, l))
flat_map_has f (z ∷ xs) x y (zero, l, e) h = Contains-append_left (f z) (flat_map f xs) y (subst (λ x. Contains (f x) y) (sym e) h)
flat_map_has f (z ∷ xs) x y (suc k, l, e) h = Contains-append_right (f z) (flat_map f xs) y (flat_map_has f xs x y (k, omega (arith, l), e) h)

-- one item of each list is one of all rows
all_has : {X : Type 0} (lists : List (List X)) (row : List X) → Pairs (λ xs x. Contains xs x) lists row → Contains (all lists) row
all_has [] [] h = first_has [] []
all_has [] (x ∷ row) h = absurd h
all_has (xs ∷ lists) [] h = absurd h
all_has (xs ∷ lists) (x ∷ row) h =
    flat_map_has (λ x. map (λ rest. x ∷ rest) (all lists)) xs x (x ∷ row) h.0 (map_has (λ rest. x ∷ rest) (all lists) row (all_has lists row h.1))

-- so many numbers from one on contain each of them
range_has : (a n m : ℕ) → m < n → Contains (range_with_len a n) (a + m)
range_has a zero m h = absurd (omega arith)
range_has a (suc n) zero h = let e : a ≡ a + 0 = omega arith in (0, omega arith, e)
range_has a (suc n) (suc m) h =
    let e : a + 1 + m ≡ a + suc m = omega arith in
    subst (Contains (a ∷ range_with_len (a + 1) n)) e (later_has a (range_with_len (a + 1) n) (a + 1 + m) (range_has (a + 1) n m (omega arith)))

-- so many numbers from 0 on contain each lesser number
number_has : (n m : ℕ) → m < n → Contains (range_with_len 0 n) m
number_has n m h = let e : 0 + m ≡ m = omega arith in subst (Contains (range_with_len 0 n)) e (range_has 0 n m h)

-- a value of a type is one of its values
value_has : (w : World) (kind : ValueType) (v : ℤ) → is_value w kind v ≡ true → Contains (values_of w kind) v
value_has w (Int lo hi) v h =
    let both = and_parts (int_le lo v) (int_le v hi) h in
    let low = int_le_yes lo v both.0 in
    let high = int_le_yes v hi both.1 in
    let far = how_far (v -ℤ lo) (omega (arith, ints)) in
    let wide = how_far (hi -ℤ lo) (omega (arith, ints)) in
    let is : lo +ℤ pos (nat_abs (v -ℤ lo)) ≡ v = omega (arith, ints) in
    let less : nat_abs (v -ℤ lo) < nat_abs (hi -ℤ lo) + 1 = omega (arith, ints) in
    subst (Contains (numbers lo hi)) is (map_has (λ i. lo +ℤ pos i) (range_with_len 0 (nat_abs (hi -ℤ lo) + 1)) (nat_abs (v -ℤ lo))
    (number_has (nat_abs (hi -ℤ lo) + 1) (nat_abs (v -ℤ lo)) less))
value_has w (Member i) v h =
    let both = and_parts (int_le (pos 0) v) (int_lt v (pos (size_of w i))) h in
    let far = how_far v (int_le_yes (pos 0) v both.0) in
    let high = int_lt_yes v (pos (size_of w i)) both.1 in
    let less : nat_abs v < size_of w i = omega (arith, ints) in
    subst (Contains (values_of w (Member i))) far (map_has pos (range_with_len 0 (size_of w i)) (nat_abs v)
    (number_has (size_of w i) (nat_abs v) less))

-- ---- tables beside cells

-- related lists, one after another
pairs_append : {X Y : Type 0} (R : X → Y → Type 0) (xs more : List X) (ys rest : List Y) → Pairs R xs ys → Pairs R more rest
    → Pairs R (xs ++ more) (ys ++ rest)
pairs_append R [] more [] rest h k = k
pairs_append R [] more (y ∷ ys) rest h k = absurd h
pairs_append R (x ∷ xs) more [] rest h k = absurd h
pairs_append R (x ∷ xs) more (y ∷ ys) rest h k = (h.0, pairs_append R xs more ys rest h.1 k)

-- and taken apart where the first have one length
pairs_split : {X Y : Type 0} (R : X → Y → Type 0) (xs more : List X) (ys rest : List Y) → length xs ≡ length ys → Pairs R (xs ++ more) (ys ++ rest)
    → Pairs R xs ys × Pairs R more rest
pairs_split R [] more [] rest e h = (tt, h)
pairs_split R [] more (y ∷ ys) rest e h = absurd (omega (arith, e))
pairs_split R (x ∷ xs) more [] rest e h = absurd (omega (arith, e))
pairs_split R (x ∷ xs) more (y ∷ ys) rest e h = let r = pairs_split R xs more ys rest (omega (arith, e)) h.1 in ((h.0, r.0), r.1)

module _ (w : World) where
  -- a list of cells whose values lie beside them
  values_contain : (cs : List Cell) (vs : List ℤ) → Pairs (Suits w) cs vs
      → Pairs (λ xs x. Contains xs x) (map (λ (c : Cell). values_of w c.kind) cs) vs
  values_contain [] [] h = tt
  values_contain [] (v ∷ vs) h = absurd h
  values_contain (c ∷ cs) [] h = absurd h
  values_contain (c ∷ cs) (v ∷ vs) h = (value_has w c.kind v h.0, values_contain cs vs h.1)

  -- values that suit the cells are a schedule
  pub suits_schedule : (plan : List ℤ) → Pairs (Suits w) (cells w) plan → Contains (schedules w) plan
  suits_schedule plan h = all_has (cell_values w) plan (values_contain (cells w) plan h)

  -- a cell of a choice at a tuple
  abbrev cell_of : ℕ → ValueType → List ℕ → Cell
  cell_of x kind args = record { choice = x; args = args; kind = kind }

  -- values of a type suit the cells of one choice
  one_suits : (x : ℕ) (kind : ValueType) (args : List (List ℕ)) (values : List ℤ) → length values ≡ length args
      → list_all (is_value w kind) values ≡ true → Pairs (Suits w) (map (cell_of x kind) args) values
  one_suits x kind [] [] e h = tt
  one_suits x kind [] (v ∷ values) e h = absurd (omega (arith, e))
  one_suits x kind (a ∷ args) [] e h = absurd (omega (arith, e))
  one_suits x kind (a ∷ args) (v ∷ values) e h =
      let both = and_parts (is_value w kind v) (list_all (is_value w kind) values) h in
      (both.0, one_suits x kind args values (omega (arith, e)) both.1)

  -- values that suit the cells of one choice are of its type
  suits_one : (x : ℕ) (kind : ValueType) (args : List (List ℕ)) (values : List ℤ) → Pairs (Suits w) (map (cell_of x kind) args) values
      → list_all (is_value w kind) values ≡ true
  suits_one x kind [] [] h = refl
  suits_one x kind [] (v ∷ values) h = absurd h
  suits_one x kind (a ∷ args) [] h = absurd h
  suits_one x kind (a ∷ args) (v ∷ values) h = and_from (is_value w kind v) (list_all (is_value w kind) values) h.0 (suits_one x kind args values h.1)

  -- the table of each choice beside the choice
  abbrev pub AreTables : List Family → List (List ℤ) → Type 0
  AreTables = Pairs (λ family values. is_table w family values ≡ true)

  -- tables of choices, one after another, suit their cells
  pub tables_suit : (a : ℕ) (families : List Family) (tables : List (List ℤ)) → AreTables families tables
      → Pairs (Suits w) (flat_map (cells_of w) (enumerate_from a families)) (joined_tables tables)
  tables_suit a [] [] h = tt
  tables_suit a [] (t ∷ tables) h = absurd h
  tables_suit a (f ∷ families) [] h = absurd h
  tables_suit a (f ∷ families) (t ∷ tables) h =
      let both = and_parts (nat_eq (length t) (count_of (sizes_of w f))) (list_all (is_value w f.kind) t) h.0 in
      let count = same_number (length t) (count_of (sizes_of w f)) both.0 ∙ sym (tuple_count (sizes_of w f)) in
      pairs_append (Suits w) (cells_of w (a, f)) (flat_map (cells_of w) (enumerate_from (a + 1) families)) t (joined_tables tables)
      (one_suits a f.kind (tuples (sizes_of w f)) t count both.1) (tables_suit (a + 1) families tables h.1)

  -- lists that suit the cells of choices are their tables where they are as long
  pub suit_tables : (a : ℕ) (families : List Family) (tables : List (List ℤ))
      → Pairs (λ family values. length values ≡ count_of (sizes_of w family)) families tables
      → Pairs (Suits w) (flat_map (cells_of w) (enumerate_from a families)) (joined_tables tables) → AreTables families tables
  suit_tables a [] [] long h = tt
  suit_tables a [] (t ∷ tables) long h = absurd long
  suit_tables a (f ∷ families) [] long h = absurd long
  suit_tables a (f ∷ families) (t ∷ tables) long h =
      let count : length (cells_of w (a, f)) ≡ length t = length-map (tuples (sizes_of w f)) (cell_of a f.kind) ∙ tuple_count (sizes_of w f)
      ∙ sym long.0 in
      let r = pairs_split (Suits w) (cells_of w (a, f)) (flat_map (cells_of w) (enumerate_from (a + 1) families)) t (joined_tables tables) count h in (
        and_from (nat_eq (length t) (count_of (sizes_of w f))) (list_all (is_value w f.kind) t)
            (number_is_same (length t) (count_of (sizes_of w f)) long.0) (suits_one a f.kind (tuples (sizes_of w f)) t r.0),
        suit_tables (a + 1) families tables long.1 r.1,
      )
