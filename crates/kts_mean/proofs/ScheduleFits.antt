-- A schedule has one value of its type for each cell, choice by choice.
use Rattle.std.proofs.Common.{◌≡◌, ◌↔◌, refl, sym, ◌∙◌, ap, subst, ◌⊎◌, inl, inr, ℕ, zero, suc, ◌+◌, ◌<◌, ◌≤◌, arith, List, [], ◌∷◌, ◌++◌, length, map, take, drop, Bool, true, false, ◌&&◌, nat_le, ℤ, pos, nat_abs, ◌+ℤ◌, ◌-ℤ◌, int_le, int_lt, Some, slice_get, slice_index_or, Contains}
use Rattle.std.specs.Prelude.{flat_map, ◌==◌}
use Rattle.std.specs.List.{list_all, range_with_len, enumerate_from}
use Rattle.std.proofs.lemmas.Bool.{and_parts, and_from}
use Rattle.std.proofs.lemmas.Int.{ints}
use Rattle.std.proofs.lemmas.Bool.Decides.{nat_tests}
use Rattle.std.proofs.lemmas.List.{drop_all}
use Rattle.std.proofs.lemmas.List.Elements.{Contains-append_left, Contains-append_right, Contains-append_cases, Contains-push_cases}
use Rattle.kts_base.specs.Limits.{most_cells}
use Rattle.kts_base.proofs.Orders.{nat_le_yes, yes_nat_le, int_le_yes, int_lt_yes}
use Rattle.kts_spec.specs.declared.declarations.Family.{Family}
use Rattle.kts_spec.specs.declared.declarations.ValueType.{ValueType}
use Rattle.kts_spec.specs.declared.declarations.ValueType.TheVariants.{Int, Member}
use Rattle.kts_spec.specs.declared.instance.Instance.{Instance}
use Rattle.kts_spec.specs.declared.schema.Schema.{Schema}
use Rattle.kts_spec.specs.Data.{is_valid, is_value}
use Rattle.kts_spec.specs.Places.{count_of}
use Rattle.kts_spec.specs.Related.{Pairs}
use Rattle.kts_spec.specs.Schedules.{all, tuples, Cell, cells_of, cells, values_of, schedules}
use Rattle.kts_spec.specs.Worlds.{World, world_of, size_of, sizes_of}
use Rattle.kts_spec.proofs.Conditions.{schema_facts, instance_facts}
use Rattle.kts_spec.proofs.TuplePlaces.{tuple_count}
use Rattle.kts_spec.proofs.TypedData.{Suits, schedule_fits, how_far}
use Rattle.kts_mean.specs.Bounds.{members_of}
use Rattle.kts_mean.proofs.EvaluatorFacts.{drop_here}
use Rattle.kts_mean.proofs.FamilyFacts.{FamilyFacts, found_family, item_there, cells_next, cells_within}

second_false : (a b c : Bool) → b ≡ false → (a && b && c) ≡ false
second_false true b c e = ap (λ b. b && c) e
second_false false b c e = refl

some_items : (n : ℕ) → (suc n == 0) ≡ false
some_items n = grind (arith, nat_tests)

no_nat_le : (a b : ℕ) → b < a → nat_le a b ≡ false
no_nat_le a b h = grind (arith, nat_tests)

-- ---- what a list contains

module _ {X : Type 0} where
  none : (x : X) → Contains [] x → ⊥
  none x (k, h, e) = absurd (omega arith)

  here : (x : X) (xs : List X) → Contains (x ∷ xs) x
  here x xs = (0, omega arith, refl)

  later : (y : X) (xs : List X) (x : X) → Contains xs x → Contains (y ∷ xs) x
  later y xs x h = Contains-append_right (y ∷ []) xs x h

  cases_of : (y : X) (xs : List X) (x : X) → Contains (y ∷ xs) x → (y ≡ x) ⊎ Contains xs x
  cases_of y xs x h = elim (Contains-append_cases (y ∷ []) xs x h) [
    | inl first ↦ elim (Contains-push_cases [] y x first) [ inl empty ↦ absurd (none x empty) | inr e ↦ inl e ]
    | inr rest ↦ inr rest
  ]

module _ {X Y : Type 0} where
  map_has : (f : X → Y) (xs : List X) (x : X) → Contains xs x → Contains (map f xs) (f x)
  map_has f [] x h = absurd (none x h)
  map_has f (y ∷ xs) x h = elim (cases_of y xs x h) [
    | inl e ↦ subst (λ z. Contains (map f (y ∷ xs)) (f z)) e (here (f y) (map f xs))
    | inr rest ↦ later (f y) (map f xs) (f x) (map_has f xs x rest)
  ]

  flat_has : (f : X → List Y) (xs : List X) (x : X) (y : Y) → Contains xs x → Contains (f x) y → Contains (flat_map f xs) y
  flat_has f [] x y h k = absurd (none x h)
  flat_has f (z ∷ xs) x y h k = elim (cases_of z xs x h) [
    | inl e ↦ Contains-append_left (f z) (flat_map f xs) y (subst (λ w. Contains (f w) y) (sym e) k)
    | inr rest ↦ Contains-append_right (f z) (flat_map f xs) y (flat_has f xs x y rest k)
  ]

first_or_later : (a i : ℕ) → a ≤ i → (a ≡ i) ⊎ (a + 1 ≤ i)
first_or_later zero zero l = inl refl
first_or_later zero (suc i) l = inr (omega arith)
first_or_later (suc a) zero l = absurd (omega arith)
first_or_later (suc a) (suc i) l = elim (first_or_later a i (omega arith)) [ inl e ↦ inl (ap suc e) | inr m ↦ inr (omega arith) ]

range_has : (a n i : ℕ) → a ≤ i → i < a + n → Contains (range_with_len a n) i
range_has a zero i l h = absurd (omega arith)
range_has a (suc n) i l h = elim (first_or_later a i l) [
  | inl e ↦ subst (λ z. Contains (range_with_len a (suc n)) z) e (here a (range_with_len (a + 1) n))
  | inr more ↦ later a (range_with_len (a + 1) n) i (range_has (a + 1) n i more (omega arith))
]

module _ (w : World) where
  -- a value of a type is among its values
  value_in : (kind : ValueType) (v : ℤ) → is_value w kind v ≡ true → Contains (values_of w kind) v
  value_in (Int lo hi) v h =
      let both = and_parts (int_le lo v) (int_le v hi) h in
      let low = int_le_yes lo v both.0 in
      let high = int_le_yes v hi both.1 in
      let far = how_far (v -ℤ lo) (omega (arith, ints, low)) in
      let whole = how_far (hi -ℤ lo) (omega (arith, ints, low, high)) in
      let is : lo +ℤ pos (nat_abs (v -ℤ lo)) ≡ v = omega (arith, ints, far) in
      let less : nat_abs (v -ℤ lo) < 0 + (nat_abs (hi -ℤ lo) + 1) = omega (arith, ints, far, whole, high) in
      subst (Contains (values_of w (Int lo hi))) is (map_has (λ i. lo +ℤ pos i) (range_with_len 0 (nat_abs (hi -ℤ lo) + 1)) (nat_abs (v -ℤ lo)) (range_has 0 (nat_abs (hi -ℤ lo) + 1) (nat_abs (v -ℤ lo)) (omega arith) less))
  value_in (Member i) v h =
      let both = and_parts (int_le (pos 0) v) (int_lt v (pos (size_of w i))) h in
      let low = int_le_yes (pos 0) v both.0 in
      let high = int_lt_yes v (pos (size_of w i)) both.1 in
      let is = how_far v low in
      let less : nat_abs v < 0 + size_of w i = omega (arith, ints, is, high) in
      subst (Contains (values_of w (Member i))) is (map_has pos (range_with_len 0 (size_of w i)) (nat_abs v) (range_has 0 (size_of w i) (nat_abs v) (omega arith) less))

  -- values that suit the cells are one of the schedules
  suits_contained : (cs : List Cell) (vs : List ℤ) → Pairs (Suits w) cs vs → Contains (all (map (λ (c : Cell). values_of w c.kind) cs)) vs
  suits_contained [] [] h = here [] []
  suits_contained [] (v ∷ vs) h = absurd h
  suits_contained (c ∷ cs) [] h = absurd h
  suits_contained (c ∷ cs) (v ∷ vs) h =
      flat_has (λ u. map (λ (rest : List ℤ). u ∷ rest) (all (map (λ (c : Cell). values_of w c.kind) cs))) (values_of w c.kind) v (v ∷ vs) (value_in c.kind v h.0)
      (map_has (λ (rest : List ℤ). v ∷ rest) (all (map (λ (c : Cell). values_of w c.kind) cs)) vs (suits_contained cs vs h.1))

  -- whether values are one of its type for each cell of these choices
  abbrev pub is_for : List Family → List ℤ → Bool
  is_for [] values = length values == 0
  is_for (f ∷ families) values =
      nat_le (count_of (sizes_of w f)) (length values) && list_all (is_value w f.kind) (take (count_of (sizes_of w f)) values) && is_for families (drop (count_of (sizes_of w f)) values)

  abbrev cell_at : ℕ → Family → List ℕ → Cell
  cell_at a f args = record { choice = a; args = args; kind = f.kind }

  -- the cells of one choice before others
  own_suit : (a : ℕ) (f : Family) (args : List (List ℕ)) (cs : List Cell) (vs : List ℤ) → length args ≤ length vs → list_all (is_value w f.kind) (take (length args) vs) ≡ true → Pairs (Suits w) cs (drop (length args) vs) → Pairs (Suits w) (map (cell_at a f) args ++ cs) vs
  own_suit a f [] cs vs l h r = r
  own_suit a f (t ∷ args) cs [] l h r = absurd (omega arith)
  own_suit a f (t ∷ args) cs (v ∷ vs) l h r =
      let both = and_parts (is_value w f.kind v) (list_all (is_value w f.kind) (take (length args) vs)) h in
      (both.0, own_suit a f args cs vs (omega arith) both.1 r)

  record OwnParts (kind : ValueType) (n : ℕ) (cs : List Cell) (vs : List ℤ) : Type 0 where
    room : n ≤ length vs
    own : list_all (is_value w kind) (take n vs) ≡ true
    rest : Pairs (Suits w) cs (drop n vs)

  own_parts : (a : ℕ) (f : Family) (args : List (List ℕ)) (cs : List Cell) (vs : List ℤ) → Pairs (Suits w) (map (cell_at a f) args ++ cs) vs → OwnParts f.kind (length args) cs vs
  own_parts a f [] cs vs h = record { room = omega arith; own = refl; rest = h }
  own_parts a f (t ∷ args) cs [] h = absurd h
  own_parts a f (t ∷ args) cs (v ∷ vs) h =
      let p = own_parts a f args cs vs h.1 in
      let room = p.room in
      record { room = omega (arith, room); own = and_from (is_value w f.kind v) (list_all (is_value w f.kind) (take (length args) vs)) h.0 p.own; rest = p.rest }

  for_suits : (a : ℕ) (families : List Family) (vs : List ℤ) → is_for families vs ≡ true → Pairs (Suits w) (flat_map (cells_of w) (enumerate_from a families)) vs
  for_suits a [] [] h = tt
  for_suits a [] (v ∷ vs) h = absurd (let no : false ≡ true = sym (some_items (length vs)) ∙ h in cc)
  for_suits a (f ∷ families) vs h =
      let n = count_of (sizes_of w f) in
      let last = and_parts (nat_le n (length vs) && list_all (is_value w f.kind) (take n vs)) (is_for families (drop n vs)) h in
      let two = and_parts (nat_le n (length vs)) (list_all (is_value w f.kind) (take n vs)) last.0 in
      let count : n ≡ length (tuples (sizes_of w f)) = sym (tuple_count (sizes_of w f)) in
      own_suit a f (tuples (sizes_of w f)) (flat_map (cells_of w) (enumerate_from (a + 1) families)) vs
      (subst (λ n. n ≤ length vs) count (nat_le_yes n (length vs) two.0)) (subst (λ n. list_all (is_value w f.kind) (take n vs) ≡ true) count two.1)
      (subst (λ n. Pairs (Suits w) (flat_map (cells_of w) (enumerate_from (a + 1) families)) (drop n vs)) count (for_suits (a + 1) families (drop n vs) last.1))

  suits_for : (a : ℕ) (families : List Family) (vs : List ℤ) → Pairs (Suits w) (flat_map (cells_of w) (enumerate_from a families)) vs → is_for families vs ≡ true
  suits_for a [] [] h = refl
  suits_for a [] (v ∷ vs) h = absurd h
  suits_for a (f ∷ families) vs h =
      let n = count_of (sizes_of w f) in
      let count : length (tuples (sizes_of w f)) ≡ n = tuple_count (sizes_of w f) in
      let p = own_parts a f (tuples (sizes_of w f)) (flat_map (cells_of w) (enumerate_from (a + 1) families)) vs h in
      and_from (nat_le n (length vs) && list_all (is_value w f.kind) (take n vs)) (is_for families (drop n vs))
      (and_from (nat_le n (length vs)) (list_all (is_value w f.kind) (take n vs)) (yes_nat_le n (length vs) (subst (λ n. n ≤ length vs) count p.room)) (subst (λ n. list_all (is_value w f.kind) (take n vs) ≡ true) count p.own))
      (suits_for (a + 1) families (drop n vs) (subst (λ n. Pairs (Suits w) (flat_map (cells_of w) (enumerate_from (a + 1) families)) (drop n vs)) count p.rest))

-- values are a schedule exactly where they are values for all choices
pub for_all_choices : (schema : Schema) (inst : Instance) (values : List ℤ) → (is_for (world_of schema inst) schema.choices values ≡ true) ↔ Contains (schedules (world_of schema inst)) values
for_all_choices schema inst values =
    let w = world_of schema inst in (
      λ h. suits_contained w (cells w) values (for_suits w 0 schema.choices values h),
      λ h. suits_for w 0 schema.choices values (schedule_fits w (length schema.indexes) values (schema_facts schema).choices h),
    )

-- values of a type depend on the numbers of members only
pub same_values : (schema : Schema) (inst : Instance) (kind : ValueType) (vs : List ℤ) → list_all (is_value (members_of inst) kind) vs ≡ list_all (is_value (world_of schema inst) kind) vs
same_values schema inst kind [] = refl
same_values schema inst (Int lo hi) (v ∷ vs) = ap (λ b. is_value (world_of schema inst) (Int lo hi) v && b) (same_values schema inst (Int lo hi) vs)
same_values schema inst (Member i) (v ∷ vs) = ap (λ b. is_value (world_of schema inst) (Member i) v && b) (same_values schema inst (Member i) vs)

-- a choice at a place of the list
module _ (schema : Schema) (inst : Instance) (items : List Family) (same : items ≡ schema.choices) (at : ℕ) where
  abbrev w : World
  w = world_of schema inst

  module _ (item : Family) (there : at < length items) (is : item ≡ slice_index_or items at item) where
    pub choice_there : slice_get schema.choices at ≡ Some item
    choice_there = subst (λ families. slice_get families at ≡ Some item) same (item_there items at item there is)

    pub choice_facts : FamilyFacts (length schema.indexes) item
    choice_facts = found_family (length schema.indexes) schema.choices at item (schema_facts schema).choices choice_there

    choices_left : drop at schema.choices ≡ item ∷ drop (at + 1) schema.choices
    choices_left = subst (λ families. drop at families ≡ item ∷ drop (at + 1) families) same (drop_here items at item there is)

    -- a choice has not more cells than there may be
    pub own_cells : is_valid schema inst ≡ true → count_of (sizes_of w item) ≤ most_cells
    own_cells valid =
        let next = cells_next w schema.choices at item choice_there in
        let all = cells_within w schema.choices (at + 1) in
        let few = (instance_facts schema inst valid).few_cells in
        omega (arith, next, all, few)

    module _ (rest : List ℤ) (n : ℕ) (count : n ≡ count_of (sizes_of w item)) where
      pub short_left : length rest < n → is_for w (drop at schema.choices) rest ≡ false
      short_left h =
          let less : length rest < count_of (sizes_of w item) = subst (λ n. length rest < n) count h in
          ap (λ families. is_for w families rest) choices_left ∙ rw (no_nat_le (count_of (sizes_of w item)) (length rest) less) refl

      pub wrong_left : list_all (is_value (members_of inst) item.kind) (take n rest) ≡ false → is_for w (drop at schema.choices) rest ≡ false
      wrong_left h =
          let e : list_all (is_value w item.kind) (take (count_of (sizes_of w item)) rest) ≡ false = ap (λ n. list_all (is_value w item.kind) (take n rest)) (sym count) ∙ sym (same_values schema inst item.kind (take n rest)) ∙ h in
          ap (λ families. is_for w families rest) choices_left ∙ second_false (nat_le (count_of (sizes_of w item)) (length rest)) _ _ e

  pub none_left : (rest : List ℤ) → length items ≤ at → is_for w (drop at schema.choices) rest ≡ (length rest == 0)
  none_left rest h = ap (λ families. is_for w families rest) (subst (λ families. drop at families ≡ []) same (drop_all at items h))
