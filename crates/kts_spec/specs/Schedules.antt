-- All schedules, as a plain list.
use Rattle.std.specs.Prelude.{ℕ, ◌+◌, ℤ, pos, ◌+ℤ◌, ◌-ℤ◌, nat_abs, List, [], ◌∷◌, map, flat_map}
use Rattle.std.specs.List.{range_with_len, enumerate_from}
use Rattle.kts_spec.specs.declared.declarations.ValueType.{ValueType}
use Rattle.kts_spec.specs.declared.declarations.ValueType.TheVariants.{Int, Member}
use Rattle.kts_spec.specs.declared.declarations.Family.{Family}
use Rattle.kts_spec.specs.Worlds.{World, size_of, sizes_of}

-- one item of each list, in every way: each item of the first list, in order, before each way for the others
abbrev pub all : {X : Type 0} → List (List X) → List (List X)
all [] = [] ∷ []
all (xs ∷ lists) = flat_map (λ x. map (λ rest. x ∷ rest) (all lists)) xs

-- the tuples of members of indexes of these sizes, in lexicographic order
abbrev pub tuples : List ℕ → List (List ℕ)
tuples sizes = all (map (range_with_len 0) sizes)

-- what a schedule gives a value: a choice at a tuple of members, and the type of the value
pub record Cell : Type 0 where
  pub choice : ℕ
  pub args : List ℕ
  pub kind : ValueType

-- the cells of a choice
abbrev pub cells_of : World → ℕ × Family → List Cell
cells_of w (x, family) = map (λ args. record { choice = x; args = args; kind = family.kind }) (tuples (sizes_of w family))

-- the cells of all choices, in the order of their declarations
abbrev pub cells : World → List Cell
cells w = flat_map (cells_of w) (enumerate_from 0 w.choices)

-- the whole numbers from one end to another that is not below it
abbrev pub numbers : ℤ → ℤ → List ℤ
numbers lo hi = map (λ i. lo +ℤ pos i) (range_with_len 0 (nat_abs (hi -ℤ lo) + 1))

-- the values of a type, rising; a member is its position in its index
abbrev pub values_of : World → ValueType → List ℤ
values_of w (Int lo hi) = numbers lo hi
values_of w (Member i) = map pos (range_with_len 0 (size_of w i))

-- the values of each cell
abbrev pub cell_values : World → List (List ℤ)
cell_values w = map (λ (c : Cell). values_of w c.kind) (cells w)

-- all schedules, in lexicographic order
abbrev pub schedules : World → List (List ℤ)
schedules w = all (cell_values w)
