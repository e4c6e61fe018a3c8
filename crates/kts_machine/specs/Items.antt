-- At most two items, as a list.
use Rattle.std.specs.Prelude.{ℕ, List, [], ◌∷◌, map, pos, ℤ, Option, Some, None}
use Rattle.kts_machine.specs.declared.up_to_two.UpToTwo.{UpToTwo}
use Rattle.kts_machine.specs.declared.up_to_two.UpToTwo.TheVariants.{Zero, One, Two}

-- in order
abbrev pub items_of : {T : Type 0} → UpToTwo T → List T
items_of Zero = []
items_of (One x) = x ∷ []
items_of (Two x y) = x ∷ y ∷ []

-- members by their positions
abbrev pub positions_of : UpToTwo ℕ → List ℤ
positions_of tuple = map pos (items_of tuple)

-- sets of members, as sets of their positions
abbrev pub sets_of : UpToTwo (List ℕ) → List (List ℤ)
sets_of sets = map (map pos) (items_of sets)

-- a member after another one, where there is one
abbrev pub tuple_of : Option ℕ → ℕ → UpToTwo ℕ
tuple_of None last = One last
tuple_of (Some first) last = Two first last
