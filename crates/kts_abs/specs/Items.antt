-- What a search writes: the space at a node, and schedules.
use Rattle.std.specs.Prelude.{ℤ, List, [], ◌∷◌}
use Rattle.kts_abs.specs.Values.{Abs}

pub data Item : Type 0 where
  node : List Abs → Item
  schedule : List ℤ → Item

-- the schedules among the items
abbrev pub schedules_of : List Item → List (List ℤ)
schedules_of [] = []
schedules_of (node space ∷ items) = schedules_of items
schedules_of (schedule values ∷ items) = values ∷ schedules_of items
