-- Sets with a member, as values that rise while they shrink.
use Rattle.std.specs.Prelude.{ℕ, ◌≤◌, Bool, List, [], ◌∷◌, length, filter, Option, Some, None}
use Rattle.std.specs.List.{list_all}
use Rattle.kts_sets.specs.Sets.{elem, IsSet}

-- a set with a member
pub record IsChoice (a : List ℕ) : Type 0 where
  pub set : IsSet a
  pub some : 1 ≤ length a

-- whether each of b is in a
abbrev pub within : List ℕ → List ℕ → Bool
within a b = list_all (λ m. elem m a) b

-- the list, if it is not empty
abbrev pub unless_empty : List ℕ → Option (List ℕ)
unless_empty [] = None
unless_empty (m ∷ ms) = Some (m ∷ ms)

-- what is in both, if anything is
abbrev pub common : List ℕ → List ℕ → Option (List ℕ)
common a b = unless_empty (filter (λ m. elem m b) a)
