-- Sets of members, as lists: one member, and the same member.
use Rattle.std.specs.Prelude.{Bool, not, ◌||◌, ℕ, List, [], ◌∷◌, Option, Some, None}
use Rattle.std.specs.List.{list_all}
use Rattle.kts_sets.specs.Sets.{elem, set_of}
use Rattle.kts_abs.specs.declared.truth.Tri.{Tri}
use Rattle.kts_abs.specs.Truth.{decided}

-- whether the set has the member
abbrev pub has_member : List ℕ → ℕ → Bool
has_member ms m = elem m ms

-- the member where it is the only one
abbrev pub single_member : List ℕ → Option ℕ
single_member [] = None
single_member (m ∷ []) = Some m
single_member (m ∷ n ∷ ms) = None

-- whether the test passes at each item of the first list with each of the second
abbrev pub every_pair : {X : Type 0} → (X → X → Bool) → List X → List X → Bool
every_pair test xs ys = list_all (λ x. list_all (λ y. test x y) ys) xs

-- whether both are one and the same: true where each two are equal, false where no two are
abbrev pub same_of : {X : Type 0} → (X → X → Bool) → List X → List X → Tri
same_of equal xs ys = decided (every_pair equal xs ys) (every_pair (λ x y. not (equal x y)) xs ys)

-- the members of either
abbrev pub union_of : List ℕ → List ℕ → List ℕ
union_of ms ns = set_of (λ m. elem m ms || elem m ns)
