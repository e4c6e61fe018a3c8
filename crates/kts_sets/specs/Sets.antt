-- Sets of numbers below 65,536, as the rising lists of their members.
use Rattle.std.specs.Prelude.{◌≡◌, refl, ℕ, Bool, false, ◌||◌, not, List, [], ◌∷◌, filter, nat_eq, nat_lt}
use Rattle.std.specs.List.{range_with_len}

-- every member is below it
pub limit : ℕ
limit = 65536

pub limit_is : limit ≡ 65536
unfolding limit
limit_is = refl

-- the set of the numbers that pass
unfoldable pub set_of : (ℕ → Bool) → List ℕ
set_of p = filter p (range_with_len 0 limit)

-- whether the number is in the list
unfoldable pub elem : ℕ → List ℕ → Bool
elem m [] = false
elem m (x ∷ xs) = nat_eq m x || elem m xs

-- a list that rises and stays below the limit: the set of what is in it
pub record IsSet (a : List ℕ) : Type 0 where
  pub is : a ≡ set_of (λ m. elem m a)

-- whether x is another number than m
abbrev pub other : ℕ → ℕ → Bool
other m x = not (nat_eq x m)

-- whether x is m or above it
abbrev pub not_below : ℕ → ℕ → Bool
not_below m x = not (nat_lt x m)
