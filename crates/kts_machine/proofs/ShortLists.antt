-- Lists of at most two items.
use Rattle.std.proofs.Common.{◌≡◌, refl, ℕ, ◌≤◌, List, [], ◌∷◌, length, reverse, false, get_or, arith}
use Rattle.std.specs.Prelude.{◌==◌}

pub two_items : {A : Type 0} (xs : List A) → length xs ≤ 2 → (length xs ≡ 1 → ⊥) → (length xs == 0) ≡ false → length xs ≡ 2
two_items [] h n e = cc
two_items (x ∷ []) h n e = absurd (n refl)
two_items (x ∷ (y ∷ [])) h n e = refl
two_items (x ∷ (y ∷ (z ∷ xs))) h n e = absurd (omega (arith, h))

pub none_listed : (xs : List ℕ) → length xs ≡ 0 → reverse xs ≡ []
none_listed [] h = refl
none_listed (x ∷ xs) h = absurd (omega (arith, h))

pub one_listed : (xs : List ℕ) → length xs ≡ 1 → reverse xs ≡ get_or xs 0 0 ∷ []
one_listed [] h = absurd (omega (arith, h))
one_listed (x ∷ []) h = refl
one_listed (x ∷ (y ∷ xs)) h = absurd (omega (arith, h))

pub two_listed : (xs : List ℕ) → length xs ≡ 2 → reverse xs ≡ get_or xs 1 0 ∷ get_or xs 0 0 ∷ []
two_listed [] h = absurd (omega (arith, h))
two_listed (x ∷ []) h = absurd (omega (arith, h))
two_listed (x ∷ (y ∷ [])) h = refl
two_listed (x ∷ (y ∷ (z ∷ xs))) h = absurd (omega (arith, h))
