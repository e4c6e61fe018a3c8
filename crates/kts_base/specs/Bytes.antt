-- Bytes that an object of the outside world may tell, and what is appended to them.
use Rattle.std.specs.Prelude.{◌≡◌, ℕ, ◌+◌, List, [], ◌∷◌, ◌++◌, length}

-- what is told of the bytes written: nothing, how many they are, or all of them
pub data Written : Type 0 where
  untold : Written
  counted : ℕ → Written
  told : List ℕ → Written

-- what is told when a piece was added
abbrev pub added : Written → List ℕ → Written
added untold piece = untold
added (counted count) piece = counted (count + length piece)
added (told bytes) piece = told (bytes ++ piece)

-- the pieces, one after another
abbrev pub joined : List (List ℕ) → List ℕ
joined [] = []
joined (piece ∷ pieces) = piece ++ joined pieces

-- the bytes are what they were with the piece at their end
abbrev pub Appends : Written → Written → List ℕ → Type 0
Appends old new piece = new ≡ added old piece

-- some front of the piece was appended
abbrev pub AppendsFront : Written → Written → List ℕ → Type 0
AppendsFront old new piece = (front rest : List ℕ) × (front ++ rest ≡ piece) × Appends old new front
