-- Where the bytes go that a sink over a writer is given: to the writer, or they are held back.
use Rattle.std.specs.Prelude.{◌≡◌, ℕ, ◌-◌, List, length, ◌++◌, Option, Some, Result, MatchResult, slice_get}
use Rattle.std.specs.Io.KnownBytes.{Appends}

-- where the writer tells them, its bytes grew by some front of the text
abbrev pub WritesFront : Option (List ℕ) → Option (List ℕ) → List ℕ → Type 0
WritesFront old new text = (front rest : List ℕ) × (front ++ rest ≡ text) × Appends old new front

-- what the writer got, with what is held back now, is what was held back before with the text
pub record Took (old : Option (List ℕ)) (held : List ℕ) (new : Option (List ℕ)) (left text : List ℕ) : Type 0 where
  pub front : List ℕ
  pub written : Appends old new front
  pub whole : front ++ left ≡ held ++ text

-- the text was taken; or a fault stopped it, and the writer got a front of what was held back with the text
abbrev pub Sent : {T E : Type 0} → Result T E → Option (List ℕ) → List ℕ → Option (List ℕ) → List ℕ → List ℕ → Type 0
Sent result old held new left text = MatchResult result (λ _. Took old held new left text) (λ _. WritesFront old new (held ++ text))

abbrev pub line_feed : ℕ
line_feed = 10

-- the text ends a line
abbrev pub EndsLine : List ℕ → Type 0
EndsLine text = slice_get text (length text - 1) ≡ Some line_feed
