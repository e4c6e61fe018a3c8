-- Lines, and the last line of a text.
use Rattle.std.specs.Prelude.{◌≡◌, ◌⊎◌, ℕ, List, [], ◌∷◌, ◌++◌, Bool, false, ◌||◌, nat_eq, if◌then◌else◌}
use Rattle.kts_spec.specs.Texts.{newline}

-- a text that ends a line
abbrev pub Line : List ℕ → Type 0
Line text = (t : List ℕ) × (text ≡ t ++ newline)

-- so, or nothing
abbrev pub Lines : List ℕ → Type 0
Lines text = (text ≡ []) ⊎ Line text

-- more follows the end of a line
abbrev pub line_follows : List ℕ → Bool
line_follows [] = false
line_follows (byte ∷ []) = false
line_follows (byte ∷ next ∷ bytes) = nat_eq byte 10 || line_follows (next ∷ bytes)

-- what stands behind the last line's end that more follows
abbrev pub last_line : List ℕ → List ℕ
last_line [] = []
last_line (byte ∷ bytes) = if line_follows (byte ∷ bytes) then last_line bytes else byte ∷ bytes
