-- Words of a call.
use Rattle.std.specs.Prelude.{ℕ, List, [], ◌∷◌, Bool, false, not, nat_eq}
use Rattle.std.specs.Cmp.Lexicographic.{pointwise}

-- the same bytes
abbrev pub is_word : List ℕ → List ℕ → Bool
is_word = pointwise nat_eq

-- the byte with which an option begins
abbrev pub dash : ℕ
dash = 45

-- whether a word may name a file: it has bytes, of which the first is no `-`
abbrev pub is_file_word : List ℕ → Bool
is_file_word [] = false
is_file_word (byte ∷ bytes) = not (nat_eq byte dash)
