-- Bytes in pieces: a file in lines, and a line in words.
use Rattle.std.specs.Prelude.{ℕ, ◌==◌, ◌&&◌, List, [], ◌∷◌, ◌++◌, Option, Some, None, Bool, true, false, not, if◌then◌else◌}
use Rattle.std.specs.List.{list_all, list_any, join_with_byte}
use Rattle.kts_spec.specs.Texts.{space}
use Rattle.kts_base.specs.Names.{is_between}

-- these bytes before the first piece
abbrev pub prepend : List ℕ → List (List ℕ) → List (List ℕ)
prepend bytes [] = bytes ∷ []
prepend bytes (piece ∷ pieces) = (bytes ++ piece) ∷ pieces

-- what stands between the bytes of this value: one piece more than there are of them
unfoldable pub split : ℕ → List ℕ → List (List ℕ)
split at [] = [] ∷ []
split at (byte ∷ bytes) = if byte == at then [] ∷ split at bytes else prepend (byte ∷ []) (split at bytes)

-- a first piece, and those of the bytes after it
abbrev pub piece_before : ℕ → List ℕ → Option (List ℕ) → List (List ℕ)
piece_before at piece None = piece ∷ []
piece_before at piece (Some rest) = piece ∷ split at rest

-- words with one space between them
abbrev pub line_of : List (List ℕ) → List ℕ
line_of words = join_with_byte space words

-- the words of a line
abbrev pub words_in : List ℕ → List (List ℕ)
words_in line = split 32 line

abbrev pub is_printable : List ℕ → Bool
is_printable line = list_all (λ byte. is_between 32 126 byte) line

abbrev pub is_empty : List ℕ → Bool
is_empty [] = true
is_empty (byte ∷ bytes) = false

-- bytes of printed text, with one space between words and none at the ends
abbrev pub is_line : List ℕ → Bool
is_line line = is_printable line && not (list_any is_empty (words_in line))
