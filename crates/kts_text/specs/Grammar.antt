-- The grammar of texts of trees, apart from any reader.
use Rattle.std.specs.Prelude.{◌≡◌, ◌≢◌, ℕ, ◌+◌, ◌-◌, ◌<◌, ◌≤◌, List, [], ◌∷◌, ◌++◌, length}
use Rattle.std.specs.List.{AllByRecursion}
use Rattle.kts_base.specs.Limits.{most_atom_bytes, most_nesting}
use Rattle.kts_text.specs.Bytes.{class, line_feed, open_parenthesis, close_parenthesis, semicolon}
use Rattle.kts_text.specs.Forest.{Forest, none, atom, list}
use Rattle.kts_text.specs.declared.class.Class.TheVariants.{White, Letter}

-- What stands in a file or in a list: each piece, and what stands after it.
pub data Text : Type 0 where
  nothing : Text
  -- a byte of white space
  white : ℕ → Text → Text
  -- a semicolon, these bytes, and the end of the line
  comment : List ℕ → Text → Text
  -- an atom of these bytes
  letters : List ℕ → Text → Text
  -- a list, and what stands in it
  nested : Text → Text → Text

-- the bytes of a text
abbrev pub spelled : Text → List ℕ
spelled nothing = []
spelled (white byte after) = byte ∷ spelled after
spelled (comment bytes after) = semicolon ∷ (bytes ++ line_feed ∷ spelled after)
spelled (letters bytes after) = bytes ++ spelled after
spelled (nested inside after) = open_parenthesis ∷ (spelled inside ++ close_parenthesis ∷ spelled after)

-- the trees of a text whose first byte has this place
abbrev pub forest : ℕ → Text → Forest
forest at nothing = none
forest at (white byte after) = forest (at + 1) after
forest at (comment bytes after) = forest (at + length bytes + 2) after
forest at (letters bytes after) = atom at bytes (forest (at + length bytes) after)
forest at (nested inside after) = list at (at + length (spelled inside) + 2) (forest (at + 1) inside) (forest (at + length (spelled inside) + 2) after)

-- an atom has letters, and at most so many
pub record IsAtom (bytes : List ℕ) : Type 0 where
  pub some : 0 < length bytes
  pub few : length bytes ≤ most_atom_bytes
  pub letters : AllByRecursion (λ byte. class byte ≡ Letter) bytes

-- an atom is as long as it can be: none stands right after another
abbrev pub NoAtom : Text → Type 0
NoAtom nothing = Unit {0}
NoAtom (white byte after) = Unit {0}
NoAtom (comment bytes after) = Unit {0}
NoAtom (letters bytes after) = ⊥
NoAtom (nested inside after) = Unit {0}

-- the rest of a line
abbrev pub IsLine : List ℕ → Type 0
IsLine bytes = AllByRecursion (λ byte. byte ≢ line_feed) bytes

-- the pieces are what they are called, and lists nest at most so deep
abbrev pub IsText : ℕ → Text → Type 0
IsText deep nothing = Unit {0}
IsText deep (white byte after) = (class byte ≡ White) × IsText deep after
IsText deep (comment bytes after) = IsLine bytes × IsText deep after
IsText deep (letters bytes after) = IsAtom bytes × NoAtom after × IsText deep after
IsText deep (nested inside after) = (0 < deep) × IsText (deep - 1) inside × IsText deep after

-- nothing, or a comment that the end of the file ends
abbrev pub IsLast : List ℕ → Type 0
IsLast [] = Unit {0}
IsLast (byte ∷ bytes) = (byte ≡ semicolon) × IsLine bytes

-- the bytes are a text whose lists nest as deep as they may, and perhaps a last comment; these are its trees
abbrev pub Spells : List ℕ → Forest → Type 0
Spells bytes trees = (text : Text) × (last : List ℕ) × IsText most_nesting text × IsLast last × (bytes ≡ spelled text ++ last) × (trees ≡ forest 0 text)

-- the bytes are a file of these trees, of which there is one at least
abbrev pub TreesOf : List ℕ → Forest → Type 0
TreesOf bytes trees = Spells bytes trees × (trees ≢ none)
