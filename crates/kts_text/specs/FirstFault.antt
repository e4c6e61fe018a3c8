-- The first fault of a file of trees.
use Rattle.std.specs.Prelude.{◌≡◌, ℕ, ◌+◌, ◌<◌, ◌≤◌, ◌⊎◌, List, ◌++◌, length, take, slice_index}
use Rattle.kts_text.specs.Bytes.{class}
use Rattle.kts_text.specs.Forest.{Forest, none}
use Rattle.kts_text.specs.Grammar.{Spells, TreesOf}
use Rattle.kts_text.specs.declared.class.Class.{Class}
use Rattle.kts_text.specs.declared.class.Class.TheVariants.{White, Semicolon, Open, Close, Letter, Bad}
use Rattle.kts_text.specs.declared.fault.TreeKind.{TreeKind}
use Rattle.kts_text.specs.declared.fault.TreeKind.TheVariants.{BadByte, LongAtom, Deep, Extra, Unclosed, Empty}

-- some file begins so
abbrev pub CanGoOn : List ℕ → Type 0
CanGoOn front = (more : List ℕ) × (trees : Forest) × TreesOf (front ++ more) trees

-- what is wrong with a byte with which no file can go on; white space and a semicolon never are
abbrev pub kind_of : Class → TreeKind
kind_of White = BadByte
kind_of Semicolon = BadByte
kind_of Open = Deep
kind_of Close = Extra
kind_of Letter = LongAtom
kind_of Bad = BadByte

-- what is wrong with a file that goes wrong at its end: there is no tree, or a list is open
abbrev pub EndsWrong : List ℕ → TreeKind → Type 0
EndsWrong bytes kind = (kind ≡ Empty) × Spells bytes none ⊎ (kind ≡ Unclosed) × ¬ Spells bytes none

-- The first fault is at the end of the longest front with which a file can begin: at the byte there, or at the file's end.
pub record IsFirstFault (bytes : List ℕ) (kind : TreeKind) (at : ℕ) : Type 0 where
  pub within : at ≤ length bytes
  pub before : CanGoOn (take at bytes)
  pub at_byte : at < length bytes → (¬ CanGoOn (take (at + 1) bytes)) × (kind ≡ kind_of (class (slice_index bytes at)))
  pub at_end : at ≡ length bytes → ((trees : Forest) → ¬ TreesOf bytes trees) × EndsWrong bytes kind
