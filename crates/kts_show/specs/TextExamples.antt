-- What small spaces know, and the lines that say it.
use Rattle.std.specs.Prelude.{◌≡◌, ℕ, ◌-◌, pos, negsuc, List, [], ◌∷◌, map}
use Rattle.kts_spec.specs.declared.instance.Instance.{Instance}
use Rattle.kts_spec.specs.declared.schema.Schema.{Schema}
use Rattle.kts_spec.specs.Examples.{lines}
use Rattle.kts_abs.specs.Values.{Abs, Win, Mem}
use Rattle.kts_abs.specs.NodeTexts.{node_text}

-- the whole numbers between two, the first of them so far below 0
abbrev pub around_zero : ℕ → ℕ → Abs
around_zero below hi = Win (negsuc (below - 1), pos hi)

-- the whole numbers between two
abbrev pub between : ℕ → ℕ → Abs
between lo hi = Win (pos lo, pos hi)

-- members by their positions
abbrev pub any_of : List ℕ → Abs
any_of ms = Mem (map pos ms)

-- the line of a node
abbrev pub Shows : Schema → Instance → List Abs → List ℕ → Type 0
Shows schema inst space line = node_text schema inst space ≡ lines (line ∷ [])
