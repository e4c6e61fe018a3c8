-- The line after the last one of a run that is traced.
use Rattle.std.specs.Prelude.{ℕ, List, ◌++◌, codes, decimal}
use Rattle.kts_spec.specs.Texts.{newline}

-- how far the longest path went, and how far it could have gone
abbrev pub path_text : ℕ → ℕ → List ℕ
path_text path bound = codes "path " ++ (decimal path ++ (codes " bound " ++ (decimal bound ++ newline)))
