-- Accesses whose cell is the same in every space.
use Rattle.std.specs.Prelude.{List, [], ◌∷◌, map, Bool, true, false, Option, Some, None, if◌then◌else◌}
use Rattle.std.specs.List.{list_all}
use Rattle.kts_spec.specs.declared.tree.Term.{Term}
use Rattle.kts_spec.specs.declared.tree.Formula.{Formula}
use Rattle.kts_spec.specs.declared.tree.Formula.TheOpen.{Term-F, Choice}
use Rattle.kts_spec.specs.declared.tree.Formula.TheFolds.{para-Term}
use Rattle.kts_spec.specs.Reads.{Access, reads_of}

-- whether there is no access
abbrev pub is_none : List Access → Bool
is_none [] = true
is_none (a ∷ others) = false

-- whether a term reads no choice
abbrev pub reads_nothing : Term → Bool
reads_nothing t = is_none (reads_of t)

abbrev pub bare_step : Term-F (Formula × Unit {0}) (Term × Option Access) → Option Access
bare_step (Choice x args) = if list_all (λ arg. reads_nothing arg.0) args then Some (x, map (λ arg. arg.0) args) else None
bare_step other = None

-- an access to a choice whose arguments read no choice
unfoldable pub bare : Term → Option Access
bare = para-Term (Unit {0}) (Option Access) (λ _. tt) bare_step
