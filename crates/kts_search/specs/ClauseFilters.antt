-- Filters by clauses, where each has code that pushes its truth.
use Rattle.std.specs.Prelude.{◌≡◌, ℕ, ◌+◌, List, [], ◌∷◌, ◌++◌, length, Some}
use Rattle.kts_abs.specs.Spaces.{IsSpace}
use Rattle.kts_abs.specs.Values.{Abs}
use Rattle.kts_base.specs.Limits.{most_variables}
use Rattle.kts_clause.specs.declared.clause.Clause.{Clause}
use Rattle.kts_code.specs.declared.instructions.Instr.{Instr}
use Rattle.kts_code.specs.declared.instructions.Instr.TheVariants.{Test}
use Rattle.kts_code.specs.declared.modes.Mode.TheVariants.{Going}
use Rattle.kts_code.specs.Machine.{step}
use Rattle.kts_code.specs.Reaches.{Reaches}
use Rattle.kts_code.specs.Setups.{Setup, world_in}
use Rattle.kts_code.specs.States.{Truth, State}
use Rattle.kts_emit.specs.Effects.{Kept, IsOnTheWay}
use Rattle.kts_emit.specs.Fragments.{Fragment}
use Rattle.kts_emit.specs.Pushes.{HasPushed, StandsAt}
use Rattle.kts_plan.specs.Walks.{clause_in}

-- from a place on: each clause in order, with no variable in scope, and a test that leaves to the label where it is false
abbrev pub filters_by : (Clause → Fragment) → List Clause → ℕ → ℕ → List Instr
filters_by code [] place to = []
filters_by code (c ∷ cs) place to = code c place 0 ++ (Test to ∷ filters_by code cs (place + length (code c place 0) + 1) to)

-- their weight, each with its test
abbrev pub weight_by : (Clause → ℕ) → List Clause → ℕ
weight_by weight [] = 0
weight_by weight (c ∷ cs) = weight c + 1 + weight_by weight cs

-- from each state with nothing on its stack, wherever it stands, the code of a clause pushes its truth in the space of the state
abbrev pub PushesClause : Setup → Fragment → ℕ → Clause → Type 0
PushesClause m code weight c =
    (space : List Abs) (s : State) → IsSpace (world_in m) space → s.core.mode ≡ Going → s.core.space ≡ Some space → s.core.stack ≡ []
    → length s.core.registers ≡ most_variables → StandsAt m.code.instrs s.core.pc (code s.core.pc 0)
    → Reaches (step m) (IsOnTheWay m Kept) s weight
    (HasPushed 0 (s.core.pc + length (code s.core.pc 0)) (Truth (clause_in (world_in m) space c)) s)
