use Rattle.kts_emit.proofs.CodeRuns.{code_pushes, code_pushes_above}
use Rattle.kts_emit.proofs.laws.code_pushes_values.Goals as goal

pub returns-clause-ranged : goal.returns-clause-ranged
returns-clause-ranged c = code_pushes

pub returns-clause-above : goal.returns-clause-above
returns-clause-above c = code_pushes_above
