use Rattle.kts_emit.proofs.WorkedCode.{code_is_as_worked}
use Rattle.kts_emit.proofs.laws.code_is_as_worked.Goals as goal

pub returns : goal.returns
returns c = code_is_as_worked
