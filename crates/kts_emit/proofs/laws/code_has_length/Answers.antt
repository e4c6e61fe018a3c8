use Rattle.kts_emit.proofs.CodeLengths.{code_has_length}
use Rattle.kts_emit.proofs.ShortCode.{code_is_short}
use Rattle.kts_emit.proofs.laws.code_has_length.Goals as goal

pub returns-clause-length : goal.returns-clause-length
returns-clause-length c = code_has_length

pub returns-clause-short : goal.returns-clause-short
returns-clause-short c = code_is_short
