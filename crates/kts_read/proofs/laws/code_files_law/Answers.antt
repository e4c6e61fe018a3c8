use Rattle.kts_read.proofs.FileCodes.{code_files}
use Rattle.kts_read.proofs.laws.code_files_law.Goals as goal

pub returns : goal.returns
returns c = code_files
