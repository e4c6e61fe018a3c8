use Rattle.kts_read.proofs.CodeDrafts.{only_from}
use Rattle.kts_read.proofs.FirstFaults.{first_from_reading}
use Rattle.kts_read.proofs.Found.{found_from}
use Rattle.kts_read.proofs.read.read_code.Goals as goal

pub returns-clause-found : goal.returns-clause-found
returns-clause-found c = found_from c.args.bytes.now c.code_read.result c.code_read.ensures

pub returns-clause-only : goal.returns-clause-only
returns-clause-only c = λ code is. only_from c.args.bytes.now c.code_read.result code c.code_read.ensures is

pub returns-clause-first : goal.returns-clause-first
returns-clause-first c = first_from_reading c.args.bytes.now c.code_read.result c.code_read.ensures
