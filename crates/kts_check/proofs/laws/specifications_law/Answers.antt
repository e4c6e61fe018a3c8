use Rattle.kts_check.proofs.Specified.{specified_there}
use Rattle.kts_check.proofs.laws.specifications_law.Goals as goal

pub returns : goal.returns
returns c = specified_there
