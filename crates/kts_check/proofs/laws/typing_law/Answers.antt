use Rattle.kts_check.proofs.RuleForms.{typing_holds}
use Rattle.kts_check.proofs.laws.typing_law.Goals as goal

pub returns : goal.returns
returns c = record { typed = typing_holds }
