use Rattle.kts_spec.proofs.Meanings.{formulas_mean}
use Rattle.kts_spec.proofs.laws.formulas_mean.Goals as goal

pub returns : goal.returns
returns c w schedule vars = formulas_mean w schedule vars
