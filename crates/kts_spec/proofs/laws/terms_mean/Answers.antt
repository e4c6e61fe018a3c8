use Rattle.kts_spec.proofs.Meanings.{terms_mean}
use Rattle.kts_spec.proofs.laws.terms_mean.Goals as goal

pub returns : goal.returns
returns c w schedule vars = terms_mean w schedule vars
