use Rattle.kts_base.proofs.Decimals.{number_told, number_read}
use Rattle.kts_base.proofs.numeral.numeral_law.Goals as goal

pub returns : goal.returns
returns c low high n bytes small = (number_told low high bytes n small, number_read low high bytes n small)
