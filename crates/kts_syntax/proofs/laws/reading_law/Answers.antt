use Rattle.kts_syntax.proofs.Nesting.{forms_within}
use Rattle.kts_syntax.proofs.TopFits.{read_fits}
use Rattle.kts_syntax.proofs.laws.reading_law.Goals as goal

pub returns : goal.returns
returns c = record { fit = read_fits; shallow = forms_within }
