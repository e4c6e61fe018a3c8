use Rattle.kts_syntax.proofs.GrammarForms.{forms_if, forms_then}
use Rattle.kts_syntax.proofs.laws.forms_law.Goals as goal

pub returns : goal.returns
returns c trees ast = (forms_if trees ast, forms_then)
