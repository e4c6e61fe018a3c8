use Rattle.kts_syntax.proofs.FormOrder.{fault_is_first, value_where_none}
use Rattle.kts_syntax.proofs.laws.form_fault_law.Goals as goal

pub returns : goal.returns
returns c = record { value = value_where_none; fault = λ bytes trees f found. fault_is_first bytes trees found f }
