use Rattle.kts_abs.proofs.Exact.{is_exact}
use Rattle.kts_abs.proofs.Monotone.{is_monotone}
use Rattle.kts_abs.proofs.Sound.{is_sound}
use Rattle.kts_abs.proofs.laws.space_laws.Goals as goal

pub returns : goal.returns
returns c = record { sound = is_sound; monotone = is_monotone; exact = is_exact }
