use Rattle.std.proofs.Common.{sym, ◌∙◌, ap, ℕ, pos}
use Rattle.std.specs.Prelude.{option_map}
use Rattle.kts_machine.proofs.SetDemands.{only_single}
use Rattle.kts_machine.proofs.demands.only.Goals as goal

pub returns : goal.returns
returns g c = ap (option_map (λ (m : ℕ). pos m)) c.single.ensures.value ∙ sym (only_single c.args.members.now c.set-set.ensures.valid.set)
