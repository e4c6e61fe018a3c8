use Rattle.std.proofs.Common.{ap, subst}
use Rattle.kts_top.specs.Commands.{IsSized}
use Rattle.kts_top.specs.Owed.{wanted}
use Rattle.kts_top.specs.Shown.{plain_command}
use Rattle.kts_top.specs.declared.command.Command.{Command}
use Rattle.kts_top.proofs.Loading.{ends_at_once}
use Rattle.kts_top.proofs.top.answer_command.Goals as goal

pub returns-in-Sample : goal.returns-in-Sample
returns-in-Sample g c = ends_at_once (ap (λ command. wanted (plain_command command)) c.in-Sample.is) c.answer_sample.ensures

pub answer_sample-requires : goal.answer_sample-requires
answer_sample-requires g c =
    let is = subst (λ (command : Command). IsSized (plain_command command)) c.in-Sample.is c.requires.sized in
    record { some = is.0; few = is.1 }
