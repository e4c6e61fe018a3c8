use Rattle.std.proofs.Common.{◌≡◌, ◌∙◌, rules}
use Rattle.kts_top.specs.Endings.{as_owed, for_memory}
use Rattle.kts_top.proofs.RunAnswers.{line_put}
use Rattle.kts_top.proofs.refusals.say_refused.Goals as goal

pub returns-then-is_no_memory : goal.returns-then-is_no_memory
returns-then-is_no_memory g c =
    let lack : c.args.fault.now.kind ≡ g.K.FaultKind.no_memory = search rules in
    for_memory lack c.say_no_memory.ensures

pub returns : goal.returns
returns g c =
    let wrote = rw (c.kind-kind.ensures, c.at.ensures) at c.put_refused.ensures in
    as_owed (λ lack. let told = c.if-is_no_memory.ensures.1 (c.kind-kind.ensures ∙ lack) in cc) (line_put c.put_refused.result c.status_of.ensures (λ h. cc) wrote)
