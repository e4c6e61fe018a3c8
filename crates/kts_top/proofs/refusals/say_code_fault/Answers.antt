use Rattle.std.proofs.Common.{◌≡◌, ◌∙◌, rules}
use Rattle.kts_read.specs.declared.fault.CodeKind.TheVariants.{NoMemory}
use Rattle.kts_top.specs.Endings.{as_owed, for_memory}
use Rattle.kts_top.proofs.RunAnswers.{line_put}
use Rattle.kts_top.proofs.refusals.say_code_fault.Goals as goal

pub returns-then-is_no_memory : goal.returns-then-is_no_memory
returns-then-is_no_memory g c =
    let lack : c.args.fault.now.kind ≡ NoMemory = search rules in
    for_memory lack c.say_no_memory.ensures

pub returns : goal.returns
returns g c =
    as_owed (λ lack. let told = c.if-is_no_memory.ensures.1 (c.kind.ensures ∙ lack) in cc) (line_put c.put_code_fault.result c.status_of.ensures (λ h. cc) c.put_code_fault.ensures)
