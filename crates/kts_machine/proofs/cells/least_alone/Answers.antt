use Rattle.std.proofs.Common.{◌∙◌, ap}
use Rattle.kts_abs.specs.declared.cell.Cell.TheVariants.{Mem}
use Rattle.kts_abs.specs.Cells.{is_above}
use Rattle.kts_sets.specs.Choices.{within}
use Rattle.kts_machine.proofs.SplitParts.{within-first}
use Rattle.kts_machine.proofs.cells.least_alone.Goals as goal

pub returns-in-Mem-clause-above : goal.returns-in-Mem-clause-above
returns-in-Mem-clause-above g c =
    ap (λ a. is_above a (Mem c.first_member.result)) c.in-Mem.is ∙ ap (within c.in-Mem.choice) c.first_member.ensures.member ∙ within-first c.in-Mem.choice
