use Rattle.std.proofs.Common.{◌∙◌, ap, length}
use Rattle.kts_machine.proofs.OpenedMachines.{as_many, sound_reopened}
use Rattle.kts_machine.proofs.machine.Machine.set_origin.Goals as goal

pub reopen-requires : goal.reopen-requires
reopen-requires g c =
    ap length (c.as_slice.ensures ∙ c.cells.ensures)
    ∙ as_many c.self.inside c.args.self.now.setup c.args.origin.now.cells c.self.invariant (c.self.view_is ∙ c.reset.ensures) c.requires

pub invariant_of-self : goal.invariant_of-self
invariant_of-self g c =
    sound_reopened c.self.inside c.args.self.now.setup c.args.origin.now.cells c.self.invariant (c.self.view_is ∙ c.reset.ensures) c.requires
    c.reopen.new.self (rw (← c.cells.ensures, ← c.as_slice.ensures) c.reopen.ensures)
