use Rattle.kts_machine.proofs.machine.Machine.emit.Goals as goal

pub returns-clause-wrote : goal.returns-clause-wrote
returns-clause-wrote g c =
    rw (← c.self.view_is, c.if-not-self.false) (rw (c.schema.ensures, c.deref.ensures.value, c.copy_least.ensures) at c.in_ok-put_schedule.ensures)
