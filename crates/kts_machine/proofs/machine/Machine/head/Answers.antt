use Rattle.std.proofs.Common.{◌<◌, length, rules, arith}
use Rattle.kts_base.specs.Limits.{most_instructions}
use Rattle.kts_spec.specs.Worlds.{world_of}
use Rattle.kts_machine.proofs.RaisedSpaces.{is_target}
use Rattle.kts_machine.proofs.machine.Machine.head.Goals as goal

pub demand-requires : goal.demand-requires
demand-requires g c =
    let few = c.self.invariant.fits.few_words in
    let place : c.self.inside.pc < most_instructions = rw (← c.self.view_is) at c.requires.place in
    let declared : c.args.x < length c.self.inside.code.schema.choices = rw (← c.self.view_is) at c.requires.declared in
    let at = c.in-Ok.ensures.cell in
    (omega arith, (search rules, (place, (c.in-Ok.ensures.bound, is_target (world_of c.self.inside.code.schema c.self.inside.inst) c.args.op c.self.inside.live c.self.inside.row.cells (length c.self.inside.choices.latest) c.args.x c.in-Ok.target.cell at.0 c.if-not-self.false c.self.invariant.searched.space declared at.1 c.in-Ok.ensures.suits))))
