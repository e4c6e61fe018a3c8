use Rattle.std.proofs.Common.{◌≡◌, ◌+◌, ◌<◌, ◌≤◌, sym, ◌∙◌, subst, length, arith}
use Rattle.kts_code.specs.declared.instructions.Instr.TheVariants as i
use Rattle.kts_code.specs.declared.modes.TrapKind.TheVariants as trap_kind
use Rattle.kts_code.specs.Operands.{trap}
use Rattle.kts_machine.specs.MachineStates.{MachineState}
use Rattle.kts_machine.specs.Steps.{acted, with_core}
use Rattle.kts_machine.specs.View.{view_of}
use Rattle.kts_machine.proofs.DataFacts.{sizes}
use Rattle.kts_machine.proofs.LoopSteps.{next_goes, next_ends, next_unset}
use Rattle.kts_machine.proofs.machine.Machine.next.Goals as goal

pub set-requires-clause-small : goal.set-requires-clause-small
set-requires-clause-small g c =
    let few = sizes c.self.inside.code.schema c.self.inside.inst c.self.invariant.fits.valid c.in-Some.index in
    let size = c.size_or_none.ensures in
    let test = c.if-member-size_or_none.true in
    omega (arith, few, size, test)

pub returns-then-member-size_or_none : goal.returns-then-member-size_or_none
returns-then-member-size_or_none g c =
    let m = view_of c.self.inside in
    let all = c.self.invariant.registers_all in
    let register = c.requires.register in
    let declared : c.args.r < length m.core.registers = omega (arith, all, register) in
    let more = subst (λ n. c.in-Some.member + 1 < n) c.size_or_none.ensures c.if-member-size_or_none.true in
    rw (← c.self.view_is, c.set.ensures) (next_goes m c.args.r c.args.to declared c.in-Some.index c.in-Some.member (sym c.in-Some.is ∙ c.get.ensures.value) more)

pub returns-else-member-size_or_none : goal.returns-else-member-size_or_none
returns-else-member-size_or_none g c =
    let m = view_of c.self.inside in
    let all = c.self.invariant.registers_all in
    let register = c.requires.register in
    let declared : c.args.r < length m.core.registers = omega (arith, all, register) in
    let last = subst (λ n. n ≤ c.in-Some.member + 1) c.size_or_none.ensures c.if-member-size_or_none.false in
    rw (← c.self.view_is, c.unset.ensures) (next_ends m c.args.r c.args.to declared c.in-Some.index c.in-Some.member (sym c.in-Some.is ∙ c.get.ensures.value) last)

pub returns-in-None : goal.returns-in-None
returns-in-None g c =
    let m = view_of c.self.inside in
    let all = c.self.invariant.registers_all in
    let register = c.requires.register in
    let declared : c.args.r < length m.core.registers = omega (arith, all, register) in
    let unset = next_unset m c.args.r c.args.to declared (sym c.in-None.is ∙ c.get.ensures.value) in
    c.trap.ensures ∙ subst (λ (m : MachineState). with_core m (trap trap_kind.Register m.core) ≡ acted (i.Next c.args.r c.args.to) m) c.self.view_is unset
