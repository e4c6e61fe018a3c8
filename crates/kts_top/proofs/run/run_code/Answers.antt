use Rattle.std.proofs.Common.{◌∙◌, ap, sym}
use Rattle.kts_machine.specs.MachineStates.{MachineState}
use Rattle.kts_top.proofs.RunAnswers.{AreTold, run_ended, run_stopped, path_traced, path_untraced}
use Rattle.kts_top.proofs.run.run_code.Goals as goal
use Rattle.kts_top.proofs.run.run_code.Goals.{then-trace, else-trace}

pub returns-in-WriteFault : goal.returns-in-WriteFault
returns-in-WriteFault g c =
    let same = ap (λ (m : MachineState). m.setup) c.in-Ok.ensures in
    let told : AreTold c.args.options c.first.result c.trace.result c.steps.result = record { first_is = c.first.ensures; trace_is = c.trace.ensures; budget_is = c.steps.ensures.steps } in
    run_stopped c.args.options c.first.result c.trace.result c.steps.result told c.args.code.now c.args.inst.now c.in-Ok.machine.setup same (c.run.ensures.stopped c.in-WriteFault.is)

pub returns-in_default : goal.returns-in_default
returns-in_default g c =
    let options = c.args.options in
    let code = c.args.code.now in
    let inst = c.args.inst.now in
    let m = c.in-Ok.machine.setup in
    let same = ap (λ (m : MachineState). m.setup) c.in-Ok.ensures in
    let fault = c.in_default.not-WriteFault in
    let told : AreTold c.args.options c.first.result c.trace.result c.steps.result = record { first_is = c.first.ensures; trace_is = c.trace.ensures; budget_is = c.steps.ensures.steps } in
    run_ended options c.first.result c.trace.result c.steps.result told code inst m same _ c.if-trace.path (c.run.ensures.outcome fault)
    (elim c.if-trace.branch [
      | then-trace w ↦ w.path-is ∙ path_traced options c.first.result c.trace.result c.steps.result told code inst m same w.longest.result w.bound.result (sym w.if-trace.ensures) (w.longest.ensures ∙ c.run.ensures.longest fault) w.bound.ensures
      | else-trace w ↦ w.path-is ∙ path_untraced options c.first.result c.trace.result c.steps.result told code inst m same (sym w.if-trace.ensures)
    ])
    (c.run.ensures.wrote fault) c.end_run.ensures
