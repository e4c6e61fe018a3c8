use Rattle.std.proofs.Common.{ap}
use Rattle.kts_machine.specs.Cuts.{text_after}
use Rattle.kts_machine.specs.MachineStates.{MachineState}
use Rattle.kts_top.specs.Endings.{lacked}
use Rattle.kts_top.proofs.RunAnswers.{AreTold}
use Rattle.kts_top.proofs.SampleRuns.{counted_text, run_lines, run_summed}
use Rattle.kts_top.proofs.sample.summarize_code.Goals as goal

pub returns-in-WriteFault : goal.returns-in-WriteFault
returns-in-WriteFault g c = lacked c.say_no_memory.ensures

pub returns-in_default : goal.returns-in_default
returns-in_default g c =
    let options = c.first_hundred-options.result in
    let first = c.first.result in
    let traced = c.trace.result in
    let budget = c.steps.result in
    let m = c.in-Ok.machine.setup in
    let same = ap (λ (m : MachineState). m.setup) c.in-Ok.ensures in
    let fault = c.in_default.not-WriteFault in
    let told : AreTold options first traced budget = record { first_is = c.first.ensures; trace_is = c.trace.ensures; budget_is = c.steps.ensures.steps } in
    let text = text_after m 0 first traced budget in
    let lines = run_lines options c.first_hundred-options.ensures first traced budget told c.args.code.now c.args.inst.now m same c.run.result (c.run.ensures.outcome fault) in
    run_summed options c.first_hundred-options.ensures first traced budget told c.args.code.now c.args.inst.now m same c.run.result (c.run.ensures.outcome fault) c.args.size
    (c.end_summary.ensures text lines (counted_text c.new-count.result c.run.new.out text c.new-count.ensures (c.run.ensures.wrote fault)))
