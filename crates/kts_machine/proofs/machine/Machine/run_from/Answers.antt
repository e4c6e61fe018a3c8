use Rattle.std.proofs.Common.{◌≡◌, ◌+◌, ◌-◌, ◌<◌, ◌∙◌, sym, ap, arith}
use Rattle.kts_machine.specs.MachineStates.{MachineState}
use Rattle.kts_machine.proofs.Following.{run_at, run_over, outcome_is, longest_is, one_more, run_stopped, run_cut, quiet_run, quiet_printed, printed_step, not_last, still_goes, goes_no_more}
use Rattle.kts_machine.proofs.machine.Machine.run_from.Goals as goal

pub returns-in-Err-clause-stopped : goal.returns-in-Err-clause-stopped
returns-in-Err-clause-stopped g c e =
    let h = c.loop-left.invariant in
    let within = h.within in
    let some = c.loop-left-test.true in
    let less : c.args.budget - c.loop-left.left < c.args.budget = omega (arith, within, some) in
    run_stopped h.run h.goes c.args.budget less c.in-Err.ensures.wrote

pub returns-in-Err-clause-cut : goal.returns-in-Err-clause-cut
returns-in-Err-clause-cut g c e =
    let h = c.loop-left.invariant in
    let within = h.within in
    let some = c.loop-left-test.true in
    run_cut h.run h.goes (c.args.budget - (c.loop-left.left - 1)) (omega (arith, within, some)) c.in-Err.ensures.wrote

pub returns-then-is_over-clause-outcome : goal.returns-then-is_over-clause-outcome
returns-then-is_over-clause-outcome g c e =
    let h = c.loop-left.invariant in
    let within = h.within in
    let some = c.loop-left-test.true in
    let budget = c.args.budget in
    let n = budget - c.loop-left.left in
    let k = budget - (c.loop-left.left - 1) in
    let one : n + 1 ≡ k = omega (arith, within, some) in
    let run = run_at (one_more h.run h.goes c.step.new.self c.in_default.ensures.done c.in_default.ensures.wrote) k one in
    let end = run_over run budget (omega arith) (sym c.is_over.ensures ∙ c.if-is_over.true) in
    c.ended.ensures.outcome ∙ outcome_is end

pub returns-then-is_over-clause-steps : goal.returns-then-is_over-clause-steps
returns-then-is_over-clause-steps g c e =
    let h = c.loop-left.invariant in
    let within = h.within in
    let some = c.loop-left-test.true in
    let budget = c.args.budget in
    let n = budget - c.loop-left.left in
    let k = budget - (c.loop-left.left - 1) in
    let one : n + 1 ≡ k = omega (arith, within, some) in
    let run = run_at (one_more h.run h.goes c.step.new.self c.in_default.ensures.done c.in_default.ensures.wrote) k one in
    let end = run_over run budget (omega arith) (sym c.is_over.ensures ∙ c.if-is_over.true) in
    ap (λ (m : MachineState). m.steps) c.ended.ensures.steps ∙ end.steps

pub returns-then-is_over-clause-longest : goal.returns-then-is_over-clause-longest
returns-then-is_over-clause-longest g c e =
    let h = c.loop-left.invariant in
    let within = h.within in
    let some = c.loop-left-test.true in
    let budget = c.args.budget in
    let n = budget - c.loop-left.left in
    let k = budget - (c.loop-left.left - 1) in
    let one : n + 1 ≡ k = omega (arith, within, some) in
    let run = run_at (one_more h.run h.goes c.step.new.self c.in_default.ensures.done c.in_default.ensures.wrote) k one in
    let end = run_over run budget (omega arith) (sym c.is_over.ensures ∙ c.if-is_over.true) in
    ap (λ (m : MachineState). m.longest) c.ended.ensures.steps ∙ longest_is end

pub returns-then-is_over-clause-wrote : goal.returns-then-is_over-clause-wrote
returns-then-is_over-clause-wrote g c e =
    let h = c.loop-left.invariant in
    let within = h.within in
    let some = c.loop-left-test.true in
    let budget = c.args.budget in
    let n = budget - c.loop-left.left in
    let k = budget - (c.loop-left.left - 1) in
    let one : n + 1 ≡ k = omega (arith, within, some) in
    let run = run_at (one_more h.run h.goes c.step.new.self c.in_default.ensures.done c.in_default.ensures.wrote) k one in
    let end = run_over run budget (omega arith) (sym c.is_over.ensures ∙ c.if-is_over.true) in
    end.wrote

pub returns-then-not-is_going-clause-setup : goal.returns-then-not-is_going-clause-setup
returns-then-not-is_going-clause-setup g c =
    let h = c.loop-left.invariant in
    let within = h.within in
    let some = c.loop-left-test.true in
    let budget = c.args.budget in
    let n = budget - c.loop-left.left in
    let k = budget - (c.loop-left.left - 1) in
    let one : n + 1 ≡ k = omega (arith, within, some) in
    let run = run_at (one_more h.run h.goes c.step.new.self c.in_default.ensures.done c.in_default.ensures.wrote) k one in
    let on = sym c.is_over.ensures ∙ c.if-is_over.false in
    let silent = c.run_silently-left.ensures in
    let few = silent.few in
    let last = budget - (c.loop-left.left - 1 - c.run_silently-left.result) in
    let all : k + c.run_silently-left.result ≡ last = omega (arith, within, some, few) in
    let run2 = run_at (quiet_run k c.run_silently-left.result c.step.new.self c.run_silently-left.new.self silent.done run (not_last c.args.first c.step.new.self on)) last all in
    let end = run_over run2 budget (omega arith) (goes_no_more c.args.first c.run_silently-left.new.self (sym c.is_going.ensures ∙ c.if-not-is_going.true)) in
    ap (λ (m : MachineState). m.setup) c.ended-then-not-is_going.ensures.steps ∙ ap (λ (m : MachineState). m.setup) end.follows

pub returns-then-not-is_going-clause-outcome : goal.returns-then-not-is_going-clause-outcome
returns-then-not-is_going-clause-outcome g c e =
    let h = c.loop-left.invariant in
    let within = h.within in
    let some = c.loop-left-test.true in
    let budget = c.args.budget in
    let n = budget - c.loop-left.left in
    let k = budget - (c.loop-left.left - 1) in
    let one : n + 1 ≡ k = omega (arith, within, some) in
    let run = run_at (one_more h.run h.goes c.step.new.self c.in_default.ensures.done c.in_default.ensures.wrote) k one in
    let on = sym c.is_over.ensures ∙ c.if-is_over.false in
    let silent = c.run_silently-left.ensures in
    let few = silent.few in
    let last = budget - (c.loop-left.left - 1 - c.run_silently-left.result) in
    let all : k + c.run_silently-left.result ≡ last = omega (arith, within, some, few) in
    let run2 = run_at (quiet_run k c.run_silently-left.result c.step.new.self c.run_silently-left.new.self silent.done run (not_last c.args.first c.step.new.self on)) last all in
    let end = run_over run2 budget (omega arith) (goes_no_more c.args.first c.run_silently-left.new.self (sym c.is_going.ensures ∙ c.if-not-is_going.true)) in
    c.ended-then-not-is_going.ensures.outcome ∙ outcome_is end

pub returns-then-not-is_going-clause-steps : goal.returns-then-not-is_going-clause-steps
returns-then-not-is_going-clause-steps g c e =
    let h = c.loop-left.invariant in
    let within = h.within in
    let some = c.loop-left-test.true in
    let budget = c.args.budget in
    let n = budget - c.loop-left.left in
    let k = budget - (c.loop-left.left - 1) in
    let one : n + 1 ≡ k = omega (arith, within, some) in
    let run = run_at (one_more h.run h.goes c.step.new.self c.in_default.ensures.done c.in_default.ensures.wrote) k one in
    let on = sym c.is_over.ensures ∙ c.if-is_over.false in
    let silent = c.run_silently-left.ensures in
    let few = silent.few in
    let last = budget - (c.loop-left.left - 1 - c.run_silently-left.result) in
    let all : k + c.run_silently-left.result ≡ last = omega (arith, within, some, few) in
    let run2 = run_at (quiet_run k c.run_silently-left.result c.step.new.self c.run_silently-left.new.self silent.done run (not_last c.args.first c.step.new.self on)) last all in
    let end = run_over run2 budget (omega arith) (goes_no_more c.args.first c.run_silently-left.new.self (sym c.is_going.ensures ∙ c.if-not-is_going.true)) in
    ap (λ (m : MachineState). m.steps) c.ended-then-not-is_going.ensures.steps ∙ end.steps

pub returns-then-not-is_going-clause-longest : goal.returns-then-not-is_going-clause-longest
returns-then-not-is_going-clause-longest g c e =
    let h = c.loop-left.invariant in
    let within = h.within in
    let some = c.loop-left-test.true in
    let budget = c.args.budget in
    let n = budget - c.loop-left.left in
    let k = budget - (c.loop-left.left - 1) in
    let one : n + 1 ≡ k = omega (arith, within, some) in
    let run = run_at (one_more h.run h.goes c.step.new.self c.in_default.ensures.done c.in_default.ensures.wrote) k one in
    let on = sym c.is_over.ensures ∙ c.if-is_over.false in
    let silent = c.run_silently-left.ensures in
    let few = silent.few in
    let last = budget - (c.loop-left.left - 1 - c.run_silently-left.result) in
    let all : k + c.run_silently-left.result ≡ last = omega (arith, within, some, few) in
    let run2 = run_at (quiet_run k c.run_silently-left.result c.step.new.self c.run_silently-left.new.self silent.done run (not_last c.args.first c.step.new.self on)) last all in
    let end = run_over run2 budget (omega arith) (goes_no_more c.args.first c.run_silently-left.new.self (sym c.is_going.ensures ∙ c.if-not-is_going.true)) in
    ap (λ (m : MachineState). m.longest) c.ended-then-not-is_going.ensures.steps ∙ longest_is end

pub returns-then-not-is_going-clause-wrote : goal.returns-then-not-is_going-clause-wrote
returns-then-not-is_going-clause-wrote g c e =
    let h = c.loop-left.invariant in
    let within = h.within in
    let some = c.loop-left-test.true in
    let budget = c.args.budget in
    let n = budget - c.loop-left.left in
    let k = budget - (c.loop-left.left - 1) in
    let one : n + 1 ≡ k = omega (arith, within, some) in
    let run = run_at (one_more h.run h.goes c.step.new.self c.in_default.ensures.done c.in_default.ensures.wrote) k one in
    let on = sym c.is_over.ensures ∙ c.if-is_over.false in
    let silent = c.run_silently-left.ensures in
    let few = silent.few in
    let last = budget - (c.loop-left.left - 1 - c.run_silently-left.result) in
    let all : k + c.run_silently-left.result ≡ last = omega (arith, within, some, few) in
    let run2 = run_at (quiet_run k c.run_silently-left.result c.step.new.self c.run_silently-left.new.self silent.done run (not_last c.args.first c.step.new.self on)) last all in
    let end = run_over run2 budget (omega arith) (goes_no_more c.args.first c.run_silently-left.new.self (sym c.is_going.ensures ∙ c.if-not-is_going.true)) in
    end.wrote

pub loop-left-preserved : goal.loop-left-preserved
loop-left-preserved g c =
    let h = c.loop-left.invariant in
    let within = h.within in
    let some = c.loop-left-test.true in
    let budget = c.args.budget in
    let n = budget - c.loop-left.left in
    let k = budget - (c.loop-left.left - 1) in
    let one : n + 1 ≡ k = omega (arith, within, some) in
    let run = run_at (one_more h.run h.goes c.step.new.self c.in_default.ensures.done c.in_default.ensures.wrote) k one in
    let on = sym c.is_over.ensures ∙ c.if-is_over.false in
    let silent = c.run_silently-left.ensures in
    let few = silent.few in
    let last = budget - (c.loop-left.left - 1 - c.run_silently-left.result) in
    let all : k + c.run_silently-left.result ≡ last = omega (arith, within, some, few) in
    let run2 = run_at (quiet_run k c.run_silently-left.result c.step.new.self c.run_silently-left.new.self silent.done run (not_last c.args.first c.step.new.self on)) last all in
    let before = h.printed in
    let printed = printed_step c.loop-left.self c.step.new.self c.in_default.ensures.done in
    let same = quiet_printed c.run_silently-left.result c.step.new.self c.run_silently-left.new.self silent.done in
    let longest = h.longest in
    let step = c.in_default.ensures.few in
    let steps = silent.counted in
    record {
      within = omega (arith, within, some, few);
      run = run2;
      goes = still_goes c.args.first c.run_silently-left.result c.step.new.self c.run_silently-left.new.self silent.done on (sym c.is_going.ensures ∙ c.if-not-is_going.false);
      printed = omega (arith, within, some, few, before, printed, same);
      longest = omega (arith, within, some, few, longest, step, steps);
    }
