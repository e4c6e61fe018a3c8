use Rattle.std.proofs.Common.{sym, ap, ◌∙◌, ◌<◌, ◌+◌, ◌&&◌, length, drop, arith}
use Rattle.kts_classify.specs.PlanPatterns.{same_arguments}
use Rattle.kts_classify.proofs.HeadLists.{at_map}
use Rattle.std.proofs.lemmas.List.{length-map}
use Rattle.kts_spec.specs.declared.tree.Term.{Term}
use Rattle.kts_plan.specs.TaskReads.{one_of_first, prefix_arguments, variable_of}
use Rattle.kts_classify.proofs.PrefixVariables.{differ, same_step}
use Rattle.kts_classify.proofs.arguments.are_arguments.Goals as goal

pub returns-then-args-others : goal.returns-then-args-others
returns-then-args-others c =
    let long = length-map c.args.args.now (λ (t : Term). one_of_first c.args.variables (variable_of t)) in
    sym (differ (prefix_arguments c.args.variables c.args.args.now) c.args.others.now (λ e. c.if-args-others.true (sym long ∙ e)))

pub returns-then-not-is_same : goal.returns-then-not-is_same
returns-then-not-is_same c =
    let g = λ (t : Term). one_of_first c.args.variables (variable_of t) in
    let xs = prefix_arguments c.args.variables c.args.args.now in
    let ys = c.args.others.now in
    let k = c.loop-k.k in
    let long = length-map c.args.args.now g in
    let there : k < length xs = let here = c.loop-k-test.true in omega (arith, long, here) in
    let within : k < length ys = let here = c.loop-k-test.true in let same = c.if-args-others.false in omega (arith, here, same) in
    let item = c.argument.ensures ∙ sym (at_map g c.args.args.now k c.index-args-k.result c.argument.result c.loop-k-test.true c.index-args-k.is) in
    let step = same_step xs ys k c.argument.result there within item in
    sym (c.loop-k.invariant ∙ step ∙ ap (λ b. b && same_arguments (drop (k + 1) xs) (drop (k + 1) ys)) (sym c.if-not-is_same.ensures))

pub loop-k-preserved : goal.loop-k-preserved
loop-k-preserved c =
    let g = λ (t : Term). one_of_first c.args.variables (variable_of t) in
    let xs = prefix_arguments c.args.variables c.args.args.now in
    let ys = c.args.others.now in
    let k = c.loop-k.k in
    let long = length-map c.args.args.now g in
    let there : k < length xs = let here = c.loop-k-test.true in omega (arith, long, here) in
    let within : k < length ys = let here = c.loop-k-test.true in let same = c.if-args-others.false in omega (arith, here, same) in
    let item = c.argument.ensures ∙ sym (at_map g c.args.args.now k c.index-args-k.result c.argument.result c.loop-k-test.true c.index-args-k.is) in
    let step = same_step xs ys k c.argument.result there within item in
    c.loop-k.invariant ∙ step ∙ ap (λ b. b && same_arguments (drop (k + 1) xs) (drop (k + 1) ys)) (sym c.if-not-is_same.ensures)
