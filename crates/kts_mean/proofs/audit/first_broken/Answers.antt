use Rattle.std.proofs.Common.{arith, ◌≡◌, sym, ◌∙◌, ap, subst, ◌<◌, [], length, slice_index_or}
use Rattle.kts_spec.specs.Meaning.{truth_on}
use Rattle.kts_spec.specs.Worlds.{world_of}
use Rattle.kts_mean.proofs.BrokenFormulas.{formula_of, broken_from, broken_begins, broken_here, broken_later, none_broken}
use Rattle.kts_mean.proofs.audit.first_broken.Goals as goal

pub loop-number-init : goal.loop-number-init
loop-number-init c =
    ap (broken_from c.args.spec.now c.args.inst.now c.args.schedule.now 0) (c.as_slice-formula-items.ensures ∙ c.formulas.ensures)
    ∙ broken_begins c.args.spec.now c.args.inst.now c.args.schedule.now

pub truth-requires : goal.truth-requires
truth-requires c =
    let same = c.as_slice-formula-items.ensures ∙ c.formulas.ensures in
    let here = subst (λ items. c.loop-number.number < length items) same c.loop-number-test.true in
    let is = subst (λ items. c.formula-item.result ≡ slice_index_or items c.loop-number.number c.formula-item.result) same c.formula-item.is in
    rw (c.new-evaluator.ensures.schema, c.schema.ensures, c.new-evaluator.ensures.inst, c.of-no_variables.ensures)
    (formula_of c.args.spec.now c.args.inst.now c.loop-number.number c.formula-item.result here is)

pub returns-then-not-truth : goal.returns-then-not-truth
returns-then-not-truth c =
    let is : c.truth.result ≡ truth_on (world_of c.args.spec.now.schema c.args.inst.now) c.args.schedule.now c.formula-item.result.1 [] =
    rw (c.new-evaluator.ensures.schema, c.schema.ensures, c.new-evaluator.ensures.inst, c.new-evaluator.ensures.schedule, c.of-no_variables.ensures) at c.truth.ensures in
    sym (broken_here c.args.spec.now c.args.inst.now c.args.schedule.now c.as_slice-formula-items.result.now c.loop-number.number c.formula-item.result c.loop-number-test.true c.formula-item.is (sym is ∙ c.if-not-truth.true))
    ∙ c.loop-number.invariant

pub loop-number-preserved : goal.loop-number-preserved
loop-number-preserved c =
    let is : c.truth.result ≡ truth_on (world_of c.args.spec.now.schema c.args.inst.now) c.args.schedule.now c.formula-item.result.1 [] =
    rw (c.new-evaluator.ensures.schema, c.schema.ensures, c.new-evaluator.ensures.inst, c.new-evaluator.ensures.schedule, c.of-no_variables.ensures) at c.truth.ensures in
    sym (broken_later c.args.spec.now c.args.inst.now c.args.schedule.now c.as_slice-formula-items.result.now c.loop-number.number c.formula-item.result c.loop-number-test.true c.formula-item.is (sym is ∙ c.if-not-truth.false))
    ∙ c.loop-number.invariant

pub returns : goal.returns
returns c =
    let ended = c.loop-number-test.false in
    sym (none_broken c.args.spec.now c.args.inst.now c.args.schedule.now c.as_slice-formula-items.result.now c.loop-number.number (omega (arith, ended))) ∙ c.loop-number.invariant
