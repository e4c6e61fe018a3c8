use Rattle.std.proofs.Common.{◌≡◌, ◌+◌, ◌<◌, length, ap, sym, ◌∙◌, arith}
use Rattle.kts_spec.proofs.Conditions.{schema_facts}
use Rattle.kts_index.proofs.BoundSums.{bound_to, bound_more, bound_all}
use Rattle.kts_index.proofs.bound.bound.Goals as goal

pub overflow_add-bound : goal.overflow_add-bound
overflow_add-bound c =
    let few = (schema_facts c.args.schema.now).few_choices in
    let t = c.loop-choice-test.true in
    let s = c.loop-choice.invariant.few in
    omega (arith, c.len-choice-end.ensures, ap length c.choices.ensures, c.choice_bound-bound.ensures.few)

pub loop-choice-preserved : goal.loop-choice-preserved
loop-choice-preserved c =
    let t = c.loop-choice-test.true in
    let inside : c.loop-choice.choice < length c.args.schema.now.choices = omega (arith, c.len-choice-end.ensures, ap length c.choices.ensures) in
    let more = bound_more c.args.index.now c.args.schema.now c.args.inst.now c.loop-choice.choice inside in
    let s = c.loop-choice.invariant.few in
    record {
      value = ap (λ b. b + c.choice_bound-bound.result) c.loop-choice.invariant.value
          ∙ (ap (λ b. bound_to c.args.index.now c.args.schema.now c.args.inst.now c.loop-choice.choice + b) c.choice_bound-bound.ensures.value ∙ sym more);
      few = omega (arith, c.choice_bound-bound.ensures.few);
    }

pub returns : goal.returns
returns c =
    let t = c.loop-choice-test.false in
    let u = c.loop-choice.auto.choice-end in
    let e : c.loop-choice.choice ≡ length c.args.schema.now.choices = omega (arith, c.len-choice-end.ensures, ap length c.choices.ensures) in
    c.loop-choice.invariant.value ∙ (ap (bound_to c.args.index.now c.args.schema.now c.args.inst.now) e ∙ bound_all c.args.index.now c.args.schema.now c.args.inst.now)
