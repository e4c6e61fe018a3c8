use Rattle.std.proofs.Common.{arith}
use Rattle.kts_spec.proofs.Conditions.{schema_facts}
use Rattle.kts_mean.proofs.evaluator.Evaluator.choice.Goals as goal

pub bounds-offsets-x : goal.bounds-offsets-x
bounds-offsets-x c =
    let few = (schema_facts c.args.self.now.schema.now).few_choices in
    let here = c.requires.declared in
    omega (arith, few, here)

pub offset_bounds-offsets-x : goal.offset_bounds-offsets-x
offset_bounds-offsets-x c =
    let few = (schema_facts c.args.self.now.schema.now).few_choices in
    let here = c.requires.declared in
    omega (arith, few, here)
