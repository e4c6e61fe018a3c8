use Rattle.std.proofs.Common.{arith}
use Rattle.kts_mean.proofs.TermParts.{few_variables}
use Rattle.kts_mean.proofs.audit.truth.Goals as goal

pub of-requires : goal.of-requires
of-requires c =
    let same = few_variables c.args.spec.now.schema c.args.inst.now c.requires.formula.scope c.args.vars.now c.requires.formula.is_scope in
    let few = c.requires.formula.is_scope.few in
    omega (arith, same, few)
