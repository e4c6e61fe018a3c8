use Rattle.std.proofs.Common.{arith}
use Rattle.kts_mean.proofs.TermParts.{few_variables}
use Rattle.kts_mean.proofs.audit.value.Goals as goal

pub of-requires : goal.of-requires
of-requires c =
    let same = few_variables c.args.spec.now.schema c.args.inst.now c.requires.term.scope c.args.vars.now c.requires.term.is_scope in
    let few = c.requires.term.is_scope.few in
    omega (arith, same, few)
