use Rattle.std.proofs.Common.{sym, ap, ◌∙◌, arith}
use Rattle.kts_plan.specs.TaskReads.{variable_of, one_of_first}
use Rattle.kts_classify.proofs.PrefixVariables.{variable_of-Var, variable_of-other, one_of_some, one_of_none}
use Rattle.kts_classify.proofs.arguments.argument.Goals as goal

pub returns-then-from-variables : goal.returns-then-from-variables
returns-then-from-variables c = sym (ap (one_of_first c.args.variables) (ap variable_of c.in-Var.is ∙ variable_of-Var c.in-Var.k) ∙ one_of_some c.args.variables c.in-Var.k (omega arith))

pub returns-else-from-variables : goal.returns-else-from-variables
returns-else-from-variables c = sym (ap (one_of_first c.args.variables) (ap variable_of c.in-Var.is ∙ variable_of-Var c.in-Var.k) ∙ one_of_none c.args.variables c.in-Var.k (omega arith))

pub returns-in_default : goal.returns-in_default
returns-in_default c = sym (ap (one_of_first c.args.variables) (variable_of-other c.args.arg.now c.in_default.not-Var))
