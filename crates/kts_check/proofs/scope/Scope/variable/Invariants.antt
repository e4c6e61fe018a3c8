use Rattle.std.proofs.Common.{◌≡◌, drop}
use Rattle.kts_check.specs.Scopes.{variable_from, variable}
use Rattle.kts_check.proofs.scope.Scope.variable.Given as goal

abbrev pub invariant-loop-k : goal.invariant-loop-k
invariant-loop-k l = variable_from l.k (drop l.k l.variables) l.name ≡ variable l.variables l.name
