use Rattle.std.proofs.Common.{◌≡◌, ◌++◌, take}
use Rattle.kts_data.proofs.plan.append.Given as goal

abbrev pub invariant-loop-value : goal.invariant-loop-value
invariant-loop-value l = l.plan ≡ l.fn.plan ++ take l.value-index l.values
