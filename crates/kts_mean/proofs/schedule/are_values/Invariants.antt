use Rattle.std.proofs.Common.{◌≡◌, drop}
use Rattle.std.specs.List.{list_all}
use Rattle.kts_spec.specs.Data.{is_value}
use Rattle.kts_mean.specs.Bounds.{members_of}
use Rattle.kts_mean.proofs.schedule.are_values.Given as goal

-- what is left to test gives the answer
abbrev pub invariant-loop-value : goal.invariant-loop-value
invariant-loop-value l = list_all (is_value (members_of l.inst) l.kind) (drop l.value-index l.values) ≡ list_all (is_value (members_of l.inst) l.kind) l.values
