use Rattle.std.proofs.Common.{◌≡◌, ◌++◌}
use Rattle.kts_data.proofs.roster.Roster.names.Given as goal

-- the names that were taken, and those that are left
abbrev pub invariant-loop-name : goal.invariant-loop-name
invariant-loop-name l = l.names ++ l.name-iterator ≡ l.fn.self
