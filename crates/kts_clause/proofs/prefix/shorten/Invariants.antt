use Rattle.std.proofs.Common.{◌≡◌, ◌-◌, length, take}
use Rattle.kts_clause.proofs.prefix.shorten.Given as goal

-- so many items fewer
abbrev pub invariant-loop-popped : goal.invariant-loop-popped
invariant-loop-popped l = l.list ≡ take (length l.initial.list - l._popped) l.initial.list
