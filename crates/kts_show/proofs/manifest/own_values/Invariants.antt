use Rattle.std.proofs.Common.{◌≡◌, drop}
use Rattle.kts_spec.specs.Places.{offset}
use Rattle.kts_spec.specs.Worlds.{world_of}
use Rattle.kts_show.proofs.manifest.own_values.Given as goal

-- what is left are the values from the next choice on
abbrev pub invariant-loop-k : goal.invariant-loop-k
invariant-loop-k l = l.rest ≡ drop (offset (world_of l.schema l.inst) l.k) l.values
