use Rattle.std.proofs.Common.{◌≡◌, drop}
use Rattle.kts_spec.specs.Worlds.{world_of}
use Rattle.kts_mean.proofs.ScheduleFits.{is_for}
use Rattle.kts_mean.proofs.schedule.is_schedule.Given as goal

-- what is left to test gives the answer
abbrev pub invariant-loop-family : goal.invariant-loop-family
invariant-loop-family l = is_for (world_of l.spec.schema l.inst) (drop l.family-index l.spec.schema.choices) l.rest ≡ is_for (world_of l.spec.schema l.inst) l.spec.schema.choices l.schedule
