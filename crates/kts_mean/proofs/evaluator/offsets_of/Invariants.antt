use Rattle.std.proofs.Common.{◌≡◌, ◌<◌, ℕ, length, take, slice_index}
use Rattle.kts_base.specs.Limits.{most_choices}
use Rattle.kts_spec.specs.Places.{cell_count}
use Rattle.kts_spec.specs.Worlds.{world_of}
use Rattle.kts_mean.proofs.evaluator.offsets_of.Given as goal

-- the offsets of the choices so far, and the next one
abbrev pub invariant-loop-at : goal.invariant-loop-at
invariant-loop-at l =
    let w = world_of l.schema l.inst in
    record {
      long : length l.offsets ≡ most_choices;
      next : l.next ≡ cell_count w (take l.at w.choices);
      known : (x : ℕ) → x < l.at → slice_index l.offsets x ≡ cell_count w (take x w.choices);
    }
