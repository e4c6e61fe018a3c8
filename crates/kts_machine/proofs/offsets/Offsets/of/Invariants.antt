use Rattle.std.proofs.Common.{◌≡◌, ◌<◌, ℕ, length, take, slice_index}
use Rattle.kts_base.specs.Limits.{most_choices}
use Rattle.kts_spec.specs.Places.{cell_count}
use Rattle.kts_spec.specs.Worlds.{world_of}
use Rattle.kts_machine.proofs.offsets.Offsets.of.Given as goal

-- the offsets of the choices so far, and the next one
abbrev pub invariant-loop-x : goal.invariant-loop-x
invariant-loop-x l =
    let w = world_of l.schema l.inst in
    record {
      long : length l.first ≡ most_choices;
      next : l.next ≡ cell_count w (take l.x w.choices);
      known : (y : ℕ) → y < l.x → slice_index l.first y ≡ cell_count w (take y w.choices);
    }
