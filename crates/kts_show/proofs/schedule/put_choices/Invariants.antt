use Rattle.std.proofs.Common.{◌≡◌, ◌-◌, drop, length}
use Rattle.std.specs.List.{flat_map, range_with_len}
use Rattle.kts_base.specs.Writes.{Part}
use Rattle.kts_spec.specs.Places.{offset}
use Rattle.kts_spec.specs.Texts.{choice_line, choice_lines}
use Rattle.kts_spec.specs.Worlds.{world_of}
use Rattle.kts_show.proofs.schedule.put_choices.Given as goal

-- what is left are the values from the next choice on, and their lines
abbrev pub invariant-loop-family : goal.invariant-loop-family
invariant-loop-family g l =
    let x = l.family-index in
    record {
      rest : l.rest ≡ drop (offset (world_of l.schema l.inst) x) l.values;
      written : Part (g.S.Sink.log l.fn.out) (g.S.Sink.log l.out) (flat_map (choice_line l.schema l.inst l.values) (range_with_len x (length l.schema.choices - x))) (choice_lines l.schema l.inst l.values);
    }
