use Rattle.std.proofs.Common.{drop}
use Rattle.std.specs.List.{flat_map}
use Rattle.kts_base.specs.Writes.{Part}
use Rattle.kts_spec.specs.Texts.{entry_text}
use Rattle.kts_show.specs.OwnTexts.{own_entries, own_values_text}
use Rattle.kts_show.proofs.schedule.put_values.Given as goal

abbrev pub invariant-loop-at : goal.invariant-loop-at
invariant-loop-at g l =
    Part (g.S.Sink.log l.fn.out) (g.S.Sink.log l.out) (flat_map (entry_text l.inst l.family) (drop l.at (own_entries l.inst l.family l.own))) (own_values_text l.inst l.family l.own)
