use Rattle.std.proofs.Common.{◌≡◌, ◌≤◌, ◌+◌, ◌-◌, ◌^◌, min, drop}
use Rattle.kts_emit.specs.BodyWeights.{later_weight}
use Rattle.kts_emit.specs.Weights.{once}
use Rattle.kts_emit.proofs.body_lengths.later_length.Given as goal

abbrev pub invariant-loop-addend : goal.invariant-loop-addend
invariant-loop-addend l = record {
  fits : l.count ≤ 2 ^ 64 - 1;
  count : min (l.count + later_weight once (drop l.addend-index l.addends)) (2 ^ 64 - 1) ≡ min (later_weight once l.addends) (2 ^ 64 - 1);
}
