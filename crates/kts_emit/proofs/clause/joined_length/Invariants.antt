use Rattle.std.proofs.Common.{◌≡◌, ◌≤◌, ◌+◌, ◌-◌, ◌^◌, min, drop, map}
use Rattle.kts_emit.specs.BodyWeights.{literal_weight}
use Rattle.kts_emit.specs.Weights.{once, chain_rest_weight}
use Rattle.kts_emit.proofs.clause.joined_length.Given as goal

abbrev pub invariant-loop-literal : goal.invariant-loop-literal
invariant-loop-literal l = record {
  fits : l.count ≤ 2 ^ 64 - 1;
  count : min (l.count + chain_rest_weight (map (literal_weight once) (drop l.literal-index l.literals))) (2 ^ 64 - 1)
      ≡ min (chain_rest_weight (map (literal_weight once) l.literals)) (2 ^ 64 - 1);
}
