use Rattle.std.proofs.Common.{◌≡◌, ◌≤◌, ◌+◌, ◌-◌, ◌^◌, min, drop, map}
use Rattle.kts_emit.specs.Weights.{length_of_term, length_of_formula, sequence_weight, chain_weight}
use Rattle.kts_emit.proofs.CountedCode.{weight_left}
use Rattle.kts_emit.proofs.lengths.+lengths.Given as goal

abbrev pub invariant-sequence_length-loop-part : goal.invariant-sequence_length-loop-part
invariant-sequence_length-loop-part l = record {
  fits : l.count ≤ 2 ^ 64 - 1;
  count : min (l.count + sequence_weight (map length_of_term (drop l.part-index l.parts))) (2 ^ 64 - 1)
      ≡ min (sequence_weight (map length_of_term l.parts)) (2 ^ 64 - 1);
}

abbrev pub invariant-sum_length-loop-part : goal.invariant-sum_length-loop-part
invariant-sum_length-loop-part l = record {
  fits : l.count ≤ 2 ^ 64 - 1;
  count : min (l.count + weight_left l.first (map length_of_term (drop l.part-index l.parts))) (2 ^ 64 - 1)
      ≡ min (chain_weight (map length_of_term l.parts)) (2 ^ 64 - 1);
}

abbrev pub invariant-chain_length-loop-part : goal.invariant-chain_length-loop-part
invariant-chain_length-loop-part l = record {
  fits : l.count ≤ 2 ^ 64 - 1;
  count : min (l.count + weight_left l.first (map length_of_formula (drop l.part-index l.parts))) (2 ^ 64 - 1)
      ≡ min (chain_weight (map length_of_formula l.parts)) (2 ^ 64 - 1);
}
