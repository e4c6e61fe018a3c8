use Rattle.std.proofs.Common.{◌≡◌, ◌≤◌, ◌*◌, ◌^◌, drop}
use Rattle.kts_data.specs.Drafts.{tuples_in}
use Rattle.kts_data.proofs.counts.tuple_count.Given as goal

-- the product of the first sizes, and of the others
abbrev pub invariant-loop-index : goal.invariant-loop-index
invariant-loop-index l = record {
  so_far : l.count * tuples_in l.inst (drop l.index-index l.indexes) ≡ tuples_in l.inst l.indexes;
  few : l.count ≤ 64 ^ l.index-index;
}
