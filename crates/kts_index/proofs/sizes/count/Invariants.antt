use Rattle.std.proofs.Common.{◌≡◌, take}
use Rattle.kts_spec.specs.Places.{count_of}
use Rattle.kts_index.specs.TupleNumbers.{sizes_in}
use Rattle.kts_index.proofs.sizes.count.Given as goal

abbrev pub invariant-loop-index : goal.invariant-loop-index
invariant-loop-index l = l.count ≡ count_of (sizes_in l.inst (take l.index-index l.indexes))
