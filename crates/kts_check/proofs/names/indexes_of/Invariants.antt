use Rattle.std.proofs.Common.{◌≡◌, drop}
use Rattle.kts_base.specs.Reads.{with_front}
use Rattle.kts_check.specs.Declarations.{indexes_of}
use Rattle.kts_check.proofs.names.indexes_of.Given as goal

abbrev pub invariant-loop-word : goal.invariant-loop-word
invariant-loop-word l = with_front l.indexes (indexes_of l.names.entries (drop l.word-index l.words)) ≡ indexes_of l.names.entries l.words
