use Rattle.std.proofs.Common.{◌≡◌, ◌≤◌, length}
use Rattle.kts_machine.specs.KeptReaders.{AreReaders}
use Rattle.kts_machine.proofs.readers.kept_readers.Given as goal

abbrev pub invariant-loop-k : goal.invariant-loop-k
invariant-loop-k l = record {
  long : length l.lists ≡ l.k;
  few : l.total ≤ 65536;
  each : AreReaders l.code l.inst l.lists;
}
