use Rattle.std.proofs.Common.{◌≡◌, ◌+◌, ◌≤◌, length}
use Rattle.kts_read.specs.Goods.{Good}
use Rattle.kts_read.specs.Lines.{split}
use Rattle.kts_read.specs.Reading.{nothing, read_from}
use Rattle.kts_read.specs.Written.{written}
use Rattle.kts_read.proofs.read.code_read.Given as goal

abbrev pub invariant-lines : goal.invariant-lines
invariant-lines l = record {
  good : Good l.draft.part l.draft;
  counted : length (written l.draft l.draft.part) + 1 ≡ l.at;
  read : read_from l.draft l.at (split 10 l.rest) ≡ read_from nothing 1 (split 10 l.bytes);
  few : l.at + length l.rest ≤ 1 + length l.bytes;
}

abbrev pub decreases-lines : goal.decreases-lines
decreases-lines l = length l.rest
