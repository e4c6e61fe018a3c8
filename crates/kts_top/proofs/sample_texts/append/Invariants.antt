use Rattle.std.proofs.Common.{◌≡◌, ◌++◌, take}
use Rattle.kts_top.proofs.sample_texts.append.Given as goal

abbrev pub invariant-loop-byte : goal.invariant-loop-byte
invariant-loop-byte l = l.text ≡ l.initial.text ++ take l.byte-index l.piece
