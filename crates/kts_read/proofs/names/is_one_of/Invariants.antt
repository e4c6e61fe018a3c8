use Rattle.std.proofs.Common.{◌≡◌, map, drop}
use Rattle.std.specs.List.{list_any}
use Rattle.kts_read.specs.Words.{is_text}
use Rattle.kts_read.proofs.names.is_one_of.Given as goal

abbrev pub invariant-loop-word : goal.invariant-loop-word
invariant-loop-word l = list_any (is_text l.bytes) (map (λ word. word.now) (drop l.word-index l.words)) ≡ list_any (is_text l.bytes) (map (λ word. word.now) l.words)
