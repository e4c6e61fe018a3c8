use Rattle.std.proofs.Common.{drop, map}
use Rattle.kts_base.specs.Writes.{Part}
use Rattle.kts_code.specs.CodeTexts.{place_word}
use Rattle.kts_write.specs.Spaced.{spaced}
use Rattle.kts_write.proofs.numbers.put_places.Given as goal

abbrev pub invariant-loop-place : goal.invariant-loop-place
invariant-loop-place g l =
    Part (g.S.Sink.log l.fn.out) (g.S.Sink.log l.out) (spaced (map place_word (drop l.place-index l.places))) (spaced (map place_word l.places))
