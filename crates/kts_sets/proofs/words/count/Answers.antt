use Rattle.std.proofs.Common.{rules, arith, ◌+◌, slice_index_or, Fits, w64}
use Rattle.std.specs.Int.RustNames.{count_ones}
use Rattle.std.proofs.lemmas.List.Sums.{sum_by-take-drop, sum_by_more}
use Rattle.std.proofs.lemmas.Nat.{ones-le}
use Rattle.kts_sets.proofs.words.count.Goals as goal

pub loop-word-preserved : goal.loop-word-preserved
loop-word-preserved c =
    let f : Fits w64 (slice_index_or c.args.words.now c.loop-word.word-index 0) = search rules in
    record {
      rest = omega (arith, c.loop-word.invariant.rest, sum_by-take-drop count_ones c.args.words.now c.loop-word.word-index, sum_by-take-drop count_ones c.args.words.now (c.loop-word.word-index + 1), sum_by_more count_ones c.args.words.now c.loop-word.word-index 0 (omega arith));
      few = omega (arith, c.loop-word.invariant.few, ones-le 64 (slice_index_or c.args.words.now c.loop-word.word-index 0) f.fits);
    }
