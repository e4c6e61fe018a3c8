use Rattle.std.proofs.Common.{arith, take, drop}
use Rattle.std.proofs.lemmas.Grind.{common_steps}
use Rattle.kts_base.proofs.mem_sink.MemSinkSink.put.Goals as goal

pub returns-clause-wrote : goal.returns-clause-wrote
returns-clause-wrote c =
    let count = c.min-count.result in
    let piece = c.args.piece.now in
    record {
      appended = (take count piece, drop count piece, grind (arith, common_steps), grind (arith, common_steps));
      rose = grind (arith, common_steps);
    }
