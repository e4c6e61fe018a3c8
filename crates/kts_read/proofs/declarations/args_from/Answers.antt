use Rattle.std.proofs.Common.{sym, ◌∙◌, arith, inr}
use Rattle.kts_read.specs.Lines.{words_in}
use Rattle.kts_read.proofs.ArgumentLoops.{args_go_on, args_fail, args_end, args_begin}
use Rattle.kts_read.proofs.declarations.args_from.Goals as goal

pub loop-k-init : goal.loop-k-init
loop-k-init c = rw c.new-args.ensures (args_begin c.args.indexes c.args.from (words_in c.args.line.now))

pub returns-in-Err : goal.returns-in-Err
returns-in-Err c = inr (args_fail c.args.indexes c.args.from (words_in c.args.line.now) c.loop-k.args c.loop-k.k c.in-Err.kind (omega arith) (rw c.word.ensures at (sym c.index_at.ensures ∙ c.in-Err.is)) c.loop-k.invariant)

pub loop-k-preserved : goal.loop-k-preserved
loop-k-preserved c = rw c.in_default.ensures.ok (args_go_on c.args.indexes c.args.from (words_in c.args.line.now) c.loop-k.args c.loop-k.k c.in-Ok.index (omega arith) (rw c.word.ensures at (sym c.index_at.ensures ∙ c.in-Ok.is)) c.loop-k.invariant)

pub returns : goal.returns
returns c = args_end c.args.indexes c.args.from (words_in c.args.line.now) c.loop-k.args c.loop-k.k (omega arith) c.loop-k.invariant
