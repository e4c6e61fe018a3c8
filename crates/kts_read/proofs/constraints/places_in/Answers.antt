use Rattle.std.proofs.Common.{sym, ◌∙◌, inr, arith}
use Rattle.kts_read.specs.Lines.{words_in}
use Rattle.kts_read.proofs.PlaceLoops.{places_begin, places_fail, places_go_on, places_end}
use Rattle.kts_read.proofs.constraints.places_in.Goals as goal

pub loop-k-init : goal.loop-k-init
loop-k-init c = rw c.new-places.ensures (places_begin c.args.prefix.now (words_in c.args.line.now) c.args.args.now)

pub returns-in-Err : goal.returns-in-Err
returns-in-Err c =
    inr (places_fail c.args.prefix.now (words_in c.args.line.now) c.args.args.now c.loop-k.places c.loop-k.k c.in-Err.kind _ c.loop-k-test.true (rw c.word.ensures at (sym c.place_in.ensures ∙ c.in-Err.is)) c.loop-k.invariant)

pub loop-k-preserved : goal.loop-k-preserved
loop-k-preserved c =
    rw c.in_default.ensures.ok (places_go_on c.args.prefix.now (words_in c.args.line.now) c.args.args.now c.loop-k.places c.loop-k.k c.in-Ok.place _ c.loop-k-test.true (rw c.word.ensures at (sym c.place_in.ensures ∙ c.in-Ok.is)) c.loop-k.invariant)

pub returns : goal.returns
returns c = places_end c.args.prefix.now (words_in c.args.line.now) c.args.args.now c.loop-k.places c.loop-k.k (omega arith) c.loop-k.invariant
