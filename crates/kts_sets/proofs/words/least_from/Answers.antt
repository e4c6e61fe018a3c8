use Rattle.std.proofs.Common.{arith}
use Rattle.kts_sets.proofs.Pointwise.{has_past}
use Rattle.kts_sets.proofs.Least.{least_in_first, none_in_first, least_in_later, none_in_later, none_at_all}
use Rattle.kts_sets.proofs.words.least_from.Goals as goal

pub returns-then-start-words : goal.returns-then-start-words
returns-then-start-words c = λ y h. has_past c.args.words.now y (omega arith)

pub returns-in-Some : goal.returns-in-Some
returns-in-Some c = least_in_first c.args.words.now c.args.m c.in-Some.j (omega arith) c.in-Some.ensures

pub loop-k-init : goal.loop-k-init
loop-k-init c = record { after = omega arith; none = none_in_first c.args.words.now c.args.m c.in-None.ensures }

pub returns-in-Some-lowest : goal.returns-in-Some-lowest
returns-in-Some-lowest c = least_in_later c.args.words.now c.args.m c.loop-k.k c.in-Some-lowest.j c.loop-k.invariant.after (omega arith) c.loop-k.invariant.none c.in-Some-lowest.ensures

pub loop-k-preserved : goal.loop-k-preserved
loop-k-preserved c = record {
  after = omega (arith, c.loop-k.invariant.after);
  none = none_in_later c.args.words.now c.args.m c.loop-k.k c.loop-k.invariant.none c.in-None-lowest.ensures;
}

pub returns : goal.returns
returns c = none_at_all c.args.words.now c.args.m c.loop-k.k c.loop-k.invariant.none (omega arith)
