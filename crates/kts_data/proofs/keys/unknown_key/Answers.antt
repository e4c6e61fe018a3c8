use Rattle.std.proofs.Common.{◌∙◌, sym, length, ap, arith}
use Rattle.kts_data.proofs.KeyLemmas.{known, unknown, no_more}
use Rattle.kts_data.proofs.keys.unknown_key.Goals as goal

pub loop-k-preserved : goal.loop-k-preserved
loop-k-preserved c =
    let s = c.in-Some.ensures.steps in
    let n = ap length s in
    record {
      fits = omega (arith, n, c.loop-k.invariant.fits);
      left = sym (known _ c.loop-k.k c.loop-k.key-iterator c.next.new.self _ s (rw c.as_bytes.ensures.value at c.if-not-is_declared.ensures)) ∙ c.loop-k.invariant.left;
    }

pub returns-then-not-is_declared : goal.returns-then-not-is_declared
returns-then-not-is_declared c =
    sym (unknown _ c.loop-k.k c.loop-k.key-iterator c.next.new.self _ c.in-Some.ensures.steps (rw c.as_bytes.ensures.value at c.if-not-is_declared.ensures)) ∙ c.loop-k.invariant.left

pub returns : goal.returns
returns c = sym (no_more _ c.loop-k.k c.loop-k.key-iterator c.in-None.ensures.steps.0) ∙ c.loop-k.invariant.left
