use Rattle.std.proofs.Common.{◌≡◌, length, length-set, refl, ℤ, sym, ◌∙◌, ap, Ok, take, arith, rules}
use mir.Syntax.{w64}
use Rattle.std.proofs.lemmas.Int.{to_z-of_z}
use Rattle.kts_read.specs.Lines.{words_in}
use Rattle.kts_read.proofs.OperandWords.{begins_so, goes_so, fails_so, ends_so}
use Rattle.kts_read.proofs.operands.operands.Goals as goal

pub loop-k-init : goal.loop-k-init
loop-k-init c = record { three = refl; read = begins_so c.args.counts.now c.args.kinds.now (words_in c.args.line.now) }

pub loop-k-preserved : goal.loop-k-preserved
loop-k-preserved c =
    record { three = omega (arith, length-set {A = ℤ}, c.loop-k.invariant.three); read = rw (to_z-of_z w64 c.in-Ok.value (search rules)) (goes_so c.args.counts.now c.args.kinds.now (words_in c.args.line.now) c.loop-k.values c.loop-k.k c.in-Ok.value _ c.loop-k-test.true (omega (arith, c.loop-k.invariant.three)) (rw c.word.ensures at (sym c.operand.ensures ∙ c.in-Ok.is)) c.loop-k.invariant.read) }

pub returns-in-Err : goal.returns-in-Err
returns-in-Err c = fails_so c.args.counts.now c.args.kinds.now (words_in c.args.line.now) _ c.loop-k.k c.in-Err.kind _ c.loop-k-test.true (rw c.word.ensures at (sym c.operand.ensures ∙ c.in-Err.is)) c.loop-k.invariant.read

pub returns : goal.returns
returns c =
    let all : length c.args.kinds.now ≡ c.loop-k.k = omega arith in
    ends_so c.args.counts.now c.args.kinds.now (words_in c.args.line.now) (take c.loop-k.k c.loop-k.values) c.loop-k.k (omega arith) c.loop-k.invariant.read ∙ ap (λ k. Ok (take k c.loop-k.values)) (sym all)
