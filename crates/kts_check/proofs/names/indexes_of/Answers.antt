use Rattle.std.proofs.Common.{sym, inr}
use Rattle.std.proofs.lemmas.Result.{err_from_is_err_and}
use Rattle.kts_base.proofs.Each.{each_fails, each_on, each_done}
use Rattle.kts_check.specs.Declarations.{index_of, same_names}
use Rattle.kts_check.proofs.names.indexes_of.Goals as goal

pub returns-in_err-index_of : goal.returns-in_err-index_of
returns-in_err-index_of c =
    let p = err_from_is_err_and c.from_residual.result c.from_residual.ensures.1 in
    rw (p.1, p.2) (inr (each_fails index_of same_names _ c.args.words.now c.loop-word.word-index _ c.loop-word.indexes _ _ c.loop-word-test.true c.word-item.is (sym c.in_err-index_of.ensures) c.loop-word.invariant))

pub loop-word-preserved : goal.loop-word-preserved
loop-word-preserved c =
    rw c.in_ok-push.ensures.ok
    (each_on index_of same_names _ c.args.words.now c.loop-word.word-index _ c.loop-word.indexes _ _ c.loop-word-test.true c.word-item.is (sym c.in_ok-index_of.ensures) c.loop-word.invariant)

pub returns : goal.returns
returns c = each_done index_of same_names _ c.args.words.now c.loop-word.word-index c.loop-word.indexes _ c.loop-word-test.false c.loop-word.invariant
