use Rattle.std.proofs.Common.{◌∙◌, sym, inr, arith}
use Rattle.std.proofs.lemmas.Result.{err_from_is_err_and}
use Rattle.kts_syntax.proofs.FrontLemmas.{names_end, names_list, name_fails, name_on}
use Rattle.kts_syntax.proofs.PartLemmas.{weight-atom}
use Rattle.kts_syntax.proofs.tops.names.Goals as goal

pub returns-in-End : goal.returns-in-End
returns-in-End c = names_end c.loop-words.words _ _ c.loop-words.invariant c.in-End.ensures

pub returns-in_err-word-in-Atom : goal.returns-in_err-word-in-Atom
returns-in_err-word-in-Atom c =
    let p = err_from_is_err_and c.from_residual.result c.from_residual.ensures.1 in
    rw (p.1, p.2) (inr (name_fails c.loop-words.words _ _ c.loop-words.invariant _ _ _ c.in-Atom.ensures _ (sym c.name_at.ensures ∙ c.in_err-word-in-Atom.was)))

pub loop-words-smaller : goal.loop-words-smaller
loop-words-smaller c = omega (arith, weight-atom _ _ _ _ c.in-Atom.ensures)

pub loop-words-preserved : goal.loop-words-preserved
loop-words-preserved c = name_on c.loop-words.words _ _ c.loop-words.invariant _ _ _ c.in-Atom.ensures _ _ (sym c.name_at.ensures ∙ c.in_ok-word-in-Atom.was) c.in_ok-push-in-Atom.ensures.ok

pub returns-in-List : goal.returns-in-List
returns-in-List c = rw c.fail.ensures (inr (names_list c.loop-words.words _ _ c.loop-words.invariant _ _ _ _ c.in-List.ensures))
