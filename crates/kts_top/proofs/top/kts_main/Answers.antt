use Rattle.std.proofs.Common.{subst}
use Rattle.kts_top.specs.Calls.{Answers}
use Rattle.kts_top.proofs.CallFacts.{facts, told_owed}
use Rattle.kts_top.proofs.Statuses.{code_never_traps}
use Rattle.kts_top.proofs.WholeAnswers.{whole_owed}
use Rattle.kts_top.proofs.top.kts_main.Goals as goal

pub returns-clause-owed : goal.returns-clause-owed
returns-clause-owed g c =
    told_owed _ (facts (code_never_traps c.whole_code_searches.ensures c.data_law.ensures c.progress_law.ensures.stopped) _ _ _ _ _ _ c.answer.ensures)

pub returns-clause-complete : goal.returns-clause-complete
returns-clause-complete g c held spec inst tells solves =
    let causes = facts (code_never_traps c.whole_code_searches.ensures c.data_law.ensures c.progress_law.ensures.stopped) _ _ _ _ _ _ c.answer.ensures in
    subst (Answers _ _) (whole_owed held c.typed_files_are_solved.ensures c.data_law.ensures _ spec inst solves) (told_owed _ causes held tells)

pub returns-clause-causes : goal.returns-clause-causes
returns-clause-causes g c = facts (code_never_traps c.whole_code_searches.ensures c.data_law.ensures c.progress_law.ensures.stopped) _ _ _ _ _ _ c.answer.ensures
