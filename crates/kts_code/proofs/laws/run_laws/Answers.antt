use Rattle.std.proofs.Common.{◌∙◌, ap, refl}
use Rattle.kts_code.specs.Machine.{step, run_of}
use Rattle.kts_code.specs.States.{State, opening}
use Rattle.kts_code.proofs.Systems.{past, steps-plus}
use Rattle.kts_code.proofs.Runs.{over_stays, grown}
use Rattle.kts_code.proofs.NamedRuns.{picks_matter, runs_name_tasks}
use Rattle.kts_code.proofs.laws.run_laws.Goals as goal

pub returns-clause-over : goal.returns-clause-over
returns-clause-over c m picks n more over =
    let s = run_of m picks n in
    steps-plus (step m) picks n more opening ∙ over_stays m (past n picks) more s s.core.mode refl over

pub returns-clause-kept : goal.returns-clause-kept
returns-clause-kept c m picks n more =
    let g = grown m (past n picks) more (run_of m picks n) in
    (g.more, ap (λ (s : State). s.items) (steps-plus (step m) picks n more opening) ∙ g.is)

pub returns-clause-picks : goal.returns-clause-picks
returns-clause-picks c = picks_matter

pub returns-clause-named : goal.returns-clause-named
returns-clause-named c = runs_name_tasks
