-- What a run of a program's code shows, and when it has the whole answer.
use Rattle.std.proofs.Common.{◌≡◌, refl, sym, ap, ◌∙◌, subst, ℕ, zero, suc, ◌≤◌, arith, List, ◌++◌, Bool, true, false, if◌then◌else◌, Option, Some, None}
use Rattle.kts_abs.specs.Items.{Item}
use Rattle.kts_abs.specs.Spaces.{initial}
use Rattle.kts_abs.specs.Values.{Abs}
use Rattle.kts_abs.proofs.Sides.{initial_is}
use Rattle.kts_code.specs.declared.code.Code.{Code}
use Rattle.kts_code.specs.declared.modes.Mode.{Mode}
use Rattle.kts_code.specs.declared.modes.Mode.TheVariants.{Going, Halted, Trapped}
use Rattle.kts_code.specs.Machine.{run_of, longest_of, oldest}
use Rattle.kts_code.specs.Setups.{Setup, setup_of, world_in}
use Rattle.kts_code.specs.States.{State}
use Rattle.kts_machine.specs.declared.outcome.Outcome.TheVariants.{Ended, Stopped, Spent}
use Rattle.kts_machine.specs.Outcomes.{ended_as, outcome_of}
use Rattle.kts_machine.specs.Progress.{is_last, printed_in, progress}
use Rattle.kts_machine.specs.ProgressLaws.{StoppedRunsAreRuns, WholeRunsAreRuns}
use Rattle.kts_search.specs.Searches.{IsOrigin, Searches, path_bound}
use Rattle.kts_search.specs.WholeLaws.{WholeCodeSearches, filters_weight, task_weight}
use Rattle.kts_search.specs.WholeScheme.{whole_scheme}
use Rattle.kts_spec.specs.declared.instance.Instance.{Instance}
use Rattle.kts_spec.specs.declared.spec.Spec.{Spec}
use Rattle.kts_spec.specs.Data.{is_valid}
use Rattle.kts_spec.specs.Worlds.{World}
use Rattle.kts_top.specs.Options.{RunOptions, steps_of}
use Rattle.kts_top.specs.Owed.{program_of, answer_by, answer}
use Rattle.kts_top.specs.Runs.{progress_with, outcome_with, owed_run}
use Rattle.kts_top.specs.TypedFiles.{ShowsWalk, enough_for, whole_answer}

-- the space of all schedules is an origin
first_origin : (w : World) (o : Option (List Abs)) → initial w ≡ o → IsOrigin w o
first_origin w None e = tt
first_origin w (Some s) e = (initial_is w s e).space

-- a run that ended has halted
halted_of : (first : Option ℕ) (mode : Mode) (count pc n : ℕ) → ended_as first mode count pc ≡ Ended n → mode ≡ Halted
halted_of first Going count pc n e = by (is_last first count) e
  where
    by : (last : Bool) → (if last then Stopped count else Spent count) ≡ Ended n → Going ≡ Halted
    by true e = cc
    by false e = cc
halted_of first Halted count pc n e = refl
halted_of first (Trapped _) count pc n e = cc

-- the longest path of a run is within what all paths are within
longest_within : (m : Setup) (most : ℕ) → ((n : ℕ) → (run_of m oldest n).core.path ≤ most) → (n : ℕ) → longest_of m oldest n ≤ most
longest_within m most each zero = omega arith
longest_within m most each (suc n) =
    let before = longest_within m most each n in
    let last = each (suc n) in
    omega arith

module _ (searched : WholeCodeSearches) (spec : Spec) (code : Code) (inst : Instance) (made : whole_scheme spec ≡ Some code) (valid : is_valid code.schema inst ≡ true)
    (options : RunOptions) where
  abbrev m : Setup
  m = setup_of code inst

  found : Searches spec m (task_weight (world_in m) spec) (filters_weight (world_in m) spec)
  found = searched.searches spec m made valid (first_origin (world_in m) (initial (world_in m)) refl)

  pub shows_walk : StoppedRunsAreRuns → ShowsWalk options spec m
  shows_walk stopped =
      let ran = progress_with options m in
      let is = stopped m options.first (steps_of options) in
      let items = ap (λ (s : State). s.items) is.state in
      let front = found.walk.front oldest ran.steps in
      let halted = λ (n : ℕ) (e : outcome_with options m ≡ Ended n).
      ap (λ (s : State). s.core.mode) (sym is.state) ∙ halted_of options.first ran.state.core.mode (printed_in ran) ran.state.core.pc n e in
      record {
        walk = found.walk.walk;
        is = found.walk.is;
        front = (front.0, front.1 ∙ ap (λ (shown : List Item). shown ++ front.0) (sym items));
        whole = λ n e. items ∙ found.walk.whole oldest ran.steps (halted n e);
        path = subst (λ n. n ≤ path_bound m) (sym is.longest) (longest_within m (path_bound m) (found.least.path oldest) ran.steps);
      }

  pub ends_whole : WholeRunsAreRuns → options.first ≡ None → options.trace ≡ false → enough_for spec m ≤ steps_of options
      → answer options (program_of spec code) inst ≡ whole_answer spec inst
  unfolding answer
  ends_whole whole all untraced enough =
      let steps = steps_of options in
      let ran = progress m None steps in
      let halted = ap (λ (s : State). s.core.mode) (whole m steps).state ∙ found.ends.halts oldest steps enough in
      ap (λ trace. if trace then owed_run options code inst else answer_by spec inst (outcome_with options m)) untraced
      ∙ ap (λ (first : Option ℕ). answer_by spec inst (outcome_of first (progress m first steps))) all
      ∙ ap (λ (mode : Mode). answer_by spec inst (ended_as None mode (printed_in ran) ran.state.core.pc)) halted
