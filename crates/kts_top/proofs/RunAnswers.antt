-- How a run of code ends, and the lines that it puts last.
use Rattle.std.specs.Prelude.{MatchResult, if◌then◌else◌}
use Rattle.std.proofs.Common.{Bool, true, false, Option, None, Some, Result, Ok, Err, ◌≡◌, ◌≢◌, refl, sym, ◌∙◌, ap, ℕ, List, subst}
use Rattle.kts_base.specs.declared.status.Status.{Status}
use Rattle.kts_base.specs.declared.status.Status.TheVariants as status
use Rattle.kts_base.specs.Writes.{Log, Done, Stopped, Wrote}
use Rattle.kts_base.proofs.Pieces.{both, stops_first, stops_later}
use Rattle.kts_code.specs.declared.code.Code.{Code}
use Rattle.kts_code.specs.declared.modes.TrapKind.{TrapKind}
use Rattle.kts_code.specs.Setups.{Setup, setup_of}
use Rattle.kts_index.specs.TaskBound.{bound}
use Rattle.kts_machine.specs.declared.outcome.Outcome.{Outcome}
use Rattle.kts_machine.specs.declared.outcome.Outcome.TheVariants.{Trap}
use Rattle.kts_machine.specs.Cuts.{text_after}
use Rattle.kts_machine.specs.Outcomes.{outcome_of}
use Rattle.kts_machine.specs.Progress.{progress}
use Rattle.kts_spec.specs.declared.instance.Instance.{Instance}
use Rattle.kts_top.specs.Endings.{Ends, EndsOrLacks, whole, part, ended}
use Rattle.kts_top.specs.Lines.{Owed}
use Rattle.kts_top.specs.Options.{RunOptions, steps_of}
use Rattle.kts_top.specs.Runs.{progress_with, shown_path, path_with, last_of, with_text, owed_in, owed_run}
use Rattle.kts_top.specs.Traps.{trap_line}

-- a text, and then an end with its own text
pub ends_after : {s : Status} {a b c : Log} {x : List ℕ} {last : Owed} → Done a b x → Ends s b c last → Ends s a c (with_text x last)
ends_after d (whole e written done) = whole e written (both d done)
ends_after d (part e stopped) = part e (stops_later d stopped)

-- what a run owes that is told by these parts
abbrev owed_by : Option ℕ → Bool → ℕ → Option (ℕ × ℕ) → Setup → Owed
owed_by first traced budget path m =
    with_text (text_after m 0 first traced budget) (last_of (shown_path path) (outcome_of first (progress m first budget)))

-- so it is with options that tell these parts
pub record AreTold (options : RunOptions) (first : Option ℕ) (traced : Bool) (budget : ℕ) : Type 0 where
  pub first_is : first ≡ options.first
  pub trace_is : traced ≡ options.trace
  pub budget_is : budget ≡ steps_of options

module _ (options : RunOptions) (first : Option ℕ) (traced : Bool) (budget : ℕ) (told : AreTold options first traced budget) where
  owed_told : (path : Option (ℕ × ℕ)) (m : Setup) → path ≡ path_with options m → owed_by first traced budget path m ≡ owed_in options m
  owed_told path m is =
      ap (λ f. owed_by f traced budget path m) told.first_is ∙ ap (λ t. owed_by options.first t budget path m) told.trace_is
      ∙ ap (λ b. owed_by options.first options.trace b path m) told.budget_is ∙ ap (λ p. owed_by options.first options.trace (steps_of options) p m) is

  module _ (code : Code) (inst : Instance) (m : Setup) (same : m ≡ setup_of code inst) where
    -- what the run owes is its text with the last lines of its outcome
    pub owed_is : (outcome : Outcome) (path : Option (ℕ × ℕ)) → outcome ≡ outcome_of first (progress m first budget) → path ≡ path_with options m
        → with_text (text_after m 0 first traced budget) (last_of (shown_path path) outcome) ≡ owed_run options code inst
    unfolding owed_run
    owed_is outcome path e shown =
        ap (λ (o : Outcome). with_text (text_after m 0 first traced budget) (last_of (shown_path path) o)) e ∙ owed_told path m shown ∙ ap (λ (m : Setup). owed_in options m) same

    -- the run was done, and its last lines were put
    pub run_ended : {s : Status} {a b c : Log} (outcome : Outcome) (path : Option (ℕ × ℕ)) → outcome ≡ outcome_of first (progress m first budget)
        → path ≡ path_with options m → Done a b (text_after m 0 first traced budget) → Ends s b c (last_of (shown_path path) outcome)
        → EndsOrLacks s a c (owed_run options code inst)
    unfolding owed_run
    run_ended {s} {a} {b} {c} outcome path e shown done last =
        let ends : Ends s a c (owed_by first traced budget path m) = ends_after done (subst (λ (o : Outcome). Ends s b c (last_of (shown_path path) o)) e last) in
        ended (subst (λ (m : Setup). Ends s a c (owed_in options m)) same (subst (Ends s a c) (owed_told path m shown) ends))

    -- the run was stopped by a write
    pub run_stopped : {a b : Log} → Stopped a b (text_after m 0 first traced budget) → EndsOrLacks status.WriteFault a b (owed_run options code inst)
    unfolding owed_run
    run_stopped {a} {b} stopped =
        let stops : Ends status.WriteFault a b (owed_by first traced budget (path_with options m) m) = part refl (stops_first _ stopped) in
        ended (subst (λ (m : Setup). Ends status.WriteFault a b (owed_in options m)) same (subst (Ends status.WriteFault a b) (owed_told (path_with options m) m refl) stops))

    -- its path is that of its nodes, where they are printed
    pub path_traced : (longest most : ℕ) → options.trace ≡ true → longest ≡ (progress m first budget).longest → most ≡ bound code.index code.schema inst
        → Some (longest, most) ≡ path_with options m
    path_traced longest most on is are =
        let far : longest ≡ (progress_with options m).longest =
        is ∙ ap (λ f. (progress m f budget).longest) told.first_is ∙ ap (λ b. (progress m options.first b).longest) told.budget_is in
        let bounds : most ≡ bound m.code.index m.code.schema m.inst = are ∙ ap (λ (m : Setup). bound m.code.index m.code.schema m.inst) (sym same) in
        ap (λ n. Some (n, most)) far ∙ ap (λ n. Some ((progress_with options m).longest, n)) bounds
        ∙ ap (λ t. if t then Some ((progress_with options m).longest, bound m.code.index m.code.schema m.inst) else None) (sym on)

    pub path_untraced : options.trace ≡ false → None ≡ path_with options m
    path_untraced off =
        ap (λ t. if t then Some ((progress_with options m).longest, bound m.code.index m.code.schema m.inst) else None) (sym off)

-- a line was put, and the status is that of the line
pub line_put : {T E : Type 0} {s result : Status} {a b : Log} {x : List ℕ} (r : Result T E)
    → MatchResult r (λ _. result ≡ s) (λ _. result ≡ status.WriteFault) → s ≢ status.WriteFault
    → Wrote r a b x → Ends result a b (record { status = s; bytes = x })
line_put (Ok u) e written done = whole e (λ h. written (sym e ∙ h)) done
line_put (Err u) e written stopped = part e stopped

-- the line of a trap at a place was put
pub trap_put : {T E : Type 0} {result : Status} {a b : Log} (path : List ℕ) (r : Result T E) (outcome : Outcome) (kind : TrapKind) (pc : ℕ) → outcome ≡ Trap kind pc
    → MatchResult r (λ _. result ≡ status.Trap) (λ _. result ≡ status.WriteFault) → Wrote r a b (trap_line kind pc) → Ends result a b (last_of path outcome)
trap_put {result = result} {a} {b} path r outcome kind pc o is wrote =
    let line : Ends result a b (last_of path (Trap kind pc)) = line_put r is (λ h. cc) wrote in
    subst (λ (o : Outcome). Ends result a b (last_of path o)) (sym o) line
