-- What runs that all halt say of every number of steps.
use Rattle.std.proofs.Common.{◌≡◌, ℕ, ◌+◌, ◌-◌, ◌<◌, ◌≤◌, List, [], ◌∷◌, ◌++◌, refl, sym, ap, ◌∙◌, arith, ⊎_elim}
use Rattle.std.specs.Prelude.{ℤ}
use Rattle.std.proofs.lemmas.List.{append-nil}
use Rattle.std.proofs.lemmas.Bool.{cases_lt}
use Rattle.kts_code.specs.declared.modes.Mode.TheVariants.{Halted, Trapped}
use Rattle.kts_code.specs.Machine.{step, after, run_of}
use Rattle.kts_code.specs.Printed.{schedules_of}
use Rattle.kts_code.specs.Prints.{Prints}
use Rattle.kts_code.specs.Reaches.{Reaches}
use Rattle.kts_code.specs.Setups.{Setup}
use Rattle.kts_code.specs.States.{Item, node, schedule, State, opening}
use Rattle.kts_code.proofs.Systems.{past, steps-plus, at_once, then, steps_are}
use Rattle.kts_code.proofs.Runs.{Any, GoesBy, halted_stays, trapped_stays, grown}

-- a run that has halted, having printed these schedules
pub record HasPrinted (list : List (List ℤ)) (s : State) : Type 0 where
  pub halted : s.core.mode ≡ Halted
  pub printed : schedules_of s.items ≡ list

-- every run has halted after so many steps at most, having printed these schedules
pub record Halts (m : Setup) (list : List (List ℤ)) : Type 0 where
  pub most : ℕ
  pub ends : Reaches (step m) Any opening most (HasPrinted list)

-- runs that end in one state
pub halts_from : {m : Setup} {list : List (List ℤ)} {n : ℕ} {s : State} → GoesBy Any m opening n s → s.core.mode ≡ Halted → schedules_of s.items ≡ list
    → Halts m list
halts_from {n = n} g h e = record { most = n; ends = steps_are (omega arith) (then g (at_once (record { halted = h; printed = e }))) }

pub schedules_of-append : (a b : List Item) → schedules_of (a ++ b) ≡ schedules_of a ++ schedules_of b
schedules_of-append [] b = refl
schedules_of-append (node space ∷ a) b = schedules_of-append a b
schedules_of-append (schedule values ∷ a) b = ap (λ l. values ∷ l) (schedules_of-append a b)

module _ (m : Setup) (list : List (List ℤ)) (h : Halts m list) where
  -- the end of a run
  record EndOf (picks : ℕ → ℕ) : Type 0 where
    steps : ℕ
    few : steps ≤ h.most
    done : HasPrinted list (run_of m picks steps)

  end : (picks : ℕ → ℕ) → EndOf picks
  end picks = let u = h.ends.ends picks in record { steps = u.0; few = u.1; done = u.3 }

  -- the run so far, and its later steps
  before : (picks : ℕ → ℕ) (e : EndOf picks) (n : ℕ) → n ≤ e.steps → after m (past n picks) (e.steps - n) (run_of m picks n) ≡ run_of m picks e.steps
  before picks e n le =
      let i : n + (e.steps - n) ≡ e.steps = omega arith in
      sym (steps-plus (step m) picks n (e.steps - n) opening) ∙ ap (λ k. run_of m picks k) i

  beyond : (picks : ℕ → ℕ) (e : EndOf picks) (n : ℕ) → e.steps ≤ n → run_of m picks n ≡ run_of m picks e.steps
  beyond picks e n le =
      let i : n ≡ e.steps + (n - e.steps) = omega arith in
      ap (λ k. run_of m picks k) i ∙ steps-plus (step m) picks e.steps (n - e.steps) opening
      ∙ halted_stays m (past e.steps picks) (n - e.steps) (run_of m picks e.steps) e.done.halted

  -- a run that is over was at its end
  over : (picks : ℕ → ℕ) (e : EndOf picks) (n : ℕ) → ((later : ℕ → ℕ) (k : ℕ) → after m later k (run_of m picks n) ≡ run_of m picks n)
      → run_of m picks n ≡ run_of m picks e.steps
  over picks e n stays =
      ⊎_elim
      (λ (lt : n < e.steps). sym (stays (past n picks) (e.steps - n)) ∙ before picks e n (omega arith))
      (λ (le : e.steps ≤ n). beyond picks e n le)
      (cases_lt n e.steps)

  pub prints : Prints m list
  prints = record {
    front = λ picks n.
        let e = end picks in
        ⊎_elim
        (λ (lt : n < e.steps).
        let g = grown m (past n picks) (e.steps - n) (run_of m picks n) in
        (schedules_of g.more, sym e.done.printed ∙ ap (λ s. schedules_of s.items) (sym (before picks e n (omega arith))) ∙ ap schedules_of g.is ∙ schedules_of-append (run_of m picks n).items g.more))
        (λ (le : e.steps ≤ n). ([], sym e.done.printed ∙ ap (λ s. schedules_of s.items) (sym (beyond picks e n le)) ∙ sym (append-nil (schedules_of (run_of m picks n).items))))
        (cases_lt n e.steps);
    whole = λ picks n halted.
        let e = end picks in
        ap (λ s. schedules_of s.items) (over picks e n (λ later k. halted_stays m later k (run_of m picks n) halted)) ∙ e.done.printed;
    safe = λ picks n kind trapped.
        let e = end picks in
        let t : Trapped kind ≡ Halted = sym trapped ∙ ap (λ s. s.core.mode) (over picks e n (λ later k. trapped_stays m later k (run_of m picks n) kind trapped)) ∙ e.done.halted in
        cc;
    halts = (h.most, λ picks n le. let e = end picks in ap (λ s. s.core.mode) (beyond picks e n (omega (arith, e.few))) ∙ e.done.halted);
  }
