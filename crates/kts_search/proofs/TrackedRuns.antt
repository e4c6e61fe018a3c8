-- Runs with their bases: one instruction, and a stretch through tasks or filters.
use Rattle.std.proofs.Common.{◌≡◌, ℕ, zero, suc, ◌+◌, ◌<◌, ◌≤◌, List, Bool, true, false, cond, Option, Some, None, refl, sym, ap, ◌∙◌, subst, arith}
use Rattle.std.specs.Prelude.{slice_get}
use Rattle.kts_abs.specs.Values.{Abs}
use Rattle.kts_code.specs.declared.instructions.Instr.{Instr}
use Rattle.kts_code.specs.declared.instructions.Instr.TheVariants as i
use Rattle.kts_code.specs.declared.modes.Mode.{Mode}
use Rattle.kts_code.specs.declared.modes.Mode.TheVariants.{Going}
use Rattle.kts_code.specs.Machine.{act, written, add_item, step_in, step, steps, after}
use Rattle.kts_code.specs.Reaches.{Reaches}
use Rattle.kts_code.specs.Setups.{Setup}
use Rattle.kts_code.specs.States.{Item, Core, State}
use Rattle.kts_code.proofs.Systems.{stepped}
use Rattle.kts_spec.specs.declared.spec.Spec.{Spec}
use Rattle.kts_emit.specs.Effects.{head_label, leaves, went_to}
use Rattle.kts_search.specs.Bases.{Tracked, moves_by, bases_by, moves_in, bases_in, track}
use Rattle.kts_search.specs.Propagation.{IsRight}
use Rattle.kts_search.proofs.TaskSteps.{InTask, step_moves, step_bases}

-- a state with its base
abbrev pub on : Option (List Abs) → ℕ → State → Tracked
on base moves s = record { state = s; base = base; moves = moves }

-- the step of an instruction
abbrev pub tracked_by : Setup → ℕ → Option Instr → Core → List Item → Option (List Abs) → ℕ → Tracked
tracked_by m pick o c items base moves = record {
  state = record { core = act m pick o c; items = add_item (written o c) items };
  base = cond (bases_by o c) (act m pick o c).space base;
  moves = cond (moves_by o c) (suc moves) moves;
}

-- the step of a run that goes on
track_going : (m : Setup) (pick : ℕ) (c : Core) (items : List Item) (base : Option (List Abs)) (moves : ℕ) → c.mode ≡ Going
    → track m pick (on base moves (record { core = c; items = items })) ≡ tracked_by m pick (slice_get m.code.instrs c.pc) c items base moves
track_going m pick c items base moves going =
    let s : State = record { core = c; items = items } in
    let by : Mode → Tracked = λ mode. record {
      state = step_in mode m pick s;
      base = cond (bases_in mode m c) (step_in mode m pick s).core.space base;
      moves = cond (moves_in mode m c) (suc moves) moves;
    } in
    ap by going

-- the step of the instruction at its place
pub at_instr : {spec : Spec} {m : Setup} {most n : ℕ} {P : Tracked → Type 0} (c : Core) (items : List Item) (base : Option (List Abs)) (moves : ℕ) (instr : Instr)
    → c.mode ≡ Going → slice_get m.code.instrs c.pc ≡ Some instr → IsRight spec m most (on base moves (record { core = c; items = items }))
    → ((pick : ℕ) → Reaches (track m) (IsRight spec m most) (tracked_by m pick (Some instr) c items base moves) n P)
    → Reaches (track m) (IsRight spec m most) (on base moves (record { core = c; items = items })) (1 + n) P
at_instr {spec} {m} {most} {n} {P} c items base moves instr going found right f =
    stepped right (λ pick.
    subst (λ x. Reaches (track m) (IsRight spec m most) x n P) (sym (track_going m pick c items base moves going))
    (subst (λ o. Reaches (track m) (IsRight spec m most) (tracked_by m pick o c items base moves) n P) (sym found) (f pick)))

-- an instruction that is no head
pub no_head : (m : Setup) (s : State) (instr : Instr) → slice_get m.code.instrs s.core.pc ≡ Some instr → head_label (Some instr) ≡ None
    → leaves m s ≡ true → ⊥
no_head m s instr found label l =
    let e : went_to None s.core.pc (step m 0 s).core.pc ≡ true =
    sym (ap (λ o. went_to (head_label o) s.core.pc (step m 0 s).core.pc) found ∙ ap (λ o. went_to o s.core.pc (step m 0 s).core.pc) label) ∙ l in
    cc

-- nothing is to be shown at an instruction that is no node and no head
pub plain_right : {spec : Spec} {m : Setup} {most : ℕ} (x : Tracked) (instr : Instr) → slice_get m.code.instrs x.state.core.pc ≡ Some instr
    → head_label (Some instr) ≡ None → (Some instr ≡ Some i.Node → ⊥) → x.state.core.path ≤ most → IsRight spec m most x
plain_right {spec} {m} {most} x instr found label node le = record {
  node = λ e. absurd (node (sym found ∙ e));
  head = λ l. absurd (no_head m x.state instr found label l);
  path = le;
}

-- the step of such an instruction
pub at_plain : {spec : Spec} {m : Setup} {most n : ℕ} {P : Tracked → Type 0} (c : Core) (items : List Item) (base : Option (List Abs)) (moves : ℕ) (instr : Instr)
    → c.mode ≡ Going → slice_get m.code.instrs c.pc ≡ Some instr → head_label (Some instr) ≡ None → (Some instr ≡ Some i.Node → ⊥) → c.path ≤ most
    → ((pick : ℕ) → Reaches (track m) (IsRight spec m most) (tracked_by m pick (Some instr) c items base moves) n P)
    → Reaches (track m) (IsRight spec m most) (on base moves (record { core = c; items = items })) (1 + n) P
at_plain c items base moves instr going found label node le f =
    at_instr c items base moves instr going found (plain_right (on base moves (record { core = c; items = items })) instr found label node le) f

-- ---- a stretch through tasks or filters

task_step : (m : Setup) (pick : ℕ) (base : Option (List Abs)) (moves : ℕ) (s : State) → InTask m s
    → track m pick (on base moves s) ≡ on base moves (step m pick s)
task_step m pick base moves s e =
    ap (λ b. on (cond b (step m pick s).core.space base) (cond (moves_in s.core.mode m s.core) (suc moves) moves) (step m pick s)) (step_bases m s.core.mode s e)
    ∙ ap (λ b. on base (cond b (suc moves) moves) (step m pick s)) (step_moves m s.core.mode s e)

task_steps : (m : Setup) (picks : ℕ → ℕ) (base : Option (List Abs)) (moves : ℕ) (s : State) (n : ℕ) → ((k : ℕ) → k < n → InTask m (after m picks k s))
    → steps (track m) picks n (on base moves s) ≡ on base moves (after m picks n s)
task_steps m picks base moves s zero h = refl
task_steps m picks base moves s (suc n) h =
    ap (track m (picks n)) (task_steps m picks base moves s n (λ k less. h k (omega arith)))
    ∙ task_step m (picks n) base moves (after m picks n s) (h n (omega arith))

-- a state of which something holds, with its base
pub data Lifted (base : Option (List Abs)) (moves : ℕ) (P : State → Type 0) : Tracked → Type 0 where
  Lift : (s : State) → P s → Lifted base moves P (on base moves s)

pub lift : {m : Setup} {S : State → Type 0} {s : State} {n : ℕ} {P : State → Type 0} (base : Option (List Abs)) (moves : ℕ)
    → ((x : State) → S x → InTask m x)
    → Reaches (step m) S s n P → Reaches (track m) (Lifted base moves S) (on base moves s) n (Lifted base moves P)
lift {m} {S} {s} {n} {P} base moves inside a =
    record {
      ends = λ picks.
          let u = a.ends picks in
          let same = λ (k : ℕ) (le : k ≤ u.0). task_steps m picks base moves s k (λ j less. inside (after m picks j s) (u.2 j (omega arith))) in (
            u.0,
            u.1,
            λ k less. subst (Lifted base moves S) (sym (same k (omega arith))) (Lift (after m picks k s) (u.2 k less)),
            subst (Lifted base moves P) (sym (same u.0 (omega arith))) (Lift (after m picks u.0 s) u.3),
          );
    }

-- the run with its base is the run
pub same_state : (m : Setup) (picks : ℕ → ℕ) (n : ℕ) (x : Tracked) → (steps (track m) picks n x).state ≡ after m picks n x.state
same_state m picks zero x = refl
same_state m picks (suc n) x = ap (step m (picks n)) (same_state m picks n x)

-- splits are only added
more_or_same : (b : Bool) (n : ℕ) → n ≤ cond b (suc n) n
more_or_same true n = omega arith
more_or_same false n = omega arith

pub more_moves : (m : Setup) (picks : ℕ → ℕ) (n : ℕ) (x : Tracked) → x.moves ≤ (steps (track m) picks n x).moves
more_moves m picks zero x = omega arith
more_moves m picks (suc n) x =
    let y = steps (track m) picks n x in
    omega (arith, more_moves m picks n x, more_or_same (moves_in y.state.core.mode m y.state.core) y.moves)
