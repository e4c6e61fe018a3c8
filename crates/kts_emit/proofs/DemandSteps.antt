-- The step of a demand on a cell, and the way back: what becomes of the space.
use Rattle.std.proofs.Common.{◌≡◌, ℕ, zero, suc, ◌+◌, ◌<◌, ◌≤◌, List, [], ◌∷◌, length, Option, Some, None, Bool, true, false, ◌&&◌, cond, refl, sym, ap, ◌∙◌, subst, arith, nat_eq}
use Rattle.std.specs.Prelude.{slice_get, slice_set, not}
use Rattle.std.proofs.lemmas.Bool.{true≢false}
use Rattle.kts_abs.specs.declared.demand.Op.{Op}
use Rattle.kts_abs.specs.declared.demand.Op.TheVariants.{AtLeast, AtMost, Within, Without}
use Rattle.kts_abs.specs.Demands.{Demand, meets, raised}
use Rattle.kts_abs.specs.Values.{Abs}
use Rattle.kts_base.specs.Limits.{most_variables}
use Rattle.kts_code.specs.declared.instructions.Instr.{Instr}
use Rattle.kts_code.specs.declared.instructions.Instr.TheVariants as i
use Rattle.kts_code.specs.HeadSteps.{cell_in, on_raised, on_demand, on_head}
use Rattle.kts_code.specs.Machine.{act, written, add_item, step}
use Rattle.kts_code.specs.NamedTasks.{takes_by}
use Rattle.kts_code.specs.Queues.{woken}
use Rattle.kts_code.specs.Reaches.{Reaches}
use Rattle.kts_code.specs.Setups.{Setup, world_in}
use Rattle.kts_code.specs.States.{Operand, Register, Core, State}
use Rattle.kts_code.proofs.Places.{HasAt}
use Rattle.kts_code.proofs.Runs.{Frame, Quiet, is_inner, GoesBy, core_is, one}
use Rattle.kts_code.proofs.Systems.{and_then, at_once, in_more, less_known, then}
use Rattle.kts_plan.specs.Solutions.{cell_at}
use Rattle.kts_emit.specs.Bodies.{op_instr}
use Rattle.kts_emit.specs.Effects.{Effect, Kept, Raised, Emptied, effect_of_raise, effect_of, is_of_tasks, head_label, went_to, IsOnTheWay}
use Rattle.kts_emit.specs.Pushes.{HasVariables}
use Rattle.kts_emit.proofs.Accesses.{index_equals}
use Rattle.kts_emit.proofs.Contexts.{Context, core_at, at, StandsWith, Leads, steps_to}

-- ---- the end of a task

-- what a task of this effect leaves as it is, and where it ends
abbrev pub context_after : Setup → Context → Effect → Context
context_after m r Kept = r
context_after m r (Raised k a) = record r { space = slice_set r.space k a; queue = woken m k r.queue }
context_after m r Emptied = r

abbrev pub place_after : ℕ → ℕ → Effect → ℕ
place_after done fail Kept = done
place_after done fail (Raised k a) = done
place_after done fail Emptied = fail

-- a run that stands at a place in a context, whatever its registers have
pub record StandsIn (r : Context) (place : ℕ) (stack : List Operand) (s : State) : Type 0 where
  pub left : List Register
  pub count : length left ≡ most_variables
  pub is : s ≡ at r place stack left

-- so many steps at most lead to the end of a task
abbrev pub Ends : Setup → Context → ℕ → ℕ → List Operand → Effect → State → ℕ → Type 0
Ends m r done fail stack effect s most =
    Reaches (step m) (IsOnTheWay m effect) s most (StandsIn (context_after m r effect) (place_after done fail effect) stack)

-- ---- inner instructions on the way

inner_of_tasks : (o : Option Instr) → is_inner o ≡ true → is_of_tasks o ≡ true
inner_of_tasks None e = absurd (true≢false (sym e))
inner_of_tasks (Some (i.Start to)) e = absurd (true≢false (sym e))
inner_of_tasks (Some (i.Take to)) e = absurd (true≢false (sym e))
inner_of_tasks (Some i.Node) e = absurd (true≢false (sym e))
inner_of_tasks (Some (i.Pick to)) e = absurd (true≢false (sym e))
inner_of_tasks (Some i.Emit) e = absurd (true≢false (sym e))
inner_of_tasks (Some (i.Back to)) e = absurd (true≢false (sym e))
inner_of_tasks (Some i.Halt) e = absurd (true≢false (sym e))
inner_of_tasks (Some other) e = refl

inner_label : (o : Option Instr) → is_inner o ≡ true → head_label o ≡ None
inner_label None e = refl
inner_label (Some (i.AtLeast x to)) e = absurd (true≢false (sym e))
inner_label (Some (i.AtMost x to)) e = absurd (true≢false (sym e))
inner_label (Some (i.Within x to)) e = absurd (true≢false (sym e))
inner_label (Some (i.Without x to)) e = absurd (true≢false (sym e))
inner_label (Some other) e = refl

pub quiet_on_the_way : (m : Setup) (effect : Effect) (s : State) → Quiet m s → IsOnTheWay m effect s
quiet_on_the_way m effect s h = record {
  of_tasks = inner_of_tasks (slice_get m.code.instrs s.core.pc) h;
  fails = λ e.
      let none = ap (λ o. went_to o s.core.pc (step m 0 s).core.pc) (inner_label (slice_get m.code.instrs s.core.pc) h) in
      absurd (true≢false (sym e ∙ none));
}

-- a stretch of inner instructions, and what comes after it wherever its registers are
pub then_ends : (m : Setup) (r : Context) (done fail : ℕ) (stack2 : List Operand) (effect : Effect) {s : State} {k n : ℕ} {scope vars : List ℕ} {p : ℕ} {stack : List Operand}
    → Leads m r s k scope vars p stack
    → ((registers : List Register) → length registers ≡ most_variables → HasVariables (world_in m) scope vars registers → Ends m r done fail stack2 effect (at r p stack registers) n)
    → Ends m r done fail stack2 effect s (k + n)
then_ends m r done fail stack2 effect {s} {k} {n} {scope} {vars} {p} {stack} a f =
    and_then (less_known (quiet_on_the_way m effect) a)
    (λ y (h : StandsWith m r scope vars p stack y). subst (λ z. Ends m r done fail stack2 effect z n) (sym h.is) (f h.left h.count h.holds))

-- ---- the instruction of a head

op_acts : (m : Setup) (op : Op) (x fail : ℕ) (r : Context) (p : ℕ) (stack : List Operand) (registers : List Register)
    → act m 0 (Some (op_instr op x fail)) (core_at r p stack registers) ≡ on_head m (core_at r p stack registers) op x fail r.space
op_acts m AtLeast x fail r p stack registers = refl
op_acts m AtMost x fail r p stack registers = refl
op_acts m Within x fail r p stack registers = refl
op_acts m Without x fail r p stack registers = refl

op_label : (op : Op) (x fail : ℕ) → head_label (Some (op_instr op x fail)) ≡ Some fail
op_label AtLeast x fail = refl
op_label AtMost x fail = refl
op_label Within x fail = refl
op_label Without x fail = refl

op_of_tasks : (op : Op) (x fail : ℕ) → is_of_tasks (Some (op_instr op x fail)) ≡ true
op_of_tasks AtLeast x fail = refl
op_of_tasks AtMost x fail = refl
op_of_tasks Within x fail = refl
op_of_tasks Without x fail = refl

op_takes : (op : Op) (x fail : ℕ) (c : Core) → takes_by (Some (op_instr op x fail)) c ≡ false
op_takes AtLeast x fail c = refl
op_takes AtMost x fail c = refl
op_takes Within x fail c = refl
op_takes Without x fail c = refl

op_writes : (op : Op) (x fail : ℕ) (c : Core) → written (Some (op_instr op x fail)) c ≡ None
op_writes AtLeast x fail c = refl
op_writes AtMost x fail c = refl
op_writes Within x fail c = refl
op_writes Without x fail c = refl

-- ---- the demand

-- a step to the next place has not gone to a label
went_next : (o : Option ℕ) (from : ℕ) → went_to o from (from + 1) ≡ false
went_next None from = refl
went_next (Some to) from = ap (λ b. nat_eq (from + 1) to && not b) (index_equals (from + 1)) ∙ neither (nat_eq (from + 1) to)
  where
    neither : (b : Bool) → (b && false) ≡ false
    neither true = refl
    neither false = refl

-- what is asked of the cell of a number
abbrev effect_on : List Abs → ℕ → Demand → Effect
effect_on space k d = cond (meets d (cell_in space k)) Kept (effect_of_raise k (raised d (cell_in space k)))

-- the cell is one of the space
pub same_cell : (space : List Abs) (k : ℕ) → k < length space → cell_in space k ≡ cell_at space k
same_cell [] k h = absurd (omega arith)
same_cell (a ∷ space) zero h = refl
same_cell (a ∷ space) (suc k) h = same_cell space k (omega arith)

pub effect_is : (space : List Abs) (k : ℕ) (d : Demand) → k < length space → effect_on space k d ≡ effect_of space (Some (k, d))
effect_is space k d h = ap (λ a. cond (meets d a) Kept (effect_of_raise k (raised d a))) (same_cell space k h)

module _ (m : Setup) (r : Context) (done fail k : ℕ) (d : Demand) (stack : List Operand) (p : ℕ) (full : List Operand) (registers : List Register) where
  abbrev before : Core
  before = core_at r p full registers

  abbrev after_demand : Core
  after_demand = on_demand m before r.space fail stack d k

  -- the step has gone to the label only where nothing is left of the cell
  fails_alone : went_to (Some fail) p after_demand.pc ≡ true → effect_on r.space k d ≡ Emptied
  fails_alone = by (meets d (cell_in r.space k)) (raised d (cell_in r.space k))
    where
      by : (b : Bool) (o : Option Abs) → went_to (Some fail) p (cond b (record before { pc = p + 1; stack = stack }) (on_raised m before r.space k fail stack o)).pc ≡ true
          → cond b Kept (effect_of_raise k o) ≡ Emptied
      by true o e = absurd (true≢false (sym e ∙ went_next (Some fail) p))
      by false None e = refl
      by false (Some a) e = absurd (true≢false (sym e ∙ went_next (Some fail) p))

  module _ (op : Op) (x : ℕ) (count : length registers ≡ most_variables)
      (has : HasAt m.code.instrs p (op_instr op x fail ∷ (i.Jump done ∷ [])))
      (acts : on_head m before op x fail r.space ≡ after_demand) where
    abbrev instr : Instr
    instr = op_instr op x fail

    abbrev here : State
    here = record { core = before; items = r.items }

    instr_acts : act m 0 (Some instr) before ≡ after_demand
    instr_acts = op_acts m op x fail r p full registers ∙ acts

    -- the place of the step's end
    ends_at : (step m 0 here).core.pc ≡ after_demand.pc
    ends_at = ap (λ o. (act m 0 o before).pc) has.0 ∙ ap (λ (c : Core). c.pc) instr_acts

    on_the_way : IsOnTheWay m (effect_on r.space k d) here
    on_the_way = record {
      of_tasks = ap is_of_tasks has.0 ∙ op_of_tasks op x fail;
      fails = λ e.
          fails_alone (sym (ap (λ o. went_to (head_label o) p (step m 0 here).core.pc) has.0
          ∙ ap (λ o. went_to o p (step m 0 here).core.pc) (op_label op x fail) ∙ ap (λ q. went_to (Some fail) p q) ends_at) ∙ e);
    }

    stepped : GoesBy (IsOnTheWay m (effect_on r.space k d)) m here 1 (record { core = after_demand; items = r.items })
    stepped =
        let frame : Frame = record { registers = registers; queue = r.queue; choices = r.choices; path = r.path } in
        let once = one m p full r.space frame r.items instr has.0 (op_takes op x fail before) on_the_way in
        let wrote : GoesBy (IsOnTheWay m (effect_on r.space k d)) m here 1 (record { core = act m 0 (Some instr) before; items = r.items }) =
        subst (λ o. GoesBy (IsOnTheWay m (effect_on r.space k d)) m here 1 (record { core = act m 0 (Some instr) before; items = add_item o r.items })) (op_writes op x fail before) once in
        core_is instr_acts wrote

    -- the way back in a context
    jumps : (effect : Effect) (r2 : Context) → Reaches (step m) (IsOnTheWay m effect) (at r2 (p + 1) stack registers) 1 (StandsIn r2 done stack)
    jumps effect r2 =
        let j = steps_to m r2 [] [] (p + 1) done stack stack registers registers (i.Jump done) has.1.0 refl refl count tt in
        and_then (less_known (quiet_on_the_way m effect) j) (λ y h. at_once (record { left = h.left; count = h.count; is = h.is }))

    -- both steps
    pub settles : Ends m r done fail stack (effect_on r.space k d) here 2
    settles = by (meets d (cell_in r.space k)) (raised d (cell_in r.space k)) stepped
      where
        by : (b : Bool) (o : Option Abs)
            → GoesBy (IsOnTheWay m (cond b Kept (effect_of_raise k o))) m here 1
            (record { core = cond b (record before { pc = p + 1; stack = stack }) (on_raised m before r.space k fail stack o); items = r.items })
            → Ends m r done fail stack (cond b Kept (effect_of_raise k o)) here 2
        by true o g = then g (jumps Kept r)
        by false (Some a) g = then g (jumps (Raised k a) (context_after m r (Raised k a)))
        by false None g =
            let more : 1 + 0 ≤ 2 = omega arith in
            in_more more (then g (at_once (record { left = registers; count = count; is = refl })))
