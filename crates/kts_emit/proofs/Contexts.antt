-- Runs of the code of terms and formulas: what they leave as it is, how they compose, and one step of a known instruction.
use Rattle.std.proofs.Common.{◌≡◌, ℕ, ◌+◌, ◌<◌, List, ◌∷◌, length, Some, true, cond, refl, sym, ap, subst, arith}
use Rattle.std.specs.Prelude.{slice_get}
use Rattle.kts_abs.specs.Values.{Abs}
use Rattle.kts_base.specs.Limits.{most_variables}
use Rattle.kts_base.proofs.Orders.{yes_nat_lt}
use Rattle.kts_code.specs.declared.instructions.Instr.{Instr}
use Rattle.kts_code.specs.declared.modes.Mode.TheVariants.{Going}
use Rattle.kts_code.specs.declared.modes.TrapKind.TheVariants as trap_kind
use Rattle.kts_code.specs.Machine.{act, step}
use Rattle.kts_code.specs.Operands.{push, trap}
use Rattle.kts_code.specs.Reaches.{Reaches}
use Rattle.kts_code.specs.Setups.{Setup, world_in}
use Rattle.kts_code.specs.States.{Operand, Register, Item, ChoicePoint, Core, State}
use Rattle.kts_code.proofs.Runs.{Frame, Quiet, is_inner, core_is, inner_one}
use Rattle.kts_code.proofs.Systems.{and_then, at_once, then}
use Rattle.kts_emit.specs.Pushes.{HasVariables}

-- what the code of terms and formulas leaves as it is
pub record Context : Type 0 where
  pub space : List Abs
  pub queue : List ℕ
  pub choices : List ChoicePoint
  pub path : ℕ
  pub items : List Item

-- a run that goes on in it
abbrev pub core_at : Context → ℕ → List Operand → List Register → Core
core_at r place stack registers = record {
  pc = place;
  stack = stack;
  registers = registers;
  space = Some r.space;
  queue = r.queue;
  choices = r.choices;
  path = r.path;
  mode = Going;
}

abbrev pub at : Context → ℕ → List Operand → List Register → State
at r place stack registers = record { core = core_at r place stack registers; items = r.items }

abbrev frame : Context → List Register → Frame
frame r registers = record { registers = registers; queue = r.queue; choices = r.choices; path = r.path }

module _ (setup : Setup) (r : Context) where
  -- such a run at a place, with these operands and with the variables in registers
  pub record StandsWith (scope vars : List ℕ) (place : ℕ) (stack : List Operand) (s : State) : Type 0 where
    pub left : List Register
    pub count : length left ≡ most_variables
    pub holds : HasVariables (world_in setup) scope vars left
    pub is : s ≡ at r place stack left

  -- so many steps at most lead there
  abbrev pub Leads : State → ℕ → List ℕ → List ℕ → ℕ → List Operand → Type 0
  Leads s steps scope vars place stack = Reaches (step setup) (Quiet setup) s steps (StandsWith scope vars place stack)

  -- a stretch of a run, and what comes after it wherever its registers are
  pub next : {s : State} {m n : ℕ} {scope vars scope2 vars2 : List ℕ} {p q : ℕ} {stack stack2 : List Operand}
      → Leads s m scope vars p stack
      → ((registers : List Register) → length registers ≡ most_variables → HasVariables (world_in setup) scope vars registers
      → Leads (at r p stack registers) n scope2 vars2 q stack2)
      → Leads s (m + n) scope2 vars2 q stack2
  next {s} {m} {n} {scope} {vars} {scope2} {vars2} {p} {q} {stack} {stack2} a f =
      and_then a (λ y (h : StandsWith scope vars p stack y). subst (λ z. Leads z n scope2 vars2 q stack2) (sym h.is) (f h.left h.count h.holds))

  -- its length, end and operands under other names
  pub steps_are : {s : State} {m n : ℕ} {scope vars : List ℕ} {p : ℕ} {stack : List Operand} → m ≡ n
      → Leads s m scope vars p stack → Leads s n scope vars p stack
  steps_are {s} {m} {n} {scope} {vars} {p} {stack} e a = subst (λ k. Leads s k scope vars p stack) e a

  pub ended : {s : State} {m : ℕ} {scope vars : List ℕ} {p q : ℕ} {stack : List Operand} → p ≡ q
      → Leads s m scope vars p stack → Leads s m scope vars q stack
  ended {s} {m} {scope} {vars} {p} {q} {stack} e a = subst (λ n. Leads s m scope vars n stack) e a

  pub leaving : {s : State} {m : ℕ} {scope vars : List ℕ} {p : ℕ} {stack stack2 : List Operand} → stack ≡ stack2
      → Leads s m scope vars p stack → Leads s m scope vars p stack2
  leaving {s} {m} {scope} {vars} {p} e a = subst (λ l. Leads s m scope vars p l) e a

  -- no step
  pub stays : (scope vars : List ℕ) (p : ℕ) (stack : List Operand) (registers : List Register) → length registers ≡ most_variables
      → HasVariables (world_in setup) scope vars registers → Leads (at r p stack registers) 0 scope vars p stack
  stays scope vars p stack registers n h = at_once (record { left = registers; count = n; holds = h; is = refl })

  -- the step of an instruction
  pub steps_to : (scope vars : List ℕ) (p q : ℕ) (stack stack2 : List Operand) (registers registers2 : List Register) (i : Instr)
      → slice_get setup.code.instrs p ≡ Some i → is_inner (Some i) ≡ true
      → act setup 0 (Some i) (core_at r p stack registers) ≡ core_at r q stack2 registers2 → length registers2 ≡ most_variables
      → HasVariables (world_in setup) scope vars registers2
      → Leads (at r p stack registers) 1 scope vars q stack2
  steps_to scope vars p q stack stack2 registers registers2 i has inner e n h =
      let once = core_is e (inner_one setup p stack r.space (frame r registers) r.items i has inner) in
      let same : 1 + 0 ≡ 1 = omega arith in
      steps_are same (then once (stays scope vars q stack2 registers2 n h))

-- an operand where there is a place for it
pub pushed : (places : ℕ) (r : Context) (p : ℕ) (stack below : List Operand) (registers : List Register) (x : Operand)
    → length below < places → push places (core_at r p stack registers) x below ≡ core_at r (p + 1) (x ∷ below) registers
pushed places r p stack below registers x less =
    let s = core_at r p stack registers in
    ap (λ b. cond b (record s { pc = p + 1; stack = x ∷ below }) (trap trap_kind.StackFull s)) (yes_nat_lt (length below) places less)
