-- The code of clauses, each with its test, leads behind them where none is false.
use Rattle.std.proofs.Common.{◌≡◌, ℕ, ◌+◌, ◌≤◌, List, [], ◌∷◌, ◌++◌, length, length-append, Option, Some, Bool, true, false, cond, not, ◌&&◌, refl, sym, ap, ◌∙◌, subst, arith}
use Rattle.std.specs.Prelude.{slice_get}
use Rattle.std.specs.List.{list_all}
use Rattle.kts_abs.specs.declared.truth.Tri.{Tri}
use Rattle.kts_abs.specs.declared.truth.Tri.TheVariants.{F, U, T}
use Rattle.kts_abs.specs.Spaces.{IsSpace}
use Rattle.kts_abs.specs.Values.{Abs}
use Rattle.kts_base.specs.Limits.{most_variables}
use Rattle.kts_clause.specs.declared.clause.Clause.{Clause}
use Rattle.kts_code.specs.declared.instructions.Instr.TheVariants.{Test}
use Rattle.kts_code.specs.declared.modes.Mode.{Mode}
use Rattle.kts_code.specs.declared.modes.Mode.TheVariants.{Going}
use Rattle.kts_code.specs.Machine.{step, steps}
use Rattle.kts_code.specs.Reaches.{Reaches, Is, Here}
use Rattle.kts_code.specs.Setups.{Setup, world_in}
use Rattle.kts_code.specs.States.{Operand, Truth, Item, Register, ChoicePoint, State}
use Rattle.kts_code.proofs.Runs.{Frame, one}
use Rattle.kts_code.proofs.Runs.{at as piled_at}
use Rattle.kts_code.proofs.Systems.{and_then, at_once, in_more}
use Rattle.kts_emit.specs.Effects.{Kept, IsOnTheWay, is_of_tasks}
use Rattle.kts_emit.specs.Fragments.{Fragment}
use Rattle.kts_emit.specs.Pushes.{HasPushed, StandsAt}
use Rattle.kts_plan.specs.Asks.{is_false}
use Rattle.kts_plan.specs.Walks.{clause_in}
use Rattle.kts_spec.specs.Related.{AllOf}
use Rattle.kts_search.specs.ClauseFilters.{filters_by, weight_by, PushesClause}
use Rattle.kts_search.specs.SearchCodes.{at, Stands, Stand}
use Rattle.kts_search.proofs.FilterPlaces.{front_stands, back_stands, next_stands, first_is}
use Rattle.kts_search.proofs.TrackedRuns.{no_head}

-- less known of the end
ends_in : {X : Type 0} {f : ℕ → X → X} {S : X → Type 0} {x : X} {n : ℕ} {P Q : X → Type 0} → ((y : X) → P y → Q y) → Reaches f S x n P
    → Reaches f S x n Q
ends_in {f = f} {x = x} g a = record { ends = λ picks. let u = a.ends picks in (u.0, u.1, u.2, g (steps f picks u.0 x) u.3) }

module _ (m : Setup) (code : Clause → Fragment) (weight : Clause → ℕ) (space : List Abs) (choices : List ChoicePoint) (path : ℕ) (items : List Item) where
  -- a state with a truth value pushed
  abbrev frame : List Register → Frame
  frame registers = record { registers = registers; queue = []; choices = choices; path = path }

  abbrev pushed : ℕ → Tri → List Register → State
  pushed place t registers = piled_at place (Truth t ∷ []) space (frame registers) items

  abbrev here : ℕ → List Register → State
  here place registers = at place registers space [] choices path items

  abbrev Leads : State → ℕ → (State → Type 0) → Type 0
  Leads s n P = Reaches (step m) (IsOnTheWay m Kept) s n P

  abbrev StandsThere : ℕ → State → Type 0
  StandsThere place = Stands place space [] choices path items

  -- a state in which an operand was pushed
  pushed_is : (from place : ℕ) (t : Tri) (registers : List Register) (s : State) → HasPushed 0 place (Truth t) (here from registers) s
      → s ≡ pushed place t s.core.registers
  pushed_is from place t registers s h =
      let c = s.core in
      let state : ℕ → List Operand → Option (List Abs) → List ℕ → List ChoicePoint → ℕ → Mode → List Item → State =
      λ pc stack space queue choices path mode items. record {
        core = record {
          pc = pc;
          stack = stack;
          registers = c.registers;
          space = space;
          queue = queue;
          choices = choices;
          path = path;
          mode = mode;
        };
        items = items;
      } in
      ap (λ v. state v c.stack c.space c.queue c.choices c.path c.mode s.items) h.place_is
      ∙ ap (λ v. state place v c.space c.queue c.choices c.path c.mode s.items) h.stack
      ∙ ap (λ v. state place (Truth t ∷ []) v c.queue c.choices c.path c.mode s.items) h.space
      ∙ ap (λ v. state place (Truth t ∷ []) (Some space) v c.choices c.path c.mode s.items) h.queue
      ∙ ap (λ v. state place (Truth t ∷ []) (Some space) [] v c.path c.mode s.items) h.choices
      ∙ ap (λ v. state place (Truth t ∷ []) (Some space) [] choices v c.mode s.items) h.path
      ∙ ap (λ v. state place (Truth t ∷ []) (Some space) [] choices path v s.items) h.mode
      ∙ ap (λ v. state place (Truth t ∷ []) (Some space) [] choices path Going v) h.items

  -- the test of a truth value
  test_way : (place to : ℕ) (t : Tri) (registers : List Register) → slice_get m.code.instrs place ≡ Some (Test to)
      → IsOnTheWay m Kept (pushed place t registers)
  test_way place to t registers found = record {
    of_tasks = ap is_of_tasks found;
    fails = λ l. absurd (no_head m (pushed place t registers) (Test to) found refl l);
  }

  stands_at : (place : ℕ) (registers : List Register) → length registers ≡ most_variables → (y : State) → Is (here place registers) y
      → StandsThere place y
  stands_at place registers len y Here = Stand registers len

  tested : (t : Tri) (place to : ℕ) (registers : List Register) → length registers ≡ most_variables → slice_get m.code.instrs place ≡ Some (Test to)
      → Leads (pushed place t registers) 1 (StandsThere (cond (not (is_false t)) (place + 1) to))
  tested F place to registers len found =
      ends_in (stands_at to registers len) (one m place (Truth F ∷ []) space (frame registers) items (Test to) found refl (test_way place to F registers found))
  tested U place to registers len found =
      ends_in (stands_at (place + 1) registers len) (one m place (Truth U ∷ []) space (frame registers) items (Test to) found refl
      (test_way place to U registers found))
  tested T place to registers len found =
      ends_in (stands_at (place + 1) registers len) (one m place (Truth T ∷ []) space (frame registers) items (Test to) found refl
      (test_way place to T registers found))

  -- one test and then the others
  go_on : (first rest : Bool) (s : State) (k n p end to : ℕ) → Leads s k (StandsThere (cond first p to))
      → ((registers : List Register) → length registers ≡ most_variables → Leads (here p registers) n (StandsThere (cond rest end to)))
      → Leads s (k + n) (StandsThere (cond (first && rest) end to))
  go_on true rest s k n p end to a f = and_then a on_there
    where
      on_there : (y : State) → StandsThere p y → Leads y n (StandsThere (cond rest end to))
      on_there y (Stand registers len) = f registers len
  go_on false rest s k n p end to a f = let more : k ≤ k + n = omega arith in in_more more a

  module _ (is_space : IsSpace (world_in m) space) (to : ℕ) where
    pub filters_lead : (cs : List Clause) (place : ℕ) (registers : List Register) → AllOf (λ c. PushesClause m (code c) (weight c) c) cs
        → length registers ≡ most_variables
        → StandsAt m.code.instrs place (filters_by code cs place to)
        → Leads (here place registers) (weight_by weight cs)
        (StandsThere (cond (list_all (λ c. not (is_false (clause_in (world_in m) space c))) cs) (place + length (filters_by code cs place to)) to))
    filters_lead [] place registers each len there =
        let same : place ≡ place + 0 = omega arith in
        at_once (subst (λ p. StandsThere p (here place registers)) same (Stand registers len))
    filters_lead (c ∷ cs) place registers each len there =
        let first = code c place 0 in
        let next = place + length first + 1 in
        let rest = filters_by code cs next to in
        let t = clause_in (world_in m) space c in
        let behind = back_stands m.code.instrs place first (Test to ∷ rest) there in
        let test = first_is m.code.instrs (place + length first) (Test to) rest behind in
        let run = each.0 space (here place registers) is_space refl refl refl len (front_stands m.code.instrs place first (Test to ∷ rest) there) in
        let one_done = and_then run (λ y h.
        subst (λ z. Leads z 1 (StandsThere (cond (not (is_false t)) next to))) (sym (pushed_is place (place + length first) t registers y h))
        (tested t (place + length first) to y.core.registers (h.registers ∙ len) test)) in
        let others = λ (regs : List Register) (many : length regs ≡ most_variables).
        filters_lead cs next regs each.1 many (next_stands m.code.instrs (place + length first) (Test to) rest behind) in
        let end : next + length rest ≡ place + length (first ++ Test to ∷ rest) = omega (arith, length-append first (Test to ∷ rest)) in
        let all = list_all (λ d. not (is_false (clause_in (world_in m) space d))) cs in
        subst (λ e. Leads (here place registers) (weight_by weight (c ∷ cs)) (StandsThere (cond (not (is_false t) && all) e to))) end
        (go_on (not (is_false t)) all (here place registers) (weight c + 1) (weight_by weight cs) next (next + length rest) to one_done others)
