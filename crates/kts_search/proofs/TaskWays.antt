-- Runs through tasks and filters: what holds on the way, and where they end.
use Rattle.std.proofs.Common.{◌≡◌, ℕ, zero, suc, ◌<◌, ◌≤◌, List, [], ◌∷◌, length, Option, Some, refl, sym, ap, ◌∙◌, arith, true}
use Rattle.std.specs.Prelude.{slice_get, slice_index_or}
use Rattle.kts_abs.specs.Values.{Abs}
use Rattle.kts_base.specs.Limits.{most_variables}
use Rattle.kts_code.specs.declared.instructions.Instr.TheVariants.{Node}
use Rattle.kts_code.specs.declared.modes.Mode.{Mode}
use Rattle.kts_code.specs.declared.modes.Mode.TheVariants.{Going}
use Rattle.kts_code.specs.Machine.{fresh_registers, step, after}
use Rattle.kts_code.specs.Queues.{registers_of}
use Rattle.kts_code.specs.Reaches.{Reaches}
use Rattle.kts_code.specs.Setups.{Setup, world_in}
use Rattle.kts_code.specs.States.{Operand, Item, Register, ChoicePoint, State}
use Rattle.kts_emit.specs.Effects.{Effect, Emptied, IsOnTheWay, HasMoved, is_of_tasks}
use Rattle.kts_emit.proofs.KeptSearch.{task_steps_keep}
use Rattle.kts_index.specs.TaskOrder.{task_at}
use Rattle.kts_plan.specs.Plans.{clauses_of_spec}
use Rattle.kts_plan.specs.Solutions.{NoneAbove}
use Rattle.kts_spec.specs.declared.spec.Spec.{Spec}
use Rattle.kts_search.specs.Bases.{Tracked}
use Rattle.kts_search.specs.Propagation.{IsRight}
use Rattle.kts_search.specs.SearchCodes.{at}
use Rattle.kts_search.proofs.TaskSteps.{InTask}
use Rattle.kts_search.proofs.TrackedRuns.{Lifted, Lift}

-- ---- on the way

path_kept : (m : Setup) (picks : ℕ → ℕ) (s : State) (n : ℕ) → ((k : ℕ) → k < n → InTask m (after m picks k s))
    → (after m picks n s).core.path ≡ s.core.path
path_kept m picks s zero h = refl
path_kept m picks s (suc n) h =
    (task_steps_keep m (picks n) (after m picks n s) (h n (omega arith))).path ∙ path_kept m picks s n (λ k less. h k (omega arith))

-- on the way through a task of this effect, with this path count
pub record OnWay (m : Setup) (path : ℕ) (effect : Effect) (x : State) : Type 0 where
  pub way : IsOnTheWay m effect x
  pub same_path : x.core.path ≡ path

pub with_path : {m : Setup} {s : State} {n : ℕ} {P : State → Type 0} (effect : Effect) → Reaches (step m) (IsOnTheWay m effect) s n P
    → Reaches (step m) (OnWay m s.core.path effect) s n P
with_path {m} {s} {n} {P} effect a =
    record {
      ends = λ picks.
          let u = a.ends picks in (
            u.0,
            u.1,
            λ k less. record { way = u.2 k less; same_path = path_kept m picks s k (λ j lt. (u.2 j (omega arith)).of_tasks) },
            u.3,
          );
    }

not_node : (m : Setup) (x : State) → InTask m x → slice_get m.code.instrs x.core.pc ≡ Some Node → ⊥
not_node m x h e = let b : is_of_tasks (Some Node) ≡ true = sym (ap is_of_tasks e) ∙ h in cc

-- what is right there
pub way_right : (spec : Spec) (m : Setup) (most path : ℕ) (effect : Effect) (base : List Abs) (moves : ℕ) → path ≤ most
    → (effect ≡ Emptied → NoneAbove (world_in m) (clauses_of_spec spec) base)
    → (x : Tracked) → Lifted (Some base) moves (OnWay m path effect) x → IsRight spec m most x
way_right spec m most path effect base moves le f x (Lift s h) = record {
  node = λ e. absurd (not_node m s h.way.of_tasks e);
  head = λ l. f (h.way.fails l);
  path = let e = h.same_path in omega arith;
}

-- ---- registers, and the end

registers_many : (n : ℕ) (prefix tuple : List ℕ) → length (registers_of n prefix tuple) ≡ n
registers_many zero prefix tuple = refl
registers_many (suc n) [] tuple = ap suc (registers_many n [] [])
registers_many (suc n) (i ∷ prefix) [] = ap suc (registers_many n [] [])
registers_many (suc n) (i ∷ prefix) (m ∷ tuple) = ap suc (registers_many n prefix tuple)

-- a task begins with all registers
pub fresh_many : (m : Setup) (k : ℕ) → length (fresh_registers m (task_at (world_in m) m.code.schema.tasks k)) ≡ most_variables
fresh_many m k =
    let task = task_at (world_in m) m.code.schema.tasks k in
    registers_many most_variables (slice_index_or m.code.schema.tasks task.definite []) task.tuple

-- a run that has moved, from a place where nothing was on its stack
pub moved_is : (from place : ℕ) (registers : List Register) (space before : List Abs) (queue rest : List ℕ) (choices : List ChoicePoint) (path : ℕ) (items : List Item) (s : State)
    → HasMoved place space queue (at from registers before rest choices path items) s → s ≡ at place s.core.registers space queue choices path items
moved_is from place registers space before queue rest choices path items s h =
    let c = s.core in
    let state : ℕ → List Operand → Option (List Abs) → List ℕ → List ChoicePoint → ℕ → Mode → List Item → State =
    λ pc stack space queue choices path mode items. record {
      core = record {
        pc = pc;
        stack = stack;
        registers = c.registers;
        space = space;
        queue = queue;
        choices = choices;
        path = path;
        mode = mode;
      };
      items = items;
    } in
    ap (λ v. state v c.stack c.space c.queue c.choices c.path c.mode s.items) h.place_is
    ∙ ap (λ v. state place v c.space c.queue c.choices c.path c.mode s.items) h.stack
    ∙ ap (λ v. state place [] v c.queue c.choices c.path c.mode s.items) h.space_is
    ∙ ap (λ v. state place [] (Some space) v c.choices c.path c.mode s.items) h.queue_is
    ∙ ap (λ v. state place [] (Some space) queue v c.path c.mode s.items) h.choices
    ∙ ap (λ v. state place [] (Some space) queue choices v c.mode s.items) h.path
    ∙ ap (λ v. state place [] (Some space) queue choices path v s.items) h.mode
    ∙ ap (λ v. state place [] (Some space) queue choices path Going v) h.items
