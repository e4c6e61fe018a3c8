-- What running the body of a definite constraint does: what the task asks.
use Rattle.std.specs.Prelude.{◌≡◌, ◌≤◌, ◌<◌, ℕ, ◌+◌, ◌*◌, true, List, [], ◌∷◌, ◌++◌, length, slice_get, Option, Some, None}
use Rattle.kts_abs.specs.Demands.{Demand}
use Rattle.kts_abs.specs.Spaces.{IsSpace}
use Rattle.kts_abs.specs.Values.{Abs}
use Rattle.kts_base.specs.Limits.{most_depth}
use Rattle.kts_clause.specs.declared.clause.Clause.{Clause}
use Rattle.kts_code.specs.declared.instructions.Instr.{Instr}
use Rattle.kts_code.specs.declared.modes.Mode.TheVariants.{Going}
use Rattle.kts_code.specs.Machine.{step, on_take}
use Rattle.kts_code.specs.Reaches.{Reaches}
use Rattle.kts_code.specs.Setups.{Setup, world_in}
use Rattle.kts_code.specs.States.{State}
use Rattle.kts_index.specs.TaskOrder.{task_at}
use Rattle.kts_plan.specs.Asks.{asks, asks_in}
use Rattle.kts_plan.specs.Constraints.{Constraint, constraints_of, prefixes_of, tasks_of}
use Rattle.kts_plan.specs.Plans.{clauses_of_spec}
use Rattle.kts_spec.specs.declared.schema.Schema.{Schema}
use Rattle.kts_spec.specs.declared.spec.Spec.{Spec}
use Rattle.kts_spec.specs.Data.{is_valid}
use Rattle.kts_spec.specs.Worlds.{World, size_of}
use Rattle.kts_emit.specs.Bodies.{body_code}
use Rattle.kts_emit.specs.BodyWeights.{body_weight, length_of_body}
use Rattle.kts_emit.specs.Effects.{effect_of, HasDone, IsOnTheWay}
use Rattle.kts_emit.specs.Pushes.{StandsAt, IsReady}

-- a schema has the declarations of a specification, whatever its tasks are
pub record HasDeclarations (spec : Spec) (schema : Schema) : Type 0 where
  pub indexes : schema.indexes ≡ spec.schema.indexes
  pub givens : schema.givens ≡ spec.schema.givens
  pub choices : schema.choices ≡ spec.schema.choices

-- as many free places on the stack are enough for every body
abbrev pub body_places : ℕ
body_places = 2 * most_depth + 13

-- in so many steps at most a task that asks this of the space is done from a state on
abbrev pub DoesTask : Setup → List Abs → Option (ℕ × Demand) → ℕ → ℕ → ℕ → State → Type 0
DoesTask m space asked done fail most s =
    Reaches (step m) (IsOnTheWay m (effect_of space asked)) s most (HasDone m space done fail (effect_of space asked) s)

-- the body of each constraint of a specification, wherever it stands, does what its task asks: on valid data, in each space,
-- with the members of a tuple of its prefix in registers and enough places on the stack
abbrev pub BodiesDoWhatTasksAsk : Type 0
BodiesDoWhatTasksAsk =
    (spec : Spec) (m : Setup) (space : List Abs) → HasDeclarations spec m.code.schema → is_valid m.code.schema m.inst ≡ true
    → IsSpace (world_in m) space
    → (d : ℕ) (c : Constraint) → slice_get (constraints_of (clauses_of_spec spec)) d ≡ Some c
    → (tuple : List ℕ) (done fail : ℕ) (s : State) → IsReady m space c.prefix tuple body_places s
    → StandsAt m.code.instrs s.core.pc (body_code c done fail s.core.pc (length c.prefix))
    → DoesTask m space (asks (world_in m) tuple space c) done fail (body_weight (size_of (world_in m)) c) s

-- in each code that begins with these instructions, those from a place on do what a task of this constraint asks, whatever
-- specification it is of
abbrev pub DoBody : Constraint → ℕ → ℕ → ℕ → List Instr → Type 0
DoBody c done fail place instrs =
    (spec : Spec) (m : Setup) (space : List Abs) (behind : List Instr) → m.code.instrs ≡ instrs ++ behind → HasDeclarations spec m.code.schema
    → is_valid m.code.schema m.inst ≡ true → IsSpace (world_in m) space
    → (d : ℕ) → slice_get (constraints_of (clauses_of_spec spec)) d ≡ Some c
    → (tuple : List ℕ) (s : State) → s.core.pc ≡ place → IsReady m space c.prefix tuple body_places s
    → DoesTask m space (asks (world_in m) tuple space c) done fail (body_weight (size_of (world_in m)) c) s

-- ---- bodies one after the other

-- from a place on
abbrev pub bodies_code : ℕ → ℕ → List Constraint → ℕ → List Instr
bodies_code done fail [] place = []
bodies_code done fail (c ∷ cs) place = body_code c done fail place (length c.prefix) ++ bodies_code done fail cs (place + length_of_body c)

-- where each of them begins
abbrev pub entries_from : ℕ → List Constraint → List ℕ
entries_from place [] = []
entries_from place (c ∷ cs) = place ∷ entries_from (place + length_of_body c) cs

-- code that has the bodies of all constraints of a specification, from a place on, as those of its tasks
pub record HasBodies (spec : Spec) (m : Setup) (place done fail : ℕ) : Type 0 where
  pub declarations : HasDeclarations spec m.code.schema
  pub tasks : m.code.schema.tasks ≡ prefixes_of (clauses_of_spec spec)
  pub entries : m.code.entries ≡ entries_from place (constraints_of (clauses_of_spec spec))
  pub bodies : StandsAt m.code.instrs place (bodies_code done fail (constraints_of (clauses_of_spec spec)) place)
  pub places : body_places ≤ m.code.stack

-- the state after a task was taken, the others wait in this queue
abbrev pub with_task : Setup → ℕ → ℕ → List ℕ → State → State
with_task m to t queue s = record { core = on_take m s.core to (Some (t, queue)); items = s.items }

-- the weight of a constraint's body; 0 where there is none
abbrev pub some_weight : World → Option Constraint → ℕ
some_weight w None = 0
some_weight w (Some c) = body_weight (size_of w) c

-- the weight of the body of the task of this number
abbrev pub body_weight_of : World → List Clause → ℕ → ℕ
body_weight_of w clauses t = some_weight w (slice_get (constraints_of clauses) (task_at w (prefixes_of clauses) t).definite)

-- then each task that is taken does what it asks
abbrev pub TakenTasksDoWhatTheyAsk : Type 0
TakenTasksDoWhatTheyAsk =
    (spec : Spec) (m : Setup) (place done fail : ℕ) (space : List Abs) → HasBodies spec m place done fail → is_valid m.code.schema m.inst ≡ true
    → IsSpace (world_in m) space
    → (t to : ℕ) (queue : List ℕ) (s : State) → t < length (tasks_of (world_in m) (clauses_of_spec spec)) → s.core.mode ≡ Going → s.core.space ≡ Some space
    → DoesTask m space (asks_in (world_in m) (clauses_of_spec spec) t space) done fail (body_weight_of (world_in m) (clauses_of_spec spec) t)
    (with_task m to t queue s)
