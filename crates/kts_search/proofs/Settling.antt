-- The propagation of a space, in every order of tasks.
use Rattle.std.proofs.Common.{◌≡◌, ℕ, zero, suc, ◌+◌, ◌*◌, ◌<◌, ◌≤◌, ⊎_elim, List, [], ◌∷◌, length, slice_set, Some, refl, sym, ◌∙◌, subst, arith}
use Rattle.kts_abs.specs.Values.{Abs}
use Rattle.kts_base.specs.Limits.{most_variables}
use Rattle.kts_clause.specs.declared.clause.Clause.{Clause}
use Rattle.kts_code.specs.declared.instructions.Instr.TheVariants.{Take}
use Rattle.kts_code.specs.Machine.{on_take, entry_of, fresh_registers}
use Rattle.kts_code.specs.Queues.{woken}
use Rattle.kts_code.specs.Reaches.{Reaches}
use Rattle.kts_code.specs.Setups.{Setup, world_in}
use Rattle.kts_code.specs.States.{Item, Register, ChoicePoint, State}
use Rattle.kts_code.proofs.Systems.{at_once, and_then, in_more, less_known}
use Rattle.kts_emit.specs.Effects.{Effect, Kept, Raised, Emptied, effect_of, HasMoved, HasDone}
use Rattle.kts_index.specs.TaskOrder.{task_at}
use Rattle.kts_plan.specs.Asks.{asks_in}
use Rattle.kts_plan.specs.Plans.{clauses_of_spec}
use Rattle.kts_plan.specs.Solutions.{IsLeast, NoneAbove}
use Rattle.kts_spec.specs.declared.spec.Spec.{Spec}
use Rattle.kts_spec.specs.Worlds.{World}
use Rattle.kts_search.specs.Bases.{Tracked, track}
use Rattle.kts_search.specs.Propagation.{IsRight, Settled, Least, Nothing, tasks_left, PropagationSettles}
use Rattle.kts_search.specs.SearchCodes.{SearchCode, at}
use Rattle.kts_search.proofs.TaskTurns.{IsBetween, Follows, begins, follows, popped_task}
use Rattle.kts_search.proofs.TaskWays.{with_path, way_right, moved_is, fresh_many}
use Rattle.kts_search.proofs.TrackedRuns.{on, at_plain, Lifted, Lift, lift}
use Rattle.kts_search.proofs.WaitingTasks.{pops, waits_in}

module _ (spec : Spec) (m : Setup) (task_weight filter_weight : ℕ) (code : SearchCode spec m task_weight filter_weight) where
  open code use {found, placed, task}

  abbrev w : World
  w = world_in m

  abbrev clauses : List Clause
  clauses = clauses_of_spec spec

  abbrev Between : List Abs → List Abs → List ℕ → Type 0
  Between = IsBetween spec m task_weight filter_weight code

  abbrev FollowsIn : List Abs → List Abs → List ℕ → ℕ → Effect → Type 0
  FollowsIn = Follows spec m task_weight filter_weight code

  -- with no task waiting, the space is the least solution
  is_least : (s t : List Abs) → Between s t [] → IsLeast w clauses s t
  is_least s t k = record {
    space = k.space;
    above = k.above;
    solves = λ j. ⊎_elim (λ z. absurd (waits_in [] j z)) (λ e. e) (k.queue.unmet j);
    least = k.below;
  }

  -- from the head of the loop, where tasks wait
  module _ (s : List Abs) (most moves : ℕ) (choices : List ChoicePoint) (items : List Item) where
    abbrev Ends : Tracked → Type 0
    Ends = Settled spec m s moves (found + 1) most choices items

    abbrev Runs : ℕ → Tracked → Type 0
    Runs n x = Reaches (track m) (IsRight spec m most) x n Ends

    -- where a task fails there is no solution
    stuck : (t : List Abs) (rest : List ℕ) (left : ℕ) (effect : Effect) → FollowsIn s t rest left effect → effect ≡ Emptied → NoneAbove w clauses s
    stuck t rest left Kept f e = cc
    stuck t rest left (Raised c a) f e = cc
    stuck t rest left Emptied f e = f

    -- from where a task was taken, when the rest wait
    module _ (from : ℕ) (regs : List Register) (t : List Abs) (rest : List ℕ) (path left n : ℕ) (some : length regs ≡ most_variables) (le : left ≤ suc n) (few : path + left ≤ most) (pos : 0 < left)
        (next : (registers : List Register) (t2 : List Abs) (q : List ℕ) → length registers ≡ most_variables → Between s t2 q → tasks_left m t2 q ≤ n → (path + 1) + tasks_left m t2 q ≤ most
        → Runs (1 + n * task_weight) (on (Some s) moves (at 1 registers t2 q choices (path + 1) items))) where
      abbrev begins_at : State
      begins_at = at from regs t rest choices (path + 1) items

      -- the loop goes on
      goes_on : (t2 : List Abs) (q : List ℕ) (y : State) → Between s t2 q → tasks_left m t2 q < left → HasMoved 1 t2 q begins_at y
          → Runs (1 + n * task_weight) (on (Some s) moves y)
      goes_on t2 q y between less h =
          subst (λ z. Runs (1 + n * task_weight) (on (Some s) moves z)) (sym (moved_is from 1 regs t2 t q rest choices (path + 1) items y h))
          (next y.core.registers t2 q (h.registers ∙ some) between (omega arith) (omega arith))

      -- after the run of a task
      turned : (effect : Effect) → FollowsIn s t rest left effect → (x : Tracked)
          → Lifted (Some s) moves (HasDone m t 1 (found + 1) effect begins_at) x → Runs (1 + n * task_weight) x
      turned Kept f x (Lift y h) = goes_on t rest y f.0 f.1 h
      turned (Raised c a) f x (Lift y h) = goes_on (slice_set t c a) (woken m c rest) y f.0 f.1 h
      turned Emptied f x (Lift y h) =
          subst (λ z. Runs (1 + n * task_weight) (on (Some s) moves z)) (sym (moved_is from (found + 1) regs t t rest rest choices (path + 1) items y h))
          (in_more (omega arith) (at_once (Nothing y.core.registers t rest (path + 1) (h.registers ∙ some) f (omega arith))))

    pub settle : (n : ℕ) (registers : List Register) (t : List Abs) (q : List ℕ) (path : ℕ) → length registers ≡ most_variables → Between s t q
        → tasks_left m t q ≤ n → path + tasks_left m t q ≤ most
        → Runs (1 + n * task_weight) (on (Some s) moves (at 1 registers t q choices path items))
    settle n registers t [] path len kept le few =
        in_more (omega arith)
        (at_plain (at 1 registers t [] choices path items).core items (Some s) moves (Take 2) refl placed.take refl (λ e. cc) (omega arith)
        (λ pick. at_once (Least registers t path len (is_least s t kept) few)))
    settle zero registers t (j ∷ q) path len kept le few = absurd (omega arith)
    settle (suc n) registers t (j ∷ q) path len kept le few =
        at_plain (at 1 registers t (j ∷ q) choices path items).core items (Some s) moves (Take 2) refl placed.take refl (λ e. cc) (omega arith) (λ pick.
        let r = pops pick j q in
        let left = tasks_left m t (j ∷ q) in
        let effect = effect_of t (asks_in w clauses r.task t) in
        let f = follows spec m task_weight filter_weight code s t (j ∷ q) r.task r.rest kept r.popped in
        let runs = task r.task registers t (j ∷ q) r.rest choices path items
        (popped_task spec m task_weight filter_weight code s t (j ∷ q) r.task r.rest kept r.popped) kept.space in
        let run = less_known (way_right spec m most (path + 1) effect s moves (omega arith) (stuck t r.rest left effect f))
        (lift (Some s) moves (λ x h. h.way.of_tasks) (with_path effect runs.runs)) in
        let begins_with = fresh_registers m (task_at w m.code.schema.tasks r.task) in
        let go = and_then run (turned (entry_of m (task_at w m.code.schema.tasks r.task)) begins_with t r.rest path left n (fresh_many m r.task) le few (omega arith)
        (λ regs t2 q2 len2 kept2 le2 few2. settle n regs t2 q2 (path + 1) len2 kept2 le2 few2) effect f) in
        let enough : runs.steps + (1 + n * task_weight) ≤ suc n * task_weight = let e = runs.few in omega arith in
        let c = (at 1 registers t (j ∷ q) choices path items).core in
        subst (λ o. Runs (suc n * task_weight) (on (Some s) moves (record { core = on_take m c 2 o; items = items }))) (sym r.is) (in_more enough go))

pub settles : PropagationSettles
settles spec m task_weight filter_weight code most moves registers base q choices path items len space queue few =
    settle spec m task_weight filter_weight code base most moves choices items most registers base q path len
    (begins spec m task_weight filter_weight code base q space queue) (omega arith) few
