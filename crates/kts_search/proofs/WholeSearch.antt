-- The whole search, and what it says of every number of steps.
use Rattle.std.proofs.Common.{◌≡◌, ℕ, zero, suc, ◌+◌, ◌-◌, ◌*◌, ◌<◌, ◌≤◌, ⊎_elim, true, cond, List, [], ◌++◌, length, Option, Some, None, refl, sym, ap, ◌∙◌, subst, arith}
use Rattle.std.specs.Prelude.{slice_get}
use Rattle.std.proofs.lemmas.List.{append-nil}
use Rattle.std.proofs.lemmas.Bool.{cases_lt}
use Rattle.kts_abs.specs.Items.{Item}
use Rattle.kts_abs.specs.Spaces.{schedules_in}
use Rattle.kts_abs.specs.Values.{Abs}
use Rattle.kts_clause.specs.declared.clause.Clause.{Clause}
use Rattle.kts_code.specs.declared.instructions.Instr.TheVariants.{Start, Node, Back, Halt}
use Rattle.kts_code.specs.declared.modes.Mode.{Mode}
use Rattle.kts_code.specs.declared.modes.Mode.TheVariants.{Going, Halted, Trapped}
use Rattle.kts_code.specs.Machine.{on_start, step_in, steps, run_of}
use Rattle.kts_code.specs.Queues.{all_tasks}
use Rattle.kts_code.specs.Reaches.{Reaches}
use Rattle.kts_code.specs.Setups.{Setup, world_in}
use Rattle.kts_code.specs.States.{Core, State, no_registers, opening_core}
use Rattle.kts_code.proofs.Runs.{grown}
use Rattle.kts_code.proofs.Systems.{past, steps-plus, at_once, and_then, in_more}
use Rattle.kts_emit.specs.Effects.{leaves}
use Rattle.kts_plan.specs.Plans.{clauses_of_spec}
use Rattle.kts_plan.specs.Walks.{WalkFrom}
use Rattle.kts_plan.proofs.WalkOrder.{walk_is_unique}
use Rattle.kts_spec.specs.declared.spec.Spec.{Spec}
use Rattle.kts_spec.specs.Worlds.{World}
use Rattle.kts_search.specs.Bases.{Tracked, moves_in, bases_in, track, tracked_opening, tracked_of, base_of}
use Rattle.kts_search.specs.Propagation.{IsRight, IsLeastOf, HasNone, tasks_left}
use Rattle.kts_search.specs.SearchCodes.{SearchCode, at}
use Rattle.kts_search.specs.Searches.{IsOrigin, path_bound, schedule_count, enough, WritesWalk, FindsLeast, CodeSearches}
use Rattle.kts_search.proofs.CellChanges.{few_schedules}
use Rattle.kts_search.proofs.Exploring.{Walked, Wrote, explore}
use Rattle.kts_search.proofs.PathBounds.{path_within}
use Rattle.kts_search.proofs.TaskTurns.{all_queue}
use Rattle.kts_search.proofs.TrackedRuns.{on, at_plain, plain_right, same_state, more_moves}

-- a run that is over stays as it is
over_step : (m : Setup) (pick : ℕ) (x : Tracked) (mode : Mode) → x.state.core.mode ≡ mode → (mode ≡ Going → ⊥) → track m pick x ≡ x
over_step m pick x mode e over =
    let by : Mode → Tracked = λ k. record {
      state = step_in k m pick x.state;
      base = cond (bases_in k m x.state.core) (step_in k m pick x.state).core.space x.base;
      moves = cond (moves_in k m x.state.core) (suc x.moves) x.moves;
    } in
    ap by e ∙ still mode over
  where
    still : (k : Mode) → (k ≡ Going → ⊥) → record {
      state = step_in k m pick x.state;
      base = cond (bases_in k m x.state.core) (step_in k m pick x.state).core.space x.base;
      moves = cond (moves_in k m x.state.core) (suc x.moves) x.moves;
    } ≡ x
    still Going over = absurd (over refl)
    still Halted over = refl
    still (Trapped _) over = refl

over_steps : (m : Setup) (picks : ℕ → ℕ) (n : ℕ) (x : Tracked) (mode : Mode) → x.state.core.mode ≡ mode → (mode ≡ Going → ⊥)
    → steps (track m) picks n x ≡ x
over_steps m picks zero x mode e over = refl
over_steps m picks (suc n) x mode e over = ap (track m (picks n)) (over_steps m picks n x mode e over) ∙ over_step m (picks n) x mode e over

-- there is one walk
one_walk : (w : World) (clauses : List Clause) (o : Option (List Abs)) (a b : List Item) → WalkFrom w clauses o a → WalkFrom w clauses o b → a ≡ b
one_walk w clauses None a b h g = h ∙ sym g
one_walk w clauses (Some s) a b h g = walk_is_unique w clauses s a b h g

-- a run that has halted, with the walk from the origin written
pub record Done (spec : Spec) (m : Setup) (origin : Option (List Abs)) (x : Tracked) : Type 0 where
  pub halted : x.state.core.mode ≡ Halted
  pub walk : WalkFrom (world_in m) (clauses_of_spec spec) origin x.state.items
  pub right : IsRight spec m (path_bound m) x
  pub moves : x.moves ≤ 2 * schedule_count m

-- ---- runs that all end

module _ (spec : Spec) (m : Setup) (most : ℕ) (reaches : Reaches (track m) (IsRight spec m (path_bound m)) tracked_opening most (Done spec m m.origin)) where
  -- the run at its end
  pub record EndOf (picks : ℕ → ℕ) : Type 0 where
    pub last : ℕ
    pub few : last ≤ most
    pub way : (k : ℕ) → k < last → IsRight spec m (path_bound m) (tracked_of m picks k)
    pub done : Done spec m m.origin (tracked_of m picks last)

  pub end : (picks : ℕ → ℕ) → EndOf picks
  end picks = let u = reaches.ends picks in record { last = u.0; few = u.1; way = u.2; done = u.3 }

  pub same : (picks : ℕ → ℕ) (n : ℕ) → (tracked_of m picks n).state ≡ run_of m picks n
  same picks n = same_state m picks n tracked_opening

  -- the run before it, and beyond it
  before : (picks : ℕ → ℕ) (e : EndOf picks) (n : ℕ) → n ≤ e.last
      → steps (track m) (past n picks) (e.last - n) (tracked_of m picks n) ≡ tracked_of m picks e.last
  before picks e n le =
      let i : n + (e.last - n) ≡ e.last = omega arith in
      sym (steps-plus (track m) picks n (e.last - n) tracked_opening) ∙ ap (λ k. tracked_of m picks k) i

  beyond : (picks : ℕ → ℕ) (e : EndOf picks) (n : ℕ) → e.last ≤ n → tracked_of m picks n ≡ tracked_of m picks e.last
  beyond picks e n le =
      let i : n ≡ e.last + (n - e.last) = omega arith in
      ap (λ k. tracked_of m picks k) i ∙ steps-plus (track m) picks e.last (n - e.last) tracked_opening
      ∙ over_steps m (past e.last picks) (n - e.last) (tracked_of m picks e.last) Halted e.done.halted (λ g. cc)

  -- a run that is over was at its end
  over : (picks : ℕ → ℕ) (e : EndOf picks) (n : ℕ) (mode : Mode) → (run_of m picks n).core.mode ≡ mode → (mode ≡ Going → ⊥)
      → tracked_of m picks n ≡ tracked_of m picks e.last
  over picks e n mode is not_going =
      ⊎_elim
      (λ (lt : n < e.last).
      sym (over_steps m (past n picks) (e.last - n) (tracked_of m picks n) mode (ap (λ (s : State). s.core.mode) (same picks n) ∙ is) not_going) ∙ before picks e n (omega arith))
      (λ (le : e.last ≤ n). beyond picks e n le)
      (cases_lt n e.last)

  -- each moment is right
  right : (picks : ℕ → ℕ) (n : ℕ) → IsRight spec m (path_bound m) (tracked_of m picks n)
  right picks n =
      let e = end picks in
      ⊎_elim
      (λ (lt : n < e.last). e.way n lt)
      (λ (le : e.last ≤ n). subst (IsRight spec m (path_bound m)) (sym (beyond picks e n le)) e.done.right)
      (cases_lt n e.last)

  walk : List Item
  walk = (tracked_of m (λ n. 0) (end (λ n. 0)).last).state.items

  walk_is : (picks : ℕ → ℕ) (e : EndOf picks) → (tracked_of m picks e.last).state.items ≡ walk
  unfolding walk
  walk_is picks e = one_walk (world_in m) (clauses_of_spec spec) m.origin (tracked_of m picks e.last).state.items _ e.done.walk (end (λ n. 0)).done.walk

  is_walk : WalkFrom (world_in m) (clauses_of_spec spec) m.origin walk
  unfolding walk
  is_walk = (end (λ n. 0)).done.walk

  pub writes_walk : WritesWalk spec m
  writes_walk = record {
    walk = walk;
    is = is_walk;
    front = λ picks n.
        let e = end picks in
        ⊎_elim
        (λ (lt : n < e.last).
        let g = grown m (past n picks) (e.last - n) (tracked_of m picks n).state in
        let last = sym (same_state m (past n picks) (e.last - n) (tracked_of m picks n)) ∙ ap (λ (x : Tracked). x.state) (before picks e n (omega arith)) in
        (g.more, sym (walk_is picks e) ∙ ap (λ (s : State). s.items) (sym last) ∙ g.is ∙ ap (λ (s : State). s.items ++ g.more) (same picks n)))
        (λ (le : e.last ≤ n).
        ([], sym (walk_is picks e) ∙ ap (λ (x : Tracked). x.state.items) (sym (beyond picks e n le)) ∙ sym (append-nil (tracked_of m picks n).state.items) ∙ ap (λ (s : State). s.items ++ []) (same picks n)))
        (cases_lt n e.last);
    whole = λ picks n halted.
        let e = end picks in
        ap (λ (s : State). s.items) (sym (same picks n)) ∙ ap (λ (x : Tracked). x.state.items) (over picks e n Halted halted (λ g. cc)) ∙ walk_is picks e;
    safe = λ picks n kind trapped.
        let e = end picks in
        let t : Trapped kind ≡ Halted = sym trapped ∙ ap (λ (s : State). s.core.mode) (sym (same picks n))
        ∙ ap (λ (x : Tracked). x.state.core.mode) (over picks e n (Trapped kind) trapped (λ g. cc)) ∙ e.done.halted in
        cc;
  }

  pub finds_least : FindsLeast spec m
  finds_least = record {
    node = λ picks n.
        subst (λ (s : State). slice_get m.code.instrs s.core.pc ≡ Some Node → IsLeastOf (world_in m) (clauses_of_spec spec) (base_of m picks n) s.core.space) (same picks n) (right picks n).node;
    head = λ picks n. subst (λ (s : State). leaves m s ≡ true → HasNone (world_in m) (clauses_of_spec spec) (base_of m picks n)) (same picks n) (right picks n).head;
    path = λ picks n. subst (λ (s : State). s.core.path ≤ path_bound m) (same picks n) (right picks n).path;
  }

  pub halts_by : (picks : ℕ → ℕ) (n : ℕ) → most ≤ n → (run_of m picks n).core.mode ≡ Halted
  halts_by picks n le =
      let e = end picks in
      ap (λ (s : State). s.core.mode) (sym (same picks n)) ∙ ap (λ (x : Tracked). x.state.core.mode) (beyond picks e n (omega (arith, e.few))) ∙ e.done.halted

  pub few_moves : (picks : ℕ → ℕ) (n : ℕ) → (tracked_of m picks n).moves ≤ 2 * schedule_count m
  few_moves picks n =
      let e = end picks in
      ⊎_elim
      (λ (lt : n < e.last).
      let more = more_moves m (past n picks) (e.last - n) (tracked_of m picks n) in
      let last = ap (λ (x : Tracked). x.moves) (before picks e n (omega arith)) in
      omega (arith, e.done.moves, more, last))
      (λ (le : e.last ≤ n). let last = ap (λ (x : Tracked). x.moves) (beyond picks e n le) in omega (arith, e.done.moves, last))
      (cases_lt n e.last)

-- ---- the whole run

module _ (spec : Spec) (m : Setup) (task_weight filter_weight : ℕ) (code : SearchCode spec m task_weight filter_weight) where
  open code use {split, found, stop, placed}

  abbrev w : World
  w = world_in m

  abbrev clauses : List Clause
  clauses = clauses_of_spec spec

  abbrev most : ℕ
  most = path_bound m

  abbrev Ends : Option (List Abs) → ℕ → Tracked → Type 0
  Ends origin n x = Reaches (track m) (IsRight spec m most) x n (Done spec m origin)

  -- at the last place
  halts : (origin : Option (List Abs)) (c : Core) (base : Option (List Abs)) (moves : ℕ) (items : List Item) → c.mode ≡ Going → c.pc ≡ stop
      → WalkFrom w clauses origin items → c.path ≤ most → moves ≤ 2 * schedule_count m
      → Ends origin 1 (on base moves (record { core = c; items = items }))
  halts origin c base moves items going there walk le few =
      let found = ap (slice_get m.code.instrs) there ∙ placed.halt in
      at_plain c items base moves Halt going found refl (λ e. cc) le (λ pick.
      at_once (record {
        halted = refl;
        walk = walk;
        right = plain_right (on base moves (record { core = record c { mode = Halted }; items = items })) Halt found refl (λ e. cc) le;
        moves = few;
      }))

  -- after the search, nothing is left to be undone
  stopped : (first : List Abs) (x : Tracked) → Walked spec m task_weight filter_weight code most (0 + 2 * schedule_count m) first [] [] x
      → Ends (Some first) 2 x
  stopped first x (Wrote registers t q path base moves items len walk le few) =
      at_plain (at (found + 1) registers t q [] path items).core items base moves (Back stop) refl placed.back refl (λ e. cc) le
      (λ pick. halts (Some first) (at stop registers t q [] path items).core base moves items refl refl walk le (omega arith))

  -- after `start`
  started : (origin : Option (List Abs)) → IsOrigin w origin
      → Ends origin ((1 + 2 * schedule_count m) * (8 + most * task_weight + filter_weight) + 2)
      (on (on_start m opening_core stop origin).space 0 (record { core = on_start m opening_core stop origin; items = [] }))
  started None is = in_more (omega arith) (halts None (on_start m opening_core stop None) None 0 [] refl refl refl (omega arith) (omega arith))
  started (Some first) is =
      let c = 8 + most * task_weight + filter_weight in
      let n = schedule_count m in
      let few : length (schedules_in w first) ≤ suc n = omega (arith, few_schedules w first) in
      let left : 0 + tasks_left m first (all_tasks m) ≤ most = omega (arith, path_within m first is) in
      and_then
      (explore spec m task_weight filter_weight code most c (omega arith) (suc n) n (omega arith) no_registers first
      (all_tasks m) [] 0 0 [] refl few is (all_queue spec m task_weight filter_weight code first) left)
      (stopped first)

  reaches_end : IsOrigin w m.origin → Ends m.origin (enough m task_weight filter_weight) tracked_opening
  reaches_end is =
      in_more (omega arith) (at_plain opening_core [] None 0 (Start stop) refl placed.start refl (λ e. cc) (omega arith) (λ pick. started m.origin is))

pub code_searches : CodeSearches
code_searches spec m task_weight filter_weight code is =
    let most = enough m task_weight filter_weight in
    let reaches = reaches_end spec m task_weight filter_weight code is in
    record {
      walk = writes_walk spec m most reaches;
      least = finds_least spec m most reaches;
      ends = record { halts = halts_by spec m most reaches; moves = few_moves spec m most reaches };
    }
