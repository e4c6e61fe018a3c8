-- Queues: what is left of one once a task was taken, and which tasks wait after a cell has changed.
use Rattle.std.proofs.Common.{◌≡◌, ℕ, zero, suc, ◌+◌, ◌<◌, ◌≤◌, ◌⊎◌, inl, inr, ⊎_elim, true, false, not, nat_eq, List, [], ◌∷◌, length, length-append, filter, Option, Some, None, refl, ap, ◌∙◌, arith}
use Rattle.std.specs.Prelude.{slice_get, pos}
use Rattle.std.specs.List.{Contains, range_with_len}
use Rattle.std.proofs.lemmas.Bool.{cases_Bool, or_cases, or_left, or_right, eqb-true, eq-eqb}
use Rattle.std.proofs.lemmas.List.Sums.{length-filter, count_by-le-length}
use Rattle.std.proofs.lemmas.Option.{slice_get_within, slice_get-get_or, get_or_from_slice_get}
use Rattle.kts_abs.proofs.Listed.{In}
use Rattle.kts_clause.specs.declared.clause.Clause.{Clause}
use Rattle.kts_code.specs.Queues.{waits, queued, all_tasks, readers, woken, put_front, pop}
use Rattle.kts_code.specs.Setups.{Setup, world_in, cell_of}
use Rattle.kts_index.specs.Pairs.{is_paired, is_pair}
use Rattle.kts_index.specs.TaskOrder.{Task, tasks, task_at}
use Rattle.kts_index.proofs.PairFacts.{pairs_are_tasks}
use Rattle.kts_index.proofs.TaskNumbers.{length-tasks}
use Rattle.kts_plan.specs.Constraints.{Constraint, constraints_of, prefixes_of, tasks_of}
use Rattle.kts_plan.specs.TaskReads.{some_reads, task_is_paired, is_paired_with}
use Rattle.kts_plan.proofs.ClauseValues.{filter_in, in_filter}
use Rattle.kts_plan.proofs.NumberedItems.{got_in, in_got, in_left, in_right, in_split}
use Rattle.kts_spec.specs.declared.declarations.ValueType.TheVariants.{Int}
use Rattle.kts_spec.specs.Data.{task_count}
use Rattle.kts_spec.specs.Schedules.{Cell, cells}
use Rattle.kts_spec.specs.Worlds.{World}
use Rattle.kts_search.specs.Propagation.{reader_count}
use Rattle.kts_search.specs.SearchCodes.{Covers}

-- ---- the test

pub waits_in : (queue : List ℕ) (k : ℕ) → waits queue k ≡ true → In k queue
waits_in [] k e = cc
waits_in (j ∷ queue) k e = ⊎_elim (λ h. inl (eqb-true k j h)) (λ h. inr (waits_in queue k h)) (or_cases (nat_eq k j) (waits queue k) e)

pub in_waits : (queue : List ℕ) (k : ℕ) → In k queue → waits queue k ≡ true
in_waits [] k h = absurd h
in_waits (j ∷ queue) k h =
    ⊎_elim (λ e. or_left (nat_eq k j) (waits queue k) (eq-eqb k j e)) (λ i. or_right (nat_eq k j) (waits queue k) (in_waits queue k i)) h

-- ---- a task is taken

-- the task that was taken, and the others
pub record Popped (queue : List ℕ) (k : ℕ) (rest : List ℕ) : Type 0 where
  pub size : length queue ≡ suc (length rest)
  pub out : (j : ℕ) → In j queue → (j ≡ k) ⊎ In j rest
  pub back : (j : ℕ) → (j ≡ k) ⊎ In j rest → In j queue

-- the same of what was popped
pub record Taken (queue : List ℕ) (o : Option (ℕ × List ℕ)) : Type 0 where
  pub task : ℕ
  pub rest : List ℕ
  pub is : o ≡ Some (task, rest)
  pub popped : Popped queue task rest

put_before : (j : ℕ) (queue : List ℕ) (o : Option (ℕ × List ℕ)) → Taken queue o → Taken (j ∷ queue) (put_front j o)
put_before j queue o t =
    let m = t.popped in
    record {
      task = t.task;
      rest = j ∷ t.rest;
      is = ap (put_front j) t.is;
      popped = record {
        size = ap suc m.size;
        out = λ i z. ⊎_elim (λ (y : i ≡ j). inr (inl y)) (λ (y : In i queue). ⊎_elim (λ a. inl a) (λ a. inr (inr a)) (m.out i y)) z;
        back = λ i z. ⊎_elim (λ (y : i ≡ t.task). inr (m.back i (inl y)))
            (λ (y : (i ≡ j) ⊎ In i t.rest). ⊎_elim (λ a. inl a) (λ a. inr (m.back i (inr a))) y) z;
      };
    }

-- from a queue that is not empty a task is taken
pub pops : (n j : ℕ) (queue : List ℕ) → Taken (j ∷ queue) (pop n (j ∷ queue))
pops zero j queue = record { task = j; rest = queue; is = refl; popped = record { size = refl; out = λ i z. z; back = λ i z. z } }
pops (suc n) j [] = record { task = j; rest = []; is = refl; popped = record { size = refl; out = λ i z. z; back = λ i z. z } }
pops (suc n) j (k ∷ queue) = put_before j (k ∷ queue) (pop n (k ∷ queue)) (pops n k queue)

-- ---- a cell has changed

queued_in : (tasks queue : List ℕ) (k : ℕ) → In k tasks → In k (queued tasks queue)
queued_in tasks queue k h =
    ⊎_elim
    (λ (e : waits queue k ≡ true). in_left k queue (filter (λ t. not (waits queue t)) tasks) (waits_in queue k e))
    (λ (e : waits queue k ≡ false). in_right k queue (filter (λ t. not (waits queue t)) tasks) (in_filter (λ t. not (waits queue t)) tasks k h (ap not e)))
    (cases_Bool (waits queue k))

module _ (m : Setup) (c : ℕ) (queue : List ℕ) where
  -- what waits goes on to wait
  pub still_waits : (k : ℕ) → In k queue → In k (woken m c queue)
  still_waits k h = in_left k queue (filter (λ t. not (waits queue t)) (readers m c)) h

  -- the readers wait
  pub is_woken : (k : ℕ) → In k (readers m c) → In k (woken m c queue)
  is_woken k h = queued_in (readers m c) queue k h

  -- and no others
  pub waited_or_woken : (k : ℕ) → In k (woken m c queue) → In k queue ⊎ In k (readers m c)
  waited_or_woken k h =
      ⊎_elim (λ i. inl i) (λ i. inr (filter_in (λ t. not (waits queue t)) (readers m c) k i).0)
      (in_split k queue (filter (λ t. not (waits queue t)) (readers m c)) h)

  -- so that no more are added than there are readers
  pub few_woken : length (woken m c queue) ≤ length queue + reader_count m c
  few_woken =
      let test = λ (t : ℕ). not (waits queue t) in
      let rs = readers m c in
      omega (arith, length-append queue (filter test rs), length-filter test rs, count_by-le-length test rs)

-- ---- the tasks of a setup

contains_in : (xs : List ℕ) (x : ℕ) → Contains xs x → In x xs
contains_in xs x c = got_in xs c.0 x (slice_get-get_or xs c.0 x c.1 ∙ ap (λ y. Some y) c.2)

in_contains : (xs : List ℕ) (x : ℕ) → In x xs → Contains xs x
in_contains xs x i = let g = in_got xs x i in (g.0, slice_get_within xs g.0 x g.1, get_or_from_slice_get xs g.0 x x g.1)

-- numbers from one on
in_range : (a n k : ℕ) → a ≤ k → k < a + n → In k (range_with_len a n)
in_range a zero k le less = absurd (omega arith)
in_range a (suc n) k le less = ⊎_elim (λ e. inl e) (λ (h : a + 1 ≤ k). inr (in_range (a + 1) n k h (omega arith))) (first a k le)
  where
    first : (a k : ℕ) → a ≤ k → (k ≡ a) ⊎ (a + 1 ≤ k)
    first a k le = grind arith

range_in : (a n k : ℕ) → In k (range_with_len a n) → k < a + n
range_in a zero k h = absurd h
range_in a (suc n) k h = ⊎_elim (λ (e : k ≡ a). omega arith) (λ i. let r = range_in (a + 1) n k i in omega arith) h

-- the cell that stands for one that is not there
abbrev pub no_cell : Cell
no_cell = record { choice = 0; args = []; kind = Int (pos 0) (pos 0) }

module _ (m : Setup) where
  abbrev count : ℕ
  count = task_count (world_in m) m.code.schema.tasks

  -- all tasks wait at first
  pub all_wait : (k : ℕ) → k < count → In k (all_tasks m)
  all_wait k less = in_range 0 count k (omega arith) (omega arith)

  pub all_are_tasks : (k : ℕ) → In k (all_tasks m) → k < count
  all_are_tasks k h = let r = range_in 0 count k h in omega arith

  -- the tasks that a cell wakes are tasks
  pub reader_is_task : (c k : ℕ) → In k (readers m c) → k < count
  reader_is_task c k h =
      (((pairs_are_tasks m.code.index m.code.schema m.inst (cell_of m c).choice (cell_of m c).args).exact k).0 (in_contains (readers m c) k h)).0

  -- a task that reads a cell is woken by it
  module _ (clauses : List Clause) (declared : m.code.schema.tasks ≡ prefixes_of clauses) (covers : Covers clauses m.code.index) where
    abbrev w : World
    w = world_in m

    reads_reader : (k c : ℕ) (task : Task) (cell : Cell) → slice_get (tasks_of w clauses) k ≡ Some task → slice_get (cells w) c ≡ Some cell
        → some_reads (slice_get (constraints_of clauses) task.definite) task.tuple (Some cell) ≡ true → In k (readers m c)
    reads_reader k c task cell e f h =
        let there : slice_get (tasks w m.code.schema.tasks) k ≡ Some task = ap (λ ps. slice_get (tasks w ps) k) declared ∙ e in
        let is_task : task_at w m.code.schema.tasks k ≡ task = get_or_from_slice_get (tasks w m.code.schema.tasks) k task
        (record { definite = 0; tuple = [] }) there in
        let is_cell : cell_of m c ≡ cell = get_or_from_slice_get (cells w) c cell no_cell f in
        let less : k < count = let l = slice_get_within (tasks w m.code.schema.tasks) k task there in omega (arith, length-tasks w 0 m.code.schema.tasks) in
        let paired : is_pair m.code.index m.code.schema m.inst (cell_of m c).choice (cell_of m c).args k ≡ true =
        ap (λ t. is_paired m.code.index (cell_of m c).choice (cell_of m c).args t) is_task
        ∙ ap (λ (d : Cell). is_paired m.code.index d.choice d.args task) is_cell ∙ covers task cell h in
        contains_in (readers m c) k (((pairs_are_tasks m.code.index m.code.schema m.inst (cell_of m c).choice (cell_of m c).args).exact k).1 (less, paired))

    by_cell : (k c : ℕ) (task : Task) (o : Option Cell) → slice_get (tasks_of w clauses) k ≡ Some task → slice_get (cells w) c ≡ o
        → some_reads (slice_get (constraints_of clauses) task.definite) task.tuple o ≡ true → In k (readers m c)
    by_cell k c task None e f h = absurd (none_read (slice_get (constraints_of clauses) task.definite) task.tuple h)
      where
        none_read : (o : Option Constraint) (tuple : List ℕ) → some_reads o tuple None ≡ true → ⊥
        none_read None tuple h = cc
        none_read (Some k) tuple h = cc
    by_cell k c task (Some cell) e f h = reads_reader k c task cell e f h

    by_task : (k c : ℕ) (o : Option Task) → slice_get (tasks_of w clauses) k ≡ o → task_is_paired clauses o (slice_get (cells w) c) ≡ true
        → In k (readers m c)
    by_task k c None e h = cc
    by_task k c (Some task) e h = by_cell k c task (slice_get (cells w) c) e refl h

    pub paired_reader : (k c : ℕ) → is_paired_with w clauses k c ≡ true → In k (readers m c)
    paired_reader k c h = by_task k c (slice_get (tasks_of w clauses) k) refl h

    -- a number without a task
    pub past_tasks : (k : ℕ) → count ≤ k → length (tasks_of w clauses) ≤ k
    past_tasks k le =
        let e = length-tasks w 0 m.code.schema.tasks in
        let f = ap (λ ps. length (tasks w ps)) declared in
        omega arith
