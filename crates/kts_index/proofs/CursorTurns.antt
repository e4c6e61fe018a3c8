-- A turn of the search for the next task: over the tuples of one constraint.
use Rattle.std.proofs.Common.{◌≡◌, refl, ap, ◌∙◌, ℕ, ◌+◌, ◌-◌, ◌<◌, ◌≤◌, List, [], ◌∷◌, length, take, drop, get_or, Bool, arith, take_all}
use Rattle.std.specs.List.{filter, range_with_len}
use Rattle.kts_spec.specs.Data.{task_count}
use Rattle.kts_spec.specs.Worlds.{World, world_of}
use Rattle.kts_spec.specs.declared.schema.Schema.{Schema}
use Rattle.kts_spec.specs.declared.instance.Instance.{Instance}
use Rattle.kts_index.specs.declared.pattern.Pattern.{Pattern}
use Rattle.kts_index.specs.declared.tasks.Tasks.TheInside.{Inside as Fields}
use Rattle.kts_index.specs.declared.tuples.Tuples.{Tuples}
use Rattle.kts_index.specs.ConstraintTuples.{task_in, tuple_in}
use Rattle.kts_index.specs.Cursor.{pairs_from, IsCursor}
use Rattle.kts_index.specs.FirstNumbers.{NonePasses, IsFirst}
use Rattle.kts_index.specs.Pairs.{is_paired, is_pair, pairs}
use Rattle.kts_index.specs.PatternOrder.{IsGroup}
use Rattle.kts_index.specs.TaskOrder.{Task, tasks, sizes_of_prefix}
use Rattle.kts_index.specs.TupleNumbers.{tuple_at}
use Rattle.kts_index.proofs.PassingNumbers.{from_on, taken, skipped, past}
use Rattle.kts_index.proofs.PatternGroups.{first_in_group}
use Rattle.kts_index.proofs.TaskNumbers.{count_in, task_at-place, length-tasks, counts, counts_within}

-- at the beginning all are left
pub all_left : (patterns : List Pattern) (schema : Schema) (inst : Instance) (x : ℕ) (cell : List ℕ)
    → pairs_from patterns schema inst x cell 0 ≡ pairs patterns schema inst x cell
unfolding pairs_from pairs
all_left patterns schema inst x cell = ap (λ k. filter (is_pair patterns schema inst x cell) (range_with_len 0 k)) (omega arith)

module _ (s : Fields) (cursor : IsCursor s.schema.now s.inst.now s.definite s.start s.next) where
  -- the data
  abbrev world : World
  world = world_of s.schema.now s.inst.now

  -- the prefixes of its constraints
  abbrev prefixes : List (List ℕ)
  prefixes = s.schema.now.tasks

  -- the tasks from a number on
  abbrev left : ℕ → List ℕ
  left = pairs_from s.patterns.now s.schema.now s.inst.now s.choice s.tuple.now

  -- whether a task is paired with the cell
  abbrev paired : ℕ → Bool
  paired = is_pair s.patterns.now s.schema.now s.inst.now s.choice s.tuple.now

  -- how many tasks there are
  abbrev end : ℕ
  end = length (tasks world prefixes)

  -- as many as all constraints have
  end_is : end ≡ task_count world prefixes
  end_is = length-tasks world 0 prefixes

  -- past the last constraint none is left
  pub none_left : s.definite ≡ length prefixes → left s.next ≡ []
  unfolding pairs_from
  none_left h =
      let a = cursor.after in
      let b = cursor.starts in
      let all = ap (task_count world) (take_all s.definite prefixes (omega arith)) in
      past paired end s.next (omega (arith, end_is))

  module _ (inside : s.definite < length prefixes) where
    -- how many tasks the constraint has
    abbrev count : ℕ
    count = count_in world (get_or prefixes s.definite [])

    -- the task of one of its tuples
    abbrev task : ℕ → Task
    task p = record { definite = s.definite; tuple = tuple_at (sizes_of_prefix world (get_or prefixes s.definite [])) p }

    -- whether the task of a tuple is paired with the cell
    abbrev passes : ℕ → Bool
    passes p = is_paired s.patterns.now s.choice s.tuple.now (task p)

    -- its tasks are among all
    fits : s.start + count ≤ end
    fits = rw (cursor.starts, end_is) (counts_within world prefixes s.definite inside)

    -- its tasks, by their numbers
    test_is : (p : ℕ) → p < count → paired (s.start + p) ≡ passes p
    test_is p h = rw cursor.starts (ap (is_paired s.patterns.now s.choice s.tuple.now) (task_at-place world prefixes s.definite p inside h))

    -- the next constraint begins after them
    cursor_after : IsCursor s.schema.now s.inst.now (s.definite + 1) (s.start + count) (s.start + count)
    cursor_after = record {
      valid = cursor.valid;
      within = omega arith;
      starts = rw (counts world prefixes s.definite inside, cursor.starts) refl;
      after = omega arith;
      before = λ l. omega arith;
      ends = λ e. refl;
    }

    module _ (found : ℕ) (first : IsFirst passes (s.next - s.start) count found) where
      -- no task before the tuple that is found is paired
      none_before : NonePasses paired s.next (s.start + found)
      none_before t h k =
          let p = t - s.start in
          let a = cursor.after in
          let w = first.within in
          let e : s.start + p ≡ t = omega arith in
          rw (← e) (test_is p (omega arith) ∙ first.none p (omega arith) (omega arith))

      -- so these are passed over
      to_found : left s.next ≡ left (s.start + found)
      unfolding pairs_from
      to_found =
          let f = first.after in
          let a = cursor.after in
          let w = first.within in
          let g = fits in
          let e : s.next + (s.start + found - s.next) ≡ s.start + found = omega arith in
          skipped paired end (s.start + found - s.next) s.next (omega arith) (λ t h k. none_before t h (omega arith)) ∙ ap (from_on paired end) e

      -- its task is the first that is left
      found_left : found < count → left s.next ≡ (s.start + found) ∷ left (s.start + found + 1)
      unfolding pairs_from
      found_left h = to_found ∙ (let g = fits in taken paired end (s.start + found) (omega arith) (test_is found h ∙ first.passes h))

      -- where none is found, those after the constraint are left
      others_left : count ≤ found → left s.next ≡ left (s.start + count)
      others_left h = to_found ∙ ap left (let w = first.within in omega arith)

    -- over the tuples as they are at hand
    module _ (tuples : Tuples) (same : tuples.inst.now ≡ s.inst.now) (same_prefix : tuples.prefix.now ≡ get_or prefixes s.definite [])
        (c : ℕ) (counted : c ≡ tuples.count) where
      -- their number is that of its tasks
      count_is : c ≡ count
      count_is = counted ∙ (tuples.counted ∙ rw (same, same_prefix) refl)

      -- the next constraint is looked at
      pub turn_after : IsCursor s.schema.now s.inst.now (s.definite + 1) (s.start + c) (s.start + c)
      turn_after = rw count_is cursor_after

      module _ (end found : ℕ) (group : IsGroup s.patterns.now s.definite s.from end)
          (first : IsFirst (λ p. is_paired (take (end - s.from) (drop s.from s.patterns.now)) s.choice s.tuple.now (task_in tuples s.definite p)) (s.next - s.start) tuples.count found) where
        -- the patterns of the constraint pair the tuple that is found first
        first_here : IsFirst passes (s.next - s.start) count found
        first_here = rw (← counted, same, same_prefix, count_is) at
            (first_in_group s.patterns.now s.choice s.tuple.now (tuple_in tuples) s.from end (s.next - s.start) tuples.count found group first)

        -- where one is found, its task is given
        pub turn_found : found < c → left s.next ≡ (s.start + found) ∷ left (s.start + found + 1)
        turn_found h = found_left found first_here (omega (arith, count_is))

        -- where none is, the tasks of later constraints are left
        pub turn_none : c ≤ found → left s.next ≡ left (s.start + c)
        turn_none h = rw count_is (others_left found first_here (omega (arith, count_is)))
