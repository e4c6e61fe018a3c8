-- Which task has which number.
use Rattle.std.proofs.Common.{◌≡◌, refl, sym, ap, subst, ◌∙◌, ℕ, zero, suc, ◌+◌, ◌-◌, ◌<◌, ◌≤◌, inl, inr, List, [], ◌∷◌, length, take, get_or, flat_map, Some, arith, length-append}
use Rattle.std.specs.Prelude.{slice_get}
use Rattle.std.specs.List.{enumerate_from}
use Rattle.std.proofs.lemmas.Bool.{cases_lt}
use Rattle.std.proofs.lemmas.List.{length-map, get_or-map}
use Rattle.std.proofs.lemmas.List.Concat.{get_or-flat_map}
use Rattle.std.proofs.lemmas.List.FromFn.{length-enumerate_from, get_or-enumerate_from}
use Rattle.std.proofs.lemmas.List.Sums.{sum-map, sum_by-cons, sum_by_more, sum_by_more_le}
use Rattle.std.proofs.lemmas.Option.{slice_get_within, slice_get-get_or, get_or_from_slice_get}
use Rattle.kts_spec.specs.Data.{task_count}
use Rattle.kts_spec.specs.Places.{count_of}
use Rattle.kts_spec.specs.Schedules.{tuples}
use Rattle.kts_spec.specs.Worlds.{World}
use Rattle.kts_spec.proofs.TuplePlaces.{tuple_count}
use Rattle.kts_index.specs.TaskFacts.{IsTask, TasksHaveNumbers}
use Rattle.kts_index.specs.TaskOrder.{Task, sizes_of_prefix, tasks_of_constraint, tasks, task_at}
use Rattle.kts_index.specs.TupleNumbers.{tuple_at}
use Rattle.kts_index.proofs.TupleOrder.{place_of-tuple_at, tuples-at, tuple_is}

module _ (w : World) where
  -- how many tasks a constraint of this prefix has
  abbrev pub count_in : List ℕ → ℕ
  count_in prefix = count_of (sizes_of_prefix w prefix)

  -- with one constraint more in front
  task_count-cons : (p : List ℕ) (prefixes : List (List ℕ)) → task_count w (p ∷ prefixes) ≡ count_in p + task_count w prefixes
  task_count-cons p prefixes =
      sum-map count_in (p ∷ prefixes) ∙ (sum_by-cons count_in p prefixes ∙ ap (λ s. count_in p + s) (sym (sum-map count_in prefixes)))

  -- the list of its tasks is as long
  length-constraint : (d : ℕ) (p : List ℕ) → length (tasks_of_constraint w (d, p)) ≡ count_in p
  length-constraint d p = length-map (tuples (sizes_of_prefix w p)) (λ tuple. record { definite = d; tuple = tuple }) ∙ tuple_count (sizes_of_prefix w p)

  -- the list of all tasks is as long as their number
  pub length-tasks : (d : ℕ) (prefixes : List (List ℕ)) → length (flat_map (tasks_of_constraint w) (enumerate_from d prefixes)) ≡ task_count w prefixes
  length-tasks d [] = refl
  length-tasks d (p ∷ prefixes) =
      length-append (tasks_of_constraint w (d, p)) (flat_map (tasks_of_constraint w) (enumerate_from (d + 1) prefixes))
      ∙ (rw (length-constraint d p, length-tasks (d + 1) prefixes) (sym (task_count-cons p prefixes)))

  -- the first constraints, with their numbers
  take-enumerate_from : (i d : ℕ) (prefixes : List (List ℕ)) → take i (enumerate_from d prefixes) ≡ enumerate_from d (take i prefixes)
  take-enumerate_from zero d prefixes = refl
  take-enumerate_from (suc i) d [] = refl
  take-enumerate_from (suc i) d (p ∷ prefixes) = ap (λ es. (d, p) ∷ es) (take-enumerate_from i (d + 1) prefixes)

  -- a task of a constraint stands after those of all earlier ones
  pub task_at-place : (prefixes : List (List ℕ)) (i p : ℕ) → i < length prefixes → p < count_of (sizes_of_prefix w (get_or prefixes i []))
      → task_at w prefixes (task_count w (take i prefixes) + p) ≡ record { definite = i; tuple = tuple_at (sizes_of_prefix w (get_or prefixes i [])) p }
  task_at-place prefixes i p h k =
      let es = enumerate_from 0 prefixes in
      let prefix = get_or prefixes i [] in
      let none : Task = record { definite = 0; tuple = [] } in
      let before : length (flat_map (tasks_of_constraint w) (take i es)) ≡ task_count w (take i prefixes) =
      ap (λ ds. length (flat_map (tasks_of_constraint w) ds)) (take-enumerate_from i 0 prefixes) ∙ length-tasks 0 (take i prefixes) in
      let item : get_or es i (0, []) ≡ (i, prefix) = get_or-enumerate_from 0 prefixes i (0, []) h ∙ ap (λ j. (j, prefix)) (omega arith) in
      let inside : p < length (tasks_of_constraint w (get_or es i (0, []))) = rw (item, length-constraint i prefix) k in
      let long : i < length es = rw (length-enumerate_from 0 prefixes) h in
      let all : p < length (tuples (sizes_of_prefix w prefix)) = rw (tuple_count (sizes_of_prefix w prefix)) k in
      rw (← before) (get_or-flat_map (tasks_of_constraint w) es i p (0, []) none long inside
      ∙ rw item (get_or-map (λ tuple. record { definite = i; tuple = tuple }) (tuples (sizes_of_prefix w prefix)) p [] none all
      ∙ ap (λ tuple. record { definite = i; tuple = tuple }) (tuples-at (sizes_of_prefix w prefix) p k)))

  -- one constraint more
  pub counts : (prefixes : List (List ℕ)) (i : ℕ) → i < length prefixes → task_count w (take (i + 1) prefixes) ≡ task_count w (take i prefixes) + count_in (get_or prefixes i [])
  counts prefixes i h =
      sum-map count_in (take (i + 1) prefixes) ∙ (sum_by_more count_in prefixes i [] h ∙ ap (λ s. s + count_in (get_or prefixes i [])) (sym (sum-map count_in (take i prefixes))))

  -- all of them have no fewer tasks
  pub counts_within : (prefixes : List (List ℕ)) (i : ℕ) → i < length prefixes → task_count w (take i prefixes) + count_in (get_or prefixes i []) ≤ task_count w prefixes
  counts_within prefixes i h = rw (sum-map count_in (take i prefixes), sum-map count_in prefixes) (sum_by_more_le count_in prefixes i [] h)

  -- the constraint of a task, and the number of its tuple
  record Owner (prefixes : List (List ℕ)) (t : ℕ) : Type 0 where
    definite : ℕ
    at : ℕ
    declared : definite < length prefixes
    below : at < count_in (get_or prefixes definite [])
    is : task_count w (take definite prefixes) + at ≡ t

  -- every number below that of all has one
  owner : (prefixes : List (List ℕ)) (t : ℕ) → t < task_count w prefixes → Owner prefixes t
  owner [] t h = absurd (let none : task_count w [] ≡ 0 = refl in omega (arith, none, h))
  owner (p ∷ prefixes) t h = elim (cases_lt t (count_in p)) [
    | inl less ↦ record { definite = 0; at = t; declared = omega arith; below = less; is = let none : task_count w [] ≡ 0 = refl in omega (arith, none) }
    | inr more ↦
        let o = owner prefixes (t - count_in p) (let e = task_count-cons p prefixes in omega (arith, e, h)) in
        record {
          definite = suc o.definite;
          at = o.at;
          declared = let d = o.declared in omega (arith, d);
          below = o.below;
          is = let e = task_count-cons p (take o.definite prefixes) in let i = o.is in omega (arith, e, i);
        }
  ]

  -- every number of a task is that of one
  pub found : (prefixes : List (List ℕ)) (t : ℕ) → t < task_count w prefixes → IsTask w prefixes t (task_at w prefixes t)
  found prefixes t h =
      let o = owner prefixes t h in
      let sizes = sizes_of_prefix w (get_or prefixes o.definite []) in
      let task : Task = record { definite = o.definite; tuple = tuple_at sizes o.at } in
      let is_task : IsTask w prefixes t task = record { declared = o.declared; at = o.at; placed = place_of-tuple_at sizes o.at o.below; number = sym o.is } in
      subst (IsTask w prefixes t) (sym (task_at-place prefixes o.definite o.at o.declared o.below) ∙ ap (task_at w prefixes) o.is) is_task

  -- a task stands at its number
  task_stands : (prefixes : List (List ℕ)) (t : ℕ) (task : Task) → IsTask w prefixes t task → slice_get (tasks w prefixes) t ≡ Some task
  task_stands prefixes t task is =
      let sizes = sizes_of_prefix w (get_or prefixes task.definite []) in
      let tuple = tuple_is sizes task.tuple is.at is.placed in
      let within = counts_within prefixes task.definite is.declared in
      let less : t < length (tasks w prefixes) = let n = is.number in let l = tuple.0 in omega (arith, length-tasks 0 prefixes, n, l, within) in
      let same : task_at w prefixes t ≡ task =
      ap (task_at w prefixes) is.number ∙ task_at-place prefixes task.definite is.at is.declared tuple.0
      ∙ ap (λ (members : List ℕ). let other : Task = record { definite = task.definite; tuple = members } in other) (sym tuple.1) in
      slice_get-get_or (tasks w prefixes) t (record { definite = 0; tuple = [] }) less ∙ ap (λ task. Some task) same

  -- and what stands there is the task of that number
  is_task : (prefixes : List (List ℕ)) (t : ℕ) (task : Task) → slice_get (tasks w prefixes) t ≡ Some task → IsTask w prefixes t task
  is_task prefixes t task e =
      let less = slice_get_within (tasks w prefixes) t task e in
      subst (IsTask w prefixes t) (get_or_from_slice_get (tasks w prefixes) t task (record { definite = 0; tuple = [] }) e)
      (found prefixes t (omega (arith, length-tasks 0 prefixes, less)))

  -- all of this, in one
  pub tasks_have_numbers : (prefixes : List (List ℕ)) → TasksHaveNumbers w prefixes
  tasks_have_numbers prefixes = record {
    count = length-tasks 0 prefixes;
    at = λ t task. (is_task prefixes t task, task_stands prefixes t task);
    found = found prefixes;
  }
