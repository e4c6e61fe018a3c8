-- The tasks that are paired with a cell rise, and are those that some pattern pairs.
use Rattle.std.proofs.Common.{◌≡◌, ◌∙◌, ap, ℕ, ◌<◌, List, length, Bool, true, Some, arith}
use Rattle.std.specs.List.{Contains, filter, range_with_len}
use Rattle.std.proofs.lemmas.Option.{slice_get_within, slice_get-get_or, get_or_from_slice_get}
use Rattle.kts_spec.specs.Data.{task_count}
use Rattle.kts_spec.specs.Worlds.{World, world_of}
use Rattle.kts_spec.specs.declared.schema.Schema.{Schema}
use Rattle.kts_spec.specs.declared.instance.Instance.{Instance}
use Rattle.kts_index.specs.declared.pattern.Pattern.{Pattern}
use Rattle.kts_index.specs.Pairs.{is_pair, pairs}
use Rattle.kts_index.specs.TaskFacts.{PairsAreTasks}
use Rattle.kts_index.specs.TaskOrder.{tasks}
use Rattle.kts_index.proofs.PassingNumbers.{all_pass, stands, passing_rise}
use Rattle.kts_index.proofs.TaskNumbers.{length-tasks}

module _ (patterns : List Pattern) (schema : Schema) (inst : Instance) (x : ℕ) (cell : List ℕ) where
  -- the data
  abbrev world : World
  world = world_of schema inst

  -- whether a task is paired
  abbrev paired : ℕ → Bool
  paired = is_pair patterns schema inst x cell

  -- how many tasks there are
  abbrev count : ℕ
  count = length (tasks world schema.tasks)

  -- what is in the list is paired
  some_pattern : (t : ℕ) → Contains (filter paired (range_with_len 0 count)) t → (t < task_count world schema.tasks) × (paired t ≡ true)
  some_pattern t has =
      let p = all_pass paired 0 count has.0 t (slice_get-get_or (filter paired (range_with_len 0 count)) has.0 t has.1 ∙ ap (λ t. Some t) has.2) in
      let b = p.before in
      (omega (arith, length-tasks world 0 schema.tasks, b), p.passes)

  -- what is paired is in the list
  is_there : (t : ℕ) → t < task_count world schema.tasks → paired t ≡ true → Contains (filter paired (range_with_len 0 count)) t
  is_there t h e =
      let list = filter paired (range_with_len 0 count) in
      let at = stands paired 0 count t (record { after = omega arith; before = omega (arith, length-tasks world 0 schema.tasks, h); passes = e }) in
      (at.0, slice_get_within list at.0 t at.1, get_or_from_slice_get list at.0 t t at.1)

  -- both, in one
  pub pairs_are_tasks : PairsAreTasks patterns schema inst x cell
  unfolding pairs
  pairs_are_tasks = record {
    rise = λ j k a b. passing_rise paired 0 count j k a b;
    exact = λ t. (some_pattern t, λ h. is_there t h.0 h.1);
  }
