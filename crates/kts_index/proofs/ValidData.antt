-- What valid data give the constraints and the choices of a schema.
use Rattle.std.proofs.Common.{◌≡◌, ℕ, ◌<◌, ◌≤◌, List, [], length, get_or, take, true, ◌&&◌, nat_le, nat_lt, arith}
use Rattle.std.specs.List.{list_all}
use Rattle.std.proofs.lemmas.Bool.{and_parts}
use Rattle.std.proofs.lemmas.List.Sums.{AllPass-from_list_all, sum-map, sum_by-take-le, sum_by_more_le}
use Rattle.kts_base.specs.Limits.{most_prefix, most_arguments, most_cells, most_tasks}
use Rattle.kts_base.proofs.Orders.{nat_le_yes, nat_lt_yes}
use Rattle.kts_spec.specs.Data.{is_valid, task_count}
use Rattle.kts_spec.specs.Places.{count_of}
use Rattle.kts_spec.specs.Schemas.{is_prefix, is_type, is_family, family_at, no_family}
use Rattle.kts_spec.specs.Worlds.{world_of, sizes_of}
use Rattle.kts_spec.specs.declared.declarations.Family.{Family}
use Rattle.kts_spec.specs.declared.schema.Schema.{Schema}
use Rattle.kts_spec.specs.declared.instance.Instance.{Instance}
use Rattle.kts_spec.proofs.Conditions.{schema_facts, instance_facts}
use Rattle.kts_spec.proofs.TypedAccesses.{few_members}
use Rattle.kts_index.specs.TupleNumbers.{sizes_in, AreIndexes}
use Rattle.kts_index.proofs.TaskNumbers.{count_in}

module _ (schema : Schema) (inst : Instance) (valid : is_valid schema inst ≡ true) where
  -- how many indexes are declared
  abbrev n : ℕ
  n = length schema.indexes

  -- few declared indexes
  are_indexes : (indexes : List ℕ) → length indexes ≤ most_prefix → list_all (λ j. nat_lt j n) indexes ≡ true → AreIndexes inst indexes
  are_indexes indexes h e = record {
    few = h;
    inside = λ k d l. rw (instance_facts schema inst valid).indexes (nat_lt_yes (get_or indexes k d) n (AllPass-from_list_all (λ j. nat_lt j n) indexes e k d l));
    small = λ i. few_members inst.members i (instance_facts schema inst valid).members;
  }

  -- the indexes of a prefix
  pub prefix_indexes : (i : ℕ) → i < length schema.tasks → AreIndexes inst (get_or schema.tasks i [])
  prefix_indexes i h =
      let prefix = get_or schema.tasks i [] in
      let both = and_parts (nat_le (length prefix) most_prefix) (list_all (λ j. nat_lt j n) prefix)
      (AllPass-from_list_all (is_prefix n) schema.tasks (schema_facts schema).prefixes i [] h) in
      are_indexes prefix (nat_le_yes (length prefix) most_prefix both.0) both.1

  -- the tasks of the first constraints are no more than all
  pub tasks_few : (i : ℕ) → task_count (world_of schema inst) (take i schema.tasks) ≤ most_tasks
  tasks_few i =
      let w = world_of schema inst in
      let few = (instance_facts schema inst valid).few_tasks in
      omega (arith, sum-map (count_in w) (take i schema.tasks), sum-map (count_in w) schema.tasks, sum_by-take-le (count_in w) schema.tasks i)

  -- what is known of the arguments and of the type of a choice
  pub record ChoiceFacts (f : Family) : Type 0 where
    pub indexes : AreIndexes inst f.args
    pub few : length f.args ≤ most_arguments
    pub cells : count_of (sizes_in inst f.args) ≤ most_cells
    pub kind : is_type (length inst.members) f.kind ≡ true

  -- by the number of the choice
  pub choice_facts : (i : ℕ) (d : Family) → i < length schema.choices → ChoiceFacts (get_or schema.choices i d)
  choice_facts i d h =
      let f : Family = get_or schema.choices i d in
      let both = and_parts (nat_le (length f.args) most_arguments && list_all (λ j. nat_lt j n) f.args) (is_type n f.kind)
      (AllPass-from_list_all (is_family n) schema.choices (schema_facts schema).choices i d h) in
      let args = and_parts (nat_le (length f.args) most_arguments) (list_all (λ j. nat_lt j n) f.args) both.0 in
      let few = nat_le_yes (length f.args) most_arguments args.0 in
      let count : Family → ℕ = λ family. count_of (sizes_of (world_of schema inst) family) in
      let all = (instance_facts schema inst valid).few_cells in
      let part = sum_by_more_le count schema.choices i d h in
      record {
        indexes = are_indexes f.args (omega (arith, few)) args.1;
        few = few;
        cells = omega (arith, sum-map count schema.choices);
        kind = rw (instance_facts schema inst valid).indexes both.1;
      }

  -- or for a family that is it
  pub choice_is : (i : ℕ) (f : Family) → i < length schema.choices → f ≡ family_at schema.choices i → ChoiceFacts f
  choice_is i f h e = rw e (choice_facts i no_family h)
