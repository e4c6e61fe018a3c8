use Rattle.std.proofs.Common.{refl}
use Rattle.kts_spec.specs.Data.{is_valid}
use Rattle.kts_spec.proofs.examples.data_examples.Goals as goal

pub returns : goal.returns
unfolding is_valid
returns c = record {
  most_members = refl;
  member_too_many = refl;
  no_member = refl;
  member_twice = refl;
  one_name_begins_another = refl;
  index_missing = refl;
  index_too_many = refl;
  most_cells = refl;
  cell_too_many = refl;
  cells_of_both = refl;
  most_tasks = refl;
  task_too_many = refl;
  tasks_of_all = refl;
  table = refl;
  value_too_large = refl;
  value_too_small = refl;
  value_missing = refl;
  value_too_many = refl;
  table_missing = refl;
  table_too_many = refl;
  member_values = refl;
  no_such_member = refl;
  member_below_the_first = refl;
}
