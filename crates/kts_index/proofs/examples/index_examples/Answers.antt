use Rattle.std.proofs.Common.{refl}
use Rattle.kts_index.specs.Pairs.{is_paired, pairs}
use Rattle.kts_index.specs.TaskBound.{bound}
use Rattle.kts_index.proofs.examples.index_examples.Goals as goal

pub returns : goal.returns
unfolding is_paired pairs bound
returns c = record {
  two_indexes = refl;
  different_members = refl;
  equal_members = refl;
  no_arguments = refl;
  no_such_member = refl;
  no_such_choice = refl;
  bound = refl;
}
