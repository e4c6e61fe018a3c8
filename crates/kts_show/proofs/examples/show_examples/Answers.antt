use Rattle.std.proofs.Common.{refl}
use Rattle.std.specs.Fmt.{digits}
use Rattle.kts_show.proofs.examples.show_examples.Goals as goal

pub returns : goal.returns
unfolding digits
returns c = record {
  windows = refl;
  members = refl;
  second_member = refl;
  both_kinds = refl;
  no_argument = refl;
  below_zero = refl;
  two_arguments = refl;
  no_cell = refl;
  no_choice = refl;
  one_each = refl;
  both_in_one = refl;
  path = refl;
}
