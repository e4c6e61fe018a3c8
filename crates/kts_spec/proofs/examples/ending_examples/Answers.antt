use Rattle.std.proofs.Common.{refl}
use Rattle.std.specs.Fmt.{digits}
use Rattle.kts_spec.proofs.examples.ending_examples.Goals as goal

pub returns : goal.returns
unfolding digits
returns c = record {
  found_none = refl;
  found_all = refl;
  none_asked_for = refl;
  as_many_as_asked_for = refl;
  none_in_time = refl;
  some_in_time = refl;
}
