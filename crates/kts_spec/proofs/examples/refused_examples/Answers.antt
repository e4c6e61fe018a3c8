use Rattle.std.proofs.Common.{refl}
use Rattle.kts_spec.specs.Schemas.{is_schema}
use Rattle.kts_spec.specs.Specifications.{is_formula}
use Rattle.kts_spec.proofs.TreeSizes.{sizes}
use Rattle.kts_spec.proofs.Typings.{typings}
use Rattle.kts_spec.proofs.examples.refused_examples.Goals as goal

pub returns : goal.returns
unfolding is_schema is_formula
returns c = record {
  declared = refl;
  used_before = refl;
  declared_twice = refl;
  not_declared = refl;
  one_name = refl;
  reserved_word = refl;
  digit_first = refl;
  manifest_twice = refl;
  manifest = refl;
  manifest_of_pairs = record { without = refl; refused = refl };
  manifest_without_argument = record { without = refl; refused = refl };
  manifest_of_numbers = record { without = refl; refused = refl };
  three_arguments = refl;
  ends_crossed = refl;
  end_too_large = refl;
  range_at_the_limit = simp (typings, sizes) refl;
  range_beyond = simp (typings, sizes) refl;
  three_in_a_prefix = simp (typings, sizes) refl;
  four_in_a_prefix = simp (typings, sizes) refl;
  eight_in_scope = simp (typings, sizes) refl;
  nine_in_scope = simp (typings, sizes) refl;
  member_as_number = simp (typings, sizes) refl;
  number_as_member = simp (typings, sizes) refl;
  two_parts = simp (typings, sizes) refl;
  one_part = simp (typings, sizes) refl;
}
