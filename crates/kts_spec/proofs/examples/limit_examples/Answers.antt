use Rattle.std.proofs.Common.{◌≡◌, refl, ◌∙◌, true, suc, pos, [], Some}
use Rattle.std.specs.Prelude.{replicate}
use Rattle.kts_base.specs.Limits.{most_parts}
use Rattle.kts_spec.specs.Typing.{Whole, kind_of}
use Rattle.kts_spec.specs.Examples.{no_choice}
use Rattle.kts_spec.specs.Refusals.{always, mixed, n}
use Rattle.kts_spec.specs.Schemas.{is_schema}
use Rattle.kts_spec.specs.Specifications.{is_formula, is_spec}
use Rattle.kts_spec.proofs.TreeSizes.{sizes}
use Rattle.kts_spec.proofs.Typings.{typings, kind_of-Add}
use Rattle.kts_spec.proofs.examples.limit_examples.Goals as goal

always_accepted : is_formula no_choice always ≡ true
unfolding is_formula
always_accepted = simp (typings, sizes) refl

n_kind : kind_of mixed n [] ≡ Some (Whole (pos 0, pos 1000000))
n_kind = simp typings refl

pub returns : goal.returns
unfolding is_schema is_spec
returns c = record {
  indexes = refl;
  index_too_many = refl;
  givens = refl;
  given_too_many = refl;
  choices = refl;
  choice_too_many = refl;
  formulas = rw always_accepted refl;
  formula_too_many = refl;
  largest = refl;
  tree_too_many = refl;
  too_deep = refl;
  addend_too_many = refl;
  parts = kind_of-Add mixed [] (replicate most_parts n) ∙ rw n_kind refl;
  part_too_many = kind_of-Add mixed [] (replicate (suc most_parts) n) ∙ refl;
  size = simp sizes refl;
}
