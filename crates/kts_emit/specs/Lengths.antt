-- How long code is.
use Rattle.std.specs.Prelude.{◌≡◌, ◌<◌, ◌*◌, ℕ, List, length, true, Some}
use Rattle.kts_spec.specs.declared.schema.Schema.{Schema}
use Rattle.kts_spec.specs.declared.tree.Term.{Term}
use Rattle.kts_spec.specs.declared.tree.Formula.{Formula}
use Rattle.kts_spec.specs.Sizes.{size_of_term, size_of_formula}
use Rattle.kts_spec.specs.Typing.{Kind, kind_of, is_typed}
use Rattle.kts_emit.specs.Codes.{term_code, formula_code}
use Rattle.kts_emit.specs.Weights.{length_of_term, length_of_formula}

-- wherever it stands, and with however many variables in scope, code has its length
pub record CodeHasLength : Type 0 where
  pub term : (t : Term) (place vars : ℕ) → length (term_code t place vars) ≡ length_of_term t
  pub formula : (p : Formula) (place vars : ℕ) → length (formula_code p place vars) ≡ length_of_formula p

-- how many instructions there are at most for a tree: four for each of eight binders, and two more
abbrev pub most_for_a_tree : ℕ
most_for_a_tree = 34

-- the code of what is well typed is no longer than its trees allow
pub record CodeIsShort : Type 0 where
  pub term : (schema : Schema) (t : Term) (scope : List ℕ) (k : Kind) → kind_of schema t scope ≡ Some k
      → length_of_term t < most_for_a_tree * (size_of_term t).trees
  pub formula : (schema : Schema) (p : Formula) (scope : List ℕ) → is_typed schema p scope ≡ true
      → length_of_formula p < most_for_a_tree * (size_of_formula p).trees
