-- Counts of the forms of each bounded kind.
use Rattle.std.specs.Prelude.{◌≡◌, List, count_by}
use Rattle.kts_syntax.specs.Tops.{is_index, is_given, is_choice, is_formula}
use Rattle.kts_syntax.specs.declared.counts.Counts.{Counts}
use Rattle.kts_syntax.specs.declared.form.Form.{Form}

-- the counts are those of these forms
pub record AreCounts (counts : Counts) (before : List Form) : Type 0 where
  pub indexes : counts.indexes ≡ count_by is_index before
  pub givens : counts.givens ≡ count_by is_given before
  pub choices : counts.choices ≡ count_by is_choice before
  pub formulas : counts.formulas ≡ count_by is_formula before
