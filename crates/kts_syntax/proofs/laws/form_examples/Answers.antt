use Rattle.kts_syntax.proofs.WorkedForms.{no_index_without_a_name, no_index_of_two_names, no_manifest_of_a_reserved_word, two_manifests_are_kept, no_number_after_a_zero, no_quantifier_without_a_formula}
use Rattle.kts_syntax.proofs.laws.form_examples.Goals as goal

pub returns : goal.returns
returns c = record {
  nameless = no_index_without_a_name;
  two_names = no_index_of_two_names;
  reserved = no_manifest_of_a_reserved_word;
  manifests = two_manifests_are_kept;
  zero = no_number_after_a_zero;
  quantifier = no_quantifier_without_a_formula;
}
