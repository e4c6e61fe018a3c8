-- The examples of forms, each by what is read of its trees.
use Rattle.std.proofs.Common.{◌≡◌, refl, Ok, Err}
use Rattle.kts_text.specs.Forest.{Forest}
use Rattle.kts_syntax.specs.FormExamples.{Refused, IsOnly, index_without_a_name, index_of_two_names, manifest_of_a_reserved_word, two_manifests, both_manifests, number_after_a_zero, quantifier_without_a_formula}
use Rattle.kts_syntax.specs.Heads.{operation_of, head_of, has_parts, layout_of, role_in, layout_after, keyword}
use Rattle.kts_syntax.specs.Readings.{name_at, number_at, first_name, term_atom, atom_part, with_part, list_head, head_before, parts_in, expr}
use Rattle.kts_syntax.specs.Sizes.{count}
use Rattle.kts_syntax.specs.Tops.{Ast, first_formula, one_name, formula_of, formula, form_of, later_form, has_room, roomy, later_forms, spec_name, forms_of}
use Rattle.kts_syntax.specs.Words.{is_word, numeral_of, number_of, is_like_number}
use Rattle.kts_base.specs.Names.{is_name, is_name_byte}
use Rattle.kts_base.specs.Numerals.{is_numeral}
use Rattle.kts_syntax.specs.Faults.{FormFault, fault}
use Rattle.kts_syntax.specs.declared.fault.FormKind.TheVariants.{NotAForm, WrongCount, BadNumber}
use Rattle.kts_syntax.proofs.GrammarForms.{forms_if, forms_then}
use Rattle.kts_syntax.proofs.Inversions.{same_ok}

refused : (t : Forest) (f : FormFault) → forms_of t ≡ Err f → Refused t
refused t f e ast is = let read = forms_then is in cc

only_one : (t : Forest) (ast : Ast) → forms_of t ≡ Ok ast → IsOnly t ast
only_one t ast e = (forms_if t ast e, λ other is. same_ok other ast (forms_of t) (forms_then is) e)

pub no_index_without_a_name : Refused index_without_a_name
unfolding forms_of spec_name count first_name name_at is_word is_name is_name_byte later_forms later_form form_of one_name
no_index_without_a_name = refused _ (fault WrongCount 8) refl

pub no_index_of_two_names : Refused index_of_two_names
unfolding forms_of spec_name count first_name name_at is_word is_name is_name_byte later_forms later_form form_of one_name
no_index_of_two_names = refused _ (fault WrongCount 8) refl

pub no_manifest_of_a_reserved_word : Refused manifest_of_a_reserved_word
unfolding forms_of spec_name count first_name name_at is_word is_name is_name_byte later_forms later_form form_of one_name
no_manifest_of_a_reserved_word = refused _ (fault NotAForm 18) refl

pub two_manifests_are_kept : IsOnly two_manifests both_manifests
unfolding forms_of spec_name count first_name name_at is_word is_name is_name_byte later_forms later_form form_of one_name has_room roomy
two_manifests_are_kept = only_one _ _ refl

pub no_number_after_a_zero : Refused number_after_a_zero
unfolding forms_of spec_name count first_name name_at is_word is_name is_name_byte later_forms later_form form_of formula formula_of first_formula
    expr list_head head_before head_of operation_of keyword has_parts layout_of parts_in role_in layout_after atom_part term_atom is_like_number number_at number_of numeral_of is_numeral with_part
no_number_after_a_zero = refused _ (fault BadNumber 24) refl

pub no_quantifier_without_a_formula : Refused quantifier_without_a_formula
unfolding forms_of spec_name count first_name name_at is_word is_name is_name_byte later_forms later_form form_of formula formula_of first_formula
    expr list_head head_before head_of operation_of keyword has_parts
no_quantifier_without_a_formula = refused _ (fault WrongCount 19) refl
