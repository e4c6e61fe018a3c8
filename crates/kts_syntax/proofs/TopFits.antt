-- Forms that are read may be written.
use Rattle.std.proofs.Common.{◌≡◌, refl, ◌∙◌, ap, subst, ℕ, suc, ◌==◌, ℤ, List, [], ◌∷◌, ◌++◌, length, Bool, true, false, ◌&&◌, if◌then◌else◌, Ok, Err}
use Rattle.std.specs.Prelude.{codes, nat_le}
use Rattle.std.specs.List.{list_all}
use Rattle.std.proofs.lemmas.Bool.{and_from}
use Rattle.kts_base.specs.Reads.{and_then}
use Rattle.kts_text.specs.Forest.{Forest, none, atom, list}
use Rattle.kts_syntax.specs.Faults.{fault}
use Rattle.kts_syntax.specs.Fitting.{is_named, is_small, expr_fits, shape_fits, family_fits, form_fits, forms_fit, ast_fits}
use Rattle.kts_syntax.specs.Readings.{Reading, rest, name_at, first_name, first_number}
use Rattle.kts_syntax.specs.Sizes.{count, trees}
use Rattle.kts_syntax.specs.Tops.{Ast, names, first_arguments, begins_with, two_ends, int_type, first_type, first_formula, one_name, family_of, family, bounded, formula_of, formula, form_of, later_form, has_room, roomy, later_forms, spec_name, forms_of}
use Rattle.kts_syntax.specs.Words.{is_text, is_word}
use Rattle.kts_syntax.specs.declared.expr.Expr.{Expr}
use Rattle.kts_syntax.specs.declared.fault.FormKind.TheVariants.{NotAForm, WrongCount, TooMany}
use Rattle.kts_syntax.specs.declared.form.Form.{Form}
use Rattle.kts_syntax.specs.declared.form.Form.TheVariants.{Index, Given, Choose, Formula, Manifest}
use Rattle.kts_syntax.specs.declared.form.Shape.{Shape}
use Rattle.kts_syntax.specs.declared.form.Shape.TheVariants.{Int, Named}
use Rattle.kts_syntax.specs.declared.layout.Role.TheVariants as role
use Rattle.kts_syntax.specs.declared.word.Word.{Word}
use Rattle.kts_syntax.proofs.Inversions.{ok_is, both_ok, test_ok}
use Rattle.kts_syntax.proofs.ReadFits.{name_at_fits, first_name_fits, number_at_fits, expr_read_fits}

-- ---- names and types

names_fit : (t : Forest) (words : List Word) → names t ≡ Ok words → (list_all is_named words ≡ true) × (length words ≡ count t)
unfolding names count
names_fit none words q = subst (λ (ws : List Word). (list_all is_named ws ≡ true) × (length ws ≡ 0)) (ok_is [] words q) (refl, refl)
names_fit (atom at bytes after) words q =
    let word = both_ok (name_at at bytes) _ words q in
    let more = both_ok (names after) _ words word.2 in
    let fit = names_fit after more.0 more.1 in
    subst (λ (ws : List Word). (list_all is_named ws ≡ true) × (length ws ≡ suc (count after))) (ok_is (word.0 ∷ more.0) words more.2)
    (and_from (is_named word.0) (list_all is_named more.0) (name_at_fits at bytes word.0 word.1) fit.0, ap suc fit.1)
names_fit (list start end inside after) words q = absurd cc

arguments_fit : (t : Forest) (words : List Word) → first_arguments t ≡ Ok words → (nat_le (length words) 2 && list_all is_named words) ≡ true
unfolding first_arguments
arguments_fit none words q = absurd cc
arguments_fit (atom at bytes after) words q = absurd cc
arguments_fit (list start end inside after) words q =
    let tested = test_ok (nat_le (count inside) 2) (names inside) (fault WrongCount start) words q in
    let fit = names_fit inside words tested.1 in
    and_from (nat_le (length words) 2) (list_all is_named words) (ap (λ (n : ℕ). nat_le n 2) fit.1 ∙ tested.0) fit.0

first_number_fits : (t : Forest) (z : ℤ) → first_number t ≡ Ok z → is_small z ≡ true
unfolding first_number
first_number_fits none z q = absurd cc
first_number_fits (atom at bytes after) z q = number_at_fits at bytes z q
first_number_fits (list start end inside after) z q = absurd cc

ends_fit : (start : ℕ) (ends : Forest) (shape : Shape) → two_ends start ends ≡ Ok shape → shape_fits shape ≡ true
unfolding two_ends
ends_fit start ends shape q =
    let low = both_ok (first_number ends) _ shape q in
    let high = both_ok (first_number (rest ends)) _ shape low.2 in
    subst (λ (s : Shape). shape_fits s ≡ true) (ok_is (Int low.0 high.0 start) shape high.2)
    (and_from (is_small low.0) (is_small high.0) (first_number_fits ends low.0 low.1) (first_number_fits (rest ends) high.0 high.1))

int_fits : (start : ℕ) (inside : Forest) (shape : Shape) → int_type start inside ≡ Ok shape → shape_fits shape ≡ true
unfolding int_type
int_fits start inside shape q =
    let begun = test_ok (begins_with (codes "int") inside) (if count inside == 3 then two_ends start (rest inside) else Err (fault WrongCount start)) (fault NotAForm start) shape q in
    let counted = test_ok (count inside == 3) (two_ends start (rest inside)) (fault WrongCount start) shape begun.1 in
    ends_fit start (rest inside) shape counted.1

type_fits : (t : Forest) (shape : Shape) → first_type t ≡ Ok shape → shape_fits shape ≡ true
unfolding first_type
type_fits none shape q = absurd cc
type_fits (atom at bytes after) shape q =
    let word = both_ok (name_at at bytes) _ shape q in
    subst (λ (s : Shape). shape_fits s ≡ true) (ok_is (Named word.0) shape word.2) (name_at_fits at bytes word.0 word.1)
type_fits (list start end inside after) shape q = int_fits start inside shape q

-- ---- forms

name_fits : (start : ℕ) (parts : Forest) (word : Word) → one_name start parts ≡ Ok word → is_named word ≡ true
unfolding one_name
name_fits start parts word q = first_name_fits parts word (test_ok (count parts == 1) (first_name parts) (fault WrongCount start) word q).1

family_of_fits : (parts : Forest) (f : Word × List Word × Shape) → family_of parts ≡ Ok f → family_fits f.0 f.1 f.2 ≡ true
unfolding family_of
family_of_fits parts f q =
    let word = both_ok (first_name parts) _ f q in
    let args = both_ok (first_arguments (rest parts)) _ f word.2 in
    let shape = both_ok (first_type (rest (rest parts))) _ f args.2 in
    let named = first_name_fits parts word.0 word.1 in
    let few = arguments_fit (rest parts) args.0 args.1 in
    subst (λ (f : Word × List Word × Shape). family_fits f.0 f.1 f.2 ≡ true) (ok_is (word.0, args.0, shape.0) f shape.2)
    (and_from (is_named word.0 && (nat_le (length args.0) 2 && list_all is_named args.0)) (shape_fits shape.0)
    (and_from (is_named word.0) (nat_le (length args.0) 2 && list_all is_named args.0) named few) (type_fits (rest (rest parts)) shape.0 shape.1))

family_read_fits : (start : ℕ) (parts : Forest) (f : Word × List Word × Shape) → family start parts ≡ Ok f → family_fits f.0 f.1 f.2 ≡ true
unfolding family
family_read_fits start parts f q = family_of_fits parts f (test_ok (count parts == 3) (family_of parts) (fault WrongCount start) f q).1

first_formula_fits : (t : Forest) (e : Expr) → first_formula t ≡ Ok e → expr_fits e role.Formula ≡ true
unfolding first_formula
first_formula_fits none e q = absurd cc
first_formula_fits (atom at bytes after) e q = absurd cc
first_formula_fits (list start end inside after) e q = expr_read_fits inside role.Formula start e q

formula_of_fits : (start : ℕ) (parts : Forest) (form : Form) → formula_of start parts ≡ Ok form → form_fits form ≡ true
unfolding formula_of bounded form_fits
formula_of_fits start parts form q =
    let word = both_ok (first_name parts) _ form q in
    let read = both_ok (first_formula (rest parts)) _ form word.2 in
    let tested = test_ok (nat_le (trees read.0) 1000) (Ok (Formula word.0 read.0)) (fault TooMany start) form read.2 in
    subst (λ (f : Form). form_fits f ≡ true) (ok_is (Formula word.0 read.0) form tested.1)
    (and_from (is_named word.0 && expr_fits read.0 role.Formula) (nat_le (trees read.0) 1000)
    (and_from (is_named word.0) (expr_fits read.0 role.Formula) (first_name_fits parts word.0 word.1) (first_formula_fits (rest parts) read.0 read.1)) tested.0)

formula_fits : (start : ℕ) (parts : Forest) (form : Form) → formula start parts ≡ Ok form → form_fits form ≡ true
unfolding formula
formula_fits start parts form q = formula_of_fits start parts form (test_ok (count parts == 2) (formula_of start parts) (fault WrongCount start) form q).1

made_of_name : (make : Word → Form) → ((word : Word) → is_named word ≡ true → form_fits (make word) ≡ true) → (start : ℕ) (parts : Forest) (form : Form)
    → and_then (one_name start parts) (λ name. Ok (make name)) ≡ Ok form → form_fits form ≡ true
made_of_name make fits start parts form q =
    let name = both_ok (one_name start parts) _ form q in
    subst (λ (f : Form). form_fits f ≡ true) (ok_is (make name.0) form name.2) (fits name.0 (name_fits start parts name.0 name.1))

made_of_family : (make : Word → List Word → Shape → Form) → ((word : Word) (args : List Word) (shape : Shape) → family_fits word args shape ≡ true → form_fits (make word args shape) ≡ true)
    → (start : ℕ) (parts : Forest) (form : Form) → and_then (family start parts) (λ f. Ok (make f.0 f.1 f.2)) ≡ Ok form → form_fits form ≡ true
made_of_family make fits start parts form q =
    let f = both_ok (family start parts) _ form q in
    subst (λ (f : Form). form_fits f ≡ true) (ok_is (make f.0.0 f.0.1 f.0.2) form f.2) (fits f.0.0 f.0.1 f.0.2 (family_read_fits start parts f.0 f.1))

form_of_fits : (start : ℕ) (word : List ℕ) (parts : Forest) (form : Form) → form_of start word parts ≡ Ok form → form_fits form ≡ true
unfolding form_of form_fits
form_of_fits start word parts form q =
    by (is_text word (codes "index")) (is_text word (codes "given")) (is_text word (codes "choose")) (is_text word (codes "formula")) (is_text word (codes "manifest")) q
  where
    by : (i g c f m : Bool) → (if i then and_then (one_name start parts) (λ name. Ok (Index name))
        else (if g then and_then (family start parts) (λ f. Ok (Given f.0 f.1 f.2))
        else (if c then and_then (family start parts) (λ f. Ok (Choose f.0 f.1 f.2))
        else (if f then formula start parts
        else (if m then and_then (one_name start parts) (λ name. Ok (Manifest name))
        else Err (fault NotAForm start)))))) ≡ Ok form → form_fits form ≡ true
    by true g c f m q = made_of_name Index (λ word h. h) start parts form q
    by false true c f m q = made_of_family Given (λ word args shape h. h) start parts form q
    by false false true f m q = made_of_family Choose (λ word args shape h. h) start parts form q
    by false false false true m q = formula_fits start parts form q
    by false false false false true q = made_of_name Manifest (λ word h. h) start parts form q
    by false false false false false q = absurd cc

later_form_fits : (start : ℕ) (inside : Forest) (form : Form) → later_form start inside ≡ Ok form → form_fits form ≡ true
unfolding later_form
later_form_fits start none form q = absurd cc
later_form_fits start (atom at word parts) form q = form_of_fits start word parts form q
later_form_fits start (list at end inside after) form q = absurd cc

room_fits : (before : List Form) (start : ℕ) (read : Reading Form) (form : Form) → and_then read (roomy before start) ≡ Ok form → (read ≡ Ok form) × (has_room before form ≡ true)
unfolding roomy
room_fits before start (Ok f) form q =
    let tested = test_ok (has_room before f) (Ok f) (fault TooMany start) form q in
    (tested.1, subst (λ (f : Form). has_room before f ≡ true) (ok_is f form tested.1) tested.0)
room_fits before start (Err f) form q = absurd cc

later_forms_fit : (t : Forest) (before forms : List Form) → later_forms before t ≡ Ok forms → forms_fit before forms ≡ true
unfolding later_forms forms_fit
later_forms_fit none before forms q = subst (λ (fs : List Form). forms_fit before fs ≡ true) (ok_is [] forms q) refl
later_forms_fit (atom at bytes after) before forms q = absurd cc
later_forms_fit (list start end inside after) before forms q =
    let one = both_ok (and_then (later_form start inside) (roomy before start)) _ forms q in
    let more = both_ok (later_forms (before ++ one.0 ∷ []) after) _ forms one.2 in
    let fit = room_fits before start (later_form start inside) one.0 one.1 in
    subst (λ (fs : List Form). forms_fit before fs ≡ true) (ok_is (one.0 ∷ more.0) forms more.2)
    (and_from (form_fits one.0 && has_room before one.0) (forms_fit (before ++ one.0 ∷ []) more.0)
    (and_from (form_fits one.0) (has_room before one.0) (later_form_fits start inside one.0 fit.0) fit.1) (later_forms_fit after (before ++ one.0 ∷ []) more.0 more.1))

spec_name_fits : (start : ℕ) (inside : Forest) (word : Word) → spec_name start inside ≡ Ok word → is_named word ≡ true
unfolding spec_name
spec_name_fits start inside word q =
    let begun = test_ok (begins_with (codes "spec") inside) (if count inside == 2 then first_name (rest inside) else Err (fault WrongCount start)) (fault NotAForm start) word q in
    first_name_fits (rest inside) word (test_ok (count inside == 2) (first_name (rest inside)) (fault WrongCount start) word begun.1).1

pub parts_fit : (start : ℕ) (inside after : Forest) (word : Word) (forms : List Form) → spec_name start inside ≡ Ok word → later_forms [] after ≡ Ok forms
    → ast_fits (record { name = word.name; forms = forms }) ≡ true
unfolding ast_fits
parts_fit start inside after word forms p q = and_from (is_word word.name) (forms_fit [] forms) (spec_name_fits start inside word p) (later_forms_fit after [] forms q)

pub read_fits : (t : Forest) (ast : Ast) → forms_of t ≡ Ok ast → ast_fits ast ≡ true
unfolding forms_of
read_fits none ast q = absurd cc
read_fits (atom at bytes after) ast q = absurd cc
read_fits (list start end inside after) ast q =
    let word = both_ok (spec_name start inside) _ ast q in
    let forms = both_ok (later_forms [] after) _ ast word.2 in
    subst (λ (c : Ast). ast_fits c ≡ true) (ok_is (record { name = word.0.name; forms = forms.0 }) ast forms.2) (parts_fit start inside after word.0 forms.0 word.1 forms.1)
