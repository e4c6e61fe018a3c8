-- Forms are read exactly where the grammar has them.
use Rattle.std.proofs.Common.{◌≡◌, refl, sym, ◌∙◌, ap, subst, ℕ, suc, ◌+◌, ◌≤◌, ◌==◌, List, [], ◌∷◌, ◌++◌, append_assoc, append-nil, Bool, true, false, if◌then◌else◌, cond, Ok, Err, arith}
use Rattle.std.specs.Prelude.{codes, nat_le, count_by}
use Rattle.std.proofs.lemmas.List.Sums.{sum_by-append}
use Rattle.kts_base.proofs.Orders.{nat_le_yes, yes_nat_le, nat_lt_yes, yes_nat_lt}
use Rattle.kts_base.specs.Limits.{most_indexes, most_givens, most_choices, most_formulas, most_arguments, most_written_trees}
use Rattle.kts_base.specs.Reads.{and_then}
use Rattle.kts_text.specs.Forest.{Forest, none, atom, list}
use Rattle.kts_syntax.specs.Faults.{fault}
use Rattle.kts_syntax.specs.FormsOf as grammar
use Rattle.kts_syntax.specs.FormsOf.{WordOf, NumberOf, WordsOf, FormulaOf, ArgumentsOf, TypeOf, FormOf, LaterFormsOf, FewForms, FormsOf}
use Rattle.kts_syntax.specs.Readings.{rest, name_at, first_name, first_number}
use Rattle.kts_syntax.specs.Sizes.{count, trees}
use Rattle.kts_syntax.specs.Tops.{names, first_arguments, begins_with, two_ends, int_type, first_type, first_formula, one_name, family_of, family, bounded, formula_of, formula, form_of, later_form, is_index, is_given, is_choice, is_formula, has_room, roomy, later_forms, spec_name, Ast, forms_of}
use Rattle.kts_syntax.specs.Words.{is_text}
use Rattle.kts_syntax.specs.declared.expr.Expr.{Expr}
use Rattle.kts_syntax.specs.declared.fault.FormKind.TheVariants.{NotAForm, WrongCount, TooMany}
use Rattle.kts_syntax.specs.declared.form.Form.{Form}
use Rattle.kts_syntax.specs.declared.form.Form.TheVariants.{Index, Given, Choose, Formula, Manifest}
use Rattle.kts_syntax.specs.declared.form.Shape.{Shape}
use Rattle.kts_syntax.specs.declared.form.Shape.TheVariants.{Int, Named}
use Rattle.kts_syntax.specs.declared.layout.Role.TheVariants as role
use Rattle.kts_syntax.specs.declared.parts.Part.TheVariants.{Operand}
use Rattle.kts_syntax.specs.declared.word.Word.{Word}
use Rattle.kts_syntax.proofs.GrammarFound.{name_at_if, word_if, first_number_if, words_if, none_after_one, none_after_two, none_after_three}
use Rattle.kts_syntax.proofs.GrammarParts.{expr_found, none_count, formula_count}
use Rattle.kts_syntax.proofs.GrammarRead.{ReadsAs, list_operand, no_atom, word_then, word_count, first_number_then, number_count, words_then, words_count, formula_then}
use Rattle.kts_syntax.proofs.GrammarWords.{name_then}
use Rattle.kts_syntax.proofs.Inversions.{ok_is, both_ok, test_ok}
use Rattle.kts_syntax.proofs.ReadBack.{name_again}
use Rattle.kts_syntax.proofs.WordLemmas.{text_same}

-- ---- arguments and types that are read

arguments_if : (t : Forest) (words : List Word) → first_arguments t ≡ Ok words → ArgumentsOf t words (rest t)
unfolding first_arguments
arguments_if none words q = absurd cc
arguments_if (atom at bytes after) words q = absurd cc
arguments_if (list start end inside after) words q =
    let tested = test_ok (nat_le (count inside) most_arguments) (names inside) (fault WrongCount start) words q in
    let all = words_if inside words tested.1 in
    grammar.arguments all (let n = words_count all in let few = nat_le_yes (count inside) most_arguments tested.0 in omega arith)

begins_if : (word : List ℕ) (t : Forest) → begins_with word t ≡ true → (at : ℕ) × (t ≡ atom at word (rest t))
begins_if word none h = absurd cc
begins_if word (atom at bytes after) h = (at, ap (λ (b : List ℕ). atom at b after) (text_same bytes word h))
begins_if word (list start end inside after) h = absurd cc

int_if : (start end : ℕ) (inside after : Forest) (shape : Shape) → int_type start inside ≡ Ok shape → TypeOf (list start end inside after) shape after
unfolding int_type two_ends
int_if start end inside after shape q =
    let word = test_ok (begins_with (codes "int") inside) _ (fault NotAForm start) shape q in
    let three = test_ok (count inside == 3) (two_ends start (rest inside)) (fault WrongCount start) shape word.1 in
    let low = both_ok (first_number (rest inside)) _ shape three.1 in
    let high = both_ok (first_number (rest (rest inside))) _ shape low.2 in
    let is = begins_if (codes "int") inside word.0 in
    subst (λ (t : Forest). TypeOf (list start end t after) shape after) (sym is.1)
    (subst (λ (s : Shape). TypeOf (list start end (atom is.0 (codes "int") (rest inside)) after) s after) (ok_is (Int low.0 high.0 start) shape high.2)
    (grammar.int (first_number_if (rest inside) low.0 low.1)
    (subst (NumberOf (rest (rest inside)) high.0) (none_after_three inside three.0) (first_number_if (rest (rest inside)) high.0 high.1))))

type_if : (t : Forest) (shape : Shape) → first_type t ≡ Ok shape → TypeOf t shape (rest t)
unfolding first_type
type_if none shape q = absurd cc
type_if (atom at bytes after) shape q =
    let read = both_ok (name_at at bytes) _ shape q in
    let is = name_at_if at bytes read.0 read.1 in
    subst (λ (s : Shape). TypeOf (atom at bytes after) s after) (ap Named is.1 ∙ ok_is (Named read.0) shape read.2) (grammar.named (grammar.WordOf.name is.0))
type_if (list start end inside after) shape q = int_if start end inside after shape q

formula_if : (t : Forest) (e : Expr) → first_formula t ≡ Ok e → FormulaOf t e (rest t)
unfolding first_formula
formula_if none e q = absurd cc
formula_if (atom at bytes after) e q = absurd cc
formula_if (list start end inside after) e q = expr_found inside role.Formula start end after e q

-- ---- forms that are read

name_if : (start : ℕ) (parts : Forest) (word : Word) → one_name start parts ≡ Ok word → WordOf parts word none
unfolding one_name
name_if start parts word q =
    let tested = test_ok (count parts == 1) (first_name parts) (fault WrongCount start) word q in
    subst (WordOf parts word) (none_after_one parts tested.0) (word_if parts word tested.1)

-- a name, arguments and a type
record FamilyOf (t : Forest) (f : Word × List Word × Shape) : Type 0 where
  name : WordOf t f.0 (rest t)
  args : ArgumentsOf (rest t) f.1 (rest (rest t))
  type : TypeOf (rest (rest t)) f.2 none

family_if : (start : ℕ) (parts : Forest) (f : Word × List Word × Shape) → family start parts ≡ Ok f → FamilyOf parts f
unfolding family family_of
family_if start parts f q =
    let tested = test_ok (count parts == 3) (family_of parts) (fault WrongCount start) f q in
    let word = both_ok (first_name parts) _ f tested.1 in
    let args = both_ok (first_arguments (rest parts)) _ f word.2 in
    let type = both_ok (first_type (rest (rest parts))) _ f args.2 in
    subst (FamilyOf parts) (ok_is (word.0, args.0, type.0) f type.2) (record {
      name = word_if parts word.0 word.1;
      args = arguments_if (rest parts) args.0 args.1;
      type = subst (TypeOf (rest (rest parts)) type.0) (none_after_three parts tested.0) (type_if (rest (rest parts)) type.0 type.1);
    })

sized_if : (start end at : ℕ) (parts after : Forest) (form : Form) → formula start parts ≡ Ok form → FormOf (list start end (atom at (codes "formula") parts) after) form after
unfolding formula formula_of bounded
sized_if start end at parts after form q =
    let tested = test_ok (count parts == 2) (formula_of start parts) (fault WrongCount start) form q in
    let word = both_ok (first_name parts) _ form tested.1 in
    let read = both_ok (first_formula (rest parts)) _ form word.2 in
    let small = test_ok (nat_le (trees read.0) most_written_trees) (Ok (Formula word.0 read.0)) (fault TooMany start) form read.2 in
    subst (λ (f : Form). FormOf (list start end (atom at (codes "formula") parts) after) f after) (ok_is (Formula word.0 read.0) form small.1)
    (grammar.formula (word_if parts word.0 word.1) (subst (FormulaOf (rest parts) read.0) (none_after_two parts tested.0) (formula_if (rest parts) read.0 read.1)) (nat_le_yes (trees read.0) most_written_trees small.0))

form_of_if : (start end at : ℕ) (word : List ℕ) (parts after : Forest) (form : Form) → form_of start word parts ≡ Ok form → FormOf (list start end (atom at word parts) after) form after
unfolding form_of
form_of_if start end at word parts after form q =
    by (is_text word (codes "index")) (is_text word (codes "given")) (is_text word (codes "choose")) (is_text word (codes "formula")) (is_text word (codes "manifest")) refl refl refl refl refl q
  where
    of_word : (text : List ℕ) → is_text word text ≡ true → FormOf (list start end (atom at text parts) after) form after → FormOf (list start end (atom at word parts) after) form after
    of_word text h f = subst (λ (w : List ℕ). FormOf (list start end (atom at w parts) after) form after) (sym (text_same word text h)) f

    by : (i g c f m : Bool) → is_text word (codes "index") ≡ i → is_text word (codes "given") ≡ g → is_text word (codes "choose") ≡ c → is_text word (codes "formula") ≡ f → is_text word (codes "manifest") ≡ m
        → (if i then and_then (one_name start parts) (λ name. Ok (Index name))
        else (if g then and_then (family start parts) (λ f. Ok (Given f.0 f.1 f.2))
        else (if c then and_then (family start parts) (λ f. Ok (Choose f.0 f.1 f.2))
        else (if f then formula start parts
        else (if m then and_then (one_name start parts) (λ name. Ok (Manifest name))
        else Err (fault NotAForm start)))))) ≡ Ok form → FormOf (list start end (atom at word parts) after) form after
    by true g c f m i_is g_is c_is f_is m_is q =
        let name = both_ok (one_name start parts) _ form q in
        of_word (codes "index") i_is (subst (λ (f : Form). FormOf (list start end (atom at (codes "index") parts) after) f after) (ok_is (Index name.0) form name.2) (grammar.index (name_if start parts name.0 name.1)))
    by false true c f m i_is g_is c_is f_is m_is q =
        let f = both_ok (family start parts) _ form q in
        let all = family_if start parts f.0 f.1 in
        of_word (codes "given") g_is
        (subst (λ (f : Form). FormOf (list start end (atom at (codes "given") parts) after) f after) (ok_is (Given f.0.0 f.0.1 f.0.2) form f.2) (grammar.given all.name all.args all.type))
    by false false true f m i_is g_is c_is f_is m_is q =
        let f = both_ok (family start parts) _ form q in
        let all = family_if start parts f.0 f.1 in
        of_word (codes "choose") c_is
        (subst (λ (f : Form). FormOf (list start end (atom at (codes "choose") parts) after) f after) (ok_is (Choose f.0.0 f.0.1 f.0.2) form f.2) (grammar.choose all.name all.args all.type))
    by false false false true m i_is g_is c_is f_is m_is q = of_word (codes "formula") f_is (sized_if start end at parts after form q)
    by false false false false true i_is g_is c_is f_is m_is q =
        let name = both_ok (one_name start parts) _ form q in
        of_word (codes "manifest") m_is (subst (λ (f : Form). FormOf (list start end (atom at (codes "manifest") parts) after) f after) (ok_is (Manifest name.0) form name.2) (grammar.manifest (name_if start parts name.0 name.1)))
    by false false false false false i_is g_is c_is f_is m_is q = absurd cc

later_if : (start end : ℕ) (inside after : Forest) (form : Form) → later_form start inside ≡ Ok form → FormOf (list start end inside after) form after
unfolding later_form
later_if start end none after form q = absurd cc
later_if start end (atom at word parts) after form q = form_of_if start end at word parts after form q
later_if start end (list at last inside more) after form q = absurd cc

-- ---- arguments and types of the grammar

arguments_then : {t after : Forest} {words : List Word} → ArgumentsOf t words after → (first_arguments t ≡ Ok words) × (rest t ≡ after)
unfolding first_arguments
arguments_then (grammar.arguments {inside = inside} {words = words} all few) =
    let n = words_count all in
    (rw (yes_nat_le (count inside) most_arguments (omega arith), words_then all) refl, refl)

arguments_count : {t after : Forest} {words : List Word} → ArgumentsOf t words after → count t ≡ suc (count after)
unfolding count
arguments_count (grammar.arguments all few) = refl

type_then : {t after : Forest} {shape : Shape} → TypeOf t shape after → (first_type t ≡ Ok shape) × (rest t ≡ after)
unfolding first_type int_type two_ends count
type_then (grammar.int low high) =
    let one = first_number_then low in
    let two = first_number_then high in
    let counted : suc (count _) ≡ 3 = ap suc (number_count low) ∙ ap (λ (n : ℕ). suc (suc n)) (number_count high) in
    (rw (counted, one.0, one.1, two.0) refl, refl)
type_then (grammar.named (grammar.WordOf.name {at = at} {bytes = bytes} n)) = (rw (name_again at bytes (name_then n)) refl, refl)

pub type_count : {t after : Forest} {shape : Shape} → TypeOf t shape after → count t ≡ suc (count after)
unfolding count
type_count (grammar.int low high) = refl
type_count (grammar.named word) = word_count word

sized_formula_then : {t after : Forest} {e : Expr} → FormulaOf t e after → (first_formula t ≡ Ok e) × (rest t ≡ after)
unfolding first_formula
sized_formula_then {after = after} {e = e} f = by _ (formula_then f)
  where
    by : (t : Forest) → ReadsAs role.Formula t (Operand e) after → (first_formula t ≡ Ok e) × (rest t ≡ after)
    by none h = absurd h
    by (atom at bytes more) h = absurd (let q = h.0 in no_atom at bytes e q)
    by (list start end inside more) h = (list_operand start inside e h.0, h.1)

-- ---- forms of the grammar

one_name_then : (start : ℕ) {t : Forest} {word : Word} → WordOf t word none → one_name start t ≡ Ok word
unfolding one_name
one_name_then start w = let counted = word_count w ∙ ap suc none_count in rw (counted, (word_then w).0) refl

family_then : (start : ℕ) {t more last : Forest} {word : Word} {args : List Word} {shape : Shape} → WordOf t word more → ArgumentsOf more args last → TypeOf last shape none → family start t ≡ Ok (word, args, shape)
unfolding family family_of
family_then start w a t =
    let counted = word_count w ∙ ap suc (arguments_count a) ∙ ap (λ (n : ℕ). suc (suc n)) (type_count t) ∙ ap (λ (n : ℕ). suc (suc (suc n))) none_count in
    let word = word_then w in
    let args = arguments_then a in
    let type = type_then t in
    rw (counted, word.0, word.1, args.0, args.1, type.0) refl

sized_then : (start : ℕ) {t more : Forest} {word : Word} {e : Expr} → WordOf t word more → FormulaOf more e none → trees e ≤ most_written_trees → formula start t ≡ Ok (Formula word e)
unfolding formula formula_of bounded
sized_then start {e = e} w f few =
    let counted = word_count w ∙ ap suc (formula_count f) ∙ ap (λ (n : ℕ). suc (suc n)) none_count in
    let word = word_then w in
    let body = sized_formula_then f in
    rw (counted, word.0, word.1, body.0, yes_nat_le (trees e) most_written_trees few) refl

-- the first tree is read as a form
abbrev LaterReads : Forest → Form → Forest → Type 0
LaterReads none form more = ⊥
LaterReads (atom at bytes rest) form more = ⊥
LaterReads (list start end inside rest) form more = (later_form start inside ≡ Ok form) × (rest ≡ more)

form_then : {t after : Forest} {form : Form} → FormOf t form after → LaterReads t form after
unfolding later_form form_of
form_then (grammar.index {start = start} w) = (rw (one_name_then start w) refl, refl)
form_then (grammar.given {start = start} w a t) = (rw (family_then start w a t) refl, refl)
form_then (grammar.choose {start = start} w a t) = (rw (family_then start w a t) refl, refl)
form_then (grammar.formula {start = start} w f few) = (rw (sized_then start w f few) refl, refl)
form_then (grammar.manifest {start = start} w) = (rw (one_name_then start w) refl, refl)

-- ---- counts of forms

counted_by : (test : Form → Bool) (before : List Form) (form : Form) (forms : List Form) → count_by test (before ++ form ∷ forms) ≡ count_by test before + (cond (test form) 1 0 + count_by test forms)
counted_by test before form forms =
    let first = sum_by-append (λ (x : Form). cond (test x) 1 0) before (form ∷ forms) in
    let second = sum_by-append (λ (x : Form). cond (test x) 1 0) (form ∷ []) forms in
    omega (arith, first, second)

room_then : (before : List Form) (form : Form) (forms : List Form) → FewForms (before ++ form ∷ forms) → has_room before form ≡ true
unfolding has_room
room_then before (Index w) forms few = yes_nat_lt (count_by is_index before) most_indexes (let n = counted_by is_index before (Index w) forms in let h = few.indexes in omega arith)
room_then before (Given w a t) forms few = yes_nat_lt (count_by is_given before) most_givens (let n = counted_by is_given before (Given w a t) forms in let h = few.givens in omega arith)
room_then before (Choose w a t) forms few = yes_nat_lt (count_by is_choice before) most_choices (let n = counted_by is_choice before (Choose w a t) forms in let h = few.choices in omega arith)
room_then before (Formula w e) forms few = yes_nat_lt (count_by is_formula before) most_formulas (let n = counted_by is_formula before (Formula w e) forms in let h = few.formulas in omega arith)
room_then before (Manifest w) forms few = refl

grown : (test : Form → Bool) (before : List Form) (form : Form) (most : ℕ) → count_by test before + cond (test form) 1 0 ≤ most → count_by test (before ++ form ∷ []) ≤ most
grown test before form most h = let n = counted_by test before form [] in omega arith

few_more : (before : List Form) (form : Form) → has_room before form ≡ true → FewForms before → FewForms (before ++ form ∷ [])
unfolding has_room
few_more before (Index w) room few = record {
  indexes = grown is_index before (Index w) most_indexes (let h = nat_lt_yes (count_by is_index before) most_indexes room in omega arith);
  givens = grown is_given before (Index w) most_givens (let h = few.givens in omega arith);
  choices = grown is_choice before (Index w) most_choices (let h = few.choices in omega arith);
  formulas = grown is_formula before (Index w) most_formulas (let h = few.formulas in omega arith);
}
few_more before (Given w a t) room few = record {
  indexes = grown is_index before (Given w a t) most_indexes (let h = few.indexes in omega arith);
  givens = grown is_given before (Given w a t) most_givens (let h = nat_lt_yes (count_by is_given before) most_givens room in omega arith);
  choices = grown is_choice before (Given w a t) most_choices (let h = few.choices in omega arith);
  formulas = grown is_formula before (Given w a t) most_formulas (let h = few.formulas in omega arith);
}
few_more before (Choose w a t) room few = record {
  indexes = grown is_index before (Choose w a t) most_indexes (let h = few.indexes in omega arith);
  givens = grown is_given before (Choose w a t) most_givens (let h = few.givens in omega arith);
  choices = grown is_choice before (Choose w a t) most_choices (let h = nat_lt_yes (count_by is_choice before) most_choices room in omega arith);
  formulas = grown is_formula before (Choose w a t) most_formulas (let h = few.formulas in omega arith);
}
few_more before (Formula w e) room few = record {
  indexes = grown is_index before (Formula w e) most_indexes (let h = few.indexes in omega arith);
  givens = grown is_given before (Formula w e) most_givens (let h = few.givens in omega arith);
  choices = grown is_choice before (Formula w e) most_choices (let h = few.choices in omega arith);
  formulas = grown is_formula before (Formula w e) most_formulas (let h = nat_lt_yes (count_by is_formula before) most_formulas room in omega arith);
}
few_more before (Manifest w) room few = record {
  indexes = grown is_index before (Manifest w) most_indexes (let h = few.indexes in omega arith);
  givens = grown is_given before (Manifest w) most_givens (let h = few.givens in omega arith);
  choices = grown is_choice before (Manifest w) most_choices (let h = few.choices in omega arith);
  formulas = grown is_formula before (Manifest w) most_formulas (let h = few.formulas in omega arith);
}

none_few : FewForms []
none_few = record { indexes = omega arith; givens = omega arith; choices = omega arith; formulas = omega arith }

-- ---- all forms

roomy_if : (before : List Form) (start : ℕ) (form found : Form) → roomy before start form ≡ Ok found → (has_room before form ≡ true) × (form ≡ found)
unfolding roomy
roomy_if before start form found q = let tested = test_ok (has_room before form) (Ok form) (fault TooMany start) found q in (tested.0, ok_is form found tested.1)

-- forms that are read after others are of the grammar, and there are few in all
record AreLater (t : Forest) (before forms : List Form) : Type 0 where
  each : LaterFormsOf t forms
  few : FewForms before → FewForms (before ++ forms)

later_forms_if : (t : Forest) (before forms : List Form) → later_forms before t ≡ Ok forms → AreLater t before forms
unfolding later_forms
later_forms_if none before forms q =
    subst (AreLater none before) (ok_is [] forms q) (record { each = grammar.no_form; few = subst FewForms (sym (append-nil before)) })
later_forms_if (atom at bytes after) before forms q = absurd cc
later_forms_if (list start end inside after) before forms q =
    let first = both_ok (and_then (later_form start inside) (roomy before start)) _ forms q in
    let read = both_ok (later_form start inside) (roomy before start) first.0 first.1 in
    let room = roomy_if before start read.0 first.0 read.2 in
    let others = both_ok (later_forms (before ++ first.0 ∷ []) after) _ forms first.2 in
    let more = later_forms_if after (before ++ first.0 ∷ []) others.0 others.1 in
    subst (AreLater (list start end inside after) before) (ok_is (first.0 ∷ others.0) forms others.2) (record {
      each = grammar.one_form (subst (λ (f : Form). FormOf (list start end inside after) f after) room.1 (later_if start end inside after read.0 read.1)) more.each;
      few = λ few. subst FewForms (append_assoc before (first.0 ∷ []) others.0) (more.few (few_more before first.0 (subst (λ (f : Form). has_room before f ≡ true) room.1 room.0) few));
    })

later_more : (t : Forest) (form : Form) (more : Forest) (before forms : List Form) → LaterReads t form more → has_room before form ≡ true → later_forms (before ++ form ∷ []) more ≡ Ok forms
    → later_forms before t ≡ Ok (form ∷ forms)
unfolding later_forms roomy
later_more none form more before forms first room others = absurd first
later_more (atom at bytes rest) form more before forms first room others = absurd first
later_more (list start end inside rest) form more before forms first room others =
    let same : later_forms (before ++ form ∷ []) rest ≡ Ok forms = ap (later_forms (before ++ form ∷ [])) first.1 ∙ others in
    rw (first.0, room, same) refl

later_forms_then : {t : Forest} {forms : List Form} → LaterFormsOf t forms → (before : List Form) → FewForms (before ++ forms) → later_forms before t ≡ Ok forms
unfolding later_forms
later_forms_then grammar.no_form before few = refl
later_forms_then (grammar.one_form {trees = t} {more = more} {form = form} {forms = forms} first others) before few =
    later_more t form more before forms (form_then first) (room_then before form forms few) (later_forms_then others (before ++ form ∷ []) (subst FewForms (sym (append_assoc before (form ∷ []) forms)) few))

-- ---- the ast

spec_if : (start end : ℕ) (inside after : Forest) (word : Word) (forms : List Form) → spec_name start inside ≡ Ok word → LaterFormsOf after forms → FewForms forms
    → FormsOf (list start end inside after) (record { name = word.name; forms = forms })
unfolding spec_name
spec_if start end inside after word forms q all few =
    let tested = test_ok (begins_with (codes "spec") inside) _ (fault NotAForm start) word q in
    let two = test_ok (count inside == 2) (first_name (rest inside)) (fault WrongCount start) word tested.1 in
    let is = begins_if (codes "spec") inside tested.0 in
    subst (λ (t : Forest). FormsOf (list start end t after) (record { name = word.name; forms = forms })) (sym is.1)
    (grammar.forms {word = word} (subst (WordOf (rest inside) word) (none_after_two inside two.0) (word_if (rest inside) word two.1)) all few)

pub forms_if : (t : Forest) (ast : Ast) → forms_of t ≡ Ok ast → FormsOf t ast
unfolding forms_of
forms_if none ast q = absurd cc
forms_if (atom at bytes after) ast q = absurd cc
forms_if (list start end inside after) ast q =
    let word = both_ok (spec_name start inside) _ ast q in
    let forms = both_ok (later_forms [] after) _ ast word.2 in
    let all = later_forms_if after [] forms.0 forms.1 in
    subst (FormsOf (list start end inside after)) (ok_is (record { name = word.0.name; forms = forms.0 }) ast forms.2) (spec_if start end inside after word.0 forms.0 word.1 all.each (all.few none_few))

spec_then : (start at : ℕ) {t : Forest} {word : Word} → WordOf t word none → spec_name start (atom at (codes "spec") t) ≡ Ok word
unfolding spec_name count
spec_then start at w = let counted = ap suc (word_count w) ∙ ap (λ (n : ℕ). suc (suc n)) none_count in rw (counted, (word_then w).0) refl

pub forms_then : {t : Forest} {ast : Ast} → FormsOf t ast → forms_of t ≡ Ok ast
unfolding forms_of
forms_then (grammar.forms {start = start} {at = at} w all few) = rw (spec_then start at w, later_forms_then all [] few) refl
