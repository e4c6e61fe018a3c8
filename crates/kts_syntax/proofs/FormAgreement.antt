-- Forms are read as the first of the trees at fault says.
use Rattle.std.proofs.Common.{◌≡◌, refl, sym, ◌∙◌, ap, subst, ℕ, ◌+◌, ◌==◌, List, [], ◌∷◌, ◌++◌, length, map, Bool, true, false, not, ◌||◌, if◌then◌else◌, cond, Ok, Err, arith}
use Rattle.std.proofs.lemmas.List.{map-append}
use Rattle.std.specs.Prelude.{codes, nat_le, nat_lt, count_by, fold}
use Rattle.std.proofs.lemmas.Bool.Decides.{nat_tests}
use Rattle.kts_base.specs.Limits.{most_indexes, most_givens, most_choices, most_formulas, most_written_trees}
use Rattle.kts_base.specs.Reads.{and_then}
use Rattle.kts_text.specs.Forest.{Forest, none, atom, list}
use Rattle.kts_syntax.specs.Faults.{fault}
use Rattle.kts_syntax.specs.Faulty.{Faulties, wrong, faulty_name, faulty_arguments, faulty_type, faulty_formula, or_itself, faulty_named, faulty_family, faulty_sized, faulty_form_of, faulty_form, word_in, is_full, faulty_forms, faulty_spec, faulty_trees}
use Rattle.kts_syntax.specs.Readings.{Reading, rest, first_name}
use Rattle.kts_syntax.specs.Sizes.{count, trees}
use Rattle.kts_syntax.specs.Tops.{first_arguments, begins_with, first_type, first_formula, one_name, family_of, family, bounded, formula_of, formula, form_of, later_form, is_index, is_given, is_choice, is_formula, has_room, roomy, later_forms, spec_name, forms_of}
use Rattle.kts_syntax.specs.TreeCounts.{count_in_formula}
use Rattle.kts_syntax.specs.Words.{is_text}
use Rattle.kts_syntax.specs.declared.expr.Expr.{Expr}
use Rattle.kts_syntax.specs.declared.fault.FormKind.TheVariants.{NotAForm, WrongCount, TooMany}
use Rattle.kts_syntax.specs.declared.form.Form.{Form}
use Rattle.kts_syntax.specs.declared.form.Form.TheVariants.{Index, Given, Choose, Formula, Manifest}
use Rattle.kts_syntax.specs.declared.form.Shape.{Shape}
use Rattle.kts_syntax.specs.declared.layout.Role.TheVariants as role
use Rattle.kts_syntax.specs.declared.word.Word.{Word}
use Rattle.kts_syntax.proofs.Agreement.{Agrees, IsThere, agree_then, agree_map, agree_if, agree_when, first_name_agrees, there_one, less_one, arguments_agree, type_agrees, expr_agrees}
use Rattle.kts_syntax.proofs.CountLemmas.{formula_counted}
use Rattle.kts_syntax.proofs.Inversions.{ok_is, both_ok, test_ok}
use Rattle.kts_syntax.proofs.Nesting.{roomy_is}
use Rattle.kts_syntax.proofs.WordLemmas.{text_same}

-- a reading, and then a test of its value
agree_then_itself : {A B : Type 0} (r : Reading A) (g : A → Reading B) (fs own : Faulties) → Agrees r fs → ((a : A) → r ≡ Ok a → Agrees (g a) own) → Agrees (and_then r g) (or_itself fs own)
agree_then_itself (Ok a) g fs own p q = subst (λ (l : Faulties). Agrees (g a) (or_itself l own)) (sym p) (q a refl)
agree_then_itself (Err f) g fs own p q = (p.0, p.1, ap (λ (l : Faulties). or_itself l own) p.2)

formula_agrees : (t : Forest) → IsThere t → Agrees (first_formula t) (faulty_formula t)
unfolding first_formula faulty_formula
formula_agrees none there = absurd there
formula_agrees (atom at bytes after) there = ((at + length bytes), [], refl)
formula_agrees (list start end inside after) there = expr_agrees inside role.Formula start end

named_agrees : (start end : ℕ) (parts : Forest) → Agrees (one_name start parts) (faulty_named start end parts)
unfolding one_name faulty_named
named_agrees start end parts = agree_when (count parts == 1) (first_name parts) (faulty_name parts) WrongCount start end (λ h. first_name_agrees parts (there_one parts 0 h))

family_agrees : (start end : ℕ) (parts : Forest) → Agrees (family start parts) (faulty_family start end parts)
unfolding family family_of faulty_family
family_agrees start end parts =
    agree_when (count parts == 3) _ (faulty_name parts ++ (faulty_arguments (rest parts) ++ faulty_type (rest (rest parts)))) WrongCount start end (λ three.
    let two = less_one parts 2 three in
    agree_then (first_name parts) _ (faulty_name parts) (faulty_arguments (rest parts) ++ faulty_type (rest (rest parts))) (first_name_agrees parts (there_one parts 2 three)) (λ word is.
    agree_then (first_arguments (rest parts)) _ (faulty_arguments (rest parts)) (faulty_type (rest (rest parts))) (arguments_agree (rest parts) (there_one (rest parts) 1 two)) (λ args is.
    agree_map (first_type (rest (rest parts))) _ (faulty_type (rest (rest parts))) (type_agrees (rest (rest parts)) (there_one (rest (rest parts)) 0 (less_one (rest parts) 1 two))))))

-- two readings, whose values are tested
agree_both : {A B C : Type 0} (r : Reading A) (s : Reading B) (g : A → B → Reading C) (fs gs own : Faulties) → Agrees r fs → Agrees s gs → ((a : A) (b : B) → s ≡ Ok b → Agrees (g a b) own)
    → Agrees (and_then r (λ a. and_then s (g a))) (or_itself (fs ++ gs) own)
agree_both (Ok a) s g fs gs own p q more = subst (λ (l : Faulties). Agrees (and_then s (g a)) (or_itself (l ++ gs) own)) (sym p) (agree_then_itself s (g a) gs own q (more a))
agree_both (Err f) s g fs gs own p q more = (p.0, p.1 ++ gs, ap (λ (l : Faulties). or_itself (l ++ gs) own) p.2)

size_agrees : (start end : ℕ) (word : Word) (e : Expr) (t : Forest) → first_formula t ≡ Ok e → Agrees (bounded start word e) (if nat_lt most_written_trees (count_in_formula t) then wrong TooMany start end else [])
unfolding bounded
size_agrees start end word e t is =
    by (nat_le (trees e) most_written_trees) (nat_lt most_written_trees (count_in_formula t)) (ap (nat_lt most_written_trees) (formula_counted t e is) ∙ other (trees e))
  where
    other : (n : ℕ) → nat_lt most_written_trees n ≡ not (nat_le n most_written_trees)
    other n = grind (arith, nat_tests)

    by : (a b : Bool) → b ≡ not a → Agrees (if a then Ok (Formula word e) else Err (fault TooMany start)) (if b then wrong TooMany start end else [])
    by true true h = absurd cc
    by true false h = refl
    by false true h = (end, [], refl)
    by false false h = absurd cc

sized_agrees : (start end : ℕ) (parts : Forest) → Agrees (formula start parts) (faulty_sized start end parts)
unfolding formula formula_of faulty_sized
sized_agrees start end parts =
    let own = if nat_lt most_written_trees (count_in_formula (rest parts)) then wrong TooMany start end else [] in
    agree_when (count parts == 2) _ (or_itself (faulty_name parts ++ faulty_formula (rest parts)) own) WrongCount start end (λ two.
    agree_both (first_name parts) (first_formula (rest parts)) (λ word expr. bounded start word expr) (faulty_name parts) (faulty_formula (rest parts)) own
    (first_name_agrees parts (there_one parts 1 two)) (formula_agrees (rest parts) (there_one (rest parts) 0 (less_one parts 1 two)))
    (λ word e is. size_agrees start end word e (rest parts) is))

form_of_agrees : (start end : ℕ) (word : List ℕ) (parts : Forest) → Agrees (form_of start word parts) (faulty_form_of start end word parts)
unfolding form_of faulty_form_of
form_of_agrees start end word parts =
    by (is_text word (codes "index")) (is_text word (codes "given")) (is_text word (codes "choose")) (is_text word (codes "formula")) (is_text word (codes "manifest"))
  where
    by : (i g c f m : Bool) → Agrees (if i then and_then (one_name start parts) (λ name. Ok (Index name))
        else (if g then and_then (family start parts) (λ f. Ok (Given f.0 f.1 f.2))
        else (if c then and_then (family start parts) (λ f. Ok (Choose f.0 f.1 f.2))
        else (if f then formula start parts
        else (if m then and_then (one_name start parts) (λ name. Ok (Manifest name))
        else Err (fault NotAForm start))))))
        (if i then faulty_named start end parts else (if g then faulty_family start end parts else (if c then faulty_family start end parts else (if f then faulty_sized start end parts
        else (if m then faulty_named start end parts else wrong NotAForm start end)))))
    by true g c f m = agree_map (one_name start parts) _ _ (named_agrees start end parts)
    by false true c f m = agree_map (family start parts) _ _ (family_agrees start end parts)
    by false false true f m = agree_map (family start parts) _ _ (family_agrees start end parts)
    by false false false true m = sized_agrees start end parts
    by false false false false true = agree_map (one_name start parts) _ _ (named_agrees start end parts)
    by false false false false false = (end, [], refl)

form_agrees : (start end : ℕ) (inside : Forest) → Agrees (later_form start inside) (faulty_form start end inside)
unfolding later_form faulty_form
form_agrees start end none = (end, [], refl)
form_agrees start end (atom at word parts) = form_of_agrees start end word parts
form_agrees start end (list at last inside after) = (end, [], refl)

-- ---- room

abbrev word_of_form : Form → List ℕ
word_of_form (Index word) = codes "index"
word_of_form (Given word args shape) = codes "given"
word_of_form (Choose word args shape) = codes "choose"
word_of_form (Formula word expr) = codes "formula"
word_of_form (Manifest word) = codes "manifest"

read_word : (start : ℕ) (word : List ℕ) (parts : Forest) (form : Form) → form_of start word parts ≡ Ok form → word_of_form form ≡ word
unfolding form_of formula formula_of bounded
read_word start word parts form q =
    by (is_text word (codes "index")) (is_text word (codes "given")) (is_text word (codes "choose")) (is_text word (codes "formula")) (is_text word (codes "manifest")) refl refl refl refl refl q
  where
    begins : (text : List ℕ) → is_text word text ≡ true → text ≡ word
    begins text h = sym (text_same word text h)

    named : (make : Word → Form) (text : List ℕ) → ((w : Word) → word_of_form (make w) ≡ text) → is_text word text ≡ true → and_then (one_name start parts) (λ name. Ok (make name)) ≡ Ok form → word_of_form form ≡ word
    named make text is h q = let name = both_ok (one_name start parts) _ form q in ap word_of_form (sym (ok_is (make name.0) form name.2)) ∙ is name.0 ∙ begins text h

    listed : (make : Word → List Word → Shape → Form) (text : List ℕ) → ((w : Word) (args : List Word) (shape : Shape) → word_of_form (make w args shape) ≡ text) → is_text word text ≡ true
        → and_then (family start parts) (λ f. Ok (make f.0 f.1 f.2)) ≡ Ok form → word_of_form form ≡ word
    listed make text is h q = let f = both_ok (family start parts) _ form q in ap word_of_form (sym (ok_is (make f.0.0 f.0.1 f.0.2) form f.2)) ∙ is f.0.0 f.0.1 f.0.2 ∙ begins text h

    sized : is_text word (codes "formula") ≡ true → formula start parts ≡ Ok form → word_of_form form ≡ word
    sized h q =
        let counted = test_ok (count parts == 2) (formula_of start parts) (fault WrongCount start) form q in
        let name = both_ok (first_name parts) _ form counted.1 in
        let read = both_ok (first_formula (rest parts)) _ form name.2 in
        let tested = test_ok (nat_le (trees read.0) most_written_trees) (Ok (Formula name.0 read.0)) (fault TooMany start) form read.2 in
        ap word_of_form (sym (ok_is (Formula name.0 read.0) form tested.1)) ∙ begins (codes "formula") h

    by : (i g c f m : Bool) → is_text word (codes "index") ≡ i → is_text word (codes "given") ≡ g → is_text word (codes "choose") ≡ c → is_text word (codes "formula") ≡ f → is_text word (codes "manifest") ≡ m
        → (if i then and_then (one_name start parts) (λ name. Ok (Index name))
        else (if g then and_then (family start parts) (λ f. Ok (Given f.0 f.1 f.2))
        else (if c then and_then (family start parts) (λ f. Ok (Choose f.0 f.1 f.2))
        else (if f then formula start parts
        else (if m then and_then (one_name start parts) (λ name. Ok (Manifest name))
        else Err (fault NotAForm start)))))) ≡ Ok form → word_of_form form ≡ word
    by true g c f m i_is g_is c_is f_is m_is q = named Index (codes "index") (λ w. refl) i_is q
    by false true c f m i_is g_is c_is f_is m_is q = listed Given (codes "given") (λ w a s. refl) g_is q
    by false false true f m i_is g_is c_is f_is m_is q = listed Choose (codes "choose") (λ w a s. refl) c_is q
    by false false false true m i_is g_is c_is f_is m_is q = sized f_is q
    by false false false false true i_is g_is c_is f_is m_is q = named Manifest (codes "manifest") (λ w. refl) m_is q
    by false false false false false i_is g_is c_is f_is m_is q = absurd cc

word_read : (start : ℕ) (inside : Forest) (form : Form) → later_form start inside ≡ Ok form → word_of_form form ≡ word_in inside
unfolding later_form
word_read start none form q = absurd cc
word_read start (atom at word parts) form q = read_word start word parts form q
word_read start (list at last inside after) form q = absurd cc

module _ (word : List ℕ) (test : Form → Bool) (same : (form : Form) → is_text word (word_of_form form) ≡ test form) where
  counted_on : (n : ℕ) (forms : List Form) → fold (λ (a : ℕ) (x : List ℕ). a + cond (is_text word x) 1 0) n (map word_of_form forms) ≡ fold (λ (a : ℕ) (x : Form). a + cond (test x) 1 0) n forms
  counted_on n [] = refl
  counted_on n (form ∷ forms) =
      ap (λ (b : Bool). fold (λ (a : ℕ) (x : List ℕ). a + cond (is_text word x) 1 0) (n + cond b 1 0) (map word_of_form forms)) (same form) ∙ counted_on (n + cond (test form) 1 0) forms

  counted_words : (forms : List Form) → count_by (is_text word) (map word_of_form forms) ≡ count_by test forms
  counted_words forms = counted_on 0 forms

index_word : (form : Form) → is_text (codes "index") (word_of_form form) ≡ is_index form
index_word (Index w) = refl
index_word (Given w a s) = refl
index_word (Choose w a s) = refl
index_word (Formula w e) = refl
index_word (Manifest w) = refl

given_word : (form : Form) → is_text (codes "given") (word_of_form form) ≡ is_given form
given_word (Index w) = refl
given_word (Given w a s) = refl
given_word (Choose w a s) = refl
given_word (Formula w e) = refl
given_word (Manifest w) = refl

choice_word : (form : Form) → is_text (codes "choose") (word_of_form form) ≡ is_choice form
choice_word (Index w) = refl
choice_word (Given w a s) = refl
choice_word (Choose w a s) = refl
choice_word (Formula w e) = refl
choice_word (Manifest w) = refl

formula_word : (form : Form) → is_text (codes "formula") (word_of_form form) ≡ is_formula form
formula_word (Index w) = refl
formula_word (Given w a s) = refl
formula_word (Choose w a s) = refl
formula_word (Formula w e) = refl
formula_word (Manifest w) = refl

or_nothing : (b : Bool) → (b || false) ≡ b
or_nothing true = refl
or_nothing false = refl

room_left : (n m : ℕ) → nat_lt n m ≡ not (nat_le m n)
room_left n m = grind (arith, nat_tests)

-- there is room for a form exactly where its word isn't full
room_is : (before : List Form) (form : Form) → has_room before form ≡ not (is_full (map word_of_form before) (word_of_form form))
unfolding has_room is_full
room_is before (Index w) =
    room_left (count_by is_index before) most_indexes ∙ ap (λ (n : ℕ). not (nat_le most_indexes n)) (sym (counted_words (codes "index") is_index index_word before)) ∙ ap not (sym (or_nothing (nat_le most_indexes (count_by (is_text (codes "index")) (map word_of_form before)))))
room_is before (Given w a s) =
    room_left (count_by is_given before) most_givens ∙ ap (λ (n : ℕ). not (nat_le most_givens n)) (sym (counted_words (codes "given") is_given given_word before)) ∙ ap not (sym (or_nothing (nat_le most_givens (count_by (is_text (codes "given")) (map word_of_form before)))))
room_is before (Choose w a s) =
    room_left (count_by is_choice before) most_choices ∙ ap (λ (n : ℕ). not (nat_le most_choices n)) (sym (counted_words (codes "choose") is_choice choice_word before)) ∙ ap not (sym (or_nothing (nat_le most_choices (count_by (is_text (codes "choose")) (map word_of_form before)))))
room_is before (Formula w e) =
    room_left (count_by is_formula before) most_formulas ∙ ap (λ (n : ℕ). not (nat_le most_formulas n)) (sym (counted_words (codes "formula") is_formula formula_word before)) ∙ ap not (sym (or_nothing (nat_le most_formulas (count_by (is_text (codes "formula")) (map word_of_form before)))))
room_is before (Manifest w) = refl

room_agrees : (before : List Form) (words : List (List ℕ)) (start end : ℕ) (inside : Forest) (form : Form) → words ≡ map word_of_form before → word_of_form form ≡ word_in inside
    → Agrees (roomy before start form) (if is_full words (word_in inside) then wrong TooMany start end else [])
unfolding roomy
room_agrees before words start end inside form same word =
    by (has_room before form) (is_full words (word_in inside)) (room_is before form ∙ (λ i. not (is_full (sym same i) (word i))))
  where
    by : (a b : Bool) → a ≡ not b → Agrees (if a then Ok form else Err (fault TooMany start)) (if b then wrong TooMany start end else [])
    by true true h = absurd cc
    by true false h = refl
    by false true h = (end, [], refl)
    by false false h = absurd cc

forms_agree : (t : Forest) (before : List Form) (words : List (List ℕ)) → words ≡ map word_of_form before → Agrees (later_forms before t) (faulty_forms words t)
unfolding later_forms faulty_forms
forms_agree none before words same = refl
forms_agree (atom at bytes after) before words same = (at + length bytes, faulty_forms words after, refl)
forms_agree (list start end inside after) before words same =
    let own = if is_full words (word_in inside) then wrong TooMany start end else [] in
    agree_then (and_then (later_form start inside) (roomy before start)) _ (or_itself (faulty_form start end inside) own) (faulty_forms (words ++ word_in inside ∷ []) after)
    (agree_then_itself (later_form start inside) (roomy before start) (faulty_form start end inside) own (form_agrees start end inside)
    (λ form is. room_agrees before words start end inside form same (word_read start inside form is)))
    (λ form is. agree_map (later_forms (before ++ form ∷ []) after) (λ forms. form ∷ forms) (faulty_forms (words ++ word_in inside ∷ []) after)
    (forms_agree after (before ++ form ∷ []) (words ++ word_in inside ∷ [])
    ((λ i. same i ++ sym (word_read start inside form (roomy_is before start (later_form start inside) form is)) i ∷ []) ∙ sym (map-append word_of_form before (form ∷ [])))))

spec_agrees : (start end : ℕ) (inside : Forest) → Agrees (spec_name start inside) (faulty_spec start end inside)
unfolding spec_name faulty_spec
spec_agrees start end inside =
    agree_if (begins_with (codes "spec") inside) _ _ NotAForm start end
    (agree_when (count inside == 2) (first_name (rest inside)) (faulty_name (rest inside)) WrongCount start end (λ two. first_name_agrees (rest inside) (there_one (rest inside) 0 (less_one inside 1 two))))

pub trees_agree : (t : Forest) → IsThere t → Agrees (forms_of t) (faulty_trees t)
unfolding forms_of faulty_trees
trees_agree none there = absurd there
trees_agree (atom at bytes after) there = (at + length bytes, faulty_forms [] after, refl)
trees_agree (list start end inside after) there =
    agree_then (spec_name start inside) _ (faulty_spec start end inside) (faulty_forms [] after) (spec_agrees start end inside)
    (λ word is. agree_map (later_forms [] after) _ (faulty_forms [] after) (forms_agree after [] [] refl))
