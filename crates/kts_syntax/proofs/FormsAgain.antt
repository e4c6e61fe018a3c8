-- The trees of the text of forms are read as those forms.
use Rattle.std.proofs.Common.{◌≡◌, refl, sym, ◌∙◌, ap, subst, ℕ, suc, ◌+◌, ℤ, List, [], ◌∷◌, ◌++◌, length, map, Bool, true, cond, Ok, Err}
use Rattle.std.proofs.lemmas.List.{map-append}
use Rattle.std.specs.Prelude.{codes, nat_le, nat_lt, count_by, fold}
use Rattle.std.specs.Fmt.{signed_decimal}
use Rattle.std.specs.List.{list_all}
use Rattle.std.proofs.lemmas.Bool.{and_parts}
use Rattle.kts_base.specs.Reads.{and_then}
use Rattle.kts_text.specs.Forest.{Forest, none, atom}
use Rattle.kts_text.specs.Grammar.{Text, nothing, white, letters, spelled, forest}
use Rattle.kts_syntax.specs.Faults.{fault}
use Rattle.kts_syntax.specs.declared.fault.FormKind.TheVariants.{NotAForm}
use Rattle.kts_syntax.specs.Fitting.{is_named, is_small, shape_fits, family_fits, form_fits, forms_fit, ast_fits}
use Rattle.kts_syntax.specs.Places.{word_aside, expr_aside, aside_step, shape_aside, form_aside, aside}
use Rattle.kts_syntax.specs.Readings.{Reading, rest, number_at, first_name, first_number, atom_part, list_part, expr}
use Rattle.kts_syntax.specs.Sizes.{count, trees, total, size_step}
use Rattle.kts_syntax.specs.Tops.{Ast, names, first_arguments, two_ends, int_type, first_type, first_formula, one_name, family_of, family, bounded, formula_of, formula, form_of, later_form, is_index, is_given, is_choice, is_formula, has_room, roomy, later_forms, spec_name, forms_of}
use Rattle.kts_syntax.specs.Words.{is_word}
use Rattle.kts_syntax.specs.declared.expr.Expr.{Expr, roll-Expr}
use Rattle.kts_syntax.specs.declared.expr.Expr.TheOpen.{Expr-F}
use Rattle.kts_syntax.specs.declared.expr.Expr.TheFolds.{fold-roll-Expr, ind-Expr}
use Rattle.kts_syntax.specs.declared.form.Form.{Form}
use Rattle.kts_syntax.specs.declared.form.Form.TheVariants.{Index, Given, Choose, Formula, Manifest}
use Rattle.kts_syntax.specs.declared.form.Shape.{Shape}
use Rattle.kts_syntax.specs.declared.form.Shape.TheVariants.{Int, Named}
use Rattle.kts_syntax.specs.declared.layout.Role.TheVariants as role
use Rattle.kts_syntax.specs.declared.parts.Part.TheVariants.{Operand}
use Rattle.kts_syntax.specs.declared.word.Word.{Word}
use Rattle.kts_syntax.proofs.Inversions.{ok_is, both_ok}
use Rattle.kts_syntax.proofs.ReadBack.{expr_again, name_again}
use Rattle.kts_syntax.proofs.TopsBack.{name_piece, args_piece, shape_piece, form_piece, lines, file, family_facts, formula_facts, forms_facts}
use Rattle.kts_syntax.proofs.WordLemmas.{number_of-signed}
use Rattle.kts_syntax.proofs.Written.{Piece, leaf, branch, put, each, headed, count-each, rest-each, place_after, piece_part, expr_piece}

-- ---- expressions, places aside

trees-roll : (x : Expr-F Expr) → trees (roll-Expr x) ≡ suc (total (map trees x.parts))
unfolding trees
trees-roll x = fold-roll-Expr ℕ size_step x

aside-roll : (x : Expr-F Expr) → trees (expr_aside (roll-Expr x)) ≡ suc (total (map trees (map expr_aside x.parts)))
unfolding expr_aside
aside-roll x = ap trees (fold-roll-Expr Expr aside_step x) ∙ trees-roll _

abbrev SameTrees : Expr → Type 0
SameTrees e = trees (expr_aside e) ≡ trees e

all_same : (ps : List ((e : Expr) × SameTrees e)) → total (map trees (map expr_aside (map (λ p. p.0) ps))) ≡ total (map trees (map (λ p. p.0) ps))
all_same [] = refl
all_same (p ∷ ps) = (λ i. p.1 i + all_same ps i)

trees-aside : (e : Expr) → trees (expr_aside e) ≡ trees e
trees-aside = ind-Expr SameTrees (λ x y is. subst (λ z. SameTrees (roll-Expr z)) is (step y))
  where
    step : (y : Expr-F ((e : Expr) × SameTrees e)) → SameTrees (roll-Expr (record { at = y.at; head = y.head; binders = y.binders; parts = map (λ p. p.0) y.parts }))
    step y = aside-roll _ ∙ ap suc (all_same y.parts) ∙ sym (trees-roll _)

-- ---- names and types

first_name_again : (at : ℕ) (bytes : List ℕ) (after : Forest) → is_word bytes ≡ true → first_name (atom at bytes after) ≡ Ok (record { name = bytes; at = at })
unfolding first_name
first_name_again at bytes after named = name_again at bytes named

-- words that are read as these, places aside
record NamesAgain (t : Forest) (words : List Word) : Type 0 where
  read : List Word
  is : names t ≡ Ok read
  same : map word_aside read ≡ map word_aside words

names_again : (words : List Word) (at : ℕ) → list_all is_named words ≡ true → NamesAgain (forest at (each (map name_piece words))) words
unfolding names
names_again [] at h = record { read = []; is = refl; same = refl }
names_again (word ∷ words) at h =
    let both = and_parts (is_named word) (list_all is_named words) h in
    let more = names_again words (place_after at (name_piece word)) both.1 in
    record {
      read = record { name = word.name; at = at + 1 } ∷ more.read;
      is = rw (name_again (at + 1) word.name both.0, more.is) refl;
      same = ap (λ l. word_aside word ∷ l) more.same;
    }

record ArgumentsAgain (t : Forest) (words : List Word) : Type 0 where
  read : List Word
  is : first_arguments t ≡ Ok read
  same : map word_aside read ≡ map word_aside words

many_names : (words : List Word) → length (map name_piece words) ≡ length words
many_names [] = refl
many_names (word ∷ words) = ap suc (many_names words)

arguments_again : (words : List Word) (at : ℕ) (after : Text) → list_all is_named words ≡ true → nat_le (length words) 2 ≡ true → ArgumentsAgain (forest at (put (args_piece words) after)) words
unfolding first_arguments names count
arguments_again [] at after h few = record { read = []; is = refl; same = refl }
arguments_again (word ∷ words) at after h few =
    let both = and_parts (is_named word) (list_all is_named words) h in
    let place = at + 1 + length word.name in
    let more = names_again words place both.1 in
    let counted : nat_le (suc (count (forest place (each (map name_piece words))))) 2 ≡ true = ap (λ (n : ℕ). nat_le (suc n) 2) (count-each (map name_piece words) place ∙ many_names words) ∙ few in
    record {
      read = record { name = word.name; at = at + 1 } ∷ more.read;
      is = rw (counted, name_again (at + 1) word.name both.0, more.is) refl;
      same = ap (λ l. word_aside word ∷ l) more.same;
    }

first_number_again : (at : ℕ) (z : ℤ) (after : Forest) → is_small z ≡ true → first_number (atom at (signed_decimal z) after) ≡ Ok z
unfolding first_number number_at
first_number_again at z after small = rw (number_of-signed z small) refl

pub record TypeAgain (t : Forest) (shape : Shape) : Type 0 where
  read : Shape
  is : first_type t ≡ Ok read
  same : shape_aside read ≡ shape_aside shape

pub type_again : (shape : Shape) (at : ℕ) (after : Text) → shape_fits shape ≡ true → TypeAgain (forest at (put (shape_piece shape) after)) shape
unfolding first_type int_type two_ends count
type_again (Named word) at after h = record { read = Named (record { name = word.name; at = at }); is = rw (name_again at word.name h) refl; same = refl }
type_again (Int low high place) at after h =
    let both = and_parts (is_small low) (is_small high) h in
    record {
      read = Int low high at;
      is = rw (first_number_again _ low _ both.0, first_number_again _ high _ both.1) refl;
      same = refl;
    }

-- ---- forms

-- a piece as a form after the first
abbrev piece_form : ℕ → Piece → Reading Form
piece_form at (leaf bytes) = Err (fault NotAForm at)
piece_form at (branch inside) = later_form at (forest (at + 1) inside)

record FormAgain (at : ℕ) (form : Form) : Type 0 where
  read : Form
  is : piece_form at (form_piece form) ≡ Ok read
  same : form_aside read ≡ form_aside form

one_name_again : (start place : ℕ) (name : List ℕ) → is_word name ≡ true → one_name start (forest place (each (leaf name ∷ []))) ≡ Ok (record { name = name; at = place + 1 })
unfolding one_name count
one_name_again start place name named = first_name_again (place + 1) name none named

record FamilyAgain (start : ℕ) (t : Forest) (word : Word) (args : List Word) (shape : Shape) : Type 0 where
  read_word : Word
  read_args : List Word
  read_shape : Shape
  is : family start t ≡ Ok (read_word, read_args, read_shape)
  same_word : word_aside read_word ≡ word_aside word
  same_args : map word_aside read_args ≡ map word_aside args
  same_shape : shape_aside read_shape ≡ shape_aside shape

family_by : (start : ℕ) (t : Forest) (word : Word) (args : List Word) (shape : Shape) → count t ≡ 3 → first_name t ≡ Ok word → first_arguments (rest t) ≡ Ok args → first_type (rest (rest t)) ≡ Ok shape
    → family start t ≡ Ok (word, args, shape)
unfolding family family_of
family_by start t word args shape three a b c = rw (three, a, b, c) refl

family_again : (start place : ℕ) (word : Word) (args : List Word) (shape : Shape) → family_fits word args shape ≡ true
    → FamilyAgain start (forest place (each (leaf word.name ∷ args_piece args ∷ shape_piece shape ∷ []))) word args shape
family_again start place word args shape h =
    let facts = family_facts word args shape h in
    let second = place_after place (leaf word.name) in
    let third = place_after second (args_piece args) in
    let named = arguments_again args (second + 1) (each (shape_piece shape ∷ [])) facts.names facts.few in
    let typed = type_again shape (third + 1) nothing facts.typed in
    record {
      read_word = record { name = word.name; at = place + 1 };
      read_args = named.read;
      read_shape = typed.read;
      is = family_by start (forest place (each (leaf word.name ∷ args_piece args ∷ shape_piece shape ∷ []))) _ named.read typed.read
          (count-each (leaf word.name ∷ args_piece args ∷ shape_piece shape ∷ []) place) (first_name_again (place + 1) word.name _ facts.named) named.is
          (ap first_type (rest-each (args_piece args) (shape_piece shape ∷ []) second) ∙ typed.is);
      same_word = refl;
      same_args = named.same;
      same_shape = typed.same;
    }

formula_piece_again : (at : ℕ) (p : Piece) (after : Text) (e : Expr) → piece_part role.Formula at p ≡ Ok (Operand e) → first_formula (forest at (put p after)) ≡ Ok e
unfolding first_formula atom_part list_part
formula_piece_again at (leaf bytes) after e q = absurd cc
formula_piece_again at (branch inside) after e q =
    let read = both_ok (expr role.Formula at (forest (at + 1) inside)) _ (Operand e) q in
    read.1 ∙ ap Ok (operand_is read.0 e (ok_is (Operand read.0) (Operand e) read.2))
  where
    operand_is : (x y : Expr) → Operand x ≡ Operand y → x ≡ y
    operand_is x y e = cc

formula_by : (start : ℕ) (t : Forest) (word : Word) (e : Expr) → count t ≡ 2 → first_name t ≡ Ok word → first_formula (rest t) ≡ Ok e → nat_le (trees e) 1000 ≡ true → formula start t ≡ Ok (Formula word e)
unfolding formula formula_of bounded
formula_by start t word e two a b few = rw (two, a, b, few) refl

same_trees : (e f : Expr) → expr_aside e ≡ expr_aside f → trees e ≡ trees f
same_trees e f same = sym (trees-aside e) ∙ ap trees same ∙ trees-aside f

form_again : (form : Form) (at : ℕ) → form_fits form ≡ true → FormAgain at form
unfolding form_piece form_fits form_aside later_form form_of
form_again (Index word) at h =
    record { read = Index _; is = ap (λ (r : Reading Word). and_then r (λ name. Ok (Index name))) (one_name_again at _ word.name h); same = refl }
form_again (Manifest word) at h =
    record { read = Manifest _; is = ap (λ (r : Reading Word). and_then r (λ name. Ok (Manifest name))) (one_name_again at _ word.name h); same = refl }
form_again (Given word args shape) at h =
    let again = family_again at _ word args shape h in
    record {
      read = Given again.read_word again.read_args again.read_shape;
      is = ap (λ (r : Reading (Word × List Word × Shape)). and_then r (λ f. Ok (Given f.0 f.1 f.2))) again.is;
      same = (λ i. Given (again.same_word i) (again.same_args i) (again.same_shape i));
    }
form_again (Choose word args shape) at h =
    let again = family_again at _ word args shape h in
    record {
      read = Choose again.read_word again.read_args again.read_shape;
      is = ap (λ (r : Reading (Word × List Word × Shape)). and_then r (λ f. Ok (Choose f.0 f.1 f.2))) again.is;
      same = (λ i. Choose (again.same_word i) (again.same_args i) (again.same_shape i));
    }
form_again (Formula word e) at h =
    let facts = formula_facts word e h in
    let place = at + 1 + length (codes "formula") in
    let second = place_after place (leaf word.name) in
    let again = expr_again e role.Formula (second + 1) facts.fit in
    record {
      read = Formula (record { name = word.name; at = place + 1 }) again.read;
      is = formula_by at (forest place (each (leaf word.name ∷ expr_piece e ∷ []))) _ again.read (count-each (leaf word.name ∷ expr_piece e ∷ []) place) (first_name_again (place + 1) word.name _ facts.named)
          (formula_piece_again (second + 1) (expr_piece e) nothing again.read again.is) (ap (λ (n : ℕ). nat_le n 1000) (same_trees again.read e again.same) ∙ facts.small);
      same = (λ i. Formula (word_aside word) (again.same i));
    }

-- ---- room for forms

module _ (test : Form → Bool) (same : (form : Form) → test (form_aside form) ≡ test form) where
  abbrev one_more : ℕ → Form → ℕ
  one_more n form = n + cond (test form) 1 0

  counted_on : (n : ℕ) (forms : List Form) → fold one_more n (map form_aside forms) ≡ fold one_more n forms
  counted_on n [] = refl
  counted_on n (form ∷ forms) = ap (λ (b : Bool). fold one_more (n + cond b 1 0) (map form_aside forms)) (same form) ∙ counted_on (one_more n form) forms

  counted_aside : (forms : List Form) → count_by test (map form_aside forms) ≡ count_by test forms
  counted_aside forms = counted_on 0 forms

given_same : (form : Form) → is_given (form_aside form) ≡ is_given form
unfolding form_aside
given_same (Given word args shape) = refl
given_same _ = refl

choice_same : (form : Form) → is_choice (form_aside form) ≡ is_choice form
unfolding form_aside
choice_same (Choose word args shape) = refl
choice_same _ = refl

formula_same : (form : Form) → is_formula (form_aside form) ≡ is_formula form
unfolding form_aside
formula_same (Formula word e) = refl
formula_same _ = refl

index_same : (form : Form) → is_index (form_aside form) ≡ is_index form
unfolding form_aside
index_same (Index word) = refl
index_same _ = refl

room_aside : (before : List Form) (form : Form) → has_room (map form_aside before) (form_aside form) ≡ has_room before form
unfolding has_room form_aside
room_aside before (Index word) = ap (λ (n : ℕ). nat_lt n 8) (counted_aside is_index index_same before)
room_aside before (Given word args shape) = ap (λ (n : ℕ). nat_lt n 32) (counted_aside is_given given_same before)
room_aside before (Choose word args shape) = ap (λ (n : ℕ). nat_lt n 16) (counted_aside is_choice choice_same before)
room_aside before (Formula word e) = ap (λ (n : ℕ). nat_lt n 64) (counted_aside is_formula formula_same before)
room_aside before (Manifest word) = refl

same_room : (before others : List Form) (form f : Form) → map form_aside before ≡ map form_aside others → form_aside form ≡ form_aside f → has_room before form ≡ has_room others f
same_room before others form f same is = sym (room_aside before form) ∙ (λ i. has_room (same i) (is i)) ∙ room_aside others f

-- ---- the whole

-- forms that are read as these, places aside
record ManyAgain (before : List Form) (t : Forest) (forms : List Form) : Type 0 where
  read : List Form
  is : later_forms before t ≡ Ok read
  same : map form_aside read ≡ map form_aside forms

abbrev place_of : ℕ → Piece → ℕ
place_of at (leaf bytes) = at + length bytes
place_of at (branch inside) = at + length (spelled inside) + 2

form_step : (p : Piece) (at : ℕ) (after : Text) (before : List Form) (form : Form) (others : List Form) → piece_form at p ≡ Ok form → has_room before form ≡ true
    → later_forms (before ++ form ∷ []) (forest (place_of at p) after) ≡ Ok others → later_forms before (forest at (put p after)) ≡ Ok (form ∷ others)
unfolding later_forms roomy
form_step (leaf bytes) at after before form others is room more = absurd cc
form_step (branch inside) at after before form others is room more = rw (is, room, more) refl

forms_again : (forms before others : List Form) (at : ℕ) → forms_fit before forms ≡ true → map form_aside others ≡ map form_aside before → ManyAgain others (forest at (lines forms)) forms
unfolding later_forms
forms_again [] before others at h same = record { read = []; is = refl; same = refl }
forms_again (form ∷ forms) before others at h same =
    let facts = forms_facts before form forms h in
    let one = form_again form at facts.fit in
    let more = forms_again forms (before ++ form ∷ []) (others ++ one.read ∷ []) (place_of at (form_piece form) + 1) facts.others
    (map-append form_aside others (one.read ∷ []) ∙ (λ i. same i ++ one.same i ∷ []) ∙ sym (map-append form_aside before (form ∷ []))) in
    record {
      read = one.read ∷ more.read;
      is = form_step (form_piece form) at (white 10 (lines forms)) others one.read more.read one.is (same_room others before one.read form same one.same ∙ facts.room) more.is;
      same = (λ i. one.same i ∷ more.same i);
    }

-- the text of forms that may be written is read as them, places aside
pub record IsReadAgain (t : Forest) (ast : Ast) : Type 0 where
  pub read : Ast
  pub is : forms_of t ≡ Ok read
  pub same : aside read ≡ aside ast

spec_again : (start at : ℕ) (name : List ℕ) → is_word name ≡ true → spec_name start (forest at (letters (codes "spec") (each (leaf name ∷ [])))) ≡ Ok (record { name = name; at = at + 4 + 1 })
unfolding spec_name first_name count
spec_again start at name named = name_again (at + 4 + 1) name named

pub file_again : (ast : Ast) → ast_fits ast ≡ true → IsReadAgain (forest 0 (file ast)) ast
unfolding ast_fits forms_of aside
file_again ast h =
    let both = and_parts (is_word ast.name) (forms_fit [] ast.forms) h in
    let more = forms_again ast.forms [] [] (place_of 0 (headed (codes "spec") (leaf ast.name ∷ [])) + 1) both.1 refl in
    record {
      read = record { name = ast.name; forms = more.read };
      is = rw (spec_again 0 1 ast.name both.0, more.is) refl;
      same = (λ i. record { name = ast.name; forms = more.same i });
    }
