-- The text of forms is read back to them.
use Rattle.std.proofs.Common.{◌≡◌, refl, ◌∙◌, ap, ℕ, ◌-◌, ◌<◌, ◌≤◌, List, [], ◌∷◌, ◌++◌, length, map, true, ◌&&◌, arith}
use Rattle.std.specs.Prelude.{codes, nat_le}
use Rattle.std.specs.Fmt.{signed_decimal}
use Rattle.std.specs.List.{list_all}
use Rattle.std.proofs.lemmas.Bool.{and_parts}
use Rattle.kts_text.specs.Bytes.{class}
use Rattle.kts_text.specs.Grammar.{Text, nothing, white, spelled, IsAtom, IsText}
use Rattle.kts_syntax.specs.Fitting.{is_named, is_small, expr_fits, shape_fits, family_fits, form_fits, forms_fit, ast_fits}
use Rattle.kts_syntax.specs.Readings.{expr}
use Rattle.kts_syntax.specs.Sizes.{trees, form_nest, forms_nest}
use Rattle.kts_syntax.specs.Texts.{list_text, name_text, names_text, shape_text, form_text, lines_text, forms_text}
use Rattle.kts_syntax.specs.Tops.{Ast, has_room}
use Rattle.kts_syntax.specs.Words.{is_word}
use Rattle.kts_syntax.specs.declared.expr.Expr.{Expr}
use Rattle.kts_syntax.specs.declared.form.Form.{Form}
use Rattle.kts_syntax.specs.declared.form.Form.TheVariants.{Index, Given, Choose, Formula, Manifest}
use Rattle.kts_syntax.specs.declared.form.Shape.{Shape}
use Rattle.kts_syntax.specs.declared.form.Shape.TheVariants.{Int, Named}
use Rattle.kts_syntax.specs.declared.layout.Role.TheVariants as role
use Rattle.kts_syntax.specs.declared.word.Word.{Word}
use Rattle.kts_syntax.proofs.ReadBack.{expr_spelled, expr_stands}
use Rattle.kts_syntax.proofs.WordLemmas.{name_atom, number_atom}
use Rattle.kts_syntax.proofs.Written.{Piece, leaf, branch, put, headed, bytes_of, bytes_of-headed, spelled-put, Stands, AllStand, put_stands, headed_stands, expr_piece}

-- ---- forms as pieces

abbrev pub name_piece : Word → Piece
name_piece word = leaf word.name

abbrev pub args_piece : List Word → Piece
args_piece [] = branch nothing
args_piece (word ∷ words) = headed word.name (map name_piece words)

abbrev pub shape_piece : Shape → Piece
shape_piece (Int low high at) = headed (codes "int") (leaf (signed_decimal low) ∷ leaf (signed_decimal high) ∷ [])
shape_piece (Named word) = leaf word.name

unfoldable pub form_piece : Form → Piece
form_piece (Index word) = headed (codes "index") (leaf word.name ∷ [])
form_piece (Given word args shape) = headed (codes "given") (leaf word.name ∷ args_piece args ∷ shape_piece shape ∷ [])
form_piece (Choose word args shape) = headed (codes "choose") (leaf word.name ∷ args_piece args ∷ shape_piece shape ∷ [])
form_piece (Formula word expr) = headed (codes "formula") (leaf word.name ∷ expr_piece expr ∷ [])
form_piece (Manifest word) = headed (codes "manifest") (leaf word.name ∷ [])

abbrev pub lines : List Form → Text
lines [] = nothing
lines (form ∷ forms) = put (form_piece form) (white 10 (lines forms))

abbrev pub file : Ast → Text
file ast = put (headed (codes "spec") (leaf ast.name ∷ [])) (white 10 (lines ast.forms))

-- ---- the bytes

names_spelled : (words : List Word) → map bytes_of (map name_piece words) ≡ map name_text words
names_spelled [] = refl
names_spelled (word ∷ words) = ap (λ l. word.name ∷ l) (names_spelled words)

args_spelled : (words : List Word) → bytes_of (args_piece words) ≡ names_text words
args_spelled [] = refl
args_spelled (word ∷ words) = bytes_of-headed word.name (map name_piece words) ∙ ap (list_text word.name) (names_spelled words)

shape_spelled : (shape : Shape) → bytes_of (shape_piece shape) ≡ shape_text shape
unfolding shape_text
shape_spelled (Int low high at) = bytes_of-headed (codes "int") (leaf (signed_decimal low) ∷ leaf (signed_decimal high) ∷ [])
shape_spelled (Named word) = refl

family_spelled : (word : List ℕ) (name : Word) (args : List Word) (shape : Shape) → bytes_of (headed word (leaf name.name ∷ args_piece args ∷ shape_piece shape ∷ [])) ≡ list_text word (name.name ∷ names_text args ∷ shape_text shape ∷ [])
family_spelled word name args shape =
    bytes_of-headed word (leaf name.name ∷ args_piece args ∷ shape_piece shape ∷ [])
    ∙ (λ i. list_text word (name.name ∷ args_spelled args i ∷ shape_spelled shape i ∷ []))

form_spelled : (form : Form) → bytes_of (form_piece form) ≡ form_text form
unfolding form_piece form_text
form_spelled (Index word) = bytes_of-headed (codes "index") (leaf word.name ∷ [])
form_spelled (Given word args shape) = family_spelled (codes "given") word args shape
form_spelled (Choose word args shape) = family_spelled (codes "choose") word args shape
form_spelled (Formula word expr) = bytes_of-headed (codes "formula") (leaf word.name ∷ expr_piece expr ∷ []) ∙ (λ i. list_text (codes "formula") (word.name ∷ expr_spelled expr i ∷ []))
form_spelled (Manifest word) = bytes_of-headed (codes "manifest") (leaf word.name ∷ [])

lines_spelled : (forms : List Form) → spelled (lines forms) ≡ lines_text forms
lines_spelled [] = refl
lines_spelled (form ∷ forms) = spelled-put (form_piece form) (white 10 (lines forms)) ∙ (λ i. form_spelled form i ++ 10 ∷ lines_spelled forms i)

pub file_spelled : (ast : Ast) → spelled (file ast) ≡ forms_text ast
unfolding forms_text
file_spelled ast =
    spelled-put (headed (codes "spec") (leaf ast.name ∷ [])) (white 10 (lines ast.forms))
    ∙ (λ i. bytes_of-headed (codes "spec") (leaf ast.name ∷ []) i ++ 10 ∷ lines_spelled ast.forms i)

-- ---- the grammar

names_stand : (deep : ℕ) (words : List Word) → list_all is_named words ≡ true → AllStand deep (map name_piece words)
names_stand deep [] h = tt
names_stand deep (word ∷ words) h = let both = and_parts (is_named word) (list_all is_named words) h in (name_atom word.name both.0, names_stand deep words both.1)

args_stand : (deep : ℕ) (words : List Word) → 0 < deep → list_all is_named words ≡ true → Stands deep (args_piece words)
args_stand deep [] some h = (some, tt)
args_stand deep (word ∷ words) some h =
    let both = and_parts (is_named word) (list_all is_named words) h in headed_stands deep word.name (map name_piece words) some (name_atom word.name both.0) (names_stand (deep - 1) words both.1)

int_atom : IsAtom (codes "int")
unfolding class
int_atom = record { some = omega arith; few = omega arith; letters = (refl, (refl, (refl, tt))) }

index_atom : IsAtom (codes "index")
unfolding class
index_atom = record { some = omega arith; few = omega arith; letters = (refl, (refl, (refl, (refl, (refl, tt))))) }

given_atom : IsAtom (codes "given")
unfolding class
given_atom = record { some = omega arith; few = omega arith; letters = (refl, (refl, (refl, (refl, (refl, tt))))) }

choose_atom : IsAtom (codes "choose")
unfolding class
choose_atom = record { some = omega arith; few = omega arith; letters = (refl, (refl, (refl, (refl, (refl, (refl, tt)))))) }

formula_atom : IsAtom (codes "formula")
unfolding class
formula_atom = record { some = omega arith; few = omega arith; letters = (refl, (refl, (refl, (refl, (refl, (refl, (refl, tt))))))) }

manifest_atom : IsAtom (codes "manifest")
unfolding class
manifest_atom = record { some = omega arith; few = omega arith; letters = (refl, (refl, (refl, (refl, (refl, (refl, (refl, (refl, tt)))))))) }

spec_atom : IsAtom (codes "spec")
unfolding class
spec_atom = record { some = omega arith; few = omega arith; letters = (refl, (refl, (refl, (refl, tt)))) }

shape_stands : (deep : ℕ) (shape : Shape) → 0 < deep → shape_fits shape ≡ true → Stands deep (shape_piece shape)
shape_stands deep (Int low high at) some h =
    let both = and_parts (is_small low) (is_small high) h in
    headed_stands deep (codes "int") (leaf (signed_decimal low) ∷ leaf (signed_decimal high) ∷ []) some int_atom (number_atom low both.0, (number_atom high both.1, tt))
shape_stands deep (Named word) some h = name_atom word.name h

-- what the fitting of a family says
pub record FamilyFacts (word : Word) (args : List Word) (shape : Shape) : Type 0 where
  pub named : is_named word ≡ true
  pub few : nat_le (length args) 2 ≡ true
  pub names : list_all is_named args ≡ true
  pub typed : shape_fits shape ≡ true

pub family_facts : (word : Word) (args : List Word) (shape : Shape) → family_fits word args shape ≡ true → FamilyFacts word args shape
family_facts word args shape h =
    let two = and_parts (is_named word && (nat_le (length args) 2 && list_all is_named args)) (shape_fits shape) h in
    let one = and_parts (is_named word) (nat_le (length args) 2 && list_all is_named args) two.0 in
    let args_fit = and_parts (nat_le (length args) 2) (list_all is_named args) one.1 in
    record { named = one.0; few = args_fit.0; names = args_fit.1; typed = two.1 }

family_stands : (word : List ℕ) (name : Word) (args : List Word) (shape : Shape) → IsAtom word → family_fits name args shape ≡ true → Stands 64 (headed word (leaf name.name ∷ args_piece args ∷ shape_piece shape ∷ []))
family_stands word name args shape is h =
    let facts = family_facts name args shape h in
    headed_stands 64 word (leaf name.name ∷ args_piece args ∷ shape_piece shape ∷ []) (omega arith) is
    (name_atom name.name facts.named, (args_stand 63 args (omega arith) facts.names, (shape_stands 63 shape (omega arith) facts.typed, tt)))

-- what the fitting of a formula says
pub record FormulaFacts (word : Word) (e : Expr) : Type 0 where
  pub named : is_named word ≡ true
  pub fit : expr_fits e role.Formula ≡ true
  pub small : nat_le (trees e) 1000 ≡ true

pub formula_facts : (word : Word) (e : Expr) → (is_named word && expr_fits e role.Formula && nat_le (trees e) 1000) ≡ true → FormulaFacts word e
formula_facts word e h =
    let two = and_parts (is_named word && expr_fits e role.Formula) (nat_le (trees e) 1000) h in
    let one = and_parts (is_named word) (expr_fits e role.Formula) two.0 in
    record { named = one.0; fit = one.1; small = two.1 }

form_stands : (form : Form) → form_fits form ≡ true → form_nest form ≤ 64 → Stands 64 (form_piece form)
unfolding form_piece form_fits form_nest
form_stands (Index word) h low = headed_stands 64 (codes "index") (leaf word.name ∷ []) (omega arith) index_atom (name_atom word.name h, tt)
form_stands (Given word args shape) h low = family_stands (codes "given") word args shape given_atom h
form_stands (Choose word args shape) h low = family_stands (codes "choose") word args shape choose_atom h
form_stands (Formula word e) h low =
    let facts = formula_facts word e h in
    headed_stands 64 (codes "formula") (leaf word.name ∷ expr_piece e ∷ []) (omega arith) formula_atom (name_atom word.name facts.named, (expr_stands e role.Formula 63 facts.fit (omega arith), tt))
form_stands (Manifest word) h low = headed_stands 64 (codes "manifest") (leaf word.name ∷ []) (omega arith) manifest_atom (name_atom word.name h, tt)

-- what the fitting of forms says of the first
pub record FormsFacts (before : List Form) (form : Form) (forms : List Form) : Type 0 where
  pub fit : form_fits form ≡ true
  pub room : has_room before form ≡ true
  pub others : forms_fit (before ++ form ∷ []) forms ≡ true

pub forms_facts : (before : List Form) (form : Form) (forms : List Form) → forms_fit before (form ∷ forms) ≡ true → FormsFacts before form forms
unfolding forms_fit
forms_facts before form forms h =
    let two = and_parts (form_fits form && has_room before form) (forms_fit (before ++ form ∷ []) forms) h in
    let one = and_parts (form_fits form) (has_room before form) two.0 in
    record { fit = one.0; room = one.1; others = two.1 }

lines_stand : (forms before : List Form) → forms_fit before forms ≡ true → forms_nest forms ≤ 64 → IsText 64 (lines forms)
unfolding class
lines_stand [] before h low = tt
lines_stand (form ∷ forms) before h low =
    let facts = forms_facts before form forms h in
    put_stands 64 (form_piece form) (white 10 (lines forms)) (form_stands form facts.fit (omega arith)) tt (refl, lines_stand forms (before ++ form ∷ []) facts.others (omega arith))

pub file_stands : (ast : Ast) → ast_fits ast ≡ true → forms_nest ast.forms ≤ 64 → IsText 64 (file ast)
unfolding class ast_fits
file_stands ast h low =
    let both = and_parts (is_word ast.name) (forms_fit [] ast.forms) h in
    put_stands 64 (headed (codes "spec") (leaf ast.name ∷ [])) (white 10 (lines ast.forms))
    (headed_stands 64 (codes "spec") (leaf ast.name ∷ []) (omega arith) spec_atom (name_atom ast.name both.0, tt)) tt (refl, lines_stand ast.forms [] both.1 low)
