-- The forms of a file of trees.
use Rattle.std.specs.Prelude.{ℕ, ◌==◌, nat_le, nat_lt, Bool, true, false, if◌then◌else◌, List, [], ◌∷◌, ◌++◌, count_by, codes, Ok}
use Rattle.kts_base.specs.Limits.{most_indexes, most_givens, most_choices, most_formulas, most_arguments, most_written_trees}
use Rattle.kts_base.specs.Reads.{and_then}
use Rattle.kts_text.specs.Forest.{Forest, none, atom, list}
use Rattle.kts_syntax.specs.Faults.{fail}
use Rattle.kts_syntax.specs.Readings.{Reading, rest, name_at, first_name, first_number, expr}
use Rattle.kts_syntax.specs.Sizes.{count, trees}
use Rattle.kts_syntax.specs.Words.{is_text}
use Rattle.kts_syntax.specs.declared.expr.Expr.{Expr}
use Rattle.kts_syntax.specs.declared.fault.FormKind.TheVariants.{NotAForm, WrongCount, TooMany}
use Rattle.kts_syntax.specs.declared.form.Form.{Form}
use Rattle.kts_syntax.specs.declared.form.Form.TheVariants.{Index, Given, Choose, Formula, Manifest}
use Rattle.kts_syntax.specs.declared.form.Shape.{Shape}
use Rattle.kts_syntax.specs.declared.form.Shape.TheVariants.{Int, Named}
use Rattle.kts_syntax.specs.declared.layout.Role.TheVariants as role
use Rattle.kts_syntax.specs.declared.word.Word.{Word}

-- each tree as a name
unfoldable pub names : Forest → Reading (List Word)
names none = Ok []
names (atom at bytes after) = and_then (name_at at bytes) (λ word. and_then (names after) (λ words. Ok (word ∷ words)))
names (list start end inside after) = fail NotAForm start

-- the first tree as arguments: a list of at most two names
unfoldable pub first_arguments : Forest → Reading (List Word)
first_arguments none = fail NotAForm 0
first_arguments (atom at bytes after) = fail NotAForm at
first_arguments (list start end inside after) = if nat_le (count inside) most_arguments then names inside else fail WrongCount start

-- whether the first tree is this word
abbrev pub begins_with : List ℕ → Forest → Bool
begins_with word none = false
begins_with word (atom at bytes after) = is_text bytes word
begins_with word (list start end inside after) = false

-- two numbers
unfoldable pub two_ends : ℕ → Forest → Reading Shape
two_ends start ends = and_then (first_number ends) (λ low. and_then (first_number (rest ends)) (λ high. Ok (Int low high start)))

-- the type between two ends
unfoldable pub int_type : ℕ → Forest → Reading Shape
int_type start inside =
    if begins_with (codes "int") inside then (if count inside == 3 then two_ends start (rest inside) else fail WrongCount start)
    else fail NotAForm start

-- the first tree as a type
unfoldable pub first_type : Forest → Reading Shape
first_type none = fail NotAForm 0
first_type (atom at bytes after) = and_then (name_at at bytes) (λ word. Ok (Named word))
first_type (list start end inside after) = int_type start inside

-- the first tree as a formula
unfoldable pub first_formula : Forest → Reading Expr
first_formula none = fail NotAForm 0
first_formula (atom at bytes after) = fail NotAForm at
first_formula (list start end inside after) = expr role.Formula start inside

-- a name alone
unfoldable pub one_name : ℕ → Forest → Reading Word
one_name start parts = if count parts == 1 then first_name parts else fail WrongCount start

-- a name, arguments and a type
unfoldable pub family_of : Forest → Reading (Word × List Word × Shape)
family_of parts = and_then (first_name parts) (λ word. and_then (first_arguments (rest parts)) (λ args. and_then (first_type (rest (rest parts))) (λ shape. Ok (word, args, shape))))

unfoldable pub family : ℕ → Forest → Reading (Word × List Word × Shape)
family start parts = if count parts == 3 then family_of parts else fail WrongCount start

-- a formula that isn't too large
unfoldable pub bounded : ℕ → Word → Expr → Reading Form
bounded start word expr = if nat_le (trees expr) most_written_trees then Ok (Formula word expr) else fail TooMany start

-- a name and a formula
unfoldable pub formula_of : ℕ → Forest → Reading Form
formula_of start parts = and_then (first_name parts) (λ word. and_then (first_formula (rest parts)) (λ expr. bounded start word expr))

unfoldable pub formula : ℕ → Forest → Reading Form
formula start parts = if count parts == 2 then formula_of start parts else fail WrongCount start

-- a list that begins with a word, as a form after the first
unfoldable pub form_of : ℕ → List ℕ → Forest → Reading Form
form_of start word parts =
    if is_text word (codes "index") then and_then (one_name start parts) (λ name. Ok (Index name))
    else (if is_text word (codes "given") then and_then (family start parts) (λ f. Ok (Given f.0 f.1 f.2))
    else (if is_text word (codes "choose") then and_then (family start parts) (λ f. Ok (Choose f.0 f.1 f.2))
    else (if is_text word (codes "formula") then formula start parts
    else (if is_text word (codes "manifest") then and_then (one_name start parts) (λ name. Ok (Manifest name))
    else fail NotAForm start))))

-- a list as a form after the first
unfoldable pub later_form : ℕ → Forest → Reading Form
later_form start none = fail NotAForm start
later_form start (atom at word parts) = form_of start word parts
later_form start (list at end inside after) = fail NotAForm start

-- the forms of each kind
abbrev pub is_index : Form → Bool
is_index (Index word) = true
is_index _ = false

abbrev pub is_given : Form → Bool
is_given (Given word args shape) = true
is_given _ = false

abbrev pub is_choice : Form → Bool
is_choice (Choose word args shape) = true
is_choice _ = false

abbrev pub is_formula : Form → Bool
is_formula (Formula word expr) = true
is_formula _ = false

-- whether there may be a form like this one after these
unfoldable pub has_room : List Form → Form → Bool
has_room before (Index word) = nat_lt (count_by is_index before) most_indexes
has_room before (Given word args shape) = nat_lt (count_by is_given before) most_givens
has_room before (Choose word args shape) = nat_lt (count_by is_choice before) most_choices
has_room before (Formula word expr) = nat_lt (count_by is_formula before) most_formulas
has_room before (Manifest word) = true

-- a form that begins at a place, after these
unfoldable pub roomy : List Form → ℕ → Form → Reading Form
roomy before start form = if has_room before form then Ok form else fail TooMany start

-- trees as forms after these
unfoldable pub later_forms : List Form → Forest → Reading (List Form)
later_forms before none = Ok []
later_forms before (atom at bytes after) = fail NotAForm at
later_forms before (list start end inside after) =
    and_then (and_then (later_form start inside) (roomy before start)) (λ form. and_then (later_forms (before ++ form ∷ []) after) (λ forms. Ok (form ∷ forms)))

-- the name in the first form
unfoldable pub spec_name : ℕ → Forest → Reading Word
spec_name start inside =
    if begins_with (codes "spec") inside then (if count inside == 2 then first_name (rest inside) else fail WrongCount start)
    else fail NotAForm start

-- a name, and the forms after it
pub record Ast : Type 0 where
  pub name : List ℕ
  pub forms : List Form

-- the forms of a file, or the fault of the tree at fault that ends first
unfoldable pub forms_of : Forest → Reading Ast
forms_of none = fail NotAForm 0
forms_of (atom at bytes after) = fail NotAForm at
forms_of (list start end inside after) = and_then (spec_name start inside) (λ word. and_then (later_forms [] after) (λ forms. Ok (record { name = word.name; forms = forms })))
