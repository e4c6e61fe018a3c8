-- The text of forms: a line for each form, and one space between the parts of a list.
use Rattle.std.specs.Prelude.{ℕ, ◌==◌, ◌&&◌, if◌then◌else◌, List, [], ◌∷◌, ◌++◌, length, map, codes}
use Rattle.std.specs.Fmt.{signed_decimal}
use Rattle.kts_syntax.specs.Heads.{keyword}
use Rattle.kts_syntax.specs.declared.expr.Expr.{Expr}
use Rattle.kts_syntax.specs.declared.expr.Expr.TheOpen.{Expr-F}
use Rattle.kts_syntax.specs.declared.expr.Expr.TheFolds.{fold-Expr}
use Rattle.kts_syntax.specs.declared.form.Form.{Form}
use Rattle.kts_syntax.specs.declared.form.Form.TheVariants.{Index, Given, Choose, Formula, Manifest}
use Rattle.kts_syntax.specs.declared.form.Shape.{Shape}
use Rattle.kts_syntax.specs.declared.form.Shape.TheVariants.{Int, Named}
use Rattle.kts_syntax.specs.declared.head.Head.{Head}
use Rattle.kts_syntax.specs.declared.head.Head.TheVariants.{Number, Use}
use Rattle.kts_syntax.specs.declared.word.Word.{Word}
use Rattle.kts_syntax.specs.Tops.{Ast}

-- texts, each after a space
abbrev pub spaced : List (List ℕ) → List ℕ
spaced [] = []
spaced (text ∷ texts) = 32 ∷ (text ++ spaced texts)

-- a list of a first part and others
abbrev pub list_text : List ℕ → List (List ℕ) → List ℕ
list_text first others = 40 ∷ (first ++ (spaced others ++ 41 ∷ []))

abbrev pub name_text : Word → List ℕ
name_text word = word.name

-- a list of names
abbrev pub names_text : List Word → List ℕ
names_text [] = 40 ∷ 41 ∷ []
names_text (word ∷ words) = list_text word.name (map name_text words)

unfoldable pub binder_text : Word × Word × ℕ → List ℕ
binder_text binder = list_text binder.0.name (binder.1.name ∷ [])

unfoldable pub head_text : Head → List ℕ
head_text (Number n) = signed_decimal n
head_text (Use word) = word.name
head_text head = keyword head

-- a list of a head, binders and parts
abbrev pub listed : List ℕ → List (List ℕ) → List (List ℕ) → List ℕ
listed head binders parts = 40 ∷ (head ++ (spaced binders ++ (spaced parts ++ 41 ∷ [])))

-- a head alone, or before its binders and its parts
abbrev pub text_step : Expr-F (List ℕ) → List ℕ
text_step expr =
    if length expr.binders == 0 && length expr.parts == 0 then head_text expr.head
    else listed (head_text expr.head) (map binder_text expr.binders) expr.parts

unfoldable pub expr_text : Expr → List ℕ
expr_text = fold-Expr (List ℕ) text_step

unfoldable pub shape_text : Shape → List ℕ
shape_text (Int low high at) = list_text (codes "int") (signed_decimal low ∷ signed_decimal high ∷ [])
shape_text (Named word) = word.name

unfoldable pub form_text : Form → List ℕ
form_text (Index word) = list_text (codes "index") (word.name ∷ [])
form_text (Given word args shape) = list_text (codes "given") (word.name ∷ names_text args ∷ shape_text shape ∷ [])
form_text (Choose word args shape) = list_text (codes "choose") (word.name ∷ names_text args ∷ shape_text shape ∷ [])
form_text (Formula word expr) = list_text (codes "formula") (word.name ∷ expr_text expr ∷ [])
form_text (Manifest word) = list_text (codes "manifest") (word.name ∷ [])

-- each form on a line
abbrev pub lines_text : List Form → List ℕ
lines_text [] = []
lines_text (form ∷ forms) = form_text form ++ 10 ∷ lines_text forms

unfoldable pub forms_text : Ast → List ℕ
forms_text ast = list_text (codes "spec") (ast.name ∷ []) ++ 10 ∷ lines_text ast.forms
