-- Which forms may be written. An expression is judged as a part of a list: its head belongs to its role, and its binders and parts are those of its head.
use Rattle.std.specs.Prelude.{ℕ, ℤ, nat_abs, ◌+◌, ◌==◌, nat_le, Bool, true, false, ◌&&◌, List, [], ◌∷◌, ◌++◌, length}
use Rattle.std.specs.List.{list_all}
use Rattle.kts_base.specs.Limits.{most_number, most_arguments, most_written_trees}
use Rattle.kts_syntax.specs.Heads.{has_parts, layout_of, role_in, layout_after}
use Rattle.kts_syntax.specs.Sizes.{trees}
use Rattle.kts_syntax.specs.Tops.{Ast, has_room}
use Rattle.kts_syntax.specs.Words.{is_word}
use Rattle.kts_syntax.specs.declared.expr.Expr.{Expr}
use Rattle.kts_syntax.specs.declared.expr.Expr.TheOpen.{Expr-F}
use Rattle.kts_syntax.specs.declared.expr.Expr.TheFolds.{fold-Expr}
use Rattle.kts_syntax.specs.declared.form.Form.{Form}
use Rattle.kts_syntax.specs.declared.form.Form.TheVariants.{Index, Given, Choose, Formula as FormulaForm, Manifest}
use Rattle.kts_syntax.specs.declared.form.Shape.{Shape}
use Rattle.kts_syntax.specs.declared.form.Shape.TheVariants.{Int, Named}
use Rattle.kts_syntax.specs.declared.head.Head.{Head}
use Rattle.kts_syntax.specs.declared.head.Head.TheVariants.{Le, Lt, Ge, Gt, Eq, Ne, And, Or, Not, Implies, Forall, Exists, Number, Use}
use Rattle.kts_syntax.specs.declared.layout.Layout.{Layout}
use Rattle.kts_syntax.specs.declared.layout.Role.{Role}
use Rattle.kts_syntax.specs.declared.layout.Role.TheVariants.{Binder, Term, Formula}
use Rattle.kts_syntax.specs.declared.word.Word.{Word}

abbrev pub is_named : Word → Bool
is_named word = is_word word.name

-- not too far from 0
abbrev pub is_small : ℤ → Bool
is_small n = nat_le (nat_abs n) most_number

-- whether expressions with this head have this role
unfoldable pub has_role : Head → Role → Bool
has_role head Binder = false
has_role Le Term = false
has_role Lt Term = false
has_role Ge Term = false
has_role Gt Term = false
has_role Eq Term = false
has_role Ne Term = false
has_role And Term = false
has_role Or Term = false
has_role Not Term = false
has_role Implies Term = false
has_role Forall Term = false
has_role Exists Term = false
has_role head Term = true
has_role Le Formula = true
has_role Lt Formula = true
has_role Ge Formula = true
has_role Gt Formula = true
has_role Eq Formula = true
has_role Ne Formula = true
has_role And Formula = true
has_role Or Formula = true
has_role Not Formula = true
has_role Implies Formula = true
has_role Forall Formula = true
has_role Exists Formula = true
has_role head Formula = false

-- whether an expression with this head may have so many parts; a number stands alone, and a name may
unfoldable pub head_fits : Head → ℕ → Bool
head_fits (Number n) k = k == 0 && is_small n
head_fits (Use word) k = is_named word && nat_le k most_arguments
head_fits head k = has_parts head k

abbrev pub is_empty : {A : Type 0} → List A → Bool
is_empty [] = true
is_empty (x ∷ xs) = false

abbrev pub is_binder : Role → Bool
is_binder Binder = true
is_binder Term = false
is_binder Formula = false

abbrev pub binder_fits : Word × Word × ℕ → Bool
binder_fits binder = is_named binder.0 && is_named binder.1

-- whether expressions are the parts of a list with this layout, by whether each may have a role
abbrev pub exprs_fit : Layout → List (Role → Bool) → Bool
exprs_fit layout [] = true
exprs_fit layout (expr ∷ exprs) = expr (role_in layout (is_empty exprs)) && exprs_fit (layout_after layout) exprs

-- the same, where binders are before them
abbrev pub parts_fit : Layout → List (Word × Word × ℕ) → List (Role → Bool) → Bool
parts_fit layout [] exprs = exprs_fit layout exprs
parts_fit layout (b ∷ bs) exprs = is_binder (role_in layout (is_empty bs && is_empty exprs)) && binder_fits b && parts_fit (layout_after layout) bs exprs

abbrev pub fit_step : Expr-F (Role → Bool) → Role → Bool
fit_step expr role = has_role expr.head role && head_fits expr.head (length expr.binders + length expr.parts) && parts_fit (layout_of expr.head) expr.binders expr.parts

-- whether an expression may have a role
unfoldable pub expr_fits : Expr → Role → Bool
expr_fits = fold-Expr (Role → Bool) fit_step

abbrev pub shape_fits : Shape → Bool
shape_fits (Int low high at) = is_small low && is_small high
shape_fits (Named word) = is_named word

abbrev pub family_fits : Word → List Word → Shape → Bool
family_fits word args shape = is_named word && (nat_le (length args) most_arguments && list_all is_named args) && shape_fits shape

unfoldable pub form_fits : Form → Bool
form_fits (Index word) = is_named word
form_fits (Given word args shape) = family_fits word args shape
form_fits (Choose word args shape) = family_fits word args shape
form_fits (FormulaForm word expr) = is_named word && expr_fits expr Formula && nat_le (trees expr) most_written_trees
form_fits (Manifest word) = is_named word

-- whether each form may be written, and has room after those before it
unfoldable pub forms_fit : List Form → List Form → Bool
forms_fit before [] = true
forms_fit before (form ∷ forms) = form_fits form && has_room before form && forms_fit (before ++ form ∷ []) forms

unfoldable pub ast_fits : Ast → Bool
ast_fits ast = is_word ast.name && forms_fit [] ast.forms
