-- Forms with their places left out: each place is 0.
use Rattle.std.specs.Prelude.{ℕ, map}
use Rattle.kts_syntax.specs.Tops.{Ast}
use Rattle.kts_syntax.specs.declared.expr.Expr.{Expr, roll-Expr}
use Rattle.kts_syntax.specs.declared.expr.Expr.TheOpen.{Expr-F}
use Rattle.kts_syntax.specs.declared.expr.Expr.TheFolds.{fold-Expr}
use Rattle.kts_syntax.specs.declared.form.Form.{Form}
use Rattle.kts_syntax.specs.declared.form.Form.TheVariants.{Index, Given, Choose, Formula, Manifest}
use Rattle.kts_syntax.specs.declared.form.Shape.{Shape}
use Rattle.kts_syntax.specs.declared.form.Shape.TheVariants.{Int, Named}
use Rattle.kts_syntax.specs.declared.head.Head.{Head}
use Rattle.kts_syntax.specs.declared.head.Head.TheVariants.{Use}
use Rattle.kts_syntax.specs.declared.word.Word.{Word}

abbrev pub word_aside : Word → Word
word_aside word = record { name = word.name; at = 0 }

abbrev pub binder_aside : Word × Word × ℕ → Word × Word × ℕ
binder_aside binder = (word_aside binder.0, word_aside binder.1, 0)

unfoldable pub head_aside : Head → Head
head_aside (Use word) = Use (word_aside word)
head_aside head = head

abbrev pub aside_step : Expr-F Expr → Expr
aside_step expr = roll-Expr (record { at = 0; head = head_aside expr.head; binders = map binder_aside expr.binders; parts = expr.parts })

unfoldable pub expr_aside : Expr → Expr
expr_aside = fold-Expr Expr aside_step

abbrev pub shape_aside : Shape → Shape
shape_aside (Int low high at) = Int low high 0
shape_aside (Named word) = Named (word_aside word)

unfoldable pub form_aside : Form → Form
form_aside (Index word) = Index (word_aside word)
form_aside (Given word args shape) = Given (word_aside word) (map word_aside args) (shape_aside shape)
form_aside (Choose word args shape) = Choose (word_aside word) (map word_aside args) (shape_aside shape)
form_aside (Formula word expr) = Formula (word_aside word) (expr_aside expr)
form_aside (Manifest word) = Manifest (word_aside word)

-- the ast, places aside
unfoldable pub aside : Ast → Ast
aside ast = record { name = ast.name; forms = map form_aside ast.forms }
