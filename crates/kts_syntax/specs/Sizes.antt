-- Sizes of forests and expressions.
use Rattle.std.specs.Prelude.{ℕ, suc, ◌+◌, ◌==◌, min, max, ◌&&◌, if◌then◌else◌, List, [], ◌∷◌, length, map}
use Rattle.kts_text.specs.Forest.{Forest, none, atom, list}
use Rattle.kts_syntax.specs.declared.expr.Expr.{Expr}
use Rattle.kts_syntax.specs.declared.expr.Expr.TheOpen.{Expr-F}
use Rattle.kts_syntax.specs.declared.expr.Expr.TheFolds.{fold-Expr}
use Rattle.kts_syntax.specs.declared.form.Form.{Form}
use Rattle.kts_syntax.specs.declared.form.Form.TheVariants.{Index, Given, Choose, Formula, Manifest}

-- how many trees stand side by side
unfoldable pub count : Forest → ℕ
count none = 0
count (atom at bytes after) = suc (count after)
count (list start end inside after) = suc (count after)

-- how many trees there are, those in lists included
unfoldable pub weight : Forest → ℕ
weight none = 0
weight (atom at bytes after) = suc (weight after)
weight (list start end inside after) = suc (weight inside + weight after)

abbrev pub total : List ℕ → ℕ
total [] = 0
total (n ∷ ns) = n + total ns

-- an expression, with the number of trees of each part
abbrev pub size_step : Expr-F ℕ → ℕ
size_step expr = suc (total expr.parts)

-- how many term and formula trees an expression has
unfoldable pub trees : Expr → ℕ
trees = fold-Expr ℕ size_step

-- the greatest of numbers
abbrev pub most : List ℕ → ℕ
most [] = 0
most (n ∷ ns) = max n (most ns)

-- an expression, with how deep the lists of each part nest; a binder is a list, and a head alone is none
abbrev pub nest_step : Expr-F ℕ → ℕ
nest_step expr =
    if length expr.binders == 0 && length expr.parts == 0 then 0
    else suc (max (min 1 (length expr.binders)) (most expr.parts))

-- how deep the lists of an expression nest
unfoldable pub expr_nest : Expr → ℕ
expr_nest = fold-Expr ℕ nest_step

-- how deep the lists of a form nest
unfoldable pub form_nest : Form → ℕ
form_nest (Index word) = 1
form_nest (Given word args shape) = 2
form_nest (Choose word args shape) = 2
form_nest (Formula word expr) = suc (expr_nest expr)
form_nest (Manifest word) = 1

-- how deep the lists of forms nest
abbrev pub forms_nest : List Form → ℕ
forms_nest forms = most (map form_nest forms)
