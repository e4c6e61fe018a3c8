-- Text that is read back.
use Rattle.std.specs.Prelude.{◌≡◌, Ok}
use Rattle.kts_text.specs.Forest.{Forest}
use Rattle.kts_text.specs.Grammar.{TreesOf}
use Rattle.kts_syntax.specs.Places.{aside}
use Rattle.kts_syntax.specs.Texts.{forms_text}
use Rattle.kts_syntax.specs.Tops.{Ast, forms_of}

-- the text is that of a file of trees, and these trees are read as the ast, places aside
pub record ReadsBack (ast : Ast) : Type 0 where
  pub trees : Forest
  pub text : TreesOf (forms_text ast) trees
  pub read : Ast
  pub is : forms_of trees ≡ Ok read
  pub same : aside read ≡ aside ast
