-- What forms show: their name, and the forms after the first.
use Rattle.kts_syntax.specs.Tops.{Ast}
use Rattle.kts_syntax.specs.declared.forms.Forms.{Forms}

abbrev pub ast_of : Forms → Ast
ast_of forms = record { name = forms.name; forms = forms.forms }
