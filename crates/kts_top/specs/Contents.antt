-- The content of a file.
use Rattle.std.specs.Prelude.{◌≡◌, ℕ, List, [], true, Some, Result, Ok, Err}
use Rattle.kts_check.specs.Faults.{Judged}
use Rattle.kts_check.specs.Forms.{Parts, parts, parts_of}
use Rattle.kts_check.specs.Specs.{are_small, spec_of}
use Rattle.kts_check.specs.declared.fault.SpecKind.TheVariants as spec
use Rattle.kts_spec.specs.declared.spec.Spec.{Spec as SpecOf}
use Rattle.kts_syntax.specs.Tops.{Ast, forms_of}
use Rattle.kts_syntax.specs.Faults.{FormFault}
use Rattle.kts_syntax.specs.declared.fault.FormKind.TheVariants as form
use Rattle.kts_text.specs.Forest.{Forest}
use Rattle.kts_text.specs.Reads.{trees_of}
use Rattle.kts_text.specs.Faults.{TreeFault}
use Rattle.kts_text.specs.declared.fault.TreeKind.TheVariants as tree
use Rattle.kts_top.specs.declared.content_fault.ContentFault.{ContentFault}
use Rattle.kts_top.specs.declared.content_fault.ContentFault.TheVariants.{Trees, Form, Spec}

-- memory was refused
abbrev pub IsNoMemory : ContentFault → Type 0
IsNoMemory (Trees fault) = fault.kind ≡ tree.NoMemory
IsNoMemory (Form fault) = fault.kind ≡ form.NoMemory
IsNoMemory (Spec fault) = fault.kind ≡ spec.NoMemory

-- well typed forms, with the parts of the specification that they say
pub record Content : Type 0 where
  pub ast : Ast
  pub parts : Parts

abbrev pub with_parts : Ast → Judged Parts → Result Content ContentFault
with_parts ast (Ok parts) = Ok (record { ast = ast; parts = parts })
with_parts ast (Err fault) = Err (Spec fault)

-- the content of forms, or the first fault in their types
abbrev pub content_of_forms : Ast → Result Content ContentFault
content_of_forms ast = with_parts ast (parts_of ast)

abbrev pub from_forms : Result Ast FormFault → Result Content ContentFault
from_forms (Ok ast) = content_of_forms ast
from_forms (Err fault) = Err (Form fault)

abbrev pub from_trees : Result Forest TreeFault → Result Content ContentFault
from_trees (Ok trees) = from_forms (forms_of trees)
from_trees (Err fault) = Err (Trees fault)

-- the content of a file, or its first tree fault, or the first form fault of its trees, or the first fault in the types of its forms
unfoldable pub content_of : List ℕ → Result Content ContentFault
content_of bytes = from_trees (trees_of bytes)

-- a specification that the check of types made: its parts give it back, no task is made yet, and its formulas are small
pub record IsMade (spec : SpecOf) : Type 0 where
  pub is : spec_of (parts spec) ≡ Some spec
  pub tasks : spec.schema.tasks ≡ []
  pub small : are_small spec.formulas ≡ true
