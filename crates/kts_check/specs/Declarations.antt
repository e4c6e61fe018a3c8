-- What is declared after some forms, and what the names in a form stand for.
use Rattle.std.specs.Prelude.{ℕ, List, [], Bool, ◌&&◌, ◌||◌, if◌then◌else◌, Option, None, Some, is_some, Ok, int_le}
use Rattle.std.specs.Map.{lookup}
use Rattle.kts_base.specs.Reads.{and_then, each_from}
use Rattle.kts_spec.specs.Names.{same_name}
use Rattle.kts_spec.specs.Schemas.{is_end}
use Rattle.kts_spec.specs.declared.declarations.Decl.{Decl}
use Rattle.kts_spec.specs.declared.declarations.Family.{Family}
use Rattle.kts_spec.specs.declared.declarations.ValueType.{ValueType}
use Rattle.kts_spec.specs.declared.declarations.ValueType.TheVariants.{Int, Member}
use Rattle.kts_spec.specs.declared.tree.Formula.{Formula as Statement}
use Rattle.kts_syntax.specs.declared.form.Shape.{Shape}
use Rattle.kts_syntax.specs.declared.form.Shape.TheVariants as shape
use Rattle.kts_syntax.specs.declared.word.Word.{Word}
use Rattle.kts_check.specs.Faults.{Judged, fail}
use Rattle.kts_check.specs.Scopes.{Scope, variable}
use Rattle.kts_check.specs.declared.entry.Entry.{Entry}
use Rattle.kts_check.specs.declared.entry.Entry.TheVariants.{Index, Given, Choice, Formula}
use Rattle.kts_check.specs.declared.fault.SpecKind.TheVariants.{UnknownName, NameTaken, WrongKind, BadRange}

-- names with what they stand for
abbrev pub Names : Type 0
Names = List (List ℕ × Entry)

-- what is declared, each kind in the order of the file
pub record Declarations : Type 0 where
  pub names : Names
  pub decls : List Decl
  pub indexes : List (List ℕ)
  pub givens : List Family
  pub choices : List Family
  pub formulas : List (List ℕ × Statement)

-- before the first form
abbrev pub no_declarations : Declarations
no_declarations = record { names = []; decls = []; indexes = []; givens = []; choices = []; formulas = [] }

-- what a name stands for
abbrev pub entry_of : Names → List ℕ → Option Entry
entry_of names name = lookup (same_name name) names

-- what a name stands for, as an index
abbrev pub as_index : Option Entry → ℕ → Judged ℕ
as_index None at = fail UnknownName at
as_index (Some (Index i)) at = Ok i
as_index (Some (Given f)) at = fail WrongKind at
as_index (Some (Choice x)) at = fail WrongKind at
as_index (Some Formula) at = fail WrongKind at

-- a name of an index
unfoldable pub index_of : Names → Word → Judged ℕ
index_of names word = as_index (entry_of names word.name) word.at

-- the names that the next argument is judged by
abbrev pub same_names : Names → Word → Names
same_names names word = names

-- each name as one of an index
abbrev pub indexes_of : Names → List Word → Judged (List ℕ)
indexes_of = each_from index_of same_names

-- a name that a form declares
unfoldable pub new_name : Names → Word → Judged (List ℕ)
new_name names word = if is_some (entry_of names word.name) then fail NameTaken word.at else Ok word.name

-- a type
unfoldable pub type_of : Names → Shape → Judged ValueType
type_of names (shape.Int low high at) = if is_end low && is_end high && int_le low high then Ok (Int low high) else fail BadRange at
type_of names (shape.Named word) = and_then (index_of names word) (λ i. Ok (Member i))

-- whether a variable may not have this name: it is declared, the form's own, or in scope
abbrev pub is_taken : Names → List ℕ → Scope → List ℕ → Bool
is_taken names own scope name = is_some (entry_of names name) || same_name own name || is_some (variable scope name)
