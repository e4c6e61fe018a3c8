-- What the forms of a specification say, judged in the order of the file.
use Rattle.std.specs.Prelude.{◌≡◌, ◌≤◌, ℕ, List, [], ◌∷◌, ◌++◌, length, Bool, false, nat_eq, Option, None, Some, if◌then◌else◌, Ok, slice_get}
use Rattle.std.specs.List.{list_any}
use Rattle.kts_base.specs.Reads.{and_then}
use Rattle.kts_spec.specs.Schemas.{assigns_members}
use Rattle.kts_spec.specs.declared.declarations.Decl.{Decl}
use Rattle.kts_spec.specs.declared.declarations.Decl.TheVariants as decl
use Rattle.kts_spec.specs.declared.declarations.Family.{Family}
use Rattle.kts_base.specs.Limits.{most_indexes, most_givens, most_choices, most_formulas}
use Rattle.kts_spec.specs.declared.spec.Spec.{Spec}
use Rattle.kts_spec.specs.declared.tree.Formula.{Formula}
use Rattle.kts_syntax.specs.Tops.{Ast}
use Rattle.kts_syntax.specs.declared.expr.Expr.{Expr}
use Rattle.kts_syntax.specs.declared.form.Form.{Form}
use Rattle.kts_syntax.specs.declared.form.Form.TheVariants as form
use Rattle.kts_syntax.specs.declared.form.Shape.{Shape}
use Rattle.kts_syntax.specs.declared.word.Word.{Word}
use Rattle.kts_check.specs.Faults.{Judged, fail}
use Rattle.kts_check.specs.Declarations.{Declarations, Names, no_declarations, entry_of, indexes_of, new_name, type_of}
use Rattle.kts_check.specs.Trees.{phrase_of}
use Rattle.kts_check.specs.declared.entry.Entry.{Entry}
use Rattle.kts_check.specs.declared.entry.Entry.TheVariants as entry
use Rattle.kts_check.specs.declared.fault.SpecKind.TheVariants.{UnknownName, NameTaken, WrongKind}
use Rattle.kts_check.specs.declared.symbol_table.SymbolTable.{SymbolTable}
use Rattle.kts_check.specs.declared.declaration.Declaration.{Declaration}
use Rattle.kts_check.specs.declared.declaration.Declaration.TheVariants.{Index, Given, Choice, Formula as Formula_, Manifest}
use Rattle.kts_check.specs.declared.phrase.Phrase.{Phrase}
use Rattle.kts_check.specs.declared.phrase.Phrase.TheVariants as phrase

-- a given or a choice
unfoldable pub family : Names → Word → List Word → Shape → Judged Family
family names word args shape =
    and_then (new_name names word) (λ name. and_then (indexes_of names args) (λ is. and_then (type_of names shape) (λ t. Ok (record { name = name; args = is; kind = t }))))

-- what a tree says, as a formula
abbrev pub as_formula : ℕ → Phrase → Judged Formula
as_formula at (phrase.Value t k) = fail WrongKind at
as_formula at (phrase.Truth p) = Ok p

-- a formula under its name
unfoldable pub formula_declaration : Declarations → Word → Expr → Judged Declaration
formula_declaration d word expr =
    and_then (new_name d.names word) (λ name. and_then (phrase_of d name expr [] (Some 0)) (λ s. and_then (as_formula word.at s) (λ p. Ok (Formula_ name p))))

-- a declaration that is a manifest of this choice
abbrev pub is_manifest_of : ℕ → Decl → Bool
is_manifest_of x (decl.Manifest y) = nat_eq x y
is_manifest_of x (decl.Index i) = false
is_manifest_of x (decl.Given f) = false
is_manifest_of x (decl.Choose y) = false

-- the manifest of a choice by its number, where it has none yet
abbrev pub manifest_of : Declarations → ℕ → ℕ → Option Family → Judged Declaration
manifest_of d at x None = fail WrongKind at
manifest_of d at x (Some family) =
    if assigns_members family then (if list_any (is_manifest_of x) d.decls then fail NameTaken at else Ok (Manifest x)) else fail WrongKind at

-- the manifest of a choice of one argument whose values are members
unfoldable pub manifest : Declarations → ℕ → Option Entry → Judged Declaration
manifest d at None = fail UnknownName at
manifest d at (Some (entry.Index i)) = fail WrongKind at
manifest d at (Some (entry.Given f)) = fail WrongKind at
manifest d at (Some entry.Formula) = fail WrongKind at
manifest d at (Some (entry.Choice x)) = manifest_of d at x (slice_get d.choices x)

-- what a form says after others
unfoldable pub declaration_of : Declarations → Form → Judged Declaration
declaration_of d (form.Index word) = and_then (new_name d.names word) (λ name. Ok (Index name))
declaration_of d (form.Given word args shape) = and_then (family d.names word args shape) (λ f. Ok (Given f))
declaration_of d (form.Choose word args shape) = and_then (family d.names word args shape) (λ f. Ok (Choice f))
declaration_of d (form.Formula word expr) = formula_declaration d word expr
declaration_of d (form.Manifest word) = manifest d word.at (entry_of d.names word.name)

-- what is declared after one form more
unfoldable pub with_declaration : Declarations → Declaration → Declarations
with_declaration d (Index name) = record d {
  names = d.names ++ (name, entry.Index (length d.indexes)) ∷ [];
  decls = d.decls ++ decl.Index (length d.indexes) ∷ [];
  indexes = d.indexes ++ name ∷ [];
}
with_declaration d (Given f) = record d {
  names = d.names ++ (f.name, entry.Given (length d.givens)) ∷ [];
  decls = d.decls ++ decl.Given (length d.givens) ∷ [];
  givens = d.givens ++ f ∷ [];
}
with_declaration d (Choice f) = record d {
  names = d.names ++ (f.name, entry.Choice (length d.choices)) ∷ [];
  decls = d.decls ++ decl.Choose (length d.choices) ∷ [];
  choices = d.choices ++ f ∷ [];
}
with_declaration d (Formula_ name p) = record d {
  names = d.names ++ (name, entry.Formula) ∷ [];
  formulas = d.formulas ++ (name, p) ∷ [];
}
with_declaration d (Manifest x) = record d { decls = d.decls ++ decl.Manifest x ∷ [] }

-- what is declared after forms
unfoldable pub declarations_of : Declarations → List Form → Judged Declarations
declarations_of d [] = Ok d
declarations_of d (f ∷ fs) = and_then (declaration_of d f) (λ m. declarations_of (with_declaration d m) fs)

-- a specification by its parts
pub record Parts : Type 0 where
  pub name : List ℕ
  pub decls : List Decl
  pub indexes : List (List ℕ)
  pub givens : List Family
  pub choices : List Family
  pub tasks : List (List ℕ)
  pub formulas : List (List ℕ × Formula)

-- the parts of a specification
abbrev pub parts : Spec → Parts
parts spec = record {
  name = spec.schema.name;
  decls = spec.schema.decls;
  indexes = spec.schema.indexes;
  givens = spec.schema.givens;
  choices = spec.schema.choices;
  tasks = spec.schema.tasks;
  formulas = spec.formulas;
}

-- a name and declarations as a specification
abbrev pub parts_with : List ℕ → Declarations → Parts
parts_with name d = record {
  name = name;
  decls = d.decls;
  indexes = d.indexes;
  givens = d.givens;
  choices = d.choices;
  tasks = [];
  formulas = d.formulas;
}

-- the specification that forms say, or the fault that comes first
unfoldable pub parts_of : Ast → Judged Parts
parts_of ast = and_then (declarations_of no_declarations ast.forms) (λ d. Ok (parts_with ast.name d))

-- what a table declares, by its parts
abbrev pub declarations_in : SymbolTable → Declarations
declarations_in k = record { names = k.names.entries; decls = k.decls; indexes = k.indexes; givens = k.givens; choices = k.choices; formulas = k.formulas }

-- the name that a form declares isn't declared already
abbrev pub IsNew : Declarations → Declaration → Type 0
IsNew d (Index name) = entry_of d.names name ≡ None
IsNew d (Given f) = entry_of d.names f.name ≡ None
IsNew d (Choice f) = entry_of d.names f.name ≡ None
IsNew d (Formula_ name p) = entry_of d.names name ≡ None
IsNew d (Manifest x) = Unit {0}

-- there are as many declarations as a specification may have at most
pub record IsFew (d : Declarations) : Type 0 where
  pub indexes : length d.indexes ≤ most_indexes
  pub givens : length d.givens ≤ most_givens
  pub choices : length d.choices ≤ most_choices
  pub formulas : length d.formulas ≤ most_formulas
