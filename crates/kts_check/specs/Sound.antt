-- What holds of declarations after forms that fit.
use Rattle.std.specs.Prelude.{◌≡◌, ℕ, ◌<◌, List, ◌++◌, length, fold, count_by, true, false, None, Some}
use Rattle.std.specs.List.{list_all}
use Rattle.kts_spec.specs.Names.{is_language_name, is_among, is_distinct}
use Rattle.kts_spec.specs.Schemas.{nothing_declared, declared_with, are_declarations, declared_names}
use Rattle.kts_spec.specs.Specifications.{is_formula, formula_names}
use Rattle.kts_spec.specs.declared.declarations.Family.{Family}
use Rattle.kts_spec.specs.declared.schema.Schema.{Schema}
use Rattle.kts_syntax.specs.Tops.{is_index, is_given, is_choice, is_formula as is_formula_form}
use Rattle.kts_syntax.specs.declared.form.Form.{Form}
use Rattle.kts_check.specs.Forms.{IsFew}
use Rattle.kts_check.specs.Declarations.{Declarations, entry_of}
use Rattle.kts_check.specs.Specs.{are_small}
use Rattle.kts_check.specs.declared.entry.Entry.{Entry}
use Rattle.kts_check.specs.declared.entry.Entry.TheVariants.{Index, Given, Choice, Formula}

-- all names that are declared
abbrev pub all_names : Declarations → List (List ℕ)
all_names d = declared_names d.indexes d.givens d.choices ++ formula_names d.formulas

-- what a name stands for is there
abbrev pub IsThere : Declarations → Entry → Type 0
IsThere d (Index i) = i < length d.indexes
IsThere d (Given f) = f < length d.givens
IsThere d (Choice x) = x < length d.choices
IsThere d Formula = Unit {0}

-- how many of each kind there are
pub record AreCounted (before : List Form) (d : Declarations) : Type 0 where
  pub indexes : length d.indexes ≡ count_by is_index before
  pub givens : length d.givens ≡ count_by is_given before
  pub choices : length d.choices ≡ count_by is_choice before
  pub formulas : length d.formulas ≡ count_by is_formula_form before

-- the names are names of the language, no two are the same, and each stands for something
pub record AreNamed (d : Declarations) : Type 0 where
  pub named : list_all is_language_name (all_names d) ≡ true
  pub distinct : is_distinct (all_names d) ≡ true
  pub known : (name : List ℕ) → entry_of d.names name ≡ None → is_among (all_names d) name ≡ false
  pub there : (name : List ℕ) (entry : Entry) → entry_of d.names name ≡ Some entry → IsThere d entry

-- a schema whose declarations begin with these
pub record Extends (d : Declarations) (schema : Schema) : Type 0 where
  pub more_indexes : List (List ℕ)
  pub more_givens : List Family
  pub more_choices : List Family
  pub indexes : schema.indexes ≡ d.indexes ++ more_indexes
  pub givens : schema.givens ≡ d.givens ++ more_givens
  pub choices : schema.choices ≡ d.choices ++ more_choices

-- the declarations are those of a schema, whatever families follow
pub record AreDeclared (d : Declarations) : Type 0 where
  pub declared : (gs cs : List Family) → are_declarations (d.givens ++ gs) (d.choices ++ cs) nothing_declared d.decls ≡ true
  pub indexes : (fold declared_with nothing_declared d.decls).indexes ≡ length d.indexes
  pub givens : (fold declared_with nothing_declared d.decls).givens ≡ length d.givens
  pub choices : (fold declared_with nothing_declared d.decls).choices ≡ length d.choices

-- the declarations after forms are those of a specification
pub record AreConsistent (before : List Form) (d : Declarations) : Type 0 where
  pub counted : AreCounted before d
  pub few : IsFew d
  pub names : AreNamed d
  pub declarations : AreDeclared d
  pub typed : (schema : Schema) → Extends d schema → list_all (λ f. is_formula schema f.1) d.formulas ≡ true
  pub small : (schema : Schema) → Extends d schema → are_small d.formulas ≡ true
