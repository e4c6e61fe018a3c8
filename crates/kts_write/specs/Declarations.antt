-- What declarations name.
use Rattle.std.specs.Prelude.{ℕ, ◌<◌, ⊤, length}
use Rattle.kts_spec.specs.declared.declarations.Decl.{Decl}
use Rattle.kts_spec.specs.declared.declarations.Decl.TheVariants.{Index, Given, Choose, Manifest}
use Rattle.kts_spec.specs.declared.schema.Schema.{Schema}

-- a declaration names one of so many indexes, givens or choices
abbrev pub IsWithin : ℕ → ℕ → ℕ → Decl → Type 0
IsWithin indexes givens choices (Index index) = index < indexes
IsWithin indexes givens choices (Given f) = f < givens
IsWithin indexes givens choices (Choose x) = x < choices
IsWithin indexes givens choices (Manifest x) = ⊤

-- a declaration names what is in the schema
abbrev pub IsIn : Schema → Decl → Type 0
IsIn schema = IsWithin (length schema.indexes) (length schema.givens) (length schema.choices)
