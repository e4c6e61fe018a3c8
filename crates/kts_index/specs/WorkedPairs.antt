-- A small schema on data, and patterns for it.
use Rattle.std.specs.Prelude.{◌≡◌, refl, ℕ, true, List, [], ◌∷◌, Some, None, codes}
use Rattle.kts_spec.specs.DataExamples.{schema_of, sized}
use Rattle.kts_spec.specs.Examples.{family, below}
use Rattle.kts_spec.specs.Schemas.{is_schema}
use Rattle.kts_spec.specs.declared.declarations.Decl.{Decl}
use Rattle.kts_spec.specs.declared.declarations.Decl.TheVariants.{Index, Choose}
use Rattle.kts_spec.specs.declared.declarations.Family.{Family}
use Rattle.kts_spec.specs.declared.declarations.ValueType.TheVariants.{Member}
use Rattle.kts_spec.specs.declared.schema.Schema.{Schema}
use Rattle.kts_spec.specs.declared.instance.Instance.{Instance}
use Rattle.kts_index.specs.declared.pattern.Pattern.{Pattern}
use Rattle.kts_index.specs.Pairs.{pairs}

-- (index I) (index J) (choose x (I J) (int 0 3)) (choose y (I I) J) (choose z () (int 0 5))
abbrev pub decls : List Decl
decls = Index 0 ∷ Index 1 ∷ Choose 0 ∷ Choose 1 ∷ Choose 2 ∷ []

-- these choices
abbrev pub choices : List Family
choices = family (codes "x") (0 ∷ 1 ∷ []) (below 3) ∷ family (codes "y") (0 ∷ 0 ∷ []) (Member 1) ∷ family (codes "z") [] (below 5) ∷ []

-- the prefixes of four constraints
abbrev pub prefixes : List (List ℕ)
prefixes = (0 ∷ 1 ∷ []) ∷ (1 ∷ []) ∷ [] ∷ (0 ∷ 0 ∷ 1 ∷ []) ∷ []

-- they are a schema
pub keeps : is_schema (codes "s") decls (codes "I" ∷ codes "J" ∷ []) [] choices prefixes ≡ true
unfolding is_schema
keeps = refl

-- with four constraints
abbrev pub four_constraints : Schema
four_constraints = schema_of decls (codes "I" ∷ codes "J" ∷ []) [] choices prefixes keeps

-- three members of I and two of J: the tasks of the constraints are 0 to 5, 6 and 7, 8, and 9 to 26
abbrev pub three_and_two : Instance
three_and_two = sized (3 ∷ 2 ∷ [])

-- patterns of each constraint: two that overlap, two that mirror each other, one that names a variable twice
abbrev pub eight_patterns : List Pattern
eight_patterns =
    record { definite = 0; choice = 0; args = Some 0 ∷ Some 1 ∷ [] }
    ∷ record { definite = 0; choice = 0; args = None ∷ Some 1 ∷ [] }
    ∷ record { definite = 1; choice = 0; args = None ∷ Some 0 ∷ [] }
    ∷ record { definite = 2; choice = 2; args = [] }
    ∷ record { definite = 3; choice = 1; args = Some 0 ∷ Some 1 ∷ [] }
    ∷ record { definite = 3; choice = 1; args = Some 1 ∷ Some 0 ∷ [] }
    ∷ record { definite = 3; choice = 0; args = Some 1 ∷ Some 2 ∷ [] }
    ∷ record { definite = 3; choice = 1; args = Some 0 ∷ Some 0 ∷ [] }
    ∷ []

-- these tasks are paired with the cell of a choice at these members
abbrev pub Gives : ℕ → List ℕ → List ℕ → Type 0
Gives x cell ts = pairs eight_patterns four_constraints three_and_two x cell ≡ ts
