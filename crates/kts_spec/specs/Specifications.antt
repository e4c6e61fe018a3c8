-- What formulas a specification may have.
use Rattle.std.specs.Prelude.{ℕ, List, [], ◌++◌, length, map, Bool, ◌&&◌, nat_le}
use Rattle.std.specs.List.{list_all}
use Rattle.kts_base.specs.Limits.{most_formulas}
use Rattle.kts_spec.specs.declared.schema.Schema.{Schema}
use Rattle.kts_spec.specs.declared.tree.Formula.{Formula}
use Rattle.kts_spec.specs.Names.{is_language_name, is_distinct}
use Rattle.kts_spec.specs.Schemas.{declared_names}
use Rattle.kts_spec.specs.Sizes.{size_of_formula, keeps_limits, has_short_prefixes}
use Rattle.kts_spec.specs.Typing.{is_typed}

-- a formula of a specification with these declarations
unfoldable pub is_formula : Schema → Formula → Bool
is_formula schema p = is_typed schema p [] && has_short_prefixes p 0 && keeps_limits (size_of_formula p)

-- the names of formulas
abbrev pub formula_names : List (List ℕ × Formula) → List (List ℕ)
formula_names = map (λ f. f.0)

-- all names of a specification
abbrev pub names_of : Schema → List (List ℕ × Formula) → List (List ℕ)
names_of schema formulas = declared_names schema.indexes schema.givens schema.choices ++ formula_names formulas

-- the formulas of a specification with these declarations
unfoldable pub is_spec : Schema → List (List ℕ × Formula) → Bool
is_spec schema formulas =
    nat_le (length formulas) most_formulas && list_all is_language_name (formula_names formulas)
    && is_distinct (names_of schema formulas) && list_all (λ f. is_formula schema f.1) formulas
