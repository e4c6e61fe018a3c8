-- Variables in scope.
use Rattle.std.specs.Prelude.{ℕ, suc, List, [], ◌∷◌, Option, Some, None, if◌then◌else◌}
use Rattle.kts_spec.specs.Names.{same_name}

-- the variables, each with its index, the outermost first
abbrev pub Scope : Type 0
Scope = List (List ℕ × ℕ)

-- the number of a variable with its index, where the first has number k
abbrev pub variable_from : ℕ → Scope → List ℕ → Option (ℕ × ℕ)
variable_from k [] name = None
variable_from k (v ∷ scope) name = if same_name v.0 name then Some (k, v.1) else variable_from (suc k) scope name

-- the number of a variable with its index
abbrev pub variable : Scope → List ℕ → Option (ℕ × ℕ)
variable = variable_from 0
