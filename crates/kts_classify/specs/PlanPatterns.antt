-- The patterns that pair the tasks of a plan with the cells that they read.
use Rattle.std.specs.Prelude.{ℕ, List, [], ◌∷◌, ◌++◌, length, map, flat_map, fold, take, drop, slice_index_or, Bool, true, false, ◌&&◌}
use Rattle.std.specs.Prelude.{nat_eq, Option, Some, None, if◌then◌else◌}
use Rattle.std.specs.List.{enumerate_from, list_any}
use Rattle.kts_index.specs.declared.pattern.Pattern.{Pattern}
use Rattle.kts_plan.specs.Constraints.{Constraint, constraint_of}
use Rattle.kts_plan.specs.TaskReads.{constraint_reads, prefix_arguments}
use Rattle.kts_abs.specs.declared.demand.Op.TheVariants.{AtLeast}
use Rattle.kts_plan.specs.declared.bound.Bound.TheVariants.{Rest}
use Rattle.kts_plan.specs.declared.definite.Definite.{Definite}
use Rattle.kts_plan.specs.declared.plan.Plan.{Plan}
use Rattle.kts_spec.specs.Reads.{Access}

-- the pattern of an access, for a constraint with so many variables: an argument names a variable of the prefix, or nothing
abbrev pub access_pattern : ℕ → ℕ → Access → Pattern
access_pattern definite variables a = record { definite = definite; choice = a.0; args = prefix_arguments variables a.1 }

-- whether two arguments are the same, and whether all are
abbrev pub same_argument : Option ℕ → Option ℕ → Bool
same_argument None None = true
same_argument (Some k) (Some m) = nat_eq k m
same_argument a b = false

abbrev pub same_arguments : List (Option ℕ) → List (Option ℕ) → Bool
same_arguments [] [] = true
same_arguments (a ∷ args) (b ∷ others) = same_argument a b && same_arguments args others
same_arguments args others = false

-- whether two patterns of one constraint are the same
abbrev pub is_alike : Pattern → Pattern → Bool
is_alike p q = nat_eq p.choice q.choice && same_arguments p.args q.args

-- patterns with one more, unless it stands already
abbrev pub with_new : List Pattern → Pattern → List Pattern
with_new patterns p = if list_any (is_alike p) patterns then patterns else patterns ++ p ∷ []

-- each pattern once, where it stands first
abbrev pub distinct : List Pattern → List Pattern
distinct = fold with_new []

-- the patterns of a constraint by its number
abbrev pub constraint_patterns : ℕ × Constraint → List Pattern
constraint_patterns (definite, c) = distinct (map (access_pattern definite (length c.prefix)) (constraint_reads c))

-- the constraints of a plan
abbrev pub constraints_in : Plan → List Constraint
constraints_in plan = map (constraint_of plan.clauses) plan.definites

-- the patterns of all constraints, in order
abbrev pub patterns_of : Plan → List Pattern
patterns_of plan = flat_map constraint_patterns (enumerate_from 0 (constraints_in plan))

-- the constraint of this number
abbrev pub definite_at : List Definite → ℕ → Definite
definite_at definites k = slice_index_or definites k (record { clause = 0; literal = 0; head = record { choice = 0; args = []; op = AtLeast; bound = Rest [] } })

-- patterns of which those from a place on are of one constraint, with others of it
unfoldable pub extended : ℕ → List Pattern → List Pattern → List Pattern
extended first patterns others = take first patterns ++ fold with_new (drop first patterns) others
