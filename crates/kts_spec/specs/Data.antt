-- Which data are valid for a schema.
use Rattle.std.specs.Prelude.{ℕ, ℤ, int_le, List, [], ◌∷◌, length, map, sum, Bool, true, false, ◌&&◌, nat_eq, nat_le}
use Rattle.std.specs.List.{list_all}
use Rattle.kts_spec.specs.declared.declarations.ValueType.{ValueType}
use Rattle.kts_spec.specs.declared.declarations.ValueType.TheVariants.{Int, Member}
use Rattle.kts_spec.specs.declared.declarations.Family.{Family}
use Rattle.kts_base.specs.Limits.{most_members, most_cells, most_tasks}
use Rattle.kts_spec.specs.declared.schema.Schema.{Schema}
use Rattle.kts_spec.specs.declared.instance.Instance.{Instance}
use Rattle.kts_spec.specs.Names.{is_distinct}
use Rattle.kts_spec.specs.Places.{is_in, count_of, cell_count}
use Rattle.kts_spec.specs.Worlds.{World, world_of, size_of, sizes_of}

-- whether a number is a value of a type
abbrev pub is_value : World → ValueType → ℤ → Bool
is_value w (Int lo hi) v = int_le lo v && int_le v hi
is_value w (Member i) v = is_in (size_of w i) v

-- the members of an index
abbrev pub are_members_valid : List (List ℕ) → Bool
are_members_valid names = nat_le (length names) most_members && is_distinct names

-- the values of a given: one for each tuple of its arguments, each of its type
abbrev pub is_table : World → Family → List ℤ → Bool
is_table w family values =
    nat_eq (length values) (count_of (sizes_of w family)) && list_all (is_value w family.kind) values

-- the values of each given
abbrev pub are_tables : World → List Family → List (List ℤ) → Bool
are_tables w [] [] = true
are_tables w [] (values ∷ tables) = false
are_tables w (family ∷ families) [] = false
are_tables w (family ∷ families) (values ∷ tables) = is_table w family values && are_tables w families tables

-- the number of tasks of constraints with variables of these indexes
abbrev pub task_count : World → List (List ℕ) → ℕ
task_count w prefixes = sum (map (λ prefix. count_of (map (size_of w) prefix)) prefixes)

-- whether an instance is valid for a schema
unfoldable pub is_valid : Schema → Instance → Bool
is_valid schema inst =
    nat_eq (length inst.members) (length schema.indexes) && list_all are_members_valid inst.members
    && are_tables (world_of schema inst) schema.givens inst.values
    && nat_le (cell_count (world_of schema inst) schema.choices) most_cells
    && nat_le (task_count (world_of schema inst) schema.tasks) most_tasks
