-- The instance that a data file says, or the first thing that is wrong: the members and the values of each index and each
-- given, in the order of their declarations; then keys that nothing declares; then the numbers of cells and of tasks.
use Rattle.std.specs.Prelude.{ℕ, ◌+◌, ℤ, pos, int_le, List, [], ◌∷◌, ◌++◌, length, map, nat_le, ◌&&◌, if◌then◌else◌, Option, Some, None, option_map, option_and_then, Ok, Err, slice_index_or}
use Rattle.std.specs.List.{position}
use Rattle.serde_json.specs.Data.{Data, Members}
use Rattle.serde_json.specs.Find.{as_object, as_str, as_number, as_i64}
use Rattle.kts_base.specs.Limits.{most_members, most_cells, most_tasks}
use Rattle.kts_base.specs.Names.{name_of}
use Rattle.kts_base.specs.Reads.{and_then}
use Rattle.kts_spec.specs.declared.declarations.Decl.{Decl}
use Rattle.kts_spec.specs.declared.declarations.Decl.TheVariants.{Index, Given, Choose, Manifest}
use Rattle.kts_spec.specs.declared.declarations.Family.{Family}
use Rattle.kts_spec.specs.declared.declarations.ValueType.{ValueType}
use Rattle.kts_spec.specs.declared.declarations.ValueType.TheVariants.{Int, Member}
use Rattle.kts_spec.specs.declared.instance.Instance.{Instance}
use Rattle.kts_spec.specs.declared.schema.Schema.{Schema}
use Rattle.kts_spec.specs.Data.{task_count}
use Rattle.kts_spec.specs.Names.{same_name, is_among}
use Rattle.kts_spec.specs.Places.{cell_count}
use Rattle.kts_spec.specs.Schemas.{family_at}
use Rattle.kts_spec.specs.Worlds.{world_of}
use Rattle.kts_data.specs.Faults.{Read, fault, or_fault, fold_read}
use Rattle.kts_data.specs.Json.{json_of, value_under, elements, so_many, keys, unknown_from}
use Rattle.kts_data.specs.declared.fault.Reason.{Reason}
use Rattle.kts_data.specs.declared.fault.Reason.TheVariants.{NotObject, UnknownName, NotText, BadName, Repeated, NotWhole, OutOfRange, UnknownMember, TooManyMembers, TooManyCells, TooManyTasks}

-- ---- members

-- a name that is new after these
abbrev pub new_member : List ℕ → List (List ℕ) → List ℕ → Read (List ℕ)
new_member index before name = if is_among before name then Err (fault (Some index) (length before) Repeated) else Ok name

-- a member after these
unfoldable pub member_after : List ℕ → List (List ℕ) → Data → Read (List ℕ)
member_after index before d =
    and_then (or_fault (as_str d) (fault (Some index) (length before) NotText)) (λ text.
    and_then (or_fault (name_of text) (fault (Some index) (length before) BadName)) (new_member index before))

-- members with one more
unfoldable pub with_member : List ℕ → List (List ℕ) → Data → Read (List (List ℕ))
with_member index before d = and_then (member_after index before d) (λ name. Ok (before ++ name ∷ []))

-- the members of an index
unfoldable pub members_of : List ℕ → Data → Read (List (List ℕ))
members_of index d = and_then (elements index 0 d) (λ ds.
    if nat_le (length ds) most_members then fold_read (with_member index) [] ds else Err (fault (Some index) 0 (TooManyMembers (length ds))))

-- ---- values

-- the members of each index, those of one by its number, and how many they are
abbrev pub members_at : List (List (List ℕ)) → ℕ → List (List ℕ)
members_at members i = slice_index_or members i []

abbrev pub size_at : List (List (List ℕ)) → ℕ → ℕ
size_at members i = length (members_at members i)

-- a number between two ends
abbrev pub in_range : List ℕ → ℤ → ℤ → ℕ → ℤ → Read ℤ
in_range name lo hi element n = if int_le lo n && int_le n hi then Ok n else Err (fault (Some name) element OutOfRange)

-- the position of the member with this name; a text that is no name names none
abbrev pub place_of_name : List (List ℕ) → List ℕ → Option ℤ
place_of_name names name = option_map pos (position (same_name name) names)

abbrev pub place_in : List (List ℕ) → List ℕ → Option ℤ
place_in names text = option_and_then (place_of_name names) (name_of text)

module _ (members : List (List (List ℕ))) where
  -- a value of a type
  unfoldable pub value_of : List ℕ → ValueType → ℕ → Data → Read ℤ
  value_of name (Int lo hi) element d =
      and_then (or_fault (option_and_then as_i64 (as_number d)) (fault (Some name) element NotWhole)) (in_range name lo hi element)
  value_of name (Member i) element d =
      and_then (or_fault (as_str d) (fault (Some name) element NotText)) (λ text.
      or_fault (place_in (members_at members i) text) (fault (Some name) element UnknownMember))

  -- values of a family with one more
  unfoldable pub with_value : Family → List ℤ → Data → Read (List ℤ)
  with_value family before d = and_then (value_of family.name family.kind (length before) d) (λ v. Ok (before ++ v ∷ []))

  -- the values of so many rows, with one row more, which has so many values
  unfoldable pub with_row : Family → ℕ → ℕ × List ℤ → Data → Read (ℕ × List ℤ)
  with_row family width (r, before) d =
      and_then (so_many family.name r width d) (λ row. and_then (fold_read (with_value family) before row) (λ all. Ok (r + 1, all)))

  -- the values of a family, one for each tuple of its arguments
  unfoldable pub table_by : Family → List ℕ → Data → Read (List ℤ)
  table_by family [] d = with_value family [] d
  table_by family (i ∷ []) d = and_then (so_many family.name 0 (size_at members i) d) (fold_read (with_value family) [])
  table_by family (i ∷ j ∷ []) d =
      and_then (so_many family.name 0 (size_at members i) d) (λ rows. and_then (fold_read (with_row family (size_at members j)) (0, []) rows) (λ all. Ok all.1))
  table_by family (i ∷ j ∷ k ∷ others) d = Ok []

  abbrev pub table_of : Family → Data → Read (List ℤ)
  table_of family d = table_by family family.args d

-- ---- the whole

-- the name of an index
abbrev pub index_name : Schema → ℕ → List ℕ
index_name schema i = slice_index_or schema.indexes i []

-- an instance with the members of one index more, and with the values of one given more
abbrev pub with_members : Instance → List (List ℕ) → Instance
with_members inst names = record { members = inst.members ++ names ∷ []; values = inst.values }

abbrev pub with_values : Instance → List ℤ → Instance
with_values inst values = record { members = inst.members; values = inst.values ++ values ∷ [] }

abbrev pub empty_instance : Instance
empty_instance = record { members = []; values = [] }

module _ (schema : Schema) (d : Data) where
  -- the instance after one declaration more
  unfoldable pub with_declaration : Instance → Decl → Read Instance
  with_declaration inst (Index i) = and_then (and_then (value_under (index_name schema i) d) (members_of (index_name schema i))) (λ names. Ok (with_members inst names))
  with_declaration inst (Given f) =
      and_then (and_then (value_under (family_at schema.givens f).name d) (table_of inst.members (family_at schema.givens f))) (λ values. Ok (with_values inst values))
  with_declaration inst (Choose x) = Ok inst
  with_declaration inst (Manifest x) = Ok inst

-- the names that a data file has as keys
abbrev pub data_names : Schema → List (List ℕ)
data_names schema = schema.indexes ++ map (λ (family : Family). family.name) schema.givens

-- a key that is no name
abbrev pub or_unknown : {A : Type 0} → Option ℕ → A → Read A
or_unknown None a = Ok a
or_unknown (Some k) a = Err (fault None k UnknownName)

-- what has so many, where these are at most as many as it may have
abbrev pub if_few : {A : Type 0} → ℕ → ℕ → Reason → A → Read A
if_few n most reason a = if nat_le n most then Ok a else Err (fault None 0 reason)

abbrev pub cells_in : Schema → Instance → ℕ
cells_in schema inst = cell_count (world_of schema inst) schema.choices

abbrev pub tasks_in : Schema → Instance → ℕ
tasks_in schema inst = task_count (world_of schema inst) schema.tasks

-- an instance that has few enough cells, and then few enough tasks
unfoldable pub within_limits : Schema → Instance → Read Instance
within_limits schema inst =
    and_then (if_few (cells_in schema inst) most_cells (TooManyCells (cells_in schema inst)) inst)
    (if_few (tasks_in schema inst) most_tasks (TooManyTasks (tasks_in schema inst)))

-- what an object says, by its keys
abbrev pub object_says : Schema → Data → Members → Read Instance
object_says schema d ms =
    and_then (fold_read (with_declaration schema d) empty_instance schema.decls) (λ inst. and_then (or_unknown (unknown_from (data_names schema) 0 (keys ms)) inst) (within_limits schema))

unfoldable pub value_says : Schema → Data → Read Instance
value_says schema d = and_then (or_fault (as_object d) (fault None 0 NotObject)) (object_says schema d)

-- the instance that the bytes of a data file say
unfoldable pub data_of : Schema → List ℕ → Read Instance
data_of schema bytes = and_then (json_of bytes) (value_says schema)
