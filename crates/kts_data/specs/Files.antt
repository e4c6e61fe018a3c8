-- What data files and plan files are, rule by rule and in no order: an instance that a data file says, a schedule that a plan file says.
use Rattle.std.specs.Prelude.{◌≡◌, ℕ, ℤ, pos, List, [], ◌∷◌, ◌++◌, length, true, Some, option_map, option_and_then, slice_get}
use Rattle.std.specs.List.{Contains}
use Rattle.std.specs.Str.{IsUtf8}
use Rattle.serde_json.specs.Data.{Data, Members}
use Rattle.serde_json.specs.Find.{get, as_array, as_object, as_str, as_number, as_i64}
use Rattle.serde_json.specs.Read.{read}
use Rattle.kts_base.specs.Names.{is_name}
use Rattle.kts_spec.specs.declared.declarations.Family.{Family}
use Rattle.kts_spec.specs.declared.declarations.ValueType.{ValueType}
use Rattle.kts_spec.specs.declared.declarations.ValueType.TheVariants.{Int, Member}
use Rattle.kts_spec.specs.declared.instance.Instance.{Instance}
use Rattle.kts_spec.specs.declared.schema.Schema.{Schema}
use Rattle.kts_spec.specs.Data.{is_valid}
use Rattle.kts_spec.specs.Related.{Pairs, AllOf}
use Rattle.kts_spec.specs.Schedules.{schedules}
use Rattle.kts_spec.specs.Worlds.{world_of}
use Rattle.kts_data.specs.Instances.{members_at, size_at, data_names}
use Rattle.kts_data.specs.Json.{list_of, keys}
use Rattle.kts_data.specs.Plans.{plan_names}

-- an object with these members, none of which has another key than these
pub record IsObject (names : List (List ℕ)) (bytes : List ℕ) : Type 0 where
  pub json : Data
  pub members : Members
  pub text : IsUtf8 bytes
  pub reads : read bytes ≡ Some json
  pub object : as_object json ≡ Some members
  pub known : (key : List ℕ) → Contains (keys members) key → Contains names key

-- a list of these
abbrev pub IsList : Data → List Data → Type 0
IsList d ds = option_map list_of (as_array d) ≡ Some ds

-- the texts of these names, one after another
abbrev pub SaysMembers : Data → List (List ℕ) → Type 0
SaysMembers d names = (ds : List Data) × IsList d ds × Pairs (λ each name. as_str each ≡ Some name) ds names

module _ (members : List (List (List ℕ))) where
  -- a value of a type: a whole number, or the name of a member, which has this position
  abbrev pub SaysValue : ValueType → Data → ℤ → Type 0
  SaysValue (Int lo hi) d v = option_and_then as_i64 (as_number d) ≡ Some v
  SaysValue (Member i) d v = (m : ℕ) × (name : List ℕ) × (v ≡ pos m) × (slice_get (members_at members i) m ≡ Some name) × (as_str d ≡ Some name)

  -- values of a type, one after another
  abbrev pub SaysValues : ValueType → List Data → List ℤ → Type 0
  SaysValues kind = Pairs (SaysValue kind)

  -- rows of so many values each, the values of one row after those of the row before
  pub data SaysRows (kind : ValueType) (width : ℕ) : List Data → List ℤ → Type 0 where
    no_row : SaysRows kind width [] []
    row : (d : Data) (ds rest : List Data) (values more : List ℤ) → IsList d ds → length ds ≡ width → SaysValues kind ds values
        → SaysRows kind width rest more → SaysRows kind width (d ∷ rest) (values ++ more)

  -- the values of a family with arguments of these indexes, one for each tuple in lexicographic order
  abbrev pub SaysTable : ValueType → List ℕ → Data → List ℤ → Type 0
  SaysTable kind [] d values = SaysValues kind (d ∷ []) values
  SaysTable kind (i ∷ []) d values = (ds : List Data) × IsList d ds × (length ds ≡ size_at members i) × SaysValues kind ds values
  SaysTable kind (i ∷ j ∷ []) d values = (ds : List Data) × IsList d ds × (length ds ≡ size_at members i) × SaysRows kind (size_at members j) ds values
  SaysTable kind (i ∷ j ∷ k ∷ more) d values = values ≡ []

  -- an object has the values of a family under its name
  abbrev pub HasTable : Data → Family → List ℤ → Type 0
  HasTable json family values = (d : Data) × (get family.name json ≡ Some d) × SaysTable family.kind family.args d values

-- an object has the members of an index under its name
abbrev pub HasMembers : Data → List ℕ → List (List ℕ) → Type 0
HasMembers json name names = (d : Data) × (get name json ≡ Some d) × SaysMembers d names

-- every member has a name
abbrev pub AreNamed : List (List (List ℕ)) → Type 0
AreNamed = AllOf (AllOf (λ name. is_name name ≡ true))

-- the bytes of a data file that says this instance: an object with the members of each index and the values of each given, and
-- with no other key; and the instance is valid for the schema
pub record DataOf (schema : Schema) (bytes : List ℕ) (inst : Instance) : Type 0 where
  pub object : IsObject (data_names schema) bytes
  pub members : Pairs (HasMembers object.json) schema.indexes inst.members
  pub values : Pairs (HasTable inst.members object.json) schema.givens inst.values
  pub named : AreNamed inst.members
  pub valid : is_valid schema inst ≡ true

-- tables one after another
abbrev pub joined_tables : List (List ℤ) → List ℤ
joined_tables [] = []
joined_tables (values ∷ tables) = values ++ joined_tables tables

-- the bytes of a plan file that says this schedule: an object with the values of each choice, and with no other key; and the
-- schedule is one of all
pub record PlanOf (schema : Schema) (inst : Instance) (bytes : List ℕ) (schedule : List ℤ) : Type 0 where
  pub object : IsObject (plan_names schema) bytes
  pub tables : List (List ℤ)
  pub values : Pairs (HasTable inst.members object.json) schema.choices tables
  pub joined : schedule ≡ joined_tables tables
  pub among : Contains (schedules (world_of schema inst)) schedule
