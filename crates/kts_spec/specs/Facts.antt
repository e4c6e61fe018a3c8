-- What the conditions of a schema, of a specification and of data say of their parts.
use Rattle.std.specs.Prelude.{◌≡◌, ◌≤◌, ◌<◌, ◌↔◌, ◌^◌, List, length, Bool, true, ◌&&◌, nat_lt}
use Rattle.std.specs.List.{list_all}
use Rattle.kts_spec.specs.declared.declarations.Family.{Family}
use Rattle.kts_spec.specs.declared.declarations.Decl.{Decl}
use Rattle.kts_spec.specs.declared.declarations.Decl.TheVariants.{Manifest}
use Rattle.kts_base.specs.Limits.{most_indexes, most_givens, most_choices, most_formulas, most_cells, most_tasks}
use Rattle.kts_spec.specs.declared.schema.Schema.{Schema}
use Rattle.kts_spec.specs.declared.spec.Spec.{Spec}
use Rattle.kts_spec.specs.declared.instance.Instance.{Instance}
use Rattle.kts_spec.specs.Data.{are_members_valid, are_tables, task_count, is_valid}
use Rattle.kts_spec.specs.Places.{cell_count}
use Rattle.kts_spec.specs.Worlds.{world_of}
use Rattle.kts_spec.specs.Names.{is_language_name, is_distinct}
use Rattle.kts_spec.specs.Schemas.{is_family, is_prefix, assigns_members, family_at, declared_names}
use Rattle.kts_spec.specs.Specifications.{is_formula, formula_names, names_of}

-- a manifest is of a choice that gives members members
abbrev pub is_manifest : List Family → Decl → Bool
is_manifest choices (Manifest x) = nat_lt x (length choices) && assigns_members (family_at choices x)
is_manifest choices other = true

-- every family and every prefix is over the indexes that are there
pub record SchemaFacts (schema : Schema) : Type 0 where
  pub few_indexes : length schema.indexes ≤ most_indexes
  pub few_givens : length schema.givens ≤ most_givens
  pub few_choices : length schema.choices ≤ most_choices
  pub few_tasks : length schema.tasks < 2 ^ 32
  pub named : is_language_name schema.name ≡ true
  pub names : list_all is_language_name (declared_names schema.indexes schema.givens schema.choices) ≡ true
  pub distinct : is_distinct (declared_names schema.indexes schema.givens schema.choices) ≡ true
  pub givens : list_all (is_family (length schema.indexes)) schema.givens ≡ true
  pub choices : list_all (is_family (length schema.indexes)) schema.choices ≡ true
  pub manifests : list_all (is_manifest schema.choices) schema.decls ≡ true
  pub prefixes : list_all (is_prefix (length schema.indexes)) schema.tasks ≡ true

-- every formula is one of the specification
pub record SpecFacts (spec : Spec) : Type 0 where
  pub few_formulas : length spec.formulas ≤ most_formulas
  pub names : list_all is_language_name (formula_names spec.formulas) ≡ true
  pub distinct : is_distinct (names_of spec.schema spec.formulas) ≡ true
  pub formulas : list_all (λ f. is_formula spec.schema f.1) spec.formulas ≡ true

-- every index has its members, and every given its values
pub record InstanceFacts (schema : Schema) (inst : Instance) : Type 0 where
  pub indexes : length inst.members ≡ length schema.indexes
  pub members : list_all are_members_valid inst.members ≡ true
  pub tables : are_tables (world_of schema inst) schema.givens inst.values ≡ true
  pub few_cells : cell_count (world_of schema inst) schema.choices ≤ most_cells
  pub few_tasks : task_count (world_of schema inst) schema.tasks ≤ most_tasks

-- every schema, and every specification, keeps its condition
abbrev pub SchemasKeep : Type 0
SchemasKeep = (schema : Schema) → SchemaFacts schema

abbrev pub SpecsKeep : Type 0
SpecsKeep = (spec : Spec) → SpecFacts spec

-- an instance is valid if and only if it keeps its condition
abbrev pub InstancesKeep : Type 0
InstancesKeep = (schema : Schema) (inst : Instance) → (is_valid schema inst ≡ true) ↔ InstanceFacts schema inst
