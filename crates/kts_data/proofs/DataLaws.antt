-- The instance that a data file says is the one that is read.
use Rattle.std.proofs.Common.{◌≡◌, refl, sym, ◌∙◌, ap, subst, ⊎_elim, ℕ, ◌<◌, ◌≤◌, arith, List, [], length, take, true, nat_le, nat_lt, nat_eq, None, Ok, Err, ℤ, ◌^◌}
use Rattle.std.specs.List.{list_all}
use Rattle.std.proofs.lemmas.Bool.{and_parts, cases_lt}
use Rattle.std.proofs.lemmas.List.{take_all, get_or_past}
use Rattle.serde_json.specs.Data.{Data}
use Rattle.kts_base.specs.Limits.{most_cells, most_tasks}
use Rattle.kts_base.specs.Names.{is_name}
use Rattle.kts_base.specs.Reads.{and_then}
use Rattle.kts_base.proofs.Orders.{nat_le_yes, yes_nat_le}
use Rattle.kts_spec.specs.declared.declarations.Family.{Family}
use Rattle.kts_spec.specs.declared.instance.Instance.{Instance}
use Rattle.kts_spec.specs.declared.schema.Schema.{Schema}
use Rattle.kts_spec.specs.Data.{are_members_valid, is_table, is_valid}
use Rattle.kts_spec.specs.Names.{is_distinct}
use Rattle.kts_spec.specs.Related.{Pairs}
use Rattle.kts_spec.specs.Schemas.{nothing_declared, are_declarations, has_counts, family_at, no_family, is_family, is_prefix, is_schema}
use Rattle.kts_spec.specs.Worlds.{world_of}
use Rattle.kts_spec.proofs.CellPlaces.{table_fits}
use Rattle.kts_spec.proofs.Conditions.{same_number, schema_facts, instance_facts, instance_valid}
use Rattle.kts_data.specs.Faults.{fault, fold_read}
use Rattle.kts_data.specs.Files.{HasMembers, HasTable, AreNamed, DataOf}
use Rattle.kts_data.specs.Instances.{members_at, members_of, table_of, index_name, with_declaration, empty_instance, data_names, or_unknown, if_few, cells_in, tasks_in, within_limits, object_says, value_says, data_of}
use Rattle.kts_data.specs.Json.{value_under, keys, unknown_from}
use Rattle.kts_data.specs.declared.fault.Reason.{Reason}
use Rattle.kts_data.specs.declared.fault.Reason.TheVariants.{TooManyCells, TooManyTasks}
use Rattle.kts_data.proofs.Declared.{values_at, index_read, family_read, ending, first_parts, grown, all_on}
use Rattle.kts_data.proofs.KeyFacts.{under_sound, under_complete, known_complete, unknown_parts, object_sound, object_of, object_complete}
use Rattle.kts_data.proofs.MembersLaws.{AllNamed, members_sound, members_complete}
use Rattle.kts_data.proofs.PairPlaces.{pairs_from, pairs_length, pairs_at, each_from, each_at, each_get, passes_from, passes_at, tables_from, size_is}
use Rattle.kts_data.proofs.ReadParts.{same_ok, then_parts, then_from, test_parts, test_from}
use Rattle.kts_data.proofs.TableLaws.{table_sound, table_complete}
use Rattle.kts_data.proofs.ValueReads.{AreGood}

-- ---- one index and one family

-- the members that are read of an index
pub index_sound : (schema : Schema) (json : Data) (i : ℕ) (names : List (List ℕ)) → index_read schema json i ≡ Ok names
    → HasMembers json (index_name schema i) names × AllNamed names × (are_members_valid names ≡ true)
index_sound schema json i names h =
    let p = then_parts (value_under (index_name schema i) json) (members_of (index_name schema i)) names h in
    let m = members_sound (index_name schema i) p.0 names p.2 in
    ((p.0, under_sound (index_name schema i) json p.0 p.1, m.0), m.1, m.2)

-- members that the file says of an index are read
pub index_complete : (schema : Schema) (json : Data) (i : ℕ) (names : List (List ℕ)) → HasMembers json (index_name schema i) names → AllNamed names
    → are_members_valid names ≡ true → index_read schema json i ≡ Ok names
index_complete schema json i names (d, e, says) named valid =
    then_from (value_under (index_name schema i) json) (members_of (index_name schema i)) d (under_complete (index_name schema i) json d e)
    ∙ members_complete (index_name schema i) d names says named valid

-- the values that are read of a family
pub family_sound : (schema : Schema) (inst : Instance) (json : Data) (k : ℕ) (family : Family) (values : List ℤ) → is_family k family ≡ true
    → family_read inst.members json family ≡ Ok values
    → HasTable inst.members json family values × (is_table (world_of schema inst) family values ≡ true)
family_sound schema inst json k family values f h =
    let p = then_parts (value_under family.name json) (table_of inst.members family) values h in
    let t = table_sound (world_of schema inst) inst.members (size_is inst.members) k family p.0 values f p.2 in
    ((p.0, under_sound family.name json p.0 p.1, t.0), t.1)

-- a table that the file says of a family is read
pub family_complete : (schema : Schema) (inst : Instance) (json : Data) (family : Family) (values : List ℤ)
    → ((i : ℕ) → AreGood (members_at inst.members i)) → HasTable inst.members json family values
    → is_table (world_of schema inst) family values ≡ true
    → family_read inst.members json family ≡ Ok values
family_complete schema inst json family values good (d, e, says) t =
    then_from (value_under family.name json) (table_of inst.members family) d (under_complete family.name json d e)
    ∙ table_complete (world_of schema inst) inst.members good family d values says t

-- the members of each index of a valid instance are good where they are named
pub all_good : (schema : Schema) (inst : Instance) → is_valid schema inst ≡ true → AreNamed inst.members → (i : ℕ)
    → AreGood (members_at inst.members i)
all_good schema inst valid named i = ⊎_elim (λ (l : i < length inst.members). there l)
    (λ (l : length inst.members ≤ i). subst AreGood (sym (get_or_past inst.members i [] l)) none) (cases_lt i (length inst.members))
  where
    none : AreGood []
    none = record { named = λ m name e. absurd cc; distinct = refl }

    there : i < length inst.members → AreGood (members_at inst.members i)
    there l =
        let facts = instance_facts schema inst valid in
        let all = each_at AllNamed [] inst.members named i l in
        let fits = passes_at are_members_valid [] inst.members facts.members i l in
        record {
          named = λ m name e. each_get (λ name. is_name name ≡ true) (members_at inst.members i) m name all e;
          distinct = (and_parts _ (is_distinct (members_at inst.members i)) fits).1;
        }

-- ---- limits

-- what has few enough is left as it is
few_parts : (n most : ℕ) (reason : Reason) (a b : Instance) → if_few n most reason a ≡ Ok b → (n ≤ most) × (a ≡ b)
few_parts n most reason a b h =
    let t = test_parts (nat_le n most) (Ok a) (fault None 0 reason) b h in
    (nat_le_yes n most t.0, same_ok a b t.1)

-- few enough pass
few_on : (n most : ℕ) (reason : Reason) (a : Instance) → n ≤ most → if_few n most reason a ≡ Ok a
few_on n most reason a h = test_from (nat_le n most) (Ok a) (Err (fault None 0 reason)) (yes_nat_le n most h)

-- an instance within the limits has few cells and few tasks
limits_sound : (schema : Schema) (inst all : Instance) → within_limits schema inst ≡ Ok all
    → (cells_in schema inst ≤ most_cells) × (tasks_in schema inst ≤ most_tasks) × (inst ≡ all)
unfolding within_limits
limits_sound schema inst all h =
    let p = then_parts (if_few (cells_in schema inst) most_cells (TooManyCells (cells_in schema inst)) inst)
    (if_few (tasks_in schema inst) most_tasks (TooManyTasks (tasks_in schema inst))) all h in
    let c = few_parts (cells_in schema inst) most_cells (TooManyCells (cells_in schema inst)) inst p.0 p.1 in
    let t = few_parts (tasks_in schema inst) most_tasks (TooManyTasks (tasks_in schema inst)) p.0 all p.2 in
    (c.0, t.0, c.1 ∙ t.1)

-- few cells and few tasks are within the limits
limits_complete : (schema : Schema) (inst : Instance) → cells_in schema inst ≤ most_cells → tasks_in schema inst ≤ most_tasks
    → within_limits schema inst ≡ Ok inst
unfolding within_limits
limits_complete schema inst cells tasks =
    then_from (if_few (cells_in schema inst) most_cells (TooManyCells (cells_in schema inst)) inst)
    (if_few (tasks_in schema inst) most_tasks (TooManyTasks (tasks_in schema inst))) inst
    (few_on (cells_in schema inst) most_cells (TooManyCells (cells_in schema inst)) inst cells)
    ∙ few_on (tasks_in schema inst) most_tasks (TooManyTasks (tasks_in schema inst)) inst tasks

-- ---- declarations

-- a schema's declarations are declarations, and as many as there are indexes and givens
pub record Counted (schema : Schema) : Type 0 where
  pub fit : are_declarations schema.givens schema.choices nothing_declared schema.decls ≡ true
  pub indexes : (ending nothing_declared schema.decls).indexes ≡ length schema.indexes
  pub givens : (ending nothing_declared schema.decls).givens ≡ length schema.givens

-- every schema has as many declarations as indexes and givens
counted : (schema : Schema) → Counted schema
unfolding is_schema
counted schema =
    let last = ending nothing_declared schema.decls in
    let nine = and_parts _ (list_all (is_prefix (length schema.indexes)) schema.tasks) schema.is_schema in
    let eight = and_parts _ (nat_lt (length schema.tasks) (2 ^ 32)) nine.0 in
    let seven = and_parts _ (has_counts schema.indexes schema.givens schema.choices last) eight.0 in
    let six = and_parts _ (are_declarations schema.givens schema.choices nothing_declared schema.decls) seven.0 in
    let two = and_parts _ (nat_eq last.choices (length schema.choices)) seven.1 in
    let one = and_parts (nat_eq last.indexes (length schema.indexes)) (nat_eq last.givens (length schema.givens)) two.0 in
    record {
      fit = six.1;
      indexes = same_number last.indexes (length schema.indexes) one.0;
      givens = same_number last.givens
          (length schema.givens) one.1;
    }

-- ---- the whole

-- what an instance that is read of an object's value is
record SaidBy (schema : Schema) (json : Data) (inst : Instance) : Type 0 where
  index_count : length schema.indexes ≡ length inst.members
  given_count : length schema.givens ≡ length inst.values
  members : Pairs (HasMembers json) schema.indexes inst.members
  values : Pairs (HasTable inst.members json) schema.givens inst.values
  named : AreNamed inst.members
  fit : list_all are_members_valid inst.members ≡ true
  tables : (k : ℕ) → k < length schema.givens → is_table (world_of schema inst) (family_at schema.givens k) (values_at inst.values k) ≡ true

-- what is read of each declaration in turn, told of the whole
said : (schema : Schema) (json : Data) (inst : Instance) → fold_read (with_declaration schema json) empty_instance schema.decls ≡ Ok inst
    → SaidBy schema json inst
said schema json inst h =
    let n = counted schema in
    let g = grown schema json nothing_declared empty_instance schema.decls inst n.fit refl refl h in
    let index_count : length schema.indexes ≡ length inst.members = sym (g.index_count ∙ n.indexes) in
    let given_count : length schema.givens ≡ length inst.values = sym (g.given_count ∙ n.givens) in
    let index : (i : ℕ) → i < length inst.members → HasMembers json (index_name schema i) (members_at inst.members i)
    × AllNamed (members_at inst.members i) × (are_members_valid (members_at inst.members i) ≡ true) =
    λ i l. index_sound schema json i (members_at inst.members i) (g.members i (omega arith) l) in
    let given : (k : ℕ) → k < length schema.givens → HasTable inst.members json (family_at schema.givens k) (values_at inst.values k)
    × (is_table (world_of schema inst) (family_at schema.givens k) (values_at inst.values k) ≡ true) =
    λ k l. family_sound schema inst json (length schema.indexes) (family_at schema.givens k) (values_at inst.values k)
    (passes_at (is_family (length schema.indexes)) no_family schema.givens (schema_facts schema).givens k l)
    (g.values k (omega arith) (omega (arith, l, given_count))) in
    record {
      index_count = index_count;
      given_count = given_count;
      members = pairs_from (HasMembers json) [] [] schema.indexes inst.members index_count (λ i l. (index i (omega (arith, l, index_count))).0);
      values = pairs_from (HasTable inst.members json) no_family [] schema.givens inst.values given_count (λ k l. (given k l).0);
      named = each_from AllNamed [] inst.members (λ i l. (index i l).1);
      fit = passes_from are_members_valid [] inst.members (λ i l. (index i l).2);
      tables = λ k l. (given k l).1;
    }

-- a data file says the instance that is read of it
pub data_sound : (schema : Schema) (bytes : List ℕ) (inst : Instance) → data_of schema bytes ≡ Ok inst → DataOf schema bytes inst
unfolding data_of value_says
data_sound schema bytes inst h =
    let o = object_sound bytes (object_says schema) inst h in
    let p = then_parts (fold_read (with_declaration schema o.json) empty_instance schema.decls)
    (λ inst. and_then (or_unknown (unknown_from (data_names schema) 0 (keys o.members)) inst) (within_limits schema)) inst o.value in
    let q = then_parts (or_unknown (unknown_from (data_names schema) 0 (keys o.members)) p.0) (within_limits schema) inst p.2 in
    let u = unknown_parts (unknown_from (data_names schema) 0 (keys o.members)) p.0 q.0 q.1 in
    let l = limits_sound schema q.0 inst q.2 in
    let s = said schema o.json inst (p.1 ∙ ap (λ s. Ok s) (u.1 ∙ l.2)) in
    record {
      object = object_of (data_names schema) bytes (object_says schema) inst o u.0;
      members = s.members;
      values = s.values;
      named = s.named;
      valid = instance_valid schema inst (record {
        indexes = sym s.index_count;
        members = s.fit;
        tables = tables_from (world_of schema inst) schema.givens inst.values s.given_count s.tables;
        few_cells = subst (λ s. cells_in schema s ≤ most_cells) l.2 l.0;
        few_tasks = subst (λ s. tasks_in schema s ≤ most_tasks) l.2 l.1;
      });
    }

-- the instance that a data file says is read of it
pub data_complete : (schema : Schema) (bytes : List ℕ) (inst : Instance) → DataOf schema bytes inst → data_of schema bytes ≡ Ok inst
unfolding data_of value_says
data_complete schema bytes inst file =
    let n = counted schema in
    let json = file.object.json in
    let facts = instance_facts schema inst file.valid in
    let given_count = pairs_length (HasTable inst.members json) schema.givens inst.values file.values in
    let good = all_good schema inst file.valid file.named in
    let index : (i : ℕ) → i < length inst.members → index_read schema json i ≡ Ok (members_at inst.members i) =
    λ i l. index_complete schema json i (members_at inst.members i)
    (pairs_at (HasMembers json) [] [] schema.indexes inst.members file.members i (omega (arith, l, facts.indexes)))
    (each_at AllNamed [] inst.members file.named i l) (passes_at are_members_valid [] inst.members facts.members i l) in
    let given : (k : ℕ) → k < length inst.values → family_read inst.members json (family_at schema.givens k) ≡ Ok (values_at inst.values k) =
    λ k l. let less : k < length schema.givens = omega (arith, l, given_count) in
    family_complete schema inst json (family_at schema.givens k) (values_at inst.values k) good
    (pairs_at (HasTable inst.members json) no_family [] schema.givens inst.values file.values k less)
    (table_fits (world_of schema inst) schema.givens inst.values k facts.tables less) in
    let all = all_on schema json inst nothing_declared schema.decls n.fit (omega (arith, n.indexes, facts.indexes))
    (omega (arith, n.givens, given_count)) index given in
    let members_whole = take_all (ending nothing_declared schema.decls).indexes inst.members (omega (arith, n.indexes, facts.indexes)) in
    let values_whole = take_all (ending nothing_declared schema.decls).givens inst.values (omega (arith, n.givens, given_count)) in
    let whole : first_parts (ending nothing_declared schema.decls) inst ≡ inst =
    ap (λ ms. let part : Instance = record {
      members = ms;
      values = take
          (ending nothing_declared schema.decls).givens inst.values;
    } in part) members_whole
    ∙ ap (λ vs. let part : Instance = record { members = inst.members; values = vs } in part) values_whole in
    object_complete bytes (object_says schema) (data_names schema) file.object
    ∙ then_from (fold_read (with_declaration schema json) empty_instance schema.decls)
    (λ inst. and_then (or_unknown (unknown_from (data_names schema) 0 (keys file.object.members)) inst) (within_limits schema)) inst
    (all ∙ ap (λ s. Ok s) whole)
    ∙ ap (λ o. and_then (or_unknown o inst) (within_limits schema))
    (known_complete (data_names schema) 0 (keys file.object.members) file.object.known)
    ∙ limits_complete schema inst facts.few_cells facts.few_tasks
