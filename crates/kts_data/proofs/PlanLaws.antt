-- The schedule that a plan file says is the one that is read.
use Rattle.std.proofs.Common.{◌≡◌, sym, ◌∙◌, ap, subst, ℕ, List, [], ◌∷◌, ◌++◌, length, true, Ok, ℤ, append_assoc, append-nil}
use Rattle.std.specs.List.{Contains, list_all}
use Rattle.std.proofs.lemmas.Bool.{and_parts}
use Rattle.serde_json.specs.Data.{Data}
use Rattle.kts_spec.specs.declared.declarations.Family.{Family}
use Rattle.kts_spec.specs.declared.instance.Instance.{Instance}
use Rattle.kts_spec.specs.declared.schema.Schema.{Schema}
use Rattle.kts_spec.specs.Data.{is_valid}
use Rattle.kts_spec.specs.Places.{count_of}
use Rattle.kts_spec.specs.Related.{Pairs}
use Rattle.kts_spec.specs.Schedules.{cells, schedules}
use Rattle.kts_spec.specs.Schemas.{is_family}
use Rattle.kts_spec.specs.Worlds.{world_of, sizes_of}
use Rattle.kts_spec.proofs.Conditions.{schema_facts}
use Rattle.kts_spec.proofs.TypedData.{Suits, schedule_fits}
use Rattle.kts_data.specs.Faults.{fold_read}
use Rattle.kts_data.specs.Files.{HasTable, AreNamed, joined_tables, PlanOf}
use Rattle.kts_data.specs.Instances.{members_at, or_unknown}
use Rattle.kts_data.specs.Json.{keys, unknown_from}
use Rattle.kts_data.specs.Plans.{with_choice, plan_names, object_plans, value_plans, plan_of}
use Rattle.kts_data.proofs.DataLaws.{family_sound, family_complete, all_good}
use Rattle.kts_data.proofs.Declared.{family_read}
use Rattle.kts_data.proofs.KeyFacts.{known_complete, unknown_parts, object_sound, object_of, object_complete}
use Rattle.kts_data.proofs.PairPlaces.{size_is}
use Rattle.kts_data.proofs.ReadParts.{same_ok, then_parts, then_from, fold_parts, fold_from, fold_end}
use Rattle.kts_data.proofs.Schedulable.{AreTables, suits_schedule, tables_suit, suit_tables}
use Rattle.kts_data.proofs.TableLaws.{table_long}
use Rattle.kts_data.proofs.ValueReads.{AreGood}

module _ (schema : Schema) (inst : Instance) (json : Data) where
  -- the table that is read of each choice
  abbrev AreRead : List Family → List (List ℤ) → Type 0
  AreRead = Pairs (λ family values. family_read inst.members json family ≡ Ok values)

  -- what is read at a choice
  choice_step : (before : List ℤ) (family : Family) (all : List ℤ) → with_choice inst json before family ≡ Ok all
      → (values : List ℤ) × (family_read inst.members json family ≡ Ok values) × (all ≡ before ++ values)
  unfolding with_choice
  choice_step before family all h =
      let p = then_parts (family_read inst.members json family) (λ values. Ok (before ++ values)) all h in
      (p.0, p.1, sym (same_ok (before ++ p.0) all p.2))

  -- values that are read of a choice stand after those before it
  choice_on : (before : List ℤ) (family : Family) (values : List ℤ) → family_read inst.members json family ≡ Ok values
      → with_choice inst json before family ≡ Ok (before ++ values)
  unfolding with_choice
  choice_on before family values h = then_from (family_read inst.members json family) (λ values. Ok (before ++ values)) values h

  -- what is read of choices are their tables one after another
  choices_sound : (before : List ℤ) (families : List Family) (all : List ℤ) → fold_read (with_choice inst json) before families ≡ Ok all
      → (tables : List (List ℤ)) × AreRead families tables × (all ≡ before ++ joined_tables tables)
  choices_sound before [] all h = ([], tt, sym (append-nil before ∙ same_ok before all (sym (fold_end (with_choice inst json) before) ∙ h)))
  choices_sound before (family ∷ families) all h =
      let p = fold_parts (with_choice inst json) before family families all h in
      let q = choice_step before family p.0 p.1 in
      let rest = choices_sound p.0 families all p.2 in
      (q.0 ∷ rest.0, (q.1, rest.1), rest.2 ∙ ap (λ front. front ++ joined_tables rest.0) q.2 ∙ append_assoc before q.0 (joined_tables rest.0))

  -- tables that are read of choices are read one after another
  choices_complete : (before : List ℤ) (families : List Family) (tables : List (List ℤ)) → AreRead families tables
      → fold_read (with_choice inst json) before families ≡ Ok (before ++ joined_tables tables)
  choices_complete before [] [] h = fold_end (with_choice inst json) before ∙ ap (λ vs. Ok vs) (sym (append-nil before))
  choices_complete before [] (t ∷ tables) h = absurd h
  choices_complete before (f ∷ families) [] h = absurd h
  choices_complete before (f ∷ families) (t ∷ tables) h =
      fold_from (with_choice inst json) before f families (before ++ t) (choice_on before f t h.0)
      ∙ choices_complete (before ++ t) families tables h.1
      ∙ ap (λ vs. Ok vs) (append_assoc before t (joined_tables tables))

  -- the tables of families, as they are read and as the file says them
  tables_said : (k : ℕ) (families : List Family) (tables : List (List ℤ)) → list_all (is_family k) families ≡ true → AreRead families tables
      → Pairs (HasTable inst.members json) families tables × AreTables (world_of schema inst) families tables
  tables_said k [] [] f h = (tt, tt)
  tables_said k [] (t ∷ tables) f h = absurd h
  tables_said k (family ∷ families) [] f h = absurd h
  tables_said k (family ∷ families) (t ∷ tables) f h =
      let both = and_parts (is_family k family) (list_all (is_family k) families) f in
      let one = family_sound schema inst json k family t both.0 h.0 in
      let rest = tables_said k families tables both.1 h.1 in
      ((one.0, rest.0), (one.1, rest.1))

  -- tables that the file says are read
  tables_read : (families : List Family) (tables : List (List ℤ)) → ((i : ℕ) → AreGood (members_at inst.members i))
      → Pairs (HasTable inst.members json) families tables → AreTables (world_of schema inst) families tables → AreRead families tables
  tables_read [] [] good h t = tt
  tables_read [] (t ∷ tables) good h k = absurd h
  tables_read (family ∷ families) [] good h k = absurd h
  tables_read (family ∷ families) (t ∷ tables) good h k = (
    family_complete schema inst json family t good h.0 k.0,
    tables_read families tables good h.1 k.1,
  )

  -- as many values as there are tuples
  tables_long : (k : ℕ) (families : List Family) (tables : List (List ℤ)) → list_all (is_family k) families ≡ true
      → Pairs (HasTable inst.members json) families tables
      → Pairs (λ family values. length values ≡ count_of (sizes_of (world_of schema inst) family)) families tables
  tables_long k [] [] f h = tt
  tables_long k [] (t ∷ tables) f h = absurd h
  tables_long k (family ∷ families) [] f h = absurd h
  tables_long k (family ∷ families) (t ∷ tables) f h =
      let both = and_parts (is_family k family) (list_all (is_family k) families) f in
      (table_long (world_of schema inst) inst.members (size_is inst.members) k family h.0.0 t both.0 h.0.2, tables_long k families tables both.1 h.1)

-- a plan file says the schedule that is read of it
pub plan_sound : (schema : Schema) (inst : Instance) (bytes : List ℕ) (plan : List ℤ) → plan_of schema inst bytes ≡ Ok plan
    → PlanOf schema inst bytes plan
unfolding plan_of value_plans
plan_sound schema inst bytes plan h =
    let o = object_sound bytes (object_plans schema inst) plan h in
    let p = then_parts (fold_read (with_choice inst o.json) [] schema.choices)
    (or_unknown (unknown_from (plan_names schema) 0 (keys o.members))) plan o.value in
    let u = unknown_parts (unknown_from (plan_names schema) 0 (keys o.members)) p.0 plan p.2 in
    let c = choices_sound schema inst o.json [] schema.choices plan (p.1 ∙ ap (λ vs. Ok vs) u.1) in
    let t = tables_said schema inst o.json (length schema.indexes) schema.choices c.0 (schema_facts schema).choices c.1 in
    let among = suits_schedule (world_of schema inst) (joined_tables c.0) (tables_suit (world_of schema inst) 0 schema.choices c.0 t.1) in
    record {
      object = object_of (plan_names schema) bytes (object_plans schema inst) plan o u.0;
      tables = c.0;
      values = t.0;
      joined = c.2;
      among = subst (Contains (schedules (world_of schema inst))) (sym c.2) among;
    }

-- the schedule that a plan file says is read of it
pub plan_complete : (schema : Schema) (inst : Instance) → is_valid schema inst ≡ true → AreNamed inst.members → (bytes : List ℕ) (plan : List ℤ)
    → PlanOf schema inst bytes plan → plan_of schema inst bytes ≡ Ok plan
unfolding plan_of value_plans
plan_complete schema inst valid named bytes plan file =
    let json = file.object.json in
    let facts = schema_facts schema in
    let long = tables_long schema inst json (length schema.indexes) schema.choices file.tables facts.choices file.values in
    let suits = schedule_fits (world_of schema inst) (length schema.indexes) plan facts.choices file.among in
    let tables = suit_tables (world_of schema inst) 0 schema.choices file.tables long
    (subst (Pairs (Suits (world_of schema inst)) (cells (world_of schema inst))) file.joined suits) in
    let read = tables_read schema inst json schema.choices file.tables (all_good schema inst valid named) file.values tables in
    object_complete bytes (object_plans schema inst) (plan_names schema) file.object
    ∙ then_from (fold_read (with_choice inst json) [] schema.choices)
    (or_unknown (unknown_from (plan_names schema) 0 (keys file.object.members))) plan
    (choices_complete schema inst json [] schema.choices file.tables read ∙ ap (λ vs. Ok vs) (sym file.joined))
    ∙ ap (λ o. or_unknown o plan) (known_complete (plan_names schema) 0 (keys file.object.members) file.object.known)
