-- Readings of one declaration after another: the members of each index and the values of each given, by their numbers.
use Rattle.std.proofs.Common.{◌≡◌, refl, sym, ◌∙◌, ap, subst, ⊎_elim, ℕ, suc, ◌+◌, ◌<◌, ◌≤◌, arith, List, [], ◌∷◌, ◌++◌, length, take, fold, true, nat_eq, Ok, Err, ℤ, length-append}
use Rattle.std.specs.Prelude.{slice_index_or}
use Rattle.std.proofs.lemmas.Bool.{and_parts, cases_lt}
use Rattle.std.proofs.lemmas.List.{get_or_append_left, get_or_push, take_more, get_or-take}
use Rattle.serde_json.specs.Data.{Data}
use Rattle.kts_base.specs.Reads.{and_then}
use Rattle.kts_spec.specs.declared.declarations.Decl.{Decl}
use Rattle.kts_spec.specs.declared.declarations.Decl.TheVariants.{Index, Given, Choose, Manifest}
use Rattle.kts_spec.specs.declared.declarations.Family.{Family}
use Rattle.kts_spec.specs.declared.instance.Instance.{Instance}
use Rattle.kts_spec.specs.declared.schema.Schema.{Schema}
use Rattle.kts_spec.specs.Schemas.{DeclaredCounts, declared_with, is_declaration, are_declarations, family_at, is_family}
use Rattle.kts_spec.proofs.Conditions.{same_number}
use Rattle.kts_data.specs.Faults.{Read, fold_read}
use Rattle.kts_data.specs.Instances.{members_at, members_of, table_of, index_name, with_members, with_values, with_declaration}
use Rattle.kts_data.specs.Json.{value_under}
use Rattle.kts_data.proofs.ReadParts.{same_ok, then_parts, then_from, fold_parts, fold_from, fold_end}
use Rattle.kts_data.proofs.TableLaws.{table_same}

-- a number from a on is a itself, or comes later
here_or_later : (a g : ℕ) (P : Type 0) → a ≤ g → (a ≡ g → P) → (suc a ≤ g → P) → P
here_or_later a g P h here later = ⊎_elim (λ (l : a < g). later (omega (arith, l))) (λ (l : g ≤ a). here (omega (arith, l, h))) (cases_lt a g)

-- the values of a given, by its number
abbrev pub values_at : List (List ℤ) → ℕ → List ℤ
values_at tables g = slice_index_or tables g []

-- what is read of an index, and of a family
abbrev pub index_read : Schema → Data → ℕ → Read (List (List ℕ))
index_read schema json i = and_then (value_under (index_name schema i) json) (members_of (index_name schema i))

abbrev pub family_read : List (List (List ℕ)) → Data → Family → Read (List ℤ)
family_read members json family = and_then (value_under family.name json) (table_of members family)

-- members that agree below a number read a family over the first so many indexes alike
pub family_same : (xs ys : List (List (List ℕ))) (k : ℕ) → ((i : ℕ) → i < k → members_at xs i ≡ members_at ys i) → (json : Data) (family : Family)
    → is_family k family ≡ true → family_read xs json family ≡ family_read ys json family
family_same xs ys k same json family f = by (value_under family.name json)
  where
    by : (o : Read Data) → and_then o (table_of xs family) ≡ and_then o (table_of ys family)
    by (Ok d) = table_same xs ys k same family d f
    by (Err e) = refl

-- what is declared after these declarations
abbrev pub ending : DeclaredCounts → List Decl → DeclaredCounts
ending d decls = fold declared_with d decls

-- the parts of an instance that stand before some place of the file
abbrev pub first_parts : DeclaredCounts → Instance → Instance
first_parts d inst = record { members = take d.indexes inst.members; values = take d.givens inst.values }

module _ (schema : Schema) (json : Data) where
  -- what is read at the declaration of an index
  index_step : (inst : Instance) (i : ℕ) (all : Instance) → with_declaration schema json inst (Index i) ≡ Ok all
      → (names : List (List ℕ)) × (index_read schema json i ≡ Ok names) × (all ≡ with_members inst names)
  unfolding with_declaration
  index_step inst i all h =
      let p = then_parts (index_read schema json i) (λ names. Ok (with_members inst names)) all h in
      (p.0, p.1, sym (same_ok (with_members inst p.0) all p.2))

  -- what is read at the declaration of a given
  given_step : (inst : Instance) (f : ℕ) (all : Instance) → with_declaration schema json inst (Given f) ≡ Ok all
      → (values : List ℤ) × (family_read inst.members json (family_at schema.givens f) ≡ Ok values) × (all ≡ with_values inst values)
  unfolding with_declaration
  given_step inst f all h =
      let p = then_parts (family_read inst.members json (family_at schema.givens f)) (λ values. Ok (with_values inst values)) all h in
      (p.0, p.1, sym (same_ok (with_values inst p.0) all p.2))

  -- nothing is read at the declaration of a choice
  choose_step : (inst : Instance) (x : ℕ) → with_declaration schema json inst (Choose x) ≡ Ok inst
  unfolding with_declaration
  choose_step inst x = refl

  -- nor at a manifest
  manifest_step : (inst : Instance) (x : ℕ) → with_declaration schema json inst (Manifest x) ≡ Ok inst
  unfolding with_declaration
  manifest_step inst x = refl

  -- members that are read of an index are those of the next instance
  index_on : (inst : Instance) (i : ℕ) (names : List (List ℕ)) → index_read schema json i ≡ Ok names
      → with_declaration schema json inst (Index i) ≡ Ok (with_members inst names)
  unfolding with_declaration
  index_on inst i names h = then_from (index_read schema json i) (λ names. Ok (with_members inst names)) names h

  -- values that are read of a given are those of the next instance
  given_on : (inst : Instance) (f : ℕ) (values : List ℤ) → family_read inst.members json (family_at schema.givens f) ≡ Ok values
      → with_declaration schema json inst (Given f) ≡ Ok (with_values inst values)
  unfolding with_declaration
  given_on inst f values h = then_from (family_read inst.members json (family_at schema.givens f)) (λ values. Ok (with_values inst values)) values h

  -- ---- what is read

  -- an instance that declarations make of one with what was declared before: it goes on with that one, and each part more is read
  pub record Grown (d : DeclaredCounts) (before : Instance) (decls : List Decl) (inst : Instance) : Type 0 where
    pub index_count : length inst.members ≡ (ending d decls).indexes
    pub given_count : length inst.values ≡ (ending d decls).givens
    pub old_members : (i : ℕ) → i < d.indexes → members_at inst.members i ≡ members_at before.members i
    pub old_values : (g : ℕ) → g < d.givens → values_at inst.values g ≡ values_at before.values g
    pub members : (i : ℕ) → d.indexes ≤ i → i < length inst.members → index_read schema json i ≡ Ok (members_at inst.members i)
    pub values : (g : ℕ) → d.givens ≤ g → g < length inst.values
        → family_read inst.members json (family_at schema.givens g) ≡ Ok (values_at inst.values g)

  -- what holds after an index was read holds before it
  after_index : (d : DeclaredCounts) (before : Instance) (i : ℕ) (decls : List Decl) (inst : Instance) (names : List (List ℕ)) → i ≡ d.indexes
      → length before.members ≡ d.indexes → index_read schema json i ≡ Ok names
      → Grown (declared_with d (Index i)) (with_members before names) decls inst → Grown d before (Index i ∷ decls) inst
  after_index d before i decls inst names number count read rest = record {
    index_count = rest.index_count;
    given_count = rest.given_count;
    old_members = λ j l. rest.old_members j (omega arith) ∙ get_or_append_left before.members (names ∷ []) [] j (omega (arith, l, count));
    old_values = rest.old_values;
    members = λ j low high. here_or_later d.indexes j _ low
        (λ here. subst (λ n. index_read schema json n ≡ Ok (members_at inst.members n)) (number ∙ here)
        (read ∙ ap (λ ns. Ok ns) (sym (rest.old_members i (omega (arith, number)) ∙ get_or_push before.members names [] i (count ∙ sym number)))))
        (λ later. rest.members j later high);
    values = rest.values;
  }

  -- what holds after a given was read holds before it
  after_given : (d : DeclaredCounts) (before : Instance) (f : ℕ) (decls : List Decl) (inst : Instance) (values : List ℤ) → f ≡ d.givens
      → is_family d.indexes (family_at schema.givens f) ≡ true → length before.values ≡ d.givens
      → family_read before.members json (family_at schema.givens f) ≡ Ok values
      → Grown (declared_with d (Given f)) (with_values before values) decls inst → Grown d before (Given f ∷ decls) inst
  after_given d before f decls inst values number fits count read rest = record {
    index_count = rest.index_count;
    given_count = rest.given_count;
    old_members = rest.old_members;
    old_values = λ g l. rest.old_values g (omega arith) ∙ get_or_append_left before.values (values ∷ []) [] g (omega (arith, l, count));
    members = rest.members;
    values = λ g low high. here_or_later d.givens g _ low
        (λ here. subst (λ n. family_read inst.members json (family_at schema.givens n) ≡ Ok (values_at inst.values n)) (number ∙ here)
        (family_same inst.members before.members d.indexes rest.old_members json (family_at schema.givens f) fits
        ∙ read ∙ ap (λ vs. Ok vs) (sym (rest.old_values f (omega (arith, number)) ∙ get_or_push before.values values [] f (count ∙ sym number)))))
        (λ later. rest.values g later high);
  }

  -- declarations that are read make such an instance
  pub grown : (d : DeclaredCounts) (before : Instance) (decls : List Decl) (inst : Instance)
      → are_declarations schema.givens schema.choices d decls ≡ true → length before.members ≡ d.indexes → length before.values ≡ d.givens
      → fold_read (with_declaration schema json) before decls ≡ Ok inst → Grown d before decls inst
  grown d before [] inst fit index_count given_count h =
      let same : before ≡ inst = same_ok before inst (sym (fold_end (with_declaration schema json) before) ∙ h) in
      subst (Grown d before []) same (record {
        index_count = index_count;
        given_count = given_count;
        old_members = λ i l. refl;
        old_values = λ g l. refl;
        members = λ i low high. absurd (omega (arith, index_count));
        values = λ g low high. absurd (omega (arith, given_count));
      })
  grown d before (Index i ∷ decls) inst fit index_count given_count h =
      let both = and_parts (is_declaration schema.givens schema.choices d (Index i)) _ fit in
      let number : i ≡ d.indexes = same_number i d.indexes both.0 in
      let p = fold_parts (with_declaration schema json) before (Index i) decls inst h in
      let q = index_step before i p.0 p.1 in
      let long : length (before.members ++ q.0 ∷ []) ≡ suc d.indexes = let l = length-append before.members (q.0 ∷ []) in l
      ∙ omega (arith, index_count) in
      after_index d before i decls inst q.0 number index_count q.1
      (grown (declared_with d (Index i)) (with_members before q.0) decls inst both.1 long given_count
      (ap (λ s. fold_read (with_declaration schema json) s decls) (sym q.2) ∙ p.2))
  grown d before (Given f ∷ decls) inst fit index_count given_count h =
      let both = and_parts (is_declaration schema.givens schema.choices d (Given f)) _ fit in
      let one = and_parts (nat_eq f d.givens) (is_family d.indexes (family_at schema.givens f)) both.0 in
      let number : f ≡ d.givens = same_number f d.givens one.0 in
      let p = fold_parts (with_declaration schema json) before (Given f) decls inst h in
      let q = given_step before f p.0 p.1 in
      let long : length (before.values ++ q.0 ∷ []) ≡ suc d.givens = let l = length-append before.values (q.0 ∷ []) in l
      ∙ omega (arith, given_count) in
      after_given d before f decls inst q.0 number one.1 given_count q.1
      (grown (declared_with d (Given f)) (with_values before q.0) decls inst both.1 index_count long
      (ap (λ s. fold_read (with_declaration schema json) s decls) (sym q.2) ∙ p.2))
  grown d before (Choose x ∷ decls) inst fit index_count given_count h =
      let r = grown (declared_with d (Choose x)) before decls inst
      (and_parts (is_declaration schema.givens schema.choices d (Choose x)) _ fit).1 index_count given_count
      (sym (fold_from (with_declaration schema json) before (Choose x) decls before (choose_step before x)) ∙ h) in
      record {
        index_count = r.index_count;
        given_count = r.given_count;
        old_members = r.old_members;
        old_values = r.old_values;
        members = r.members;
        values = r.values;
      }
  grown d before (Manifest x ∷ decls) inst fit index_count given_count h =
      let r = grown (declared_with d (Manifest x)) before decls inst
      (and_parts (is_declaration schema.givens schema.choices d (Manifest x)) _ fit).1 index_count given_count
      (sym (fold_from (with_declaration schema json) before (Manifest x) decls before (manifest_step before x)) ∙ h) in
      record {
        index_count = r.index_count;
        given_count = r.given_count;
        old_members = r.old_members;
        old_values = r.old_values;
        members = r.members;
        values = r.values;
      }

  -- ---- what is said

  -- no index is declared away
  indexes_grow : (d : DeclaredCounts) (decls : List Decl) → d.indexes ≤ (ending d decls).indexes
  indexes_grow d [] = omega arith
  indexes_grow d (Index i ∷ decls) = let h = indexes_grow (declared_with d (Index i)) decls in omega arith
  indexes_grow d (Given f ∷ decls) = indexes_grow (declared_with d (Given f)) decls
  indexes_grow d (Choose x ∷ decls) = indexes_grow (declared_with d (Choose x)) decls
  indexes_grow d (Manifest x ∷ decls) = indexes_grow (declared_with d (Manifest x)) decls

  -- and no given
  givens_grow : (d : DeclaredCounts) (decls : List Decl) → d.givens ≤ (ending d decls).givens
  givens_grow d [] = omega arith
  givens_grow d (Index i ∷ decls) = givens_grow (declared_with d (Index i)) decls
  givens_grow d (Given f ∷ decls) = let h = givens_grow (declared_with d (Given f)) decls in omega arith
  givens_grow d (Choose x ∷ decls) = givens_grow (declared_with d (Choose x)) decls
  givens_grow d (Manifest x ∷ decls) = givens_grow (declared_with d (Manifest x)) decls

  -- where each index and each given of an instance is read, the declarations after some place of the file make the rest of it
  pub all_on : (inst : Instance) (d : DeclaredCounts) (decls : List Decl) → are_declarations schema.givens schema.choices d decls ≡ true
      → (ending d decls).indexes ≤ length inst.members → (ending d decls).givens ≤ length inst.values
      → ((i : ℕ) → i < length inst.members → index_read schema json i ≡ Ok (members_at inst.members i))
      → ((g : ℕ) → g < length inst.values → family_read inst.members json (family_at schema.givens g) ≡ Ok (values_at inst.values g))
      → fold_read (with_declaration schema json) (first_parts d inst) decls ≡ Ok (first_parts (ending d decls) inst)
  all_on inst d [] fit index_count given_count members values = fold_end (with_declaration schema json) (first_parts d inst)
  all_on inst d (Index i ∷ decls) fit index_count given_count members values =
      let both = and_parts (is_declaration schema.givens schema.choices d (Index i)) _ fit in
      let number : i ≡ d.indexes = same_number i d.indexes both.0 in
      let grows = indexes_grow (declared_with d (Index i)) decls in
      let less : d.indexes < length inst.members = omega (arith, grows, index_count) in
      let one : d.indexes + 1 ≡ suc d.indexes = omega arith in
      let more : take (suc d.indexes) inst.members ≡ take d.indexes inst.members ++ members_at inst.members d.indexes ∷ [] =
      ap (λ n. take n inst.members) (sym one) ∙ take_more inst.members d.indexes [] less in
      let moved : with_members (first_parts d inst) (members_at inst.members i) ≡ first_parts (declared_with d (Index i)) inst =
      ap (λ ms. let part : Instance = record { members = ms; values = take d.givens inst.values } in part)
      (ap (λ n. take d.indexes inst.members ++ members_at inst.members n ∷ []) number ∙ sym more) in
      fold_from (with_declaration schema json) (first_parts d inst) (Index i) decls (first_parts (declared_with d (Index i)) inst)
      (index_on (first_parts d inst) i (members_at inst.members i) (members i (omega (arith, number, less))) ∙ ap (λ s. Ok s) moved)
      ∙ all_on inst (declared_with d (Index i)) decls both.1 index_count given_count members values
  all_on inst d (Given f ∷ decls) fit index_count given_count members values =
      let both = and_parts (is_declaration schema.givens schema.choices d (Given f)) _ fit in
      let parts = and_parts (nat_eq f d.givens) (is_family d.indexes (family_at schema.givens f)) both.0 in
      let number : f ≡ d.givens = same_number f d.givens parts.0 in
      let grows = givens_grow (declared_with d (Given f)) decls in
      let less : d.givens < length inst.values = omega (arith, grows, given_count) in
      let one : d.givens + 1 ≡ suc d.givens = omega arith in
      let more : take (suc d.givens) inst.values ≡ take d.givens inst.values ++ values_at inst.values d.givens ∷ [] = ap (λ n. take n inst.values)
      (sym one) ∙ take_more inst.values d.givens [] less in
      let moved : with_values (first_parts d inst) (values_at inst.values f) ≡ first_parts (declared_with d (Given f)) inst =
      ap (λ vs. let part : Instance = record { members = take d.indexes inst.members; values = vs } in part)
      (ap (λ n. take d.givens inst.values ++ values_at inst.values n ∷ []) number ∙ sym more) in
      let read = family_same (take d.indexes inst.members) inst.members d.indexes (λ i l. get_or-take d.indexes inst.members i [] l) json
      (family_at schema.givens f) parts.1 ∙ values f (omega (arith, number, less)) in
      fold_from (with_declaration schema json) (first_parts d inst) (Given f) decls (first_parts (declared_with d (Given f)) inst)
      (given_on (first_parts d inst) f (values_at inst.values f) read ∙ ap (λ s. Ok s) moved)
      ∙ all_on inst (declared_with d (Given f)) decls both.1 index_count given_count members values
  all_on inst d (Choose x ∷ decls) fit index_count given_count members values =
      fold_from (with_declaration schema json) (first_parts d inst) (Choose x) decls (first_parts d inst) (choose_step (first_parts d inst) x)
      ∙ all_on inst (declared_with d (Choose x)) decls
      (and_parts (is_declaration schema.givens schema.choices d (Choose x)) _ fit).1 index_count given_count members values
  all_on inst d (Manifest x ∷ decls) fit index_count given_count members values =
      fold_from (with_declaration schema json) (first_parts d inst) (Manifest x) decls (first_parts d inst) (manifest_step (first_parts d inst) x)
      ∙ all_on inst (declared_with d (Manifest x)) decls
      (and_parts (is_declaration schema.givens schema.choices d (Manifest x)) _ fit).1 index_count given_count members values
