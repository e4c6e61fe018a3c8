-- What the conditions of a schema and of a specification say of their parts.
use Rattle.std.proofs.Common.{◌≡◌, ◌≤◌, ◌<◌, ◌^◌, refl, ◌∙◌, subst, arith, ℕ, suc, List, [], ◌∷◌, length, fold, slice_index_or, Bool, true, false, ◌&&◌, nat_eq, nat_lt, nat_le}
use Rattle.std.specs.List.{list_all}
use Rattle.std.proofs.lemmas.Bool.Decides.{nat_tests}
use Rattle.kts_spec.specs.declared.declarations.ValueType.{ValueType}
use Rattle.kts_spec.specs.declared.declarations.ValueType.TheVariants.{Int, Member}
use Rattle.kts_spec.specs.declared.declarations.Family.{Family}
use Rattle.kts_spec.specs.declared.declarations.Decl.{Decl}
use Rattle.kts_spec.specs.declared.declarations.Decl.TheVariants.{Index, Given, Choose, Manifest}
use Rattle.kts_spec.specs.declared.schema.Schema.{Schema}
use Rattle.kts_spec.specs.declared.spec.Spec.{Spec}
use Rattle.kts_spec.specs.declared.instance.Instance.{Instance}
use Rattle.kts_base.specs.Limits.{most_indexes, most_givens, most_choices, most_cells, most_tasks}
use Rattle.std.proofs.lemmas.Bool.{and_parts, and_from}
use Rattle.kts_spec.specs.Data.{are_members_valid, are_tables, task_count, is_valid}
use Rattle.kts_spec.specs.Places.{cell_count}
use Rattle.kts_spec.specs.Worlds.{world_of}
use Rattle.kts_spec.specs.Facts.{is_manifest, SchemaFacts, SpecFacts, InstanceFacts}
use Rattle.kts_spec.specs.Schemas.{DeclaredCounts, nothing_declared, declared_with, is_declaration, are_declarations, has_counts, family_at, no_family, is_family, is_type, is_prefix, declared_names, is_schema}
use Rattle.kts_spec.specs.Names.{is_language_name, is_distinct}
use Rattle.kts_spec.specs.Specifications.{is_spec}
use Rattle.kts_base.proofs.Orders.{nat_le_yes, nat_lt_yes, yes_nat_le}

at_most_more : (k n i : ℕ) → k ≤ n → nat_lt i k ≡ true → nat_lt i n ≡ true
at_most_more k n i h e = grind (arith, nat_tests)

-- what is over the first k indexes is over the first n
all_below_more : (k n : ℕ) (is : List ℕ) → k ≤ n → list_all (λ i. nat_lt i k) is ≡ true → list_all (λ i. nat_lt i n) is ≡ true
all_below_more k n [] h e = refl
all_below_more k n (i ∷ is) h e =
    and_from _ _ (at_most_more k n i h (and_parts _ _ e).0) (all_below_more k n is h (and_parts _ _ e).1)

type_more : (k n : ℕ) (t : ValueType) → k ≤ n → is_type k t ≡ true → is_type n t ≡ true
type_more k n (Int lo hi) h e = e
type_more k n (Member i) h e = at_most_more k n i h e

family_more : (k n : ℕ) (f : Family) → k ≤ n → is_family k f ≡ true → is_family n f ≡ true
family_more k n f h e =
    and_from _ _ (and_from _ _ (and_parts _ _ (and_parts _ _ e).0).0 (all_below_more k n f.args h (and_parts _ _ (and_parts _ _ e).0).1)) (type_more k n f.kind h (and_parts _ _ e).1)

pub same_number : (a b : ℕ) → nat_eq a b ≡ true → a ≡ b
same_number a b e = grind (arith, nat_tests)

number_is_same : (a b : ℕ) → a ≡ b → nat_eq a b ≡ true
number_is_same a b e = grind (arith, nat_tests)

-- a number from a on is a itself, or comes later
here_or_later : (a g : ℕ) (P : Type 0) → a ≤ g → (a ≡ g → P) → (suc a ≤ g → P) → P
here_or_later a g P h here later = by_test (nat_eq a g) refl
  where
    by_test : (b : Bool) → nat_eq a g ≡ b → P
    by_test true e = here (same_number a g e)
    by_test false e = later (grind (arith, nat_tests, e))

-- a test of each place is a test of each item
all_at : {X : Type 0} (test : X → Bool) (z : X) (xs : List X) → ((k : ℕ) → k < length xs → test (slice_index_or xs k z) ≡ true) → list_all test xs ≡ true
all_at test z [] h = refl
all_at test z (x ∷ xs) h = and_from _ _ (h 0 (omega arith)) (all_at test z xs (λ k l. h (suc k) (omega arith)))

module _ (givens choices : List Family) where
  abbrev ending : DeclaredCounts → List Decl → DeclaredCounts
  ending d decls = fold declared_with d decls

  indexes_grow : (d : DeclaredCounts) (decls : List Decl) → d.indexes ≤ (ending d decls).indexes
  indexes_grow d [] = omega arith
  indexes_grow d (Index i ∷ decls) = let h = indexes_grow (declared_with d (Index i)) decls in omega arith
  indexes_grow d (Given f ∷ decls) = indexes_grow (declared_with d (Given f)) decls
  indexes_grow d (Choose x ∷ decls) = indexes_grow (declared_with d (Choose x)) decls
  indexes_grow d (Manifest x ∷ decls) = indexes_grow (declared_with d (Manifest x)) decls

  choices_grow : (d : DeclaredCounts) (decls : List Decl) → d.choices ≤ (ending d decls).choices
  choices_grow d [] = omega arith
  choices_grow d (Index i ∷ decls) = choices_grow (declared_with d (Index i)) decls
  choices_grow d (Given f ∷ decls) = choices_grow (declared_with d (Given f)) decls
  choices_grow d (Choose x ∷ decls) = let h = choices_grow (declared_with d (Choose x)) decls in omega arith
  choices_grow d (Manifest x ∷ decls) = choices_grow (declared_with d (Manifest x)) decls

  -- each given declared from here on is over the indexes of the whole
  givens_fit : (d : DeclaredCounts) (decls : List Decl) (g : ℕ) → are_declarations givens choices d decls ≡ true → d.givens ≤ g → g < (ending d decls).givens → is_family (ending d decls).indexes (family_at givens g) ≡ true
  givens_fit d [] g e low high = absurd (omega arith)
  givens_fit d (Index i ∷ decls) g e low high = givens_fit (declared_with d (Index i)) decls g (and_parts _ _ e).1 low high
  givens_fit d (Choose x ∷ decls) g e low high = givens_fit (declared_with d (Choose x)) decls g (and_parts _ _ e).1 low high
  givens_fit d (Manifest x ∷ decls) g e low high = givens_fit (declared_with d (Manifest x)) decls g (and_parts _ _ e).1 low high
  givens_fit d (Given f ∷ decls) g e low high =
      let fits = (and_parts (is_declaration givens choices d (Given f)) _ e).0 in
      let number : f ≡ d.givens = same_number f d.givens (and_parts _ (is_family d.indexes (family_at givens f)) fits).0 in
      let family : is_family d.indexes (family_at givens f) ≡ true = (and_parts (nat_eq f d.givens) _ fits).1 in
      here_or_later d.givens g _ low
      (λ same. family_more d.indexes _ (family_at givens g) (indexes_grow (declared_with d (Given f)) decls) (subst (λ n. is_family d.indexes (family_at givens n) ≡ true) (number ∙ same) family))
      (λ later. givens_fit (declared_with d (Given f)) decls g (and_parts _ _ e).1 later high)

  -- each choice declared from here on is over the indexes of the whole
  choices_fit : (d : DeclaredCounts) (decls : List Decl) (g : ℕ) → are_declarations givens choices d decls ≡ true → d.choices ≤ g → g < (ending d decls).choices → is_family (ending d decls).indexes (family_at choices g) ≡ true
  choices_fit d [] g e low high = absurd (omega arith)
  choices_fit d (Index i ∷ decls) g e low high = choices_fit (declared_with d (Index i)) decls g (and_parts _ _ e).1 low high
  choices_fit d (Given f ∷ decls) g e low high = choices_fit (declared_with d (Given f)) decls g (and_parts _ _ e).1 low high
  choices_fit d (Manifest x ∷ decls) g e low high = choices_fit (declared_with d (Manifest x)) decls g (and_parts _ _ e).1 low high
  choices_fit d (Choose x ∷ decls) g e low high =
      let fits = (and_parts (is_declaration givens choices d (Choose x)) _ e).0 in
      let number : x ≡ d.choices = same_number x d.choices (and_parts _ (is_family d.indexes (family_at choices x)) fits).0 in
      let family : is_family d.indexes (family_at choices x) ≡ true = (and_parts (nat_eq x d.choices) _ fits).1 in
      here_or_later d.choices g _ low
      (λ same. family_more d.indexes _ (family_at choices g) (indexes_grow (declared_with d (Choose x)) decls) (subst (λ n. is_family d.indexes (family_at choices n) ≡ true) (number ∙ same) family))
      (λ later. choices_fit (declared_with d (Choose x)) decls g (and_parts _ _ e).1 later high)

  -- each manifest declared from here on is of a choice that is there
  manifests_fit : (d : DeclaredCounts) (decls : List Decl) → are_declarations givens choices d decls ≡ true → (ending d decls).choices ≤ length choices → list_all (is_manifest choices) decls ≡ true
  manifests_fit d [] e h = refl
  manifests_fit d (Index i ∷ decls) e h = manifests_fit (declared_with d (Index i)) decls (and_parts _ _ e).1 h
  manifests_fit d (Given f ∷ decls) e h = manifests_fit (declared_with d (Given f)) decls (and_parts _ _ e).1 h
  manifests_fit d (Choose x ∷ decls) e h = manifests_fit (declared_with d (Choose x)) decls (and_parts _ _ e).1 h
  manifests_fit d (Manifest x ∷ decls) e h =
      let fits = (and_parts (is_declaration givens choices d (Manifest x)) _ e).0 in
      let known = (and_parts _ _ (and_parts _ _ fits).0).0 in
      let grows = choices_grow (declared_with d (Manifest x)) decls in
      and_from _ _ (and_from _ _ (at_most_more d.choices (length choices) x (omega arith) known) (and_parts _ _ (and_parts _ _ fits).0).1)
      (manifests_fit (declared_with d (Manifest x)) decls (and_parts _ _ e).1 h)

-- every family is over the indexes that are there, every manifest of a choice that is there
declarations_fit : (indexes : List (List ℕ)) (givens choices : List Family) (decls : List Decl) → are_declarations givens choices nothing_declared decls ≡ true → has_counts indexes givens choices (fold declared_with nothing_declared decls) ≡ true
    → (list_all (is_family (length indexes)) givens ≡ true) × (list_all (is_family (length indexes)) choices ≡ true) × (list_all (is_manifest choices) decls ≡ true)
declarations_fit indexes givens choices decls fit counts =
    let last = fold declared_with nothing_declared decls in
    let index_count : last.indexes ≡ length indexes = same_number _ _ (and_parts _ _ (and_parts _ (nat_eq last.choices (length choices)) counts).0).0 in
    let given_count : last.givens ≡ length givens = same_number _ _ (and_parts (nat_eq last.indexes (length indexes)) _ (and_parts _ (nat_eq last.choices (length choices)) counts).0).1 in
    let choice_count : last.choices ≡ length choices = same_number _ _ (and_parts (nat_eq last.indexes (length indexes) && nat_eq last.givens (length givens)) _ counts).1 in (
      all_at _ no_family givens (λ g l. subst (λ n. is_family n (family_at givens g) ≡ true) index_count (givens_fit givens choices nothing_declared decls g fit (omega arith) (omega arith))),
      all_at _ no_family choices (λ x l. subst (λ n. is_family n (family_at choices x) ≡ true) index_count (choices_fit givens choices nothing_declared decls x fit (omega arith) (omega arith))),
      manifests_fit givens choices nothing_declared decls fit (omega arith),
    )

pub schema_facts : (schema : Schema) → SchemaFacts schema
unfolding is_schema
schema_facts schema =
    let nine = and_parts _ (list_all (is_prefix (length schema.indexes)) schema.tasks) schema.is_schema in
    let eight = and_parts _ (nat_lt (length schema.tasks) (2 ^ 32)) nine.0 in
    let seven = and_parts _ (has_counts schema.indexes schema.givens schema.choices (fold declared_with nothing_declared schema.decls)) eight.0 in
    let six = and_parts _ (are_declarations schema.givens schema.choices nothing_declared schema.decls) seven.0 in
    let five = and_parts _ (is_distinct (declared_names schema.indexes schema.givens schema.choices)) six.0 in
    let four = and_parts _ (list_all is_language_name (declared_names schema.indexes schema.givens schema.choices)) five.0 in
    let three = and_parts _ (nat_le (length schema.choices) most_choices) four.0 in
    let two = and_parts _ (nat_le (length schema.givens) most_givens) three.0 in
    let one = and_parts (is_language_name schema.name) (nat_le (length schema.indexes) most_indexes) two.0 in
    let fit = declarations_fit schema.indexes schema.givens schema.choices schema.decls six.1 seven.1 in
    record {
      few_indexes = nat_le_yes _ _ one.1;
      few_givens = nat_le_yes _ _ two.1;
      few_choices = nat_le_yes _ _ three.1;
      few_tasks = nat_lt_yes _ _ eight.1;
      named = one.0;
      names = four.1;
      distinct = five.1;
      givens = fit.0;
      choices = fit.1;
      manifests = fit.2;
      prefixes = nine.1;
    }

pub spec_facts : (spec : Spec) → SpecFacts spec
unfolding is_spec
spec_facts spec =
    let whole = spec.is_spec in
    record {
      few_formulas = nat_le_yes _ _ (and_parts _ _ (and_parts _ _ (and_parts _ _ whole).0).0).0;
      names = (and_parts _ _ (and_parts _ _ (and_parts _ _ whole).0).0).1;
      distinct = (and_parts _ _ (and_parts _ _ whole).0).1;
      formulas = (and_parts _ _ whole).1;
    }

pub instance_facts : (schema : Schema) (inst : Instance) → is_valid schema inst ≡ true → InstanceFacts schema inst
unfolding is_valid
instance_facts schema inst valid =
    let w = world_of schema inst in
    let four = and_parts _ (nat_le (task_count w schema.tasks) most_tasks) valid in
    let three = and_parts _ (nat_le (cell_count w schema.choices) most_cells) four.0 in
    let two = and_parts _ (are_tables w schema.givens inst.values) three.0 in
    let one = and_parts (nat_eq (length inst.members) (length schema.indexes)) (list_all are_members_valid inst.members) two.0 in
    record {
      indexes = same_number _ _ one.0;
      members = one.1;
      tables = two.1;
      few_cells = nat_le_yes _ _ three.1;
      few_tasks = nat_le_yes _ _ four.1;
    }

pub instance_valid : (schema : Schema) (inst : Instance) → InstanceFacts schema inst → is_valid schema inst ≡ true
unfolding is_valid
instance_valid schema inst f =
    let w = world_of schema inst in
    let cells = yes_nat_le (cell_count w schema.choices) most_cells f.few_cells in
    let tasks = yes_nat_le (task_count w schema.tasks) most_tasks f.few_tasks in
    and_from _ (nat_le (task_count w schema.tasks) most_tasks)
    (and_from _ (nat_le (cell_count w schema.choices) most_cells)
    (and_from _ (are_tables w schema.givens inst.values)
    (and_from (nat_eq (length inst.members) (length schema.indexes)) (list_all are_members_valid inst.members) (number_is_same _ _ f.indexes) f.members)
    f.tables) cells) tasks
