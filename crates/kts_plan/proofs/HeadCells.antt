-- On valid data each head names a cell at each tuple of its prefix.
use Rattle.std.proofs.Common.{◌≡◌, refl, sym, ap, ◌∙◌, subst, inl, inr, ⊎_elim, ℕ, zero, suc, ◌+◌, ◌<◌, ◌≤◌, ℤ, pos, ◌≤ℤ◌, ◌<ℤ◌, int_le, int_lt, List, [], ◌∷◌, length, map, true, arith}
use Rattle.std.specs.List.{range_with_len, Contains}
use Rattle.std.proofs.lemmas.Bool.{and_parts, and_from}
use Rattle.std.proofs.lemmas.Option.{get_or_from_slice_get}
use Rattle.kts_base.specs.Limits.{most_cells}
use Rattle.kts_base.proofs.Orders.{yes_int_le, yes_int_lt}
use Rattle.kts_spec.specs.declared.declarations.Family.{Family}
use Rattle.kts_spec.specs.declared.instance.Instance.{Instance}
use Rattle.kts_spec.specs.declared.schema.Schema.{Schema}
use Rattle.kts_spec.specs.declared.spec.Spec.{Spec}
use Rattle.kts_spec.specs.declared.tree.Term.{Term}
use Rattle.kts_spec.specs.CellOrder.{AreMembers}
use Rattle.kts_spec.specs.Data.{is_valid, are_tables}
use Rattle.kts_spec.specs.Meaning.{value_on}
use Rattle.kts_spec.specs.MeaningEquations.{values_on}
use Rattle.kts_spec.specs.Places.{is_in, cell_count}
use Rattle.kts_spec.specs.Related.{Pairs}
use Rattle.kts_spec.specs.Schedules.{schedules, tuples}
use Rattle.kts_spec.specs.Schemas.{is_schema, no_family}
use Rattle.kts_spec.specs.Typing.{MemberOf, kind_of, is_typed}
use Rattle.kts_spec.specs.TypedValues.{InScope}
use Rattle.kts_spec.specs.Worlds.{World, world_of, size_of, sizes_of}
use Rattle.kts_spec.proofs.CellPlaces.{cells_have_numbers}
use Rattle.kts_spec.proofs.Conditions.{instance_facts, instance_valid}
use Rattle.kts_spec.proofs.ValueKinds.{values_keep_kinds}
use Rattle.kts_abs.proofs.Listed.{In, each_in, map_in}
use Rattle.kts_index.specs.TaskOrder.{sizes_of_prefix}
use Rattle.kts_plan.specs.SolutionLaws.{FitsDeclarations}
use Rattle.kts_plan.proofs.AssertionTruths.{fixed_value}
use Rattle.kts_plan.proofs.HeadKinds.{IsFixed}
use Rattle.kts_plan.proofs.SingleSolutions.{CellsAreThere}

-- ---- the declarations alone

no_tasks : (schema : Schema) → is_schema schema.name schema.decls schema.indexes schema.givens schema.choices [] ≡ true
unfolding is_schema
no_tasks schema =
    let nine = and_parts _ _ schema.is_schema in
    let eight = and_parts _ _ nine.0 in
    and_from _ _ (and_from _ _ eight.0 refl) refl

abbrev declarations : Schema → Schema
declarations schema = record {
  name = schema.name;
  decls = schema.decls;
  indexes = schema.indexes;
  givens = schema.givens;
  choices = schema.choices;
  tasks = [];
  is_schema = no_tasks schema;
}

same_kind : (schema : Schema) (t : Term) (scope : List ℕ) → kind_of (declarations schema) t scope ≡ kind_of schema t scope
unfolding kind_of is_typed
same_kind schema t scope = refl

valid_declarations : (spec : Spec) (inst : Instance) → FitsDeclarations spec inst → is_valid (declarations spec.schema) inst ≡ true
valid_declarations spec inst fits =
    let f = instance_facts fits.schema inst fits.valid in
    let w = fits.world in
    instance_valid (declarations spec.schema) inst (record {
      indexes = f.indexes ∙ ap (λ (l : List (List ℕ)). length l) fits.indexes;
      members = f.members;
      tables = subst (λ (w : World). are_tables w w.givens w.tables ≡ true) w f.tables;
      few_cells = subst (λ (w : World). cell_count w w.choices ≤ most_cells) w f.few_cells;
      few_tasks = omega arith;
    })

-- ---- tuples and values

range_below : (n a m : ℕ) → In m (range_with_len a n) → m < a + n
range_below zero a m h = absurd h
range_below (suc n) a m (inl e) = omega (arith, e)
range_below (suc n) a m (inr h) = let r = range_below n (a + 1) m h in omega (arith, r)

in_scope : (w : World) (scope tuple : List ℕ) → In tuple (tuples (sizes_of_prefix w scope)) → InScope w scope tuple
in_scope w [] tuple h = subst (InScope w []) (sym (⊎_elim (λ (e : tuple ≡ []). e) (λ z. absurd z) h)) tt
in_scope w (i ∷ scope) tuple h =
    let f = each_in (λ m. map (λ (rest : List ℕ). m ∷ rest) (tuples (sizes_of_prefix w scope))) tuple (range_with_len 0 (size_of w i)) h in
    let g = map_in (λ (rest : List ℕ). f.item ∷ rest) tuple (tuples (sizes_of_prefix w scope)) f.is in
    let below = range_below (size_of w i) 0 f.item f.held in
    let less : f.item < size_of w i = omega (arith, below) in
    subst (InScope w (i ∷ scope)) (sym g.is) (less, in_scope w scope g.item g.held)

member_in : (n : ℕ) (v : ℤ) → (pos 0 ≤ℤ v) × (v <ℤ pos n) → is_in n v ≡ true
member_in n v h = and_from (int_le (pos 0) v) (int_lt v (pos n)) (yes_int_le (pos 0) v h.0) (yes_int_lt v (pos n) h.1)

module _ (spec : Spec) (inst : Instance) (fits : FitsDeclarations spec inst) (ns : List ℤ) (stands : Contains (schedules (world_of spec.schema inst)) ns) where
  abbrev world : World
  world = world_of spec.schema inst

  argument_in : (scope tuple : List ℕ) (i : ℕ) (t : Term) → InScope world scope tuple → IsFixed spec.schema scope i t → is_in (size_of world i) (value_on world [] t tuple) ≡ true
  argument_in scope tuple i t inside fixed =
      let kind = same_kind spec.schema t scope ∙ fixed.typed in
      let value = values_keep_kinds (declarations spec.schema) inst (valid_declarations spec inst fits) ns stands scope tuple inside t (MemberOf i) kind in
      subst (λ v. is_in (size_of world i) v ≡ true) (fixed_value world ns tuple t fixed.fixed) (member_in (size_of world i) (value_on world ns t tuple) value)

  arguments_in : (scope tuple : List ℕ) → InScope world scope tuple → (is : List ℕ) (ts : List Term) → Pairs (IsFixed spec.schema scope) is ts → AreMembers (map (size_of world) is) (values_on world [] ts tuple)
  arguments_in scope tuple inside [] [] h = tt
  arguments_in scope tuple inside [] (t ∷ ts) h = absurd h
  arguments_in scope tuple inside (i ∷ is) [] h = absurd h
  arguments_in scope tuple inside (i ∷ is) (t ∷ ts) h = (argument_in scope tuple i t inside h.0, arguments_in scope tuple inside is ts h.1)

  pub cells_are_there : CellsAreThere spec inst
  cells_are_there scope tuple h head inside =
      let family = get_or_from_slice_get spec.schema.choices h.choice head.family no_family head.there in
      let members = arguments_in scope tuple (in_scope world scope tuple inside) head.family.args h.args head.args in
      let c = ((cells_have_numbers world).members h.choice (values_on world [] h.args tuple)).0 (subst (λ (f : Family). AreMembers (sizes_of world f) (values_on world [] h.args tuple)) (sym family) members) in
      (c.0, c.1)
