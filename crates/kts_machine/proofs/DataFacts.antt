-- What valid data say of families and cells.
use Rattle.std.proofs.Common.{◌≡◌, sym, ◌∙◌, ap, subst, ℕ, ◌+◌, ◌-◌, ◌<◌, ◌≤◌, arith, List, length, map, true, Option, Some, slice_get, slice_index, slice_index_or, ℤ, pos}
use Rattle.std.proofs.lemmas.Option.{slice_get-get_or, get_or_from_slice_get}
use Rattle.kts_base.specs.Limits.{most_members, most_choices, most_cells}
use Rattle.kts_mean.proofs.FamilyFacts.{FamilyFacts, found_family, cells_next, cells_within}
use Rattle.kts_spec.specs.declared.declarations.Family.{Family}
use Rattle.kts_spec.specs.declared.instance.Instance.{Instance}
use Rattle.kts_spec.specs.declared.schema.Schema.{Schema}
use Rattle.kts_spec.specs.Data.{is_valid}
use Rattle.kts_spec.specs.Places.{count_of, place, offset, cell}
use Rattle.kts_spec.specs.Schedules.{Cell, cells}
use Rattle.kts_spec.specs.Schemas.{no_family}
use Rattle.kts_spec.specs.Worlds.{world_of, sizes_of, given_of, choice_of}
use Rattle.kts_spec.proofs.CellPlaces.{cells_have_numbers, number_at}
use Rattle.kts_spec.proofs.Conditions.{schema_facts, instance_facts}
use Rattle.kts_spec.proofs.TuplePlaces.{has_place, tuples_have_places, nat_abs_pos}
use Rattle.kts_spec.proofs.TypedAccesses.{few_members}

same_place : (a b : ℕ) (o : Option ℕ) → o ≡ Some a → o ≡ Some b → a ≡ b
same_place a b o e f = cc

-- a place is one of as many as there are tuples
pub place_below : (sizes : List ℕ) (args : List ℤ) (k : ℕ) → place sizes args ≡ Some k → k < count_of sizes
place_below sizes args k e =
    let h = has_place sizes args (((tuples_have_places sizes).members args).1 (k, e)) in
    let same = same_place h.at k (place sizes args) h.is e in
    let below = h.below in
    omega (arith, same, below)

module _ (schema : Schema) (inst : Instance) (valid : is_valid schema inst ≡ true) where
  pub sizes : (i : ℕ) → slice_index (map length inst.members) i ≤ most_members
  sizes i = few_members inst.members i (instance_facts schema inst valid).members

  on_data : (family : Family) → FamilyFacts (length schema.indexes) family → FamilyFacts (length inst.members) family
  on_data family h = subst (λ n. FamilyFacts n family) (sym (instance_facts schema inst valid).indexes) h

  pub choice_facts : (x : ℕ) → x < length schema.choices → FamilyFacts (length inst.members) (choice_of (world_of schema inst) x)
  choice_facts x h =
      let family = choice_of (world_of schema inst) x in
      on_data family (found_family (length schema.indexes) schema.choices x family (schema_facts schema).choices (slice_get-get_or schema.choices x no_family h))

  pub given_facts : (f : ℕ) → f < length schema.givens → FamilyFacts (length inst.members) (given_of (world_of schema inst) f)
  given_facts f h =
      let family = given_of (world_of schema inst) f in
      on_data family (found_family (length schema.indexes) schema.givens f family (schema_facts schema).givens (slice_get-get_or schema.givens f no_family h))

  pub few_choices : (x : ℕ) → x < length schema.choices → x < most_choices
  few_choices x h = let few = (schema_facts schema).few_choices in omega (arith, few, h)

  -- the cells of a choice stand after those before it
  pub cells_after : (x : ℕ) → x < length schema.choices
      → offset (world_of schema inst) (x + 1) ≡ offset (world_of schema inst) x + count_of (sizes_of (world_of schema inst) (choice_of (world_of schema inst) x))
  cells_after x h = let w = world_of schema inst in cells_next w schema.choices x (choice_of w x) (slice_get-get_or schema.choices x no_family h)

  pub few_cells : (x : ℕ) → offset (world_of schema inst) x ≤ most_cells
  few_cells x =
      let some = cells_within (world_of schema inst) schema.choices x in
      let all = (instance_facts schema inst valid).few_cells in
      omega (arith, some, all)

  -- the number of a cell is small
  pub number_below : (x p : ℕ) (args : List ℤ) → x < length schema.choices
      → place (sizes_of (world_of schema inst) (choice_of (world_of schema inst) x)) args ≡ Some p → offset (world_of schema inst) x + p < most_cells
  number_below x p args h e =
      let w = world_of schema inst in
      let below = place_below (sizes_of w (choice_of w x)) args p e in
      let next = cells_after x h in
      let few = few_cells (x + 1) in
      omega (arith, below, next, few)

  -- the choice that a cell belongs to, and its tuple
  pub owner_is : (x k : ℕ) (tuple : List ℕ) → x < length schema.choices → offset (world_of schema inst) x ≤ k
      → place (sizes_of (world_of schema inst) (choice_of (world_of schema inst) x)) (map pos tuple) ≡ Some (k - offset (world_of schema inst) x)
      → slice_get (cells (world_of schema inst)) k ≡ Some (record { choice = x; args = tuple; kind = (choice_of (world_of schema inst) x).kind })
  owner_is x k tuple h l e =
      let w = world_of schema inst in
      let sum : offset w x + (k - offset w x) ≡ k = omega (arith, l) in
      let number : cell w x (map pos tuple) ≡ Some k = number_at w x (k - offset w x) (map pos tuple) e ∙ ap (λ n. Some n) sum in
      let there = (cells_have_numbers w).access x k (map pos tuple) h number in
      there ∙ ap (λ args. let c : Cell = record { choice = x; args = args; kind = (choice_of w x).kind } in Some c) (nat_abs_pos tuple)

-- an item that was read from a list
pub item_read : {X : Type 0} (list xs : List X) (k : ℕ) (x d : X) → list ≡ xs → k < length xs → x ≡ slice_index_or list k x → x ≡ slice_index_or xs k d
item_read list xs k x d same h e =
    let there : slice_get xs k ≡ Some x = slice_get-get_or xs k x h ∙ ap (λ y. Some y) (sym (e ∙ ap (λ l. slice_index_or l k x) same)) in
    sym (get_or_from_slice_get xs k x d there)

pub family_read : (list families : List Family) (x : ℕ) (f : Family) → list ≡ families → x < length families → f ≡ slice_index_or list x f
    → f ≡ slice_index_or families x no_family
family_read list families x f same h e = item_read list families x f no_family same h e
