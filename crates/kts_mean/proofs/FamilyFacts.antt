-- What a declared family has, and how many cells come before those of a choice.
use Rattle.std.proofs.Common.{◌≡◌, refl, sym, ◌∙◌, ap, subst, inl, inr, ℕ, zero, suc, ◌+◌, ◌<◌, ◌≤◌, arith, add-one, List, [], ◌∷◌, length, take, true, ◌&&◌, nat_le, nat_lt, Some, slice_get, slice_index, slice_index_or}
use Rattle.std.specs.List.{list_all}
use Rattle.std.specs.Prelude.{slice_set}
use Rattle.std.proofs.lemmas.Bool.{and_parts, cases_lt}
use Rattle.std.proofs.lemmas.List.{get_or-set_same, get_or-set_other}
use Rattle.std.proofs.lemmas.Option.{slice_get-get_or}
use Rattle.kts_base.specs.Limits.{most_arguments}
use Rattle.kts_base.proofs.Orders.{nat_le_yes, nat_lt_yes}
use Rattle.kts_spec.specs.declared.declarations.Family.{Family}
use Rattle.kts_spec.specs.Places.{count_of, cell_count}
use Rattle.kts_spec.specs.Schemas.{is_family, is_type}
use Rattle.kts_spec.specs.Worlds.{World, sizes_of}
use Rattle.kts_spec.proofs.CellPlaces.{more_cells}
use Rattle.kts_spec.proofs.TermRanges.{all_get}
use Rattle.kts_mean.specs.Bounds.{AllIn}

pub all_in : (n : ℕ) (indexes : List ℕ) → list_all (λ i. nat_lt i n) indexes ≡ true → AllIn n indexes
all_in n [] h = tt
all_in n (i ∷ indexes) h = let p = and_parts (nat_lt i n) (list_all (λ i. nat_lt i n) indexes) h in (nat_lt_yes i n p.0, all_in n indexes p.1)

-- a family over the first so many indexes
pub record FamilyFacts (indexes : ℕ) (family : Family) : Type 0 where
  pub few : length family.args ≤ most_arguments
  pub declared : AllIn indexes family.args
  pub kind : is_type indexes family.kind ≡ true

pub family_facts : (n : ℕ) (family : Family) → is_family n family ≡ true → FamilyFacts n family
family_facts n family h =
    let args = list_all (λ i. nat_lt i n) family.args in
    let whole = and_parts (nat_le (length family.args) most_arguments && args) (is_type n family.kind) h in
    let front = and_parts (nat_le (length family.args) most_arguments) args whole.0 in
    record { few = nat_le_yes (length family.args) most_arguments front.0; declared = all_in n family.args front.1; kind = whole.1 }

pub found_family : (n : ℕ) (families : List Family) (at : ℕ) (family : Family) → list_all (is_family n) families ≡ true → slice_get families at ≡ Some family → FamilyFacts n family
found_family n families at family h e = family_facts n family (all_get (is_family n) families at family h e)

-- the item that an index of a list gives
pub item_there : {X : Type 0} (xs : List X) (at : ℕ) (x : X) → at < length xs → x ≡ slice_index_or xs at x → slice_get xs at ≡ Some x
item_there xs at x h e = slice_get-get_or xs at x h ∙ ap (λ y. Some y) (sym e)

module _ (w : World) where
  cells_more : (families : List Family) (at : ℕ) (family : Family) → slice_get families at ≡ Some family → cell_count w (take (suc at) families) ≡ cell_count w (take at families) + count_of (sizes_of w family)
  cells_more [] at family e = cc
  cells_more (f ∷ families) zero family e =
      let same : f ≡ family = cc in
      let one = more_cells w f [] in
      let none : cell_count w [] ≡ 0 = refl in
      rw (← same) (omega (arith, one, none))
  cells_more (f ∷ families) (suc at) family e =
      let later = more_cells w f (take (suc at) families) in
      let here = more_cells w f (take at families) in
      let rest = cells_more families at family e in
      omega (arith, later, here, rest)

  -- the cells before the next choice
  pub cells_next : (families : List Family) (at : ℕ) (family : Family) → slice_get families at ≡ Some family → cell_count w (take (at + 1) families) ≡ cell_count w (take at families) + count_of (sizes_of w family)
  cells_next families at family e = rw add-one (cells_more families at family e)

  pub cells_within : (families : List Family) (at : ℕ) → cell_count w (take at families) ≤ cell_count w families
  cells_within families zero = let none : cell_count w [] ≡ 0 = refl in omega (arith, none)
  cells_within [] (suc at) = let none : cell_count w [] ≡ 0 = refl in omega (arith, none)
  cells_within (f ∷ families) (suc at) =
      let later = more_cells w f (take at families) in
      let all = more_cells w f families in
      let rest = cells_within families at in
      omega (arith, later, all, rest)

  -- one offset more
  pub offset_more : (families : List Family) (offsets : List ℕ) (at : ℕ) → at < length offsets
      → ((x : ℕ) → x < at → slice_index offsets x ≡ cell_count w (take x families))
      → (x : ℕ) → x < at + 1 → slice_index (slice_set offsets at (cell_count w (take at families))) x ≡ cell_count w (take x families)
  offset_more families offsets at room known x h = elim (cases_lt x at) [
    | inl before ↦ get_or-set_other offsets at x (cell_count w (take at families)) 0 (λ e. absurd (omega (arith, before, e))) ∙ known x before
    | inr after ↦
        let same : at ≡ x = omega (arith, after, h) in
        subst (λ y. slice_index (slice_set offsets at (cell_count w (take at families))) y ≡ cell_count w (take y families)) same (get_or-set_same offsets at (cell_count w (take at families)) 0 room)
  ]
