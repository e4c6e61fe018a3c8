-- A loop over a list, in which each makes something of what was read before it, until the first fault.
use Rattle.std.proofs.Common.{◌≡◌, refl, sym, ◌∙◌, ap, ℕ, ◌+◌, ◌<◌, ◌≤◌, add-one, List, length, drop, get_or, map, inl, inr, ◌⊎◌, Ok, Err}
use Rattle.std.proofs.Math.Seq.{drop-cons}
use Rattle.std.proofs.lemmas.List.{drop_all, length-map, get_or-map}
use Rattle.kts_base.specs.Reads.{and_then}
use Rattle.kts_data.specs.Faults.{IsNoMemory, Read, fold_read}
use Rattle.kts_data.specs.declared.fault.DataFault.{DataFault}

module _ {S D : Type 0} (step : S → D → Read S) where
  here : (s : S) (ds : List D) (i : ℕ) (d : D) → i < length ds → d ≡ get_or ds i d
      → fold_read step s (drop i ds) ≡ and_then (step s d) (λ t. fold_read step t (drop (i + 1) ds))
  unfolding fold_read
  here s ds i d h is = ap (fold_read step s) (drop-cons ds i d h) ∙ rw (← is, add-one) refl

  -- the fault of one is the fault of all
  pub all_fails : (s : S) (ds : List D) (i : ℕ) (d : D) (e : DataFault) (total : Read S) → i < length ds → d ≡ get_or ds i d → step s d ≡ Err e
      → fold_read step s (drop i ds) ≡ total → total ≡ Err e
  all_fails s ds i d e total h is fails so_far = sym so_far ∙ here s ds i d h is ∙ rw fails refl

  -- the same where memory may have been refused in its place
  pub all_stops : (s : S) (ds : List D) (i : ℕ) (d : D) (e : DataFault) (total : Read S) → i < length ds → d ≡ get_or ds i d
      → IsNoMemory e ⊎ (step s d ≡ Err e) → fold_read step s (drop i ds) ≡ total → IsNoMemory e ⊎ (total ≡ Err e)
  all_stops s ds i d e total h is (inl refused) so_far = inl refused
  all_stops s ds i d e total h is (inr fails) so_far = inr (all_fails s ds i d e total h is fails so_far)

  -- one more is read
  pub all_on : (s t : S) (ds : List D) (i : ℕ) (d : D) (total : Read S) → i < length ds → d ≡ get_or ds i d → step s d ≡ Ok t
      → fold_read step s (drop i ds) ≡ total → fold_read step t (drop (i + 1) ds) ≡ total
  all_on s t ds i d total h is ok so_far = sym (here s ds i d h is ∙ rw ok refl) ∙ so_far

  -- none is left
  pub all_done : (s : S) (ds : List D) (i : ℕ) (total : Read S) → length ds ≤ i → fold_read step s (drop i ds) ≡ total → total ≡ Ok s
  unfolding fold_read
  all_done s ds i total h so_far = sym so_far ∙ ap (fold_read step s) (drop_all i ds h)

-- the same of a list that is seen by v
module _ {S C D : Type 0} (step : S → D → Read S) (v : C → D) (xs : List C) (i : ℕ) (x : C) (h : i < length xs) (is : x ≡ get_or xs i x) where
  seen : v x ≡ get_or (map v xs) i (v x)
  seen = ap v is ∙ sym (get_or-map v xs i x (v x) h)

  inside : i < length (map v xs)
  inside = rw length-map h

  pub seen_fails : (s : S) (e : DataFault) (total : Read S) → step s (v x) ≡ Err e → fold_read step s (drop i (map v xs)) ≡ total → total ≡ Err e
  seen_fails s e total fails so_far = all_fails step s (map v xs) i (v x) e total inside seen fails so_far

  pub seen_stops : (s : S) (e : DataFault) (total : Read S) → IsNoMemory e ⊎ (step s (v x) ≡ Err e) → fold_read step s (drop i (map v xs)) ≡ total
      → IsNoMemory e ⊎ (total ≡ Err e)
  seen_stops s e total stops so_far = all_stops step s (map v xs) i (v x) e total inside seen stops so_far

  pub seen_on : (s t : S) (total : Read S) → step s (v x) ≡ Ok t → fold_read step s (drop i (map v xs)) ≡ total → fold_read step t (drop (i + 1) (map v xs)) ≡ total
  seen_on s t total ok so_far = all_on step s t (map v xs) i (v x) total inside seen ok so_far

pub seen_done : {S C D : Type 0} (step : S → D → Read S) (v : C → D) (s : S) (xs : List C) (i : ℕ) (total : Read S) → length xs ≤ i
    → fold_read step s (drop i (map v xs)) ≡ total → total ≡ Ok s
seen_done step v s xs i total h so_far = all_done step s (map v xs) i total (rw length-map h) so_far
