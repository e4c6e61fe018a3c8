-- Going along a list, one item at a time.
use Rattle.std.proofs.Common.{◌≡◌, refl, sym, ◌∙◌, ap, ℕ, ◌+◌, ◌-◌, ◌<◌, ◌≤◌, suc, add-one, arith, List, [], ◌∷◌, ◌++◌, length, take, drop, get_or, Some, slice_get, slice_index_or}
use Rattle.std.specs.List.{flat_map, zip, range_with_len}
use Rattle.std.proofs.Math.Seq.{drop-cons}
use Rattle.std.proofs.lemmas.List.{drop_all}
use Rattle.std.proofs.lemmas.Option.{slice_get_within, slice_get-get_or, get_or_from_slice_get}
use Rattle.std.proofs.lemmas.Slice.Zip.{length-zip, get_or-zip}
use Rattle.kts_spec.specs.Places.{count_of}
use Rattle.kts_spec.specs.Schedules.{tuples}
use Rattle.kts_spec.proofs.TuplePlaces.{tuple_count}

-- the items from a place on
pub drop_at : {X : Type 0} (xs : List X) (k : ℕ) (x : X) → slice_get xs k ≡ Some x → drop k xs ≡ x ∷ drop (k + 1) xs
drop_at xs k x e =
    rw add-one (drop-cons xs k x (slice_get_within xs k x e) ∙ ap (λ y. y ∷ drop (suc k) xs) (get_or_from_slice_get xs k x x e))

-- the item that an index of a list gives
pub item_there : {X : Type 0} (xs : List X) (k : ℕ) (x : X) → k < length xs → x ≡ get_or xs k x → slice_get xs k ≡ Some x
item_there xs k x h e = slice_get-get_or xs k x h ∙ ap (λ y. Some y) (sym e)

module _ {X : Type 0} (f : X → List ℕ) where
  pub flat_here : (xs : List X) (k : ℕ) (x : X) → slice_get xs k ≡ Some x → flat_map f (drop k xs) ≡ f x ++ flat_map f (drop (k + 1) xs)
  flat_here xs k x e = ap (flat_map f) (drop_at xs k x e)

  pub flat_end : (xs : List X) (k : ℕ) → length xs ≤ k → flat_map f (drop k xs) ≡ []
  flat_end xs k h = ap (flat_map f) (drop_all k xs h)

-- each tuple beside a value
module _ {Y : Type 0} (f : List ℕ × Y → List ℕ) (sizes : List ℕ) (vs : List Y) (same : length vs ≡ count_of sizes) where
  abbrev pairs : List (List ℕ × Y)
  pairs = zip (tuples sizes) vs

  pub walk_here : (k : ℕ) (v d : Y) → k < length vs → v ≡ get_or vs k d → flat_map f (drop k pairs) ≡ f (slice_index_or (tuples sizes) k [], v) ++ flat_map f (drop (k + 1) pairs)
  walk_here k v d h e =
      let count = tuple_count sizes in
      let long = length-zip (tuples sizes) vs in
      let pair = get_or-zip (tuples sizes) vs k ([], d) (omega (arith, count, same)) h ∙ ap (λ y. (slice_index_or (tuples sizes) k [], y)) (sym e) in
      flat_here f pairs k (slice_index_or (tuples sizes) k [], v) (slice_get-get_or pairs k ([], d) (omega (arith, count, same, long)) ∙ ap (λ p. Some p) pair)

  pub walk_end : (k : ℕ) → length vs ≤ k → flat_map f (drop k pairs) ≡ []
  walk_end k h =
      let count = tuple_count sizes in
      let long = length-zip (tuples sizes) vs in
      flat_end f pairs k (omega (arith, count, same, long))

-- only so many values stand beside tuples
pub zip_take : {X Y : Type 0} (ts : List X) (vs : List Y) → zip ts vs ≡ zip ts (take (length ts) vs)
zip_take [] vs = refl
zip_take (t ∷ ts) [] = refl
zip_take (t ∷ ts) (v ∷ vs) = ap (λ ps. (t, v) ∷ ps) (zip_take ts vs)

-- the numbers from one on
pub range_here : (k n : ℕ) → k < n → range_with_len k (n - k) ≡ k ∷ range_with_len (k + 1) (n - (k + 1))
range_here k n h = let e : n - k ≡ suc (n - (k + 1)) = omega arith in rw e refl

pub range_end : (k n : ℕ) → n ≤ k → range_with_len k (n - k) ≡ []
range_end k n h = let e : n - k ≡ 0 = omega arith in rw e refl
