-- How many tuples of members there are.
use Rattle.std.proofs.Common.{◌≡◌, refl, sym, ℕ, zero, suc, ◌+◌, ◌*◌, ◌<◌, ◌≤◌, List, [], ◌∷◌, ◌++◌, length, map, take, get_or, slice_index, All, arith, length-take}
use Rattle.std.proofs.lemmas.List.{length-map, map_more}
use Rattle.std.proofs.lemmas.List.Elements.{All-map, All-take}
use Rattle.std.proofs.lemmas.Nat.{mul-le}
use Rattle.std.proofs.Math.Nat.{mul_assoc, mul-one, one-mul}
use Rattle.kts_base.specs.Limits.{most_members, most_prefix}
use Rattle.kts_spec.specs.Places.{count_of}
use Rattle.kts_spec.specs.declared.instance.Instance.{Instance}
use Rattle.kts_index.specs.TupleNumbers.{sizes_in, AreIndexes}

-- the tuples of two lists of indexes together
count_of-append : (xs ys : List ℕ) → count_of (xs ++ ys) ≡ count_of xs * count_of ys
count_of-append [] ys = sym (one-mul (count_of ys))
count_of-append (x ∷ xs) ys = rw (count_of-append xs ys) (sym (mul_assoc x (count_of xs) (count_of ys)))

-- the most tuples over at most so many indexes
most : ℕ → ℕ
most zero = 1
most (suc k) = most_members * most k

-- there is one at least
one_at_least : (k : ℕ) → 1 ≤ most k
unfolding most
one_at_least zero = omega arith
one_at_least (suc k) = let h = one_at_least k in omega arith

-- no list of indexes has more
count_within : (k : ℕ) (xs : List ℕ) → length xs ≤ k → All (λ n. n ≤ most_members) xs → count_of xs ≤ most k
unfolding most
count_within k [] h all = one_at_least k
count_within zero (x ∷ xs) h all = absurd (omega arith)
count_within (suc k) (x ∷ xs) h all =
    mul-le x (count_of xs) most_members (most k) (all 0 0 (omega arith)) (count_within k xs (omega arith) (λ i d p. all (suc i) d (omega arith)))

-- the most tuples over the indexes of a prefix, which a word holds
abbrev pub most_tuples : ℕ
most_tuples = most_members * (most_members * most_members)

-- so many for a prefix
count_few : (xs : List ℕ) → length xs ≤ most_prefix → All (λ n. n ≤ most_members) xs → count_of xs ≤ most_tuples
unfolding most
count_few xs h all = let b = count_within most_prefix xs h all in omega (arith, b)

module _ (inst : Instance) (indexes : List ℕ) (ok : AreIndexes inst indexes) where
  -- and for indexes of data
  sizes_few : count_of (sizes_in inst indexes) ≤ most_tuples
  sizes_few =
      let size = slice_index (map length inst.members) in
      count_few (sizes_in inst indexes) (let f = ok.few in omega (arith, length-map indexes size))
      (All-map (λ n. n ≤ most_members) size indexes (λ i d h. ok.small (get_or indexes i d)))

  -- the first of them
  pub take_indexes : (i : ℕ) → AreIndexes inst (take i indexes)
  take_indexes i = record {
    few = let f = ok.few in omega (arith, length-take i indexes);
    inside = All-take (λ i. i < length inst.members) i indexes ok.inside;
    small = ok.small;
  }

-- the product over one index more, as at a step of a loop
pub count_more : (inst : Instance) (indexes : List ℕ) (i : ℕ) → i < length indexes
    → count_of (sizes_in inst (take (i + 1) indexes)) ≡ count_of (sizes_in inst (take i indexes)) * slice_index (map length inst.members) (get_or indexes i 0)
count_more inst indexes i h =
    let size = slice_index (map length inst.members) in
    rw (map_more size indexes i 0 h, count_of-append (map size (take i indexes)) (size (get_or indexes i 0) ∷ []), mul-one (size (get_or indexes i 0))) refl

-- which a word holds at each step
pub step_fits : (inst : Instance) (indexes : List ℕ) → AreIndexes inst indexes → (i : ℕ) → i < length indexes
    → count_of (sizes_in inst (take i indexes)) * slice_index (map length inst.members) (get_or indexes i 0) ≤ most_tuples
step_fits inst indexes ok i h = rw (← (count_more inst indexes i h)) (sizes_few inst (take (i + 1) indexes) (take_indexes inst indexes ok (i + 1)))
