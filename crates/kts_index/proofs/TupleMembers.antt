-- The members of a tuple, one by one.
use Rattle.std.proofs.Common.{◌≡◌, refl, sym, ap, ◌∙◌, ℕ, zero, suc, ◌+◌, ◌-◌, ◌/◌, ◌%◌, ◌<◌, ◌≤◌, inl, inr, List, [], ◌∷◌, length, map, take, drop, get_or, set, slice_index, arith, length-take, get_or-take, length-drop, add-one}
use Rattle.std.proofs.lemmas.Bool.{cases_lt}
use Rattle.std.proofs.lemmas.List.{length-map, ext_get_or, get_or-set_other, get_or-set_same, take_all, drop-map, get_or-map}
use Rattle.kts_spec.specs.Places.{count_of}
use Rattle.kts_spec.specs.declared.instance.Instance.{Instance}
use Rattle.kts_index.specs.TupleNumbers.{sizes_in, tuple_at}

-- a member of a tuple is a digit of its number
get_or-tuple_at : (xs : List ℕ) (p k : ℕ) → k < length xs → get_or (tuple_at xs p) k 0 ≡ p / count_of (drop (suc k) xs) % get_or xs k 0
get_or-tuple_at [] p k h = let f : k < 0 = h in omega arith
get_or-tuple_at (n ∷ xs) p zero h = refl
get_or-tuple_at (n ∷ xs) p (suc k) h = get_or-tuple_at xs p k (omega arith)

-- a tuple has a member of each index
length-tuple_at : (xs : List ℕ) (p : ℕ) → length (tuple_at xs p) ≡ length xs
length-tuple_at [] p = refl
length-tuple_at (n ∷ xs) p = ap suc (length-tuple_at xs p)

module _ (inst : Instance) (indexes : List ℕ) (p : ℕ) where
  -- the first k places hold the first members
  abbrev pub Holds : List ℕ → ℕ → Type 0
  Holds room k = (j : ℕ) → j < k → get_or room j 0 ≡ get_or (tuple_at (sizes_in inst indexes) p) j 0

  -- a member, by the indexes after its own, as a slice of all
  member_is : (k : ℕ) → k < length indexes
      → get_or (tuple_at (sizes_in inst indexes) p) k 0 ≡ p / count_of (sizes_in inst (take (length indexes - (k + 1)) (drop (k + 1) indexes))) % slice_index (map length inst.members) (get_or indexes k 0)
  member_is k h =
      let f = slice_index (map length inst.members) in
      get_or-tuple_at (sizes_in inst indexes) p k (rw (length-map indexes f) h)
      ∙ rw (drop-map f (suc k) indexes, get_or-map f indexes k 0 0 h, take_all (length indexes - (k + 1)) (drop (k + 1) indexes) (omega (arith, length-drop (k + 1) indexes)), add-one) refl

  -- one place more
  pub holds_more : (room : List ℕ) (k v : ℕ) → Holds room k → k < length room → k < length indexes
      → v ≡ p / count_of (sizes_in inst (take (length indexes - (k + 1)) (drop (k + 1) indexes))) % slice_index (map length inst.members) (get_or indexes k 0)
      → Holds (set room k v) (k + 1)
  holds_more room k v held h l e j less = elim (cases_lt j k) [
    | inl earlier ↦ get_or-set_other room k j v 0 (λ same. omega arith) ∙ held j earlier
    | inr later ↦ let same : j ≡ k = omega arith in rw same (get_or-set_same room k v 0 h ∙ (e ∙ sym (member_is k l)))
  ]

  -- when all of them are held, they are the tuple
  pub holds_all : (room : List ℕ) → length indexes ≤ length room → Holds room (length indexes) → take (length indexes) room ≡ tuple_at (sizes_in inst indexes) p
  holds_all room h held =
      let same : length (take (length indexes) room) ≡ length (tuple_at (sizes_in inst indexes) p) =
      omega (arith, length-take (length indexes) room, length-tuple_at (sizes_in inst indexes) p, length-map indexes (slice_index (map length inst.members))) in
      ext_get_or 0 (take (length indexes) room) (tuple_at (sizes_in inst indexes) p) same
      (λ i l. let k : i < length indexes = omega (arith, length-take (length indexes) room) in get_or-take (length indexes) room i 0 k ∙ held i k)
