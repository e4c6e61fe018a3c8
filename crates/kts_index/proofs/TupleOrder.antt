-- The tuple of a number stands there among all tuples.
use Rattle.std.proofs.Common.{◌≡◌, refl, sym, ap, ◌∙◌, ℕ, ◌+◌, ◌*◌, ◌/◌, ◌%◌, ◌<◌, inl, inr, List, [], ◌∷◌, map, get_or, true, Some, pos, arith}
use Rattle.std.specs.Prelude.{slice_get}
use Rattle.std.proofs.Math.Nat.{mul_assoc, mul_comm, mul-zero, add-mul-div_right, add-mul-mod_self_right, div-add-mod, mod-lt, mod-eq_of_lt, eq-zero-or-pos, mul-le-mul_right}
use Rattle.std.proofs.lemmas.Bool.{cases_lt}
use Rattle.std.proofs.lemmas.Option.{get_or_from_slice_get, slice_get_within}
use Rattle.kts_spec.specs.Places.{count_of, is_in, place}
use Rattle.kts_spec.specs.Schedules.{tuples}
use Rattle.kts_spec.proofs.TuplePlaces.{nat_abs_pos, tuple_count}
use Rattle.kts_spec.proofs.TuplePlaces as places
use Rattle.kts_spec.proofs.TypedData.{member_in}
use Rattle.kts_index.specs.TupleNumbers.{tuple_at}

-- the members of a tuple come again after all tuples
member-again : (c n a p : ℕ) → (p + a * (n * c)) / c % n ≡ p / c % n
member-again c n a p = elim (eq-zero-or-pos c) [
  | inl z ↦ let e : p + a * (n * c) ≡ p = rw (z, mul-zero n, mul-zero a) (omega arith) in rw e refl
  | inr h ↦ rw (← (mul_assoc a n c), add-mul-div_right p (a * n) h, add-mul-mod_self_right (p / c) a n) refl
]

-- so does the tuple
tuple_at-again : (sizes : List ℕ) (a p : ℕ) → tuple_at sizes (p + a * count_of sizes) ≡ tuple_at sizes p
tuple_at-again [] a p = refl
tuple_at-again (n ∷ sizes) a p =
    rw (member-again (count_of sizes) n a p, ← (mul_assoc a n (count_of sizes)), tuple_at-again sizes (a * n) p) refl

-- the first member of a tuple, and the number of the others
record Digits (n c p : ℕ) : Type 0 where
  first : ℕ
  others : ℕ
  inside : first < n
  others_inside : others < c
  is : first * c + others ≡ p
  is_first : p / c % n ≡ first

-- every number of a tuple has both
digits : (n c p : ℕ) → p < n * c → Digits n c p
digits n c p h =
    elim (eq-zero-or-pos c) [
      | inl z ↦ absurd (let e : n * c ≡ 0 = rw z (mul-zero n) in omega arith)
      | inr wide ↦
          let d = div-add-mod p c in
          let below : p / c < n = elim (cases_lt (p / c) n) [
            | inl less ↦ less
            | inr more ↦ absurd (let m = mul-le-mul_right c more in omega (arith, mul_comm c (p / c)))
          ] in
          record {
            first = p / c;
            others = p % c;
            inside = below;
            others_inside = mod-lt p wide;
            is = omega (arith, mul_comm c (p / c));
            is_first = mod-eq_of_lt below;
          }
    ]

-- its place is the number
pub place_of-tuple_at : (sizes : List ℕ) (p : ℕ) → p < count_of sizes → place sizes (map pos (tuple_at sizes p)) ≡ Some p
place_of-tuple_at [] p h = let z : 0 ≡ p = omega arith in ap (λ p. Some p) z
place_of-tuple_at (n ∷ sizes) p h =
    let q = digits n (count_of sizes) p h in
    let turned : p ≡ q.others + q.first * count_of sizes = let e = q.is in omega arith in
    let rest : tuple_at sizes p ≡ tuple_at sizes q.others = ap (tuple_at sizes) turned ∙ tuple_at-again sizes q.first q.others in
    let within : is_in n (pos q.first) ≡ true = member_in n q.first (let l = q.inside in omega (arith, l)) in
    rw (q.is_first, rest, within, place_of-tuple_at sizes q.others q.others_inside) (ap (λ p. Some p) q.is)

-- so it stands there
pub tuple_stands : (sizes : List ℕ) (p : ℕ) → p < count_of sizes → slice_get (tuples sizes) p ≡ Some (tuple_at sizes p)
tuple_stands sizes p h = places.tuple_at sizes (map pos (tuple_at sizes p)) p (place_of-tuple_at sizes p h) ∙ ap (λ t. Some t) (nat_abs_pos (tuple_at sizes p))

-- with a default where there is none
pub tuples-at : (sizes : List ℕ) (p : ℕ) → p < count_of sizes → get_or (tuples sizes) p [] ≡ tuple_at sizes p
tuples-at sizes p h = get_or_from_slice_get (tuples sizes) p (tuple_at sizes p) [] (tuple_stands sizes p h)

-- the tuple at a place is the one of its number
pub tuple_is : (sizes tuple : List ℕ) (p : ℕ) → place sizes (map pos tuple) ≡ Some p → (p < count_of sizes) × (tuple ≡ tuple_at sizes p)
tuple_is sizes tuple p e =
    let stands : slice_get (tuples sizes) p ≡ Some tuple = places.tuple_at sizes (map pos tuple) p e ∙ ap (λ t. Some t) (nat_abs_pos tuple) in
    let less : p < count_of sizes = let l = slice_get_within (tuples sizes) p tuple stands in omega (arith, tuple_count sizes) in
    (less, sym (get_or_from_slice_get (tuples sizes) p tuple [] stands) ∙ tuples-at sizes p less)
