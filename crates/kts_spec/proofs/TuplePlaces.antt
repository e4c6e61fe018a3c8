-- The place of a tuple is its number among all tuples.
use Rattle.std.proofs.Common.{◌≡◌, refl, sym, ◌∙◌, ap, ⊎_elim, inl, inr, ℕ, zero, suc, ◌+◌, ◌*◌, ◌<◌, ◌≤◌, arith, List, [], ◌∷◌, length, map, take, Bool, true, false, Option, Some, None, ℤ, pos, negsuc, int_le, int_lt, nat_abs, length-append}
use Rattle.std.specs.Prelude.{slice_get, option_map, if◌then◌else◌}
use Rattle.std.specs.List.{flat_map, range_with_len}
use Rattle.std.proofs.lemmas.Bool.{and_parts, cases_lt}
use Rattle.std.proofs.lemmas.Int.{ints}
use Rattle.std.proofs.lemmas.List.{length-map}
use Rattle.std.proofs.lemmas.Option.{slice_get-map, slice_get_within}
use Rattle.std.proofs.Math.Nat.{mul-le-mul_right}
use Rattle.kts_spec.specs.CellOrder.{AreMembers, IsBefore, TuplesHavePlaces}
use Rattle.kts_spec.specs.Places.{is_in, count_of, place}
use Rattle.kts_spec.specs.Schedules.{tuples}
use Rattle.kts_spec.proofs.Concatenations.{in_joined, piece_of}
use Rattle.kts_spec.proofs.TypedData.{member_in, how_far}
use Rattle.kts_base.proofs.Orders.{int_le_yes, int_lt_yes}

-- the place of members is below the number of all tuples
pub record HasPlace (sizes : List ℕ) (args : List ℤ) : Type 0 where
  pub at : ℕ
  pub is : place sizes args ≡ Some at
  pub below : at < count_of sizes

member_below : (n : ℕ) (m : ℤ) → is_in n m ≡ true → nat_abs m < n
member_below n (pos a) h = let p = int_lt_yes (pos a) (pos n) (and_parts (int_le (pos 0) (pos a)) (int_lt (pos a) (pos n)) h).1 in omega (arith, ints)
member_below n (negsuc a) h = let p = int_le_yes (pos 0) (negsuc a) (and_parts (int_le (pos 0) (negsuc a)) (int_lt (negsuc a) (pos n)) h).0 in absurd (omega (arith, ints))

before_end : (a n p c : ℕ) → a < n → p < c → a * c + p < n * c
before_end a n p c h k = let m = mul-le-mul_right c h in omega (arith, m)

pub has_place : (sizes : List ℕ) (args : List ℤ) → AreMembers sizes args → HasPlace sizes args
has_place [] [] h = record { at = 0; is = refl; below = omega arith }
has_place [] (m ∷ args) h = absurd h
has_place (n ∷ sizes) [] h = absurd h
has_place (n ∷ sizes) (m ∷ args) h =
    let rest = has_place sizes args h.1 in
    record {
      at = nat_abs m * count_of sizes + rest.at;
      is = rw (h.0, rest.is) refl;
      below = before_end (nat_abs m) n rest.at (count_of sizes) (member_below n m h.0) rest.below;
    }

-- an item of a list to which a function was applied
pub record FromItem {X Y : Type 0} (f : X → Y) (xs : List X) (k : ℕ) (y : Y) : Type 0 where
  pub item : X
  pub stands : slice_get xs k ≡ Some item
  pub is : f item ≡ y

pub item_of : {X Y : Type 0} (f : X → Y) (xs : List X) (k : ℕ) (y : Y) → slice_get (map f xs) k ≡ Some y → FromItem f xs k y
item_of f [] k y e = absurd (let none : None ≡ Some y = e in cc)
item_of f (x ∷ xs) zero y e = record { item = x; stands = refl; is = cc }
item_of f (x ∷ xs) (suc k) y e = let p = item_of f xs k y e in record { item = p.item; stands = p.stands; is = p.is }

pub item_at : {X Y : Type 0} (f : X → Y) (xs : List X) (k : ℕ) (x : X) → slice_get xs k ≡ Some x → slice_get (map f xs) k ≡ Some (f x)
item_at f xs k x e = slice_get-map f xs k ∙ ap (option_map f) e

-- the numbers from one on
range_at : (a n k m : ℕ) → k < n → m ≡ a + k → slice_get (range_with_len a n) k ≡ Some m
range_at a zero k m h e = absurd (omega arith)
range_at a (suc n) zero m h e = let f : a ≡ m = omega (arith, e) in ap (λ m. Some m) f
range_at a (suc n) (suc k) m h e = range_at (a + 1) n k m (omega arith) (omega (arith, e))

range_is : (a n k m : ℕ) → slice_get (range_with_len a n) k ≡ Some m → (k < n) × (m ≡ a + k)
range_is a zero k m e = absurd (let none : None ≡ Some m = e in cc)
range_is a (suc n) zero m e = let same : a ≡ m = cc in (omega arith, omega (arith, same))
range_is a (suc n) (suc k) m e = let p = range_is (a + 1) n k m e in (omega (arith, p.0), omega (arith, p.1))

range_first : (a n k : ℕ) → k ≤ n → take k (range_with_len a n) ≡ range_with_len a k
range_first a n zero h = refl
range_first a zero (suc k) h = absurd (omega arith)
range_first a (suc n) (suc k) h = ap (λ ms. a ∷ ms) (range_first (a + 1) n k (omega arith))

-- so many pieces of one length
equal_pieces : (sizes : List ℕ) (a n : ℕ) → length (flat_map (λ m. map (λ rest. m ∷ rest) (tuples sizes)) (range_with_len a n)) ≡ n * length (tuples sizes)
equal_pieces sizes a zero = omega arith
equal_pieces sizes a (suc n) =
    let c = length (tuples sizes) in
    let rest = flat_map (λ m. map (λ rest. m ∷ rest) (tuples sizes)) (range_with_len (a + 1) n) in
    let l = length-append (map (λ rest. a ∷ rest) (tuples sizes)) rest in
    let one = length-map (tuples sizes) (λ rest. a ∷ rest) in
    let ih = equal_pieces sizes (a + 1) n in
    let times : c + n * c ≡ suc n * c = omega arith in
    l ∙ ap (λ k. k + length rest) one ∙ ap (λ k. c + k) ih ∙ times

pub tuple_count : (sizes : List ℕ) → length (tuples sizes) ≡ count_of sizes
tuple_count [] = refl
tuple_count (n ∷ sizes) = equal_pieces sizes 0 n ∙ ap (λ c. n * c) (tuple_count sizes)

-- the tuples before those that begin with a member
before : (sizes : List ℕ) (n m : ℕ) → m ≤ n → length (flat_map (λ m. map (λ rest. m ∷ rest) (tuples sizes)) (take m (range_with_len 0 n))) ≡ m * count_of sizes
before sizes n m h =
    ap (λ ms. length (flat_map (λ m. map (λ rest. m ∷ rest) (tuples sizes)) ms)) (range_first 0 n m h)
    ∙ equal_pieces sizes 0 m ∙ ap (λ c. m * c) (tuple_count sizes)

-- the place of a longer tuple
place_first : (n : ℕ) (sizes : List ℕ) (m : ℤ) (args : List ℤ) (p : ℕ) → is_in n m ≡ true → place sizes args ≡ Some p → place (n ∷ sizes) (m ∷ args) ≡ Some (nat_abs m * count_of sizes + p)
place_first n sizes m args p h e = rw (h, e) refl

-- what its place says
record Placement (n : ℕ) (sizes : List ℕ) (m : ℤ) (args : List ℤ) (k : ℕ) : Type 0 where
  within : is_in n m ≡ true
  rest : ℕ
  stands : place sizes args ≡ Some rest
  sum : nat_abs m * count_of sizes + rest ≡ k

guarded : (b : Bool) (f : ℕ → ℕ) (o : Option ℕ) (k : ℕ) → if b then option_map f o else None ≡ Some k → (b ≡ true) × (p : ℕ) × (o ≡ Some p) × (f p ≡ k)
guarded true f (Some p) k e = (refl, p, refl, cc)
guarded true f None k e = absurd (let none : None ≡ Some k = e in cc)
guarded false f o k e = absurd (let none : None ≡ Some k = e in cc)

place_parts : (n : ℕ) (sizes : List ℕ) (m : ℤ) (args : List ℤ) (k : ℕ) → place (n ∷ sizes) (m ∷ args) ≡ Some k → Placement n sizes m args k
place_parts n sizes m args k e =
    let g = guarded (is_in n m) (λ p. nat_abs m * count_of sizes + p) (place sizes args) k e in
    record { within = g.0; rest = g.1; stands = g.2; sum = g.3 }

-- a tuple stands at its place
pub tuple_at : (sizes : List ℕ) (args : List ℤ) (k : ℕ) → place sizes args ≡ Some k → slice_get (tuples sizes) k ≡ Some (map nat_abs args)
tuple_at [] [] k e = let zero_is : 0 ≡ k = cc in ap (slice_get (tuples [])) (sym zero_is)
tuple_at [] (m ∷ args) k e = absurd (let none : None ≡ Some k = e in cc)
tuple_at (n ∷ sizes) [] k e = absurd (let none : None ≡ Some k = e in cc)
tuple_at (n ∷ sizes) (m ∷ args) k e =
    let p = place_parts n sizes m args k e in
    let less = member_below n m p.within in
    let ih = tuple_at sizes args p.rest p.stands in
    let here = in_joined (λ m. map (λ rest. m ∷ rest) (tuples sizes)) (range_with_len 0 n) (nat_abs m) p.rest (nat_abs m) (nat_abs m ∷ map nat_abs args) (range_at 0 n (nat_abs m) (nat_abs m) less (omega arith)) (item_at (λ rest. nat_abs m ∷ rest) (tuples sizes) p.rest (map nat_abs args) ih) in
    let at = ap (λ b. b + p.rest) (before sizes n (nat_abs m) (omega (arith, less))) ∙ p.sum in
    ap (slice_get (tuples (n ∷ sizes))) (sym at) ∙ here

-- and its place is where it stands
pub place_at : (sizes : List ℕ) (tuple : List ℕ) (k : ℕ) → slice_get (tuples sizes) k ≡ Some tuple → place sizes (map pos tuple) ≡ Some k
place_at [] tuple zero e = let none : [] ≡ tuple = cc in ap (λ t. place [] (map pos t)) (sym none)
place_at [] tuple (suc k) e = absurd (let none : None ≡ Some tuple = e in cc)
place_at (n ∷ sizes) tuple k e =
    let p = piece_of (λ m. map (λ rest. m ∷ rest) (tuples sizes)) (range_with_len 0 n) k tuple e in
    let r = range_is 0 n p.piece p.source p.stands in
    let i = item_of (λ rest. p.source ∷ rest) (tuples sizes) p.place tuple p.is in
    let less : p.source < 0 + n = omega (arith, r.0, r.1) in
    let at = place_first n sizes (pos p.source) (map pos i.item) p.place (member_in n p.source less) (place_at sizes i.item p.place i.stands) in
    let same : p.piece ≡ p.source = omega (arith, r.1) in
    let sum : p.source * count_of sizes + p.place ≡ k = ap (λ m. m * count_of sizes + p.place) (sym same) ∙ sym (p.sum ∙ ap (λ b. b + p.place) (before sizes n p.piece (omega (arith, r.0)))) in
    ap (λ t. place (n ∷ sizes) (map pos t)) (sym i.is) ∙ at ∙ ap (λ m. Some m) sum

member_position : (n : ℕ) (m : ℤ) → is_in n m ≡ true → m ≡ pos (nat_abs m)
member_position n m h = sym (how_far m (int_le_yes (pos 0) m (and_parts (int_le (pos 0) m) (int_lt m (pos n)) h).0))

pub positions : (sizes : List ℕ) (args : List ℤ) (k : ℕ) → place sizes args ≡ Some k → args ≡ map pos (map nat_abs args)
positions [] [] k e = refl
positions [] (m ∷ args) k e = absurd (let none : None ≡ Some k = e in cc)
positions (n ∷ sizes) [] k e = absurd (let none : None ≡ Some k = e in cc)
positions (n ∷ sizes) (m ∷ args) k e =
    let p = place_parts n sizes m args k e in
    ap (λ v. v ∷ args) (member_position n m p.within) ∙ ap (λ vs. pos (nat_abs m) ∷ vs) (positions sizes args p.rest p.stands)

are_members : (sizes : List ℕ) (args : List ℤ) (k : ℕ) → place sizes args ≡ Some k → AreMembers sizes args
are_members [] [] k e = tt
are_members [] (m ∷ args) k e = absurd (let none : None ≡ Some k = e in cc)
are_members (n ∷ sizes) [] k e = absurd (let none : None ≡ Some k = e in cc)
are_members (n ∷ sizes) (m ∷ args) k e = let p = place_parts n sizes m args k e in (p.within, are_members sizes args p.rest p.stands)

pub nat_abs_pos : (tuple : List ℕ) → map nat_abs (map pos tuple) ≡ tuple
nat_abs_pos [] = refl
nat_abs_pos (m ∷ tuple) = ap (λ ms. m ∷ ms) (nat_abs_pos tuple)

place_below : (sizes : List ℕ) (args : List ℤ) (k : ℕ) → place sizes args ≡ Some k → k < count_of sizes
place_below sizes args k e =
    let less = slice_get_within (tuples sizes) k (map nat_abs args) (tuple_at sizes args k e) in
    let count = tuple_count sizes in
    omega (arith, less, count)

-- the tuple of a lesser place is before
places_rise : (sizes a b : List ℕ) (j k : ℕ) → place sizes (map pos a) ≡ Some j → place sizes (map pos b) ≡ Some k → j < k → IsBefore a b
places_rise [] [] [] j k e f h = let same : j ≡ k = cc in absurd (omega (arith, same))
places_rise [] [] (n ∷ b) j k e f h = absurd (let none : None ≡ Some k = f in cc)
places_rise [] (m ∷ a) b j k e f h = absurd (let none : None ≡ Some j = e in cc)
places_rise (s ∷ sizes) [] b j k e f h = absurd (let none : None ≡ Some j = e in cc)
places_rise (s ∷ sizes) (m ∷ a) [] j k e f h = absurd (let none : None ≡ Some k = f in cc)
places_rise (s ∷ sizes) (m ∷ a) (n ∷ b) j k e f h =
    ⊎_elim (λ (l : m < n). inl l)
    (λ (l : n ≤ m). ⊎_elim (λ (g : n < m). absurd (greater g)) (λ (g : m ≤ n). inr (omega arith, places_rise sizes a b p.rest q.rest p.stands q.stands (equal (omega arith)))) (cases_lt n m))
    (cases_lt m n)
  where
    p : Placement s sizes (pos m) (map pos a) j
    p = place_parts s sizes (pos m) (map pos a) j e

    q : Placement s sizes (pos n) (map pos b) k
    q = place_parts s sizes (pos n) (map pos b) k f

    greater : n < m → ⊥
    greater g =
        let end = before_end n m q.rest (count_of sizes) g (place_below sizes (map pos b) q.rest q.stands) in
        let first : m * count_of sizes + p.rest ≡ j = p.sum in
        let second : n * count_of sizes + q.rest ≡ k = q.sum in
        omega (arith, end, first, second)

    equal : m ≡ n → p.rest < q.rest
    equal g =
        let first : n * count_of sizes + p.rest ≡ j = ap (λ m. m * count_of sizes + p.rest) (sym g) ∙ p.sum in
        let second : n * count_of sizes + q.rest ≡ k = q.sum in
        omega (arith, first, second)

pub tuples_have_places : (sizes : List ℕ) → TuplesHavePlaces sizes
tuples_have_places sizes = record {
  count = tuple_count sizes;
  at = λ k tuple. (place_at sizes tuple k, λ e. tuple_at sizes (map pos tuple) k e ∙ ap (λ t. Some t) (nat_abs_pos tuple));
  rises = λ j k a b e f. places_rise sizes a b j k (place_at sizes a j e) (place_at sizes b k f);
  members = λ args. (λ h. let p = has_place sizes args h in (p.at, p.is), λ p. are_members sizes args p.0 p.1);
  positions = positions sizes;
}
