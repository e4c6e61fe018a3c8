-- Membership of lists, by items.
use Rattle.std.proofs.Common.{◌≡◌, refl, sym, ap, ◌∙◌, subst, ◌⊎◌, inl, inr, ⊎_elim, true, false, List, [], ◌∷◌, ◌++◌, map, fold, ℤ, ◌≤ℤ◌, int_lt, arith}
use Rattle.std.specs.Prelude.{flat_map}
use Rattle.std.specs.Int.{int_min, int_max}
use Rattle.std.specs.Ordering.{int_eq}
use Rattle.std.proofs.lemmas.Bool.{cases_Bool, or_left, or_right, true≢false}
use Rattle.std.proofs.lemmas.Int.{ints, clamps}
use Rattle.kts_abs.specs.Abstraction.{Finer}
use Rattle.kts_abs.specs.InSpace.{placed, rising, hull_of_all}
use Rattle.kts_abs.specs.Values.{has, ends_of}
use Rattle.kts_abs.specs.Windows.{Window, hull_of}
use Rattle.kts_abs.specs.WindowLaws.{Lies, yes_eq, eq_yes}
use Rattle.kts_abs.proofs.WindowEnds.{Inside}
use Rattle.kts_abs.proofs.Rising.{has_cases}

-- x is an item of the list
abbrev pub In : {X : Type 0} → X → List X → Type 0
In x [] = ⊥
In x (y ∷ ys) = (x ≡ y) ⊎ In x ys

-- the test of membership finds items, and finds each
pub has_in : (ms : List ℤ) (n : ℤ) → has ms n ≡ true → In n ms
has_in [] n h = true≢false (sym h)
has_in (m ∷ ms) n h = ⊎_elim (λ e. inl e) (λ k. inr (has_in ms n k)) (has_cases m ms n h)

pub in_has : (ms : List ℤ) (n : ℤ) → In n ms → has ms n ≡ true
in_has [] n h = absurd h
in_has (m ∷ ms) n h = ⊎_elim (λ e. or_left (int_eq n m) (has ms n) (yes_eq n m e)) (λ k. or_right (int_eq n m) (has ms n) (in_has ms n k)) h

-- the first list is not empty, and its items are in the second
pub record Within (ms ns : List ℤ) : Type 0 where
  pub first : ℤ
  pub solid : In first ms
  pub all : (m : ℤ) → In m ms → In m ns

-- finer sets are lists within lists, and the other way round
pub within_from : (ms ns : List ℤ) → Finer has ms ns → Within ms ns
within_from ms ns f = record {
  first = f.witness;
  solid = has_in ms f.witness f.allowed;
  all = λ m h. has_in ns m (f.within m (in_has ms m h));
}

pub finer_within : (ms ns : List ℤ) → Within ms ns → Finer has ms ns
finer_within ms ns w = record {
  witness = w.first;
  allowed = in_has ms w.first w.solid;
  within = λ m h. in_has ns m (w.all m (has_in ms m h));
}

-- ---- lists put together

-- an item of either part is one of both together
in_left : {X : Type 0} (x : X) (xs ys : List X) → In x xs → In x (xs ++ ys)
in_left x [] ys h = absurd h
in_left x (y ∷ xs) ys h = ⊎_elim (λ e. inl e) (λ k. inr (in_left x xs ys k)) h

in_right : {X : Type 0} (x : X) (xs ys : List X) → In x ys → In x (xs ++ ys)
in_right x [] ys h = h
in_right x (y ∷ xs) ys h = inr (in_right x xs ys h)

-- an item of both together is one of either part
in_split : {X : Type 0} (x : X) (xs ys : List X) → In x (xs ++ ys) → In x xs ⊎ In x ys
in_split x [] ys h = inr h
in_split x (y ∷ xs) ys h = ⊎_elim (λ e. inl (inl e)) (λ k. ⊎_elim (λ l. inl (inr l)) (λ r. inr r) (in_split x xs ys k)) h

-- an item that was changed
pub in_map : {X Y : Type 0} (f : X → Y) (x : X) (xs : List X) → In x xs → In (f x) (map f xs)
in_map f x [] h = absurd h
in_map f x (y ∷ xs) h = ⊎_elim (λ e. inl (ap f e)) (λ k. inr (in_map f x xs k)) h

-- an item with the property
pub record Item {X : Type 0} (P : X → Type 0) (xs : List X) : Type 0 where
  pub item : X
  pub held : In item xs
  pub is : P item

later : {X : Type 0} (P : X → Type 0) (x : X) (xs : List X) → Item P xs → Item P (x ∷ xs)
later P x xs f = record { item = f.item; held = inr f.held; is = f.is }

-- what a changed item comes from
pub map_in : {X Y : Type 0} (f : X → Y) (y : Y) (xs : List X) → In y (map f xs) → Item (λ x. y ≡ f x) xs
map_in f y [] h = absurd h
map_in f y (x ∷ xs) h = ⊎_elim (λ e. record { item = x; held = inl refl; is = e }) (λ k. later _ x xs (map_in f y xs k)) h

-- an item of a part
pub in_each : {X Y : Type 0} (f : X → List Y) (x : X) (y : Y) (xs : List X) → In x xs → In y (f x) → In y (flat_map f xs)
in_each f x y [] h k = absurd h
in_each f x y (z ∷ xs) h k = ⊎_elim (λ e. in_left y (f z) _ (subst (λ u. In y (f u)) e k)) (λ l. in_right y (f z) _ (in_each f x y xs l k)) h

-- the part that an item is in
pub each_in : {X Y : Type 0} (f : X → List Y) (y : Y) (xs : List X) → In y (flat_map f xs) → Item (λ x. In y (f x)) xs
each_in f y [] h = absurd h
each_in f y (x ∷ xs) h = ⊎_elim (λ l. record { item = x; held = inl refl; is = l }) (λ r. later _ x xs (each_in f y xs r)) (in_split y (f x) _ h)

-- ---- rising lists

-- a number put at its place is there beside the others
in_placed : (n m : ℤ) (ms : List ℤ) → (m ≡ n) ⊎ In m ms → In m (placed n ms)
in_placed n m [] h = h
in_placed n m (x ∷ ms) h =
    ⊎_elim
    (λ (e : int_eq n x ≡ true). rw e (⊎_elim (λ (s : m ≡ n). inl (s ∙ eq_yes n x e)) (λ k. k) h))
    (λ (e : int_eq n x ≡ false). ⊎_elim
    (λ (t : int_lt n x ≡ true). rw (e, t) h)
    (λ (t : int_lt n x ≡ false). rw (e, t) (⊎_elim
    (λ (s : m ≡ n). inr (in_placed n m ms (inl s)))
    (λ k. ⊎_elim (λ (s : m ≡ x). inl s) (λ l. inr (in_placed n m ms (inr l))) k) h))
    (cases_Bool (int_lt n x)))
    (cases_Bool (int_eq n x))

-- nothing else is there
placed_in : (n m : ℤ) (ms : List ℤ) → In m (placed n ms) → (m ≡ n) ⊎ In m ms
placed_in n m [] h = h
placed_in n m (x ∷ ms) h =
    ⊎_elim
    (λ (e : int_eq n x ≡ true). inr (rw e at h))
    (λ (e : int_eq n x ≡ false). ⊎_elim
    (λ (t : int_lt n x ≡ true). rw (e, t) at h)
    (λ (t : int_lt n x ≡ false).
    let k : (m ≡ x) ⊎ In m (placed n ms) = rw (e, t) at h in
    ⊎_elim (λ s. inr (inl s)) (λ l. ⊎_elim (λ s. inl s) (λ r. inr (inr r)) (placed_in n m ms l)) k)
    (cases_Bool (int_lt n x)))
    (cases_Bool (int_eq n x))

-- the rising list has the same items
pub in_rising : (m : ℤ) (ms : List ℤ) → In m ms → In m (rising ms)
in_rising m [] h = h
in_rising m (x ∷ ms) h = in_placed x m (rising ms) (⊎_elim (λ e. inl e) (λ k. inr (in_rising m ms k)) h)

pub rising_in : (m : ℤ) (ms : List ℤ) → In m (rising ms) → In m ms
rising_in m [] h = h
rising_in m (x ∷ ms) h = ⊎_elim (λ e. inl e) (λ k. inr (rising_in m ms k)) (placed_in x m (rising ms) h)

-- ---- ends of sets

-- the least is below each, the greatest above
min_below : (ms : List ℤ) (a m : ℤ) → (m ≡ a) ⊎ In m ms → fold int_min a ms ≤ℤ m
min_below [] a m h = ⊎_elim (λ e. omega (arith, ints)) (λ k. absurd k) h
min_below (x ∷ ms) a m h =
    ⊎_elim
    (λ (e : m ≡ a). omega (arith, ints, clamps, min_below ms (int_min a x) (int_min a x) (inl refl)))
    (λ k. ⊎_elim (λ (e : m ≡ x). omega (arith, ints, clamps, min_below ms (int_min a x) (int_min a x) (inl refl))) (λ l. min_below ms (int_min a x) m (inr l)) k)
    h

max_above : (ms : List ℤ) (a m : ℤ) → (m ≡ a) ⊎ In m ms → m ≤ℤ fold int_max a ms
max_above [] a m h = ⊎_elim (λ e. omega (arith, ints)) (λ k. absurd k) h
max_above (x ∷ ms) a m h =
    ⊎_elim
    (λ (e : m ≡ a). omega (arith, ints, clamps, max_above ms (int_max a x) (int_max a x) (inl refl)))
    (λ k. ⊎_elim (λ (e : m ≡ x). omega (arith, ints, clamps, max_above ms (int_max a x) (int_max a x) (inl refl))) (λ l. max_above ms (int_max a x) m (inr l)) k)
    h

-- what is below each is below the least, and what is above each above the greatest
min_greatest : (ms : List ℤ) (a lo : ℤ) → lo ≤ℤ a → ((m : ℤ) → In m ms → lo ≤ℤ m) → lo ≤ℤ fold int_min a ms
min_greatest [] a lo h k = h
min_greatest (x ∷ ms) a lo h k = min_greatest ms (int_min a x) lo (omega (arith, ints, clamps, h, k x (inl refl))) (λ m l. k m (inr l))

max_least : (ms : List ℤ) (a hi : ℤ) → a ≤ℤ hi → ((m : ℤ) → In m ms → m ≤ℤ hi) → fold int_max a ms ≤ℤ hi
max_least [] a hi h k = h
max_least (x ∷ ms) a hi h k = max_least ms (int_max a x) hi (omega (arith, ints, clamps, h, k x (inl refl))) (λ m l. k m (inr l))

-- a window round a set has each member
pub ends_have : (ms : List ℤ) (m : ℤ) → In m ms → Lies (ends_of ms) m
ends_have [] m h = absurd h
ends_have (x ∷ ms) m h = record { low = min_below ms x m h; high = max_above ms x m h }

-- it lies in each other window that has them
pub ends_inside : (ms : List ℤ) (m : ℤ) (w : Window) → In m ms → ((n : ℤ) → In n ms → Lies w n) → Inside (ends_of ms) w
ends_inside [] m w h k = absurd h
ends_inside (x ∷ ms) m w h k = record {
  solid = omega (arith, ints, min_below ms x x (inl refl), max_above ms x x (inl refl));
  low = min_greatest ms x w.0 (k x (inl refl)).low (λ n l. (k n (inr l)).low);
  high = max_least ms x w.1 (k x (inl refl)).high (λ n l. (k n (inr l)).high);
}

-- ---- hulls

-- the hull of windows has each of them
pub hull_has : {X : Type 0} (f : X → Window) (x : X) (xs : List X) → In x xs → (f x).0 ≤ℤ (f x).1 → Inside (f x) (hull_of_all (map f xs))
hull_has f x [] h s = absurd h
hull_has f x (y ∷ []) h s =
    ⊎_elim (λ (e : x ≡ y). subst (λ z. Inside (f x) (f z)) e (record { solid = s; low = omega (arith, ints); high = omega (arith, ints) })) (λ k. absurd k) h
hull_has f x (y ∷ (z ∷ xs)) h s =
    ⊎_elim
    (λ (e : x ≡ y). subst (λ u. Inside (f x) (hull_of (f u) (hull_of_all (map f (z ∷ xs))))) e (record { solid = s; low = omega (arith, ints, clamps); high = omega (arith, ints, clamps) }))
    (λ k. let r = hull_has f x (z ∷ xs) k s in record { solid = s; low = omega (arith, ints, clamps, r.low); high = omega (arith, ints, clamps, r.high) })
    h

-- it lies in each other window that has them
pub hull_inside : {X : Type 0} (f : X → Window) (x : X) (xs : List X) (w : Window) → In x xs → ((y : X) → In y xs → Inside (f y) w) → Inside (hull_of_all (map f xs)) w
hull_inside f x [] w h k = absurd h
hull_inside f x (y ∷ []) w h k = k y (inl refl)
hull_inside f x (y ∷ (z ∷ xs)) w h k =
    let a = k y (inl refl) in
    let r = hull_inside f z (z ∷ xs) w (inl refl) (λ u l. k u (inr l)) in
    record { solid = omega (arith, ints, clamps, a.solid, r.solid); low = omega (arith, ints, clamps, a.low, r.low); high = omega (arith, ints, clamps, a.high, r.high) }
