-- Abstract values of one type, joined one after another.
use Rattle.std.proofs.Common.{◌≡◌, refl, sym, ◌∙◌, ap, ⊎_elim, ℕ, ◌+◌, ◌<◌, ◌≤◌, ◌||◌, true, List, [], ◌∷◌, ◌++◌, map, length, Some, None, slice_get, ℤ, pos, ◌+ℤ◌, ◌-ℤ◌, int_lt, nat_abs, arith, append_assoc}
use Rattle.std.specs.Int.{int_min, int_max}
use Rattle.std.specs.Prelude.{flat_map, filter}
use Rattle.std.proofs.lemmas.Bool.{and_parts, cases_lt, lt-ltb, le-ltb}
use Rattle.std.proofs.lemmas.Int.{ints, clamps}
use Rattle.std.proofs.lemmas.Option.{get_or_from_slice_get}
use Rattle.std.proofs.lemmas.List.{append-nil, map-append}
use Rattle.std.proofs.lemmas.List.Concat.{flat_map_single, flat_map-cons}
use Rattle.std.proofs.lemmas.Grind.{flat_map-append}
use Rattle.kts_base.proofs.Orders.{int_lt_yes}
use Rattle.kts_sets.specs.Choices.{IsChoice}
use Rattle.kts_sets.specs.Sets.{IsSet, not_below}
use Rattle.kts_abs.specs.InSpace.{rising, hull_of_all, any_of, only_of}
use Rattle.kts_abs.specs.Values.{Abs, Win, Mem, has, rises_from, window_of, members_of}
use Rattle.kts_abs.specs.Windows.{Window, hull_of}
use Rattle.kts_abs.specs.declared.cell.Cell.{Cell}
use Rattle.kts_abs.specs.declared.cell.Cell.TheVariants as cell
use Rattle.kts_abs.specs.Cells.{IsValid, value_of}
use Rattle.kts_abs.specs.Members.{union_of}
use Rattle.kts_abs.proofs.Canonical.{union-value, is_rising, same_rising, rising_rises, has-rising, has-append}
use Rattle.kts_abs.proofs.Positions.{rises-pos}
use Rattle.kts_sets.specs.SetLaws.{IsSet-rises}
use Rattle.kts_spec.specs.declared.declarations.ValueType.{ValueType}
use Rattle.kts_spec.specs.declared.declarations.ValueType.TheVariants.{Int, Member}
use Rattle.kts_spec.specs.Places.{lookup}
use Rattle.kts_spec.specs.Schedules.{numbers, all}
use Rattle.kts_spec.proofs.TuplePlaces.{item_at}
use Rattle.kts_machine.specs.Joins.{both_of}
use Rattle.kts_machine.specs.OfKind.{IsOf}

-- ---- rising lists

set_rises : (ms : List ℕ) → IsSet ms → is_rising (map pos ms) ≡ true
set_rises [] s = refl
set_rises (m ∷ ms) s = rises-pos m ms (IsSet-rises (m ∷ ms) s)

-- a list that rises is its own rising list
pub rising_again : (ms : List ℤ) → is_rising ms ≡ true → rising ms ≡ ms
rising_again ms h = same_rising (rising ms) ms (rising_rises ms) h (has-rising ms)

-- put together, lists may be put in order before
rising_both : (ms ns : List ℤ) → rising (rising ms ++ rising ns) ≡ rising (ms ++ ns)
rising_both ms ns = same_rising (rising (rising ms ++ rising ns)) (rising (ms ++ ns)) (rising_rises (rising ms ++ rising ns)) (rising_rises (ms ++ ns))
    (λ n. has-rising (rising ms ++ rising ns) n ∙ has-append (rising ms) (rising ns) n ∙ ap (λ b. b || has (rising ns) n) (has-rising ms n) ∙ ap (λ b. has ms n || b) (has-rising ns n)
    ∙ sym (has-rising (ms ++ ns) n ∙ has-append ms ns n))

-- the one number from a number to itself
pub numbers_one : (n : ℤ) → numbers n n ≡ n ∷ []
numbers_one n =
    let none : nat_abs (n -ℤ n) ≡ 0 = omega (arith, ints) in
    let same : n +ℤ pos 0 ≡ n = omega (arith, ints) in
    rw none (ap (λ m. m ∷ []) same)

-- ---- values of a type

min_along : (a b c : ℤ) → int_min (int_min a b) c ≡ int_min a (int_min b c)
min_along a b c = omega (arith, ints, clamps)

max_along : (a b c : ℤ) → int_max (int_max a b) c ≡ int_max a (int_max b c)
max_along a b c = omega (arith, ints, clamps)

along : (a b c : Window) → hull_of (hull_of a b) c ≡ hull_of a (hull_of b c)
along a b c = rw (min_along a.0 b.0 c.0, max_along a.1 b.1 c.1) refl

hull_append : (v w : Window) (vs ws : List Window) → hull_of (hull_of_all (v ∷ vs)) (hull_of_all (w ∷ ws)) ≡ hull_of_all (v ∷ vs ++ w ∷ ws)
hull_append v w [] ws = refl
hull_append v w (u ∷ vs) ws = along v (hull_of_all (u ∷ vs)) (hull_of_all (w ∷ ws)) ∙ ap (hull_of v) (hull_append u w vs ws)

both_any : (kind : ValueType) (a b : Abs) (more others : List Abs)
    → both_of (any_of kind (a ∷ more)) (any_of kind (b ∷ others)) ≡ any_of kind (a ∷ more ++ b ∷ others)
both_any (Int lo hi) a b more others =
    ap (λ w. Win w) (hull_append (window_of a) (window_of b) (map window_of more) (map window_of others) ∙ ap hull_of_all (sym (map-append window_of (a ∷ more) (b ∷ others))))
both_any (Member i) a b more others =
    ap (λ ms. Mem ms) (rising_both (flat_map members_of (a ∷ more)) (flat_map members_of (b ∷ others)) ∙ ap rising (sym (flat_map-append members_of (a ∷ more) (b ∷ others))))

-- joined with what each row may be, one after another
abbrev pub folded : {X : Type 0} → ValueType → (X → List Abs) → Abs → List X → Abs
folded kind row a [] = a
folded kind row a (x ∷ xs) = folded kind row (both_of a (any_of kind (row x))) xs

-- rows with an item each, joined one after another, are all of them
pub folded_is : {X : Type 0} (kind : ValueType) (f : X → Abs) (g : X → List Abs) (a : Abs) (more : List Abs) (xs : List X)
    → folded kind (λ x. f x ∷ g x) (any_of kind (a ∷ more)) xs ≡ any_of kind (a ∷ more ++ flat_map (λ x. f x ∷ g x) xs)
folded_is kind f g a more [] = ap (any_of kind) (sym (append-nil (a ∷ more)))
folded_is kind f g a more (x ∷ xs) =
    ap (λ b. folded kind (λ x. f x ∷ g x) b xs) (both_any kind a (f x) more (g x))
    ∙ folded_is kind f g a (more ++ f x ∷ g x) xs
    ∙ ap (any_of kind) (append_assoc (a ∷ more) (f x ∷ g x) (flat_map (λ x. f x ∷ g x) xs))

-- a value of the type is what it may be itself
pub own_value : {W : ℕ} (kind : ValueType) (c : Cell W) → IsValid c → IsOf kind (value_of c) → any_of kind (value_of c ∷ []) ≡ value_of c
own_value (Int lo hi) (cell.Win w) v h = refl
own_value (Int lo hi) (cell.Mem ms) v h = absurd h
own_value (Member i) (cell.Win w) v h = absurd h
own_value (Member i) (cell.Mem ms) v h = ap (λ l. Mem l) (ap rising (append-nil (map pos ms)) ∙ rising_again (map pos ms) (set_rises ms v.set))

-- the cell that is read is what it may be
pub cell_read : {W : ℕ} (kind : ValueType) (cells : List (Cell W)) (k : ℕ) (c : Cell W) → slice_get cells k ≡ Some c → IsValid c
    → IsOf kind (value_of c) → value_of c ≡ any_of kind (lookup (map value_of cells) (Some k) (only_of (pos 0)) ∷ [])
cell_read kind cells k c e v h =
    let there = get_or_from_slice_get (map value_of cells) k (value_of c) (only_of (pos 0)) (item_at value_of cells k c e) in
    sym (ap (λ a. any_of kind (a ∷ [])) there ∙ own_value kind c v h)

-- the union of two sets is what either allows
pub union_joined : (ms ns us : List ℕ) → IsChoice ms → IsChoice ns → us ≡ union_of ms ns → map pos us ≡ rising (map pos ms ++ map pos ns)
union_joined ms ns us v w e = ap (map pos) e ∙ union-value ms ns v.set w.set

-- what may be one of a type's values is of the type
pub is_of : (kind : ValueType) (values : List Abs) → IsOf kind (any_of kind values)
is_of (Int lo hi) values = tt
is_of (Member i) values = tt

-- ---- tuples of sets

all_one : {X : Type 0} (ys : List X) → all (ys ∷ []) ≡ map (λ y. y ∷ []) ys
all_one ys = flat_map_single (λ y. y ∷ []) ys

pub all_line : (v : List ℤ → Abs) (ms : List ℕ) → map v (all (map pos ms ∷ [])) ≡ map (λ m. v (pos m ∷ [])) ms
all_line v ms = ap (map v) (all_one (map pos ms)) ∙ lined ms
  where
    lined : (ms : List ℕ) → map v (map (λ y. y ∷ []) (map pos ms)) ≡ map (λ m. v (pos m ∷ [])) ms
    lined [] = refl
    lined (m ∷ ms) = ap (λ l. v (pos m ∷ []) ∷ l) (lined ms)

pub all_grid : (v : List ℤ → Abs) (ms ns : List ℕ) → map v (all (map pos ms ∷ map pos ns ∷ [])) ≡ flat_map (λ m. map (λ n. v (pos m ∷ pos n ∷ [])) ns) ms
all_grid v [] ns = refl
all_grid v (m ∷ ms) ns =
    ap (map v) (flat_map-cons (λ x. map (λ rest. x ∷ rest) (all (map pos ns ∷ []))) (pos m) (map pos ms))
    ∙ map-append v (map (λ rest. pos m ∷ rest) (all (map pos ns ∷ []))) (all (map pos ms ∷ map pos ns ∷ []))
    ∙ ap (λ l. map v (map (λ rest. pos m ∷ rest) l) ++ map v (all (map pos ms ∷ map pos ns ∷ []))) (all_one (map pos ns))
    ∙ ap (λ l. l ++ map v (all (map pos ms ∷ map pos ns ∷ []))) (lined ns)
    ∙ ap (λ l. map (λ n. v (pos m ∷ pos n ∷ [])) ns ++ l) (all_grid v ms ns)
    ∙ sym (flat_map-cons (λ m. map (λ n. v (pos m ∷ pos n ∷ [])) ns) m ms)
  where
    lined : (ns : List ℕ) → map v (map (λ rest. pos m ∷ rest) (map (λ y. y ∷ []) (map pos ns))) ≡ map (λ n. v (pos m ∷ pos n ∷ [])) ns
    lined [] = refl
    lined (n ∷ ns) = ap (λ l. v (pos m ∷ pos n ∷ []) ∷ l) (lined ns)

-- ---- the members of a set, one after another

kept_all : (n k : ℕ) (ms : List ℕ) → rises_from (pos k) (map pos ms) ≡ true → n ≤ k + 1 → filter (not_below n) ms ≡ ms
kept_all n k [] r l = refl
kept_all n k (m ∷ ms) r l =
    let p = and_parts (int_lt (pos k) (pos m)) (rises_from (pos m) (map pos ms)) r in
    let less = int_lt_yes (pos k) (pos m) p.0 in
    let above : n ≤ m = omega (arith, ints, less, l) in
    rw (le-ltb m n above) (ap (λ l. m ∷ l) (kept_all n m ms p.1 (omega (arith, above))))

-- the next member, and those after it
pub record Next (ms : List ℕ) (n m : ℕ) : Type 0 where
  pub split : filter (not_below n) ms ≡ m ∷ filter (not_below (m + 1)) ms
  pub above : n ≤ m

dropped : (n x : ℕ) (xs : List ℕ) → x < n → filter (not_below n) (x ∷ xs) ≡ filter (not_below n) xs
dropped n x xs l = rw (lt-ltb x n l) refl

kept : (n x : ℕ) (xs : List ℕ) → n ≤ x → filter (not_below n) (x ∷ xs) ≡ x ∷ filter (not_below n) xs
kept n x xs l = rw (le-ltb x n l) refl

rest_rises : (x : ℕ) (xs : List ℕ) → rises_from (pos x) (map pos xs) ≡ true → is_rising (map pos xs) ≡ true
rest_rises x [] r = refl
rest_rises x (y ∷ xs) r = (and_parts (int_lt (pos x) (pos y)) (rises_from (pos y) (map pos xs)) r).1

next_of : (ms : List ℕ) (n m : ℕ) → is_rising (map pos ms) ≡ true → slice_get (filter (not_below n) ms) 0 ≡ Some m → Next ms n m
next_of [] n m r e = cc
next_of (x ∷ xs) n m r e = ⊎_elim
    (λ (l : x < n).
    let next = next_of xs n m (rest_rises x xs r) (ap (λ l. slice_get l 0) (sym (dropped n x xs l)) ∙ e) in
    let above = next.above in
    record {
      split = dropped n x xs l ∙ next.split ∙ ap (λ l. m ∷ l) (sym (dropped (m + 1) x xs (omega (arith, l, above))));
      above = above;
    })
    (λ (l : n ≤ x).
    let first : Some x ≡ Some m = ap (λ l. slice_get l 0) (sym (kept n x xs l)) ∙ e in
    let same : x ≡ m = cc in
    let rest : filter (not_below n) xs ≡ filter (not_below (m + 1)) xs = kept_all n x xs r (omega (arith, l)) ∙ sym (kept_all (m + 1) x xs r (omega (arith, same))) in
    record {
      split = kept n x xs l ∙ ap (λ y. y ∷ filter (not_below n) xs) same ∙ ap (λ l. m ∷ l) (rest ∙ sym (dropped (m + 1) x xs (omega (arith, same))));
      above = omega (arith, l, same);
    })
    (cases_lt x n)

pub next_member : (ms : List ℕ) (n m : ℕ) → IsSet ms → slice_get (filter (not_below n) ms) 0 ≡ Some m → Next ms n m
next_member ms n m s e = next_of ms n m (set_rises ms s) e

from_none : (ms : List ℕ) → filter (not_below 0) ms ≡ ms
from_none [] = refl
from_none (m ∷ ms) = kept 0 m ms (omega arith) ∙ ap (λ l. m ∷ l) (from_none ms)

-- the least member, and the others
pub first_member : (ms : List ℕ) (m : ℕ) → IsSet ms → slice_get ms 0 ≡ Some m → ms ≡ m ∷ filter (not_below (m + 1)) ms
first_member ms m s e = sym (from_none ms) ∙ (next_member ms 0 m s (ap (λ l. slice_get l 0) (from_none ms) ∙ e)).split

none_left : {X : Type 0} (xs : List X) → slice_get xs 0 ≡ None → xs ≡ []
none_left [] e = refl
none_left (x ∷ xs) e = cc

-- ---- the loops over members

module _ (kind : ValueType) (row : ℕ → List Abs) (ms : List ℕ) (whole : Abs) where
  -- what was joined so far, with what is to come, is the whole
  pub record SoFar (a : Abs) (n : ℕ) : Type 0 where
    pub is : folded kind row a (filter (not_below n) ms) ≡ whole

  pub goes_on : (a b : Abs) (n m : ℕ) → IsSet ms → SoFar a n → slice_get (filter (not_below n) ms) 0 ≡ Some m → b ≡ both_of a (any_of kind (row m))
      → SoFar b (m + 1)
  goes_on a b n m s h e f =
      record { is = ap (λ c. folded kind row c (filter (not_below (m + 1)) ms)) f ∙ ap (folded kind row a) (sym (next_member ms n m s e).split) ∙ h.is }

  pub is_over : (a : Abs) (n : ℕ) → SoFar a n → slice_get (filter (not_below n) ms) 0 ≡ None → a ≡ whole
  is_over a n h e = ap (folded kind row a) (sym (none_left (filter (not_below n) ms) e)) ∙ h.is

pub line_begins : (kind : ValueType) (r : ℕ → Abs) (ms : List ℕ) (m : ℕ) (a : Abs) → IsSet ms → slice_get ms 0 ≡ Some m → a ≡ any_of kind (r m ∷ [])
    → SoFar kind (λ n. r n ∷ []) ms (any_of kind (map r ms)) a (m + 1)
line_begins kind r ms m a s e f =
    let rest = filter (not_below (m + 1)) ms in
    record {
      is =
          ap (λ b. folded kind (λ n. r n ∷ []) b rest) f ∙ folded_is kind r (λ n. []) (r m) [] rest
          ∙ ap (λ l. any_of kind (r m ∷ l)) (flat_map_single r rest) ∙ ap (λ l. any_of kind (map r l)) (sym (first_member ms m s e));
    }

pub grid_begins : (kind : ValueType) (v : List ℤ → Abs) (ms ns : List ℕ) (m : ℕ) (a : Abs) → IsSet ms → 1 ≤ length ns → slice_get ms 0 ≡ Some m
    → a ≡ any_of kind (map (λ n. v (pos m ∷ pos n ∷ [])) ns)
    → SoFar kind (λ m. map (λ n. v (pos m ∷ pos n ∷ [])) ns) ms (any_of kind (map v (all (map pos ms ∷ map pos ns ∷ [])))) a (m + 1)
grid_begins kind v ms [] m a s l e f = absurd (omega arith)
grid_begins kind v ms (k ∷ ns) m a s l e f =
    let rest = filter (not_below (m + 1)) ms in
    let row : ℕ → List Abs = λ m. map (λ n. v (pos m ∷ pos n ∷ [])) (k ∷ ns) in
    record {
      is =
          ap (λ b. folded kind row b rest) f
          ∙ folded_is kind (λ m. v (pos m ∷ pos k ∷ [])) (λ m. map (λ n. v (pos m ∷ pos n ∷ [])) ns) (v (pos m ∷ pos k ∷ [])) (map (λ n. v (pos m ∷ pos n ∷ [])) ns) rest
          ∙ ap (any_of kind) (sym (flat_map-cons row m rest) ∙ ap (flat_map row) (sym (first_member ms m s e)) ∙ sym (all_grid v ms (k ∷ ns)));
    }
