-- What schedules and valid data give an access to a family: a value of its type.
use Rattle.std.proofs.Common.{◌≡◌, refl, subst, ℕ, zero, suc, ◌+◌, ◌<◌, ◌≤◌, List, [], ◌∷◌, map, true, ◌&&◌, ℤ, pos, negsuc, ◌+ℤ◌, ◌-ℤ◌, ◌≤ℤ◌, int_le, int_lt, nat_abs, arith}
use Rattle.std.specs.Prelude.{flat_map}
use Rattle.std.specs.List.{Contains, list_all, range_with_len, enumerate_from}
use Rattle.std.proofs.lemmas.Bool.{and_parts, and_from}
use Rattle.std.proofs.lemmas.Int.{ints}
use Rattle.kts_spec.specs.declared.declarations.ValueType.{ValueType}
use Rattle.kts_spec.specs.declared.declarations.ValueType.TheVariants.{Int, Member}
use Rattle.kts_spec.specs.declared.declarations.Family.{Family}
use Rattle.kts_spec.specs.Data.{is_value}
use Rattle.kts_spec.specs.Places.{is_in}
use Rattle.kts_spec.specs.Related.{Pairs, AllOf}
use Rattle.kts_spec.specs.Schedules.{all, tuples, Cell, cells_of, cells, values_of, schedules}
use Rattle.kts_spec.specs.Schemas.{is_type, is_end, is_family}
use Rattle.kts_spec.specs.Worlds.{World, size_of, sizes_of}
use Rattle.kts_spec.proofs.AddendRanges.{all_append}
use Rattle.kts_base.proofs.Orders.{int_le_yes, yes_int_le, yes_int_lt}

-- ---- values of types

-- what holds of the numbers from one on holds of each of so many
pub range_all : (P : ℕ → Type 0) (a n : ℕ) → ((m : ℕ) → a ≤ m → m < a + n → P m) → AllOf P (range_with_len a n)
range_all P a zero h = tt
range_all P a (suc n) h = (h a (omega arith) (omega arith), range_all P (a + 1) n (λ m l u. h m (omega arith) (omega arith)))

pub map_all : {X Y : Type 0} (P : Y → Type 0) (f : X → Y) (xs : List X) → AllOf (λ x. P (f x)) xs → AllOf P (map f xs)
map_all P f [] h = tt
map_all P f (x ∷ xs) h = (h.0, map_all P f xs h.1)

flat_map_all : {X Y : Type 0} (P : Y → Type 0) (f : X → List Y) (xs : List X) → AllOf (λ x. AllOf P (f x)) xs → AllOf P (flat_map f xs)
flat_map_all P f [] h = tt
flat_map_all P f (x ∷ xs) h = all_append P (f x) (flat_map f xs) h.0 (flat_map_all P f xs h.1)

more_all : {X : Type 0} (P Q : X → Type 0) (xs : List X) → ((x : X) → P x → Q x) → AllOf P xs → AllOf Q xs
more_all P Q [] f h = tt
more_all P Q (x ∷ xs) f h = (f x h.0, more_all P Q xs f h.1)

pub how_far : (z : ℤ) → pos 0 ≤ℤ z → pos (nat_abs z) ≡ z
how_far (pos n) h = refl
how_far (negsuc n) h = absurd (omega (arith, ints))

number_between : (lo hi : ℤ) (m : ℕ) → lo ≤ℤ hi → m < 0 + (nat_abs (hi -ℤ lo) + 1) → (int_le lo (lo +ℤ pos m) && int_le (lo +ℤ pos m) hi) ≡ true
number_between lo hi m s h =
    let far = how_far (hi -ℤ lo) (omega (arith, ints)) in
    let low = yes_int_le lo (lo +ℤ pos m) (omega (arith, ints)) in
    let high = yes_int_le (lo +ℤ pos m) hi (omega (arith, ints)) in
    and_from (int_le lo (lo +ℤ pos m)) (int_le (lo +ℤ pos m) hi) low high

pub member_in : (n m : ℕ) → m < 0 + n → is_in n (pos m) ≡ true
member_in n m h = and_from (int_le (pos 0) (pos m)) (int_lt (pos m) (pos n)) (yes_int_le (pos 0) (pos m) (omega (arith, ints))) (yes_int_lt (pos m) (pos n) (omega (arith, ints)))

values_fit : (w : World) (k : ℕ) (kind : ValueType) → is_type k kind ≡ true → AllOf (λ v. is_value w kind v ≡ true) (values_of w kind)
values_fit w k (Int lo hi) h =
    let rising = int_le_yes lo hi (and_parts (is_end lo && is_end hi) (int_le lo hi) h).1 in
    map_all (λ v. is_value w (Int lo hi) v ≡ true) (λ i. lo +ℤ pos i) (range_with_len 0 (nat_abs (hi -ℤ lo) + 1)) (range_all _ 0 (nat_abs (hi -ℤ lo) + 1) (λ m l u. number_between lo hi m rising u))
values_fit w k (Member i) h =
    map_all (λ v. is_value w (Member i) v ≡ true) pos (range_with_len 0 (size_of w i)) (range_all _ 0 (size_of w i) (λ m l u. member_in (size_of w i) m u))

-- ---- schedules

-- one item of each list, each as its list has them
all_rows : {X Y : Type 0} (P : Y → X → Type 0) (qs : List Y) (lists : Y → List X) → AllOf (λ q. AllOf (P q) (lists q)) qs → AllOf (λ row. Pairs P qs row) (all (map lists qs))
all_rows P [] lists h = (tt, tt)
all_rows P (q ∷ qs) lists h =
    let rest = all_rows P qs lists h.1 in
    flat_map_all (λ row. Pairs P (q ∷ qs) row) (λ x. map (λ row. x ∷ row) (all (map lists qs))) (lists q)
    (more_all (P q) _ (lists q) (λ x p. map_all (λ row. Pairs P (q ∷ qs) row) (λ row. x ∷ row) (all (map lists qs)) (more_all (λ row. Pairs P qs row) _ (all (map lists qs)) (λ row r. (p, r)) rest)) h.0)

-- the value of a cell is of its type
abbrev pub Suits : World → Cell → ℤ → Type 0
Suits w c v = is_value w c.kind v ≡ true

cells_fit : (w : World) (k : ℕ) (families : List (ℕ × Family)) → AllOf (λ f. is_family k f.1 ≡ true) families → AllOf (λ (c : Cell). AllOf (Suits w c) (values_of w c.kind)) (flat_map (cells_of w) families)
cells_fit w k families h =
    flat_map_all (λ (c : Cell). AllOf (Suits w c) (values_of w c.kind)) (cells_of w) families
    (more_all (λ f. is_family k f.1 ≡ true) _ families (λ f e. of_family f e) h)
  where
    same_all : (f : ℕ × Family) (args : List (List ℕ)) → AllOf (λ v. is_value w f.1.kind v ≡ true) (values_of w f.1.kind) → AllOf (λ (c : Cell). AllOf (Suits w c) (values_of w c.kind)) (map (λ args. record { choice = f.0; args = args; kind = f.1.kind }) args)
    same_all f [] e = tt
    same_all f (a ∷ args) e = (e, same_all f args e)

    of_family : (f : ℕ × Family) → is_family k f.1 ≡ true → AllOf (λ (c : Cell). AllOf (Suits w c) (values_of w c.kind)) (cells_of w f)
    of_family f e = same_all f (tuples (sizes_of w f.1)) (values_fit w k f.1.kind (and_parts _ (is_type k f.1.kind) e).1)

enumerated : (k a : ℕ) (families : List Family) → list_all (is_family k) families ≡ true → AllOf (λ f. is_family k f.1 ≡ true) (enumerate_from a families)
enumerated k a [] h = tt
enumerated k a (f ∷ families) h =
    let both = and_parts (is_family k f) (list_all (is_family k) families) h in (both.0, enumerated k (a + 1) families both.1)

item_is : {X : Type 0} (P : X → Type 0) (xs : List X) (x : X) → AllOf P xs → Contains xs x → P x
item_is P [] x h c = absurd (omega (arith, c.1))
item_is P (y ∷ xs) x h (zero, l, e) = subst P e h.0
item_is P (y ∷ xs) x h (suc k, l, e) = item_is P xs x h.1 (k, omega arith, e)

pub schedule_fits : (w : World) (k : ℕ) (schedule : List ℤ) → list_all (is_family k) w.choices ≡ true → Contains (schedules w) schedule → Pairs (Suits w) (cells w) schedule
schedule_fits w k schedule h stands =
    item_is (λ row. Pairs (Suits w) (cells w) row) (schedules w) schedule
    (all_rows (Suits w) (cells w) (λ (c : Cell). values_of w c.kind) (cells_fit w k (enumerate_from 0 w.choices) (enumerated k 0 w.choices h))) stands
