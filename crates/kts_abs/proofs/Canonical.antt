-- Sets as rising lists of numbers: one list for each set.
use Rattle.std.proofs.Common.{◌≡◌, refl, sym, ◌∙◌, ap, ⊎_elim, Bool, true, false, not, ◌&&◌, ◌||◌, ℕ, nat_eq, ℤ, pos, negsuc, ◌-ℤ◌, ◌<ℤ◌, int_lt, List, [], ◌∷◌, ◌++◌, map, arith}
use Rattle.std.specs.Int.{int_min}
use Rattle.std.specs.List.{list_all}
use Rattle.std.specs.Ordering.{int_eq}
use Rattle.std.proofs.lemmas.Int.{ints, clamps}
use Rattle.std.proofs.lemmas.Bool.{and_parts, and_from, cases_Bool}
use Rattle.kts_sets.specs.Sets.{elem, IsSet}
use Rattle.kts_sets.specs.SetLaws.{IsSet-set, IsSet-rises}
use Rattle.kts_abs.specs.InSpace.{placed, rising}
use Rattle.kts_abs.specs.Members.{every_pair, same_of, union_of}
use Rattle.kts_abs.specs.Values.{has, rises_from}
use Rattle.kts_abs.proofs.Listed.{in_has, has_in, in_rising, rising_in}
use Rattle.kts_base.proofs.Orders.{yes_int_lt}
use Rattle.kts_abs.proofs.Positions.{pos_eq, has-pos, has-negsuc, rises-pos}
use Rattle.kts_abs.proofs.Rising.{rising_same, same_Bool}
use Rattle.kts_abs.proofs.Unions.{elem-union}

-- whether each number is greater than the one before it
abbrev pub is_rising : List ℤ → Bool
is_rising [] = true
is_rising (m ∷ ms) = rises_from m ms

-- two rising lists with the same members are one
pub same_rising : (ms ns : List ℤ) → is_rising ms ≡ true → is_rising ns ≡ true → ((m : ℤ) → has ms m ≡ has ns m) → ms ≡ ns
same_rising [] [] r s h = refl
same_rising [] (y ∷ ns) r s h = rising_same (y -ℤ pos 1) [] (y ∷ ns) refl (and_from (int_lt (y -ℤ pos 1) y) (rises_from y ns) (yes_int_lt (y -ℤ pos 1) y (omega (arith, ints))) s) h
same_rising (x ∷ ms) [] r s h = rising_same (x -ℤ pos 1) (x ∷ ms) [] (and_from (int_lt (x -ℤ pos 1) x) (rises_from x ms) (yes_int_lt (x -ℤ pos 1) x (omega (arith, ints))) r) refl h
same_rising (x ∷ ms) (y ∷ ns) r s h =
    let n = int_min x y -ℤ pos 1 in
    rising_same n (x ∷ ms) (y ∷ ns)
    (and_from (int_lt n x) (rises_from x ms) (yes_int_lt n x (omega (arith, ints, clamps))) r)
    (and_from (int_lt n y) (rises_from y ns) (yes_int_lt n y (omega (arith, ints, clamps))) s) h

-- neither equal nor less
greater : (n x : ℤ) → int_eq n x ≡ false → int_lt n x ≡ false → x <ℤ n
greater n x e t = grind (arith, ints)

-- a number put at its place leaves the list rising
rises_placed : (m n : ℤ) (ms : List ℤ) → m <ℤ n → rises_from m ms ≡ true → rises_from m (placed n ms) ≡ true
rises_placed m n [] l r = and_from (int_lt m n) true (yes_int_lt m n l) refl
rises_placed m n (x ∷ ms) l r =
    let p = and_parts (int_lt m x) (rises_from x ms) r in
    ⊎_elim
    (λ (e : int_eq n x ≡ true). rw e r)
    (λ (e : int_eq n x ≡ false). ⊎_elim
    (λ (t : int_lt n x ≡ true). rw (e, t) (and_from (int_lt m n) (int_lt n x && rises_from x ms) (yes_int_lt m n l) (and_from (int_lt n x) (rises_from x ms) t p.1)))
    (λ (t : int_lt n x ≡ false). rw (e, t) (and_from (int_lt m x) (rises_from x (placed n ms)) p.0 (rises_placed x n ms (greater n x e t) p.1)))
    (cases_Bool (int_lt n x)))
    (cases_Bool (int_eq n x))

placed_rises : (n : ℤ) (ms : List ℤ) → is_rising ms ≡ true → is_rising (placed n ms) ≡ true
placed_rises n [] r = refl
placed_rises n (x ∷ ms) r =
    ⊎_elim
    (λ (e : int_eq n x ≡ true). rw e r)
    (λ (e : int_eq n x ≡ false). ⊎_elim
    (λ (t : int_lt n x ≡ true). rw (e, t) (and_from (int_lt n x) (rises_from x ms) t r))
    (λ (t : int_lt n x ≡ false). rw (e, t) (rises_placed x n ms (greater n x e t) r))
    (cases_Bool (int_lt n x)))
    (cases_Bool (int_eq n x))

-- what was put in rising order rises
pub rising_rises : (ms : List ℤ) → is_rising (rising ms) ≡ true
rising_rises [] = refl
rising_rises (m ∷ ms) = placed_rises m (rising ms) (rising_rises ms)

-- it has the same members
pub has-rising : (ms : List ℤ) (n : ℤ) → has (rising ms) n ≡ has ms n
has-rising ms n = same_Bool (has (rising ms) n) (has ms n)
    (λ h. in_has ms n (rising_in n ms (has_in (rising ms) n h)))
    (λ h. in_has (rising ms) n (in_rising n ms (has_in ms n h)))

or_along : (a b c : Bool) → (a || (b || c)) ≡ ((a || b) || c)
or_along true b c = refl
or_along false b c = refl

-- a list put to another has the members of either
pub has-append : (ms ns : List ℤ) (n : ℤ) → has (ms ++ ns) n ≡ (has ms n || has ns n)
has-append [] ns n = refl
has-append (m ∷ ms) ns n = ap (λ b. int_eq n m || b) (has-append ms ns n) ∙ or_along (int_eq n m) (has ms n) (has ns n)

-- a set by positions rises
set_rises : (ms : List ℕ) → IsSet ms → is_rising (map pos ms) ≡ true
set_rises [] s = refl
set_rises (m ∷ ms) s = rises-pos m ms (IsSet-rises (m ∷ ms) s)

-- the union of sets by positions is that of the sets of values
pub union-value : (a b : List ℕ) → IsSet a → IsSet b → map pos (union_of a b) ≡ rising (map pos a ++ map pos b)
union-value a b s t = same_rising (map pos (union_of a b)) (rising (map pos a ++ map pos b)) (set_rises (union_of a b) (IsSet-set (λ m. elem m a || elem m b))) (rising_rises (map pos a ++ map pos b)) each
  where
    each : (n : ℤ) → has (map pos (union_of a b)) n ≡ has (rising (map pos a ++ map pos b)) n
    each (pos n) =
        has-pos (union_of a b) n ∙ elem-union a b n s t
        ∙ sym (has-rising (map pos a ++ map pos b) (pos n) ∙ has-append (map pos a) (map pos b) (pos n)
        ∙ ap (λ c. c || has (map pos b) (pos n)) (has-pos a n) ∙ ap (λ c. elem n a || c) (has-pos b n))
    each (negsuc n) =
        has-negsuc (union_of a b) n
        ∙ sym (has-rising (map pos a ++ map pos b) (negsuc n) ∙ has-append (map pos a) (map pos b) (negsuc n)
        ∙ ap (λ c. c || has (map pos b) (negsuc n)) (has-negsuc a n) ∙ has-negsuc b n)

-- a test of every pair, of positions and of their values
one_row : (p : ℕ → ℕ → Bool) (q : ℤ → ℤ → Bool) → ((m n : ℕ) → q (pos m) (pos n) ≡ p m n) → (m : ℕ) (ns : List ℕ) → list_all (λ n. q (pos m) n) (map pos ns) ≡ list_all (λ n. p m n) ns
one_row p q h m [] = refl
one_row p q h m (n ∷ ns) = rw (h m n, one_row p q h m ns) refl

-- the same of every row
every_row : (p : ℕ → ℕ → Bool) (q : ℤ → ℤ → Bool) → ((m n : ℕ) → q (pos m) (pos n) ≡ p m n) → (ms ns : List ℕ) → every_pair q (map pos ms) (map pos ns) ≡ every_pair p ms ns
every_row p q h [] ns = refl
every_row p q h (m ∷ ms) ns = rw (one_row p q h m ns, every_row p q h ms ns) refl

-- sets compare as their values do
pub same-value : (ms ns : List ℕ) → same_of int_eq (map pos ms) (map pos ns) ≡ same_of nat_eq ms ns
same-value ms ns = rw (every_row nat_eq int_eq pos_eq ms ns, every_row (λ m n. not (nat_eq m n)) (λ m n. not (int_eq m n)) (λ m n. ap not (pos_eq m n)) ms ns) refl
