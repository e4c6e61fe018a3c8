-- Names that are distinct, at a place and before it.
use Rattle.std.proofs.Common.{◌≡◌, refl, sym, ◌∙◌, ap, ℕ, zero, suc, ◌<◌, ◌≤◌, List, [], ◌∷◌, ◌++◌, append_assoc, length, take, drop, get_or, map, true, false, not, arith}
use Rattle.std.proofs.lemmas.Bool.{and_parts, or_parts, or_from}
use Rattle.std.proofs.lemmas.List.Folds.{list_any-append}
use Rattle.kts_spec.specs.Names.{same_name, is_among, is_distinct}
use Rattle.kts_read.proofs.NewNames.{same_symm}
use Rattle.kts_read.proofs.Tests.{not_yes}

-- an item, those before it and those after it
pub split_at : {X : Type 0} (xs : List X) (k : ℕ) (d : X) → k < length xs → xs ≡ take k xs ++ get_or xs k d ∷ drop (suc k) xs
split_at [] k d h = absurd (omega (arith, h))
split_at (x ∷ xs) zero d h = refl
split_at (x ∷ xs) (suc k) d h = ap (λ rest. x ∷ rest) (split_at xs k d (omega (arith, h)))

-- one item more in front
pub take_next : {X : Type 0} (xs : List X) (k : ℕ) (d : X) → k < length xs → take (suc k) xs ≡ take k xs ++ get_or xs k d ∷ []
take_next [] k d h = absurd (omega (arith, h))
take_next (x ∷ xs) zero d h = refl
take_next (x ∷ xs) (suc k) d h = ap (λ rest. x ∷ rest) (take_next xs k d (omega (arith, h)))

pub take_count : {X : Type 0} (xs : List X) (k : ℕ) → k ≤ length xs → length (take k xs) ≡ k
take_count xs zero h = refl
take_count [] (suc k) h = absurd (omega (arith, h))
take_count (x ∷ xs) (suc k) h = ap suc (take_count xs k (omega (arith, h)))

pub take_item : {X : Type 0} (xs : List X) (k n : ℕ) (d : X) → n < k → get_or (take k xs) n d ≡ get_or xs n d
take_item xs zero n d h = absurd (omega (arith, h))
take_item [] (suc k) n d h = refl
take_item (x ∷ xs) (suc k) zero d h = refl
take_item (x ∷ xs) (suc k) (suc n) d h = take_item xs k n d (omega (arith, h))

pub among_parts : (xs ys : List (List ℕ)) (n : List ℕ) → is_among (xs ++ ys) n ≡ false → (is_among xs n ≡ false) × (is_among ys n ≡ false)
among_parts xs ys n h = or_parts (is_among xs n) (is_among ys n) (sym (list_any-append (same_name n) xs ys) ∙ h)

pub among_both : (xs ys : List (List ℕ)) (n : List ℕ) → is_among xs n ≡ false → is_among ys n ≡ false → is_among (xs ++ ys) n ≡ false
among_both xs ys n a b = list_any-append (same_name n) xs ys ∙ or_from (is_among xs n) (is_among ys n) a b

-- a name among distinct ones is none of those before it, and none of those after it
pub distinct_at : (xs ys : List (List ℕ)) (n : List ℕ) → is_distinct (xs ++ n ∷ ys) ≡ true → (is_among xs n ≡ false) × (is_among ys n ≡ false)
distinct_at [] ys n d = (refl, not_yes (is_among ys n) (and_parts (not (is_among ys n)) (is_distinct ys) d).0)
distinct_at (x ∷ xs) ys n d =
    let both = and_parts (not (is_among (xs ++ n ∷ ys) x)) (is_distinct (xs ++ n ∷ ys)) d in
    let rest = distinct_at xs ys n both.1 in
    let others = among_parts xs (n ∷ ys) x (not_yes (is_among (xs ++ n ∷ ys) x) both.0) in
    let apart = or_parts (same_name x n) (is_among ys x) others.1 in
    (or_from (same_name n x) (is_among xs n) (same_symm n x ∙ apart.0) rest.0, rest.1)

-- what is among none is among none in front
pub among_front : (xs : List (List ℕ)) (k : ℕ) (n : List ℕ) → is_among xs n ≡ false → is_among (take k xs) n ≡ false
among_front xs zero n h = refl
among_front [] (suc k) n h = refl
among_front (x ∷ xs) (suc k) n h = let both = or_parts (same_name n x) (is_among xs n) h in or_from (same_name n x) (is_among (take k xs) n) both.0 (among_front xs k n both.1)

pub map_take : {X Y : Type 0} (f : X → Y) (xs : List X) (k : ℕ) → map f (take k xs) ≡ take k (map f xs)
map_take f xs zero = refl
map_take f [] (suc k) = refl
map_take f (x ∷ xs) (suc k) = ap (λ rest. f x ∷ rest) (map_take f xs k)

pub map_item : {X Y : Type 0} (f : X → Y) (xs : List X) (k : ℕ) (d : X) (e : Y) → k < length xs → get_or (map f xs) k e ≡ f (get_or xs k d)
map_item f [] k d e h = absurd (omega (arith, h))
map_item f (x ∷ xs) zero d e h = refl
map_item f (x ∷ xs) (suc k) d e h = map_item f xs k d e (omega (arith, h))

-- a name of the first list, of the second and of the third is among none of their fronts
module _ (is gs cs : List (List ℕ)) (distinct : is_distinct (is ++ (gs ++ cs)) ≡ true) (a b c : ℕ) where
  abbrev pub fronts : List (List ℕ)
  fronts = take a is ++ (take b gs ++ take c cs)

  -- none of the three, where it is none of these lists
  none_of : (n : List ℕ) → is_among (take a is) n ≡ false → is_among (take b gs) n ≡ false → is_among (take c cs) n ≡ false → is_among fronts n ≡ false
  none_of n x y z = among_both (take a is) (take b gs ++ take c cs) n x (among_both (take b gs) (take c cs) n y z)

  pub first_free : a < length is → is_among fronts (get_or is a []) ≡ false
  first_free h =
      let n = get_or is a [] in
      let names : is ++ (gs ++ cs) ≡ take a is ++ get_or is a [] ∷ (drop (suc a) is ++ (gs ++ cs)) = ap (λ xs. xs ++ (gs ++ cs)) (split_at is a [] h) ∙ append_assoc (take a is) (get_or is a [] ∷ drop (suc a) is) (gs ++ cs) in
      let parts = distinct_at (take a is) (drop (suc a) is ++ (gs ++ cs)) (get_or is a []) (ap is_distinct (sym names) ∙ distinct) in
      let later = among_parts gs cs (get_or is a []) (among_parts (drop (suc a) is) (gs ++ cs) (get_or is a []) parts.1).1 in
      none_of (get_or is a []) parts.0 (among_front gs b (get_or is a []) later.0) (among_front cs c (get_or is a []) later.1)

  pub second_free : b < length gs → is_among fronts (get_or gs b []) ≡ false
  second_free h =
      let n = get_or gs b [] in
      let names : is ++ (gs ++ cs) ≡ (is ++ take b gs) ++ get_or gs b [] ∷ (drop (suc b) gs ++ cs) =
      ap (λ xs. is ++ (xs ++ cs)) (split_at gs b [] h) ∙ ap (λ xs. is ++ xs) (append_assoc (take b gs) (get_or gs b [] ∷ drop (suc b) gs) cs) ∙ sym (append_assoc is (take b gs) (get_or gs b [] ∷ (drop (suc b) gs ++ cs))) in
      let parts = distinct_at (is ++ take b gs) (drop (suc b) gs ++ cs) (get_or gs b []) (ap is_distinct (sym names) ∙ distinct) in
      let before = among_parts is (take b gs) (get_or gs b []) parts.0 in
      none_of (get_or gs b []) (among_front is a (get_or gs b []) before.0) before.1 (among_front cs c (get_or gs b []) (among_parts (drop (suc b) gs) cs (get_or gs b []) parts.1).1)

  pub third_free : c < length cs → is_among fronts (get_or cs c []) ≡ false
  third_free h =
      let n = get_or cs c [] in
      let names : is ++ (gs ++ cs) ≡ (is ++ (gs ++ take c cs)) ++ get_or cs c [] ∷ drop (suc c) cs =
      ap (λ xs. is ++ (gs ++ xs)) (split_at cs c [] h) ∙ ap (λ xs. is ++ xs) (sym (append_assoc gs (take c cs) (get_or cs c [] ∷ drop (suc c) cs))) ∙ sym (append_assoc is (gs ++ take c cs) (get_or cs c [] ∷ drop (suc c) cs)) in
      let parts = distinct_at (is ++ (gs ++ take c cs)) (drop (suc c) cs) (get_or cs c []) (ap is_distinct (sym names) ∙ distinct) in
      let before = among_parts is (gs ++ take c cs) (get_or cs c []) parts.0 in
      let second = among_parts gs (take c cs) (get_or cs c []) before.1 in
      none_of (get_or cs c []) (among_front is a (get_or cs c []) before.0) (among_front gs b (get_or cs c []) second.0) second.1
