-- Patterns with others of the same constraint.
use Rattle.std.proofs.Common.{◌≡◌, refl, sym, ap, ◌∙◌, subst, ℕ, zero, suc, ◌+◌, ◌-◌, ◌<◌, ◌≤◌, List, [], ◌∷◌, ◌++◌, length, map, take, drop, fold, get_or, true, false, if◌then◌else◌, append_assoc, length-append, length-drop, arith}
use Rattle.std.specs.Prelude.{flat_map}
use Rattle.std.specs.List.{list_any}
use Rattle.std.proofs.lemmas.List.{append-nil, take-append-drop, take_more, map-append}
use Rattle.std.proofs.lemmas.Grind.{flat_map-append}
use Rattle.kts_index.specs.declared.pattern.Pattern.{Pattern}
use Rattle.kts_classify.specs.PlanPatterns.{is_alike, with_new, extended, distinct}

fold_append : {X Y : Type 0} (f : Y → X → Y) (a : Y) (xs ys : List X) → fold f a (xs ++ ys) ≡ fold f (fold f a xs) ys
fold_append f a [] ys = refl
fold_append f a (x ∷ xs) ys = fold_append f (f a x) xs ys

pub take_length : {X : Type 0} (first : ℕ) (xs : List X) → first ≤ length xs → length (take first xs) ≡ first
take_length zero xs le = refl
take_length (suc n) [] le = absurd (omega arith)
take_length (suc n) (x ∷ xs) le = ap suc (take_length n xs (omega arith))

take_front : {X : Type 0} (n : ℕ) (xs ys : List X) → length xs ≡ n → take n (xs ++ ys) ≡ xs
take_front zero [] ys e = refl
take_front zero (x ∷ xs) ys e = absurd (omega arith)
take_front (suc n) [] ys e = absurd (omega arith)
take_front (suc n) (x ∷ xs) ys e = ap (λ l. x ∷ l) (take_front n xs ys (omega arith))

drop_front : {X : Type 0} (n : ℕ) (xs ys : List X) → length xs ≡ n → drop n (xs ++ ys) ≡ ys
drop_front zero [] ys e = refl
drop_front zero (x ∷ xs) ys e = absurd (omega arith)
drop_front (suc n) [] ys e = absurd (omega arith)
drop_front (suc n) (x ∷ xs) ys e = drop_front n xs ys (omega arith)

pub extended_none : (first : ℕ) (ps : List Pattern) → extended first ps [] ≡ ps
unfolding extended
extended_none first ps = take-append-drop first ps

pub extended_more : (first : ℕ) (ps xs ys : List Pattern) → first ≤ length ps → extended first (extended first ps xs) ys ≡ extended first ps (xs ++ ys)
unfolding extended
extended_more first ps xs ys le =
    let long = take_length first ps le in
    let front = take_front first (take first ps) (fold with_new (drop first ps) xs) long in
    let back = drop_front first (take first ps) (fold with_new (drop first ps) xs) long in
    ap (λ l. l ++ fold with_new (drop first (take first ps ++ fold with_new (drop first ps) xs)) ys) front ∙ ap (λ l. take first ps ++ fold with_new l ys) back
    ∙ ap (λ l. take first ps ++ l) (sym (fold_append with_new (drop first ps) xs ys))

pub extended_long : (first : ℕ) (ps xs : List Pattern) → first ≤ length ps → first ≤ length (extended first ps xs)
unfolding extended
extended_long first ps xs le =
    let long = take_length first ps le in
    let both = length-append (take first ps) (fold with_new (drop first ps) xs) in
    omega (arith, long, both)

-- a pattern that stands already, and one that does not
pub extended_same : (first : ℕ) (ps : List Pattern) (p : Pattern) → list_any (is_alike p) (drop first ps) ≡ true → extended first ps (p ∷ []) ≡ ps
unfolding extended
extended_same first ps p e = ap (λ b. take first ps ++ (if b then drop first ps else drop first ps ++ p ∷ [])) e ∙ take-append-drop first ps

pub extended_new : (first : ℕ) (ps : List Pattern) (p : Pattern) → list_any (is_alike p) (drop first ps) ≡ false → extended first ps (p ∷ []) ≡ ps ++ p ∷ []
unfolding extended
extended_new first ps p e =
    ap (λ b. take first ps ++ (if b then drop first ps else drop first ps ++ p ∷ [])) e ∙ sym (append_assoc (take first ps) (drop first ps) (p ∷ [])) ∙ ap (λ l. l ++ p ∷ []) (take-append-drop first ps)

-- the rest of a slice
pub rest_of : {X : Type 0} (first : ℕ) (xs : List X) → take (length xs - first) (drop first xs) ≡ drop first xs
rest_of first xs = all (drop first xs) (length xs - first) (sym (length-drop first xs))
  where
    all : {X : Type 0} (xs : List X) (n : ℕ) → n ≡ length xs → take n xs ≡ xs
    all [] zero e = refl
    all [] (suc n) e = absurd (omega arith)
    all (x ∷ xs) zero e = absurd (omega arith)
    all (x ∷ xs) (suc n) e = ap (λ l. x ∷ l) (all xs n (omega arith))

-- the patterns of one part more
pub extended_part : {X : Type 0} (first : ℕ) (old now : List Pattern) (f : X → List Pattern) (xs : List X) (i : ℕ) (x : X) → first ≤ length old → i < length xs → x ≡ get_or xs i x
    → now ≡ extended first old (flat_map f (take i xs)) → extended first now (f x) ≡ extended first old (flat_map f (take (i + 1) xs))
extended_part first old now f xs i x le lt is e =
    let more : flat_map f (take (i + 1) xs) ≡ flat_map f (take i xs) ++ f x =
    ap (flat_map f) (take_more xs i x lt ∙ ap (λ y. take i xs ++ y ∷ []) (sym is)) ∙ flat_map-append f (take i xs) (x ∷ []) ∙ ap (λ l. flat_map f (take i xs) ++ l) (append-nil (f x)) in
    ap (λ ps. extended first ps (f x)) e ∙ extended_more first old (flat_map f (take i xs)) (f x) le ∙ ap (extended first old) (sym more)

-- the patterns of each
pub mapped_each : {X Y : Type 0} (g : Y → Pattern) (f : X → List Y) (xs : List X) → map g (flat_map f xs) ≡ flat_map (λ x. map g (f x)) xs
mapped_each g f [] = refl
mapped_each g f (x ∷ xs) = map-append g (f x) (flat_map f xs) ∙ ap (λ l. map g (f x) ++ l) (mapped_each g f xs)

pub extended_both : {Y : Type 0} (g : Y → Pattern) (first : ℕ) (old now : List Pattern) (xs ys : List Y) → first ≤ length old → now ≡ extended first old (map g xs) → extended first now (map g ys) ≡ extended first old (map g (xs ++ ys))
extended_both g first old now xs ys le e = ap (λ ps. extended first ps (map g ys)) e ∙ extended_more first old (map g xs) (map g ys) le ∙ ap (extended first old) (sym (map-append g xs ys))

-- there is still room before them
pub still_begun : (first : ℕ) (old now xs : List Pattern) → first ≤ length old → now ≡ extended first old xs → first ≤ length now
still_begun first old now xs le e = subst (λ (ps : List Pattern). first ≤ length ps) (sym e) (extended_long first old xs le)

take_past : {X : Type 0} (xs : List X) (n : ℕ) → length xs ≤ n → take n xs ≡ xs
take_past [] zero h = refl
take_past [] (suc n) h = refl
take_past (x ∷ xs) zero h = absurd (omega arith)
take_past (x ∷ xs) (suc n) h = ap (λ l. x ∷ l) (take_past xs n (omega arith))

-- the patterns of all parts
pub extended_each : {X Y : Type 0} (g : Y → Pattern) (first : ℕ) (old now : List Pattern) (f : X → List Y) (xs : List X) (n : ℕ) → length xs ≤ n
    → now ≡ extended first old (flat_map (λ x. map g (f x)) (take n xs)) → now ≡ extended first old (map g (flat_map f xs))
extended_each g first old now f xs n h e = e ∙ ap (extended first old) (ap (flat_map (λ x. map g (f x))) (take_past xs n h) ∙ sym (mapped_each g f xs))

-- where all patterns before are of other constraints
pub extended_all : (old qs : List Pattern) (first : ℕ) → first ≡ length old → extended first old qs ≡ old ++ distinct qs
unfolding extended
extended_all old qs first e =
    let past : drop first old ≡ [] = none old first (sym e) in
    ap (λ l. l ++ fold with_new (drop first old) qs) (take_past old first (omega (arith, e))) ∙ ap (λ l. old ++ fold with_new l qs) past
  where
    none : {X : Type 0} (xs : List X) (n : ℕ) → length xs ≡ n → drop n xs ≡ []
    none [] zero e = refl
    none [] (suc n) e = refl
    none (x ∷ xs) zero e = absurd (omega arith)
    none (x ∷ xs) (suc n) e = none xs n (omega arith)
