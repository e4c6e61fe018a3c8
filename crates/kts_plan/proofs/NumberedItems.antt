-- Items of lists by their numbers, and the other items.
use Rattle.std.proofs.Common.{◌≡◌, refl, sym, ap, ◌∙◌, subst, ◌⊎◌, inl, inr, ⊎_elim, ℕ, zero, suc, ◌+◌, List, [], ◌∷◌, ◌++◌, map, Bool, true, false, ◌&&◌, ◌||◌, fold, Some, None, arith}
use Rattle.std.specs.Prelude.{slice_get}
use Rattle.std.specs.List.{enumerate_from, list_all, list_any}
use Rattle.std.proofs.lemmas.Bool.{and_parts, and_from, true≢false}
use Rattle.kts_spec.specs.Related.{AllOf}
use Rattle.kts_abs.proofs.Listed.{In}
use Rattle.kts_plan.specs.Heads.{all_but}

none_some : {X : Type 0} (x : X) → None ≡ Some x → ⊥
none_some x e = cc

some_one : {X : Type 0} (x y : X) → Some x ≡ Some y → x ≡ y
some_one x y e = cc

-- a numbered item, and its number
pub record IsNumbered {X : Type 0} (a : ℕ) (xs : List X) (p : ℕ × X) : Type 0 where
  pub place : ℕ
  pub number : p.0 ≡ a + place
  pub is : slice_get xs place ≡ Some p.1

pub numbered_is : {X : Type 0} (a : ℕ) (xs : List X) (p : ℕ × X) → In p (enumerate_from a xs) → IsNumbered a xs p
numbered_is a [] p h = absurd h
numbered_is {X} a (x ∷ xs) p (inl e) = record { place = 0; number = (let n = ap (λ (q : ℕ × X). q.0) e in omega (arith, n)); is = ap (λ (q : ℕ × X). Some q.1) (sym e) }
numbered_is a (x ∷ xs) p (inr h) = let r = numbered_is (a + 1) xs p h in record { place = suc r.place; number = (let n = r.number in omega (arith, n)); is = r.is }

pub in_numbered : {X : Type 0} (a : ℕ) (xs : List X) (i : ℕ) (x : X) → slice_get xs i ≡ Some x → In (a + i, x) (enumerate_from a xs)
in_numbered a [] i x e = absurd (none_some x e)
in_numbered a (y ∷ xs) zero x e = let n : a + 0 ≡ a = omega arith in inl (ap (λ k. (k, x)) n ∙ ap (λ z. (a, z)) (sym (some_one y x e)))
in_numbered a (y ∷ xs) (suc i) x e =
    let n : a + 1 + i ≡ a + suc i = omega arith in
    inr (subst (λ k. In (k, x) (enumerate_from (a + 1) xs)) n (in_numbered (a + 1) xs i x e))

-- an item by its number is one of the list, and each has a number
pub got_in : {X : Type 0} (xs : List X) (i : ℕ) (x : X) → slice_get xs i ≡ Some x → In x xs
got_in [] i x e = absurd (none_some x e)
got_in (y ∷ xs) zero x e = inl (sym (some_one y x e))
got_in (y ∷ xs) (suc i) x e = inr (got_in xs i x e)

pub in_got : {X : Type 0} (xs : List X) (x : X) → In x xs → (i : ℕ) × (slice_get xs i ≡ Some x)
in_got [] x h = absurd h
in_got (y ∷ xs) x (inl e) = (0, ap (λ z. Some z) (sym e))
in_got (y ∷ xs) x (inr h) = let r = in_got xs x h in (suc r.0, r.1)

-- an item of either part is one of both together, and the other way round
pub in_left : {X : Type 0} (x : X) (xs ys : List X) → In x xs → In x (xs ++ ys)
in_left x [] ys h = absurd h
in_left x (y ∷ xs) ys h = ⊎_elim (λ e. inl e) (λ k. inr (in_left x xs ys k)) h

pub in_right : {X : Type 0} (x : X) (xs ys : List X) → In x ys → In x (xs ++ ys)
in_right x [] ys h = h
in_right x (y ∷ xs) ys h = inr (in_right x xs ys h)

pub in_split : {X : Type 0} (x : X) (xs ys : List X) → In x (xs ++ ys) → In x xs ⊎ In x ys
in_split x [] ys h = inr h
in_split x (y ∷ xs) ys h = ⊎_elim (λ e. inl (inl e)) (λ k. ⊎_elim (λ l. inl (inr l)) (λ r. inr r) (in_split x xs ys k)) h

-- what holds of all items
pub all_in : {X : Type 0} (P : X → Type 0) (xs : List X) (x : X) → AllOf P xs → In x xs → P x
all_in P [] x h k = absurd k
all_in P (y ∷ xs) x h (inl e) = subst P (sym e) h.0
all_in P (y ∷ xs) x h (inr k) = all_in P xs x h.1 k

pub all_rest : {X : Type 0} (P : X → Type 0) (xs : List X) (i : ℕ) → AllOf P xs → AllOf P (all_but i xs)
all_rest P [] i h = tt
all_rest P (y ∷ xs) zero h = h.1
all_rest P (y ∷ xs) (suc i) h = (h.0, all_rest P xs i h.1)

pub all_got : {X : Type 0} (P : X → Type 0) (xs : List X) (i : ℕ) (x : X) → AllOf P xs → slice_get xs i ≡ Some x → P x
all_got P xs i x h e = all_in P xs x h (got_in xs i x e)

-- ---- tests

pub list_all_in : {X : Type 0} (f : X → Bool) (xs : List X) (x : X) → list_all f xs ≡ true → In x xs → f x ≡ true
list_all_in f [] x h k = absurd k
list_all_in f (y ∷ xs) x h (inl e) = ap f e ∙ (and_parts (f y) (list_all f xs) h).0
list_all_in f (y ∷ xs) x h (inr k) = list_all_in f xs x (and_parts (f y) (list_all f xs) h).1 k

pub in_list_all : {X : Type 0} (f : X → Bool) (xs : List X) → ((x : X) → In x xs → f x ≡ true) → list_all f xs ≡ true
in_list_all f [] h = refl
in_list_all f (y ∷ xs) h = and_from (f y) (list_all f xs) (h y (inl refl)) (in_list_all f xs (λ x k. h x (inr k)))

pub none_any : {X : Type 0} (f : X → Bool) (xs : List X) → list_any f xs ≡ false → AllOf (λ x. f x ≡ false) xs
none_any f [] h = tt
none_any f (x ∷ xs) h = let p = neither (f x) (list_any f xs) h in (p.0, none_any f xs p.1)
  where
    neither : (b c : Bool) → (b || c) ≡ false → (b ≡ false) × (c ≡ false)
    neither true c h = absurd (true≢false h)
    neither false c h = (refl, h)

-- ---- folds

pub fold_and : (b : Bool) (xs : List Bool) → fold ◌&&◌ b xs ≡ (b && fold ◌&&◌ true xs)
fold_and b [] = grind arith
fold_and b (x ∷ xs) = fold_and (b && x) xs ∙ along b x (fold ◌&&◌ true xs) ∙ ap (λ z. b && z) (sym (fold_and x xs))
  where
    along : (a b c : Bool) → ((a && b) && c) ≡ (a && (b && c))
    along a b c = grind arith

pub fold_or : (b : Bool) (xs : List Bool) → fold ◌||◌ b xs ≡ (b || fold ◌||◌ false xs)
fold_or b [] = grind arith
fold_or b (x ∷ xs) = fold_or (b || x) xs ∙ along b x (fold ◌||◌ false xs) ∙ ap (λ z. b || z) (sym (fold_or x xs))
  where
    along : (a b c : Bool) → ((a || b) || c) ≡ (a || (b || c))
    along a b c = grind arith

-- of some truths one is true, or another
pub some_split : {X : Type 0} (g : X → Bool) (xs : List X) (i : ℕ) (x : X) → slice_get xs i ≡ Some x → fold ◌||◌ false (map g xs) ≡ (g x || fold ◌||◌ false (map g (all_but i xs)))
some_split g [] i x e = absurd (none_some x e)
some_split g (y ∷ xs) zero x e = fold_or (g y) (map g xs) ∙ ap (λ z. g z || fold ◌||◌ false (map g xs)) (some_one y x e)
some_split g (y ∷ xs) (suc i) x e =
    fold_or (g y) (map g xs) ∙ ap (λ b. g y || b) (some_split g xs i x e) ∙ swap (g y) (g x) (fold ◌||◌ false (map g (all_but i xs))) ∙ ap (λ b. g x || b) (sym (fold_or (g y) (map g (all_but i xs))))
  where
    swap : (a b c : Bool) → (a || (b || c)) ≡ (b || (a || c))
    swap a b c = grind arith
