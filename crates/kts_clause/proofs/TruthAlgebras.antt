-- What conjunction, disjunction and negation keep, on schedules, and folds of them.
use Rattle.std.proofs.Common.{◌≡◌, refl, sym, ap, ◌∙◌, ℤ, List, [], ◌∷◌, ◌++◌, map, fold, arith}
use Rattle.kts_spec.specs.Domain.{Domain}
use Rattle.kts_spec.specs.Meaning.{on_schedule}
use Rattle.kts_spec.specs.Worlds.{World}

-- conjunction and disjunction are monoids, and negation turns one into the other
pub record IsTruthAlgebra {T B : Type 0} (d : Domain T B) : Type 0 where
  pub either_on : (p q r : B) → d.either (d.either p q) r ≡ d.either p (d.either q r)
  pub either_no : (p : B) → d.either p d.no ≡ p
  pub no_either : (p : B) → d.either d.no p ≡ p
  pub both_on : (p q r : B) → d.both (d.both p q) r ≡ d.both p (d.both q r)
  pub both_yes : (p : B) → d.both p d.yes ≡ p
  pub yes_both : (p : B) → d.both d.yes p ≡ p
  pub both_turn : (p q : B) → d.both p q ≡ d.both q p
  pub neg_both : (p q : B) → d.neg (d.both p q) ≡ d.either (d.neg p) (d.neg q)
  pub neg_yes : d.neg d.yes ≡ d.no
  pub neg_neg : (p : B) → d.neg (d.neg p) ≡ p

pub on_schedules : (w : World) (ns : List ℤ) → IsTruthAlgebra (on_schedule w ns)
on_schedules w ns = record {
  either_on = λ p q r. grind arith;
  either_no = λ p. grind arith;
  no_either = λ p. grind arith;
  both_on = λ p q r. grind arith;
  both_yes = λ p. grind arith;
  yes_both = λ p. grind arith;
  both_turn = λ p q. grind arith;
  neg_both = λ p q. grind arith;
  neg_yes = refl;
  neg_neg = λ p. grind arith;
}

-- folds of an operation with a unit
module _ (B : Type 0) (f : B → B → B) (z : B) (on : (p q r : B) → f (f p q) r ≡ f p (f q r)) (right : (p : B) → f p z ≡ p) (left : (p : B) → f z p ≡ p) where
  fold_from : (xs : List B) (a : B) → fold f a xs ≡ f a (fold f z xs)
  fold_from [] a = sym (right a)
  fold_from (x ∷ xs) a =
      fold_from xs (f a x) ∙ on a x (fold f z xs) ∙ ap (f a) (ap (λ b. f b (fold f z xs)) (sym (left x)) ∙ sym (fold_from xs (f z x)))

  pub fold_cons : (x : B) (xs : List B) → fold f z (x ∷ xs) ≡ f x (fold f z xs)
  fold_cons x xs = fold_from xs (f z x) ∙ ap (λ b. f b (fold f z xs)) (left x)

  pub fold_both : {X : Type 0} (g : X → B) (xs ys : List X) → fold f z (map g (xs ++ ys)) ≡ f (fold f z (map g xs)) (fold f z (map g ys))
  fold_both g [] ys = sym (left _)
  fold_both g (x ∷ xs) ys =
      fold_cons (g x) (map g (xs ++ ys)) ∙ ap (f (g x)) (fold_both g xs ys) ∙ sym (on (g x) _ _) ∙ ap (λ b. f b (fold f z (map g ys))) (sym (fold_cons (g x) (map g xs)))

  pub fold_same : {X : Type 0} (g h : X → B) (xs : List X) → ((x : X) → g x ≡ h x) → fold f z (map g xs) ≡ fold f z (map h xs)
  fold_same g h [] e = refl
  fold_same g h (x ∷ xs) e = fold_cons (g x) (map g xs) ∙ ap (λ b. f b (fold f z (map g xs))) (e x) ∙ ap (f (h x)) (fold_same g h xs e) ∙ sym (fold_cons (h x) (map h xs))

  module _ (turn : (p q : B) → f p q ≡ f q p) where
    middle : (p q r s : B) → f (f p q) (f r s) ≡ f (f p r) (f q s)
    middle p q r s = on p q (f r s) ∙ ap (f p) (sym (on q r s) ∙ ap (λ b. f b s) (turn q r) ∙ on r q s) ∙ sym (on p r (f q s))

    fold_pointwise : {X : Type 0} (g h : X → B) (xs : List X) → fold f z (map (λ x. f (g x) (h x)) xs) ≡ f (fold f z (map g xs)) (fold f z (map h xs))
    fold_pointwise g h [] = sym (left z)
    fold_pointwise g h (x ∷ xs) =
        fold_cons (f (g x) (h x)) (map (λ x. f (g x) (h x)) xs) ∙ ap (f (f (g x) (h x))) (fold_pointwise g h xs) ∙ middle (g x) (h x) _ _
        ∙ ap (λ b. f b (f (h x) (fold f z (map h xs)))) (sym (fold_cons (g x) (map g xs))) ∙ ap (f (fold f z (map g (x ∷ xs)))) (sym (fold_cons (h x) (map h xs)))

    fold_units : {X : Type 0} (xs : List X) → fold f z (map (λ _. z) xs) ≡ z
    fold_units [] = refl
    fold_units (x ∷ xs) = fold_cons z (map (λ _. z) xs) ∙ left _ ∙ fold_units xs

    pub fold_swap : {X Y : Type 0} (h : X → Y → B) (xs : List X) (ys : List Y) → fold f z (map (λ x. fold f z (map (λ y. h x y) ys)) xs) ≡ fold f z (map (λ y. fold f z (map (λ x. h x y) xs)) ys)
    fold_swap h [] ys = sym (fold_units ys)
    fold_swap h (x ∷ xs) ys =
        fold_cons _ (map (λ x. fold f z (map (λ y. h x y) ys)) xs) ∙ ap (f (fold f z (map (λ y. h x y) ys))) (fold_swap h xs ys)
        ∙ sym (fold_pointwise (λ y. h x y) (λ y. fold f z (map (λ x. h x y) xs)) ys)
        ∙ fold_same _ _ ys (λ y. sym (fold_cons (h x y) (map (λ x. h x y) xs)))
