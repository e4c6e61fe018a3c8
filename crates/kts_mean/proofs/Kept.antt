-- A schedule that breaks no formula is kept, and stands among the schedules that are.
use Rattle.std.proofs.Common.{◌≡◌, refl, ℕ, zero, suc, ◌+◌, ◌<◌, arith, List, [], ◌∷◌, length, get_or, Bool, true, false, not, ◌&&◌, cond, Option, Some, None}
use Rattle.std.specs.List.{Contains, filter, list_all, position_from}
use Rattle.std.proofs.lemmas.List.Elements.{Contains-append_right}

one_passes : (b : Bool) (i : ℕ) (rest : Option ℕ) (others : Bool) → (rest ≡ None → others ≡ true) → cond (not b) (Some i) rest ≡ None → (b && others) ≡ true
one_passes true i rest others more e = more e
one_passes false i rest others more e = absurd cc

one_breaks : (b : Bool) (i : ℕ) (rest : Option ℕ) (others : Bool) → (others ≡ true → rest ≡ None) → (b && others) ≡ true → cond (not b) (Some i) rest ≡ None
one_breaks true i rest others more e = more e
one_breaks false i rest others more e = absurd cc

one_stays : {X : Type 0} (b : Bool) (y x : X) (rest : List X) → Contains rest x → Contains (cond b (y ∷ rest) rest) x
one_stays true y x rest more = Contains-append_right (y ∷ []) rest x more
one_stays false y x rest more = more

module _ {X : Type 0} (f : X → Bool) where
  -- where none breaks a test, all pass it
  pub all_pass : (i : ℕ) (xs : List X) → position_from (λ x. not (f x)) i xs ≡ None → list_all f xs ≡ true
  all_pass i [] e = refl
  all_pass i (x ∷ xs) e = one_passes (f x) i (position_from (λ y. not (f y)) (i + 1) xs) (list_all f xs) (all_pass (i + 1) xs) e

  -- where all pass a test, none breaks it
  pub none_breaks : (i : ℕ) (xs : List X) → list_all f xs ≡ true → position_from (λ x. not (f x)) i xs ≡ None
  none_breaks i [] e = refl
  none_breaks i (x ∷ xs) e = one_breaks (f x) i (position_from (λ y. not (f y)) (i + 1) xs) (list_all f xs) (none_breaks (i + 1) xs) e

  -- what passes a test stays in the filter
  pub stays : (xs : List X) (k : ℕ) (x : X) → k < length xs → get_or xs k x ≡ x → f x ≡ true → Contains (filter f xs) x
  stays [] k x h e p = absurd (omega arith)
  stays (y ∷ ys) zero x h e p =
      let q : f y ≡ true = rw e p in
      rw q (0, omega arith, e)
  stays (y ∷ ys) (suc k) x h e p = one_stays (f y) y x (filter f ys) (stays ys k x (omega arith) e p)

  one_in_filter : (b : Bool) (y : X) (ys : List X) (k : ℕ) (x : X) → f y ≡ b
      → ((j : ℕ) → j < length (filter f ys) → get_or (filter f ys) j x ≡ x → f x ≡ true)
      → k < length (cond b (y ∷ filter f ys) (filter f ys)) → get_or (cond b (y ∷ filter f ys) (filter f ys)) k x ≡ x → f x ≡ true
  one_in_filter true y ys zero x q more h e = rw (← e) q
  one_in_filter true y ys (suc k) x q more h e = more k (omega arith) e
  one_in_filter false y ys k x q more h e = more k h e

  -- what is in the filter passes
  pub passes : (xs : List X) (k : ℕ) (x : X) → k < length (filter f xs) → get_or (filter f xs) k x ≡ x → f x ≡ true
  passes [] k x h e = absurd (omega arith)
  passes (y ∷ ys) k x h e = one_in_filter (f y) y ys k x refl (λ j. passes ys j x) h e
