-- Tests of all members of a set, and the members that pass one.
use Rattle.std.proofs.Common.{◌≡◌, refl, sym, ap, ◌∙◌, subst, ◌⊎◌, inl, inr, ⊎_elim, ◌<◌, ◌≤◌, ℤ, List, [], ◌∷◌, length, filter, Bool, true, false, not, ◌&&◌, Some, None, cond, arith}
use Rattle.std.specs.List.{list_all}
use Rattle.std.specs.Ordering.{int_eq}
use Rattle.std.proofs.lemmas.Bool.{and_parts, and_from, cases_Bool, true≢false}
use Rattle.kts_abs.specs.Demands.{only_member, is_left, IsOnly}
use Rattle.kts_abs.specs.Values.{has}
use Rattle.kts_abs.specs.WindowLaws.{eq_yes, yes_eq}
use Rattle.kts_abs.proofs.Rising.{has_head, has_rest, has_cases, has_filter}

-- a test that each member passes
pub all_from : (p : ℤ → Bool) (ms : List ℤ) → ((m : ℤ) → has ms m ≡ true → p m ≡ true) → list_all p ms ≡ true
all_from p [] h = refl
all_from p (m ∷ ms) h = and_from (p m) (list_all p ms) (h m (has_head m ms)) (all_from p ms (λ n k. h n (has_rest m ms n k)))

pub all_to : (p : ℤ → Bool) (ms : List ℤ) → list_all p ms ≡ true → (m : ℤ) → has ms m ≡ true → p m ≡ true
all_to p [] a m h = absurd (true≢false (sym h))
all_to p (x ∷ ms) a m h =
    let both = and_parts (p x) (list_all p ms) a in
    ⊎_elim (λ (e : m ≡ x). subst (λ z. p z ≡ true) (sym e) both.0) (λ k. all_to p ms both.1 m k) (has_cases x ms m h)

-- all are kept where all pass
pub filter_kept : (p : ℤ → Bool) (ms : List ℤ) → list_all p ms ≡ true → filter p ms ≡ ms
filter_kept p [] a = refl
filter_kept p (m ∷ ms) a =
    let both = and_parts (p m) (list_all p ms) a in
    rw both.0 (ap (λ z. m ∷ z) (filter_kept p ms both.1))

-- those that are kept are the members that pass
pub filter_has : (p : ℤ → Bool) (ms : List ℤ) (m : ℤ) → has ms m ≡ true → p m ≡ true → has (filter p ms) m ≡ true
filter_has p ms m h e = has_filter p m ms ∙ and_from (p m) (has ms m) e h

pub filter_in : (p : ℤ → Bool) (ms : List ℤ) (m : ℤ) → has (filter p ms) m ≡ true → (has ms m ≡ true) × (p m ≡ true)
filter_in p ms m h = let both = and_parts (p m) (has ms m) (sym (has_filter p m ms) ∙ h) in (both.1, both.0)

-- fewer are kept where some does not pass
filter_few : (p : ℤ → Bool) (ms : List ℤ) → length (filter p ms) ≤ length ms
filter_few p [] = omega arith
filter_few p (m ∷ ms) = by (p m) (filter_few p ms)
  where
    by : (b : Bool) → length (filter p ms) ≤ length ms → length (cond b (m ∷ filter p ms) (filter p ms)) ≤ length (m ∷ ms)
    by true r = omega arith
    by false r = omega arith

pub filter_less : (p : ℤ → Bool) (ms : List ℤ) → list_all p ms ≡ false → length (filter p ms) < length ms
filter_less p [] a = absurd (true≢false a)
filter_less p (m ∷ ms) a = by (p m) a (filter_few p ms) (λ e. filter_less p ms e)
  where
    by : (b : Bool) → (b && list_all p ms) ≡ false → length (filter p ms) ≤ length ms → (list_all p ms ≡ false → length (filter p ms) < length ms) → length (cond b (m ∷ filter p ms) (filter p ms)) < length (m ∷ ms)
    by true e few less = let r = less e in omega arith
    by false e few less = omega arith

-- ---- the only member

some_one : (a b : ℤ) → Some a ≡ Some b → a ≡ b
some_one a b e = cc

none_some : (a : ℤ) → None ≡ Some a → ⊥
none_some a e = cc

pub only_is : (ms : List ℤ) (n : ℤ) → only_member ms ≡ Some n → IsOnly ms n
only_is [] n e = cc
only_is (m ∷ ms) n e = by (cases_Bool (list_all (λ k. int_eq k m) ms))
  where
    by : (list_all (λ k. int_eq k m) ms ≡ true) ⊎ (list_all (λ k. int_eq k m) ms ≡ false) → IsOnly (m ∷ ms) n
    by (inl t) =
        let same : m ≡ n = some_one m n (sym (ap (λ b. cond b (Some m) None) t) ∙ e) in
        record {
          held = subst (λ z. has (m ∷ ms) z ≡ true) same (has_head m ms);
          alone = λ k h. ⊎_elim (λ (f : k ≡ m). f ∙ same) (λ r. eq_yes k m (all_to (λ k. int_eq k m) ms t k r) ∙ same) (has_cases m ms k h);
        }
    by (inr f) = absurd (none_some n (sym (ap (λ b. cond b (Some m) None) f) ∙ e))

pub only_found : (ms : List ℤ) (n : ℤ) → IsOnly ms n → only_member ms ≡ Some n
only_found [] n h = absurd (true≢false (sym h.held))
only_found (m ∷ ms) n h =
    let same : m ≡ n = h.alone m (has_head m ms) in
    ap (λ b. cond b (Some m) None) (all_from (λ k. int_eq k m) ms (λ k r. yes_eq k m (h.alone k (has_rest m ms k r) ∙ sym same))) ∙ ap Some same

-- what is left is another member
pub left_not : (m n : ℤ) → is_left (Some n) m ≡ true → m ≡ n → ⊥
left_not m n h e = true≢false (sym h ∙ ap not (yes_eq m n e))

pub not_left : (b : Bool) → (b ≡ true → ⊥) → not b ≡ true
not_left true h = absurd (h refl)
not_left false h = refl
