-- Whether two sets are one and the same member.
use Rattle.std.proofs.Common.{◌≡◌, refl, sym, ◌∙◌, ap, subst, ⊎_elim, Bool, true, false, not, ◌&&◌, cond, ℕ, ◌<◌, ◌≤◌, nat_eq, ℤ, List, [], ◌∷◌, length, filter, arith}
use Rattle.std.proofs.lemmas.Bool.{eqb-true, eq-eqb, and_parts, and_from, cases_Bool, false_from_ne_true, true≢false}
use Rattle.std.specs.List.{list_all}
use Rattle.std.specs.Ordering.{int_eq}
use Rattle.kts_sets.specs.Sets.{elem}
use Rattle.kts_sets.specs.SetLaws.{IsSet-rises, elem-filter}
use Rattle.kts_sets.specs.Choices.{IsChoice}
use Rattle.kts_abs.specs.declared.truth.Tri.TheVariants.{F, U, T}
use Rattle.kts_abs.specs.Abstraction.{Finer, Only, Abstracts}
use Rattle.kts_abs.specs.Truth.{may_be, certain}
use Rattle.kts_abs.specs.Members.{has_member, every_pair, same_of}
use Rattle.kts_abs.specs.MemberLaws.{elem-head, elem-rest, elem-one}
use Rattle.kts_abs.specs.Values.{has}
use Rattle.kts_abs.specs.WindowLaws.{eq_yes, yes_eq}
use Rattle.kts_abs.proofs.Kleene.{surer_finer, certain_only}
use Rattle.kts_abs.proofs.Orders.{decided_sound, decided_surer, decided_certain}
use Rattle.kts_abs.proofs.Rising.{has_head, has_rest, has_cases}

-- a test of membership goes by items, and an equality finds the same alone
pub record Members {X : Type 0} (equal : X → X → Bool) (member : List X → X → Bool) : Type 0 where
  pub passes : (p : X → Bool) (xs : List X) (x : X) → list_all p xs ≡ true → member xs x ≡ true → p x ≡ true
  pub all_pass : (p : X → Bool) (xs : List X) → ((x : X) → member xs x ≡ true → p x ≡ true) → list_all p xs ≡ true
  pub same : (x y : X) → equal x y ≡ true → x ≡ y
  pub itself : (x y : X) → x ≡ y → equal x y ≡ true

module _ {X : Type 0} (equal : X → X → Bool) (member : List X → X → Bool) (m : Members equal member) where
  -- a test of every pair, at one
  at_pair : (p : X → X → Bool) (xs ys : List X) (x y : X) → every_pair p xs ys ≡ true → member xs x ≡ true → member ys y ≡ true → p x y ≡ true
  at_pair p xs ys x y h k l = m.passes (λ y. p x y) ys y (m.passes (λ x. list_all (λ y. p x y) ys) xs x h k) l

  from_pairs : (p : X → X → Bool) (xs ys : List X) → ((x y : X) → member xs x ≡ true → member ys y ≡ true → p x y ≡ true) → every_pair p xs ys ≡ true
  from_pairs p xs ys h = m.all_pass (λ x. list_all (λ y. p x y) ys) xs (λ x k. m.all_pass (λ y. p x y) ys (λ y l. h x y k l))

  not_false : (b : Bool) → not b ≡ true → b ≡ false
  not_false true h = cc
  not_false false h = refl

  -- fewer pairs pass where all did
  fewer : (p : X → X → Bool) (a c b d : List X) → Finer member a c → Finer member b d → every_pair p c d ≡ true → every_pair p a b ≡ true
  fewer p a c b d h k e = from_pairs p a b (λ x y i j. at_pair p c d x y e (h.within x i) (k.within y j))

  alike : (p : X → X → Bool) (a b : List X) (x y : X) → Only member x a → Only member y b → every_pair p a b ≡ p x y
  alike p a b x y h k = ⊎_elim
      (λ (t : p x y ≡ true). from_pairs p a b (λ u v i j. rw (h.alone u i, k.alone v j) t) ∙ sym t)
      (λ (t : p x y ≡ false). false_from_ne_true (every_pair p a b) (λ e. true≢false (sym (at_pair p a b x y e h.allowed k.allowed) ∙ t)) ∙ sym t)
      (cases_Bool (p x y))

  pub same_abstracts : Abstracts member member may_be equal (same_of equal)
  same_abstracts = record {
    sound = λ a b x y h k. decided_sound (every_pair equal a b) (every_pair (λ x y. not (equal x y)) a b) (equal x y)
        (λ e. at_pair equal a b x y e h k)
        (λ e. not_false (equal x y) (at_pair (λ x y. not (equal x y)) a b x y e h k));
    monotone = λ a c b d h k. surer_finer (same_of equal a b) (same_of equal c d)
        (decided_surer (every_pair equal c d) (every_pair (λ x y. not (equal x y)) c d) (every_pair equal a b) (every_pair (λ x y. not (equal x y)) a b)
        (fewer equal a c b d h k) (fewer (λ x y. not (equal x y)) a c b d h k)
        (λ e f. true≢false (sym (at_pair equal a b h.witness k.witness e h.allowed k.allowed) ∙ not_false (equal h.witness k.witness) (at_pair (λ x y. not (equal x y)) a b h.witness k.witness f h.allowed k.allowed))));
    exact = λ a b x y h k.
        let i : same_of equal a b ≡ certain (equal x y) = rw (alike equal a b x y h k, alike (λ x y. not (equal x y)) a b x y h k) (decided_certain (equal x y)) in
        subst (λ z. Only may_be (equal x y) z) (sym i) (certain_only (equal x y));
  }

-- ---- members as numbers

-- a test of all members, at one
positions_pass : (p : ℕ → Bool) (xs : List ℕ) (x : ℕ) → list_all p xs ≡ true → has_member xs x ≡ true → p x ≡ true
unfolding elem
positions_pass p [] x h k = cc
positions_pass p (y ∷ xs) x h k =
    let q = and_parts (p y) (list_all p xs) h in
    ⊎_elim (λ (e : nat_eq x y ≡ true). ap p (eqb-true x y e) ∙ q.0)
    (λ (e : nat_eq x y ≡ false). positions_pass p xs x q.1 (rw e at k))
    (cases_Bool (nat_eq x y))

-- a test that each member passes
positions_all : (p : ℕ → Bool) (xs : List ℕ) → ((x : ℕ) → has_member xs x ≡ true → p x ≡ true) → list_all p xs ≡ true
positions_all p [] h = refl
positions_all p (y ∷ xs) h = and_from (p y) (list_all p xs) (h y (elem-head y xs)) (positions_all p xs (λ x k. h x (elem-rest x y xs k)))

pub positions : Members nat_eq has_member
positions = record { passes = positions_pass; all_pass = positions_all; same = eqb-true; itself = eq-eqb }

-- ---- members as values of a schedule

-- the same of the values in a schedule
values_pass : (p : ℤ → Bool) (xs : List ℤ) (x : ℤ) → list_all p xs ≡ true → has xs x ≡ true → p x ≡ true
values_pass p [] x h k = cc
values_pass p (y ∷ xs) x h k =
    let q = and_parts (p y) (list_all p xs) h in
    ⊎_elim (λ (e : x ≡ y). ap p e ∙ q.0) (λ l. values_pass p xs x q.1 l) (has_cases y xs x k)

values_all : (p : ℤ → Bool) (xs : List ℤ) → ((x : ℤ) → has xs x ≡ true → p x ≡ true) → list_all p xs ≡ true
values_all p [] h = refl
values_all p (y ∷ xs) h = and_from (p y) (list_all p xs) (h y (has_head y xs)) (values_all p xs (λ x k. h x (has_rest y xs x k)))

pub values : Members int_eq has
values = record { passes = values_pass; all_pass = values_all; same = eq_yes; itself = yes_eq }

-- ---- what the code tells apart

-- a member that is kept is in both
record Common (a b : List ℕ) : Type 0 where
  member : ℕ
  first : elem member a ≡ true
  second : elem member b ≡ true

-- a count that is not 0 has a member in both
common_in : (a b kept : List ℕ) → filter (λ m. elem m b) a ≡ kept → (length kept ≡ 0 → ⊥) → Common a b
common_in a b [] e h = absurd (h refl)
common_in a b (m ∷ kept) e h =
    let p = and_parts (elem m b) (elem m a) (sym (elem-filter (λ m. elem m b) m a) ∙ ap (elem m) e ∙ elem-head m kept) in
    record { member = m; first = p.1; second = p.0 }

-- a count of 0 has none
none_in : (a b kept : List ℕ) → filter (λ m. elem m b) a ≡ kept → length kept ≡ 0 → (m : ℕ) → elem m a ≡ true → elem m b ≡ true → ⊥
unfolding elem
none_in a b [] e h m k l = true≢false (sym (and_from (elem m b) (elem m a) l k) ∙ sym (elem-filter (λ m. elem m b) m a) ∙ ap (elem m) e)
none_in a b (x ∷ kept) e h m k l = absurd (omega (arith, h))

-- a list that is not empty has a member
some_in : (a : List ℕ) → 1 ≤ length a → (m : ℕ) × (elem m a ≡ true)
some_in [] l = absurd (omega arith)
some_in (m ∷ ms) l = (m, elem-head m ms)

-- sets with nothing in common are not the same
pub same_apart : (a b : List ℕ) → IsChoice a → IsChoice b → length (filter (λ m. elem m b) a) ≡ 0 → F ≡ same_of nat_eq a b
same_apart a b u v h =
    let apart : (x y : ℕ) → elem x a ≡ true → elem y b ≡ true → nat_eq x y ≡ false = λ x y k l.
    false_from_ne_true (nat_eq x y) (λ e. none_in a b (filter (λ m. elem m b) a) refl h x k (ap (λ z. elem z b) (eqb-true x y e) ∙ l)) in
    let no = from_pairs nat_eq has_member positions (λ x y. not (nat_eq x y)) a b (λ x y k l. rw (apart x y k l) refl) in
    let m = some_in a u.some in let n = some_in b v.some in
    let yes = false_from_ne_true (every_pair nat_eq a b) (λ e. true≢false (sym (at_pair nat_eq has_member positions nat_eq a b m.0 n.0 e m.1 n.1) ∙ apart m.0 n.0 m.1 n.1)) in
    rw (yes, no) refl

-- sets whose members are all equal have one
lone : (a : List ℕ) (y : ℕ) → IsChoice a → ((x : ℕ) → elem x a ≡ true → x ≡ y) → length a ≡ 1
lone [] y u h = absurd (omega (arith, u.some))
lone (m ∷ []) y u h = refl
lone (m ∷ (n ∷ ms)) y u h =
    let rises : m < n = IsSet-rises (m ∷ (n ∷ ms)) u.set 0 (omega arith) in
    absurd (omega (arith, h m (elem-head m (n ∷ ms)), h n (elem-rest n m (n ∷ ms) (elem-head n ms))))

-- sets with something in common are the same where each has one member, else unknown
pub same_shared : (a b : List ℕ) → IsChoice a → IsChoice b → (length (filter (λ m. elem m b) a) ≡ 0 → ⊥) → (one : Bool) → one ≡ (nat_eq (length a) 1 && nat_eq (length b) 1) → cond one T U ≡ same_of nat_eq a b
same_shared a b u v h true e =
    let c = common_in a b (filter (λ m. elem m b) a) refl h in
    let p = and_parts (nat_eq (length a) 1) (nat_eq (length b) 1) (sym e) in
    let i = one_member a c.member (eqb-true (length a) 1 p.0) c.first in
    let j = one_member b c.member (eqb-true (length b) 1 p.1) c.second in
    let yes : every_pair nat_eq a b ≡ true = from_pairs nat_eq has_member positions nat_eq a b (λ x y k l. eq-eqb x y (i x k ∙ sym (j y l))) in
    rw yes refl
  where
    one_member : (a : List ℕ) (m : ℕ) → length a ≡ 1 → elem m a ≡ true → (x : ℕ) → elem x a ≡ true → x ≡ m
    one_member [] m l h x k = absurd (omega (arith, l))
    one_member (n ∷ []) m l h x k = elem-one x n k ∙ sym (elem-one m n h)
    one_member (n ∷ (y ∷ ms)) m l h x k = absurd (omega (arith, l))
same_shared a b u v h false e =
    let c = common_in a b (filter (λ m. elem m b) a) refl h in
    let no = false_from_ne_true (every_pair (λ x y. not (nat_eq x y)) a b) (λ t.
    true≢false (sym (at_pair nat_eq has_member positions (λ x y. not (nat_eq x y)) a b c.member c.member t c.first c.second) ∙ ap not (eq-eqb c.member c.member refl))) in
    let yes = false_from_ne_true (every_pair nat_eq a b) (λ t.
    let i = lone a c.member u (λ x k. eqb-true x c.member (at_pair nat_eq has_member positions nat_eq a b x c.member t k c.second)) in
    let j = lone b c.member v (λ y l. sym (eqb-true c.member y (at_pair nat_eq has_member positions nat_eq a b c.member y t c.first l))) in
    true≢false (sym (and_from (nat_eq (length a) 1) (nat_eq (length b) 1) (eq-eqb (length a) 1 i) (eq-eqb (length b) 1 j)) ∙ sym e)) in
    rw (yes, no) refl

-- the same count where the sets came through calls
pub shared_count : (a b s t kept : List ℕ) (n : ℕ) → kept ≡ filter (λ m. elem m t) s → s ≡ a → t ≡ b → n ≡ length kept → length (filter (λ m. elem m b) a) ≡ n
shared_count a b s t kept n e i j l = sym (l ∙ ap length e ∙ ap (λ z. length (filter (λ m. elem m t) z)) i ∙ ap (λ z. length (filter (λ m. elem m z) a)) j)
