-- Comparisons of windows.
use Rattle.std.proofs.Common.{◌≡◌, refl, sym, ap, subst, Bool, true, false, not, ◌&&◌, ◌||◌, ◌⊎◌, inl, inr, ℤ, ◌<ℤ◌, int_lt, int_le, arith}
use Rattle.std.proofs.lemmas.Int.{ints}
use Rattle.std.proofs.lemmas.Bool.{and_parts, and_from, or_cases, or_left, or_right}
use Rattle.std.specs.Ordering.{int_eq}
use Rattle.kts_abs.specs.Abstraction.{Only, Abstracts}
use Rattle.kts_abs.specs.Truth.{may_be, surer, certain, decided}
use Rattle.kts_abs.specs.Windows.{Window, in_window, le_of, are_one, are_apart, eq_of}
use Rattle.kts_base.proofs.Orders.{int_le_yes, int_lt_yes, yes_int_le, yes_int_lt}
use Rattle.kts_abs.specs.WindowLaws.{eq_yes, yes_eq, Lies, lies}
use Rattle.kts_abs.proofs.WindowEnds.{Inside, inside_from, only_is}
use Rattle.kts_abs.proofs.Kleene.{surer_finer, certain_only}

-- when the tests find nothing
le_not : (a b : ℤ) → b <ℤ a → int_le a b ≡ false
le_not a b h = grind (arith, ints)

eq_not : (a b : ℤ) → (a <ℤ b) ⊎ (b <ℤ a) → int_eq a b ≡ false
eq_not a b h = grind (arith, ints)

-- what surely holds is true, what surely fails is false
pub decided_sound : (yes fails b : Bool) → (yes ≡ true → b ≡ true) → (fails ≡ true → b ≡ false) → may_be (decided yes fails) b ≡ true
decided_sound true fails b h k = h refl
decided_sound false true b h k = ap not (k refl)
decided_sound false false b h k = refl

-- what was decided stays decided
pub decided_surer : (yes fails more less : Bool) → (yes ≡ true → more ≡ true) → (fails ≡ true → less ≡ true) → (more ≡ true → less ≡ true → ⊥) → surer (decided yes fails) (decided more less) ≡ true
decided_surer true fails more less h k n = rw (h refl) refl
decided_surer false true true less h k n = absurd (n refl (k refl))
decided_surer false true false less h k n = rw (k refl) refl
decided_surer false false more less h k n = refl

-- a test and its opposite decide
pub decided_certain : (b : Bool) → decided b (not b) ≡ certain b
decided_certain true = refl
decided_certain false = refl

-- what is to be shown of two tests on the ends
record Decides (f : ℤ → ℤ → Bool) (holds fails : Window → Window → Bool) : Type 0 where
  yes : (a b : Window) (x y : ℤ) → Lies a x → Lies b y → holds a b ≡ true → f x y ≡ true
  no : (a b : Window) (x y : ℤ) → Lies a x → Lies b y → fails a b ≡ true → f x y ≡ false
  stays : (a c b d : Window) → Inside a c → Inside b d → holds c d ≡ true → holds a b ≡ true
  falls : (a c b d : Window) → Inside a c → Inside b d → fails c d ≡ true → fails a b ≡ true
  at : (x y : ℤ) → holds (x, x) (y, y) ≡ f x y
  off : (x y : ℤ) → fails (x, x) (y, y) ≡ not (f x y)

-- a window that is not empty has its lower end
ends_of : (a c : Window) → Inside a c → Lies a a.0
ends_of a c i = record { low = omega (arith, ints); high = i.solid }

-- two tests on the ends that decide what they should
decides : (f : ℤ → ℤ → Bool) (holds fails : Window → Window → Bool) → Decides f holds fails → Abstracts in_window in_window may_be f (λ a b. decided (holds a b) (fails a b))
decides f holds fails d = record {
  sound = λ a b x y h k. decided_sound (holds a b) (fails a b) (f x y) (d.yes a b x y (lies a x h) (lies b y k)) (d.no a b x y (lies a x h) (lies b y k));
  monotone = λ a c b e h k.
      let i = inside_from a c h in let j = inside_from b e k in
      surer_finer (decided (holds a b) (fails a b)) (decided (holds c e) (fails c e))
      (decided_surer (holds c e) (fails c e) (holds a b) (fails a b) (d.stays a c b e i j) (d.falls a c b e i j)
      (λ p q. let l = ends_of a c i in let m = ends_of b e j in
      let t = d.yes a b a.0 b.0 l m p in let s = d.no a b a.0 b.0 l m q in cc));
  exact = λ a b x y h k.
      let i : decided (holds a b) (fails a b) ≡ certain (f x y) = rw (only_is a x h, only_is b y k, d.at x y, d.off x y) (decided_certain (f x y)) in
      subst (λ z. Only may_be (f x y) z) (sym i) (certain_only (f x y));
}

-- what surely fails at single numbers is what does not hold
lt_is_not_le : (x y : ℤ) → int_lt y x ≡ not (int_le x y)
lt_is_not_le x y = grind (arith, ints)

apart_is_not_eq : (x y : ℤ) → (int_lt x y || int_lt y x) ≡ not (int_eq x y)
apart_is_not_eq x y = grind (arith, ints)

pub at_most : Abstracts in_window in_window may_be int_le le_of
at_most = decides int_le (λ a b. int_le a.1 b.0) (λ a b. int_lt b.1 a.0) (record {
  yes = λ a b x y l m h. let t = int_le_yes a.1 b.0 h in yes_int_le x y (omega (arith, ints));
  no = λ a b x y l m h. let t = int_lt_yes b.1 a.0 h in le_not x y (omega (arith, ints));
  stays = λ a c b d i j h. let t = int_le_yes c.1 d.0 h in yes_int_le a.1 b.0 (omega (arith, ints));
  falls = λ a c b d i j h. let t = int_lt_yes d.1 c.0 h in yes_int_lt b.1 a.0 (omega (arith, ints));
  at = λ x y. refl;
  off = λ x y. lt_is_not_le x y;
})

-- when two windows are one number, and what follows
one_yes : (a b : Window) → are_one a b ≡ true → (a.0 ≡ a.1) × (b.0 ≡ b.1) × (a.0 ≡ b.0)
one_yes a b h =
    let p = and_parts (int_eq a.0 a.1 && int_eq b.0 b.1) (int_eq a.0 b.0) h in
    let q = and_parts (int_eq a.0 a.1) (int_eq b.0 b.1) p.0 in
    (eq_yes a.0 a.1 q.0, eq_yes b.0 b.1 q.1, eq_yes a.0 b.0 p.1)

yes_one : (a b : Window) → a.0 ≡ a.1 → b.0 ≡ b.1 → a.0 ≡ b.0 → are_one a b ≡ true
yes_one a b e f g =
    and_from (int_eq a.0 a.1 && int_eq b.0 b.1) (int_eq a.0 b.0)
    (and_from (int_eq a.0 a.1) (int_eq b.0 b.1) (yes_eq a.0 a.1 e) (yes_eq b.0 b.1 f)) (yes_eq a.0 b.0 g)

-- when two windows have no number in common, and what follows
apart_yes : (a b : Window) → are_apart a b ≡ true → (a.1 <ℤ b.0) ⊎ (b.1 <ℤ a.0)
apart_yes a b h = elim (or_cases (int_lt a.1 b.0) (int_lt b.1 a.0) h) [ inl t ↦ inl (int_lt_yes a.1 b.0 t) | inr t ↦ inr (int_lt_yes b.1 a.0 t) ]

yes_apart : (a b : Window) → (a.1 <ℤ b.0) ⊎ (b.1 <ℤ a.0) → are_apart a b ≡ true
yes_apart a b (inl h) = or_left (int_lt a.1 b.0) (int_lt b.1 a.0) (yes_int_lt a.1 b.0 h)
yes_apart a b (inr h) = or_right (int_lt a.1 b.0) (int_lt b.1 a.0) (yes_int_lt b.1 a.0 h)

pub equal : Abstracts in_window in_window may_be int_eq eq_of
equal = decides int_eq are_one are_apart (record {
  yes = λ a b x y l m h. let t = one_yes a b h in yes_eq x y (omega (arith, ints));
  no = λ a b x y l m h. eq_not x y (elim (apart_yes a b h) as (λ _. (x <ℤ y) ⊎ (y <ℤ x)) [ inl t ↦ inl (omega (arith, ints)) | inr t ↦ inr (omega (arith, ints)) ]);
  stays = λ a c b d i j h. let t = one_yes c d h in yes_one a b (omega (arith, ints)) (omega (arith, ints)) (omega (arith, ints));
  falls = λ a c b d i j h. yes_apart a b (elim (apart_yes c d h) as (λ _. (a.1 <ℤ b.0) ⊎ (b.1 <ℤ a.0)) [ inl t ↦ inl (omega (arith, ints)) | inr t ↦ inr (omega (arith, ints)) ]);
  at = λ x y. rw (yes_eq x x refl, yes_eq y y refl) refl;
  off = λ x y. apart_is_not_eq x y;
})
