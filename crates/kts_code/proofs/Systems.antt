-- Runs of any system: how they compose.
use Rattle.std.proofs.Common.{◌≡◌, ℕ, zero, suc, ◌+◌, ◌-◌, ◌<◌, ◌≤◌, ⊎_elim, refl, sym, ap, ◌∙◌, subst, arith}
use Rattle.std.proofs.lemmas.Bool.{cases_lt}
use Rattle.kts_code.specs.Machine.{steps}
use Rattle.kts_code.specs.Reaches.{Reaches, Is, Here}

-- the picks of the steps after the first m
abbrev pub past : ℕ → (ℕ → ℕ) → ℕ → ℕ
past m picks n = picks (m + n)

-- m steps and then n are m + n
pub steps-plus : {X : Type 0} (f : ℕ → X → X) (picks : ℕ → ℕ) (m n : ℕ) (x : X) → steps f picks (m + n) x ≡ steps f (past m picks) n (steps f picks m x)
steps-plus f picks m zero x = let e : m + 0 ≡ m = omega arith in ap (λ k. steps f picks k x) e
steps-plus f picks m (suc n) x =
    let e : m + suc n ≡ suc (m + n) = omega arith in
    ap (λ k. steps f picks k x) e ∙ ap (f (picks (m + n))) (steps-plus f picks m n x)

-- one step more
pub steps-suc : {X : Type 0} (f : ℕ → X → X) (picks : ℕ → ℕ) (n : ℕ) (x : X) → steps f picks (n + 1) x ≡ f (picks n) (steps f picks n x)
steps-suc f picks n x = let e : n + 1 ≡ suc n = omega arith in ap (λ k. steps f picks k x) e

-- the same picks lead to the same state
pub steps_agree : {X : Type 0} (f : ℕ → X → X) (p q : ℕ → ℕ) (n : ℕ) (x : X) → ((k : ℕ) → k < n → p k ≡ q k) → steps f p n x ≡ steps f q n x
steps_agree f p q zero x same = refl
steps_agree f p q (suc n) x same =
    ap (λ k. f k (steps f p n x)) (same n (omega arith)) ∙ ap (f (q n)) (steps_agree f p q n x (λ k less. same k (omega arith)))

-- what holds now
pub at_once : {X : Type 0} {f : ℕ → X → X} {S : X → Type 0} {x : X} {P : X → Type 0} → P x → Reaches f S x 0 P
at_once h = record { ends = λ picks. (0, omega arith, λ k less. absurd (omega arith), h) }

pub none : {X : Type 0} {f : ℕ → X → X} {S : X → Type 0} {x : X} → Reaches f S x 0 (Is x)
none = at_once Here

-- one run and then, from each state in which it may end, another
pub and_then : {X : Type 0} {f : ℕ → X → X} {S : X → Type 0} {x : X} {m n : ℕ} {P Q : X → Type 0} → Reaches f S x m P → ((y : X) → P y → Reaches f S y n Q)
    → Reaches f S x (m + n) Q
and_then {f = f} {S = S} {x = x} {Q = Q} a b =
    record {
      ends = λ picks.
          let u = a.ends picks in
          let v = (b (steps f picks u.0 x) u.3).ends (past u.0 picks) in (
            u.0 + v.0,
            omega (arith, u.1, v.1),
            λ k less. ⊎_elim
                (λ (lt : k < u.0). u.2 k lt)
                (λ (le : u.0 ≤ k).
                let e : k ≡ u.0 + (k - u.0) = omega arith in
                subst S (sym (ap (λ i. steps f picks i x) e ∙ steps-plus f picks u.0 (k - u.0) x)) (v.2 (k - u.0) (omega arith)))
                (cases_lt k u.0),
            subst Q (sym (steps-plus f picks u.0 v.0 x)) v.3,
          );
    }

-- the same where the first run has one end
pub then : {X : Type 0} {f : ℕ → X → X} {S : X → Type 0} {x y : X} {m n : ℕ} {P : X → Type 0} → Reaches f S x m (Is y) → Reaches f S y n P
    → Reaches f S x (m + n) P
then {X} {f} {S} {x} {y} {m} {n} {P} a b = and_then a moved
  where
    moved : (z : X) → Is y z → Reaches f S z n P
    moved z Here = b

-- the same run with more steps
pub in_more : {X : Type 0} {f : ℕ → X → X} {S : X → Type 0} {x : X} {m n : ℕ} {P : X → Type 0} → m ≤ n → Reaches f S x m P → Reaches f S x n P
in_more le a = record { ends = λ picks. let u = a.ends picks in (u.0, omega (arith, u.1), u.2, u.3) }

-- its length under another name
pub steps_are : {X : Type 0} {f : ℕ → X → X} {S : X → Type 0} {x : X} {m n : ℕ} {P : X → Type 0} → m ≡ n → Reaches f S x m P → Reaches f S x n P
steps_are {f = f} {S = S} {x = x} {P = P} e a = subst (λ k. Reaches f S x k P) e a

-- its end under another name
pub ends_as : {X : Type 0} {f : ℕ → X → X} {S : X → Type 0} {x y z : X} {n : ℕ} → y ≡ z → Reaches f S x n (Is y) → Reaches f S x n (Is z)
ends_as {f = f} {S = S} {x = x} {n = n} e a = subst (λ t. Reaches f S x n (Is t)) e a

-- less known of the states on the way
pub less_known : {X : Type 0} {f : ℕ → X → X} {S T : X → Type 0} {x : X} {n : ℕ} {P : X → Type 0} → ((y : X) → S y → T y) → Reaches f S x n P
    → Reaches f T x n P
less_known {f = f} {x = x} g a = record { ends = λ picks. let u = a.ends picks in (u.0, u.1, λ k less. g (steps f picks k x) (u.2 k less), u.3) }

-- one step and then, from each state to which it may lead, a run
pub stepped : {X : Type 0} {f : ℕ → X → X} {S : X → Type 0} {x : X} {n : ℕ} {P : X → Type 0} → S x → ((pick : ℕ) → Reaches f S (f pick x) n P)
    → Reaches f S x (1 + n) P
stepped {X} {f} {S} {x} {n} {P} s g =
    let one : Reaches f S x 1 (λ y. (pick : ℕ) × (y ≡ f pick x)) = record { ends = λ picks. (1, omega arith, λ k less. first picks k (omega arith), (picks 0, refl)) } in
    and_then one (λ y h. subst (λ z. Reaches f S z n P) (sym h.1) (g h.0))
  where
    first : (picks : ℕ → ℕ) (k : ℕ) → k ≤ 0 → S (steps f picks k x)
    first picks zero le = s
    first picks (suc k) le = absurd (omega arith)

-- one step that leads to one state
pub one_step : {X : Type 0} {f : ℕ → X → X} {S : X → Type 0} {x y : X} → S x → ((pick : ℕ) → f pick x ≡ y) → Reaches f S x 1 (Is y)
one_step {X} {f} {S} {x} {y} s e = steps_are (omega arith) (stepped s (λ pick. ends_as (e pick) none))
