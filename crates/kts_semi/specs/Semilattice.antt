-- Semilattices whose values rise only finitely often.
use Rattle.std.specs.Prelude.{◌≡◌, ◌≢◌, ℕ, ◌<◌, ◌≤◌, Bool, true, Option, Some, None}

-- c is above a and b, and no other value above both is below it
pub record IsLeast {A : Type 0} (Valid : A → Type 0) (le : A → A → Bool) (a b c : A) : Type 0 where
  pub valid : Valid c
  pub left : le a c ≡ true
  pub right : le b c ≡ true
  pub least : (d : A) → Valid d → le a d ≡ true → le b d ≡ true → le c d ≡ true

-- an order; the least upper bound, none exactly where there is no upper bound; a size that a strict rise lowers
pub record IsSemi {A : Type 0} (Valid : A → Type 0) (le : A → A → Bool) (joined : A → A → Option A) (extent : A → ℕ) : Type 0 where
  pub reflexive : (a : A) → Valid a → le a a ≡ true
  pub transitive : (a b c : A) → Valid a → Valid b → Valid c → le a b ≡ true → le b c ≡ true → le a c ≡ true
  pub antisymmetric : (a b : A) → Valid a → Valid b → le a b ≡ true → le b a ≡ true → a ≡ b
  pub some : (a b c : A) → Valid a → Valid b → joined a b ≡ Some c → IsLeast Valid le a b c
  pub none : (a b c : A) → Valid a → Valid b → joined a b ≡ None → Valid c → le a c ≡ true → le b c ≡ true → ⊥
  pub positive : (a : A) → Valid a → 1 ≤ extent a
  pub falls : (a b : A) → Valid a → Valid b → le a b ≡ true → a ≢ b → extent b < extent a
