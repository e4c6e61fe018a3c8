-- Abstract values: each stands for the values that it allows.
use Rattle.std.specs.Prelude.{◌≡◌, ◌↔◌, Bool, true, Option, Some}

-- a allows something, and nothing that b does not allow
pub record Finer {A X : Type 0} (allows : A → X → Bool) (a b : A) : Type 0 where
  pub witness : X
  pub allowed : allows a witness ≡ true
  pub within : (x : X) → allows a x ≡ true → allows b x ≡ true

-- a allows x and no other value
pub record Only {A X : Type 0} (allows : A → X → Bool) (x : X) (a : A) : Type 0 where
  pub allowed : allows a x ≡ true
  pub alone : (y : X) → allows a y ≡ true → y ≡ x

-- g does to two abstract values what f does to the values that they allow
pub record Abstracts {A X B Y C Z : Type 0} (p : A → X → Bool) (q : B → Y → Bool) (r : C → Z → Bool) (f : X → Y → Z) (g : A → B → C) : Type 0 where
  pub sound : (a : A) (b : B) (x : X) (y : Y) → p a x ≡ true → q b y ≡ true → r (g a b) (f x y) ≡ true
  pub monotone : (a c : A) (b d : B) → Finer p a c → Finer q b d → Finer r (g a b) (g c d)
  pub exact : (a : A) (b : B) (x : X) (y : Y) → Only p x a → Only q y b → Only r (f x y) (g a b)

-- the same of one abstract value
pub record AbstractsOne {A X C Z : Type 0} (p : A → X → Bool) (r : C → Z → Bool) (f : X → Z) (g : A → C) : Type 0 where
  pub sound : (a : A) (x : X) → p a x ≡ true → r (g a) (f x) ≡ true
  pub monotone : (a c : A) → Finer p a c → Finer r (g a) (g c)
  pub exact : (a : A) (x : X) → Only p x a → Only r (f x) (g a)

-- g is the least abstract value that allows what either of the two allows
pub record IsLeastRound {A X : Type 0} (allows : A → X → Bool) (g : A → A → A) : Type 0 where
  pub first : (a b : A) (x : X) → allows a x ≡ true → allows (g a b) x ≡ true
  pub second : (a b : A) (x : X) → allows b x ≡ true → allows (g a b) x ≡ true
  pub least : (a b c : A) → Finer allows a c → Finer allows b c → Finer allows (g a b) c
  pub monotone : (a b c d : A) → Finer allows a c → Finer allows b d → Finer allows (g a b) (g c d)

-- the order is that of what is allowed, and the single value is the one that is allowed
pub record IsOperand {A X : Type 0} (Valid : A → Type 0) (allows : A → X → Bool) (leq : A → A → Bool) (single : A → Option X) : Type 0 where
  pub solid : (a : A) → Valid a → (x : X) × (allows a x ≡ true)
  pub order : (a b : A) → Valid a → Valid b → (leq a b ≡ true) ↔ ((x : X) → allows b x ≡ true → allows a x ≡ true)
  pub only : (a : A) (x : X) → Valid a → (single a ≡ Some x) ↔ Only allows x a
