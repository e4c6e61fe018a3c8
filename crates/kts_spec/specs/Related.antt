-- Two domains whose operations keep two relations.
use Rattle.std.specs.Prelude.{ℕ, List, [], ◌∷◌, ◌++◌, map, ℤ}
use Rattle.kts_spec.specs.declared.tree.Term.{Term}
use Rattle.kts_spec.specs.Domain.{Domain, value, at_each}
use Rattle.kts_spec.specs.Reads.{Access}

-- lists of one length whose items are related in order
abbrev pub Pairs : {X Y : Type 0} → (X → Y → Type 0) → List X → List Y → Type 0
Pairs R [] [] = Unit {0}
Pairs R [] (y ∷ ys) = ⊥
Pairs R (x ∷ xs) [] = ⊥
Pairs R (x ∷ xs) (y ∷ ys) = R x y × Pairs R xs ys

-- each item has the property
abbrev pub AllOf : {X : Type 0} → (X → Type 0) → List X → Type 0
AllOf P [] = Unit {0}
AllOf P (x ∷ xs) = P x × AllOf P xs

-- each operation keeps the relations R on values and S on truth values;
-- an access to a choice keeps them where it is okay, at variables that are in the scope
pub record Related {T U B C : Type 0} (size : ℕ → ℕ) (d : Domain T B) (e : Domain U C) (R : T → U → Type 0) (S : B → C → Type 0) (Scope : List ℕ → Type 0) (Okay : Access → Type 0) : Type 0 where
  pub number : (n : ℤ) → R (d.number n) (e.number n)
  pub member : (m : ℕ) → R (d.member m) (e.member m)
  pub given : (f : ℕ) (xs : List T) (ys : List U) → Pairs R xs ys → R (d.given f xs) (e.given f ys)
  pub choice : (x : ℕ) (args : List Term) (vars : List ℕ) → Scope vars → Okay (x, args)
      → Pairs R (at_each vars (map (value size d) args)) (at_each vars (map (value size e) args))
      → R (d.choice x (at_each vars (map (value size d) args))) (e.choice x (at_each vars (map (value size e) args)))
  pub deeper : (vars : List ℕ) (m : ℕ) → Scope vars → Scope (vars ++ m ∷ [])
  pub add : (a b : T) (v w : U) → R a v → R b w → R (d.add a b) (e.add v w)
  pub sub : (a b : T) (v w : U) → R a v → R b w → R (d.sub a b) (e.sub v w)
  pub mul : (a b : T) (v w : U) → R a v → R b w → R (d.mul a b) (e.mul v w)
  pub least : (a b : T) (v w : U) → R a v → R b w → R (d.least a b) (e.least v w)
  pub greatest : (a b : T) (v w : U) → R a v → R b w → R (d.greatest a b) (e.greatest v w)
  pub gate : (p : B) (b : T) (q : C) (w : U) → S p q → R b w → R (d.gate p b) (e.gate q w)
  pub le : (a b : T) (v w : U) → R a v → R b w → S (d.le a b) (e.le v w)
  pub eq : (a b : T) (v w : U) → R a v → R b w → S (d.eq a b) (e.eq v w)
  pub same : (a b : T) (v w : U) → R a v → R b w → S (d.same a b) (e.same v w)
  pub yes : S d.yes e.yes
  pub no : S d.no e.no
  pub both : (p q : B) (r s : C) → S p r → S q s → S (d.both p q) (e.both r s)
  pub either : (p q : B) (r s : C) → S p r → S q s → S (d.either p q) (e.either r s)
  pub neg : (p : B) (r : C) → S p r → S (d.neg p) (e.neg r)
