-- The order of truth values is that of the truth values that they allow.
use Rattle.std.proofs.Common.{◌≡◌, refl, Bool, true, false, Some}
use Rattle.std.specs.Prelude.{⊤}
use Rattle.kts_abs.specs.Abstraction.{Only, IsOperand}
use Rattle.kts_abs.specs.declared.truth.Tri.{Tri}
use Rattle.kts_abs.specs.declared.truth.Tri.TheVariants.{F, U, T}
use Rattle.kts_abs.specs.Truth.{may_be, surer, known}

-- a truth value that may be the one that is meant
pub some_value : (p : Tri) → (b : Bool) × (may_be p b ≡ true)
some_value F = (false, refl)
some_value U = (true, refl)
some_value T = (true, refl)

-- what the surer value may be, the other may be
pub order_holds : (p q : Tri) → surer p q ≡ true → (b : Bool) → may_be q b ≡ true → may_be p b ≡ true
order_holds F F h b k = k
order_holds F U h b k = cc
order_holds F T h b k = cc
order_holds U q h b k = refl
order_holds T F h b k = cc
order_holds T U h b k = cc
order_holds T T h b k = k

-- a value that allows no less is surer
pub order_comes : (p q : Tri) → ((b : Bool) → may_be q b ≡ true → may_be p b ≡ true) → surer p q ≡ true
order_comes F F f = refl
order_comes F U f = f true refl
order_comes F T f = f true refl
order_comes U q f = refl
order_comes T F f = f false refl
order_comes T U f = f false refl
order_comes T T f = refl

-- a known truth value is the only one
known_holds : (p : Tri) (b : Bool) → known p ≡ Some b → Only may_be b p
known_holds F true e = cc
known_holds F false e = record { allowed = refl; alone = elim [ true ↦ λ h. cc | false ↦ λ h. refl ] }
known_holds U b e = cc
known_holds T true e = record { allowed = refl; alone = elim [ true ↦ λ h. refl | false ↦ λ h. cc ] }
known_holds T false e = cc

-- the only truth value is known
known_comes : (p : Tri) (b : Bool) → Only may_be b p → known p ≡ Some b
known_comes F true o = let h = o.allowed in cc
known_comes F false o = refl
known_comes U true o = let h = o.alone false refl in cc
known_comes U false o = let h = o.alone true refl in cc
known_comes T true o = refl
known_comes T false o = let h = o.allowed in cc

pub truth_values : IsOperand (λ (_ : Tri). ⊤) may_be surer known
truth_values = record {
  solid = λ p v. some_value p;
  order = λ p q u v. (order_holds p q, order_comes p q);
  only = λ p b v. (known_holds p b, known_comes p b);
}
