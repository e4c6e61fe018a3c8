-- What binders stand before.
use Rattle.std.proofs.Common.{◌≡◌, refl, ℕ, List, [], ◌∷◌, length, true, false, ◌==◌, arith}
use Rattle.std.proofs.lemmas.Bool.Decides.{nat_tests}
use Rattle.kts_spec.specs.declared.tree.Formula.{Formula}
use Rattle.kts_check.specs.Faults.{fail}
use Rattle.kts_check.specs.Trees.{binder_body, only}
use Rattle.kts_check.specs.declared.fault.SpecKind.TheVariants.{WrongCount}

pub body_none : (at : ℕ) (is : List ℕ) (ps : List Formula) → true ≡ (length is == 0) → binder_body at is ps ≡ fail WrongCount at
unfolding binder_body
body_none at [] ps h = refl
body_none at (i ∷ is) ps h = absurd (grind (arith, nat_tests))

pub body_only : (at : ℕ) (is : List ℕ) (ps : List Formula) → false ≡ (length is == 0) → binder_body at is ps ≡ only at ps
unfolding binder_body
body_only at [] ps h = absurd cc
body_only at (i ∷ is) ps h = refl
