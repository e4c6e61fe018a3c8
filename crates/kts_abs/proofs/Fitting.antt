-- What making a window answers.
use Rattle.std.proofs.Common.{◌≡◌, refl, sym, ◌∙◌, ap, ◌↔◌, Bool, true, false, Option, Some, None, IsSome, IfSome, is_some, if◌then◌else◌, ℤ, ◌≤ℤ◌, arith, ◌^◌, ◌<◌}
use Rattle.std.proofs.lemmas.Int.{ints, clamps, to_z-of_z}
use mir.Syntax.{w128}
use mir.Val.{to_z, of_z}
use lib.Signed.{mag}
use Rattle.std.proofs.lemmas.Bool.{false_from_ne_true}
use Rattle.kts_semi.specs.Ends.{InEnds, in_ends}
use Rattle.kts_semi.specs.EndLaws.{in_ends-InEnds, InEnds-in_ends}
use Rattle.kts_abs.proofs.WindowEnds.{pair_is}
use Rattle.kts_abs.specs.Windows.{Window, fitted, least_of_four, greatest_of_four}

-- a window was made of these ends, where there is one
made_is : (o : Option Window) (w : Window) → w.0 ≤ℤ w.1 → (IsSome o ↔ InEnds w) → IfSome o (λ v. v ≡ w) → o ≡ fitted w
made_is (Some v) w h s e = rw (in_ends-InEnds w (s.0 refl)) (ap (λ z. Some z) e)
made_is None w h s e = rw (false_from_ne_true (in_ends w) (λ t. cc (s.1 (InEnds-in_ends w t h)))) refl

-- a window was made of ends that are those of one
made_some : (o : Option Window) (w : Window) → InEnds w → (IsSome o ↔ InEnds w) → IfSome o (λ v. v ≡ w) → o ≡ Some w
made_some (Some v) w i s e = ap (λ z. Some z) e
made_some None w i s e = cc (s.1 i)

-- the ends were computed in another way
pub fitted_from : (o : Option Window) (v w : Window) → (IsSome o ↔ InEnds v) → IfSome o (λ z. z ≡ v) → v.0 ≡ w.0 → v.1 ≡ w.1 → w.0 ≤ℤ w.1 → o ≡ fitted w
fitted_from o v w s e l h i = made_is o w i (rw (pair_is v w l h) at s) (rw (pair_is v w l h) at e)

-- the same where there must be one
pub made_from : (o : Option Window) (v w : Window) → (IsSome o ↔ InEnds v) → IfSome o (λ z. z ≡ v) → v.0 ≡ w.0 → v.1 ≡ w.1 → InEnds w → o ≡ Some w
made_from o v w s e l h i = made_some o w i (rw (pair_is v w l h) at s) (rw (pair_is v w l h) at e)

-- a number of 128 bits that was kept as its bits
pub kept : (z : ℤ) → mag z < 2 ^ 127 → to_z w128 (of_z w128 z) ≡ z
kept z h = to_z-of_z w128 z (record { sfits = h })

-- the least is not above the greatest
pub least_le : (p q r s : ℤ) → least_of_four p q r s ≤ℤ greatest_of_four p q r s
unfolding least_of_four greatest_of_four
least_le p q r s = omega (arith, ints, clamps)

is_some_if : {X : Type 0} (t : Bool) (x : X) → is_some (if t then Some x else None) ≡ t
is_some_if true x = refl
is_some_if false x = refl

-- a pair of ends is kept exactly where it is a window
pub fitted_some : (w : Window) → w.0 ≤ℤ w.1 → (IsSome (fitted w) ↔ InEnds w)
fitted_some w h = (λ s. InEnds-in_ends w (sym (is_some_if (in_ends w) w) ∙ s) h, λ i. is_some_if (in_ends w) w ∙ in_ends-InEnds w i)

same_if : {X : Type 0} (t : Bool) (x : X) → IfSome (if t then Some x else None) (λ y. y ≡ x)
same_if true x = refl
same_if false x = tt

-- it is kept as it is
pub fitted_same : (w : Window) → IfSome (fitted w) (λ v. v ≡ w)
fitted_same w = same_if (in_ends w) w
