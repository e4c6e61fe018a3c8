-- Hulls of windows, and addends that count only where a truth value is true.
use Rattle.std.proofs.Common.{◌≡◌, refl, ap, Bool, true, false, ℤ, pos, arith}
use Rattle.std.proofs.lemmas.Int.{ints, clamps}
use Rattle.kts_abs.specs.declared.truth.Tri.{Tri}
use Rattle.kts_abs.specs.declared.truth.Tri.TheVariants.{F, U, T}
use Rattle.kts_abs.specs.Abstraction.{Abstracts, IsLeastRound}
use Rattle.kts_abs.specs.Truth.{may_be, surer, certain}
use Rattle.kts_abs.specs.Windows.{Window, in_window, hull_of, kept_where, gated}
use Rattle.kts_abs.specs.WindowLaws.{Lies, lies, lying, only_at}
use Rattle.kts_abs.proofs.WindowEnds.{Inside, inside_from, finer_from, only_is}
use Rattle.kts_abs.proofs.Kleene.{finer_surer, only_certain}

-- hulls of finer windows are finer
hull_within : (a b c d : Window) → Inside a c → Inside b d → Inside (hull_of a b) (hull_of c d)
hull_within a b c d i j = record { solid = omega (arith, ints, clamps); low = omega (arith, ints, clamps); high = omega (arith, ints, clamps) }

-- what has both has their hull
hull_least : (a b c : Window) → Inside a c → Inside b c → Inside (hull_of a b) c
hull_least a b c i j = record { solid = omega (arith, ints, clamps); low = omega (arith, ints, clamps); high = omega (arith, ints, clamps) }

pub hulls : IsLeastRound in_window hull_of
hulls = record {
  first = λ a b x h. let l = lies a x h in lying (hull_of a b) x (record { low = omega (arith, ints, clamps); high = omega (arith, ints, clamps) });
  second = λ a b x h. let l = lies b x h in lying (hull_of a b) x (record { low = omega (arith, ints, clamps); high = omega (arith, ints, clamps) });
  least = λ a b c h k. finer_from (hull_of a b) c (hull_least a b c (inside_from a c h) (inside_from b c k));
  monotone = λ a b c d h k. finer_from (hull_of a b) (hull_of c d) (hull_within a b c d (inside_from a c h) (inside_from b d k));
}

-- an addend that counts or not is allowed
gated_sound : (p : Tri) (w : Window) (b : Bool) (n : ℤ) → may_be p b ≡ true → Lies w n → Lies (gated p w) (kept_where b n)
gated_sound F w true n h l = cc
gated_sound F w false n h l = record { low = omega (arith, ints); high = omega (arith, ints) }
gated_sound U w true n h l = record { low = omega (arith, ints, clamps); high = omega (arith, ints, clamps) }
gated_sound U w false n h l = record { low = omega (arith, ints, clamps); high = omega (arith, ints, clamps) }
gated_sound T w true n h l = l
gated_sound T w false n h l = cc

-- a surer condition gives a finer addend
gated_within : (p q : Tri) (v w : Window) → surer q p ≡ true → Inside v w → Inside (gated p v) (gated q w)
gated_within F F v w h i = record { solid = omega (arith, ints); low = omega (arith, ints); high = omega (arith, ints) }
gated_within F U v w h i = record { solid = omega (arith, ints); low = omega (arith, ints, clamps); high = omega (arith, ints, clamps) }
gated_within F T v w h i = cc
gated_within U F v w h i = cc
gated_within U U v w h i = hull_within v (pos 0, pos 0) w (pos 0, pos 0) i (record { solid = omega (arith, ints); low = omega (arith, ints); high = omega (arith, ints) })
gated_within U T v w h i = cc
gated_within T F v w h i = cc
gated_within T U v w h i = record { solid = i.solid; low = omega (arith, ints, clamps); high = omega (arith, ints, clamps) }
gated_within T T v w h i = i

gated_exact : (b : Bool) (n : ℤ) → gated (certain b) (n, n) ≡ (kept_where b n, kept_where b n)
gated_exact true n = refl
gated_exact false n = refl

pub gates : Abstracts may_be in_window in_window kept_where gated
gates = record {
  sound = λ p w b n h k. lying (gated p w) (kept_where b n) (gated_sound p w b n h (lies w n k));
  monotone = λ p q v w h k. finer_from (gated p v) (gated q w) (gated_within p q v w (finer_surer p q h) (inside_from v w k));
  exact = λ p w b n h k.
      let e : gated p w ≡ (kept_where b n, kept_where b n) = rw (only_certain p b h, only_is w n k) (gated_exact b n) in
      only_at (gated p w) (kept_where b n) (ap (λ z. z.0) e) (ap (λ z. z.1) e);
}
