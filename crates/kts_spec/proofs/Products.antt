-- Products of numbers that lie between ends.
use Rattle.std.proofs.Common.{◌≡◌, ◌∙◌, ap, subst, ℕ, zero, suc, ◌-◌, ◌+◌, ◌⊎◌, inl, inr, arith, ℤ, pos, negsuc, ◌+ℤ◌, ◌*ℤ◌, ◌≤ℤ◌}
use Rattle.std.proofs.Math.IntN.{+ℤ-suc_ℤ, suc_ℤ-*ℤ, +ℤ_idr, *ℤ_comm}
use Rattle.std.proofs.lemmas.Int.{ints, clamps}
use Rattle.std.specs.Int.Signed.{≤ℤ_refl}
use Rattle.std.specs.Int.{int_min, int_max}

-- a greater first factor gives a greater product, where the second is not negative
rises_by : (a k : ℤ) (n : ℕ) → pos 0 ≤ℤ k → (a *ℤ k) ≤ℤ ((a +ℤ pos n) *ℤ k)
rises_by a k zero h = rw (+ℤ_idr a) (≤ℤ_refl (a *ℤ k))
rises_by a k (suc n) h =
    let e : (a +ℤ pos (suc n)) *ℤ k ≡ (a +ℤ pos n) *ℤ k +ℤ k = ap (λ z. z *ℤ k) (+ℤ-suc_ℤ a (pos n)) ∙ suc_ℤ-*ℤ (a +ℤ pos n) k in
    rw e (omega (arith, ints, rises_by a k n h))

-- a lesser one, where the second is not positive
falls_by : (a k : ℤ) (n : ℕ) → k ≤ℤ pos 0 → ((a +ℤ pos n) *ℤ k) ≤ℤ (a *ℤ k)
falls_by a k zero h = rw (+ℤ_idr a) (≤ℤ_refl (a *ℤ k))
falls_by a k (suc n) h =
    let e : (a +ℤ pos (suc n)) *ℤ k ≡ (a +ℤ pos n) *ℤ k +ℤ k = ap (λ z. z *ℤ k) (+ℤ-suc_ℤ a (pos n)) ∙ suc_ℤ-*ℤ (a +ℤ pos n) k in
    rw e (omega (arith, ints, falls_by a k n h))

-- how far b is above a
above : (a b : ℤ) → a ≤ℤ b → (n : ℕ) × (a +ℤ pos n ≡ b)
above (pos m) (pos n) h = (n - m, omega (arith, ints))
above (pos m) (negsuc n) h = absurd (omega (arith, ints))
above (negsuc m) (pos n) h = (suc m + n, omega (arith, ints))
above (negsuc m) (negsuc n) h = (m - n, omega (arith, ints))

-- products in order, by the sign of the second factor
pub rises : (a b k : ℤ) → a ≤ℤ b → pos 0 ≤ℤ k → (a *ℤ k) ≤ℤ (b *ℤ k)
rises a b k h s = let n = above a b h in subst (λ z. (a *ℤ k) ≤ℤ (z *ℤ k)) n.1 (rises_by a k n.0 s)

pub falls : (a b k : ℤ) → a ≤ℤ b → k ≤ℤ pos 0 → (b *ℤ k) ≤ℤ (a *ℤ k)
falls a b k h s = let n = above a b h in subst (λ z. (z *ℤ k) ≤ℤ (a *ℤ k)) n.1 (falls_by a k n.0 s)

-- a number is not negative or not positive
signs : (k : ℤ) → (pos 0 ≤ℤ k) ⊎ (k ≤ℤ pos 0)
signs (pos n) = inl (omega (arith, ints))
signs (negsuc n) = inr (omega (arith, ints))

-- the number lies between the two, whichever is the greater
pub record Between (p q z : ℤ) : Type 0 where
  pub low : int_min p q ≤ℤ z
  pub high : z ≤ℤ int_max p q

-- a product lies between those of the ends
pub between : (a b x k : ℤ) → a ≤ℤ x → x ≤ℤ b → Between (a *ℤ k) (b *ℤ k) (x *ℤ k)
between a b x k l h =
    elim (signs k) as (λ _. Between (a *ℤ k) (b *ℤ k) (x *ℤ k)) [
      | inl s ↦ record { low = omega (arith, ints, clamps, rises a x k l s, rises x b k h s); high = omega (arith, ints, clamps, rises a x k l s, rises x b k h s) }
      | inr s ↦ record { low = omega (arith, ints, clamps, falls a x k l s, falls x b k h s); high = omega (arith, ints, clamps, falls a x k l s, falls x b k h s) }
    ]

-- the same with the factors the other way round
pub between' : (a b x k : ℤ) → a ≤ℤ x → x ≤ℤ b → Between (k *ℤ a) (k *ℤ b) (k *ℤ x)
between' a b x k l h = rw (*ℤ_comm k a, *ℤ_comm k b, *ℤ_comm k x) (between a b x k l h)
