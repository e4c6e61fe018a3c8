-- The one item of a list, and its two items.
use Rattle.std.proofs.Common.{◌≡◌, refl, ap, ℕ, ◌∙◌, List, [], ◌∷◌, ◌++◌, length, get_or, Ok, None, arith}
use Rattle.std.proofs.lemmas.List.{length-append}
use Rattle.kts_check.specs.Faults.{fail}
use Rattle.kts_check.specs.Measures.{both_wholes, two_wholes}
use Rattle.kts_check.specs.Trees.{only, both}
use Rattle.kts_check.specs.declared.fault.SpecKind.TheVariants.{WrongCount}
use Rattle.kts_check.specs.declared.kind.Kind.{Kind}

module _ {A : Type 0} (at : ℕ) where
  pub only_last : (xs front : List A) (x : A) → xs ≡ front ++ x ∷ [] → length xs ≡ 1 → only at xs ≡ Ok x
  unfolding only
  only_last xs [] x e h = rw e refl
  only_last xs (y ∷ ys) x e h = let n = ap length e ∙ length-append (y ∷ ys) (x ∷ []) in absurd (omega arith)

  pub only_none : (xs : List A) → (length xs ≡ 1 → ⊥) → only at xs ≡ fail WrongCount at
  unfolding only
  only_none [] h = refl
  only_none (y ∷ []) h = absurd (h refl)
  only_none (y ∷ (z ∷ zs)) h = refl

  pub both_last : (xs more front : List A) (x y : A) → xs ≡ more ++ y ∷ [] → more ≡ front ++ x ∷ [] → length xs ≡ 2 → both at xs ≡ Ok (x, y)
  unfolding both
  both_last xs more [] x y e f h = rw (e, f) refl
  both_last xs more (z ∷ zs) x y e f h =
      let n = ap length e ∙ length-append more (y ∷ []) in let m = ap length f ∙ length-append (z ∷ zs) (x ∷ []) in absurd (omega arith)

  pub both_none : (xs : List A) → (length xs ≡ 2 → ⊥) → both at xs ≡ fail WrongCount at
  unfolding both
  both_none [] h = refl
  both_none (a ∷ []) h = refl
  both_none (a ∷ b ∷ []) h = absurd (h refl)
  both_none (a ∷ b ∷ (z ∷ zs)) h = refl

pub two_are : (ks : List Kind) (k l : Kind) → length ks ≡ 2 → both_wholes (get_or ks 0 k) (get_or ks 1 l) ≡ two_wholes ks
unfolding two_wholes
two_are [] k l h = absurd (omega arith)
two_are (a ∷ []) k l h = absurd (omega arith)
two_are (a ∷ b ∷ []) k l h = refl
two_are (a ∷ b ∷ (z ∷ zs)) k l h = absurd (omega arith)

pub two_none : (ks : List Kind) → (length ks ≡ 2 → ⊥) → None ≡ two_wholes ks
unfolding two_wholes
two_none [] h = refl
two_none (a ∷ []) h = refl
two_none (a ∷ b ∷ []) h = absurd (h refl)
two_none (a ∷ b ∷ (z ∷ zs)) h = refl
