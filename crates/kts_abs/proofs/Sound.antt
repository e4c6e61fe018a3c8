-- What a schedule gives is allowed in each space that holds it.
use Rattle.std.proofs.Common.{◌≡◌, refl, sym, ap, ◌∙◌, ⊎_elim, ℕ, List, [], ◌∷◌, ℤ, Bool, true, false, arith}
use Rattle.std.proofs.lemmas.Int.{ints}
use Rattle.std.proofs.lemmas.Bool.{and_parts, true≢false}
use Rattle.kts_spec.specs.declared.tree.Term.{Term}
use Rattle.kts_spec.specs.declared.tree.Formula.{Formula}
use Rattle.kts_spec.specs.Meaning.{value_on, truth_on}
use Rattle.kts_spec.specs.Related.{Pairs}
use Rattle.kts_spec.specs.Worlds.{World}
use Rattle.kts_abs.specs.InSpace.{value_in, truth_in}
use Rattle.kts_abs.specs.Soundness.{ValuesAreSound}
use Rattle.kts_abs.specs.Spaces.{holds, IsAbove}
use Rattle.kts_abs.specs.Truth.{may_be, certain}
use Rattle.kts_abs.specs.Values.{Abs, Win, Mem, has, allows, Refines, IsOne}
use Rattle.kts_abs.specs.WindowLaws.{lies, lying}
use Rattle.kts_abs.proofs.Exact.{value_exact, truth_exact}
use Rattle.kts_abs.proofs.WindowEnds.{finer_from}
use Rattle.kts_abs.proofs.Monotone.{value_monotone, truth_monotone}
use Rattle.kts_abs.proofs.Rising.{has_head, has_cases}

-- a cell with the one value
abbrev alone : Abs → ℤ → Abs
alone (Win w) n = Win (n, n)
alone (Mem ms) n = Mem (n ∷ [])

-- the space of one schedule, in the kinds of a space
abbrev pub space_of_one : List ℤ → List Abs → List Abs
space_of_one [] s = []
space_of_one (n ∷ ns) [] = []
space_of_one (n ∷ ns) (a ∷ s) = alone a n ∷ space_of_one ns s

-- one allowed value lies within the cell
alone_within : (a : Abs) (n : ℤ) → allows a n ≡ true → Refines (alone a n) a
alone_within (Win w) n h = let l = lies w n h in finer_from (n, n) w (record { solid = omega (arith, ints); low = l.low; high = l.high })
alone_within (Mem ms) n h = record {
  witness = n;
  allowed = has_head n [];
  within = λ m k. ⊎_elim (λ e. ap (has ms) e ∙ h) (λ z. absurd (true≢false (sym z))) (has_cases n [] m k);
}

alone_one : (a : Abs) (n : ℤ) → IsOne n (alone a n)
alone_one (Win w) n = refl
alone_one (Mem ms) n = refl

-- the space of a schedule is above each that holds it, and holds it alone
pub one_above : (s : List Abs) (ns : List ℤ) → holds s ns ≡ true → IsAbove s (space_of_one ns s)
one_above [] [] h = tt
one_above [] (n ∷ ns) h = absurd (true≢false (sym h))
one_above (a ∷ s) [] h = absurd (true≢false (sym h))
one_above (a ∷ s) (n ∷ ns) h = let p = and_parts (allows a n) (holds s ns) h in (alone_within a n p.0, one_above s ns p.1)

pub one_one : (s : List Abs) (ns : List ℤ) → holds s ns ≡ true → Pairs IsOne ns (space_of_one ns s)
one_one [] [] h = tt
one_one [] (n ∷ ns) h = absurd (true≢false (sym h))
one_one (a ∷ s) [] h = absurd (true≢false (sym h))
one_one (a ∷ s) (n ∷ ns) h = let p = and_parts (allows a n) (holds s ns) h in (alone_one a n, one_one s ns p.1)

-- what a value stands for alone is allowed by each that it lies within
pub allowed : (n : ℤ) (a b : Abs) → IsOne n a → Refines a b → allows b n ≡ true
allowed n (Win v) (Win w) h k = k.within n (lying v n (record { low = omega (arith, ints, ap (λ (p : ℤ × ℤ). p.0) h); high = omega (arith, ints, ap (λ (p : ℤ × ℤ). p.1) h) }))
allowed n (Win v) (Mem ns) h k = absurd k
allowed n (Mem ms) (Win w) h k = absurd k
allowed n (Mem ms) (Mem ns) h k = k.within n (ap (λ zs. has zs n) h ∙ has_head n [])

-- a truth value that is known may be meant
certain_allowed : (b : Bool) → may_be (certain b) b ≡ true
certain_allowed true = refl
certain_allowed false = refl

-- the value in the space of the schedule, which is above, is the value on it
pub value_sound : (w : World) (s : List Abs) (schedule : List ℤ) → holds s schedule ≡ true → (a : Term) (vars : List ℕ) → allows (value_in w s a vars) (value_on w schedule a vars) ≡ true
value_sound w s schedule h a vars =
    let one = space_of_one schedule s in
    allowed (value_on w schedule a vars) (value_in w one a vars) (value_in w s a vars)
    (value_exact w one schedule (one_one s schedule h) a vars) (value_monotone w s one (one_above s schedule h) a vars)

-- the same of truths
pub truth_sound : (w : World) (s : List Abs) (schedule : List ℤ) → holds s schedule ≡ true → (p : Formula) (vars : List ℕ) → may_be (truth_in w s p vars) (truth_on w schedule p vars) ≡ true
truth_sound w s schedule h p vars =
    let one = space_of_one schedule s in
    (truth_monotone w s one (one_above s schedule h) p vars).within (truth_on w schedule p vars)
    (ap (λ t. may_be t (truth_on w schedule p vars)) (truth_exact w one schedule (one_one s schedule h) p vars) ∙ certain_allowed (truth_on w schedule p vars))

pub is_sound : ValuesAreSound
is_sound = record { value = value_sound; truth = truth_sound }
