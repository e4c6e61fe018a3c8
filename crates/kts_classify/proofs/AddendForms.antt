-- The addends of each variant of term, with a sign, as one equation.
use Rattle.std.proofs.Common.{◌≡◌, ◌<◌, ◌≤◌, ◌-◌, length, take, drop, get_or, arith, refl, sym, ap, ◌∙◌, subst, List, [], ◌∷◌, ◌++◌, map, Bool, true, false, not}
use Rattle.std.specs.Prelude.{flat_map}
use Rattle.std.proofs.lemmas.List.{map-append}
use Rattle.kts_spec.specs.declared.tree.Term.{Term, roll-Term}
use Rattle.kts_spec.specs.declared.tree.Term.TheVariants as term
use Rattle.kts_spec.specs.declared.tree.Formula.{Formula}
use Rattle.kts_spec.specs.declared.tree.Formula.TheOpen as one
use Rattle.kts_spec.specs.declared.tree.Formula.TheFolds.{ind-Term, map-Term}
use Rattle.kts_spec.specs.Addends.{Sign, Plus, Minus, Addend, alone, opposite, minus, addends}
use Rattle.kts_spec.proofs.AddendEquations.{addends-Number, addends-Var, addends-Given, addends-Choice, addends-Add, addends-Sub, addends-Mul, addends-Min, addends-Max, addends-Sum}
use Rattle.kts_classify.specs.SignedTerms.{addend_of, signed_addends}

twice : (a : Addend) → opposite (opposite a) ≡ a
twice a = same a.sign a.term
  where
    same : (s : Sign) (t : Term) → opposite (opposite (record { sign = s; term = t })) ≡ record { sign = s; term = t }
    same Plus t = refl
    same Minus t = refl

opposite_twice : (xs : List Addend) → map opposite (map opposite xs) ≡ xs
opposite_twice [] = refl
opposite_twice (a ∷ xs) = ap (λ b. b ∷ map opposite (map opposite xs)) (twice a) ∙ ap (λ l. a ∷ l) (opposite_twice xs)

opposite_each : {X : Type 0} (f : X → List Addend) (xs : List X) → map opposite (flat_map f xs) ≡ flat_map (λ x. map opposite (f x)) xs
opposite_each f [] = refl
opposite_each f (x ∷ xs) = map-append opposite (f x) (flat_map f xs) ∙ ap (λ l. map opposite (f x) ++ l) (opposite_each f xs)

back_each : (ts : List Term) → flat_map (λ t. map opposite (map opposite (addends t))) ts ≡ flat_map addends ts
back_each [] = refl
back_each (t ∷ ts) = ap (λ l. l ++ flat_map (λ t. map opposite (map opposite (addends t))) ts) (opposite_twice (addends t)) ∙ ap (λ l. addends t ++ l) (back_each ts)

others_map : (ts : List Term) → flat_map (map opposite) (map addends ts) ≡ flat_map (λ t. map opposite (addends t)) ts
others_map [] = refl
others_map (t ∷ ts) = ap (λ l. map opposite (addends t) ++ l) (others_map ts)

pub signed-Add : (m : Bool) (parts : List Term) → signed_addends m (term.Add parts) ≡ flat_map (signed_addends m) parts
signed-Add true parts = ap (map opposite) (addends-Add parts) ∙ opposite_each addends parts
signed-Add false parts = addends-Add parts

pub signed-Sub-none : (m : Bool) → signed_addends m (term.Sub []) ≡ []
signed-Sub-none true = ap (map opposite) (addends-Sub [])
signed-Sub-none false = addends-Sub []

pub signed-Sub : (m : Bool) (first : Term) (others : List Term) → signed_addends m (term.Sub (first ∷ others)) ≡ signed_addends m first ++ flat_map (signed_addends (not m)) others
signed-Sub true first others =
    ap (map opposite) (addends-Sub (first ∷ others)) ∙ map-append opposite (addends first) (flat_map (map opposite) (map addends others))
    ∙ ap (λ l. map opposite (addends first) ++ map opposite l) (others_map others)
    ∙ ap (λ l. map opposite (addends first) ++ l) (opposite_each (λ t. map opposite (addends t)) others ∙ back_each others)
signed-Sub false first others = addends-Sub (first ∷ others) ∙ ap (λ l. addends first ++ l) (others_map others)

signed_alone : (m : Bool) (t : Term) → addends t ≡ alone t → signed_addends m t ≡ addend_of m t ∷ []
signed_alone true t e = ap (map opposite) e
signed_alone false t e = e

-- a term that is neither a sum nor a difference
pub record IsAddend (t : Term) : Type 0 where
  pub no_sum : (parts : List Term) → t ≡ term.Add parts → ⊥
  pub no_difference : (parts : List Term) → t ≡ term.Sub parts → ⊥

addend_step : (x : one.Term-F Formula Term) → IsAddend (roll-Term x) → addends (roll-Term x) ≡ alone (roll-Term x)
addend_step (one.Number n) h = subst (λ t. addends t ≡ alone t) (sym (term.rolls-Number n)) (addends-Number n)
addend_step (one.Var k) h = subst (λ t. addends t ≡ alone t) (sym (term.rolls-Var k)) (addends-Var k)
addend_step (one.Given f args) h = subst (λ t. addends t ≡ alone t) (sym (term.rolls-Given f args)) (addends-Given f args)
addend_step (one.Choice x args) h = subst (λ t. addends t ≡ alone t) (sym (term.rolls-Choice x args)) (addends-Choice x args)
addend_step (one.Add parts) h = absurd (h.no_sum parts (term.rolls-Add parts))
addend_step (one.Sub parts) h = absurd (h.no_difference parts (term.rolls-Sub parts))
addend_step (one.Mul parts) h = subst (λ t. addends t ≡ alone t) (sym (term.rolls-Mul parts)) (addends-Mul parts)
addend_step (one.Min parts) h = subst (λ t. addends t ≡ alone t) (sym (term.rolls-Min parts)) (addends-Min parts)
addend_step (one.Max parts) h = subst (λ t. addends t ≡ alone t) (sym (term.rolls-Max parts)) (addends-Max parts)
addend_step (one.Sum i p a) h = subst (λ t. addends t ≡ alone t) (sym (term.rolls-Sum i p a)) (addends-Sum i p a)

-- is one addend
pub signed_one : (m : Bool) (t : Term) → IsAddend t → signed_addends m t ≡ addend_of m t ∷ []
signed_one m t h = signed_alone m t (ind-Term (λ _. Unit {0}) (λ t. IsAddend t → addends t ≡ alone t) (λ x y e. tt) (λ x y e. subst (λ z. IsAddend (roll-Term z) → addends (roll-Term z) ≡ alone (roll-Term z)) e (addend_step (map-Term _ _ Formula Term (λ p. p.0) (λ p. p.0) y))) t h)

-- the addends of a difference of two
pub minus_is : (a b : Term) → minus a b ≡ signed_addends false a ++ signed_addends true b
minus_is a b = ap (λ l. addends a ++ l) (nil (map opposite (addends b)))
  where
    nil : {X : Type 0} (xs : List X) → xs ++ [] ≡ xs
    nil [] = refl
    nil (x ∷ xs) = ap (λ l. x ∷ l) (nil xs)

pub no_items : {X : Type 0} (xs : List X) → length xs < 1 → xs ≡ []
no_items [] h = refl
no_items (x ∷ xs) h = absurd (omega arith)

take_all : {X : Type 0} (xs : List X) → take (length xs) xs ≡ xs
take_all [] = refl
take_all (x ∷ xs) = ap (λ l. x ∷ l) (take_all xs)

-- a list that is not empty
pub split_first : {X : Type 0} (xs : List X) (x : X) → 1 ≤ length xs → x ≡ get_or xs 0 x → xs ≡ x ∷ take (length xs - 1) (drop 1 xs)
split_first [] x h e = absurd (omega arith)
split_first (y ∷ xs) x h e =
    let n : length xs ≡ length (y ∷ xs) - 1 = omega arith in
    ap (λ z. z ∷ xs) (sym e) ∙ ap (λ l. x ∷ l) (sym (take_all xs) ∙ ap (λ k. take k xs) n)
