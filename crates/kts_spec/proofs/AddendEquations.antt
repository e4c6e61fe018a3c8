-- The addends of each variant of term, as one equation.
use Rattle.std.proofs.Common.{◌≡◌, refl, sym, ◌∙◌, ap, ℕ, List, [], ◌∷◌, ◌++◌, map, ℤ}
use Rattle.std.specs.Prelude.{flat_map}
use Rattle.kts_spec.specs.declared.tree.Term.{Term, roll-Term}
use Rattle.kts_spec.specs.declared.tree.Term.TheVariants as term
use Rattle.kts_spec.specs.declared.tree.Formula.{Formula}
use Rattle.kts_spec.specs.declared.tree.Formula.TheOpen as one
use Rattle.kts_spec.specs.Addends.{alone, difference, addends}
use Rattle.kts_spec.proofs.AddendRanges.{WithAddends, parts_back}
use Rattle.kts_spec.proofs.Rolls.{addends-roll}

each_addends : (ts : List Term) → map (λ (p : WithAddends). p.1) (map (λ (t : Term). (t, addends t)) ts) ≡ map addends ts
each_addends [] = refl
each_addends (t ∷ ts) = ap (λ rest. addends t ∷ rest) (each_addends ts)

all_addends : (ts : List Term) → flat_map (λ (p : WithAddends). p.1) (map (λ (t : Term). (t, addends t)) ts) ≡ flat_map addends ts
all_addends [] = refl
all_addends (t ∷ ts) = ap (λ rest. addends t ++ rest) (all_addends ts)

-- a tree whose parts beside their addends stand for it
same_form : (x y : one.Term-F Formula Term) (t : Term) → x ≡ y → roll-Term y ≡ t → alone (roll-Term x) ≡ alone t
same_form x y t e f = ap (λ z. alone (roll-Term z)) e ∙ ap alone f

pub addends-Number : (n : ℤ) → addends (term.Number n) ≡ alone (term.Number n)
addends-Number n = ap addends (sym (term.rolls-Number n)) ∙ addends-roll (one.Number n) ∙ same_form _ _ _ (parts_back (one.Number n)) (term.rolls-Number n)

pub addends-Var : (k : ℕ) → addends (term.Var k) ≡ alone (term.Var k)
addends-Var k = ap addends (sym (term.rolls-Var k)) ∙ addends-roll (one.Var k) ∙ same_form _ _ _ (parts_back (one.Var k)) (term.rolls-Var k)

pub addends-Given : (f : ℕ) (args : List Term) → addends (term.Given f args) ≡ alone (term.Given f args)
addends-Given f args = ap addends (sym (term.rolls-Given f args)) ∙ addends-roll (one.Given f args) ∙ same_form _ _ _ (parts_back (one.Given f args)) (term.rolls-Given f args)

pub addends-Choice : (x : ℕ) (args : List Term) → addends (term.Choice x args) ≡ alone (term.Choice x args)
addends-Choice x args = ap addends (sym (term.rolls-Choice x args)) ∙ addends-roll (one.Choice x args) ∙ same_form _ _ _ (parts_back (one.Choice x args)) (term.rolls-Choice x args)

pub addends-Add : (parts : List Term) → addends (term.Add parts) ≡ flat_map addends parts
addends-Add parts = ap addends (sym (term.rolls-Add parts)) ∙ addends-roll (one.Add parts) ∙ all_addends parts

pub addends-Sub : (parts : List Term) → addends (term.Sub parts) ≡ difference (map addends parts)
addends-Sub parts = ap addends (sym (term.rolls-Sub parts)) ∙ addends-roll (one.Sub parts) ∙ ap difference (each_addends parts)

pub addends-Mul : (parts : List Term) → addends (term.Mul parts) ≡ alone (term.Mul parts)
addends-Mul parts = ap addends (sym (term.rolls-Mul parts)) ∙ addends-roll (one.Mul parts) ∙ same_form _ _ _ (parts_back (one.Mul parts)) (term.rolls-Mul parts)

pub addends-Min : (parts : List Term) → addends (term.Min parts) ≡ alone (term.Min parts)
addends-Min parts = ap addends (sym (term.rolls-Min parts)) ∙ addends-roll (one.Min parts) ∙ same_form _ _ _ (parts_back (one.Min parts)) (term.rolls-Min parts)

pub addends-Max : (parts : List Term) → addends (term.Max parts) ≡ alone (term.Max parts)
addends-Max parts = ap addends (sym (term.rolls-Max parts)) ∙ addends-roll (one.Max parts) ∙ same_form _ _ _ (parts_back (one.Max parts)) (term.rolls-Max parts)

pub addends-Sum : (i : ℕ) (p : Formula) (a : Term) → addends (term.Sum i p a) ≡ alone (term.Sum i p a)
addends-Sum i p a = ap addends (sym (term.rolls-Sum i p a)) ∙ addends-roll (one.Sum i p a) ∙ ap alone (term.rolls-Sum i p a)

pub ruleset summed = (addends-Number, addends-Var, addends-Given, addends-Choice, addends-Add, addends-Sub, addends-Mul, addends-Min, addends-Max, addends-Sum)
