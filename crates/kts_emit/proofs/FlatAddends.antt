-- The addends of a term are no deeper than formulas may be, where the term is not.
use Rattle.std.proofs.Common.{ℕ, suc, ◌≤◌, List, [], ◌∷◌, map, subst, arith}
use Rattle.std.specs.Prelude.{flat_map}
use Rattle.kts_base.specs.Limits.{most_depth}
use Rattle.kts_spec.specs.declared.tree.Term.{Term, roll-Term}
use Rattle.kts_spec.specs.declared.tree.Formula.{Formula}
use Rattle.kts_spec.specs.declared.tree.Formula.TheOpen as one
use Rattle.kts_spec.specs.declared.tree.Formula.TheFolds.{map-Term}
use Rattle.kts_spec.specs.Addends.{Plus, Addend, opposite, difference, addends, term_addends}
use Rattle.kts_spec.specs.Related.{AllOf}
use Rattle.kts_spec.specs.Sizes.{Size, all_beside, term_size, size_of_term, size_of_formula}
use Rattle.kts_spec.proofs.AddendRanges.{WithAddends, paired, firsts, parts_back, all_append}
use Rattle.kts_spec.proofs.Inductions.{FormulaPart, Part, terms, bare, by_terms}
use Rattle.kts_spec.proofs.Rolls.{size_of_term-roll, addends-roll}
use Rattle.kts_emit.proofs.TypedParts.{AreDeep, all_deep}

-- what holds of all items, where it follows from what holds
pub all_also : {X : Type 0} (P Q : X → Type 0) (xs : List X) → ((x : X) → P x → Q x) → AllOf P xs → AllOf Q xs
all_also P Q [] f h = tt
all_also P Q (x ∷ xs) f h = (f x h.0, all_also P Q xs f h.1)

abbrev pub IsFlat : Addend → Type 0
IsFlat a = (size_of_term a.term).depth ≤ most_depth

abbrev pub AreFlat : Term → Type 0
AreFlat t = (size_of_term t).depth ≤ most_depth → AllOf IsFlat (addends t)

abbrev with_addends : List Term → List WithAddends
with_addends = map (λ (t : Term). (t, addends t))

flat_turned : (xs : List Addend) → AllOf IsFlat xs → AllOf IsFlat (map opposite xs)
flat_turned [] h = tt
flat_turned (a ∷ xs) h = (h.0, flat_turned xs h.1)

sum_flat : (parts : List (Part AreFlat)) → AreDeep most_depth (map size_of_term (terms AreFlat parts))
    → AllOf IsFlat (flat_map (λ (p : WithAddends). p.1) (with_addends (terms AreFlat parts)))
sum_flat [] h = tt
sum_flat (p ∷ parts) h = all_append IsFlat (addends p.0) _ (p.1 h.0) (sum_flat parts h.1)

taken_flat : (parts : List (Part AreFlat)) → AreDeep most_depth (map size_of_term (terms AreFlat parts))
    → AllOf IsFlat (flat_map (map opposite) (map (λ (p : WithAddends). p.1) (with_addends (terms AreFlat parts))))
taken_flat [] h = tt
taken_flat (p ∷ parts) h = all_append IsFlat (map opposite (addends p.0)) _ (flat_turned (addends p.0) (p.1 h.0)) (taken_flat parts h.1)

difference_flat : (parts : List (Part AreFlat)) → AreDeep most_depth (map size_of_term (terms AreFlat parts))
    → AllOf IsFlat (difference (map (λ (p : WithAddends). p.1) (with_addends (terms AreFlat parts))))
difference_flat [] h = tt
difference_flat (p ∷ parts) h = all_append IsFlat (addends p.0) _ (p.1 h.0) (taken_flat parts h.1)

deep_parts : (parts : List (Part AreFlat)) → suc (all_beside (map size_of_term (terms AreFlat parts))).depth ≤ most_depth
    → AreDeep most_depth (map size_of_term (terms AreFlat parts))
deep_parts parts le =
    let sizes = map size_of_term (terms AreFlat parts) in
    all_also (λ (s : Size). s.depth ≤ (all_beside sizes).depth) (λ (s : Size). s.depth ≤ most_depth) sizes (λ s h. omega arith) (all_deep sizes)

-- a term that is its own addend
alone_flat : (x : one.Term-F Formula Term) → (size_of_term (roll-Term x)).depth ≤ most_depth
    → IsFlat (record { sign = Plus; term = roll-Term (firsts (paired x)) })
alone_flat x h = rw (parts_back x) h

abbrev depth_of : one.Term-F FormulaPart (Part AreFlat) → ℕ
depth_of y = (term_size (map-Term Formula Term Size Size size_of_formula size_of_term (bare AreFlat y))).depth

flat_case : (y : one.Term-F FormulaPart (Part AreFlat)) → (size_of_term (roll-Term (bare AreFlat y))).depth ≤ most_depth
    → depth_of y ≤ most_depth → AllOf IsFlat (term_addends (paired (bare AreFlat y)))
flat_case (one.Add parts) h le = sum_flat parts (deep_parts parts le)
flat_case (one.Sub parts) h le = difference_flat parts (deep_parts parts le)
flat_case (one.Number n) h le = (alone_flat (bare AreFlat (one.Number n)) h, tt)
flat_case (one.Var k) h le = (alone_flat (bare AreFlat (one.Var k)) h, tt)
flat_case (one.Given f args) h le = (alone_flat (bare AreFlat (one.Given f args)) h, tt)
flat_case (one.Choice x args) h le = (alone_flat (bare AreFlat (one.Choice x args)) h, tt)
flat_case (one.Mul parts) h le = (alone_flat (bare AreFlat (one.Mul parts)) h, tt)
flat_case (one.Min parts) h le = (alone_flat (bare AreFlat (one.Min parts)) h, tt)
flat_case (one.Max parts) h le = (alone_flat (bare AreFlat (one.Max parts)) h, tt)
flat_case (one.Sum i p a) h le = (alone_flat (bare AreFlat (one.Sum i p a)) h, tt)

flat_all : (y : one.Term-F FormulaPart (Part AreFlat)) → AreFlat (roll-Term (bare AreFlat y))
flat_all y h =
    rw (addends-roll (bare AreFlat y))
    (flat_case y h (subst (λ (s : Size). s.depth ≤ most_depth) (size_of_term-roll (bare AreFlat y)) h))

pub addends_flat : (t : Term) → AreFlat t
addends_flat t = by_terms AreFlat flat_all t
