-- A space has one walk.
use Rattle.std.proofs.Common.{◌≡◌, refl, sym, ap, ◌∙◌, subst, ℕ, true, false, List, [], ◌∷◌, ◌++◌, map, Some, None}
use Rattle.std.proofs.lemmas.Bool.{true≢false}
use Rattle.kts_spec.specs.Worlds.{World}
use Rattle.kts_abs.specs.Items.{Item, node, schedule}
use Rattle.kts_abs.specs.Spaces.{split_cell, left, right, least_in}
use Rattle.kts_abs.specs.Values.{Abs}
use Rattle.kts_clause.specs.declared.clause.Clause.{Clause}
use Rattle.kts_plan.specs.Solutions.{IsLeast, NoneAbove}
use Rattle.kts_plan.specs.SolutionLaws.{WalkIsUnique}
use Rattle.kts_plan.specs.Walks.{Walk, Nothing, Dropped, One, Both, passes}
use Rattle.kts_plan.proofs.SolutionOrder.{least_is_unique}

module _ (w : World) (clauses : List Clause) where
  not_none : {X : Type 0} (s t : List Abs) → NoneAbove w clauses s → IsLeast w clauses s t → X
  not_none s t n l = absurd (n.none t l.space l.above l.solves)

  not_both : {X : Type 0} (s t u : List Abs) → IsLeast w clauses s t → IsLeast w clauses s u → passes w clauses t ≡ true → passes w clauses u ≡ false → X
  not_both s t u l m pass fail = absurd (true≢false (sym pass ∙ ap (passes w clauses) (least_is_unique w clauses s t u l m) ∙ fail))

  not_wide : {X : Type 0} (s t u : List Abs) (k : ℕ) → IsLeast w clauses s t → IsLeast w clauses s u → split_cell t ≡ None → split_cell u ≡ Some k → X
  not_wide s t u k l m e f = let z : None ≡ Some k = sym e ∙ ap split_cell (least_is_unique w clauses s t u l m) ∙ f in cc

  only : (s : List Abs) (x y : List Item) → Walk w clauses s x → Walk w clauses s y → x ≡ y
  only s x y (Nothing s1 n) (Nothing s2 m) = refl
  only s x y (Nothing s1 n) (Dropped s2 u m g) = not_none s u n m
  only s x y (Nothing s1 n) (One s2 u m g h) = not_none s u n m
  only s x y (Nothing s1 n) (Both s2 u k a b m g h i j) = not_none s u n m
  only s x y (Dropped s1 t l e) (Nothing s2 m) = not_none s t m l
  only s x y (Dropped s1 t l e) (Dropped s2 u m g) = ap (λ v. node v ∷ []) (least_is_unique w clauses s t u l m)
  only s x y (Dropped s1 t l e) (One s2 u m g h) = not_both s u t m l g e
  only s x y (Dropped s1 t l e) (Both s2 u k a b m g h i j) = not_both s u t m l g e
  only s x y (One s1 t l e f) (Nothing s2 m) = not_none s t m l
  only s x y (One s1 t l e f) (Dropped s2 u m g) = not_both s t u l m e g
  only s x y (One s1 t l e f) (One s2 u m g h) = ap (λ v. node v ∷ schedule (map least_in v) ∷ []) (least_is_unique w clauses s t u l m)
  only s x y (One s1 t l e f) (Both s2 u k a b m g h i j) = not_wide s t u k l m f h
  only s x y (Both s1 t k a b l e f c d) (Nothing s2 m) = not_none s t m l
  only s x y (Both s1 t k a b l e f c d) (Dropped s2 u m g) = not_both s t u l m e g
  only s x y (Both s1 t k a b l e f c d) (One s2 u m g h) = not_wide s u t k m l h f
  only s x y (Both s1 t k a b l e f c d) (Both s2 u k2 a2 b2 m g h i j) =
      let same = least_is_unique w clauses s t u l m in
      let first : a ≡ a2 = only (left t) a a2 c (subst (λ v. Walk w clauses (left v) a2) (sym same) i) in
      let second : b ≡ b2 = only (right t) b b2 d (subst (λ v. Walk w clauses (right v) b2) (sym same) j) in
      ap (λ v. node v ∷ a ++ b) same ∙ ap (λ v. node u ∷ v ++ b) first ∙ ap (λ v. node u ∷ a2 ++ v) second

pub walk_is_unique : WalkIsUnique
walk_is_unique w clauses s x y p q = only w clauses s x y p q
