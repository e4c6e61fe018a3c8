-- The schedules of a walk are those of the answer.
use Rattle.std.proofs.Common.{◌≡◌, refl, sym, ap, ◌∙◌, subst, inl, ⊎_elim, ℕ, ℤ, List, [], ◌∷◌, ◌++◌, map, filter, Bool, true, false, not, Some, None, cond}
use Rattle.std.specs.List.{list_all, enumerate_from, Contains}
use Rattle.std.proofs.lemmas.Bool.{and_parts, cases_Bool, true≢false}
use Rattle.std.proofs.lemmas.Option.{slice_get_within, slice_get-get_or, get_or_from_slice_get}
use Rattle.kts_base.proofs.Orders.{int_le_yes}
use Rattle.kts_spec.specs.declared.instance.Instance.{Instance}
use Rattle.kts_spec.specs.declared.spec.Spec.{Spec}
use Rattle.kts_spec.specs.declared.tree.Formula.{Formula}
use Rattle.kts_spec.specs.Answers.{formulas_of, is_kept}
use Rattle.kts_spec.specs.Meaning.{truth_on}
use Rattle.kts_spec.specs.Related.{Pairs}
use Rattle.kts_spec.specs.Schedules.{schedules}
use Rattle.kts_spec.specs.Worlds.{World, world_of}
use Rattle.kts_abs.specs.Items.{Item, node, schedule, schedules_of}
use Rattle.kts_abs.specs.Spaces.{IsSpace, holds, kept_in, is_wide, least_in, split_cell, left, right}
use Rattle.kts_abs.specs.Values.{Abs, Win, Mem, is_cell, IsOne}
use Rattle.kts_abs.proofs.Listed.{In, in_each}
use Rattle.kts_abs.proofs.Sides.{split, one_schedule}
use Rattle.kts_abs.proofs.WindowEnds.{pair_is}
use Rattle.kts_clause.specs.declared.clause.Clause.{Clause}
use Rattle.kts_clause.specs.Clauses.{clauses_of}
use Rattle.kts_clause.proofs.ClauseTruths.{all_mean}
use Rattle.kts_plan.specs.Asks.{is_false}
use Rattle.kts_plan.specs.Plans.{clauses_of_spec, is_residual}
use Rattle.kts_plan.specs.Solutions.{Solves}
use Rattle.kts_plan.specs.SolutionLaws.{NoneIsLost, FitsDeclarations, SingleIsRight, WalksAnswer}
use Rattle.kts_plan.specs.Walks.{clause_in, residual_clauses, passes, Nothing, Dropped, One, Both}
use Rattle.kts_plan.proofs.ClauseValues.{true_clause, clause_not_false, filter_in, in_filter, true_passes}
use Rattle.kts_plan.proofs.HeadCells.{cells_are_there}
use Rattle.kts_plan.proofs.KeptSchedules.{clause_on, kept_clauses, held_fold, single_solves, filter_none, least_keeps, none_keeps}
use Rattle.kts_plan.proofs.NumberedItems.{got_in, in_got, in_numbered, list_all_in, in_list_all}
use Rattle.kts_plan.proofs.SingleSpaces.{not_lt, none_split}
use Rattle.kts_plan.proofs.SingleSolutions.{clause_true}
use Rattle.kts_plan.proofs.Tuples.{zero_plus}

contains_in : {X : Type 0} (xs : List X) (x : X) → Contains xs x → In x xs
contains_in xs x c = got_in xs c.0 x (slice_get-get_or xs c.0 x c.1 ∙ ap (λ y. Some y) c.2)

in_contains : {X : Type 0} (xs : List X) (x : X) → In x xs → Contains xs x
in_contains xs x i = let g = in_got xs x i in (g.0, slice_get_within xs g.0 x g.1, get_or_from_slice_get xs g.0 x x g.1)

-- the least values of a single space are all that it allows
least_cell : (a : Abs) → is_cell a ≡ true → is_wide a ≡ false → IsOne (least_in a) a
least_cell (Win v) c s = let e = not_lt v.0 v.1 s (int_le_yes v.0 v.1 c) in pair_is v (v.0, v.0) refl (sym e)
least_cell (Mem []) c s = absurd (true≢false (sym c))
least_cell (Mem (m ∷ [])) c s = refl
least_cell (Mem (m ∷ (k ∷ ms))) c s = absurd (true≢false s)

least_one : (t : List Abs) → list_all is_cell t ≡ true → split_cell t ≡ None → Pairs IsOne (map least_in t) t
least_one [] c s = tt
least_one (a ∷ t) c s =
    let p = and_parts (is_cell a) (list_all is_cell t) c in
    let r = none_split (is_wide a) (split_cell t) s in
    (least_cell a p.0 r.0, least_one t p.1 r.1)

-- two filters, in either order
filter_swap : {X : Type 0} (p q : X → Bool) (xs : List X) → filter p (filter q xs) ≡ filter q (filter p xs)
filter_swap p q [] = refl
filter_swap p q (x ∷ xs) =
    let ih = filter_swap p q xs in
    ⊎_elim
    (λ (h : p x ≡ true). ⊎_elim (λ (k : q x ≡ true). rw (k, h, k, ih) refl) (λ (k : q x ≡ false). rw (k, h, k) ih) (cases_Bool (q x)))
    (λ (h : p x ≡ false). ⊎_elim (λ (k : q x ≡ true). rw (k, h) ih) (λ (k : q x ≡ false). rw (k, h) ih) (cases_Bool (q x)))
    (cases_Bool (p x))

schedules_of-append : (a b : List Item) → schedules_of (a ++ b) ≡ schedules_of a ++ schedules_of b
schedules_of-append [] b = refl
schedules_of-append (node t ∷ a) b = schedules_of-append a b
schedules_of-append (schedule r ∷ a) b = ap (λ l. r ∷ l) (schedules_of-append a b)

module _ (spec : Spec) (inst : Instance) where
  abbrev world : World
  world = world_of spec.schema inst

  abbrev clauses : List Clause
  clauses = clauses_of_spec spec

  abbrev formulas : List Formula
  formulas = formulas_of spec

  kept_passes : (t : List Abs) (r : List ℤ) → holds t r ≡ true → is_kept world formulas r ≡ true → passes world clauses t ≡ true
  kept_passes t r h k = true_passes world clauses t r h (kept_clauses world spec r k)

  dropped_keeps : (t : List Abs) → passes world clauses t ≡ false → kept_in world formulas t ≡ []
  dropped_keeps t fail = filter_none spec inst (is_kept world formulas) (holds t) (schedules world) (λ r k h. true≢false (sym (kept_passes t r h k) ∙ fail))

  pub none_is_lost : NoneIsLost world spec
  none_is_lost = record {
    solves = single_solves spec inst;
    least = least_keeps spec inst;
    none = none_keeps spec inst;
    sound = kept_passes;
    clause = λ t r c h e. true_clause world t r h c e;
    dropped = dropped_keeps;
  }

  -- where every clause is true every formula is
  clauses_keep : (ns : List ℤ) → ((c : Clause) → In c clauses → clause_on world ns c ≡ true) → is_kept world formulas ns ≡ true
  clauses_keep ns all =
      in_list_all (λ p. truth_on world ns p []) formulas (λ p i.
      let g = in_got formulas p i in
      let numbered = subst (λ n. In (n, p) (enumerate_from 0 formulas)) (zero_plus g.0) (in_numbered 0 formulas g.0 p g.1) in
      sym ((all_mean g.0 p).on_schedules world ns [])
      ∙ held_fold (clause_on world ns) (clauses_of g.0 p) (λ c j. all c (in_each (λ (numbered : ℕ × Formula). clauses_of numbered.0 numbered.1) (g.0, p) c (enumerate_from 0 formulas) numbered j)))

  module _ (fits : FitsDeclarations spec inst) where
    in_schedules : (t : List Abs) → IsSpace world t → split_cell t ≡ None → Contains (schedules world) (map least_in t)
    in_schedules t space single =
        in_contains (schedules world) (map least_in t) (filter_in (holds t) (schedules world) (map least_in t) (subst (In (map least_in t)) (sym (one_schedule world t space single)) (inl refl))).0

    headed_true : (t : List Abs) (c : Clause) → IsSpace world t → split_cell t ≡ None → Solves world clauses t → In c clauses → is_residual c ≡ false → clause_on world (map least_in t) c ≡ true
    headed_true t c space single solves i e =
        clause_true spec inst (map least_in t) t (least_one t space.cells single) space solves (cells_are_there spec inst fits (map least_in t) (in_schedules t space single)) c i e

    any_true : (t : List Abs) (c : Clause) → IsSpace world t → split_cell t ≡ None → Solves world clauses t → passes world clauses t ≡ true → In c clauses → clause_on world (map least_in t) c ≡ true
    any_true t c space single solves pass i =
        ⊎_elim
        (λ (e : is_residual c ≡ true). clause_not_false world t (map least_in t) (least_one t space.cells single) c (list_all_in (λ c. not (is_false (clause_in world t c))) (residual_clauses clauses) c pass (in_filter is_residual clauses c i e)))
        (λ (e : is_residual c ≡ false). headed_true t c space single solves i e)
        (cases_Bool (is_residual c))

    one_kept : (t : List Abs) → IsSpace world t → split_cell t ≡ None → Solves world clauses t → passes world clauses t ≡ true → kept_in world formulas t ≡ map least_in t ∷ []
    one_kept t space single solves pass =
        let ns = map least_in t in
        let k = clauses_keep ns (λ c i. any_true t c space single solves pass i) in
        filter_swap (holds t) (is_kept world formulas) (schedules world) ∙ ap (filter (is_kept world formulas)) (one_schedule world t space single) ∙ ap (λ b. cond b (ns ∷ []) []) k

    pub single_is_right : SingleIsRight world spec
    single_is_right = record {
      headed = λ t c space single solves i e. headed_true t c space single solves (contains_in clauses c i) e;
      kept = one_kept;
    }

    pub walks_answer : WalksAnswer world spec
    walks_answer s items space (Nothing s1 none) = sym (none_keeps spec inst s space none)
    walks_answer s items space (Dropped s1 t least fail) = sym (least_keeps spec inst s t space least ∙ dropped_keeps t fail)
    walks_answer s items space (One s1 t least pass single) = sym (least_keeps spec inst s t space least ∙ one_kept t least.space single least.solves pass)
    walks_answer s items space (Both s1 t k a b least pass e c d) =
        let sp = split world t k least.space e in
        schedules_of-append a b
        ∙ ap (λ l. l ++ schedules_of b) (walks_answer (left t) a sp.left_side.space c)
        ∙ ap (λ l. kept_in world formulas (left t) ++ l) (walks_answer (right t) b sp.right_side.space d)
        ∙ sym (least_keeps spec inst s t space least ∙ sp.kept formulas)
