-- No schedule of the answer is lost in least solutions.
use Rattle.std.proofs.Common.{◌≡◌, refl, sym, ap, ◌∙◌, subst, inl, inr, ⊎_elim, ℕ, ℤ, pos, List, [], ◌∷◌, map, fold, filter, Bool, true, false, ◌&&◌, ◌||◌, Option, Some, None, arith}
use Rattle.std.specs.List.{list_all, enumerate_from}
use Rattle.std.proofs.lemmas.Bool.{and_parts, and_from, cases_Bool, true≢false}
use Rattle.std.proofs.lemmas.Int.{ints}
use Rattle.kts_base.proofs.Orders.{yes_int_le}
use Rattle.kts_spec.specs.declared.instance.Instance.{Instance}
use Rattle.kts_spec.specs.declared.spec.Spec.{Spec}
use Rattle.kts_spec.specs.declared.tree.Formula.{Formula}
use Rattle.kts_spec.specs.Answers.{formulas_of, is_kept}
use Rattle.kts_spec.specs.Meaning.{on_schedule, truth_on}
use Rattle.kts_spec.specs.Places.{lookup}
use Rattle.kts_spec.specs.Related.{Pairs}
use Rattle.kts_spec.specs.Schedules.{schedules, tuples}
use Rattle.kts_spec.specs.Worlds.{World, world_of, size_of}
use Rattle.kts_abs.specs.Demands.{Demand, meets}
use Rattle.kts_abs.specs.Spaces.{IsAbove, IsSpace, holds, kept_in, split_cell, types}
use Rattle.kts_abs.specs.Values.{Abs, Win, Mem, allows, Refines, is_cell, IsOne}
use Rattle.kts_abs.proofs.Listed.{In, each_in}
use Rattle.kts_abs.proofs.Raises.{demands_are_met}
use Rattle.kts_abs.proofs.Sound.{space_of_one, one_above, one_one, allowed}
use Rattle.kts_abs.proofs.Splits.{above_along}
use Rattle.kts_clause.specs.declared.clause.Clause.{Clause}
use Rattle.kts_clause.specs.ClauseFacts.{LiteralFacts}
use Rattle.kts_clause.specs.Clauses.{clauses_of}
use Rattle.kts_clause.specs.ClauseTruth.{clause_truth, some_true}
use Rattle.kts_clause.proofs.ClauseTruths.{all_mean}
use Rattle.kts_index.specs.TaskOrder.{sizes_of_prefix}
use Rattle.kts_plan.specs.Asks.{all_false, bound_in, head_cell, asks_in}
use Rattle.kts_plan.specs.Constraints.{Constraint, tasks_of}
use Rattle.kts_plan.specs.Heads.{all_but}
use Rattle.kts_plan.specs.Assertions.{Assertion, AtMostZero, Zero, Alike, Unlike, Opaque, assertion_in}
use Rattle.kts_plan.specs.Plans.{clauses_of_spec}
use Rattle.kts_plan.specs.Solutions.{cell_at, asked_is_met, Solves, IsLeast, NoneAbove}
use Rattle.kts_plan.proofs.AskedCells.{definite_is, constraint_is, constraint_from, asked_is, clauses_fit, definite_fits, head_cell_is}
use Rattle.kts_plan.proofs.AssertionTruths.{AssertionHolds, AssertionIs, literal_is, bound_on, head_value, true_kept}
use Rattle.kts_plan.proofs.NumberedItems.{numbered_is, got_in, all_got, list_all_in, fold_and, some_split}
use Rattle.kts_plan.proofs.SingleSpaces.{single_one, literal_on, all_false_is, bound_exact, cell_one, fulfils_meets}
use Rattle.kts_plan.proofs.Tuples.{over_at, task_tuple}

-- ---- clauses on a schedule

pub fold_held : {X : Type 0} (g : X → Bool) (xs : List X) (x : X) → fold ◌&&◌ true (map g xs) ≡ true → In x xs → g x ≡ true
fold_held g [] x e h = absurd h
fold_held g (y ∷ xs) x e (inl h) = ap g h ∙ (and_parts (g y) (fold ◌&&◌ true (map g xs)) (sym (fold_and (g y) (map g xs)) ∙ e)).0
fold_held g (y ∷ xs) x e (inr h) = fold_held g xs x (and_parts (g y) (fold ◌&&◌ true (map g xs)) (sym (fold_and (g y) (map g xs)) ∙ e)).1 h

pub held_fold : {X : Type 0} (g : X → Bool) (xs : List X) → ((x : X) → In x xs → g x ≡ true) → fold ◌&&◌ true (map g xs) ≡ true
held_fold g [] h = refl
held_fold g (y ∷ xs) h = fold_and (g y) (map g xs) ∙ and_from (g y) (fold ◌&&◌ true (map g xs)) (h y (inl refl)) (held_fold g xs (λ x k. h x (inr k)))

abbrev pub clause_on : World → List ℤ → Clause → Bool
clause_on w ns = clause_truth (size_of w) (on_schedule w ns) []

-- where every formula is true every clause is
pub kept_clauses : (w : World) (spec : Spec) (ns : List ℤ) → is_kept w (formulas_of spec) ns ≡ true → (c : Clause) → In c (clauses_of_spec spec) → clause_on w ns c ≡ true
kept_clauses w spec ns k c i =
    let f = each_in (λ (numbered : ℕ × Formula). clauses_of numbered.0 numbered.1) c (enumerate_from 0 (formulas_of spec)) i in
    let n = numbered_is 0 (formulas_of spec) f.item f.held in
    let e = list_all_in (λ p. truth_on w ns p []) (formulas_of spec) f.item.1 k (got_in (formulas_of spec) n.place f.item.1 n.is) in
    fold_held (clause_on w ns) (clauses_of f.item.0 f.item.1) c ((all_mean f.item.0 f.item.1).on_schedules w ns [] ∙ e) f.is

-- what a literal says holds where it is true
assertion_true : (w : World) (ns : List ℤ) (vars : List ℕ) (f : Assertion) (b : Bool) → AssertionIs w ns vars f b → b ≡ true → AssertionHolds w ns vars f
assertion_true w ns vars (AtMostZero xs) b h e = h.0 e
assertion_true w ns vars (Zero xs) b h e = h.0 e
assertion_true w ns vars (Alike x y) b h e = h.0 e
assertion_true w ns vars (Unlike x y) b h e = h.0 e
assertion_true w ns vars Opaque b h e = tt

-- ---- a space of one schedule meets all tasks

module _ (spec : Spec) (inst : Instance) where
  abbrev world : World
  world = world_of spec.schema inst

  abbrev clauses : List Clause
  clauses = clauses_of_spec spec

  module _ (ns : List ℤ) (u : List Abs) (one : Pairs IsOne ns u) (space : IsSpace world u) (all : (c : Clause) → In c clauses → clause_on world ns c ≡ true) where
    or_right : (a b : Bool) → (a || b) ≡ true → b ≡ false → a ≡ true
    or_right true b h e = refl
    or_right false b h e = absurd (true≢false (sym h ∙ e))

    met_asked : (k : ℕ) (o : Option (ℕ × Demand)) → asks_in world clauses k u ≡ o → asked_is_met o u ≡ true
    met_asked k None e = refl
    met_asked k (Some a) e =
        let q = asked_is world clauses u k a e in
        let h = constraint_from clauses q.task.definite q.constraint q.at in
        let d = h.definite in
        let i = definite_is clauses d h.held in
        let c : Constraint = record { prefix = i.clause.prefix; others = all_but d.literal i.clause.literals; head = d.head } in
        let same : q.constraint ≡ c = sym h.is ∙ constraint_is clauses d i in
        let tuple = q.task.tuple in
        let others = subst (λ (c : Constraint). all_false world u tuple c.others ≡ true) same q.others in
        let named = subst (λ (c : Constraint). head_cell world tuple c.head ≡ Some a.0) same q.cell in
        let demand : a.1 ≡ (d.head.op, bound_in world u tuple d.head.bound) = subst (λ (c : Constraint). a.1 ≡ (c.head.op, bound_in world u tuple c.head.bound)) same q.demand in
        let inside = subst (λ (c : Constraint). In tuple (tuples (sizes_of_prefix world c.prefix))) same (task_tuple world clauses q.task q.constraint (got_in (tasks_of world clauses) k q.task q.there) q.at) in
        let held = got_in clauses d.clause i.clause i.there in
        let some = over_at (map (size_of world) i.clause.prefix) (some_true (size_of world) (on_schedule world ns) i.clause.literals) tuple (all i.clause held) inside in
        let split = some_split (literal_on world ns u one tuple) i.clause.literals d.literal i.literal i.at in
        let truth : literal_on world ns u one tuple i.literal ≡ true =
        or_right (literal_on world ns u one tuple i.literal) (some_true (size_of world) (on_schedule world ns) (all_but d.literal i.clause.literals) tuple) (sym split ∙ some)
        (all_false_is world ns u one tuple (all_but d.literal i.clause.literals) others) in
        let typed = (all_got (LiteralFacts spec.schema i.clause.prefix) i.clause.literals d.literal i.literal (clauses_fit spec i.clause held).literals i.at).typed in
        let holding = assertion_true world ns tuple (assertion_in i.literal) (literal_on world ns u one tuple i.literal) (literal_is world ns tuple spec.schema i.clause.prefix i.literal typed) truth in
        let kept = true_kept world ns tuple (assertion_in i.literal) d.head i.head holding in
        let there = head_cell_is spec.schema inst i.clause.prefix tuple d.head u a.0 (definite_fits spec d i) space named in
        let value : IsOne (head_value world ns tuple d.head) (cell_at u a.0) = subst (λ o. IsOne (lookup ns o (pos 0)) (cell_at u a.0)) (sym named) (cell_one ns u a.0 one there.inside) in
        let met = fulfils_meets d.head.op (bound_on world ns tuple d.head.bound) (head_value world ns tuple d.head) (bound_in world u tuple d.head.bound) (cell_at u a.0) (bound_exact world ns u one tuple d.head.bound) value kept in
        subst (λ (z : Demand). meets z (cell_at u a.0) ≡ true) (sym demand) ((demands_are_met d.head.op (bound_in world u tuple d.head.bound) (cell_at u a.0) there.suits).test.1 met)

    pub one_solves : Solves world clauses u
    one_solves k = met_asked k (asks_in world clauses k u) refl

  -- the single space of a schedule of the answer solves
  pub single_solves : (t : List Abs) (r : List ℤ) → IsSpace world t → split_cell t ≡ None → holds t r ≡ true → is_kept world (formulas_of spec) r ≡ true → Solves world clauses t
  single_solves t r space single h k = one_solves r t (single_one t r space.cells single h) space (kept_clauses world spec r k)

  -- ---- schedules in spaces

  allowed_above : (a b : Abs) (n : ℤ) → Refines b a → allows b n ≡ true → allows a n ≡ true
  allowed_above (Win v) (Win z) n h e = h.within n e
  allowed_above (Win v) (Mem ns) n h e = absurd h
  allowed_above (Mem ms) (Win z) n h e = absurd h
  allowed_above (Mem ms) (Mem ns) n h e = h.within n e

  held_above : (s t : List Abs) (r : List ℤ) → IsAbove s t → holds t r ≡ true → holds s r ≡ true
  held_above [] [] r h e = e
  held_above [] (b ∷ t) r h e = absurd h
  held_above (a ∷ s) [] r h e = absurd h
  held_above (a ∷ s) (b ∷ t) [] h e = absurd (true≢false (sym e))
  held_above (a ∷ s) (b ∷ t) (n ∷ r) h e =
      let q = and_parts (allows b n) (holds t r) e in
      and_from (allows a n) (holds s r) (allowed_above a b n h.0 q.0) (held_above s t r h.1 q.1)

  one_held : (ns : List ℤ) (u t : List Abs) → Pairs IsOne ns u → IsAbove t u → holds t ns ≡ true
  one_held [] [] [] h k = refl
  one_held [] [] (b ∷ t) h k = absurd k
  one_held [] (a ∷ u) t h k = absurd h
  one_held (n ∷ ns) [] t h k = absurd h
  one_held (n ∷ ns) (a ∷ u) [] h k = absurd k
  one_held (n ∷ ns) (a ∷ u) (b ∷ t) h k = and_from (allows b n) (holds t ns) (allowed n a b h.0 k.0) (one_held ns u t h.1 k.1)

  one_cell : (n : ℤ) (a b : Abs) → IsOne n a → Refines a b → is_cell a ≡ true
  one_cell n (Win v) b h k = ap (λ z. is_cell (Win z)) h ∙ yes_int_le n n (omega (arith, ints))
  one_cell n (Mem ms) b h k = ap (λ z. is_cell (Mem z)) h

  one_cells : (ns : List ℤ) (u t : List Abs) → Pairs IsOne ns u → IsAbove t u → list_all is_cell u ≡ true
  one_cells [] [] t h k = refl
  one_cells [] (a ∷ u) t h k = absurd h
  one_cells (n ∷ ns) [] t h k = refl
  one_cells (n ∷ ns) (a ∷ u) [] h k = absurd k
  one_cells (n ∷ ns) (a ∷ u) (b ∷ t) h k = and_from (is_cell a) (list_all is_cell u) (one_cell n a b h.0 k.0) (one_cells ns u t h.1 k.1)

  -- the space of a schedule of the answer that holds in s: above s, and it solves
  pub record Solution (s : List Abs) (r : List ℤ) : Type 0 where
    pub space : List Abs
    pub is : IsSpace world space
    pub above : IsAbove s space
    pub one : Pairs IsOne r space
    pub solves : Solves world clauses space

  solution : (s : List Abs) (r : List ℤ) → IsSpace world s → holds s r ≡ true → is_kept world (formulas_of spec) r ≡ true → Solution s r
  solution s r space h k =
      let u = space_of_one r s in
      let above = one_above s r h in
      let one = one_one s r h in
      let is : IsSpace world u = record { above = above_along (types world) s u above space.above; cells = one_cells r u s one above } in
      record { space = u; is = is; above = above; one = one; solves = one_solves r u one is (kept_clauses world spec r k) }

  -- ---- lists of schedules

  -- where two tests agree on what a third keeps
  filter_same : {X : Type 0} (k f g : X → Bool) (xs : List X) → ((x : X) → k x ≡ true → f x ≡ true → g x ≡ true) → ((x : X) → k x ≡ true → g x ≡ true → f x ≡ true) → filter f (filter k xs) ≡ filter g (filter k xs)
  filter_same k f g [] h i = refl
  filter_same k f g (x ∷ xs) h i =
      let ih = filter_same k f g xs h i in
      ⊎_elim
      (λ (a : k x ≡ true). rw a (⊎_elim
      (λ (b : f x ≡ true). let c = h x a b in rw (b, c) (ap (λ l. x ∷ l) ih))
      (λ (b : f x ≡ false). let c : g x ≡ false = ⊎_elim (λ (c : g x ≡ true). absurd (true≢false (sym (i x a c) ∙ b))) (λ (c : g x ≡ false). c) (cases_Bool (g x)) in rw (b, c) ih)
      (cases_Bool (f x))))
      (λ (a : k x ≡ false). rw a ih)
      (cases_Bool (k x))

  pub filter_none : {X : Type 0} (k f : X → Bool) (xs : List X) → ((x : X) → k x ≡ true → f x ≡ true → ⊥) → filter f (filter k xs) ≡ []
  filter_none k f [] h = refl
  filter_none k f (x ∷ xs) h =
      let ih = filter_none k f xs h in
      ⊎_elim
      (λ (a : k x ≡ true). rw a (⊎_elim (λ (b : f x ≡ true). absurd (h x a b)) (λ (b : f x ≡ false). rw b ih) (cases_Bool (f x))))
      (λ (a : k x ≡ false). rw a ih)
      (cases_Bool (k x))

  pub least_keeps : (s t : List Abs) → IsSpace world s → IsLeast world clauses s t → kept_in world (formulas_of spec) s ≡ kept_in world (formulas_of spec) t
  least_keeps s t space least =
      filter_same (is_kept world (formulas_of spec)) (holds s) (holds t) (schedules world)
      (λ r k h. let u = solution s r space h k in one_held r u.space t u.one (least.least u.space u.is u.above u.solves))
      (λ r k h. held_above s t r least.above h)

  pub none_keeps : (s : List Abs) → IsSpace world s → NoneAbove world clauses s → kept_in world (formulas_of spec) s ≡ []
  none_keeps s space none =
      filter_none (is_kept world (formulas_of spec)) (holds s) (schedules world)
      (λ r k h. let u = solution s r space h k in none.none u.space u.is u.above u.solves)
