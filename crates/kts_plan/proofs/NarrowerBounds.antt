-- In a space that knows more, tasks ask at least as much.
use Rattle.std.proofs.Common.{◌≡◌, refl, sym, ap, ◌∙◌, subst, ℕ, pos, List, [], ◌∷◌, Bool, true, false, Option, Some, None}
use Rattle.std.specs.Prelude.{slice_get, option_and_then}
use Rattle.std.proofs.lemmas.Bool.{and_parts, and_from, true≢false}
use Rattle.kts_spec.specs.declared.tree.Term.{Term}
use Rattle.kts_spec.specs.Worlds.{World, size_of}
use Rattle.kts_abs.specs.declared.demand.Op.{Op}
use Rattle.kts_abs.specs.declared.truth.Tri.{Tri}
use Rattle.kts_abs.specs.declared.truth.Tri.TheVariants.{F, U, T}
use Rattle.kts_abs.specs.Abstraction.{Finer}
use Rattle.kts_abs.specs.Demands.{Demand, meets}
use Rattle.kts_abs.specs.InSpace.{in_space, value_in}
use Rattle.kts_abs.specs.Spaces.{IsAbove}
use Rattle.kts_abs.specs.Truth.{may_be}
use Rattle.kts_abs.specs.Values.{Abs, Refines, window_of}
use Rattle.kts_abs.specs.Windows.{Window, in_window}
use Rattle.kts_abs.proofs.Accesses.{window_finer, only_finer}
use Rattle.kts_abs.proofs.Kleene.{nots}
use Rattle.kts_abs.proofs.Monotone.{value_monotone, truth_monotone}
use Rattle.kts_abs.proofs.Raises.{met_demands_stay}
use Rattle.kts_abs.proofs.Sums.{sums, differences}
use Rattle.kts_clause.specs.declared.clause.Clause.{Clause}
use Rattle.kts_clause.specs.declared.literal.Literal.{Literal}
use Rattle.kts_clause.specs.ClauseTruth.{signed}
use Rattle.kts_index.specs.TaskOrder.{Task}
use Rattle.kts_plan.specs.declared.bound.Bound.{Bound}
use Rattle.kts_plan.specs.declared.bound.Bound.TheVariants.{Rest, Side}
use Rattle.kts_plan.specs.Asks.{is_false, with_addend, literal_in, all_false, sum_in, bound_in, head_cell, asked, asks, task_asks, asks_in}
use Rattle.kts_plan.specs.Constraints.{Constraint, constraints_of, tasks_of}
use Rattle.kts_plan.specs.Solutions.{cell_at, asked_is_met, is_met}
use Rattle.kts_plan.specs.TaskLaws.{StaysAsked, AsksAreMonotone}

-- what is surely false stays so
stays_false : (p q : Tri) → Finer may_be p q → is_false q ≡ true → is_false p ≡ true
stays_false F q h e = refl
stays_false U F h e = absurd (true≢false (sym (h.within true refl)))
stays_false T F h e = absurd (true≢false (sym (h.within true refl)))
stays_false U U h e = e
stays_false U T h e = e
stays_false T U h e = e
stays_false T T h e = e

module _ (w : World) (t u : List Abs) (above : IsAbove t u) (vars : List ℕ) where
  literal_finer : (l : Literal) → Finer may_be (literal_in w u vars l) (literal_in w t vars l)
  literal_finer l = by l.negative _ _ (truth_monotone w t u above l.formula vars)
    where
      by : (b : Bool) (p q : Tri) → Finer may_be p q → Finer may_be (signed (size_of w) (in_space w u) b p) (signed (size_of w) (in_space w t) b q)
      by true p q h = nots.monotone p q h
      by false p q h = h

  pub all_stay_false : (ls : List Literal) → all_false w t vars ls ≡ true → all_false w u vars ls ≡ true
  all_stay_false [] h = refl
  all_stay_false (l ∷ ls) h =
      let p = and_parts (is_false (literal_in w t vars l)) (all_false w t vars ls) h in
      and_from (is_false (literal_in w u vars l)) (all_false w u vars ls) (stays_false _ _ (literal_finer l) p.0) (all_stay_false ls p.1)

  added_finer : (b : Bool) (v z x y : Window) → Finer in_window v z → Finer in_window x y → Finer in_window (with_addend v b x) (with_addend z b y)
  added_finer true v z x y h k = differences.monotone v z x y h k
  added_finer false v z x y h k = sums.monotone v z x y h k

  sum_finer : (addends : List (Bool × Term)) (v z : Window) → Finer in_window v z → Finer in_window (sum_in w u vars v addends) (sum_in w t vars z addends)
  sum_finer [] v z h = h
  sum_finer (a ∷ addends) v z h =
      sum_finer addends _ _ (added_finer a.0 v z (window_of (value_in w u a.1 vars)) (window_of (value_in w t a.1 vars)) h (window_finer (value_in w u a.1 vars) (value_in w t a.1 vars) (value_monotone w t u above a.1 vars)))

  pub bound_finer : (b : Bound) → Refines (bound_in w u vars b) (bound_in w t vars b)
  bound_finer (Rest addends) = sum_finer addends (pos 0, pos 0) (pos 0, pos 0) (only_finer (pos 0))
  bound_finer (Side a) = value_monotone w t u above a vars

-- the same demand with a narrower bound
record Narrower (o : Option (ℕ × Demand)) (c : ℕ) (op : Op) (b : Abs) : Type 0 where
  bound : Abs
  narrower : Refines bound b
  asked : o ≡ Some (c, (op, bound))

-- a cell with a demand on it
abbrev asking : ℕ → Op → Abs → Option (ℕ × Demand)
asking c op b = Some (c, (op, b))

some_one : (a b : ℕ × Demand) → Some a ≡ Some b → a ≡ b
some_one a b e = cc

some_parts : (c : ℕ) (op : Op) (x : Abs) (k : ℕ) (op2 : Op) (y : Abs) → asking c op x ≡ asking k op2 y → (c ≡ k) × (op ≡ op2) × (x ≡ y)
some_parts c op x k op2 y e =
    let p = some_one (c, (op, x)) (k, (op2, y)) e in
    (ap (λ (q : ℕ × Demand). q.0) p, ap (λ (q : ℕ × Demand). q.1.0) p, ap (λ (q : ℕ × Demand). q.1.1) p)

none_asked : (a : ℕ × Demand) → None ≡ Some a → ⊥
none_asked a e = cc

stays_asked : (b d : Bool) (o : Option ℕ) (op : Op) (x y : Abs) (c : ℕ) (op2 : Op) (z : Abs) → (b ≡ true → d ≡ true) → Refines y x → asked b o (op, x) ≡ Some (c, (op2, z)) → Narrower (asked d o (op, y)) c op2 z
stays_asked false d o op x y c op2 z h f e = absurd (none_asked (c, (op2, z)) e)
stays_asked true d None op x y c op2 z h f e = absurd (none_asked (c, (op2, z)) e)
stays_asked true d (Some k) op x y c op2 z h f e =
    let p = some_parts k op x c op2 z e in
    record {
      bound = y;
      narrower = subst (Refines y) p.2 f;
      asked = ap (λ b. asked b (Some k) (op, y)) (h refl) ∙ ap (λ n. asking n op y) p.0 ∙ ap (λ o. asking c o y) p.1;
    }

module _ (w : World) (clauses : List Clause) (t u : List Abs) (above : IsAbove t u) where
  constraint_stays : (tuple : List ℕ) (k : Constraint) (c : ℕ) (op : Op) (b : Abs) → asks w tuple t k ≡ Some (c, (op, b)) → Narrower (asks w tuple u k) c op b
  constraint_stays tuple k c op b e =
      stays_asked _ _ (head_cell w tuple k.head) k.head.op _ _ c op b (all_stay_false w t u above tuple k.others) (bound_finer w t u above tuple k.head.bound) e

  some_stays : (tuple : List ℕ) (o : Option Constraint) (c : ℕ) (op : Op) (b : Abs) → option_and_then (asks w tuple t) o ≡ Some (c, (op, b)) → Narrower (option_and_then (asks w tuple u) o) c op b
  some_stays tuple None c op b e = absurd (none_asked (c, (op, b)) e)
  some_stays tuple (Some k) c op b e = constraint_stays tuple k c op b e

  task_stays : (o : Option Task) (c : ℕ) (op : Op) (b : Abs) → option_and_then (task_asks w clauses t) o ≡ Some (c, (op, b)) → Narrower (option_and_then (task_asks w clauses u) o) c op b
  task_stays None c op b e = absurd (none_asked (c, (op, b)) e)
  task_stays (Some k) c op b e = some_stays k.tuple (slice_get (constraints_of clauses) k.definite) c op b e

stays : (w : World) (clauses : List Clause) (k : ℕ) (t u : List Abs) (c : ℕ) (op : Op) (b : Abs) → IsAbove t u → asks_in w clauses k t ≡ Some (c, (op, b)) → StaysAsked w clauses k u c op b
stays w clauses k t u c op b above e =
    let r = task_stays w clauses t u above (slice_get (tasks_of w clauses) k) c op b e in
    record { bound = r.bound; narrower = r.narrower; asked = r.asked }

met : (w : World) (clauses : List Clause) (k : ℕ) (t u : List Abs) (a : ℕ × Demand) → IsAbove t u → asks_in w clauses k t ≡ Some a → is_met w clauses k u ≡ true → meets a.1 (cell_at u a.0) ≡ true
met w clauses k t u a above e h =
    let r = stays w clauses k t u a.0 a.1.0 a.1.1 above e in
    met_demands_stay.looser a.1.0 r.bound a.1.1 (cell_at u a.0) r.narrower (subst (λ o. asked_is_met o u ≡ true) r.asked h)

pub asks_are_monotone : AsksAreMonotone
asks_are_monotone = record { stays = stays; met = met }
