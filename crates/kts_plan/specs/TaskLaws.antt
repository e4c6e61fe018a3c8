-- What tasks keep.
use Rattle.std.specs.Prelude.{◌≡◌, ◌<◌, ◌≤◌, ℕ, List, length, slice_set, true, false, Some, None}
use Rattle.kts_spec.specs.declared.instance.Instance.{Instance}
use Rattle.kts_spec.specs.declared.spec.Spec.{Spec}
use Rattle.kts_spec.specs.Worlds.{World, world_of}
use Rattle.kts_abs.specs.declared.demand.Op.{Op}
use Rattle.kts_abs.specs.Demands.{Demand, Suits, meets}
use Rattle.kts_abs.specs.Spaces.{IsAbove, IsSpace}
use Rattle.kts_abs.specs.Values.{Abs, Refines}
use Rattle.kts_clause.specs.declared.clause.Clause.{Clause}
use Rattle.kts_plan.specs.Asks.{asks_in}
use Rattle.kts_plan.specs.Constraints.{tasks_of}
use Rattle.kts_plan.specs.Plans.{clauses_of_spec}
use Rattle.kts_plan.specs.Solutions.{cell_at, is_met}
use Rattle.kts_plan.specs.TaskReads.{is_paired_with}

-- what is asked in a space is asked in each that knows more: the same operation on the same cell, by a bound that allows no more
pub record StaysAsked (w : World) (clauses : List Clause) (k : ℕ) (u : List Abs) (c : ℕ) (op : Op) (b : Abs) : Type 0 where
  pub bound : Abs
  pub narrower : Refines bound b
  pub asked : asks_in w clauses k u ≡ Some (c, (op, bound))

pub record AsksAreMonotone : Type 0 where
  pub stays : (w : World) (clauses : List Clause) (k : ℕ) (t u : List Abs) (c : ℕ) (op : Op) (b : Abs) → IsAbove t u
      → asks_in w clauses k t ≡ Some (c, (op, b)) → StaysAsked w clauses k u c op b
  -- so a space that meets what is asked of it meets what was asked below
  pub met : (w : World) (clauses : List Clause) (k : ℕ) (t u : List Abs) (a : ℕ × Demand) → IsAbove t u
      → asks_in w clauses k t ≡ Some a → is_met w clauses k u ≡ true → meets a.1 (cell_at u a.0) ≡ true

-- a task that is not paired with a cell asks the same whatever that cell becomes
abbrev pub UnreadCellsDoNotCount : Type 0
UnreadCellsDoNotCount =
    (w : World) (clauses : List Clause) (k c : ℕ) (t : List Abs) (v : Abs) → IsSpace w t → c < length t
    → is_paired_with w clauses k c ≡ false → asks_in w clauses k (slice_set t c v) ≡ asks_in w clauses k t

-- what is asked is of a cell of the space, by an operation for its kind; a number without a task asks nothing
pub record AsksAreOfCells : Type 0 where
  pub cell : (spec : Spec) (inst : Instance) (k : ℕ) (t : List Abs) (a : ℕ × Demand) → IsSpace (world_of spec.schema inst) t
      → asks_in (world_of spec.schema inst) (clauses_of_spec spec) k t ≡ Some a → a.0 < length t
  pub suits : (spec : Spec) (inst : Instance) (k : ℕ) (t : List Abs) (a : ℕ × Demand) → IsSpace (world_of spec.schema inst) t
      → asks_in (world_of spec.schema inst) (clauses_of_spec spec) k t ≡ Some a → Suits a.1.0 (cell_at t a.0)
  pub none : (w : World) (clauses : List Clause) (k : ℕ) (t : List Abs) → length (tasks_of w clauses) ≤ k → asks_in w clauses k t ≡ None
