-- What least solutions keep.
use Rattle.std.specs.Prelude.{◌≡◌, ℤ, List, [], ◌∷◌, map, true, false, not, None}
use Rattle.std.specs.List.{Contains}
use Rattle.kts_spec.specs.declared.instance.Instance.{Instance}
use Rattle.kts_spec.specs.declared.schema.Schema.{Schema}
use Rattle.kts_spec.specs.declared.spec.Spec.{Spec}
use Rattle.kts_spec.specs.Answers.{formulas_of, is_kept}
use Rattle.kts_spec.specs.Data.{is_valid}
use Rattle.kts_spec.specs.Meaning.{on_schedule}
use Rattle.kts_spec.specs.Worlds.{World, world_of, size_of}
use Rattle.kts_abs.specs.Items.{Item, schedules_of}
use Rattle.kts_abs.specs.Spaces.{IsSpace, holds, split_cell, least_in, kept_in}
use Rattle.kts_abs.specs.Values.{Abs}
use Rattle.kts_clause.specs.declared.clause.Clause.{Clause}
use Rattle.kts_clause.specs.ClauseTruth.{clause_truth}
use Rattle.kts_plan.specs.Asks.{is_false}
use Rattle.kts_plan.specs.Constraints.{clause_at}
use Rattle.kts_plan.specs.Plans.{clauses_of_spec, is_residual, residuals_of}
use Rattle.kts_plan.specs.Solutions.{Solves, IsLeast, NoneAbove}
use Rattle.kts_plan.specs.Walks.{Walk, clause_in, residual_clauses, passes}

-- no schedule is lost: the least solution above a space holds those of the answer that the space holds, where there is none
-- there are none, and where a residual clause is false in a space it holds none; no clause that is true on a schedule is false
-- in a space that holds it
pub record NoneIsLost (w : World) (spec : Spec) : Type 0 where
  pub solves : (t : List Abs) (r : List ℤ) → IsSpace w t → split_cell t ≡ None → holds t r ≡ true → is_kept w (formulas_of spec) r ≡ true
      → Solves w (clauses_of_spec spec) t
  pub least : (s t : List Abs) → IsSpace w s → IsLeast w (clauses_of_spec spec) s t → kept_in w (formulas_of spec) s ≡ kept_in w (formulas_of spec) t
  pub none : (s : List Abs) → IsSpace w s → NoneAbove w (clauses_of_spec spec) s → kept_in w (formulas_of spec) s ≡ []
  pub sound : (t : List Abs) (r : List ℤ) → holds t r ≡ true → is_kept w (formulas_of spec) r ≡ true → passes w (clauses_of_spec spec) t ≡ true
  pub clause : (t : List Abs) (r : List ℤ) (c : Clause) → holds t r ≡ true → clause_truth (size_of w) (on_schedule w r) [] c ≡ true → not (is_false (clause_in w t c)) ≡ true
  pub dropped : (t : List Abs) → passes w (clauses_of_spec spec) t ≡ false → kept_in w (formulas_of spec) t ≡ []

-- on data that are valid for the declarations of a specification, whatever constraints they were checked with
pub record FitsDeclarations (spec : Spec) (inst : Instance) : Type 0 where
  pub schema : Schema
  pub valid : is_valid schema inst ≡ true
  pub world : world_of schema inst ≡ world_of spec.schema inst
  pub indexes : schema.indexes ≡ spec.schema.indexes

-- a single space that meets all tasks is one schedule, on which every clause with a head is true; where no residual clause
-- is false it is of the answer
pub record SingleIsRight (w : World) (spec : Spec) : Type 0 where
  pub headed : (t : List Abs) (c : Clause) → IsSpace w t → split_cell t ≡ None → Solves w (clauses_of_spec spec) t
      → Contains (clauses_of_spec spec) c → is_residual c ≡ false → clause_truth (size_of w) (on_schedule w (map least_in t)) [] c ≡ true
  pub kept : (t : List Abs) → IsSpace w t → split_cell t ≡ None → Solves w (clauses_of_spec spec) t → passes w (clauses_of_spec spec) t ≡ true
      → kept_in w (formulas_of spec) t ≡ map least_in t ∷ []

-- a space has one least solution
abbrev pub LeastIsUnique : Type 0
LeastIsUnique = (w : World) (clauses : List Clause) (s t u : List Abs) → IsLeast w clauses s t → IsLeast w clauses s u → t ≡ u

-- and one walk
abbrev pub WalkIsUnique : Type 0
WalkIsUnique = (w : World) (clauses : List Clause) (s : List Abs) (x y : List Item) → Walk w clauses s x → Walk w clauses s y → x ≡ y

-- the residual clauses are those of the plan's numbers
abbrev pub ResidualsAreNumbered : Type 0
ResidualsAreNumbered = (clauses : List Clause) → map (clause_at clauses) (residuals_of clauses) ≡ residual_clauses clauses

-- the schedules of a walk through a space are those of the answer that it holds, in order
abbrev pub WalksAnswer : World → Spec → Type 0
WalksAnswer w spec = (s : List Abs) (items : List Item) → IsSpace w s → Walk w (clauses_of_spec spec) s items
    → schedules_of items ≡ kept_in w (formulas_of spec) s
