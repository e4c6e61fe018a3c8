-- Definite constraints that are well typed, and no deeper than formulas may be.
use Rattle.std.proofs.Common.{◌≡◌, ℕ, suc, ◌≤◌, List, [], length, Some, Bool, true, slice_get}
use Rattle.kts_abs.specs.declared.demand.Op.{Op}
use Rattle.kts_abs.specs.declared.demand.Op.TheVariants.{AtLeast, AtMost, Within, Without}
use Rattle.kts_base.specs.Limits.{most_variables, most_depth, most_addends}
use Rattle.kts_clause.specs.declared.literal.Literal.{Literal}
use Rattle.kts_plan.specs.declared.bound.Bound.{Bound}
use Rattle.kts_plan.specs.declared.bound.Bound.TheVariants.{Rest, Side}
use Rattle.kts_plan.specs.declared.head.Head.{Head}
use Rattle.kts_plan.specs.Constraints.{Constraint}
use Rattle.kts_spec.specs.declared.declarations.Family.{Family}
use Rattle.kts_spec.specs.declared.declarations.ValueType.{ValueType}
use Rattle.kts_spec.specs.declared.declarations.ValueType.TheVariants.{Int, Member}
use Rattle.kts_spec.specs.declared.schema.Schema.{Schema}
use Rattle.kts_spec.specs.declared.tree.Term.{Term}
use Rattle.kts_spec.specs.Ranges.{Range}
use Rattle.kts_spec.specs.Reads.{reads_of}
use Rattle.kts_spec.specs.Related.{AllOf, Pairs}
use Rattle.kts_spec.specs.Sizes.{size_of_term, size_of_formula}
use Rattle.kts_spec.specs.Typing.{Whole, MemberOf, kind_of, is_typed}

module _ (schema : Schema) (scope : List ℕ) where
  pub record TypedLiteral (l : Literal) : Type 0 where
    pub typed : is_typed schema l.formula scope ≡ true
    pub flat : (size_of_formula l.formula).depth ≤ most_depth

  -- an addend of a sum, with either sign
  pub record TypedAddend (a : Bool × Term) : Type 0 where
    pub range : Range
    pub typed : kind_of schema a.1 scope ≡ Some (Whole range)
    pub flat : (size_of_term a.1).depth ≤ most_depth

  pub record TypedSum (addends : List (Bool × Term)) : Type 0 where
    pub each : AllOf TypedAddend addends
    pub few : length addends ≤ suc most_addends

  -- a side of a comparison of members
  pub record TypedSide (index : ℕ) (t : Term) : Type 0 where
    pub typed : kind_of schema t scope ≡ Some (MemberOf index)
    pub flat : (size_of_term t).depth ≤ most_depth

  -- an argument of a head
  pub record TypedArgument (index : ℕ) (t : Term) : Type 0 where
    pub typed : kind_of schema t scope ≡ Some (MemberOf index)
    pub fixed : reads_of t ≡ []
    pub flat : (size_of_term t).depth ≤ most_depth

  -- a bound for an operation on a cell of a type
  abbrev pub TypedBound : Op → ValueType → Bound → Type 0
  TypedBound AtLeast (Int lo hi) (Rest addends) = TypedSum addends
  TypedBound AtMost (Int lo hi) (Rest addends) = TypedSum addends
  TypedBound Within (Member i) (Side t) = TypedSide i t
  TypedBound Without (Member i) (Side t) = TypedSide i t
  TypedBound op kind bound = ⊥

  pub record TypedHead (h : Head) : Type 0 where
    pub family : Family
    pub there : slice_get schema.choices h.choice ≡ Some family
    pub args : Pairs TypedArgument family.args h.args
    pub bound : TypedBound h.op family.kind h.bound

pub record TypedConstraint (schema : Schema) (c : Constraint) : Type 0 where
  pub few : length c.prefix ≤ most_variables
  pub others : AllOf (TypedLiteral schema c.prefix) c.others
  pub head : TypedHead schema c.prefix c.head
