-- Whether bodies may stand in well formed code.
use Rattle.std.specs.Prelude.{◌≡◌, ◌≤◌, ◌<◌, ℕ, ◌+◌, length, slice_get, true, Some}
use Rattle.std.specs.List.{list_all}
use Rattle.kts_code.specs.WellFormed.{is_instr}
use Rattle.kts_plan.specs.Constraints.{Constraint, constraints_of}
use Rattle.kts_plan.specs.Plans.{clauses_of_spec}
use Rattle.kts_spec.specs.declared.schema.Schema.{Schema}
use Rattle.kts_spec.specs.declared.spec.Spec.{Spec}
use Rattle.kts_emit.specs.Bodies.{body_code}
use Rattle.kts_emit.specs.BodyRuns.{HasDeclarations}

-- each instruction of the body of each constraint of a specification is well formed, in code of so many places that has the
-- body and its labels
abbrev pub BodiesAreWellFormed : Type 0
BodiesAreWellFormed =
    (spec : Spec) (schema : Schema) → HasDeclarations spec schema
    → (d : ℕ) (c : Constraint) → slice_get (constraints_of (clauses_of_spec spec)) d ≡ Some c
    → (done fail place places : ℕ) → done < places → fail < places → place + length (body_code c done fail place (length c.prefix)) ≤ places
    → list_all (is_instr schema places) (body_code c done fail place (length c.prefix)) ≡ true
