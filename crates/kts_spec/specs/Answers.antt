-- The answer of a specification on data.
use Rattle.std.specs.Prelude.{ℤ, List, [], map, filter, Bool}
use Rattle.std.specs.List.{list_all}
use Rattle.kts_spec.specs.declared.instance.Instance.{Instance}
use Rattle.kts_spec.specs.declared.spec.Spec.{Spec}
use Rattle.kts_spec.specs.declared.tree.Formula.{Formula}
use Rattle.kts_spec.specs.Meaning.{truth_on}
use Rattle.kts_spec.specs.Schedules.{schedules}
use Rattle.kts_spec.specs.Worlds.{World, world_of}

-- whether every formula is true on a schedule
abbrev pub is_kept : World → List Formula → List ℤ → Bool
is_kept w formulas schedule = list_all (λ p. truth_on w schedule p []) formulas

-- all schedules on which these formulas are true, in order
abbrev pub kept_of : World → List Formula → List (List ℤ)
kept_of w formulas = filter (is_kept w formulas) (schedules w)

-- the formulas without their names
abbrev pub formulas_of : Spec → List Formula
formulas_of spec = map (λ f. f.1) spec.formulas

-- all schedules on which every formula of the specification is true, in order
abbrev pub answer : Spec → Instance → List (List ℤ)
answer spec inst = kept_of (world_of spec.schema inst) (formulas_of spec)
