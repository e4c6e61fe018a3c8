-- The first formula that a schedule breaks.
use Rattle.std.specs.Prelude.{◌≡◌, ◌↔◌, ℕ, ℤ, List, [], not, Option, None}
use Rattle.std.specs.List.{Contains, position}
use Rattle.kts_spec.specs.declared.instance.Instance.{Instance}
use Rattle.kts_spec.specs.declared.spec.Spec.{Spec}
use Rattle.kts_spec.specs.Answers.{answer, formulas_of}
use Rattle.kts_spec.specs.Meaning.{truth_on}
use Rattle.kts_spec.specs.Schedules.{schedules}
use Rattle.kts_spec.specs.Worlds.{world_of}

-- the number of the first formula that is false on a schedule
abbrev pub first_broken : Spec → Instance → List ℤ → Option ℕ
first_broken spec inst schedule = position (λ p. not (truth_on (world_of spec.schema inst) schedule p [])) (formulas_of spec)

-- a schedule breaks no formula exactly where it is one of the answer
abbrev pub KeptAreAnswers : Type 0
KeptAreAnswers =
    (spec : Spec) (inst : Instance) (schedule : List ℤ) → Contains (schedules (world_of spec.schema inst)) schedule
    → (first_broken spec inst schedule ≡ None) ↔ Contains (answer spec inst) schedule
