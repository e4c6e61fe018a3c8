use Rattle.std.proofs.Common.{◌∙◌, sym, [], not}
use Rattle.std.proofs.lemmas.Iterator.Adapters.{position_from-zero}
use Rattle.kts_spec.specs.Answers.{is_kept, formulas_of}
use Rattle.kts_spec.specs.Meaning.{truth_on}
use Rattle.kts_spec.specs.Schedules.{schedules}
use Rattle.kts_spec.specs.Worlds.{world_of}
use Rattle.kts_mean.proofs.Kept.{all_pass, none_breaks, passes, stays}
use Rattle.kts_mean.proofs.law.kept_law.Goals as goal

pub returns : goal.returns
returns c spec inst schedule among =
    let w = world_of spec.schema inst in
    let same = position_from-zero (λ p. not (truth_on w schedule p [])) (formulas_of spec) in (
      (λ none. stays (is_kept w (formulas_of spec)) (schedules w) among.0 schedule among.1 among.2 (all_pass (λ p. truth_on w schedule p []) 0 (formulas_of spec) (sym same ∙ none))),
      (λ kept. same ∙ none_breaks (λ p. truth_on w schedule p []) 0 (formulas_of spec) (passes (is_kept w (formulas_of spec)) (schedules w) kept.0 schedule kept.1 kept.2)),
    )
