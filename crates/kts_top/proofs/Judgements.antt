-- The formula that a schedule breaks first is one of the specification, and so has a name.
use Rattle.std.specs.Prelude.{ℤ, IfSome}
use Rattle.std.proofs.Common.{◌≡◌, sym, ℕ, ◌<◌, arith, List, [], length, Option, Some, None}
use Rattle.std.proofs.lemmas.List.{length-map}
use Rattle.std.proofs.lemmas.List.Quantifiers.{position-Some}
use Rattle.kts_mean.specs.Broken.{first_broken}
use Rattle.kts_spec.specs.declared.instance.Instance.{Instance}
use Rattle.kts_spec.specs.declared.spec.Spec.{Spec}
use Rattle.kts_spec.specs.declared.tree.Formula.TheVariants.{And}
use Rattle.kts_spec.specs.Answers.{formulas_of}

-- its number is that of a formula
pub broken_within : (spec : Spec) (inst : Instance) (schedule : List ℤ) (broken : Option ℕ) → broken ≡ first_broken spec inst schedule
    → IfSome broken (λ k. k < length spec.formulas)
broken_within spec inst schedule None e = tt
broken_within spec inst schedule (Some k) e =
    let within : k < length (formulas_of spec) = (position-Some _ (formulas_of spec) k (And []) (sym e)).0 in
    omega (arith, within, length-map spec.formulas (λ f. f.1))
