use Rattle.std.proofs.Common.{◌≡◌, take}
use Rattle.kts_spec.proofs.+copies.Given as goal

abbrev pub invariant-copies::copy_formulas-loop-formula : goal.invariant-copies::copy_formulas-loop-formula
invariant-copies::copy_formulas-loop-formula l = l.copies ≡ take l.formula-index l.formulas

abbrev pub invariant-copies::copy_terms-loop-term : goal.invariant-copies::copy_terms-loop-term
invariant-copies::copy_terms-loop-term l = l.copies ≡ take l.term-index l.terms
