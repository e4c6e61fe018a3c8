-- The code and the weight of each form, one level at a time.
use Rattle.std.proofs.Common.{◌≡◌, ℕ}
use Rattle.kts_spec.specs.declared.tree.Term.{Term, roll-Term}
use Rattle.kts_spec.specs.declared.tree.Formula.{Formula, roll-Formula}
use Rattle.kts_spec.specs.declared.tree.Formula.TheOpen.{Term-F, Formula-F}
use Rattle.kts_spec.specs.declared.tree.Formula.TheFolds.{fold-roll-Term, fold-roll-Formula, map-Term, map-Formula}
use Rattle.kts_emit.specs.Fragments.{Fragment}
use Rattle.kts_emit.specs.Codes.{term_step, formula_step, term_code, formula_code}
use Rattle.kts_emit.specs.Weights.{term_weight, formula_weight, weight_of_term, weight_of_formula}

pub term_code-roll : (x : Term-F Formula Term)
    → term_code (roll-Term x)
    ≡ term_step (map-Term Formula Term Fragment Fragment formula_code term_code x)
unfolding term_code formula_code
term_code-roll x = fold-roll-Term Fragment Fragment formula_step term_step x

pub formula_code-roll : (x : Formula-F Formula Term)
    → formula_code (roll-Formula x)
    ≡ formula_step (map-Formula Formula Term Fragment Fragment formula_code term_code x)
unfolding term_code formula_code
formula_code-roll x = fold-roll-Formula Fragment Fragment formula_step term_step x

module _ (size : ℕ → ℕ) where
  pub weight_of_term-roll : (x : Term-F Formula Term)
      → weight_of_term size (roll-Term x)
      ≡ term_weight size (map-Term Formula Term ℕ ℕ (weight_of_formula size) (weight_of_term size) x)
  unfolding weight_of_term weight_of_formula
  weight_of_term-roll x = fold-roll-Term ℕ ℕ (formula_weight size) (term_weight size) x

  pub weight_of_formula-roll : (x : Formula-F Formula Term)
      → weight_of_formula size (roll-Formula x)
      ≡ formula_weight size (map-Formula Formula Term ℕ ℕ (weight_of_formula size) (weight_of_term size) x)
  unfolding weight_of_term weight_of_formula
  weight_of_formula-roll x = fold-roll-Formula ℕ ℕ (formula_weight size) (term_weight size) x
