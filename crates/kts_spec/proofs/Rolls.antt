-- Each fold over terms and formulas, one level at a time.
use Rattle.std.proofs.Common.{◌≡◌, ℕ, List, Bool, Option}
use Rattle.kts_spec.specs.declared.schema.Schema.{Schema}
use Rattle.kts_spec.specs.declared.tree.Term.{Term, roll-Term}
use Rattle.kts_spec.specs.declared.tree.Formula.{Formula, roll-Formula}
use Rattle.kts_spec.specs.declared.tree.Formula.TheOpen.{Term-F, Formula-F}
use Rattle.kts_spec.specs.declared.tree.Formula.TheFolds.{fold-roll-Term, fold-roll-Formula, para-roll-Term, para-roll-Formula, map-Term, map-Formula}
use Rattle.kts_spec.specs.Addends.{Addend, term_addends, formula_addends, addends}
use Rattle.kts_spec.specs.Comparisons.{ComparisonInScope, term_comparisons, formula_comparisons, comparisons_of, comparisons_in}
use Rattle.kts_spec.specs.Domain.{Domain, value, truth, term_step, formula_step}
use Rattle.kts_spec.specs.Reads.{Access, term_reads, formula_reads, reads_of, reads_in}
use Rattle.kts_spec.specs.Sizes.{Size, term_size, formula_size, size_of_term, size_of_formula, term_prefix, formula_prefix, has_short_prefixes}
use Rattle.kts_spec.specs.Typing.{Kind, term_kind, formula_typed, kind_of, is_typed}

module _ {T B : Type 0} (size : ℕ → ℕ) (d : Domain T B) where
  pub value-roll : (x : Term-F Formula Term) → value size d (roll-Term x) ≡ term_step size d (map-Term Formula Term (List ℕ → B) (List ℕ → T) (truth size d) (value size d) x)
  unfolding value truth
  value-roll x = fold-roll-Term (List ℕ → B) (List ℕ → T) (formula_step size d) (term_step size d) x

  pub truth-roll : (x : Formula-F Formula Term) → truth size d (roll-Formula x) ≡ formula_step size d (map-Formula Formula Term (List ℕ → B) (List ℕ → T) (truth size d) (value size d) x)
  unfolding value truth
  truth-roll x = fold-roll-Formula (List ℕ → B) (List ℕ → T) (formula_step size d) (term_step size d) x

module _ (schema : Schema) where
  pub kind_of-roll : (x : Term-F Formula Term) → kind_of schema (roll-Term x) ≡ term_kind schema (map-Term Formula Term (List ℕ → Bool) (List ℕ → Option Kind) (is_typed schema) (kind_of schema) x)
  unfolding kind_of is_typed
  kind_of-roll x = fold-roll-Term (List ℕ → Bool) (List ℕ → Option Kind) (formula_typed schema) (term_kind schema) x

  pub is_typed-roll : (x : Formula-F Formula Term) → is_typed schema (roll-Formula x) ≡ formula_typed schema (map-Formula Formula Term (List ℕ → Bool) (List ℕ → Option Kind) (is_typed schema) (kind_of schema) x)
  unfolding kind_of is_typed
  is_typed-roll x = fold-roll-Formula (List ℕ → Bool) (List ℕ → Option Kind) (formula_typed schema) (term_kind schema) x

pub size_of_term-roll : (x : Term-F Formula Term) → size_of_term (roll-Term x) ≡ term_size (map-Term Formula Term Size Size size_of_formula size_of_term x)
unfolding size_of_term size_of_formula
size_of_term-roll x = fold-roll-Term Size Size formula_size term_size x

pub size_of_formula-roll : (x : Formula-F Formula Term) → size_of_formula (roll-Formula x) ≡ formula_size (map-Formula Formula Term Size Size size_of_formula size_of_term x)
unfolding size_of_term size_of_formula
size_of_formula-roll x = fold-roll-Formula Size Size formula_size term_size x

pub reads_of-roll : (x : Term-F Formula Term) → reads_of (roll-Term x) ≡ term_reads (map-Term Formula Term (Formula × List Access) (Term × List Access) (λ p. (p, reads_in p)) (λ t. (t, reads_of t)) x)
unfolding reads_of reads_in
reads_of-roll x = para-roll-Term (List Access) (List Access) formula_reads term_reads x

pub reads_in-roll : (x : Formula-F Formula Term) → reads_in (roll-Formula x) ≡ formula_reads (map-Formula Formula Term (Formula × List Access) (Term × List Access) (λ p. (p, reads_in p)) (λ t. (t, reads_of t)) x)
unfolding reads_of reads_in
reads_in-roll x = para-roll-Formula (List Access) (List Access) formula_reads term_reads x

pub has_short_prefixes-roll : (x : Formula-F Formula Term) → has_short_prefixes (roll-Formula x) ≡ formula_prefix (map-Formula Formula Term (ℕ → Bool) (Unit {0}) has_short_prefixes (λ _. tt) x)
unfolding has_short_prefixes
has_short_prefixes-roll x = fold-roll-Formula (ℕ → Bool) (Unit {0}) formula_prefix term_prefix x

pub comparisons_of-roll : (x : Term-F Formula Term) → comparisons_of (roll-Term x) ≡ term_comparisons (map-Term Formula Term (Formula × (List ℕ → List ComparisonInScope)) (Term × (List ℕ → List ComparisonInScope)) (λ p. (p, comparisons_in p)) (λ t. (t, comparisons_of t)) x)
unfolding comparisons_of comparisons_in
comparisons_of-roll x = para-roll-Term (List ℕ → List ComparisonInScope) (List ℕ → List ComparisonInScope) formula_comparisons term_comparisons x

pub comparisons_in-roll : (x : Formula-F Formula Term) → comparisons_in (roll-Formula x) ≡ formula_comparisons (map-Formula Formula Term (Formula × (List ℕ → List ComparisonInScope)) (Term × (List ℕ → List ComparisonInScope)) (λ p. (p, comparisons_in p)) (λ t. (t, comparisons_of t)) x)
unfolding comparisons_of comparisons_in
comparisons_in-roll x = para-roll-Formula (List ℕ → List ComparisonInScope) (List ℕ → List ComparisonInScope) formula_comparisons term_comparisons x

pub addends-roll : (x : Term-F Formula Term) → addends (roll-Term x) ≡ term_addends (map-Term Formula Term (Formula × Unit {0}) (Term × List Addend) (λ p. (p, tt)) (λ t. (t, addends t)) x)
unfolding addends
addends-roll x = para-roll-Term (Unit {0}) (List Addend) formula_addends term_addends x
