use Rattle.std.proofs.Common.{◌≡◌, ◌+◌, ◌*◌, ◌-◌, pos, length, map, fold, ◌+ℤ◌, [], ◌∷◌, ◌++◌, drop, max, if◌then◌else◌}
use Rattle.std.specs.List.{list_all, list_any, range_with_len}
use Rattle.kts_spec.specs.declared.tree.Formula.{size-Formula}
use Rattle.kts_spec.specs.declared.tree.Term.{size-Term}
use Rattle.kts_spec.specs.declared.tree.Term.TheVariants as term
use Rattle.kts_spec.specs.MeaningEquations.{for_all, for_some, total}
use Rattle.kts_spec.specs.Worlds.{size_of}
use Rattle.kts_mean.specs.Bounds.{Near}
use Rattle.kts_mean.specs.Evaluation.{world_in, value_in, values_in, truth_in}
use Rattle.kts_mean.proofs.evaluator.Evaluator.+meaning.Given as goal

abbrev pub decreases-value : goal.decreases-value
decreases-value l = 16 * goal.size-value l

abbrev pub decreases-truth : goal.decreases-truth
decreases-truth l = 16 * goal.size-truth l

abbrev pub decreases-two_values : goal.decreases-two_values
decreases-two_values l = 16 * goal.size-two_values l + 1

abbrev pub decreases-place_of : goal.decreases-place_of
decreases-place_of l = 16 * goal.size-place_of l + 1

abbrev pub decreases-sum_of : goal.decreases-sum_of
decreases-sum_of l = 16 * goal.size-sum_of l + 1

abbrev pub decreases-sum_over : goal.decreases-sum_over
decreases-sum_over l = 16 * max (size-Formula l.p.now) (size-Term l.a.now) + 2

abbrev pub decreases-gated_value : goal.decreases-gated_value
decreases-gated_value l = 16 * max (size-Formula l.p.now) (size-Term l.a.now) + 1

abbrev pub decreases-all_true : goal.decreases-all_true
decreases-all_true l = 16 * goal.size-all_true l + 1

abbrev pub decreases-any_true : goal.decreases-any_true
decreases-any_true l = 16 * goal.size-any_true l + 1

abbrev pub decreases-true_for_all : goal.decreases-true_for_all
decreases-true_for_all l = 16 * goal.size-true_for_all l + 1 + (length l.indexes.now - l.at)

abbrev pub decreases-true_for_some : goal.decreases-true_for_some
decreases-true_for_some l = 16 * goal.size-true_for_some l + 1 + (length l.indexes.now - l.at)

-- the total is small, and with what is left to add gives the sum
abbrev pub invariant-sum_of-loop-term : goal.invariant-sum_of-loop-term
invariant-sum_of-loop-term l =
    record {
      near : Near l.term-index l.total;
      left : fold ◌+ℤ◌ l.total (values_in l.self (drop l.term-index l.terms) l.scope) ≡ total (values_in l.self l.terms l.scope);
    }

abbrev pub invariant-sum_over-loop-member : goal.invariant-sum_over-loop-member
invariant-sum_over-loop-member l =
    record {
      near : Near l.member l.total;
      left : fold ◌+ℤ◌ l.total (map (λ m. if truth_in l.self l.p (l.scope ++ m ∷ []) then value_in l.self l.a (l.scope ++ m ∷ []) else pos 0) (range_with_len l.member (l.count - l.member)))
          ≡ value_in l.self (term.Sum l.index l.p l.a) l.scope;
    }

-- what is left to test gives the answer
abbrev pub invariant-all_true-loop-formula : goal.invariant-all_true-loop-formula
invariant-all_true-loop-formula l =
    list_all (λ p. truth_in l.self p l.scope) (drop l.formula-index l.formulas) ≡ list_all (λ p. truth_in l.self p l.scope) l.formulas

abbrev pub invariant-any_true-loop-formula : goal.invariant-any_true-loop-formula
invariant-any_true-loop-formula l =
    list_any (λ p. truth_in l.self p l.scope) (drop l.formula-index l.formulas) ≡ list_any (λ p. truth_in l.self p l.scope) l.formulas

abbrev pub invariant-true_for_all-loop-member : goal.invariant-true_for_all-loop-member
invariant-true_for_all-loop-member l =
    list_all (λ m. for_all (map (size_of (world_in l.self)) (drop (l.at + 1) l.indexes)) (truth_in l.self l.p) (l.scope ++ m ∷ [])) (range_with_len l.member (l.count - l.member))
    ≡ for_all (map (size_of (world_in l.self)) (drop l.at l.indexes)) (truth_in l.self l.p) l.scope

abbrev pub invariant-true_for_some-loop-member : goal.invariant-true_for_some-loop-member
invariant-true_for_some-loop-member l =
    list_any (λ m. for_some (map (size_of (world_in l.self)) (drop (l.at + 1) l.indexes)) (truth_in l.self l.p) (l.scope ++ m ∷ [])) (range_with_len l.member (l.count - l.member))
    ≡ for_some (map (size_of (world_in l.self)) (drop l.at l.indexes)) (truth_in l.self l.p) l.scope
