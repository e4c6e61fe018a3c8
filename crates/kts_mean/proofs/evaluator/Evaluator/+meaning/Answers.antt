use Rattle.std.proofs.Common.{rules, arith, ◌≡◌, sym, ◌∙◌, ap, subst, ◌<◌, ◌≤◌, ◌+◌, [], true, false, not, ◌||◌, length, map, ◌∷◌, ◌++◌, drop, Some, ℕ, pos, nat_abs, slice_index_or, w64}
use Rattle.std.proofs.lemmas.Int.{ints, to_z-of_z}
use mir.Val.{SFits}
use Rattle.kts_base.specs.Limits.{most_parts, most_variables}
use Rattle.kts_spec.specs.MeaningEquations.{for_all, for_some}
use Rattle.kts_spec.specs.Worlds.{size_of}
use Rattle.kts_spec.specs.declared.tree.Formula.{the_lemmas}
use Rattle.kts_spec.specs.declared.tree.Formula.TheVariants as formula
use Rattle.kts_spec.specs.declared.tree.Term.{Term}
use Rattle.kts_spec.specs.declared.tree.Term.TheVariants as term
use Rattle.kts_spec.proofs.Conditions.{instance_facts}
use Rattle.kts_spec.proofs.Meanings.{value_on-Number, value_on-Var, value_on-Add, truth_on-And, truth_on-Or, truth_on-Not, truth_on-Implies, truth_on-Forall, truth_on-Exists}
use Rattle.kts_mean.specs.Bounds.{Near}
use Rattle.kts_mean.specs.Evaluation.{world_in, value_in, truth_in, TermIn, FormulaIn, BodyIn}
use Rattle.kts_mean.proofs.EvaluatorFacts.{kept, some_left, all_item, drop_here, drop_next, range_here, all_step, any_step, near_more, near_fits, near_gated, same_tables, returned, answered, given_value, choice_value, sub_value, mul_value, min_value, max_value, compare_value, sum_begins, as_many, member_at, place_of_one, place_of_two}
use Rattle.kts_mean.proofs.TermParts.{add_parts, sub_parts, mul_parts, min_parts, max_parts, sum_parts, and_formulas, or_formulas, not_formula, implies_formulas, compare_terms, forall_body, exists_body, body_step}
use Rattle.kts_mean.proofs.TermValues as values
use Rattle.kts_mean.proofs.evaluator.Evaluator.+meaning.Goals as goal

pub place_of-bounds-args-0 : goal.place_of-bounds-args-0
place_of-bounds-args-0 t c =
    let self = c.args.self.now in
    let vars = c.args.scope.now in
    let same = as_many self vars c.args.indexes.now c.args.args.now c.requires.members in
    let some = some_left (length c.args.indexes.now) c.if-is_empty.ensures in
    omega (arith, same, some)

pub place_of-value-requires : goal.place_of-value-requires
place_of-value-requires t c =
    let self = c.args.self.now in
    let vars = c.args.scope.now in
    let same = as_many self vars c.args.indexes.now c.args.args.now c.requires.members in
    let some = some_left (length c.args.indexes.now) c.if-is_empty.ensures in
    let there : 0 < length c.args.args.now = omega (arith, same, some) in
    (search (rules, the_lemmas), all_item (TermIn self vars) c.args.args.now 0 c.index-args-0.result c.requires.args there c.index-args-0.is)

pub place_of-as_member-first-requires-clause-not_below : goal.place_of-as_member-first-requires-clause-not_below
place_of-as_member-first-requires-clause-not_below t c =
    let self = c.args.self.now in
    let vars = c.args.scope.now in
    let same = as_many self vars c.args.indexes.now c.args.args.now c.requires.members in
    let some = some_left (length c.args.indexes.now) c.if-is_empty.ensures in
    let there : 0 < length c.args.args.now = omega (arith, same, some) in
    rw (kept c.value.result c.value.type_inv, c.value.ensures) (member_at self vars c.args.indexes.now c.args.args.now 0 c.index-args-0.result c.requires.members there c.index-args-0.is).0

pub place_of-as_member-first-requires-clause-small : goal.place_of-as_member-first-requires-clause-small
place_of-as_member-first-requires-clause-small t c =
    let self = c.args.self.now in
    let vars = c.args.scope.now in
    let same = as_many self vars c.args.indexes.now c.args.args.now c.requires.members in
    let some = some_left (length c.args.indexes.now) c.if-is_empty.ensures in
    let there : 0 < length c.args.args.now = omega (arith, same, some) in
    rw (kept c.value.result c.value.type_inv, c.value.ensures) (member_at self vars c.args.indexes.now c.args.args.now 0 c.index-args-0.result c.requires.members there c.index-args-0.is).1

pub place_of-returns-then-indexes-eq1 : goal.place_of-returns-then-indexes-eq1
place_of-returns-then-indexes-eq1 t c =
    let self = c.args.self.now in
    let vars = c.args.scope.now in
    let first = c.as_member-first.ensures.value ∙ ap nat_abs (kept c.value.result c.value.type_inv ∙ c.value.ensures) in
    place_of_one self vars c.args.indexes.now c.args.args.now c.index-args-0.result c.requires.members c.if-indexes-eq1.true c.index-args-0.is ∙ ap (λ n. Some n) (sym first)

pub place_of-bounds-args-1 : goal.place_of-bounds-args-1
place_of-bounds-args-1 t c =
    let self = c.args.self.now in
    let vars = c.args.scope.now in
    let same = as_many self vars c.args.indexes.now c.args.args.now c.requires.members in
    let some = some_left (length c.args.indexes.now) c.if-is_empty.ensures in
    let more = c.if-indexes-eq1.false in
    let there : 1 < length c.args.args.now = omega (arith, same, some, more) in
    there

pub place_of-value-requires-2 : goal.place_of-value-requires-2
place_of-value-requires-2 t c =
    let self = c.args.self.now in
    let vars = c.args.scope.now in
    let same = as_many self vars c.args.indexes.now c.args.args.now c.requires.members in
    let some = some_left (length c.args.indexes.now) c.if-is_empty.ensures in
    let more = c.if-indexes-eq1.false in
    let there : 1 < length c.args.args.now = omega (arith, same, some, more) in
    (search (rules, the_lemmas), all_item (TermIn self vars) c.args.args.now 1 c.index-args-1.result c.requires.args there c.index-args-1.is)

pub place_of-as_member-second-requires-clause-not_below : goal.place_of-as_member-second-requires-clause-not_below
place_of-as_member-second-requires-clause-not_below t c =
    let self = c.args.self.now in
    let vars = c.args.scope.now in
    let same = as_many self vars c.args.indexes.now c.args.args.now c.requires.members in
    let some = some_left (length c.args.indexes.now) c.if-is_empty.ensures in
    let more = c.if-indexes-eq1.false in
    let there : 1 < length c.args.args.now = omega (arith, same, some, more) in
    rw (kept c.value-2.result c.value-2.type_inv, c.value-2.ensures) (member_at self vars c.args.indexes.now c.args.args.now 1 c.index-args-1.result c.requires.members there c.index-args-1.is).0

pub place_of-as_member-second-requires-clause-small : goal.place_of-as_member-second-requires-clause-small
place_of-as_member-second-requires-clause-small t c =
    let self = c.args.self.now in
    let vars = c.args.scope.now in
    let same = as_many self vars c.args.indexes.now c.args.args.now c.requires.members in
    let some = some_left (length c.args.indexes.now) c.if-is_empty.ensures in
    let more = c.if-indexes-eq1.false in
    let there : 1 < length c.args.args.now = omega (arith, same, some, more) in
    rw (kept c.value-2.result c.value-2.type_inv, c.value-2.ensures) (member_at self vars c.args.indexes.now c.args.args.now 1 c.index-args-1.result c.requires.members there c.index-args-1.is).1

pub place_of-returns : goal.place_of-returns
place_of-returns t c =
    let self = c.args.self.now in
    let vars = c.args.scope.now in
    let some = some_left (length c.args.indexes.now) c.if-is_empty.ensures in
    let more = c.if-indexes-eq1.false in
    let few = c.requires.few in
    let two : length c.args.indexes.now ≡ 2 = omega (arith, some, more, few) in
    let first = c.as_member-first.ensures.value ∙ ap nat_abs (kept c.value.result c.value.type_inv ∙ c.value.ensures) in
    let second = c.as_member-second.ensures.value ∙ ap nat_abs (kept c.value-2.result c.value-2.type_inv ∙ c.value-2.ensures) in
    let sum = rw (first, c.size.ensures.value, second) at c.place_of_pair.ensures in
    place_of_two self vars c.args.indexes.now c.args.args.now c.index-args-0.result c.index-args-1.result c.requires.members two c.index-args-0.is c.index-args-1.is ∙ ap (λ n. Some n) (sym sum)

pub sum_of-plus-total-requires : goal.sum_of-plus-total-requires
sum_of-plus-total-requires t c =
    let self = c.args.self.now in
    let vars = c.args.scope.now in
    let v = values.value_near self.schema.now self.inst.now self.schedule.now self.valid self.stands vars c.term-item.result (all_item (TermIn self vars) c.args.terms.now c.loop-term.term-index c.term-item.result c.requires.parts c.loop-term-test.true c.term-item.is) in
    let few = c.requires.few in
    let here = c.loop-term-test.true in
    rw (kept c.value.result c.value.type_inv, c.value.ensures) (near_fits (c.loop-term.term-index + 1) most_parts _ (omega (arith, few, here)) (near_more c.loop-term.term-index _ _ c.loop-term.invariant.near v))

pub sum_of-loop-term-preserved : goal.sum_of-loop-term-preserved
sum_of-loop-term-preserved t c =
    let self = c.args.self.now in
    let vars = c.args.scope.now in
    let v = values.value_near self.schema.now self.inst.now self.schedule.now self.valid self.stands vars c.term-item.result (all_item (TermIn self vars) c.args.terms.now c.loop-term.term-index c.term-item.result c.requires.parts c.loop-term-test.true c.term-item.is) in
    let e = drop_here c.args.terms.now c.loop-term.term-index c.term-item.result c.loop-term-test.true c.term-item.is in
    let k = kept c.value.result c.value.type_inv in
    let n = kept c.plus-total.result c.plus-total.type_inv in
    record {
      near = rw (n, c.plus-total.ensures, k, c.value.ensures) (near_more c.loop-term.term-index _ _ c.loop-term.invariant.near v);
      left = rw (n, c.plus-total.ensures, k, c.value.ensures) (rw e at c.loop-term.invariant.left);
    }

pub sum_over-size-count-requires : goal.sum_over-size-count-requires
sum_over-size-count-requires t c =
    let self = c.args.self.now in
    let vars = c.args.scope.now in
    (sum_parts self.schema.now self.inst.now vars c.args.index c.args.p.now c.args.a.now c.requires).declared

pub sum_over-loop-member-init : goal.sum_over-loop-member-init
sum_over-loop-member-init t c =
    let self = c.args.self.now in
    let vars = c.args.scope.now in
    record { near = (omega (arith, ints), omega (arith, ints)); left = sum_begins self vars c.args.index c.args.p.now c.args.a.now c.size-count.result c.size-count.ensures.value }

pub sum_over-with-inner-requires : goal.sum_over-with-inner-requires
sum_over-with-inner-requires t c =
    let self = c.args.self.now in
    let vars = c.args.scope.now in
    (sum_parts self.schema.now self.inst.now vars c.args.index c.args.p.now c.args.a.now c.requires).room

pub sum_over-gated_value-requires : goal.sum_over-gated_value-requires
sum_over-gated_value-requires t c =
    let self = c.args.self.now in
    let vars = c.args.scope.now in
    let here = subst (λ n. c.loop-member.member < n) c.size-count.ensures.value c.loop-member-test.true in
    let s = sum_parts self.schema.now self.inst.now vars c.args.index c.args.p.now c.args.a.now c.requires in
    (search (rules, the_lemmas), rw c.with-inner.ensures (s.gate c.loop-member.member here, s.each c.loop-member.member here))

pub sum_over-plus-total-requires : goal.sum_over-plus-total-requires
sum_over-plus-total-requires t c =
    let self = c.args.self.now in
    let vars = c.args.scope.now in
    let here = subst (λ n. c.loop-member.member < n) c.size-count.ensures.value c.loop-member-test.true in
    let v = near_gated (truth_in self c.args.p.now (vars ++ c.loop-member.member ∷ [])) _ (values.value_near self.schema.now self.inst.now self.schedule.now self.valid self.stands (vars ++ c.loop-member.member ∷ []) c.args.a.now ((sum_parts self.schema.now self.inst.now vars c.args.index c.args.p.now c.args.a.now c.requires).each c.loop-member.member here)) in
    let few = c.size-count.ensures.few in
    let before = c.loop-member-test.true in
    rw (kept c.gated_value.result c.gated_value.type_inv, c.gated_value.ensures, c.with-inner.ensures) (near_fits (c.loop-member.member + 1) most_parts _ (omega (arith, few, before)) (near_more c.loop-member.member _ _ c.loop-member.invariant.near v))

pub sum_over-loop-member-preserved : goal.sum_over-loop-member-preserved
sum_over-loop-member-preserved t c =
    let self = c.args.self.now in
    let vars = c.args.scope.now in
    let here = subst (λ n. c.loop-member.member < n) c.size-count.ensures.value c.loop-member-test.true in
    let v = near_gated (truth_in self c.args.p.now (vars ++ c.loop-member.member ∷ [])) _ (values.value_near self.schema.now self.inst.now self.schedule.now self.valid self.stands (vars ++ c.loop-member.member ∷ []) c.args.a.now ((sum_parts self.schema.now self.inst.now vars c.args.index c.args.p.now c.args.a.now c.requires).each c.loop-member.member here)) in
    let e = range_here c.loop-member.member c.size-count.result c.loop-member-test.true in
    let k = kept c.gated_value.result c.gated_value.type_inv in
    let n = kept c.plus-total.result c.plus-total.type_inv in
    record {
      near = rw (n, c.plus-total.ensures, k, c.gated_value.ensures, c.with-inner.ensures) (near_more c.loop-member.member _ _ c.loop-member.invariant.near v);
      left = rw (n, c.plus-total.ensures, k, c.gated_value.ensures, c.with-inner.ensures) (rw e at c.loop-member.invariant.left);
    }

pub true_for_all-with-inner-requires : goal.true_for_all-with-inner-requires
true_for_all-with-inner-requires t c =
    let self = c.args.self.now in
    let vars = c.args.scope.now in
    (body_step self.schema.now self.inst.now vars (slice_index_or c.args.indexes.now c.args.at 0) (drop (c.args.at + 1) c.args.indexes.now) c.args.p.now (subst (λ is. BodyIn self vars is c.args.p.now) (drop_next c.args.indexes.now c.args.at c.if-at-indexes.false) c.requires)).room

pub true_for_all-true_for_all-requires : goal.true_for_all-true_for_all-requires
true_for_all-true_for_all-requires t c =
    let self = c.args.self.now in
    let vars = c.args.scope.now in
    let here = subst (λ n. c.loop-member.member < n) c.size-count.ensures.value c.loop-member-test.true in
    (search (rules, the_lemmas), rw c.with-inner.ensures ((body_step self.schema.now self.inst.now vars (slice_index_or c.args.indexes.now c.args.at 0) (drop (c.args.at + 1) c.args.indexes.now) c.args.p.now (subst (λ is. BodyIn self vars is c.args.p.now) (drop_next c.args.indexes.now c.args.at c.if-at-indexes.false) c.requires)).inside c.loop-member.member here))

pub true_for_all-loop-member-preserved : goal.true_for_all-loop-member-preserved
true_for_all-loop-member-preserved t c =
    let self = c.args.self.now in
    let vars = c.args.scope.now in
    let P = λ (m : ℕ). for_all (map (size_of (world_in self)) (drop (c.args.at + 1) c.args.indexes.now)) (truth_in self c.args.p.now) (vars ++ m ∷ []) in
    let one : P c.loop-member.member ≡ true = rw (← c.with-inner.ensures) (sym c.true_for_all.ensures ∙ c.if-not-true_for_all.false) in
    all_step P c.loop-member.member c.size-count.result _ c.loop-member.invariant c.loop-member-test.true one

pub true_for_some-with-inner-requires : goal.true_for_some-with-inner-requires
true_for_some-with-inner-requires t c =
    let self = c.args.self.now in
    let vars = c.args.scope.now in
    (body_step self.schema.now self.inst.now vars (slice_index_or c.args.indexes.now c.args.at 0) (drop (c.args.at + 1) c.args.indexes.now) c.args.p.now (subst (λ is. BodyIn self vars is c.args.p.now) (drop_next c.args.indexes.now c.args.at c.if-at-indexes.false) c.requires)).room

pub true_for_some-true_for_some-requires : goal.true_for_some-true_for_some-requires
true_for_some-true_for_some-requires t c =
    let self = c.args.self.now in
    let vars = c.args.scope.now in
    let here = subst (λ n. c.loop-member.member < n) c.size-count.ensures.value c.loop-member-test.true in
    (search (rules, the_lemmas), rw c.with-inner.ensures ((body_step self.schema.now self.inst.now vars (slice_index_or c.args.indexes.now c.args.at 0) (drop (c.args.at + 1) c.args.indexes.now) c.args.p.now (subst (λ is. BodyIn self vars is c.args.p.now) (drop_next c.args.indexes.now c.args.at c.if-at-indexes.false) c.requires)).inside c.loop-member.member here))

pub true_for_some-loop-member-preserved : goal.true_for_some-loop-member-preserved
true_for_some-loop-member-preserved t c =
    let self = c.args.self.now in
    let vars = c.args.scope.now in
    let P = λ (m : ℕ). for_some (map (size_of (world_in self)) (drop (c.args.at + 1) c.args.indexes.now)) (truth_in self c.args.p.now) (vars ++ m ∷ []) in
    let one : P c.loop-member.member ≡ false = rw (← c.with-inner.ensures) (sym c.true_for_some.ensures ∙ c.if-true_for_some.false) in
    any_step P c.loop-member.member c.size-count.result _ c.loop-member.invariant c.loop-member-test.true one

pub truth-value-a-requires : goal.truth-value-a-requires
truth-value-a-requires t c =
    let self = c.args.self.now in
    let vars = c.args.scope.now in
    (search (rules, the_lemmas), (compare_terms self.schema.now self.inst.now vars c.in-Compare.c c.in-Compare.a c.in-Compare.b (subst (FormulaIn self vars) c.in-Compare.is c.requires)).0)

pub truth-value-b-requires : goal.truth-value-b-requires
truth-value-b-requires t c =
    let self = c.args.self.now in
    let vars = c.args.scope.now in
    (search (rules, the_lemmas), (compare_terms self.schema.now self.inst.now vars c.in-Compare.c c.in-Compare.a c.in-Compare.b (subst (FormulaIn self vars) c.in-Compare.is c.requires)).1)

pub truth-all_true-requires : goal.truth-all_true-requires
truth-all_true-requires t c =
    let self = c.args.self.now in
    let vars = c.args.scope.now in
    (search (rules, the_lemmas), rw c.as_slice.ensures (and_formulas self.schema.now self.inst.now vars c.in-And.parts (subst (FormulaIn self vars) c.in-And.is c.requires)))

pub truth-any_true-requires : goal.truth-any_true-requires
truth-any_true-requires t c =
    let self = c.args.self.now in
    let vars = c.args.scope.now in
    (search (rules, the_lemmas), rw c.as_slice-in-Or.ensures (or_formulas self.schema.now self.inst.now vars c.in-Or.parts (subst (FormulaIn self vars) c.in-Or.is c.requires)))

pub truth-truth-requires : goal.truth-truth-requires
truth-truth-requires t c =
    let self = c.args.self.now in
    let vars = c.args.scope.now in
    (search (rules, the_lemmas), rw c.get.ensures (not_formula self.schema.now self.inst.now vars c.in-Not.p (subst (FormulaIn self vars) c.in-Not.is c.requires)))

pub truth-true_for_all-requires : goal.truth-true_for_all-requires
truth-true_for_all-requires t c =
    let self = c.args.self.now in
    let vars = c.args.scope.now in
    let body = forall_body self.schema.now self.inst.now vars c.in-Forall.indexes c.in-Forall.p (subst (FormulaIn self vars) c.in-Forall.is c.requires) in
    let few = body.few in
    let same = ap length c.as_slice-in-Forall.ensures in
    let room : length c.as_slice-in-Forall.result.now ≤ most_variables = omega (arith, few, same) in
    (search (rules, the_lemmas), rw (c.as_slice-in-Forall.ensures, c.get-in-Forall.ensures) body)

pub truth-true_for_some-requires : goal.truth-true_for_some-requires
truth-true_for_some-requires t c =
    let self = c.args.self.now in
    let vars = c.args.scope.now in
    let body = exists_body self.schema.now self.inst.now vars c.in-Exists.indexes c.in-Exists.p (subst (FormulaIn self vars) c.in-Exists.is c.requires) in
    let few = body.few in
    let same = ap length c.as_slice-in-Exists.ensures in
    let room : length c.as_slice-in-Exists.result.now ≤ most_variables = omega (arith, few, same) in
    (search (rules, the_lemmas), rw (c.as_slice-in-Exists.ensures, c.get-in-Exists.ensures) body)

pub truth-returns-in-Compare : goal.truth-returns-in-Compare
truth-returns-in-Compare t c =
    let self = c.args.self.now in
    let vars = c.args.scope.now in
    let a = kept c.value-a.result c.value-a.type_inv ∙ c.value-a.ensures in
    let b = kept c.value-b.result c.value-b.type_inv ∙ c.value-b.ensures in
    answered self vars c.args.formula.now (formula.Compare c.in-Compare.c c.in-Compare.a c.in-Compare.b) _ c.in-Compare.is ((rw (a, b) at c.compare.ensures) ∙ compare_value self vars c.in-Compare.c c.in-Compare.a c.in-Compare.b)

pub truth-returns-in-And : goal.truth-returns-in-And
truth-returns-in-And t c =
    let self = c.args.self.now in
    let vars = c.args.scope.now in
    answered self vars c.args.formula.now (formula.And c.in-And.parts) _ c.in-And.is ((rw c.as_slice.ensures at c.all_true.ensures) ∙ sym (truth_on-And (world_in self) self.schedule.now vars c.in-And.parts))

pub truth-returns-in-Or : goal.truth-returns-in-Or
truth-returns-in-Or t c =
    let self = c.args.self.now in
    let vars = c.args.scope.now in
    answered self vars c.args.formula.now (formula.Or c.in-Or.parts) _ c.in-Or.is ((rw c.as_slice-in-Or.ensures at c.any_true.ensures) ∙ sym (truth_on-Or (world_in self) self.schedule.now vars c.in-Or.parts))

pub truth-returns-in-Not : goal.truth-returns-in-Not
truth-returns-in-Not t c =
    let self = c.args.self.now in
    let vars = c.args.scope.now in
    answered self vars c.args.formula.now (formula.Not c.in-Not.p) _ c.in-Not.is (ap not (rw c.get.ensures at c.truth.ensures) ∙ sym (truth_on-Not (world_in self) self.schedule.now vars c.in-Not.p))

pub truth-returns-in-Forall : goal.truth-returns-in-Forall
truth-returns-in-Forall t c =
    let self = c.args.self.now in
    let vars = c.args.scope.now in
    answered self vars c.args.formula.now (formula.Forall c.in-Forall.indexes c.in-Forall.p) _ c.in-Forall.is ((rw (c.as_slice-in-Forall.ensures, c.get-in-Forall.ensures) at c.true_for_all.ensures) ∙ sym (truth_on-Forall (world_in self) self.schedule.now vars c.in-Forall.indexes c.in-Forall.p))

pub truth-returns-in-Exists : goal.truth-returns-in-Exists
truth-returns-in-Exists t c =
    let self = c.args.self.now in
    let vars = c.args.scope.now in
    answered self vars c.args.formula.now (formula.Exists c.in-Exists.indexes c.in-Exists.p) _ c.in-Exists.is ((rw (c.as_slice-in-Exists.ensures, c.get-in-Exists.ensures) at c.true_for_some.ensures) ∙ sym (truth_on-Exists (world_in self) self.schedule.now vars c.in-Exists.indexes c.in-Exists.p))

pub value-get-requires : goal.value-get-requires
value-get-requires t c =
    let self = c.args.self.now in
    let vars = c.args.scope.now in
    (values.variable_facts self.schema.now self.inst.now self.schedule.now self.valid self.stands vars c.in-Var.k (subst (TermIn self vars) c.in-Var.is c.requires)).there

pub value-as_number-requires : goal.value-as_number-requires
value-as_number-requires t c =
    let self = c.args.self.now in
    let vars = c.args.scope.now in
    rw c.get.ensures (values.variable_facts self.schema.now self.inst.now self.schedule.now self.valid self.stands vars c.in-Var.k (subst (TermIn self vars) c.in-Var.is c.requires)).small

pub value-given_args-indexes-requires : goal.value-given_args-indexes-requires
value-given_args-indexes-requires t c =
    let self = c.args.self.now in
    let vars = c.args.scope.now in
    (values.given_facts self.schema.now self.inst.now self.schedule.now self.valid self.stands vars c.in-Given.f c.in-Given.args (subst (TermIn self vars) c.in-Given.is c.requires)).declared

pub value-place_of-at-requires : goal.value-place_of-at-requires
value-place_of-at-requires t c =
    let self = c.args.self.now in
    let vars = c.args.scope.now in
    let f = values.given_facts self.schema.now self.inst.now self.schedule.now self.valid self.stands vars c.in-Given.f c.in-Given.args (subst (TermIn self vars) c.in-Given.is c.requires) in
    let is = c.given_args-indexes.ensures in
    let args = c.as_slice.ensures in
    (search (rules, the_lemmas), (rw args f.each, (rw (is, args) f.members, (rw is f.family.declared, rw is f.family.few))))

pub value-given-requires-clause-declared : goal.value-given-requires-clause-declared
value-given-requires-clause-declared t c =
    let self = c.args.self.now in
    let vars = c.args.scope.now in
    let here = (values.given_facts self.schema.now self.inst.now self.schedule.now self.valid self.stands vars c.in-Given.f c.in-Given.args (subst (TermIn self vars) c.in-Given.is c.requires)).declared in
    let same = same_tables (world_in self) (instance_facts self.schema.now self.inst.now self.valid).tables in
    omega (arith, here, same)

pub value-given-requires-clause-within : goal.value-given-requires-clause-within
value-given-requires-clause-within t c =
    let self = c.args.self.now in
    let vars = c.args.scope.now in
    let f = values.given_facts self.schema.now self.inst.now self.schedule.now self.valid self.stands vars c.in-Given.f c.in-Given.args (subst (TermIn self vars) c.in-Given.is c.requires) in
    let at = rw (c.given_args-indexes.ensures, c.as_slice.ensures) at c.place_of-at.ensures in
    values.place_within self.schema.now self.inst.now self.schedule.now self.valid self.stands c.in-Given.f _ c.place_of-at.result f.declared f.members at

pub value-choice_args-indexes-requires : goal.value-choice_args-indexes-requires
value-choice_args-indexes-requires t c =
    let self = c.args.self.now in
    let vars = c.args.scope.now in
    (values.choice_facts self.schema.now self.inst.now self.schedule.now self.valid self.stands vars c.in-Choice.x c.in-Choice.args (subst (TermIn self vars) c.in-Choice.is c.requires)).declared

pub value-place_of-at-requires-in-Choice : goal.value-place_of-at-requires-in-Choice
value-place_of-at-requires-in-Choice t c =
    let self = c.args.self.now in
    let vars = c.args.scope.now in
    let f = values.choice_facts self.schema.now self.inst.now self.schedule.now self.valid self.stands vars c.in-Choice.x c.in-Choice.args (subst (TermIn self vars) c.in-Choice.is c.requires) in
    let is = c.choice_args-indexes.ensures in
    let args = c.as_slice-in-Choice.ensures in
    (search (rules, the_lemmas), (rw args f.each, (rw (is, args) f.members, (rw is f.family.declared, rw is f.family.few))))

pub value-choice-requires-clause-declared : goal.value-choice-requires-clause-declared
value-choice-requires-clause-declared t c =
    let self = c.args.self.now in
    let vars = c.args.scope.now in
    (values.choice_facts self.schema.now self.inst.now self.schedule.now self.valid self.stands vars c.in-Choice.x c.in-Choice.args (subst (TermIn self vars) c.in-Choice.is c.requires)).declared

pub value-choice-requires-clause-within : goal.value-choice-requires-clause-within
value-choice-requires-clause-within t c =
    let self = c.args.self.now in
    let vars = c.args.scope.now in
    let f = values.choice_facts self.schema.now self.inst.now self.schedule.now self.valid self.stands vars c.in-Choice.x c.in-Choice.args (subst (TermIn self vars) c.in-Choice.is c.requires) in
    let at = rw (c.choice_args-indexes.ensures, c.as_slice-in-Choice.ensures) at c.place_of-at-in-Choice.ensures in
    values.cell_within self.schema.now self.inst.now self.schedule.now self.valid self.stands c.in-Choice.x _ c.place_of-at-in-Choice.result f.declared at

pub value-sum_of-requires : goal.value-sum_of-requires
value-sum_of-requires t c =
    let self = c.args.self.now in
    let vars = c.args.scope.now in
    let p = add_parts self.schema.now self.inst.now vars c.in-Add.parts (subst (TermIn self vars) c.in-Add.is c.requires) in let same = c.as_slice-in-Add.ensures in (search (rules, the_lemmas), (rw same p.each, rw same p.few))

pub value-two_values-a-requires : goal.value-two_values-a-requires
value-two_values-a-requires t c =
    let self = c.args.self.now in
    let vars = c.args.scope.now in
    let p = sub_parts self.schema.now self.inst.now vars c.in-Sub.parts (subst (TermIn self vars) c.in-Sub.is c.requires) in let same = c.as_slice-in-Sub.ensures in (search (rules, the_lemmas), (rw same p.each, rw same p.two))

pub value-minus-requires : goal.value-minus-requires
value-minus-requires t c =
    let self = c.args.self.now in
    let vars = c.args.scope.now in
    let both = rw c.as_slice-in-Sub.ensures at c.two_values-a.ensures in
    let is = sub_value self vars c.in-Sub.parts c.two_values-a.result.0 c.two_values-a.result.1 both (search rules) (search rules) in
    subst (Near 1) (sym is) (values.value_near self.schema.now self.inst.now self.schedule.now self.valid self.stands vars (term.Sub c.in-Sub.parts) (subst (TermIn self vars) c.in-Sub.is c.requires))

pub value-returns-in-Sub : goal.value-returns-in-Sub
value-returns-in-Sub t c =
    let self = c.args.self.now in
    let vars = c.args.scope.now in
    let both = rw c.as_slice-in-Sub.ensures at c.two_values-a.ensures in
    let is = sub_value self vars c.in-Sub.parts c.two_values-a.result.0 c.two_values-a.result.1 both (search rules) (search rules) in
    returned self vars c.args.term.now (term.Sub c.in-Sub.parts) c.minus.result c.minus.type_inv c.in-Sub.is (c.minus.ensures ∙ is)

pub value-two_values-a-requires-in-Mul : goal.value-two_values-a-requires-in-Mul
value-two_values-a-requires-in-Mul t c =
    let self = c.args.self.now in
    let vars = c.args.scope.now in
    let p = mul_parts self.schema.now self.inst.now vars c.in-Mul.parts (subst (TermIn self vars) c.in-Mul.is c.requires) in let same = c.as_slice-in-Mul.ensures in (search (rules, the_lemmas), (rw same p.each, rw same p.two))

pub value-times-requires : goal.value-times-requires
value-times-requires t c =
    let self = c.args.self.now in
    let vars = c.args.scope.now in
    let both = rw c.as_slice-in-Mul.ensures at c.two_values-a-in-Mul.ensures in
    let is = mul_value self vars c.in-Mul.parts c.two_values-a-in-Mul.result.0 c.two_values-a-in-Mul.result.1 both (search rules) (search rules) in
    subst (Near 1) (sym is) (values.value_near self.schema.now self.inst.now self.schedule.now self.valid self.stands vars (term.Mul c.in-Mul.parts) (subst (TermIn self vars) c.in-Mul.is c.requires))

pub value-returns-in-Mul : goal.value-returns-in-Mul
value-returns-in-Mul t c =
    let self = c.args.self.now in
    let vars = c.args.scope.now in
    let both = rw c.as_slice-in-Mul.ensures at c.two_values-a-in-Mul.ensures in
    let is = mul_value self vars c.in-Mul.parts c.two_values-a-in-Mul.result.0 c.two_values-a-in-Mul.result.1 both (search rules) (search rules) in
    returned self vars c.args.term.now (term.Mul c.in-Mul.parts) c.times.result c.times.type_inv c.in-Mul.is (c.times.ensures ∙ is)

pub value-two_values-a-requires-in-Min : goal.value-two_values-a-requires-in-Min
value-two_values-a-requires-in-Min t c =
    let self = c.args.self.now in
    let vars = c.args.scope.now in
    let p = min_parts self.schema.now self.inst.now vars c.in-Min.parts (subst (TermIn self vars) c.in-Min.is c.requires) in let same = c.as_slice-in-Min.ensures in (search (rules, the_lemmas), (rw same p.each, rw same p.two))

pub value-returns-in-Min : goal.value-returns-in-Min
value-returns-in-Min t c =
    let self = c.args.self.now in
    let vars = c.args.scope.now in
    let both = rw c.as_slice-in-Min.ensures at c.two_values-a-in-Min.ensures in
    let is = min_value self vars c.in-Min.parts c.two_values-a-in-Min.result.0 c.two_values-a-in-Min.result.1 both (search rules) (search rules) in
    returned self vars c.args.term.now (term.Min c.in-Min.parts) c.least.result c.least.type_inv c.in-Min.is (c.least.ensures ∙ is)

pub value-two_values-a-requires-in-Max : goal.value-two_values-a-requires-in-Max
value-two_values-a-requires-in-Max t c =
    let self = c.args.self.now in
    let vars = c.args.scope.now in
    let p = max_parts self.schema.now self.inst.now vars c.in-Max.parts (subst (TermIn self vars) c.in-Max.is c.requires) in let same = c.as_slice-in-Max.ensures in (search (rules, the_lemmas), (rw same p.each, rw same p.two))

pub value-returns-in-Max : goal.value-returns-in-Max
value-returns-in-Max t c =
    let self = c.args.self.now in
    let vars = c.args.scope.now in
    let both = rw c.as_slice-in-Max.ensures at c.two_values-a-in-Max.ensures in
    let is = max_value self vars c.in-Max.parts c.two_values-a-in-Max.result.0 c.two_values-a-in-Max.result.1 both (search rules) (search rules) in
    returned self vars c.args.term.now (term.Max c.in-Max.parts) c.greatest.result c.greatest.type_inv c.in-Max.is (c.greatest.ensures ∙ is)

pub value-returns-in-Number : goal.value-returns-in-Number
value-returns-in-Number t c =
    let self = c.args.self.now in
    let vars = c.args.scope.now in
    let f : SFits w64 c.in-Number.n = search rules in to_z-of_z w64 c.in-Number.n f ∙ sym (value_on-Number (world_in self) self.schedule.now vars c.in-Number.n) ∙ ap (λ (x : Term). value_in self x vars) (sym c.in-Number.is)

pub value-returns-in-Var : goal.value-returns-in-Var
value-returns-in-Var t c =
    let self = c.args.self.now in
    let vars = c.args.scope.now in
    returned self vars c.args.term.now (term.Var c.in-Var.k) c.as_number.result c.as_number.type_inv c.in-Var.is (c.as_number.ensures ∙ ap (λ n. pos n) c.get.ensures ∙ sym (value_on-Var (world_in self) self.schedule.now vars c.in-Var.k))

pub value-returns-in-Given : goal.value-returns-in-Given
value-returns-in-Given t c =
    let self = c.args.self.now in
    let vars = c.args.scope.now in
    let at = rw (c.given_args-indexes.ensures, c.as_slice.ensures) at c.place_of-at.ensures in returned self vars c.args.term.now (term.Given c.in-Given.f c.in-Given.args) c.given.result c.given.type_inv c.in-Given.is (c.given.ensures ∙ given_value self vars c.in-Given.f c.in-Given.args c.place_of-at.result at)

pub value-returns-in-Choice : goal.value-returns-in-Choice
value-returns-in-Choice t c =
    let self = c.args.self.now in
    let vars = c.args.scope.now in
    let at = rw (c.choice_args-indexes.ensures, c.as_slice-in-Choice.ensures) at c.place_of-at-in-Choice.ensures in returned self vars c.args.term.now (term.Choice c.in-Choice.x c.in-Choice.args) c.choice.result c.choice.type_inv c.in-Choice.is (c.choice.ensures ∙ choice_value self vars c.in-Choice.x c.in-Choice.args c.place_of-at-in-Choice.result at)

pub value-returns-in-Add : goal.value-returns-in-Add
value-returns-in-Add t c =
    let self = c.args.self.now in
    let vars = c.args.scope.now in
    returned self vars c.args.term.now (term.Add c.in-Add.parts) c.sum_of.result c.sum_of.type_inv c.in-Add.is ((rw c.as_slice-in-Add.ensures at c.sum_of.ensures) ∙ sym (value_on-Add (world_in self) self.schedule.now vars c.in-Add.parts))

pub truth-truth-requires-in-Implies : goal.truth-truth-requires-in-Implies
truth-truth-requires-in-Implies t c =
    let self = c.args.self.now in
    let vars = c.args.scope.now in
    (search (rules, the_lemmas), rw c.get-in-Implies.ensures (implies_formulas self.schema.now self.inst.now vars c.in-Implies.p c.in-Implies.q (subst (FormulaIn self vars) c.in-Implies.is c.requires)).0)

pub truth-truth-requires-in-Implies-2 : goal.truth-truth-requires-in-Implies-2
truth-truth-requires-in-Implies-2 t c =
    let self = c.args.self.now in
    let vars = c.args.scope.now in
    (search (rules, the_lemmas), rw c.get-in-Implies-2.ensures (implies_formulas self.schema.now self.inst.now vars c.in-Implies.p c.in-Implies.q (subst (FormulaIn self vars) c.in-Implies.is c.requires)).1)

pub truth-returns-then-not-truth : goal.truth-returns-then-not-truth
truth-returns-then-not-truth t c =
    let self = c.args.self.now in
    let vars = c.args.scope.now in
    let p : truth_in self c.in-Implies.p vars ≡ false = sym (rw c.get-in-Implies.ensures at c.truth-in-Implies.ensures) ∙ c.if-not-truth.true in
    let all : true ≡ truth_in self (formula.Implies c.in-Implies.p c.in-Implies.q) vars =
    sym (truth_on-Implies (world_in self) self.schedule.now vars c.in-Implies.p c.in-Implies.q ∙ ap (λ b. not b || truth_in self c.in-Implies.q vars) p) in
    answered self vars c.args.formula.now (formula.Implies c.in-Implies.p c.in-Implies.q) true c.in-Implies.is all

pub truth-returns-else-not-truth : goal.truth-returns-else-not-truth
truth-returns-else-not-truth t c =
    let self = c.args.self.now in
    let vars = c.args.scope.now in
    let p : truth_in self c.in-Implies.p vars ≡ true = sym (rw c.get-in-Implies.ensures at c.truth-in-Implies.ensures) ∙ c.if-not-truth.false in
    let q : c.truth-in-Implies-2.result ≡ truth_in self c.in-Implies.q vars = rw c.get-in-Implies-2.ensures at c.truth-in-Implies-2.ensures in
    let all : c.truth-in-Implies-2.result ≡ truth_in self (formula.Implies c.in-Implies.p c.in-Implies.q) vars =
    q ∙ sym (truth_on-Implies (world_in self) self.schedule.now vars c.in-Implies.p c.in-Implies.q ∙ ap (λ b. not b || truth_in self c.in-Implies.q vars) p) in
    answered self vars c.args.formula.now (formula.Implies c.in-Implies.p c.in-Implies.q) c.truth-in-Implies-2.result c.in-Implies.is all
