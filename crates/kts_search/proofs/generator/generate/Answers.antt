use Rattle.std.proofs.Common.{arith, sym, ◌≡◌, ◌+◌, ◌∙◌, subst}
use Rattle.kts_classify.specs.TaskSchemas.{IsTaskSchema}
use Rattle.kts_search.specs.WholeScheme.{filters_count}
use Rattle.kts_search.proofs.PlannedCode.{short_prefixes, instrs_same, patterns_same, entries_same, parts_are_code, whole_again, counted, filters_counted, is_short, too_long}
use Rattle.kts_search.proofs.generator.generate.Goals as goal

pub returns-then-length-clause-fault : goal.returns-then-length-clause-fault
returns-then-length-clause-fault c =
    let spec = c.args.spec.now in
    let count =
    counted spec _ c.in_ok-plan.ensures _ _ _ _ c.filters_length-filters.ensures c.bodies_length.ensures c.saturating_add.ensures
    c.saturating_add-length.ensures in
    too_long spec _ count c.if-length.true

pub instructions-requires-clause-short : goal.instructions-requires-clause-short
instructions-requires-clause-short c = short_prefixes c.args.spec.now c.in_ok-plan.plan c.in_ok-plan.ensures.clauses

pub new-code-requires : goal.new-code-requires
new-code-requires c =
    let spec = c.args.spec.now in
    let plan = c.in_ok-plan.ensures in
    let filters =
    filters_counted spec _ plan _ _ _ _ c.filters_length-filters.ensures c.bodies_length.ensures c.saturating_add.ensures
    c.saturating_add-length.ensures c.if-length.false in
    let short =
    is_short spec _ plan _ _ _ _ c.filters_length-filters.ensures c.bodies_length.ensures c.saturating_add.ensures
    c.saturating_add-length.ensures c.if-length.false in
    let first : c.filters_length-filters.result + 9 ≡ 9 + filters_count spec = omega arith in
    parts_are_code spec _ _ _ _ c.in_ok-schema.ensures (c.in_ok-entries.ensures ∙ entries_same spec _ _ plan first)
    (c.in_ok-index.ensures ∙ patterns_same spec _ plan) (c.in_ok-instrs.ensures ∙ instrs_same spec _ plan) short

pub returns-clause-code : goal.returns-clause-code
returns-clause-code c =
    let spec = c.args.spec.now in
    let plan = c.in_ok-plan.ensures in
    let made = c.new-code.ensures in
    let filters =
    filters_counted spec _ plan _ _ _ _ c.filters_length-filters.ensures c.bodies_length.ensures c.saturating_add.ensures
    c.saturating_add-length.ensures c.if-length.false in
    let first : c.filters_length-filters.result + 9 ≡ 9 + filters_count spec = omega arith in
    whole_again spec _ (subst (IsTaskSchema spec) (sym made.schema) c.in_ok-schema.ensures)
    (made.entries ∙ c.in_ok-entries.ensures ∙ entries_same spec _ _ plan first) (made.index ∙ c.in_ok-index.ensures ∙ patterns_same spec _ plan)
    made.stack (made.instrs ∙ c.in_ok-instrs.ensures ∙ instrs_same spec _ plan)

pub returns-clause-short : goal.returns-clause-short
returns-clause-short c =
    is_short c.args.spec.now _ c.in_ok-plan.ensures _ _ _ _ c.filters_length-filters.ensures c.bodies_length.ensures c.saturating_add.ensures
    c.saturating_add-length.ensures c.if-length.false
