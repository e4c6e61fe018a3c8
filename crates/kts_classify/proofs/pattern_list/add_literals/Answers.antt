use Rattle.std.proofs.Common.{sym, ap, ◌∙◌, map}
use Rattle.kts_clause.specs.declared.literal.Literal.{Literal}
use Rattle.kts_spec.specs.Reads.{reads_in}
use Rattle.kts_classify.specs.PlanPatterns.{access_pattern, extended}
use Rattle.kts_classify.proofs.Extensions.{extended_none, extended_part, still_begun, extended_each}
use Rattle.kts_classify.proofs.pattern_list.add_literals.Goals as goal

pub loop-literal-init : goal.loop-literal-init
loop-literal-init c = sym (extended_none c.args.reader.first c.args.patterns.now)

pub add_formula-requires : goal.add_formula-requires
add_formula-requires c = still_begun c.args.reader.first c.args.patterns.now c.loop-literal.patterns _ c.requires c.loop-literal.invariant

pub loop-literal-preserved : goal.loop-literal-preserved
loop-literal-preserved c =
    let g = access_pattern c.args.reader.definite c.args.reader.variables in
    let f = λ (x : Literal). map g (reads_in x.formula) in
    c.in_ok-add_formula.ensures ∙ ap (λ p. extended c.args.reader.first c.loop-literal.patterns (map g (reads_in p))) c.formula.ensures
    ∙ extended_part c.args.reader.first c.args.patterns.now c.loop-literal.patterns f c.args.literals.now c.loop-literal.literal-index c.literal-item.result c.requires c.loop-literal-test.true c.literal-item.is c.loop-literal.invariant

pub returns : goal.returns
returns c =
    extended_each (access_pattern c.args.reader.definite c.args.reader.variables) c.args.reader.first c.args.patterns.now c.loop-literal.patterns (λ (x : Literal). reads_in x.formula) c.args.literals.now c.loop-literal.literal-index c.loop-literal-test.false c.loop-literal.invariant
