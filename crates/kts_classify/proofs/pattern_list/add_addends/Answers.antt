use Rattle.std.proofs.Common.{Bool, sym, ◌∙◌, map}
use Rattle.kts_spec.specs.Reads.{reads_of}
use Rattle.kts_spec.specs.declared.tree.Term.{Term}
use Rattle.kts_classify.specs.PlanPatterns.{access_pattern}
use Rattle.kts_classify.proofs.Extensions.{extended_none, extended_part, still_begun, extended_each}
use Rattle.kts_classify.proofs.pattern_list.add_addends.Goals as goal

pub loop-term-init : goal.loop-term-init
loop-term-init c = sym (extended_none c.args.reader.first c.args.patterns.now)

pub add_term-requires : goal.add_term-requires
add_term-requires c = still_begun c.args.reader.first c.args.patterns.now c.loop-term.patterns _ c.requires c.loop-term.invariant

pub loop-term-preserved : goal.loop-term-preserved
loop-term-preserved c =
    let f = λ (x : Bool × Term). map (access_pattern c.args.reader.definite c.args.reader.variables) (reads_of x.1) in
    c.in_ok-add_term.ensures
    ∙ extended_part c.args.reader.first c.args.patterns.now c.loop-term.patterns f c.args.terms.now c.loop-term.term-index c.loop-term-item.result c.requires c.loop-term-test.true c.loop-term-item.is c.loop-term.invariant

pub returns : goal.returns
returns c =
    extended_each (access_pattern c.args.reader.definite c.args.reader.variables) c.args.reader.first c.args.patterns.now c.loop-term.patterns (λ (x : Bool × Term). reads_of x.1) c.args.terms.now c.loop-term.term-index c.loop-term-test.false c.loop-term.invariant
