use Rattle.std.proofs.Common.{rules, sym, ap, ◌∙◌, [], ◌∷◌, ◌++◌, map}
use Rattle.std.specs.Prelude.{flat_map}
use Rattle.std.proofs.lemmas.Result.{on_ok_weaker}
use Rattle.kts_spec.specs.Reads.{reads_in, reads_of}
use Rattle.kts_spec.specs.declared.tree.Term.{Term}
use Rattle.kts_spec.specs.declared.tree.Formula.{Formula, the_lemmas}
use Rattle.kts_spec.proofs.ReadEquations.{reads_of-Number, reads_of-Var, reads_of-Choice, reads_of-Sum, reads_in-Compare, reads_in-Implies}
use Rattle.kts_classify.specs.PlanPatterns.{access_pattern, extended}
use Rattle.kts_classify.proofs.Extensions.{extended_none, extended_part, extended_both, still_begun, extended_each}
use Rattle.kts_classify.proofs.accesses.+accesses.Goals as goal

pub add_formula-add_term-requires-in-Compare : goal.add_formula-add_term-requires-in-Compare
add_formula-add_term-requires-in-Compare t c =
    let f = access_pattern c.args.reader.definite c.args.reader.variables in
    (search (rules, the_lemmas), still_begun c.args.reader.first c.args.patterns.now c.add_term.new.patterns (map f (reads_of c.in-Compare.a)) c.requires c.in_ok-add_term-in-Compare.ensures)

pub add_formula-add_formula-requires-in-Implies-2 :
    goal.add_formula-add_formula-requires-in-Implies-2
add_formula-add_formula-requires-in-Implies-2 t c =
    let f = access_pattern c.args.reader.definite c.args.reader.variables in
    (search (rules, the_lemmas), still_begun c.args.reader.first c.args.patterns.now c.add_formula-in-Implies.new.patterns (map f (reads_in c.get-in-Implies.result.now)) c.requires c.in_ok-add_formula-in-Implies.ensures)

pub add_formula-returns-in_ok-add_term-in-Compare :
    goal.add_formula-returns-in_ok-add_term-in-Compare
add_formula-returns-in_ok-add_term-in-Compare t c =
    let f = access_pattern c.args.reader.definite c.args.reader.variables in
    let first = c.args.reader.first in
    let old = c.args.patterns.now in
    let a = c.in-Compare.a in
    let b = c.in-Compare.b in
    let reads = sym (ap reads_in c.in-Compare.is ∙ reads_in-Compare c.in-Compare.field-0 a b) in
    let both = extended_both f first old c.add_term.new.patterns (reads_of a) (reads_of b) c.requires c.in_ok-add_term-in-Compare.ensures ∙ ap (λ rs. extended first old (map f rs)) reads in
    on_ok_weaker c.add_term-in-Compare.result (λ e. e ∙ both) c.add_term-in-Compare.ensures

pub add_formula-returns-in_ok-add_formula-in-Implies :
    goal.add_formula-returns-in_ok-add_formula-in-Implies
add_formula-returns-in_ok-add_formula-in-Implies t c =
    let f = access_pattern c.args.reader.definite c.args.reader.variables in
    let first = c.args.reader.first in
    let old = c.args.patterns.now in
    let p = c.get-in-Implies.result.now in
    let q = c.get-in-Implies-2.result.now in
    let reads =
    ap (λ r. reads_in r ++ reads_in q) c.get-in-Implies.ensures ∙ ap (λ r. reads_in c.in-Implies.p ++ reads_in r) c.get-in-Implies-2.ensures
    ∙ sym (ap reads_in c.in-Implies.is ∙ reads_in-Implies c.in-Implies.p c.in-Implies.q) in
    let both = extended_both f first old c.add_formula-in-Implies.new.patterns (reads_in p) (reads_in q) c.requires c.in_ok-add_formula-in-Implies.ensures ∙ ap (λ rs. extended first old (map f rs)) reads in
    on_ok_weaker c.add_formula-in-Implies-2.result (λ e. e ∙ both) c.add_formula-in-Implies-2.ensures

pub add_formulas-loop-p-init : goal.add_formulas-loop-p-init
add_formulas-loop-p-init t c = sym (extended_none c.args.reader.first c.args.patterns.now)

pub add_formulas-add_formula-requires : goal.add_formulas-add_formula-requires
add_formulas-add_formula-requires t c =
    let f = access_pattern c.args.reader.definite c.args.reader.variables in
    (search (rules, the_lemmas), still_begun c.args.reader.first c.args.patterns.now c.loop-p.patterns _ c.requires c.loop-p.invariant)

pub add_formulas-loop-p-preserved : goal.add_formulas-loop-p-preserved
add_formulas-loop-p-preserved t c =
    let f = λ (p : Formula). map (access_pattern c.args.reader.definite c.args.reader.variables) (reads_in p) in
    c.in_ok-add_formula.ensures
    ∙ extended_part c.args.reader.first c.args.patterns.now c.loop-p.patterns f c.args.ps.now c.loop-p.p-index c.p-item.result c.requires c.loop-p-test.true c.p-item.is c.loop-p.invariant

pub add_formulas-returns : goal.add_formulas-returns
add_formulas-returns t c =
    extended_each (access_pattern c.args.reader.definite c.args.reader.variables) c.args.reader.first c.args.patterns.now c.loop-p.patterns reads_in c.args.ps.now c.loop-p.p-index c.loop-p-test.false c.loop-p.invariant

pub add_term-add_terms-requires-in-Choice : goal.add_term-add_terms-requires-in-Choice
add_term-add_terms-requires-in-Choice t c =
    let f = access_pattern c.args.reader.definite c.args.reader.variables in
    (search (rules, the_lemmas), still_begun c.args.reader.first c.args.patterns.now c.add_access.new.patterns (f (c.in-Choice.x, c.as_slice-in-Choice.result.now) ∷ []) c.requires c.in_ok-add_access-in-Choice.ensures)

pub add_term-add_term-requires : goal.add_term-add_term-requires
add_term-add_term-requires t c =
    let f = access_pattern c.args.reader.definite c.args.reader.variables in
    (search (rules, the_lemmas), still_begun c.args.reader.first c.args.patterns.now c.add_formula.new.patterns _ c.requires c.in_ok-add_formula-in-Sum.ensures)

pub add_term-returns-in-Number : goal.add_term-returns-in-Number
add_term-returns-in-Number t c =
    let f = access_pattern c.args.reader.definite c.args.reader.variables in
    sym (ap (λ rs. extended c.args.reader.first c.args.patterns.now (map f rs)) (ap reads_of c.in-Number.is ∙ reads_of-Number c.in-Number.field-0) ∙ extended_none c.args.reader.first c.args.patterns.now)

pub add_term-returns-in-Var : goal.add_term-returns-in-Var
add_term-returns-in-Var t c =
    let f = access_pattern c.args.reader.definite c.args.reader.variables in
    sym (ap (λ rs. extended c.args.reader.first c.args.patterns.now (map f rs)) (ap reads_of c.in-Var.is ∙ reads_of-Var c.in-Var.field-0) ∙ extended_none c.args.reader.first c.args.patterns.now)

pub add_term-returns-in_ok-add_access-in-Choice : goal.add_term-returns-in_ok-add_access-in-Choice
add_term-returns-in_ok-add_access-in-Choice t c =
    let f = access_pattern c.args.reader.definite c.args.reader.variables in
    let first = c.args.reader.first in
    let old = c.args.patterns.now in
    let x = c.in-Choice.x in
    let args = c.as_slice-in-Choice.result.now in
    let more = c.as_slice-in-Choice-2.result.now in
    let reads =
    ap (λ l. (x, l) ∷ flat_map reads_of more) c.as_slice-in-Choice.ensures ∙ ap (λ l. (x, c.in-Choice.args) ∷ flat_map reads_of l) c.as_slice-in-Choice-2.ensures
    ∙ sym (ap reads_of c.in-Choice.is ∙ reads_of-Choice x c.in-Choice.args) in
    let both = extended_both f first old c.add_access.new.patterns ((x, args) ∷ []) (flat_map reads_of more) c.requires c.in_ok-add_access-in-Choice.ensures ∙ ap (λ rs. extended first old (map f rs)) reads in
    on_ok_weaker c.add_terms-in-Choice.result (λ e. e ∙ both) c.add_terms-in-Choice.ensures

pub add_term-returns-in_ok-add_formula-in-Sum : goal.add_term-returns-in_ok-add_formula-in-Sum
add_term-returns-in_ok-add_formula-in-Sum t c =
    let f = access_pattern c.args.reader.definite c.args.reader.variables in
    let first = c.args.reader.first in
    let old = c.args.patterns.now in
    let p = c.get.result.now in
    let a = c.get-in-Sum.result.now in
    let reads =
    ap (λ r. reads_in r ++ reads_of a) c.get.ensures ∙ ap (λ r. reads_in c.in-Sum.p ++ reads_of r) c.get-in-Sum.ensures
    ∙ sym (ap reads_of c.in-Sum.is ∙ reads_of-Sum c.in-Sum.field-0 c.in-Sum.p c.in-Sum.a) in
    let both = extended_both f first old c.add_formula.new.patterns (reads_in p) (reads_of a) c.requires c.in_ok-add_formula-in-Sum.ensures ∙ ap (λ rs. extended first old (map f rs)) reads in
    on_ok_weaker c.add_term.result (λ e. e ∙ both) c.add_term.ensures

pub add_terms-loop-term-init : goal.add_terms-loop-term-init
add_terms-loop-term-init t c = sym (extended_none c.args.reader.first c.args.patterns.now)

pub add_terms-add_term-requires : goal.add_terms-add_term-requires
add_terms-add_term-requires t c =
    (search (rules, the_lemmas), still_begun c.args.reader.first c.args.patterns.now c.loop-term.patterns _ c.requires c.loop-term.invariant)

pub add_terms-loop-term-preserved : goal.add_terms-loop-term-preserved
add_terms-loop-term-preserved t c =
    let f = λ (t : Term). map (access_pattern c.args.reader.definite c.args.reader.variables) (reads_of t) in
    c.in_ok-add_term.ensures
    ∙ extended_part c.args.reader.first c.args.patterns.now c.loop-term.patterns f c.args.terms.now c.loop-term.term-index c.term-item.result c.requires c.loop-term-test.true c.term-item.is c.loop-term.invariant

pub add_terms-returns : goal.add_terms-returns
add_terms-returns t c =
    extended_each (access_pattern c.args.reader.definite c.args.reader.variables) c.args.reader.first c.args.patterns.now c.loop-term.patterns reads_of c.args.terms.now c.loop-term.term-index c.loop-term-test.false c.loop-term.invariant
