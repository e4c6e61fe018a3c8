use Rattle.std.proofs.Common.{sym, ap, ◌∙◌, ◌+◌, ◌-◌, ◌++◌, length, map, take, drop}
use Rattle.std.specs.Prelude.{flat_map}
use Rattle.std.proofs.lemmas.Grind.{flat_map-append}
use Rattle.std.proofs.lemmas.Result.{on_ok_weaker}
use Rattle.kts_clause.specs.declared.literal.Literal.{Literal}
use Rattle.kts_spec.specs.Reads.{reads_in}
use Rattle.kts_classify.specs.PlanPatterns.{access_pattern, extended}
use Rattle.kts_classify.proofs.Extensions.{rest_of, extended_both, still_begun}
use Rattle.kts_classify.proofs.HeadLists.{all_but_is}
use Rattle.kts_classify.proofs.pattern_list.add_others.Goals as goal

pub add_literals-requires-2 : goal.add_literals-requires-2
add_literals-requires-2 c = still_begun c.args.reader.first c.args.patterns.now c.add_literals.new.patterns _ c.requires.begun c.in_ok-add_literals.ensures

pub returns : goal.returns
returns c =
    let f = access_pattern c.args.reader.definite c.args.reader.variables in
    let R = λ (l : Literal). reads_in l.formula in
    let first = c.args.reader.first in
    let old = c.args.patterns.now in
    let k = c.args.k in
    let ls = c.args.literals.now in
    let after = take (length ls - (k + 1)) (drop (k + 1) ls) in
    let others = ap (λ xs. flat_map R (take k ls) ++ flat_map R xs) (rest_of (k + 1) ls) ∙ sym (ap (flat_map R) (all_but_is k ls) ∙ flat_map-append R (take k ls) (drop (k + 1) ls)) in
    let both = extended_both f first old c.add_literals.new.patterns (flat_map R (take k ls)) (flat_map R after) c.requires.begun c.in_ok-add_literals.ensures ∙ ap (λ rs. extended first old (map f rs)) others in
    on_ok_weaker c.add_literals-2.result (λ e. e ∙ both) c.add_literals-2.ensures
