use Rattle.std.proofs.Common.{◌≡◌, ◌∙◌, Some, None, slice_get, drop, filter, sym, ap}
use Rattle.kts_sets.specs.Choices.{unless_empty}
use Rattle.kts_sets.specs.Sets.{other}
use Rattle.kts_machine.proofs.SplitParts.{others-are, some-member, other-member, unless_empty-some}
use Rattle.kts_machine.proofs.cells.other_members.Goals as goal

pub unreachable-requires : goal.unreachable-requires
unreachable-requires g c =
    let first : slice_get c.args.choice.now 0 ≡ None = ap (λ ms. slice_get ms 0) (sym c.set-set.ensures.members) ∙ sym c.first.ensures.least ∙ c.in-None.is in
    some-member c.args.choice.now c.requires first

pub unreachable-requires-in-None-new : goal.unreachable-requires-in-None-new
unreachable-requires-in-None-new g c =
    let first : slice_get c.args.choice.now 0 ≡ Some c.in-Some.member = ap (λ ms. slice_get ms 0) (sym c.set-set.ensures.members) ∙ sym c.first.ensures.least ∙ c.in-Some.is in
    let others : c.without.result ≡ drop 1 c.args.choice.now = c.without.ensures ∙ ap (filter (other c.in-Some.member)) c.set-set.ensures.members ∙ others-are c.args.choice.now c.in-Some.member c.set-set.ensures.valid.set first in
    other-member c.args.choice.now c.requires (ap unless_empty (sym others) ∙ sym c.new.ensures.choice ∙ c.in-None-new.is)

pub returns-clause-members : goal.returns-clause-members
returns-clause-members g c =
    let first : slice_get c.args.choice.now 0 ≡ Some c.in-Some.member = ap (λ ms. slice_get ms 0) (sym c.set-set.ensures.members) ∙ sym c.first.ensures.least ∙ c.in-Some.is in
    let others : c.without.result ≡ drop 1 c.args.choice.now = c.without.ensures ∙ ap (filter (other c.in-Some.member)) c.set-set.ensures.members ∙ others-are c.args.choice.now c.in-Some.member c.set-set.ensures.valid.set first in
    sym (unless_empty-some c.without.result c.in-Some-new.others (sym c.new.ensures.choice ∙ c.in-Some-new.is)) ∙ others
