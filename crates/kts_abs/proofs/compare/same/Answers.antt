use Rattle.std.proofs.Common.{sym, ◌∙◌}
use Rattle.kts_abs.proofs.Pairings.{same_apart, same_shared, shared_count}
use Rattle.kts_abs.proofs.compare.same.Goals as goal

pub returns-then-len-eq0 : goal.returns-then-len-eq0
returns-then-len-eq0 g c =
    same_apart c.args.a.now c.args.b.now c.set.ensures.valid c.set-2.ensures.valid
    (shared_count c.args.a.now c.args.b.now _ _ c.meet.result c.len.result c.meet.ensures c.set.ensures.members c.set-2.ensures.members c.len.ensures.len ∙ c.if-len-eq0.true)

pub returns-then-are_single : goal.returns-then-are_single
returns-then-are_single g c =
    same_shared c.args.a.now c.args.b.now c.set.ensures.valid c.set-2.ensures.valid
    (λ e. c.if-len-eq0.false (sym (shared_count c.args.a.now c.args.b.now _ _ c.meet.result c.len.result c.meet.ensures c.set.ensures.members c.set-2.ensures.members c.len.ensures.len) ∙ e))
    _ (sym c.if-are_single.true ∙ c.are_single.ensures.single)

pub returns-else-are_single : goal.returns-else-are_single
returns-else-are_single g c =
    same_shared c.args.a.now c.args.b.now c.set.ensures.valid c.set-2.ensures.valid
    (λ e. c.if-len-eq0.false (sym (shared_count c.args.a.now c.args.b.now _ _ c.meet.result c.len.result c.meet.ensures c.set.ensures.members c.set-2.ensures.members c.len.ensures.len) ∙ e))
    _ (sym c.if-are_single.false ∙ c.are_single.ensures.single)
