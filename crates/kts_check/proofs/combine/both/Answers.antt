use Rattle.std.proofs.Common.{◌∙◌, sym, arith}
use Rattle.kts_check.proofs.ListLemmas.{both_last, both_none}
use Rattle.kts_check.proofs.combine.both.Goals as goal

pub returns-then-len-ne2 : goal.returns-then-len-ne2
returns-then-len-ne2 g c = rw c.fail.ensures (sym (both_none c.args.at c.args.list (λ e. c.if-len-ne2.true (c.len.ensures ∙ e))))

pub returns : goal.returns
returns g c = sym (both_last c.args.at c.args.list _ _ c.in-Some-pop.first c.in-Some.second c.in-Some.ensures.last c.in-Some-pop.ensures.last (sym c.len.ensures ∙ (omega arith)))
