use Rattle.std.proofs.Common.{◌∙◌, sym, arith}
use Rattle.kts_check.proofs.ListLemmas.{only_last, only_none}
use Rattle.kts_check.proofs.combine.only.Goals as goal

pub returns-then-len-ne1 : goal.returns-then-len-ne1
returns-then-len-ne1 g c = rw c.fail.ensures (sym (only_none c.args.at c.args.list (λ e. c.if-len-ne1.true (c.len.ensures ∙ e))))

pub returns : goal.returns
returns g c = sym (only_last c.args.at c.args.list _ c.in-Some.item c.in-Some.ensures.last (sym c.len.ensures ∙ (omega arith)))
