use Rattle.std.proofs.Common.{◌∙◌, sym, inr}
use Rattle.kts_syntax.proofs.RoomLemmas.{formula_built, formula_large}
use Rattle.kts_syntax.proofs.tops.formula_of.Goals as goal

pub returns-then-room-eq0 : goal.returns-then-room-eq0
returns-then-room-eq0 c = rw c.fail.ensures (inr (formula_large _ _ _ _ _ _ (sym c.first_name.ensures ∙ c.in_ok-word.was) c.rest.ensures c.in_ok-expr.ensures c.if-room-eq0.true))

pub returns : goal.returns
returns c = formula_built _ _ _ _ _ _ (sym c.first_name.ensures ∙ c.in_ok-word.was) c.rest.ensures c.in_ok-expr.ensures c.if-room-eq0.false
