use Rattle.std.proofs.Common.{arith, sym, ◌∙◌, ap}
use Rattle.std.proofs.lemmas.Bool.{le-ltb}
use Rattle.kts_sets.specs.Sets.{elem}
use Rattle.kts_sets.proofs.Edits.{elem-read, elem_past}
use Rattle.kts_sets.proofs.set.MemberSet.contains.Goals as goal

pub returns-then-at : goal.returns-then-at
returns-then-at g c = elem-read g.row.W c.self.inside.words c.args.m c.self.invariant.few (omega arith) ∙ ap (elem c.args.m) c.self.view_is

pub returns-else-at : goal.returns-else-at
returns-else-at g c = le-ltb _ _ c.if-at.false ∙ sym (elem_past c.self.inside.words c.args.m (omega (arith, c.self.invariant.long))) ∙ ap (elem c.args.m) c.self.view_is
