use Rattle.std.proofs.Common.{◌∙◌}
use Rattle.kts_text.proofs.Filling.{set_end_is}
use Rattle.kts_text.proofs.scan.end_list.Goals as goal

pub returns : goal.returns
returns c = c.set.ensures ∙ rw (c.as_slice.ensures, c.len.ensures) (set_end_is c.args.nodes.now c.args.number c.args.end _ _ c.requires.within)
