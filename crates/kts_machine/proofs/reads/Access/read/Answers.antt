use Rattle.std.proofs.Common.{sym, ◌∙◌, ap}
use Rattle.kts_abs.specs.InSpace.{any_of}
use Rattle.kts_machine.specs.Reading.{value_at}
use Rattle.kts_machine.proofs.JoinedValues.{all_line}
use Rattle.kts_machine.proofs.reads.Access.read.Goals as goal

pub returns-in-One : goal.returns-in-One
returns-in-One g c = rw c.in-One.is (c.line.ensures ∙ ap (any_of c.args.self.now.kind) (sym (all_line (value_at c.args.self.now) c.in-One.last)))
