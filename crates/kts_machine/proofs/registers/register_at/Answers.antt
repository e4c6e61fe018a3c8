use Rattle.kts_base.specs.Limits.{most_variables}
use Rattle.kts_machine.proofs.RegisterLists.{past_prefix, past_tuple}
use Rattle.kts_machine.proofs.registers.register_at.Goals as goal
use Rattle.kts_machine.proofs.registers.register_at.Goals.{else-r-prefix-via-then-r-prefix+else-r-tuple, else-r-prefix-via-else-r-prefix}

pub returns-else-r-prefix-clause-value : goal.returns-else-r-prefix-clause-value
returns-else-r-prefix-clause-value c = elim c.else-r-prefix.branch [
  | else-r-prefix-via-then-r-prefix+else-r-tuple w ↦ past_tuple most_variables c.args.r c.args.prefix.now c.args.tuple.now c.requires.register w.if-r-tuple.false
  | else-r-prefix-via-else-r-prefix w ↦ past_prefix most_variables c.args.r c.args.prefix.now c.args.tuple.now c.requires.register w.if-r-prefix.false
]
