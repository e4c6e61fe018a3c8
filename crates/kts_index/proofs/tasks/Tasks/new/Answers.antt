use Rattle.kts_index.proofs.CursorTurns.{all_left}
use Rattle.kts_index.proofs.tasks.Tasks.new.Goals as goal

pub returns : goal.returns
returns c = all_left c.args.patterns.now c.args.schema.now c.args.inst.now c.args.choice c.args.tuple.now
