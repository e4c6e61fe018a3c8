use Rattle.kts_top.proofs.SampleEntries.{next_entry}
use Rattle.kts_top.proofs.sample_texts.append_entries.Goals as goal

pub loop-before-preserved : goal.loop-before-preserved
loop-before-preserved c = next_entry c.args.entry c.loop-before.before c.args.text.now c.loop-before.text c.append_next.new.text c.loop-before.invariant c.in_ok-append_next.ensures
