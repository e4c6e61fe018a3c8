use Rattle.std.proofs.Common.{rules, ◌+◌}
use Rattle.kts.proofs.Sendings.{more_written, front_written, front_kept}
use Rattle.kts.proofs.std_sink.write_whole.Goals as goal

pub loop-at-preserved : goal.loop-at-preserved
loop-at-preserved g c = record {
  within = search rules;
  known = more_written _ _ _ c.args.bytes.now c.loop-at.at c.in-Ok.count c.loop-at.invariant.known c.in-Ok.ensures.bytes;
}

pub returns-in_default-clause-cut : goal.returns-in_default-clause-cut
returns-in_default-clause-cut g c =
    front_written _ _ c.args.bytes.now (c.loop-at.at + c.in-Ok.count)
    (more_written _ _ _ c.args.bytes.now c.loop-at.at c.in-Ok.count c.loop-at.invariant.known c.in-Ok.ensures.bytes)

pub returns-in_default-2-clause-cut : goal.returns-in_default-2-clause-cut
returns-in_default-2-clause-cut g c = front_kept _ _ _ c.args.bytes.now c.loop-at.at c.loop-at.invariant.known c.in_default.ensures.bytes
