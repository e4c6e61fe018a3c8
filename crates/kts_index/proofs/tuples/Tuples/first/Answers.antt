use Rattle.std.proofs.Common.{arith}
use Rattle.kts_index.proofs.Skips.{join, none_found}
use Rattle.kts_index.specs.ConstraintTuples.{agrees_in}
use Rattle.kts_index.proofs.tuples.Tuples.first.Goals as goal

pub loop-at-preserved : goal.loop-at-preserved
loop-at-preserved c =
    let s = c.skip-next.ensures in
    let i = c.loop-at.invariant in
    let after = s.after in
    record {
      after = omega arith;
      none = join (agrees_in c.args.self.now c.args.args.now c.args.cell.now) c.args.from c.loop-at.at c.skip-next.result i.none s.none;
    }

pub returns : goal.returns
returns c =
    none_found (agrees_in c.args.self.now c.args.args.now c.args.cell.now) c.args.from c.loop-at.at c.args.below c.requires.from c.loop-at-test.false c.loop-at.invariant.none
