use Rattle.std.proofs.Common.{arith, None}
use Rattle.kts_index.proofs.Skips.{here}
use Rattle.kts_index.proofs.PatternArguments.{no_members, moved, stayed_taken}
use Rattle.kts_index.specs.ConstraintTuples.{tuple_in, agrees_in}
use Rattle.kts_index.proofs.tuples.Tuples.+skip.Goals as goal

pub returns-then-is_empty-2 : goal.returns-then-is_empty-2
returns-then-is_empty-2 t c =
    here (agrees_in c.args.self.now c.args.args.now c.args.cell.now) c.args.from
    (no_members _ c.args.args.now c.args.cell.now (grind arith))

pub returns-then-next-from : goal.returns-then-next-from
returns-then-next-from t c =
    moved (tuple_in c.args.self.now) c.args.args.now c.args.cell.now None 0 (grind arith) (grind arith)
    c.args.from c.skip_argument-next.result c.if-next-from.true c.skip_argument-next.ensures

pub returns : goal.returns
returns t c =
    stayed_taken (tuple_in c.args.self.now) c.args.args.now c.args.cell.now None 0 (grind arith) (grind arith)
    c.args.from c.skip_argument-next.result c.skip.result c.if-next-from.false c.skip_argument-next.ensures c.skip.ensures
