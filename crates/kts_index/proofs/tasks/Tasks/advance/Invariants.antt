use Rattle.std.proofs.Common.{◌≡◌, ◌-◌, length}
use Rattle.kts_index.specs.PatternOrder.{ArePassed}
use Rattle.kts_index.specs.Cursor.{pairs_from, IsCursor}
use Rattle.kts_index.proofs.tasks.Tasks.advance.Given as goal

abbrev pub invariant-loop-self : goal.invariant-loop-self
invariant-loop-self l = record {
  place : IsCursor l.self-inside.schema.now l.self-inside.inst.now l.self-inside.definite l.self-inside.start l.self-inside.next;
  search : ArePassed l.self-inside.patterns.now l.self-inside.in_order l.self-inside.definite l.self-inside.from;
  same : pairs_from l.self-inside.patterns.now l.self-inside.schema.now l.self-inside.inst.now l.self-inside.choice l.self-inside.tuple.now l.self-inside.next
      ≡ l.fn.self;
}

abbrev pub decreases-loop-self : goal.decreases-loop-self
decreases-loop-self l = length l.self-inside.schema.now.tasks - l.self-inside.definite
