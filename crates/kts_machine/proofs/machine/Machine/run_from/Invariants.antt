use Rattle.std.proofs.Common.{◌≡◌, ◌≤◌, ◌-◌, false}
use Rattle.kts_machine.proofs.Following.{HasRun, is_over_at}
use Rattle.kts_machine.proofs.machine.Machine.run_from.Given as goal

-- the steps so far are those of the run, which goes on, and their text was written
abbrev pub invariant-loop-left : goal.invariant-loop-left
invariant-loop-left g l = record {
  within : l.left ≤ l.fn.budget;
  run : HasRun l.fn.self.setup l.fn.first l.fn.before l.fn.traced (l.fn.budget - l.left) l.self (g.S.Sink.log l.fn.out) (g.S.Sink.log l.out);
  goes : is_over_at l.fn.first l.self ≡ false;
  printed : l.self.printed ≤ l.fn.budget - l.left;
  longest : l.self.longest ≤ l.fn.budget - l.left;
}

abbrev pub decreases-loop-left : goal.decreases-loop-left
decreases-loop-left g l = l.left
