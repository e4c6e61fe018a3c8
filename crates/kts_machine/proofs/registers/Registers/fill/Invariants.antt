use Rattle.std.proofs.Common.{◌≡◌, length, take}
use Rattle.kts_base.specs.Limits.{most_variables}
use Rattle.kts_code.specs.Queues.{registers_of}
use Rattle.kts_machine.specs.SmallMembers.{AreSmall}
use Rattle.kts_machine.proofs.registers.Registers.fill.Given as goal

-- the registers so far
abbrev pub invariant-loop-r : goal.invariant-loop-r
invariant-loop-r l = record {
  long : length l.slots ≡ most_variables;
  same : take l.r l.slots ≡ take l.r (registers_of most_variables l.prefix l.tuple);
  small : AreSmall l.slots;
}
