use Rattle.std.proofs.Common.{◌≡◌, drop}
use Rattle.kts_mean.specs.Broken.{first_broken}
use Rattle.kts_mean.proofs.BrokenFormulas.{broken_from}
use Rattle.kts_mean.proofs.audit.first_broken.Given as goal

-- what is left to test gives the answer
abbrev pub invariant-loop-number : goal.invariant-loop-number
invariant-loop-number l = broken_from l.spec l.inst l.schedule l.number (drop l.number l.formula-items) ≡ first_broken l.spec l.inst l.schedule
