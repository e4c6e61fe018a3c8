use Rattle.std.proofs.Common.{◌≡◌, drop}
use Rattle.std.specs.List.{list_all}
use Rattle.kts_plan.specs.BareAccesses.{reads_nothing}
use Rattle.kts_classify.proofs.ReadNothing.{formula_reads_nothing}
use Rattle.kts_classify.proofs.bare.+reads.Given as goal

-- what is left to test gives the answer
abbrev pub invariant-read_nothing-loop-term : goal.invariant-read_nothing-loop-term
invariant-read_nothing-loop-term l = list_all reads_nothing l.terms ≡ list_all reads_nothing (drop l.term-index l.terms)

abbrev pub invariant-formulas_read_nothing-loop-p : goal.invariant-formulas_read_nothing-loop-p
invariant-formulas_read_nothing-loop-p l = list_all formula_reads_nothing l.ps ≡ list_all formula_reads_nothing (drop l.p-index l.ps)
