use Rattle.std.proofs.Common.{◌≡◌, ◌++◌, take}
use Rattle.std.specs.Prelude.{flat_map}
use Rattle.kts_clause.specs.Clauses.{literals_of}
use Rattle.kts_clause.proofs.literals.+literals.Given as goal

-- the literals of the parts so far are appended
abbrev pub invariant-add_each-loop-part : goal.invariant-add_each-loop-part
invariant-add_each-loop-part l = l.literals ≡ l.initial.literals ++ flat_map (literals_of l.negative) (take l.part-index l.parts)
