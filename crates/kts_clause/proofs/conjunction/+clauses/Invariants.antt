use Rattle.std.proofs.Common.{◌≡◌, ◌++◌, ◌-◌, length, take}
use Rattle.std.specs.Prelude.{flat_map}
use Rattle.kts_clause.specs.Clauses.{disjunctions, numbered_from}
use Rattle.kts_clause.proofs.conjunction.+clauses.Given as goal

-- the clauses of the parts so far are appended
abbrev pub invariant-add_each-loop-part : goal.invariant-add_each-loop-part
invariant-add_each-loop-part l = record {
  same : l.prefix ≡ l.initial.prefix;
  added : l.clauses ≡ l.initial.clauses ++ numbered_from l.number (length l.initial.clauses - l.first) (flat_map (λ p. disjunctions p l.initial.prefix) (take l.part-index l.parts));
}
