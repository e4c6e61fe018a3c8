use Rattle.std.proofs.Common.{ap, length, arith}
use Rattle.kts_clause.proofs.ClauseCounts.{all_small}
use Rattle.kts_clause.proofs.conjunction.append_clauses.Goals as goal

pub add_clauses-requires-clause-room : goal.add_clauses-requires-clause-room
add_clauses-requires-clause-room c =
    let few = (all_small c.args.f.now).count c.new-prefix.result in
    omega (arith, few)
