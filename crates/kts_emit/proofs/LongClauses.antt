-- The code of a clause has its length wherever it stands, and is counted loop by loop.
use Rattle.std.proofs.Common.{◌≡◌, ℕ, ◌+◌, ◌-◌, ◌^◌, ◌≤◌, min, List, [], ◌∷◌, ◌++◌, length, map, refl, ap, ◌∙◌, arith}
use Rattle.kts_base.specs.Limits.{most_instructions}
use Rattle.kts_clause.specs.declared.clause.Clause.{Clause}
use Rattle.kts_clause.specs.declared.literal.Literal.{Literal}
use Rattle.kts_code.specs.declared.instructions.Instr.{Instr}
use Rattle.kts_code.specs.declared.instructions.Instr.TheVariants as i
use Rattle.kts_emit.specs.Bodies.{literal_code}
use Rattle.kts_emit.specs.BodyWeights.{literal_weight}
use Rattle.kts_emit.specs.ClauseCode.{literals_code, clause_code, literals_weight, clause_weight, length_of_clause, ClausesHaveLength}
use Rattle.kts_emit.specs.Codes.{formula_code}
use Rattle.kts_emit.specs.Weights.{once}
use Rattle.kts_emit.proofs.CodeLengths.{Long, AllLong, chain_long, loops_long, code_has_length}
use Rattle.kts_emit.proofs.EmittedCode.{room_for}
use Rattle.kts_emit.proofs.LongBodies.{signed_long}

literal_long : (l : Literal) → Long (literal_code l) (literal_weight once l)
literal_long l = record {
  is = λ place vars.
      let h = code_has_length.formula l.formula place vars in
      let s = signed_long l.negative (formula_code l.formula) place vars in
      omega arith;
}

each_long : (ls : List Literal) → AllLong (map literal_code ls) (map (literal_weight once) ls)
each_long [] = tt
each_long (l ∷ ls) = (literal_long l, each_long ls)

literals_long : (ls : List Literal) → Long (literals_code ls) (literals_weight once ls)
literals_long [] = record { is = λ place vars. refl }
literals_long (l ∷ ls) = chain_long i.Or (map literal_code (l ∷ ls)) (map (literal_weight once) (l ∷ ls)) (each_long (l ∷ ls))

pub clauses_have_length : ClausesHaveLength
clauses_have_length c place vars =
    (loops_long i.True i.And c.prefix (literals_code c.literals) (literals_weight once c.literals) (literals_long c.literals)).is place vars

-- a clause that was counted fits
pub clause_fits : (draft : List Instr) (c : Clause) (used count : ℕ) → draft ≡ clause_code c used 0
    → count ≡ min (length_of_clause c) (2 ^ 64 - 1) → used + count ≤ most_instructions → used + length draft ≤ most_instructions
clause_fits draft c used count e counted fits =
    let long = ap length e ∙ clauses_have_length c used 0 in
    let room = room_for used count (length_of_clause c) counted fits in
    omega arith
