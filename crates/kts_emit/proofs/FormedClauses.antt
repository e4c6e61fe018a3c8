-- Each instruction of the code of a well typed clause is well formed.
use Rattle.std.proofs.Common.{◌≡◌, ℕ, ◌+◌, ◌<◌, ◌≤◌, List, [], ◌∷◌, length, map, Bool, true, false, ◌&&◌, refl, arith, nat_le}
use Rattle.std.specs.List.{list_all}
use Rattle.std.proofs.lemmas.Bool.{and_parts}
use Rattle.kts_base.specs.Limits.{most_variables, most_prefix}
use Rattle.kts_clause.specs.declared.clause.Clause.{Clause}
use Rattle.kts_clause.specs.declared.literal.Literal.{Literal}
use Rattle.kts_clause.specs.ClauseFacts.{ClauseFacts}
use Rattle.kts_code.specs.declared.instructions.Instr.TheVariants as i
use Rattle.kts_code.specs.WellFormed.{is_index}
use Rattle.kts_spec.specs.declared.schema.Schema.{Schema}
use Rattle.kts_spec.specs.Related.{AllOf}
use Rattle.kts_emit.specs.Fragments.{Fragment}
use Rattle.kts_emit.specs.Bodies.{signed_code, literal_code}
use Rattle.kts_emit.specs.ClauseCode.{literals_code, clause_code, ClausesAreWellFormed}
use Rattle.kts_emit.specs.Codes.{formula_code}
use Rattle.kts_emit.proofs.ClausePushes.{typed_literals, short_prefix}
use Rattle.kts_emit.proofs.FormedCode.{Formed, AllFormed, operation_formed, chain_formed, nested_formed, formed_at, formula_formed}
use Rattle.kts_emit.proofs.TypedConstraints.{TypedLiteral}

module _ (schema : Schema) (places : ℕ) where
  signed_formed : (negative : Bool) (code : Fragment) (vars : ℕ) → Formed schema places code vars → Formed schema places (signed_code negative code) vars
  signed_formed false code vars h = h
  signed_formed true code vars h = operation_formed schema places (code ∷ []) (i.Not ∷ []) vars (h, tt) refl

  literal_formed : (l : Literal) (scope : List ℕ) → length scope ≤ most_variables → TypedLiteral schema scope l
      → Formed schema places (literal_code l) (length scope)
  literal_formed l scope few h =
      signed_formed l.negative (formula_code l.formula) (length scope) (formula_formed schema places l.formula scope few h.typed)

  pub each_formed : (ls : List Literal) (scope : List ℕ) → length scope ≤ most_variables → AllOf (TypedLiteral schema scope) ls
      → AllFormed schema places (map literal_code ls) (length scope)
  each_formed [] scope few h = tt
  each_formed (l ∷ ls) scope few h = (literal_formed l scope few h.0, each_formed ls scope few h.1)

  literals_formed : (ls : List Literal) (scope : List ℕ) → length scope ≤ most_variables → AllOf (TypedLiteral schema scope) ls
      → Formed schema places (literals_code ls) (length scope)
  literals_formed [] scope few h = operation_formed schema places [] (i.False ∷ []) (length scope) tt refl
  literals_formed (l ∷ ls) scope few h =
      chain_formed schema places i.Or (map literal_code (l ∷ ls)) (length scope) refl (each_formed (l ∷ ls) scope few h)

  clause_formed : (c : Clause) → ClauseFacts schema c → Formed schema places (clause_code c) 0
  clause_formed c facts =
      let short = short_prefix schema c facts in
      let prefix = and_parts (nat_le (length c.prefix) most_prefix) (list_all (is_index schema) c.prefix) facts.prefix in
      let few : length c.prefix ≤ most_variables = omega arith in
      let fits : 0 + length c.prefix ≤ most_variables = omega arith in
      let same : length c.prefix ≡ 0 + length c.prefix = omega arith in
      nested_formed schema places i.True i.And c.prefix (literals_code c.literals) 0 refl refl prefix.1 fits
      (formed_at schema places (literals_code c.literals) (length c.prefix) (0 + length c.prefix) same (literals_formed c.literals c.prefix few (typed_literals schema c facts)))

pub clauses_are_well_formed : ClausesAreWellFormed
clauses_are_well_formed schema c place places facts less = (clause_formed schema places c facts).is place less
