-- The code of a well typed clause pushes its truth.
use Rattle.std.proofs.Common.{◌≡◌, ℕ, ◌+◌, ◌*◌, ◌≤◌, List, [], ◌∷◌, ◌++◌, length, map, fold, refl, sym, ap, ◌∙◌, subst, arith, true, ◌&&◌, nat_le}
use Rattle.std.proofs.lemmas.Bool.{and_parts}
use Rattle.std.proofs.lemmas.List.{length-map}
use Rattle.kts_abs.specs.declared.truth.Tri.{Tri}
use Rattle.kts_abs.specs.declared.truth.Tri.TheVariants.{F, T}
use Rattle.kts_abs.specs.InSpace.{in_space}
use Rattle.kts_abs.specs.Ranged.{ValuesAreRanged}
use Rattle.kts_abs.specs.Truth.{and_of, or_of}
use Rattle.kts_abs.specs.Values.{Abs}
use Rattle.kts_base.specs.Limits.{most_variables, most_prefix, most_trees, most_depth, most_addends}
use Rattle.kts_base.proofs.Orders.{nat_le_yes}
use Rattle.kts_clause.specs.declared.clause.Clause.{Clause}
use Rattle.kts_clause.specs.declared.literal.Literal.{Literal}
use Rattle.kts_clause.specs.ClauseFacts.{ClauseFacts, LiteralFacts}
use Rattle.kts_clause.specs.ClauseTruth.{some_true, clause_truth}
use Rattle.kts_code.specs.declared.instructions.Instr.{Instr}
use Rattle.kts_code.specs.declared.instructions.Instr.TheVariants.{True, False, And, Or}
use Rattle.kts_code.specs.Setups.{Setup, world_in}
use Rattle.kts_code.specs.States.{Operand, Truth, State}
use Rattle.kts_code.proofs.Systems.{and_then, at_once, less_known, steps_are}
use Rattle.kts_plan.specs.Asks.{literal_in}
use Rattle.kts_plan.specs.Walks.{clause_in}
use Rattle.kts_spec.specs.declared.schema.Schema.{Schema}
use Rattle.kts_spec.specs.Data.{is_valid}
use Rattle.kts_spec.specs.Domain.{at_each}
use Rattle.kts_spec.specs.Related.{AllOf}
use Rattle.kts_spec.specs.Schemas.{is_prefix}
use Rattle.kts_spec.specs.Sizes.{Size, size_of_formula, keeps_limits}
use Rattle.kts_spec.specs.Worlds.{World, size_of}
use Rattle.kts_emit.specs.Fragments.{Fragment}
use Rattle.kts_emit.specs.Bodies.{literal_code}
use Rattle.kts_emit.specs.BodyWeights.{literal_weight}
use Rattle.kts_emit.specs.ClauseCode.{literals_code, clause_code, literals_weight, clause_weight, clause_places, ClausesPushTruth, PushClause, PushesTruth}
use Rattle.kts_emit.specs.Effects.{Kept}
use Rattle.kts_emit.proofs.BoundValues.{literal_pushes}
use Rattle.kts_emit.proofs.Binders.{renamed, loops_push}
use Rattle.kts_emit.proofs.Chains.{chain_pushes, shown_each, Always, and_joins, or_joins}
use Rattle.kts_emit.proofs.Claims.{always_fit}
use Rattle.kts_emit.proofs.CodeRuns.{stands, context, named, has_pushed}
use Rattle.kts_emit.proofs.Contexts.{Context, Leads, pushed}
use Rattle.kts_emit.proofs.DemandSteps.{quiet_on_the_way}
use Rattle.kts_emit.proofs.EmittedRuns.{there, ends}
use Rattle.kts_emit.proofs.FlatAddends.{all_also}
use Rattle.kts_emit.proofs.Operations.{Pushes, AllPush, makes_one, operation_pushes}
use Rattle.kts_emit.proofs.SpaceValues.{ranged_above}
use Rattle.kts_emit.proofs.TypedConstraints.{TypedLiteral}

-- ---- what clauses of a specification keep

flat_from : (s : Size) → keeps_limits s ≡ true → s.depth ≤ most_depth
flat_from s h =
    let all = and_parts (nat_le s.trees most_trees && nat_le s.depth most_depth) (nat_le s.widest most_addends) h in
    nat_le_yes s.depth most_depth (and_parts (nat_le s.trees most_trees) (nat_le s.depth most_depth) all.0).1

pub typed_literals : (schema : Schema) (c : Clause) → ClauseFacts schema c → AllOf (TypedLiteral schema c.prefix) c.literals
typed_literals schema c facts =
    all_also (LiteralFacts schema c.prefix) (TypedLiteral schema c.prefix) c.literals
    (λ l f. record { typed = f.typed; flat = flat_from (size_of_formula l.formula) f.limited }) facts.literals

pub short_prefix : (schema : Schema) (c : Clause) → ClauseFacts schema c → length c.prefix ≤ most_prefix
short_prefix schema c facts = nat_le_yes (length c.prefix) most_prefix (and_parts (nat_le (length c.prefix) most_prefix) _ facts.prefix).0

-- ---- what code pushes

module _ (setup : Setup) (r : Context) (valid : is_valid setup.code.schema setup.inst ≡ true)
    (ranged : ValuesAreRanged setup.code.schema (world_in setup) r.space) where
  abbrev w : World
  w = world_in setup

  abbrev schema : Schema
  schema = setup.code.schema

  abbrev Over : Fragment → ℕ → ℕ → List ℕ → (List ℕ → Operand) → Type 0
  Over = Pushes setup r

  abbrev inner : ℕ
  inner = 2 * most_depth + 10

  abbrev truth_at : Literal → List ℕ → Tri
  truth_at l vars = literal_in w r.space vars l

  all_push : (ls : List Literal) (scope : List ℕ) → length scope ≤ most_variables → AllOf (TypedLiteral schema scope) ls
      → AllPush setup r inner scope (map literal_code ls) (map (literal_weight (size_of w)) ls) (shown_each setup r (λ t. Truth t) (map truth_at ls))
  all_push [] scope le typed = tt
  all_push (l ∷ ls) scope le typed = (literal_pushes setup r valid ranged l scope inner le typed.0 (omega arith), all_push ls scope le typed.1)

  truths_are : (ls : List Literal) (vars : List ℕ) → at_each vars (map truth_at ls) ≡ map (literal_in w r.space vars) ls
  truths_are [] vars = refl
  truths_are (l ∷ ls) vars = ap (λ ts. literal_in w r.space vars l ∷ ts) (truths_are ls vars)

  literals_push : (ls : List Literal) (scope : List ℕ) → length scope ≤ most_variables → AllOf (TypedLiteral schema scope) ls
      → Over (literals_code ls) (literals_weight (size_of w) ls) (inner + 1) scope (λ vars. Truth (some_true (size_of w) (in_space w r.space) ls vars))
  literals_push [] scope le typed =
      operation_pushes setup r [] [] [] (False ∷ []) 1 0 (inner + 1) scope (λ vars. Truth F) tt
      (makes_one setup r False refl scope [] (λ vars. Truth F) (λ vars p stack registers h less. pushed setup.code.stack r p stack stack registers (Truth F) less))
      (omega arith) (omega arith)
  literals_push (l ∷ ls) scope le typed =
      let all = l ∷ ls in
      let some : 1 ≤ length (map literal_code all) = omega (arith, length-map all literal_code) in
      let one_more : inner + 1 ≤ inner + 1 = omega arith in
      renamed setup r (λ vars inside. ap (λ ts. Truth (fold or_of F ts)) (truths_are all vars))
      (chain_pushes setup r Or refl or_of F (λ t. Truth t) (Always setup r) (or_joins setup r) (λ x. refl) (map literal_code all)
      (map (literal_weight (size_of w)) all) (map truth_at all) inner (inner + 1) scope (all_push all scope le typed)
      (λ vars inside. always_fit setup r or_of F (at_each vars (map truth_at all))) some one_more)

  clause_pushes : (c : Clause) → ClauseFacts schema c
      → Over (clause_code c) (clause_weight (size_of w) c) clause_places [] (λ vars. Truth (clause_truth (size_of w) (in_space w r.space) vars c))
  clause_pushes c facts =
      let short = short_prefix schema c facts in
      let le : length c.prefix ≤ most_variables = omega arith in
      loops_push setup r True And refl refl and_of T (λ p stack registers less. pushed setup.code.stack r p stack stack registers (Truth T) less)
      (and_joins setup r) c.prefix [] (literals_code c.literals) (literals_weight (size_of w) c.literals) (inner + 1) clause_places
      (some_true (size_of w) (in_space w r.space) c.literals) (literals_push c.literals c.prefix le (typed_literals schema c facts))
      (omega arith) (omega arith) (omega arith)

-- ---- from a state on

pub clauses_push_truth : ClausesPushTruth
clauses_push_truth m space valid is_space c s facts ready stood =
    let r = context s space in
    let w = world_in m in
    let place = s.core.pc in
    let code = clause_code c in
    let weight = clause_weight (size_of w) c in
    let end = place + length (code place 0) in
    let truth = Truth (clause_in w space c) in
    let pushes = clause_pushes m r valid (ranged_above m.code.schema m.inst space valid is_space.above) c facts in
    let has = stands m.code.instrs place (code place 0) stood in
    let run = pushes.goes [] place s.core.stack s.core.registers has ready.registers ready.variables ready.room in
    let here = subst (λ z. Leads m r z weight [] [] end (truth ∷ s.core.stack)) (sym (named s space ready.going ready.within)) run in
    let same : weight + 0 ≡ weight = omega arith in
    steps_are same (and_then (less_known (quiet_on_the_way m Kept) here) (λ s2 h. at_once (has_pushed m space [] [] clause_places end truth s s2 ready h)))

-- behind a buffer's instructions
pub clause_runs : (c : Clause) (old new : List Instr) → new ≡ old ++ clause_code c (length old) 0 → PushClause c (length old) new
clause_runs c old new is m space behind whole valid is_space s facts at ready =
    let place = s.core.pc in
    let stood = there (clause_code c) old new behind m.code.instrs 0 is whole place at 0 refl in
    let last = ends (clause_code c) old new behind m.code.instrs 0 is whole place at 0 refl in
    subst (λ end. PushesTruth m space c end s) last (clauses_push_truth m space valid is_space c s facts ready stood)
