-- The whole code of a specification is so short that its length is counted exactly.
use Rattle.std.proofs.Common.{zero-mul, suc-mul, ◌≡◌, sym, ap, subst, refl, inl, inr, ⊎_elim, ℕ, zero, suc, ◌+◌, ◌-◌, ◌*◌, ◌^◌, ◌≤◌, List, [], ◌∷◌, length, map, Bool, true, false, arith}
use Rattle.std.specs.Prelude.{filter}
use Rattle.std.specs.List.{sum_by}
use Rattle.std.proofs.lemmas.Bool.{cases_Bool}
use Rattle.std.proofs.lemmas.List.Sums.{sum_by-cons}
use Rattle.kts_abs.proofs.Listed.{In}
use Rattle.kts_base.specs.Limits.{most_formulas, most_trees}
use Rattle.kts_classify.proofs.HeadCounts.{has_tree}
use Rattle.kts_classify.proofs.PlanCounts.{few_clauses, few_trees, count_definites}
use Rattle.kts_clause.specs.declared.clause.Clause.{Clause}
use Rattle.kts_clause.specs.declared.literal.Literal.{Literal}
use Rattle.kts_clause.specs.ClauseFacts.{LiteralFacts, ClauseFacts, clause_trees}
use Rattle.kts_emit.specs.BodyWeights.{sign_weight, literal_weight, length_of_body}
use Rattle.kts_emit.specs.ClauseCode.{literals_weight, length_of_clause}
use Rattle.kts_emit.specs.Weights.{chain_rest_weight, once}
use Rattle.kts_emit.proofs.ClausePushes.{short_prefix}
use Rattle.kts_emit.proofs.CountedCode.{nested_count}
use Rattle.kts_emit.proofs.ShortCode.{code_is_short}
use Rattle.kts_plan.specs.declared.definite.Definite.{Definite}
use Rattle.kts_plan.specs.Constraints.{Constraint, constraint_of}
use Rattle.kts_plan.specs.Heads.{all_but}
use Rattle.kts_plan.specs.Plans.{definites_of, is_residual, clauses_of_spec}
use Rattle.kts_plan.proofs.AskedCells.{definite_is, constraint_is, clauses_fit}
use Rattle.kts_plan.proofs.NumberedItems.{got_in, all_rest, all_got}
use Rattle.kts_spec.specs.declared.schema.Schema.{Schema}
use Rattle.kts_spec.specs.declared.spec.Spec.{Spec}
use Rattle.kts_spec.specs.Related.{AllOf}
use Rattle.kts_spec.specs.Sizes.{size_of_formula}
use Rattle.kts_search.specs.ClauseFilters.{weight_by}
use Rattle.kts_search.specs.WholeScheme.{bodies_count, length_of_whole}
use Rattle.kts_search.proofs.HeadWeights.{heads_light}

-- ---- sums

one_of_sum : {X : Type 0} (f : X → ℕ) (xs : List X) (x : X) → In x xs → f x ≤ sum_by f xs
one_of_sum f [] x i = absurd i
one_of_sum f (y ∷ xs) x (inl e) = let same = ap f e in omega (arith, sum_by-cons f y xs)
one_of_sum f (y ∷ xs) x (inr i) = omega (arith, sum_by-cons f y xs, one_of_sum f xs x i)

others_sum : {X : Type 0} (f : X → ℕ) (k : ℕ) (xs : List X) → sum_by f (all_but k xs) ≤ sum_by f xs
others_sum f k [] = omega arith
others_sum f zero (x ∷ xs) = omega (arith, sum_by-cons f x xs)
others_sum f (suc k) (x ∷ xs) = omega (arith, sum_by-cons f x xs, sum_by-cons f x (all_but k xs), others_sum f k xs)

-- ---- clauses

abbrev trees_of : Literal → ℕ
trees_of l = (size_of_formula l.formula).trees

sign_small : (b : Bool) → sign_weight b ≤ 1
sign_small true = omega arith
sign_small false = omega arith

module _ (schema : Schema) where
  -- literals: the code of their trees, what makes the contrary of one, and what joins it to those before
  literals_short : (scope : List ℕ) (ls : List Literal) → AllOf (LiteralFacts schema scope) ls
      → chain_rest_weight (map (literal_weight once) ls) ≤ 35 * sum_by trees_of ls
  literals_short scope [] facts = omega arith
  literals_short scope (l ∷ ls) facts =
      let short = code_is_short.formula schema l.formula scope facts.0.typed in
      let some = has_tree l.formula in
      let sign = sign_small l.negative in
      let more = literals_short scope ls facts.1 in
      omega (arith, sum_by-cons trees_of l ls)

  joined_short : (scope : List ℕ) (ls : List Literal) → AllOf (LiteralFacts schema scope) ls → literals_weight once ls ≤ 35 * sum_by trees_of ls + 1
  joined_short scope [] facts = omega arith
  joined_short scope (l ∷ ls) facts = let all = literals_short scope (l ∷ ls) facts in omega arith

  -- the loops of a prefix have four instructions each
  clause_short : (c : Clause) → ClauseFacts schema c → length_of_clause c ≤ 35 * clause_trees c + 13
  clause_short c facts =
      let literals = joined_short c.prefix c.literals facts.literals in
      let prefix = short_prefix schema c facts in
      omega (arith, nested_count c.prefix (literals_weight once c.literals))

  -- and each clause its test
  filters_short : (cs : List Clause) → ((c : Clause) → In c cs → ClauseFacts schema c)
      → weight_by length_of_clause (filter is_residual cs) ≤ 35 * sum_by clause_trees cs + 14 * length cs
  filters_short [] f = omega arith
  filters_short (c ∷ cs) f =
      let here = clause_short c (f c (inl refl)) in
      let more = filters_short cs (λ d i. f d (inr i)) in
      let sum = sum_by-cons clause_trees c cs in
      ⊎_elim (λ (e : is_residual c ≡ true). rw e (omega arith)) (λ (e : is_residual c ≡ false). rw e (omega arith)) (cases_Bool (is_residual c))

-- ---- bodies

module _ (spec : Spec) where
  abbrev clauses : List Clause
  clauses = clauses_of_spec spec

  -- a body: all literals of its clause, and a head of one of them
  body_short : (d : Definite) → In d (definites_of clauses) → length_of_body (constraint_of clauses d) ≤ 180 * sum_by clause_trees clauses
  body_short d i =
      let is = definite_is clauses d i in
      let scope = is.clause.prefix in
      let ls = is.clause.literals in
      let there = got_in clauses d.clause is.clause is.there in
      let facts = clauses_fit spec is.clause there in
      let own = all_got (LiteralFacts spec.schema scope) ls d.literal is.literal facts.literals is.at in
      let others = literals_short spec.schema scope (all_but d.literal ls) (all_rest (LiteralFacts spec.schema scope) ls d.literal facts.literals) in
      let fewer = others_sum trees_of d.literal ls in
      let head = heads_light is.literal d.head is.head in
      let short = code_is_short.formula spec.schema is.literal.formula scope own.typed in
      let some = has_tree is.literal.formula in
      let part = one_of_sum trees_of ls is.literal (got_in ls d.literal is.literal is.at) in
      let whole = one_of_sum clause_trees clauses is.clause there in
      subst (λ c. length_of_body c ≤ 180 * sum_by clause_trees clauses) (sym (constraint_is clauses d is)) (omega arith)

-- as many bodies as constraints
bodies_short : (f : Definite → Constraint) (most : ℕ) (ds : List Definite) → ((d : Definite) → In d ds → length_of_body (f d) ≤ most)
    → bodies_count (map f ds) ≤ length ds * most
bodies_short f most [] h = omega (arith, zero-mul most)
bodies_short f most (d ∷ ds) h =
    let here = h d (inl refl) in
    let more = bodies_short f most ds (λ x i. h x (inr i)) in
    omega (arith, suc-mul (length ds) most)

-- ---- the whole

-- there are at most so many clauses and trees in their literals, and twice as many constraints
pub whole_fits : (spec : Spec) → length_of_whole spec ≤ 2 ^ 64 - 1
whole_fits spec =
    let cs = clauses_of_spec spec in
    let ds = definites_of cs in
    let trees = few_trees spec in
    let clauses_are_few = few_clauses spec in
    let filters = filters_short spec.schema cs (clauses_fit spec) in
    let few = count_definites cs 0 in
    let most = 180 * (most_formulas * most_trees) in
    let bodies = bodies_short (constraint_of cs) most ds (λ d i. let short = body_short spec d i in omega arith) in
    omega arith
