-- What the numbers of a plan name, and the patterns of its constraints.
use Rattle.std.proofs.Common.{◌≡◌, refl, sym, ap, ◌∙◌, subst, ℕ, zero, suc, ◌^◌, ◌<◌, List, [], ◌∷◌, ◌++◌, length, map, get_or, true, arith}
use Rattle.std.specs.Prelude.{flat_map, slice_get}
use Rattle.std.specs.List.{list_all}
use Rattle.std.proofs.lemmas.Bool.{and_parts, ltb-true}
use Rattle.kts_clause.specs.declared.clause.Clause.{Clause}
use Rattle.kts_clause.specs.declared.literal.Literal.{Literal}
use Rattle.kts_index.specs.declared.pattern.Pattern.{Pattern}
use Rattle.kts_plan.specs.Constraints.{Constraint, no_clause, constraint_of}
use Rattle.kts_plan.specs.Heads.{all_but}
use Rattle.kts_plan.specs.PlanNumbers.{names_literal, is_plan}
use Rattle.kts_plan.specs.TaskReads.{bound_reads, constraint_reads}
use Rattle.kts_plan.specs.declared.definite.Definite.{Definite}
use Rattle.kts_plan.specs.declared.plan.Plan.{Plan}
use Rattle.kts_spec.specs.Reads.{reads_in}
use Rattle.kts_classify.specs.PlanPatterns.{access_pattern, constraint_patterns, definite_at, distinct, extended}
use Rattle.kts_classify.proofs.Extensions.{extended_both, extended_all}
use Rattle.kts_classify.proofs.PlanCounts.{all_at}

-- an item by its number, whatever stands for one that is not there
pub same_item : {X : Type 0} (xs : List X) (k : ℕ) (x d : X) → k < length xs → x ≡ get_or xs k x → get_or xs k d ≡ x
same_item [] k x d lt e = absurd (omega arith)
same_item (y ∷ xs) zero x d lt e = sym e
same_item (y ∷ xs) (suc k) x d lt e = same_item xs k x d (omega arith) e

pub own_item : {X : Type 0} (xs : List X) (k : ℕ) (d : X) → k < length xs → get_or xs k d ≡ get_or xs k (get_or xs k d)
own_item [] k d lt = absurd (omega arith)
own_item (y ∷ xs) zero d lt = refl
own_item (y ∷ xs) (suc k) d lt = own_item xs k d (omega arith)

record PlanIs (plan : Plan) : Type 0 where
  few : length plan.definites < 2 ^ 32
  named : list_all (λ (d : Definite). names_literal (slice_get plan.clauses d.clause) d.literal) plan.definites ≡ true

plan_is_so : (plan : Plan) → PlanIs plan
unfolding is_plan
plan_is_so plan =
    let all = and_parts _ _ plan.is_plan in
    let named = and_parts _ _ all.0 in
    let residuals = and_parts _ _ named.0 in
    let definites = and_parts _ _ residuals.0 in
    record { few = ltb-true (length plan.definites) (2 ^ 32) definites.1; named = named.1 }

pub few_definites : (plan : Plan) → length plan.definites < 2 ^ 32
few_definites plan = (plan_is_so plan).few

-- a constraint's clause is there, and its literal in it
pub record IsNamed (clauses : List Clause) (d : Definite) : Type 0 where
  pub clause : d.clause < length clauses
  pub literal : (c : Clause) → c ≡ get_or clauses d.clause c → d.literal < length c.literals

by_name : (clauses : List Clause) (n l : ℕ) → names_literal (slice_get clauses n) l ≡ true → (n < length clauses) × ((c : Clause) → c ≡ get_or clauses n c → l < length c.literals)
by_name [] n l h = cc
by_name (c ∷ clauses) zero l h = (omega arith, λ x e. subst (λ (y : Clause). l < length y.literals) (sym e) (ltb-true l (length c.literals) h))
by_name (c ∷ clauses) (suc n) l h = let rest = by_name clauses n l h in (let lt = rest.0 in omega (arith, lt), rest.1)

pub is_named : (plan : Plan) (k : ℕ) (d : Definite) → k < length plan.definites → d ≡ get_or plan.definites k d → IsNamed plan.clauses d
is_named plan k d lt is =
    let both = by_name plan.clauses d.clause d.literal (all_at (λ (d : Definite). names_literal (slice_get plan.clauses d.clause) d.literal) plan.definites k d (plan_is_so plan).named lt is) in
    record { clause = both.0; literal = both.1 }

-- the constraint of a number, by its parts
pub constraint_is : (plan : Plan) (k : ℕ) (d : Definite) (c : Clause) → k < length plan.definites → d ≡ get_or plan.definites k d → c ≡ get_or plan.clauses d.clause c
    → constraint_of plan.clauses (definite_at plan.definites k) ≡ record { prefix = c.prefix; others = all_but d.literal c.literals; head = d.head }
constraint_is plan k d c lt is there =
    let named = is_named plan k d lt is in
    ap (constraint_of plan.clauses) (same_item plan.definites k d _ lt is)
    ∙ ap (λ (x : Clause). let made : Constraint = record { prefix = x.prefix; others = all_but d.literal x.literals; head = d.head } in made) (same_item plan.clauses d.clause c no_clause named.clause there)

-- the patterns of a constraint after those of others
pub patterns_are : (old now all : List Pattern) (number n first : ℕ) (c : Constraint) → first ≡ length old → n ≡ length c.prefix
    → now ≡ extended first old (map (access_pattern number n) (flat_map (λ (l : Literal). reads_in l.formula) c.others))
    → all ≡ extended first now (map (access_pattern number n) (bound_reads c.head.bound)) → all ≡ old ++ constraint_patterns (number, c)
patterns_are old now all number n first c e long h g =
    g ∙ extended_both (access_pattern number n) first old now (flat_map (λ (l : Literal). reads_in l.formula) c.others) (bound_reads c.head.bound) (omega (arith, e)) h
    ∙ extended_all old _ first e ∙ ap (λ m. old ++ distinct (map (access_pattern number m) (constraint_reads c))) long
