-- No constraint reads more often than its body has instructions.
use Rattle.std.proofs.Common.{ℕ, ◌+◌, ◌≤◌, List, [], ◌∷◌, ◌++◌, length, length-append, map, fold, Bool, true, false, cond, subst, arith}
use Rattle.std.specs.Prelude.{flat_map}
use Rattle.std.specs.List.{enumerate_from, list_any}
use Rattle.std.proofs.lemmas.List.{length-map}
use Rattle.kts_classify.specs.PlanPatterns.{access_pattern, is_alike, with_new, constraint_patterns}
use Rattle.kts_clause.specs.declared.literal.Literal.{Literal}
use Rattle.kts_emit.specs.BodyWeights.{literal_weight, later_weight, bound_weight, length_of_body}
use Rattle.kts_emit.specs.Weights.{sequence_weight, chain_rest_weight, chain_weight, nested_weight, term_weight, formula_weight, weight_of_term, weight_of_formula, once}
use Rattle.kts_emit.proofs.CodeLevels.{weight_of_term-roll, weight_of_formula-roll}
use Rattle.kts_emit.proofs.CountedCode.{nested_count}
use Rattle.kts_index.specs.declared.pattern.Pattern.{Pattern}
use Rattle.kts_plan.specs.declared.bound.Bound.{Bound}
use Rattle.kts_plan.specs.declared.bound.Bound.TheVariants.{Rest, Side}
use Rattle.kts_plan.specs.Constraints.{Constraint}
use Rattle.kts_plan.specs.TaskReads.{bound_reads, constraint_reads}
use Rattle.kts_spec.specs.declared.tree.Term.{Term, roll-Term}
use Rattle.kts_spec.specs.declared.tree.Formula.{Formula, roll-Formula}
use Rattle.kts_spec.specs.declared.tree.Formula.TheOpen as one
use Rattle.kts_spec.specs.declared.tree.Formula.TheFolds.{ind-Term, ind-Formula, map-Term, map-Formula}
use Rattle.kts_spec.specs.Reads.{Access, all_reads, term_reads, formula_reads, reads_of, reads_in}
use Rattle.kts_spec.proofs.Rolls.{reads_of-roll, reads_in-roll}
use Rattle.kts_search.specs.WholeScheme.{bodies_count}

-- ---- terms and formulas

abbrev OfTerm : Term → Type 0
OfTerm t = length (reads_of t) ≤ weight_of_term once t

abbrev OfFormula : Formula → Type 0
OfFormula p = length (reads_in p) ≤ weight_of_formula once p

abbrev Part : Type 0
Part = (t : Term) × OfTerm t

abbrev FormulaPart : Type 0
FormulaPart = (p : Formula) × OfFormula p

abbrev terms : List Part → List Term
terms = map (λ (p : Part). p.0)

abbrev formulas : List FormulaPart → List Formula
formulas = map (λ (p : FormulaPart). p.0)

abbrev with_reads : Term → Term × List Access
with_reads t = (t, reads_of t)

abbrev with_reads_in : Formula → Formula × List Access
with_reads_in p = (p, reads_in p)

terms_read : (parts : List Part) → length (all_reads (map with_reads (terms parts))) ≤ sequence_weight (map (weight_of_term once) (terms parts))
terms_read [] = omega arith
terms_read (p ∷ parts) =
    let first = p.1 in
    let rest = terms_read parts in
    omega (arith, length-append (reads_of p.0) (all_reads (map with_reads (terms parts))))

formulas_read : (parts : List FormulaPart)
    → length (all_reads (map with_reads_in (formulas parts))) ≤ sequence_weight (map (weight_of_formula once) (formulas parts))
formulas_read [] = omega arith
formulas_read (p ∷ parts) =
    let first = p.1 in
    let rest = formulas_read parts in
    omega (arith, length-append (reads_in p.0) (all_reads (map with_reads_in (formulas parts))))

rest_heavier : (ns : List ℕ) → sequence_weight ns ≤ chain_rest_weight ns
rest_heavier [] = omega arith
rest_heavier (n ∷ ns) = let rest = rest_heavier ns in omega arith

pub chain_heavier : (ns : List ℕ) → sequence_weight ns ≤ chain_weight ns
chain_heavier [] = omega arith
chain_heavier (n ∷ ns) = let rest = rest_heavier ns in omega arith

terms_chained : (parts : List Part) → length (all_reads (map with_reads (terms parts))) ≤ chain_weight (map (weight_of_term once) (terms parts))
terms_chained parts =
    let a = terms_read parts in
    let b = chain_heavier (map (weight_of_term once) (terms parts)) in
    omega arith

formulas_chained : (parts : List FormulaPart)
    → length (all_reads (map with_reads_in (formulas parts))) ≤ chain_weight (map (weight_of_formula once) (formulas parts))
formulas_chained parts =
    let a = formulas_read parts in
    let b = chain_heavier (map (weight_of_formula once) (formulas parts)) in
    omega arith

terms_joined : (parts : List Part) → length (all_reads (map with_reads (terms parts))) ≤ sequence_weight (map (weight_of_term once) (terms parts)) + 1
terms_joined parts = let a = terms_read parts in omega arith

bound_over : (indexes : List ℕ) (p : FormulaPart) → length (reads_in p.0) ≤ nested_weight once indexes (weight_of_formula once p.0)
bound_over indexes p =
    let a = p.1 in
    let b = nested_count indexes (weight_of_formula once p.0) in
    omega arith

abbrev bare : one.Term-F FormulaPart Part → one.Term-F Formula Term
bare y = map-Term FormulaPart Part Formula Term (λ p. p.0) (λ p. p.0) y

abbrev bare_formula : one.Formula-F FormulaPart Part → one.Formula-F Formula Term
bare_formula y = map-Formula FormulaPart Part Formula Term (λ p. p.0) (λ p. p.0) y

term_case : (y : one.Term-F FormulaPart Part)
    → length (term_reads (map-Term Formula Term (Formula × List Access) (Term × List Access) with_reads_in with_reads (bare y)))
    ≤ term_weight once (map-Term Formula Term ℕ ℕ (weight_of_formula once) (weight_of_term once) (bare y))
term_case (one.Number n) = omega arith
term_case (one.Var k) = omega arith
term_case (one.Given f args) = terms_joined args
term_case (one.Choice x args) = let a = terms_read args in omega arith
term_case (one.Add parts) = terms_chained parts
term_case (one.Sub parts) = terms_joined parts
term_case (one.Mul parts) = terms_joined parts
term_case (one.Min parts) = terms_joined parts
term_case (one.Max parts) = terms_joined parts
term_case (one.Sum index p a) =
    let first = p.1 in
    let second = a.1 in
    omega (arith, length-append (reads_in p.0) (reads_of a.0))

formula_case : (y : one.Formula-F FormulaPart Part)
    → length (formula_reads (map-Formula Formula Term (Formula × List Access) (Term × List Access) with_reads_in with_reads (bare_formula y)))
    ≤ formula_weight once (map-Formula Formula Term ℕ ℕ (weight_of_formula once) (weight_of_term once) (bare_formula y))
formula_case (one.Compare o a b) =
    let first = a.1 in
    let second = b.1 in
    omega (arith, length-append (reads_of a.0) (reads_of b.0))
formula_case (one.And parts) = formulas_chained parts
formula_case (one.Or parts) = formulas_chained parts
formula_case (one.Not p) = let first = p.1 in omega arith
formula_case (one.Implies p q) =
    let first = p.1 in
    let second = q.1 in
    omega (arith, length-append (reads_in p.0) (reads_in q.0))
formula_case (one.Forall indexes p) = bound_over indexes p
formula_case (one.Exists indexes p) = bound_over indexes p

term_all : (y : one.Term-F FormulaPart Part) → OfTerm (roll-Term (bare y))
term_all y = rw (reads_of-roll (bare y), weight_of_term-roll once (bare y)) (term_case y)

formula_all : (y : one.Formula-F FormulaPart Part) → OfFormula (roll-Formula (bare_formula y))
formula_all y = rw (reads_in-roll (bare_formula y), weight_of_formula-roll once (bare_formula y)) (formula_case y)

term_reads_few : (t : Term) → OfTerm t
term_reads_few t = ind-Term OfFormula OfTerm (λ x y e. subst (λ z. OfFormula (roll-Formula z)) e (formula_all y))
    (λ x y e. subst (λ z. OfTerm (roll-Term z)) e (term_all y)) t

formula_reads_few : (p : Formula) → OfFormula p
formula_reads_few p = ind-Formula OfFormula OfTerm (λ x y e. subst (λ z. OfFormula (roll-Formula z)) e (formula_all y))
    (λ x y e. subst (λ z. OfTerm (roll-Term z)) e (term_all y)) p

-- ---- constraints

addends_read : (xs : List (Bool × Term)) → length (flat_map (λ (a : Bool × Term). reads_of a.1) xs) ≤ later_weight once xs
addends_read [] = omega arith
addends_read (a ∷ xs) =
    let first = term_reads_few a.1 in
    let rest = addends_read xs in
    omega (arith, length-append (reads_of a.1) (flat_map (λ (a : Bool × Term). reads_of a.1) xs))

bound_read : (b : Bound) → length (bound_reads b) ≤ bound_weight once b
bound_read (Side t) = term_reads_few t
bound_read (Rest []) = omega arith
bound_read (Rest (a ∷ xs)) =
    let first = term_reads_few a.1 in
    let rest = addends_read xs in
    omega (arith, length-append (reads_of a.1) (flat_map (λ (a : Bool × Term). reads_of a.1) xs))

literals_read : (ls : List Literal) → length (flat_map (λ (l : Literal). reads_in l.formula) ls) ≤ chain_rest_weight (map (literal_weight once) ls)
literals_read [] = omega arith
literals_read (l ∷ ls) =
    let first = formula_reads_few l.formula in
    let rest = literals_read ls in
    omega (arith, length-append (reads_in l.formula) (flat_map (λ (l : Literal). reads_in l.formula) ls))

constraint_read : (c : Constraint) → length (constraint_reads c) ≤ length_of_body c
constraint_read c =
    let first = literals_read c.others in
    let second = bound_read c.head.bound in
    omega (arith, length-append (flat_map (λ (l : Literal). reads_in l.formula) c.others) (bound_reads c.head.bound))

-- ---- patterns

new_few : (ps : List Pattern) (p : Pattern) → length (with_new ps p) ≤ length ps + 1
new_few ps p = by (list_any (is_alike p) ps)
  where
    by : (b : Bool) → length (cond b ps (ps ++ p ∷ [])) ≤ length ps + 1
    by true = omega arith
    by false = omega (arith, length-append ps (p ∷ []))

distinct_few : (qs ps : List Pattern) → length (fold with_new ps qs) ≤ length ps + length qs
distinct_few [] ps = omega arith
distinct_few (q ∷ qs) ps =
    let first = new_few ps q in
    let rest = distinct_few qs (with_new ps q) in
    omega arith

patterns_few : (d : ℕ) (c : Constraint) → length (constraint_patterns (d, c)) ≤ length_of_body c
patterns_few d c =
    let all = map (access_pattern d (length c.prefix)) (constraint_reads c) in
    let few = distinct_few all [] in
    let same = length-map (constraint_reads c) (access_pattern d (length c.prefix)) in
    let read = constraint_read c in
    omega arith

-- there are no more patterns than instructions of bodies
pub all_patterns_few : (k : ℕ) (cs : List Constraint) → length (flat_map constraint_patterns (enumerate_from k cs)) ≤ bodies_count cs
all_patterns_few k [] = omega arith
all_patterns_few k (c ∷ cs) =
    let first = patterns_few k c in
    let rest = all_patterns_few (k + 1) cs in
    omega (arith, length-append (constraint_patterns (k, c)) (flat_map constraint_patterns (enumerate_from (k + 1) cs)))
