-- The length of code does not depend on its place: it is its weight where each index has one member.
use Rattle.std.proofs.Common.{◌≡◌, ℕ, suc, ◌+◌, Bool, true, false, cond, List, [], ◌∷◌, length, map, refl, subst, arith, length-append}
use Rattle.kts_code.specs.declared.instructions.Instr.{Instr}
use Rattle.kts_code.specs.declared.instructions.Instr.TheVariants.{Next}
use Rattle.kts_spec.specs.declared.tree.Comparison.{Comparison}
use Rattle.kts_spec.specs.declared.tree.Comparison.TheVariants.{Le, Lt, Ge, Gt, Eq, Ne, Same, Other}
use Rattle.kts_spec.specs.declared.tree.Term.{Term, roll-Term}
use Rattle.kts_spec.specs.declared.tree.Formula.{Formula, roll-Formula}
use Rattle.kts_spec.specs.declared.tree.Formula.TheOpen as one
use Rattle.kts_spec.specs.declared.tree.Formula.TheFolds.{ind-Term, ind-Formula, map-Term, map-Formula}
use Rattle.kts_emit.specs.Fragments.{Fragment, sequence, operation, chain_rest, chain, loop, begun, nested_loops}
use Rattle.kts_emit.specs.Codes.{negated, is_turned, test_code, comparison_code, term_step, formula_step, term_code, formula_code}
use Rattle.kts_emit.specs.Weights.{sequence_weight, chain_rest_weight, chain_weight, loop_weight, nested_weight, test_weight, term_weight, formula_weight, weight_of_term, weight_of_formula, once}
use Rattle.kts_emit.specs.Lengths.{CodeHasLength}
use Rattle.kts_emit.proofs.CodeLevels.{term_code-roll, formula_code-roll, weight_of_term-roll, weight_of_formula-roll}

-- code of this length, wherever it stands
pub record Long (body : Fragment) (n : ℕ) : Type 0 where
  pub is : (p vars : ℕ) → length (body p vars) ≡ n

-- several codes of these lengths
abbrev pub AllLong : List Fragment → List ℕ → Type 0
AllLong [] [] = Unit {0}
AllLong (code ∷ codes) (n ∷ ns) = Long code n × AllLong codes ns
AllLong codes ns = ⊥

pub sequence_long : (codes : List Fragment) (ns : List ℕ) (p vars : ℕ) → AllLong codes ns → length (sequence codes p vars) ≡ sequence_weight ns
sequence_long [] [] p vars h = refl
sequence_long (code ∷ codes) (n ∷ ns) p vars h =
    let a = h.0.is p vars in
    let b = sequence_long codes ns (p + length (code p vars)) vars h.1 in
    omega (arith, length-append (code p vars) (sequence codes (p + length (code p vars)) vars))
sequence_long codes ns p vars h = absurd h

pub operation_long : (codes : List Fragment) (ns : List ℕ) (last : List Instr) → AllLong codes ns
    → Long (operation codes last) (sequence_weight ns + length last)
operation_long codes ns last h = record { is = λ p vars. omega (arith, length-append (sequence codes p vars) last, sequence_long codes ns p vars h) }

pub chain_rest_long : (i : Instr) (codes : List Fragment) (ns : List ℕ) (p vars : ℕ) → AllLong codes ns
    → length (chain_rest i codes p vars) ≡ chain_rest_weight ns
chain_rest_long i [] [] p vars h = refl
chain_rest_long i (code ∷ codes) (n ∷ ns) p vars h =
    let a = h.0.is p vars in
    let q = p + length (code p vars) + 1 in
    let b = chain_rest_long i codes ns q vars h.1 in
    omega (arith, length-append (code p vars) (i ∷ chain_rest i codes q vars))
chain_rest_long i codes ns p vars h = absurd h

pub chain_long : (i : Instr) (codes : List Fragment) (ns : List ℕ) → AllLong codes ns → Long (chain i codes) (chain_weight ns)
chain_long i [] [] h = record { is = λ p vars. refl }
chain_long i (code ∷ codes) (n ∷ ns) h = record {
  is = λ p vars.
      let a = h.0.is p vars in
      let q = p + length (code p vars) in
      let b = chain_rest_long i codes ns q vars h.1 in
      omega (arith, length-append (code p vars) (chain_rest i codes q vars));
}
chain_long i codes ns h = absurd h

begun_long : (start : Instr) (index : ℕ) (body : Fragment) (n : ℕ) → Long body n → Long (begun start (loop index body)) (1 + loop_weight once index n)
begun_long start index body n h = record {
  is = λ p vars.
      let a = h.is (p + 1 + 1) (suc vars) in
      omega (arith, length-append (body (p + 1 + 1) (suc vars)) (Next vars (p + 1 + 1) ∷ []));
}

long_as : (body : Fragment) (m n : ℕ) → m ≡ n → Long body m → Long body n
long_as body m n e h = subst (Long body) e h

pub loops_long : (start op : Instr) (indexes : List ℕ) (body : Fragment) (n : ℕ) → Long body n
    → Long (nested_loops start op indexes body) (nested_weight once indexes n)
loops_long start op [] body n h = h
loops_long start op (index ∷ indexes) body n h =
    let inner = operation_long (nested_loops start op indexes body ∷ []) (nested_weight once indexes n ∷ []) (op ∷ [])
    (loops_long start op indexes body n h, tt) in
    begun_long start index (operation (nested_loops start op indexes body ∷ []) (op ∷ [])) (nested_weight once indexes n + 1)
    (long_as _ (nested_weight once indexes n + 0 + 1) _ (omega arith) inner)

test_long : (o : Comparison) → length (test_code o) ≡ test_weight o
test_long Le = refl
test_long Lt = refl
test_long Ge = refl
test_long Gt = refl
test_long Eq = refl
test_long Ne = refl
test_long Same = refl
test_long Other = refl

comparison_long : (o : Comparison) (a b : Fragment) (m n : ℕ) → Long a m → Long b n → Long (comparison_code o a b) (m + n + test_weight o)
comparison_long o a b m n h k = by_turn (is_turned o)
  where
    by_turn : (turned : Bool) → Long (operation (cond turned (b ∷ a ∷ []) (a ∷ b ∷ [])) (test_code o)) (m + n + test_weight o)
    by_turn true =
        let e = test_long o in
        long_as _ (n + (m + 0) + length (test_code o)) _ (omega arith) (operation_long (b ∷ a ∷ []) (n ∷ m ∷ []) _ (k, (h, tt)))
    by_turn false =
        let e = test_long o in
        long_as _ (m + (n + 0) + length (test_code o)) _ (omega arith) (operation_long (a ∷ b ∷ []) (m ∷ n ∷ []) _ (h, (k, tt)))

abbrev OfTerm : Term → Type 0
OfTerm t = Long (term_code t) (weight_of_term once t)

abbrev OfFormula : Formula → Type 0
OfFormula p = Long (formula_code p) (weight_of_formula once p)

abbrev Part : Type 0
Part = (t : Term) × OfTerm t

abbrev FormulaPart : Type 0
FormulaPart = (p : Formula) × OfFormula p

terms_long : (parts : List Part) → AllLong (map term_code (map (λ (p : Part). p.0) parts)) (map (weight_of_term once) (map (λ (p : Part). p.0) parts))
terms_long [] = tt
terms_long (p ∷ parts) = (p.1, terms_long parts)

formulas_long : (parts : List FormulaPart)
    → AllLong (map formula_code (map (λ (p : FormulaPart). p.0) parts)) (map (weight_of_formula once) (map (λ (p : FormulaPart). p.0) parts))
formulas_long [] = tt
formulas_long (p ∷ parts) = (p.1, formulas_long parts)

abbrev bare : one.Term-F FormulaPart Part → one.Term-F Formula Term
bare y = map-Term FormulaPart Part Formula Term (λ p. p.0) (λ p. p.0) y

abbrev bare_formula : one.Formula-F FormulaPart Part → one.Formula-F Formula Term
bare_formula y = map-Formula FormulaPart Part Formula Term (λ p. p.0) (λ p. p.0) y

term_case : (y : one.Term-F FormulaPart Part)
    → Long (term_step (map-Term Formula Term Fragment Fragment formula_code term_code (bare y)))
    (term_weight once (map-Term Formula Term ℕ ℕ (weight_of_formula once) (weight_of_term once) (bare y)))
term_case (one.Number n) = record { is = λ p vars. refl }
term_case (one.Var k) = record { is = λ p vars. refl }
term_case (one.Given f args) = operation_long _ _ _ (terms_long args)
term_case (one.Choice x args) = operation_long _ _ _ (terms_long args)
term_case (one.Add parts) = chain_long _ _ _ (terms_long parts)
term_case (one.Sub parts) = operation_long _ _ _ (terms_long parts)
term_case (one.Mul parts) = operation_long _ _ _ (terms_long parts)
term_case (one.Min parts) = operation_long _ _ _ (terms_long parts)
term_case (one.Max parts) = operation_long _ _ _ (terms_long parts)
term_case (one.Sum index p a) =
    let m = weight_of_formula once p.0 in
    let n = weight_of_term once a.0 in
    begun_long _ index _ (m + n + 2)
    (long_as _ (m + (n + 0) + 2) _ (omega arith) (operation_long (formula_code p.0 ∷ term_code a.0 ∷ []) (m ∷ n ∷ []) _ (p.1, (a.1, tt))))

formula_case : (y : one.Formula-F FormulaPart Part)
    → Long (formula_step (map-Formula Formula Term Fragment Fragment formula_code term_code (bare_formula y)))
    (formula_weight once (map-Formula Formula Term ℕ ℕ (weight_of_formula once) (weight_of_term once) (bare_formula y)))
formula_case (one.Compare o a b) = comparison_long o _ _ _ _ a.1 b.1
formula_case (one.And parts) = chain_long _ _ _ (formulas_long parts)
formula_case (one.Or parts) = chain_long _ _ _ (formulas_long parts)
formula_case (one.Not p) =
    let m = weight_of_formula once p.0 in
    long_as _ (m + 0 + 1) (m + 1) (omega arith) (operation_long (formula_code p.0 ∷ []) (m ∷ []) _ (p.1, tt))
formula_case (one.Implies p q) =
    let m = weight_of_formula once p.0 in
    let n = weight_of_formula once q.0 in
    let no = operation_long (formula_code p.0 ∷ []) (m ∷ []) _ (p.1, tt) in
    long_as _ (m + 0 + 1 + (n + 0) + 1) (m + 1 + n + 1) (omega arith)
    (operation_long (negated (formula_code p.0) ∷ formula_code q.0 ∷ []) ((m + 0 + 1) ∷ n ∷ []) _ (no, (q.1, tt)))
formula_case (one.Forall indexes p) = loops_long _ _ indexes _ _ p.1
formula_case (one.Exists indexes p) = loops_long _ _ indexes _ _ p.1

term_all : (y : one.Term-F FormulaPart Part) → OfTerm (roll-Term (bare y))
term_all y = rw (term_code-roll (bare y), weight_of_term-roll once (bare y)) (term_case y)

formula_all : (y : one.Formula-F FormulaPart Part) → OfFormula (roll-Formula (bare_formula y))
formula_all y = rw (formula_code-roll (bare_formula y), weight_of_formula-roll once (bare_formula y)) (formula_case y)

term_long : (t : Term) → OfTerm t
term_long t = ind-Term OfFormula OfTerm (λ x y e. subst (λ z. OfFormula (roll-Formula z)) e (formula_all y))
    (λ x y e. subst (λ z. OfTerm (roll-Term z)) e (term_all y)) t

formula_long : (p : Formula) → OfFormula p
formula_long p = ind-Formula OfFormula OfTerm (λ x y e. subst (λ z. OfFormula (roll-Formula z)) e (formula_all y))
    (λ x y e. subst (λ z. OfTerm (roll-Term z)) e (term_all y)) p

pub code_has_length : CodeHasLength
code_has_length = record { term = λ t p vars. (term_long t).is p vars; formula = λ f p vars. (formula_long f).is p vars }
