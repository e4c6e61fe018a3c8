-- The length of a body is its weight where each index has one member, wherever it stands.
use Rattle.std.proofs.Common.{◌≡◌, ℕ, ◌+◌, List, [], ◌∷◌, ◌++◌, length, map, Bool, true, false, refl, arith, length-append}
use Rattle.std.specs.Prelude.{pos}
use Rattle.kts_clause.specs.declared.literal.Literal.{Literal}
use Rattle.kts_code.specs.declared.instructions.Instr.TheVariants as i
use Rattle.kts_plan.specs.declared.bound.Bound.{Bound}
use Rattle.kts_plan.specs.declared.bound.Bound.TheVariants.{Rest, Side}
use Rattle.kts_plan.specs.declared.head.Head.{Head}
use Rattle.kts_spec.specs.declared.tree.Term.{Term}
use Rattle.kts_emit.specs.Fragments.{Fragment, sequence, chain_rest}
use Rattle.kts_emit.specs.Bodies.{signed_code, literal_code, first_code, sign_instr, later_code, bound_code, op_instr, head_code}
use Rattle.kts_emit.specs.BodyWeights.{sign_weight, first_weight, literal_weight, later_weight, bound_weight, head_weight, BodiesHaveLength}
use Rattle.kts_emit.specs.Codes.{term_code, formula_code}
use Rattle.kts_emit.specs.Weights.{sequence_weight, chain_rest_weight, weight_of_term, once}
use Rattle.kts_emit.proofs.CodeLengths.{code_has_length}

pub signed_long : (negative : Bool) (code : Fragment) (p n : ℕ) → length (signed_code negative code p n) ≡ length (code p n) + sign_weight negative
signed_long false code p n = omega arith
signed_long true code p n =
    let a = length-append (code p n) [] in
    let b = length-append (code p n ++ []) (i.Not ∷ []) in
    omega arith

others_long : (done : ℕ) (ls : List Literal) (p n : ℕ)
    → length (chain_rest (i.Need done) (map literal_code ls) p n) ≡ chain_rest_weight (map (literal_weight once) ls)
others_long done [] p n = refl
others_long done (l ∷ ls) p n =
    let first = literal_code l p n in
    let q = p + length first + 1 in
    let h = code_has_length.formula l.formula p n in
    let s = signed_long l.negative (formula_code l.formula) p n in
    let rest = others_long done ls q n in
    let both = length-append first (i.Need done ∷ chain_rest (i.Need done) (map literal_code ls) q n) in
    omega arith

first_long : (minus : Bool) (t : Term) (p n : ℕ) → length (first_code minus (term_code t) p n) ≡ weight_of_term once t + first_weight minus
first_long false t p n = let h = code_has_length.term t p n in omega arith
first_long true t p n =
    let h = code_has_length.term t (p + 1) n in
    let inner = term_code t (p + 1) n in
    let a = length-append inner [] in
    let b = length-append (i.Num (pos 0) ∷ (inner ++ [])) (i.Sub ∷ []) in
    omega arith

later_long : (xs : List (Bool × Term)) (p n : ℕ) → length (later_code xs p n) ≡ later_weight once xs
later_long [] p n = refl
later_long (a ∷ xs) p n =
    let first = term_code a.1 p n in
    let h = code_has_length.term a.1 p n in
    let q = p + length first + 1 in
    let rest = later_long xs q n in
    let both = length-append first (sign_instr a.0 ∷ later_code xs q n) in
    omega arith

bound_long : (b : Bound) (p n : ℕ) → length (bound_code b p n) ≡ bound_weight once b
bound_long (Side t) p n = code_has_length.term t p n
bound_long (Rest []) p n = refl
bound_long (Rest (a ∷ xs)) p n =
    let front = first_code a.0 (term_code a.1) p n in
    let h = first_long a.0 a.1 p n in
    let rest = later_long xs (p + length front) n in
    let both = length-append front (later_code xs (p + length front) n) in
    omega arith

-- the arguments and the bound
operands_long : (ts : List Term) (b : Bound) (p n : ℕ)
    → length (sequence (map term_code ts ++ bound_code b ∷ []) p n) ≡ sequence_weight (map (weight_of_term once) ts) + bound_weight once b
operands_long [] b p n =
    let h = bound_long b p n in
    let both = length-append (bound_code b p n) [] in
    omega arith
operands_long (t ∷ ts) b p n =
    let h = code_has_length.term t p n in
    let q = p + length (term_code t p n) in
    let rest = operands_long ts b q n in
    let both = length-append (term_code t p n) (sequence (map term_code ts ++ bound_code b ∷ []) q n) in
    omega arith

head_long : (h : Head) (done fail p n : ℕ) → length (head_code h done fail p n) ≡ head_weight once h
head_long h done fail p n =
    let operands = sequence (map term_code h.args ++ bound_code h.bound ∷ []) p n in
    let long = operands_long h.args h.bound p n in
    let both = length-append operands (op_instr h.op h.choice fail ∷ (i.Jump done ∷ [])) in
    omega arith

pub bodies_have_length : BodiesHaveLength
bodies_have_length c done fail p n =
    let front = chain_rest (i.Need done) (map literal_code c.others) p n in
    let first = others_long done c.others p n in
    let last = head_long c.head done fail (p + length front) n in
    let both = length-append front (head_code c.head done fail (p + length front) n) in
    omega arith
