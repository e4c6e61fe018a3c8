-- What is appended to a buffer: the draft for its end, which fits where it was counted.
use Rattle.std.proofs.Common.{◌≡◌, ℕ, ◌+◌, ◌-◌, ◌^◌, ◌≤◌, min, List, [], ◌++◌, length, ap, ◌∙◌, arith}
use Rattle.kts_base.specs.Limits.{most_instructions}
use Rattle.kts_code.specs.declared.instructions.Instr.{Instr}
use Rattle.kts_spec.specs.declared.tree.Term.{Term}
use Rattle.kts_spec.specs.declared.tree.Formula.{Formula}
use Rattle.kts_emit.specs.Fragments.{Fragment}
use Rattle.kts_emit.specs.Codes.{term_code, formula_code}
use Rattle.kts_emit.specs.Weights.{length_of_term, length_of_formula}
use Rattle.kts_emit.proofs.CodeLengths.{code_has_length}

-- a count that leaves room does not stop at its type's end
pub room_for : (used count more : ℕ) → count ≡ min more (2 ^ 64 - 1) → used + count ≤ most_instructions → used + more ≤ most_instructions
room_for used count more e fits = omega arith

-- what a draft that was begun empty shows: the fragment for the end of a buffer
pub shown_code : (code : Fragment) (empty draft shown : List Instr) (base used vars : ℕ) → empty ≡ []
    → draft ≡ empty ++ code (base + length empty) vars → shown ≡ draft → base ≡ used → shown ≡ code used vars
shown_code code empty draft shown base used vars none is same at =
    let there : base + 0 ≡ used = omega arith in
    same ∙ is ∙ ap (λ l. l ++ code (base + length l) vars) none ∙ ap (λ p. code p vars) there

pub term_fits : (draft : List Instr) (t : Term) (base used vars count : ℕ) → draft ≡ term_code t used vars
    → count ≡ min (length_of_term t) (2 ^ 64 - 1) → used + count ≤ most_instructions → used + length draft ≤ most_instructions
term_fits draft t base used vars count e counted fits =
    let long = ap length e ∙ code_has_length.term t used vars in
    let room = room_for used count (length_of_term t) counted fits in
    omega arith

pub formula_fits : (draft : List Instr) (p : Formula) (base used vars count : ℕ) → draft ≡ formula_code p used vars
    → count ≡ min (length_of_formula p) (2 ^ 64 - 1) → used + count ≤ most_instructions → used + length draft ≤ most_instructions
formula_fits draft p base used vars count e counted fits =
    let long = ap length e ∙ code_has_length.formula p used vars in
    let room = room_for used count (length_of_formula p) counted fits in
    omega arith
