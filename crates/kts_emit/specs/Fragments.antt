-- Fragments of code: what stands in one depends on where it begins, and on how many variables are in scope there.
use Rattle.std.specs.Prelude.{ℕ, suc, ◌+◌, List, [], ◌∷◌, ◌++◌, length}
use Rattle.kts_code.specs.declared.instructions.Instr.{Instr}
use Rattle.kts_code.specs.declared.instructions.Instr.TheVariants.{First, Next}

-- the instructions by the place of the first one and the number of variables in scope
abbrev pub Fragment : Type 0
Fragment = ℕ → ℕ → List Instr

-- one fragment after the other
abbrev pub sequence : List Fragment → Fragment
sequence [] place vars = []
sequence (code ∷ codes) place vars = code place vars ++ sequence codes (place + length (code place vars)) vars

-- several operands, and then the instructions that make one of them
abbrev pub operation : List Fragment → List Instr → Fragment
operation operands last place vars = sequence operands place vars ++ last

-- each operand followed by the instruction that joins it to what is before it
abbrev pub chain_rest : Instr → List Fragment → Fragment
chain_rest i [] place vars = []
chain_rest i (code ∷ codes) place vars =
    code place vars ++ (i ∷ chain_rest i codes (place + length (code place vars) + 1) vars)

-- several operands that an instruction joins, from the first on
abbrev pub chain : Instr → List Fragment → Fragment
chain i [] place vars = []
chain i (code ∷ codes) place vars = code place vars ++ chain_rest i codes (place + length (code place vars)) vars

-- the body for each member of an index, which is one variable more
abbrev pub loop : ℕ → Fragment → Fragment
loop index body place vars =
    First vars index (place + 1 + length (body (place + 1) (suc vars)) + 1)
    ∷ (body (place + 1) (suc vars) ++ Next vars (place + 1) ∷ [])

-- an instruction before a fragment
abbrev pub begun : Instr → Fragment → Fragment
begun start code place vars = start ∷ code (place + 1) vars

-- a loop for each index, the first outermost: what is begun with is joined to what the body pushes for each member
abbrev pub nested_loops : Instr → Instr → List ℕ → Fragment → Fragment
nested_loops start join [] body = body
nested_loops start join (index ∷ indexes) body =
    begun start (loop index (operation (nested_loops start join indexes body ∷ []) (join ∷ [])))
