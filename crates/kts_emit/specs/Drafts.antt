-- Code of which the loops are still open: their labels are set once the end is known.
use Rattle.std.specs.Prelude.{ℕ, suc, ◌+◌, List, [], ◌∷◌, ◌++◌, length, slice_set}
use Rattle.kts_code.specs.declared.instructions.Instr.{Instr}
use Rattle.kts_code.specs.declared.instructions.Instr.TheVariants.{First, Next}

-- what stands before the body of nested loops, the labels still 0
abbrev pub openings : Instr → List ℕ → ℕ → List Instr
openings start [] vars = []
openings start (index ∷ indexes) vars = start ∷ First vars index 0 ∷ openings start indexes (suc vars)

-- a draft that stands from the place `base` on, with the end of a loop behind it; the loop begins `at` so many instructions
abbrev pub with_end : ℕ → ℕ → ℕ → ℕ → List Instr → List Instr
with_end base vars index at code =
    slice_set (code ++ Next vars (base + at + 1 + 1) ∷ []) (at + 1) (First vars index (base + length code + 1))

-- the same with the ends of nested loops, of which the outermost begins there
abbrev pub with_ends : ℕ → Instr → List ℕ → ℕ → ℕ → List Instr → List Instr
with_ends base join [] at vars code = code
with_ends base join (index ∷ indexes) at vars code =
    with_end base vars index at (with_ends base join indexes (at + 1 + 1) (suc vars) code ++ join ∷ [])
