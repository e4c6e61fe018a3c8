-- The instructions around the filters of a search.
use Rattle.std.specs.Prelude.{ℕ, ◌+◌, List, [], ◌∷◌}
use Rattle.kts_code.specs.declared.instructions.Instr.{Instr}
use Rattle.kts_code.specs.declared.instructions.Instr.TheVariants as i

-- The search: the space of all types; then, in turns, the tasks that wait, the filters, and either the split of a cell, or a schedule
-- printed and the latest split undone. n is the length of the filters, which stand between the two.
abbrev pub head : ℕ → List Instr
head n = i.Start (8 + n) ∷ (i.Take 2 ∷ (i.Node ∷ []))

abbrev pub tail : ℕ → List Instr
tail n = i.Pick (5 + n) ∷ (i.Jump 1 ∷ (i.Emit ∷ (i.Back (8 + n) ∷ (i.Jump 1 ∷ (i.Halt ∷ [])))))
