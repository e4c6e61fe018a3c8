-- The first line at fault, and what it is at fault for.
use Rattle.std.specs.Prelude.{◌≡◌, ℕ, ◌+◌, ◌<◌, ◌≤◌, List, [], ◌∷◌, ◌++◌, length, map, Bool, true, false, ◌⊎◌, Some, None}
use Rattle.kts_base.specs.Limits.{most_instructions}
use Rattle.kts_code.specs.CodeTexts.{size_words}
use Rattle.kts_read.specs.declared.draft.Draft.{Draft}
use Rattle.kts_read.specs.declared.draft.Part.TheVariants.{Size}
use Rattle.kts_read.specs.declared.fault.CodeFault.{CodeFault}
use Rattle.kts_read.specs.declared.fault.CodeKind.TheVariants.{BadLabel}
use Rattle.kts_read.specs.Faults.{fault}
use Rattle.kts_read.specs.Lines.{split, line_of, words_in}
use Rattle.kts_read.specs.Reading.{placed_count}
use Rattle.kts_read.specs.Goods.{Good}
use Rattle.kts_read.specs.Written.{written}
use Rattle.kts_read.specs.Demands.{first_unmet, line_demands}

-- a line of this number, after those of the draft, doesn't meet all demands
abbrev pub IsUnmet : Draft → List ℕ → Bool → ℕ → CodeFault → Type 0
IsUnmet d line ended number f = (first_unmet (line_demands ended d line d.part) ≡ Some f.kind) × (f.line ≡ number)

-- The line meets all demands and says the number of instructions, but the body of some constraint would begin beyond them. The
-- fault is that of the first such constraint; the lines of constraints stand after those of the name and of the declarations.
pub record IsBeyond (d : Draft) (line : List ℕ) (ended : Bool) (f : CodeFault) : Type 0 where
  pub size : ℕ
  pub part : d.part ≡ Size
  pub met : first_unmet (line_demands ended d line d.part) ≡ None
  pub says : words_in line ≡ size_words size
  pub few : size ≤ most_instructions
  pub beyond : placed_count size d.constraints.entries < length d.constraints.entries
  pub told : f ≡ fault BadLabel (3 + length d.declared.decls + placed_count size d.constraints.entries)

abbrev pub is_ended : List (List ℕ) → Bool
is_ended [] = false
is_ended (line ∷ lines) = true

-- the lines before some line are those of a draft, and this line is at fault
pub record IsFirstFault (bytes : List ℕ) (f : CodeFault) : Type 0 where
  pub draft : Draft
  pub line : List ℕ
  pub rest : List (List ℕ)
  pub good : Good draft.part draft
  pub pieces : split 10 bytes ≡ map line_of (written draft draft.part) ++ line ∷ rest
  pub at_fault : IsUnmet draft line (is_ended rest) (length (written draft draft.part) + 1) f ⊎ IsBeyond draft line (is_ended rest) f
