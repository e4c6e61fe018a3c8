-- The lines of instructions.
use Rattle.std.specs.Prelude.{◌==◌, ℕ, ◌+◌, ℤ, pos, int_le, int_lt, List, length, Bool, true, false, ◌&&◌, if◌then◌else◌, Option, Some, None, Result, Ok, Err, find, codes}
use Rattle.kts_base.specs.Limits.{most_variables}
use Rattle.kts_base.specs.Reads.{each_from, and_then}
use Rattle.kts_code.specs.declared.instructions.Instr.{Instr}
use Rattle.kts_code.specs.CodeTexts.{word_of}
use Rattle.kts_code.specs.WellFormed.{is_code_number}
use Rattle.kts_write.specs.declared.table.OperandKind.{OperandKind}
use Rattle.kts_write.specs.declared.table.OperandKind.TheVariants as kinds
use Rattle.kts_write.specs.Encodings.{kinds_of, with_values, samples}
use Rattle.kts_read.specs.declared.operands.Counts.{Counts}
use Rattle.kts_read.specs.declared.fault.CodeKind.{CodeKind}
use Rattle.kts_read.specs.declared.fault.CodeKind.TheVariants.{BadLine, BadWord, WrongCount, BadNumber, BadLabel}
use Rattle.kts_read.specs.Words.{is_text, word, number_of}

-- the instruction of this word, with operands 0
unfoldable pub operation_of : List ℕ → Option Instr
operation_of word = find (λ instr. is_text (word_of instr) word) samples

-- how many there are of what an operand names
abbrev pub count_of : Counts → OperandKind → ℕ
count_of counts kinds.Label = counts.labels
count_of counts kinds.Given = counts.givens
count_of counts kinds.Choice = counts.choices
count_of counts kinds.Number = 0
count_of counts kinds.Register = most_variables
count_of counts kinds.Index = counts.indexes

abbrev pub is_number : OperandKind → Bool
is_number kinds.Label = false
is_number kinds.Given = false
is_number kinds.Choice = false
is_number kinds.Number = true
is_number kinds.Register = false
is_number kinds.Index = false

abbrev pub is_label : OperandKind → Bool
is_label kinds.Label = true
is_label kinds.Given = false
is_label kinds.Choice = false
is_label kinds.Number = false
is_label kinds.Register = false
is_label kinds.Index = false

unfoldable pub fits : Counts → OperandKind → ℤ → Bool
fits counts kind z = if is_number kind then is_code_number z else int_le (pos 0) z && int_lt z (pos (count_of counts kind))

-- what is wrong with a number that doesn't fit
abbrev pub misfit : OperandKind → ℤ → CodeKind
misfit kind z = if is_label kind && int_le (pos 0) z then BadLabel else BadNumber

abbrev pub fitting : Counts → OperandKind → Option ℤ → Result ℤ CodeKind
fitting counts kind None = Err BadNumber
fitting counts kind (Some z) = if fits counts kind z then Ok z else Err (misfit kind z)

-- the operand that a word is
unfoldable pub operand : Counts → OperandKind → List ℕ → Result ℤ CodeKind
operand counts kind word = fitting counts kind (number_of word)

-- the operands of these kinds, each the next word
unfoldable pub operands : Counts → List OperandKind → List (List ℕ) → Result (List ℤ) CodeKind
operands counts kinds words = each_from (λ k kind. operand counts kind (word words k)) (λ k (kind : OperandKind). k + 1) 1 kinds

abbrev pub with_operation : Counts → List (List ℕ) → Option Instr → Result Instr CodeKind
with_operation counts words None = Err BadWord
with_operation counts words (Some instr) =
    if length words == length (kinds_of instr) + 1 then and_then (operands counts (kinds_of instr) words) (λ values. Ok (with_values instr values))
    else Err WrongCount

-- the instruction of a line; the end comes too early here
unfoldable pub instr_line : Counts → List (List ℕ) → Result Instr CodeKind
instr_line counts words =
    if is_text (word words 0) (codes "end") then Err BadLine else with_operation counts words (operation_of (word words 0))
