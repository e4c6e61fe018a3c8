-- All lines of code, each read after those before it.
use Rattle.std.specs.Prelude.{◌==◌, ℕ, suc, ◌+◌, ℤ, pos, nat_abs, int_le, nat_lt, List, [], ◌∷◌, ◌++◌, length, not, if◌then◌else◌, Bool, Option, Some, None, Result, Ok, Err, codes}
use Rattle.std.specs.List.{prefix_len}
use Rattle.kts_base.specs.Limits.{most_instructions, most_stack}
use Rattle.kts_base.specs.Reads.{and_then}
use Rattle.kts_code.specs.declared.code.Code.{Code}
use Rattle.kts_code.specs.declared.instructions.Instr.{Instr}
use Rattle.kts_read.specs.declared.constraints.Constraints.{Constraints}
use Rattle.kts_read.specs.declared.declarations.Declared.{Declared}
use Rattle.kts_read.specs.declared.draft.Draft.{Draft}
use Rattle.kts_read.specs.declared.draft.Part.{Part}
use Rattle.kts_read.specs.declared.draft.Part.TheVariants.{Header, Named, Declarations, Tasks, Wakes, Size, Instructions, Whole}
use Rattle.kts_read.specs.declared.fault.CodeFault.{CodeFault}
use Rattle.kts_read.specs.declared.fault.CodeKind.{CodeKind}
use Rattle.kts_read.specs.declared.fault.CodeKind.TheVariants.{BadHeader, BadLine, WrongCount, BadName, BadNumber, BadLabel, TooLong}
use Rattle.kts_read.specs.declared.operands.Counts.{Counts}
use Rattle.kts_read.specs.Lines.{split, is_line, words_in, is_empty}
use Rattle.kts_read.specs.Words.{is_text, word, name_in, number_of, whole_in}
use Rattle.kts_read.specs.Faults.{fault, at_line}
use Rattle.kts_read.specs.DeclarationLines.{no_declarations, index_line, given_line, choose_line, manifest_line}
use Rattle.kts_read.specs.ConstraintLines.{no_constraints, task_line, wake_line}
use Rattle.kts_read.specs.InstructionLines.{instr_line}

-- what is known before the first line
abbrev pub nothing : Draft
nothing = record { part = Header; name = None; declared = no_declarations; constraints = no_constraints; stack = 0; size = 0; instrs = [] }

-- ---- what a line adds

abbrev pub begun : Draft → Draft
begun d = record { part = Named; name = d.name; declared = d.declared; constraints = d.constraints; stack = d.stack; size = d.size; instrs = d.instrs }

abbrev pub named : Draft → List ℕ → Draft
named d name = record { part = Declarations; name = Some name; declared = d.declared; constraints = d.constraints; stack = d.stack; size = d.size; instrs = d.instrs }

abbrev pub declaring : Draft → Declared → Draft
declaring d x = record { part = Declarations; name = d.name; declared = x; constraints = d.constraints; stack = d.stack; size = d.size; instrs = d.instrs }

abbrev pub constrained : Draft → Part → Constraints → Draft
constrained d part c = record { part = part; name = d.name; declared = d.declared; constraints = c; stack = d.stack; size = d.size; instrs = d.instrs }

abbrev pub stacked : Draft → ℕ → Draft
stacked d stack = record { part = Size; name = d.name; declared = d.declared; constraints = d.constraints; stack = stack; size = d.size; instrs = d.instrs }

abbrev pub sized : Draft → ℕ → Draft
sized d size = record { part = Instructions; name = d.name; declared = d.declared; constraints = d.constraints; stack = d.stack; size = size; instrs = d.instrs }

abbrev pub coded : Draft → Instr → Draft
coded d instr = record { part = d.part; name = d.name; declared = d.declared; constraints = d.constraints; stack = d.stack; size = d.size; instrs = d.instrs ++ instr ∷ [] }

abbrev pub ended : Draft → Draft
ended d = record { part = Whole; name = d.name; declared = d.declared; constraints = d.constraints; stack = d.stack; size = d.size; instrs = d.instrs }

-- ---- the name

abbrev pub with_name : Draft → Option (List ℕ) → Result Draft CodeKind
with_name d None = Err BadName
with_name d (Some name) = Ok (named d name)

unfoldable pub name_line : Draft → List (List ℕ) → Result Draft CodeKind
name_line d words =
    if is_text (word words 0) (codes "spec") then (if length words == 2 then with_name d (name_in (word words 1)) else Err WrongCount)
    else Err BadLine

-- ---- the sizes

abbrev pub stack_or : Option ℕ → Result ℕ CodeKind
stack_or None = Err BadNumber
stack_or (Some stack) = Ok stack

unfoldable pub stack_in : List (List ℕ) → Result ℕ CodeKind
stack_in words = if length words == 2 then stack_or (whole_in 1 (suc most_stack) (word words 1)) else Err WrongCount

abbrev pub size_or : Option ℤ → Result ℕ CodeKind
size_or None = Err BadNumber
size_or (Some z) = if not (int_le (pos 1) z) then Err BadNumber else (if int_le z (pos most_instructions) then Ok (nat_abs z) else Err TooLong)

unfoldable pub size_in : List (List ℕ) → Result ℕ CodeKind
size_in words =
    if is_text (word words 0) (codes "code") then (if length words == 2 then size_or (number_of (word words 1)) else Err WrongCount)
    else Err BadLine

-- how many bodies from the first on begin within code of this size
unfoldable pub placed_count : ℕ → List ℕ → ℕ
placed_count size entries = prefix_len (λ to. nat_lt to size) entries

-- code of this size, where so many bodies from the first on begin within it; the lines of constraints follow those of the
-- name and of the declarations
abbrev pub placed : Draft → ℕ → ℕ → Result Draft CodeFault
placed d size k =
    if nat_lt k (length d.constraints.entries) then Err (fault BadLabel (3 + length d.declared.decls + k)) else Ok (sized d size)

unfoldable pub size_line : ℕ → Draft → List (List ℕ) → Result Draft CodeFault
size_line at d words = and_then (at_line at (size_in words)) (λ size. placed d size (placed_count size d.constraints.entries))

-- ---- lines that begin with a word

-- where no line of a pattern stands
unfoldable pub stack_line : Draft → List (List ℕ) → Result Draft CodeKind
stack_line d words = if is_text (word words 0) (codes "stack") then and_then (stack_in words) (λ stack. Ok (stacked d stack)) else Err BadLine

unfoldable pub pattern_line : Draft → List (List ℕ) → Result Draft CodeKind
pattern_line d words =
    if is_text (word words 0) (codes "wake") then and_then (wake_line d.declared d.constraints words) (λ c. Ok (constrained d Wakes c))
    else stack_line d words

unfoldable pub constraint_line : Draft → List (List ℕ) → Result Draft CodeKind
constraint_line d words =
    if is_text (word words 0) (codes "task") then and_then (task_line (length d.declared.indexes) d.constraints words) (λ c. Ok (constrained d Tasks c))
    else pattern_line d words

unfoldable pub declaration_line : Draft → List (List ℕ) → Result Draft CodeKind
declaration_line d words =
    if is_text (word words 0) (codes "index") then and_then (index_line d.declared words) (λ x. Ok (declaring d x))
    else (if is_text (word words 0) (codes "given") then and_then (given_line d.declared words) (λ x. Ok (declaring d x))
    else (if is_text (word words 0) (codes "choose") then and_then (choose_line d.declared words) (λ x. Ok (declaring d x))
    else (if is_text (word words 0) (codes "manifest") then and_then (manifest_line d.declared words) (λ x. Ok (declaring d x))
    else constraint_line d words)))

-- how many there are of what operands name
abbrev pub counts_in : Draft → Counts
counts_in d = record { labels = d.size; indexes = length d.declared.indexes; givens = length d.declared.givens; choices = length d.declared.choices }

unfoldable pub end_line : Draft → List (List ℕ) → Result Draft CodeKind
end_line d words = if is_text (word words 0) (codes "end") then (if length words == 1 then Ok (ended d) else Err WrongCount) else Err BadLine

unfoldable pub body_line : Draft → List (List ℕ) → Result Draft CodeKind
body_line d words =
    if nat_lt (length d.instrs) d.size then and_then (instr_line (counts_in d) words) (λ instr. Ok (coded d instr)) else end_line d words

-- ---- any line

-- a line of words, but that of the size
abbrev pub other_line : Draft → List (List ℕ) → Part → Result Draft CodeKind
other_line d words Header = Err BadLine
other_line d words Named = name_line d words
other_line d words Declarations = declaration_line d words
other_line d words Tasks = constraint_line d words
other_line d words Wakes = pattern_line d words
other_line d words Size = Err BadLine
other_line d words Instructions = body_line d words
other_line d words Whole = Err BadLine

-- a line of words
abbrev pub words_line : ℕ → Draft → List (List ℕ) → Part → Result Draft CodeFault
words_line at d words Size = size_line at d words
words_line at d words part = at_line at (other_line d words part)

abbrev pub is_header : List ℕ → Bool
is_header line = is_text line (codes "kts 1")

abbrev pub later_line : ℕ → Draft → List ℕ → Part → Result Draft CodeFault
later_line at d line Header = if is_header line then Ok (begun d) else Err (fault BadHeader at)
later_line at d line part = if is_line line then words_line at d (words_in line) part else Err (fault BadLine at)

-- what is known after one line more, whose number this is
unfoldable pub line_step : ℕ → Draft → List ℕ → Result Draft CodeFault
line_step at d line = later_line at d line d.part

abbrev pub last_step : Draft → List ℕ → Part → Result Draft CodeKind
last_step d line Header = if is_header line then Err BadLine else Err BadHeader
last_step d line Whole = if is_empty line then Ok d else Err BadLine
last_step d line part = Err BadLine

-- what follows the last end of a line
unfoldable pub finished : Draft → List ℕ → Result Draft CodeKind
finished d line = last_step d line d.part

-- what the lines say from this one on, of which the last isn't ended
unfoldable pub read_from : Draft → ℕ → List (List ℕ) → Result Draft CodeFault
read_from d at [] = at_line at (finished d [])
read_from d at (last ∷ []) = at_line at (finished d last)
read_from d at (line ∷ next ∷ lines) = and_then (line_step at d line) (λ after. read_from after (at + 1) (next ∷ lines))

-- what the bytes say, or the first line at fault
unfoldable pub code_read : List ℕ → Result Draft CodeFault
code_read bytes = read_from nothing 1 (split 10 bytes)

-- what code says
abbrev pub draft_of : Code → Draft
draft_of code = record {
  part = Whole;
  name = Some code.schema.name;
  declared = record { decls = code.schema.decls; indexes = code.schema.indexes; givens = code.schema.givens; choices = code.schema.choices };
  constraints = record { entries = code.entries; prefixes = code.schema.tasks; patterns = code.index };
  stack = code.stack;
  size = length code.instrs;
  instrs = code.instrs;
}
