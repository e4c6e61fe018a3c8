-- What a line must meet, in the order in which it is judged: each demand with the fault of a line that doesn't meet it.
use Rattle.std.specs.Prelude.{◌==◌, ℕ, suc, ◌+◌, ℤ, pos, int_le, nat_lt, List, [], ◌∷◌, nat_eq, min, length, drop, Bool, true, false, not, ◌&&◌, ◌||◌, if◌then◌else◌, Option, Some, None, codes, slice_index, slice_index_or}
use Rattle.std.specs.List.{list_all}
use Rattle.kts_base.specs.Limits.{most_indexes, most_givens, most_choices, most_instructions, most_prefix, most_stack}
use Rattle.kts_base.specs.Names.{is_between}
use Rattle.kts_code.specs.declared.instructions.Instr.{Instr}
use Rattle.kts_spec.specs.Names.{is_language_name}
use Rattle.kts_spec.specs.Schemas.{is_end, assigns_members, family_at}
use Rattle.kts_write.specs.declared.table.OperandKind.{OperandKind}
use Rattle.kts_write.specs.Encodings.{kinds_of}
use Rattle.kts_read.specs.declared.constraints.Constraints.{Constraints}
use Rattle.kts_read.specs.declared.declarations.Declared.{Declared}
use Rattle.kts_read.specs.declared.draft.Draft.{Draft}
use Rattle.kts_read.specs.declared.draft.Part.{Part}
use Rattle.kts_read.specs.declared.draft.Part.TheVariants.{Header, Named, Declarations, Tasks, Wakes, Size, Instructions, Whole}
use Rattle.kts_read.specs.declared.fault.CodeKind.{CodeKind}
use Rattle.kts_read.specs.declared.fault.CodeKind.TheVariants.{BadHeader, BadLine, BadWord, WrongCount, BadName, BadNumber, BadLabel, TooLong}
use Rattle.kts_read.specs.declared.operands.Counts.{Counts}
use Rattle.kts_read.specs.Lines.{is_line, words_in, is_empty}
use Rattle.kts_read.specs.Words.{is_text, word, number_of, whole_in, number_below}
use Rattle.kts_read.specs.DeclarationLines.{is_taken, has_manifest}
use Rattle.kts_read.specs.InstructionLines.{operation_of, is_label, fits}
use Rattle.kts_read.specs.Reading.{counts_in, is_header}

-- a fault, and whether the line is without it
abbrev pub Demand : Type 0
Demand = CodeKind × Bool

-- the fault of the first demand that isn't met
abbrev pub first_unmet : List Demand → Option CodeKind
first_unmet [] = None
first_unmet ((kind, met) ∷ demands) = if met then first_unmet demands else Some kind

abbrev pub is_there : {X : Type 0} → Option X → Bool
is_there None = false
is_there (Some x) = true

-- ---- the name

abbrev pub name_demands : List (List ℕ) → List Demand
name_demands words = (BadLine, is_text (word words 0) (codes "spec")) ∷ (WrongCount, length words == 2) ∷ (BadName, is_language_name (word words 1)) ∷ []

-- ---- declarations

-- a name that nothing has
abbrev pub is_new : Declared → List ℕ → Bool
is_new x word = not (is_taken x word) && is_language_name word

abbrev pub index_demands : Declared → List (List ℕ) → List Demand
index_demands x words = (WrongCount, length words == 2) ∷ (BadName, is_new x (word words 1)) ∷ (TooLong, nat_lt (length x.indexes) most_indexes) ∷ []

-- the ends of a type
abbrev pub are_ends : Option ℤ → Option ℤ → Bool
are_ends None hi = false
are_ends (Some lo) None = false
are_ends (Some lo) (Some hi) = is_end lo && is_end hi && int_le lo hi

-- a line with this many words, with this type, and with these words for the indexes of arguments
abbrev pub typed_demands : Declared → List (List ℕ) → Bool → Bool → List (List ℕ) → Bool → List Demand
typed_demands x words count type args room =
    (WrongCount, count) ∷ (BadName, is_new x (word words 1)) ∷ (BadNumber, type)
    ∷ (BadNumber, list_all (λ arg. is_there (number_below (length x.indexes) arg)) args) ∷ (TooLong, room) ∷ []

-- a given or a choice; a line of fewer than three words has no type
abbrev pub family_demands : Declared → List (List ℕ) → Bool → List Demand
family_demands x words room =
    if nat_lt (length words) 3 then (WrongCount, false) ∷ []
    else (if is_text (word words 2) (codes "int") then
    typed_demands x words (is_between 5 7 (length words)) (are_ends (number_of (word words 3)) (number_of (word words 4))) (drop 5 words) room
    else (if is_text (word words 2) (codes "mem") then
    typed_demands x words (is_between 4 6 (length words)) (is_there (number_below (length x.indexes) (word words 3))) (drop 4 words) room
    else (BadWord, false) ∷ []))

-- a choice that may have a manifest, and has none
abbrev pub may_show : Declared → Option ℕ → Bool
may_show x None = false
may_show x (Some choice) = assigns_members (family_at x.choices choice) && not (has_manifest x.decls choice)

abbrev pub manifest_demands : Declared → List (List ℕ) → List Demand
manifest_demands x words = (WrongCount, length words == 2) ∷ (BadNumber, may_show x (number_below (length x.choices) (word words 1))) ∷ []

-- ---- constraints

-- a place of a body, which may lie beyond the code
abbrev pub is_entry : Option ℤ → Bool
is_entry None = false
is_entry (Some z) = int_le (pos 0) z

abbrev pub task_demands : ℕ → Constraints → List (List ℕ) → List Demand
task_demands indexes c words =
    (WrongCount, is_between 2 5 (length words)) ∷ (BadNumber, is_entry (number_of (word words 1)))
    ∷ (BadNumber, list_all (λ arg. is_there (number_below indexes arg)) (drop 2 words)) ∷ (TooLong, nat_lt (length c.entries) most_instructions) ∷ []

-- ---- patterns

-- the place of a variable of this index
abbrev pub is_variable_of : List ℕ → ℕ → Option ℕ → Bool
is_variable_of prefix index None = false
is_variable_of prefix index (Some k) = nat_eq (slice_index prefix k) index

-- any member, or the place of a variable of this index in a prefix
abbrev pub is_place_word : List ℕ → ℕ → List ℕ → Bool
is_place_word prefix index word = is_text word (codes "*") || is_variable_of prefix index (whole_in 0 (min (length prefix) most_prefix) word)

-- the words from this one on are places for arguments of these indexes
abbrev pub are_place_words : List ℕ → List (List ℕ) → ℕ → List ℕ → Bool
are_place_words prefix words k [] = true
are_place_words prefix words k (index ∷ args) = is_place_word prefix index (word words k) && are_place_words prefix words (k + 1) args

-- a constraint, where the choice has arguments of these indexes
abbrev pub constraint_demands : Constraints → List ℕ → List (List ℕ) → Option ℕ → List Demand
constraint_demands c args words None = (BadNumber, false) ∷ []
constraint_demands c args words (Some d) =
    (BadNumber, are_place_words (slice_index_or c.prefixes d []) words 3 args) ∷ (TooLong, nat_lt (length c.patterns) most_instructions) ∷ []

-- a choice; as many words follow its number as it has arguments
abbrev pub choice_demands : Declared → Constraints → List (List ℕ) → Option ℕ → List Demand
choice_demands x c words None = (BadNumber, false) ∷ []
choice_demands x c words (Some choice) =
    (WrongCount, length words == length (family_at x.choices choice).args + 3)
    ∷ constraint_demands c (family_at x.choices choice).args words (number_below (length c.prefixes) (word words 1))

abbrev pub wake_demands : Declared → Constraints → List (List ℕ) → List Demand
wake_demands x c words = (WrongCount, is_between 3 5 (length words)) ∷ choice_demands x c words (number_below (length x.choices) (word words 2))

-- ---- the sizes

abbrev pub stack_demands : List (List ℕ) → List Demand
stack_demands words =
    (BadLine, is_text (word words 0) (codes "stack")) ∷ (WrongCount, length words == 2) ∷ (BadNumber, is_there (whole_in 1 (suc most_stack) (word words 1))) ∷ []

abbrev pub is_size : Option ℤ → Bool
is_size None = false
is_size (Some z) = int_le (pos 1) z

abbrev pub is_few : Option ℤ → Bool
is_few None = false
is_few (Some z) = int_le z (pos most_instructions)

abbrev pub size_demands : List (List ℕ) → List Demand
size_demands words =
    (BadLine, is_text (word words 0) (codes "code")) ∷ (WrongCount, length words == 2) ∷ (BadNumber, is_size (number_of (word words 1)))
    ∷ (TooLong, is_few (number_of (word words 1))) ∷ []

-- ---- instructions

-- a number that an operand may be; that of a place may lie beyond the code
abbrev pub is_operand : Counts → OperandKind → Option ℤ → Bool
is_operand counts kind None = false
is_operand counts kind (Some z) = if is_label kind then int_le (pos 0) z else fits counts kind z

-- a place lies in the code
abbrev pub is_inside : Counts → OperandKind → Option ℤ → Bool
is_inside counts kind None = false
is_inside counts kind (Some z) = if is_label kind then fits counts kind z else true

-- the words from this one on are operands of these kinds
abbrev pub operand_demands : Counts → List (List ℕ) → ℕ → List OperandKind → List Demand
operand_demands counts words k [] = []
operand_demands counts words k (kind ∷ kinds) =
    (BadNumber, is_operand counts kind (number_of (word words k))) ∷ (BadLabel, is_inside counts kind (number_of (word words k)))
    ∷ operand_demands counts words (k + 1) kinds

abbrev pub operation_demands : Counts → List (List ℕ) → Option Instr → List Demand
operation_demands counts words None = (BadWord, false) ∷ []
operation_demands counts words (Some instr) = (WrongCount, length words == length (kinds_of instr) + 1) ∷ operand_demands counts words 1 (kinds_of instr)

abbrev pub instr_demands : Counts → List (List ℕ) → List Demand
instr_demands counts words = (BadLine, not (is_text (word words 0) (codes "end"))) ∷ operation_demands counts words (operation_of (word words 0))

abbrev pub end_demands : List (List ℕ) → List Demand
end_demands words = (BadLine, is_text (word words 0) (codes "end")) ∷ (WrongCount, length words == 1) ∷ []

-- ---- a line of words, by the part of the file

abbrev pub pattern_demands : Draft → List (List ℕ) → List Demand
pattern_demands d words = if is_text (word words 0) (codes "wake") then wake_demands d.declared d.constraints words else stack_demands words

abbrev pub constraint_part_demands : Draft → List (List ℕ) → List Demand
constraint_part_demands d words =
    if is_text (word words 0) (codes "task") then task_demands (length d.declared.indexes) d.constraints words else pattern_demands d words

abbrev pub declaration_demands : Draft → List (List ℕ) → List Demand
declaration_demands d words =
    if is_text (word words 0) (codes "index") then index_demands d.declared words
    else (if is_text (word words 0) (codes "given") then family_demands d.declared words (nat_lt (length d.declared.givens) most_givens)
    else (if is_text (word words 0) (codes "choose") then family_demands d.declared words (nat_lt (length d.declared.choices) most_choices)
    else (if is_text (word words 0) (codes "manifest") then manifest_demands d.declared words
    else constraint_part_demands d words)))

abbrev pub body_demands : Draft → List (List ℕ) → List Demand
body_demands d words = if nat_lt (length d.instrs) d.size then instr_demands (counts_in d) words else end_demands words

abbrev pub word_demands : Draft → List (List ℕ) → Part → List Demand
word_demands d words Header = (BadLine, false) ∷ []
word_demands d words Named = name_demands words
word_demands d words Declarations = declaration_demands d words
word_demands d words Tasks = constraint_part_demands d words
word_demands d words Wakes = pattern_demands d words
word_demands d words Size = size_demands words
word_demands d words Instructions = body_demands d words
word_demands d words Whole = (BadLine, false) ∷ []

-- ---- any line

-- a line in this part of the file, which is ended or not; after the last line nothing may follow
abbrev pub line_demands : Bool → Draft → List ℕ → Part → List Demand
line_demands ended d line Header = (BadHeader, is_header line) ∷ (BadLine, ended) ∷ []
line_demands ended d line Whole = (BadLine, not ended && is_empty line) ∷ []
line_demands ended d line part = (BadLine, ended && is_line line) ∷ word_demands d (words_in line) part
