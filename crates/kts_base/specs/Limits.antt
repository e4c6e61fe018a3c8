-- Every limit of the language, of data, of code and of the command line.
use Rattle.std.specs.Prelude.{ℕ, ◌*◌, ◌^◌}

-- ---- files of any kind

-- the bytes of a file
abbrev pub most_file_bytes : ℕ
most_file_bytes = 4194304

-- the bytes of a name
abbrev pub most_name_bytes : ℕ
most_name_bytes = 40

-- ---- the text of a specification

-- the bytes of an atom
abbrev pub most_atom_bytes : ℕ
most_atom_bytes = 40

-- how deep lists nest
abbrev pub most_nesting : ℕ
most_nesting = 64

-- how far a number of a formula, and the range of a whole-number term, may be from 0
abbrev pub most_number : ℕ
most_number = 10 ^ 15

-- how far an end of a type may be from 0
abbrev pub most_type_end : ℕ
most_type_end = 10 ^ 6

-- ---- declarations and formulas

abbrev pub most_indexes : ℕ
most_indexes = 8

abbrev pub most_givens : ℕ
most_givens = 32

abbrev pub most_choices : ℕ
most_choices = 16

abbrev pub most_formulas : ℕ
most_formulas = 64

-- the arguments of a given or a choice
abbrev pub most_arguments : ℕ
most_arguments = 2

-- the term and formula trees of a formula as it is written
abbrev pub most_written_trees : ℕ
most_written_trees = 1000

-- the variables in scope
abbrev pub most_variables : ℕ
most_variables = 8

-- the variables in the prefix of a clause
abbrev pub most_prefix : ℕ
most_prefix = 3

-- ---- formulas of a specification, however they were made

-- the term and formula trees of a formula
abbrev pub most_trees : ℕ
most_trees = 100000

-- how many of them stand in one another
abbrev pub most_depth : ℕ
most_depth = 100

-- the parts of a `+`
abbrev pub most_parts : ℕ
most_parts = 1000

-- the addends of the two sides of a comparison
abbrev pub most_addends : ℕ
most_addends = 1000

-- ---- data

-- the members of an index
abbrev pub most_members : ℕ
most_members = 64

abbrev pub most_cells : ℕ
most_cells = 1024

abbrev pub most_tasks : ℕ
most_tasks = 10 ^ 6

-- ---- code and its run

abbrev pub most_instructions : ℕ
most_instructions = 65536

-- the places of an operand stack
abbrev pub most_stack : ℕ
most_stack = 4096

-- the places of the operand stack of generated code
abbrev pub generated_stack : ℕ
generated_stack = 256

-- how far an end of a window may be from 0
abbrev pub most_window_end : ℕ
most_window_end = 4 * 10 ^ 18

-- ---- the command line

-- the steps of a run that is given no budget
abbrev pub default_budget : ℕ
default_budget = 10 ^ 9

-- the steps that a run may be given
abbrev pub most_budget : ℕ
most_budget = 10 ^ 18

-- the schedules that a run may be stopped after
abbrev pub most_first : ℕ
most_first = 10 ^ 18

-- the size of the sample problem
abbrev pub most_sample : ℕ
most_sample = 64
