-- A search that is worked by hand: `x` from 0 to 2 and `y` from 0 to 1, whose sum is at most 1.
use Rattle.std.specs.Prelude.{◌≡◌, ℕ, List, [], ◌∷◌, refl, ℤ, pos, true}
use Rattle.kts_spec.specs.declared.declarations.Decl.TheVariants.{Choose}
use Rattle.kts_spec.specs.declared.declarations.Family.{Family}
use Rattle.kts_spec.specs.declared.declarations.ValueType.TheVariants.{Int}
use Rattle.kts_spec.specs.declared.schema.Schema.{Schema}
use Rattle.kts_spec.specs.declared.instance.Instance.{Instance}
use Rattle.kts_spec.specs.Schemas.{is_schema}
use Rattle.kts_code.specs.declared.code.Code.{Code}
use Rattle.kts_code.specs.declared.instructions.Instr.{Instr}
use Rattle.kts_code.specs.declared.instructions.Instr.TheVariants.{Start, Take, Node, Test, Pick, Emit, Back, Halt, Jump, Num, Choice, Add, Le}
use Rattle.kts_code.specs.declared.modes.Mode.TheVariants.{Going, Halted}
use Rattle.kts_code.specs.WellFormed.{is_code}
use Rattle.kts_code.specs.Machine.{run, oldest}
use Rattle.kts_code.specs.Printed.{schedules_of}

abbrev choices : List Family
choices = record { name = 120 ∷ []; args = []; kind = Int (pos 0) (pos 2) } ∷ (record { name = 121 ∷ []; args = []; kind = Int (pos 0) (pos 1) } ∷ [])

pub declared : is_schema (115 ∷ []) (Choose 0 ∷ (Choose 1 ∷ [])) [] [] choices [] ≡ true
unfolding is_schema
declared = refl

abbrev schema : Schema
schema = record { name = 115 ∷ []; decls = Choose 0 ∷ (Choose 1 ∷ []); indexes = []; givens = []; choices = choices; tasks = []; is_schema = declared }

abbrev instrs : List Instr
instrs =
    Start 14 ∷ (Take 2 ∷ (Node ∷ (Choice 0 ∷ (Choice 1 ∷ (Add ∷ (Num (pos 1) ∷ (Le ∷ (Test 12
    ∷ (Pick 11 ∷ (Jump 1 ∷ (Emit ∷ (Back 14 ∷ (Jump 1 ∷ (Halt ∷ []))))))))))))))

pub placed : is_code schema [] [] 8 instrs ≡ true
unfolding is_code
placed = refl

abbrev pub at_most_one : Code
at_most_one = record { schema = schema; entries = []; index = []; stack = 8; instrs = instrs; is_code = placed }

abbrev no_data : Instance
no_data = record { members = []; values = [] }

abbrev pub first_schedule : List (List ℤ)
first_schedule = (pos 0 ∷ (pos 0 ∷ [])) ∷ []

abbrev pub all_schedules : List (List ℤ)
all_schedules = (pos 0 ∷ (pos 0 ∷ [])) ∷ ((pos 0 ∷ (pos 1 ∷ [])) ∷ ((pos 1 ∷ (pos 0 ∷ [])) ∷ []))

-- so many steps have printed these schedules
abbrev pub HasPrinted : Code → ℕ → List (List ℤ) → Type 0
HasPrinted code n list = schedules_of (run code no_data oldest n).items ≡ list

abbrev pub HasHalted : Code → ℕ → Type 0
HasHalted code n = (run code no_data oldest n).core.mode ≡ Halted

abbrev pub GoesOn : Code → ℕ → Type 0
GoesOn code n = (run code no_data oldest n).core.mode ≡ Going
