-- The line of a trap.
use Rattle.std.specs.Prelude.{ℕ, List, ◌++◌, codes, decimal}
use Rattle.kts_code.specs.declared.modes.TrapKind.{TrapKind}
use Rattle.kts_code.specs.declared.modes.TrapKind.TheVariants.{PcOut, NoSpace, Register, Underflow, Kind, Overflow, StackFull}
use Rattle.kts_spec.specs.Texts.{newline}

-- the name of a kind of trap
abbrev pub trap_name : TrapKind → List ℕ
trap_name PcOut = codes "PcOut"
trap_name NoSpace = codes "NoSpace"
trap_name Register = codes "Register"
trap_name Underflow = codes "Underflow"
trap_name Kind = codes "Kind"
trap_name Overflow = codes "Overflow"
trap_name StackFull = codes "StackFull"

-- a step trapped at a place of the code
abbrev pub trap_line : TrapKind → ℕ → List ℕ
trap_line kind pc = codes "trap " ++ (trap_name kind ++ (codes " at " ++ (decimal pc ++ newline)))
