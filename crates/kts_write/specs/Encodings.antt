-- The instructions as their operands make them: what each operand names, and the instruction with other operands.
use Rattle.std.specs.Prelude.{ℕ, ℤ, pos, int_le, nat_abs, List, [], ◌∷◌, slice_index_or, ◌&&◌, if◌then◌else◌}
use Rattle.kts_code.specs.declared.instructions.Instr.{Instr}
use Rattle.kts_code.specs.declared.instructions.Instr.TheVariants as i
use Rattle.kts_write.specs.declared.table.OperandKind.{OperandKind}
use Rattle.kts_write.specs.declared.table.OperandKind.TheVariants as kinds

-- what the operands of an instruction name
unfoldable pub kinds_of : Instr → List OperandKind
kinds_of (i.Start a) = kinds.Label ∷ []
kinds_of (i.Take a) = kinds.Label ∷ []
kinds_of i.Node = []
kinds_of (i.Pick a) = kinds.Label ∷ []
kinds_of i.Emit = []
kinds_of (i.Back a) = kinds.Label ∷ []
kinds_of i.Halt = []
kinds_of (i.Jump a) = kinds.Label ∷ []
kinds_of (i.Test a) = kinds.Label ∷ []
kinds_of (i.Need a) = kinds.Label ∷ []
kinds_of (i.AtLeast a b) = kinds.Choice ∷ kinds.Label ∷ []
kinds_of (i.AtMost a b) = kinds.Choice ∷ kinds.Label ∷ []
kinds_of (i.Within a b) = kinds.Choice ∷ kinds.Label ∷ []
kinds_of (i.Without a b) = kinds.Choice ∷ kinds.Label ∷ []
kinds_of (i.Num a) = kinds.Number ∷ []
kinds_of (i.Var a) = kinds.Register ∷ []
kinds_of (i.Given a) = kinds.Given ∷ []
kinds_of (i.Choice a) = kinds.Choice ∷ []
kinds_of i.Add = []
kinds_of i.Sub = []
kinds_of i.Mul = []
kinds_of i.Min = []
kinds_of i.Max = []
kinds_of i.Le = []
kinds_of i.Eq = []
kinds_of i.Same = []
kinds_of i.And = []
kinds_of i.Or = []
kinds_of i.Not = []
kinds_of i.Gate = []
kinds_of (i.First a b c) = kinds.Register ∷ kinds.Index ∷ kinds.Label ∷ []
kinds_of (i.Next a b) = kinds.Register ∷ kinds.Label ∷ []
kinds_of i.True = []
kinds_of i.False = []

abbrev pub number_at : List ℤ → ℕ → ℤ
number_at values k = slice_index_or values k (pos 0)

-- a number as a place, and as a register; 0 where it is none
abbrev pub place_of : ℤ → ℕ
place_of value = if int_le (pos 0) value && int_le value (pos 4294967295) then nat_abs value else 0

abbrev pub register_of : ℤ → ℕ
register_of value = if int_le (pos 0) value && int_le value (pos 255) then nat_abs value else 0

-- the same instruction with these operands
unfoldable pub with_values : Instr → List ℤ → Instr
with_values (i.Start a) values = i.Start (place_of (number_at values 0))
with_values (i.Take a) values = i.Take (place_of (number_at values 0))
with_values i.Node values = i.Node
with_values (i.Pick a) values = i.Pick (place_of (number_at values 0))
with_values i.Emit values = i.Emit
with_values (i.Back a) values = i.Back (place_of (number_at values 0))
with_values i.Halt values = i.Halt
with_values (i.Jump a) values = i.Jump (place_of (number_at values 0))
with_values (i.Test a) values = i.Test (place_of (number_at values 0))
with_values (i.Need a) values = i.Need (place_of (number_at values 0))
with_values (i.AtLeast a b) values = i.AtLeast (place_of (number_at values 0)) (place_of (number_at values 1))
with_values (i.AtMost a b) values = i.AtMost (place_of (number_at values 0)) (place_of (number_at values 1))
with_values (i.Within a b) values = i.Within (place_of (number_at values 0)) (place_of (number_at values 1))
with_values (i.Without a b) values = i.Without (place_of (number_at values 0)) (place_of (number_at values 1))
with_values (i.Num a) values = i.Num (number_at values 0)
with_values (i.Var a) values = i.Var (register_of (number_at values 0))
with_values (i.Given a) values = i.Given (place_of (number_at values 0))
with_values (i.Choice a) values = i.Choice (place_of (number_at values 0))
with_values i.Add values = i.Add
with_values i.Sub values = i.Sub
with_values i.Mul values = i.Mul
with_values i.Min values = i.Min
with_values i.Max values = i.Max
with_values i.Le values = i.Le
with_values i.Eq values = i.Eq
with_values i.Same values = i.Same
with_values i.And values = i.And
with_values i.Or values = i.Or
with_values i.Not values = i.Not
with_values i.Gate values = i.Gate
with_values (i.First a b c) values = i.First (register_of (number_at values 0)) (place_of (number_at values 1)) (place_of (number_at values 2))
with_values (i.Next a b) values = i.Next (register_of (number_at values 0)) (place_of (number_at values 1))
with_values i.True values = i.True
with_values i.False values = i.False

-- each instruction once, with operands 0
abbrev pub samples : List Instr
samples =
    i.Start 0 ∷ i.Take 0 ∷ i.Node ∷ i.Pick 0 ∷ i.Emit ∷ i.Back 0 ∷ i.Halt ∷ i.Jump 0 ∷ i.Test 0 ∷ i.Need 0 ∷ i.AtLeast 0 0 ∷ i.AtMost 0 0
    ∷ i.Within 0 0 ∷ i.Without 0 0 ∷ i.Num (pos 0) ∷ i.Var 0 ∷ i.Given 0 ∷ i.Choice 0 ∷ i.Add ∷ i.Sub ∷ i.Mul ∷ i.Min ∷ i.Max ∷ i.Le ∷ i.Eq
    ∷ i.Same ∷ i.And ∷ i.Or ∷ i.Not ∷ i.Gate ∷ i.First 0 0 0 ∷ i.Next 0 0 ∷ i.True ∷ i.False ∷ []
