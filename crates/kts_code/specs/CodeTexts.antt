-- The text of code: each line is words with one space between them, and says one thing.
use Rattle.std.specs.Prelude.{ℕ, ℤ, pos, List, [], ◌∷◌, ◌++◌, length, map, flat_map, zip, slice_index_or, codes, decimal, Option, Some, None}
use Rattle.std.specs.Fmt.{signed_decimal}
use Rattle.std.specs.List.{join_with_byte}
use Rattle.kts_index.specs.declared.pattern.Pattern.{Pattern}
use Rattle.kts_spec.specs.declared.declarations.Decl.{Decl}
use Rattle.kts_spec.specs.declared.declarations.Decl.TheVariants.{Index, Given, Choose, Manifest}
use Rattle.kts_spec.specs.declared.declarations.Family.{Family}
use Rattle.kts_spec.specs.declared.declarations.ValueType.{ValueType}
use Rattle.kts_spec.specs.declared.declarations.ValueType.TheVariants.{Int, Member}
use Rattle.kts_spec.specs.declared.schema.Schema.{Schema}
use Rattle.kts_spec.specs.Schemas.{family_at}
use Rattle.kts_spec.specs.Texts.{space, newline}
use Rattle.kts_code.specs.declared.code.Code.{Code}
use Rattle.kts_code.specs.declared.instructions.Instr.{Instr}
use Rattle.kts_code.specs.declared.instructions.Instr.TheVariants as i

-- ---- the words of the lines that code begins with

abbrev pub header_words : List (List ℕ)
header_words = codes "kts" ∷ codes "1" ∷ []

abbrev pub name_words : List ℕ → List (List ℕ)
name_words name = codes "spec" ∷ name ∷ []

abbrev pub type_words : ValueType → List (List ℕ)
type_words (Int lo hi) = codes "int" ∷ signed_decimal lo ∷ signed_decimal hi ∷ []
type_words (Member index) = codes "mem" ∷ decimal index ∷ []

-- the name, the type of the values and the indexes of the arguments
abbrev pub family_words : Family → List (List ℕ)
family_words family = family.name ∷ (type_words family.kind ++ map decimal family.args)

-- a declaration, in the order of the file
abbrev pub decl_words : Schema → Decl → List (List ℕ)
decl_words schema (Index index) = codes "index" ∷ slice_index_or schema.indexes index [] ∷ []
decl_words schema (Given f) = codes "given" ∷ family_words (family_at schema.givens f)
decl_words schema (Choose x) = codes "choose" ∷ family_words (family_at schema.choices x)
decl_words schema (Manifest x) = codes "manifest" ∷ decimal x ∷ []

-- a constraint: the place at which its body begins, and the indexes of its variables
abbrev pub task_words : ℕ × List ℕ → List (List ℕ)
task_words (entry, prefix) = codes "task" ∷ decimal entry ∷ map decimal prefix

-- any member, or that of a variable of the constraint
abbrev pub place_word : Option ℕ → List ℕ
place_word None = codes "*"
place_word (Some k) = decimal k

-- a pattern: the constraint, the choice, and a place for each argument
abbrev pub wake_words : Pattern → List (List ℕ)
wake_words p = codes "wake" ∷ decimal p.definite ∷ decimal p.choice ∷ map place_word p.args

abbrev pub stack_words : ℕ → List (List ℕ)
stack_words stack = codes "stack" ∷ decimal stack ∷ []

abbrev pub size_words : ℕ → List (List ℕ)
size_words size = codes "code" ∷ decimal size ∷ []

-- ---- the words of an instruction

-- the first word
unfoldable pub word_of : Instr → List ℕ
word_of (i.Start to) = codes "start"
word_of (i.Take to) = codes "take"
word_of i.Node = codes "node"
word_of (i.Pick to) = codes "pick"
word_of i.Emit = codes "emit"
word_of (i.Back to) = codes "back"
word_of i.Halt = codes "halt"
word_of (i.Jump to) = codes "jump"
word_of (i.Test to) = codes "test"
word_of (i.Need to) = codes "need"
word_of (i.AtLeast x to) = codes "atleast"
word_of (i.AtMost x to) = codes "atmost"
word_of (i.Within x to) = codes "within"
word_of (i.Without x to) = codes "without"
word_of (i.Num n) = codes "num"
word_of (i.Var r) = codes "var"
word_of (i.Given f) = codes "given"
word_of (i.Choice x) = codes "choice"
word_of i.Add = codes "add"
word_of i.Sub = codes "sub"
word_of i.Mul = codes "mul"
word_of i.Min = codes "min"
word_of i.Max = codes "max"
word_of i.Le = codes "le"
word_of i.Eq = codes "eq"
word_of i.Same = codes "same"
word_of i.And = codes "and"
word_of i.Or = codes "or"
word_of i.Not = codes "not"
word_of i.Gate = codes "gate"
word_of (i.First r index to) = codes "first"
word_of (i.Next r to) = codes "next"
word_of i.True = codes "true"
word_of i.False = codes "false"

-- the numbers after it
unfoldable pub values_of : Instr → List ℤ
values_of (i.Start to) = pos to ∷ []
values_of (i.Take to) = pos to ∷ []
values_of i.Node = []
values_of (i.Pick to) = pos to ∷ []
values_of i.Emit = []
values_of (i.Back to) = pos to ∷ []
values_of i.Halt = []
values_of (i.Jump to) = pos to ∷ []
values_of (i.Test to) = pos to ∷ []
values_of (i.Need to) = pos to ∷ []
values_of (i.AtLeast x to) = pos x ∷ pos to ∷ []
values_of (i.AtMost x to) = pos x ∷ pos to ∷ []
values_of (i.Within x to) = pos x ∷ pos to ∷ []
values_of (i.Without x to) = pos x ∷ pos to ∷ []
values_of (i.Num n) = n ∷ []
values_of (i.Var r) = pos r ∷ []
values_of (i.Given f) = pos f ∷ []
values_of (i.Choice x) = pos x ∷ []
values_of i.Add = []
values_of i.Sub = []
values_of i.Mul = []
values_of i.Min = []
values_of i.Max = []
values_of i.Le = []
values_of i.Eq = []
values_of i.Same = []
values_of i.And = []
values_of i.Or = []
values_of i.Not = []
values_of i.Gate = []
values_of (i.First r index to) = pos r ∷ pos index ∷ pos to ∷ []
values_of (i.Next r to) = pos r ∷ pos to ∷ []
values_of i.True = []
values_of i.False = []

abbrev pub instr_words : Instr → List (List ℕ)
instr_words instr = word_of instr ∷ map signed_decimal (values_of instr)

-- ---- all lines

abbrev pub end_words : List (List ℕ)
end_words = codes "end" ∷ []

-- the words of each line, in order
unfoldable pub code_lines : Code → List (List (List ℕ))
code_lines code =
    header_words ∷ name_words code.schema.name ∷ (map (decl_words code.schema) code.schema.decls
    ++ (map task_words (zip code.entries code.schema.tasks)
    ++ (map wake_words code.index
    ++ stack_words code.stack ∷ size_words (length code.instrs) ∷ (map instr_words code.instrs ++ end_words ∷ []))))

-- words with one space between them, and the end of their line
abbrev pub line_text : List (List ℕ) → List ℕ
line_text words = join_with_byte space words ++ newline

-- the text of code
unfoldable pub code_text : Code → List ℕ
code_text code = flat_map line_text (code_lines code)
