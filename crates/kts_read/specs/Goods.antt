-- What holds of the lines so far, at each part of the file.
use Rattle.std.specs.Prelude.{◌≡◌, ◌≤◌, ℕ, ℤ, List, [], ◌∷◌, ◌++◌, length, fold, slice_index_or, Bool, true, false, ◌&&◌, nat_lt, nat_le, Option, Some}
use Rattle.std.specs.List.{list_all}
use Rattle.kts_base.specs.Limits.{most_indexes, most_givens, most_choices, most_instructions, most_stack, most_number}
use Rattle.kts_code.specs.declared.instructions.Instr.{Instr}
use Rattle.kts_code.specs.CodeTexts.{values_of}
use Rattle.kts_code.specs.WellFormed.{are_places}
use Rattle.kts_index.specs.declared.pattern.Pattern.{Pattern}
use Rattle.kts_spec.specs.declared.declarations.Family.{Family}
use Rattle.kts_spec.specs.Names.{is_language_name, is_distinct}
use Rattle.kts_spec.specs.Schemas.{DeclaredCounts, nothing_declared, declared_with, are_declarations, declared_names, family_at, is_prefix}
use Rattle.kts_write.specs.declared.table.OperandKind.{OperandKind}
use Rattle.kts_write.specs.Encodings.{kinds_of}
use Rattle.kts_read.specs.declared.constraints.Constraints.{Constraints}
use Rattle.kts_read.specs.declared.declarations.Declared.{Declared}
use Rattle.kts_read.specs.declared.draft.Draft.{Draft}
use Rattle.kts_read.specs.declared.draft.Part.{Part}
use Rattle.kts_read.specs.declared.draft.Part.TheVariants.{Header, Named, Declarations, Tasks, Wakes, Size, Instructions, Whole}
use Rattle.kts_read.specs.declared.operands.Counts.{Counts}
use Rattle.kts_read.specs.ConstraintLines.{no_constraints}
use Rattle.kts_read.specs.InstructionLines.{fits}
use Rattle.kts_read.specs.Reading.{nothing, begun, counts_in}

-- the names of what is declared
abbrev pub names_of : Declared → List (List ℕ)
names_of x = declared_names x.indexes x.givens x.choices

abbrev pub counted : Declared → DeclaredCounts
counted x = fold declared_with nothing_declared x.decls

-- the declarations are those of a schema, whatever families follow
pub record AreDeclared (x : Declared) : Type 0 where
  pub few_indexes : length x.indexes ≤ most_indexes
  pub few_givens : length x.givens ≤ most_givens
  pub few_choices : length x.choices ≤ most_choices
  pub named : list_all is_language_name (names_of x) ≡ true
  pub distinct : is_distinct (names_of x) ≡ true
  pub declared : (gs cs : List Family) → are_declarations (x.givens ++ gs) (x.choices ++ cs) nothing_declared x.decls ≡ true
  pub indexes : (counted x).indexes ≡ length x.indexes
  pub givens : (counted x).givens ≡ length x.givens
  pub choices : (counted x).choices ≡ length x.choices

-- the constraints are those of a schema with so many indexes
pub record AreTasks (indexes : ℕ) (c : Constraints) : Type 0 where
  pub same : length c.entries ≡ length c.prefixes
  pub small : list_all (λ to. nat_le to most_number) c.entries ≡ true
  pub few : length c.prefixes ≤ most_instructions
  pub prefixes : list_all (is_prefix indexes) c.prefixes ≡ true

-- a pattern of these choices and constraints
abbrev pub fits_pattern : List Family → List (List ℕ) → Pattern → Bool
fits_pattern choices prefixes p =
    nat_lt p.definite (length prefixes) && nat_lt p.choice (length choices)
    && are_places (slice_index_or prefixes p.definite []) (family_at choices p.choice).args p.args

pub record ArePatterns (choices : List Family) (c : Constraints) : Type 0 where
  pub few : length c.patterns ≤ most_instructions
  pub fit : list_all (fits_pattern choices c.prefixes) c.patterns ≡ true

-- numbers are of these kinds
abbrev pub all_fit : Counts → List OperandKind → List ℤ → Bool
all_fit counts [] [] = true
all_fit counts [] (z ∷ zs) = false
all_fit counts (kind ∷ kinds) [] = false
all_fit counts (kind ∷ kinds) (z ∷ zs) = fits counts kind z && all_fit counts kinds zs

-- the operands of an instruction are of its kinds
unfoldable pub instr_fits : Counts → Instr → Bool
instr_fits counts instr = all_fit counts (kinds_of instr) (values_of instr)

-- the name, the declarations, the constraints and the patterns are those of code, but for the places of bodies
pub record IsOpen (known : Option (List ℕ)) (x : Declared) (c : Constraints) : Type 0 where
  pub name : List ℕ
  pub named : known ≡ Some name
  pub is_name : is_language_name name ≡ true
  pub declared : AreDeclared x
  pub tasks : AreTasks (length x.indexes) c
  pub patterns : ArePatterns x.choices c

abbrev pub Opens : Draft → Type 0
Opens d = IsOpen d.name d.declared d.constraints

-- the sizes and the instructions aren't said yet
pub record IsUnsized (stack size : ℕ) (instrs : List Instr) : Type 0 where
  pub no_stack : stack ≡ 0
  pub no_size : size ≡ 0
  pub no_instrs : instrs ≡ []

abbrev pub Unsized : Draft → Type 0
Unsized d = IsUnsized d.stack d.size d.instrs

pub record IsStack (stack : ℕ) : Type 0 where
  pub some : 1 ≤ stack
  pub few : stack ≤ most_stack

-- no body begins beyond the size, there are not too many instructions, and their operands are of what there is
pub record IsSized (counts : Counts) (entries : List ℕ) (instrs : List Instr) : Type 0 where
  pub some : 1 ≤ counts.labels
  pub small : counts.labels ≤ most_instructions
  pub placed : list_all (λ to. nat_lt to counts.labels) entries ≡ true
  pub few : length instrs ≤ counts.labels
  pub fit : list_all (instr_fits counts) instrs ≡ true

abbrev pub HasSize : Draft → Type 0
HasSize d = IsSized (counts_in d) d.constraints.entries d.instrs

-- the draft is what some lines say, after which this part of the file comes
abbrev pub Good : Part → Draft → Type 0
Good Header d = d ≡ nothing
Good Named d = d ≡ begun nothing
Good Declarations d = Opens d × Unsized d × (d.constraints ≡ no_constraints)
Good Tasks d = Opens d × Unsized d × (d.constraints.patterns ≡ []) × (1 ≤ length d.constraints.entries)
Good Wakes d = Opens d × Unsized d × (1 ≤ length d.constraints.patterns)
Good Size d = Opens d × IsStack d.stack × (d.size ≡ 0) × (d.instrs ≡ [])
Good Instructions d = Opens d × IsStack d.stack × HasSize d
Good Whole d = Opens d × IsStack d.stack × HasSize d × (length d.instrs ≡ d.size)
