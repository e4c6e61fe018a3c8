-- The lines that say what a draft has: each as its words, in the order of the file.
use Rattle.std.specs.Prelude.{ℕ, List, [], ◌∷◌, ◌++◌, map, zip, slice_index_or, codes, decimal, Option, Some, None}
use Rattle.kts_code.specs.CodeTexts.{header_words, name_words, family_words, task_words, wake_words, stack_words, size_words, instr_words, end_words}
use Rattle.kts_spec.specs.Schemas.{family_at}
use Rattle.kts_spec.specs.declared.declarations.Decl.{Decl}
use Rattle.kts_spec.specs.declared.declarations.Decl.TheVariants.{Index, Given, Choose, Manifest}
use Rattle.kts_read.specs.declared.constraints.Constraints.{Constraints}
use Rattle.kts_read.specs.declared.declarations.Declared.{Declared}
use Rattle.kts_read.specs.declared.draft.Draft.{Draft}
use Rattle.kts_read.specs.declared.draft.Part.{Part}
use Rattle.kts_read.specs.declared.draft.Part.TheVariants.{Header, Named, Declarations, Tasks, Wakes, Size, Instructions, Whole}

abbrev pub AllWords : Type 0
AllWords = List (List (List ℕ))

unfoldable pub decl_line : Declared → Decl → List (List ℕ)
decl_line x (Index index) = codes "index" ∷ slice_index_or x.indexes index [] ∷ []
decl_line x (Given f) = codes "given" ∷ family_words (family_at x.givens f)
decl_line x (Choose f) = codes "choose" ∷ family_words (family_at x.choices f)
decl_line x (Manifest f) = codes "manifest" ∷ decimal f ∷ []

abbrev pub decl_lines : Declared → AllWords
decl_lines x = map (decl_line x) x.decls

abbrev pub task_lines : Constraints → AllWords
task_lines c = map task_words (zip c.entries c.prefixes)

abbrev pub wake_lines : Constraints → AllWords
wake_lines c = map wake_words c.patterns

abbrev pub name_or : Option (List ℕ) → List ℕ
name_or None = []
name_or (Some name) = name

-- the lines before that of the stack
abbrev pub heads : Draft → AllWords
heads d = header_words ∷ name_words (name_or d.name) ∷ (decl_lines d.declared ++ (task_lines d.constraints ++ wake_lines d.constraints))

-- the lines that stand before this part of the file
abbrev pub written : Draft → Part → AllWords
written d Header = []
written d Named = header_words ∷ []
written d Declarations = heads d
written d Tasks = heads d
written d Wakes = heads d
written d Size = heads d ++ stack_words d.stack ∷ []
written d Instructions = heads d ++ stack_words d.stack ∷ size_words d.size ∷ map instr_words d.instrs
written d Whole = heads d ++ stack_words d.stack ∷ size_words d.size ∷ (map instr_words d.instrs ++ end_words ∷ [])
