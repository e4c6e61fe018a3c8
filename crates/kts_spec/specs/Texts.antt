-- The text of schedules, and of a whole run.
use Rattle.std.specs.Prelude.{ℕ, ◌+◌, ℤ, nat_abs, List, [], ◌∷◌, ◌++◌, length, flat_map, zip, take, drop, slice_index_or, codes, decimal, ◌==◌, nat_eq, if◌then◌else◌}
use Rattle.std.specs.Fmt.{signed_decimal}
use Rattle.std.specs.List.{join_with_byte, range_with_len}
use Rattle.kts_spec.specs.declared.declarations.ValueType.{ValueType}
use Rattle.kts_spec.specs.declared.declarations.ValueType.TheVariants.{Int, Member}
use Rattle.kts_spec.specs.declared.declarations.Family.{Family}
use Rattle.kts_spec.specs.declared.declarations.Decl.{Decl}
use Rattle.kts_spec.specs.declared.declarations.Decl.TheVariants.{Manifest}
use Rattle.kts_spec.specs.declared.ending.Ending.{Ending}
use Rattle.kts_spec.specs.declared.ending.Ending.TheVariants.{End, First, Budget}
use Rattle.kts_spec.specs.declared.schema.Schema.{Schema}
use Rattle.kts_spec.specs.declared.instance.Instance.{Instance}
use Rattle.kts_spec.specs.declared.spec.Spec.{Spec}
use Rattle.kts_spec.specs.Answers.{answer}
use Rattle.kts_spec.specs.Places.{offset}
use Rattle.kts_spec.specs.Schedules.{tuples}
use Rattle.kts_spec.specs.Schemas.{family_at}
use Rattle.kts_spec.specs.Worlds.{World, world_of, sizes_of}

-- a line's end
abbrev pub newline : List ℕ
newline = 10 ∷ []

-- the bytes between what a line says
abbrev pub space : ℕ
space = 32

abbrev pub comma : ℕ
comma = 44

abbrev pub equals : ℕ
equals = 61

-- the name of a member
abbrev pub member_name : Instance → ℕ → ℕ → List ℕ
member_name inst index m = slice_index_or (slice_index_or inst.members index []) m []

-- the names of a tuple of members of these indexes
abbrev pub member_names : Instance → List ℕ → List ℕ → List (List ℕ)
member_names inst [] ms = []
member_names inst (i ∷ is) [] = []
member_names inst (i ∷ is) (m ∷ ms) = member_name inst i m ∷ member_names inst is ms

-- the names with commas between them
abbrev pub key_text : Instance → List ℕ → List ℕ → List ℕ
key_text inst indexes tuple = join_with_byte comma (member_names inst indexes tuple)

-- a number, or a member's name
abbrev pub value_text : Instance → ValueType → ℤ → List ℕ
value_text inst (Int lo hi) v = signed_decimal v
value_text inst (Member i) v = member_name inst i (nat_abs v)

-- ` KEY=VALUE`
abbrev pub entry_text : Instance → Family → List ℕ × ℤ → List ℕ
entry_text inst family (tuple, v) = space ∷ (key_text inst family.args tuple ++ (equals ∷ value_text inst family.kind v))

-- the tuples of a choice, each with its value on a schedule
abbrev pub entries : World → List ℤ → ℕ → List (List ℕ × ℤ)
entries w schedule x = zip (tuples (sizes_of w (family_at w.choices x))) (drop (offset w x) schedule)

-- ` KEY` for a tuple whose value is this member
abbrev pub holder_text : Instance → Family → ℕ → List ℕ × ℤ → List ℕ
holder_text inst family m (tuple, v) = if nat_eq (nat_abs v) m then space ∷ key_text inst family.args tuple else []

-- the index whose members are the values of a type
abbrev pub index_of : ValueType → ℕ
index_of (Int lo hi) = 0
index_of (Member i) = i

module _ (schema : Schema) (inst : Instance) where
  abbrev choice : ℕ → Family
  choice x = family_at schema.choices x

  -- the line of a choice: its name, and the value of each of its cells
  abbrev pub choice_line : List ℤ → ℕ → List ℕ
  choice_line schedule x =
      (choice x).name ++ (flat_map (entry_text inst (choice x)) (entries (world_of schema inst) schedule x) ++ newline)

  -- the line of a member in a manifest: who has it
  abbrev pub manifest_line : List ℤ → ℕ → ℕ → List ℕ
  manifest_line schedule x m =
      codes "manifest " ++ ((choice x).name ++ (space ∷ (member_name inst (index_of (choice x).kind) m
      ++ (flat_map (holder_text inst (choice x) m) (entries (world_of schema inst) schedule x) ++ newline))))

  -- the manifest of a choice: a line for each member of the index of its values
  abbrev pub manifest_lines : List ℤ → ℕ → List ℕ
  manifest_lines schedule x =
      flat_map (manifest_line schedule x) (range_with_len 0 (length (slice_index_or inst.members (index_of (choice x).kind) [])))

  -- the lines that a declaration asks for after the choices
  abbrev pub declared_lines : List ℤ → Decl → List ℕ
  declared_lines schedule (Manifest x) = manifest_lines schedule x
  declared_lines schedule other = []

  -- the lines of all choices, in the order of their declarations
  abbrev pub choice_lines : List ℤ → List ℕ
  choice_lines schedule = flat_map (choice_line schedule) (range_with_len 0 (length schema.choices))

  -- the manifests, in the order of the file
  abbrev pub manifests_text : List ℤ → List ℕ
  manifests_text schedule = flat_map (declared_lines schedule) schema.decls

  -- the text of a schedule with its number
  abbrev pub schedule_text : ℕ → List ℤ → List ℕ
  schedule_text k schedule =
      codes "schedule " ++ (decimal k ++ (newline ++ (choice_lines schedule ++ manifests_text schedule)))

  -- the text of schedules numbered from k
  abbrev pub schedules_text : ℕ → List (List ℤ) → List ℕ
  schedules_text k [] = []
  schedules_text k (schedule ∷ rest) = schedule_text k schedule ++ schedules_text (k + 1) rest

-- the last line of a run
abbrev pub ending_text : Ending → List ℕ
ending_text (End n) = if n == 0 then codes "none" ++ newline else codes "end " ++ (decimal n ++ newline)
ending_text (First n) = codes "first " ++ (decimal n ++ newline)
ending_text (Budget n) = codes "budget " ++ (decimal n ++ newline)

-- the text of a run that printed these schedules and ended so
abbrev pub text : Schema → Instance → List (List ℤ) → Ending → List ℕ
text schema inst list ending = schedules_text schema inst 1 list ++ ending_text ending

-- the text of the whole answer
abbrev pub due : Spec → Instance → List ℕ
due spec inst = text spec.schema inst (answer spec inst) (End (length (answer spec inst)))

-- the text of the first k schedules of the answer, where the run had no steps left
abbrev pub begun : Spec → Instance → ℕ → List ℕ
begun spec inst k = text spec.schema inst (take k (answer spec inst)) (Budget k)
