-- The text of a node of the search: what is known of each cell.
use Rattle.std.specs.Prelude.{ℕ, ℤ, nat_abs, List, ◌∷◌, [], ◌++◌, map, flat_map, zip, codes, slice_index_or}
use Rattle.std.specs.Fmt.{signed_decimal}
use Rattle.std.specs.List.{join_with_byte}
use Rattle.kts_spec.specs.declared.declarations.Family.{Family}
use Rattle.kts_spec.specs.declared.declarations.ValueType.{ValueType}
use Rattle.kts_spec.specs.declared.declarations.ValueType.TheVariants.{Int, Member}
use Rattle.kts_spec.specs.declared.instance.Instance.{Instance}
use Rattle.kts_spec.specs.declared.schema.Schema.{Schema}
use Rattle.kts_spec.specs.Schedules.{Cell, cells}
use Rattle.kts_spec.specs.Schemas.{family_at}
use Rattle.kts_spec.specs.Texts.{newline, space, comma, key_text}
use Rattle.kts_spec.specs.Worlds.{world_of}
use Rattle.kts_abs.specs.Values.{Abs, Win, Mem}

-- the names of the values of a type; whole numbers have none
abbrev pub value_names : Instance → ValueType → List (List ℕ)
value_names inst (Int lo hi) = []
value_names inst (Member i) = slice_index_or inst.members i []

-- the names at these places
abbrev pub names_at : List (List ℕ) → List ℤ → List (List ℕ)
names_at names ms = map (λ m. slice_index_or names (nat_abs m) []) ms

-- `LO..HI`, or the names of members in braces
abbrev pub range_text : List (List ℕ) → Abs → List ℕ
range_text names (Win w) = signed_decimal w.0 ++ (codes ".." ++ signed_decimal w.1)
range_text names (Mem ms) = codes "{" ++ (join_with_byte comma (names_at names ms) ++ codes "}")

-- ` x(KEY)=` and what is known
abbrev pub known_text : Instance → Family → List ℕ × Abs → List ℕ
known_text inst family (tuple, a) =
    space ∷ (family.name ++ (codes "(" ++ (key_text inst family.args tuple ++ (codes ")=" ++ range_text (value_names inst family.kind) a))))

-- the same of a cell of the schema
abbrev pub known_cell_text : Schema → Instance → Cell × Abs → List ℕ
known_cell_text schema inst (c, a) = known_text inst (family_at schema.choices c.choice) (c.args, a)

-- what is known of each cell, in their order
abbrev pub known_cells_text : Schema → Instance → List Abs → List ℕ
known_cells_text schema inst space = flat_map (known_cell_text schema inst) (zip (cells (world_of schema inst)) space)

-- the line of a node
abbrev pub node_text : Schema → Instance → List Abs → List ℕ
node_text schema inst space = codes "node" ++ (known_cells_text schema inst space ++ newline)
