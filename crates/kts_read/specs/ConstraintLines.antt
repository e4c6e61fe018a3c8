-- The lines of constraints and of patterns, each read after those before it.
use Rattle.std.specs.Prelude.{◌==◌, ℕ, ◌+◌, ℤ, pos, nat_abs, int_le, nat_lt, nat_eq, min, List, [], ◌∷◌, ◌++◌, length, slice_index, slice_index_or, if◌then◌else◌, Option, Some, None, Result, Ok, Err, codes}
use Rattle.kts_base.specs.Limits.{most_instructions, most_prefix}
use Rattle.kts_base.specs.Names.{is_between}
use Rattle.kts_base.specs.Reads.{each_from, and_then}
use Rattle.kts_index.specs.declared.pattern.Pattern.{Pattern}
use Rattle.kts_spec.specs.Schemas.{family_at}
use Rattle.kts_read.specs.declared.constraints.Constraints.{Constraints}
use Rattle.kts_read.specs.declared.declarations.Declared.{Declared}
use Rattle.kts_read.specs.declared.fault.CodeKind.{CodeKind}
use Rattle.kts_read.specs.declared.fault.CodeKind.TheVariants.{WrongCount, BadNumber, TooLong}
use Rattle.kts_read.specs.Words.{is_text, word, number_of, whole_in, number_below}
use Rattle.kts_read.specs.DeclarationLines.{args_from}

abbrev pub no_constraints : Constraints
no_constraints = record { entries = []; prefixes = []; patterns = [] }

-- ---- a constraint

-- a place of the code, which may lie beyond it
abbrev pub entry_or : Option ℤ → Result ℕ CodeKind
entry_or None = Err BadNumber
entry_or (Some z) = if int_le (pos 0) z then Ok (nat_abs z) else Err BadNumber

unfoldable pub entry_in : List ℕ → Result ℕ CodeKind
entry_in word = entry_or (number_of word)

unfoldable pub with_task : Constraints → ℕ → List ℕ → Result Constraints CodeKind
with_task c entry prefix =
    if nat_lt (length c.entries) most_instructions
    then Ok (record { entries = c.entries ++ entry ∷ []; prefixes = c.prefixes ++ prefix ∷ []; patterns = c.patterns })
    else Err TooLong

unfoldable pub task_line : ℕ → Constraints → List (List ℕ) → Result Constraints CodeKind
task_line indexes c words =
    if is_between 2 5 (length words)
    then and_then (entry_in (word words 1)) (λ entry. and_then (args_from indexes 2 words) (λ prefix. with_task c entry prefix))
    else Err WrongCount

-- ---- a pattern

-- the place of a variable of this index in a prefix
abbrev pub place_or : List ℕ → ℕ → Option ℕ → Result (Option ℕ) CodeKind
place_or prefix index None = Err BadNumber
place_or prefix index (Some k) = if nat_eq (slice_index prefix k) index then Ok (Some k) else Err BadNumber

unfoldable pub place_in : List ℕ → ℕ → List ℕ → Result (Option ℕ) CodeKind
place_in prefix index word =
    if is_text word (codes "*") then Ok None else place_or prefix index (whole_in 0 (min (length prefix) most_prefix) word)

-- the places for arguments of these indexes, each the next word
unfoldable pub places_in : List ℕ → List ℕ → List (List ℕ) → Result (List (Option ℕ)) CodeKind
places_in prefix args words = each_from (λ k index. place_in prefix index (word words k)) (λ k (index : ℕ). k + 1) 3 args

unfoldable pub with_pattern : Constraints → Pattern → Result Constraints CodeKind
with_pattern c p =
    if nat_lt (length c.patterns) most_instructions
    then Ok (record { entries = c.entries; prefixes = c.prefixes; patterns = c.patterns ++ p ∷ [] })
    else Err TooLong

-- a pattern of this choice, whose arguments have these indexes, and of this constraint
abbrev pub constraint_of : Constraints → ℕ → List ℕ → List (List ℕ) → Option ℕ → Result Constraints CodeKind
constraint_of c choice args words None = Err BadNumber
constraint_of c choice args words (Some d) =
    and_then (places_in (slice_index_or c.prefixes d []) args words) (λ places. with_pattern c (record { definite = d; choice = choice; args = places }))

-- the same where the number of words is that of the arguments
unfoldable pub pattern_of : Constraints → ℕ → List ℕ → List (List ℕ) → Result Constraints CodeKind
pattern_of c choice args words =
    if length words == length args + 3 then constraint_of c choice args words (number_below (length c.prefixes) (word words 1)) else Err WrongCount

abbrev pub choice_of : Declared → Constraints → List (List ℕ) → Option ℕ → Result Constraints CodeKind
choice_of x c words None = Err BadNumber
choice_of x c words (Some choice) = pattern_of c choice (family_at x.choices choice).args words

unfoldable pub wake_line : Declared → Constraints → List (List ℕ) → Result Constraints CodeKind
wake_line x c words =
    if is_between 3 5 (length words) then choice_of x c words (number_below (length x.choices) (word words 2)) else Err WrongCount
