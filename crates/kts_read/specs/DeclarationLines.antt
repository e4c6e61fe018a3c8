-- The lines of declarations, each read after those before it.
use Rattle.std.specs.Prelude.{◌==◌, ℕ, ℤ, int_le, nat_lt, nat_eq, List, [], ◌∷◌, ◌++◌, length, drop, Bool, false, if◌then◌else◌, Option, Some, None, Result, Ok, Err, codes}
use Rattle.std.specs.List.{list_any}
use Rattle.kts_base.specs.Limits.{most_indexes, most_givens, most_choices}
use Rattle.kts_base.specs.Names.{is_between}
use Rattle.kts_base.specs.Reads.{each_from, and_then}
use Rattle.kts_spec.specs.declared.declarations.Decl.{Decl}
use Rattle.kts_spec.specs.declared.declarations.Decl.TheVariants.{Index, Given, Choose, Manifest}
use Rattle.kts_spec.specs.declared.declarations.Family.{Family}
use Rattle.kts_spec.specs.declared.declarations.ValueType.{ValueType}
use Rattle.kts_spec.specs.declared.declarations.ValueType.TheVariants.{Int, Member}
use Rattle.kts_spec.specs.Names.{is_among}
use Rattle.kts_spec.specs.Schemas.{is_end, assigns_members, family_at, declared_names}
use Rattle.kts_read.specs.declared.declarations.Declared.{Declared}
use Rattle.kts_read.specs.declared.fault.CodeKind.{CodeKind}
use Rattle.kts_read.specs.declared.fault.CodeKind.TheVariants.{BadWord, WrongCount, BadName, BadNumber, TooLong}
use Rattle.kts_read.specs.Words.{is_text, word, name_in, number_of, number_below}

-- nothing is declared
abbrev pub no_declarations : Declared
no_declarations = record { decls = []; indexes = []; givens = []; choices = [] }

-- whether an index, a given or a choice has this name
unfoldable pub is_taken : Declared → List ℕ → Bool
is_taken x name = is_among (declared_names x.indexes x.givens x.choices) name

-- the name that a word is, where nothing is called so
abbrev pub new_name : Declared → List ℕ → Option (List ℕ)
new_name x word = if is_taken x word then None else name_in word

-- ---- an index

abbrev pub with_index : Declared → Option (List ℕ) → Result Declared CodeKind
with_index x None = Err BadName
with_index x (Some name) =
    if nat_lt (length x.indexes) most_indexes
    then Ok (record { decls = x.decls ++ Index (length x.indexes) ∷ []; indexes = x.indexes ++ name ∷ []; givens = x.givens; choices = x.choices })
    else Err TooLong

unfoldable pub index_line : Declared → List (List ℕ) → Result Declared CodeKind
index_line x words = if length words == 2 then with_index x (new_name x (word words 1)) else Err WrongCount

-- ---- types and arguments

-- the end of a type
abbrev pub end_or : Option ℤ → Result ℤ CodeKind
end_or None = Err BadNumber
end_or (Some z) = if is_end z then Ok z else Err BadNumber

unfoldable pub end_at : List ℕ → Result ℤ CodeKind
end_at word = end_or (number_of word)

abbrev pub number_or : Option ℕ → Result ℕ CodeKind
number_or None = Err BadNumber
number_or (Some n) = Ok n

-- the number of one of so many indexes
unfoldable pub index_at : ℕ → List ℕ → Result ℕ CodeKind
index_at indexes word = number_or (number_below indexes word)

abbrev pub ordered : ℤ → ℤ → Result ValueType CodeKind
ordered lo hi = if int_le lo hi then Ok (Int lo hi) else Err BadNumber

-- the ends in these words
unfoldable pub int_type : List (List ℕ) → Result ValueType CodeKind
int_type words = and_then (end_at (word words 3)) (λ lo. and_then (end_at (word words 4)) (λ hi. ordered lo hi))

-- the index in this word
unfoldable pub member_type : ℕ → List (List ℕ) → Result ValueType CodeKind
member_type indexes words = and_then (index_at indexes (word words 3)) (λ i. Ok (Member i))

-- the indexes that words are, from this one on
unfoldable pub args_from : ℕ → ℕ → List (List ℕ) → Result (List ℕ) CodeKind
args_from indexes from words = each_from (λ (u : ℕ) word. index_at indexes word) (λ u (word : List ℕ). u) 0 (drop from words)

-- ---- a given or a choice

-- a family of this name, type and arguments
abbrev pub family_of : List ℕ → Result ValueType CodeKind → Result (List ℕ) CodeKind → Result Family CodeKind
family_of name kind args = and_then kind (λ k. and_then args (λ a. let f : Family = record { name = name; args = a; kind = k } in Ok f))

abbrev pub named_family : Option (List ℕ) → Result ValueType CodeKind → Result (List ℕ) CodeKind → Result Family CodeKind
named_family None kind args = Err BadName
named_family (Some name) kind args = family_of name kind args

unfoldable pub family_in : Declared → List (List ℕ) → Result Family CodeKind
family_in x words =
    if nat_lt (length words) 3 then Err WrongCount
    else (if is_text (word words 2) (codes "int") then
    (if is_between 5 7 (length words) then named_family (new_name x (word words 1)) (int_type words) (args_from (length x.indexes) 5 words) else Err WrongCount)
    else (if is_text (word words 2) (codes "mem") then
    (if is_between 4 6 (length words) then named_family (new_name x (word words 1)) (member_type (length x.indexes) words) (args_from (length x.indexes) 4 words)
    else Err WrongCount)
    else Err BadWord))

unfoldable pub with_given : Declared → Family → Result Declared CodeKind
with_given x family =
    if nat_lt (length x.givens) most_givens
    then Ok (record { decls = x.decls ++ Given (length x.givens) ∷ []; indexes = x.indexes; givens = x.givens ++ family ∷ []; choices = x.choices })
    else Err TooLong

unfoldable pub given_line : Declared → List (List ℕ) → Result Declared CodeKind
given_line x words = and_then (family_in x words) (λ family. with_given x family)

unfoldable pub with_choice : Declared → Family → Result Declared CodeKind
with_choice x family =
    if nat_lt (length x.choices) most_choices
    then Ok (record { decls = x.decls ++ Choose (length x.choices) ∷ []; indexes = x.indexes; givens = x.givens; choices = x.choices ++ family ∷ [] })
    else Err TooLong

unfoldable pub choose_line : Declared → List (List ℕ) → Result Declared CodeKind
choose_line x words = and_then (family_in x words) (λ family. with_choice x family)

-- ---- a manifest

abbrev pub is_manifest_of : ℕ → Decl → Bool
is_manifest_of x (Index i) = false
is_manifest_of x (Given f) = false
is_manifest_of x (Choose y) = false
is_manifest_of x (Manifest y) = nat_eq x y

-- whether a choice has a manifest
abbrev pub has_manifest : List Decl → ℕ → Bool
has_manifest decls x = list_any (is_manifest_of x) decls

unfoldable pub with_manifest : Declared → ℕ → Result Declared CodeKind
with_manifest x choice =
    if assigns_members (family_at x.choices choice) then
    (if has_manifest x.decls choice then Err BadNumber
    else Ok (record { decls = x.decls ++ Manifest choice ∷ []; indexes = x.indexes; givens = x.givens; choices = x.choices }))
    else Err BadNumber

abbrev pub manifest_of : Declared → Option ℕ → Result Declared CodeKind
manifest_of x None = Err BadNumber
manifest_of x (Some choice) = with_manifest x choice

unfoldable pub manifest_line : Declared → List (List ℕ) → Result Declared CodeKind
manifest_line x words = if length words == 2 then manifest_of x (number_below (length x.choices) (word words 1)) else Err WrongCount
