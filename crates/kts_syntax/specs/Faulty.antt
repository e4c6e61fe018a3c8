-- All trees at fault, each with its end, as a list apart from any reading.
use Rattle.std.specs.Prelude.{ℕ, ◌+◌, ◌==◌, nat_le, nat_lt, Bool, if◌then◌else◌, List, [], ◌∷◌, ◌++◌, length, Option, Some, None, codes, count_by, is_some, ◌&&◌, ◌≤◌, All, Contains}
use Rattle.std.specs.List.{list_any}
use Rattle.kts_base.specs.Limits.{most_indexes, most_givens, most_choices, most_formulas, most_arguments, most_written_trees}
use Rattle.kts_text.specs.Forest.{Forest, none, atom, list}
use Rattle.kts_syntax.specs.Faults.{FormFault, fault}
use Rattle.kts_syntax.specs.Heads.{head_of, has_parts, layout_of, role_in, layout_after}
use Rattle.kts_syntax.specs.Readings.{is_none, rest}
use Rattle.kts_syntax.specs.Sizes.{count}
use Rattle.kts_syntax.specs.Tops.{begins_with}
use Rattle.kts_syntax.specs.TreeCounts.{count_in_formula}
use Rattle.kts_syntax.specs.Words.{is_text, is_word, number_of, is_like_number}
use Rattle.kts_syntax.specs.declared.fault.FormKind.{FormKind}
use Rattle.kts_syntax.specs.declared.fault.FormKind.TheVariants.{NotAForm, WrongCount, BadNumber, TooMany}
use Rattle.kts_syntax.specs.declared.head.Head.{Head}
use Rattle.kts_syntax.specs.declared.layout.Layout.{Layout}
use Rattle.kts_syntax.specs.declared.layout.Role.{Role}
use Rattle.kts_syntax.specs.declared.layout.Role.TheVariants as role

-- a tree at fault, and the place after its last byte
pub record Faulty : Type 0 where
  pub fault : FormFault
  pub end : ℕ

abbrev pub Faulties : Type 0
Faulties = List Faulty

-- a tree that is at fault itself
abbrev pub wrong : FormKind → ℕ → ℕ → Faulties
wrong kind start end = record { fault = fault kind start; end = end } ∷ []

-- the first tree in a name's place
unfoldable pub faulty_name : Forest → Faulties
faulty_name none = []
faulty_name (atom at bytes after) = if is_word bytes then [] else wrong NotAForm at (at + length bytes)
faulty_name (list start end inside after) = wrong NotAForm start end

-- the first tree in a number's place
unfoldable pub faulty_number : Forest → Faulties
faulty_number none = []
faulty_number (atom at bytes after) = if is_some (number_of bytes) then [] else wrong BadNumber at (at + length bytes)
faulty_number (list start end inside after) = wrong NotAForm start end

-- each tree in a name's place
unfoldable pub faulty_names : Forest → Faulties
faulty_names none = []
faulty_names (atom at bytes after) = (if is_word bytes then [] else wrong NotAForm at (at + length bytes)) ++ faulty_names after
faulty_names (list start end inside after) = wrong NotAForm start end ++ faulty_names after

-- the first tree as arguments
unfoldable pub faulty_arguments : Forest → Faulties
faulty_arguments none = []
faulty_arguments (atom at bytes after) = wrong NotAForm at (at + length bytes)
faulty_arguments (list start end inside after) = if nat_le (count inside) most_arguments then faulty_names inside else wrong WrongCount start end

-- a list as a type
unfoldable pub faulty_int : ℕ → ℕ → Forest → Faulties
faulty_int start end inside =
    if begins_with (codes "int") inside then (if count inside == 3 then faulty_number (rest inside) ++ faulty_number (rest (rest inside)) else wrong WrongCount start end)
    else wrong NotAForm start end

-- the first tree as a type
unfoldable pub faulty_type : Forest → Faulties
faulty_type none = []
faulty_type (atom at bytes after) = if is_word bytes then [] else wrong NotAForm at (at + length bytes)
faulty_type (list start end inside after) = faulty_int start end inside

-- a list as a binder
unfoldable pub faulty_binder : ℕ → ℕ → Forest → Faulties
faulty_binder start end inside =
    if count inside == 0 then wrong NotAForm start end
    else (if count inside == 2 then faulty_name inside ++ faulty_name (rest inside) else wrong WrongCount start end)

-- an atom as a term
unfoldable pub faulty_term : ℕ → List ℕ → Faulties
faulty_term at bytes =
    if is_like_number bytes then (if is_some (number_of bytes) then [] else wrong BadNumber at (at + length bytes))
    else (if is_word bytes then [] else wrong NotAForm at (at + length bytes))

-- an atom in a role
unfoldable pub faulty_atom : Role → ℕ → List ℕ → Faulties
faulty_atom role.Term at bytes = faulty_term at bytes
faulty_atom role.Formula at bytes = wrong NotAForm at (at + length bytes)
faulty_atom role.Binder at bytes = wrong NotAForm at (at + length bytes)

-- a list in a role, by its trees at fault as a binder and as an expression of a role
unfoldable pub faulty_list : Role → Faulties → (Role → Faulties) → Faulties
faulty_list role.Binder bound operand = bound
faulty_list role.Term bound operand = operand role.Term
faulty_list role.Formula bound operand = operand role.Formula

-- a list that begins with this head, where so many parts follow, by their trees at fault in a layout
unfoldable pub faulty_after : ℕ → ℕ → ℕ → Option Head → (Layout → Faulties) → Faulties
faulty_after start end n None parts = wrong NotAForm start end
faulty_after start end n (Some head) parts = if has_parts head n then parts (layout_of head) else wrong WrongCount start end

unfoldable mutual
  -- trees as the parts of a list with this layout
  pub faulty_parts : Layout → Forest → Faulties
  faulty_parts layout none = []
  faulty_parts layout (atom at bytes after) = faulty_atom (role_in layout (is_none after)) at bytes ++ faulty_parts (layout_after layout) after
  faulty_parts layout (list start end inside after) =
      faulty_list (role_in layout (is_none after)) (faulty_binder start end inside) (λ role. faulty_expr role start end inside) ++ faulty_parts (layout_after layout) after

  -- a list as an expression of a role
  pub faulty_expr : Role → ℕ → ℕ → Forest → Faulties
  faulty_expr role start end none = wrong NotAForm start end
  faulty_expr role start end (atom at word after) = faulty_after start end (count after) (head_of role at word) (λ layout. faulty_parts layout after)
  faulty_expr role start end (list at last inside after) = wrong NotAForm start end

-- the first tree as a formula
unfoldable pub faulty_formula : Forest → Faulties
faulty_formula none = []
faulty_formula (atom at bytes after) = wrong NotAForm at (at + length bytes)
faulty_formula (list start end inside after) = faulty_expr role.Formula start end inside

-- a tree's parts at fault; where there are none, the tree itself
abbrev pub or_itself : Faulties → Faulties → Faulties
or_itself [] own = own
or_itself (f ∷ fs) own = f ∷ fs

-- a name alone
unfoldable pub faulty_named : ℕ → ℕ → Forest → Faulties
faulty_named start end parts = if count parts == 1 then faulty_name parts else wrong WrongCount start end

-- a name, arguments and a type
unfoldable pub faulty_family : ℕ → ℕ → Forest → Faulties
faulty_family start end parts =
    if count parts == 3 then faulty_name parts ++ (faulty_arguments (rest parts) ++ faulty_type (rest (rest parts)))
    else wrong WrongCount start end

-- a name and a formula, which may be too large
unfoldable pub faulty_sized : ℕ → ℕ → Forest → Faulties
faulty_sized start end parts =
    if count parts == 2 then or_itself (faulty_name parts ++ faulty_formula (rest parts)) (if nat_lt most_written_trees (count_in_formula (rest parts)) then wrong TooMany start end else [])
    else wrong WrongCount start end

-- a list that begins with a word, as a form after the first
unfoldable pub faulty_form_of : ℕ → ℕ → List ℕ → Forest → Faulties
faulty_form_of start end word parts =
    if is_text word (codes "index") then faulty_named start end parts
    else (if is_text word (codes "given") then faulty_family start end parts
    else (if is_text word (codes "choose") then faulty_family start end parts
    else (if is_text word (codes "formula") then faulty_sized start end parts
    else (if is_text word (codes "manifest") then faulty_named start end parts
    else wrong NotAForm start end))))

-- a list as a form after the first
unfoldable pub faulty_form : ℕ → ℕ → Forest → Faulties
faulty_form start end none = wrong NotAForm start end
faulty_form start end (atom at word parts) = faulty_form_of start end word parts
faulty_form start end (list at last inside after) = wrong NotAForm start end

-- the word that a list begins with
abbrev pub word_in : Forest → List ℕ
word_in none = []
word_in (atom at word after) = word
word_in (list start end inside after) = []

-- how many forms may begin with a word
abbrev pub limits : List (List ℕ × ℕ)
limits = (codes "index", most_indexes) ∷ (codes "given", most_givens) ∷ (codes "choose", most_choices) ∷ (codes "formula", most_formulas) ∷ []

-- whether so many lists before begin with this word that there may be no more
unfoldable pub is_full : List (List ℕ) → List ℕ → Bool
is_full before word = list_any (λ limit. is_text word limit.0 && nat_le limit.1 (count_by (is_text word) before)) limits

-- trees as forms, after lists that begin with these words
unfoldable pub faulty_forms : List (List ℕ) → Forest → Faulties
faulty_forms before none = []
faulty_forms before (atom at bytes after) = wrong NotAForm at (at + length bytes) ++ faulty_forms before after
faulty_forms before (list start end inside after) =
    or_itself (faulty_form start end inside) (if is_full before (word_in inside) then wrong TooMany start end else []) ++ faulty_forms (before ++ word_in inside ∷ []) after

-- the first form
unfoldable pub faulty_spec : ℕ → ℕ → Forest → Faulties
faulty_spec start end inside =
    if begins_with (codes "spec") inside then (if count inside == 2 then faulty_name (rest inside) else wrong WrongCount start end)
    else wrong NotAForm start end

-- all trees at fault of a file
unfoldable pub faulty_trees : Forest → Faulties
faulty_trees none = []
faulty_trees (atom at bytes after) = wrong NotAForm at (at + length bytes) ++ faulty_forms [] after
faulty_trees (list start end inside after) = faulty_spec start end inside ++ faulty_forms [] after

-- of these trees this one has this fault, and it ends first
pub record EndsFirst (fs : Faulties) (f : FormFault) : Type 0 where
  pub end : ℕ
  pub there : Contains fs (record { fault = f; end = end })
  pub first : All (λ other. end ≤ other.end) fs
