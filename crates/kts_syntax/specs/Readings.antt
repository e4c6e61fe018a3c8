-- Terms, formulas and binders of trees. A tree whose own form is wrong is at fault, and its parts aren't judged; else the parts
-- are judged in order. So of all trees at fault the one that ends first is given.
use Rattle.std.specs.Prelude.{ℕ, ℤ, ◌==◌, if◌then◌else◌, Bool, true, false, List, [], ◌∷◌, ◌++◌, Option, Some, None, Result, Ok}
use Rattle.kts_base.specs.Reads.{and_then}
use Rattle.kts_text.specs.Forest.{Forest, none, atom, list}
use Rattle.kts_syntax.specs.Faults.{FormFault, fail}
use Rattle.kts_syntax.specs.Heads.{head_of, has_parts, layout_of, role_in, layout_after}
use Rattle.kts_syntax.specs.Sizes.{count}
use Rattle.kts_syntax.specs.Words.{word_of, number_of, is_like_number}
use Rattle.kts_syntax.specs.declared.expr.Expr.{Expr, roll-Expr}
use Rattle.kts_syntax.specs.declared.fault.FormKind.TheVariants.{NotAForm, WrongCount, BadNumber}
use Rattle.kts_syntax.specs.declared.head.Head.{Head}
use Rattle.kts_syntax.specs.declared.head.Head.TheVariants.{Number, Use}
use Rattle.kts_syntax.specs.declared.layout.Layout.{Layout}
use Rattle.kts_syntax.specs.declared.layout.Role.{Role}
use Rattle.kts_syntax.specs.declared.layout.Role.TheVariants.{Binder, Term, Formula}
use Rattle.kts_syntax.specs.declared.parts.Part.{Part}
use Rattle.kts_syntax.specs.declared.parts.Part.TheVariants.{Bound, Operand}
use Rattle.kts_syntax.specs.declared.parts.Parts.{Parts}
use Rattle.kts_syntax.specs.declared.word.Word.{Word}

-- what is read of a tree
abbrev pub Reading : Type 0 → Type 0
Reading A = Result A FormFault

-- the trees after the first
abbrev pub rest : Forest → Forest
rest none = none
rest (atom at bytes after) = after
rest (list start end inside after) = after

-- whether there is no tree
abbrev pub is_none : Forest → Bool
is_none none = true
is_none (atom at bytes after) = false
is_none (list start end inside after) = false

abbrev pub or_fail : {A : Type 0} → Option A → Reading A → Reading A
or_fail (Some a) failure = Ok a
or_fail None failure = failure

-- an atom as a name
unfoldable pub name_at : ℕ → List ℕ → Reading Word
name_at at bytes = and_then (or_fail (word_of bytes) (fail NotAForm at)) (λ name. Ok (record { name = name; at = at }))

-- an atom as a number
unfoldable pub number_at : ℕ → List ℕ → Reading ℤ
number_at at bytes = or_fail (number_of bytes) (fail BadNumber at)

-- the first tree as a name
unfoldable pub first_name : Forest → Reading Word
first_name none = fail NotAForm 0
first_name (atom at bytes after) = name_at at bytes
first_name (list start end inside after) = fail NotAForm start

-- the first tree as a number
unfoldable pub first_number : Forest → Reading ℤ
first_number none = fail NotAForm 0
first_number (atom at bytes after) = number_at at bytes
first_number (list start end inside after) = fail NotAForm start

-- two names
unfoldable pub two_names : ℕ → Forest → Reading (Word × Word × ℕ)
two_names start inside = and_then (first_name inside) (λ variable. and_then (first_name (rest inside)) (λ index. Ok (variable, index, start)))

-- a list as a binder: a variable and its index
unfoldable pub binder : ℕ → Forest → Reading (Word × Word × ℕ)
binder start inside = if count inside == 0 then fail NotAForm start else (if count inside == 2 then two_names start inside else fail WrongCount start)

-- an expression of these parts
abbrev pub expr_of : ℕ → Head → Parts → Expr
expr_of at head parts = roll-Expr (record { at = at; head = head; binders = parts.binders; parts = parts.exprs })

abbrev pub no_parts : Parts
no_parts = record { binders = []; exprs = [] }

-- an atom as a term: a number, or a name that is used
unfoldable pub term_atom : ℕ → List ℕ → Reading Expr
term_atom at bytes =
    if is_like_number bytes then and_then (number_at at bytes) (λ n. Ok (expr_of at (Number n) no_parts))
    else and_then (name_at at bytes) (λ word. Ok (expr_of at (Use word) no_parts))

-- an atom as a part
unfoldable pub atom_part : Role → ℕ → List ℕ → Reading Part
atom_part Term at bytes = and_then (term_atom at bytes) (λ expr. Ok (Operand expr))
atom_part Formula at bytes = fail NotAForm at
atom_part Binder at bytes = fail NotAForm at

-- a list as a part, by what it is as a binder and as an expression of a role
unfoldable pub list_part : Role → Reading (Word × Word × ℕ) → (Role → Reading Expr) → Reading Part
list_part Binder bound read = and_then bound (λ b. Ok (Bound b))
list_part Term bound read = and_then (read Term) (λ expr. Ok (Operand expr))
list_part Formula bound read = and_then (read Formula) (λ expr. Ok (Operand expr))

-- a part before others
unfoldable pub with_part : Part → Parts → Parts
with_part (Bound b) parts = record parts { binders = b ∷ parts.binders }
with_part (Operand expr) parts = record parts { exprs = expr ∷ parts.exprs }

-- a part after others
unfoldable pub with_last : Parts → Part → Parts
with_last parts (Bound b) = record parts { binders = parts.binders ++ b ∷ [] }
with_last parts (Operand expr) = record parts { exprs = parts.exprs ++ expr ∷ [] }

abbrev pub in_front : Reading Part → Reading Parts → Reading Parts
in_front part parts = and_then part (λ p. and_then parts (λ ps. Ok (with_part p ps)))

-- a head before so many parts
unfoldable pub head_before : ℕ → ℕ → Option Head → Reading Head
head_before start n None = fail NotAForm start
head_before start n (Some head) = if has_parts head n then Ok head else fail WrongCount start

-- the head of a list in this role, where the list's own form is right
unfoldable pub list_head : Role → ℕ → Forest → Reading Head
list_head role start none = fail NotAForm start
list_head role start (atom at word after) = head_before start (count after) (head_of role at word)
list_head role start (list at end inside after) = fail NotAForm start

unfoldable mutual
  -- trees as the parts of a list with this layout
  pub parts_in : Layout → Forest → Reading Parts
  parts_in layout none = Ok no_parts
  parts_in layout (atom at bytes after) = in_front (atom_part (role_in layout (is_none after)) at bytes) (parts_in (layout_after layout) after)
  parts_in layout (list start end inside after) =
      in_front (list_part (role_in layout (is_none after)) (binder start inside) (λ role. expr role start inside)) (parts_in (layout_after layout) after)

  -- a list as an expression of a role
  pub expr : Role → ℕ → Forest → Reading Expr
  expr role start none = fail NotAForm start
  expr role start (atom at word after) =
      and_then (list_head role start (atom at word after)) (λ head. and_then (parts_in (layout_of head) after) (λ parts. Ok (expr_of start head parts)))
  expr role start (list at end inside after) = fail NotAForm start
