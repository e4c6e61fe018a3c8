-- Where the parts of a tree stand.
use Rattle.std.specs.Prelude.{ℕ, ◌+◌, List, [], ◌∷◌, ◌++◌, length, Bool, true, ◌&&◌, nat_lt, Option, None, Some, if◌then◌else◌, Ok}
use Rattle.kts_base.specs.Reads.{and_then}
use Rattle.kts_base.specs.Limits.{most_variables, most_prefix}
use Rattle.kts_syntax.specs.declared.head.Head.{Head}
use Rattle.kts_syntax.specs.declared.head.Head.TheVariants.{Use, Sum, And, Forall, Exists}
use Rattle.kts_syntax.specs.declared.word.Word.{Word}
use Rattle.kts_check.specs.Faults.{Judged, fail}
use Rattle.kts_check.specs.Declarations.{Names, entry_of, index_of, is_taken}
use Rattle.kts_check.specs.Scopes.{Scope, variable}
use Rattle.kts_check.specs.declared.binding.Binding.{Binding}
use Rattle.kts_check.specs.declared.entry.Entry.{Entry}
use Rattle.kts_check.specs.declared.entry.Entry.TheVariants as entry
use Rattle.kts_check.specs.declared.fault.SpecKind.TheVariants.{UnknownName, NameTaken, WrongKind, TooMany}
use Rattle.kts_check.specs.declared.reference.Reference.{Reference}
use Rattle.kts_check.specs.declared.reference.Reference.TheVariants.{Variable, Given, Choice}

-- the variables in scope, the indexes of those that the tree binds, and how many variables are bound on the way from the
-- body of a formula through `forall` and `and` alone; None off that way
pub record Context : Type 0 where
  pub scope : Scope
  pub indexes : List ℕ
  pub way : Option ℕ

-- the context of a binding, with these variables in scope
abbrev pub context_with : Scope → Binding → Context
context_with scope binding = record { scope = scope; indexes = binding.indexes; way = binding.way }

-- a context where the tree binds no variable
abbrev pub plain_context : Scope → Option ℕ → Context
plain_context scope way = record { scope = scope; indexes = []; way = way }

-- whether one variable more may be bound
abbrev pub has_room : Option ℕ → Bool
has_room None = true
has_room (Some n) = nat_lt n most_prefix

-- one variable more on the way
abbrev pub further : Option ℕ → Option ℕ
further None = None
further (Some n) = Some (n + 1)

-- a context after one variable more
abbrev pub with_variable : Context → List ℕ → ℕ → Context
with_variable p name i = record { scope = p.scope ++ (name, i) ∷ []; indexes = p.indexes ++ i ∷ []; way = further p.way }

-- the name that an expression with this head uses
unfoldable pub name_of : Head → Option Word
name_of (Use word) = Some word
name_of head = None

-- what a name stands for, where it stands alone or before arguments
unfoldable pub reference : ℕ → Bool → Option (ℕ × ℕ) → Option Entry → Judged Reference
reference at alone (Some v) found = if alone then Ok (Variable v.0 v.1) else fail WrongKind at
reference at alone None None = fail UnknownName at
reference at alone None (Some (entry.Index i)) = fail WrongKind at
reference at alone None (Some entry.Formula) = fail WrongKind at
reference at alone None (Some (entry.Given f)) = Ok (Given f)
reference at alone None (Some (entry.Choice x)) = Ok (Choice x)

-- where the arguments of a name stand
unfoldable pub reference_context : ℕ → Bool → Option (ℕ × ℕ) → Option Entry → Scope → Judged Context
reference_context at alone o found scope = and_then (reference at alone o found) (λ r. Ok (plain_context scope None))

module _ (names : Names) (own : List ℕ) where
  -- the index of a binder's variable
  unfoldable pub binder_index : Context → Word × Word × ℕ → Judged ℕ
  binder_index p (word, index, at) =
      if is_taken names own p.scope word.name then fail NameTaken word.at
      else and_then (index_of names index) (λ i. if nat_lt (length p.scope) most_variables && has_room p.way then Ok i else fail TooMany at)

  -- the context after binders
  unfoldable pub bind : Context → List (Word × Word × ℕ) → Judged Context
  bind p [] = Ok p
  bind p (b ∷ bs) = and_then (binder_index p b) (λ i. bind (with_variable p b.0.name i) bs)

  -- where the parts of a tree that is no name stand, by its head and its binders
  unfoldable pub operator_context : Head → List (Word × Word × ℕ) → Scope → Option ℕ → Judged Context
  operator_context Sum bs scope way = bind (plain_context scope None) bs
  operator_context Exists bs scope way = bind (plain_context scope None) bs
  operator_context Forall bs scope way = bind (plain_context scope way) bs
  operator_context And bs scope way = Ok (plain_context scope way)
  operator_context head bs scope way = Ok (plain_context scope None)

  -- where the parts of a tree stand, by its head, its binders, and whether it has no parts
  unfoldable pub context_of : Head → List (Word × Word × ℕ) → Bool → Scope → Option ℕ → Judged Context
  context_of (Use word) bs alone scope way = reference_context word.at alone (variable scope word.name) (entry_of names word.name) scope
  context_of head bs alone scope way = operator_context head bs scope way
