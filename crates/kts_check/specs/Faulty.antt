-- The first fault in the types of forms: what is wrong and where, one rule for each cause. What ends before it is well typed.
use Rattle.std.specs.Prelude.{◌≡◌, ◌≢◌, ℕ, ◌<◌, ◌≤◌, ℤ, ◌≤ℤ◌, List, [], ◌∷◌, ◌++◌, length, None, Some, slice_get, Contains}
use Rattle.kts_spec.specs.Ranges.{Range, total_range, difference_range, product_range, least_range, greatest_range, sum_over_range}
use Rattle.kts_spec.specs.Typing.{Kind, Whole, MemberOf}
use Rattle.kts_spec.specs.declared.declarations.Decl.TheVariants as decl
use Rattle.kts_spec.specs.declared.declarations.Family.{Family}
use Rattle.kts_base.specs.Limits.{most_variables, most_prefix, most_parts}
use Rattle.kts_spec.specs.declared.tree.Formula.{Formula}
use Rattle.kts_spec.specs.declared.tree.Term.{Term}
use Rattle.kts_syntax.specs.Tops.{Ast}
use Rattle.kts_syntax.specs.declared.expr.Expr.{Expr}
use Rattle.kts_syntax.specs.declared.form.Form.{Form}
use Rattle.kts_syntax.specs.declared.form.Form.TheVariants as form
use Rattle.kts_syntax.specs.declared.form.Shape.{Shape}
use Rattle.kts_syntax.specs.declared.form.Shape.TheVariants as shape
use Rattle.kts_syntax.specs.declared.head.Head.{Head}
use Rattle.kts_syntax.specs.declared.head.Head.TheVariants.{Add, Sub, Mul, Min, Max, Sum, Le, Lt, Ge, Gt, Eq, Ne, And, Forall, Exists, Use}
use Rattle.kts_syntax.specs.declared.word.Word.{Word}
use Rattle.kts_check.specs.Faults.{fault}
use Rattle.kts_check.specs.Declarations.{Declarations, no_declarations}
use Rattle.kts_check.specs.Rules.{Binder, written, Declares, IsUndeclared, IsVariable, IsNoVariable, HasLimitedEnds, Way, past, HasRoom, IsFree, Binds, IsTerm, AreWhole, IsFormula}
use Rattle.kts_check.specs.Scopes.{Scope}
use Rattle.kts_check.specs.Typed.{IsEnd, AssignsMembers, AreIndexes, AllMean}
use Rattle.kts_check.specs.declared.entry.Entry.{Entry}
use Rattle.kts_check.specs.declared.entry.Entry.TheVariants as entry
use Rattle.kts_check.specs.Faults.{SpecFault}
use Rattle.kts_check.specs.declared.fault.SpecKind.TheVariants.{UnknownName, NameTaken, WrongKind, WrongCount, BadRange, Unbounded, TooMany}

-- ---- heads

-- the way of the parts of a tree: through `and` and `forall` alone it goes on
abbrev pub along : Head → Way → Way
along And way = way
along Forall way = way
along head way = None

-- a head that is no name
abbrev pub IsNoName : Head → Type 0
IsNoName head = (word : Word) → head ≢ Use word

-- a head before binders
pub data BindsVariables : Head → Type 0 where
  sum : BindsVariables Sum
  for_all : BindsVariables Forall
  for_some : BindsVariables Exists

-- an operation on whole numbers
pub data IsArithmetic : Head → Type 0 where
  plus : IsArithmetic Add
  minus : IsArithmetic Sub
  times : IsArithmetic Mul
  lesser : IsArithmetic Min
  greater : IsArithmetic Max

-- the range of an operation on whole numbers, by their ranges
pub data HasRange : Head → List Range → Range → Type 0 where
  plus : {ws : List Range} → HasRange Add ws (total_range ws)
  minus : {v w : Range} → HasRange Sub (v ∷ w ∷ []) (difference_range v w)
  times : {v w : Range} → HasRange Mul (v ∷ w ∷ []) (product_range v w)
  lesser : {v w : Range} → HasRange Min (v ∷ w ∷ []) (least_range v w)
  greater : {v w : Range} → HasRange Max (v ∷ w ∷ []) (greatest_range v w)

-- a comparison by order
pub data IsOrder : Head → Type 0 where
  le : IsOrder Le
  lt : IsOrder Lt
  ge : IsOrder Ge
  gt : IsOrder Gt

-- a comparison by equality
pub data IsEquality : Head → Type 0 where
  eq : IsEquality Eq
  ne : IsEquality Ne

-- both are whole numbers, or both are members of one index
pub data AreAlike : Kind → Kind → Type 0 where
  numbers : {v w : Range} → AreAlike (Whole v) (Whole w)
  members : {i : ℕ} → AreAlike (MemberOf i) (MemberOf i)

-- ---- names

module _ (d : Declarations) where
  -- a name in the place of an index's name
  pub data IndexFault : Word → SpecFault → Type 0 where
    -- nothing has it
    unknown : {word : Word} → IsUndeclared d word.name → IndexFault word (fault UnknownName word.at)
    -- it isn't an index
    no_index : {word : Word} {e : Entry} → Declares d word.name e → ((i : ℕ) → e ≢ entry.Index i) → IndexFault word (fault WrongKind word.at)

  -- a name as a term or before arguments
  pub data UseFault : Scope → Word → List Expr → SpecFault → Type 0 where
    -- neither a declaration nor a variable has it
    unknown : {scope : Scope} {word : Word} {args : List Expr} → IsNoVariable scope word.name → IsUndeclared d word.name → UseFault scope word args (fault UnknownName word.at)
    -- it is an index
    index : {scope : Scope} {word : Word} {args : List Expr} {i : ℕ} → IsNoVariable scope word.name → Declares d word.name (entry.Index i) → UseFault scope word args (fault WrongKind word.at)
    -- it is a formula
    formula : {scope : Scope} {word : Word} {args : List Expr} → IsNoVariable scope word.name → Declares d word.name entry.Formula → UseFault scope word args (fault WrongKind word.at)
    -- it is a variable before arguments
    variable : {scope : Scope} {word : Word} {e : Expr} {es : List Expr} {k i : ℕ} → IsVariable scope word.name k i → UseFault scope word (e ∷ es) (fault WrongKind word.at)

  -- a name stands for a given or a choice
  pub data StandsFor : Scope → List ℕ → Family → Type 0 where
    given : {scope : Scope} {name : List ℕ} {f : ℕ} {family : Family} → IsNoVariable scope name → Declares d name (entry.Given f) → slice_get d.givens f ≡ Some family → StandsFor scope name family
    choice : {scope : Scope} {name : List ℕ} {x : ℕ} {family : Family} → IsNoVariable scope name → Declares d name (entry.Choice x) → slice_get d.choices x ≡ Some family → StandsFor scope name family

module _ (d : Declarations) (own : List ℕ) where
  -- ---- binders

  -- a name that a variable may not have: it is declared, the form's own, or in scope
  pub data IsTaken : Scope → List ℕ → Type 0 where
    declared : {scope : Scope} {name : List ℕ} {e : Entry} → Declares d name e → IsTaken scope name
    of_form : {scope : Scope} {name : List ℕ} → own ≡ name → IsTaken scope name
    in_scope : {scope : Scope} {name : List ℕ} {k i : ℕ} → IsVariable scope name k i → IsTaken scope name

  -- a binder: its variable's name, then its index's name, then the binder
  pub data BinderFault : Scope → Way → Binder → SpecFault → Type 0 where
    -- the variable's name is taken
    name : {scope : Scope} {way : Way} {word index : Word} {at : ℕ} → IsTaken scope word.name → BinderFault scope way (word, index, at) (fault NameTaken word.at)
    -- the index's name is at fault
    index : {scope : Scope} {way : Way} {word index : Word} {at : ℕ} {f : SpecFault} → IsFree d own scope word.name → IndexFault d index f → BinderFault scope way (word, index, at) f
    -- it is the ninth variable in scope
    ninth : {scope : Scope} {way : Way} {word index : Word} {at i : ℕ} → IsFree d own scope word.name → Declares d index.name (entry.Index i) → most_variables ≤ length scope
        → BinderFault scope way (word, index, at) (fault TooMany at)
    -- it is the fourth on the way
    fourth : {scope : Scope} {word index : Word} {at i n : ℕ} → IsFree d own scope word.name → Declares d index.name (entry.Index i) → most_prefix ≤ n
        → BinderFault scope (Some n) (word, index, at) (fault TooMany at)

  -- the first of binders at fault; those before it bind
  pub data BindersFault : Scope → Way → List Binder → SpecFault → Type 0 where
    first : {scope : Scope} {way : Way} {b : Binder} {bs : List Binder} {f : SpecFault} → BinderFault scope way b f → BindersFault scope way (b ∷ bs) f
    later : {scope : Scope} {way : Way} {word index : Word} {at i : ℕ} {bs : List Binder} {f : SpecFault}
        → IsFree d own scope word.name → Declares d index.name (entry.Index i) → length scope < most_variables → HasRoom way
        → BindersFault (scope ++ (word.name, i) ∷ []) (past way 1) bs f → BindersFault scope way ((word, index, at) ∷ bs) f

  -- ---- parts that are well typed

  -- an expression is well typed
  pub data IsWellTyped : Scope → Way → Expr → Type 0 where
    term : {scope : Scope} {way : Way} {e : Expr} {t : Term} {k : Kind} → IsTerm d own scope e t k → IsWellTyped scope way e
    formula : {scope : Scope} {way : Way} {e : Expr} {p : Formula} → IsFormula d own scope way e p → IsWellTyped scope way e

  -- parts are terms
  pub data AllTerms : Scope → List Expr → Type 0 where
    no_term : {scope : Scope} → AllTerms scope []
    one_term : {scope : Scope} {e : Expr} {t : Term} {k : Kind} {es : List Expr} → IsTerm d own scope e t k → AllTerms scope es → AllTerms scope (e ∷ es)

  -- parts are terms, and one of them isn't a whole number
  pub data AreMixed : Scope → List Expr → Type 0 where
    member : {scope : Scope} {e : Expr} {t : Term} {i : ℕ} {es : List Expr} → IsTerm d own scope e t (MemberOf i) → AllTerms scope es → AreMixed scope (e ∷ es)
    whole : {scope : Scope} {e : Expr} {t : Term} {w : Range} {es : List Expr} → IsTerm d own scope e t (Whole w) → AreMixed scope es → AreMixed scope (e ∷ es)

  -- arguments are terms, as many as are wanted, and one of them isn't a member of the index that is wanted in its place
  pub data AreAmiss : Scope → List Expr → List ℕ → Type 0 where
    wrong : {scope : Scope} {e : Expr} {t : Term} {k : Kind} {i : ℕ} {es : List Expr} {is : List ℕ}
        → IsTerm d own scope e t k → k ≢ MemberOf i → AllTerms scope es → length es ≡ length is → AreAmiss scope (e ∷ es) (i ∷ is)
    right : {scope : Scope} {e : Expr} {t : Term} {i : ℕ} {es : List Expr} {is : List ℕ} → IsTerm d own scope e t (MemberOf i) → AreAmiss scope es is → AreAmiss scope (e ∷ es) (i ∷ is)

  -- ---- trees

  -- a tree breaks its own rule, where its name, its binders and its parts are well typed
  pub data RuleFault : Scope → Expr → SpecFault → Type 0 where
    -- `x`, `(x t)`, `(x t t)`: another number of arguments is wanted
    count : {scope : Scope} {family : Family} {args : List Expr} (at : ℕ) (word : Word)
        → StandsFor d scope word.name family → AllTerms scope args → length args ≢ length family.args
        → RuleFault scope (written at (Use word) [] args) (fault WrongCount at)
    -- the same: an argument isn't a member of the index that is wanted
    argument : {scope : Scope} {family : Family} {args : List Expr} (at : ℕ) (word : Word)
        → StandsFor d scope word.name family → AreAmiss scope args family.args
        → RuleFault scope (written at (Use word) [] args) (fault WrongKind at)
    -- `(+ t t ..)` and the other operations: a part isn't a whole number
    operand : {scope : Scope} {head : Head} {parts : List Expr} (at : ℕ)
        → IsArithmetic head → AreMixed scope parts → 2 ≤ length parts → length parts ≤ most_parts
        → RuleFault scope (written at head [] parts) (fault WrongKind at)
    -- the same: an end of the range is further than 10^15 away from 0
    range : {scope : Scope} {head : Head} {parts : List Expr} {ts : List Term} {ws : List Range} {r : Range} (at : ℕ)
        → AreWhole d own scope parts ts ws → 2 ≤ length parts → length parts ≤ most_parts → HasRange head ws r → (HasLimitedEnds r → ⊥)
        → RuleFault scope (written at head [] parts) (fault (Unbounded r.0 r.1) at)
    -- `(sum (r I) P t)`: the body isn't a whole number
    sum_phrase : {scope : Scope} {b : Binder} {name : List ℕ} {i j : ℕ} {condition body : Expr} {p : Formula} {t : Term} (at : ℕ)
        → Binds d own scope None (b ∷ []) ((name, i) ∷ []) → IsFormula d own (scope ++ (name, i) ∷ []) None condition p → IsTerm d own (scope ++ (name, i) ∷ []) body t (MemberOf j)
        → RuleFault scope (written at Sum (b ∷ []) (condition ∷ body ∷ [])) (fault WrongKind at)
    -- the same: an end of the range is further than 10^15 away from 0
    sum_range : {scope : Scope} {b : Binder} {name : List ℕ} {i : ℕ} {condition body : Expr} {p : Formula} {t : Term} {w : Range} (at : ℕ)
        → Binds d own scope None (b ∷ []) ((name, i) ∷ []) → IsFormula d own (scope ++ (name, i) ∷ []) None condition p → IsTerm d own (scope ++ (name, i) ∷ []) body t (Whole w)
        → (HasLimitedEnds (sum_over_range w) → ⊥)
        → RuleFault scope (written at Sum (b ∷ []) (condition ∷ body ∷ [])) (fault (Unbounded (sum_over_range w).0 (sum_over_range w).1) at)
    -- `(<= t t)`, `(< t t)`, `(>= t t)`, `(> t t)`: a side isn't a whole number
    order : {scope : Scope} {head : Head} {a b : Expr} (at : ℕ)
        → IsOrder head → AreMixed scope (a ∷ b ∷ [])
        → RuleFault scope (written at head [] (a ∷ b ∷ [])) (fault WrongKind at)
    -- `(= t t)`, `(/= t t)`: the sides are neither two whole numbers nor two members of one index
    equality : {scope : Scope} {head : Head} {a b : Expr} {s t : Term} {k l : Kind} (at : ℕ)
        → IsEquality head → IsTerm d own scope a s k → IsTerm d own scope b t l → (AreAlike k l → ⊥)
        → RuleFault scope (written at head [] (a ∷ b ∷ [])) (fault WrongKind at)

  mutual
    -- in a scope, on a way, an expression has this first fault: its name's, then its first binder's, then its first part's, then its own
    pub data FaultIn : Scope → Way → Expr → SpecFault → Type 0 where
      -- a name as a term or before arguments
      name : {scope : Scope} {way : Way} {args : List Expr} {f : SpecFault} (at : ℕ) (word : Word)
          → UseFault d scope word args f → FaultIn scope way (written at (Use word) [] args) f
      -- an argument of a given or a choice
      argument : {scope : Scope} {way : Way} {family : Family} {args : List Expr} {f : SpecFault} (at : ℕ) (word : Word)
          → StandsFor d scope word.name family → FaultAmong scope None args f → FaultIn scope way (written at (Use word) [] args) f
      -- a part of a tree without binders
      part : {scope : Scope} {way : Way} {head : Head} {parts : List Expr} {f : SpecFault} (at : ℕ)
          → IsNoName head → FaultAmong scope (along head way) parts f → FaultIn scope way (written at head [] parts) f
      -- a binder of `sum`, `forall` or `exists`
      binder : {scope : Scope} {way : Way} {head : Head} {bs : List Binder} {f : SpecFault} (at : ℕ) (parts : List Expr)
          → BindsVariables head → BindersFault scope (along head way) bs f → FaultIn scope way (written at head bs parts) f
      -- a part after binders
      bound_part : {scope variables : Scope} {way : Way} {head : Head} {bs : List Binder} {parts : List Expr} {f : SpecFault} (at : ℕ)
          → BindsVariables head → Binds d own scope (along head way) bs variables → FaultAmong (scope ++ variables) (past (along head way) (length variables)) parts f
          → FaultIn scope way (written at head bs parts) f
      -- the tree itself
      tree : {scope : Scope} {way : Way} {e : Expr} {f : SpecFault} → RuleFault scope e f → FaultIn scope way e f

    -- the first of parts at fault; those before it are well typed
    pub data FaultAmong : Scope → Way → List Expr → SpecFault → Type 0 where
      first : {scope : Scope} {way : Way} {e : Expr} {es : List Expr} {f : SpecFault} → FaultIn scope way e f → FaultAmong scope way (e ∷ es) f
      later : {scope : Scope} {way : Way} {e : Expr} {es : List Expr} {f : SpecFault} → IsWellTyped scope way e → FaultAmong scope way es f → FaultAmong scope way (e ∷ es) f

module _ (d : Declarations) where
  -- ---- forms

  -- the first of names of indexes at fault
  pub data IndexesFault : List Word → SpecFault → Type 0 where
    first : {word : Word} {words : List Word} {f : SpecFault} → IndexFault d word f → IndexesFault (word ∷ words) f
    later : {word : Word} {words : List Word} {i : ℕ} {f : SpecFault} → Declares d word.name (entry.Index i) → IndexesFault words f → IndexesFault (word ∷ words) f

  -- a type
  pub data TypeFault : Shape → SpecFault → Type 0 where
    -- `(int LOW HIGH)`: `LOW` is above `HIGH`, or one of them is further than a million away from 0
    range : {low high : ℤ} {at : ℕ} → (IsEnd low → IsEnd high → low ≤ℤ high → ⊥) → TypeFault (shape.Int low high at) (fault BadRange at)
    -- `I`
    index : {word : Word} {f : SpecFault} → IndexFault d word f → TypeFault (shape.Named word) f

  -- a given or a choice: its name, then its arguments, then its type
  pub data FamilyFault : Word → List Word → Shape → SpecFault → Type 0 where
    -- the name is taken
    name : {word : Word} {args : List Word} {written : Shape} {e : Entry} → Declares d word.name e → FamilyFault word args written (fault NameTaken word.at)
    -- the first of the arguments at fault
    argument : {word : Word} {args : List Word} {written : Shape} {f : SpecFault} → IsUndeclared d word.name → IndexesFault args f → FamilyFault word args written f
    -- the type is at fault
    type : {word : Word} {args : List Word} {written : Shape} {is : List ℕ} {f : SpecFault} → IsUndeclared d word.name → AreIndexes d args is → TypeFault written f → FamilyFault word args written f

  -- a manifest, by its name
  pub data ManifestFault : Word → SpecFault → Type 0 where
    -- nothing has it
    unknown : {word : Word} → IsUndeclared d word.name → ManifestFault word (fault UnknownName word.at)
    -- it isn't a choice
    no_choice : {word : Word} {e : Entry} → Declares d word.name e → ((x : ℕ) → e ≢ entry.Choice x) → ManifestFault word (fault WrongKind word.at)
    -- it is a choice, but not of one argument with members as values
    other_choice : {word : Word} {x : ℕ} {family : Family} → Declares d word.name (entry.Choice x) → slice_get d.choices x ≡ Some family → (AssignsMembers family → ⊥) → ManifestFault word (fault WrongKind word.at)
    -- there is a manifest of it already
    again : {word : Word} {x : ℕ} {family : Family} → Declares d word.name (entry.Choice x) → slice_get d.choices x ≡ Some family → AssignsMembers family
        → Contains d.decls (decl.Manifest x) → ManifestFault word (fault NameTaken word.at)

  -- after what is declared, a form has this first fault
  pub data DeclarationFault : Form → SpecFault → Type 0 where
    -- `(index I)`: the name is taken
    index : {word : Word} {e : Entry} → Declares d word.name e → DeclarationFault (form.Index word) (fault NameTaken word.at)
    -- `(given x (I ..) T)`
    given : {word : Word} {args : List Word} {written : Shape} {f : SpecFault} → FamilyFault word args written f → DeclarationFault (form.Given word args written) f
    -- `(choose x (I ..) T)`
    choice : {word : Word} {args : List Word} {written : Shape} {f : SpecFault} → FamilyFault word args written f → DeclarationFault (form.Choose word args written) f
    -- `(formula f P)`: the name is taken
    name : {word : Word} {expr : Expr} {e : Entry} → Declares d word.name e → DeclarationFault (form.Formula word expr) (fault NameTaken word.at)
    -- the same: the body is at fault, with nothing in scope, at the beginning of the way
    formula : {word : Word} {expr : Expr} {f : SpecFault} → IsUndeclared d word.name → FaultIn d word.name [] (Some 0) expr f → DeclarationFault (form.Formula word expr) f
    -- `(manifest x)`
    manifest : {word : Word} {f : SpecFault} → ManifestFault word f → DeclarationFault (form.Manifest word) f

-- a file has this first fault: the forms before one mean something, and that form has it
pub record FirstFault (ast : Ast) (f : SpecFault) : Type 0 where
  pub before : List Form
  pub form : Form
  pub after : List Form
  pub declared : Declarations
  pub forms : ast.forms ≡ before ++ form ∷ after
  pub mean : AllMean no_declarations before declared
  pub first : DeclarationFault declared form f
