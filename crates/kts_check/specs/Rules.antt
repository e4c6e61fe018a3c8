-- The typing rules: what an expression that is well typed means as a term or as a formula. One rule for each form.
use Rattle.std.specs.Prelude.{pos, ◌≡◌, ◌≢◌, ℕ, suc, ◌+◌, ◌<◌, ◌≤◌, ℤ, neg_ℤ, ◌≤ℤ◌, List, [], ◌∷◌, ◌++◌, length, map, Option, None, Some, option_map, slice_get}
use Rattle.std.specs.List.{AllByRecursion}
use Rattle.kts_spec.specs.Ranges.{Range, one_number, total_range, difference_range, product_range, least_range, greatest_range, sum_over_range}
use Rattle.kts_spec.specs.Typing.{Kind, Whole, MemberOf, kind_of_type}
use Rattle.kts_spec.specs.declared.declarations.Family.{Family}
use Rattle.kts_base.specs.Limits.{most_variables, most_prefix, most_parts, most_number}
use Rattle.kts_spec.specs.declared.tree.Comparison.{Comparison}
use Rattle.kts_spec.specs.declared.tree.Comparison.TheVariants as comparison
use Rattle.kts_spec.specs.declared.tree.Formula.{Formula}
use Rattle.kts_spec.specs.declared.tree.Formula.TheVariants as formula
use Rattle.kts_spec.specs.declared.tree.Term.{Term}
use Rattle.kts_spec.specs.declared.tree.Term.TheVariants as term
use Rattle.kts_syntax.specs.declared.expr.Expr.{Expr, roll-Expr}
use Rattle.kts_syntax.specs.declared.head.Head.{Head}
use Rattle.kts_syntax.specs.declared.head.Head.TheVariants.{Add, Sub, Mul, Min, Max, Sum, Le, Lt, Ge, Gt, Eq, Ne, And, Or, Not, Implies, Forall, Exists, Number, Use}
use Rattle.kts_syntax.specs.declared.word.Word.{Word}
use Rattle.kts_check.specs.Declarations.{Declarations, entry_of}
use Rattle.kts_check.specs.Scopes.{Scope}
use Rattle.kts_check.specs.declared.entry.Entry.{Entry}
use Rattle.kts_check.specs.declared.entry.Entry.TheVariants as entry

-- a variable, the name of its index, and where they are written
abbrev pub Binder : Type 0
Binder = Word × Word × ℕ

-- an expression as it is written: where it begins, its head, its binders and its parts
abbrev pub written : ℕ → Head → List Binder → List Expr → Expr
written at head binders parts = roll-Expr (record { at = at; head = head; binders = binders; parts = parts })

-- ---- names

-- a name is declared, and stands for this
abbrev pub Declares : Declarations → List ℕ → Entry → Type 0
Declares d name e = entry_of d.names name ≡ Some e

-- nothing that is declared has this name
abbrev pub IsUndeclared : Declarations → List ℕ → Type 0
IsUndeclared d name = entry_of d.names name ≡ None

-- a name is that of a variable in scope: of the one with this number, counted from the outermost, and with this index
pub data IsVariable : Scope → List ℕ → ℕ → ℕ → Type 0 where
  first : {name : List ℕ} {i : ℕ} {scope : Scope} → IsVariable ((name, i) ∷ scope) name 0 i
  later : {other name : List ℕ} {j k i : ℕ} {scope : Scope} → other ≢ name → IsVariable scope name k i → IsVariable ((other, j) ∷ scope) name (suc k) i

-- no variable in scope has this name
abbrev pub IsNoVariable : Scope → List ℕ → Type 0
IsNoVariable scope name = AllByRecursion (λ (v : List ℕ × ℕ). v.0 ≢ name) scope

-- ---- ranges

-- at most 10^15 away from 0
pub record IsLimited (n : ℤ) : Type 0 where
  pub low : neg_ℤ (pos most_number) ≤ℤ n
  pub high : n ≤ℤ (pos most_number)

-- neither end of the range is further away
pub record HasLimitedEnds (w : Range) : Type 0 where
  pub least : IsLimited w.0
  pub greatest : IsLimited w.1

-- ---- comparisons

-- the comparisons of whole numbers
pub data OfNumbers : Head → Comparison → Type 0 where
  le : OfNumbers Le comparison.Le
  lt : OfNumbers Lt comparison.Lt
  ge : OfNumbers Ge comparison.Ge
  gt : OfNumbers Gt comparison.Gt
  eq : OfNumbers Eq comparison.Eq
  ne : OfNumbers Ne comparison.Ne

-- the comparisons of members of one index
pub data OfMembers : Head → Comparison → Type 0 where
  eq : OfMembers Eq comparison.Same
  ne : OfMembers Ne comparison.Other

-- ---- binders

-- the way from the body of a formula through `forall` and `and` alone, by how many variables are bound on it; None off it
abbrev pub Way : Type 0
Way = Option ℕ

-- the way after so many variables more
abbrev pub past : Way → ℕ → Way
past way count = option_map (λ n. n + count) way

-- fewer variables are bound on the way than may be
abbrev pub HasRoom : Way → Type 0
HasRoom way = (n : ℕ) → way ≡ Some n → n < most_prefix

-- `own` is the name of the form that is read: no variable in it may have that name.
module _ (d : Declarations) (own : List ℕ) where
  -- a variable may have a name that is neither declared, nor the form's own, nor in scope
  pub record IsFree (scope : Scope) (name : List ℕ) : Type 0 where
    pub undeclared : IsUndeclared d name
    pub other : own ≢ name
    pub unbound : IsNoVariable scope name

  -- in a scope, on a way, binders bring these variables into scope, each with its index; a variable is in scope from the next binder on
  pub data Binds : Scope → Way → List Binder → Scope → Type 0 where
    no_binder : {scope : Scope} {way : Way} → Binds scope way [] []
    -- `(r I)`, and the binders after it
    binder : {scope : Scope} {way : Way} {word index : Word} {at i : ℕ} {binders : List Binder} {more : Scope}
        → IsFree scope word.name → Declares d index.name (entry.Index i) → length scope < most_variables → HasRoom way
        → Binds (scope ++ (word.name, i) ∷ []) (past way 1) binders more
        → Binds scope way ((word, index, at) ∷ binders) ((word.name, i) ∷ more)

  -- ---- terms and formulas

  mutual
    -- in a scope an expression is this term, of this kind: a whole number in a range, or a member of an index
    pub data IsTerm : Scope → Expr → Term → Kind → Type 0 where
      -- `5`
      number : {scope : Scope} {n : ℤ} (at : ℕ)
          → IsLimited n
          → IsTerm scope (written at (Number n) [] []) (term.Number n) (Whole (one_number n))
      -- `r`, of a variable
      variable : {scope : Scope} {k i : ℕ} (at : ℕ) (word : Word)
          → IsVariable scope word.name k i
          → IsTerm scope (written at (Use word) [] []) (term.Var k) (MemberOf i)
      -- `x`, `(x t)`, `(x t t)`, of a given
      given : {scope : Scope} {f : ℕ} {family : Family} {args : List Expr} {ts : List Term} (at : ℕ) (word : Word)
          → IsNoVariable scope word.name → Declares d word.name (entry.Given f) → slice_get d.givens f ≡ Some family → AreMembers scope args ts family.args
          → IsTerm scope (written at (Use word) [] args) (term.Given f ts) (kind_of_type family.kind)
      -- the same of a choice
      choice : {scope : Scope} {x : ℕ} {family : Family} {args : List Expr} {ts : List Term} (at : ℕ) (word : Word)
          → IsNoVariable scope word.name → Declares d word.name (entry.Choice x) → slice_get d.choices x ≡ Some family → AreMembers scope args ts family.args
          → IsTerm scope (written at (Use word) [] args) (term.Choice x ts) (kind_of_type family.kind)
      -- `(+ t t ..)`, of two to a thousand parts
      plus : {scope : Scope} {parts : List Expr} {ts : List Term} {ws : List Range} (at : ℕ)
          → AreWhole scope parts ts ws → 2 ≤ length parts → length parts ≤ most_parts → HasLimitedEnds (total_range ws)
          → IsTerm scope (written at Add [] parts) (term.Add ts) (Whole (total_range ws))
      -- `(- t t)`
      minus : {scope : Scope} {a b : Expr} {s t : Term} {v w : Range} (at : ℕ)
          → IsTerm scope a s (Whole v) → IsTerm scope b t (Whole w) → HasLimitedEnds (difference_range v w)
          → IsTerm scope (written at Sub [] (a ∷ b ∷ [])) (term.Sub (s ∷ t ∷ [])) (Whole (difference_range v w))
      -- `(* t t)`
      times : {scope : Scope} {a b : Expr} {s t : Term} {v w : Range} (at : ℕ)
          → IsTerm scope a s (Whole v) → IsTerm scope b t (Whole w) → HasLimitedEnds (product_range v w)
          → IsTerm scope (written at Mul [] (a ∷ b ∷ [])) (term.Mul (s ∷ t ∷ [])) (Whole (product_range v w))
      -- `(min t t)`
      lesser : {scope : Scope} {a b : Expr} {s t : Term} {v w : Range} (at : ℕ)
          → IsTerm scope a s (Whole v) → IsTerm scope b t (Whole w) → HasLimitedEnds (least_range v w)
          → IsTerm scope (written at Min [] (a ∷ b ∷ [])) (term.Min (s ∷ t ∷ [])) (Whole (least_range v w))
      -- `(max t t)`
      greater : {scope : Scope} {a b : Expr} {s t : Term} {v w : Range} (at : ℕ)
          → IsTerm scope a s (Whole v) → IsTerm scope b t (Whole w) → HasLimitedEnds (greatest_range v w)
          → IsTerm scope (written at Max [] (a ∷ b ∷ [])) (term.Max (s ∷ t ∷ [])) (Whole (greatest_range v w))
      -- `(sum (r I) P t)`
      sum : {scope : Scope} {b : Binder} {name : List ℕ} {i : ℕ} {condition body : Expr} {p : Formula} {t : Term} {w : Range} (at : ℕ)
          → Binds scope None (b ∷ []) ((name, i) ∷ [])
          → IsFormula (scope ++ (name, i) ∷ []) None condition p → IsTerm (scope ++ (name, i) ∷ []) body t (Whole w) → HasLimitedEnds (sum_over_range w)
          → IsTerm scope (written at Sum (b ∷ []) (condition ∷ body ∷ [])) (term.Sum i p t) (Whole (sum_over_range w))

    -- arguments are these terms, each a member of the index that is wanted in its place
    pub data AreMembers : Scope → List Expr → List Term → List ℕ → Type 0 where
      no_argument : {scope : Scope} → AreMembers scope [] [] []
      argument : {scope : Scope} {e : Expr} {t : Term} {i : ℕ} {es : List Expr} {ts : List Term} {is : List ℕ}
          → IsTerm scope e t (MemberOf i) → AreMembers scope es ts is → AreMembers scope (e ∷ es) (t ∷ ts) (i ∷ is)

    -- parts are these whole-number terms, in these ranges
    pub data AreWhole : Scope → List Expr → List Term → List Range → Type 0 where
      no_part : {scope : Scope} → AreWhole scope [] [] []
      part : {scope : Scope} {e : Expr} {t : Term} {w : Range} {es : List Expr} {ts : List Term} {ws : List Range}
          → IsTerm scope e t (Whole w) → AreWhole scope es ts ws → AreWhole scope (e ∷ es) (t ∷ ts) (w ∷ ws)

    -- in a scope, on a way, an expression is this formula
    pub data IsFormula : Scope → Way → Expr → Formula → Type 0 where
      -- `(<= t t)` and the other comparisons of whole numbers
      numbers : {scope : Scope} {way : Way} {head : Head} {c : Comparison} {a b : Expr} {s t : Term} {v w : Range} (at : ℕ)
          → OfNumbers head c → IsTerm scope a s (Whole v) → IsTerm scope b t (Whole w)
          → IsFormula scope way (written at head [] (a ∷ b ∷ [])) (formula.Compare c s t)
      -- `(= t t)` and `(/= t t)` of members of one index
      members : {scope : Scope} {way : Way} {head : Head} {c : Comparison} {a b : Expr} {s t : Term} {i : ℕ} (at : ℕ)
          → OfMembers head c → IsTerm scope a s (MemberOf i) → IsTerm scope b t (MemberOf i)
          → IsFormula scope way (written at head [] (a ∷ b ∷ [])) (formula.Compare c s t)
      -- `(and P P ..)`, of two parts or more: they are on the way too
      conjunction : {scope : Scope} {way : Way} {parts : List Expr} {ps : List Formula} (at : ℕ)
          → AreFormulas scope way parts ps → 2 ≤ length parts
          → IsFormula scope way (written at And [] parts) (formula.And ps)
      -- `(or P P ..)`, of two parts or more
      disjunction : {scope : Scope} {way : Way} {parts : List Expr} {ps : List Formula} (at : ℕ)
          → AreFormulas scope None parts ps → 2 ≤ length parts
          → IsFormula scope way (written at Or [] parts) (formula.Or ps)
      -- `(not P)`
      negation : {scope : Scope} {way : Way} {a : Expr} {p : Formula} (at : ℕ)
          → IsFormula scope None a p
          → IsFormula scope way (written at Not [] (a ∷ [])) (formula.Not p)
      -- `(=> P P)`
      implication : {scope : Scope} {way : Way} {a b : Expr} {p q : Formula} (at : ℕ)
          → IsFormula scope None a p → IsFormula scope None b q
          → IsFormula scope way (written at Implies [] (a ∷ b ∷ [])) (formula.Implies p q)
      -- `(forall (r I) .. P)`: `P` is on the way too
      for_all : {scope : Scope} {way : Way} {binders : List Binder} {variables : Scope} {body : Expr} {p : Formula} (at : ℕ)
          → Binds scope way binders variables → 1 ≤ length variables → IsFormula (scope ++ variables) (past way (length variables)) body p
          → IsFormula scope way (written at Forall binders (body ∷ [])) (formula.Forall (map (λ (v : List ℕ × ℕ). v.1) variables) p)
      -- `(exists (r I) .. P)`
      for_some : {scope : Scope} {way : Way} {binders : List Binder} {variables : Scope} {body : Expr} {p : Formula} (at : ℕ)
          → Binds scope None binders variables → 1 ≤ length variables → IsFormula (scope ++ variables) None body p
          → IsFormula scope way (written at Exists binders (body ∷ [])) (formula.Exists (map (λ (v : List ℕ × ℕ). v.1) variables) p)

    -- parts are these formulas
    pub data AreFormulas : Scope → Way → List Expr → List Formula → Type 0 where
      no_formula : {scope : Scope} {way : Way} → AreFormulas scope way [] []
      one_formula : {scope : Scope} {way : Way} {e : Expr} {p : Formula} {es : List Expr} {ps : List Formula}
          → IsFormula scope way e p → AreFormulas scope way es ps → AreFormulas scope way (e ∷ es) (p ∷ ps)
