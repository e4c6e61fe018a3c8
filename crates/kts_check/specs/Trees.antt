-- What trees say. A tree's own word and its binders are judged first, then its parts in order, then the tree: so of all
-- faults the one of the tree that ends first is given.
use Rattle.std.specs.Prelude.{ℕ, ◌==◌, List, [], ◌∷◌, ◌++◌, length, Bool, true, false, nat_eq, nat_le, Option, None, Some, if◌then◌else◌, Ok, slice_get}
use Rattle.kts_base.specs.Names.{is_between}
use Rattle.kts_base.specs.Reads.{and_then}
use Rattle.kts_spec.specs.Ranges.{one_number, difference_range, product_range, least_range, greatest_range}
use Rattle.kts_spec.specs.declared.declarations.Family.{Family}
use Rattle.kts_base.specs.Limits.{most_parts}
use Rattle.kts_spec.specs.declared.tree.Comparison.{Comparison}
use Rattle.kts_spec.specs.declared.tree.Comparison.TheVariants as comparison
use Rattle.kts_spec.specs.declared.tree.Formula.{Formula}
use Rattle.kts_spec.specs.declared.tree.Formula.TheVariants as formula
use Rattle.kts_spec.specs.declared.tree.Term.{Term}
use Rattle.kts_spec.specs.declared.tree.Term.TheVariants as term
use Rattle.kts_syntax.specs.declared.expr.Expr.{Expr}
use Rattle.kts_syntax.specs.declared.expr.Expr.TheOpen.{Expr-F}
use Rattle.kts_syntax.specs.declared.expr.Expr.TheFolds.{fold-Expr}
use Rattle.kts_syntax.specs.declared.head.Head.{Head}
use Rattle.kts_syntax.specs.declared.head.Head.TheVariants.{Add, Sub, Mul, Min, Max, Sum, Le, Lt, Ge, Gt, Eq, Ne, And, Or, Not, Implies, Forall, Exists, Number, Use}
use Rattle.kts_check.specs.Faults.{Judged, fail}
use Rattle.kts_check.specs.Declarations.{Declarations, entry_of}
use Rattle.kts_check.specs.Measures.{limited_term, total, two, range_of_sum, kind_of, are_members}
use Rattle.kts_check.specs.Contexts.{Context, context_of, reference}
use Rattle.kts_check.specs.Scopes.{Scope, variable}
use Rattle.kts_check.specs.declared.entry.Entry.{Entry}
use Rattle.kts_check.specs.declared.fault.SpecKind.TheVariants.{UnknownName, WrongKind, WrongCount}
use Rattle.kts_check.specs.declared.kind.Kind.{Kind}
use Rattle.kts_check.specs.declared.kind.Kind.TheVariants.{Whole, Member}
use Rattle.kts_check.specs.declared.phrase.Phrases.{Phrases}
use Rattle.kts_check.specs.declared.reference.Reference.{Reference}
use Rattle.kts_check.specs.declared.reference.Reference.TheVariants.{Variable, Given, Choice}
use Rattle.kts_check.specs.declared.phrase.Phrase.{Phrase}
use Rattle.kts_check.specs.declared.phrase.Phrase.TheVariants.{Value, Truth}

-- no part
abbrev pub no_phrases : Phrases
no_phrases = record { terms = []; kinds = []; formulas = [] }

-- what a part says, before what others say
abbrev pub with_part : Phrase → Phrases → Phrases
with_part (Value t k) phrases = record { terms = t ∷ phrases.terms; kinds = k ∷ phrases.kinds; formulas = phrases.formulas }
with_part (Truth p) phrases = record { terms = phrases.terms; kinds = phrases.kinds; formulas = p ∷ phrases.formulas }

-- what a part says, after what others say
abbrev pub with_last : Phrases → Phrase → Phrases
with_last phrases (Value t k) = record { terms = phrases.terms ++ t ∷ []; kinds = phrases.kinds ++ k ∷ []; formulas = phrases.formulas }
with_last phrases (Truth p) = record { terms = phrases.terms; kinds = phrases.kinds; formulas = phrases.formulas ++ p ∷ [] }

-- what a tree says in a scope, and on the way from the body of a formula or off it
abbrev pub Judgement : Type 0
Judgement = Scope → Option ℕ → Judged Phrase

-- what parts say in order, or the first fault
unfoldable pub phrases_at : Scope → Option ℕ → List Judgement → Judged Phrases
phrases_at scope way [] = Ok no_phrases
phrases_at scope way (part ∷ parts) = and_then (part scope way) (λ p. and_then (phrases_at scope way parts) (λ ps. Ok (with_part p ps)))

-- an access with these arguments
unfoldable pub access_phrase : ℕ → Term → Option Family → List Kind → Judged Phrase
access_phrase at t None kinds = fail UnknownName at
access_phrase at t (Some family) kinds =
    if length kinds == length family.args
    then (if are_members family.args kinds then Ok (Value t (kind_of family.kind)) else fail WrongKind at)
    else fail WrongCount at

-- the comparison of two whole numbers
unfoldable pub of_wholes : Head → Option Comparison
of_wholes Le = Some comparison.Le
of_wholes Lt = Some comparison.Lt
of_wholes Ge = Some comparison.Ge
of_wholes Gt = Some comparison.Gt
of_wholes Eq = Some comparison.Eq
of_wholes Ne = Some comparison.Ne
of_wholes head = None

-- the comparison of two members of one index
unfoldable pub of_members : Head → Option Comparison
of_members Eq = Some comparison.Same
of_members Ne = Some comparison.Other
of_members head = None

-- the comparison of two kinds, where there is one
unfoldable pub comparison_of : Head → Kind → Kind → Option Comparison
comparison_of head (Whole a b) (Whole c d) = of_wholes head
comparison_of head (Member i) (Member j) = if nat_eq i j then of_members head else None
comparison_of head k l = None

-- the sum of at least two terms
unfoldable pub addition_phrase : ℕ → List Term → List Kind → Judged Phrase
addition_phrase at ts kinds = if is_between 2 most_parts (length ts) then limited_term at (term.Add ts) (total kinds) else fail WrongCount at

-- the conjunction, or the disjunction, of at least two formulas
unfoldable pub connective_phrase : ℕ → Bool → List Formula → Judged Phrase
connective_phrase at both ps = if nat_le 2 (length ps) then Ok (Truth (if both then formula.And ps else formula.Or ps)) else fail WrongCount at

-- the one item that a tree wants
unfoldable pub only : {A : Type 0} → ℕ → List A → Judged A
only at (x ∷ []) = Ok x
only at xs = fail WrongCount at

-- the two items that a tree wants
unfoldable pub both : {A : Type 0} → ℕ → List A → Judged (A × A)
both at (x ∷ y ∷ []) = Ok (x, y)
both at xs = fail WrongCount at

-- two terms under a comparison
abbrev pub comparison_by : ℕ → Option Comparison → Term → Term → Judged Phrase
comparison_by at None a b = fail WrongKind at
comparison_by at (Some c) a b = Ok (Truth (formula.Compare c a b))

-- a comparison of two terms
unfoldable pub comparison_phrase : ℕ → Head → List Term → List Kind → Judged Phrase
comparison_phrase at head ts kinds =
    and_then (both at kinds) (λ k. and_then (both at ts) (λ t. comparison_by at (comparison_of head k.0 k.1) t.0 t.1))

-- the sum of a term over the members of an index that meet a formula
unfoldable pub sum_phrase : ℕ → List ℕ → List Formula → List Term → List Kind → Judged Phrase
sum_phrase at is ps ts kinds =
    and_then (only at is) (λ i. and_then (only at ps) (λ p. and_then (only at ts) (λ t. and_then (only at kinds) (λ k.
    limited_term at (term.Sum i p t) (range_of_sum k)))))

-- a negation
unfoldable pub negation_phrase : ℕ → List Formula → Judged Phrase
negation_phrase at ps = and_then (only at ps) (λ p. Ok (Truth (formula.Not p)))

-- an implication
unfoldable pub implication_phrase : ℕ → List Formula → Judged Phrase
implication_phrase at ps = and_then (both at ps) (λ p. Ok (Truth (formula.Implies p.0 p.1)))

-- what binders stand before
unfoldable pub binder_body : ℕ → List ℕ → List Formula → Judged Formula
binder_body at [] ps = fail WrongCount at
binder_body at (i ∷ is) ps = only at ps

-- a tree that is no name, by its head, the indexes of the variables that it binds, and what its parts say
unfoldable pub operator_phrase : ℕ → Head → List ℕ → Phrases → Judged Phrase
operator_phrase at (Number n) is phrases = limited_term at (term.Number n) (Some (one_number n))
operator_phrase at Add is phrases = addition_phrase at phrases.terms phrases.kinds
operator_phrase at Sub is phrases = limited_term at (term.Sub phrases.terms) (two difference_range phrases.kinds)
operator_phrase at Mul is phrases = limited_term at (term.Mul phrases.terms) (two product_range phrases.kinds)
operator_phrase at Min is phrases = limited_term at (term.Min phrases.terms) (two least_range phrases.kinds)
operator_phrase at Max is phrases = limited_term at (term.Max phrases.terms) (two greatest_range phrases.kinds)
operator_phrase at Sum is phrases = sum_phrase at is phrases.formulas phrases.terms phrases.kinds
operator_phrase at And is phrases = connective_phrase at true phrases.formulas
operator_phrase at Or is phrases = connective_phrase at false phrases.formulas
operator_phrase at Not is phrases = negation_phrase at phrases.formulas
operator_phrase at Implies is phrases = implication_phrase at phrases.formulas
operator_phrase at Forall is phrases = and_then (binder_body at is phrases.formulas) (λ q. Ok (Truth (formula.Forall is q)))
operator_phrase at Exists is phrases = and_then (binder_body at is phrases.formulas) (λ q. Ok (Truth (formula.Exists is q)))
operator_phrase at head is phrases = comparison_phrase at head phrases.terms phrases.kinds

module _ (d : Declarations) where
  -- what a name says before these arguments, by what it stands for
  unfoldable pub reference_phrase : ℕ → Reference → List Term → List Kind → Judged Phrase
  reference_phrase at (Variable k i) ts kinds = Ok (Value (term.Var k) (Member i))
  reference_phrase at (Given f) ts kinds = access_phrase at (term.Given f ts) (slice_get d.givens f) kinds
  reference_phrase at (Choice x) ts kinds = access_phrase at (term.Choice x ts) (slice_get d.choices x) kinds

  -- the same, by the variable and the declaration of that name
  unfoldable pub reference_of : ℕ → ℕ → Option (ℕ × ℕ) → Option Entry → List Term → List Kind → Judged Phrase
  reference_of at word_at o found ts kinds = and_then (reference word_at true o found) (λ r. reference_phrase at r ts kinds)

  -- a tree by its head, where its parts stand, and what they say; the number of parts is that of the head
  unfoldable pub tree_phrase : ℕ → Head → Context → Phrases → Judged Phrase
  tree_phrase at (Use word) p phrases = reference_of at word.at (variable p.scope word.name) (entry_of d.names word.name) phrases.terms phrases.kinds
  tree_phrase at head p phrases = operator_phrase at head p.indexes phrases

module _ (d : Declarations) (own : List ℕ) where
  -- a tree, by what each of its parts says
  abbrev pub phrase_step : Expr-F Judgement → Judgement
  phrase_step e scope way =
      and_then (context_of d.names own e.head e.binders (length e.parts == 0) scope way)
      (λ p. and_then (phrases_at p.scope p.way e.parts) (tree_phrase d e.at e.head p))

  -- what an expression of a form with this name says
  unfoldable pub phrase_of : Expr → Judgement
  phrase_of = fold-Expr Judgement phrase_step
