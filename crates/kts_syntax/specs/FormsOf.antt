-- The grammar of forms: which trees are those of an ast, one rule for each way to write a thing, apart from any reader.
-- A rule says of some trees what the first of them is, and which trees follow it. Words, types, binders, terms and formulas have the place of their first byte.
use Rattle.std.specs.Prelude.{◌≡◌, ◌≢◌, ℕ, ◌≤◌, ℤ, nat_abs, List, [], ◌∷◌, ◌++◌, length, count_by, codes, Contains}
use Rattle.std.specs.Fmt.{signed_decimal}
use Rattle.std.specs.List.{AllByRecursion}
use Rattle.kts_base.specs.Limits.{most_name_bytes, most_number, most_indexes, most_givens, most_choices, most_formulas, most_arguments, most_written_trees}
use Rattle.kts_text.specs.Forest.{Forest, none, atom, list}
use Rattle.kts_syntax.specs.Sizes.{trees}
use Rattle.kts_syntax.specs.Tops.{Ast, is_index, is_given, is_choice, is_formula}
use Rattle.kts_syntax.specs.Words.{reserved}
use Rattle.kts_syntax.specs.declared.expr.Expr.{Expr, roll-Expr}
use Rattle.kts_syntax.specs.declared.form.Form.{Form}
use Rattle.kts_syntax.specs.declared.form.Form.TheVariants.{Index, Given, Choose, Formula, Manifest}
use Rattle.kts_syntax.specs.declared.form.Shape.{Shape}
use Rattle.kts_syntax.specs.declared.form.Shape.TheVariants.{Int, Named}
use Rattle.kts_syntax.specs.declared.head.Head.{Head}
use Rattle.kts_syntax.specs.declared.head.Head.TheVariants.{Add, Sub, Mul, Min, Max, Sum, Le, Lt, Ge, Gt, Eq, Ne, And, Or, Not, Implies, Forall, Exists, Number, Use}
use Rattle.kts_syntax.specs.declared.word.Word.{Word}

-- ---- names and numbers

unfoldable pub letters : List ℕ
letters = codes "abcdefghijklmnopqrstuvwxyzABCDEFGHIJKLMNOPQRSTUVWXYZ"

-- the characters of names
unfoldable pub name_characters : List ℕ
name_characters = letters ++ codes "0123456789_-"

-- a name: a letter first, then any characters of names, at most 40 in all, and no reserved word
pub data IsName : List ℕ → Type 0 where
  name : {first : ℕ} {others : List ℕ}
      → Contains letters first → AllByRecursion (Contains name_characters) others → length (first ∷ others) ≤ most_name_bytes → AllByRecursion (λ word. word ≢ first ∷ others) reserved
      → IsName (first ∷ others)

-- the number in decimal, with `-` before it where it is less than 0; it is at most 10^15 away from 0
pub record IsSignedNumber (bytes : List ℕ) (n : ℤ) : Type 0 where
  pub written : bytes ≡ signed_decimal n
  pub small : nat_abs n ≤ most_number

-- `N`
pub data WordOf : Forest → Word → Forest → Type 0 where
  name : {at : ℕ} {bytes : List ℕ} {after : Forest} → IsName bytes → WordOf (atom at bytes after) (record { name = bytes; at = at }) after

-- a number
pub data NumberOf : Forest → ℤ → Forest → Type 0 where
  number : {at : ℕ} {bytes : List ℕ} {n : ℤ} {after : Forest} → IsSignedNumber bytes n → NumberOf (atom at bytes after) n after

-- all the trees are names
pub data WordsOf : Forest → List Word → Type 0 where
  no_word : WordsOf none []
  one_word : {trees more : Forest} {word : Word} {words : List Word} → WordOf trees word more → WordsOf more words → WordsOf trees (word ∷ words)

-- ---- binders, terms and formulas

-- a variable, its index, and where they are bound
abbrev pub Binding : Type 0
Binding = Word × Word × ℕ

-- an expression at a place, with its head, its binders and its parts
abbrev pub expr_at : ℕ → Head → List Binding → List Expr → Expr
expr_at at head binders parts = roll-Expr (record { at = at; head = head; binders = binders; parts = parts })

-- `(N N)`
pub data BinderOf : Forest → Binding → Forest → Type 0 where
  binder : {start end : ℕ} {inside more after : Forest} {variable index : Word}
      → WordOf inside variable more → WordOf more index none → BinderOf (list start end inside after) (variable, index, start) after

-- the first of the trees are these binders
pub data BindersOf : Forest → List Binding → Forest → Type 0 where
  no_binder : {trees : Forest} → BindersOf trees [] trees
  one_binder : {trees more after : Forest} {b : Binding} {bs : List Binding} → BinderOf trees b more → BindersOf more bs after → BindersOf trees (b ∷ bs) after

-- operations on two terms
pub data IsOperation : List ℕ → Head → Type 0 where
  difference : IsOperation (codes "-") Sub
  product : IsOperation (codes "*") Mul
  lesser : IsOperation (codes "min") Min
  greater : IsOperation (codes "max") Max

-- comparisons of two terms
pub data IsComparison : List ℕ → Head → Type 0 where
  at_most : IsComparison (codes "<=") Le
  less : IsComparison (codes "<") Lt
  at_least : IsComparison (codes ">=") Ge
  more : IsComparison (codes ">") Gt
  equal : IsComparison (codes "=") Eq
  unequal : IsComparison (codes "/=") Ne

-- connectives of two formulas or more
pub data IsConnective : List ℕ → Head → Type 0 where
  conjunction : IsConnective (codes "and") And
  disjunction : IsConnective (codes "or") Or

pub data IsQuantifier : List ℕ → Head → Type 0 where
  for_all : IsQuantifier (codes "forall") Forall
  for_some : IsQuantifier (codes "exists") Exists

mutual
  -- a term
  pub data TermOf : Forest → Expr → Forest → Type 0 where
    -- a number
    number : {at : ℕ} {bytes : List ℕ} {n : ℤ} {after : Forest}
        → IsSignedNumber bytes n → TermOf (atom at bytes after) (expr_at at (Number n) [] []) after
    -- `N`
    name : {at : ℕ} {bytes : List ℕ} {after : Forest}
        → IsName bytes → TermOf (atom at bytes after) (expr_at at (Use (record { name = bytes; at = at })) [] []) after
    -- `(N t)` and `(N t t)`
    with_arguments : {start end at : ℕ} {bytes : List ℕ} {parts after : Forest} {args : List Expr}
        → IsName bytes → TermsOf parts args → 1 ≤ length args → length args ≤ most_arguments
        → TermOf (list start end (atom at bytes parts) after) (expr_at start (Use (record { name = bytes; at = at })) [] args) after
    -- `(+ t t ..)`
    sum : {start end at : ℕ} {parts after : Forest} {terms : List Expr}
        → TermsOf parts terms → 2 ≤ length terms
        → TermOf (list start end (atom at (codes "+") parts) after) (expr_at start Add [] terms) after
    -- `(- t t)`, `(* t t)`, `(min t t)` and `(max t t)`
    operation : {start end at : ℕ} {word : List ℕ} {head : Head} {parts after : Forest} {a b : Expr}
        → IsOperation word head → TermsOf parts (a ∷ b ∷ [])
        → TermOf (list start end (atom at word parts) after) (expr_at start head [] (a ∷ b ∷ [])) after
    -- `(sum B P t)`
    sum_over : {start end at : ℕ} {parts more last after : Forest} {b : Binding} {p t : Expr}
        → BinderOf parts b more → FormulaOf more p last → TermOf last t none
        → TermOf (list start end (atom at (codes "sum") parts) after) (expr_at start Sum (b ∷ []) (p ∷ t ∷ [])) after

  -- all the trees are terms
  pub data TermsOf : Forest → List Expr → Type 0 where
    no_term : TermsOf none []
    one_term : {trees more : Forest} {term : Expr} {terms : List Expr} → TermOf trees term more → TermsOf more terms → TermsOf trees (term ∷ terms)

  -- a formula
  pub data FormulaOf : Forest → Expr → Forest → Type 0 where
    -- `(<= t t)`, `(< t t)`, `(>= t t)`, `(> t t)`, `(= t t)` and `(/= t t)`
    comparison : {start end at : ℕ} {word : List ℕ} {head : Head} {parts after : Forest} {a b : Expr}
        → IsComparison word head → TermsOf parts (a ∷ b ∷ [])
        → FormulaOf (list start end (atom at word parts) after) (expr_at start head [] (a ∷ b ∷ [])) after
    -- `(and P P ..)` and `(or P P ..)`
    connective : {start end at : ℕ} {word : List ℕ} {head : Head} {parts after : Forest} {formulas : List Expr}
        → IsConnective word head → FormulasOf parts formulas → 2 ≤ length formulas
        → FormulaOf (list start end (atom at word parts) after) (expr_at start head [] formulas) after
    -- `(not P)`
    negation : {start end at : ℕ} {parts after : Forest} {p : Expr}
        → FormulaOf parts p none
        → FormulaOf (list start end (atom at (codes "not") parts) after) (expr_at start Not [] (p ∷ [])) after
    -- `(=> P P)`
    implication : {start end at : ℕ} {parts more after : Forest} {p q : Expr}
        → FormulaOf parts p more → FormulaOf more q none
        → FormulaOf (list start end (atom at (codes "=>") parts) after) (expr_at start Implies [] (p ∷ q ∷ [])) after
    -- `(forall B .. P)` and `(exists B .. P)`
    quantifier : {start end at : ℕ} {word : List ℕ} {head : Head} {parts last after : Forest} {b : Binding} {bs : List Binding} {p : Expr}
        → IsQuantifier word head → BindersOf parts (b ∷ bs) last → FormulaOf last p none
        → FormulaOf (list start end (atom at word parts) after) (expr_at start head (b ∷ bs) (p ∷ [])) after

  -- all the trees are formulas
  pub data FormulasOf : Forest → List Expr → Type 0 where
    no_formula : FormulasOf none []
    one_formula : {trees more : Forest} {formula : Expr} {formulas : List Expr} → FormulaOf trees formula more → FormulasOf more formulas → FormulasOf trees (formula ∷ formulas)

-- ---- forms

-- `A`: a list of no more than two names
pub data ArgumentsOf : Forest → List Word → Forest → Type 0 where
  arguments : {start end : ℕ} {inside after : Forest} {words : List Word}
      → WordsOf inside words → length words ≤ most_arguments → ArgumentsOf (list start end inside after) words after

-- `T`
pub data TypeOf : Forest → Shape → Forest → Type 0 where
  -- `(int L H)`
  int : {start end at : ℕ} {ends more after : Forest} {low high : ℤ}
      → NumberOf ends low more → NumberOf more high none → TypeOf (list start end (atom at (codes "int") ends) after) (Int low high start) after
  -- `N`
  named : {trees after : Forest} {word : Word} → WordOf trees word after → TypeOf trees (Named word) after

-- a form after the first
pub data FormOf : Forest → Form → Forest → Type 0 where
  -- `(index N)`
  index : {start end at : ℕ} {parts after : Forest} {word : Word}
      → WordOf parts word none
      → FormOf (list start end (atom at (codes "index") parts) after) (Index word) after
  -- `(given N A T)`
  given : {start end at : ℕ} {parts more last after : Forest} {word : Word} {args : List Word} {shape : Shape}
      → WordOf parts word more → ArgumentsOf more args last → TypeOf last shape none
      → FormOf (list start end (atom at (codes "given") parts) after) (Given word args shape) after
  -- `(choose N A T)`
  choose : {start end at : ℕ} {parts more last after : Forest} {word : Word} {args : List Word} {shape : Shape}
      → WordOf parts word more → ArgumentsOf more args last → TypeOf last shape none
      → FormOf (list start end (atom at (codes "choose") parts) after) (Choose word args shape) after
  -- `(formula N P)`, where `P` has a thousand terms and formulas at most
  formula : {start end at : ℕ} {parts more after : Forest} {word : Word} {p : Expr}
      → WordOf parts word more → FormulaOf more p none → trees p ≤ most_written_trees
      → FormOf (list start end (atom at (codes "formula") parts) after) (Formula word p) after
  -- `(manifest N)`
  manifest : {start end at : ℕ} {parts after : Forest} {word : Word}
      → WordOf parts word none
      → FormOf (list start end (atom at (codes "manifest") parts) after) (Manifest word) after

-- all the trees are such forms
pub data LaterFormsOf : Forest → List Form → Type 0 where
  no_form : LaterFormsOf none []
  one_form : {trees more : Forest} {form : Form} {forms : List Form} → FormOf trees form more → LaterFormsOf more forms → LaterFormsOf trees (form ∷ forms)

-- no kind of form is there too often
pub record FewForms (forms : List Form) : Type 0 where
  pub indexes : count_by is_index forms ≤ most_indexes
  pub givens : count_by is_given forms ≤ most_givens
  pub choices : count_by is_choice forms ≤ most_choices
  pub formulas : count_by is_formula forms ≤ most_formulas

-- the trees of an ast: `(spec N)`, and the forms after it
pub data FormsOf : Forest → Ast → Type 0 where
  forms : {start end at : ℕ} {parts after : Forest} {word : Word} {forms : List Form}
      → WordOf parts word none → LaterFormsOf after forms → FewForms forms
      → FormsOf (list start end (atom at (codes "spec") parts) after) (record { name = word.name; forms = forms })
