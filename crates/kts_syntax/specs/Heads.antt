-- What a list in the role of a term or a formula begins with, and the parts that follow.
use Rattle.std.specs.Prelude.{ℕ, ◌==◌, nat_le, Bool, true, false, List, [], ◌∷◌, Option, None, option_map, codes, find}
use Rattle.kts_base.specs.Limits.{most_arguments}
use Rattle.kts_base.specs.Names.{is_between}
use Rattle.kts_syntax.specs.Words.{is_text, word_of}
use Rattle.kts_syntax.specs.declared.head.Head.{Head}
use Rattle.kts_syntax.specs.declared.head.Head.TheVariants.{Add, Sub, Mul, Min, Max, Sum, Le, Lt, Ge, Gt, Eq, Ne, And, Or, Not, Implies, Forall, Exists, Number, Use}
use Rattle.kts_syntax.specs.declared.layout.Layout.{Layout}
use Rattle.kts_syntax.specs.declared.layout.Layout.TheVariants.{Terms, Formulas, Summed, Filtered, Quantified}
use Rattle.kts_syntax.specs.declared.layout.Role.{Role}
use Rattle.kts_syntax.specs.declared.layout.Role.TheVariants.{Binder, Term, Formula}

-- the word of an operation; numbers and names have none
unfoldable pub keyword : Head → List ℕ
keyword Add = codes "+"
keyword Sub = codes "-"
keyword Mul = codes "*"
keyword Min = codes "min"
keyword Max = codes "max"
keyword Sum = codes "sum"
keyword Le = codes "<="
keyword Lt = codes "<"
keyword Ge = codes ">="
keyword Gt = codes ">"
keyword Eq = codes "="
keyword Ne = codes "/="
keyword And = codes "and"
keyword Or = codes "or"
keyword Not = codes "not"
keyword Implies = codes "=>"
keyword Forall = codes "forall"
keyword Exists = codes "exists"
keyword (Number n) = []
keyword (Use word) = []

-- the operations of a role
abbrev pub operations : Role → List Head
operations Binder = []
operations Term = Add ∷ Sub ∷ Mul ∷ Min ∷ Max ∷ Sum ∷ []
operations Formula = Le ∷ Lt ∷ Ge ∷ Gt ∷ Eq ∷ Ne ∷ And ∷ Or ∷ Not ∷ Implies ∷ Forall ∷ Exists ∷ []

-- the operation with this word
unfoldable pub operation_of : Role → List ℕ → Option Head
operation_of role word = find (λ head. is_text (keyword head) word) (operations role)

-- a name that is used
abbrev pub use_of : ℕ → List ℕ → Option Head
use_of at word = option_map (λ name. Use (record { name = name; at = at })) (word_of word)

-- a list in a term's place may begin with a name
abbrev pub or_use : Role → ℕ → List ℕ → Option Head → Option Head
or_use Term at word None = use_of at word
or_use role at word found = found

-- the head that a word at a place is, in a list of this role
unfoldable pub head_of : Role → ℕ → List ℕ → Option Head
head_of role at word = or_use role at word (operation_of role word)

-- whether a list with this head may have so many parts after it
unfoldable pub has_parts : Head → ℕ → Bool
has_parts Add n = nat_le 2 n
has_parts Sub n = n == 2
has_parts Mul n = n == 2
has_parts Min n = n == 2
has_parts Max n = n == 2
has_parts Sum n = n == 3
has_parts Le n = n == 2
has_parts Lt n = n == 2
has_parts Ge n = n == 2
has_parts Gt n = n == 2
has_parts Eq n = n == 2
has_parts Ne n = n == 2
has_parts And n = nat_le 2 n
has_parts Or n = nat_le 2 n
has_parts Not n = n == 1
has_parts Implies n = n == 2
has_parts Forall n = nat_le 2 n
has_parts Exists n = nat_le 2 n
has_parts (Number value) n = false
has_parts (Use word) n = is_between 1 most_arguments n

-- what the parts of a list with this head are
unfoldable pub layout_of : Head → Layout
layout_of Sum = Summed
layout_of And = Formulas
layout_of Or = Formulas
layout_of Not = Formulas
layout_of Implies = Formulas
layout_of Forall = Quantified
layout_of Exists = Quantified
layout_of _ = Terms

-- the role of the first part, where it is the last or not
unfoldable pub role_in : Layout → Bool → Role
role_in Terms last = Term
role_in Formulas last = Formula
role_in Summed last = Binder
role_in Filtered last = Formula
role_in Quantified true = Formula
role_in Quantified false = Binder

-- what the parts after the first are
unfoldable pub layout_after : Layout → Layout
layout_after Terms = Terms
layout_after Formulas = Formulas
layout_after Summed = Filtered
layout_after Filtered = Terms
layout_after Quantified = Quantified
