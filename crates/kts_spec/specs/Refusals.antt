-- Declarations and formulas that no specification may have, beside near ones that it may.
use Rattle.std.specs.Prelude.{◌≡◌, refl, true, false, ℕ, pos, List, [], ◌∷◌, ◌+◌, ◌/◌, ◌%◌, map, Bool, Option, codes, replicate}
use Rattle.std.specs.List.{range_with_len}
use Rattle.kts_base.specs.Limits.{most_type_end}
use Rattle.kts_spec.specs.declared.declarations.ValueType.{ValueType}
use Rattle.kts_spec.specs.declared.declarations.ValueType.TheVariants.{Int, Member}
use Rattle.kts_spec.specs.declared.declarations.Decl.{Decl}
use Rattle.kts_spec.specs.declared.declarations.Decl.TheVariants.{Index, Given, Choose, Manifest}
use Rattle.kts_spec.specs.declared.declarations.Family.{Family}
use Rattle.kts_spec.specs.declared.schema.Schema.{Schema}
use Rattle.kts_spec.specs.declared.tree.Comparison.TheVariants.{Le, Eq, Same}
use Rattle.kts_spec.specs.declared.tree.Term.{Term}
use Rattle.kts_spec.specs.declared.tree.Term.TheVariants as term
use Rattle.kts_spec.specs.declared.tree.Formula.{Formula}
use Rattle.kts_spec.specs.declared.tree.Formula.TheVariants as formula
use Rattle.kts_spec.specs.Examples.{family, number, below, choice, var, no_choice}
use Rattle.kts_spec.specs.Schemas.{is_schema}
use Rattle.kts_spec.specs.Typing.{Kind, kind_of}
use Rattle.kts_spec.specs.Specifications.{is_formula, is_spec}
use Rattle.kts_spec.specs.Sizes.{keeps_limits}

-- the declarations (index I) (choose x (I) T), in this order and under these names
abbrev pub IsDeclared : List Decl → List ℕ → List ℕ → Type 0
IsDeclared decls index choice = is_schema (codes "s") decls (index ∷ []) [] (family choice (0 ∷ []) (Member 0) ∷ []) [] ≡ true

abbrev pub IsNotDeclared : List Decl → List ℕ → List ℕ → Type 0
IsNotDeclared decls index choice = is_schema (codes "s") decls (index ∷ []) [] (family choice (0 ∷ []) (Member 0) ∷ []) [] ≡ false

-- the choice (choose x ARGS TYPE) over (index I), with (manifest x)
abbrev pub IsManifest : List ℕ → ValueType → Type 0
IsManifest args kind = is_schema (codes "s") (Index 0 ∷ Choose 0 ∷ Manifest 0 ∷ []) (codes "I" ∷ []) [] (family (codes "x") args kind ∷ []) [] ≡ true

-- the same may be declared without the manifest alone
pub record IsNoManifest (args : List ℕ) (kind : ValueType) : Type 0 where
  pub without : is_schema (codes "s") (Index 0 ∷ Choose 0 ∷ []) (codes "I" ∷ []) [] (family (codes "x") args kind ∷ []) [] ≡ true
  pub refused : is_schema (codes "s") (Index 0 ∷ Choose 0 ∷ Manifest 0 ∷ []) (codes "I" ∷ []) [] (family (codes "x") args kind ∷ []) [] ≡ false

-- (index I) (choose x ARGS (int 0 1)) is refused
abbrev pub IsNotDeclaredOver : List ℕ → Type 0
IsNotDeclaredOver args = is_schema (codes "s") (Index 0 ∷ Choose 0 ∷ []) (codes "I" ∷ []) [] (family (codes "x") args (below 1) ∷ []) [] ≡ false

-- the only choice is a whole number between these ends
abbrev pub IsNotTyped : ℕ → ℕ → Type 0
IsNotTyped lo hi = is_schema (codes "s") (Choose 0 ∷ []) [] [] (family (codes "x") [] (Int (pos lo) (pos hi)) ∷ []) [] ≡ false

-- (index I) (choose x (I) I) (choose n () (int 0 1000000))
pub mixed_is_schema : is_schema (codes "m") (Index 0 ∷ Choose 0 ∷ Choose 1 ∷ []) (codes "I" ∷ []) [] (family (codes "x") (0 ∷ []) (Member 0) ∷ family (codes "n") [] (below most_type_end) ∷ []) [] ≡ true
unfolding is_schema
mixed_is_schema = refl

abbrev pub mixed : Schema
mixed = record {
  name = codes "m";
  decls = Index 0 ∷ Choose 0 ∷ Choose 1 ∷ [];
  indexes = codes "I" ∷ [];
  givens = [];
  choices = family (codes "x") (0 ∷ []) (Member 0) ∷ family (codes "n") [] (below most_type_end) ∷ [];
  tasks = [];
  is_schema = mixed_is_schema;
}

abbrev pub IsAccepted : Formula → Type 0
IsAccepted p = is_formula mixed p ≡ true

abbrev pub IsRefused : Formula → Type 0
IsRefused p = is_formula mixed p ≡ false

abbrev pub n : Term
n = choice 1 []

abbrev pub times : Term → Term → Term
times a b = term.Mul (a ∷ b ∷ [])

-- (<= (* (* n n) t) 5)
abbrev pub product_with : Term → Formula
product_with t = formula.Compare Le (times (times n n) t) (number 5)

-- (forall (i I) ..) over as many variables, of (= (x i) (x i))
abbrev pub over_variables : ℕ → Formula
over_variables k = formula.Forall (replicate k 0) (formula.Compare Same (choice 0 (var 0 ∷ [])) (choice 0 (var 0 ∷ [])))

-- (forall (i I) p)
abbrev pub for_each : Formula → Formula
for_each p = formula.Forall (0 ∷ []) p

-- (forall (i I) (= (x i) 3))
abbrev pub member_as_number : Formula
member_as_number = formula.Forall (0 ∷ []) (formula.Compare Eq (choice 0 (var 0 ∷ [])) (number 3))

-- (<= 0 (+ ..))
abbrev pub sum_of_parts : List Term → Formula
sum_of_parts parts = formula.Compare Le (number 0) (term.Add parts)

-- (= (x n) (x n))
abbrev pub number_as_member : Formula
number_as_member = formula.Compare Same (choice 0 (n ∷ [])) (choice 0 (n ∷ []))

-- ---- limits

-- so many names of two letters: `aa`, `ba` and so on
abbrev pub two_letters : ℕ → List (List ℕ)
two_letters n = map (λ k. (97 + k % 26) ∷ (97 + k / 26) ∷ []) (range_with_len 0 n)

-- so many whole numbers without arguments, under these names
abbrev pub numbers_of : ℕ → List Family
numbers_of n = map (λ name. family name [] (below 1)) (two_letters n)

-- so many indexes, givens or choices alone
abbrev pub has_indexes : ℕ → Bool
has_indexes n = is_schema (codes "s") (map (λ k. Index k) (range_with_len 0 n)) (two_letters n) [] [] []

abbrev pub has_givens : ℕ → Bool
has_givens n = is_schema (codes "s") (map (λ k. Given k) (range_with_len 0 n)) [] (numbers_of n) [] []

abbrev pub has_choices : ℕ → Bool
has_choices n = is_schema (codes "s") (map (λ k. Choose k) (range_with_len 0 n)) [] [] (numbers_of n) []

abbrev pub always : Formula
always = formula.Compare Le (number 0) (number 0)

-- so many formulas (<= 0 0), and nothing declared
abbrev pub has_formulas : ℕ → Bool
has_formulas n = is_spec no_choice (map (λ name. (name, always)) (two_letters n))

-- whether so many trees, so deep and with so many addends keep the limits
abbrev pub is_small : ℕ → ℕ → ℕ → Bool
is_small trees depth widest = keeps_limits (record { trees = trees; depth = depth; addends = 0; widest = widest })

-- (<= (+ n 5) (- (* n n) (- 3 n)))
abbrev pub sum_below_difference : Formula
sum_below_difference =
    formula.Compare Le (term.Add (n ∷ number 5 ∷ [])) (term.Sub (times n n ∷ term.Sub (number 3 ∷ n ∷ []) ∷ []))

-- the kind of a `+` of so many parts `n`
abbrev pub kind_of_sum : ℕ → Option Kind
kind_of_sum parts = kind_of mixed (term.Add (replicate parts n)) []
