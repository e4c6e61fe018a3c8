-- Trees that are no forms, and trees that are the forms of one ast alone.
use Rattle.std.specs.Prelude.{◌≡◌, [], ◌∷◌, codes}
use Rattle.kts_text.specs.Forest.{Forest, none, atom, list}
use Rattle.kts_syntax.specs.FormsOf.{FormsOf}
use Rattle.kts_syntax.specs.Tops.{Ast}
use Rattle.kts_syntax.specs.declared.form.Form.TheVariants.{Manifest}

-- no ast has these trees
abbrev pub Refused : Forest → Type 0
Refused t = (ast : Ast) → FormsOf t ast → ⊥

-- these trees have this ast alone
abbrev pub IsOnly : Forest → Ast → Type 0
IsOnly t ast = FormsOf t ast × ((other : Ast) → FormsOf t other → other ≡ ast)

-- `(spec s)`, and what follows it
abbrev pub after_spec : Forest → Forest
after_spec t = list 0 8 (atom 1 (codes "spec") (atom 6 (codes "s") none)) t

-- `(formula F P)`, of which this is `P`
abbrev pub of_formula : Forest → Forest
of_formula p = after_spec (list 8 90 (atom 9 (codes "formula") (atom 17 (codes "F") p)) none)

-- `(index)`
abbrev pub index_without_a_name : Forest
index_without_a_name = after_spec (list 8 15 (atom 9 (codes "index") none) none)

-- `(index I J)`
abbrev pub index_of_two_names : Forest
index_of_two_names = after_spec (list 8 19 (atom 9 (codes "index") (atom 15 (codes "I") (atom 17 (codes "J") none))) none)

-- `(manifest int)`
abbrev pub manifest_of_a_reserved_word : Forest
manifest_of_a_reserved_word = after_spec (list 8 22 (atom 9 (codes "manifest") (atom 18 (codes "int") none)) none)

-- `(manifest x)` and `(manifest y)`
abbrev pub two_manifests : Forest
two_manifests = after_spec (list 8 20 (atom 9 (codes "manifest") (atom 18 (codes "x") none)) (list 20 32 (atom 21 (codes "manifest") (atom 30 (codes "y") none)) none))

-- both, in their order
abbrev pub both_manifests : Ast
both_manifests = record { name = codes "s"; forms = Manifest (record { name = codes "x"; at = 18 }) ∷ Manifest (record { name = codes "y"; at = 30 }) ∷ [] }

-- `(formula F (< 1 02))`
abbrev pub number_after_a_zero : Forest
number_after_a_zero = of_formula (list 19 27 (atom 20 (codes "<") (atom 22 (codes "1") (atom 24 (codes "02") none))) none)

-- `(formula F (forall (r I)))`
abbrev pub quantifier_without_a_formula : Forest
quantifier_without_a_formula = of_formula (list 19 33 (atom 20 (codes "forall") (list 27 32 (atom 28 (codes "r") (atom 30 (codes "I") none)) none)) none)
