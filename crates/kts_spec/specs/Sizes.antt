-- How large terms and formulas are, and which formulas keep the limits.
use Rattle.std.specs.Prelude.{ℕ, suc, ◌+◌, max, List, length, fold, Bool, true, ◌&&◌, nat_le}
use Rattle.std.specs.List.{list_all}
use Rattle.kts_base.specs.Limits.{most_trees, most_depth, most_addends, most_prefix}
use Rattle.kts_spec.specs.declared.tree.Comparison.{Comparison}
use Rattle.kts_spec.specs.declared.tree.Comparison.TheVariants.{Same, Other}
use Rattle.kts_spec.specs.declared.tree.Term.{Term}
use Rattle.kts_spec.specs.declared.tree.Formula.{Formula}
use Rattle.kts_spec.specs.declared.tree.Formula.TheOpen.{Formula-F, Compare, And, Or, Not, Implies, Forall, Exists, Term-F, Number, Var, Given, Choice, Add, Sub, Mul, Min, Max, Sum}
use Rattle.kts_spec.specs.declared.tree.Formula.TheFolds.{fold-Formula, fold-Term}

-- the number of term and formula trees, how many of them stand in one another at most,
-- the number of addends of the tree as a sum, and the most addends of the two sides of a comparison in it
pub record Size : Type 0 where
  pub trees : ℕ
  pub depth : ℕ
  pub addends : ℕ
  pub widest : ℕ

-- the size of a tree with no tree in it, and of trees side by side
abbrev pub no_trees : Size
no_trees = record { trees = 0; depth = 0; addends = 0; widest = 0 }

abbrev pub beside : Size → Size → Size
beside a b = record {
  trees = a.trees + b.trees;
  depth = max a.depth b.depth;
  addends = a.addends + b.addends;
  widest = max a.widest b.widest;
}

-- several trees side by side
abbrev pub all_beside : List Size → Size
all_beside = fold beside no_trees

-- a tree over these, which as a sum is one addend
abbrev pub tree_over : Size → Size
tree_over inner = record { trees = suc inner.trees; depth = suc inner.depth; addends = 1; widest = inner.widest }

-- a tree over these whose addends are theirs
abbrev pub sum_tree_over : Size → Size
sum_tree_over inner = record (tree_over inner) { addends = inner.addends }

-- a comparison of whole numbers brings both sides into one sum
abbrev pub comparison_over : Comparison → Size → Size
comparison_over Same inner = tree_over inner
comparison_over Other inner = tree_over inner
comparison_over c inner = record (tree_over inner) { widest = max inner.widest inner.addends }

abbrev pub term_size : Term-F Size Size → Size
term_size (Number n) = tree_over no_trees
term_size (Var k) = tree_over no_trees
term_size (Given f args) = tree_over (all_beside args)
term_size (Choice x args) = tree_over (all_beside args)
term_size (Add parts) = sum_tree_over (all_beside parts)
term_size (Sub parts) = sum_tree_over (all_beside parts)
term_size (Mul parts) = tree_over (all_beside parts)
term_size (Min parts) = tree_over (all_beside parts)
term_size (Max parts) = tree_over (all_beside parts)
term_size (Sum i p a) = tree_over (beside p a)

abbrev pub formula_size : Formula-F Size Size → Size
formula_size (Compare c a b) = comparison_over c (beside a b)
formula_size (And parts) = tree_over (all_beside parts)
formula_size (Or parts) = tree_over (all_beside parts)
formula_size (Not p) = tree_over p
formula_size (Implies p q) = tree_over (beside p q)
formula_size (Forall indexes p) = tree_over p
formula_size (Exists indexes p) = tree_over p

-- the size of a term, and of a formula
unfoldable pub size_of_term : Term → Size
size_of_term = fold-Term Size Size formula_size term_size

unfoldable pub size_of_formula : Formula → Size
size_of_formula = fold-Formula Size Size formula_size term_size

-- whether a formula of this size keeps the limits
abbrev pub keeps_limits : Size → Bool
keeps_limits s = nat_le s.trees most_trees && nat_le s.depth most_depth && nat_le s.widest most_addends

abbrev pub term_prefix : Term-F (ℕ → Bool) (Unit {0}) → Unit {0}
term_prefix t = tt

-- whether the variables on the way through `forall` and `and`, with those before, are few enough for a prefix
abbrev pub formula_prefix : Formula-F (ℕ → Bool) (Unit {0}) → ℕ → Bool
formula_prefix (Forall indexes p) before = nat_le (before + length indexes) most_prefix && p (before + length indexes)
formula_prefix (And parts) before = list_all (λ p. p before) parts
formula_prefix other before = true

unfoldable pub has_short_prefixes : Formula → ℕ → Bool
has_short_prefixes = fold-Formula (ℕ → Bool) (Unit {0}) formula_prefix term_prefix
