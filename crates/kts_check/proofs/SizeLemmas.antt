-- How large the trees of a specification are that an expression says.
use Rattle.std.proofs.Common.{◌≡◌, ℕ, suc, ◌+◌, ◌≤◌, max, List, [], ◌∷◌, fold, arith}
use Rattle.kts_spec.specs.Sizes.{Size, no_trees, beside, all_beside, tree_over, sum_tree_over, comparison_over}
use Rattle.kts_spec.specs.declared.tree.Comparison.{Comparison}
use Rattle.kts_spec.specs.declared.tree.Comparison.TheVariants.{Le, Lt, Ge, Gt, Eq, Ne, Same, Other}

-- at most n trees, and at most m in one another
pub record Within (s : Size) (n m : ℕ) : Type 0 where
  pub trees : s.trees ≤ n
  pub depth : s.depth ≤ m
  pub addends : s.addends ≤ n
  pub widest : s.widest ≤ n

pub within_none : (m : ℕ) → Within no_trees 0 m
within_none m = record { trees = omega arith; depth = omega arith; addends = omega arith; widest = omega arith }

pub within_more : (s : Size) (n m k l : ℕ) → Within s n m → n ≤ k → m ≤ l → Within s k l
within_more s n m k l w p q =
    let a = w.trees in let b = w.depth in let c = w.addends in let d = w.widest in
    record { trees = omega arith; depth = omega arith; addends = omega arith; widest = omega arith }

pub within_beside : (s t : Size) (n k m : ℕ) → Within s n m → Within t k m → Within (beside s t) (n + k) m
within_beside s t n k m v w =
    let a = v.trees in let b = v.depth in let c = v.addends in let d = v.widest in
    let e = w.trees in let f = w.depth in let g = w.addends in let h = w.widest in
    record { trees = omega arith; depth = omega arith; addends = omega arith; widest = omega arith }

-- a fold begun with a size is that size beside the others
fold_trees : (s : Size) (ss : List Size) → (fold beside s ss).trees ≡ s.trees + (all_beside ss).trees
fold_trees s [] = omega arith
fold_trees s (x ∷ ss) = let p = fold_trees (beside s x) ss in let q = fold_trees (beside no_trees x) ss in omega arith

fold_depth : (s : Size) (ss : List Size) → (fold beside s ss).depth ≡ max s.depth (all_beside ss).depth
fold_depth s [] = omega arith
fold_depth s (x ∷ ss) = let p = fold_depth (beside s x) ss in let q = fold_depth (beside no_trees x) ss in omega arith

fold_addends : (s : Size) (ss : List Size) → (fold beside s ss).addends ≡ s.addends + (all_beside ss).addends
fold_addends s [] = omega arith
fold_addends s (x ∷ ss) = let p = fold_addends (beside s x) ss in let q = fold_addends (beside no_trees x) ss in omega arith

fold_widest : (s : Size) (ss : List Size) → (fold beside s ss).widest ≡ max s.widest (all_beside ss).widest
fold_widest s [] = omega arith
fold_widest s (x ∷ ss) = let p = fold_widest (beside s x) ss in let q = fold_widest (beside no_trees x) ss in omega arith

pub within_front : (s : Size) (ss : List Size) (n k m : ℕ) → Within s n m → Within (all_beside ss) k m → Within (all_beside (s ∷ ss)) (n + k) m
within_front s ss n k m v w =
    let a = v.trees in let b = v.depth in let c = v.addends in let d = v.widest in
    let e = w.trees in let f = w.depth in let g = w.addends in let h = w.widest in
    let t = fold_trees (beside no_trees s) ss in let u = fold_depth (beside no_trees s) ss in
    let x = fold_addends (beside no_trees s) ss in let y = fold_widest (beside no_trees s) ss in
    record { trees = omega arith; depth = omega arith; addends = omega arith; widest = omega arith }

pub within_one : (s : Size) (n m : ℕ) → Within (all_beside (s ∷ [])) n m → Within s n m
within_one s n m w =
    let a = w.trees in let b = w.depth in let c = w.addends in let d = w.widest in
    record { trees = omega arith; depth = omega arith; addends = omega arith; widest = omega arith }

pub within_two : (s t : Size) (n m : ℕ) → Within (all_beside (s ∷ t ∷ [])) n m → Within (beside s t) n m
within_two s t n m w =
    let a = w.trees in let b = w.depth in let c = w.addends in let d = w.widest in
    record { trees = omega arith; depth = omega arith; addends = omega arith; widest = omega arith }

pub within_tree : (s : Size) (n m : ℕ) → Within s n m → Within (tree_over s) (suc n) (suc m)
within_tree s n m w =
    let a = w.trees in let b = w.depth in let c = w.addends in let d = w.widest in
    record { trees = omega arith; depth = omega arith; addends = omega arith; widest = omega arith }

pub within_sum : (s : Size) (n m : ℕ) → Within s n m → Within (sum_tree_over s) (suc n) (suc m)
within_sum s n m w =
    let a = w.trees in let b = w.depth in let c = w.addends in let d = w.widest in
    record { trees = omega arith; depth = omega arith; addends = omega arith; widest = omega arith }

pub within_comparison : (c : Comparison) (s : Size) (n m : ℕ) → Within s n m → Within (comparison_over c s) (suc n) (suc m)
within_comparison Same s n m w = within_tree s n m w
within_comparison Other s n m w = within_tree s n m w
within_comparison Le s n m w = let a = w.trees in let b = w.depth in let c = w.addends in let d = w.widest in record { trees = omega arith; depth = omega arith; addends = omega arith; widest = omega arith }
within_comparison Lt s n m w = let a = w.trees in let b = w.depth in let c = w.addends in let d = w.widest in record { trees = omega arith; depth = omega arith; addends = omega arith; widest = omega arith }
within_comparison Ge s n m w = let a = w.trees in let b = w.depth in let c = w.addends in let d = w.widest in record { trees = omega arith; depth = omega arith; addends = omega arith; widest = omega arith }
within_comparison Gt s n m w = let a = w.trees in let b = w.depth in let c = w.addends in let d = w.widest in record { trees = omega arith; depth = omega arith; addends = omega arith; widest = omega arith }
within_comparison Eq s n m w = let a = w.trees in let b = w.depth in let c = w.addends in let d = w.widest in record { trees = omega arith; depth = omega arith; addends = omega arith; widest = omega arith }
within_comparison Ne s n m w = let a = w.trees in let b = w.depth in let c = w.addends in let d = w.widest in record { trees = omega arith; depth = omega arith; addends = omega arith; widest = omega arith }
