-- Building of what is read while there is room for its trees.
use Rattle.std.specs.Prelude.{◌≡◌, ℕ, ◌-◌, ◌<◌, ◌⊎◌, Result, Ok, Err, MatchResult, map}
use Rattle.kts_syntax.specs.Faults.{FormFault, IsNoMemory}
use Rattle.kts_syntax.specs.Readings.{Reading}
use Rattle.kts_syntax.specs.Sizes.{trees, total}
use Rattle.kts_syntax.specs.declared.expr.Expr.{Expr, out-Expr}
use Rattle.kts_syntax.specs.declared.parts.Part.{Part}
use Rattle.kts_syntax.specs.declared.parts.Part.TheVariants.{Bound, Operand}
use Rattle.kts_syntax.specs.declared.parts.Parts.{Parts}

-- how many trees are in parts
abbrev pub trees_of : Parts → ℕ
trees_of parts = total (map trees parts.exprs)

-- how many trees are in an expression besides itself
abbrev pub trees_below : Expr → ℕ
trees_below expr = total (map trees (out-Expr expr).parts)

-- how many trees are in a part besides itself
abbrev pub trees_in_part : Part → ℕ
trees_in_part (Bound b) = 0
trees_in_part (Operand expr) = trees_below expr

-- whether the part itself is a tree
abbrev pub trees_at_part : Part → ℕ
trees_at_part (Bound b) = 0
trees_at_part (Operand expr) = 1

-- what was read took its trees from a room, and was built if some of the room is left
pub record Built {X : Type 0} (size : X → ℕ) (room left : ℕ) (x : X) (read : Reading X) : Type 0 where
  pub whole : X
  pub is : read ≡ Ok whole
  pub taken : left ≡ room - size whole
  pub same : 0 < left → x ≡ whole

-- a reader that builds in a room, the room left, and what was to be read
abbrev pub Builds : {X : Type 0} → (X → ℕ) → ℕ → ℕ → Result X FormFault → Reading X → Type 0
Builds size room left result read = MatchResult result (λ x. Built size room left x read) (λ f. IsNoMemory f ⊎ (read ≡ Err f))
