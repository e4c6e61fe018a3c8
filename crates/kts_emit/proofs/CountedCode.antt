-- How the lengths of code are counted.
use Rattle.std.proofs.Common.{◌≡◌, ℕ, ◌+◌, ◌-◌, ◌*◌, ◌^◌, min, Bool, true, false, List, [], ◌∷◌, length, arith}
use Rattle.kts_emit.specs.Weights.{once, chain_rest_weight, chain_weight, nested_weight}

-- each loop has four instructions
pub nested_count : (indexes : List ℕ) (body : ℕ) → nested_weight once indexes body ≡ body + 4 * length indexes
nested_count [] body = omega arith
nested_count (index ∷ indexes) body = omega (arith, nested_count indexes body)

-- the same of a count that stops at its type's end
pub nested_stops : (indexes : List ℕ) (body : ℕ)
    → min (nested_weight once indexes (min body (2 ^ 64 - 1))) (2 ^ 64 - 1) ≡ min (nested_weight once indexes body) (2 ^ 64 - 1)
nested_stops indexes body =
    let a = nested_count indexes body in
    let b = nested_count indexes (min body (2 ^ 64 - 1)) in
    omega arith

-- the length of the parts that are left, where the first comes next or not
abbrev pub weight_left : Bool → List ℕ → ℕ
weight_left true lengths = chain_weight lengths
weight_left false lengths = chain_rest_weight lengths
