-- A cell of few words is small.
use Rattle.std.specs.Prelude.{max}
use Rattle.std.proofs.Common.{ℕ, ◌+◌, ◌*◌, ◌<◌, ◌≤◌, arith}
use prog.Memory.{up}

-- rounding up to eight adds less than eight
up_eight : (e : ℕ) → up 8 e < e + 8
up_eight e = omega arith

pub cell_small : (w : ℕ) → w ≤ 1024 → up 8 (max 24 (max (8 + up 8 (0 + up 8 (0 + w * 8))) 1)) < 9223372036854775808
cell_small w h =
    let inner = up_eight (0 + w * 8) in
    let middle = up_eight (0 + up 8 (0 + w * 8)) in
    let outer = up_eight (max 24 (max (8 + up 8 (0 + up 8 (0 + w * 8))) 1)) in
    omega (arith, inner, middle, outer, h)
