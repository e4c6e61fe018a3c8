-- A name in an array is the one that its first bytes make.
use Rattle.std.specs.Prelude.{◌≡◌, ℕ, ◌-◌, ◌++◌, List, length, take, replicate}
use Rattle.std.proofs.Common.{arith, sym, ◌∙◌, ap}
use Rattle.std.proofs.lemmas.List.{take-append-drop, length-take-le}
use Rattle.kts_base.specs.Limits.{most_name_bytes}
use Rattle.kts_base.specs.Padding.{IsPadded}

pub count_again : (bytes : List ℕ) (count : ℕ) → IsPadded bytes count → length (take count bytes) ≡ count
count_again bytes count h = let few = h.few in let whole = h.whole in length-take-le count bytes (omega arith)

pub bytes_again : (bytes : List ℕ) (count : ℕ) → IsPadded bytes count → take count bytes ++ replicate (most_name_bytes - length (take count bytes)) 0 ≡ bytes
bytes_again bytes count h =
    ap (λ k. take count bytes ++ replicate (most_name_bytes - k) 0) (count_again bytes count h)
    ∙ ap (λ rest. take count bytes ++ rest) (sym h.rest) ∙ take-append-drop count bytes
