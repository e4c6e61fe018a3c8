use Rattle.std.proofs.Common.{◌≡◌, ℕ, ◌++◌, map, take}
use Rattle.std.specs.Prelude.{flat_map}
use Rattle.std.specs.List.{enumerate_from}
use Rattle.kts_spec.specs.Addends.{Addend}
use Rattle.kts_plan.specs.Heads.{all_but}
use Rattle.kts_classify.specs.HeadPlaces.{definite_at, heads_in_sum}
use Rattle.kts_classify.specs.SignedTerms.{addend_of}
use Rattle.kts_classify.proofs.sum_heads.add_sum_heads.Given as goal

-- the constraints of the addends so far are appended
abbrev pub invariant-loop-k : goal.invariant-loop-k
invariant-loop-k l =
    let addends = map (λ t. addend_of t.0 t.1.now) l.sum in
    l.definites ≡ l.initial.definites ++ map (definite_at l.at) (flat_map (λ (numbered : ℕ × Addend). heads_in_sum l.zero numbered.1 (all_but numbered.0 addends)) (take l.k (enumerate_from 0 addends)))
