use Rattle.std.proofs.Common.{◌≡◌, suc, ◌+◌, ◌-◌, length, take, drop, refl, ap, ◌∙◌, arith}
use Rattle.std.proofs.lemmas.List.{take_rest}
use Rattle.kts_emit.specs.BodyWeights.{literal_weight}
use Rattle.kts_emit.specs.Weights.{once}
use Rattle.kts_emit.proofs.DraftedBodies.{others_counted}
use Rattle.kts_emit.proofs.body_lengths.others_length.Goals as goal

pub returns : goal.returns
returns c =
    let ls = c.args.literals.now in
    let k = c.args.k in
    let behind = take (length ls - (k + 1)) (drop (k + 1) ls) in
    let next : k + 1 ≡ suc k = omega arith in
    let rest = take_rest ls (k + 1) ∙ ap (λ n. drop n ls) next in
    let parts = others_counted (literal_weight once) k ls (take k ls) behind refl rest in
    omega (arith, parts, c.needs_length.ensures, c.needs_length-2.ensures, c.saturating_add.ensures)
