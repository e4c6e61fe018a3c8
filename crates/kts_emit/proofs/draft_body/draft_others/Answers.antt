use Rattle.std.proofs.Common.{◌≡◌, suc, ◌+◌, ◌-◌, ◌++◌, length, map, take, drop, refl, ap, ◌∙◌, arith}
use Rattle.std.proofs.lemmas.List.{take_rest}
use Rattle.std.proofs.lemmas.Result.{on_ok_weaker}
use Rattle.kts_code.specs.declared.instructions.Instr.TheVariants.{Need}
use Rattle.kts_emit.specs.Bodies.{literal_code}
use Rattle.kts_emit.specs.Fragments.{chain_rest}
use Rattle.kts_emit.proofs.DraftedBodies.{others_drafted}
use Rattle.kts_emit.proofs.draft_body.draft_others.Goals as goal

pub returns : goal.returns
returns c =
    let ls = c.args.literals.now in
    let k = c.args.k in
    let behind = take (length ls - (k + 1)) (drop (k + 1) ls) in
    let next : k + 1 ≡ suc k = omega arith in
    let rest = take_rest ls (k + 1) ∙ ap (λ n. drop n ls) next in
    let first = c.draft_needs.new.draft in
    let second = c.draft_needs-2.new.draft in
    on_ok_weaker c.draft_needs-2.result
    (λ (h : second ≡ first ++ chain_rest (Need c.args.done) (map literal_code behind) (c.args.base + length first) c.args.scope).
    others_drafted (Need c.args.done) literal_code c.args.base c.args.draft.now first second ls (take k ls) behind k c.args.scope refl rest c.in_ok-draft_needs.ensures h)
    c.draft_needs-2.ensures
