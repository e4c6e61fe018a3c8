use Rattle.std.proofs.Common.{Bor, Bool, ◌≡◌, ℕ, sym, ap, ◌∙◌, subst, ◌<◌, length, map, take, get_or, ◌++◌, append_assoc, arith}
use Rattle.std.specs.Prelude.{flat_map, pos}
use Rattle.std.specs.List.{enumerate_from}
use Rattle.std.proofs.lemmas.List.{length-map, map-append}
use Rattle.kts_spec.specs.Addends.{Addend, added}
use Rattle.kts_spec.specs.declared.tree.Term.{Term}
use Rattle.kts_spec.specs.declared.tree.Term.TheVariants.{Number}
use Rattle.kts_plan.specs.Heads.{all_but}
use Rattle.kts_classify.specs.HeadPlaces.{definite_at, heads_in_sum}
use Rattle.kts_classify.specs.SignedTerms.{addend_of}
use Rattle.kts_classify.proofs.HeadLists.{numbered_more, numbered_all}
use Rattle.kts_classify.proofs.sum_heads.add_sum_heads.Goals as goal

pub loop-k-preserved : goal.loop-k-preserved
loop-k-preserved c =
    let addends = map (λ (t : Bool × Bor Term). addend_of t.0 t.1.now) c.args.sum.now in
    let F = λ (numbered : ℕ × Addend). heads_in_sum c.args.zero numbered.1 (all_but numbered.0 addends) in
    let D = definite_at c.args.at in
    let k = c.loop-k.k in
    let there : k < length addends = subst (λ n. k < n) (sym (length-map c.args.sum.now (λ (t : Bool × Bor Term). addend_of t.0 t.1.now))) c.loop-k-test.true in
    let more = numbered_more F addends k (added (Number (pos 0))) there in
    let before = flat_map F (take k (enumerate_from 0 addends)) in
    let here = F (k, get_or addends k (added (Number (pos 0)))) in
    c.in_ok-add_addend_heads.ensures ∙ ap (λ l. l ++ map D here) c.loop-k.invariant ∙ append_assoc c.args.definites.now (map D before) (map D here)
    ∙ ap (λ l. c.args.definites.now ++ l) (sym (map-append D before here) ∙ ap (map D) (sym more))

pub returns : goal.returns
returns c =
    let addends = map (λ (t : Bool × Bor Term). addend_of t.0 t.1.now) c.args.sum.now in
    let F = λ (numbered : ℕ × Addend). heads_in_sum c.args.zero numbered.1 (all_but numbered.0 addends) in
    let long = length-map c.args.sum.now (λ (t : Bool × Bor Term). addend_of t.0 t.1.now) in
    let end : c.loop-k.k ≡ length addends = let at_end = c.loop-k-test.false in let within = c.loop-k.auto in omega (arith, long, at_end, within.k-end) in
    c.loop-k.invariant ∙ ap (λ l. c.args.definites.now ++ map (definite_at c.args.at) l) (numbered_all F addends c.loop-k.k end)
