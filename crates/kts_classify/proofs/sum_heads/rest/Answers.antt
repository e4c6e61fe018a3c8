use Rattle.std.proofs.Common.{Bor, Bool, ap, sym, ◌∙◌, map, not}
use Rattle.kts_spec.specs.declared.tree.Term.{Term}
use Rattle.kts_plan.specs.Heads.{all_but}
use Rattle.kts_plan.specs.declared.bound.Bound.TheVariants.{Rest}
use Rattle.kts_classify.specs.SignedTerms.{addend_of}
use Rattle.kts_classify.proofs.HeadLists.{rest_is, others_signed}
use Rattle.kts_classify.proofs.sum_heads.rest.Goals as goal

pub returns : goal.returns
returns c =
    let f = λ (t : Bool × Bor Term). addend_of t.0 t.1.now in
    let others = others_signed f (not c.args.minus) c.args.k c.args.sum.now c.in_ok-terms.terms c.append_terms.new.terms c.append_terms-2.new.terms c.in_ok-terms.ensures c.in_ok-append_terms.ensures c.in_ok-append_terms-2.ensures in
    ap (λ terms. Rest terms) others ∙ sym (rest_is c.args.minus (all_but c.args.k (map f c.args.sum.now)))
