use Rattle.std.proofs.Common.{sym, subst}
use Rattle.kts_top.specs.declared.content_fault.ContentFault.{ContentFault}
use Rattle.kts_top.specs.Contents.{IsNoMemory}
use Rattle.kts_top.specs.Endings.{EndsUnless}
use Rattle.kts_top.specs.Refusals.{refusal}
use Rattle.kts_top.proofs.refusals.say_fault.Goals as goal

pub returns-in-Trees : goal.returns-in-Trees
returns-in-Trees g c =
    subst (λ (f : ContentFault). EndsUnless c.say_refused.result (g.S.Sink.log c.args.out.now) (g.S.Sink.log c.say_refused.new.out) (IsNoMemory f) (refusal f)) (sym c.in-Trees.is) c.say_refused.ensures

pub returns-in-Form : goal.returns-in-Form
returns-in-Form g c =
    subst (λ (f : ContentFault). EndsUnless c.say_refused-in-Form.result (g.S.Sink.log c.args.out.now) (g.S.Sink.log c.say_refused-in-Form.new.out) (IsNoMemory f) (refusal f)) (sym c.in-Form.is) c.say_refused-in-Form.ensures

pub returns-in-Spec : goal.returns-in-Spec
returns-in-Spec g c =
    subst (λ (f : ContentFault). EndsUnless c.say_refused-in-Spec.result (g.S.Sink.log c.args.out.now) (g.S.Sink.log c.say_refused-in-Spec.new.out) (IsNoMemory f) (refusal f)) (sym c.in-Spec.is) c.say_refused-in-Spec.ensures
