use Rattle.std.proofs.Common.{refl, inl, inr, arith}
use Rattle.std.proofs.lemmas.Result.{err_from_is_err_and}
use Rattle.kts_syntax.proofs.FrontLemmas.{forms_end, forms_atom, form_fails, form_full, form_on}
use Rattle.kts_syntax.proofs.PartLemmas.{weight-list}
use Rattle.kts_syntax.proofs.tops.later_forms.Goals as goal

pub returns-in-End : goal.returns-in-End
returns-in-End c = forms_end c.loop-forms.forms _ _ c.loop-forms.invariant.forms c.in-End.ensures

pub returns-in-Atom : goal.returns-in-Atom
returns-in-Atom c = rw c.fail.ensures (inr (forms_atom c.loop-forms.forms _ _ c.loop-forms.invariant.forms _ _ _ c.in-Atom.ensures))

pub returns-in_err-form-in-List : goal.returns-in_err-form-in-List
returns-in_err-form-in-List c =
    let p = err_from_is_err_and c.from_residual.result c.from_residual.ensures.1 in
    rw (p.1, p.2) (elim c.in_err-form-in-List.ensures [
      | inl e ↦ inl e
      | inr e ↦ inr (form_fails c.loop-forms.forms _ _ c.loop-forms.invariant.forms _ _ _ _ c.in-List.ensures _ e)
    ])

pub returns-then-not-take : goal.returns-then-not-take
returns-then-not-take c =
    rw c.fail-then-not-take.ensures (inr (form_full c.loop-forms.forms _ _ c.loop-forms.invariant.forms _ _ _ _ c.in-List.ensures _ c.in_ok-form-in-List.ensures (c.if-not-take.ensures.room c.loop-forms.forms c.loop-forms.invariant.counts)))

pub loop-forms-smaller : goal.loop-forms-smaller
loop-forms-smaller c = omega (arith, weight-list _ _ _ _ _ c.in-List.ensures)

pub loop-forms-preserved : goal.loop-forms-preserved
loop-forms-preserved c = record {
  counts = rw c.in_ok-push-in-List.ensures.ok (c.if-not-take.ensures.counts c.loop-forms.forms c.loop-forms.invariant.counts refl);
  forms = form_on c.loop-forms.forms _ _ c.loop-forms.invariant.forms _ _ _ _ c.in-List.ensures _ _ c.in_ok-form-in-List.ensures (c.if-not-take.ensures.room c.loop-forms.forms c.loop-forms.invariant.counts) c.in_ok-push-in-List.ensures.ok;
}
