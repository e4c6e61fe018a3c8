use Rattle.std.proofs.Common.{◌∙◌, ◌+◌, [], sym, subst, ap, inl, inr, take, drop}
use Rattle.std.proofs.lemmas.List.{take_all}
use Rattle.std.proofs.lemmas.Result.{err_from_is_err_and}
use Rattle.kts_check.specs.Forms.{declarations_in, with_declaration, declarations_of}
use Rattle.kts_check.specs.Sound.{AreConsistent}
use Rattle.kts_check.proofs.FormFacts.{new_on}
use Rattle.kts_check.proofs.FormLemmas.{form_fails, form_on, form_fit, form_room, others_fit, form_low, others_low, now_before, forms_end}
use Rattle.kts_check.proofs.SoundSteps.{sound_none, sound_on}
use Rattle.kts_check.proofs.checker.table_after.Goals as goal

pub loop-form-init : goal.loop-form-init
loop-form-init c = record {
  so_far = ap (λ d. declarations_of d c.args.forms.now) c.new-table.ensures;
  sound = subst (AreConsistent []) (sym c.new-table.ensures) sound_none;
  fits = c.requires.fits;
  shallow = c.requires.shallow;
}

pub returns-in_err-declaration-clause-table : goal.returns-in_err-declaration-clause-table
returns-in_err-declaration-clause-table c =
    let p = err_from_is_err_and c.from_residual.result c.from_residual.ensures.1 in
    rw (p.1, p.2) (elim c.in_err-declaration.ensures [
      | inl e ↦ inl e
      | inr e ↦ inr (form_fails c.args.forms.now c.loop-form.form-index c.form-item.result c.loop-form-test.true c.form-item.is (declarations_in c.loop-form.table) _ _ e c.loop-form.invariant.so_far)
    ])

pub add-requires-clause-new : goal.add-requires-clause-new
add-requires-clause-new c = new_on (declarations_in c.loop-form.table) c.form-item.result c.in_ok-declaration.declaration c.in_ok-declaration.ensures

pub add-requires-clause-few : goal.add-requires-clause-few
add-requires-clause-few c = c.loop-form.invariant.sound.few

pub loop-form-preserved : goal.loop-form-preserved
loop-form-preserved c =
    let fs = c.args.forms.now in let i = c.loop-form.form-index in let f = c.form-item.result in let d = declarations_in c.loop-form.table in
    let next = c.in_ok-add.ensures.ok in
    record {
      so_far = ap (λ e. declarations_of e (drop (i + 1) fs)) next ∙ form_on fs i f c.loop-form-test.true c.form-item.is d c.in_ok-declaration.declaration _ c.in_ok-declaration.ensures c.loop-form.invariant.so_far;
      sound = subst (AreConsistent (take (i + 1) fs)) (sym next) (subst (λ bs. AreConsistent bs (with_declaration d c.in_ok-declaration.declaration)) (sym (now_before fs i f c.loop-form-test.true c.form-item.is))
          (sound_on (take i fs) d f c.in_ok-declaration.declaration c.loop-form.invariant.sound (form_fit fs i f c.loop-form-test.true c.form-item.is c.loop-form.invariant.fits) (form_room fs i f c.loop-form-test.true c.form-item.is c.loop-form.invariant.fits)
          (form_low fs i f c.loop-form-test.true c.form-item.is c.loop-form.invariant.shallow) c.in_ok-declaration.ensures));
      fits = others_fit fs i f c.loop-form-test.true c.form-item.is c.loop-form.invariant.fits;
      shallow = others_low fs i f c.loop-form-test.true c.form-item.is c.loop-form.invariant.shallow;
    }

pub returns-clause-table : goal.returns-clause-table
returns-clause-table c = forms_end c.args.forms.now c.loop-form.form-index (declarations_in c.loop-form.table) _ c.loop-form-test.false c.loop-form.invariant.so_far

pub returns-clause-sound : goal.returns-clause-sound
returns-clause-sound c = subst (λ bs. AreConsistent bs (declarations_in c.loop-form.table)) (take_all c.loop-form.form-index c.args.forms.now c.loop-form-test.false) c.loop-form.invariant.sound
