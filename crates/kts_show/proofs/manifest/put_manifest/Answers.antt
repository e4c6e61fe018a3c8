use Rattle.std.proofs.Common.{◌≡◌, ◌+◌, sym, ◌∙◌, ap, arith, length, true, subst}
use Rattle.std.proofs.lemmas.Result.{err_from_is_err_and}
use Rattle.kts_base.proofs.Pieces.{goes_on, stops, ends}
use Rattle.kts_spec.specs.declared.declarations.ValueType.{ValueType}
use Rattle.kts_spec.specs.Schemas.{is_type}
use Rattle.kts_show.proofs.TupleKeys.{kind_fits}
use Rattle.kts_show.proofs.Sections.{choice_there, choice_over}
use Rattle.kts_show.proofs.ManifestParts.{name_is, lines_from, manifest_here, manifest_end, member_index, own_is, own_long, value_names_are, names_long}
use Rattle.kts_show.proofs.manifest.put_manifest.Goals as goal

pub value_names-member-items-requires : goal.value_names-member-items-requires
value_names-member-items-requires g c =
    let schema = c.args.schema.now in
    let inst = c.args.inst.now in
    let x = c.args.x in
    let family = c.index-as_slice-x.result in
    let items = c.as_slice.ensures ∙ c.choices.ensures in
    let l = ap length items in
    let h = c.requires.declared in
    let there = choice_there schema c.as_slice.result.now items x family (omega (arith, l, h)) c.index-as_slice-x.is in
    subst (λ (kind : ValueType). is_type (length inst.members) kind ≡ true) (sym c.kind.ensures) (kind_fits inst family (choice_over schema inst x family there c.requires.valid))

pub put_manifest_line-requires-clause-over : goal.put_manifest_line-requires-clause-over
put_manifest_line-requires-clause-over g c =
    let schema = c.args.schema.now in
    let inst = c.args.inst.now in
    let x = c.args.x in
    let family = c.index-as_slice-x.result in
    let items = c.as_slice.ensures ∙ c.choices.ensures in
    let l = ap length items in
    let h = c.requires.declared in
    let there = choice_there schema c.as_slice.result.now items x family (omega (arith, l, h)) c.index-as_slice-x.is in
    choice_over schema inst x family there c.requires.valid

pub put_manifest_line-requires-clause-whole : goal.put_manifest_line-requires-clause-whole
put_manifest_line-requires-clause-whole g c =
    let schema = c.args.schema.now in
    let inst = c.args.inst.now in
    let x = c.args.x in
    let family = c.index-as_slice-x.result in
    let items = c.as_slice.ensures ∙ c.choices.ensures in
    let l = ap length items in
    let h = c.requires.declared in
    let there = choice_there schema c.as_slice.result.now items x family (omega (arith, l, h)) c.index-as_slice-x.is in
    own_long schema inst c.args.values.now x family there c.requires.assigns c.own_values-own.result.now c.own_values-own.ensures c.requires.whole

pub put_manifest_line-requires-clause-named : goal.put_manifest_line-requires-clause-named
put_manifest_line-requires-clause-named g c =
    let schema = c.args.schema.now in
    let inst = c.args.inst.now in
    let x = c.args.x in
    let family = c.index-as_slice-x.result in
    let items = c.as_slice.ensures ∙ c.choices.ensures in
    let l = ap length items in
    let h = c.requires.declared in
    let there = choice_there schema c.as_slice.result.now items x family (omega (arith, l, h)) c.index-as_slice-x.is in
    let has = member_index schema inst c.args.values.now x family there c.requires.assigns in
    let names = value_names_are schema inst c.args.values.now x family there c.requires.assigns c.value_names-member-items.result.now c.kind.result c.kind.ensures c.value_names-member-items.ensures in
    name_is inst family.kind c.value_names-member-items.result.now c.loop-m.m c.member-item.result has names c.loop-m-test.true c.member-item.is

pub returns-in_err-put_manifest_line : goal.returns-in_err-put_manifest_line
returns-in_err-put_manifest_line g c =
    let schema = c.args.schema.now in
    let inst = c.args.inst.now in
    let x = c.args.x in
    let family = c.index-as_slice-x.result in
    let items = c.as_slice.ensures ∙ c.choices.ensures in
    let l = ap length items in
    let h = c.requires.declared in
    let there = choice_there schema c.as_slice.result.now items x family (omega (arith, l, h)) c.index-as_slice-x.is in
    let p = err_from_is_err_and c.from_residual.result c.from_residual.ensures.1 in
    let values = c.args.values.now in
    let m = c.loop-m.m in
    let own = own_is schema inst values x family there c.requires.assigns c.own_values-own.result.now c.own_values-own.ensures in
    let long = names_long schema inst values x family there c.requires.assigns c.value_names-member-items.result.now c.kind.result c.kind.ensures c.value_names-member-items.ensures in
    let t = c.loop-m-test.true in
    let here = manifest_here schema inst values x family c.own_values-own.result.now m there own (omega (arith, long, t)) in
    rw p.1 (stops (lines_from schema inst values x (m + 1)) c.loop-m.invariant here c.in_err-put_manifest_line.ensures)

pub loop-m-preserved : goal.loop-m-preserved
loop-m-preserved g c =
    let schema = c.args.schema.now in
    let inst = c.args.inst.now in
    let x = c.args.x in
    let family = c.index-as_slice-x.result in
    let items = c.as_slice.ensures ∙ c.choices.ensures in
    let l = ap length items in
    let h = c.requires.declared in
    let there = choice_there schema c.as_slice.result.now items x family (omega (arith, l, h)) c.index-as_slice-x.is in
    let values = c.args.values.now in
    let m = c.loop-m.m in
    let own = own_is schema inst values x family there c.requires.assigns c.own_values-own.result.now c.own_values-own.ensures in
    let long = names_long schema inst values x family there c.requires.assigns c.value_names-member-items.result.now c.kind.result c.kind.ensures c.value_names-member-items.ensures in
    let t = c.loop-m-test.true in
    let here = manifest_here schema inst values x family c.own_values-own.result.now m there own (omega (arith, long, t)) in
    goes_on (lines_from schema inst values x (m + 1)) c.loop-m.invariant here c.in_ok-put_manifest_line.ensures

pub returns : goal.returns
returns g c =
    let schema = c.args.schema.now in
    let inst = c.args.inst.now in
    let x = c.args.x in
    let family = c.index-as_slice-x.result in
    let items = c.as_slice.ensures ∙ c.choices.ensures in
    let l = ap length items in
    let h = c.requires.declared in
    let there = choice_there schema c.as_slice.result.now items x family (omega (arith, l, h)) c.index-as_slice-x.is in
    let values = c.args.values.now in
    let long = names_long schema inst values x family there c.requires.assigns c.value_names-member-items.result.now c.kind.result c.kind.ensures c.value_names-member-items.ensures in
    let t = c.loop-m-test.false in
    ends c.loop-m.invariant (manifest_end schema inst values x c.loop-m.m (omega (arith, long, t)))
