use Rattle.std.proofs.Common.{◌∙◌, sym, subst, ap, get_or, Ok, refl}
use Rattle.std.proofs.lemmas.List.{get_or_default}
use Rattle.std.proofs.lemmas.Result.{err_from_is_err_and}
use Rattle.serde_json.specs.View.{view}
use Rattle.kts_spec.specs.declared.declarations.Decl.TheVariants.{Index}
use Rattle.kts_spec.specs.declared.instance.Instance.{Instance}
use Rattle.kts_data.specs.Drafts.{AreFew, instance_in}
use Rattle.kts_data.specs.Instances.{empty_instance, with_declaration}
use Rattle.kts_data.proofs.DeclLemmas.{few_all, is_there}
use Rattle.kts_data.proofs.Each.{all_stops, all_on, all_done}
use Rattle.kts_data.proofs.data.read_declarations.Goals as goal

pub loop-decl-init : goal.loop-decl-init
loop-decl-init c = rw c.new-draft.ensures refl

pub take-requires : goal.take-requires
take-requires c =
    let items = c.as_slice-decl-items.ensures ∙ c.decls.ensures in
    let here = rw items at c.loop-decl-test.true in
    rw items (is_there c.args.schema.now c.loop-decl.decl-index (get_or c.args.schema.now.decls c.loop-decl.decl-index (Index 0)) here
    (get_or_default c.args.schema.now.decls c.loop-decl.decl-index _ _ here))

pub returns-in_err-take-clause-says : goal.returns-in_err-take-clause-says
returns-in_err-take-clause-says c =
    let items = c.as_slice-decl-items.ensures ∙ c.decls.ensures in
    let here = rw items at c.loop-decl-test.true in
    let p = err_from_is_err_and c.from_residual.result c.from_residual.ensures.1 in
    rw (p.1, p.2)
    (all_stops (with_declaration c.args.schema.now (view c.args.value.now)) (instance_in c.loop-decl.draft) c.args.schema.now.decls
    c.loop-decl.decl-index (get_or c.args.schema.now.decls c.loop-decl.decl-index (Index 0)) _ _ here
    (get_or_default c.args.schema.now.decls c.loop-decl.decl-index _ _ here) (rw items at c.in_err-take.ensures) c.loop-decl.invariant)

pub loop-decl-preserved : goal.loop-decl-preserved
loop-decl-preserved c =
    let items = c.as_slice-decl-items.ensures ∙ c.decls.ensures in
    let here = rw items at c.loop-decl-test.true in
    all_on (with_declaration c.args.schema.now (view c.args.value.now)) (instance_in c.loop-decl.draft) (instance_in c.take.new.self)
    c.args.schema.now.decls c.loop-decl.decl-index (get_or c.args.schema.now.decls c.loop-decl.decl-index (Index 0)) _ here
    (get_or_default c.args.schema.now.decls c.loop-decl.decl-index _ _ here) (rw items at c.in_ok-take.ensures) c.loop-decl.invariant

pub returns-clause-says : goal.returns-clause-says
returns-clause-says c =
    let items = c.as_slice-decl-items.ensures ∙ c.decls.ensures in
    all_done (with_declaration c.args.schema.now (view c.args.value.now)) (instance_in c.loop-decl.draft) c.args.schema.now.decls
    c.loop-decl.decl-index _ (rw items at c.loop-decl-test.false) c.loop-decl.invariant
    ∙ ap Ok (sym c.in_ok-instance.ensures)

pub returns-clause-few : goal.returns-clause-few
returns-clause-few c =
    let items = c.as_slice-decl-items.ensures ∙ c.decls.ensures in
    let whole = all_done (with_declaration c.args.schema.now (view c.args.value.now)) (instance_in c.loop-decl.draft) c.args.schema.now.decls
    c.loop-decl.decl-index _ (rw items at c.loop-decl-test.false) c.loop-decl.invariant in
    subst (λ (inst : Instance). AreFew inst.members) (sym c.in_ok-instance.ensures) (few_all c.args.schema.now (view c.args.value.now) empty_instance
    (instance_in c.loop-decl.draft) c.args.schema.now.decls whole refl)
