use Rattle.std.proofs.Common.{◌+◌, ◌∙◌, drop}
use Rattle.std.specs.List.{flat_map}
use Rattle.std.proofs.lemmas.Result.{err_from_is_err_and}
use Rattle.kts_base.proofs.Pieces.{goes_on, stops, ends}
use Rattle.kts_spec.specs.declared.declarations.Decl.TheVariants.{Index}
use Rattle.kts_spec.specs.Texts.{declared_lines}
use Rattle.kts_show.proofs.ManifestParts.{decl_fits, decls_here, decls_end}
use Rattle.kts_show.proofs.manifest.put_manifests.Goals as goal

pub put_declared-requires-clause-declared : goal.put_declared-requires-clause-declared
put_declared-requires-clause-declared g c =
    decl_fits c.args.schema.now c.as_slice-decl-items.result.now (c.as_slice-decl-items.ensures ∙ c.decls.ensures) c.loop-decl.decl-index (Index 0) c.loop-decl-test.true

pub returns-in_err-put_declared : goal.returns-in_err-put_declared
returns-in_err-put_declared g c =
    let p = err_from_is_err_and c.from_residual.result c.from_residual.ensures.1 in
    let here = decls_here c.args.schema.now c.args.inst.now c.args.values.now c.as_slice-decl-items.result.now (c.as_slice-decl-items.ensures ∙ c.decls.ensures) c.loop-decl.decl-index (Index 0) c.loop-decl-test.true in
    rw p.1 (stops (flat_map (declared_lines c.args.schema.now c.args.inst.now c.args.values.now) (drop (c.loop-decl.decl-index + 1) c.args.schema.now.decls)) c.loop-decl.invariant here c.in_err-put_declared.ensures)

pub loop-decl-preserved : goal.loop-decl-preserved
loop-decl-preserved g c =
    let here = decls_here c.args.schema.now c.args.inst.now c.args.values.now c.as_slice-decl-items.result.now (c.as_slice-decl-items.ensures ∙ c.decls.ensures) c.loop-decl.decl-index (Index 0) c.loop-decl-test.true in
    goes_on (flat_map (declared_lines c.args.schema.now c.args.inst.now c.args.values.now) (drop (c.loop-decl.decl-index + 1) c.args.schema.now.decls)) c.loop-decl.invariant here c.in_ok-put_declared.ensures

pub returns : goal.returns
returns g c =
    ends c.loop-decl.invariant (decls_end c.args.schema.now c.args.inst.now c.args.values.now c.as_slice-decl-items.result.now (c.as_slice-decl-items.ensures ∙ c.decls.ensures) c.loop-decl.decl-index c.loop-decl-test.false)
