use Rattle.std.proofs.Common.{◌≡◌, sym, ◌∙◌, ap, length, true, subst, get_or, []}
use Rattle.std.proofs.lemmas.Result.{err_from_is_err_and}
use Rattle.kts_spec.specs.declared.declarations.ValueType.{ValueType}
use Rattle.kts_spec.specs.Schedules.{tuples}
use Rattle.kts_spec.specs.Schemas.{is_type}
use Rattle.kts_abs.specs.Cells.{value_of}
use Rattle.kts_show.specs.Keys.{sizes_in}
use Rattle.kts_abs.specs.NodeTexts.{value_names}
use Rattle.kts_show.proofs.NodeParts.{known_first, known_whole}
use Rattle.kts_show.proofs.TupleKeys.{kind_fits}
use Rattle.kts_show.proofs.known.put_known.Goals as goal

pub returns-in_err-put_pieces : goal.returns-in_err-put_pieces
returns-in_err-put_pieces g c =
    let p = err_from_is_err_and c.from_residual.result c.from_residual.ensures.1 in
    let inst = c.args.inst.now in
    let family = c.args.family.now in
    let key = c.key_at-key.result in
    rw p.1 (known_first inst family (get_or (tuples (sizes_in inst family)) c.args.at []) (value_of c.args.cell.now) key.first.now key.comma.now key.second.now c.key_at-key.ensures (rw (c.bytes.ensures.bytes, c.name-name.ensures) at c.in_err-put_pieces.ensures))

pub value_names-requires : goal.value_names-requires
value_names-requires g c =
    subst (λ (kind : ValueType). is_type (length c.args.inst.now.members) kind ≡ true) (sym c.kind.ensures) (kind_fits c.args.inst.now c.args.family.now c.requires.over)

pub returns : goal.returns
returns g c =
    let inst = c.args.inst.now in
    let family = c.args.family.now in
    let key = c.key_at-key.result in
    let names = c.value_names.ensures ∙ ap (value_names inst) c.kind.ensures in
    known_whole inst family (get_or (tuples (sizes_in inst family)) c.args.at []) (value_of c.args.cell.now) key.first.now key.comma.now key.second.now c.key_at-key.ensures c.put_range.result _
    (rw (c.bytes.ensures.bytes, c.name-name.ensures) at c.in_ok-put_pieces.ensures) (rw names at c.put_range.ensures)
