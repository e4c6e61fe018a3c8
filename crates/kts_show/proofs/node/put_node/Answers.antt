use Rattle.std.proofs.Common.{◌∙◌, ◌++◌, ap, arith, length}
use Rattle.std.proofs.lemmas.Result.{err_from_is_err_and}
use Rattle.kts_base.proofs.Pieces.{stops_first, stops_later, after}
use Rattle.kts_spec.specs.Texts.{newline}
use Rattle.kts_abs.specs.Cells.{space_of}
use Rattle.kts_show.proofs.CellSizes.{cell_small}
use Rattle.kts_abs.specs.NodeTexts.{known_cells_text}
use Rattle.kts_show.proofs.node.put_node.Goals as goal

pub returns-in_err-put : goal.returns-in_err-put
returns-in_err-put g c =
    let p = err_from_is_err_and c.from_residual.result c.from_residual.ensures.1 in
    rw p.1 (stops_first (known_cells_text c.args.schema.now c.args.inst.now (space_of c.args.space.now) ++ newline) c.in_err-put.ensures.wrote)

pub returns-in_err-put_cells : goal.returns-in_err-put_cells
returns-in_err-put_cells g c =
    let p = err_from_is_err_and c.from_residual-in_err-put_cells.result c.from_residual-in_err-put_cells.ensures.1 in
    let cells = c.as_slice.ensures ∙ c.cells.ensures in
    rw p.1 (stops_later c.in_ok-put.ensures.wrote (stops_first newline (rw cells at c.in_err-put_cells.ensures)))

pub returns : goal.returns
returns g c =
    let cells = c.as_slice.ensures ∙ c.cells.ensures in
    after _ _ (known_cells_text c.args.schema.now c.args.inst.now (space_of c.args.space.now) ++ newline) c.in_ok-put.ensures.wrote (after _ _ newline (rw cells at c.in_ok-put_cells.ensures) c.put-2.ensures.wrote)

pub cells-requires : goal.cells-requires
cells-requires g c = (omega arith, cell_small g.row.W c.requires.few_words)

pub put_cells-requires : goal.put_cells-requires
put_cells-requires g c = (cell_small g.row.W c.requires.few_words, (c.requires.few_words, (c.requires.valid, ap length (c.as_slice.ensures ∙ c.cells.ensures) ∙ c.requires.whole)))
