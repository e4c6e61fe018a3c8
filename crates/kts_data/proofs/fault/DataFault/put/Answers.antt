use Rattle.std.proofs.Common.{◌++◌, append-nil}
use Rattle.std.specs.Prelude.{codes, decimal}
use Rattle.std.proofs.lemmas.Result.{err_from_is_err_and}
use Rattle.kts_base.proofs.Pieces.{after, stops_first}
use Rattle.kts_data.specs.Faults.{fault_text, name_text}
use Rattle.kts_data.proofs.fault.DataFault.put.Goals as goal

pub returns-in_err-put : goal.returns-in_err-put
unfolding fault_text
returns-in_err-put g c =
    let p = err_from_is_err_and c.from_residual.result c.from_residual.ensures.1 in
    let rest = codes " " ++ (name_text c.args.self.now.name ++ (codes " " ++ decimal c.args.self.now.element)) in
    rw p.1 (stops_first rest c.in_err-put.ensures)

pub returns : goal.returns
unfolding fault_text
returns g c =
    let rest = codes " " ++ (name_text c.args.self.now.name ++ (codes " " ++ decimal c.args.self.now.element)) in
    after c.put_pieces.result _ rest c.in_ok-put.ensures (rw (c.as_bytes.ensures.value, c.format-element.ensures.text, c.name_bytes.ensures, append-nil (decimal c.args.self.now.element)) at c.put_pieces.ensures)
