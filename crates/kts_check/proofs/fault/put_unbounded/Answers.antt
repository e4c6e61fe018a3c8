use Rattle.std.proofs.Common.{◌++◌}
use Rattle.std.specs.Prelude.{codes}
use Rattle.std.specs.Fmt.{signed_decimal}
use Rattle.std.proofs.lemmas.Result.{err_from_is_err_and}
use Rattle.std.proofs.lemmas.Int.{to_z-of_z}
use mir.Syntax.{w128}
use Rattle.kts_base.proofs.Pieces.{after, stops_first, stops_later}
use Rattle.kts_check.proofs.fault.put_unbounded.Goals as goal

pub returns-in_err-put : goal.returns-in_err-put
returns-in_err-put g c =
    let p = err_from_is_err_and c.from_residual.result c.from_residual.ensures.1 in
    let all = stops_first (signed_decimal c.args.low ++ (codes " " ++ signed_decimal c.args.high)) c.in_err-put.ensures.wrote in rw p.1 all

pub returns-in_err-put_number : goal.returns-in_err-put_number
returns-in_err-put_number g c =
    let p = err_from_is_err_and c.from_residual-in_err-put_number.result c.from_residual-in_err-put_number.ensures.1 in
    let all = stops_later c.in_ok-put.ensures.wrote (stops_first (codes " " ++ signed_decimal c.args.high) (rw (to_z-of_z w128 c.args.low c.ranges.low) at c.in_err-put_number.ensures)) in rw p.1 all

pub returns-in_err-put-2 : goal.returns-in_err-put-2
returns-in_err-put-2 g c =
    let p = err_from_is_err_and c.from_residual-in_err-put-2.result c.from_residual-in_err-put-2.ensures.1 in
    let all = stops_later c.in_ok-put.ensures.wrote (stops_later (rw (to_z-of_z w128 c.args.low c.ranges.low) at c.in_ok-put_number.ensures) (stops_first (signed_decimal c.args.high) c.in_err-put-2.ensures.wrote)) in rw p.1 all

pub returns : goal.returns
returns g c =
    let low = rw (to_z-of_z w128 c.args.low c.ranges.low) at c.in_ok-put_number.ensures in
    let high = rw (to_z-of_z w128 c.args.high c.ranges.high) at c.put_number-2.ensures in
    after c.put_number-2.result _ (signed_decimal c.args.low ++ (codes " " ++ signed_decimal c.args.high)) c.in_ok-put.ensures.wrote
    (after c.put_number-2.result _ (codes " " ++ signed_decimal c.args.high) low (after c.put_number-2.result _ (signed_decimal c.args.high) c.in_ok-put-2.ensures.wrote high))
