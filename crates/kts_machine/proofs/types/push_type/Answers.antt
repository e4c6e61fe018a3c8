use Rattle.std.proofs.Common.{Result, Ok, Err}
use Rattle.std.specs.Prelude.{OnOk}
use Rattle.kts_abs.specs.Spaces.{type_value}
use Rattle.kts_mean.specs.Bounds.{members_of}
use Rattle.kts_machine.proofs.TypesOfCells.{IsOpening-some, IsOpening-empty}
use Rattle.kts_machine.proofs.types.push_type.Goals as goal

on_ok : {E : Type 0} {P Q : Type 0} (r : Result (Unit {0}) E) → OnOk r P → (P → Q) → OnOk r Q
on_ok (Ok u) h f = f h
on_ok (Err e) h f = tt

pub returns-in-Some : goal.returns-in-Some
returns-in-Some g c = on_ok c.push_copies.result c.push_copies.ensures
    (λ same kinds h. rw same (IsOpening-some kinds c.args.opening.now.cells c.args.opening.now.is_whole c.args.count c.in-Some.cell (type_value (members_of c.args.inst.now) c.args.kind) h
    c.in-Some.ensures.some c.in-Some.ensures.valid))

pub returns-in-None : goal.returns-in-None
returns-in-None g c = on_ok c.push_copies-in-None.result c.push_copies-in-None.ensures
    (λ same kinds h. rw same (IsOpening-empty kinds c.args.opening.now.cells c.args.opening.now.is_whole c.args.count c.zero.result (type_value (members_of c.args.inst.now) c.args.kind) h
    c.in-None.ensures.none))
