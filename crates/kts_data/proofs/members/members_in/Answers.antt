use Rattle.std.proofs.Common.{sym, inr}
use Rattle.std.proofs.lemmas.Result.{err_from_is_err_and}
use Rattle.serde_json.specs.View.{view}
use Rattle.kts_data.specs.Instances.{with_member}
use Rattle.kts_data.proofs.Each.{seen_fails, seen_on, seen_done}
use Rattle.kts_data.proofs.MemberLemmas.{member_is_new, one_fails, one_more}
use Rattle.kts_data.proofs.members.members_in.Goals as goal

pub returns-in_err-name : goal.returns-in_err-name
returns-in_err-name c =
    let p = err_from_is_err_and c.from_residual.result c.from_residual.ensures.1 in
    rw (p.1, p.2)
    (inr (seen_fails (with_member c.args.index.now) view c.args.values.now c.loop-value.value-index c.value-item.result c.loop-value-test.true
    c.value-item.is _ _ _ (one_fails c.args.index.now c.loop-value.taken (view c.value-item.result) _ (sym c.in_err-name.ensures)) c.loop-value.invariant))

pub take-requires : goal.take-requires
take-requires c = member_is_new c.args.index.now c.loop-value.taken (view c.value-item.result) _ (sym c.in_ok-name.ensures)

pub loop-value-preserved : goal.loop-value-preserved
loop-value-preserved c =
    rw c.in_ok-take.ensures
    (seen_on (with_member c.args.index.now) view c.args.values.now c.loop-value.value-index c.value-item.result c.loop-value-test.true
    c.value-item.is _ _ _ (one_more c.args.index.now c.loop-value.taken (view c.value-item.result) _ (sym c.in_ok-name.ensures)) c.loop-value.invariant)

pub returns : goal.returns
returns c = seen_done (with_member c.args.index.now) view _ c.args.values.now c.loop-value.value-index _ c.loop-value-test.false c.loop-value.invariant
