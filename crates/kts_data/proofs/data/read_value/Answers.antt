use Rattle.std.proofs.Common.{◌∙◌, inr}
use Rattle.serde_json.specs.View.{view, members_view}
use Rattle.kts_data.proofs.ObjectLemmas.{data_key}
use Rattle.kts_data.proofs.data.read_value.Goals as goal

pub returns-in-Some-unknown_key : goal.returns-in-Some-unknown_key
returns-in-Some-unknown_key c =
    let unknown = rw (c.as_slice.ensures ∙ c.indexes.ensures, c.as_slice-2.ensures ∙ c.givens.ensures) at c.in-Some-unknown_key.ensures in
    rw c.fail_whole-in-Some-unknown_key.ensures
    (inr (data_key c.args.schema.now (view c.args.value.now) (members_view c.in-Some.object.now.entries) c.in_ok-inst.inst c.in-Some-unknown_key.k
    c.in-Some.ensures c.in_ok-inst.ensures.says unknown))
