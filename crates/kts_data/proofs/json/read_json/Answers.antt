use Rattle.std.proofs.Common.{inr}
use Rattle.serde_json.specs.View.{view}
use Rattle.kts_data.proofs.JsonLemmas.{not_utf8, is_json}
use Rattle.kts_data.proofs.json.read_json.Goals as goal

pub returns-in-Err : goal.returns-in-Err
returns-in-Err c = rw c.fail_whole.ensures (inr (not_utf8 c.args.bytes.now c.in-Err.ensures.cases.0))

pub returns-in-Ok-from_str : goal.returns-in-Ok-from_str
returns-in-Ok-from_str c = is_json c.args.bytes.now (view c.in-Ok-from_str.value) c.in-Ok.ensures.cases.1 (rw (c.in-Ok.ensures.cases.0) at c.in-Ok-from_str.ensures.ok)
