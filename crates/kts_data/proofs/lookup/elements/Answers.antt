use Rattle.std.proofs.Common.{ap, map, Ok}
use Rattle.serde_json.specs.View.{view}
use Rattle.kts_data.specs.Json.{elements}
use Rattle.kts_data.proofs.JsonLemmas.{list_of-items_of}
use Rattle.kts_data.proofs.lookup.elements.Goals as goal

pub returns-in-Some : goal.returns-in-Some
unfolding elements
returns-in-Some c = rw (← c.in-Some.ensures, c.as_slice.ensures.value) (ap Ok (list_of-items_of (map view c.in-Some.list.now.items)))
