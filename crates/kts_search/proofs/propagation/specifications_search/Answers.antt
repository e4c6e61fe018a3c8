use Rattle.kts_search.proofs.CodeParts.{specifications_search}
use Rattle.kts_search.proofs.propagation.specifications_search.Goals as goal

pub returns : goal.returns
returns c = specifications_search
