use Rattle.kts_top.proofs.TypedRuns.{typed_classified}
use Rattle.kts_top.proofs.law.typed_files_are_classified.Goals as goal

pub returns : goal.returns
returns c = typed_classified c.grammar_law.ensures.shallow c.reading_law.ensures.fit c.reading_law.ensures.shallow c.specifications_law.ensures
