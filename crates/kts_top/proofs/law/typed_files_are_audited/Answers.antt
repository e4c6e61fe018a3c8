use Rattle.kts_top.proofs.TypedRuns.{typed_audited}
use Rattle.kts_top.proofs.law.typed_files_are_audited.Goals as goal

pub returns : goal.returns
returns c = typed_audited c.grammar_law.ensures.shallow c.reading_law.ensures.fit c.reading_law.ensures.shallow c.specifications_law.ensures
