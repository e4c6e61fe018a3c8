use Rattle.kts_top.proofs.TypedRuns.{typed_solved}
use Rattle.kts_top.proofs.law.typed_files_are_solved.Goals as goal

pub returns : goal.returns
returns c =
    typed_solved c.grammar_law.ensures.shallow c.reading_law.ensures.fit c.reading_law.ensures.shallow c.specifications_law.ensures
    c.whole_code_is_there.ensures c.whole_code_searches.ensures c.progress_law.ensures.whole c.progress_law.ensures.stopped c.data_law.ensures c.code_files_law.ensures
