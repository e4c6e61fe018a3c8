use Rattle.kts_syntax.proofs.GrammarResults.{found_from, only_from, first_from}
use Rattle.kts_syntax.proofs.reader.read_forms.Goals as goal

pub returns : goal.returns
returns c =
    let read = c.forms_of.ensures in
    record { value = read; found = found_from _ _ read; only = only_from _ _ read; first = first_from _ _ read }
