use Rattle.std.proofs.Common.{◌∙◌, sym}
use Rattle.kts_base.specs.Limits.{most_nesting}
use Rattle.kts_syntax.proofs.Nesting.{front_within, later_forms_within}
use Rattle.kts_syntax.proofs.TopFits.{parts_fit}
use Rattle.kts_syntax.proofs.reader.forms_of.Goals as goal

pub new-requires-clause-fit : goal.new-requires-clause-fit
new-requires-clause-fit c = rw c.name.ensures (parts_fit _ _ _ c.in_ok-word-in-List.word c.in_ok-forms-in-List.forms (sym c.spec_name.ensures ∙ c.in_ok-word-in-List.was) c.in_ok-forms-in-List.ensures)

pub new-requires-clause-shallow : goal.new-requires-clause-shallow
new-requires-clause-shallow c =
    front_within _ _ most_nesting _ _ _ c.in_ok-forms-in-List.forms (c.in-List.ensures ∙ c.all-all.ensures) c.args.trees.now.shallow (later_forms_within _ _ c.in_ok-forms-in-List.forms c.in_ok-forms-in-List.ensures)
