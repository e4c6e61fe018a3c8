use Rattle.std.proofs.Common.{◌≡◌, ◌∙◌, ap, true, []}
use Rattle.std.proofs.lemmas.Bool.{and_parts}
use Rattle.kts_syntax.specs.Fitting.{ast_fits, forms_fit}
use Rattle.kts_syntax.specs.Words.{is_word}
use Rattle.kts_check.specs.Forms.{declarations_in}
use Rattle.kts_check.proofs.SoundSpecs.{sound_schema, sound_spec}
use Rattle.kts_spec.specs.declared.schema.Schema.{Schema}
use Rattle.kts_check.proofs.Specified.{small_there}
use Rattle.kts_check.proofs.checker.specification.Goals as goal

pub table_after-requires-clause-fits : goal.table_after-requires-clause-fits
unfolding ast_fits
table_after-requires-clause-fits c =
    let fit = (and_parts (is_word c.args.forms.now.name) (forms_fit [] c.args.forms.now.forms) c.args.forms.now.fit).1 in
    ap (forms_fit []) (c.as_slice.ensures ∙ c.forms.ensures) ∙ fit

pub new-schema-requires : goal.new-schema-requires
unfolding ast_fits
new-schema-requires c =
    let word = (and_parts (is_word c.args.forms.now.name) (forms_fit [] c.args.forms.now.forms) c.args.forms.now.fit).0 in
    let named : is_word c.name.result ≡ true = ap is_word c.name.ensures ∙ word in
    rw c.new.ensures (sound_schema _ (declarations_in c.in_ok-table.table) c.name.result c.in_ok-table.ensures.sound named)

pub new-requires-2 : goal.new-requires-2
new-requires-2 c = sound_spec _ (declarations_in c.in_ok-table.table) c.new-schema.result c.in_ok-table.ensures.sound c.new-schema.ensures.indexes c.new-schema.ensures.givens c.new-schema.ensures.choices

pub returns-clause-small : goal.returns-clause-small
returns-clause-small c = rw c.new-2.ensures.formulas (small_there _ (declarations_in c.in_ok-table.table) c.new-schema.result c.in_ok-table.ensures.sound c.new-schema.ensures.indexes c.new-schema.ensures.givens c.new-schema.ensures.choices)

pub returns-clause-tasks : goal.returns-clause-tasks
returns-clause-tasks c = ap (λ (s : Schema). s.tasks) c.new-2.ensures.schema ∙ c.new-schema.ensures.tasks ∙ c.new.ensures
