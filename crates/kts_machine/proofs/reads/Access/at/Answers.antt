use Rattle.std.proofs.Common.{sym, ◌∙◌, rules, arith}
use Rattle.kts_machine.specs.Items.{positions_of}
use Rattle.kts_machine.proofs.reads.Access.at.Goals as goal

pub value-requires : goal.value-requires
value-requires g c =
    let one = c.requires.access.one_word in
    let few = c.requires.access.few_words in
    (omega arith, (search rules, (one, (few, c.requires.access.kinds (positions_of c.args.tuple) c.in-Some.at (sym c.place.ensures ∙ c.in-Some.is)))))
