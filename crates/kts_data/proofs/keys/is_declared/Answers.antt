use Rattle.std.proofs.Common.{◌≡◌, ◌∙◌, sym, false}
use Rattle.kts_spec.specs.Names.{is_among}
use Rattle.kts_data.proofs.KeyLemmas.{among_both}
use Rattle.kts_data.proofs.keys.is_declared.Goals as goal

pub returns-else-is_name_among : goal.returns-else-is_name_among
returns-else-is_name_among c =
    let none : is_among c.args.indexes.now c.args.key.now ≡ false = sym c.is_name_among.ensures ∙ c.if-is_name_among.false in
    let e = rw none at (among_both c.args.indexes.now c.args.families.now c.args.key.now) in
    c.is_family_among.ensures ∙ sym e
