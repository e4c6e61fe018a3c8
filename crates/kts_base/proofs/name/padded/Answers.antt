use Rattle.std.proofs.Common.{◌∙◌, ap, length, drop, replicate}
use Rattle.std.proofs.lemmas.List.{drop_at, drop-replicate}
use Rattle.kts_base.proofs.name.padded.Goals as goal

pub returns-clause-rest : goal.returns-clause-rest
returns-clause-rest c =
    let count = length c.args.bytes.now in
    drop_at c.copy_from_slice.new.self (drop count (replicate 40 0)) count (ap length c.copy_from_slice.ensures.after) ∙ drop-replicate count 40 0
