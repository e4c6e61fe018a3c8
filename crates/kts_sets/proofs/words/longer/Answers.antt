use Rattle.std.proofs.Common.{◌-◌, ℕ}
use Rattle.std.proofs.lemmas.List.{drop-replicate}
use Rattle.kts_sets.proofs.Pointwise.{has-append-zeros}
use Rattle.kts_sets.proofs.words.longer.Goals as goal

pub returns : goal.returns
returns g c = λ m. rw (c.copy_from_slice.ensures.after, drop-replicate {X = ℕ} g.row.W g.row.V 0) (has-append-zeros c.args.words.now (g.row.V - g.row.W) m)
