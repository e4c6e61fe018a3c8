use Rattle.std.proofs.Common.{◌∙◌, sym}
use Rattle.kts_abs.proofs.Unions.{union_some, union-at, chosen}
use Rattle.kts_abs.proofs.arithmetic.union.Goals as goal

pub unwrap-requires : goal.unwrap-requires
unwrap-requires g c = c.new.ensures.some.1 (λ e.
    union_some c.args.a.now c.args.b.now c.set.ensures.valid c.set-2.ensures.valid
    (sym (union-at c.args.a.now c.args.b.now _ _ c.join_sets.result c.join_sets.ensures c.set.ensures.members c.set-2.ensures.members) ∙ e))

pub returns : goal.returns
returns g c =
    chosen c.join_sets.result c.unwrap.result (sym c.unwrap.ensures ∙ c.new.ensures.choice)
    ∙ union-at c.args.a.now c.args.b.now _ _ c.join_sets.result c.join_sets.ensures c.set.ensures.members c.set-2.ensures.members
