use Rattle.std.proofs.Common.{◌≡◌, ap, subst, arith, List, ℕ}
use Rattle.std.specs.Prelude.{IfOk}
use Rattle.kts_machine.specs.Items.{items_of}
use Rattle.kts_machine.proofs.WokenTasks.{owner_few, owner_readers}
use Rattle.kts_machine.proofs.readers.readers_of.Goals as goal

pub overflow_cast-choice : goal.overflow_cast-choice
overflow_cast-choice c =
    let few = owner_few c.args.code.now c.args.inst.now c.args.k c.owner-x.result.0 c.schema.result.now (items_of c.owner-x.result.1) c.schema.ensures c.owner-x.ensures c.requires.valid in
    omega (arith, few)

pub returns-in-Zero : goal.returns-in-Zero
returns-in-Zero c = subst (λ (l : List ℕ). IfOk c.readers_at.result (λ list. list ≡ l))
    (owner_readers c.args.code.now c.args.inst.now c.args.k c.owner-x.result.0 c.schema.result.now (items_of c.owner-x.result.1) c.schema.ensures c.owner-x.ensures _ (ap items_of c.in-Zero.is)) c.readers_at.ensures

pub returns-in-One : goal.returns-in-One
returns-in-One c = subst (λ (l : List ℕ). IfOk c.readers_at-in-One.result (λ list. list ≡ l))
    (owner_readers c.args.code.now c.args.inst.now c.args.k c.owner-x.result.0 c.schema.result.now (items_of c.owner-x.result.1) c.schema.ensures c.owner-x.ensures _ (ap items_of c.in-One.is)) c.readers_at-in-One.ensures

pub returns-in-Two : goal.returns-in-Two
returns-in-Two c = subst (λ (l : List ℕ). IfOk c.readers_at-in-Two.result (λ list. list ≡ l))
    (owner_readers c.args.code.now c.args.inst.now c.args.k c.owner-x.result.0 c.schema.result.now (items_of c.owner-x.result.1) c.schema.ensures c.owner-x.ensures _ (ap items_of c.in-Two.is)) c.readers_at-in-Two.ensures
