use Rattle.std.proofs.Common.{◌∙◌, ◌/◌, ◌%◌, refl, arith}
use Rattle.std.proofs.lemmas.List.{length-set}
use Rattle.kts_index.proofs.ArgumentDigits.{base_positive, width_positive}
use Rattle.kts_index.proofs.TupleMembers.{holds_more, holds_all}
use Rattle.kts_index.proofs.task.members_of.Goals as goal

pub returns : goal.returns
returns c =
    holds_all c.args.inst.now c.args.prefix.now c.args.number c.loop-k.members (let l = c.loop-k.invariant.long in let s = c.requires.indexes.few in omega arith)
    (λ j h. c.loop-k.invariant.same j (let t = c.loop-k-test.false in omega arith))

pub nonzero_div-members : goal.nonzero_div-members
nonzero_div-members c =
    let positive = width_positive c.args.inst.now c.args.prefix.now c.loop-k.k c.loop-k-test.true (let n = c.requires.number in omega arith) in
    omega (arith, positive, c.count.ensures)

pub nonzero_rem-members : goal.nonzero_rem-members
nonzero_rem-members c =
    let positive = base_positive c.args.inst.now c.args.prefix.now c.loop-k.k c.loop-k-test.true (let n = c.requires.number in omega arith) in
    omega (arith, positive, c.size.ensures)

pub loop-k-preserved : goal.loop-k-preserved
loop-k-preserved c =
    let i = c.loop-k.invariant in
    let v = c.args.number / c.count.result % c.size.result in
    let few = c.requires.indexes.few in
    record {
      long = length-set c.loop-k.members c.loop-k.k v ∙ i.long;
      same = holds_more c.args.inst.now c.args.prefix.now c.args.number c.loop-k.members c.loop-k.k v i.same (omega (arith, c.loop-k-test.true, few, i.long)) c.loop-k-test.true
          (rw (c.count.ensures, c.size.ensures) refl);
    }
