use Rattle.std.proofs.Common.{◌-◌, length, arith, ◌∙◌, ap, sym, SFits, w64, rules}
use Rattle.std.proofs.lemmas.Int.{to_z-of_z}
use Rattle.kts_spec.specs.Worlds.{world_of}
use Rattle.kts_index.proofs.BoundSums.{rises-int, rises-member, ends_near}
use Rattle.kts_spec.proofs.Conditions.{instance_facts}
use Rattle.kts_spec.proofs.TypedAccesses.{few_members}
use Rattle.kts_index.proofs.bound.rises_of.Goals as goal

pub returns-in-Int-clause-value : goal.returns-in-Int-clause-value
returns-in-Int-clause-value c =
    let f : SFits w64 c.in-Int.hi = search rules in
    let g : SFits w64 c.in-Int.lo = search rules in
    let e = rw (to_z-of_z w64 c.in-Int.hi f, to_z-of_z w64 c.in-Int.lo g) at c.distance.ensures in
    rw c.in-Int.is (e ∙ sym (rises-int (world_of c.args.schema.now c.args.inst.now) c.in-Int.lo c.in-Int.hi))

pub returns-in-Int-clause-few : goal.returns-in-Int-clause-few
returns-in-Int-clause-few c =
    let f : SFits w64 c.in-Int.hi = search rules in
    let g : SFits w64 c.in-Int.lo = search rules in
    let e = rw (to_z-of_z w64 c.in-Int.hi f, to_z-of_z w64 c.in-Int.lo g) at c.distance.ensures in
    let h = ends_near (length c.args.inst.now.members) c.in-Int.lo c.in-Int.hi (rw c.in-Int.is at c.requires.kind) in
    omega (arith, e)

pub returns-in-Member-clause-value : goal.returns-in-Member-clause-value
returns-in-Member-clause-value c = rw c.in-Member.is (c.saturating_sub.ensures ∙ (ap (λ n. n - 1) c.size.ensures ∙ sym (rises-member (world_of c.args.schema.now c.args.inst.now) c.in-Member.index)))

pub returns-in-Member-clause-few : goal.returns-in-Member-clause-few
returns-in-Member-clause-few c =
    let inst = c.args.inst.now in
    let h = few_members inst.members c.in-Member.index (instance_facts c.args.schema.now inst c.requires.valid).members in
    omega (arith, c.saturating_sub.ensures, c.size.ensures)
