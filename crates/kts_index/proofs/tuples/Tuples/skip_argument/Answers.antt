use Rattle.std.proofs.Common.{◌≡◌, ℕ, ◌<◌, arith}
use Rattle.kts_index.proofs.ArgumentDigits.{argument_skip_taken, no_place, no_member, base_positive, width_positive, block_few}
use Rattle.kts_index.proofs.tuples.Tuples.skip_argument.Goals as goal

-- a positive number is that of the tuples
counted : (n c k : ℕ) → n < c → c ≡ k → 0 < k
counted n c k h e = omega arith

pub returns-then-place-self : goal.returns-then-place-self
returns-then-place-self c = rw c.in-Some.is (no_place c.args.self.now.inst.now c.args.self.now.prefix.now c.in-Some.place c.args.member c.args.from c.args.self.now.count c.if-place-self.true c.requires)

pub returns-then-member-base : goal.returns-then-member-base
returns-then-member-base c =
    let n = c.args.self.now in
    rw c.in-Some.is (no_member n.inst.now n.prefix.now c.in-Some.place c.if-place-self.false c.args.member c.args.from n.count
    (base_positive n.inst.now n.prefix.now c.in-Some.place c.if-place-self.false (counted c.args.from n.count _ c.requires n.counted))
    (rw c.size-base.ensures at c.if-member-base.true) c.requires)

pub first_with_digit-requires-clause-width : goal.first_with_digit-requires-clause-width
first_with_digit-requires-clause-width c =
    let n = c.args.self.now in
    rw c.count-width.ensures (width_positive n.inst.now n.prefix.now c.in-Some.place c.if-place-self.false (counted c.args.from n.count _ c.requires n.counted))

pub first_with_digit-requires-clause-block : goal.first_with_digit-requires-clause-block
first_with_digit-requires-clause-block c =
    let n = c.args.self.now in
    rw (c.size-base.ensures, c.count-width.ensures) (block_few n.inst.now n.prefix.now c.in-Some.place c.if-place-self.false n.count (omega arith) n.counted n.few)

pub returns : goal.returns
returns c =
    let n = c.args.self.now in
    rw c.in-Some.is (argument_skip_taken n.inst.now n.prefix.now c.in-Some.place c.if-place-self.false c.args.member c.args.from c.first_with_digit.result
    (rw (← c.size-base.ensures, ← c.count-width.ensures) c.first_with_digit.ensures.skip))
