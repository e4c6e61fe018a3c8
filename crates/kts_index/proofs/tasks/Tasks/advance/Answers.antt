use Rattle.std.proofs.Common.{◌≡◌, ℕ, ◌<◌, length, sym, ap, ◌∙◌, arith}
use Rattle.kts_index.proofs.CursorTurns.{none_left, turn_after, turn_found, turn_none}
use Rattle.kts_index.proofs.tasks.Tasks.advance.Goals as goal

-- a turn stands before the end
inside : (i k n : ℕ) → i < n → n ≡ k → i < k
inside i k n h e = omega arith

pub returns-then-found-count : goal.returns-then-found-count
returns-then-found-count c =
    let t = c.of_constraint-tuples in
    let i = inside c.loop-self.self-inside.definite _ c.len.result c.loop-self-test.true (c.len.ensures ∙ ap length c.tasks.ensures) in
    sym c.loop-self.invariant.same
    ∙ turn_found c.loop-self.self-inside c.loop-self.invariant.place i t.result t.ensures.inst t.ensures.prefix c.count-count.result c.count-count.ensures.value
    c.group_end-end.result c.first_paired-found.result c.group_end-end.ensures.group c.first_paired-found.ensures c.if-found-count.true

pub returns : goal.returns
returns c =
    let w = c.loop-self.invariant.place.within in
    let ended = none_left c.loop-self.self-inside c.loop-self.invariant.place (omega (arith, c.len.ensures, ap length c.tasks.ensures)) in
    (sym c.loop-self.invariant.same ∙ ended, ended)

pub loop-self-preserved : goal.loop-self-preserved
loop-self-preserved c =
    let s = c.loop-self.self-inside in
    let t = c.of_constraint-tuples in
    let p = c.loop-self.invariant.place in
    let i = inside s.definite _ c.len.result c.loop-self-test.true (c.len.ensures ∙ ap length c.tasks.ensures) in
    record {
      place = turn_after s p i t.result t.ensures.inst t.ensures.prefix c.count-count.result c.count-count.ensures.value;
      search = record { sorted = c.loop-self.invariant.search.sorted; within = c.next_group-self-inside.ensures.within; before = c.next_group-self-inside.ensures.before };
      same = sym (turn_none s p i t.result t.ensures.inst t.ensures.prefix c.count-count.result c.count-count.ensures.value
          c.group_end-end.result c.first_paired-found.result c.group_end-end.ensures.group c.first_paired-found.ensures c.if-found-count.false)
          ∙ c.loop-self.invariant.same;
    }
