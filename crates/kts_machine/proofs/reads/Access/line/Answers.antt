use Rattle.std.proofs.Common.{◌≡◌, sym, ◌∙◌, ap, ℕ, [], ◌∷◌, map, Some, slice_get, arith}
use Rattle.std.specs.Prelude.{filter}
use Rattle.kts_abs.specs.Cells.{value_of}
use Rattle.kts_abs.specs.InSpace.{any_of}
use Rattle.kts_abs.specs.Values.{Abs}
use Rattle.kts_sets.specs.Sets.{not_below}
use Rattle.kts_machine.specs.Items.{positions_of, tuple_of}
use Rattle.kts_machine.specs.Joins.{both_of}
use Rattle.kts_machine.specs.Reading.{value_at}
use Rattle.kts_machine.proofs.JoinedValues.{line_begins, goes_on, is_over, next_member}
use Rattle.kts_machine.proofs.reads.Access.line.Goals as goal

pub loop-from-init : goal.loop-from-init
loop-from-init g c =
    let self = c.args.self.now in
    let below = c.least-least.ensures.below in
    let read : ℕ → Abs = λ m. value_at self (positions_of (tuple_of c.args.first m)) in
    let first = c.at-cell.ensures ∙ ap (λ t. any_of self.kind (value_at self (positions_of t) ∷ [])) c.tuple_of.ensures in
    record {
      joined = line_begins self.kind read c.args.last.now c.least-least.result (value_of c.at-cell.result) c.set-members.ensures.valid.set c.least-least.ensures.first first;
      within = omega (arith, below);
    }

pub loop-from-smaller : goal.loop-from-smaller
loop-from-smaller g c =
    let there : slice_get (filter (not_below c.loop-from.from) c.args.last.now) 0 ≡ Some c.in-Some.member =
    sym (c.from.ensures.least ∙ ap (λ l. slice_get (filter (not_below c.loop-from.from) l) 0) c.set-members.ensures.members) ∙ c.in-Some.is in
    let above = (next_member c.args.last.now c.loop-from.from c.in-Some.member c.set-members.ensures.valid.set there).above in
    let below = c.in-Some.ensures.below in
    omega (arith, above, below)

pub loop-from-preserved : goal.loop-from-preserved
loop-from-preserved g c =
    let there : slice_get (filter (not_below c.loop-from.from) c.args.last.now) 0 ≡ Some c.in-Some.member =
    sym (c.from.ensures.least ∙ ap (λ l. slice_get (filter (not_below c.loop-from.from) l) 0) c.set-members.ensures.members) ∙ c.in-Some.is in
    let self = c.args.self.now in
    let below = c.in-Some.ensures.below in
    let read : ℕ → Abs = λ m. value_at self (positions_of (tuple_of c.args.first m)) in
    let next = c.at.ensures ∙ ap (λ t. any_of self.kind (value_at self (positions_of t) ∷ [])) c.tuple_of-in-Some.ensures in
    record {
      joined = goes_on self.kind (λ m. read m ∷ []) c.args.last.now (any_of self.kind (map read c.args.last.now)) (value_of c.loop-from.cell) (value_of c.joined-cell.result) c.loop-from.from c.in-Some.member
          c.set-members.ensures.valid.set c.loop-from.invariant.joined there (c.joined-cell.ensures ∙ ap (both_of (value_of c.loop-from.cell)) next);
      within = omega (arith, below);
    }

pub returns : goal.returns
returns g c =
    let self = c.args.self.now in
    let read : ℕ → Abs = λ m. value_at self (positions_of (tuple_of c.args.first m)) in
    is_over self.kind (λ m. read m ∷ []) c.args.last.now (any_of self.kind (map read c.args.last.now)) (value_of c.loop-from.cell) c.loop-from.from c.loop-from.invariant.joined
    (sym (c.from.ensures.least ∙ ap (λ l. slice_get (filter (not_below c.loop-from.from) l) 0) c.set-members.ensures.members) ∙ c.in_default.is)
