use Rattle.std.proofs.Common.{◌≡◌, sym, ◌∙◌, ap, ℕ, [], ◌∷◌, List, map, pos, Some, slice_get, arith}
use Rattle.std.specs.Prelude.{filter}
use Rattle.kts_abs.specs.Cells.{value_of}
use Rattle.kts_abs.specs.InSpace.{any_of}
use Rattle.kts_abs.specs.Values.{Abs}
use Rattle.kts_sets.specs.Sets.{not_below}
use Rattle.kts_spec.specs.Schedules.{all}
use Rattle.kts_machine.specs.Joins.{both_of}
use Rattle.kts_machine.specs.Reading.{value_at}
use Rattle.kts_machine.proofs.JoinedValues.{grid_begins, goes_on, is_over, next_member}
use Rattle.kts_machine.proofs.reads.Access.grid.Goals as goal

pub loop-from-init : goal.loop-from-init
loop-from-init g c =
    let self = c.args.self.now in
    let below = c.least-least.ensures.below in
    record {
      joined = grid_begins self.kind (value_at self) c.args.first.now c.args.last.now c.least-least.result (value_of c.line-cell.result) c.set-members.ensures.valid.set c.set-columns.ensures.valid.some c.least-least.ensures.first c.line-cell.ensures;
      within = omega (arith, below);
    }

pub loop-from-smaller : goal.loop-from-smaller
loop-from-smaller g c =
    let there : slice_get (filter (not_below c.loop-from.from) c.args.first.now) 0 ≡ Some c.in-Some.member =
    sym (c.from.ensures.least ∙ ap (λ l. slice_get (filter (not_below c.loop-from.from) l) 0) c.set-members.ensures.members) ∙ c.in-Some.is in
    let above = (next_member c.args.first.now c.loop-from.from c.in-Some.member c.set-members.ensures.valid.set there).above in
    let below = c.in-Some.ensures.below in
    omega (arith, above, below)

pub loop-from-preserved : goal.loop-from-preserved
loop-from-preserved g c =
    let there : slice_get (filter (not_below c.loop-from.from) c.args.first.now) 0 ≡ Some c.in-Some.member =
    sym (c.from.ensures.least ∙ ap (λ l. slice_get (filter (not_below c.loop-from.from) l) 0) c.set-members.ensures.members) ∙ c.in-Some.is in
    let self = c.args.self.now in
    let below = c.in-Some.ensures.below in
    let row : ℕ → List Abs = λ m. map (λ n. value_at self (pos m ∷ pos n ∷ [])) c.args.last.now in
    record {
      joined = goes_on self.kind row c.args.first.now (any_of self.kind (map (value_at self) (all (map pos c.args.first.now ∷ map pos c.args.last.now ∷ [])))) (value_of c.loop-from.cell) (value_of c.joined-cell.result) c.loop-from.from c.in-Some.member
          c.set-members.ensures.valid.set c.loop-from.invariant.joined there (c.joined-cell.ensures ∙ ap (both_of (value_of c.loop-from.cell)) c.line.ensures);
      within = omega (arith, below);
    }

pub returns : goal.returns
returns g c =
    let self = c.args.self.now in
    let row : ℕ → List Abs = λ m. map (λ n. value_at self (pos m ∷ pos n ∷ [])) c.args.last.now in
    is_over self.kind row c.args.first.now (any_of self.kind (map (value_at self) (all (map pos c.args.first.now ∷ map pos c.args.last.now ∷ [])))) (value_of c.loop-from.cell) c.loop-from.from c.loop-from.invariant.joined
    (sym (c.from.ensures.least ∙ ap (λ l. slice_get (filter (not_below c.loop-from.from) l) 0) c.set-members.ensures.members) ∙ c.in_default.is)
