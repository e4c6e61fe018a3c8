use Rattle.std.proofs.Common.{◌+◌, arith, sym, ◌∙◌, ap, subst, List, ℕ, [], ◌∷◌, map, pos}
use Rattle.std.proofs.lemmas.Result.{err_from_is_err_and}
use Rattle.kts_base.specs.Writes.{Part}
use Rattle.kts_base.proofs.Pieces.{starts, goes_on, stops}
use Rattle.kts_sets.specs.Choices.{IsChoice}
use Rattle.kts_abs.specs.Values.{Mem}
use Rattle.kts_abs.specs.NodeTexts.{range_text}
use Rattle.kts_show.proofs.SetMembers.{first_kept, left_from, all_left, left_here, left_end, finishes}
use Rattle.kts_show.proofs.known.put_members.Goals as goal

pub loop-m-init : goal.loop-m-init
loop-m-init g c =
    let names = c.args.names.now in
    let whole = range_text names (Mem (map pos c.args.choice.now)) in
    let log = g.S.Sink.log c.args.out.now in
    subst (λ (left : List ℕ). Part log log left whole) (sym (ap (left_from names (123 ∷ []) 0) c.set-set.ensures.members ∙ all_left names c.args.choice.now c.set-set.ensures.valid)) (starts log whole)

pub returns-in_err-put_pieces : goal.returns-in_err-put_pieces
returns-in_err-put_pieces g c =
    let p = err_from_is_err_and c.from_residual.result c.from_residual.ensures.1 in
    let names = c.args.names.now in
    let set = c.set-set.result in
    let choice : IsChoice set = subst IsChoice (sym c.set-set.ensures.members) c.set-set.ensures.valid in
    let here = left_here names c.loop-m.before.now c.loop-m.next c.in-Some.m set choice (sym c.in-Some.ensures.least) in
    rw p.1 (stops (left_from names (44 ∷ []) (c.in-Some.m + 1) set) c.loop-m.invariant here (rw c.name_at.ensures at c.in_err-put_pieces.ensures))

pub loop-m-preserved : goal.loop-m-preserved
loop-m-preserved g c =
    let names = c.args.names.now in
    let set = c.set-set.result in
    let choice : IsChoice set = subst IsChoice (sym c.set-set.ensures.members) c.set-set.ensures.valid in
    let here = left_here names c.loop-m.before.now c.loop-m.next c.in-Some.m set choice (sym c.in-Some.ensures.least) in
    goes_on (left_from names (44 ∷ []) (c.in-Some.m + 1) set) c.loop-m.invariant here (rw c.name_at.ensures at c.in_ok-put_pieces.ensures)

pub returns : goal.returns
returns g c =
    let none = sym c.in_default.ensures.least in
    finishes c.put.result _ (125 ∷ []) c.loop-m.invariant (left_end c.args.names.now c.loop-m.before.now c.loop-m.next c.set-set.result none) c.put.ensures.wrote

pub loop-m-smaller : goal.loop-m-smaller
loop-m-smaller g c =
    let below = c.in-Some.ensures.below in
    let least = sym c.in-Some.ensures.least in
    let set = c.set-set.result in
    let first = first_kept c.loop-m.next c.in-Some.m set least in
    omega (arith, below, first)
