use Rattle.std.proofs.Common.{◌≤◌, ◌∙◌, sym, length, map, take, reverse, arith, ap}
use Rattle.std.proofs.lemmas.List.{length-map, drop-map}
use Rattle.kts_machine.specs.OperandViews.{shown}
use Rattle.kts_machine.specs.Parts.{Operands}
use Rattle.kts_machine.proofs.StackTops.{dropped_tops, tops_length}
use Rattle.kts_machine.proofs.stack.Stack.drop_top.Goals as goal

pub returns : goal.returns
returns g c =
    let places = c.self.inside.places.items in
    let used = c.self.inside.used in
    let few = rw (← c.self.view_is) at c.requires in
    let same = length-map (reverse (take used places)) shown in
    let fit = tops_length places used c.self.invariant in
    let le : c.args.count ≤ used = omega (arith, few, same, fit) in
    let all = ap (map shown) (dropped_tops places used c.args.count le c.self.invariant) ∙ sym (drop-map shown c.args.count (reverse (take used places))) in
    rw (← c.self.view_is) (ap (λ l. let s : Operands = record { room = length places; items = l } in s) all)
