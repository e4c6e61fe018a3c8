use Rattle.std.proofs.Common.{refl, length}
use Rattle.std.proofs.lemmas.List.Elements.{All-take, All-drop}
use Rattle.kts_text.specs.Forest.{LiesWithin}
use Rattle.kts_text.proofs.CursorLemmas.{first_node, same_list}
use Rattle.kts_text.proofs.ForestLemmas.{trees_at-here}
use Rattle.kts_text.proofs.cursor.Siblings.front_of.Goals as goal

pub invariant_of-result : goal.invariant_of-result
invariant_of-result c = record {
  within = c.requires.rest;
  whole = (first_node c.args.text.now c.args.depth c.args.node c.args.rest.now c.requires.whole).after_atom c.if-node.true;
}

pub returns-then-node : goal.returns-then-node
returns-then-node c =
    let first = first_node c.args.text.now c.args.depth c.args.node c.args.rest.now c.requires.whole in
    rw (trees_at-here c.args.text.now c.args.depth c.args.node c.args.rest.now first.level, c.if-node.true, c.start.ensures, c.start-then-node.ensures, c.end.ensures) refl

pub split_at-requires : goal.split_at-requires
split_at-requires c = ((first_node c.args.text.now c.args.depth c.args.node c.args.rest.now c.requires.whole).after_list c.if-node.false).few

pub invariant_of-result-2 : goal.invariant_of-result-2
invariant_of-result-2 c =
    let first = first_node c.args.text.now c.args.depth c.args.node c.args.rest.now c.requires.whole in
    rw (c.split_at.ensures.front, first.level) (record {
      within = All-take (LiesWithin (length c.args.text.now)) c.args.node.inside c.args.rest.now c.requires.rest;
      whole = (first.after_list c.if-node.false).inside;
    })

pub invariant_of-result-3 : goal.invariant_of-result-3
invariant_of-result-3 c =
    let first = first_node c.args.text.now c.args.depth c.args.node c.args.rest.now c.requires.whole in
    rw c.split_at.ensures.back (record {
      within = All-drop (LiesWithin (length c.args.text.now)) c.args.node.inside c.args.rest.now c.requires.rest;
      whole = (first.after_list c.if-node.false).after;
    })

pub returns : goal.returns
returns c =
    let first = first_node c.args.text.now c.args.depth c.args.node c.args.rest.now c.requires.whole in
    let parts = first.after_list c.if-node.false in
    rw (trees_at-here c.args.text.now c.args.depth c.args.node c.args.rest.now first.level, c.if-node.false)
    (same_list c.start-2.ensures c.end-2.ensures (rw (c.split_at.ensures.front, first.level) parts.trees_inside) (rw c.split_at.ensures.back parts.trees_after))
