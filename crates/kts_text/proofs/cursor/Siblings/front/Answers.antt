use Rattle.std.proofs.Common.{◌≡◌, refl, ℕ, List, [], ◌∷◌, length, arith}
use Rattle.std.proofs.lemmas.List.Elements.{All-take, All-drop}
use Rattle.kts_text.specs.Forest.{LiesWithin, none, trees_at}
use Rattle.kts_text.specs.declared.node.Node.{Node}
use Rattle.kts_text.proofs.cursor.Siblings.front.Goals as goal

no_trees : (text : List ℕ) (depth : ℕ) (nodes : List Node) → length nodes ≡ 0 → none ≡ trees_at text depth nodes
unfolding trees_at
no_trees text depth [] empty = refl
no_trees text depth (node ∷ nodes) empty = absurd (omega arith)

pub returns-then-self-eq0 : goal.returns-then-self-eq0
returns-then-self-eq0 c = no_trees c.args.self.now.text.now c.args.self.now.depth c.args.self.now.nodes.now c.if-self-eq0.true

pub front_of-requires-clause-rest : goal.front_of-requires-clause-rest
front_of-requires-clause-rest c =
    let P = LiesWithin (length c.args.self.now.text.now) in
    All-take P _ _ (All-drop P 1 c.args.self.now.nodes.now c.args.self.now.within)
