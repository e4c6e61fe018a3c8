-- What the values of this crate show: the trees that were read, and those at a cursor.
use Rattle.std.specs.Prelude.{ℕ, List, slice_range}
use Rattle.kts_text.specs.Forest.{Forest, none, atom, list, trees_at}
use Rattle.kts_text.specs.declared.node.Node.{Node}
use Rattle.kts_text.specs.declared.trees.Trees.{Trees}
use Rattle.kts_text.specs.declared.cursor.Siblings.{Siblings}
use Rattle.kts_text.specs.declared.cursor.Front.{Front}
use Rattle.kts_text.specs.declared.cursor.Front.TheVariants.{End, Atom, List as Inner}

-- the bytes of a node
abbrev pub node_bytes : List ℕ → Node → List ℕ
node_bytes text node = slice_range text node.start node.end

-- the trees that were read
abbrev pub trees_in : Trees → Forest
trees_in trees = trees_at trees.text.now 0 trees.nodes

-- the trees that are left at a cursor
abbrev pub trees_left : Siblings → Forest
trees_left siblings = trees_at siblings.text.now siblings.depth siblings.nodes.now

-- the first tree, with the trees after it
abbrev pub joined : Front → Forest
joined End = none
joined (Atom place bytes after) = atom place bytes.now (trees_left after)
joined (Inner start end inside after) = list start end (trees_left inside) (trees_left after)
