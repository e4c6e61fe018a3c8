-- Trees as plain data, and their nodes in order of first bytes.
use Rattle.std.specs.Prelude.{ℕ, suc, max, ◌+◌, ◌≤◌, nat_lt, if◌then◌else◌, true, false, List, [], ◌∷◌, ◌++◌, length, slice_range}
use Rattle.kts_text.specs.declared.node.Node.{Node}

-- Trees that follow one another. A place counts the bytes of the text before it.
pub data Forest : Type 0 where
  none : Forest
  -- an atom: its place, its bytes, and the trees after it
  atom : ℕ → List ℕ → Forest → Forest
  -- a list: the place of its `(`, the place after its `)`, the trees inside it, and the trees after it
  list : ℕ → ℕ → Forest → Forest → Forest

abbrev pub atom_node : ℕ → ℕ → ℕ → Node
atom_node start end depth = record { start = start; end = end; inside = 0; depth = depth; atom = true }

-- a list with so many nodes inside
abbrev pub list_node : ℕ → ℕ → ℕ → ℕ → Node
list_node start end inside depth = record { start = start; end = end; inside = inside; depth = depth; atom = false }

-- the nodes of trees that stand in so many lists
abbrev pub flat : ℕ → Forest → List Node
flat depth none = []
flat depth (atom at bytes after) = atom_node at (at + length bytes) depth ∷ flat depth after
flat depth (list start end inside after) = list_node start end (length (flat (depth + 1) inside)) depth ∷ (flat (depth + 1) inside ++ flat depth after)

-- how deep the lists of trees nest
unfoldable pub nest : Forest → ℕ
nest none = 0
nest (atom at bytes after) = nest after
nest (list start end inside after) = max (suc (nest inside)) (nest after)

-- the node's place lies in a text of this length
pub record LiesWithin (size : ℕ) (node : Node) : Type 0 where
  pub forward : node.start ≤ node.end
  pub inside : node.end ≤ size

-- the tree of a node, with these trees inside it and after it
abbrev pub tree_of : List ℕ → Node → Forest → Forest → Forest
tree_of text node inside after = if node.atom then atom node.start (slice_range text node.start node.end) after else list node.start node.end inside after

-- the trees in so many lists at the front of the nodes: a node in fewer lists ends them, nodes in more lists belong to a tree before
unfoldable pub trees_at : List ℕ → ℕ → List Node → Forest
trees_at text depth [] = none
trees_at text depth (node ∷ nodes) =
    if nat_lt node.depth depth then none
    else (if nat_lt depth node.depth then trees_at text depth nodes
    else tree_of text node (trees_at text (depth + 1) nodes) (trees_at text depth nodes))
