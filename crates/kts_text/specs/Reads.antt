-- The trees of a file as a function of its bytes.
use Rattle.std.specs.Prelude.{ℕ, List, Result, Ok, Err}
use Rattle.kts_text.specs.Forest.{Forest, trees_at}
use Rattle.kts_text.specs.Ends.{nodes_read}
use Rattle.kts_text.specs.declared.node.Node.{Node}
use Rattle.kts_text.specs.Faults.{TreeFault}

-- the trees of these nodes
abbrev pub trees_from : List ℕ → Result (List Node) TreeFault → Result Forest TreeFault
trees_from bytes (Ok nodes) = Ok (trees_at bytes 0 nodes)
trees_from bytes (Err fault) = Err fault

-- the trees of a file, or its first fault
unfoldable pub trees_of : List ℕ → Result Forest TreeFault
trees_of bytes = trees_from bytes (nodes_read bytes)
