-- Nodes whose lists have no end yet, and what is read of a whole file.
use Rattle.std.specs.Prelude.{ℕ, zero, suc, ◌+◌, ◌-◌, List, [], ◌∷◌, ◌++◌, length, Result, Ok, Err}
use Rattle.kts_text.specs.Faults.{TreeFault, tree_fault}
use Rattle.kts_text.specs.Scan.{Ending, Read, scan}
use Rattle.kts_text.specs.declared.node.Node.{Node}
use Rattle.kts_text.specs.declared.fault.TreeKind.TheVariants.{Empty}
use Rattle.kts_text.specs.declared.scan.Mode.TheVariants.{Outside}

-- the nodes, of which this one has this end and so many nodes inside
unfoldable pub set_end : List Node → ℕ → ℕ → ℕ → List Node
set_end [] number end inside = []
set_end (node ∷ nodes) zero end inside = record { start = node.start; end = end; inside = inside; depth = node.depth; atom = node.atom } ∷ nodes
set_end (node ∷ nodes) (suc number) end inside = node ∷ set_end nodes number end inside

-- the nodes so far and those to come, where the lists with these numbers end so
unfoldable pub fill : List Node → List ℕ → List Node → List Ending → List Node
fill nodes [] more ends = nodes ++ more
fill nodes (number ∷ lists) more [] = nodes ++ more
fill nodes (number ∷ lists) more (end ∷ ends) = fill (set_end nodes number end.place (length nodes - number - 1 + end.nodes)) lists more ends

abbrev pub filled : List Node → List ℕ → Read → Result (List Node) TreeFault
filled nodes lists (Ok read) = Ok (fill nodes lists read.0 read.1)
filled nodes lists (Err fault) = Err fault

abbrev pub some_nodes : ℕ → List Node → Result (List Node) TreeFault
some_nodes at [] = Err (tree_fault Empty at)
some_nodes at (node ∷ nodes) = Ok (node ∷ nodes)

abbrev pub not_empty : ℕ → Result (List Node) TreeFault → Result (List Node) TreeFault
not_empty at (Ok nodes) = some_nodes at nodes
not_empty at (Err fault) = Err fault

-- the nodes of a file, or its first fault
unfoldable pub nodes_read : List ℕ → Result (List Node) TreeFault
nodes_read bytes = not_empty (length bytes) (filled [] [] (scan (Outside 0) 0 0 bytes))
