-- What one pass over the bytes gives, by cases on the bytes from the left. Where open lists end comes from the right.
use Rattle.std.specs.Prelude.{ℕ, ◌+◌, ◌-◌, ◌==◌, nat_le, if◌then◌else◌, List, [], ◌∷◌, Result, Ok, Err}
use Rattle.kts_base.specs.Limits.{most_atom_bytes, most_nesting}
use Rattle.kts_text.specs.Bytes.{class, line_feed}
use Rattle.kts_text.specs.Faults.{TreeFault, tree_fault}
use Rattle.kts_text.specs.Forest.{atom_node, list_node}
use Rattle.kts_text.specs.declared.class.Class.{Class}
use Rattle.kts_text.specs.declared.class.Class.TheVariants.{White, Semicolon, Open, Close, Letter, Bad}
use Rattle.kts_text.specs.declared.node.Node.{Node}
use Rattle.kts_text.specs.declared.fault.TreeKind.TheVariants.{BadByte, LongAtom, Deep, Extra, Unclosed}
use Rattle.kts_text.specs.declared.scan.Mode.{Mode}
use Rattle.kts_text.specs.declared.scan.Mode.TheVariants.{Comment, Outside}

-- Where an open list ends: the place after its `)`, and how many nodes begin before that.
pub record Ending : Type 0 where
  pub place : ℕ
  pub nodes : ℕ

-- the nodes that begin in what is left, and where the lists that are open end, the innermost first
abbrev pub Read : Type 0
Read = Result (List Node × List Ending) TreeFault

-- so many nodes more before each end
abbrev pub after_nodes : ℕ → List Ending → List Ending
after_nodes count [] = []
after_nodes count (end ∷ ends) = record { place = end.place; nodes = count + end.nodes } ∷ after_nodes count ends

-- one letter more, and none where the byte is no letter
abbrev pub letter_more : Class → ℕ → ℕ
letter_more White count = 0
letter_more Semicolon count = 0
letter_more Open count = 0
letter_more Close count = 0
letter_more Letter count = count + 1
letter_more Bad count = 0

-- how many letters stand at the front
abbrev pub letters_in_front : List ℕ → ℕ
letters_in_front [] = 0
letters_in_front (byte ∷ bytes) = letter_more (class byte) (letters_in_front bytes)

-- a node in front of what is read
abbrev pub with_node : Node → Read → Read
with_node node (Ok read) = Ok (node ∷ read.0, after_nodes 1 read.1)
with_node node (Err fault) = Err fault

-- a list in front, which takes the first of the ends
abbrev pub list_ended : ℕ → ℕ → List Node → List Ending → List Node × List Ending
list_ended at depth nodes [] = (list_node at at 0 depth ∷ nodes, [])
list_ended at depth nodes (end ∷ ends) = (list_node at end.place end.nodes depth ∷ nodes, after_nodes 1 ends)

abbrev pub opened : ℕ → ℕ → Read → Read
opened at depth (Ok read) = Ok (list_ended at depth read.0 read.1)
opened at depth (Err fault) = Err fault

abbrev pub closed : ℕ → Read → Read
closed end (Ok read) = Ok (read.0, record { place = end; nodes = 0 } ∷ read.1)
closed end (Err fault) = Err fault

-- a letter after so many of the same atom; the first of them is the atom's node
unfoldable pub letter : ℕ → ℕ → ℕ → ℕ → Read → Read
letter before depth at size rest =
    if nat_le most_atom_bytes before then Err (tree_fault LongAtom at)
    else (if before == 0 then with_node (atom_node at (at + size) depth) rest else rest)

-- a byte outside comments, after so many letters of an atom
unfoldable pub outside : ℕ → Class → ℕ → ℕ → ℕ → (Mode → ℕ → Read) → Read
outside before White depth at size go = go (Outside 0) depth
outside before Semicolon depth at size go = go Comment depth
outside before Open depth at size go = if depth == most_nesting then Err (tree_fault Deep at) else opened at depth (go (Outside 0) (depth + 1))
outside before Close depth at size go = if depth == 0 then Err (tree_fault Extra at) else closed (at + 1) (go (Outside 0) (depth - 1))
outside before Letter depth at size go = letter before depth at size (go (Outside (before + 1)) depth)
outside before Bad depth at size go = Err (tree_fault BadByte at)

-- a byte; `size` is the number of letters from here on, and `go` reads what follows
unfoldable pub step : Mode → ℕ → ℕ → ℕ → ℕ → (Mode → ℕ → Read) → Read
step Comment byte depth at size go = if byte == line_feed then go (Outside 0) depth else go Comment depth
step (Outside before) byte depth at size go = outside before (class byte) depth at size go

-- the bytes from a place on, in so many open lists
unfoldable pub scan : Mode → ℕ → ℕ → List ℕ → Read
scan mode depth at [] = if depth == 0 then Ok ([], []) else Err (tree_fault Unclosed at)
scan mode depth at (byte ∷ bytes) = step mode byte depth at (letters_in_front (byte ∷ bytes)) (λ next deep. scan next deep (at + 1) bytes)
