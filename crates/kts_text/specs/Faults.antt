-- What is wrong with a text of trees, and want of memory, which is the one fault that no text has.
use Rattle.std.specs.Prelude.{◌≡◌, ℕ, List, codes}
use Rattle.kts_base.specs.declared.fault.Fault.{Fault}
use Rattle.kts_text.specs.declared.fault.TreeKind.{TreeKind}
use Rattle.kts_text.specs.declared.fault.TreeKind.TheVariants.{BadByte, LongAtom, Deep, Extra, Unclosed, Empty, NoMemory}

abbrev pub TreeFault : Type 0
TreeFault = Fault TreeKind

-- a fault of a kind at a place
abbrev pub tree_fault : TreeKind → ℕ → TreeFault
tree_fault kind at = record { kind = kind; at = at }

-- the text by which a kind is printed
abbrev pub kind_text : TreeKind → List ℕ
kind_text BadByte = codes "BadByte"
kind_text LongAtom = codes "LongAtom"
kind_text Deep = codes "Deep"
kind_text Extra = codes "Extra"
kind_text Unclosed = codes "Unclosed"
kind_text Empty = codes "Empty"
kind_text NoMemory = codes "NoMemory"

-- memory was refused
abbrev pub IsNoMemory : TreeFault → Type 0
IsNoMemory fault = fault ≡ tree_fault NoMemory 0
