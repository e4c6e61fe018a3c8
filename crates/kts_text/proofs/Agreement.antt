-- What is read as nodes is what the grammar has as trees.
use Rattle.std.proofs.Common.{◌≡◌, refl, sym, ◌∙◌, ap, subst, ℕ, List, length, Result, Ok, Err}
use Rattle.std.specs.Prelude.{All}
use Rattle.std.proofs.lemmas.List.Elements.{All-same}
use Rattle.kts_text.specs.Ends.{nodes_read}
use Rattle.kts_text.specs.Faults.{TreeFault}
use Rattle.kts_text.specs.FirstFault.{IsFirstFault}
use Rattle.kts_text.specs.Forest.{Forest, flat, trees_at, LiesWithin}
use Rattle.kts_text.specs.Grammar.{TreesOf}
use Rattle.kts_text.specs.Reads.{trees_of, trees_from}
use Rattle.kts_text.specs.declared.node.Node.{Node}
use Rattle.kts_text.proofs.Completeness.{complete}
use Rattle.kts_text.proofs.FaultPlaces.{first_fault}
use Rattle.kts_text.proofs.ForestLemmas.{trees_read, trees_within}
use Rattle.kts_text.proofs.Soundness.{sound}

abbrev Nodes : Type 0
Nodes = Result (List Node) TreeFault

abbrev read_nodes : List Node → Nodes
read_nodes nodes = Ok nodes

same_nodes : (x y : List Node) (read : Nodes) → read ≡ read_nodes x → read ≡ read_nodes y → x ≡ y
same_nodes x y read p q = let c : read_nodes x ≡ read_nodes y = sym p ∙ q in cc

module _ (bytes : List ℕ) (nodes : List Node) (read : nodes_read bytes ≡ Ok nodes) where
  -- the trees of the nodes are those of the grammar
  are : (trees : Forest) → nodes ≡ flat 0 trees → TreesOf bytes trees → trees_at bytes 0 nodes ≡ trees
  are trees is found = ap (trees_at bytes 0) is ∙ trees_read bytes trees found

  pub found_trees : TreesOf bytes (trees_at bytes 0 nodes)
  found_trees = let s = sound bytes nodes read in subst (TreesOf bytes) (sym (are s.0 s.2 s.1)) s.1

  pub flat_nodes : nodes ≡ flat 0 (trees_at bytes 0 nodes)
  flat_nodes = let s = sound bytes nodes read in s.2 ∙ ap (flat 0) (sym (are s.0 s.2 s.1))

  pub within_bytes : All (LiesWithin (length bytes)) nodes
  within_bytes = All-same (LiesWithin (length bytes)) nodes (flat 0 (trees_at bytes 0 nodes)) flat_nodes (trees_within bytes (trees_at bytes 0 nodes) found_trees)

  pub only_trees : (trees : Forest) → TreesOf bytes trees → trees_at bytes 0 nodes ≡ trees
  only_trees trees found = are trees (same_nodes nodes (flat 0 trees) (nodes_read bytes) read (complete bytes trees found)) found

  pub trees_value : trees_of bytes ≡ Ok (trees_at bytes 0 nodes)
  unfolding trees_of
  trees_value = ap (trees_from bytes) read

module _ (bytes : List ℕ) (fault : TreeFault) (read : nodes_read bytes ≡ Err fault) where
  pub no_trees : (trees : Forest) → TreesOf bytes trees → ⊥
  no_trees trees found = let c = sym read ∙ complete bytes trees found in absurd cc

  pub fault_value : trees_of bytes ≡ Err fault
  unfolding trees_of
  fault_value = ap (trees_from bytes) read

-- ---- the function of the bytes

pub complete_trees : (bytes : List ℕ) (trees : Forest) → TreesOf bytes trees → trees_of bytes ≡ Ok trees
unfolding trees_of
complete_trees bytes trees found = ap (trees_from bytes) (complete bytes trees found) ∙ ap Ok (trees_read bytes trees found)

read_by : (bytes : List ℕ) (trees : Forest) (read : Nodes) → nodes_read bytes ≡ read → trees_from bytes read ≡ Ok trees → TreesOf bytes trees
read_by bytes trees (Ok nodes) e q = subst (TreesOf bytes) (same (trees_at bytes 0 nodes) trees q) (found_trees bytes nodes e)
  where
    given : Forest → Result Forest TreeFault
    given x = Ok x

    same : (x y : Forest) → given x ≡ given y → x ≡ y
    same x y e = cc
read_by bytes trees (Err fault) e q = absurd cc

pub sound_trees : (bytes : List ℕ) (trees : Forest) → trees_of bytes ≡ Ok trees → TreesOf bytes trees
unfolding trees_of
sound_trees bytes trees q = read_by bytes trees (nodes_read bytes) refl q

fault_by : (bytes : List ℕ) (fault : TreeFault) (read : Nodes) → trees_from bytes read ≡ Err fault → read ≡ Err fault
fault_by bytes fault (Ok nodes) q = absurd cc
fault_by bytes fault (Err f) q = cc

pub first_fault_of : (bytes : List ℕ) (fault : TreeFault) → trees_of bytes ≡ Err fault → IsFirstFault bytes fault.kind fault.at
unfolding trees_of
first_fault_of bytes fault q = first_fault bytes fault (fault_by bytes fault (nodes_read bytes) q)
