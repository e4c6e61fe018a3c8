-- The scan of a whole file.
use Rattle.std.proofs.Common.{◌≡◌, ℕ, ◌<◌, ◌≤◌, List, [], ◌∷◌, length, drop, ap, refl, ◌∙◌, arith}
use Rattle.kts_text.specs.Ends.{fill, filled, nodes_read, not_empty}
use Rattle.kts_text.specs.Faults.{TreeFault, tree_fault}
use Rattle.kts_text.specs.Scan.{scan}
use Rattle.std.proofs.Common.{Ok, Err}
use Rattle.kts_text.specs.declared.scan.Mode.{Mode}
use Rattle.kts_text.specs.declared.scan.Mode.TheVariants.{Outside}
use Rattle.kts_text.specs.declared.node.Node.{Node}
use Rattle.std.proofs.lemmas.Bool.Decides.{nat_tests}
use Rattle.std.proofs.lemmas.List.{append-nil, drop_all}
use Rattle.kts_text.specs.declared.fault.TreeKind.TheVariants.{Unclosed, Empty}

pub fails_at : (bytes : List ℕ) (f : TreeFault) → filled [] [] (scan (Outside 0) 0 0 bytes) ≡ Err f → nodes_read bytes ≡ Err f
unfolding nodes_read
fails_at bytes f e = ap (not_empty (length bytes)) e

pub ends_with : (bytes : List ℕ) (ns : List Node) → filled [] [] (scan (Outside 0) 0 0 bytes) ≡ Ok ns → (length ns ≡ 0 → ⊥) → nodes_read bytes ≡ Ok ns
unfolding nodes_read
ends_with bytes [] e h = absurd (h refl)
ends_with bytes (n ∷ ns) e h = ap (not_empty (length bytes)) e

pub ends_empty : (bytes : List ℕ) (ns : List Node) → filled [] [] (scan (Outside 0) 0 0 bytes) ≡ Ok ns → length ns ≡ 0 → nodes_read bytes ≡ Err (tree_fault Empty (length bytes))
unfolding nodes_read
ends_empty bytes [] e h = ap (not_empty (length bytes)) e
ends_empty bytes (n ∷ ns) e h = absurd (omega arith)

pub at_end : (m : Mode) (at : ℕ) (bytes : List ℕ) (ns : List Node) (ks : List ℕ) → length bytes ≤ at → length ks ≡ 0 → filled ns ks (scan m (length ks) at (drop at bytes)) ≡ Ok ns
unfolding scan fill
at_end m at bytes ns [] h e = rw (drop_all at bytes h) (ap Ok (append-nil ns))
at_end m at bytes ns (k ∷ ks) h e = absurd (omega arith)

unclosed : (m : Mode) (d at : ℕ) → 0 < d → scan m d at [] ≡ Err (tree_fault Unclosed at)
unfolding scan
unclosed m d at h = grind (arith, nat_tests)

pub at_end_inside : (m : Mode) (at : ℕ) (bytes : List ℕ) (ns : List Node) (ks : List ℕ) → length bytes ≤ at → 0 < length ks → filled ns ks (scan m (length ks) at (drop at bytes)) ≡ Err (tree_fault Unclosed at)
at_end_inside m at bytes ns ks h e = ap (λ (bs : List ℕ). filled ns ks (scan m (length ks) at bs)) (drop_all at bytes h) ∙ ap (filled ns ks) (unclosed m (length ks) at e)
