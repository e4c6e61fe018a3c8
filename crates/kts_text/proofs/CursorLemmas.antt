-- The first of the nodes of trees, and the nodes after it.
use Rattle.std.proofs.Common.{◌≡◌, refl, sym, ◌∙◌, ap, subst, ℕ, ◌+◌, ◌≤◌, true, false, List, [], ◌∷◌, ◌++◌, length, take, drop, arith}
use Rattle.std.proofs.lemmas.List.{length-append}
use Rattle.std.proofs.Math.Seq.{drop-append_seam, take-append_seam}
use Rattle.kts_text.specs.Forest.{Forest, none, atom, list, atom_node, list_node, flat, trees_at}
use Rattle.kts_text.specs.declared.node.Node.{Node}
use Rattle.kts_text.proofs.ForestLemmas.{trees_at-here, trees_at-inside, trees_at-front, trees_after}

-- after the node of a list stand the nodes inside, and then those of the trees after it
pub record IsFirstList (text : List ℕ) (depth count : ℕ) (rest : List Node) : Type 0 where
  pub few : count ≤ length rest
  pub inside : take count rest ≡ flat (depth + 1) (trees_at text (depth + 1) (take count rest))
  pub after : drop count rest ≡ flat depth (trees_at text depth (drop count rest))
  pub trees_inside : trees_at text (depth + 1) (take count rest) ≡ trees_at text (depth + 1) rest
  pub trees_after : trees_at text depth (drop count rest) ≡ trees_at text depth rest

-- the first node, and what stands after it
pub record IsFirst (text : List ℕ) (depth : ℕ) (node : Node) (rest : List Node) : Type 0 where
  pub level : node.depth ≡ depth
  pub after_atom : node.atom ≡ true → rest ≡ flat depth (trees_at text depth rest)
  pub after_list : node.atom ≡ false → IsFirstList text depth node.inside rest

abbrev FirstOf : List ℕ → ℕ → List Node → Type 0
FirstOf text depth [] = Unit {0}
FirstOf text depth (node ∷ rest) = IsFirst text depth node rest

atom_after : (text : List ℕ) (depth at : ℕ) (bytes : List ℕ) (after : Forest) → atom at bytes after ≡ trees_at text depth (flat depth (atom at bytes after)) → after ≡ trees_at text depth (flat depth after)
atom_after text depth at bytes after is = let e = is ∙ trees_at-here text depth (atom_node at (at + length bytes) depth) (flat depth after) refl in cc

list_parts : (text : List ℕ) (depth start end : ℕ) (inside after : Forest) → list start end inside after ≡ trees_at text depth (flat depth (list start end inside after))
    → (inside ≡ trees_at text (depth + 1) (flat (depth + 1) inside ++ flat depth after)) × (after ≡ trees_at text depth (flat (depth + 1) inside ++ flat depth after))
list_parts text depth start end inside after is =
    let e = is ∙ trees_at-here text depth (list_node start end (length (flat (depth + 1) inside)) depth) (flat (depth + 1) inside ++ flat depth after) refl in
    (cc, cc)

first_list : (text : List ℕ) (depth start end : ℕ) (inside after : Forest) → list start end inside after ≡ trees_at text depth (flat depth (list start end inside after))
    → IsFirstList text depth (length (flat (depth + 1) inside)) (flat (depth + 1) inside ++ flat depth after)
first_list text depth start end inside after is =
    let inner = flat (depth + 1) inside in
    let outer = flat depth after in
    let parts = list_parts text depth start end inside after is in
    let none_after = Rattle.kts_text.proofs.ForestLemmas.trees_after text depth after in
    let front : trees_at text (depth + 1) (inner ++ outer) ≡ trees_at text (depth + 1) inner = trees_at-front text (depth + 1) inside outer (λ deeper h. none_after deeper (omega arith)) in
    let back : trees_at text depth (inner ++ outer) ≡ trees_at text depth outer = trees_at-inside text depth (depth + 1) inside outer (omega arith) in
    record {
      few = omega (arith, length-append {A = Node} inner outer);
      inside = rw (take-append_seam inner outer) (ap (flat (depth + 1)) (parts.0 ∙ front));
      after = rw (drop-append_seam inner outer) (ap (flat depth) (parts.1 ∙ back));
      trees_inside = rw (take-append_seam inner outer) (sym front);
      trees_after = rw (drop-append_seam inner outer) (sym back);
    }

first_of : (text : List ℕ) (depth : ℕ) (trees : Forest) → trees ≡ trees_at text depth (flat depth trees) → FirstOf text depth (flat depth trees)
first_of text depth none is = tt
first_of text depth (atom at bytes after) is = record { level = refl; after_atom = λ yes. ap (flat depth) (atom_after text depth at bytes after is); after_list = λ no. absurd cc }
first_of text depth (list start end inside after) is = record { level = refl; after_atom = λ yes. absurd cc; after_list = λ no. first_list text depth start end inside after is }

pub first_node : (text : List ℕ) (depth : ℕ) (node : Node) (rest : List Node) → node ∷ rest ≡ flat depth (trees_at text depth (node ∷ rest)) → IsFirst text depth node rest
first_node text depth node rest whole =
    subst (FirstOf text depth) (sym whole) (first_of text depth (trees_at text depth (node ∷ rest)) (ap (trees_at text depth) whole))

pub same_list : {start s end e : ℕ} {inside i after a : Forest} → start ≡ s → end ≡ e → inside ≡ i → after ≡ a → list start end inside after ≡ list s e i a
same_list p q r t = rw (p, q, r, t) refl
