-- The trees of nodes are the trees of the grammar.
use Rattle.std.proofs.Common.{◌≡◌, refl, sym, ◌∙◌, ap, subst, ℕ, ◌+◌, ◌-◌, ◌<◌, ◌≤◌, List, [], ◌∷◌, ◌++◌, length, append_assoc, arith}
use Rattle.std.specs.Prelude.{slice_range, All}
use Rattle.std.proofs.lemmas.Bool.Decides.{nat_tests}
use Rattle.std.proofs.lemmas.List.{length-append, append-nil}
use Rattle.std.proofs.lemmas.List.Elements.{All-nil, All-cons, All-append}
use Rattle.std.proofs.Math.Seq.{drop-append_seam, take-append_seam}
use Rattle.kts_text.specs.Bytes.{close_parenthesis, line_feed, open_parenthesis, semicolon}
use Rattle.kts_text.specs.Forest.{Forest, none, atom, list, flat, atom_node, list_node, trees_at, tree_of, LiesWithin}
use Rattle.kts_text.specs.Grammar.{Text, nothing, white, comment, letters, nested, spelled, forest, TreesOf}
use Rattle.kts_text.specs.declared.node.Node.{Node}

-- ---- the node in front

pub trees_at-shallow : (text : List ℕ) (depth : ℕ) (node : Node) (nodes : List Node) → node.depth < depth → trees_at text depth (node ∷ nodes) ≡ none
unfolding trees_at
trees_at-shallow text depth node nodes h = grind (arith, nat_tests)

pub trees_at-deeper : (text : List ℕ) (depth : ℕ) (node : Node) (nodes : List Node) → depth < node.depth → trees_at text depth (node ∷ nodes) ≡ trees_at text depth nodes
unfolding trees_at
trees_at-deeper text depth node nodes h = grind (arith, nat_tests)

pub trees_at-here : (text : List ℕ) (depth : ℕ) (node : Node) (nodes : List Node) → node.depth ≡ depth → trees_at text depth (node ∷ nodes) ≡ tree_of text node (trees_at text (depth + 1) nodes) (trees_at text depth nodes)
unfolding trees_at
trees_at-here text depth node nodes h = grind (arith, nat_tests)

-- ---- trees in front

-- trees, and then these trees
abbrev pub then : Forest → Forest → Forest
then none more = more
then (atom at bytes after) more = atom at bytes (then after more)
then (list start end inside after) more = list start end inside (then after more)

then-none : (trees : Forest) → then trees none ≡ trees
then-none none = refl
then-none (atom at bytes after) = ap (atom at bytes) (then-none after)
then-none (list start end inside after) = ap (list start end inside) (then-none after)

-- the bytes of each atom stand at its place
abbrev pub Stands : List ℕ → Forest → Type 0
Stands text none = Unit {0}
Stands text (atom at bytes after) = (slice_range text at (at + length bytes) ≡ bytes) × Stands text after
Stands text (list start end inside after) = Stands text inside × Stands text after

-- trees in more lists are passed over
pub trees_at-inside : (text : List ℕ) (depth deeper : ℕ) (trees : Forest) (nodes : List Node) → depth < deeper → trees_at text depth (flat deeper trees ++ nodes) ≡ trees_at text depth nodes
trees_at-inside text depth deeper none nodes h = refl
trees_at-inside text depth deeper (atom at bytes after) nodes h =
    trees_at-deeper text depth (atom_node at (at + length bytes) deeper) (flat deeper after ++ nodes) h ∙ trees_at-inside text depth deeper after nodes h
trees_at-inside text depth deeper (list start end inside after) nodes h =
    trees_at-deeper text depth (list_node start end (length (flat (deeper + 1) inside)) deeper) ((flat (deeper + 1) inside ++ flat deeper after) ++ nodes) h
    ∙ ap (trees_at text depth) (append_assoc (flat (deeper + 1) inside) (flat deeper after) nodes)
    ∙ trees_at-inside text depth (deeper + 1) inside (flat deeper after ++ nodes) (omega arith)
    ∙ trees_at-inside text depth deeper after nodes h

-- nothing in more lists than so many stands in front of the nodes
abbrev pub Ends : List ℕ → ℕ → List Node → Type 0
Ends text depth nodes = (deeper : ℕ) → depth < deeper → trees_at text deeper nodes ≡ none

ends_after : (text : List ℕ) (depth : ℕ) (trees : Forest) (nodes : List Node) → Ends text depth nodes → Ends text depth (flat depth trees ++ nodes)
ends_after text depth none nodes ends deeper h = ends deeper h
ends_after text depth (atom at bytes after) nodes ends deeper h = trees_at-shallow text deeper (atom_node at (at + length bytes) depth) (flat depth after ++ nodes) h
ends_after text depth (list start end inside after) nodes ends deeper h = trees_at-shallow text deeper (list_node start end (length (flat (depth + 1) inside)) depth) ((flat (depth + 1) inside ++ flat depth after) ++ nodes) h

pub trees_after : (text : List ℕ) (depth : ℕ) (trees : Forest) → Ends text depth (flat depth trees)
unfolding trees_at
trees_after text depth trees deeper h = ap (trees_at text deeper) (sym (append-nil (flat depth trees))) ∙ ends_after text depth trees [] (λ deeper h. refl) deeper h

ends_deeper : (text : List ℕ) (depth : ℕ) (nodes : List Node) → Ends text depth nodes → Ends text (depth + 1) nodes
ends_deeper text depth nodes ends deeper h = ends deeper (omega arith)

pub trees_at-flat : (text : List ℕ) (depth : ℕ) (trees : Forest) (nodes : List Node) → Stands text trees → Ends text depth nodes → trees_at text depth (flat depth trees ++ nodes) ≡ then trees (trees_at text depth nodes)
trees_at-flat text depth none nodes stands ends = refl
trees_at-flat text depth (atom at bytes after) nodes stands ends =
    trees_at-here text depth (atom_node at (at + length bytes) depth) (flat depth after ++ nodes) refl
    ∙ ap (λ (found : List ℕ). atom at found (trees_at text depth (flat depth after ++ nodes))) stands.0
    ∙ ap (atom at bytes) (trees_at-flat text depth after nodes stands.1 ends)
trees_at-flat text depth (list start end inside after) nodes stands ends =
    let following = flat depth after ++ nodes in
    let all = flat (depth + 1) inside ++ following in
    let over = ends_after text depth after nodes ends in
    let within = trees_at-flat text (depth + 1) inside following stands.0 (ends_deeper text depth following over) ∙ ap (then inside) (over (depth + 1) (omega arith)) ∙ then-none inside in
    let beside = trees_at-inside text depth (depth + 1) inside following (omega arith) ∙ trees_at-flat text depth after nodes stands.1 ends in
    ap (λ (ns : List Node). trees_at text depth (list_node start end (length (flat (depth + 1) inside)) depth ∷ ns)) (append_assoc (flat (depth + 1) inside) (flat depth after) nodes)
    ∙ trees_at-here text depth (list_node start end (length (flat (depth + 1) inside)) depth) all refl
    ∙ ap (λ (trees : Forest). list start end trees (trees_at text depth all)) within
    ∙ ap (list start end inside) beside

-- what stands in fewer lists after trees is none of theirs
pub trees_at-front : (text : List ℕ) (depth : ℕ) (trees : Forest) (nodes : List Node) → ((deeper : ℕ) → depth ≤ deeper → trees_at text deeper nodes ≡ none) → trees_at text depth (flat depth trees ++ nodes) ≡ trees_at text depth (flat depth trees)
unfolding trees_at
trees_at-front text depth none nodes ends = ends depth (omega arith)
trees_at-front text depth (atom at bytes after) nodes ends =
    let node = atom_node at (at + length bytes) depth in
    trees_at-here text depth node (flat depth after ++ nodes) refl
    ∙ ap (λ (trees : Forest). atom at (slice_range text at (at + length bytes)) trees) (trees_at-front text depth after nodes ends)
    ∙ sym (trees_at-here text depth node (flat depth after) refl)
trees_at-front text depth (list start end inside after) nodes ends =
    let inner = flat (depth + 1) inside in
    let outer = flat depth after in
    let node = list_node start end (length inner) depth in
    let none_deeper = ends_after text depth after nodes (λ deeper h. ends deeper (omega arith)) in
    let none_after = trees_after text depth after in
    let within = trees_at-front text (depth + 1) inside (outer ++ nodes) (λ deeper h. none_deeper deeper (omega arith)) ∙ sym (trees_at-front text (depth + 1) inside outer (λ deeper h. none_after deeper (omega arith))) in
    let beside =
    trees_at-inside text depth (depth + 1) inside (outer ++ nodes) (omega arith) ∙ trees_at-front text depth after nodes ends ∙ sym (trees_at-inside text depth (depth + 1) inside outer (omega arith)) in
    ap (λ (ns : List Node). trees_at text depth (node ∷ ns)) (append_assoc inner outer nodes)
    ∙ trees_at-here text depth node (inner ++ (outer ++ nodes)) refl
    ∙ ap (λ (trees : Forest). list start end trees (trees_at text depth (inner ++ (outer ++ nodes)))) within
    ∙ ap (list start end (trees_at text (depth + 1) (inner ++ outer))) beside
    ∙ sym (trees_at-here text depth node (inner ++ outer) refl)

-- ---- the trees of a text

slice_after : (front bytes more : List ℕ) → slice_range (front ++ (bytes ++ more)) (length front) (length front + length bytes) ≡ bytes
slice_after front bytes more =
    let size : length front + length bytes - length front ≡ length bytes = omega arith in
    rw (size, drop-append_seam front (bytes ++ more)) (take-append_seam bytes more)

-- a part that stands after this piece
after_piece : (whole front piece : List ℕ) (part : Text) (more : List ℕ) (at : ℕ) → (front ++ piece) ++ (spelled part ++ more) ≡ whole → length (front ++ piece) ≡ at
    → Stands ((front ++ piece) ++ (spelled part ++ more)) (forest (length (front ++ piece)) part) → Stands whole (forest at part)
after_piece whole front piece part more at is place stands =
    subst (λ (n : ℕ). Stands whole (forest n part)) place (subst (λ (bytes : List ℕ). Stands bytes (forest (length (front ++ piece)) part)) is stands)

-- the bytes of the atoms of a text stand in any text of which it is a part
stands_in : (front : List ℕ) (part : Text) (more : List ℕ) → Stands (front ++ (spelled part ++ more)) (forest (length front) part)
stands_in front nothing more = tt
stands_in front (white byte after) more =
    after_piece (front ++ (byte ∷ (spelled after ++ more))) front (byte ∷ []) after more (length front + 1) (simp append_assoc) (omega (arith, length-append {A = ℕ})) (stands_in (front ++ byte ∷ []) after more)
stands_in front (comment bytes after) more =
    let piece = semicolon ∷ (bytes ++ line_feed ∷ []) in
    after_piece _ front piece after more _ (simp append_assoc) (omega (arith, length-append {A = ℕ})) (stands_in (front ++ piece) after more)
stands_in front (letters bytes after) more =
    (rw append_assoc (slice_after front bytes (spelled after ++ more)), after_piece _ front bytes after more _ (simp append_assoc) (length-append front bytes) (stands_in (front ++ bytes) after more))
stands_in front (nested inside after) more =
    let piece = open_parenthesis ∷ (spelled inside ++ close_parenthesis ∷ []) in (
      after_piece _ front (open_parenthesis ∷ []) inside (close_parenthesis ∷ (spelled after ++ more)) _ (simp append_assoc) (omega (arith, length-append {A = ℕ})) (stands_in (front ++ open_parenthesis ∷ []) inside (close_parenthesis ∷ (spelled after ++ more))),
      after_piece _ front piece after more _ (simp append_assoc) (omega (arith, length-append {A = ℕ})) (stands_in (front ++ piece) after more),
    )

pub trees_read : (bytes : List ℕ) (trees : Forest) → TreesOf bytes trees → trees_at bytes 0 (flat 0 trees) ≡ trees
unfolding trees_at
trees_read bytes trees found =
    let s = found.0 in
    let stands : Stands bytes trees = rw (s.4, s.5) (stands_in [] s.0 s.1) in
    ap (trees_at bytes 0) (sym (append-nil (flat 0 trees))) ∙ trees_at-flat bytes 0 trees [] stands (λ deeper h. refl) ∙ then-none trees

-- the nodes of a text lie in it
nodes_within : (part : Text) (at depth size : ℕ) → at + length (spelled part) ≤ size → All (LiesWithin size) (flat depth (forest at part))
nodes_within nothing at depth size h = All-nil (LiesWithin size)
nodes_within (white byte after) at depth size h = nodes_within after (at + 1) depth size (omega arith)
nodes_within (comment bytes after) at depth size h = nodes_within after (at + length bytes + 2) depth size (omega (arith, length-append {A = ℕ}))
nodes_within (letters bytes after) at depth size h =
    All-cons (LiesWithin size) _ _ (record { forward = omega arith; inside = omega (arith, length-append {A = ℕ}) }) (nodes_within after (at + length bytes) depth size (omega (arith, length-append {A = ℕ})))
nodes_within (nested inside after) at depth size h =
    All-cons (LiesWithin size) _ _ (record { forward = omega arith; inside = omega (arith, length-append {A = ℕ}) })
    (All-append (LiesWithin size) _ _ (nodes_within inside (at + 1) (depth + 1) size (omega (arith, length-append {A = ℕ}))) (nodes_within after (at + length (spelled inside) + 2) depth size (omega (arith, length-append {A = ℕ}))))

pub trees_within : (bytes : List ℕ) (trees : Forest) → TreesOf bytes trees → All (LiesWithin (length bytes)) (flat 0 trees)
trees_within bytes trees found =
    let s = found.0 in
    rw (s.4, s.5) (nodes_within s.0 0 0 (length (spelled s.0 ++ s.1)) (omega (arith, length-append {A = ℕ})))
