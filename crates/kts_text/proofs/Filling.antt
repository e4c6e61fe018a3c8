-- Nodes so far, nodes to come, and where the lists that are open end.
use Rattle.std.proofs.Common.{◌≡◌, ℕ, zero, suc, ◌+◌, ◌-◌, ◌<◌, List, [], ◌∷◌, ◌++◌, length, get_or, set, append_assoc, Ok, Err, ap, sym, refl, ◌∙◌, arith}
use Rattle.std.specs.List.{AllByRecursion}
use Rattle.std.proofs.lemmas.List.{length-append}
use Rattle.kts_text.specs.Ends.{fill, filled, set_end}
use Rattle.kts_text.specs.Forest.{list_node}
use Rattle.kts_text.specs.Scan.{Ending, Read, after_nodes, closed, list_ended, opened, with_node}
use Rattle.kts_text.specs.declared.node.Node.{Node}

abbrev pub with_end : Node → ℕ → ℕ → Node
with_end n e i = record { start = n.start; end = e; inside = i; depth = n.depth; atom = n.atom }

pub set_end_is : (ns : List Node) (k e i : ℕ) (d : Node) → k < length ns → set ns k (with_end (get_or ns k d) e i) ≡ set_end ns k e i
unfolding set_end
set_end_is [] k e i d h = absurd (omega arith)
set_end_is (n ∷ ns) zero e i d h = refl
set_end_is (n ∷ ns) (suc k) e i d h = ap (λ (ms : List Node). n ∷ ms) (set_end_is ns k e i d (omega arith))

pub length-set_end : (ns : List Node) (k e i : ℕ) → length (set_end ns k e i) ≡ length ns
unfolding set_end
length-set_end [] k e i = refl
length-set_end (n ∷ ns) zero e i = refl
length-set_end (n ∷ ns) (suc k) e i = ap suc (length-set_end ns k e i)

set_end_left : (ns : List Node) (k e i : ℕ) (x : Node) → k < length ns → set_end (ns ++ x ∷ []) k e i ≡ set_end ns k e i ++ x ∷ []
unfolding set_end
set_end_left [] k e i x h = absurd (omega arith)
set_end_left (n ∷ ns) zero e i x h = refl
set_end_left (n ∷ ns) (suc k) e i x h = ap (λ (ms : List Node). n ∷ ms) (set_end_left ns k e i x (omega arith))

set_end_last : (ns : List Node) (e i : ℕ) (x : Node) → set_end (ns ++ x ∷ []) (length ns) e i ≡ ns ++ with_end x e i ∷ []
unfolding set_end
set_end_last [] e i x = refl
set_end_last (n ∷ ns) e i x = ap (λ (ms : List Node). n ∷ ms) (set_end_last ns e i x)

pub within_ended : (ns : List Node) (ks : List ℕ) (k e i : ℕ) → AllByRecursion (λ j. j < length ns) ks → AllByRecursion (λ j. j < length (set_end ns k e i)) ks
within_ended ns ks k e i h = rw (length-set_end ns k e i) h

pub within_more : (ns : List Node) (ks : List ℕ) (x : Node) → AllByRecursion (λ j. j < length ns) ks → AllByRecursion (λ j. j < length (ns ++ x ∷ [])) ks
within_more ns [] x h = tt
within_more ns (k ∷ ks) x h = (omega (arith, h.0, length-append {A = Node} ns (x ∷ [])), within_more ns ks x h.1)

-- how many nodes stand in the list of a node, where so many are to come
inside_at : List Node → ℕ → ℕ → ℕ
inside_at ns k more = length ns - k - 1 + more

pushed : (ns : List Node) (ks : List ℕ) (x : Node) (more : List Node) (es : List Ending) → AllByRecursion (λ j. j < length ns) ks → fill ns ks (x ∷ more) (after_nodes 1 es) ≡ fill (ns ++ x ∷ []) ks more es
unfolding fill inside_at
pushed ns [] x more es h = sym (append_assoc ns (x ∷ []) more)
pushed ns (k ∷ ks) x more [] h = sym (append_assoc ns (x ∷ []) more)
pushed ns (k ∷ ks) x more (e ∷ es) h =
    let i : inside_at ns k (1 + e.nodes) ≡ inside_at (ns ++ x ∷ []) k e.nodes = omega (arith, h.0, length-append {A = Node} ns (x ∷ [])) in
    pushed (set_end ns k e.place (inside_at ns k (1 + e.nodes))) ks x more es (within_ended ns ks k e.place (inside_at ns k (1 + e.nodes)) h.1)
    ∙ ap (λ (ms : List Node). fill ms ks more es) (sym (set_end_left ns k e.place (inside_at ns k (1 + e.nodes)) x h.0) ∙ ap (set_end (ns ++ x ∷ []) k e.place) i)

pub atom_filled : (ns : List Node) (ks : List ℕ) (x : Node) (r : Read) → AllByRecursion (λ j. j < length ns) ks → filled ns ks (with_node x r) ≡ filled (ns ++ x ∷ []) ks r
atom_filled ns ks x (Ok p) h = ap Ok (pushed ns ks x p.0 p.1 h)
atom_filled ns ks x (Err f) h = refl

list_filled : (ns : List Node) (ks : List ℕ) (at d : ℕ) (more : List Node) (es : List Ending) → AllByRecursion (λ j. j < length ns) ks → fill ns ks (list_ended at d more es).0 (list_ended at d more es).1 ≡ fill (ns ++ list_node at at 0 d ∷ []) (length ns ∷ ks) more es
unfolding fill inside_at
list_filled ns [] at d more [] h = sym (append_assoc ns _ more)
list_filled ns (k ∷ ks) at d more [] h = sym (append_assoc ns _ more)
list_filled ns ks at d more (e ∷ es) h =
    let x = list_node at at 0 d in
    let i : e.nodes ≡ inside_at (ns ++ x ∷ []) (length ns) e.nodes = omega (arith, length-append {A = Node} ns (x ∷ [])) in
    pushed ns ks (list_node at e.place e.nodes d) more es h
    ∙ ap (λ (ms : List Node). fill ms ks more es) (sym (set_end_last ns e.place e.nodes x) ∙ ap (set_end (ns ++ x ∷ []) (length ns) e.place) i)

pub opened_filled : (ns : List Node) (ks : List ℕ) (at d : ℕ) (r : Read) → AllByRecursion (λ j. j < length ns) ks → filled ns ks (opened at d r) ≡ filled (ns ++ list_node at at 0 d ∷ []) (length ns ∷ ks) r
opened_filled ns ks at d (Ok p) h = ap Ok (list_filled ns ks at d p.0 p.1 h)
opened_filled ns ks at d (Err f) h = refl

pub closed_filled : (ns : List Node) (ks : List ℕ) (k e : ℕ) (r : Read) → filled ns (k ∷ ks) (closed e r) ≡ filled (set_end ns k e (length ns - k - 1)) ks r
unfolding fill
closed_filled ns ks k e (Ok p) = let h : length ns - k - 1 + 0 ≡ length ns - k - 1 = omega arith in rw h refl
closed_filled ns ks k e (Err f) = refl
