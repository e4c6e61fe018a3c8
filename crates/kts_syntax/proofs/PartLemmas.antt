-- Reading the parts of a list, one after another.
use Rattle.std.proofs.Common.{◌≡◌, refl, sym, ◌∙◌, ap, ℕ, suc, ◌+◌, ◌<◌, List, [], ◌∷◌, ◌++◌, append_assoc, append-nil, Bool, Ok, Err, arith}
use Rattle.kts_base.specs.Reads.{and_then}
use Rattle.kts_text.specs.Forest.{Forest, none, atom, list}
use Rattle.kts_syntax.specs.Heads.{layout_of, role_in, layout_after}
use Rattle.kts_syntax.specs.Readings.{Reading, atom_part, list_part, binder, with_part, with_last, in_front, rest, expr_of, is_none, list_head, parts_in, expr}
use Rattle.kts_syntax.specs.Sizes.{weight}
use Rattle.kts_syntax.specs.Faults.{FormFault}
use Rattle.kts_syntax.specs.declared.head.Head.{Head}
use Rattle.kts_syntax.specs.declared.layout.Layout.{Layout}
use Rattle.kts_syntax.specs.declared.layout.Role.{Role}
use Rattle.kts_syntax.specs.declared.parts.Part.{Part}
use Rattle.kts_syntax.specs.declared.parts.Part.TheVariants.{Bound, Operand}
use Rattle.kts_syntax.specs.declared.parts.Parts.{Parts}

-- ---- weights of what is at a cursor

pub weight-atom : (at : ℕ) (bytes : List ℕ) (after trees : Forest) → atom at bytes after ≡ trees → weight trees ≡ suc (weight after)
unfolding weight
weight-atom at bytes after trees e = ap weight (sym e)

pub weight-list : (start end : ℕ) (inside after trees : Forest) → list start end inside after ≡ trees → weight trees ≡ suc (weight inside + weight after)
unfolding weight
weight-list start end inside after trees e = ap weight (sym e)

-- ---- parts in front

-- the parts that were read, and those that are left
abbrev pub parts_after : Parts → Reading Parts → Reading Parts
parts_after front (Ok parts) = Ok (record { binders = front.binders ++ parts.binders; exprs = front.exprs ++ parts.exprs })
parts_after front (Err f) = Err f

regroup : (front : Parts) (part : Part) (more : Reading Parts) → parts_after front (in_front (Ok part) more) ≡ parts_after (with_last front part) more
unfolding with_part with_last
regroup front (Bound b) (Ok parts) = λ i. Ok (record { binders = sym (append_assoc front.binders (b ∷ []) parts.binders) i; exprs = front.exprs ++ parts.exprs })
regroup front (Operand e) (Ok parts) = λ i. Ok (record { binders = front.binders ++ parts.binders; exprs = sym (append_assoc front.exprs (e ∷ []) parts.exprs) i })
regroup front (Bound b) (Err f) = refl
regroup front (Operand e) (Err f) = refl

-- the fault of one is the fault of all
pub part_fails : (front : Parts) (read : Reading Part) (more total : Reading Parts) (f : FormFault) → parts_after front (in_front read more) ≡ total → read ≡ Err f → total ≡ Err f
part_fails front read more total f so_far fails = sym so_far ∙ ap (λ (r : Reading Part). parts_after front (in_front r more)) fails

-- one more is read
pub part_on : (front : Parts) (read : Reading Part) (more total : Reading Parts) (part : Part) → parts_after front (in_front read more) ≡ total → read ≡ Ok part
    → parts_after (with_last front part) more ≡ total
part_on front read more total part so_far is = sym (regroup front part more) ∙ sym (ap (λ (r : Reading Part). parts_after front (in_front r more)) is) ∙ so_far

-- ---- parts at a cursor

pub parts_in-none : (layout : Layout) (trees : Forest) (front : Parts) (total : Reading Parts) → none ≡ trees → parts_after front (parts_in layout trees) ≡ total → total ≡ Ok front
unfolding parts_in
parts_in-none layout trees front total e so_far =
    sym so_far ∙ ap (λ (t : Forest). parts_after front (parts_in layout t)) (sym e)
    ∙ (λ i. Ok (record { binders = append-nil front.binders i; exprs = append-nil front.exprs i }))

module _ (front : Parts) (layout : Layout) (total : Reading Parts) (trees after : Forest) (role : Role) (last : Bool) (is_role : role ≡ role_in layout last) (is_last : last ≡ is_none after) (so_far : parts_after front (parts_in layout trees) ≡ total) where
  module _ (at : ℕ) (bytes : List ℕ) (here : atom at bytes after ≡ trees) where
    at_atom : parts_after front (in_front (atom_part role at bytes) (parts_in (layout_after layout) after)) ≡ total
    unfolding parts_in
    at_atom = ap (λ (r : Role). parts_after front (in_front (atom_part r at bytes) (parts_in (layout_after layout) after))) (is_role ∙ ap (role_in layout) is_last)
        ∙ ap (λ (t : Forest). parts_after front (parts_in layout t)) here ∙ so_far

    -- an atom that is at fault, and one that is read
    pub atom_fails : (f : FormFault) → atom_part role at bytes ≡ Err f → total ≡ Err f
    atom_fails f fails = part_fails front (atom_part role at bytes) (parts_in (layout_after layout) after) total f at_atom fails

    pub atom_on : (part : Part) (next : Layout) (now : Parts) → atom_part role at bytes ≡ Ok part → next ≡ layout_after layout → now ≡ with_last front part → parts_after now (parts_in next after) ≡ total
    atom_on part next now is is_next is_now = rw (is_next, is_now) (part_on front (atom_part role at bytes) (parts_in (layout_after layout) after) total part at_atom is)

  module _ (start end : ℕ) (inside : Forest) (here : list start end inside after ≡ trees) where
    abbrev read : Reading Part
    read = list_part role (binder start inside) (λ role. expr role start inside)

    at_list : parts_after front (in_front read (parts_in (layout_after layout) after)) ≡ total
    unfolding parts_in
    at_list = ap (λ (r : Role). parts_after front (in_front (list_part r (binder start inside) (λ role. expr role start inside)) (parts_in (layout_after layout) after))) (is_role ∙ ap (role_in layout) is_last)
        ∙ ap (λ (t : Forest). parts_after front (parts_in layout t)) here ∙ so_far

    -- a list that is at fault, and one that is read
    pub list_fails : (f : FormFault) → read ≡ Err f → total ≡ Err f
    list_fails f fails = part_fails front read (parts_in (layout_after layout) after) total f at_list fails

    pub list_on : (part : Part) (next : Layout) (now : Parts) → read ≡ Ok part → next ≡ layout_after layout → now ≡ with_last front part → parts_after now (parts_in next after) ≡ total
    list_on part next now is is_next is_now = rw (is_next, is_now) (part_on front read (parts_in (layout_after layout) after) total part at_list is)

-- ---- a list as an expression

pub expr_fails : (role : Role) (start : ℕ) (inside : Forest) (f : FormFault) → list_head role start inside ≡ Err f → expr role start inside ≡ Err f
unfolding expr list_head
expr_fails role start none f e = cc
expr_fails role start (atom at word after) f e = rw e refl
expr_fails role start (list at end trees after) f e = cc

pub expr_reads : (role : Role) (start : ℕ) (inside : Forest) (head : Head) → list_head role start inside ≡ Ok head
    → expr role start inside ≡ and_then (parts_in (layout_of head) (rest inside)) (λ parts. Ok (expr_of start head parts))
unfolding expr list_head
expr_reads role start none head e = absurd cc
expr_reads role start (atom at word after) head e = rw e refl
expr_reads role start (list at end trees after) head e = absurd cc

module _ (role : Role) (start : ℕ) (inside after : Forest) (head : Head) (layout : Layout) (is : list_head role start inside ≡ Ok head) (is_after : after ≡ rest inside) (is_layout : layout ≡ layout_of head) where
  by_parts : (read : Reading Parts) → parts_in layout after ≡ read → expr role start inside ≡ and_then read (λ parts. Ok (expr_of start head parts))
  by_parts read e = expr_reads role start inside head is ∙ ap (λ (r : Reading Parts). and_then r (λ parts. Ok (expr_of start head parts))) (rw (← is_layout, ← is_after) e)

  -- its parts are at fault, or are read
  pub parts_fail : (f : FormFault) → parts_in layout after ≡ Err f → expr role start inside ≡ Err f
  parts_fail f e = by_parts (Err f) e

  pub parts_read : (parts : Parts) → parts_in layout after ≡ Ok parts → expr role start inside ≡ Ok (expr_of start head parts)
  parts_read parts e = by_parts (Ok parts) e

pub weight-rest-lt : (role : Role) (start : ℕ) (inside : Forest) (head : Head) → list_head role start inside ≡ Ok head → weight (rest inside) < weight inside
unfolding weight list_head
weight-rest-lt role start none head e = absurd cc
weight-rest-lt role start (atom at word after) head e = omega arith
weight-rest-lt role start (list at end trees after) head e = absurd cc
