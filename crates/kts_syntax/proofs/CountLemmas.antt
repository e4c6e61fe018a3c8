-- A formula that is read has as many trees as its tree has terms and formulas.
use Rattle.std.proofs.Common.{◌≡◌, refl, sym, ◌∙◌, ap, ℕ, suc, ◌+◌, List, map, Bool, true, false, if◌then◌else◌, Option, Ok, arith}
use Rattle.kts_base.specs.Reads.{and_then}
use Rattle.kts_text.specs.Forest.{Forest, none, atom, list}
use Rattle.kts_syntax.specs.Heads.{head_of, layout_of, role_in, layout_after}
use Rattle.kts_syntax.specs.Readings.{is_none, name_at, number_at, binder, term_atom, atom_part, list_part, list_head, expr_of, no_parts, with_part, parts_in, expr}
use Rattle.kts_syntax.specs.Sizes.{count, trees, total, size_step}
use Rattle.kts_syntax.specs.Tops.{first_formula}
use Rattle.kts_syntax.specs.TreeCounts.{with_itself, after_head, count_in_parts, count_in_list, count_in_formula}
use Rattle.kts_syntax.specs.Words.{is_like_number}
use Rattle.kts_syntax.specs.declared.expr.Expr.{Expr}
use Rattle.kts_syntax.specs.declared.expr.Expr.TheFolds.{fold-roll-Expr}
use Rattle.kts_syntax.specs.declared.head.Head.{Head}
use Rattle.kts_syntax.specs.declared.head.Head.TheVariants.{Number, Use}
use Rattle.kts_syntax.specs.declared.layout.Layout.{Layout}
use Rattle.kts_syntax.specs.declared.layout.Role.{Role}
use Rattle.kts_syntax.specs.declared.layout.Role.TheVariants.{Binder, Term, Formula}
use Rattle.kts_syntax.specs.declared.parts.Part.{Part}
use Rattle.kts_syntax.specs.declared.parts.Part.TheVariants.{Bound, Operand}
use Rattle.kts_syntax.specs.declared.parts.Parts.{Parts}
use Rattle.kts_syntax.proofs.GrammarFound.{head_if}
use Rattle.kts_syntax.proofs.Inversions.{ok_is, both_ok}

trees-expr_of : (start : ℕ) (head : Head) (parts : Parts) → trees (expr_of start head parts) ≡ suc (total (map trees parts.exprs))
unfolding trees
trees-expr_of start head parts = fold-roll-Expr ℕ size_step (record { at = start; head = head; binders = parts.binders; parts = parts.exprs })

-- the trees of a part
abbrev part_trees : Part → ℕ
part_trees (Bound b) = 0
part_trees (Operand e) = trees e

with_part_trees : (part : Part) (qs : Parts) → total (map trees (with_part part qs).exprs) ≡ part_trees part + total (map trees qs.exprs)
unfolding with_part
with_part_trees (Bound b) qs = omega arith
with_part_trees (Operand e) qs = refl

term_atom_trees : (at : ℕ) (bytes : List ℕ) (e : Expr) → term_atom at bytes ≡ Ok e → trees e ≡ 1
unfolding term_atom
term_atom_trees at bytes e q = by (is_like_number bytes) q
  where
    by : (b : Bool) → (if b then and_then (number_at at bytes) (λ n. Ok (expr_of at (Number n) no_parts)) else and_then (name_at at bytes) (λ word. Ok (expr_of at (Use word) no_parts))) ≡ Ok e → trees e ≡ 1
    by true q = let read = both_ok (number_at at bytes) _ e q in ap trees (sym (ok_is (expr_of at (Number read.0) no_parts) e read.2)) ∙ trees-expr_of at (Number read.0) no_parts
    by false q = let read = both_ok (name_at at bytes) _ e q in ap trees (sym (ok_is (expr_of at (Use read.0) no_parts) e read.2)) ∙ trees-expr_of at (Use read.0) no_parts

atom_part_trees : (role : Role) (at : ℕ) (bytes : List ℕ) (part : Part) → atom_part role at bytes ≡ Ok part → with_itself role 0 ≡ part_trees part
unfolding atom_part
atom_part_trees Binder at bytes part q = absurd cc
atom_part_trees Formula at bytes part q = absurd cc
atom_part_trees Term at bytes part q =
    let read = both_ok (term_atom at bytes) _ part q in sym (ap part_trees (sym (ok_is (Operand read.0) part read.2)) ∙ term_atom_trees at bytes read.0 read.1)

list_part_trees : (role : Role) (start : ℕ) (inside : Forest) (part : Part) → ((role : Role) (e : Expr) → expr role start inside ≡ Ok e → suc (count_in_list role inside) ≡ trees e)
    → list_part role (binder start inside) (λ role. expr role start inside) ≡ Ok part → with_itself role (count_in_list role inside) ≡ part_trees part
unfolding list_part
list_part_trees Binder start inside part each q = let read = both_ok (binder start inside) _ part q in ap part_trees (ok_is (Bound read.0) part read.2)
list_part_trees Term start inside part each q = let read = both_ok (expr Term start inside) _ part q in each Term read.0 read.1 ∙ ap part_trees (ok_is (Operand read.0) part read.2)
list_part_trees Formula start inside part each q = let read = both_ok (expr Formula start inside) _ part q in each Formula read.0 read.1 ∙ ap part_trees (ok_is (Operand read.0) part read.2)

mutual
  unfolding parts_in expr list_head count_in_parts count_in_list

  parts_counted : (t : Forest) (layout : Layout) (ps : Parts) → parts_in layout t ≡ Ok ps → count_in_parts layout t ≡ total (map trees ps.exprs)
  parts_counted none layout ps q = ap (λ (ps : Parts). total (map trees ps.exprs)) (ok_is no_parts ps q)
  parts_counted (atom at bytes after) layout ps q =
      let first = both_ok (atom_part (role_in layout (is_none after)) at bytes) _ ps q in
      let others = both_ok (parts_in (layout_after layout) after) _ ps first.2 in
      let one = atom_part_trees (role_in layout (is_none after)) at bytes first.0 first.1 in
      let more = parts_counted after (layout_after layout) others.0 others.1 in
      (λ i. one i + more i) ∙ sym (with_part_trees first.0 others.0) ∙ ap (λ (ps : Parts). total (map trees ps.exprs)) (ok_is (with_part first.0 others.0) ps others.2)
  parts_counted (list start end inside after) layout ps q =
      let first = both_ok (list_part (role_in layout (is_none after)) (binder start inside) (λ role. expr role start inside)) _ ps q in
      let others = both_ok (parts_in (layout_after layout) after) _ ps first.2 in
      let one = list_part_trees (role_in layout (is_none after)) start inside first.0 (λ role e is. expr_counted inside role start e is) first.1 in
      let more = parts_counted after (layout_after layout) others.0 others.1 in
      (λ i. one i + more i) ∙ sym (with_part_trees first.0 others.0) ∙ ap (λ (ps : Parts). total (map trees ps.exprs)) (ok_is (with_part first.0 others.0) ps others.2)

  expr_counted : (t : Forest) (role : Role) (start : ℕ) (e : Expr) → expr role start t ≡ Ok e → suc (count_in_list role t) ≡ trees e
  expr_counted none role start e q = absurd cc
  expr_counted (atom at word parts) role start e q =
      let head = both_ok (list_head role start (atom at word parts)) _ e q in
      let read = both_ok (parts_in (layout_of head.0) parts) _ e head.2 in
      let is = head_if (head_of role at word) start (count parts) head.0 head.1 in
      ap (λ (o : Option Head). suc (after_head o (λ layout. count_in_parts layout parts))) is.0 ∙ ap suc (parts_counted parts (layout_of head.0) read.0 read.1)
      ∙ sym (trees-expr_of start head.0 read.0) ∙ ap trees (ok_is (expr_of start head.0 read.0) e read.2)
  expr_counted (list at last inside more) role start e q = absurd cc

pub formula_counted : (t : Forest) (e : Expr) → first_formula t ≡ Ok e → count_in_formula t ≡ trees e
unfolding first_formula count_in_formula
formula_counted none e q = absurd cc
formula_counted (atom at bytes after) e q = absurd cc
formula_counted (list start end inside after) e q = expr_counted inside Formula start e q
