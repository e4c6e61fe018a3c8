use Rattle.std.proofs.Common.{◌∙◌, refl, sym, ap, inl, inr, arith}
use Rattle.std.proofs.lemmas.Result.{err_from_is_err_and}
use Rattle.kts_syntax.specs.Sizes.{weight}
use Rattle.kts_syntax.proofs.PartLemmas.{weight-atom, weight-list, weight-rest-lt, atom_fails, atom_on, list_fails, list_on, expr_fails, parts_fail}
use Rattle.kts_syntax.proofs.RoomLemmas.{atom_alone, goes_first, goes_on, goes_to_end, expr_built}
use Rattle.kts_syntax.proofs.exprs.+exprs.Goals as goal

pub parts_in-loop-parts-init : goal.parts_in-loop-parts-init
parts_in-loop-parts-init t c = record { weight = omega arith; goes = goes_first _ _ _ _ c.new-parts.ensures }

pub parts_in-returns-in-End : goal.parts_in-returns-in-End
parts_in-returns-in-End t c = goes_to_end _ _ _ _ _ _ _ c.loop-parts.invariant.goes c.in-End.ensures

pub parts_in-loop-parts-smaller-in-Atom : goal.parts_in-loop-parts-smaller-in-Atom
parts_in-loop-parts-smaller-in-Atom t c = omega (arith, weight-atom _ _ _ _ c.in-Atom.ensures)

pub parts_in-loop-parts-smaller : goal.parts_in-loop-parts-smaller
parts_in-loop-parts-smaller t c = omega (arith, weight-list _ _ _ _ _ c.in-List.ensures)

pub parts_in-returns-in_err-part-in-Atom : goal.parts_in-returns-in_err-part-in-Atom
parts_in-returns-in_err-part-in-Atom t c =
    let goes = c.loop-parts.invariant.goes in
    let p = err_from_is_err_and c.from_residual.result c.from_residual.ensures.1 in
    rw (p.1, p.2) (inr (atom_fails goes.front c.loop-parts.ahead _ _ _ _ _ c.role.ensures c.is_none.ensures goes.so_far _ _ c.in-Atom.ensures _ (sym c.atom_part.ensures ∙ c.in_err-part-in-Atom.was)))

pub parts_in-loop-parts-preserved-in-Atom : goal.parts_in-loop-parts-preserved-in-Atom
parts_in-loop-parts-preserved-in-Atom t c =
    let goes = c.loop-parts.invariant.goes in
    let read = sym c.atom_part.ensures ∙ c.in_ok-part-in-Atom.was in record {
      weight = omega (arith, weight-atom _ _ _ _ c.in-Atom.ensures, c.loop-parts.invariant.weight);
      goes = goes_on _ _ _ _ _ _ _ goes.front goes.taken goes.same _ _ c.in_ok-part-in-Atom.part _ _
          (atom_on goes.front c.loop-parts.ahead _ _ _ _ _ c.role.ensures c.is_none.ensures goes.so_far _ _ c.in-Atom.ensures _ _ _ read c.next-ahead.ensures refl)
          (omega (arith, atom_alone _ _ _ _ read)) (λ _. refl) c.in_ok-push-in-Atom.ensures.room c.in_ok-push-in-Atom.ensures.ok;
    }

pub parts_in-list_part-requires : goal.parts_in-list_part-requires
parts_in-list_part-requires t c = (omega (arith, weight-list _ _ _ _ _ c.in-List.ensures, c.loop-parts.invariant.weight), tt)

pub parts_in-returns-in_err-part-in-List : goal.parts_in-returns-in_err-part-in-List
parts_in-returns-in_err-part-in-List t c =
    let goes = c.loop-parts.invariant.goes in
    let p = err_from_is_err_and c.from_residual-in_err-part-in-List.result c.from_residual-in_err-part-in-List.ensures.1 in
    rw (p.1, p.2) (elim c.in_err-part-in-List.ensures [
      | inl e ↦ inl e
      | inr e ↦ inr (list_fails goes.front c.loop-parts.ahead _ _ _ _ _ c.role-in-List.ensures c.is_none-in-List.ensures goes.so_far _ _ _ c.in-List.ensures _ e)
    ])

pub parts_in-loop-parts-preserved : goal.parts_in-loop-parts-preserved
parts_in-loop-parts-preserved t c =
    let goes = c.loop-parts.invariant.goes in
    let built = c.in_ok-part-in-List.ensures in record {
      weight = omega (arith, weight-list _ _ _ _ _ c.in-List.ensures, c.loop-parts.invariant.weight);
      goes = goes_on _ _ _ _ _ _ _ goes.front goes.taken goes.same _ _ c.in_ok-part-in-List.part _ _
          (list_on goes.front c.loop-parts.ahead _ _ _ _ _ c.role-in-List.ensures c.is_none-in-List.ensures goes.so_far _ _ _ c.in-List.ensures _ _ _ built.is c.next-ahead-in-List.ensures refl)
          built.taken built.same c.in_ok-push-in-List.ensures.room c.in_ok-push-in-List.ensures.ok;
    }

pub expr-returns-in_err-head : goal.expr-returns-in_err-head
expr-returns-in_err-head t c =
    let p = err_from_is_err_and c.from_residual.result c.from_residual.ensures.1 in rw (p.1, p.2) (inr (expr_fails _ _ _ _ (sym c.list_head.ensures ∙ c.in_err-head.was)))

pub expr-parts_in-requires : goal.expr-parts_in-requires
expr-parts_in-requires t c = (omega (arith, weight-rest-lt _ _ _ _ (sym c.list_head.ensures ∙ c.in_ok-head.was), ap weight c.rest.ensures), tt)

pub expr-returns : goal.expr-returns
expr-returns t c = expr_built _ _ _ _ _ _ _ _ _ _ (sym c.list_head.ensures ∙ c.in_ok-head.was) c.rest.ensures c.layout_of.ensures c.in_ok-parts.ensures c.new.ensures

pub expr-returns-in_err-parts : goal.expr-returns-in_err-parts
expr-returns-in_err-parts t c =
    let p = err_from_is_err_and c.from_residual-in_err-parts.result c.from_residual-in_err-parts.ensures.1 in
    rw (p.1, p.2) (elim c.in_err-parts.ensures [
      | inl e ↦ inl e
      | inr e ↦ inr (parts_fail _ _ _ _ _ _ (sym c.list_head.ensures ∙ c.in_ok-head.was) c.rest.ensures c.layout_of.ensures _ e)
    ])
