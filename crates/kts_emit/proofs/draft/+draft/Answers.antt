use Rattle.std.proofs.Common.{◌≡◌, ◌+◌, [], ◌∷◌, ◌++◌, length, map}
use Rattle.kts_code.specs.declared.instructions.Instr.TheVariants.{Given, Choice, Sub, Mul, Min, Max, Not}
use Rattle.kts_emit.specs.Codes.{term_code, formula_code}
use Rattle.kts_emit.proofs.DraftSteps.{operation_drafted, not_drafted, implies_drafted, sum_drafted, bound_drafted, loops_open, comparison_drafted, turned_drafted}
use Rattle.kts_emit.proofs.CodeEquations.{term_code-Given, term_code-Choice, term_code-Sub, term_code-Mul, term_code-Min, term_code-Max, term_code-Sum}
use Rattle.kts_emit.proofs.CodeEquations.{formula_code-Compare, formula_code-Not, formula_code-Implies}
use Rattle.kts_emit.proofs.draft.+draft.Goals as goal

pub draft_term-returns-in_ok-push-in-Given : goal.draft_term-returns-in_ok-push-in-Given
draft_term-returns-in_ok-push-in-Given t c =
    let i = c.in-Given in
    let d = c.args.draft.now in
    let e = operation_drafted c.args.base d (map term_code i.args) (Given i.f ∷ []) c.args.scope in
    let f = term_code-Given i.f i.args (c.args.base + length d) c.args.scope in
    cc (c.in_ok-push-in-Given.ensures.ok, c.in_ok-draft_terms-in-Given.ensures, c.as_slice.ensures, i.is)

pub draft_term-returns-in_ok-push-in-Choice : goal.draft_term-returns-in_ok-push-in-Choice
draft_term-returns-in_ok-push-in-Choice t c =
    let i = c.in-Choice in
    let d = c.args.draft.now in
    let e = operation_drafted c.args.base d (map term_code i.args) (Choice i.x ∷ []) c.args.scope in
    let f = term_code-Choice i.x i.args (c.args.base + length d) c.args.scope in
    cc (c.in_ok-push-in-Choice.ensures.ok, c.in_ok-draft_terms-in-Choice.ensures, c.as_slice-in-Choice.ensures, i.is)

pub draft_term-returns-in_ok-push-in-Sub : goal.draft_term-returns-in_ok-push-in-Sub
draft_term-returns-in_ok-push-in-Sub t c =
    let i = c.in-Sub in
    let d = c.args.draft.now in
    let e = operation_drafted c.args.base d (map term_code i.parts) (Sub ∷ []) c.args.scope in
    let f = term_code-Sub i.parts (c.args.base + length d) c.args.scope in
    cc (c.in_ok-push-in-Sub.ensures.ok, c.in_ok-draft_terms-in-Sub.ensures, c.as_slice-in-Sub.ensures, i.is)

pub draft_term-returns-in_ok-push-in-Mul : goal.draft_term-returns-in_ok-push-in-Mul
draft_term-returns-in_ok-push-in-Mul t c =
    let i = c.in-Mul in
    let d = c.args.draft.now in
    let e = operation_drafted c.args.base d (map term_code i.parts) (Mul ∷ []) c.args.scope in
    let f = term_code-Mul i.parts (c.args.base + length d) c.args.scope in
    cc (c.in_ok-push-in-Mul.ensures.ok, c.in_ok-draft_terms-in-Mul.ensures, c.as_slice-in-Mul.ensures, i.is)

pub draft_term-returns-in_ok-push-in-Min : goal.draft_term-returns-in_ok-push-in-Min
draft_term-returns-in_ok-push-in-Min t c =
    let i = c.in-Min in
    let d = c.args.draft.now in
    let e = operation_drafted c.args.base d (map term_code i.parts) (Min ∷ []) c.args.scope in
    let f = term_code-Min i.parts (c.args.base + length d) c.args.scope in
    cc (c.in_ok-push-in-Min.ensures.ok, c.in_ok-draft_terms-in-Min.ensures, c.as_slice-in-Min.ensures, i.is)

pub draft_term-returns-in_ok-push-in-Max : goal.draft_term-returns-in_ok-push-in-Max
draft_term-returns-in_ok-push-in-Max t c =
    let i = c.in-Max in
    let d = c.args.draft.now in
    let e = operation_drafted c.args.base d (map term_code i.parts) (Max ∷ []) c.args.scope in
    let f = term_code-Max i.parts (c.args.base + length d) c.args.scope in
    cc (c.in_ok-push-in-Max.ensures.ok, c.in_ok-draft_terms-in-Max.ensures, c.as_slice-in-Max.ensures, i.is)

pub draft_term-returns-in_ok-close_loop-in-Sum : goal.draft_term-returns-in_ok-close_loop-in-Sum
draft_term-returns-in_ok-close_loop-in-Sum t c =
    let i = c.in-Sum in
    let d = c.args.draft.now in
    let e = sum_drafted c.args.base d c.open_loop.new.draft c.draft_formula.new.draft c.draft_term.new.draft c.push-in-Sum.new.self
    c.push-in-Sum-2.new.self c.close_loop.new.draft (formula_code i.p) (term_code i.a) c.args.scope c.in_ok-inner-in-Sum.inner c.len-at.result i.index
    c.in_ok-inner-in-Sum.ensures c.len-at.ensures c.in_ok-open_loop-in-Sum.ensures
    (cc (c.in_ok-draft_formula-in-Sum.ensures, c.get.ensures)) (cc (c.in_ok-draft_term-in-Sum.ensures, c.get-in-Sum.ensures))
    c.in_ok-push-in-Sum.ensures.ok c.in_ok-push-in-Sum-2.ensures.ok c.in_ok-close_loop-in-Sum.ensures in
    let f = term_code-Sum i.index i.p i.a (c.args.base + length d) c.args.scope in
    cc (i.is)

pub draft_bound-close_loops-requires : goal.draft_bound-close_loops-requires
draft_bound-close_loops-requires t c =
    loops_open c.args.base c.args.start c.args.draft.now c.open_loops.new.draft c.draft_formula.new.draft c.args.indexes.now
    (formula_code c.args.p.now) c.args.scope c.in_ok-inner.inner c.len-at.result c.len-at.ensures c.in_ok-inner.ensures.code c.in_ok-draft_formula.ensures

pub draft_bound-returns : goal.draft_bound-returns
draft_bound-returns t c =
    bound_drafted c.args.base c.args.start c.args.join c.args.draft.now c.open_loops.new.draft c.draft_formula.new.draft c.close_loops.new.draft
    c.args.indexes.now (formula_code c.args.p.now) c.args.scope c.in_ok-inner.inner c.len-at.result c.in_ok-inner.ensures.depth c.len-at.ensures
    c.in_ok-inner.ensures.code c.in_ok-draft_formula.ensures c.in_ok-close_loops.ensures.code

pub draft_formula-returns-in_ok-draft_test-in-Compare : goal.draft_formula-returns-in_ok-draft_test-in-Compare
draft_formula-returns-in_ok-draft_test-in-Compare t c =
    let i = c.in-Compare in
    let d = c.args.draft.now in
    let e = turned_drafted c.args.base i.comparison d c.draft_term.new.draft c.draft_term-then-is_turned.new.draft c.draft_test.new.draft
    (term_code i.a) (term_code i.b) c.args.scope (cc (c.is_turned.ensures, c.if-is_turned.true))
    c.in_ok-draft_term-in-Compare.ensures c.in_ok-draft_term-in-Compare-2.ensures c.in_ok-draft_test-in-Compare.ensures in
    let f = formula_code-Compare i.comparison i.a i.b (c.args.base + length d) c.args.scope in
    cc (i.is)

pub draft_formula-returns-in_ok-draft_test-in-Compare-2 : goal.draft_formula-returns-in_ok-draft_test-in-Compare-2
draft_formula-returns-in_ok-draft_test-in-Compare-2 t c =
    let i = c.in-Compare in
    let d = c.args.draft.now in
    let e = comparison_drafted c.args.base i.comparison d c.draft_term-else-is_turned.new.draft c.draft_term-else-is_turned-2.new.draft
    c.draft_test-else-is_turned.new.draft (term_code i.a) (term_code i.b) c.args.scope (cc (c.is_turned.ensures, c.if-is_turned.false))
    c.in_ok-draft_term-in-Compare-3.ensures c.in_ok-draft_term-in-Compare-4.ensures c.in_ok-draft_test-in-Compare-2.ensures in
    let f = formula_code-Compare i.comparison i.a i.b (c.args.base + length d) c.args.scope in
    cc (i.is)

pub draft_formula-returns-in_ok-push-in-Not : goal.draft_formula-returns-in_ok-push-in-Not
draft_formula-returns-in_ok-push-in-Not t c =
    let i = c.in-Not in
    let d = c.args.draft.now in
    let e = not_drafted c.args.base d (formula_code i.p) c.args.scope in
    let f = formula_code-Not i.p (c.args.base + length d) c.args.scope in
    cc (c.in_ok-push-in-Not.ensures.ok, c.in_ok-draft_formula-in-Not.ensures, c.get.ensures, i.is)

pub draft_formula-returns-in_ok-push-in-Implies-2 : goal.draft_formula-returns-in_ok-push-in-Implies-2
draft_formula-returns-in_ok-push-in-Implies-2 t c =
    let i = c.in-Implies in
    let d = c.args.draft.now in
    let k = c.push-in-Implies.new.self in
    let first : k ≡ (d ++ formula_code i.p (c.args.base + length d) c.args.scope) ++ Not ∷ [] =
    cc (c.in_ok-push-in-Implies.ensures.ok, c.in_ok-draft_formula-in-Implies.ensures, c.get-in-Implies.ensures, i.is) in
    let e = implies_drafted c.args.base d k (formula_code i.p) (formula_code i.q) c.args.scope first in
    let f = formula_code-Implies i.p i.q (c.args.base + length d) c.args.scope in
    cc (c.in_ok-push-in-Implies-2.ensures.ok, c.in_ok-draft_formula-in-Implies-2.ensures, c.get-in-Implies-2.ensures, i.is)
