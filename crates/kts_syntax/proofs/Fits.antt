-- What is read may be written.
use Rattle.std.proofs.Common.{◌≡◌, refl, ◌∙◌, ap, subst, ℕ, suc, ◌+◌, List, [], ◌∷◌, length, map, Bool, true, false, ◌&&◌, arith}
use Rattle.std.proofs.lemmas.List.{length-map}
use Rattle.std.proofs.lemmas.Bool.{and_from, both_ways}
use Rattle.kts_text.specs.Forest.{Forest, none, atom, list}
use Rattle.kts_syntax.specs.Fitting.{expr_fits, fit_step, exprs_fit, parts_fit, binder_fits, is_binder, is_empty, has_role, head_fits}
use Rattle.kts_syntax.specs.Heads.{role_in, layout_after, layout_of}
use Rattle.kts_syntax.specs.Readings.{is_none, with_part}
use Rattle.kts_syntax.specs.Sizes.{count}
use Rattle.kts_syntax.specs.declared.expr.Expr.{Expr, out-Expr, roll-Expr}
use Rattle.kts_syntax.specs.declared.expr.Expr.TheOpen.{Expr-F}
use Rattle.kts_syntax.specs.declared.expr.Expr.TheFolds.{fold-roll-Expr, fold_out-Expr}
use Rattle.kts_syntax.specs.declared.layout.Layout.{Layout}
use Rattle.kts_syntax.specs.declared.layout.Layout.TheVariants.{Terms, Formulas, Summed, Filtered, Quantified}
use Rattle.kts_syntax.specs.declared.layout.Role.{Role}
use Rattle.kts_syntax.specs.declared.layout.Role.TheVariants.{Binder, Term, Formula}
use Rattle.kts_syntax.specs.declared.parts.Part.{Part}
use Rattle.kts_syntax.specs.declared.parts.Part.TheVariants.{Bound, Operand}
use Rattle.kts_syntax.specs.declared.parts.Parts.{Parts}
use Rattle.kts_syntax.specs.declared.word.Word.{Word}

-- an expression by its head, its binders and its parts
pub expr_fits-roll : (x : Expr-F Expr) (role : Role) → expr_fits (roll-Expr x) role
    ≡ (has_role x.head role && head_fits x.head (length x.binders + length x.parts) && parts_fit (layout_of x.head) x.binders (map expr_fits x.parts))
unfolding expr_fits
expr_fits-roll x role = ap (λ (f : Role → Bool). f role) (fold-roll-Expr (Role → Bool) fit_step x) ∙ rw (length-map x.parts expr_fits) refl

pub expr_fits-out : (expr : Expr) (role : Role) → expr_fits expr role
    ≡ (has_role (out-Expr expr).head role && head_fits (out-Expr expr).head (length (out-Expr expr).binders + length (out-Expr expr).parts)
    && parts_fit (layout_of (out-Expr expr).head) (out-Expr expr).binders (map expr_fits (out-Expr expr).parts))
unfolding expr_fits
expr_fits-out expr role = ap (λ (f : Role → Bool). f role) (fold_out-Expr (Role → Bool) fit_step expr) ∙ rw (length-map (out-Expr expr).parts expr_fits) refl

-- no expression is a binder
no_binder : (expr : Expr) → expr_fits expr Binder ≡ false
unfolding has_role
no_binder expr = expr_fits-out expr Binder

not_binder : (expr : Expr) (role : Role) → expr_fits expr role ≡ true → is_binder role ≡ false
not_binder expr Binder fit = absurd (both_ways _ (no_binder expr) fit)
not_binder expr Term fit = refl
not_binder expr Formula fit = refl

abbrev pub part_fits : Role → Part → Bool
part_fits role (Bound b) = is_binder role && binder_fits b
part_fits role (Operand expr) = expr_fits expr role

-- no binder stands after an expression
order : (layout : Layout) (last : Bool) (bs : List (Word × Word × ℕ)) (exprs : List (Role → Bool)) → is_binder (role_in layout last) ≡ false → last ≡ (is_empty bs && is_empty exprs)
    → parts_fit (layout_after layout) bs exprs ≡ true → bs ≡ []
unfolding role_in layout_after
order layout last [] exprs operand is fit = refl
order Terms last (b ∷ bs) exprs operand is fit = absurd cc
order Formulas last (b ∷ bs) exprs operand is fit = absurd cc
order Summed last (b ∷ bs) exprs operand is fit = absurd cc
order Filtered last (b ∷ bs) exprs operand is fit = absurd cc
order Quantified true (b ∷ bs) exprs operand is fit = absurd cc
order Quantified false (b ∷ bs) exprs operand is fit = absurd cc

-- ---- a part in front of others

-- these are the parts of trees, as many as there are
pub record ReadFits (layout : Layout) (t : Forest) (ps : Parts) : Type 0 where
  pub as_many : length ps.binders + length ps.exprs ≡ count t
  pub fit : parts_fit layout ps.binders (map expr_fits ps.exprs) ≡ true

none_left : (t : Forest) (bs : List (Word × Word × ℕ)) (es : List Expr) → length bs + length es ≡ count t → is_none t ≡ (is_empty bs && is_empty (map expr_fits es))
unfolding count
none_left none [] [] e = refl
none_left none [] (x ∷ es) e = absurd (omega arith)
none_left none (b ∷ bs) es e = absurd (omega arith)
none_left (atom at bytes after) [] [] e = absurd (omega arith)
none_left (atom at bytes after) [] (x ∷ es) e = refl
none_left (atom at bytes after) (b ∷ bs) es e = refl
none_left (list start end inside after) [] [] e = absurd (omega arith)
none_left (list start end inside after) [] (x ∷ es) e = refl
none_left (list start end inside after) (b ∷ bs) es e = refl

bound_fits : (layout : Layout) (last : Bool) (b : Word × Word × ℕ) (bs : List (Word × Word × ℕ)) (exprs : List (Role → Bool)) → last ≡ (is_empty bs && is_empty exprs)
    → (is_binder (role_in layout last) && binder_fits b) ≡ true → parts_fit (layout_after layout) bs exprs ≡ true → parts_fit layout (b ∷ bs) exprs ≡ true
bound_fits layout last b bs exprs is fit more =
    and_from (is_binder (role_in layout (is_empty bs && is_empty exprs)) && binder_fits b) (parts_fit (layout_after layout) bs exprs)
    (subst (λ (l : Bool). (is_binder (role_in layout l) && binder_fits b) ≡ true) is fit) more

operand_fits : (layout : Layout) (last : Bool) (e : Expr) (bs : List (Word × Word × ℕ)) (exprs : List (Role → Bool)) → last ≡ (is_empty bs && is_empty exprs)
    → expr_fits e (role_in layout last) ≡ true → parts_fit (layout_after layout) bs exprs ≡ true → parts_fit layout bs (expr_fits e ∷ exprs) ≡ true
operand_fits layout last e [] exprs is fit more =
    and_from (expr_fits e (role_in layout (is_empty exprs))) (exprs_fit (layout_after layout) exprs) (subst (λ (l : Bool). expr_fits e (role_in layout l) ≡ true) is fit) more
operand_fits layout last e (b ∷ bs) exprs is fit more = absurd (no_cons (order layout last (b ∷ bs) exprs (not_binder e (role_in layout last) fit) is more))
  where
    no_cons : (b ∷ bs) ≡ [] → ⊥
    no_cons e = cc

pub front_fits : (layout : Layout) (after : Forest) (part : Part) (qs : Parts) → part_fits (role_in layout (is_none after)) part ≡ true → ReadFits (layout_after layout) after qs
    → parts_fit layout (with_part part qs).binders (map expr_fits (with_part part qs).exprs) ≡ true
unfolding with_part
front_fits layout after (Bound b) qs fit rest = bound_fits layout (is_none after) b qs.binders (map expr_fits qs.exprs) (none_left after qs.binders qs.exprs rest.as_many) fit rest.fit
front_fits layout after (Operand e) qs fit rest = operand_fits layout (is_none after) e qs.binders (map expr_fits qs.exprs) (none_left after qs.binders qs.exprs rest.as_many) fit rest.fit

pub one_more : (part : Part) (qs : Parts) → length (with_part part qs).binders + length (with_part part qs).exprs ≡ suc (length qs.binders + length qs.exprs)
unfolding with_part
one_more (Bound b) qs = omega arith
one_more (Operand e) qs = omega arith
