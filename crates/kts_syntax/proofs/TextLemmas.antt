-- Texts of parts, one after another.
use Rattle.std.proofs.Common.{◌≡◌, refl, sym, ◌∙◌, ap, ℕ, suc, ◌+◌, ◌-◌, ◌<◌, ◌≤◌, ◌==◌, ◌&&◌, List, [], ◌∷◌, ◌++◌, length, take, drop, map, get_or, add-one, append_assoc, append-nil, ℤ, true, false, if◌then◌else◌, arith}
use Rattle.std.specs.Fmt.{signed_decimal}
use Rattle.std.specs.Prelude.{codes}
use Rattle.std.proofs.Math.Seq.{drop-cons}
use Rattle.std.proofs.lemmas.Bool.Decides.{nat_tests}
use Rattle.std.proofs.lemmas.List.{drop_all, take_all, length-map}
use Rattle.kts_syntax.specs.Texts.{spaced, listed, list_text, name_text, names_text, binder_text, head_text, expr_text, text_step, form_text, lines_text, forms_text}
use Rattle.kts_syntax.specs.declared.expr.Expr.{Expr, out-Expr}
use Rattle.kts_syntax.specs.declared.expr.Expr.TheFolds.{fold_out-Expr}
use Rattle.kts_syntax.specs.Tops.{Ast}
use Rattle.kts_syntax.specs.declared.form.Form.{Form}
use Rattle.kts_syntax.specs.declared.head.Head.{Head}
use Rattle.kts_syntax.specs.declared.word.Word.{Word}

module _ {A : Type 0} (text : A → List ℕ) (xs : List A) (i : ℕ) where
  pub spaced_here : (x : A) → i < length xs → x ≡ get_or xs i x → spaced (map text (drop i xs)) ≡ (32 ∷ text x) ++ spaced (map text (drop (i + 1) xs))
  spaced_here x h is = ap (λ ys. spaced (map text ys)) (drop-cons xs i x h) ∙ rw (← is, add-one) refl

  pub spaced_end : length xs ≤ i → spaced (map text (drop i xs)) ≡ []
  spaced_end h = ap (λ ys. spaced (map text ys)) (drop_all i xs h)

expr_text-out : (expr : Expr) → expr_text expr ≡ (if length (out-Expr expr).binders == 0 && length (map expr_text (out-Expr expr).parts) == 0 then head_text (out-Expr expr).head
    else listed (head_text (out-Expr expr).head) (map binder_text (out-Expr expr).binders) (map expr_text (out-Expr expr).parts))
unfolding expr_text
expr_text-out expr = fold_out-Expr (List ℕ) text_step expr

pub expr_text-by : (expr : Expr) → expr_text expr ≡ (if length (out-Expr expr).binders == 0 && length (out-Expr expr).parts == 0 then head_text (out-Expr expr).head
    else listed (head_text (out-Expr expr).head) (map binder_text (out-Expr expr).binders) (map expr_text (out-Expr expr).parts))
expr_text-by expr = expr_text-out expr ∙ rw (length-map (out-Expr expr).parts expr_text) refl

module _ (expr : Expr) (head : Head) (binders : List (Word × Word × ℕ)) (parts : List Expr) (is_head : head ≡ (out-Expr expr).head) (are_binders : binders ≡ (out-Expr expr).binders) (are_parts : parts ≡ (out-Expr expr).parts) where
  pub alone : true ≡ (length binders == 0 && length parts == 0) → expr_text expr ≡ head_text head
  alone h = expr_text-by expr ∙ rw (← is_head, ← are_binders, ← are_parts, ← h) refl

  pub not_alone : false ≡ (length binders == 0 && length parts == 0) → expr_text expr ≡ listed (head_text head) (map binder_text binders) (map expr_text parts)
  not_alone h = expr_text-by expr ∙ rw (← is_head, ← are_binders, ← are_parts, ← h) refl

pub binder_pieces : (binder : Word × Word × ℕ) → 32 ∷ 40 ∷ (binder.0.name ++ 32 ∷ (binder.1.name ++ 41 ∷ [])) ≡ 32 ∷ binder_text binder
unfolding binder_text
binder_pieces binder = ap (λ (index : List ℕ). 32 ∷ 40 ∷ (binder.0.name ++ 32 ∷ (index ++ 41 ∷ []))) (sym (append-nil binder.1.name))

pub named_pieces : (word name : List ℕ) → 40 ∷ (word ++ 32 ∷ (name ++ 41 ∷ [])) ≡ list_text word (name ∷ [])
named_pieces word name = ap (λ (n : List ℕ). 40 ∷ (word ++ 32 ∷ (n ++ 41 ∷ []))) (sym (append-nil name))

-- two and three parts, right-nested
pub two_spaced : (a b end : List ℕ) → spaced (a ∷ b ∷ []) ++ end ≡ 32 ∷ (a ++ 32 ∷ (b ++ end))
two_spaced a b end = ap (λ (l : List ℕ). 32 ∷ l) (append_assoc a (32 ∷ (b ++ [])) end ∙ ap (λ (l : List ℕ). a ++ 32 ∷ (l ++ end)) (append-nil b))

pub three_spaced : (a b c end : List ℕ) → spaced (a ∷ b ∷ c ∷ []) ++ end ≡ 32 ∷ (a ++ 32 ∷ (b ++ 32 ∷ (c ++ end)))
three_spaced a b c end = ap (λ (l : List ℕ). 32 ∷ l) (append_assoc a (spaced (b ∷ c ∷ [])) end ∙ ap (λ (l : List ℕ). a ++ l) (two_spaced b c end))

-- a text in front, up to a first part
front_text : (word name rest : List ℕ) → (40 ∷ (word ++ 32 ∷ (name ++ 32 ∷ []))) ++ rest ≡ 40 ∷ (word ++ 32 ∷ (name ++ 32 ∷ rest))
front_text word name rest = ap (λ (l : List ℕ). 40 ∷ l) (append_assoc word (32 ∷ (name ++ 32 ∷ [])) rest ∙ ap (λ (l : List ℕ). word ++ 32 ∷ l) (append_assoc name (32 ∷ []) rest))

pub family_text : (word name args shape : List ℕ) → (40 ∷ (word ++ 32 ∷ (name ++ 32 ∷ []))) ++ (args ++ 32 ∷ (shape ++ 41 ∷ [])) ≡ list_text word (name ∷ args ∷ shape ∷ [])
family_text word name args shape = front_text word name (args ++ 32 ∷ (shape ++ 41 ∷ [])) ∙ ap (λ (l : List ℕ). 40 ∷ (word ++ l)) (sym (three_spaced name args shape (41 ∷ [])))

pub formula_text : (word name formula : List ℕ) → (40 ∷ (word ++ 32 ∷ (name ++ 32 ∷ []))) ++ (formula ++ 41 ∷ []) ≡ list_text word (name ∷ formula ∷ [])
formula_text word name formula = front_text word name (formula ++ 41 ∷ []) ∙ ap (λ (l : List ℕ). 40 ∷ (word ++ l)) (sym (two_spaced name formula (41 ∷ [])))

pub int_pieces : (low high : ℤ) → 40 ∷ 105 ∷ 110 ∷ 116 ∷ 32 ∷ (signed_decimal low ++ 32 ∷ (signed_decimal high ++ 41 ∷ [])) ≡ list_text (codes "int") (signed_decimal low ∷ signed_decimal high ∷ [])
int_pieces low high = ap (λ (l : List ℕ). codes "(int" ++ l) (sym (two_spaced (signed_decimal low) (signed_decimal high) (41 ∷ [])))

pub names_here : (words : List Word) (first : Word) → false ≡ (length words == 0) → first ≡ get_or words 0 first
    → names_text words ≡ list_text first.name (map name_text (take (length words - 1) (drop 1 words)))
names_here [] first h is = absurd cc
names_here (word ∷ words) first h is =
    ap (λ (w : Word). list_text w.name (map name_text words)) (sym is)
    ∙ ap (λ (ws : List Word). list_text first.name (map name_text ws)) (sym (take_all (length (word ∷ words) - 1) words (omega arith)))

pub names_none : (words : List Word) → true ≡ (length words == 0) → names_text words ≡ 40 ∷ 41 ∷ []
names_none [] h = refl
names_none (word ∷ words) h = absurd (grind (arith, nat_tests))

pub lines_here : (forms : List Form) (i : ℕ) (form : Form) → i < length forms → form ≡ get_or forms i form → lines_text (drop i forms) ≡ (form_text form ++ 10 ∷ []) ++ lines_text (drop (i + 1) forms)
lines_here forms i form h is = ap lines_text (drop-cons forms i form h) ∙ rw (← is, add-one) (sym (append_assoc (form_text form) (10 ∷ []) (lines_text (drop (suc i) forms))))

pub lines_end : (forms : List Form) (i : ℕ) → length forms ≤ i → lines_text (drop i forms) ≡ []
lines_end forms i h = ap lines_text (drop_all i forms h)

pub spec_text : (ast : Ast) → (codes "(spec " ++ (ast.name ++ codes ")\n")) ++ lines_text ast.forms ≡ forms_text ast
unfolding forms_text
spec_text ast =
    ap (λ (l : List ℕ). codes "(spec " ++ l) (append_assoc ast.name (codes ")\n") (lines_text ast.forms)
    ∙ sym (append_assoc (ast.name ++ []) (41 ∷ []) (10 ∷ lines_text ast.forms) ∙ ap (λ (l : List ℕ). l ++ 41 ∷ 10 ∷ lines_text ast.forms) (append-nil ast.name)))
