-- Terms and formulas that are read are of the grammar.
use Rattle.std.proofs.Common.{◌≡◌, refl, sym, ◌∙◌, ap, subst, ℕ, suc, ◌≤◌, ◌==◌, List, [], ◌∷◌, length, Bool, true, false, if◌then◌else◌, Some, Ok, arith}
use Rattle.std.specs.Prelude.{nat_le, codes}
use Rattle.std.proofs.lemmas.Bool.Decides.{nat_tests}
use Rattle.kts_base.specs.Names.{is_between}
use Rattle.kts_base.specs.Reads.{and_then}
use Rattle.kts_text.specs.Forest.{Forest, none, atom, list}
use Rattle.kts_syntax.specs.Faults.{fault}
use Rattle.kts_syntax.specs.FormsOf as grammar
use Rattle.kts_syntax.specs.FormsOf.{Binding, expr_at, BinderOf, BindersOf, IsOperation, IsComparison, IsConnective, IsQuantifier, TermOf, TermsOf, FormulaOf, FormulasOf}
use Rattle.kts_syntax.specs.Heads.{operation_of, head_of, has_parts, layout_of, role_in, layout_after}
use Rattle.kts_syntax.specs.Readings.{is_none, name_at, number_at, binder, term_atom, atom_part, list_part, list_head, expr_of, no_parts, with_part, parts_in, expr}
use Rattle.kts_syntax.specs.Sizes.{count}
use Rattle.kts_syntax.specs.Words.{number_of, is_like_number}
use Rattle.kts_syntax.specs.declared.expr.Expr.{Expr}
use Rattle.kts_syntax.specs.declared.fault.FormKind.TheVariants.{BadNumber}
use Rattle.kts_syntax.specs.declared.head.Head.{Head}
use Rattle.kts_syntax.specs.declared.head.Head.TheVariants.{Add, Sub, Mul, Min, Max, Sum, Le, Lt, Ge, Gt, Eq, Ne, And, Or, Not, Implies, Forall, Exists, Number, Use}
use Rattle.kts_syntax.specs.declared.layout.Layout.{Layout}
use Rattle.kts_syntax.specs.declared.layout.Layout.TheVariants.{Terms, Formulas, Summed, Filtered, Quantified}
use Rattle.kts_syntax.specs.declared.layout.Role.{Role}
use Rattle.kts_syntax.specs.declared.layout.Role.TheVariants.{Binder, Term, Formula}
use Rattle.kts_syntax.specs.declared.parts.Part.{Part}
use Rattle.kts_syntax.specs.declared.parts.Part.TheVariants.{Bound, Operand}
use Rattle.kts_syntax.specs.declared.parts.Parts.{Parts}
use Rattle.kts_syntax.specs.declared.word.Word.{Word}
use Rattle.kts_syntax.proofs.GrammarFound.{name_at_if, binder_if, TermHead, plus, operation, sum_over, used, FormulaHead, comparison, connective, negation, implication, quantifier, term_head_if, formula_head_if, head_if}
use Rattle.kts_syntax.proofs.GrammarWords.{number_if}
use Rattle.kts_syntax.proofs.Inversions.{ok_is, both_ok, some_ok}

-- ---- parts of a layout

-- the first tree, as a part in a role
abbrev pub PartOf : Role → Forest → Part → Forest → Type 0
PartOf Binder t (Bound b) after = BinderOf t b after
PartOf Binder t (Operand e) after = ⊥
PartOf Term t (Bound b) after = ⊥
PartOf Term t (Operand e) after = TermOf t e after
PartOf Formula t (Bound b) after = ⊥
PartOf Formula t (Operand e) after = FormulaOf t e after

-- all the trees, as the parts of a list
data PartsOf : Layout → Forest → List Binding → List Expr → Type 0 where
  nothing : {layout : Layout} → PartsOf layout none [] []
  term : {t more : Forest} {e : Expr} {bs : List Binding} {es : List Expr} → TermOf t e more → PartsOf Terms more bs es → PartsOf Terms t bs (e ∷ es)
  formula : {t more : Forest} {e : Expr} {bs : List Binding} {es : List Expr} → FormulaOf t e more → PartsOf Formulas more bs es → PartsOf Formulas t bs (e ∷ es)
  bound : {t more : Forest} {b : Binding} {bs : List Binding} {es : List Expr} → BinderOf t b more → PartsOf Filtered more bs es → PartsOf Summed t (b ∷ bs) es
  condition : {t more : Forest} {e : Expr} {bs : List Binding} {es : List Expr} → FormulaOf t e more → PartsOf Terms more bs es → PartsOf Filtered t bs (e ∷ es)
  variable : {t more : Forest} {b : Binding} {bs : List Binding} {es : List Expr} → BinderOf t b more → 1 ≤ count more → PartsOf Quantified more bs es → PartsOf Quantified t (b ∷ bs) es
  body : {t : Forest} {e : Expr} → FormulaOf t e none → PartsOf Quantified t [] (e ∷ [])

nothing_read : (layout : Layout) (qs : Parts) → parts_in layout none ≡ Ok qs → no_parts ≡ qs
unfolding parts_in
nothing_read layout qs e = ok_is no_parts qs e

some_atom : (at : ℕ) (bytes : List ℕ) (after : Forest) → 1 ≤ count (atom at bytes after)
unfolding count
some_atom at bytes after = omega arith

some_list : (start end : ℕ) (inside after : Forest) → 1 ≤ count (list start end inside after)
unfolding count
some_list start end inside after = omega arith

-- one part more
part_more : (layout : Layout) (t after : Forest) (part : Part) (qs : Parts) → PartOf (role_in layout (is_none after)) t part after → parts_in (layout_after layout) after ≡ Ok qs
    → PartsOf (layout_after layout) after qs.binders qs.exprs → PartsOf layout t (with_part part qs).binders (with_part part qs).exprs
unfolding role_in layout_after with_part
part_more Terms t after (Bound b) qs first read more = absurd first
part_more Terms t after (Operand e) qs first read more = term first more
part_more Formulas t after (Bound b) qs first read more = absurd first
part_more Formulas t after (Operand e) qs first read more = formula first more
part_more Summed t after (Bound b) qs first read more = bound first more
part_more Summed t after (Operand e) qs first read more = absurd first
part_more Filtered t after (Bound b) qs first read more = absurd first
part_more Filtered t after (Operand e) qs first read more = condition first more
part_more Quantified t none (Bound b) qs first read more = absurd first
part_more Quantified t none (Operand e) qs first read more = subst (λ (qs : Parts). PartsOf Quantified t qs.binders (e ∷ qs.exprs)) (nothing_read Quantified qs read) (body first)
part_more Quantified t (atom at bytes after) (Bound b) qs first read more = variable first (some_atom at bytes after) more
part_more Quantified t (atom at bytes after) (Operand e) qs first read more = absurd first
part_more Quantified t (list start end inside after) (Bound b) qs first read more = variable first (some_list start end inside after) more
part_more Quantified t (list start end inside after) (Operand e) qs first read more = absurd first

-- ---- what the parts are, layout by layout

terms_of : {t : Forest} {bs : List Binding} {es : List Expr} → PartsOf Terms t bs es → (bs ≡ []) × TermsOf t es
terms_of nothing = (refl, grammar.no_term)
terms_of (term first more) = let others = terms_of more in (others.0, grammar.one_term first others.1)

formulas_of : {t : Forest} {bs : List Binding} {es : List Expr} → PartsOf Formulas t bs es → (bs ≡ []) × FormulasOf t es
formulas_of nothing = (refl, grammar.no_formula)
formulas_of (formula first more) = let others = formulas_of more in (others.0, grammar.one_formula first others.1)

-- ---- counts

pub binder_count : {t after : Forest} {b : Binding} → BinderOf t b after → count t ≡ suc (count after)
unfolding count
binder_count (grammar.binder first second) = refl

pub term_count : {t after : Forest} {e : Expr} → TermOf t e after → count t ≡ suc (count after)
unfolding count
term_count (grammar.TermOf.number n) = refl
term_count (grammar.TermOf.name n) = refl
term_count (grammar.with_arguments n args some few) = refl
term_count (grammar.TermOf.sum terms some) = refl
term_count (grammar.TermOf.operation is terms) = refl
term_count (grammar.sum_over b p t) = refl

pub formula_count : {t after : Forest} {e : Expr} → FormulaOf t e after → count t ≡ suc (count after)
unfolding count
formula_count (grammar.FormulaOf.comparison is terms) = refl
formula_count (grammar.FormulaOf.connective is formulas some) = refl
formula_count (grammar.FormulaOf.negation p) = refl
formula_count (grammar.FormulaOf.implication p q) = refl
formula_count (grammar.FormulaOf.quantifier is bs p) = refl

pub none_count : count none ≡ 0
unfolding count
none_count = refl

pub terms_count : {t : Forest} {es : List Expr} → TermsOf t es → count t ≡ length es
terms_count grammar.no_term = none_count
terms_count (grammar.one_term first more) = term_count first ∙ ap suc (terms_count more)

pub formulas_count : {t : Forest} {es : List Expr} → FormulasOf t es → count t ≡ length es
formulas_count grammar.no_formula = none_count
formulas_count (grammar.one_formula first more) = formula_count first ∙ ap suc (formulas_count more)

-- ---- expressions

is_count : (n m : ℕ) → (n == m) ≡ true → n ≡ m
is_count n m h = grind (arith, nat_tests)

at_least : (n m : ℕ) → nat_le n m ≡ true → n ≤ m
at_least n m h = grind (arith, nat_tests)

at_most_two : (n : ℕ) → is_between 1 2 n ≡ true → (1 ≤ n) × (n ≤ 2)
at_most_two n h = (grind (arith, nat_tests), grind (arith, nat_tests))

one_of : {A : Type 0} (xs : List A) → 1 ≡ length xs → (x : A) × (xs ≡ x ∷ [])
one_of [] e = absurd (omega arith)
one_of (x ∷ []) e = (x, refl)
one_of (x ∷ y ∷ xs) e = absurd (omega arith)

two_of : {A : Type 0} (xs : List A) → 2 ≡ length xs → (x : A) × (y : A) × (xs ≡ x ∷ y ∷ [])
two_of [] e = absurd (omega arith)
two_of (x ∷ []) e = absurd (omega arith)
two_of (x ∷ y ∷ []) e = (x, y, refl)
two_of (x ∷ y ∷ z ∷ xs) e = absurd (omega arith)

last_term : {t : Forest} {e : Expr} → TermsOf t (e ∷ []) → TermOf t e none
last_term (grammar.one_term first grammar.no_term) = first

last_formula : {t : Forest} {e : Expr} → FormulasOf t (e ∷ []) → FormulaOf t e none
last_formula (grammar.one_formula first grammar.no_formula) = first

two_formulas : {t : Forest} {p q : Expr} → FormulasOf t (p ∷ q ∷ []) → (more : Forest) × FormulaOf t p more × FormulaOf more q none
two_formulas (grammar.one_formula {more = more} first others) = (more, first, last_formula others)

-- terms as those of an operation on two
two_terms : (t : Forest) (P : List Binding → List Expr → Type 0) {bs : List Binding} {es : List Expr} → (count t == 2) ≡ true → PartsOf Terms t bs es
    → ((a b : Expr) → TermsOf t (a ∷ b ∷ []) → P [] (a ∷ b ∷ [])) → P bs es
two_terms t P {bs} {es} two parts make =
    let all = terms_of parts in
    let both = two_of es (sym (is_count (count t) 2 two) ∙ terms_count all.1) in
    subst (λ (bs : List Binding). P bs es) (sym all.0) (subst (P []) (sym both.2) (make both.0 both.1 (subst (TermsOf t) both.2 all.1)))

-- binders before one formula
quantified : {t : Forest} {bs : List Binding} {es : List Expr} → PartsOf Quantified t bs es → 1 ≤ count t → (last : Forest) × (p : Expr) × BindersOf t bs last × FormulaOf last p none × (es ≡ p ∷ [])
quantified nothing some = absurd (let z = none_count in omega arith)
quantified (variable {bs = bs} first there more) some = let others = quantified more there in (others.0, others.1, grammar.one_binder first others.2, others.3, others.4)
quantified (body {t = t} {e = e} p) some = (t, e, grammar.no_binder, p, refl)

no_binders : {t last : Forest} → BindersOf t [] last → t ≡ last
no_binders grammar.no_binder = refl

-- at least one binder before one formula
quantified_some : (t : Forest) (P : List Binding → List Expr → Type 0) {bs : List Binding} {es : List Expr} → nat_le 2 (count t) ≡ true → PartsOf Quantified t bs es
    → ((b : Binding) (bs : List Binding) (last : Forest) (p : Expr) → BindersOf t (b ∷ bs) last → FormulaOf last p none → P (b ∷ bs) (p ∷ [])) → P bs es
quantified_some t P {bs} {es} two parts make = by bs found.2 (subst (P bs) (sym found.4))
  where
    found : (last : Forest) × (p : Expr) × BindersOf t bs last × FormulaOf last p none × (es ≡ p ∷ [])
    found = quantified parts (let h = at_least 2 (count t) two in omega arith)

    by : (bs : List Binding) → BindersOf t bs found.0 → (P bs (found.1 ∷ []) → P bs es) → P bs es
    by [] all done = absurd (let h = at_least 2 (count t) two in let one : count t ≡ 1 = ap count (no_binders all) ∙ formula_count found.3 ∙ ap suc none_count in omega arith)
    by (b ∷ bs) all done = done (make b bs found.0 found.1 all found.3)

-- a binder, a formula and a term
summed : {t : Forest} {bs : List Binding} {es : List Expr} → (count t == 3) ≡ true → PartsOf Summed t bs es
    → (b : Binding) × (p : Expr) × (e : Expr) × (more last : Forest) × BinderOf t b more × FormulaOf more p last × TermOf last e none × (bs ≡ b ∷ []) × (es ≡ p ∷ e ∷ [])
summed three nothing = absurd (let h = is_count (count none) 3 three in let z = none_count in omega arith)
summed {t = t} three (bound {more = more} {b = b} first nothing) = absurd (let h = is_count (count t) 3 three in let n = binder_count first in let z = none_count in omega arith)
summed {t = t} three (bound {more = more} {b = b} first (condition {more = last} {e = p} {es = es} second third)) =
    let all = terms_of third in
    let counted : count t ≡ suc (suc (count last)) = binder_count first ∙ ap suc (formula_count second) in
    let h = is_count (count t) 3 three in
    let one = one_of es ((omega arith) ∙ terms_count all.1) in
    (b, p, one.0, more, last, first, second, last_term (subst (TermsOf last) one.1 all.1), ap (λ (bs : List Binding). b ∷ bs) all.0, ap (λ (es : List Expr). p ∷ es) one.1)

-- ---- a list in a term's place, by its head

term_list : (start end at : ℕ) (word : List ℕ) (parts after : Forest) (head : Head) (bs : List Binding) (es : List Expr) → TermHead at word head → has_parts head (count parts) ≡ true
    → PartsOf (layout_of head) parts bs es → TermOf (list start end (atom at word parts) after) (expr_at start head bs es) after
unfolding has_parts layout_of
term_list start end at word parts after head bs es plus fit all =
    let terms = terms_of all in
    let some = at_least 2 (count parts) fit in
    let n = terms_count terms.1 in
    subst (λ (bs : List Binding). TermOf (list start end (atom at (codes "+") parts) after) (expr_at start Add bs es) after) (sym terms.0) (grammar.TermOf.sum terms.1 (omega arith))
term_list start end at word parts after head bs es (operation grammar.difference) fit all =
    two_terms parts (λ bs es. TermOf (list start end (atom at (codes "-") parts) after) (expr_at start Sub bs es) after) fit all (λ a b terms. grammar.TermOf.operation grammar.difference terms)
term_list start end at word parts after head bs es (operation grammar.product) fit all =
    two_terms parts (λ bs es. TermOf (list start end (atom at (codes "*") parts) after) (expr_at start Mul bs es) after) fit all (λ a b terms. grammar.TermOf.operation grammar.product terms)
term_list start end at word parts after head bs es (operation grammar.lesser) fit all =
    two_terms parts (λ bs es. TermOf (list start end (atom at (codes "min") parts) after) (expr_at start Min bs es) after) fit all (λ a b terms. grammar.TermOf.operation grammar.lesser terms)
term_list start end at word parts after head bs es (operation grammar.greater) fit all =
    two_terms parts (λ bs es. TermOf (list start end (atom at (codes "max") parts) after) (expr_at start Max bs es) after) fit all (λ a b terms. grammar.TermOf.operation grammar.greater terms)
term_list start end at word parts after head bs es sum_over fit all =
    let f = summed fit all in
    subst (λ (bs : List Binding). TermOf (list start end (atom at (codes "sum") parts) after) (expr_at start Sum bs es) after) (sym f.8)
    (subst (λ (es : List Expr). TermOf (list start end (atom at (codes "sum") parts) after) (expr_at start Sum (f.0 ∷ []) es) after) (sym f.9) (grammar.sum_over f.5 f.6 f.7))
term_list start end at word parts after head bs es (used named) fit all =
    let terms = terms_of all in
    let some = at_most_two (count parts) fit in
    let n = terms_count terms.1 in
    subst (λ (bs : List Binding). TermOf (list start end (atom at word parts) after) (expr_at start (Use (record { name = word; at = at })) bs es) after) (sym terms.0)
    (grammar.with_arguments named terms.1 (omega (arith, some.0)) (omega (arith, some.1)))

-- ---- a list in a formula's place, by its head

formula_list : (start end at : ℕ) (word : List ℕ) (parts after : Forest) (head : Head) (bs : List Binding) (es : List Expr) → FormulaHead word head → has_parts head (count parts) ≡ true
    → PartsOf (layout_of head) parts bs es → FormulaOf (list start end (atom at word parts) after) (expr_at start head bs es) after
unfolding has_parts layout_of
formula_list start end at word parts after head bs es (comparison grammar.at_most) fit all =
    two_terms parts (λ bs es. FormulaOf (list start end (atom at (codes "<=") parts) after) (expr_at start Le bs es) after) fit all (λ a b terms. grammar.FormulaOf.comparison grammar.at_most terms)
formula_list start end at word parts after head bs es (comparison grammar.less) fit all =
    two_terms parts (λ bs es. FormulaOf (list start end (atom at (codes "<") parts) after) (expr_at start Lt bs es) after) fit all (λ a b terms. grammar.FormulaOf.comparison grammar.less terms)
formula_list start end at word parts after head bs es (comparison grammar.at_least) fit all =
    two_terms parts (λ bs es. FormulaOf (list start end (atom at (codes ">=") parts) after) (expr_at start Ge bs es) after) fit all (λ a b terms. grammar.FormulaOf.comparison grammar.at_least terms)
formula_list start end at word parts after head bs es (comparison grammar.more) fit all =
    two_terms parts (λ bs es. FormulaOf (list start end (atom at (codes ">") parts) after) (expr_at start Gt bs es) after) fit all (λ a b terms. grammar.FormulaOf.comparison grammar.more terms)
formula_list start end at word parts after head bs es (comparison grammar.equal) fit all =
    two_terms parts (λ bs es. FormulaOf (list start end (atom at (codes "=") parts) after) (expr_at start Eq bs es) after) fit all (λ a b terms. grammar.FormulaOf.comparison grammar.equal terms)
formula_list start end at word parts after head bs es (comparison grammar.unequal) fit all =
    two_terms parts (λ bs es. FormulaOf (list start end (atom at (codes "/=") parts) after) (expr_at start Ne bs es) after) fit all (λ a b terms. grammar.FormulaOf.comparison grammar.unequal terms)
formula_list start end at word parts after head bs es (connective grammar.conjunction) fit all =
    let formulas = formulas_of all in
    let some = at_least 2 (count parts) fit in
    let n = formulas_count formulas.1 in
    subst (λ (bs : List Binding). FormulaOf (list start end (atom at (codes "and") parts) after) (expr_at start And bs es) after) (sym formulas.0) (grammar.FormulaOf.connective grammar.conjunction formulas.1 (omega arith))
formula_list start end at word parts after head bs es (connective grammar.disjunction) fit all =
    let formulas = formulas_of all in
    let some = at_least 2 (count parts) fit in
    let n = formulas_count formulas.1 in
    subst (λ (bs : List Binding). FormulaOf (list start end (atom at (codes "or") parts) after) (expr_at start Or bs es) after) (sym formulas.0) (grammar.FormulaOf.connective grammar.disjunction formulas.1 (omega arith))
formula_list start end at word parts after head bs es negation fit all =
    let formulas = formulas_of all in
    let one = one_of es (sym (is_count (count parts) 1 fit) ∙ formulas_count formulas.1) in
    subst (λ (bs : List Binding). FormulaOf (list start end (atom at (codes "not") parts) after) (expr_at start Not bs es) after) (sym formulas.0)
    (subst (λ (es : List Expr). FormulaOf (list start end (atom at (codes "not") parts) after) (expr_at start Not [] es) after) (sym one.1) (grammar.FormulaOf.negation (last_formula (subst (FormulasOf parts) one.1 formulas.1))))
formula_list start end at word parts after head bs es implication fit all =
    let formulas = formulas_of all in
    let two = two_of es (sym (is_count (count parts) 2 fit) ∙ formulas_count formulas.1) in
    let both = two_formulas (subst (FormulasOf parts) two.2 formulas.1) in
    subst (λ (bs : List Binding). FormulaOf (list start end (atom at (codes "=>") parts) after) (expr_at start Implies bs es) after) (sym formulas.0)
    (subst (λ (es : List Expr). FormulaOf (list start end (atom at (codes "=>") parts) after) (expr_at start Implies [] es) after) (sym two.2) (grammar.FormulaOf.implication both.1 both.2))
formula_list start end at word parts after head bs es (quantifier grammar.for_all) fit all =
    quantified_some parts (λ bs es. FormulaOf (list start end (atom at (codes "forall") parts) after) (expr_at start Forall bs es) after) fit all (λ b bs last p binders formula. grammar.FormulaOf.quantifier grammar.for_all binders formula)
formula_list start end at word parts after head bs es (quantifier grammar.for_some) fit all =
    quantified_some parts (λ bs es. FormulaOf (list start end (atom at (codes "exists") parts) after) (expr_at start Exists bs es) after) fit all (λ b bs last p binders formula. grammar.FormulaOf.quantifier grammar.for_some binders formula)

-- ---- the readings of parts and of expressions

term_atom_if : (at : ℕ) (bytes : List ℕ) (after : Forest) (e : Expr) → term_atom at bytes ≡ Ok e → TermOf (atom at bytes after) e after
unfolding term_atom number_at
term_atom_if at bytes after e q = by (is_like_number bytes) q
  where
    by : (b : Bool) → (if b then and_then (number_at at bytes) (λ n. Ok (expr_of at (Number n) no_parts)) else and_then (name_at at bytes) (λ word. Ok (expr_of at (Use word) no_parts))) ≡ Ok e → TermOf (atom at bytes after) e after
    by true q =
        let read = both_ok (number_at at bytes) _ e q in
        subst (λ (e : Expr). TermOf (atom at bytes after) e after) (ok_is (expr_of at (Number read.0) no_parts) e read.2)
        (grammar.TermOf.number (number_if bytes read.0 (some_ok (number_of bytes) (fault BadNumber at) read.0 read.1)))
    by false q =
        let read = both_ok (name_at at bytes) _ e q in
        let is = name_at_if at bytes read.0 read.1 in
        subst (λ (e : Expr). TermOf (atom at bytes after) e after) (ap (λ (w : Word). expr_of at (Use w) no_parts) is.1 ∙ ok_is (expr_of at (Use read.0) no_parts) e read.2)
        (grammar.TermOf.name is.0)

atom_part_if : (role : Role) (at : ℕ) (bytes : List ℕ) (after : Forest) (part : Part) → atom_part role at bytes ≡ Ok part → PartOf role (atom at bytes after) part after
unfolding atom_part
atom_part_if Binder at bytes after part q = absurd cc
atom_part_if Formula at bytes after part q = absurd cc
atom_part_if Term at bytes after part q =
    let read = both_ok (term_atom at bytes) _ part q in
    subst (λ (p : Part). PartOf Term (atom at bytes after) p after) (ok_is (Operand read.0) part read.2) (term_atom_if at bytes after read.0 read.1)

-- an expression in a role
abbrev pub ExprOf : Role → Forest → Expr → Forest → Type 0
ExprOf role t e after = PartOf role t (Operand e) after

list_part_if : (role : Role) (start end : ℕ) (inside after : Forest) (part : Part) → ((role : Role) (e : Expr) → expr role start inside ≡ Ok e → ExprOf role (list start end inside after) e after)
    → list_part role (binder start inside) (λ role. expr role start inside) ≡ Ok part → PartOf role (list start end inside after) part after
unfolding list_part
list_part_if Binder start end inside after part each q =
    let read = both_ok (binder start inside) _ part q in
    subst (λ (p : Part). PartOf Binder (list start end inside after) p after) (ok_is (Bound read.0) part read.2) (binder_if start end inside after read.0 read.1)
list_part_if Term start end inside after part each q =
    let read = both_ok (expr Term start inside) _ part q in
    subst (λ (p : Part). PartOf Term (list start end inside after) p after) (ok_is (Operand read.0) part read.2) (each Term read.0 read.1)
list_part_if Formula start end inside after part each q =
    let read = both_ok (expr Formula start inside) _ part q in
    subst (λ (p : Part). PartOf Formula (list start end inside after) p after) (ok_is (Operand read.0) part read.2) (each Formula read.0 read.1)

-- a list by its head and its parts
list_if : (role : Role) (start end at : ℕ) (word : List ℕ) (parts after : Forest) (head : Head) (bs : List Binding) (es : List Expr) → head_of role at word ≡ Some head → has_parts head (count parts) ≡ true
    → PartsOf (layout_of head) parts bs es → ExprOf role (list start end (atom at word parts) after) (expr_at start head bs es) after
unfolding head_of operation_of
list_if Binder start end at word parts after head bs es is fit all = absurd cc
list_if Term start end at word parts after head bs es is fit all = term_list start end at word parts after head bs es (term_head_if at word head is) fit all
list_if Formula start end at word parts after head bs es is fit all = formula_list start end at word parts after head bs es (formula_head_if at word head is) fit all

mutual
  unfolding parts_in expr list_head

  parts_found : (t : Forest) (layout : Layout) (ps : Parts) → parts_in layout t ≡ Ok ps → PartsOf layout t ps.binders ps.exprs
  parts_found none layout ps q = subst (λ (ps : Parts). PartsOf layout none ps.binders ps.exprs) (ok_is no_parts ps q) nothing
  parts_found (atom at bytes after) layout ps q =
      let first = both_ok (atom_part (role_in layout (is_none after)) at bytes) _ ps q in
      let others = both_ok (parts_in (layout_after layout) after) _ ps first.2 in
      subst (λ (ps : Parts). PartsOf layout (atom at bytes after) ps.binders ps.exprs) (ok_is (with_part first.0 others.0) ps others.2)
      (part_more layout (atom at bytes after) after first.0 others.0 (atom_part_if (role_in layout (is_none after)) at bytes after first.0 first.1) others.1 (parts_found after (layout_after layout) others.0 others.1))
  parts_found (list start end inside after) layout ps q =
      let first = both_ok (list_part (role_in layout (is_none after)) (binder start inside) (λ role. expr role start inside)) _ ps q in
      let others = both_ok (parts_in (layout_after layout) after) _ ps first.2 in
      subst (λ (ps : Parts). PartsOf layout (list start end inside after) ps.binders ps.exprs) (ok_is (with_part first.0 others.0) ps others.2)
      (part_more layout (list start end inside after) after first.0 others.0
      (list_part_if (role_in layout (is_none after)) start end inside after first.0 (λ role e is. expr_found inside role start end after e is) first.1) others.1 (parts_found after (layout_after layout) others.0 others.1))

  pub expr_found : (t : Forest) (role : Role) (start end : ℕ) (after : Forest) (e : Expr) → expr role start t ≡ Ok e → ExprOf role (list start end t after) e after
  expr_found none role start end after e q = absurd cc
  expr_found (atom at word parts) role start end after e q =
      let head = both_ok (list_head role start (atom at word parts)) _ e q in
      let read = both_ok (parts_in (layout_of head.0) parts) _ e head.2 in
      let is = head_if (head_of role at word) start (count parts) head.0 head.1 in
      subst (λ (e : Expr). ExprOf role (list start end (atom at word parts) after) e after) (ok_is (expr_of start head.0 read.0) e read.2)
      (list_if role start end at word parts after head.0 read.0.binders read.0.exprs is.0 is.1 (parts_found parts (layout_of head.0) read.0 read.1))
  expr_found (list at last inside more) role start end after e q = absurd cc
