-- Words, binders, terms and formulas of the grammar are read.
use Rattle.std.proofs.Common.{◌≡◌, refl, ◌∙◌, ap, ℕ, suc, ◌≤◌, ℤ, List, [], ◌∷◌, length, true, false, Some, Ok, arith}
use Rattle.std.specs.Prelude.{nat_abs, codes}
use Rattle.std.proofs.lemmas.Bool.Decides.{nat_tests}
use Rattle.kts_base.specs.Limits.{most_number, most_arguments}
use Rattle.kts_text.specs.Forest.{Forest, none, atom, list}
use Rattle.kts_base.proofs.Orders.{yes_nat_le}
use Rattle.kts_syntax.specs.FormsOf as grammar
use Rattle.kts_syntax.specs.FormsOf.{IsName, IsSignedNumber, WordOf, NumberOf, WordsOf, Binding, expr_at, BinderOf, BindersOf, IsOperation, IsComparison, IsConnective, IsQuantifier, TermOf, TermsOf, FormulaOf, FormulasOf}
use Rattle.kts_syntax.specs.Heads.{keyword, operation_of, head_of, has_parts, layout_of, role_in, layout_after}
use Rattle.kts_syntax.specs.Readings.{is_none, rest, number_at, first_name, first_number, two_names, binder, term_atom, atom_part, list_part, list_head, head_before, expr_of, no_parts, with_part, in_front, parts_in, expr}
use Rattle.kts_syntax.specs.Sizes.{count}
use Rattle.kts_syntax.specs.Tops.{names}
use Rattle.kts_syntax.specs.Words.{is_like_number}
use Rattle.kts_syntax.specs.declared.expr.Expr.{Expr}
use Rattle.kts_syntax.specs.declared.head.Head.{Head}
use Rattle.kts_syntax.specs.declared.head.Head.TheVariants.{Add, Sum, Not, Implies, Use}
use Rattle.kts_syntax.specs.declared.layout.Layout.{Layout}
use Rattle.kts_syntax.specs.declared.layout.Layout.TheVariants.{Terms, Formulas, Summed, Filtered, Quantified}
use Rattle.kts_syntax.specs.declared.layout.Role.{Role}
use Rattle.kts_syntax.specs.declared.layout.Role.TheVariants.{Binder, Term, Formula}
use Rattle.kts_syntax.specs.declared.parts.Part.{Part}
use Rattle.kts_syntax.specs.declared.parts.Part.TheVariants.{Bound, Operand}
use Rattle.kts_syntax.specs.declared.parts.Parts.{Parts}
use Rattle.kts_syntax.specs.declared.word.Word.{Word}
use Rattle.kts_syntax.proofs.GrammarParts.{none_count, binder_count, term_count, formula_count, terms_count, formulas_count}
use Rattle.kts_syntax.proofs.GrammarWords.{name_then, number_then}
use Rattle.kts_syntax.proofs.Inversions.{ok_is, both_ok}
use Rattle.kts_syntax.proofs.ReadBack.{name_again}
use Rattle.kts_syntax.proofs.WordLemmas.{like_number-signed, name_no_number, name_no_operation, word_of-name}

-- ---- words and numbers

pub word_then : {t after : Forest} {word : Word} → WordOf t word after → (first_name t ≡ Ok word) × (rest t ≡ after)
unfolding first_name
word_then (grammar.WordOf.name {at = at} {bytes = bytes} n) = (name_again at bytes (name_then n), refl)

pub word_count : {t after : Forest} {word : Word} → WordOf t word after → count t ≡ suc (count after)
unfolding count
word_count (grammar.WordOf.name n) = refl

number_at_then : (at : ℕ) (bytes : List ℕ) (n : ℤ) → IsSignedNumber bytes n → number_at at bytes ≡ Ok n
unfolding number_at
number_at_then at bytes n is = rw (number_then bytes n is) refl

pub first_number_then : {t after : Forest} {n : ℤ} → NumberOf t n after → (first_number t ≡ Ok n) × (rest t ≡ after)
unfolding first_number
first_number_then (grammar.NumberOf.number {at = at} {bytes = bytes} {n = n} is) = (number_at_then at bytes n is, refl)

pub number_count : {t after : Forest} {n : ℤ} → NumberOf t n after → count t ≡ suc (count after)
unfolding count
number_count (grammar.NumberOf.number is) = refl

pub words_then : {t : Forest} {words : List Word} → WordsOf t words → names t ≡ Ok words
unfolding names
words_then grammar.no_word = refl
words_then (grammar.one_word (grammar.WordOf.name {at = at} {bytes = bytes} n) more) = rw (name_again at bytes (name_then n), words_then more) refl

pub words_count : {t : Forest} {words : List Word} → WordsOf t words → count t ≡ length words
unfolding count
words_count grammar.no_word = refl
words_count (grammar.one_word (grammar.WordOf.name n) more) = ap suc (words_count more)

-- ---- the first tree, as a part in a role

abbrev pub ReadsAs : Role → Forest → Part → Forest → Type 0
ReadsAs role none part after = ⊥
ReadsAs role (atom at bytes more) part after = (atom_part role at bytes ≡ Ok part) × (more ≡ after)
ReadsAs role (list start end inside more) part after = (list_part role (binder start inside) (λ r. expr r start inside) ≡ Ok part) × (more ≡ after)

some_first : (role : Role) (t : Forest) (part : Part) (after : Forest) → ReadsAs role t part after → is_none t ≡ false
some_first role none part after h = absurd h
some_first role (atom at bytes more) part after h = refl
some_first role (list start end inside more) part after h = refl

-- one part more
front : (layout : Layout) (role : Role) (t : Forest) (part : Part) (after : Forest) (ps : Parts) → role_in layout (is_none after) ≡ role → ReadsAs role t part after
    → parts_in (layout_after layout) after ≡ Ok ps → parts_in layout t ≡ Ok (with_part part ps)
unfolding parts_in
front layout role none part after ps is first more = absurd first
front layout role (atom at bytes rest) part after ps is first more =
    (λ i. in_front (atom_part (role_in layout (is_none (first.1 i))) at bytes) (parts_in (layout_after layout) (first.1 i))) ∙ rw (is, first.0, more) refl
front layout role (list start end inside rest) part after ps is first more =
    (λ i. in_front (list_part (role_in layout (is_none (first.1 i))) (binder start inside) (λ r. expr r start inside)) (parts_in (layout_after layout) (first.1 i))) ∙ rw (is, first.0, more) refl

-- ---- binders

binder_then : {t after : Forest} {b : Binding} → BinderOf t b after → ReadsAs Binder t (Bound b) after
unfolding list_part binder two_names count
binder_then (grammar.binder first second) =
    let one = word_then first in
    let two = word_then second in
    let counted : count _ ≡ 2 = word_count first ∙ ap suc (word_count second) in
    (rw (counted, one.0, one.1, two.0) refl, refl)

-- ---- lists

list_then : (role : Role) (start at : ℕ) (word : List ℕ) (parts : Forest) (head : Head) (ps : Parts) → head_of role at word ≡ Some head → has_parts head (count parts) ≡ true → parts_in (layout_of head) parts ≡ Ok ps
    → expr role start (atom at word parts) ≡ Ok (expr_of start head ps)
unfolding expr list_head head_before
list_then role start at word parts head ps is fit read = rw (is, fit, read) refl

abbrev exprs : List Expr → Parts
exprs es = record { binders = []; exprs = es }

-- an operand of a list in a term's place
term_list_then : (start end at : ℕ) (word : List ℕ) (parts after : Forest) (head : Head) (ps : Parts) → head_of Term at word ≡ Some head → has_parts head (count parts) ≡ true → parts_in (layout_of head) parts ≡ Ok ps
    → ReadsAs Term (list start end (atom at word parts) after) (Operand (expr_of start head ps)) after
unfolding list_part
term_list_then start end at word parts after head ps is fit read = (rw (list_then Term start at word parts head ps is fit read) refl, refl)

formula_list_then : (start end at : ℕ) (word : List ℕ) (parts after : Forest) (head : Head) (ps : Parts) → head_of Formula at word ≡ Some head → has_parts head (count parts) ≡ true → parts_in (layout_of head) parts ≡ Ok ps
    → ReadsAs Formula (list start end (atom at word parts) after) (Operand (expr_of start head ps)) after
unfolding list_part
formula_list_then start end at word parts after head ps is fit read = (rw (list_then Formula start at word parts head ps is fit read) refl, refl)

-- a list that is read as an operand is read as an expression
pub list_operand : (start : ℕ) (inside : Forest) (e : Expr) → list_part Formula (binder start inside) (λ r. expr r start inside) ≡ Ok (Operand e) → expr Formula start inside ≡ Ok e
unfolding list_part
list_operand start inside e q = let read = both_ok (expr Formula start inside) _ (Operand e) q in read.1 ∙ ap Ok (same_operand read.0 e (ok_is (Operand read.0) (Operand e) read.2))
  where
    same_operand : (a b : Expr) → Operand a ≡ Operand b → a ≡ b
    same_operand a b q = cc

pub no_atom : (at : ℕ) (bytes : List ℕ) (e : Expr) → atom_part Formula at bytes ≡ Ok (Operand e) → ⊥
unfolding atom_part
no_atom at bytes e q = cc

-- ---- heads

use_head : (at : ℕ) (bytes : List ℕ) → IsName bytes → head_of Term at bytes ≡ Some (Use (record { name = bytes; at = at }))
unfolding head_of
use_head at bytes n = rw (name_no_operation bytes (name_then n), word_of-name bytes (name_then n)) refl

use_fits : (word : Word) (n : ℕ) → 1 ≤ n → n ≤ most_arguments → has_parts (Use word) n ≡ true
unfolding has_parts
use_fits word n some few = grind (arith, nat_tests)

use_layout : (word : Word) → layout_of (Use word) ≡ Terms
unfolding layout_of
use_layout word = refl

-- a word is this head, which may have so many parts, laid out so
record HasCount (role : Role) (at : ℕ) (word : List ℕ) (head : Head) (n : ℕ) (parts : Layout) : Type 0 where
  is : head_of role at word ≡ Some head
  fits : has_parts head n ≡ true
  layout : layout_of head ≡ parts

-- a word is this head, which may have two parts or more, laid out so
record HasMany (role : Role) (at : ℕ) (word : List ℕ) (head : Head) (parts : Layout) : Type 0 where
  is : head_of role at word ≡ Some head
  fits : (n : ℕ) → 2 ≤ n → has_parts head n ≡ true
  layout : layout_of head ≡ parts

module _ (at : ℕ) where
  operation_facts : {word : List ℕ} {head : Head} → IsOperation word head → HasCount Term at word head 2 Terms
  unfolding head_of operation_of keyword has_parts layout_of
  operation_facts grammar.difference = record { is = refl; fits = refl; layout = refl }
  operation_facts grammar.product = record { is = refl; fits = refl; layout = refl }
  operation_facts grammar.lesser = record { is = refl; fits = refl; layout = refl }
  operation_facts grammar.greater = record { is = refl; fits = refl; layout = refl }

  comparison_facts : {word : List ℕ} {head : Head} → IsComparison word head → HasCount Formula at word head 2 Terms
  unfolding head_of operation_of keyword has_parts layout_of
  comparison_facts grammar.at_most = record { is = refl; fits = refl; layout = refl }
  comparison_facts grammar.less = record { is = refl; fits = refl; layout = refl }
  comparison_facts grammar.at_least = record { is = refl; fits = refl; layout = refl }
  comparison_facts grammar.more = record { is = refl; fits = refl; layout = refl }
  comparison_facts grammar.equal = record { is = refl; fits = refl; layout = refl }
  comparison_facts grammar.unequal = record { is = refl; fits = refl; layout = refl }

  plus_facts : HasMany Term at (codes "+") Add Terms
  unfolding head_of operation_of keyword has_parts layout_of
  plus_facts = record { is = refl; fits = λ n h. yes_nat_le 2 n h; layout = refl }

  connective_facts : {word : List ℕ} {head : Head} → IsConnective word head → HasMany Formula at word head Formulas
  unfolding head_of operation_of keyword has_parts layout_of
  connective_facts grammar.conjunction = record { is = refl; fits = λ n h. yes_nat_le 2 n h; layout = refl }
  connective_facts grammar.disjunction = record { is = refl; fits = λ n h. yes_nat_le 2 n h; layout = refl }

  quantifier_facts : {word : List ℕ} {head : Head} → IsQuantifier word head → HasMany Formula at word head Quantified
  unfolding head_of operation_of keyword has_parts layout_of
  quantifier_facts grammar.for_all = record { is = refl; fits = λ n h. yes_nat_le 2 n h; layout = refl }
  quantifier_facts grammar.for_some = record { is = refl; fits = λ n h. yes_nat_le 2 n h; layout = refl }

  sum_facts : HasCount Term at (codes "sum") Sum 3 Summed
  unfolding head_of operation_of keyword has_parts layout_of
  sum_facts = record { is = refl; fits = refl; layout = refl }

  not_facts : HasCount Formula at (codes "not") Not 1 Formulas
  unfolding head_of operation_of keyword has_parts layout_of
  not_facts = record { is = refl; fits = refl; layout = refl }

  implies_facts : HasCount Formula at (codes "=>") Implies 2 Formulas
  unfolding head_of operation_of keyword has_parts layout_of
  implies_facts = record { is = refl; fits = refl; layout = refl }

-- ---- terms and formulas

nothing_then : (layout : Layout) → parts_in layout none ≡ Ok no_parts
unfolding parts_in
nothing_then layout = refl

binders_there : {t last : Forest} {bs : List Binding} → BindersOf t bs last → is_none last ≡ false → is_none t ≡ false
binders_there grammar.no_binder some = some
binders_there (grammar.one_binder {trees = t} {more = more} {b = b} first others) some = some_first Binder t (Bound b) more (binder_then first)

binders_count : {t last : Forest} {bs : List Binding} → BindersOf t bs last → count last ≤ count t
binders_count grammar.no_binder = omega arith
binders_count (grammar.one_binder first others) = let one = binder_count first in let more = binders_count others in omega arith

quantified_then : {t last : Forest} {bs : List Binding} (e : Expr) → BindersOf t bs last → ReadsAs Formula last (Operand e) none → parts_in Quantified t ≡ Ok (record { binders = bs; exprs = e ∷ [] })
unfolding role_in layout_after with_part
quantified_then {t} e grammar.no_binder body = front Quantified Formula t (Operand e) none no_parts refl body (nothing_then Quantified)
quantified_then {last = last} e (grammar.one_binder {trees = t} {more = more} {b = b} {bs = bs} first others) body =
    front Quantified Binder t (Bound b) more (record { binders = bs; exprs = e ∷ [] }) (ap (role_in Quantified) (binders_there others (some_first Formula last (Operand e) none body))) (binder_then first) (quantified_then e others body)

binders_some : {t last : Forest} {b : Binding} {bs : List Binding} → BindersOf t (b ∷ bs) last → suc (count last) ≤ count t
binders_some (grammar.one_binder first others) = let one = binder_count first in let more = binders_count others in omega arith

-- lists by their heads, where their parts are read
counted_term : (start end at : ℕ) (word : List ℕ) (parts after : Forest) (head : Head) (n : ℕ) (layout : Layout) (ps : Parts) → HasCount Term at word head n layout → count parts ≡ n → parts_in layout parts ≡ Ok ps
    → ReadsAs Term (list start end (atom at word parts) after) (Operand (expr_of start head ps)) after
counted_term start end at word parts after head n layout ps facts counted read =
    term_list_then start end at word parts after head ps facts.is (ap (has_parts head) counted ∙ facts.fits) (ap (λ (l : Layout). parts_in l parts) facts.layout ∙ read)

counted_formula : (start end at : ℕ) (word : List ℕ) (parts after : Forest) (head : Head) (n : ℕ) (layout : Layout) (ps : Parts) → HasCount Formula at word head n layout → count parts ≡ n → parts_in layout parts ≡ Ok ps
    → ReadsAs Formula (list start end (atom at word parts) after) (Operand (expr_of start head ps)) after
counted_formula start end at word parts after head n layout ps facts counted read =
    formula_list_then start end at word parts after head ps facts.is (ap (has_parts head) counted ∙ facts.fits) (ap (λ (l : Layout). parts_in l parts) facts.layout ∙ read)

many_formulas : (start end at : ℕ) (word : List ℕ) (parts after : Forest) (head : Head) (layout : Layout) (ps : Parts) → HasMany Formula at word head layout → 2 ≤ count parts → parts_in layout parts ≡ Ok ps
    → ReadsAs Formula (list start end (atom at word parts) after) (Operand (expr_of start head ps)) after
many_formulas start end at word parts after head layout ps facts some read =
    formula_list_then start end at word parts after head ps facts.is (facts.fits (count parts) some) (ap (λ (l : Layout). parts_in l parts) facts.layout ∙ read)

mutual
  unfolding atom_part term_atom role_in layout_after with_part

  pub term_then : {t after : Forest} {e : Expr} → TermOf t e after → ReadsAs Term t (Operand e) after
  term_then (grammar.TermOf.number {at = at} {bytes = bytes} {n = n} is) =
      let like : is_like_number bytes ≡ true = ap is_like_number is.written ∙ like_number-signed n (yes_nat_le (nat_abs n) most_number is.small) in
      (rw (like, number_at_then at bytes n is) refl, refl)
  term_then (grammar.TermOf.name {at = at} {bytes = bytes} is) = (rw (name_no_number bytes (name_then is), name_again at bytes (name_then is)) refl, refl)
  term_then (grammar.with_arguments {start = start} {end = end} {at = at} {bytes = bytes} {parts = parts} {after = after} {args = args} is terms some few) =
      let word : Word = record { name = bytes; at = at } in
      let n = terms_count terms in
      term_list_then start end at bytes parts after (Use word) (exprs args) (use_head at bytes is) (use_fits word (count parts) (omega arith) (omega arith))
      (ap (λ (l : Layout). parts_in l parts) (use_layout word) ∙ terms_then terms)
  term_then (grammar.TermOf.sum {start = start} {end = end} {at = at} {parts = parts} {after = after} {terms = es} terms some) =
      let facts = plus_facts at in
      let n = terms_count terms in
      term_list_then start end at (codes "+") parts after Add (exprs es) facts.is (facts.fits (count parts) (omega arith)) (ap (λ (l : Layout). parts_in l parts) facts.layout ∙ terms_then terms)
  term_then (grammar.TermOf.operation {start = start} {end = end} {at = at} {word = word} {head = head} {parts = parts} {after = after} {a = a} {b = b} is terms) =
      counted_term start end at word parts after head 2 Terms (exprs (a ∷ b ∷ [])) (operation_facts at is) (terms_count terms) (terms_then terms)
  term_then (grammar.sum_over {start = start} {end = end} {at = at} {parts = parts} {more = more} {last = last} {after = after} {b = b} {p = p} {t = t} first second third) =
      counted_term start end at (codes "sum") parts after Sum 3 Summed (record { binders = b ∷ []; exprs = p ∷ t ∷ [] }) (sum_facts at)
      (binder_count first ∙ ap suc (formula_count second) ∙ ap (λ (n : ℕ). suc (suc n)) (term_count third) ∙ ap (λ (n : ℕ). suc (suc (suc n))) none_count)
      (front Summed Binder parts (Bound b) more (exprs (p ∷ t ∷ [])) refl (binder_then first)
      (front Filtered Formula more (Operand p) last (exprs (t ∷ [])) refl (formula_then second) (front Terms Term last (Operand t) none no_parts refl (term_then third) (nothing_then Terms))))

  pub terms_then : {t : Forest} {es : List Expr} → TermsOf t es → parts_in Terms t ≡ Ok (exprs es)
  terms_then grammar.no_term = nothing_then Terms
  terms_then (grammar.one_term {trees = t} {more = more} {term = e} {terms = es} first others) = front Terms Term t (Operand e) more (exprs es) refl (term_then first) (terms_then others)

  pub formula_then : {t after : Forest} {e : Expr} → FormulaOf t e after → ReadsAs Formula t (Operand e) after
  formula_then (grammar.FormulaOf.comparison {start = start} {end = end} {at = at} {word = word} {head = head} {parts = parts} {after = after} {a = a} {b = b} is terms) =
      counted_formula start end at word parts after head 2 Terms (exprs (a ∷ b ∷ [])) (comparison_facts at is) (terms_count terms) (terms_then terms)
  formula_then (grammar.FormulaOf.connective {start = start} {end = end} {at = at} {word = word} {head = head} {parts = parts} {after = after} {formulas = es} is formulas some) =
      let n = formulas_count formulas in
      many_formulas start end at word parts after head Formulas (exprs es) (connective_facts at is) (omega arith) (formulas_then formulas)
  formula_then (grammar.FormulaOf.negation {start = start} {end = end} {at = at} {parts = parts} {after = after} {p = p} formula) =
      counted_formula start end at (codes "not") parts after Not 1 Formulas (exprs (p ∷ [])) (not_facts at) (formula_count formula ∙ ap suc none_count)
      (front Formulas Formula parts (Operand p) none no_parts refl (formula_then formula) (nothing_then Formulas))
  formula_then (grammar.FormulaOf.implication {start = start} {end = end} {at = at} {parts = parts} {more = more} {after = after} {p = p} {q = q} first second) =
      counted_formula start end at (codes "=>") parts after Implies 2 Formulas (exprs (p ∷ q ∷ [])) (implies_facts at) (formula_count first ∙ ap suc (formula_count second) ∙ ap (λ (n : ℕ). suc (suc n)) none_count)
      (front Formulas Formula parts (Operand p) more (exprs (q ∷ [])) refl (formula_then first) (front Formulas Formula more (Operand q) none no_parts refl (formula_then second) (nothing_then Formulas)))
  formula_then (grammar.FormulaOf.quantifier {start = start} {end = end} {at = at} {word = word} {head = head} {parts = parts} {last = last} {after = after} {b = b} {bs = bs} {p = p} is binders body) =
      let some = binders_some binders in
      let one = formula_count body in
      many_formulas start end at word parts after head Quantified (record { binders = b ∷ bs; exprs = p ∷ [] }) (quantifier_facts at is) (omega arith) (quantified_then p binders (formula_then body))

  pub formulas_then : {t : Forest} {es : List Expr} → FormulasOf t es → parts_in Formulas t ≡ Ok (exprs es)
  formulas_then grammar.no_formula = nothing_then Formulas
  formulas_then (grammar.one_formula {trees = t} {more = more} {formula = e} {formulas = es} first others) = front Formulas Formula t (Operand e) more (exprs es) refl (formula_then first) (formulas_then others)
