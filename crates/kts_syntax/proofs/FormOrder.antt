-- The trees at fault of a file of forms are listed in the order of their ends, so the first is the one that ends first.
use Rattle.std.proofs.Common.{◌≡◌, ◌≢◌, refl, sym, ap, subst, ℕ, zero, suc, ◌+◌, ◌-◌, ◌<◌, ◌≤◌, ◌==◌, List, [], ◌∷◌, ◌++◌, length, if◌then◌else◌, Ok, Err, arith}
use Rattle.std.specs.Prelude.{codes, nat_lt, slice_index_or, ◌↔◌}
use Rattle.kts_base.specs.Limits.{most_written_trees}
use Rattle.kts_text.specs.Forest.{Forest, none, atom, list}
use Rattle.kts_text.specs.Grammar.{spelled, TreesOf}
use Rattle.kts_syntax.specs.Faulty.{Faulty, Faulties, wrong, faulty_name, faulty_arguments, faulty_type, faulty_formula, or_itself, faulty_named, faulty_family, faulty_sized, faulty_form_of, faulty_form, word_in, is_full, faulty_forms, faulty_spec, faulty_trees, EndsFirst}
use Rattle.kts_syntax.specs.Readings.{Reading, rest}
use Rattle.kts_syntax.specs.Sizes.{count}
use Rattle.kts_syntax.specs.Tops.{Ast, begins_with, forms_of}
use Rattle.kts_syntax.specs.TreeCounts.{count_in_formula}
use Rattle.kts_syntax.specs.Words.{is_text}
use Rattle.kts_syntax.specs.Faults.{FormFault}
use Rattle.kts_syntax.specs.declared.fault.FormKind.{FormKind}
use Rattle.kts_syntax.specs.declared.fault.FormKind.TheVariants.{NotAForm, WrongCount, TooMany}
use Rattle.kts_syntax.specs.declared.layout.Role.TheVariants as role
use Rattle.kts_syntax.proofs.Agreement.{Agrees, IsThere}
use Rattle.kts_syntax.proofs.EndOrder.{InOrder, lower, higher, appended, one_wrong, either, itself, Lies, spans, text_lies, end_of, rest_lies, first_lower, first_span, list_span, within_list, name_order, arguments_order, two_order, type_order, expr_order}
use Rattle.kts_syntax.proofs.FormAgreement.{trees_agree}

formula_order : (low high : ℕ) (t : Forest) → Lies low t high → InOrder low (faulty_formula t) (end_of low t)
unfolding faulty_formula
formula_order low high none h = omega arith
formula_order low high (atom at bytes after) h = let a = h.0 in let b = h.1 in one_wrong NotAForm low at (at + length bytes) (at + length bytes) (omega arith) (omega arith)
formula_order low high (list start end inside after) h = expr_order inside role.Formula start end low h.0 h.1 h.2

-- the parts of a form lie before its end
module _ (low start end inner : ℕ) (parts : Forest) (a : low ≤ inner) (b : inner < end) (h : Lies inner parts (end - 1)) where
  own : (kind : FormKind) → InOrder low (wrong kind start end) end
  own kind = one_wrong kind low start end end (omega arith) (omega arith)

  inside : (fs : Faulties) → InOrder inner fs (end - 1) → InOrder low fs end
  inside fs order = lower inner low end fs a (higher inner (end - 1) end fs (omega arith) order)

  named_order : InOrder low (faulty_named start end parts) end
  unfolding faulty_named
  named_order =
      either (count parts == 1) low end (faulty_name parts) (wrong WrongCount start end)
      (inside (faulty_name parts) (higher inner (end_of inner parts) (end - 1) (faulty_name parts) (first_span inner (end - 1) parts h) (name_order inner (end - 1) parts h))) (own WrongCount)

  family_order : InOrder low (faulty_family start end parts) end
  unfolding faulty_family
  family_order =
      let second = rest_lies inner (end - 1) parts h in
      let others = two_order faulty_arguments faulty_type (λ l k t. arguments_order t l k) type_order (end_of inner parts) (end - 1) (rest parts) second in
      either (count parts == 3) low end (faulty_name parts ++ (faulty_arguments (rest parts) ++ faulty_type (rest (rest parts)))) (wrong WrongCount start end)
      (inside (faulty_name parts ++ (faulty_arguments (rest parts) ++ faulty_type (rest (rest parts))))
      (appended inner (end_of inner parts) (end - 1) (faulty_name parts) (faulty_arguments (rest parts) ++ faulty_type (rest (rest parts))) (name_order inner (end - 1) parts h) others)) (own WrongCount)

  sized_order : InOrder low (faulty_sized start end parts) end
  unfolding faulty_sized
  sized_order =
      let both = two_order faulty_name faulty_formula name_order formula_order inner (end - 1) parts h in
      either (count parts == 2) low end _ (wrong WrongCount start end)
      (itself low end (faulty_name parts ++ faulty_formula (rest parts)) (if nat_lt most_written_trees (count_in_formula (rest parts)) then wrong TooMany start end else []) (inside (faulty_name parts ++ faulty_formula (rest parts)) both)
      (either (nat_lt most_written_trees (count_in_formula (rest parts))) low end (wrong TooMany start end) [] (own TooMany) (omega arith))) (own WrongCount)

  form_of_order : (word : List ℕ) → InOrder low (faulty_form_of start end word parts) end
  unfolding faulty_form_of
  form_of_order word =
      either (is_text word (codes "index")) low end _ _ named_order
      (either (is_text word (codes "given")) low end _ _ family_order
      (either (is_text word (codes "choose")) low end _ _ family_order
      (either (is_text word (codes "formula")) low end _ _ sized_order
      (either (is_text word (codes "manifest")) low end _ _ named_order (own NotAForm)))))

form_order : (low high start end : ℕ) (inside after : Forest) → Lies low (list start end inside after) high → InOrder low (faulty_form start end inside) end
unfolding faulty_form
form_order low high start end none after h = one_wrong NotAForm low start end end (list_span low high start end none after h) (omega arith)
form_order low high start end (list at last trees more) after h = one_wrong NotAForm low start end end (list_span low high start end (list at last trees more) after h) (omega arith)
form_order low high start end (atom at word parts) after h =
    let a = h.0 in
    let b = h.2.0 in
    let c = spans (at + length word) (end - 1) parts h.2.2 in
    let d = h.1 in
    form_of_order low start end (at + length word) parts (omega arith) (omega arith) h.2.2 word

forms_order : (t : Forest) (before : List (List ℕ)) (low high : ℕ) → Lies low t high → InOrder low (faulty_forms before t) high
unfolding faulty_forms
forms_order none before low high h = h
forms_order (atom at bytes after) before low high h =
    let a = h.0 in let b = h.1 in
    appended low (at + length bytes) high (wrong NotAForm at (at + length bytes)) (faulty_forms before after) (one_wrong NotAForm low at (at + length bytes) (at + length bytes) (omega arith) (omega arith))
    (forms_order after before (at + length bytes) high h.2)
forms_order (list start end inside after) before low high h =
    let span = list_span low high start end inside after h in
    appended low end high (or_itself (faulty_form start end inside) (if is_full before (word_in inside) then wrong TooMany start end else [])) (faulty_forms (before ++ word_in inside ∷ []) after)
    (itself low end (faulty_form start end inside) (if is_full before (word_in inside) then wrong TooMany start end else []) (form_order low high start end inside after h)
    (either (is_full before (word_in inside)) low end (wrong TooMany start end) [] (one_wrong TooMany low start end end span (omega arith)) (omega arith)))
    (forms_order after (before ++ word_in inside ∷ []) end high h.3)

spec_order : (low high start end : ℕ) (inside after : Forest) → Lies low (list start end inside after) high → InOrder low (faulty_spec start end inside) end
unfolding faulty_spec
spec_order low high start end inside after h =
    let own = λ (kind : FormKind). one_wrong kind low start end end (list_span low high start end inside after h) (omega arith) in
    let names = rest_lies (start + 1) (end - 1) inside h.2 in
    let from = end_of (start + 1) inside in
    let order = higher from (end_of from (rest inside)) (end - 1) (faulty_name (rest inside)) (first_span from (end - 1) (rest inside) names) (name_order from (end - 1) (rest inside) names) in
    either (begins_with (codes "spec") inside) low end _ (wrong NotAForm start end)
    (either (count inside == 2) low end (faulty_name (rest inside)) (wrong WrongCount start end)
    (within_list low high start end inside after (faulty_name (rest inside)) h (lower from (start + 1) (end - 1) (faulty_name (rest inside)) (first_lower (start + 1) (end - 1) inside h.2) order)) (own WrongCount)) (own NotAForm)

trees_order : (t : Forest) (low high : ℕ) → Lies low t high → InOrder low (faulty_trees t) high
unfolding faulty_trees
trees_order none low high h = h
trees_order (atom at bytes after) low high h =
    let a = h.0 in let b = h.1 in
    appended low (at + length bytes) high (wrong NotAForm at (at + length bytes)) (faulty_forms [] after) (one_wrong NotAForm low at (at + length bytes) (at + length bytes) (omega arith) (omega arith))
    (forms_order after [] (at + length bytes) high h.2)
trees_order (list start end inside after) low high h =
    appended low end high (faulty_spec start end inside) (faulty_forms [] after) (spec_order low high start end inside after h) (forms_order after [] end high h.3)

-- ---- the one that ends first

later : (low high : ℕ) (fs : Faulties) (k : ℕ) (d : Faulty) → InOrder low fs high → k < length fs → low < (slice_index_or fs k d).end
later low high [] k d order h = absurd (omega arith)
later low high (f ∷ fs) zero d order h = order.0
later low high (f ∷ fs) (suc k) d order h = let a = order.0 in let b = later f.end high fs k d order.1 (omega arith) in omega arith

head_first : (f : FormFault) (end low high : ℕ) (others : Faulties) → InOrder low (record { fault = f; end = end } ∷ others) high → EndsFirst (record { fault = f; end = end } ∷ others) f
head_first f end low high others order = record { end = end; there = (0, omega arith, refl); first = all }
  where
    all : (k : ℕ) (d : Faulty) → k < length (record { fault = f; end = end } ∷ others) → end ≤ (slice_index_or (record { fault = f; end = end } ∷ others) k d).end
    all zero d h = omega arith
    all (suc k) d h = let a = later end high others k d order.1 (omega arith) in omega arith

only_head : (g f : FormFault) (end low high : ℕ) (others : Faulties) → InOrder low (record { fault = g; end = end } ∷ others) high → EndsFirst (record { fault = g; end = end } ∷ others) f → g ≡ f
only_head g f end low high others order ends = by ends.there.0 ends.there.1 ends.there.2
  where
    by : (k : ℕ) → k < length (record { fault = g; end = end } ∷ others) → slice_index_or (record { fault = g; end = end } ∷ others) k (record { fault = f; end = ends.end }) ≡ record { fault = f; end = ends.end } → g ≡ f
    by zero h is = ap (λ (x : Faulty). x.fault) is
    by (suc k) h is =
        let a = later end high others k (record { fault = f; end = ends.end }) order.1 (omega arith) in
        let b : (slice_index_or others k (record { fault = f; end = ends.end })).end ≡ ends.end = ap (λ (x : Faulty). x.end) is in
        let c = ends.first 0 (record { fault = g; end = end }) (omega arith) in
        absurd (omega arith)

abbrev err : FormFault → Reading Ast
err f = Err f

same_err : (f g : FormFault) → err f ≡ err g → f ≡ g
same_err f g e = cc

gives_first : (r : Reading Ast) (fs : Faulties) (low high : ℕ) (f : FormFault) → Agrees r fs → InOrder low fs high → r ≡ Err f → EndsFirst fs f
gives_first (Ok c) fs low high f agrees order e = absurd cc
gives_first (Err g) fs low high f agrees order e =
    subst (λ (g : FormFault). EndsFirst fs g) (same_err g f e)
    (subst (λ (l : Faulties). EndsFirst l g) (sym agrees.2) (head_first g agrees.0 low high agrees.1 (subst (λ (l : Faulties). InOrder low l high) agrees.2 order)))

first_given : (r : Reading Ast) (fs : Faulties) (low high : ℕ) (f : FormFault) → Agrees r fs → InOrder low fs high → EndsFirst fs f → r ≡ Err f
first_given (Ok c) fs low high f agrees order ends = let n = ends.there.1 in let none_left : length fs ≡ 0 = ap length agrees in absurd (omega arith)
first_given (Err g) fs low high f agrees order ends =
    ap Err (only_head g f agrees.0 low high agrees.1 (subst (λ (l : Faulties). InOrder low l high) agrees.2 order) (subst (λ (l : Faulties). EndsFirst l f) agrees.2 ends))

gives_value : (r : Reading Ast) (fs : Faulties) → Agrees r fs → fs ≡ [] → (c : Ast) × (r ≡ Ok c)
gives_value (Ok c) fs agrees e = (c, refl)
gives_value (Err f) fs agrees e = absurd cc

none_faulty : (r : Reading Ast) (fs : Faulties) (c : Ast) → Agrees r fs → r ≡ Ok c → fs ≡ []
none_faulty (Ok d) fs c agrees e = agrees
none_faulty (Err f) fs c agrees e = absurd cc

is_there : (t : Forest) → t ≢ none → IsThere t
is_there none h = h refl
is_there (atom at bytes after) h = tt
is_there (list start end inside after) h = tt

module _ (bytes : List ℕ) (t : Forest) (found : TreesOf bytes t) where
  order : InOrder 0 (faulty_trees t) (0 + length (spelled found.0.0))
  order = trees_order t 0 (0 + length (spelled found.0.0)) (subst (λ (t : Forest). Lies 0 t (0 + length (spelled found.0.0))) (sym found.0.5) (text_lies found.0.0 64 0 found.0.2))

  agrees : Agrees (forms_of t) (faulty_trees t)
  agrees = trees_agree t (is_there t found.1)

  pub fault_is_first : (f : FormFault) → (forms_of t ≡ Err f) ↔ EndsFirst (faulty_trees t) f
  fault_is_first f =
      (gives_first (forms_of t) (faulty_trees t) 0 (0 + length (spelled found.0.0)) f agrees order, first_given (forms_of t) (faulty_trees t) 0 (0 + length (spelled found.0.0)) f agrees order)

  pub value_where_none : ((c : Ast) × (forms_of t ≡ Ok c)) ↔ (faulty_trees t ≡ [])
  value_where_none = (λ p. none_faulty (forms_of t) (faulty_trees t) p.0 agrees p.1, gives_value (forms_of t) (faulty_trees t) agrees)
