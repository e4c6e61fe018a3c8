-- Forms that are read nest no deeper than their trees.
use Rattle.std.proofs.Common.{ap, ◌≡◌, refl, sym, ◌∙◌, subst, ℕ, suc, ◌≤◌, ◌==◌, min, max, List, [], ◌∷◌, ◌++◌, length, map, Bool, true, false, ◌&&◌, if◌then◌else◌, Ok, Err, arith}
use Rattle.std.proofs.lemmas.List.{length-map}
use Rattle.std.specs.Prelude.{codes, nat_le}
use Rattle.kts_base.specs.Reads.{and_then}
use Rattle.kts_text.specs.Forest.{Forest, none, atom, list, nest}
use Rattle.kts_syntax.specs.Faults.{fault}
use Rattle.kts_syntax.specs.Heads.{role_in, layout_after, layout_of}
use Rattle.kts_syntax.specs.Readings.{Reading, is_none, rest, name_at, number_at, first_name, binder, term_atom, atom_part, list_part, list_head, expr_of, no_parts, with_part, in_front, parts_in, expr}
use Rattle.kts_syntax.specs.Sizes.{count, trees, most, nest_step, expr_nest, form_nest, forms_nest}
use Rattle.kts_syntax.specs.Tops.{Ast, first_arguments, first_formula, one_name, family_of, family, bounded, formula_of, formula, form_of, later_form, roomy, later_forms, spec_name, forms_of}
use Rattle.kts_syntax.specs.Words.{is_text, is_like_number}
use Rattle.kts_syntax.specs.declared.expr.Expr.{Expr, roll-Expr}
use Rattle.kts_syntax.specs.declared.expr.Expr.TheOpen.{Expr-F}
use Rattle.kts_syntax.specs.declared.expr.Expr.TheFolds.{fold-roll-Expr}
use Rattle.kts_syntax.specs.declared.fault.FormKind.TheVariants.{NotAForm, WrongCount, TooMany}
use Rattle.kts_syntax.specs.declared.form.Form.{Form}
use Rattle.kts_syntax.specs.declared.form.Form.TheVariants.{Index, Given, Choose, Formula, Manifest}
use Rattle.kts_syntax.specs.declared.form.Shape.{Shape}
use Rattle.kts_syntax.specs.declared.head.Head.TheVariants.{Number, Use}
use Rattle.kts_syntax.specs.declared.layout.Layout.{Layout}
use Rattle.kts_syntax.specs.declared.layout.Role.{Role}
use Rattle.kts_syntax.specs.declared.layout.Role.TheVariants as role
use Rattle.kts_syntax.specs.declared.parts.Part.{Part}
use Rattle.kts_syntax.specs.declared.parts.Part.TheVariants.{Bound, Operand}
use Rattle.kts_syntax.specs.declared.parts.Parts.{Parts}
use Rattle.kts_syntax.specs.declared.word.Word.{Word}
use Rattle.kts_syntax.proofs.Inversions.{ok_is, both_ok, test_ok}

-- ---- expressions

pub nest-roll : (x : Expr-F Expr) → expr_nest (roll-Expr x) ≡ (if length x.binders == 0 && length x.parts == 0 then 0 else suc (max (min 1 (length x.binders)) (most (map expr_nest x.parts))))
unfolding expr_nest
nest-roll x = fold-roll-Expr ℕ nest_step x ∙ rw (length-map x.parts expr_nest) refl

alone_nest : (at : ℕ) (x : Expr-F Expr) → x.binders ≡ [] → x.parts ≡ [] → expr_nest (roll-Expr x) ≡ 0
alone_nest at x no_binders no_exprs = nest-roll x ∙ rw (no_binders, no_exprs) refl

either : (b : Bool) (n m : ℕ) → n ≤ m → (if b then 0 else suc n) ≤ suc m
either true n m h = omega arith
either false n m h = omega arith

-- parts that nest no deeper than this
pub record PartsWithin (deep : ℕ) (ps : Parts) : Type 0 where
  pub binders : min 1 (length ps.binders) ≤ deep
  pub exprs : most (map expr_nest ps.exprs) ≤ deep

abbrev part_nest : Part → ℕ
part_nest (Bound b) = 1
part_nest (Operand e) = expr_nest e

with_part_within : (deep : ℕ) (part : Part) (ps : Parts) → part_nest part ≤ deep → PartsWithin deep ps → PartsWithin deep (with_part part ps)
unfolding with_part
with_part_within deep (Bound b) ps h within = record { binders = omega arith; exprs = within.exprs }
with_part_within deep (Operand e) ps h within = let low = within.exprs in record { binders = within.binders; exprs = omega arith }

wider : (low high : ℕ) (ps : Parts) → low ≤ high → PartsWithin low ps → PartsWithin high ps
wider low high ps h within = let b = within.binders in let e = within.exprs in record { binders = omega arith; exprs = omega arith }

expr_of_within : (deep start : ℕ) (x : Expr-F Expr) → min 1 (length x.binders) ≤ deep → most (map expr_nest x.parts) ≤ deep → expr_nest (roll-Expr x) ≤ suc deep
expr_of_within deep start x b e =
    subst (λ (n : ℕ). n ≤ suc deep) (sym (nest-roll x)) (either (length x.binders == 0 && length x.parts == 0) (max (min 1 (length x.binders)) (most (map expr_nest x.parts))) deep (omega arith))

atom_part_within : (role : Role) (at : ℕ) (bytes : List ℕ) (part : Part) → atom_part role at bytes ≡ Ok part → part_nest part ≡ 0
unfolding atom_part term_atom
atom_part_within role.Binder at bytes part q = absurd cc
atom_part_within role.Formula at bytes part q = absurd cc
atom_part_within role.Term at bytes part q =
    let read = both_ok (term_atom at bytes) _ part q in
    subst (λ (p : Part). part_nest p ≡ 0) (ok_is (Operand read.0) part read.2) (by (is_like_number bytes) read.0 read.1)
  where
    by : (b : Bool) (e : Expr) → (if b then and_then (number_at at bytes) (λ n. Ok (expr_of at (Number n) no_parts)) else and_then (name_at at bytes) (λ word. Ok (expr_of at (Use word) no_parts))) ≡ Ok e → expr_nest e ≡ 0
    by true e q =
        let read = both_ok (number_at at bytes) _ e q in
        subst (λ (e : Expr). expr_nest e ≡ 0) (ok_is (expr_of at (Number read.0) no_parts) e read.2) (alone_nest at (record { at = at; head = Number read.0; binders = []; parts = [] }) refl refl)
    by false e q =
        let read = both_ok (name_at at bytes) _ e q in
        subst (λ (e : Expr). expr_nest e ≡ 0) (ok_is (expr_of at (Use read.0) no_parts) e read.2) (alone_nest at (record { at = at; head = Use read.0; binders = []; parts = [] }) refl refl)

list_part_within : (role : Role) (start : ℕ) (inside : Forest) (part : Part) → ((e : Expr) (r : Role) → expr r start inside ≡ Ok e → expr_nest e ≤ suc (nest inside))
    → list_part role (binder start inside) (λ r. expr r start inside) ≡ Ok part → part_nest part ≤ suc (nest inside)
unfolding list_part
list_part_within role.Binder start inside part below q =
    let read = both_ok (binder start inside) _ part q in subst (λ (p : Part). part_nest p ≤ suc (nest inside)) (ok_is (Bound read.0) part read.2) (omega arith)
list_part_within role.Term start inside part below q =
    let read = both_ok (expr role.Term start inside) _ part q in subst (λ (p : Part). part_nest p ≤ suc (nest inside)) (ok_is (Operand read.0) part read.2) (below read.0 role.Term read.1)
list_part_within role.Formula start inside part below q =
    let read = both_ok (expr role.Formula start inside) _ part q in subst (λ (p : Part). part_nest p ≤ suc (nest inside)) (ok_is (Operand read.0) part read.2) (below read.0 role.Formula read.1)

joined_within : (layout : Layout) (deep inner : ℕ) (after : Forest) (read : Reading Part) (ps : Parts) → inner ≤ deep → ((part : Part) → read ≡ Ok part → part_nest part ≤ deep)
    → ((qs : Parts) → parts_in layout after ≡ Ok qs → PartsWithin inner qs) → in_front read (parts_in layout after) ≡ Ok ps → PartsWithin deep ps
joined_within layout deep inner after read ps low first others q =
    let part = both_ok read _ ps q in
    let more = both_ok (parts_in layout after) _ ps part.2 in
    subst (PartsWithin deep) (ok_is (with_part part.0 more.0) ps more.2)
    (with_part_within deep part.0 more.0 (first part.0 part.1) (wider inner deep more.0 low (others more.0 more.1)))

zero_le : (n m : ℕ) → n ≡ 0 → n ≤ m
zero_le n m e = omega arith

mutual
  unfolding parts_in expr nest

  pub parts_within : (t : Forest) (layout : Layout) (ps : Parts) → parts_in layout t ≡ Ok ps → PartsWithin (nest t) ps
  parts_within none layout ps q = subst (PartsWithin 0) (ok_is no_parts ps q) (record { binders = omega arith; exprs = omega arith })
  parts_within (atom at bytes after) layout ps q =
      joined_within (layout_after layout) (nest after) (nest after) after (atom_part (role_in layout (is_none after)) at bytes) ps (omega arith)
      (λ part e. zero_le (part_nest part) (nest after) (atom_part_within (role_in layout (is_none after)) at bytes part e)) (parts_within after (layout_after layout)) q
  parts_within (list start end inside after) layout ps q =
      joined_within (layout_after layout) (max (suc (nest inside)) (nest after)) (nest after) after (list_part (role_in layout (is_none after)) (binder start inside) (λ r. expr r start inside)) ps (omega arith)
      (λ part e. let low = list_part_within (role_in layout (is_none after)) start inside part (λ e r. expr_within inside r start e) e in omega arith) (parts_within after (layout_after layout)) q

  pub expr_within : (t : Forest) (role : Role) (start : ℕ) (e : Expr) → expr role start t ≡ Ok e → expr_nest e ≤ suc (nest t)
  expr_within none role start e q = absurd cc
  expr_within (atom at word after) role start e q =
      let head = both_ok (list_head role start (atom at word after)) _ e q in
      let parts = both_ok (parts_in (layout_of head.0) after) _ e head.2 in
      let within = parts_within after (layout_of head.0) parts.0 parts.1 in
      subst (λ (e : Expr). expr_nest e ≤ suc (nest after)) (ok_is (expr_of start head.0 parts.0) e parts.2)
      (expr_of_within (nest after) start (record { at = start; head = head.0; binders = parts.0.binders; parts = parts.0.exprs }) within.binders within.exprs)
  expr_within (list at end inside after) role start e q = absurd cc

-- ---- forms

rest_within : (t : Forest) → nest (rest t) ≤ nest t
unfolding nest
rest_within none = omega arith
rest_within (atom at bytes after) = omega arith
rest_within (list start end inside after) = omega arith

arguments_nest : (t : Forest) (words : List Word) → first_arguments t ≡ Ok words → 1 ≤ nest t
unfolding first_arguments nest
arguments_nest none words q = absurd cc
arguments_nest (atom at bytes after) words q = absurd cc
arguments_nest (list start end inside after) words q = omega arith

family_nest : (start : ℕ) (parts : Forest) (f : Word × List Word × Shape) → family start parts ≡ Ok f → 1 ≤ nest parts
unfolding family family_of
family_nest start parts f q =
    let counted = test_ok (count parts == 3) (family_of parts) (fault WrongCount start) f q in
    let word = both_ok (first_name parts) _ f counted.1 in
    let args = both_ok (first_arguments (rest parts)) _ f word.2 in
    omega (arith, arguments_nest (rest parts) args.0 args.1, rest_within parts)

first_formula_within : (t : Forest) (e : Expr) → first_formula t ≡ Ok e → expr_nest e ≤ nest t
unfolding first_formula nest
first_formula_within none e q = absurd cc
first_formula_within (atom at bytes after) e q = absurd cc
first_formula_within (list start end inside after) e q = let low = expr_within inside role.Formula start e q in omega arith

formula_within : (start : ℕ) (parts : Forest) (form : Form) → formula start parts ≡ Ok form → form_nest form ≤ suc (nest parts)
unfolding formula formula_of bounded form_nest
formula_within start parts form q =
    let counted = test_ok (count parts == 2) (formula_of start parts) (fault WrongCount start) form q in
    let word = both_ok (first_name parts) _ form counted.1 in
    let read = both_ok (first_formula (rest parts)) _ form word.2 in
    let tested = test_ok (nat_le (trees read.0) 1000) (Ok (Formula word.0 read.0)) (fault TooMany start) form read.2 in
    subst (λ (f : Form). form_nest f ≤ suc (nest parts)) (ok_is (Formula word.0 read.0) form tested.1)
    (omega (arith, first_formula_within (rest parts) read.0 read.1, rest_within parts))

form_of_within : (start : ℕ) (word : List ℕ) (parts : Forest) (form : Form) → form_of start word parts ≡ Ok form → form_nest form ≤ suc (nest parts)
unfolding form_of form_nest
form_of_within start word parts form q =
    by (is_text word (codes "index")) (is_text word (codes "given")) (is_text word (codes "choose")) (is_text word (codes "formula")) (is_text word (codes "manifest")) q
  where
    named : (make : Word → Form) → ((word : Word) → form_nest (make word) ≡ 1) → and_then (one_name start parts) (λ name. Ok (make name)) ≡ Ok form → form_nest form ≤ suc (nest parts)
    named make one q = let name = both_ok (one_name start parts) _ form q in subst (λ (f : Form). form_nest f ≤ suc (nest parts)) (ok_is (make name.0) form name.2) (omega (arith, one name.0))

    listed : (make : Word → List Word → Shape → Form) → ((word : Word) (args : List Word) (shape : Shape) → form_nest (make word args shape) ≡ 2) → and_then (family start parts) (λ f. Ok (make f.0 f.1 f.2)) ≡ Ok form
        → form_nest form ≤ suc (nest parts)
    listed make two q =
        let f = both_ok (family start parts) _ form q in
        subst (λ (g : Form). form_nest g ≤ suc (nest parts)) (ok_is (make f.0.0 f.0.1 f.0.2) form f.2) (omega (arith, two f.0.0 f.0.1 f.0.2, family_nest start parts f.0 f.1))

    by : (i g c f m : Bool) → (if i then and_then (one_name start parts) (λ name. Ok (Index name))
        else (if g then and_then (family start parts) (λ f. Ok (Given f.0 f.1 f.2))
        else (if c then and_then (family start parts) (λ f. Ok (Choose f.0 f.1 f.2))
        else (if f then formula start parts
        else (if m then and_then (one_name start parts) (λ name. Ok (Manifest name))
        else Err (fault NotAForm start)))))) ≡ Ok form → form_nest form ≤ suc (nest parts)
    by true g c f m q = named Index (λ word. refl) q
    by false true c f m q = listed Given (λ word args shape. refl) q
    by false false true f m q = listed Choose (λ word args shape. refl) q
    by false false false true m q = formula_within start parts form q
    by false false false false true q = named Manifest (λ word. refl) q
    by false false false false false q = absurd cc

later_form_within : (start : ℕ) (inside : Forest) (form : Form) → later_form start inside ≡ Ok form → form_nest form ≤ suc (nest inside)
unfolding later_form nest
later_form_within start none form q = absurd cc
later_form_within start (atom at word parts) form q = form_of_within start word parts form q
later_form_within start (list at end inside after) form q = absurd cc

pub roomy_is : (before : List Form) (start : ℕ) (read : Reading Form) (form : Form) → and_then read (roomy before start) ≡ Ok form → read ≡ Ok form
unfolding roomy
roomy_is before start (Ok f) form q = (test_ok _ (Ok f) (fault TooMany start) form q).1
roomy_is before start (Err f) form q = absurd cc

-- the forms in trees that have a front
pub front_within : (start end deep : ℕ) (inside after all : Forest) (forms : List Form) → list start end inside after ≡ all → nest all ≤ deep → forms_nest forms ≤ nest after → forms_nest forms ≤ deep
unfolding nest
front_within start end deep inside after all forms is low h = let same = ap nest is in omega arith

pub later_forms_within : (t : Forest) (before forms : List Form) → later_forms before t ≡ Ok forms → forms_nest forms ≤ nest t
unfolding later_forms nest
later_forms_within none before forms q = subst (λ (fs : List Form). forms_nest fs ≤ 0) (ok_is [] forms q) (omega arith)
later_forms_within (atom at bytes after) before forms q = absurd cc
later_forms_within (list start end inside after) before forms q =
    let one = both_ok (and_then (later_form start inside) (roomy before start)) _ forms q in
    let more = both_ok (later_forms (before ++ one.0 ∷ []) after) _ forms one.2 in
    let low = later_form_within start inside one.0 (roomy_is before start (later_form start inside) one.0 one.1) in
    let others = later_forms_within after (before ++ one.0 ∷ []) more.0 more.1 in
    subst (λ (fs : List Form). forms_nest fs ≤ max (suc (nest inside)) (nest after)) (ok_is (one.0 ∷ more.0) forms more.2) (omega arith)

pub forms_within : (t : Forest) (ast : Ast) → forms_of t ≡ Ok ast → forms_nest ast.forms ≤ nest t
unfolding forms_of nest
forms_within none ast q = absurd cc
forms_within (atom at bytes after) ast q = absurd cc
forms_within (list start end inside after) ast q =
    let word = both_ok (spec_name start inside) _ ast q in
    let forms = both_ok (later_forms [] after) _ ast word.2 in
    let low = later_forms_within after [] forms.0 forms.1 in
    subst (λ (c : Ast). forms_nest c.forms ≤ max (suc (nest inside)) (nest after)) (ok_is (record { name = word.0.name; forms = forms.0 }) ast forms.2) (omega arith)
