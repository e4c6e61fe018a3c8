-- Terms, formulas and binders that are read may be written.
use Rattle.std.proofs.Common.{◌≡◌, refl, sym, ◌∙◌, ap, subst, ℕ, zero, suc, ◌+◌, ◌^◌, ◌==◌, ℤ, pos, neg_ℤ, List, [], length, drop, map, Bool, true, false, ◌&&◌, if◌then◌else◌, Option, None, Some, option_map, Ok, Err}
use Rattle.std.specs.Prelude.{nat_abs, nat_le}
use Rattle.std.specs.List.{list_all}
use Rattle.std.proofs.lemmas.Bool.{and_parts, and_from}
use Rattle.kts_base.specs.Reads.{and_then}
use Rattle.kts_text.specs.Forest.{Forest, none, atom, list}
use Rattle.kts_syntax.specs.Faults.{fault}
use Rattle.kts_syntax.specs.Fitting.{is_named, is_small, expr_fits, parts_fit, binder_fits, has_role, head_fits}
use Rattle.kts_syntax.specs.Heads.{keyword, operations, operation_of, or_use, head_of, role_in, layout_after, layout_of, has_parts}
use Rattle.kts_syntax.specs.Readings.{Reading, is_none, or_fail, rest, name_at, number_at, first_name, two_names, binder, term_atom, atom_part, list_part, list_head, head_before, expr_of, no_parts, with_part, in_front, parts_in, expr}
use Rattle.kts_syntax.specs.Sizes.{count}
use Rattle.kts_syntax.specs.Words.{is_text, is_word, word_of, numeral_of, negative_of, number_of, is_like_number}
use Rattle.kts_base.specs.Numerals.{begins, is_numeral, value_after}
use Rattle.kts_syntax.specs.declared.expr.Expr.{Expr}
use Rattle.kts_syntax.specs.declared.fault.FormKind.TheVariants.{NotAForm, WrongCount, BadNumber}
use Rattle.kts_syntax.specs.declared.head.Head.{Head}
use Rattle.kts_syntax.specs.declared.head.Head.TheVariants.{Number, Use}
use Rattle.kts_syntax.specs.declared.layout.Layout.{Layout}
use Rattle.kts_syntax.specs.declared.layout.Role.{Role}
use Rattle.kts_syntax.specs.declared.layout.Role.TheVariants.{Binder, Term, Formula}
use Rattle.kts_syntax.specs.declared.parts.Part.{Part}
use Rattle.kts_syntax.specs.declared.parts.Part.TheVariants.{Bound, Operand}
use Rattle.kts_syntax.specs.declared.parts.Parts.{Parts}
use Rattle.kts_syntax.specs.declared.word.Word.{Word}
use Rattle.kts_syntax.proofs.Fits.{expr_fits-roll, part_fits, ReadFits, front_fits, one_more}
use Rattle.kts_syntax.proofs.Inversions.{ok_is, same_some, both_ok, test_ok, some_ok, find_among}

-- ---- names and numbers

word_of_fits : (bytes name : List ℕ) → word_of bytes ≡ Some name → is_word name ≡ true
word_of_fits bytes name e = by (is_word bytes) refl e
  where
    by : (b : Bool) → is_word bytes ≡ b → (if b then Some bytes else None) ≡ Some name → is_word name ≡ true
    by true is e = ap is_word (sym (same_some bytes name e)) ∙ is
    by false is e = absurd cc

pub name_at_fits : (at : ℕ) (bytes : List ℕ) (word : Word) → name_at at bytes ≡ Ok word → is_named word ≡ true
unfolding name_at
name_at_fits at bytes word e =
    let named = both_ok (or_fail (word_of bytes) (Err (fault NotAForm at))) _ word e in
    subst (λ (w : Word). is_named w ≡ true) (ok_is (record { name = named.0; at = at }) word named.2)
    (word_of_fits bytes named.0 (some_ok (word_of bytes) (fault NotAForm at) named.0 named.1))

pub first_name_fits : (t : Forest) (word : Word) → first_name t ≡ Ok word → is_named word ≡ true
unfolding first_name
first_name_fits none word e = absurd cc
first_name_fits (atom at bytes after) word e = name_at_fits at bytes word e
first_name_fits (list start end inside after) word e = absurd cc

numeral_small : (bytes : List ℕ) (n : ℕ) → numeral_of bytes ≡ Some n → nat_le n (10 ^ 15) ≡ true
unfolding numeral_of
numeral_small bytes n e = by (is_numeral bytes) (nat_le 0 (value_after 0 bytes)) (nat_le (value_after 0 bytes) (10 ^ 15)) refl e
  where
    by : (a z b : Bool) → nat_le (value_after 0 bytes) (10 ^ 15) ≡ b → (if a && (z && b) then Some (value_after 0 bytes) else None) ≡ Some n → nat_le n (10 ^ 15) ≡ true
    by true true true is e = ap (λ (m : ℕ). nat_le m (10 ^ 15)) (sym (same_some (value_after 0 bytes) n e)) ∙ is
    by true true false is e = absurd cc
    by true false b is e = absurd cc
    by false z b is e = absurd cc

abs_neg : (n : ℕ) → nat_abs (neg_ℤ (pos n)) ≡ n
abs_neg zero = refl
abs_neg (suc n) = refl

mapped_small : (f : ℕ → ℤ) (o : Option ℕ) (z : ℤ) → ((n : ℕ) → nat_abs (f n) ≡ n) → ((n : ℕ) → o ≡ Some n → nat_le n (10 ^ 15) ≡ true) → option_map f o ≡ Some z → is_small z ≡ true
mapped_small f None z size small e = absurd cc
mapped_small f (Some n) z size small e = ap is_small (sym (same_some (f n) z e)) ∙ ap (λ (m : ℕ). nat_le m (10 ^ 15)) (size n) ∙ small n refl

pub number_small : (bytes : List ℕ) (z : ℤ) → number_of bytes ≡ Some z → is_small z ≡ true
unfolding number_of negative_of
number_small bytes z e = by (begins (λ byte. byte == 45) bytes) (begins (λ digit. digit == 48) (drop 1 bytes)) e
  where
    by : (a b : Bool) → (if a then (if b then None else option_map (λ n. neg_ℤ (pos n)) (numeral_of (drop 1 bytes))) else option_map pos (numeral_of bytes)) ≡ Some z → is_small z ≡ true
    by true true e = absurd cc
    by true false e = mapped_small (λ n. neg_ℤ (pos n)) (numeral_of (drop 1 bytes)) z abs_neg (numeral_small (drop 1 bytes)) e
    by false b e = mapped_small pos (numeral_of bytes) z (λ n. refl) (numeral_small bytes) e

pub number_at_fits : (at : ℕ) (bytes : List ℕ) (z : ℤ) → number_at at bytes ≡ Ok z → is_small z ≡ true
unfolding number_at
number_at_fits at bytes z e = number_small bytes z (some_ok (number_of bytes) (fault BadNumber at) z e)

-- ---- parts

binder_reads_fit : (start : ℕ) (inside : Forest) (b : Word × Word × ℕ) → binder start inside ≡ Ok b → binder_fits b ≡ true
unfolding binder two_names
binder_reads_fit start inside b e = by (count inside == 0) (count inside == 2) e
  where
    by : (empty two : Bool) → (if empty then Err (fault NotAForm start) else (if two then two_names start inside else Err (fault WrongCount start))) ≡ Ok b → binder_fits b ≡ true
    by true two e = absurd cc
    by false false e = absurd cc
    by false true e =
        let first = both_ok (first_name inside) _ b e in
        let second = both_ok (first_name (rest inside)) _ b first.2 in
        subst (λ (b : Word × Word × ℕ). binder_fits b ≡ true) (ok_is (first.0, second.0, start) b second.2)
        (and_from (is_named first.0) (is_named second.0) (first_name_fits inside first.0 first.1) (first_name_fits (rest inside) second.0 second.1))

number_alone : (at : ℕ) (z : ℤ) → is_small z ≡ true → expr_fits (expr_of at (Number z) no_parts) Term ≡ true
unfolding has_role head_fits
number_alone at z small = expr_fits-roll (record { at = at; head = Number z; binders = []; parts = [] }) Term ∙ rw small refl

name_alone : (at : ℕ) (word : Word) → is_named word ≡ true → expr_fits (expr_of at (Use word) no_parts) Term ≡ true
unfolding has_role head_fits
name_alone at word named = expr_fits-roll (record { at = at; head = Use word; binders = []; parts = [] }) Term ∙ rw named refl

term_atom_fits : (at : ℕ) (bytes : List ℕ) (e : Expr) → term_atom at bytes ≡ Ok e → expr_fits e Term ≡ true
unfolding term_atom
term_atom_fits at bytes e q = by (is_like_number bytes) q
  where
    by : (b : Bool) → (if b then and_then (number_at at bytes) (λ n. Ok (expr_of at (Number n) no_parts)) else and_then (name_at at bytes) (λ word. Ok (expr_of at (Use word) no_parts))) ≡ Ok e → expr_fits e Term ≡ true
    by true q =
        let read = both_ok (number_at at bytes) _ e q in
        subst (λ (e : Expr). expr_fits e Term ≡ true) (ok_is (expr_of at (Number read.0) no_parts) e read.2) (number_alone at read.0 (number_at_fits at bytes read.0 read.1))
    by false q =
        let read = both_ok (name_at at bytes) _ e q in
        subst (λ (e : Expr). expr_fits e Term ≡ true) (ok_is (expr_of at (Use read.0) no_parts) e read.2) (name_alone at read.0 (name_at_fits at bytes read.0 read.1))

atom_part_fits : (role : Role) (at : ℕ) (bytes : List ℕ) (part : Part) → atom_part role at bytes ≡ Ok part → part_fits role part ≡ true
unfolding atom_part
atom_part_fits Binder at bytes part q = absurd cc
atom_part_fits Formula at bytes part q = absurd cc
atom_part_fits Term at bytes part q =
    let read = both_ok (term_atom at bytes) _ part q in
    subst (λ (p : Part). part_fits Term p ≡ true) (ok_is (Operand read.0) part read.2) (term_atom_fits at bytes read.0 read.1)

list_part_fits : (role : Role) (start : ℕ) (inside : Forest) (part : Part) → ((e : Expr) (r : Role) → expr r start inside ≡ Ok e → expr_fits e r ≡ true)
    → list_part role (binder start inside) (λ r. expr r start inside) ≡ Ok part → part_fits role part ≡ true
unfolding list_part
list_part_fits Binder start inside part below q =
    let read = both_ok (binder start inside) _ part q in
    subst (λ (p : Part). part_fits Binder p ≡ true) (ok_is (Bound read.0) part read.2) (binder_reads_fit start inside read.0 read.1)
list_part_fits Term start inside part below q =
    let read = both_ok (expr Term start inside) _ part q in
    subst (λ (p : Part). part_fits Term p ≡ true) (ok_is (Operand read.0) part read.2) (below read.0 Term read.1)
list_part_fits Formula start inside part below q =
    let read = both_ok (expr Formula start inside) _ part q in
    subst (λ (p : Part). part_fits Formula p ≡ true) (ok_is (Operand read.0) part read.2) (below read.0 Formula read.1)

-- ---- heads

-- whether it is an operation of this role
abbrev is_operation : Role → Head → Bool
is_operation role (Number z) = false
is_operation role (Use word) = false
is_operation role head = has_role head role

operations_fit : (role : Role) → list_all (is_operation role) (operations role) ≡ true
unfolding has_role
operations_fit Binder = refl
operations_fit Term = refl
operations_fit Formula = refl

operation_role : (role : Role) (head : Head) → is_operation role head ≡ true → has_role head role ≡ true
unfolding has_role
operation_role role (Number z) e = absurd cc
operation_role role (Use word) e = absurd cc
operation_role role _ e = e

operation_parts : (role : Role) (head : Head) (n : ℕ) → is_operation role head ≡ true → has_parts head n ≡ true → head_fits head n ≡ true
unfolding head_fits
operation_parts role (Number z) n e h = absurd cc
operation_parts role (Use word) n e h = absurd cc
operation_parts role _ n e h = h

module _ (role : Role) (at : ℕ) (word : List ℕ) (head : Head) (n : ℕ) (parts : has_parts head n ≡ true) where
  found_fits : operation_of role word ≡ Some head → (has_role head role ≡ true) × (head_fits head n ≡ true)
  unfolding operation_of
  found_fits e =
      let h = find_among (is_operation role) (λ h. is_text (keyword h) word) (operations role) head (operations_fit role) e in
      (operation_role role head h, operation_parts role head n h parts)

  use_fits : (o : Option (List ℕ)) → word_of word ≡ o → option_map (λ name. Use (record { name = name; at = at })) o ≡ Some head → (has_role head Term ≡ true) × (head_fits head n ≡ true)
  unfolding has_role head_fits has_parts
  use_fits None is e = absurd cc
  use_fits (Some name) is e =
      let same = same_some (Use (record { name = name; at = at })) head e in (
        subst (λ (h : Head). has_role h Term ≡ true) same refl,
        subst (λ (h : Head). head_fits h n ≡ true) same
            (and_from (is_word name) (nat_le n 2) (word_of_fits word name is) (and_parts (nat_le 1 n) (nat_le n 2) (subst (λ (h : Head). has_parts h n ≡ true) (sym same) parts)).1),
      )

head_of_fits : (role : Role) (at : ℕ) (word : List ℕ) (head : Head) (n : ℕ) → has_parts head n ≡ true → head_of role at word ≡ Some head → (has_role head role ≡ true) × (head_fits head n ≡ true)
unfolding head_of
head_of_fits Binder at word head n parts e = found_fits Binder at word head n parts e
head_of_fits Formula at word head n parts e = found_fits Formula at word head n parts e
head_of_fits Term at word head n parts e = by (operation_of Term word) refl e
  where
    by : (o : Option Head) → operation_of Term word ≡ o → or_use Term at word o ≡ Some head → (has_role head Term ≡ true) × (head_fits head n ≡ true)
    by (Some h) is e = found_fits Term at word head n parts (is ∙ e)
    by None is e = use_fits Term at word head n parts (word_of word) refl e

head_before_fits : (role : Role) (start at n : ℕ) (word : List ℕ) (head : Head) → head_before start n (head_of role at word) ≡ Ok head → (has_role head role ≡ true) × (head_fits head n ≡ true)
unfolding head_before
head_before_fits role start at n word head e = by (head_of role at word) refl e
  where
    by : (o : Option Head) → head_of role at word ≡ o → head_before start n o ≡ Ok head → (has_role head role ≡ true) × (head_fits head n ≡ true)
    by None is e = absurd cc
    by (Some h) is e =
        let tested = test_ok (has_parts h n) (Ok h) (fault WrongCount start) head e in
        let same = ok_is h head tested.1 in
        head_of_fits role at word head n (subst (λ (h : Head). has_parts h n ≡ true) same tested.0) (is ∙ ap Some same)

-- ---- trees

joined_fits : (layout : Layout) (after t : Forest) (read : Reading Part) (ps : Parts) → count t ≡ suc (count after) → ((part : Part) → read ≡ Ok part → part_fits (role_in layout (is_none after)) part ≡ true)
    → ((qs : Parts) → parts_in (layout_after layout) after ≡ Ok qs → ReadFits (layout_after layout) after qs) → in_front read (parts_in (layout_after layout) after) ≡ Ok ps → ReadFits layout t ps
joined_fits layout after t read ps one first others q =
    let part = both_ok read _ ps q in
    let more = both_ok (parts_in (layout_after layout) after) _ ps part.2 in
    let fit = others more.0 more.1 in
    subst (ReadFits layout t) (ok_is (with_part part.0 more.0) ps more.2) (record {
      as_many = one_more part.0 more.0 ∙ ap suc fit.as_many ∙ sym one;
      fit = front_fits layout after part.0 more.0 (first part.0 part.1) fit;
    })

nothing_fits : (layout : Layout) (ps : Parts) → no_parts ≡ ps → ReadFits layout none ps
unfolding count
nothing_fits layout ps same = subst (ReadFits layout none) same (record { as_many = refl; fit = refl })

expr_of_fits : (role : Role) (start at : ℕ) (word : List ℕ) (after : Forest) (e : Expr) → ((layout : Layout) (ps : Parts) → parts_in layout after ≡ Ok ps → ReadFits layout after ps)
    → expr role start (atom at word after) ≡ Ok e → expr_fits e role ≡ true
unfolding expr list_head
expr_of_fits role start at word after e below q =
    let head = both_ok (head_before start (count after) (head_of role at word)) _ e q in
    let parts = both_ok (parts_in (layout_of head.0) after) _ e head.2 in
    let fits = head_before_fits role start at (count after) word head.0 head.1 in
    let read = below (layout_of head.0) parts.0 parts.1 in
    let n = length parts.0.binders + length parts.0.exprs in
    subst (λ (e : Expr). expr_fits e role ≡ true) (ok_is (expr_of start head.0 parts.0) e parts.2)
    (expr_fits-roll (record { at = start; head = head.0; binders = parts.0.binders; parts = parts.0.exprs }) role
    ∙ and_from (has_role head.0 role && head_fits head.0 n) (parts_fit (layout_of head.0) parts.0.binders (map expr_fits parts.0.exprs))
    (and_from (has_role head.0 role) (head_fits head.0 n) fits.0 (subst (λ (k : ℕ). head_fits head.0 k ≡ true) (sym read.as_many) fits.1)) read.fit)

mutual
  unfolding parts_in expr count

  pub parts_read_fit : (t : Forest) (layout : Layout) (ps : Parts) → parts_in layout t ≡ Ok ps → ReadFits layout t ps
  parts_read_fit none layout ps q = nothing_fits layout ps (ok_is no_parts ps q)
  parts_read_fit (atom at bytes after) layout ps q =
      joined_fits layout after (atom at bytes after) (atom_part (role_in layout (is_none after)) at bytes) ps refl (atom_part_fits (role_in layout (is_none after)) at bytes)
      (parts_read_fit after (layout_after layout)) q
  parts_read_fit (list start end inside after) layout ps q =
      joined_fits layout after (list start end inside after) (list_part (role_in layout (is_none after)) (binder start inside) (λ r. expr r start inside)) ps refl
      (λ part. list_part_fits (role_in layout (is_none after)) start inside part (λ e r. expr_read_fits inside r start e))
      (parts_read_fit after (layout_after layout)) q

  pub expr_read_fits : (t : Forest) (role : Role) (start : ℕ) (e : Expr) → expr role start t ≡ Ok e → expr_fits e role ≡ true
  expr_read_fits none role start e q = absurd cc
  expr_read_fits (atom at word after) role start e q = expr_of_fits role start at word after e (parts_read_fit after) q
  expr_read_fits (list at end inside after) role start e q = absurd cc
