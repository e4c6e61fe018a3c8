-- A reading gives the first of the trees at fault, and a value where there are none.
use Rattle.std.proofs.Common.{◌≡◌, refl, sym, ap, subst, ℕ, suc, ◌+◌, ◌==◌, List, [], ◌∷◌, ◌++◌, length, Bool, true, false, if◌then◌else◌, Option, None, Some, Ok, Err, arith}
use Rattle.std.specs.Prelude.{codes, nat_le, is_some}
use Rattle.std.proofs.lemmas.Bool.Decides.{nat_tests}
use Rattle.kts_base.specs.Limits.{most_arguments}
use Rattle.kts_base.specs.Reads.{and_then}
use Rattle.kts_text.specs.Forest.{Forest, none, atom, list}
use Rattle.kts_syntax.specs.Faults.{fault}
use Rattle.kts_syntax.specs.Faulty.{Faulties, wrong, faulty_name, faulty_number, faulty_names, faulty_arguments, faulty_int, faulty_type, faulty_binder, faulty_term, faulty_atom, faulty_list, faulty_after, faulty_parts, faulty_expr}
use Rattle.kts_syntax.specs.Heads.{head_of, has_parts, layout_of, role_in, layout_after}
use Rattle.kts_syntax.specs.Readings.{Reading, is_none, rest, or_fail, name_at, number_at, first_name, first_number, two_names, binder, term_atom, atom_part, list_part, head_before, list_head, expr_of, no_parts, with_part, parts_in, expr}
use Rattle.kts_syntax.specs.Sizes.{count}
use Rattle.kts_syntax.specs.Tops.{names, first_arguments, begins_with, two_ends, int_type, first_type}
use Rattle.kts_syntax.specs.Words.{is_word, number_of, is_like_number}
use Rattle.kts_syntax.specs.declared.expr.Expr.{Expr}
use Rattle.kts_syntax.specs.declared.fault.FormKind.{FormKind}
use Rattle.kts_syntax.specs.declared.fault.FormKind.TheVariants.{NotAForm, WrongCount, BadNumber}
use Rattle.kts_syntax.specs.declared.head.Head.{Head}
use Rattle.kts_syntax.specs.declared.head.Head.TheVariants.{Number, Use}
use Rattle.kts_syntax.specs.declared.layout.Layout.{Layout}
use Rattle.kts_syntax.specs.declared.layout.Role.{Role}
use Rattle.kts_syntax.specs.declared.layout.Role.TheVariants as role
use Rattle.kts_syntax.specs.declared.word.Word.{Word}

-- the reading gives the first of these, or a value where there are none
abbrev pub Agrees : {A : Type 0} → Reading A → Faulties → Type 0
Agrees (Ok a) fs = fs ≡ []
Agrees (Err f) fs = (end : ℕ) × (others : Faulties) × (fs ≡ record { fault = f; end = end } ∷ others)

-- ---- readings after one another

-- a reading, and then another of its value
pub agree_then : {A B : Type 0} (r : Reading A) (g : A → Reading B) (fs gs : Faulties) → Agrees r fs → ((a : A) → r ≡ Ok a → Agrees (g a) gs) → Agrees (and_then r g) (fs ++ gs)
agree_then (Ok a) g fs gs p q = subst (λ (l : Faulties). Agrees (g a) (l ++ gs)) (sym p) (q a refl)
agree_then (Err f) g fs gs p q = (p.0, p.1 ++ gs, ap (λ (l : Faulties). l ++ gs) p.2)

-- a reading whose value is changed
pub agree_map : {A B : Type 0} (r : Reading A) (h : A → B) (fs : Faulties) → Agrees r fs → Agrees (and_then r (λ a. Ok (h a))) fs
agree_map (Ok a) h fs p = p
agree_map (Err f) h fs p = p

pub agree_if : {A : Type 0} (b : Bool) (r : Reading A) (fs : Faulties) (kind : FormKind) (start end : ℕ) → Agrees r fs → Agrees (if b then r else Err (fault kind start)) (if b then fs else wrong kind start end)
agree_if true r fs kind start end p = p
agree_if false r fs kind start end p = (end, [], refl)

-- ---- atoms

agree_named : (b : Bool) (at end : ℕ) (bytes : List ℕ) → Agrees {A = Word} (and_then (or_fail (if b then Some bytes else None) (Err (fault NotAForm at))) (λ name. Ok (record { name = name; at = at }))) (if b then [] else wrong NotAForm at end)
agree_named true at end bytes = refl
agree_named false at end bytes = (end, [], refl)

name_agrees : (at end : ℕ) (bytes : List ℕ) → Agrees (name_at at bytes) (if is_word bytes then [] else wrong NotAForm at end)
unfolding name_at
name_agrees at end bytes = agree_named (is_word bytes) at end bytes

agree_some : {A : Type 0} (o : Option A) (kind : FormKind) (at end : ℕ) → Agrees (or_fail o (Err (fault kind at))) (if is_some o then [] else wrong kind at end)
agree_some (Some a) kind at end = refl
agree_some None kind at end = (end, [], refl)

number_agrees : (at end : ℕ) (bytes : List ℕ) → Agrees (number_at at bytes) (if is_some (number_of bytes) then [] else wrong BadNumber at end)
unfolding number_at
number_agrees at end bytes = agree_some (number_of bytes) BadNumber at end

-- a tree that is there
abbrev pub IsThere : Forest → Type 0
IsThere none = ⊥
IsThere (atom at bytes after) = Unit {0}
IsThere (list start end inside after) = Unit {0}

pub first_name_agrees : (t : Forest) → IsThere t → Agrees (first_name t) (faulty_name t)
unfolding first_name faulty_name
first_name_agrees none there = absurd there
first_name_agrees (atom at bytes after) there = name_agrees at (at + length bytes) bytes
first_name_agrees (list start end inside after) there = (end, [], refl)

first_number_agrees : (t : Forest) → IsThere t → Agrees (first_number t) (faulty_number t)
unfolding first_number faulty_number
first_number_agrees none there = absurd there
first_number_agrees (atom at bytes after) there = number_agrees at (at + length bytes) bytes
first_number_agrees (list start end inside after) there = (end, [], refl)

-- as many trees as are counted are there
pub there_one : (t : Forest) (n : ℕ) → (count t == suc n) ≡ true → IsThere t
unfolding count
there_one none n h = absurd (other n h)
  where
    other : (n : ℕ) → (0 == suc n) ≡ true → ⊥
    other n h = grind (arith, nat_tests)
there_one (atom at bytes after) n h = tt
there_one (list start end inside after) n h = tt

pub less_one : (t : Forest) (n : ℕ) → (count t == suc n) ≡ true → (count (rest t) == n) ≡ true
unfolding count
less_one none n h = absurd (there_one none n h)
less_one (atom at bytes after) n h = same (count after) n h
  where
    same : (a b : ℕ) → (suc a == suc b) ≡ true → (a == b) ≡ true
    same a b h = grind (arith, nat_tests)
less_one (list start end inside after) n h = same (count after) n h
  where
    same : (a b : ℕ) → (suc a == suc b) ≡ true → (a == b) ≡ true
    same a b h = grind (arith, nat_tests)

-- a test that both sides make
pub agree_when : {A : Type 0} (b : Bool) (r : Reading A) (fs : Faulties) (kind : FormKind) (start end : ℕ) → (b ≡ true → Agrees r fs) → Agrees (if b then r else Err (fault kind start)) (if b then fs else wrong kind start end)
agree_when true r fs kind start end p = p refl
agree_when false r fs kind start end p = (end, [], refl)

names_agree : (t : Forest) → Agrees (names t) (faulty_names t)
unfolding names faulty_names
names_agree none = refl
names_agree (atom at bytes after) =
    agree_then (name_at at bytes) _ (if is_word bytes then [] else wrong NotAForm at (at + length bytes)) (faulty_names after) (name_agrees at (at + length bytes) bytes)
    (λ word is. agree_map (names after) (λ words. word ∷ words) (faulty_names after) (names_agree after))
names_agree (list start end inside after) = (end, faulty_names after, refl)

pub arguments_agree : (t : Forest) → IsThere t → Agrees (first_arguments t) (faulty_arguments t)
unfolding first_arguments faulty_arguments
arguments_agree none there = absurd there
arguments_agree (atom at bytes after) there = ((at + length bytes), [], refl)
arguments_agree (list start end inside after) there = agree_if (nat_le (count inside) most_arguments) (names inside) (faulty_names inside) WrongCount start end (names_agree inside)

-- ---- types and binders

int_agrees : (start end : ℕ) (inside : Forest) → Agrees (int_type start inside) (faulty_int start end inside)
unfolding int_type faulty_int two_ends
int_agrees start end inside =
    agree_if (begins_with (codes "int") inside) _ _ NotAForm start end
    (agree_when (count inside == 3) _ _ WrongCount start end (λ three.
    let two = less_one inside 2 three in
    agree_then (first_number (rest inside)) _ (faulty_number (rest inside)) (faulty_number (rest (rest inside))) (first_number_agrees (rest inside) (there_one (rest inside) 1 two))
    (λ low is. agree_map (first_number (rest (rest inside))) _ (faulty_number (rest (rest inside))) (first_number_agrees (rest (rest inside)) (there_one (rest (rest inside)) 0 (less_one (rest inside) 1 two))))))

pub type_agrees : (t : Forest) → IsThere t → Agrees (first_type t) (faulty_type t)
unfolding first_type faulty_type
type_agrees none there = absurd there
type_agrees (atom at bytes after) there = agree_map (name_at at bytes) _ _ (name_agrees at (at + length bytes) bytes)
type_agrees (list start end inside after) there = int_agrees start end inside

binder_agrees : (start end : ℕ) (inside : Forest) → Agrees (binder start inside) (faulty_binder start end inside)
unfolding binder faulty_binder two_names
binder_agrees start end inside = by (count inside == 0)
  where
    two : (count inside == 2) ≡ true → Agrees (two_names start inside) (faulty_name inside ++ faulty_name (rest inside))
    two h =
        agree_then (first_name inside) _ (faulty_name inside) (faulty_name (rest inside)) (first_name_agrees inside (there_one inside 1 h))
        (λ variable is. agree_map (first_name (rest inside)) _ (faulty_name (rest inside)) (first_name_agrees (rest inside) (there_one (rest inside) 0 (less_one inside 1 h))))

    by : (b : Bool) → Agrees (if b then Err (fault NotAForm start) else (if count inside == 2 then two_names start inside else Err (fault WrongCount start)))
        (if b then wrong NotAForm start end else (if count inside == 2 then faulty_name inside ++ faulty_name (rest inside) else wrong WrongCount start end))
    by true = (end, [], refl)
    by false = agree_when (count inside == 2) (two_names start inside) (faulty_name inside ++ faulty_name (rest inside)) WrongCount start end two

-- ---- expressions

term_agrees : (at : ℕ) (bytes : List ℕ) → Agrees (term_atom at bytes) (faulty_term at bytes)
unfolding term_atom faulty_term
term_agrees at bytes = by (is_like_number bytes)
  where
    by : (b : Bool) → Agrees (if b then and_then (number_at at bytes) (λ n. Ok (expr_of at (Number n) no_parts)) else and_then (name_at at bytes) (λ word. Ok (expr_of at (Use word) no_parts)))
        (if b then (if is_some (number_of bytes) then [] else wrong BadNumber at (at + length bytes)) else (if is_word bytes then [] else wrong NotAForm at (at + length bytes)))
    by true = agree_map (number_at at bytes) _ _ (number_agrees at (at + length bytes) bytes)
    by false = agree_map (name_at at bytes) _ _ (name_agrees at (at + length bytes) bytes)

atom_agrees : (role : Role) (at : ℕ) (bytes : List ℕ) → Agrees (atom_part role at bytes) (faulty_atom role at bytes)
unfolding atom_part faulty_atom
atom_agrees role.Term at bytes = agree_map (term_atom at bytes) _ (faulty_term at bytes) (term_agrees at bytes)
atom_agrees role.Formula at bytes = ((at + length bytes), [], refl)
atom_agrees role.Binder at bytes = ((at + length bytes), [], refl)

list_agrees : (role : Role) (bound : Reading (Word × Word × ℕ)) (fs : Faulties) (read : Role → Reading Expr) (gs : Role → Faulties) → Agrees bound fs → ((r : Role) → Agrees (read r) (gs r))
    → Agrees (list_part role bound read) (faulty_list role fs gs)
unfolding list_part faulty_list
list_agrees role.Binder bound fs read gs p q = agree_map bound _ fs p
list_agrees role.Term bound fs read gs p q = agree_map (read role.Term) _ (gs role.Term) (q role.Term)
list_agrees role.Formula bound fs read gs p q = agree_map (read role.Formula) _ (gs role.Formula) (q role.Formula)

after_agrees : (start end n : ℕ) (o : Option Head) (read : Head → Reading Expr) (parts : Layout → Faulties) → ((head : Head) → Agrees (read head) (parts (layout_of head)))
    → Agrees (and_then (head_before start n o) read) (faulty_after start end n o parts)
unfolding head_before faulty_after
after_agrees start end n None read parts p = (end, [], refl)
after_agrees start end n (Some head) read parts p = by (has_parts head n)
  where
    by : (b : Bool) → Agrees (and_then (if b then Ok head else Err (fault WrongCount start)) read) (if b then parts (layout_of head) else wrong WrongCount start end)
    by true = p head
    by false = (end, [], refl)

mutual
  unfolding parts_in expr faulty_parts faulty_expr list_head

  parts_agree : (t : Forest) (layout : Layout) → Agrees (parts_in layout t) (faulty_parts layout t)
  parts_agree none layout = refl
  parts_agree (atom at bytes after) layout =
      agree_then (atom_part (role_in layout (is_none after)) at bytes) _ (faulty_atom (role_in layout (is_none after)) at bytes) (faulty_parts (layout_after layout) after) (atom_agrees (role_in layout (is_none after)) at bytes)
      (λ part is. agree_map (parts_in (layout_after layout) after) (with_part part) (faulty_parts (layout_after layout) after) (parts_agree after (layout_after layout)))
  parts_agree (list start end inside after) layout =
      agree_then (list_part (role_in layout (is_none after)) (binder start inside) (λ r. expr r start inside)) _
      (faulty_list (role_in layout (is_none after)) (faulty_binder start end inside) (λ r. faulty_expr r start end inside)) (faulty_parts (layout_after layout) after)
      (list_agrees (role_in layout (is_none after)) (binder start inside) (faulty_binder start end inside) (λ r. expr r start inside) (λ r. faulty_expr r start end inside) (binder_agrees start end inside)
      (λ r. expr_agrees inside r start end))
      (λ part is. agree_map (parts_in (layout_after layout) after) (with_part part) (faulty_parts (layout_after layout) after) (parts_agree after (layout_after layout)))

  pub expr_agrees : (t : Forest) (role : Role) (start end : ℕ) → Agrees (expr role start t) (faulty_expr role start end t)
  expr_agrees none role start end = (end, [], refl)
  expr_agrees (atom at word after) role start end =
      after_agrees start end (count after) (head_of role at word) (λ head. and_then (parts_in (layout_of head) after) (λ parts. Ok (expr_of start head parts))) (λ layout. faulty_parts layout after)
      (λ head. agree_map (parts_in (layout_of head) after) (expr_of start head) (faulty_parts (layout_of head) after) (parts_agree after (layout_of head)))
  expr_agrees (list at last inside after) role start end = (end, [], refl)
