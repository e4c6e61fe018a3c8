-- Trees at fault are listed in the order of their ends.
use Rattle.std.proofs.Common.{ℕ, suc, ◌+◌, ◌-◌, ◌<◌, ◌≤◌, ◌==◌, List, [], ◌∷◌, ◌++◌, length, Bool, true, false, if◌then◌else◌, Option, None, Some, arith}
use Rattle.std.specs.Prelude.{codes, nat_le, is_some}
use Rattle.std.proofs.lemmas.List.{length-append}
use Rattle.kts_text.specs.Forest.{Forest, none, atom, list}
use Rattle.kts_text.specs.Grammar.{Text, nothing, white, comment, letters, nested, spelled, forest, IsText}
use Rattle.kts_syntax.specs.Faulty.{Faulties, wrong, faulty_name, faulty_number, faulty_names, faulty_arguments, faulty_int, faulty_type, faulty_binder, faulty_term, faulty_atom, faulty_list, faulty_after, faulty_parts, faulty_expr, or_itself}
use Rattle.kts_syntax.specs.Heads.{head_of, has_parts, layout_of, role_in, layout_after}
use Rattle.kts_syntax.specs.Readings.{is_none, rest}
use Rattle.kts_syntax.specs.Sizes.{count}
use Rattle.kts_syntax.specs.Tops.{begins_with}
use Rattle.kts_syntax.specs.Words.{is_word, number_of, is_like_number}
use Rattle.kts_syntax.specs.declared.fault.FormKind.{FormKind}
use Rattle.kts_syntax.specs.declared.fault.FormKind.TheVariants.{NotAForm, WrongCount, BadNumber}
use Rattle.kts_syntax.specs.declared.head.Head.{Head}
use Rattle.kts_syntax.specs.declared.layout.Layout.{Layout}
use Rattle.kts_syntax.specs.declared.layout.Role.{Role}
use Rattle.kts_syntax.specs.declared.layout.Role.TheVariants as role

-- the ends rise, above the low one and up to the high one
abbrev pub InOrder : ℕ → Faulties → ℕ → Type 0
InOrder low [] high = low ≤ high
InOrder low (f ∷ fs) high = (low < f.end) × InOrder f.end fs high

pub lower : (low down high : ℕ) (fs : Faulties) → down ≤ low → InOrder low fs high → InOrder down fs high
lower low down high [] h order = omega arith
lower low down high (f ∷ fs) h order = let first = order.0 in (omega arith, order.1)

pub higher : (low high up : ℕ) (fs : Faulties) → high ≤ up → InOrder low fs high → InOrder low fs up
higher low high up [] h order = omega arith
higher low high up (f ∷ fs) h order = (order.0, higher f.end high up fs h order.1)

pub appended : (low mid high : ℕ) (fs gs : Faulties) → InOrder low fs mid → InOrder mid gs high → InOrder low (fs ++ gs) high
appended low mid high [] gs p q = lower mid low high gs p q
appended low mid high (f ∷ fs) gs p q = (p.0, appended f.end mid high fs gs p.1 q)

pub one_wrong : (kind : FormKind) (low start end high : ℕ) → low < end → end ≤ high → InOrder low (wrong kind start end) high
one_wrong kind low start end high p q = (p, q)

pub either : (b : Bool) (low high : ℕ) (fs gs : Faulties) → InOrder low fs high → InOrder low gs high → InOrder low (if b then fs else gs) high
either true low high fs gs p q = p
either false low high fs gs p q = q

pub itself : (low high : ℕ) (fs own : Faulties) → InOrder low fs high → InOrder low own high → InOrder low (or_itself fs own) high
itself low high [] own p q = q
itself low high (f ∷ fs) own p q = p

-- trees that lie one after another from the low place to the high one
abbrev pub Lies : ℕ → Forest → ℕ → Type 0
Lies low none high = low ≤ high
Lies low (atom at bytes after) high = (low ≤ at) × (0 < length bytes) × Lies (at + length bytes) after high
Lies low (list start end inside after) high = (low ≤ start) × (0 < end) × Lies (start + 1) inside (end - 1) × Lies end after high

pub spans : (low high : ℕ) (t : Forest) → Lies low t high → low ≤ high
spans low high none h = h
spans low high (atom at bytes after) h = let a = h.0 in let b = spans (at + length bytes) high after h.2 in omega arith
spans low high (list start end inside after) h = let a = h.0 in let b = h.1 in let c = spans (start + 1) (end - 1) inside h.2 in let d = spans end high after h.3 in omega arith

pub lies_lower : (low down high : ℕ) (t : Forest) → down ≤ low → Lies low t high → Lies down t high
lies_lower low down high none h lies = omega arith
lies_lower low down high (atom at bytes after) h lies = let a = lies.0 in (omega arith, lies.1, lies.2)
lies_lower low down high (list start end inside after) h lies = let a = lies.0 in (omega arith, lies.1, lies.2, lies.3)

lies_higher : (low high up : ℕ) (t : Forest) → high ≤ up → Lies low t high → Lies low t up
lies_higher low high up none h lies = omega arith
lies_higher low high up (atom at bytes after) h lies = (lies.0, lies.1, lies_higher (at + length bytes) high up after h lies.2)
lies_higher low high up (list start end inside after) h lies = (lies.0, lies.1, lies.2, lies_higher end high up after h lies.3)

-- ---- the trees of a text

pub text_lies : (text : Text) (deep at : ℕ) → IsText deep text → Lies at (forest at text) (at + length (spelled text))
text_lies nothing deep at h = omega arith
text_lies (white byte after) deep at h =
    lies_lower (at + 1) at _ (forest (at + 1) after) (omega arith)
    (lies_higher (at + 1) (at + 1 + length (spelled after)) (at + suc (length (spelled after))) (forest (at + 1) after) (omega arith) (text_lies after deep (at + 1) h.1))
text_lies (comment bytes after) deep at h =
    let next = at + length bytes + 2 in
    let size = length-append bytes (10 ∷ spelled after) in
    lies_lower next at _ (forest next after) (omega arith)
    (lies_higher next (next + length (spelled after)) (at + suc (length (bytes ++ 10 ∷ spelled after))) (forest next after) (omega arith) (text_lies after deep next h.1))
text_lies (letters bytes after) deep at h =
    let next = at + length bytes in
    let size = length-append bytes (spelled after) in
    let some = h.0.some in
    (omega arith, some, lies_higher next (next + length (spelled after)) (at + length (bytes ++ spelled after)) (forest next after) (omega arith) (text_lies after deep next h.2))
text_lies (nested inside after) deep at h =
    let end = at + length (spelled inside) + 2 in
    let size = length-append (spelled inside) (41 ∷ spelled after) in (
      omega arith,
      omega arith,
      lies_higher (at + 1) (at + 1 + length (spelled inside)) (end - 1) (forest (at + 1) inside) (omega arith) (text_lies inside (deep - 1) (at + 1) h.1),
      lies_higher end (end + length (spelled after)) (at + suc (length (spelled inside ++ 41 ∷ spelled after))) (forest end after) (omega arith) (text_lies after deep end h.2),
    )

-- ---- the first of trees

-- where the first tree ends
abbrev pub end_of : ℕ → Forest → ℕ
end_of low none = low
end_of low (atom at bytes after) = at + length bytes
end_of low (list start end inside after) = end

pub rest_lies : (low high : ℕ) (t : Forest) → Lies low t high → Lies (end_of low t) (rest t) high
rest_lies low high none h = h
rest_lies low high (atom at bytes after) h = h.2
rest_lies low high (list start end inside after) h = h.3

-- a list's own place
pub list_span : (low high start end : ℕ) (inside after : Forest) → Lies low (list start end inside after) high → low < end
list_span low high start end inside after h = let a = h.0 in let b = h.1 in let c = spans (start + 1) (end - 1) inside h.2 in omega arith

pub first_span : (low high : ℕ) (t : Forest) → Lies low t high → end_of low t ≤ high
first_span low high none h = h
first_span low high (atom at bytes after) h = spans (at + length bytes) high after h.2
first_span low high (list start end inside after) h = spans end high after h.3

module _ (low high : ℕ) where
  pub name_order : (t : Forest) → Lies low t high → InOrder low (faulty_name t) (end_of low t)
  unfolding faulty_name
  name_order none h = omega arith
  name_order (atom at bytes after) h =
      let a = h.0 in let b = h.1 in either (is_word bytes) low (at + length bytes) [] (wrong NotAForm at (at + length bytes)) (omega arith) (one_wrong NotAForm low at (at + length bytes) (at + length bytes) (omega arith) (omega arith))
  name_order (list start end inside after) h = one_wrong NotAForm low start end end (list_span low high start end inside after h) (omega arith)

  number_order : (t : Forest) → Lies low t high → InOrder low (faulty_number t) (end_of low t)
  unfolding faulty_number
  number_order none h = omega arith
  number_order (atom at bytes after) h =
      let a = h.0 in let b = h.1 in either (is_some (number_of bytes)) low (at + length bytes) [] (wrong BadNumber at (at + length bytes)) (omega arith) (one_wrong BadNumber low at (at + length bytes) (at + length bytes) (omega arith) (omega arith))
  number_order (list start end inside after) h = one_wrong NotAForm low start end end (list_span low high start end inside after h) (omega arith)

names_order : (t : Forest) (low high : ℕ) → Lies low t high → InOrder low (faulty_names t) high
unfolding faulty_names
names_order none low high h = h
names_order (atom at bytes after) low high h =
    let a = h.0 in let b = h.1 in
    appended low (at + length bytes) high (if is_word bytes then [] else wrong NotAForm at (at + length bytes)) (faulty_names after)
    (either (is_word bytes) low (at + length bytes) [] (wrong NotAForm at (at + length bytes)) (omega arith) (one_wrong NotAForm low at (at + length bytes) (at + length bytes) (omega arith) (omega arith)))
    (names_order after (at + length bytes) high h.2)
names_order (list start end inside after) low high h =
    appended low end high (wrong NotAForm start end) (faulty_names after) (one_wrong NotAForm low start end end (list_span low high start end inside after h) (omega arith)) (names_order after end high h.3)

-- what lies within a list lies before its end
pub within_list : (low high start end : ℕ) (inside after : Forest) (fs : Faulties) → Lies low (list start end inside after) high → InOrder (start + 1) fs (end - 1) → InOrder low fs end
within_list low high start end inside after fs h order =
    let a = h.0 in let b = h.1 in lower (start + 1) low end fs (omega arith) (higher (start + 1) (end - 1) end fs (omega arith) order)

pub arguments_order : (t : Forest) (low high : ℕ) → Lies low t high → InOrder low (faulty_arguments t) (end_of low t)
unfolding faulty_arguments
arguments_order none low high h = omega arith
arguments_order (atom at bytes after) low high h = let a = h.0 in let b = h.1 in one_wrong NotAForm low at (at + length bytes) (at + length bytes) (omega arith) (omega arith)
arguments_order (list start end inside after) low high h =
    either (nat_le (count inside) 2) low end (faulty_names inside) (wrong WrongCount start end) (within_list low high start end inside after (faulty_names inside) h (names_order inside (start + 1) (end - 1) h.2))
    (one_wrong WrongCount low start end end (list_span low high start end inside after h) (omega arith))

-- two of the first trees
pub two_order : (first second : Forest → Faulties) → ((low high : ℕ) (t : Forest) → Lies low t high → InOrder low (first t) (end_of low t)) → ((low high : ℕ) (t : Forest) → Lies low t high → InOrder low (second t) (end_of low t))
    → (low high : ℕ) (t : Forest) → Lies low t high → InOrder low (first t ++ second (rest t)) high
two_order first second p q low high t h =
    let others = rest_lies low high t h in
    appended low (end_of low t) high (first t) (second (rest t)) (p low high t h)
    (higher (end_of low t) (end_of (end_of low t) (rest t)) high (second (rest t)) (first_span (end_of low t) high (rest t) others) (q (end_of low t) high (rest t) others))

pub first_lower : (low high : ℕ) (t : Forest) → Lies low t high → low ≤ end_of low t
first_lower low high none h = omega arith
first_lower low high (atom at bytes after) h = let a = h.0 in omega arith
first_lower low high (list start end inside after) h = let a = list_span low high start end inside after h in omega arith

int_order : (low high start end : ℕ) (inside after : Forest) → Lies low (list start end inside after) high → InOrder low (faulty_int start end inside) end
unfolding faulty_int
int_order low high start end inside after h =
    let own = λ (kind : FormKind). one_wrong kind low start end end (list_span low high start end inside after h) (omega arith) in
    let ends = rest_lies (start + 1) (end - 1) inside h.2 in
    let from = end_of (start + 1) inside in
    let both = two_order faulty_number faulty_number number_order number_order from (end - 1) (rest inside) ends in
    let span = first_lower (start + 1) (end - 1) inside h.2 in
    either (begins_with (codes "int") inside) low end _ (wrong NotAForm start end)
    (either (count inside == 3) low end (faulty_number (rest inside) ++ faulty_number (rest (rest inside))) (wrong WrongCount start end)
    (within_list low high start end inside after (faulty_number (rest inside) ++ faulty_number (rest (rest inside))) h (lower from (start + 1) (end - 1) (faulty_number (rest inside) ++ faulty_number (rest (rest inside))) span both))
    (own WrongCount)) (own NotAForm)

pub type_order : (low high : ℕ) (t : Forest) → Lies low t high → InOrder low (faulty_type t) (end_of low t)
unfolding faulty_type
type_order low high none h = omega arith
type_order low high (atom at bytes after) h =
    let a = h.0 in let b = h.1 in either (is_word bytes) low (at + length bytes) [] (wrong NotAForm at (at + length bytes)) (omega arith) (one_wrong NotAForm low at (at + length bytes) (at + length bytes) (omega arith) (omega arith))
type_order low high (list start end inside after) h = int_order low high start end inside after h

binder_order : (low high start end : ℕ) (inside after : Forest) → Lies low (list start end inside after) high → InOrder low (faulty_binder start end inside) end
unfolding faulty_binder
binder_order low high start end inside after h =
    let own = λ (kind : FormKind). one_wrong kind low start end end (list_span low high start end inside after h) (omega arith) in
    let both = two_order faulty_name faulty_name name_order name_order (start + 1) (end - 1) inside h.2 in
    either (count inside == 0) low end (wrong NotAForm start end) _ (own NotAForm)
    (either (count inside == 2) low end (faulty_name inside ++ faulty_name (rest inside)) (wrong WrongCount start end)
    (within_list low high start end inside after (faulty_name inside ++ faulty_name (rest inside)) h both) (own WrongCount))

-- ---- expressions

atom_order : (role : Role) (low at : ℕ) (bytes : List ℕ) → low ≤ at → 0 < length bytes → InOrder low (faulty_atom role at bytes) (at + length bytes)
unfolding faulty_atom faulty_term
atom_order role.Binder low at bytes a b = one_wrong NotAForm low at (at + length bytes) (at + length bytes) (omega arith) (omega arith)
atom_order role.Formula low at bytes a b = one_wrong NotAForm low at (at + length bytes) (at + length bytes) (omega arith) (omega arith)
atom_order role.Term low at bytes a b =
    let none_wrong : low ≤ at + length bytes = omega arith in
    let own = λ (kind : FormKind). one_wrong kind low at (at + length bytes) (at + length bytes) (omega arith) (omega arith) in
    either (is_like_number bytes) low (at + length bytes) _ _
    (either (is_some (number_of bytes)) low (at + length bytes) [] (wrong BadNumber at (at + length bytes)) none_wrong (own BadNumber))
    (either (is_word bytes) low (at + length bytes) [] (wrong NotAForm at (at + length bytes)) none_wrong (own NotAForm))

list_order : (role : Role) (low high : ℕ) (bound : Faulties) (operand : Role → Faulties) → InOrder low bound high → ((r : Role) → InOrder low (operand r) high) → InOrder low (faulty_list role bound operand) high
unfolding faulty_list
list_order role.Binder low high bound operand p q = p
list_order role.Term low high bound operand p q = q role.Term
list_order role.Formula low high bound operand p q = q role.Formula

after_order : (low start end n : ℕ) (o : Option Head) (parts : Layout → Faulties) → low < end → ((layout : Layout) → InOrder low (parts layout) end) → InOrder low (faulty_after start end n o parts) end
unfolding faulty_after
after_order low start end n None parts h p = one_wrong NotAForm low start end end h (omega arith)
after_order low start end n (Some head) parts h p = either (has_parts head n) low end (parts (layout_of head)) (wrong WrongCount start end) (p (layout_of head)) (one_wrong WrongCount low start end end h (omega arith))

mutual
  unfolding faulty_parts faulty_expr

  parts_order : (t : Forest) (layout : Layout) (low high : ℕ) → Lies low t high → InOrder low (faulty_parts layout t) high
  parts_order none layout low high h = h
  parts_order (atom at bytes after) layout low high h =
      appended low (at + length bytes) high (faulty_atom (role_in layout (is_none after)) at bytes) (faulty_parts (layout_after layout) after) (atom_order (role_in layout (is_none after)) low at bytes h.0 h.1)
      (parts_order after (layout_after layout) (at + length bytes) high h.2)
  parts_order (list start end inside after) layout low high h =
      appended low end high (faulty_list (role_in layout (is_none after)) (faulty_binder start end inside) (λ r. faulty_expr r start end inside)) (faulty_parts (layout_after layout) after)
      (list_order (role_in layout (is_none after)) low end (faulty_binder start end inside) (λ r. faulty_expr r start end inside) (binder_order low high start end inside after h)
      (λ r. expr_order inside r start end low h.0 h.1 h.2))
      (parts_order after (layout_after layout) end high h.3)

  pub expr_order : (t : Forest) (role : Role) (start end low : ℕ) → low ≤ start → 0 < end → Lies (start + 1) t (end - 1) → InOrder low (faulty_expr role start end t) end
  expr_order none role start end low a b h = one_wrong NotAForm low start end end (omega arith) (omega arith)
  expr_order (list at last inside after) role start end low a b h = let c = spans (start + 1) (end - 1) (list at last inside after) h in one_wrong NotAForm low start end end (omega arith) (omega arith)
  expr_order (atom at word after) role start end low a b h =
      let c = spans (start + 1) (end - 1) (atom at word after) h in
      let d = h.0 in
      after_order low start end (count after) (head_of role at word) (λ layout. faulty_parts layout after) (omega arith)
      (λ layout. lower (at + length word) low end (faulty_parts layout after) (omega arith) (higher (at + length word) (end - 1) end (faulty_parts layout after) (omega arith) (parts_order after layout (at + length word) (end - 1) h.2)))
