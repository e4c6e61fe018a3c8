-- Words, binders, terms and formulas that are read are of the grammar.
use Rattle.std.proofs.Common.{◌≡◌, refl, ◌∙◌, ap, subst, ℕ, suc, ◌==◌, ℤ, List, [], ◌∷◌, Bool, true, false, ◌&&◌, if◌then◌else◌, cond, find, Option, None, Some, option_map, Ok, Err, arith}
use Rattle.std.specs.Prelude.{codes}
use Rattle.std.specs.List.{list_all}
use Rattle.std.proofs.lemmas.Bool.Decides.{nat_tests}
use Rattle.kts_text.specs.Forest.{Forest, none, atom, list}
use Rattle.kts_syntax.specs.Faults.{fault}
use Rattle.kts_syntax.specs.FormsOf as grammar
use Rattle.kts_syntax.specs.FormsOf.{IsName, WordOf, NumberOf, WordsOf, Binding, expr_at, BinderOf, BindersOf, IsOperation, IsComparison, IsConnective, IsQuantifier, TermOf, TermsOf, FormulaOf, FormulasOf}
use Rattle.kts_syntax.specs.Fitting.{has_role}
use Rattle.kts_syntax.specs.Heads.{keyword, operations, operation_of, or_use, head_of, has_parts}
use Rattle.kts_syntax.specs.Readings.{or_fail, rest, name_at, number_at, first_name, first_number, two_names, binder, head_before}
use Rattle.kts_syntax.specs.Sizes.{count}
use Rattle.kts_syntax.specs.Tops.{names}
use Rattle.kts_syntax.specs.Words.{is_text, is_word, word_of, number_of}
use Rattle.kts_syntax.specs.declared.fault.FormKind.TheVariants.{NotAForm, WrongCount, BadNumber}
use Rattle.kts_syntax.specs.declared.head.Head.{Head}
use Rattle.kts_syntax.specs.declared.head.Head.TheVariants.{Add, Sub, Mul, Min, Max, Sum, Le, Lt, Ge, Gt, Eq, Ne, And, Or, Not, Implies, Forall, Exists, Use}
use Rattle.kts_syntax.specs.declared.layout.Role.{Role}
use Rattle.kts_syntax.specs.declared.layout.Role.TheVariants.{Term, Formula}
use Rattle.kts_syntax.specs.declared.word.Word.{Word}
use Rattle.kts_syntax.proofs.Agreement.{less_one}
use Rattle.kts_syntax.proofs.GrammarWords.{name_if, number_if}
use Rattle.kts_syntax.proofs.HeadLemmas.{is_keyword}
use Rattle.kts_syntax.proofs.Inversions.{ok_is, same_some, both_ok, test_ok, some_ok, find_among}
use Rattle.kts_syntax.proofs.WordLemmas.{text_same}

-- ---- words and numbers

word_of_if : (bytes found : List ℕ) → word_of bytes ≡ Some found → IsName bytes × (bytes ≡ found)
word_of_if bytes found e = by (is_word bytes) refl e
  where
    by : (b : Bool) → is_word bytes ≡ b → (if b then Some bytes else None) ≡ Some found → IsName bytes × (bytes ≡ found)
    by true is e = (name_if bytes is, same_some bytes found e)
    by false is e = absurd cc

pub name_at_if : (at : ℕ) (bytes : List ℕ) (word : Word) → name_at at bytes ≡ Ok word → IsName bytes × (record { name = bytes; at = at } ≡ word)
unfolding name_at
name_at_if at bytes word e =
    let named = both_ok (or_fail (word_of bytes) (Err (fault NotAForm at))) _ word e in
    let is = word_of_if bytes named.0 (some_ok (word_of bytes) (fault NotAForm at) named.0 named.1) in
    (is.0, ap (λ (n : List ℕ). record { name = n; at = at }) is.1 ∙ ok_is (record { name = named.0; at = at }) word named.2)

pub word_if : (t : Forest) (word : Word) → first_name t ≡ Ok word → WordOf t word (rest t)
unfolding first_name
word_if none word e = absurd cc
word_if (atom at bytes after) word e = let is = name_at_if at bytes word e in subst (λ (w : Word). WordOf (atom at bytes after) w after) is.1 (grammar.WordOf.name is.0)
word_if (list start end inside after) word e = absurd cc

pub first_number_if : (t : Forest) (n : ℤ) → first_number t ≡ Ok n → NumberOf t n (rest t)
unfolding first_number number_at
first_number_if none n e = absurd cc
first_number_if (atom at bytes after) n e = grammar.NumberOf.number (number_if bytes n (some_ok (number_of bytes) (fault BadNumber at) n e))
first_number_if (list start end inside after) n e = absurd cc

pub words_if : (t : Forest) (words : List Word) → names t ≡ Ok words → WordsOf t words
unfolding names
words_if none words e = subst (WordsOf none) (ok_is [] words e) grammar.no_word
words_if (atom at bytes after) words e =
    let one = both_ok (name_at at bytes) _ words e in
    let more = both_ok (names after) _ words one.2 in
    let is = name_at_if at bytes one.0 one.1 in
    subst (WordsOf (atom at bytes after)) (ok_is (one.0 ∷ more.0) words more.2)
    (grammar.one_word (subst (λ (w : Word). WordOf (atom at bytes after) w after) is.1 (grammar.WordOf.name is.0)) (words_if after more.0 more.1))
words_if (list start end inside after) words e = absurd cc

-- ---- counts

pub none_counted : (t : Forest) → (count t == 0) ≡ true → t ≡ none
unfolding count
none_counted none h = refl
none_counted (atom at bytes after) h = absurd (some (count after) h)
  where
    some : (n : ℕ) → (suc n == 0) ≡ true → ⊥
    some n h = grind (arith, nat_tests)
none_counted (list start end inside after) h = absurd (some (count after) h)
  where
    some : (n : ℕ) → (suc n == 0) ≡ true → ⊥
    some n h = grind (arith, nat_tests)

-- no tree is left after as many as are counted
pub none_after_one : (t : Forest) → (count t == 1) ≡ true → rest t ≡ none
none_after_one t h = none_counted (rest t) (less_one t 0 h)

pub none_after_two : (t : Forest) → (count t == 2) ≡ true → rest (rest t) ≡ none
none_after_two t h = none_after_one (rest t) (less_one t 1 h)

pub none_after_three : (t : Forest) → (count t == 3) ≡ true → rest (rest (rest t)) ≡ none
none_after_three t h = none_after_two (rest t) (less_one t 2 h)

-- ---- binders

pub binder_if : (start end : ℕ) (inside after : Forest) (b : Binding) → binder start inside ≡ Ok b → BinderOf (list start end inside after) b after
unfolding binder two_names
binder_if start end inside after b e = by (count inside == 0) (count inside == 2) refl e
  where
    by : (empty two : Bool) → (count inside == 2) ≡ two → (if empty then Err (fault NotAForm start) else (if two then two_names start inside else Err (fault WrongCount start))) ≡ Ok b
        → BinderOf (list start end inside after) b after
    by true two is e = absurd cc
    by false false is e = absurd cc
    by false true is e =
        let first = both_ok (first_name inside) _ b e in
        let second = both_ok (first_name (rest inside)) _ b first.2 in
        subst (λ (b : Binding). BinderOf (list start end inside after) b after) (ok_is (first.0, second.0, start) b second.2)
        (grammar.binder (word_if inside first.0 first.1) (subst (λ (t : Forest). WordOf (rest inside) second.0 t) (none_after_two inside is) (word_if (rest inside) second.0 second.1)))

-- ---- heads

-- a word that begins a list in a term's place, and the head that it is
pub data TermHead (at : ℕ) : List ℕ → Head → Type 0 where
  plus : TermHead at (codes "+") Add
  operation : {word : List ℕ} {head : Head} → IsOperation word head → TermHead at word head
  sum_over : TermHead at (codes "sum") Sum
  used : {word : List ℕ} → IsName word → TermHead at word (Use (record { name = word; at = at }))

-- the same in a formula's place
pub data FormulaHead : List ℕ → Head → Type 0 where
  comparison : {word : List ℕ} {head : Head} → IsComparison word head → FormulaHead word head
  connective : {word : List ℕ} {head : Head} → IsConnective word head → FormulaHead word head
  negation : FormulaHead (codes "not") Not
  implication : FormulaHead (codes "=>") Implies
  quantifier : {word : List ℕ} {head : Head} → IsQuantifier word head → FormulaHead word head

find_test : {A : Type 0} (test : A → Bool) (xs : List A) (x : A) → find test xs ≡ Some x → test x ≡ true
find_test test [] x e = absurd cc
find_test test (y ∷ ys) x e = by (test y) refl e (find_test test ys x)
  where
    by : (b : Bool) → test y ≡ b → cond b (Some y) (find test ys) ≡ Some x → (find test ys ≡ Some x → test x ≡ true) → test x ≡ true
    by true is e later = subst (λ z. test z ≡ true) (same_some y x e) is
    by false is e later = later e

operation_is : (role : Role) (word : List ℕ) (head : Head) → list_all (λ h. has_role h role && is_keyword h) (operations role) ≡ true → operation_of role word ≡ Some head
    → (has_role head role && is_keyword head ≡ true) × (keyword head ≡ word)
unfolding operation_of
operation_is role word head all e = (
  find_among (λ h. has_role h role && is_keyword h) (λ head. is_text (keyword head) word) (operations role) head all e,
  text_same (keyword head) word (find_test (λ head. is_text (keyword head) word) (operations role) head e),
)

term_head_is : (at : ℕ) (head : Head) → (has_role head Term && is_keyword head) ≡ true → TermHead at (keyword head) head
unfolding has_role keyword
term_head_is at Add h = plus
term_head_is at Sub h = operation grammar.difference
term_head_is at Mul h = operation grammar.product
term_head_is at Min h = operation grammar.lesser
term_head_is at Max h = operation grammar.greater
term_head_is at Sum h = sum_over
term_head_is at _ h = absurd cc

formula_head_is : (head : Head) → (has_role head Formula && is_keyword head) ≡ true → FormulaHead (keyword head) head
unfolding has_role keyword
formula_head_is Le h = comparison grammar.at_most
formula_head_is Lt h = comparison grammar.less
formula_head_is Ge h = comparison grammar.at_least
formula_head_is Gt h = comparison grammar.more
formula_head_is Eq h = comparison grammar.equal
formula_head_is Ne h = comparison grammar.unequal
formula_head_is And h = connective grammar.conjunction
formula_head_is Or h = connective grammar.disjunction
formula_head_is Not h = negation
formula_head_is Implies h = implication
formula_head_is Forall h = quantifier grammar.for_all
formula_head_is Exists h = quantifier grammar.for_some
formula_head_is _ h = absurd cc

pub term_head_if : (at : ℕ) (word : List ℕ) (head : Head) → head_of Term at word ≡ Some head → TermHead at word head
unfolding head_of has_role
term_head_if at word head e = by (operation_of Term word) refl e
  where
    by : (o : Option Head) → operation_of Term word ≡ o → or_use Term at word o ≡ Some head → TermHead at word head
    by (Some h) is e =
        let same = operation_is Term word h refl is in
        subst (TermHead at word) (same_some h head e) (subst (λ (w : List ℕ). TermHead at w h) same.1 (term_head_is at h same.0))
    by None is e = used_if (word_of word) refl e
      where
        used_if : (o : Option (List ℕ)) → word_of word ≡ o → option_map (λ name. Use (record { name = name; at = at })) o ≡ Some head → TermHead at word head
        used_if None is e = absurd cc
        used_if (Some found) is e =
            let named = word_of_if word found is in
            subst (TermHead at word) (ap (λ (n : List ℕ). Use (record { name = n; at = at })) named.1 ∙ same_some (Use (record { name = found; at = at })) head e) (used named.0)

pub formula_head_if : (at : ℕ) (word : List ℕ) (head : Head) → head_of Formula at word ≡ Some head → FormulaHead word head
unfolding head_of has_role
formula_head_if at word head e = let same = operation_is Formula word head refl e in subst (λ (w : List ℕ). FormulaHead w head) same.1 (formula_head_is head same.0)

pub head_if : (o : Option Head) (start n : ℕ) (head : Head) → head_before start n o ≡ Ok head → (o ≡ Some head) × (has_parts head n ≡ true)
unfolding head_before
head_if None start n head e = absurd cc
head_if (Some h) start n head e =
    let tested = test_ok (has_parts h n) (Ok h) (fault WrongCount start) head e in
    let same = ok_is h head tested.1 in
    (ap Some same, subst (λ (h : Head). has_parts h n ≡ true) same tested.0)
