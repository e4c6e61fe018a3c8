-- Operations, written as heads and read from them.
use Rattle.std.proofs.Common.{◌≡◌, refl, ℕ, ◌==◌, List, Bool, true, false, Some, arith}
use Rattle.std.specs.Prelude.{nat_le}
use Rattle.std.proofs.lemmas.Bool.{and_parts, both_ways}
use Rattle.std.proofs.lemmas.Bool.Decides.{nat_tests}
use Rattle.kts_text.specs.Bytes.{class}
use Rattle.kts_text.specs.Grammar.{IsAtom}
use Rattle.kts_syntax.specs.Fitting.{is_named, is_small, has_role, head_fits}
use Rattle.kts_syntax.specs.Heads.{keyword, operation_of, head_of, has_parts, layout_of}
use Rattle.kts_syntax.specs.Places.{head_aside}
use Rattle.kts_syntax.specs.Texts.{head_text}
use Rattle.kts_syntax.specs.Words.{is_word}
use Rattle.kts_syntax.specs.declared.head.Head.{Head}
use Rattle.kts_syntax.specs.declared.head.Head.TheVariants.{Add, Sub, Mul, Min, Max, Sum, Le, Lt, Ge, Gt, Eq, Ne, And, Or, Not, Implies, Forall, Exists, Number, Use}
use Rattle.kts_syntax.specs.declared.layout.Role.{Role}
use Rattle.kts_syntax.specs.declared.layout.Role.TheVariants.{Binder, Term, Formula}
use Rattle.kts_syntax.specs.declared.word.Word.{Word}
use Rattle.kts_syntax.proofs.WordLemmas.{name_atom, number_atom, name_no_operation, word_of-name}

-- whether it is an operation, and no number or name
abbrev pub is_keyword : Head → Bool
is_keyword (Number n) = false
is_keyword (Use word) = false
is_keyword head = true

-- an operation's word is that operation's, in its role
pub head_of-keyword : (role : Role) (head : Head) (at : ℕ) → is_keyword head ≡ true → has_role head role ≡ true → head_of role at (keyword head) ≡ Some head
unfolding head_of operation_of keyword has_role
head_of-keyword role (Number n) at k h = absurd cc
head_of-keyword role (Use word) at k h = absurd cc
head_of-keyword Binder head at k h = absurd cc
head_of-keyword Term Add at k h = refl
head_of-keyword Term Sub at k h = refl
head_of-keyword Term Mul at k h = refl
head_of-keyword Term Min at k h = refl
head_of-keyword Term Max at k h = refl
head_of-keyword Term Sum at k h = refl
head_of-keyword Term Le at k h = absurd cc
head_of-keyword Term Lt at k h = absurd cc
head_of-keyword Term Ge at k h = absurd cc
head_of-keyword Term Gt at k h = absurd cc
head_of-keyword Term Eq at k h = absurd cc
head_of-keyword Term Ne at k h = absurd cc
head_of-keyword Term And at k h = absurd cc
head_of-keyword Term Or at k h = absurd cc
head_of-keyword Term Not at k h = absurd cc
head_of-keyword Term Implies at k h = absurd cc
head_of-keyword Term Forall at k h = absurd cc
head_of-keyword Term Exists at k h = absurd cc
head_of-keyword Formula Add at k h = absurd cc
head_of-keyword Formula Sub at k h = absurd cc
head_of-keyword Formula Mul at k h = absurd cc
head_of-keyword Formula Min at k h = absurd cc
head_of-keyword Formula Max at k h = absurd cc
head_of-keyword Formula Sum at k h = absurd cc
head_of-keyword Formula Le at k h = refl
head_of-keyword Formula Lt at k h = refl
head_of-keyword Formula Ge at k h = refl
head_of-keyword Formula Gt at k h = refl
head_of-keyword Formula Eq at k h = refl
head_of-keyword Formula Ne at k h = refl
head_of-keyword Formula And at k h = refl
head_of-keyword Formula Or at k h = refl
head_of-keyword Formula Not at k h = refl
head_of-keyword Formula Implies at k h = refl
head_of-keyword Formula Forall at k h = refl
head_of-keyword Formula Exists at k h = refl

-- a name before parts is a use of it
pub head_of-name : (name : List ℕ) (at : ℕ) → is_word name ≡ true → head_of Term at name ≡ Some (Use (record { name = name; at = at }))
unfolding head_of
head_of-name name at named = rw (name_no_operation name named, word_of-name name named) refl

-- what a head's text is an atom of
pub head_atom : (head : Head) (k : ℕ) → head_fits head k ≡ true → IsAtom (head_text head)
unfolding head_fits head_text keyword class
head_atom (Number n) k h = number_atom n (and_parts (k == 0) (is_small n) h).1
head_atom (Use word) k h = name_atom word.name (and_parts (is_named word) (nat_le k 2) h).0
head_atom Add k h = record { some = omega arith; few = omega arith; letters = (refl, tt) }
head_atom Sub k h = record { some = omega arith; few = omega arith; letters = (refl, tt) }
head_atom Mul k h = record { some = omega arith; few = omega arith; letters = (refl, tt) }
head_atom Min k h = record { some = omega arith; few = omega arith; letters = (refl, (refl, (refl, tt))) }
head_atom Max k h = record { some = omega arith; few = omega arith; letters = (refl, (refl, (refl, tt))) }
head_atom Sum k h = record { some = omega arith; few = omega arith; letters = (refl, (refl, (refl, tt))) }
head_atom Le k h = record { some = omega arith; few = omega arith; letters = (refl, (refl, tt)) }
head_atom Lt k h = record { some = omega arith; few = omega arith; letters = (refl, tt) }
head_atom Ge k h = record { some = omega arith; few = omega arith; letters = (refl, (refl, tt)) }
head_atom Gt k h = record { some = omega arith; few = omega arith; letters = (refl, tt) }
head_atom Eq k h = record { some = omega arith; few = omega arith; letters = (refl, tt) }
head_atom Ne k h = record { some = omega arith; few = omega arith; letters = (refl, (refl, tt)) }
head_atom And k h = record { some = omega arith; few = omega arith; letters = (refl, (refl, (refl, tt))) }
head_atom Or k h = record { some = omega arith; few = omega arith; letters = (refl, (refl, tt)) }
head_atom Not k h = record { some = omega arith; few = omega arith; letters = (refl, (refl, (refl, tt))) }
head_atom Implies k h = record { some = omega arith; few = omega arith; letters = (refl, (refl, tt)) }
head_atom Forall k h = record { some = omega arith; few = omega arith; letters = (refl, (refl, (refl, (refl, (refl, (refl, tt)))))) }
head_atom Exists k h = record { some = omega arith; few = omega arith; letters = (refl, (refl, (refl, (refl, (refl, (refl, tt)))))) }

-- the same head, with its word at a place
abbrev pub at_place : ℕ → Head → Head
at_place at (Use word) = Use (record { name = word.name; at = at })
at_place at head = head

pub same_aside : (at : ℕ) (head : Head) → head_aside (at_place at head) ≡ head_aside head
unfolding head_aside
same_aside at (Use word) = refl
same_aside at _ = refl

pub same_layout : (at : ℕ) (head : Head) → layout_of (at_place at head) ≡ layout_of head
unfolding layout_of
same_layout at (Use word) = refl
same_layout at _ = refl

use_parts : (word : Word) (k : ℕ) → nat_le k 2 ≡ true → (k == 0) ≡ false → has_parts (Use word) k ≡ true
unfolding has_parts
use_parts word k few some = grind (arith, nat_tests)

-- a head before its parts is read again
pub head_again : (role : Role) (head : Head) (k at : ℕ) → has_role head role ≡ true → head_fits head k ≡ true → (k == 0) ≡ false
    → (head_of role at (head_text head) ≡ Some (at_place at head)) × (has_parts (at_place at head) k ≡ true)
unfolding head_fits head_text has_role
head_again role (Number n) k at h f some = absurd (both_ways (k == 0) some (and_parts (k == 0) (is_small n) f).0)
head_again Binder head k at h f some = absurd cc
head_again Formula (Use word) k at h f some = absurd cc
head_again Term (Use word) k at h f some = let both = and_parts (is_named word) (nat_le k 2) f in (head_of-name word.name at both.0, use_parts (record { name = word.name; at = at }) k both.1 some)
head_again Term Add k at h f some = (head_of-keyword Term Add at refl refl, f)
head_again Term Sub k at h f some = (head_of-keyword Term Sub at refl refl, f)
head_again Term Mul k at h f some = (head_of-keyword Term Mul at refl refl, f)
head_again Term Min k at h f some = (head_of-keyword Term Min at refl refl, f)
head_again Term Max k at h f some = (head_of-keyword Term Max at refl refl, f)
head_again Term Sum k at h f some = (head_of-keyword Term Sum at refl refl, f)
head_again Term Le k at h f some = absurd cc
head_again Term Lt k at h f some = absurd cc
head_again Term Ge k at h f some = absurd cc
head_again Term Gt k at h f some = absurd cc
head_again Term Eq k at h f some = absurd cc
head_again Term Ne k at h f some = absurd cc
head_again Term And k at h f some = absurd cc
head_again Term Or k at h f some = absurd cc
head_again Term Not k at h f some = absurd cc
head_again Term Implies k at h f some = absurd cc
head_again Term Forall k at h f some = absurd cc
head_again Term Exists k at h f some = absurd cc
head_again Formula Add k at h f some = absurd cc
head_again Formula Sub k at h f some = absurd cc
head_again Formula Mul k at h f some = absurd cc
head_again Formula Min k at h f some = absurd cc
head_again Formula Max k at h f some = absurd cc
head_again Formula Sum k at h f some = absurd cc
head_again Formula Le k at h f some = (head_of-keyword Formula Le at refl refl, f)
head_again Formula Lt k at h f some = (head_of-keyword Formula Lt at refl refl, f)
head_again Formula Ge k at h f some = (head_of-keyword Formula Ge at refl refl, f)
head_again Formula Gt k at h f some = (head_of-keyword Formula Gt at refl refl, f)
head_again Formula Eq k at h f some = (head_of-keyword Formula Eq at refl refl, f)
head_again Formula Ne k at h f some = (head_of-keyword Formula Ne at refl refl, f)
head_again Formula And k at h f some = (head_of-keyword Formula And at refl refl, f)
head_again Formula Or k at h f some = (head_of-keyword Formula Or at refl refl, f)
head_again Formula Not k at h f some = (head_of-keyword Formula Not at refl refl, f)
head_again Formula Implies k at h f some = (head_of-keyword Formula Implies at refl refl, f)
head_again Formula Forall k at h f some = (head_of-keyword Formula Forall at refl refl, f)
head_again Formula Exists k at h f some = (head_of-keyword Formula Exists at refl refl, f)
