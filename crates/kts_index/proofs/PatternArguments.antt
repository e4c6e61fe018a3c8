-- Skips for all arguments of a pattern.
use Rattle.std.proofs.Common.{◌≡◌, ◌≢◌, refl, sym, ◌∙◌, ℕ, zero, suc, ◌-◌, ◌<◌, ◌≤◌, inl, inr, List, [], ◌∷◌, length, take, drop, get_or, length-drop, Bool, true, false, ◌&&◌, nat_eq, Option, Some, arith}
use Rattle.std.proofs.lemmas.Bool.{ne_eqb}
use Rattle.std.proofs.lemmas.Bool.Decides.{eqb_tells}
use Rattle.std.proofs.lemmas.List.{take_all}
use Rattle.kts_index.specs.FirstNumbers.{IsSkip}
use Rattle.kts_index.specs.Pairs.{has_member, argument_agrees, arguments_agree}
use Rattle.kts_index.proofs.Skips.{same_skip, and_false, by_first, by_second}

-- ---- skips

-- where the cell has no members for them, every tuple agrees
pub no_members : (t : List ℕ) (args : List (Option ℕ)) (cell : List ℕ) → length cell ≡ 0 → arguments_agree t args cell ≡ true
no_members t [] cell h = refl
no_members t (a ∷ args) [] h = refl
no_members t (a ∷ args) (m ∷ cell) h = absurd (omega arith)

-- the first argument and the others
first_argument : (t : List ℕ) (args : List (Option ℕ)) (cell : List ℕ) (d : Option ℕ) (e : ℕ) → 0 < length args → 0 < length cell
    → arguments_agree t args cell ≡ (argument_agrees t (get_or args 0 d) (get_or cell 0 e) && arguments_agree t (drop 1 args) (drop 1 cell))
first_argument t [] cell d e h k = absurd (omega arith)
first_argument t (a ∷ args) [] d e h k = absurd (omega arith)
first_argument t (a ∷ args) (m ∷ cell) d e h k = refl

module _ (tuple : ℕ → List ℕ) (args : List (Option ℕ)) (cell : List ℕ) (d : Option ℕ) (e : ℕ) (some : 0 < length args) (members : 0 < length cell) where
  -- whether a tuple agrees with the first argument
  abbrev first_agrees : ℕ → Bool
  first_agrees x = argument_agrees (tuple x) (get_or args 0 d) (get_or cell 0 e)

  -- whether it agrees with the others
  abbrev others_agree : ℕ → Bool
  others_agree x = arguments_agree (tuple x) (drop 1 args) (drop 1 cell)

  -- a skip for the first argument that moves
  pub moved : (from next : ℕ) → next ≢ from → IsSkip first_agrees from next → IsSkip (λ x. arguments_agree (tuple x) args cell) from next
  moved from next n s = same_skip (λ x. first_argument (tuple x) args cell d e some members) (by_first first_agrees others_agree from next n s)

  -- a skip for the others, where it doesn't
  stayed : (from first next : ℕ) → first ≡ from → IsSkip first_agrees from first → IsSkip others_agree from next
      → IsSkip (λ x. arguments_agree (tuple x) args cell) from next
  stayed from first next same s r =
      same_skip (λ x. first_argument (tuple x) args cell d e some members) (by_second first_agrees others_agree from first next same s r)

  -- the others, as a slice of all
  taken : {X : Type 0} (ys : List X) → take (length ys - 1) (drop 1 ys) ≡ drop 1 ys
  taken ys = take_all (length ys - 1) (drop 1 ys) (omega (arith, length-drop 1 ys))

  -- with these slices
  pub stayed_taken : (from first next : ℕ) → first ≡ from → IsSkip first_agrees from first
      → IsSkip (λ x. arguments_agree (tuple x) (take (length args - 1) (drop 1 args)) (take (length cell - 1) (drop 1 cell))) from next
      → IsSkip (λ x. arguments_agree (tuple x) args cell) from next
  stayed_taken from first next same s r = stayed from first next same s (same_skip (λ x. rw (taken args, taken cell) refl) r)

-- ---- two arguments that name one variable

-- no tuple has two members in one place
has_both : (xs : List ℕ) (k m n : ℕ) (b : Bool) → m ≢ n → (has_member xs k m && (has_member xs k n && b)) ≡ false
has_both [] k m n b d = refl
has_both (x ∷ xs) zero m n b d = elim (eqb_tells x m) [
  | inl same ↦ rw (ne_eqb x n (λ e. d (sym same.1 ∙ e))) (and_false (nat_eq x m) false refl)
  | inr other ↦ rw other.0 refl
]
has_both (x ∷ xs) (suc k) m n b d = has_both xs k m n b d

-- so none agrees with two arguments that name one, where the cell has different members
pub clash : (args : List (Option ℕ)) (cell : List ℕ) (j : ℕ) (d e : Option ℕ) → 2 ≤ length args → 2 ≤ length cell
    → get_or args 0 d ≡ Some j → get_or args 1 e ≡ Some j → get_or cell 0 0 ≢ get_or cell 1 0 → (tuple : List ℕ) → arguments_agree tuple args cell ≡ false
clash [] cell j d e h k p q other t = absurd (omega arith)
clash (a ∷ []) cell j d e h k p q other t = absurd (omega arith)
clash (a ∷ b ∷ args) [] j d e h k p q other t = absurd (omega arith)
clash (a ∷ b ∷ args) (m ∷ []) j d e h k p q other t = absurd (omega arith)
clash (a ∷ b ∷ args) (m ∷ n ∷ cell) j d e h k p q other t = rw (p, q) (has_both t j m n (arguments_agree t args cell) other)
