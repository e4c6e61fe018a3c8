-- The first tuple that some pattern of a list pairs with a cell.
use Rattle.std.proofs.Common.{◌≡◌, ◌≢◌, refl, sym, ap, ◌∙◌, ℕ, ◌+◌, ◌<◌, ◌≤◌, List, length, take, get_or, false, ◌||◌, nat_eq, arith}
use Rattle.std.specs.List.{list_any}
use Rattle.std.proofs.lemmas.Bool.{ne_eqb, eq-eqb}
use Rattle.std.proofs.lemmas.List.Folds.{list_any_more}
use Rattle.kts_index.specs.declared.pattern.Pattern.{Pattern}
use Rattle.kts_index.specs.declared.tuples.Tuples.{Tuples}
use Rattle.kts_index.specs.ConstraintTuples.{agrees_in, task_in}
use Rattle.kts_index.specs.FirstNumbers.{IsFirst}
use Rattle.kts_index.specs.Pairs.{agrees, is_paired}
use Rattle.kts_index.specs.TaskOrder.{Task}
use Rattle.kts_index.proofs.Skips.{and_false, same_first, never_found, of_either}

module _ (tuples : Tuples) (d x : ℕ) (cell : List ℕ) (q : Pattern) (from below : ℕ) where
  -- a pattern of another constraint pairs nothing
  pub other_constraint : from ≤ below → q.definite ≢ d → IsFirst (λ p. agrees x cell (task_in tuples d p) q) from below below
  other_constraint h n = never_found (λ p. agrees x cell (task_in tuples d p) q) from below h (λ p. rw (ne_eqb q.definite d n) refl)

  -- nor does one of another choice
  pub other_choice : from ≤ below → q.choice ≢ x → IsFirst (λ p. agrees x cell (task_in tuples d p) q) from below below
  other_choice h n = never_found (λ p. agrees x cell (task_in tuples d p) q) from below h (λ p. rw (ne_eqb q.choice x n, and_false (nat_eq q.definite d) false refl) refl)

  -- one of both pairs the tuples that agree
  pub of_both : (first : ℕ) → q.definite ≡ d → q.choice ≡ x → IsFirst (agrees_in tuples q.args cell) from below first
      → IsFirst (λ p. agrees x cell (task_in tuples d p) q) from below first
  of_both first e f s = same_first (λ p. rw (eq-eqb q.definite d e, eq-eqb q.choice x f) refl) s

module _ (patterns : List Pattern) (x : ℕ) (cell : List ℕ) (task : ℕ → Task) (from below : ℕ) where
  -- the first tuple whose task one of the first so many patterns pairs with the cell
  abbrev pub IsFirstOf : ℕ → ℕ → Type 0
  IsFirstOf i first = IsFirst (λ p. is_paired (take i patterns) x cell (task p)) from below first

  -- of none of them
  pub of_none : from ≤ below → IsFirstOf 0 below
  unfolding is_paired
  of_none h = record { after = h; within = omega arith; none = λ p a b. refl; passes = λ k. absurd (omega arith) }

  -- one pattern more
  paired_more : (i : ℕ) (q : Pattern) (p : ℕ) → i < length patterns → q ≡ get_or patterns i q
      → is_paired (take (i + 1) patterns) x cell (task p) ≡ (is_paired (take i patterns) x cell (task p) || agrees x cell (task p) q)
  unfolding is_paired
  paired_more i q p h e =
      list_any_more (agrees x cell (task p)) patterns i q h
      ∙ ap (λ r. list_any (agrees x cell (task p)) (take i patterns) || agrees x cell (task p) r) (sym e)

  -- which is asked for a tuple before the best
  pub of_more : (i : ℕ) (q : Pattern) (a b : ℕ) → i < length patterns → q ≡ get_or patterns i q
      → IsFirstOf i a → IsFirst (λ p. agrees x cell (task p) q) from a b → IsFirstOf (i + 1) b
  of_more i q a b h e f g = same_first (λ p. paired_more i q p h e)
      (of_either (λ p. is_paired (take i patterns) x cell (task p)) (λ p. agrees x cell (task p) q) from below a b f g)
