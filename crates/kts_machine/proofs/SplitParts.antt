-- The least member of a set, and the others.
use Rattle.std.proofs.Common.{◌≡◌, refl, sym, ◌∙◌, ap, subst, ℕ, suc, ◌<◌, Bool, true, false, ◌||◌, ◌&&◌, nat_eq, List, [], ◌∷◌, length, take, drop, map, filter, pos, Some, None, slice_get, slice_index_or, arith}
use Rattle.std.proofs.lemmas.Bool.{eq-eqb, ne_eqb}
use Rattle.std.proofs.lemmas.List.Kept.{AllPairs-from_increasing}
use Rattle.std.proofs.lemmas.Option.{none-some}
use Rattle.kts_abs.specs.Spaces.{least_in}
use Rattle.kts_abs.specs.Values.{Mem}
use Rattle.kts_sets.specs.Choices.{within, unless_empty}
use Rattle.kts_sets.specs.Sets.{elem, other, IsSet}
use Rattle.kts_sets.specs.SetLaws.{IsSet-rises}
use Rattle.kts_sets.specs.ChoiceLaws.{Includes-within}
use Rattle.kts_machine.proofs.QueueMarks.{some_is}

pub least-first : (ms : List ℕ) (m : ℕ) → slice_get ms 0 ≡ Some m → least_in (Mem (map pos ms)) ≡ pos m
least-first [] m e = absurd (none-some m e)
least-first (x ∷ ms) m e = ap pos (some_is e)

pub least-none : (ms : List ℕ) → slice_get ms 0 ≡ None → least_in (Mem (map pos ms)) ≡ pos 0
least-none [] e = refl
least-none (x ∷ ms) e = absurd (none-some x (sym e))

or_true : (b : Bool) → (b || true) ≡ true
or_true true = refl
or_true false = refl

pub within-first : (ms : List ℕ) → within ms (take 1 ms) ≡ true
unfolding elem
within-first [] = refl
within-first (x ∷ ms) = ap (λ b. (b || elem x ms) && true) (eq-eqb x x refl)

pub within-others : (ms : List ℕ) → within ms (drop 1 ms) ≡ true
unfolding elem
within-others [] = refl
within-others (x ∷ ms) = Includes-within (x ∷ ms) ms (λ m h. ap (λ b. nat_eq m x || b) h ∙ or_true (nat_eq m x))

filter-greater : (x : ℕ) (ms : List ℕ) → ((k d : ℕ) → k < length ms → x < slice_index_or ms k d) → filter (other x) ms ≡ ms
filter-greater x [] h = refl
filter-greater x (y ∷ ms) h =
    let apart : nat_eq y x ≡ false = ne_eqb y x (λ e. absurd (omega (arith, e, h 0 0 (omega arith)))) in
    rw apart (ap (λ ys. y ∷ ys) (filter-greater x ms (λ k d l. h (suc k) d (omega arith))))

-- a set without its first member is what follows it
pub others-are : (ms : List ℕ) (m : ℕ) → IsSet ms → slice_get ms 0 ≡ Some m → filter (other m) ms ≡ drop 1 ms
others-are [] m s e = absurd (none-some m e)
others-are (x ∷ ms) m s e =
    let pairs = AllPairs-from_increasing (x ∷ ms) (IsSet-rises (x ∷ ms) s) in
    let same : x ≡ m = some_is e in
    let gone : nat_eq x x ≡ true = eq-eqb x x refl in
    subst (λ k. filter (other k) (x ∷ ms) ≡ ms) same (rw gone (filter-greater x ms (λ k d l. pairs 0 (suc k) d (omega arith) (omega arith))))

pub some-member : (ms : List ℕ) → 1 < length ms → slice_get ms 0 ≡ None → ⊥
some-member [] h e = absurd (omega arith)
some-member (x ∷ ms) h e = absurd (none-some x (sym e))

pub other-member : (ms : List ℕ) → 1 < length ms → unless_empty (drop 1 ms) ≡ None → ⊥
other-member [] h e = absurd (omega arith)
other-member (x ∷ []) h e = absurd (omega arith)
other-member (x ∷ y ∷ ms) h e = absurd (none-some (y ∷ ms) (sym e))

-- a set that is chosen is the list that it is chosen from
pub unless_empty-some : (ms ns : List ℕ) → unless_empty ms ≡ Some ns → ms ≡ ns
unless_empty-some [] ns e = absurd (none-some ns e)
unless_empty-some (x ∷ ms) ns e = some_is e
