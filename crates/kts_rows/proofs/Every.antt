-- What holds of each element, one element at a time.
use Rattle.std.proofs.Common.{◌≡◌, subst, ℕ, suc, zero, List, [], ◌∷◌, All, Some, slice_get, slice_set, arith}
use Rattle.std.proofs.lemmas.Option.{none-some}
use Rattle.kts_rows.proofs.Spare.{some_is}

pub All-head : {L : Type 0} (P : L → Type 0) (x : L) (xs : List L) → All P (x ∷ xs) → P x
All-head P x xs h = h zero x (omega arith)

pub All-tail : {L : Type 0} (P : L → Type 0) (x : L) (xs : List L) → All P (x ∷ xs) → All P xs
All-tail P x xs h = λ k d l. h (suc k) d (omega arith)

pub All-cons : {L : Type 0} (P : L → Type 0) (x : L) (xs : List L) → P x → All P xs → All P (x ∷ xs)
All-cons P x xs p h zero d l = p
All-cons P x xs p h (suc k) d l = h k d (omega arith)

pub All-get : {L : Type 0} (P : L → Type 0) (xs : List L) (at : ℕ) (x : L) → All P xs → slice_get xs at ≡ Some x → P x
All-get P [] at x h e = absurd (none-some x e)
All-get P (y ∷ ys) zero x h e = subst P (some_is e) (All-head P y ys h)
All-get P (y ∷ ys) (suc at) x h e = All-get P ys at x (All-tail P y ys h) e

pub All-set : {L : Type 0} (P : L → Type 0) (xs : List L) (at : ℕ) (x : L) → All P xs → P x → All P (slice_set xs at x)
All-set P [] at x h p = h
All-set P (y ∷ ys) zero x h p = All-cons P x ys p (All-tail P y ys h)
All-set P (y ∷ ys) (suc at) x h p = All-cons P y (slice_set ys at x) (All-head P y ys h) (All-set P ys at x (All-tail P y ys h) p)

-- a weaker fact of each
pub All-weaken : {L : Type 0} (P Q : L → Type 0) (xs : List L) → ((x : L) → P x → Q x) → All P xs → All Q xs
All-weaken P Q xs f h k d l = f _ (h k d l)
