-- What a rise costs.
use Rattle.std.proofs.Common.{◌≡◌, sym, ◌∙◌, ap, ℕ, suc, zero, ◌+◌, ◌<◌, ◌≤◌, Bool, false, List, [], ◌∷◌, Option, Some, None, slice_get, slice_set, arith}
use Rattle.std.proofs.lemmas.Option.{none-some}
use Rattle.std.proofs.lemmas.Bool.{true≢false}
use Rattle.kts_semi.specs.Semilattice.{IsSemi}
use Rattle.kts_rows.specs.Rises.{spare}

pub some_is : {A : Type 0} {a b : A} → Some a ≡ Some b → a ≡ b
some_is {a = a} h = ap (λ o. elim o as (λ _. _) [ Some x ↦ x | None ↦ a ]) h

-- the second has less to spare
pub record Falls {L : Type 0} (extent : L → ℕ) (cell next : L) : Type 0 where
  pub falls : extent next < extent cell
  pub positive : 1 ≤ extent next

-- a join with a bound that the cell does not meet has less to spare
pub Falls-join : {L : Type 0} (Valid : L → Type 0) (le : L → L → Bool) (joined : L → L → Option L) (extent : L → ℕ) → IsSemi Valid le joined extent →
    (cell bound next : L) → Valid cell → Valid bound → le bound cell ≡ false → joined cell bound ≡ Some next → Falls extent cell next
Falls-join Valid le joined extent laws cell bound next v w unmet j =
    let least = laws.some cell bound next v w j in
    record {
      falls = laws.falls cell next v least.valid least.left (λ same. true≢false (sym least.right ∙ ap (le bound) (sym same) ∙ unmet));
      positive = laws.positive next least.valid;
    }

-- a row of cells with such a one in it has less to spare
pub spare-set : {L : Type 0} (extent : L → ℕ) (cells : List L) (at : ℕ) (cell next : L) → slice_get cells at ≡ Some cell → Falls extent cell next →
    spare extent (slice_set cells at next) + 1 ≤ spare extent cells
unfolding spare
spare-set extent [] at cell next e f = absurd (none-some cell e)
spare-set extent (c ∷ cs) zero cell next e f = let same : c ≡ cell = some_is e in rw same (omega (arith, f.falls, f.positive))
spare-set extent (c ∷ cs) (suc at) cell next e f = omega (arith, spare-set extent cs at cell next e f)
