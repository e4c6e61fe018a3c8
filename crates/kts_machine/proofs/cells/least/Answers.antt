use Rattle.std.proofs.Common.{◌≡◌, ◌∙◌, Some, None, slice_get, ℕ, ◌<◌, pos, w64, to_z, sym, ap, arith}
use Rattle.std.proofs.lemmas.Int.{ints}
use Rattle.kts_abs.specs.Cells.{value_of}
use Rattle.kts_abs.specs.Spaces.{least_in}
use Rattle.kts_machine.proofs.SplitParts.{least-first, least-none}
use Rattle.kts_machine.proofs.cells.least.Goals as goal

member_is : (m : ℕ) → m < 65536 → to_z w64 m ≡ pos m
member_is m h = omega (arith, ints)

pub returns-in-Some : goal.returns-in-Some
returns-in-Some g c =
    let first : slice_get c.in-Mem.choice 0 ≡ Some c.in-Some.member = ap (λ ms. slice_get ms 0) (sym c.set.ensures.members) ∙ sym c.first.ensures.least ∙ c.in-Some.is in
    member_is c.in-Some.member (omega (arith, c.in-Some.ensures.below, c.in-Some.ensures.few_words)) ∙ sym (ap (λ a. least_in (value_of a)) c.in-Mem.is ∙ least-first c.in-Mem.choice c.in-Some.member first)

pub returns-in-None : goal.returns-in-None
returns-in-None g c =
    let first : slice_get c.in-Mem.choice 0 ≡ None = ap (λ ms. slice_get ms 0) (sym c.set.ensures.members) ∙ sym c.first.ensures.least ∙ c.in-None.is in
    sym (ap (λ a. least_in (value_of a)) c.in-Mem.is ∙ least-none c.in-Mem.choice first)
