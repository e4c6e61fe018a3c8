-- The two sides of a split.
use Rattle.std.proofs.Common.{◌≡◌, ℕ, zero, suc, List, [], ◌∷◌, refl, sym, ap, ◌∙◌}
use Rattle.std.specs.Prelude.{pos, slice_index_or, slice_set}
use Rattle.kts_abs.specs.Values.{Abs, Mem}
use Rattle.kts_abs.specs.InSpace.{only_of}
use Rattle.kts_abs.specs.Spaces.{IsSide}
use Rattle.kts_spec.specs.Worlds.{World}
use Rattle.kts_code.specs.Machine.{with_cell}

-- a change of a cell does not depend on what is read past the end
changed_is : (change : Abs → Abs) (space : List Abs) (k : ℕ) (a b : Abs)
    → slice_set space k (change (slice_index_or space k a)) ≡ slice_set space k (change (slice_index_or space k b))
changed_is change [] k a b = refl
changed_is change (c ∷ space) zero a b = refl
changed_is change (c ∷ space) (suc k) a b = ap (λ l. c ∷ l) (changed_is change space k a b)

-- the machine makes the sides of a split
pub side_is : {w : World} {space side : List Abs} {k : ℕ} {change : Abs → Abs} → IsSide w space k change side → with_cell change k space ≡ side
side_is {space = space} {k = k} {change = change} s = changed_is change space k (only_of (pos 0)) (Mem []) ∙ sym s.one_cell
