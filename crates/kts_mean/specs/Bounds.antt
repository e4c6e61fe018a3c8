-- Numbers that stay small, and what a comparison and a table of cells have to be.
use Rattle.std.specs.Prelude.{◌≡◌, ◌<◌, ◌*◌, ◌≤ℤ◌, ℕ, ℤ, pos, neg_ℤ, int_le, List, [], map, length, Bool, not, slice_index}
use Rattle.kts_base.specs.Limits.{most_number}
use Rattle.kts_spec.specs.declared.tree.Comparison.{Comparison}
use Rattle.kts_spec.specs.declared.tree.Comparison.TheVariants.{Le, Lt, Ge, Gt, Eq, Ne, Same, Other}
use Rattle.kts_spec.specs.Meaning.{int_same}
use Rattle.kts_spec.specs.Places.{offset}
use Rattle.kts_spec.specs.Related.{AllOf}
use Rattle.kts_spec.specs.declared.instance.Instance.{Instance}
use Rattle.kts_spec.specs.Worlds.{World}

-- within so many times the limit on numbers
abbrev pub Near : ℕ → ℤ → Type 0
Near k n = (neg_ℤ (pos (most_number * k)) ≤ℤ n) × (n ≤ℤ pos (most_number * k))

-- whether a comparison of two numbers is true
abbrev pub compares : Comparison → ℤ → ℤ → Bool
compares Le a b = int_le a b
compares Lt a b = not (int_le b a)
compares Ge a b = int_le b a
compares Gt a b = not (int_le a b)
compares Eq a b = int_same a b
compares Ne a b = not (int_same a b)
compares Same a b = int_same a b
compares Other a b = not (int_same a b)

-- numbers below a number
abbrev pub AllIn : ℕ → List ℕ → Type 0
AllIn n = AllOf (λ i. i < n)

-- the number of the first cell of each choice
abbrev pub AreOffsets : World → List ℕ → Type 0
AreOffsets w offsets = (x : ℕ) → x < length w.choices → slice_index offsets x ≡ offset w x

-- the numbers of members in data, without declarations
abbrev pub members_of : Instance → World
members_of inst = record { sizes = map length inst.members; givens = []; choices = []; tables = [] }
