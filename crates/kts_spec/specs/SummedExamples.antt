-- Two sides of a comparison that are nested sums, and their addends.
use Rattle.std.specs.Prelude.{List, [], ◌∷◌}
use Rattle.kts_spec.specs.declared.tree.Term.{Term}
use Rattle.kts_spec.specs.declared.tree.Term.TheVariants.{Choice, Add, Sub, Mul}
use Rattle.kts_spec.specs.Addends.{Addend, added, taken}
use Rattle.kts_spec.specs.Examples.{number}

-- a choice without arguments, and its double
abbrev pub x : Term
x = Choice 0 []

abbrev pub twice_x : Term
twice_x = Mul (x ∷ number 2 ∷ [])

-- (+ x (- 3 (+ x 5)) (* x 2))
abbrev pub left : Term
left = Add (x ∷ Sub (number 3 ∷ Add (x ∷ number 5 ∷ []) ∷ []) ∷ twice_x ∷ [])

-- (- 7 x)
abbrev pub right : Term
right = Sub (number 7 ∷ x ∷ [])

-- x + 3 - x - 5 + 2 x - 7 + x + 1
abbrev pub left_below_right : List Addend
left_below_right = added x ∷ added (number 3) ∷ taken x ∷ taken (number 5) ∷ added twice_x ∷ taken (number 7) ∷ added x ∷ added (number 1) ∷ []

-- 7 - x - x - 3 + x + 5 - 2 x
abbrev pub right_at_most_left : List Addend
right_at_most_left = added (number 7) ∷ taken x ∷ taken x ∷ taken (number 3) ∷ added x ∷ added (number 5) ∷ taken twice_x ∷ []
