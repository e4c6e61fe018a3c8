-- A space has one least solution.
use Rattle.std.proofs.Common.{◌≡◌, refl, ap, ◌∙◌, ℤ, List, [], ◌∷◌, true, arith}
use Rattle.std.specs.List.{list_all}
use Rattle.std.proofs.lemmas.Bool.{and_parts}
use Rattle.std.proofs.lemmas.Int.{ints}
use Rattle.kts_abs.specs.Spaces.{IsAbove}
use Rattle.kts_abs.specs.Values.{Abs, Win, Mem, has, Refines, is_cell}
use Rattle.kts_abs.proofs.Canonical.{is_rising, same_rising}
use Rattle.kts_abs.proofs.Rising.{same_Bool}
use Rattle.kts_abs.proofs.WindowEnds.{inside_from, pair_is}
use Rattle.kts_plan.specs.SolutionLaws.{LeastIsUnique}

rising_of : (ms : List ℤ) → is_cell (Mem ms) ≡ true → is_rising ms ≡ true
rising_of [] h = refl
rising_of (m ∷ ms) h = h

-- cells that lie within each other are one, and so are spaces
same_cell : (a b : Abs) → is_cell a ≡ true → is_cell b ≡ true → Refines a b → Refines b a → a ≡ b
same_cell (Win v) (Win w) h g f k =
    let x = inside_from v w f in
    let y = inside_from w v k in
    ap Win (pair_is v w (omega (arith, ints, x.low, y.low)) (omega (arith, ints, x.high, y.high)))
same_cell (Win v) (Mem ns) h g f k = absurd f
same_cell (Mem ms) (Win w) h g f k = absurd f
same_cell (Mem ms) (Mem ns) h g f k = ap Mem (same_rising ms ns (rising_of ms h) (rising_of ns g) (λ m. same_Bool (has ms m) (has ns m) (f.within m) (k.within m)))

same_space : (t u : List Abs) → list_all is_cell t ≡ true → list_all is_cell u ≡ true → IsAbove t u → IsAbove u t → t ≡ u
same_space [] [] h g f k = refl
same_space [] (b ∷ u) h g f k = absurd f
same_space (a ∷ t) [] h g f k = absurd f
same_space (a ∷ t) (b ∷ u) h g f k =
    let x = and_parts (is_cell a) (list_all is_cell t) h in
    let y = and_parts (is_cell b) (list_all is_cell u) g in
    ap (λ c. c ∷ t) (same_cell a b x.0 y.0 k.0 f.0) ∙ ap (λ r. b ∷ r) (same_space t u x.1 y.1 f.1 k.1)

pub least_is_unique : LeastIsUnique
least_is_unique w clauses s t u a b = same_space t u a.space.cells b.space.cells (a.least u b.space b.above b.solves) (b.least t a.space a.above a.solves)
