-- A whole number is the sum of its addends, so sums decide comparisons.
use Rattle.std.proofs.Common.{◌≡◌, ◌≢◌, ◌↔◌, refl, sym, ◌∙◌, subst, ap, ℕ, List, [], ◌∷◌, ◌++◌, map, fold, Option, ℤ, pos, ◌+ℤ◌, ◌-ℤ◌, ◌≤ℤ◌, ◌<ℤ◌, Bool, arith}
use Rattle.std.specs.Prelude.{flat_map}
use Rattle.std.proofs.lemmas.Int.{ints}
use Rattle.kts_spec.specs.declared.schema.Schema.{Schema}
use Rattle.kts_spec.specs.declared.tree.Term.{Term, roll-Term}
use Rattle.kts_spec.specs.declared.tree.Term.TheVariants.{Number as NumberTerm}
use Rattle.kts_spec.specs.declared.tree.Formula.{Formula}
use Rattle.kts_spec.specs.declared.tree.Formula.TheOpen as one
use Rattle.kts_spec.specs.declared.tree.Formula.TheFolds.{map-Term}
use Rattle.kts_spec.specs.Addends.{Sign, Plus, Minus, Addend, alone, other_sign, opposite, difference, term_addends, addends, minus}
use Rattle.kts_spec.specs.Domain.{at_each, of_two, term_step}
use Rattle.kts_spec.specs.Meaning.{on_schedule, value_on, truth_on}
use Rattle.kts_spec.specs.Ranges.{Range, total_range, difference_range}
use Rattle.kts_spec.specs.Related.{Pairs}
use Rattle.kts_spec.specs.Sums.{signed_value, sum_on, SumsDecide}
use Rattle.kts_spec.specs.Typing.{Kind, Whole, whole_within, ranges, kind_of, is_typed, term_kind}
use Rattle.kts_spec.specs.Worlds.{World, size_of}
use Rattle.kts_spec.proofs.AddendRanges.{WithAddends, paired, firsts, parts_back}
use Rattle.kts_spec.proofs.KindParts.{if_some, then_some, IsWhole, ranges_some, two_wholes_some}
use Rattle.kts_spec.proofs.Rolls.{kind_of-roll, value-roll, addends-roll}
use Rattle.kts_spec.proofs.SumsFit.{wholes_from}
use Rattle.kts_spec.proofs.Values.{value-Number}
use Rattle.kts_spec.proofs.Inductions.{FormulaPart, Part, terms, bare, by_terms}

-- a sum that began later
total_later : (n m : ℤ) (xs : List ℤ) → fold ◌+ℤ◌ (n +ℤ m) xs ≡ n +ℤ fold ◌+ℤ◌ m xs
total_later n m [] = refl
total_later n m (k ∷ xs) = let e : n +ℤ m +ℤ k ≡ n +ℤ (m +ℤ k) = omega (arith, ints) in ap (λ z. fold ◌+ℤ◌ z xs) e ∙ total_later n (m +ℤ k) xs

total_from : (n : ℤ) (xs : List ℤ) → fold ◌+ℤ◌ n xs ≡ n +ℤ fold ◌+ℤ◌ (pos 0) xs
total_from n xs = let e : n ≡ n +ℤ pos 0 = omega (arith, ints) in ap (λ z. fold ◌+ℤ◌ z xs) e ∙ total_later n (pos 0) xs

other_way : (s : Sign) (v : ℤ) → signed_value s v +ℤ signed_value (other_sign s) v ≡ pos 0
other_way Plus v = omega (arith, ints)
other_way Minus v = omega (arith, ints)

module _ (w : World) (schedule : List ℤ) (vars : List ℕ) where
  abbrev sum : List Addend → ℤ
  sum xs = sum_on w schedule xs vars

  abbrev worth : Addend → ℤ
  worth a = signed_value a.sign (value_on w schedule a.term vars)

  sum_cons : (a : Addend) (xs : List Addend) → sum (a ∷ xs) ≡ worth a +ℤ sum xs
  sum_cons a xs = let e : pos 0 +ℤ worth a ≡ worth a = omega (arith, ints) in ap (λ z. fold ◌+ℤ◌ z (map worth xs)) e ∙ total_from (worth a) (map worth xs)

  sum_append : (xs ys : List Addend) → sum (xs ++ ys) ≡ sum xs +ℤ sum ys
  sum_append [] ys = omega (arith, ints)
  sum_append (a ∷ xs) ys =
      let all = sum_cons a (xs ++ ys) in let first = sum_cons a xs in let rest = sum_append xs ys in omega (arith, ints)

  sum_opposite : (xs : List Addend) → sum (map opposite xs) +ℤ sum xs ≡ pos 0
  sum_opposite [] = omega (arith, ints)
  sum_opposite (a ∷ xs) =
      let e = other_way a.sign (value_on w schedule a.term vars) in
      let all = sum_cons (opposite a) (map opposite xs) in let first = sum_cons a xs in let rest = sum_opposite xs in omega (arith, ints)

module _ (schema : Schema) (w : World) (schedule : List ℤ) where
  abbrev Summed : Term → Type 0
  Summed t = (scope : List ℕ) (r : Range) (vars : List ℕ) → IsWhole (kind_of schema t scope) r → value_on w schedule t vars ≡ sum_on w schedule (addends t) vars

  abbrev kinds : List (Part Summed) → List ℕ → List (Option Kind)
  kinds parts scope = at_each scope (map (kind_of schema) (terms Summed parts))

  abbrev values : List (Part Summed) → List ℕ → List ℤ
  values parts vars = at_each vars (map (value_on w schedule) (terms Summed parts))

  abbrev sums : List (Part Summed) → List (List Addend)
  sums parts = map (λ (p : WithAddends). p.1) (map (λ (t : Term). (t, addends t)) (terms Summed parts))

  parts_summed : (parts : List (Part Summed)) (scope vars : List ℕ) (ws : List Range) → Pairs IsWhole (kinds parts scope) ws
      → fold ◌+ℤ◌ (pos 0) (values parts vars) ≡ sum_on w schedule (flat_map (λ (p : WithAddends). p.1) (map (λ (t : Term). (t, addends t)) (terms Summed parts))) vars
  parts_summed [] scope vars ws h = refl
  parts_summed (p ∷ parts) scope vars [] h = absurd h
  parts_summed (p ∷ parts) scope vars (r ∷ ws) h =
      let v = value_on w schedule p.0 vars in
      let first = p.1 scope r vars h.0 in
      let rest = parts_summed parts scope vars ws h.1 in
      let all = total_from (pos 0 +ℤ v) (values parts vars) in
      let both = sum_append w schedule vars (addends p.0) (flat_map (λ (p : WithAddends). p.1) (map (λ (t : Term). (t, addends t)) (terms Summed parts))) in
      omega (arith, ints)

  minus_summed : (a b : List Addend) (x y : ℤ) (vars : List ℕ) → x ≡ sum_on w schedule a vars → y ≡ sum_on w schedule b vars → x -ℤ y ≡ sum_on w schedule (difference (a ∷ b ∷ [])) vars
  minus_summed a b x y vars e f =
      let all = sum_append w schedule vars a (map opposite b ++ []) in
      let last = sum_append w schedule vars (map opposite b) [] in
      let other = sum_opposite w schedule vars b in
      omega (arith, ints)

  two_summed : (parts : List (Part Summed)) (scope vars : List ℕ) (a b : Range) → Pairs IsWhole (kinds parts scope) (a ∷ b ∷ []) → of_two ◌-ℤ◌ (pos 0) (values parts vars) ≡ sum_on w schedule (difference (sums parts)) vars
  two_summed [] scope vars a b h = absurd h
  two_summed (p ∷ []) scope vars a b h = absurd h.1
  two_summed (p ∷ q ∷ []) scope vars a b h =
      minus_summed (addends p.0) (addends q.0) (value_on w schedule p.0 vars) (value_on w schedule q.0 vars) vars (p.1 scope a vars h.0) (q.1 scope b vars h.1.0)
  two_summed (p ∷ q ∷ (z ∷ parts)) scope vars a b h = absurd h.1.1

  abbrev value_from_parts : one.Term-F Formula Term → List ℕ → ℤ
  value_from_parts x = term_step (size_of w) (on_schedule w schedule) (map-Term Formula Term (List ℕ → Bool) (List ℕ → ℤ) (truth_on w schedule) (value_on w schedule) x)

  -- a term that is its own addend
  alone_summed : (x : one.Term-F Formula Term) (vars : List ℕ) → value_from_parts x vars ≡ sum_on w schedule (alone (roll-Term (firsts (paired x)))) vars
  alone_summed x vars =
      rw (parts_back x)
      (let e = ap (λ (f : List ℕ → ℤ). f vars) (value-roll (size_of w) (on_schedule w schedule) x) in
      let z : pos 0 +ℤ value_on w schedule (roll-Term x) vars ≡ value_on w schedule (roll-Term x) vars = omega (arith, ints) in
      sym e ∙ sym z)

  summed_case : (y : one.Term-F FormulaPart (Part Summed)) (scope : List ℕ) (r : Range) (vars : List ℕ)
      → IsWhole (term_kind schema (map-Term Formula Term (List ℕ → Bool) (List ℕ → Option Kind) (is_typed schema) (kind_of schema) (bare Summed y)) scope) r
      → value_from_parts (bare Summed y) vars ≡ sum_on w schedule (term_addends (paired (bare Summed y))) vars
  summed_case (one.Number n) scope r vars e = alone_summed (bare Summed (one.Number n)) vars
  summed_case (one.Var k) scope r vars e = alone_summed (bare Summed (one.Var k)) vars
  summed_case (one.Given f args) scope r vars e = alone_summed (bare Summed (one.Given f args)) vars
  summed_case (one.Choice x args) scope r vars e = alone_summed (bare Summed (one.Choice x args)) vars
  summed_case (one.Add parts) scope r vars e =
      let all = then_some (λ ws. whole_within (total_range ws)) (ranges (kinds parts scope)) (Whole r) (if_some _ _ (Whole r) e).1 in
      parts_summed parts scope vars all.0 (ranges_some (kinds parts scope) all.0 all.1)
  summed_case (one.Sub parts) scope r vars e =
      let t = two_wholes_some difference_range (kinds parts scope) (Whole r) e in two_summed parts scope vars t.left t.right t.are
  summed_case (one.Mul parts) scope r vars e = alone_summed (bare Summed (one.Mul parts)) vars
  summed_case (one.Min parts) scope r vars e = alone_summed (bare Summed (one.Min parts)) vars
  summed_case (one.Max parts) scope r vars e = alone_summed (bare Summed (one.Max parts)) vars
  summed_case (one.Sum i p a) scope r vars e = alone_summed (bare Summed (one.Sum i p a)) vars

  summed_all : (y : one.Term-F FormulaPart (Part Summed)) → Summed (roll-Term (bare Summed y))
  summed_all y scope r vars e =
      rw (addends-roll (bare Summed y))
      (ap (λ (f : List ℕ → ℤ). f vars) (value-roll (size_of w) (on_schedule w schedule) (bare Summed y))
      ∙ summed_case y scope r vars (subst (λ (k : List ℕ → Option Kind). IsWhole (k scope) r) (kind_of-roll schema (bare Summed y)) e))

  -- the value of a whole number is the sum of its addends
  pub value_is_sum : (t : Term) → Summed t
  value_is_sum t = by_terms Summed summed_all t

  -- what a sum of one term minus another says, alone and with a 1
  module _ (vars : List ℕ) (a b : Term) (e : value_on w schedule a vars ≡ sum_on w schedule (addends a) vars) (f : value_on w schedule b vars ≡ sum_on w schedule (addends b) vars) where
    minus_is : value_on w schedule a vars -ℤ value_on w schedule b vars ≡ sum_on w schedule (minus a b) vars
    minus_is = minus_summed (addends a) (addends b) (value_on w schedule a vars) (value_on w schedule b vars) vars e f

    minus_with_one : value_on w schedule a vars -ℤ value_on w schedule b vars +ℤ pos 1 ≡ sum_on w schedule (minus a b ++ alone (NumberTerm (pos 1))) vars
    minus_with_one =
        let both = sum_append w schedule vars (minus a b) (alone (NumberTerm (pos 1))) in
        let one : value_on w schedule (NumberTerm (pos 1)) vars ≡ pos 1 = value-Number (size_of w) (on_schedule w schedule) vars (pos 1) in
        let m = minus_is in
        omega (arith, ints)

-- comparisons of numbers by their differences
at_most_by : (x y s : ℤ) → x -ℤ y ≡ s → (x ≤ℤ y) ↔ (s ≤ℤ pos 0)
at_most_by x y s e = (λ h. omega (arith, ints), λ h. omega (arith, ints))

less_by : (x y s : ℤ) → x -ℤ y +ℤ pos 1 ≡ s → (x <ℤ y) ↔ (s ≤ℤ pos 0)
less_by x y s e = (λ h. omega (arith, ints), λ h. omega (arith, ints))

equal_by : (x y s : ℤ) → x -ℤ y ≡ s → (x ≡ y) ↔ (s ≡ pos 0)
equal_by x y s e = (λ h. omega (arith, ints), λ h. omega (arith, ints))

unequal_by : (x y s : ℤ) → x -ℤ y ≡ s → (x ≢ y) ↔ (s ≢ pos 0)
unequal_by x y s e = let p = equal_by x y s e in (λ h k. h (p.1 k), λ h k. h (p.0 k))

pub sums_decide : SumsDecide
sums_decide schema scope a b h w schedule vars =
    let both = wholes_from (kind_of schema a scope) (kind_of schema b scope) h in
    let left = value_is_sum schema w schedule a scope both.left vars both.left_is in
    let right = value_is_sum schema w schedule b scope both.right vars both.right_is in
    record {
      at_most = at_most_by _ _ _ (minus_is schema w schedule vars a b left right);
      less = less_by _ _ _ (minus_with_one schema w schedule vars a b left right);
      at_least = at_most_by _ _ _ (minus_is schema w schedule vars b a right left);
      greater = less_by _ _ _ (minus_with_one schema w schedule vars b a right left);
      equal = equal_by _ _ _ (minus_is schema w schedule vars a b left right);
      unequal = unequal_by _ _ _ (minus_is schema w schedule vars a b left right);
    }
