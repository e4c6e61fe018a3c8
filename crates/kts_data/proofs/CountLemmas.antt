-- Numbers of tuples of members, and their sums: what they are step by step, and that they stay small.
use Rattle.std.proofs.Common.{◌≡◌, refl, ◌∙◌, ap, ℕ, zero, suc, ◌+◌, ◌*◌, ◌^◌, ◌<◌, ◌≤◌, add-one, List, length, drop, get_or, map, sum, arith, lit≤, true, Bool}
use Rattle.std.specs.Prelude.{nat_le, nat_lt, ◌&&◌, slice_index}
use Rattle.std.specs.List.{list_all}
use Rattle.std.proofs.Math.Seq.{drop-cons}
use Rattle.std.proofs.Math.Nat.{mul-le-mul}
use Rattle.std.proofs.lemmas.List.Sums.{AllPass-from_list_all, sum_by-cons}
use Rattle.std.proofs.lemmas.Bool.{and_parts}
use Rattle.kts_base.specs.Limits.{most_arguments, most_prefix}
use Rattle.kts_base.proofs.Orders.{nat_le_yes}
use Rattle.kts_spec.specs.declared.declarations.Family.{Family}
use Rattle.kts_spec.specs.declared.instance.Instance.{Instance}
use Rattle.kts_spec.specs.Schemas.{is_family, is_prefix, is_type}
use Rattle.kts_data.specs.Drafts.{tuples_in}

-- what all of a list pass, each of it passes
pub at_each : {X : Type 0} (test : X → Bool) (xs : List X) (k : ℕ) (x : X) → list_all test xs ≡ true → k < length xs → x ≡ get_or xs k x → test x ≡ true
at_each test xs k x all h is = rw is (AllPass-from_list_all test xs all k x h)

-- the tuples of the first index left, and of those after it
pub tuples_here : (inst : Instance) (indexes : List ℕ) (k i : ℕ) → k < length indexes → i ≡ get_or indexes k i
    → tuples_in inst (drop k indexes) ≡ slice_index (map length inst.members) i * tuples_in inst (drop (k + 1) indexes)
tuples_here inst indexes k i h is = ap (tuples_in inst) (drop-cons indexes k i h) ∙ rw (← is, add-one) refl

-- the first of a sum that is left, and those after it
sum_here : {X : Type 0} (f : X → ℕ) (xs : List X) (k : ℕ) (x : X) → k < length xs → x ≡ get_or xs k x → sum (map f (drop k xs)) ≡ f x + sum (map f (drop (k + 1) xs))
sum_here f xs k x h is = ap (λ ys. sum (map f ys)) (drop-cons xs k x h) ∙ rw (← is, add-one) (sum_by-cons (λ (n : ℕ). n) (f x) (map f (drop (suc k) xs)))

-- a power of the most members, to the most variables of a constraint
power_few : (k : ℕ) → k ≤ 3 → 64 ^ k ≤ 262144
power_few zero h = lit≤ tt
power_few (suc zero) h = lit≤ tt
power_few (suc (suc zero)) h = lit≤ tt
power_few (suc (suc (suc zero))) h = lit≤ tt
power_few (suc (suc (suc (suc k)))) h = absurd (omega arith)

-- what is taken of a sum and what is left of it, with one more taken
pub sum_on : {X : Type 0} (f : X → ℕ) (xs : List X) (k : ℕ) (x : X) (count n total : ℕ) → k < length xs → x ≡ get_or xs k x → n ≡ f x
    → count + sum (map f (drop k xs)) ≡ total → (count + n) + sum (map f (drop (k + 1) xs)) ≡ total
sum_on f xs k x count n total h is one so_far = let e = sum_here f xs k x h is in omega (arith, e, one, so_far)

-- a product of at most three sizes fits
pub product_fits : (count n k : ℕ) → count ≤ 64 ^ k → k < 3 → n ≤ 64 → count * n < 2 ^ 64
product_fits count n k few here small =
    let p : count ≤ 262144 = omega (arith, power_few k (omega arith)) in
    let q : count * n ≤ 262144 * 64 = mul-le-mul p small in
    omega arith

-- a sum of so many numbers of tuples stays small
pub sum_few : (count n k j : ℕ) → count ≤ 262144 * k → n ≤ 64 ^ j → j ≤ 3 → count + n ≤ 262144 * (k + 1)
sum_few count n k j few one short = let p : n ≤ 262144 = omega (arith, power_few j short) in omega arith

-- and fits
pub sum_fits : (count n k j : ℕ) → count ≤ 262144 * k → n ≤ 64 ^ j → j ≤ 3 → k < 2 ^ 32 → count + n < 2 ^ 64
sum_fits count n k j few one short here = let p = sum_few count n k j few one short in omega arith

-- a choice has few arguments
pub few_arguments : (n : ℕ) (families : List Family) (k : ℕ) (family : Family) → list_all (is_family n) families ≡ true → k < length families
    → family ≡ get_or families k family → length family.args ≤ 3
few_arguments n families k family all h is =
    let here = at_each (is_family n) families k family all h is in
    let first = (and_parts (nat_le (length family.args) most_arguments && list_all (λ i. nat_lt i n) family.args) (is_type n family.kind) here).0 in
    let few = nat_le_yes (length family.args) most_arguments (and_parts (nat_le (length family.args) most_arguments) (list_all (λ i. nat_lt i n) family.args) first).0 in
    omega (arith, few)

-- a constraint has few variables
pub few_variables : (n : ℕ) (prefixes : List (List ℕ)) (k : ℕ) (prefix : List ℕ) → list_all (is_prefix n) prefixes ≡ true → k < length prefixes
    → prefix ≡ get_or prefixes k prefix → length prefix ≤ 3
few_variables n prefixes k prefix all h is =
    let here = at_each (is_prefix n) prefixes k prefix all h is in
    nat_le_yes (length prefix) most_prefix (and_parts (nat_le (length prefix) most_prefix) (list_all (λ i. nat_lt i n) prefix) here).0
