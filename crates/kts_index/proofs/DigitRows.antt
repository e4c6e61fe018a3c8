-- The numbers that have a digit at a place.
use Rattle.std.proofs.Common.{◌≡◌, refl, sym, subst, ℕ, ◌+◌, ◌-◌, ◌*◌, ◌/◌, ◌%◌, ◌<◌, ◌≤◌, ◌⊎◌, inl, inr, Bool, arith}
use Rattle.std.specs.Prelude.{nat_eq}
use Rattle.std.proofs.lemmas.Bool.{eq-eqb, ne_eqb, cases_order}
use Rattle.std.proofs.lemmas.Nat.{div-mul-add, mod-mul-add}
use Rattle.std.proofs.Math.Nat.{div-add-mod, mod-lt, mul-le-mul_right, mul_assoc, mul_comm, add-mul, suc-mul, lt-div-mul-add, div-mul-le_self}
use Rattle.kts_index.specs.FirstNumbers.{NonePasses, IsSkip}

-- the rows of numbers with the digit m: one in each block of n * w numbers
module _ (w n m : ℕ) (wide : 0 < w) (inside : m < n) where
  -- the numbers of a row, divided by its width
  row_number : (a e : ℕ) → (a * n + m) * w + e ≡ a * (n * w) + m * w + e
  row_number a e = rw (add-mul (a * n) m w, mul_assoc a n w) refl

  -- a number in a row has the digit
  has_digit : (a x : ℕ) → a * (n * w) + m * w ≤ x → x < a * (n * w) + m * w + w → x / w % n ≡ m
  has_digit a x h k =
      let e = x - (a * (n * w) + m * w) in
      let small : e < w = omega arith in
      let split : x ≡ (a * n + m) * w + e = omega (arith, row_number a e) in
      rw (split, div-mul-add (a * n + m) w e small) (mod-mul-add a n m inside)

  -- a number with the digit is in the row of some block
  record InRow (x : ℕ) : Type 0 where
    block : ℕ
    above : block * (n * w) + m * w ≤ x
    below : x < block * (n * w) + m * w + w

  -- which block that is
  in_row : (x : ℕ) → x / w % n ≡ m → InRow x
  in_row x h =
      let a = x / w / n in
      let q : n * a + x / w % n ≡ x / w = div-add-mod (x / w) n in
      let r : w * (x / w) + x % w ≡ x = div-add-mod x w in
      let s : x % w < w = mod-lt x wide in
      let t : a * n + m ≡ x / w = omega (arith, mul_comm n a) in
      let u : (a * n + m) * w + x % w ≡ x = rw (t, mul_comm (x / w) w) r in
      record { block = a; above = omega (arith, row_number a (x % w)); below = omega (arith, row_number a (x % w)) }

  -- blocks after this one begin at its end or later
  later : (a b : ℕ) → a < b → a * (n * w) + n * w ≤ b * (n * w)
  later a b h = let g = mul-le-mul_right (n * w) h in omega (arith, suc-mul a (n * w))

  -- a row lies in its block
  row_fits : m * w + w ≤ n * w
  row_fits = let g = mul-le-mul_right w inside in omega (arith, suc-mul m w)

  -- a number with the digit, from the beginning of a block on, is in the row of that block or not before the next row
  row_of : (a x : ℕ) → a * (n * w) ≤ x → x / w % n ≡ m
      → ((a * (n * w) + m * w ≤ x) × (x < a * (n * w) + m * w + w)) ⊎ (a * (n * w) + m * w + n * w ≤ x)
  row_of a x h e =
      let r = in_row x e in
      let f = row_fits in
      elim (cases_order a r.block) [
        | inl same ↦ let P : ℕ → Type 0 = λ b. (b * (n * w) + m * w ≤ x) × (x < b * (n * w) + m * w + w) in inl (subst P (sym same) (r.above, r.below))
        | inr (inl less) ↦ let l = later a r.block less in let g = r.above in inr (omega arith)
        | inr (inr more) ↦ let l = later r.block a more in let g = r.below in absurd (omega arith)
      ]

  -- whether a number has the digit
  abbrev test : ℕ → Bool
  test x = nat_eq (x / w % n) m

  -- from a place of this block, no number before `next` passes where no row comes before it
  none_before : (a from next : ℕ) → a * (n * w) ≤ from → next ≤ a * (n * w) + m * w + n * w
      → (next ≤ a * (n * w) + m * w) ⊎ (a * (n * w) + m * w + w ≤ from) → NonePasses test from next
  none_before a from next h top free x k l = ne_eqb (x / w % n) m (λ e. elim (row_of a x (omega arith) e) [
    | inl here ↦ elim free [ inl below ↦ let p = here.0 in omega arith | inr above ↦ let p = here.1 in omega arith ]
    | inr there ↦ omega arith
  ])

  module _ (from : ℕ) where
    -- the beginning of the block of a number
    abbrev base : ℕ
    base = from / (n * w) * (n * w)

    -- the number is in the block
    at_block : base ≤ from
    at_block = div-mul-le_self from (n * w)

    -- and before the next block
    in_block : 0 < n * w → from < base + n * w
    in_block h = lt-div-mul-add h

    -- no block is empty
    area : 0 < n * w
    area = let f = row_fits in omega arith

    -- before the row of its block
    pub skip_to_row : from < base + m * w → IsSkip test from (base + m * w)
    skip_to_row h = record {
      after = omega arith;
      none = let f = row_fits in none_before (from / (n * w)) from (base + m * w) at_block (omega arith) (inl (omega arith));
      passes = λ e. absurd (omega arith);
    }

    -- in it
    pub stay_in_row : base + m * w ≤ from → from < base + m * w + w → IsSkip test from from
    stay_in_row h k = record {
      after = omega arith;
      none = λ x a b. absurd (omega arith);
      passes = λ e. eq-eqb (from / w % n) m (has_digit (from / (n * w)) from h k);
    }

    -- and after it
    pub skip_to_next_row : base + m * w + w ≤ from → IsSkip test from (base + m * w + n * w)
    skip_to_next_row h = let b = in_block area in record {
      after = omega arith;
      none = none_before (from / (n * w)) from (base + m * w + n * w) at_block (omega arith) (inr h);
      passes = λ e. absurd (omega arith);
    }
