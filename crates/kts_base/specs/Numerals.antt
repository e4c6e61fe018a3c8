-- Numbers in decimal, without a sign and without a leading zero.
use Rattle.std.specs.Prelude.{◌≡◌, ◌≤◌, decimal, ℕ, ◌+◌, ◌-◌, ◌*◌, ◌==◌, nat_lt, nat_le, List, [], ◌∷◌, length, slice_index, Bool, ◌&&◌, ◌||◌, if◌then◌else◌, Option, Some, None}
use Rattle.std.specs.List.{list_all}
use Rattle.kts_base.specs.Names.{is_between}

abbrev pub is_digit : ℕ → Bool
is_digit byte = is_between 48 57 byte

-- whether there is a first byte, and it is such a one
abbrev pub begins : (ℕ → Bool) → List ℕ → Bool
begins test bytes = nat_lt 0 (length bytes) && test (slice_index bytes 0)

-- the number that digits are, after a number of the digits before them
abbrev pub value_after : ℕ → List ℕ → ℕ
value_after value [] = value
value_after value (digit ∷ digits) = value_after (value * 10 + (digit - 48)) digits

-- `0`, or digits of which the first isn't 0
unfoldable pub is_numeral : List ℕ → Bool
is_numeral bytes = list_all is_digit bytes && (begins (λ digit. nat_lt 48 digit) bytes || length bytes == 1)

-- the number that the bytes write, where it lies within these ends
abbrev pub numeral_within : ℕ → ℕ → List ℕ → Option ℕ
numeral_within low high bytes =
    if is_numeral bytes && (nat_le low (value_after 0 bytes) && nat_le (value_after 0 bytes) high) then Some (value_after 0 bytes) else None

-- the bytes are this number, written in decimal, and the number lies within these ends
pub record IsNumber (low high : ℕ) (bytes : List ℕ) (n : ℕ) : Type 0 where
  pub written : bytes ≡ decimal n
  pub least : low ≤ n
  pub most : n ≤ high
