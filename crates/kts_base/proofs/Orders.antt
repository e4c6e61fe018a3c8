-- What tests of orders tell, of numbers with and without a sign.
use Rattle.std.proofs.Common.{◌≡◌, ℕ, ◌<◌, ◌≤◌, true, false, nat_le, arith}
use Rattle.std.specs.Prelude.{ℤ, ◌≤ℤ◌, ◌<ℤ◌, int_le, int_lt, nat_lt}
use Rattle.std.proofs.lemmas.Bool.Decides.{nat_tests}
use Rattle.std.proofs.lemmas.Int.{ints}

pub nat_le_yes : (a b : ℕ) → nat_le a b ≡ true → a ≤ b
nat_le_yes a b h = grind (arith, nat_tests)

pub yes_nat_le : (a b : ℕ) → a ≤ b → nat_le a b ≡ true
yes_nat_le a b h = grind (arith, nat_tests)

pub nat_lt_yes : (a b : ℕ) → nat_lt a b ≡ true → a < b
nat_lt_yes a b h = grind (arith, nat_tests)

pub nat_lt_no : (a b : ℕ) → nat_lt a b ≡ false → b ≤ a
nat_lt_no a b h = grind (arith, nat_tests)

pub yes_nat_lt : (a b : ℕ) → a < b → nat_lt a b ≡ true
yes_nat_lt a b h = grind (arith, nat_tests)

pub no_nat_lt : (a b : ℕ) → b ≤ a → nat_lt a b ≡ false
no_nat_lt a b h = grind (arith, nat_tests)

pub int_le_yes : (a b : ℤ) → int_le a b ≡ true → a ≤ℤ b
int_le_yes a b h = grind (arith, ints)

pub yes_int_le : (a b : ℤ) → a ≤ℤ b → int_le a b ≡ true
yes_int_le a b h = grind (arith, ints)

pub int_lt_yes : (a b : ℤ) → int_lt a b ≡ true → a <ℤ b
int_lt_yes a b h = grind (arith, ints)

pub yes_int_lt : (a b : ℤ) → a <ℤ b → int_lt a b ≡ true
yes_int_lt a b h = grind (arith, ints)
