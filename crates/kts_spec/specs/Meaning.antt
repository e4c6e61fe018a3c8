-- What terms and formulas mean on a schedule.
use Rattle.std.specs.Prelude.{ℕ, ℤ, pos, ◌+ℤ◌, ◌-ℤ◌, ◌*ℤ◌, int_le, List, Bool, true, false, not, ◌&&◌, ◌||◌, if◌then◌else◌}
use Rattle.std.specs.Int.{int_min, int_max}
use Rattle.kts_spec.specs.declared.tree.Term.{Term}
use Rattle.kts_spec.specs.declared.tree.Formula.{Formula}
use Rattle.kts_spec.specs.Domain.{Domain, value, truth}
use Rattle.kts_spec.specs.Places.{cell, entry, lookup}
use Rattle.kts_spec.specs.Worlds.{World, size_of, table_of}

-- whether two numbers are equal
abbrev pub int_same : ℤ → ℤ → Bool
int_same a b = int_le a b && int_le b a

-- whole numbers and truth values; a member is its position, an access out of range gives 0
abbrev pub on_schedule : World → List ℤ → Domain ℤ Bool
on_schedule w schedule = record {
  number = λ n. n;
  member = λ m. pos m;
  given = λ f args. lookup (table_of w f) (entry w f args) (pos 0);
  choice = λ x args. lookup schedule (cell w x args) (pos 0);
  add = ◌+ℤ◌;
  sub = ◌-ℤ◌;
  mul = ◌*ℤ◌;
  least = int_min;
  greatest = int_max;
  gate = λ b n. if b then n else pos 0;
  le = int_le;
  eq = int_same;
  same = int_same;
  yes = true;
  no = false;
  both = ◌&&◌;
  either = ◌||◌;
  neg = not;
}

-- the value of a term on a schedule, at these members as the variables in scope
abbrev pub value_on : World → List ℤ → Term → List ℕ → ℤ
value_on w schedule = value (size_of w) (on_schedule w schedule)

-- the truth of a formula there
abbrev pub truth_on : World → List ℤ → Formula → List ℕ → Bool
truth_on w schedule = truth (size_of w) (on_schedule w schedule)
