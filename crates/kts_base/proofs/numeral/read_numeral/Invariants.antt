use Rattle.std.proofs.Common.{◌≡◌, ◌≤◌, true, drop}
use Rattle.std.specs.List.{list_all}
use Rattle.kts_base.specs.Numerals.{is_digit, value_after}
use Rattle.kts_base.proofs.numeral.read_numeral.Given as goal

abbrev pub invariant-loop-digit : goal.invariant-loop-digit
invariant-loop-digit l = record {
  small : l.value ≤ l.high;
  digits : list_all is_digit (drop l.digit-index l.bytes) ≡ true;
  value : value_after l.value (drop l.digit-index l.bytes) ≡ value_after 0 l.bytes;
}
