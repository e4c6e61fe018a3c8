-- JSON values as data.
use Rattle.std.proofs.Common.{◌≡◌, refl, ap, ℕ, ◌<◌, List, [], ◌∷◌, length, get_or, inl, inr, Bool, true, false, Ok, Err, arith, None, Some}
use Rattle.std.specs.Prelude.{if◌then◌else◌}
use Rattle.std.specs.List.{list_all}
use Rattle.std.specs.Str.{IsAscii, IsUtf8, is_utf8}
use Rattle.std.proofs.lemmas.Bool.{cases_lt, and_parts}
use Rattle.std.proofs.lemmas.Bool.Decides.{nat_tests}
use Rattle.std.proofs.lemmas.List.{get_or_past}
use Rattle.std.proofs.lemmas.List.Sums.{AllPass-from_list_all}
use Rattle.std.proofs.lemmas.Str.{IsUtf8-from_is_utf8, is_utf8-from_IsUtf8, IsUtf8-from_ascii}
use Rattle.serde_json.specs.Data.{Data}
use Rattle.serde_json.specs.Read.{read}
use Rattle.serde_json.specs.View.{items_of}
use Rattle.kts_base.specs.Limits.{most_name_bytes}
use Rattle.kts_base.specs.Names.{is_between, is_name, is_name_byte}
use Rattle.kts_data.specs.Faults.{fault, or_fault}
use Rattle.kts_data.specs.Json.{json_of, list_of}
use Rattle.kts_data.specs.declared.fault.Reason.TheVariants.{NotJson}

pub list_of-items_of : (ds : List Data) → list_of (items_of ds) ≡ ds
list_of-items_of [] = refl
list_of-items_of (d ∷ ds) = ap (λ (es : List Data). d ∷ es) (list_of-items_of ds)

small : (b : ℕ) → is_name_byte b ≡ true → b < 128
unfolding is_name_byte
small b h = grind (arith, nat_tests)

ascii : (bytes : List ℕ) → list_all is_name_byte bytes ≡ true → IsAscii bytes
ascii bytes h i =
    elim (cases_lt i (length bytes)) [
      | inl lt ↦ small (get_or bytes i 0) (AllPass-from_list_all is_name_byte bytes h i 0 lt)
      | inr le ↦ rw (get_or_past bytes i 0 le) (omega arith)
    ]

-- a name is text
pub name_utf8 : (bytes : List ℕ) → is_name bytes ≡ true → IsUtf8 bytes
unfolding is_name
name_utf8 bytes h = IsUtf8-from_ascii bytes (ascii bytes (and_parts (is_between 1 most_name_bytes (length bytes)) (list_all is_name_byte bytes) h).1)

pub not_utf8 : (bytes : List ℕ) → (IsUtf8 bytes → ⊥) → json_of bytes ≡ Err (fault None 0 NotJson)
unfolding json_of
not_utf8 bytes h = by (is_utf8 bytes) refl
  where
    by : (b : Bool) → is_utf8 bytes ≡ b → or_fault (if b then read bytes else None) (fault None 0 NotJson) ≡ Err (fault None 0 NotJson)
    by true e = absurd (h (IsUtf8-from_is_utf8 bytes e))
    by false e = refl

pub is_json : (bytes : List ℕ) (d : Data) → IsUtf8 bytes → read bytes ≡ Some d → json_of bytes ≡ Ok d
unfolding json_of
is_json bytes d u e = rw (is_utf8-from_IsUtf8 bytes u, e) refl

pub no_json : (bytes : List ℕ) → IsUtf8 bytes → read bytes ≡ None → json_of bytes ≡ Err (fault None 0 NotJson)
unfolding json_of
no_json bytes u e = rw (is_utf8-from_IsUtf8 bytes u, e) refl
