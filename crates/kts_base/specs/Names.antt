-- Names: at most 40 bytes, and one at least, each an ASCII letter, a digit, `_`, `-` or `.`.
use Rattle.std.specs.Prelude.{ℕ, List, length, Bool, ◌&&◌, ◌||◌, nat_eq, nat_le, Option, Some, None, if◌then◌else◌}
use Rattle.std.specs.List.{list_all}
use Rattle.kts_base.specs.Limits.{most_name_bytes}

abbrev pub is_between : ℕ → ℕ → ℕ → Bool
is_between low high n = nat_le low n && nat_le n high

-- an ASCII letter, a digit, `_`, `-` or `.`
unfoldable pub is_name_byte : ℕ → Bool
is_name_byte b = is_between 97 122 b || is_between 65 90 b || is_between 48 57 b || nat_eq b 95 || nat_eq b 45 || nat_eq b 46

-- whether the bytes are a name
unfoldable pub is_name : List ℕ → Bool
is_name bytes = is_between 1 most_name_bytes (length bytes) && list_all is_name_byte bytes

-- the bytes, where they are a name
abbrev pub name_of : List ℕ → Option (List ℕ)
name_of bytes = if is_name bytes then Some bytes else None
