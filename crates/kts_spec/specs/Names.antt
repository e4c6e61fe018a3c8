-- The names that a specification may declare.
use Rattle.std.specs.Prelude.{ℕ, List, [], ◌∷◌, length, Bool, true, false, not, ◌&&◌, ◌||◌, nat_eq, nat_le, codes}
use Rattle.std.specs.List.{list_all, list_any}
use Rattle.std.specs.Cmp.Lexicographic.{pointwise}
use Rattle.kts_base.specs.Limits.{most_name_bytes}
use Rattle.kts_base.specs.Names.{is_between}
use Rattle.kts_base.specs.Numerals.{is_digit}

-- an ASCII letter
abbrev pub is_letter : ℕ → Bool
is_letter b = is_between 97 122 b || is_between 65 90 b

-- an ASCII letter, a digit, `_` or `-`
abbrev pub is_language_byte : ℕ → Bool
is_language_byte b = is_letter b || is_digit b || nat_eq b 95 || nat_eq b 45

-- whether two names are one
abbrev pub same_name : List ℕ → List ℕ → Bool
same_name = pointwise nat_eq

-- whether a name stands in a list
abbrev pub is_among : List (List ℕ) → List ℕ → Bool
is_among names name = list_any (same_name name) names

-- whether no name stands twice
abbrev pub is_distinct : List (List ℕ) → Bool
is_distinct [] = true
is_distinct (name ∷ names) = not (is_among names name) && is_distinct names

-- the words that no name may be
abbrev pub reserved_words : List (List ℕ)
reserved_words =
    codes "spec" ∷ codes "index" ∷ codes "given" ∷ codes "choose" ∷ codes "formula" ∷ codes "manifest" ∷ codes "order"
    ∷ codes "down" ∷ codes "int" ∷ codes "set" ∷ codes "forall" ∷ codes "exists" ∷ codes "and" ∷ codes "or" ∷ codes "not"
    ∷ codes "min" ∷ codes "max" ∷ codes "sum" ∷ codes "in" ∷ codes "size" ∷ []

-- whether the first byte is a letter
abbrev pub begins_with_letter : List ℕ → Bool
begins_with_letter [] = false
begins_with_letter (b ∷ bytes) = is_letter b

-- not too many letters, digits, `_` and `-`, the first a letter, and no reserved word
abbrev pub is_language_name : List ℕ → Bool
is_language_name name =
    begins_with_letter name && list_all is_language_byte name && nat_le (length name) most_name_bytes && not (is_among reserved_words name)
