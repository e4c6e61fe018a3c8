-- The JSON value that bytes are, and what stands in it.
use Rattle.std.specs.Prelude.{ℕ, ◌+◌, List, [], ◌∷◌, length, nat_eq, if◌then◌else◌, Option, Some, None, option_map}
use Rattle.std.specs.Str.{is_utf8}
use Rattle.serde_json.specs.Data.{Data, Items, no_items, item, Members, no_members, member}
use Rattle.serde_json.specs.Find.{get, as_array}
use Rattle.serde_json.specs.Read.{read}
use Rattle.kts_base.specs.Reads.{and_then}
use Rattle.kts_spec.specs.Names.{is_among}
use Rattle.kts_data.specs.Faults.{Read, fault, or_fault}
use Rattle.kts_data.specs.declared.fault.Reason.TheVariants.{NotJson, MissingName, NotList, WrongLength}

-- the value that the bytes are
unfoldable pub json_of : List ℕ → Read Data
json_of bytes = or_fault (if is_utf8 bytes then read bytes else None) (fault None 0 NotJson)

-- the value under a name
unfoldable pub value_under : List ℕ → Data → Read Data
value_under name d = or_fault (get name d) (fault (Some name) 0 MissingName)

abbrev pub list_of : Items → List Data
list_of no_items = []
list_of (item d ds) = d ∷ list_of ds

-- the elements of a list
unfoldable pub elements : List ℕ → ℕ → Data → Read (List Data)
elements name element d = or_fault (option_map list_of (as_array d)) (fault (Some name) element NotList)

-- the elements of a list of so many
unfoldable pub so_many : List ℕ → ℕ → ℕ → Data → Read (List Data)
so_many name element n d =
    and_then (elements name element d) (λ ds. or_fault (if nat_eq (length ds) n then Some ds else None) (fault (Some name) element WrongLength))

-- the keys of an object, in byte order
abbrev pub keys : Members → List (List ℕ)
keys no_members = []
keys (member key d ms) = key ∷ keys ms

-- the number of the first key that is no such name, where the first of these has number k
unfoldable pub unknown_from : List (List ℕ) → ℕ → List (List ℕ) → Option ℕ
unknown_from names k [] = None
unknown_from names k (key ∷ rest) = if is_among names key then unknown_from names (k + 1) rest else Some k
