-- The tuples that a family is over in data, and the names of members.
use Rattle.std.specs.Prelude.{◌≡◌, ℕ, List, [], length, map, slice_index, slice_index_or, true, ◌++◌}
use Rattle.std.specs.List.{list_all}
use Rattle.kts_spec.specs.declared.declarations.Family.{Family}
use Rattle.kts_spec.specs.declared.declarations.ValueType.{ValueType}
use Rattle.kts_spec.specs.declared.declarations.ValueType.TheVariants.{Int, Member}
use Rattle.kts_spec.specs.declared.instance.Instance.{Instance}
use Rattle.kts_spec.specs.Data.{are_members_valid}
use Rattle.kts_spec.specs.Schemas.{is_family}
use Rattle.kts_show.specs.declared.key.Key.{Key}

-- a family over indexes that the data have, none with more members than there may be
pub record IsOver (inst : Instance) (family : Family) : Type 0 where
  pub declared : is_family (length inst.members) family ≡ true
  pub members : list_all are_members_valid inst.members ≡ true

-- the numbers of members of the indexes of a family's arguments
abbrev pub sizes_in : Instance → Family → List ℕ
sizes_in inst family = map (slice_index (map length inst.members)) family.args

-- the bytes of a key
abbrev pub bytes_of : Key → List ℕ
bytes_of key = key.first.now ++ (key.comma.now ++ key.second.now)
