-- What the declarations of a specification are on given data.
use Rattle.std.specs.Prelude.{ℕ, ℤ, List, [], length, map, slice_index, slice_index_or}
use Rattle.kts_spec.specs.declared.declarations.Family.{Family}
use Rattle.kts_spec.specs.declared.schema.Schema.{Schema}
use Rattle.kts_spec.specs.declared.instance.Instance.{Instance}
use Rattle.kts_spec.specs.Schemas.{family_at}

-- the number of members of each index, the families, and the values of each given
pub record World : Type 0 where
  pub sizes : List ℕ
  pub givens : List Family
  pub choices : List Family
  pub tables : List (List ℤ)

-- a schema on an instance
abbrev pub world_of : Schema → Instance → World
world_of schema inst = record {
  sizes = map length inst.members;
  givens = schema.givens;
  choices = schema.choices;
  tables = inst.values;
}

-- the number of members of an index
abbrev pub size_of : World → ℕ → ℕ
size_of w index = slice_index w.sizes index

-- the numbers of members of the indexes of a family's arguments
abbrev pub sizes_of : World → Family → List ℕ
sizes_of w family = map (size_of w) family.args

-- a given, and a choice, by its number
abbrev pub given_of : World → ℕ → Family
given_of w f = family_at w.givens f

abbrev pub choice_of : World → ℕ → Family
choice_of w x = family_at w.choices x

-- the values of a given
abbrev pub table_of : World → ℕ → List ℤ
table_of w f = slice_index_or w.tables f []
