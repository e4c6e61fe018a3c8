-- The lines of one choice, on the values of its own cells.
use Rattle.std.specs.Prelude.{ℕ, ℤ, List, ◌∷◌, ◌++◌, codes, flat_map, zip}
use Rattle.kts_spec.specs.declared.declarations.Family.{Family}
use Rattle.kts_spec.specs.declared.instance.Instance.{Instance}
use Rattle.kts_spec.specs.Schedules.{tuples}
use Rattle.kts_spec.specs.Texts.{newline, space, entry_text, holder_text, member_name, index_of}
use Rattle.kts_show.specs.Keys.{sizes_in}

module _ (inst : Instance) (family : Family) (own : List ℤ) where
  -- each tuple with its value
  abbrev pub own_entries : List (List ℕ × ℤ)
  own_entries = zip (tuples (sizes_in inst family)) own

  -- the values of all cells
  abbrev pub own_values_text : List ℕ
  own_values_text = flat_map (entry_text inst family) own_entries

  -- the line of the choice
  abbrev pub own_line : List ℕ
  own_line = family.name ++ (own_values_text ++ newline)

  -- who has a member
  abbrev pub own_holders_text : ℕ → List ℕ
  own_holders_text m = flat_map (holder_text inst family m) own_entries

  -- the line of a member in the manifest of the choice
  abbrev pub own_manifest_line : ℕ → List ℕ
  own_manifest_line m =
      codes "manifest " ++ (family.name ++ (space ∷ (member_name inst (index_of family.kind) m ++ (own_holders_text m ++ newline))))
