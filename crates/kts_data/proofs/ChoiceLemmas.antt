-- The values of a choice after those of others, on data whose members have places.
use Rattle.std.proofs.Common.{◌≡◌, refl, ◌∙◌, List, [], ◌∷◌, ◌++◌, length, true, ◌⊎◌, inl, inr, Ok, Err}
use Rattle.std.specs.Prelude.{ℕ, ℤ, nat_le}
use Rattle.std.specs.List.{list_all}
use Rattle.std.proofs.lemmas.Bool.{and_parts, and_from}
use Rattle.serde_json.specs.Data.{Data}
use Rattle.kts_base.specs.Limits.{most_members}
use Rattle.kts_base.specs.Reads.{and_then}
use Rattle.kts_spec.specs.declared.declarations.Family.{Family}
use Rattle.kts_spec.specs.declared.instance.Instance.{Instance}
use Rattle.kts_spec.specs.Data.{are_members_valid}
use Rattle.kts_spec.specs.Names.{is_distinct}
use Rattle.kts_data.specs.Faults.{Read, IsNoMemory}
use Rattle.kts_data.specs.Instances.{table_of}
use Rattle.kts_data.specs.Json.{value_under}
use Rattle.kts_data.specs.Plans.{with_choice}
use Rattle.kts_data.specs.declared.fault.DataFault.{DataFault}

-- the members of valid data are distinct
pub all_distinct : (members : List (List (List ℕ))) → list_all are_members_valid members ≡ true → list_all is_distinct members ≡ true
all_distinct [] e = refl
all_distinct (names ∷ members) e =
    let parts = and_parts (are_members_valid names) (list_all are_members_valid members) e in
    and_from _ _ (and_parts (nat_le (length names) most_members) (is_distinct names) parts.0).1 (all_distinct members parts.1)

module _ (inst : Instance) (d : Data) (before : List ℤ) (family : Family) (members : List (List (List ℕ))) (same : members ≡ inst.members) where
  -- what is read of one choice more
  abbrev values_after : Read (List ℤ)
  values_after = and_then (and_then (value_under family.name d) (table_of members family)) (λ (values : List ℤ). Ok (before ++ values))

  -- it is what the definition reads
  is_choice : with_choice inst d before family ≡ values_after
  unfolding with_choice
  is_choice = rw same refl

  -- where it stops
  pub choice_stops : (e : DataFault) → IsNoMemory e ⊎ (values_after ≡ Err e) → IsNoMemory e ⊎ (with_choice inst d before family ≡ Err e)
  choice_stops e (inl refused) = inl refused
  choice_stops e (inr fails) = inr (is_choice ∙ fails)

  -- where it goes on
  pub choice_on : (after : List ℤ) → values_after ≡ Ok after → with_choice inst d before family ≡ Ok after
  choice_on after e = is_choice ∙ e
