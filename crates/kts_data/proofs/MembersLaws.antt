-- The members of an index are read where the file says them, and they are distinct and have names.
use Rattle.std.proofs.Common.{◌≡◌, refl, sym, ◌∙◌, ap, subst, ℕ, suc, List, [], ◌∷◌, ◌++◌, length, Bool, true, false, Some, None, Ok, Err, nat_le, append_assoc, append-nil}
use Rattle.std.specs.Prelude.{if◌then◌else◌}
use Rattle.std.proofs.lemmas.Bool.{and_parts, and_from}
use Rattle.serde_json.specs.Data.{Data}
use Rattle.serde_json.specs.Find.{as_str}
use Rattle.kts_base.specs.Limits.{most_members}
use Rattle.kts_base.specs.Names.{is_name, name_of}
use Rattle.kts_base.specs.Reads.{and_then}
use Rattle.kts_spec.specs.Data.{are_members_valid}
use Rattle.kts_spec.specs.Names.{is_among, is_distinct}
use Rattle.kts_spec.specs.Related.{Pairs, AllOf}
use Rattle.kts_data.specs.Faults.{fault, or_fault, fold_read}
use Rattle.kts_data.specs.Files.{SaysMembers}
use Rattle.kts_data.specs.Instances.{new_member, member_after, with_member, members_of}
use Rattle.kts_data.specs.Json.{elements}
use Rattle.kts_data.specs.declared.fault.Reason.TheVariants.{NotText, BadName, Repeated, TooManyMembers}
use Rattle.kts_data.proofs.NamePlaces.{distinct_push, distinct_new}
use Rattle.kts_data.proofs.ReadParts.{same_ok, then_parts, then_from, or_fault_parts, or_fault_from, test_parts, test_from, refusal_parts, refusal_from, fold_parts, fold_from, fold_end}
use Rattle.kts_data.proofs.ValueLaws.{elements_sound, elements_complete}

-- the texts of these names, one after another
abbrev pub AreTexts : List Data → List (List ℕ) → Type 0
AreTexts = Pairs (λ each name. as_str each ≡ Some name)

-- each is a name
abbrev pub AllNamed : List (List ℕ) → Type 0
AllNamed = AllOf (λ name. is_name name ≡ true)

-- bytes that are taken for a name are one
name_parts : (text name : List ℕ) → name_of text ≡ Some name → (is_name text ≡ true) × (text ≡ name)
name_parts text name h = by (is_name text) h
  where
    by : (b : Bool) → if b then Some text else None ≡ Some name → (b ≡ true) × (text ≡ name)
    by true f = (refl, cc)
    by false f = absurd (let none : None ≡ Some name = f in cc)

-- ---- what is read

-- a member that is read is a text, a name, and new
member_step : (index : List ℕ) (before : List (List ℕ)) (d : Data) (all : List (List ℕ)) → with_member index before d ≡ Ok all
    → (name : List ℕ) × (as_str d ≡ Some name) × (is_name name ≡ true) × (is_among before name ≡ false) × (all ≡ before ++ name ∷ [])
unfolding with_member member_after
member_step index before d all h =
    let p = then_parts (member_after index before d) (λ name. Ok (before ++ name ∷ [])) all h in
    let q = then_parts (or_fault (as_str d) (fault (Some index) (length before) NotText))
    (λ text. and_then (or_fault (name_of text) (fault (Some index) (length before) BadName)) (new_member index before)) p.0 p.1 in
    let r = then_parts (or_fault (name_of q.0) (fault (Some index) (length before) BadName)) (new_member index before) p.0 q.2 in
    let n = name_parts q.0 r.0 (or_fault_parts (name_of q.0) (fault (Some index) (length before) BadName) r.0 r.1) in
    let t = refusal_parts (is_among before r.0) (Ok r.0) (fault (Some index) (length before) Repeated) p.0 r.2 in
    let same : r.0 ≡ p.0 = same_ok r.0 p.0 t.1 in (
      p.0,
      or_fault_parts (as_str d) (fault (Some index) (length before) NotText) q.0 q.1 ∙ ap (λ n. Some n) (n.1 ∙ same),
      subst (λ n. is_name n ≡ true) (n.1 ∙ same) n.0,
      subst (λ n. is_among before n ≡ false) same t.0,
      sym (same_ok (before ++ p.0 ∷ []) all p.2),
    )

-- what is read of members one after another
record MembersRead (before : List (List ℕ)) (ds : List Data) (all : List (List ℕ)) : Type 0 where
  more : List (List ℕ)
  is : all ≡ before ++ more
  says : AreTexts ds more
  named : AllNamed more
  long : length more ≡ length ds
  distinct : is_distinct before ≡ true → is_distinct all ≡ true

-- members that are read one after another
each_sound : (index : List ℕ) (before : List (List ℕ)) (ds : List Data) (all : List (List ℕ)) → fold_read (with_member index) before ds ≡ Ok all
    → MembersRead before ds all
each_sound index before [] all h =
    let same : before ≡ all = same_ok before all (sym (fold_end (with_member index) before) ∙ h) in
    record {
      more = [];
      is = sym same ∙ sym (append-nil before);
      says = tt;
      named = tt;
      long = refl;
      distinct = λ d. subst (λ ns. is_distinct ns ≡ true) same d;
    }
each_sound index before (d ∷ ds) all h =
    let p = fold_parts (with_member index) before d ds all h in
    let q = member_step index before d p.0 p.1 in
    let rest = each_sound index p.0 ds all p.2 in
    record {
      more = q.0 ∷ rest.more;
      is = rest.is ∙ ap (λ front. front ++ rest.more) q.4 ∙ append_assoc before (q.0 ∷ []) rest.more;
      says = (q.1, rest.says);
      named = (q.2, rest.named);
      long = ap suc rest.long;
      distinct = λ d. rest.distinct (subst (λ ns. is_distinct ns ≡ true) (sym q.4) (distinct_push before q.0 d q.3));
    }

-- the members that are read of an index are those that the file says, have names and are valid
pub members_sound : (index : List ℕ) (d : Data) (names : List (List ℕ)) → members_of index d ≡ Ok names
    → SaysMembers d names × AllNamed names × (are_members_valid names ≡ true)
unfolding members_of
members_sound index d names h =
    let p = then_parts (elements index 0 d) (λ ds. if nat_le (length ds) most_members then fold_read (with_member index) [] ds
    else Err (fault (Some index) 0 (TooManyMembers (length ds)))) names h in
    let t = test_parts (nat_le (length p.0) most_members) (fold_read (with_member index) [] p.0)
    (fault (Some index) 0 (TooManyMembers (length p.0))) names p.2 in
    let r = each_sound index [] p.0 names t.1 in
    let same : r.more ≡ names = sym r.is in
    let few : nat_le (length names) most_members ≡ true = subst (λ ns. nat_le (length ns) most_members ≡ true) same
    (subst (λ n. nat_le n most_members ≡ true) (sym r.long) t.0) in (
      (p.0, elements_sound index 0 d p.0 p.1, subst (AreTexts p.0) same r.says),
      subst AllNamed same r.named,
      and_from
          (nat_le (length names) most_members) (is_distinct names) few (r.distinct refl),
    )

-- ---- what is said

-- a text that is a name and new is read
member_on : (index : List ℕ) (before : List (List ℕ)) (d : Data) (name : List ℕ) → as_str d ≡ Some name → is_name name ≡ true
    → is_among before name ≡ false → with_member index before d ≡ Ok (before ++ name ∷ [])
unfolding with_member member_after
member_on index before d name says named new =
    then_from (member_after index before d) (λ name. Ok (before ++ name ∷ [])) name (
    then_from (or_fault (as_str d) (fault (Some index) (length before) NotText))
    (λ text. and_then (or_fault (name_of text) (fault (Some index) (length before) BadName)) (new_member index before)) name
    (or_fault_from (as_str d) (fault (Some index) (length before) NotText) name says)
    ∙ then_from (or_fault (name_of name) (fault (Some index) (length before) BadName)) (new_member index before) name
    (or_fault_from (name_of name) (fault (Some index) (length before) BadName) name (ap (λ b. if b then Some name else None) named))
    ∙ refusal_from (is_among before name) (Ok name) (Err (fault (Some index) (length before) Repeated)) new)

-- distinct names that the texts say are read
each_complete : (index : List ℕ) (before : List (List ℕ)) (ds : List Data) (more : List (List ℕ)) → AreTexts ds more → AllNamed more
    → is_distinct (before ++ more) ≡ true → fold_read (with_member index) before ds ≡ Ok (before ++ more)
each_complete index before [] [] says named distinct = fold_end (with_member index) before ∙ ap (λ ns. Ok ns) (sym (append-nil before))
each_complete index before [] (name ∷ more) says named distinct = absurd says
each_complete index before (d ∷ ds) [] says named distinct = absurd says
each_complete index before (d ∷ ds) (name ∷ more) says named distinct =
    let moved = append_assoc before (name ∷ []) more in
    fold_from (with_member index) before d ds (before ++ name ∷ [])
    (member_on index before d name says.0 named.0 (distinct_new before more name distinct))
    ∙ each_complete index (before ++ name ∷ []) ds more says.1 named.1 (subst (λ ns. is_distinct ns ≡ true) (sym moved) distinct)
    ∙ ap (λ ns. Ok ns) moved

-- as many texts as names
same_length : (ds : List Data) (names : List (List ℕ)) → AreTexts ds names → length ds ≡ length names
same_length [] [] h = refl
same_length [] (n ∷ names) h = absurd h
same_length (d ∷ ds) [] h = absurd h
same_length (d ∷ ds) (n ∷ names) h = ap suc (same_length ds names h.1)

-- valid members with names that the file says of an index are read
pub members_complete : (index : List ℕ) (d : Data) (names : List (List ℕ)) → SaysMembers d names → AllNamed names → are_members_valid names ≡ true
    → members_of index d ≡ Ok names
unfolding members_of
members_complete index d names (ds, list, says) named valid =
    let both = and_parts (nat_le (length names) most_members) (is_distinct names) valid in
    then_from (elements index 0 d) (λ ds. if nat_le (length ds) most_members then fold_read (with_member index) [] ds
    else Err (fault (Some index) 0 (TooManyMembers (length ds)))) ds (elements_complete index 0 d ds list)
    ∙ test_from (nat_le (length ds) most_members) (fold_read (with_member index) [] ds) (Err (fault (Some index) 0 (TooManyMembers (length ds))))
    (subst (λ n. nat_le n most_members ≡ true) (sym (same_length ds names says)) both.0)
    ∙ each_complete index [] ds names says named both.1
