-- A member after others: it is new, and an index has as many members as its list has elements.
use Rattle.std.proofs.Common.{◌≡◌, refl, ℕ, zero, suc, ◌+◌, ◌<◌, ◌≤◌, List, [], ◌∷◌, ◌++◌, length, take, get_or, length-append, arith, Bool, true, false, Some, Ok, Err}
use Rattle.std.specs.Prelude.{not, nat_eq, nat_le, if◌then◌else◌}
use Rattle.std.proofs.lemmas.Bool.Decides.{nat_tests}
use Rattle.std.proofs.lemmas.Bool.{or_parts, and_parts}
use Rattle.serde_json.specs.Data.{Data}
use Rattle.serde_json.specs.Find.{as_str}
use Rattle.kts_base.specs.Limits.{most_members}
use Rattle.kts_base.specs.Names.{name_of}
use Rattle.kts_base.specs.Reads.{and_then}
use Rattle.kts_base.proofs.Orders.{nat_le_yes}
use Rattle.kts_spec.specs.Names.{is_among, is_distinct, same_name}
use Rattle.kts_data.specs.Faults.{Read, fault, or_fault, fold_read}
use Rattle.kts_data.specs.Instances.{new_member, member_after, with_member, members_of}
use Rattle.kts_data.specs.Json.{elements}
use Rattle.kts_data.specs.declared.fault.DataFault.{DataFault}
use Rattle.kts_data.specs.declared.fault.Reason.TheVariants.{NotText, BadName, TooManyMembers}

-- what the second reading gave, the first gave something for
pub and_then_ok : {A B : Type 0} (r : Read A) (f : A → Read B) (b : B) → and_then r f ≡ Ok b → (a : A) × (r ≡ Ok a) × (f a ≡ Ok b)
and_then_ok (Ok a) f b e = (a, refl, e)
and_then_ok (Err f) g b e = absurd (cc)

module _ (index : List ℕ) (before : List (List ℕ)) where
  -- a name that is accepted is not among those before it
  accepted : (name text : List ℕ) → new_member index before text ≡ Ok name → not (is_among before name) ≡ true
  accepted name text e = by (is_among before text) refl e
    where
      by : (b : Bool) → is_among before text ≡ b → new_member index before text ≡ Ok name → not (is_among before name) ≡ true
      by true h e = let p = rw h at e in absurd (cc)
      by false h e = let p : Ok text ≡ Ok name = rw h at e in let q : text ≡ name = cc in rw (← q, h) refl

  -- a member that is accepted is new
  pub member_is_new : (d : Data) (name : List ℕ) → member_after index before d ≡ Ok name → not (is_among before name) ≡ true
  unfolding member_after
  member_is_new d name e =
      let no_text = fault (Some index) (length before) NotText in
      let no_name = fault (Some index) (length before) BadName in
      let text = and_then_ok (or_fault (as_str d) no_text) (λ (text : List ℕ). and_then (or_fault (name_of text) no_name) (new_member index before)) name e in
      let last = and_then_ok (or_fault (name_of text.0) no_name) (new_member index before) name text.2 in
      accepted name last.0 last.2

  -- members with one more, where it is refused
  pub one_fails : (d : Data) (f : DataFault) → member_after index before d ≡ Err f → with_member index before d ≡ Err f
  unfolding with_member
  one_fails d f e = rw e refl

  -- and where it is accepted
  pub one_more : (d : Data) (name : List ℕ) → member_after index before d ≡ Ok name → with_member index before d ≡ Ok (before ++ name ∷ [])
  unfolding with_member
  one_more d name e = rw e refl

-- as many members are taken as there are elements
member_count : (index : List ℕ) (before names : List (List ℕ)) (ds : List Data) → fold_read (with_member index) before ds ≡ Ok names
    → length names ≡ length before + length ds
unfolding fold_read with_member
member_count index before names [] e = let p : before ≡ names = cc in rw (← p) (omega arith)
member_count index before names (d ∷ ds) e =
    let one = and_then_ok (with_member index before d) (λ (t : List (List ℕ)). fold_read (with_member index) t ds) names e in
    let name = and_then_ok (member_after index before d) (λ (name : List ℕ). Ok (before ++ name ∷ [])) one.0 one.1 in
    let p : before ++ name.0 ∷ [] ≡ one.0 = cc (name.2) in
    let n = member_count index one.0 names ds one.2 in
    let m : length one.0 ≡ length before + 1 = rw (← p) (length-append before (name.0 ∷ [])) in
    omega (arith, n, m)

-- the same where the test is known
few_where : (index : List ℕ) (ds : List Data) (names : List (List ℕ)) (fault : DataFault) (b : Bool) → nat_le (length ds) most_members ≡ b
    → (if b then fold_read (with_member index) [] ds else Err fault) ≡ Ok names → length names ≤ most_members
few_where index ds names fault true few e = let n = member_count index [] names ds e in let m = nat_le_yes (length ds) most_members few in omega (arith, n, m)
few_where index ds names fault false few e = absurd (cc)

-- an index has few enough members
pub few_members : (index : List ℕ) (d : Data) (names : List (List ℕ)) → members_of index d ≡ Ok names → length names ≤ most_members
unfolding members_of
few_members index d names e =
    let too_many : List Data → DataFault = λ ds. fault (Some index) 0 (TooManyMembers (length ds)) in
    let ds = and_then_ok (elements index 0 d) (λ (ds : List Data). if nat_le (length ds) most_members then fold_read (with_member index) [] ds else (Err (too_many ds)))
    names e in
    few_where index ds.0 names (too_many ds.0) (nat_le (length ds.0) most_members) refl ds.2

-- whether two names are one is the same from either side
same_back : (a b : List ℕ) → same_name a b ≡ same_name b a
same_back [] [] = refl
same_back [] (y ∷ b) = refl
same_back (x ∷ a) [] = refl
same_back (x ∷ a) (y ∷ b) = let p : nat_eq x y ≡ nat_eq y x = grind (arith, nat_tests) in rw (p, same_back a b) refl

-- a name that isn't among others is none of them
none_of : (names : List (List ℕ)) (name other : List ℕ) (i : ℕ) → i < length names → other ≡ get_or names i other → is_among names name ≡ false
    → same_name other name ≡ false
none_of [] name other i h is e = absurd (omega arith)
none_of (first ∷ names) name other zero h is e = rw (is, same_back first name) (or_parts (same_name name first) (is_among names name) e).0
none_of (first ∷ names) name other (suc i) h is e = none_of names name other i (omega arith) is (or_parts (same_name name first) (is_among names name) e).1

-- of distinct names, each is new after those before it
pub new_after : (names : List (List ℕ)) (name : List ℕ) (i : ℕ) → i < length names → name ≡ get_or names i name → is_distinct names ≡ true
    → is_among (take i names) name ≡ false
new_after [] name i h is e = absurd (omega arith)
new_after (first ∷ names) name zero h is e = refl
new_after (first ∷ names) name (suc i) h is e =
    let parts = and_parts (not (is_among names first)) (is_distinct names) e in
    let none : is_among names first ≡ false = grind (arith, parts.0) in
    rw (none_of names first name i (omega arith) is none, new_after names name i (omega arith) is parts.1) refl
