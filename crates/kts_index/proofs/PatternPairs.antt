-- What a pattern pairs, argument by argument.
use Rattle.std.proofs.Common.{◌≡◌, refl, ap, ◌∙◌, sym, ℕ, zero, suc, List, [], ◌∷◌, true, false, ◌&&◌, nat_eq, Option, None, Some}
use Rattle.std.specs.Prelude.{slice_get}
use Rattle.std.proofs.lemmas.Bool.{and_parts, and_from, eqb-true, eq-eqb}
use Rattle.std.proofs.lemmas.List.Folds.{Any-from_list_any, list_any-from_Any}
use Rattle.kts_index.specs.declared.pattern.Pattern.{Pattern}
use Rattle.kts_index.specs.Pairs.{has_member, argument_agrees, arguments_agree, agrees, is_paired}
use Rattle.kts_index.specs.TaskFacts.{IsPairedBy, SomePatternPairs}
use Rattle.kts_index.specs.TaskOrder.{Task}

-- the test of a member, and the member
member_there : (tuple : List ℕ) (k m : ℕ) → has_member tuple k m ≡ true → slice_get tuple k ≡ Some m
member_there [] k m h = absurd (let f : false ≡ true = h in cc)
member_there (x ∷ xs) zero m h = ap (λ m. Some m) (eqb-true x m h)
member_there (x ∷ xs) (suc k) m h = member_there xs k m h

-- and the other way
there_member : (tuple : List ℕ) (k m : ℕ) → slice_get tuple k ≡ Some m → has_member tuple k m ≡ true
there_member [] k m e = absurd (let none : None ≡ Some m = e in cc)
there_member (x ∷ xs) zero m e = let same : x ≡ m = cc in eq-eqb x m same
there_member (x ∷ xs) (suc k) m e = there_member xs k m e

-- arguments that agree name members that are there
members_of : (tuple : List ℕ) (args : List (Option ℕ)) (cell : List ℕ) → arguments_agree tuple args cell ≡ true
    → (j k m : ℕ) → slice_get args j ≡ Some (Some k) → slice_get cell j ≡ Some m → slice_get tuple k ≡ Some m
members_of tuple [] cell h j k m e f = absurd (let none : None ≡ Some (Some k) = e in cc)
members_of tuple (a ∷ args) [] h j k m e f = absurd (let none : None ≡ Some m = f in cc)
members_of tuple (a ∷ args) (n ∷ cell) h zero k m e f =
    let argument : a ≡ Some k = cc in
    let same : n ≡ m = cc in
    let agreed = (and_parts (argument_agrees tuple a n) (arguments_agree tuple args cell) h).0 in
    member_there tuple k m (sym (ap (λ a. argument_agrees tuple a m) argument) ∙ sym (ap (argument_agrees tuple a) same) ∙ agreed)
members_of tuple (a ∷ args) (n ∷ cell) h (suc j) k m e f = members_of tuple args cell (and_parts (argument_agrees tuple a n) (arguments_agree tuple args cell) h).1 j k m e f

-- and where these are there, all agree
members_agree : (tuple : List ℕ) (args : List (Option ℕ)) (cell : List ℕ)
    → ((j k m : ℕ) → slice_get args j ≡ Some (Some k) → slice_get cell j ≡ Some m → slice_get tuple k ≡ Some m) → arguments_agree tuple args cell ≡ true
members_agree tuple [] cell h = refl
members_agree tuple (a ∷ args) [] h = refl
members_agree tuple (None ∷ args) (n ∷ cell) h = members_agree tuple args cell (λ j. h (suc j))
members_agree tuple (Some k ∷ args) (n ∷ cell) h =
    and_from (has_member tuple k n) (arguments_agree tuple args cell) (there_member tuple k n (h 0 k n refl refl)) (members_agree tuple args cell (λ j. h (suc j)))

module _ (x : ℕ) (cell : List ℕ) (task : Task) where
  paired_by : (p : Pattern) → agrees x cell task p ≡ true → IsPairedBy p x cell task
  paired_by p h =
      let both = and_parts (nat_eq p.definite task.definite && nat_eq p.choice x) (arguments_agree task.tuple p.args cell) h in
      let numbers = and_parts (nat_eq p.definite task.definite) (nat_eq p.choice x) both.0 in
      record { definite = eqb-true p.definite task.definite numbers.0; choice = eqb-true p.choice x numbers.1; members = members_of task.tuple p.args cell both.1 }

  -- and the other way
  by_pattern : (p : Pattern) → IsPairedBy p x cell task → agrees x cell task p ≡ true
  by_pattern p is =
      and_from (nat_eq p.definite task.definite && nat_eq p.choice x) (arguments_agree task.tuple p.args cell)
      (and_from (nat_eq p.definite task.definite) (nat_eq p.choice x) (eq-eqb p.definite task.definite is.definite) (eq-eqb p.choice x is.choice))
      (members_agree task.tuple p.args cell is.members)

  -- so for all patterns
  pub some_pattern_pairs : (patterns : List Pattern) → SomePatternPairs patterns x cell task
  unfolding is_paired
  some_pattern_pairs patterns = (
    λ h. let a = Any-from_list_any (agrees x cell task) patterns h in (a.0, a.1, a.2, a.3, paired_by a.1 a.4),
    λ a. list_any-from_Any (agrees x cell task) patterns (a.0, a.1, a.2, a.3, by_pattern a.1 a.4),
  )
