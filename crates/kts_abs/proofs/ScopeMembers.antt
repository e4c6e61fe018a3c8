-- Variables beside the indexes of a scope, and arguments beside those of a family.
use Rattle.std.proofs.Common.{◌≡◌, sym, ap, subst, ℕ, zero, suc, ◌<◌, List, [], ◌∷◌, ◌++◌, true, nat_eq, Option, None, Some, slice_get, slice_index}
use Rattle.std.proofs.lemmas.Bool.{and_parts}
use Rattle.kts_spec.specs.TypedValues.{InScope}
use Rattle.kts_spec.specs.Typing.{Kind, Whole, MemberOf, are_members}
use Rattle.kts_spec.specs.Worlds.{World, size_of}
use Rattle.kts_spec.proofs.Conditions.{same_number}

-- a variable of the scope is a member of its index
pub variable_in : (w : World) (scope vars : List ℕ) (k i : ℕ) → InScope w scope vars → slice_get scope k ≡ Some i → slice_index vars k < size_of w i
variable_in w [] vars k i h e = cc
variable_in w (j ∷ scope) [] k i h e = absurd h
variable_in w (j ∷ scope) (m ∷ vars) zero i h e = let same : j ≡ i = cc in subst (λ n. m < size_of w n) same h.0
variable_in w (j ∷ scope) (m ∷ vars) (suc k) i h e = variable_in w scope vars k i h.1 e

-- one variable more
pub scope_more : (w : World) (scope vars : List ℕ) (i m : ℕ) → InScope w scope vars → m < size_of w i → InScope w (scope ++ i ∷ []) (vars ++ m ∷ [])
scope_more w [] [] i m h l = (l, tt)
scope_more w [] (n ∷ vars) i m h l = absurd h
scope_more w (j ∷ scope) [] i m h l = absurd h
scope_more w (j ∷ scope) (n ∷ vars) i m h l = (h.0, scope_more w scope vars i m h.1 l)

-- the first of several arguments is a member of the first index
pub record FirstMember (i : ℕ) (is : List ℕ) (k : Option Kind) (ks : List (Option Kind)) : Type 0 where
  pub first : k ≡ Some (MemberOf i)
  pub others : are_members is ks ≡ true

pub first_member : (i : ℕ) (is : List ℕ) (k : Option Kind) (ks : List (Option Kind)) → are_members (i ∷ is) (k ∷ ks) ≡ true → FirstMember i is k ks
first_member i is None ks e = cc
first_member i is (Some (Whole r)) ks e = cc
first_member i is (Some (MemberOf j)) ks e =
    let both = and_parts (nat_eq i j) (are_members is ks) e in
    record { first = ap (λ n. Some (MemberOf n)) (sym (same_number i j both.0)); others = both.1 }
