-- What the typing and the sizes of the parts of a form say.
use Rattle.std.proofs.Common.{◌≡◌, ℕ, suc, ◌+◌, ◌*◌, ◌-◌, ◌≤◌, List, [], ◌∷◌, length, fold, Option, Some, None, true, ◌&&◌, refl, sym, ap, arith, nat_eq, nat_le, slice_get}
use Rattle.std.specs.List.{list_all}
use Rattle.std.proofs.lemmas.Bool.{and_parts}
use Rattle.kts_base.specs.Limits.{most_variables, most_arguments}
use Rattle.kts_base.proofs.Orders.{nat_le_yes}
use Rattle.kts_spec.specs.declared.declarations.Family.{Family}
use Rattle.kts_spec.specs.declared.schema.Schema.{Schema}
use Rattle.kts_spec.specs.declared.tree.Comparison.{Comparison}
use Rattle.kts_spec.specs.declared.tree.Comparison.TheVariants.{Le, Lt, Ge, Gt, Eq, Ne, Same, Other}
use Rattle.kts_spec.specs.Ranges.{Range}
use Rattle.kts_spec.specs.Related.{AllOf}
use Rattle.kts_spec.specs.Schemas.{is_family, is_type}
use Rattle.kts_spec.specs.Sizes.{Size, beside, all_beside, no_trees, comparison_over}
use Rattle.kts_spec.specs.Typing.{Kind, Whole, MemberOf, are_members, both_whole, one_index, is_index, may_bind}
use Rattle.kts_spec.proofs.Conditions.{same_number}
use Rattle.kts_spec.proofs.TermRanges.{all_get}

-- the first of several is a member of the first index
pub record FirstMember (i : ℕ) (is : List ℕ) (k : Option Kind) (ks : List (Option Kind)) : Type 0 where
  pub first : k ≡ Some (MemberOf i)
  pub others : are_members is ks ≡ true

pub first_member : (i : ℕ) (is : List ℕ) (k : Option Kind) (ks : List (Option Kind)) → are_members (i ∷ is) (k ∷ ks) ≡ true → FirstMember i is k ks
first_member i is None ks e = cc
first_member i is (Some (Whole w)) ks e = cc
first_member i is (Some (MemberOf j)) ks e =
    let both = and_parts (nat_eq i j) (are_members is ks) e in
    let same : i ≡ j = same_number i j both.0 in
    record { first = ap (λ n. Some (MemberOf n)) (sym same); others = both.1 }

-- no family has more arguments
pub few_arguments : (n : ℕ) (families : List Family) (f : ℕ) (family : Family) → list_all (is_family n) families ≡ true
    → slice_get families f ≡ Some family → length family.args ≤ most_arguments
few_arguments n families f family h e =
    let fits = all_get (is_family n) families f family h e in
    let two = and_parts (nat_le (length family.args) most_arguments && list_all _ family.args) (is_type n family.kind) fits in
    nat_le_yes (length family.args) most_arguments (and_parts (nat_le (length family.args) most_arguments) _ two.0).0

-- both sides of a comparison are whole numbers, or members of one index
pub both_are : (k l : Option Kind) → both_whole k l ≡ true → (v : Range) × (u : Range) × (k ≡ Some (Whole v)) × (l ≡ Some (Whole u))
both_are None l e = cc
both_are (Some (MemberOf i)) l e = cc
both_are (Some (Whole v)) None e = cc
both_are (Some (Whole v)) (Some (MemberOf i)) e = cc
both_are (Some (Whole v)) (Some (Whole u)) e = (v, u, refl, refl)

pub one_is : (k l : Option Kind) → one_index k l ≡ true → (i : ℕ) × (k ≡ Some (MemberOf i)) × (l ≡ Some (MemberOf i))
one_is None l e = cc
one_is (Some (Whole v)) l e = cc
one_is (Some (MemberOf i)) None e = cc
one_is (Some (MemberOf i)) (Some (Whole u)) e = cc
one_is (Some (MemberOf i)) (Some (MemberOf j)) e = let same : i ≡ j = same_number i j e in (i, refl, ap (λ n. Some (MemberOf n)) (sym same))

-- each tree is at most as deep as those beside it together
abbrev pub AreDeep : ℕ → List Size → Type 0
AreDeep most = AllOf (λ (s : Size). s.depth ≤ most)

depth_grows : (sizes : List Size) (s : Size) → s.depth ≤ (fold beside s sizes).depth
depth_grows [] s = omega arith
depth_grows (a ∷ sizes) s = omega (arith, depth_grows sizes (beside s a))

sizes_deep : (sizes : List Size) (s : Size) → AreDeep (fold beside s sizes).depth sizes
sizes_deep [] s = tt
sizes_deep (a ∷ sizes) s = (omega (arith, depth_grows sizes (beside s a)), sizes_deep sizes (beside s a))

pub all_deep : (sizes : List Size) → AreDeep (all_beside sizes).depth sizes
all_deep sizes = sizes_deep sizes no_trees

pub comparison_depth : (c : Comparison) (s : Size) → (comparison_over c s).depth ≡ suc s.depth
comparison_depth Le s = refl
comparison_depth Lt s = refl
comparison_depth Ge s = refl
comparison_depth Gt s = refl
comparison_depth Eq s = refl
comparison_depth Ne s = refl
comparison_depth Same s = refl
comparison_depth Other s = refl

-- the free places that the parts of a tree need, where the tree needs so many
pub record Below (need depth variables : ℕ) : Type 0 where
  pub inner : ℕ
  pub fewer : inner + 2 ≤ need
  pub room : 2 * depth + 10 ≤ inner + variables
  pub some : 2 ≤ inner

pub below : (need depth variables : ℕ) → variables ≤ most_variables → 2 * suc depth + 10 ≤ need + variables → Below need depth variables
below need depth variables few room = record { inner = need - 2; fewer = omega arith; room = omega arith; some = omega arith }

-- binders leave few variables in scope
pub bind_fits : (schema : Schema) (scope indexes : List ℕ) → may_bind schema scope indexes ≡ true → length scope + length indexes ≤ most_variables
bind_fits schema scope indexes e =
    nat_le_yes (length scope + length indexes) most_variables
    (and_parts (nat_le 1 (length indexes) && list_all (is_index schema) indexes) (nat_le (length scope + length indexes) most_variables) e).1
