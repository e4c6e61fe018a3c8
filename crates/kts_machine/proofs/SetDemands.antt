-- Demands on sets, by the members of the sets.
use Rattle.std.proofs.Common.{◌≡◌, refl, sym, ◌∙◌, ap, ⊎_elim, inl, inr, ℕ, ◌<◌, ◌≤◌, Bool, true, false, not, ◌&&◌, ◌||◌, nat_eq, List, [], ◌∷◌, length, map, Some, None, ℤ, pos, arith}
use Rattle.std.specs.Prelude.{option_map, filter}
use Rattle.std.specs.List.{list_all}
use Rattle.std.proofs.lemmas.Bool.{cases_Bool, eq-eqb, ne_eqb, cases_eq}
use Rattle.kts_abs.specs.Demands.{Suits, only_member, is_left, some_set, meets, raised}
use Rattle.kts_abs.specs.declared.demand.Op.{Op}
use Rattle.kts_abs.specs.declared.demand.Op.TheVariants.{AtLeast, AtMost, Within, Without}
use Rattle.kts_abs.specs.Members.{single_member}
use Rattle.kts_abs.specs.Values.{Win, Mem, has}
use Rattle.kts_abs.specs.Windows.{Window}
use Rattle.kts_abs.proofs.Positions.{pos_eq, has-pos}
use Rattle.kts_sets.specs.Choices.{IsChoice, within, unless_empty, common}
use Rattle.kts_sets.specs.Sets.{elem, other, IsSet}
use Rattle.kts_sets.specs.SetLaws.{IsSet-rises}

-- one operation suits cells of one kind
pub one_kind : (op : Op) (w : Window) (ms : List ℤ) → Suits op (Win w) → Suits op (Mem ms) → ⊥
one_kind AtLeast w ms h k = k
one_kind AtMost w ms h k = k
one_kind Within w ms h k = h
one_kind Without w ms h k = h

-- a set of several has no only member
several : (m n : ℕ) (ms : List ℕ) → m < n → only_member (map pos (m ∷ n ∷ ms)) ≡ None
several m n ms l = rw (pos_eq n m, ne_eqb n m (λ e. omega (arith, e, l))) refl

pub only_single : (ms : List ℕ) → IsSet ms → only_member (map pos ms) ≡ option_map (λ m. pos m) (single_member ms)
only_single [] s = refl
only_single (m ∷ []) s = refl
only_single (m ∷ (n ∷ ms)) s = several m n ms (IsSet-rises (m ∷ (n ∷ ms)) s 0 (omega arith))

-- ---- the members of a set

within_is : (bs ms : List ℕ) → list_all (has (map pos bs)) (map pos ms) ≡ within bs ms
within_is bs [] = refl
within_is bs (m ∷ ms) = rw (has-pos bs m, within_is bs ms) refl

pub meets_within : (bs ms : List ℕ) → within bs ms ≡ meets (Within, Mem (map pos bs)) (Mem (map pos ms))
meets_within bs ms = sym (within_is bs ms)

kept_is : (bs ms : List ℕ) → filter (has (map pos bs)) (map pos ms) ≡ map pos (filter (λ m. elem m bs) ms)
kept_is bs [] = refl
kept_is bs (m ∷ ms) = ⊎_elim
    (λ (e : elem m bs ≡ true). rw (has-pos bs m, e) (ap (λ l. pos m ∷ l) (kept_is bs ms)))
    (λ (e : elem m bs ≡ false). rw (has-pos bs m, e) (kept_is bs ms))
    (cases_Bool (elem m bs))

set_unless : (ms : List ℕ) → option_map (λ ms. Mem (map pos ms)) (unless_empty ms) ≡ some_set (map pos ms)
set_unless [] = refl
set_unless (m ∷ ms) = refl

pub raised_within : (bs ms : List ℕ) → option_map (λ ms. Mem (map pos ms)) (common ms bs) ≡ raised (Within, Mem (map pos bs)) (Mem (map pos ms))
raised_within bs ms = set_unless (filter (λ m. elem m bs) ms) ∙ ap some_set (sym (kept_is bs ms))

-- ---- a set without a member

none_taken : (ms : List ℤ) → list_all (is_left None) ms ≡ true
none_taken [] = refl
none_taken (m ∷ ms) = none_taken ms

all_kept : (ms : List ℤ) → filter (is_left None) ms ≡ ms
all_kept [] = refl
all_kept (m ∷ ms) = ap (λ l. m ∷ l) (all_kept ms)

not_or : (a b : Bool) → not (a || b) ≡ (not a && not b)
not_or true b = refl
not_or false b = refl

swapped : (m n : ℕ) → nat_eq m n ≡ nat_eq n m
swapped m n = elim (cases_eq m n) [
  | inl e ↦ eq-eqb m n e ∙ sym (eq-eqb n m (sym e))
  | inr e ↦ ne_eqb m n e ∙ sym (ne_eqb n m (λ f. e (sym f)))
]

one_taken : (n : ℕ) (ms : List ℕ) → list_all (is_left (Some (pos n))) (map pos ms) ≡ not (elem n ms)
unfolding elem
one_taken n [] = refl
one_taken n (m ∷ ms) = rw (pos_eq m n, one_taken n ms, swapped m n) (sym (not_or (nat_eq n m) (elem n ms)))

others_kept : (n : ℕ) (ms : List ℕ) → filter (is_left (Some (pos n))) (map pos ms) ≡ map pos (filter (other n) ms)
others_kept n [] = refl
others_kept n (m ∷ ms) = ⊎_elim
    (λ (e : nat_eq m n ≡ true). rw (pos_eq m n, e) (others_kept n ms))
    (λ (e : nat_eq m n ≡ false). rw (pos_eq m n, e) (ap (λ l. pos m ∷ l) (others_kept n ms)))
    (cases_Bool (nat_eq m n))

module _ (bs ms : List ℕ) (set : IsSet bs) where
  pub meets_without_one : (n : ℕ) → single_member bs ≡ Some n → not (elem n ms) ≡ meets (Without, Mem (map pos bs)) (Mem (map pos ms))
  meets_without_one n e = sym (rw (only_single bs set, e) (one_taken n ms))

  pub meets_without_none : single_member bs ≡ None → true ≡ meets (Without, Mem (map pos bs)) (Mem (map pos ms))
  meets_without_none e = sym (rw (only_single bs set, e) (none_taken (map pos ms)))

  pub raised_without_one : (n : ℕ) → single_member bs ≡ Some n
      → option_map (λ ms. Mem (map pos ms)) (unless_empty (filter (other n) ms)) ≡ raised (Without, Mem (map pos bs)) (Mem (map pos ms))
  raised_without_one n e = sym (rw (only_single bs set, e) (ap some_set (others_kept n ms) ∙ sym (set_unless (filter (other n) ms))))

  pub raised_without_none : IsChoice ms → single_member bs ≡ None → Some (Mem (map pos ms)) ≡ raised (Without, Mem (map pos bs)) (Mem (map pos ms))
  raised_without_none v e = sym (rw (only_single bs set, e) (ap some_set (all_kept (map pos ms)) ∙ some_left ms v.some))
    where
      some_left : (ms : List ℕ) → 1 ≤ length ms → some_set (map pos ms) ≡ Some (Mem (map pos ms))
      some_left [] l = absurd (omega arith)
      some_left (m ∷ ms) l = refl
