-- Abstract values of a kind: windows in a range, and sets of some members of an index.
use Rattle.std.proofs.Common.{◌≡◌, refl, sym, subst, ⊎_elim, inl, inr, ℕ, zero, suc, ◌+◌, ◌<◌, List, [], ◌∷◌, map, true, ℤ, pos, arith}
use Rattle.std.specs.List.{range_with_len}
use Rattle.std.proofs.lemmas.Int.{ints}
use Rattle.kts_spec.specs.Places.{is_in}
use Rattle.kts_spec.specs.Ranges.{Range}
use Rattle.kts_spec.specs.Typing.{Kind, Whole, MemberOf}
use Rattle.kts_spec.specs.Worlds.{World, size_of}
use Rattle.kts_spec.proofs.TypedData.{member_in}
use Rattle.kts_abs.specs.InSpace.{only_of}
use Rattle.kts_abs.specs.Ranged.{IsWindowIn, IsSetIn}
use Rattle.kts_abs.specs.Values.{Abs, Win, Mem, window_of, members_of}
use Rattle.kts_abs.specs.Windows.{Window}
use Rattle.kts_abs.proofs.Listed.{In, has_in, in_has}
use Rattle.kts_abs.proofs.WindowEnds.{Inside}

-- a window in the range, or a set of some members of the index
abbrev pub HasKind : World → Kind → Abs → Type 0
HasKind w (Whole r) a = IsWindowIn r a
HasKind w (MemberOf i) a = IsSetIn (size_of w i) a

-- ---- windows

pub window_in : (v : Window) (r : Range) → Inside v r → IsWindowIn r (Win v)
window_in v r h = record { window = v; is = refl; low = h.low; rising = h.solid; high = h.high }

pub inside_range : (r : Range) (a : Abs) → IsWindowIn r a → Inside (window_of a) r
inside_range r a h = subst (λ b. Inside (window_of b) r) (sym h.is) (record { solid = h.rising; low = h.low; high = h.high })

pub number_in : (n : ℤ) → IsWindowIn (n, n) (only_of n)
number_in n = window_in (n, n) (n, n) (record { solid = omega (arith, ints); low = omega (arith, ints); high = omega (arith, ints) })

-- ---- sets

-- the list has an item, and has only members of an index of this size
pub record SomeMembers (size : ℕ) (ms : List ℤ) : Type 0 where
  pub first : ℤ
  pub solid : In first ms
  pub inside : (m : ℤ) → In m ms → is_in size m ≡ true

pub set_in : (size : ℕ) (ms : List ℤ) → SomeMembers size ms → IsSetIn size (Mem ms)
set_in size ms h = record {
  members = ms;
  is = refl;
  first = h.first;
  solid = in_has ms h.first h.solid;
  inside = λ m k. h.inside m (has_in ms m k);
}

pub some_members : (size : ℕ) (a : Abs) → IsSetIn size a → SomeMembers size (members_of a)
some_members size a h = subst (λ b. SomeMembers size (members_of b)) (sym h.is) (record {
  first = h.first;
  solid = has_in h.members h.first h.solid;
  inside = λ m k. h.inside m (in_has h.members m k);
})

-- one member alone
pub one_member : (size : ℕ) (m : ℤ) → is_in size m ≡ true → SomeMembers size (m ∷ [])
one_member size m h = record {
  first = m;
  solid = inl refl;
  inside = λ n k. ⊎_elim (λ (e : n ≡ m). subst (λ z. is_in size z ≡ true) (sym e) h) (λ z. absurd z) k;
}

pub position_in : (size m : ℕ) → m < size → IsSetIn size (Mem (pos m ∷ []))
position_in size m h = set_in size (pos m ∷ []) (one_member size (pos m) (member_in size m (omega arith)))

-- the positions of an index are its members
position_is : (a n : ℕ) (z : ℤ) → In z (map pos (range_with_len a n)) → (m : ℕ) × (z ≡ pos m) × (m < a + n)
position_is a zero z h = absurd h
position_is a (suc n) z (inl e) = (a, e, omega arith)
position_is a (suc n) z (inr h) = let r = position_is (a + 1) n z h in (r.0, r.1, omega (arith, r.2))

pub positions_are_members : (size : ℕ) (z : ℤ) → In z (map pos (range_with_len 0 size)) → is_in size z ≡ true
positions_are_members size z h = let p = position_is 0 size z h in subst (λ m. is_in size m ≡ true) (sym p.1) (member_in size p.0 p.2)
