-- What a definite constraint demands of a cell, and the part of the cell that meets it.
use Rattle.std.specs.Prelude.{◌≡◌, ◌↔◌, ◌≤ℤ◌, ◌<◌, ℤ, List, [], ◌∷◌, filter, Bool, true, false, not, int_le, Option, Some, None, if◌then◌else◌}
use Rattle.std.specs.Int.{int_min, int_max}
use Rattle.std.specs.List.{list_all}
use Rattle.std.specs.Ordering.{int_eq}
use Rattle.kts_abs.specs.declared.demand.Op.{Op}
use Rattle.kts_abs.specs.declared.demand.Op.TheVariants.{AtLeast, AtMost, Within, Without}
use Rattle.kts_abs.specs.Values.{Abs, Win, Mem, Refines, has, is_cell, room_of, window_of, members_of}
use Rattle.kts_abs.specs.Windows.{Window}

-- an operation and the abstract value of its bound
abbrev pub Demand : Type 0
Demand = Op × Abs

-- the member of a set that has no other
abbrev pub only_member : List ℤ → Option ℤ
only_member [] = None
only_member (m ∷ ms) = if list_all (λ n. int_eq n m) ms then Some m else None

-- whether a member is left where this one is taken away
abbrev pub is_left : Option ℤ → ℤ → Bool
is_left None m = true
is_left (Some n) m = not (int_eq m n)

-- a window, and a set, where it is not empty
abbrev pub some_window : Window → Option Abs
some_window v = if int_le v.0 v.1 then Some (Win v) else None

abbrev pub some_set : List ℤ → Option Abs
some_set [] = None
some_set (m ∷ ms) = Some (Mem (m ∷ ms))

-- whether a cell meets a demand; a bound of several members takes none away
abbrev pub meets : Demand → Abs → Bool
meets (AtLeast, b) a = int_le (window_of b).0 (window_of a).0
meets (AtMost, b) a = int_le (window_of a).1 (window_of b).1
meets (Within, b) a = list_all (has (members_of b)) (members_of a)
meets (Without, b) a = list_all (is_left (only_member (members_of b))) (members_of a)

-- the greatest part of a cell that meets a demand; none where that is empty
abbrev pub raised : Demand → Abs → Option Abs
raised (AtLeast, b) a = some_window (int_max (window_of a).0 (window_of b).0, (window_of a).1)
raised (AtMost, b) a = some_window ((window_of a).0, int_min (window_of a).1 (window_of b).1)
raised (Within, b) a = some_set (filter (has (members_of b)) (members_of a))
raised (Without, b) a = some_set (filter (is_left (only_member (members_of b))) (members_of a))

-- the set has this member and no other
pub record IsOnly (ms : List ℤ) (m : ℤ) : Type 0 where
  pub held : has ms m ≡ true
  pub alone : (n : ℤ) → has ms n ≡ true → n ≡ m

-- what a demand means of a cell
abbrev pub Meets : Demand → Abs → Type 0
Meets (AtLeast, b) a = (window_of b).0 ≤ℤ (window_of a).0
Meets (AtMost, b) a = (window_of a).1 ≤ℤ (window_of b).1
Meets (Within, b) a = (m : ℤ) → has (members_of a) m ≡ true → has (members_of b) m ≡ true
Meets (Without, b) a = (m : ℤ) → IsOnly (members_of b) m → has (members_of a) m ≡ true → ⊥

-- the operation is one for cells of this kind
abbrev pub Suits : Op → Abs → Type 0
Suits AtLeast (Win v) = Unit {0}
Suits AtMost (Win v) = Unit {0}
Suits Within (Mem ms) = Unit {0}
Suits Without (Mem ms) = Unit {0}
Suits AtLeast (Mem ms) = ⊥
Suits AtMost (Mem ms) = ⊥
Suits Within (Win v) = ⊥
Suits Without (Win v) = ⊥

-- the greatest part of a cell that meets a demand
pub record IsRaised (d : Demand) (a b : Abs) : Type 0 where
  pub part : Refines b a
  pub met : Meets d b
  pub greatest : (u : Abs) → Refines u a → Meets d u → Refines u b

-- no part of a cell meets it
abbrev pub NoneMeets : Demand → Abs → Type 0
NoneMeets d a = (u : Abs) → Refines u a → Meets d u → ⊥

-- the test is what the demand means, and what is raised is the greatest part that meets it
pub record IsDemand (d : Demand) (a : Abs) : Type 0 where
  pub test : (meets d a ≡ true) ↔ Meets d a
  pub some : (b : Abs) → raised d a ≡ Some b → IsRaised d a b
  pub none : raised d a ≡ None → NoneMeets d a

abbrev pub DemandsAreMet : Type 0
DemandsAreMet = (op : Op) (b a : Abs) → Suits op a → IsDemand (op, b) a

-- a demand that is met stays met
pub record MetDemandsStay : Type 0 where
  -- by each part of the cell
  pub narrower : (d : Demand) (a u : Abs) → Refines u a → meets d a ≡ true → meets d u ≡ true
  -- and where the bound allows more
  pub looser : (op : Op) (b c a : Abs) → Refines b c → meets (op, b) a ≡ true → meets (op, c) a ≡ true

-- a cell that meets a demand is raised to itself, and any other to a cell with less room
pub record RaisesLowerRoom : Type 0 where
  pub same : (op : Op) (b a : Abs) → Suits op a → is_cell a ≡ true → meets (op, b) a ≡ true → raised (op, b) a ≡ Some a
  pub cell : (op : Op) (b a c : Abs) → Suits op a → is_cell a ≡ true → raised (op, b) a ≡ Some c → is_cell c ≡ true
  pub less : (op : Op) (b a c : Abs) → Suits op a → is_cell a ≡ true → meets (op, b) a ≡ false → raised (op, b) a ≡ Some c → room_of c < room_of a
