-- What each space of valid data makes of well typed terms: values in their ranges, and one value of what reads no choice.
use Rattle.std.proofs.Common.{◌≡◌, ℕ, zero, suc, ℤ, pos, List, [], ◌∷◌, map, true, Some, None, cond, refl, sym, ap, ◌∙◌, subst, arith}
use Rattle.std.specs.List.{list_all, range_with_len}
use Rattle.std.proofs.lemmas.Bool.{and_from, true≢false}
use Rattle.std.proofs.lemmas.Int.{ints}
use Rattle.kts_abs.specs.InSpace.{in_space, value_in}
use Rattle.kts_abs.specs.Ranged.{IsSetIn, ValuesAreRanged}
use Rattle.kts_abs.specs.Spaces.{IsAbove, type_value, types, initial}
use Rattle.kts_abs.specs.Values.{Abs, Win, Mem, has, IsOne, Refines, is_cell, members_of}
use Rattle.kts_abs.proofs.Exact.{value_exact, members_one}
use Rattle.kts_abs.proofs.RangedValues.{values_have_ranges}
use Rattle.kts_abs.proofs.Rising.{has_head, positions_rise}
use Rattle.kts_abs.proofs.WindowEnds.{inside_from}
use Rattle.kts_base.proofs.Orders.{yes_int_le}
use Rattle.kts_plan.proofs.UnreadCells.{pairs_same}
use Rattle.kts_spec.specs.declared.declarations.ValueType.{ValueType}
use Rattle.kts_spec.specs.declared.declarations.ValueType.TheVariants.{Int, Member}
use Rattle.kts_spec.specs.declared.instance.Instance.{Instance}
use Rattle.kts_spec.specs.declared.schema.Schema.{Schema}
use Rattle.kts_spec.specs.declared.tree.Term.{Term}
use Rattle.kts_spec.specs.Data.{is_valid}
use Rattle.kts_spec.specs.Meaning.{value_on}
use Rattle.kts_spec.specs.Places.{is_in}
use Rattle.kts_spec.specs.Reads.{Access, reads_of}
use Rattle.kts_spec.specs.Related.{AllOf, Related}
use Rattle.kts_spec.specs.Schedules.{Cell, cells}
use Rattle.kts_spec.specs.Worlds.{World, world_of, size_of}
use Rattle.kts_spec.proofs.Relations.{related_term}

-- ---- a type that some value is of

rises_on : (n : ℕ) → is_cell (Mem (map pos (range_with_len 0 (suc n)))) ≡ true
rises_on n = positions_rise 1 n (pos 0) (omega (arith, ints))

none_in : (m : ℤ) (n : ℕ) → n ≡ 0 → has (map pos (range_with_len 0 n)) m ≡ true → ⊥
none_in m zero e h = true≢false (sym h)
none_in m (suc n) e h = absurd (omega arith)

members_cell : (m : ℤ) (n : ℕ) → has (map pos (range_with_len 0 n)) m ≡ true → is_cell (Mem (map pos (range_with_len 0 n))) ≡ true
members_cell m zero h = absurd (none_in m 0 refl h)
members_cell m (suc n) h = rises_on n

type_cell : (w : World) (kind : ValueType) (a : Abs) → Refines a (type_value w kind) → is_cell (type_value w kind) ≡ true
type_cell w (Int lo hi) (Win v) h =
    let i = inside_from v (lo, hi) h in
    yes_int_le lo hi (omega (arith, ints, i.solid, i.low, i.high))
type_cell w (Int lo hi) (Mem ms) h = absurd h
type_cell w (Member i) (Win v) h = absurd h
type_cell w (Member i) (Mem ms) h = members_cell h.witness (size_of w i) (h.within h.witness h.allowed)

types_from : (w : World) (cs : List Cell) (space : List Abs) → IsAbove (map (λ (c : Cell). type_value w c.kind) cs) space
    → list_all is_cell (map (λ (c : Cell). type_value w c.kind) cs) ≡ true
types_from w [] space h = refl
types_from w (c ∷ cs) [] h = absurd h
types_from w (c ∷ cs) (a ∷ space) h =
    and_from (is_cell (type_value w c.kind)) (list_all is_cell (map (λ (c : Cell). type_value w c.kind) cs)) (type_cell w c.kind a h.0) (types_from w cs space h.1)

-- in each space above the types, values lie in their ranges
pub ranged_above : (schema : Schema) (inst : Instance) (space : List Abs) → is_valid schema inst ≡ true → IsAbove (types (world_of schema inst)) space
    → ValuesAreRanged schema (world_of schema inst) space
ranged_above schema inst space valid above =
    let w : World = world_of schema inst in
    let first : initial w ≡ Some (types w) = ap (λ b. cond b (Some (types w)) None) (types_from w (cells w) space above) in
    values_have_ranges schema inst valid (types w) space first above

-- ---- terms that read no choice

-- meanings in two spaces differ in accesses to choices alone
but_choices : (w : World) (s t : List Abs) → Related (size_of w) (in_space w s) (in_space w t) (λ a b. a ≡ b) (λ p q. p ≡ q) (λ _. Unit {0}) (λ _. ⊥)
but_choices w s t = record {
  number = λ n. refl;
  member = λ m. refl;
  given = λ f xs ys k. rw (pairs_same xs ys k) refl;
  choice = λ x args vars s m k. absurd m;
  deeper = λ vars m s. tt;
  add = λ a b p q h k. rw (h, k) refl;
  sub = λ a b p q h k. rw (h, k) refl;
  mul = λ a b p q h k. rw (h, k) refl;
  least = λ a b p q h k. rw (h, k) refl;
  greatest = λ a b p q h k. rw (h, k) refl;
  gate = λ a b p q h k. rw (h, k) refl;
  le = λ a b p q h k. rw (h, k) refl;
  eq = λ a b p q h k. rw (h, k) refl;
  same = λ a b p q h k. rw (h, k) refl;
  yes = refl;
  no = refl;
  both = λ a b p q h k. rw (h, k) refl;
  either = λ a b p q h k. rw (h, k) refl;
  neg = λ p r h. rw h refl;
}

-- such a term has one value in every space, that of any schedule
pub fixed_one : (w : World) (space : List Abs) (t : Term) (vars : List ℕ) → reads_of t ≡ [] → IsOne (value_on w [] t vars) (value_in w space t vars)
fixed_one w space t vars e =
    let none : AllOf (λ (a : Access). ⊥) (reads_of t) = subst (AllOf (λ (a : Access). ⊥)) (sym e) tt in
    let same = related_term (size_of w) (in_space w []) (in_space w space) (λ a b. a ≡ b) (λ p q. p ≡ q) (λ _. Unit {0}) (λ _. ⊥) (but_choices w [] space) t vars tt none in
    subst (IsOne (value_on w [] t vars)) same (value_exact w [] [] tt t vars)

-- a set of one member of an index
pub one_in : (size : ℕ) (n : ℤ) (a : Abs) → IsSetIn size a → IsOne n a → is_in size n ≡ true
one_in size n a h o =
    let one : members_of a ≡ n ∷ [] = members_one n a o in
    let is : members_of a ≡ h.members = ap members_of h.is in
    h.inside n (ap (λ zs. has zs n) (sym is ∙ one) ∙ has_head n [])
