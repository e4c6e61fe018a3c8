-- Spaces in which a cell was raised to a part of it.
use Rattle.std.proofs.Common.{◌≡◌, refl, sym, ◌∙◌, ap, subst, ⊎_elim, Bool, true, false, cond, ℕ, zero, suc, ◌+◌, ◌<◌, ◌≤◌, ◌^◌, List, [], ◌∷◌, length, map, Option, Some, None, slice_get, ℤ, pos, arith}
use Rattle.std.specs.Prelude.{slice_set}
use Rattle.std.proofs.lemmas.Bool.{and_parts, cases_Bool, true≢false}
use Rattle.std.proofs.lemmas.Int.{ints}
use Rattle.std.proofs.lemmas.List.{map-set, length-set, length-map}
use Rattle.std.proofs.lemmas.Option.{get_or_from_slice_get}
use Rattle.kts_base.proofs.Orders.{int_le_yes, int_lt_yes, yes_int_lt}
use Rattle.kts_abs.specs.declared.cell.Cell.{Cell}
use Rattle.kts_abs.specs.declared.cell.Cell.TheVariants as cell
use Rattle.kts_abs.specs.declared.demand.Op.{Op}
use Rattle.kts_abs.specs.Cells.{IsValid, is_above, value_of}
use Rattle.kts_abs.specs.Demands.{Suits, meets, raised}
use Rattle.kts_abs.specs.InSpace.{only_of}
use Rattle.kts_abs.specs.MemberLaws.{elem-one}
use Rattle.kts_abs.specs.Spaces.{is_wide}
use Rattle.kts_abs.specs.Values.{Abs}
use Rattle.kts_code.specs.HeadSteps.{cell_in, on_demand, on_raised}
use Rattle.kts_code.specs.Queues.{woken}
use Rattle.kts_code.specs.States.{Core}
use Rattle.kts_machine.specs.CellParts.{IsPartAt}
use Rattle.kts_machine.specs.declared.machine.Machine.TheInside.{Inside as Fields}
use Rattle.kts_machine.specs.OfKind.{IsOf}
use Rattle.kts_machine.specs.Targets.{IsTarget}
use Rattle.kts_machine.specs.TaskQueues.{TaskQueue}
use Rattle.kts_rows.specs.Rows.{RowOf}
use Rattle.kts_machine.specs.View.{space_if, view_of, setup_in, single_count, IsLive, IsLiveIf, MachineInvariant}
use Rattle.kts_machine.proofs.AccessFacts.{pairs_at}
use Rattle.kts_sets.specs.Choices.{IsChoice, within}
use Rattle.kts_sets.specs.Sets.{elem, IsSet}
use Rattle.kts_sets.specs.SetLaws.{IsSet-rises}
use Rattle.kts_semi.specs.Ends.{not_before, not_after}
use Rattle.kts_spec.proofs.CellPlaces.{cells_have_numbers}
use Rattle.kts_spec.proofs.TuplePlaces.{item_at}
use Rattle.kts_spec.specs.declared.declarations.ValueType.{ValueType}
use Rattle.kts_spec.specs.declared.declarations.ValueType.TheVariants.{Int, Member}
use Rattle.kts_spec.specs.Places.{cell as cell_at}
use Rattle.kts_spec.specs.Related.{Pairs}
use Rattle.kts_spec.specs.Schedules.{cells}
use Rattle.kts_spec.specs.Worlds.{World, world_of, choice_of}

-- ---- parts of cells

-- a part with two values is one of a cell with two values
wide_sets : (ms ns : List ℕ) → IsChoice ms → IsSet ns → within ms ns ≡ true → is_wide (value_of {W = 0} (cell.Mem ns)) ≡ true → is_wide (value_of {W = 0} (cell.Mem ms)) ≡ true
wide_sets [] ns v s h e = absurd (let some = v.some in omega (arith, some))
wide_sets (m ∷ (n ∷ ms)) ns v s h e = refl
wide_sets (m ∷ []) [] v s h e = absurd (true≢false (sym e))
wide_sets (m ∷ []) (x ∷ []) v s h e = absurd (true≢false (sym e))
wide_sets (m ∷ []) (x ∷ (y ∷ ns)) v s h e =
    let p = and_parts (elem x (m ∷ [])) (within (m ∷ []) (y ∷ ns)) h in
    let q = and_parts (elem y (m ∷ [])) (within (m ∷ []) ns) p.1 in
    let first : x ≡ m = elem-one x m p.0 in
    let second : y ≡ m = elem-one y m q.0 in
    let rises : x < y = IsSet-rises (x ∷ (y ∷ ns)) s 0 (omega arith) in
    absurd (omega (arith, first, second, rises))

wide_part : {W : ℕ} (a b : Cell W) → IsValid a → IsValid b → is_above a b ≡ true → is_wide (value_of b) ≡ true → is_wide (value_of a) ≡ true
wide_part (cell.Win v) (cell.Win w) p q h e =
    let ends = and_parts (not_before v.0 w.0) (not_after v.1 w.1) h in
    let low = int_le_yes v.0 w.0 ends.0 in
    let high = int_le_yes w.1 v.1 ends.1 in
    let less = int_lt_yes w.0 w.1 e in
    yes_int_lt v.0 v.1 (omega (arith, ints, low, high, less))
wide_part (cell.Win v) (cell.Mem ns) p q h e = absurd (true≢false (sym h))
wide_part (cell.Mem ms) (cell.Win w) p q h e = absurd (true≢false (sym h))
wide_part (cell.Mem ms) (cell.Mem ns) p q h e = wide_sets ms ns p q.set h e

part_of_kind : {W : ℕ} (kind : ValueType) (a b : Cell W) → is_above a b ≡ true → IsOf kind (value_of a) → IsOf kind (value_of b)
part_of_kind (Int lo hi) (cell.Win v) (cell.Win w) h k = tt
part_of_kind (Member i) (cell.Win v) (cell.Win w) h k = absurd k
part_of_kind kind (cell.Win v) (cell.Mem ns) h k = absurd (true≢false (sym h))
part_of_kind kind (cell.Mem ms) (cell.Win w) h k = absurd (true≢false (sym h))
part_of_kind (Int lo hi) (cell.Mem ms) (cell.Mem ns) h k = absurd k
part_of_kind (Member i) (cell.Mem ms) (cell.Mem ns) h k = tt

-- ---- spaces with a cell changed

pairs_changed : {X Y : Type 0} (R : X → Y → Type 0) (xs : List X) (ys : List Y) (k : ℕ) (a b : Y) → Pairs R xs ys → slice_get ys k ≡ Some a
    → ((x : X) → R x a → R x b) → Pairs R xs (slice_set ys k b)
pairs_changed R [] [] k a b h e f = cc
pairs_changed R [] (y ∷ ys) k a b h e f = absurd h
pairs_changed R (x ∷ xs) [] k a b h e f = absurd h
pairs_changed R (x ∷ xs) (y ∷ ys) zero a b h e f = let same : y ≡ a = cc in (f x (subst (R x) same h.0), h.1)
pairs_changed R (x ∷ xs) (y ∷ ys) (suc k) a b h e f = (h.0, pairs_changed R xs ys k a b h.1 e f)

single_more : (space : List Abs) (k : ℕ) (a b : Abs) → slice_get space k ≡ Some a → (is_wide b ≡ true → is_wide a ≡ true)
    → single_count space ≤ single_count (slice_set space k b)
single_more [] k a b e h = cc
single_more (x ∷ space) zero a b e h =
    let same : x ≡ a = cc in
    ⊎_elim
    (λ (t : is_wide b ≡ true). rw (ap is_wide same ∙ h t, t) (omega arith))
    (λ (t : is_wide b ≡ false). rw t (at_most (is_wide x) (single_count space)))
    (cases_Bool (is_wide b))
  where
    at_most : (t : Bool) (n : ℕ) → cond t n (suc n) ≤ suc n
    at_most true n = omega arith
    at_most false n = omega arith
single_more (x ∷ space) (suc k) a b e h =
    more (is_wide x) (single_count space) (single_count (slice_set space k b)) (single_more space k a b e h)
  where
    more : (t : Bool) (m n : ℕ) → m ≤ n → cond t m (suc m) ≤ cond t n (suc n)
    more true m n l = l
    more false m n l = omega (arith, l)

module _ {W : ℕ} (w : World) (made : ℕ) (list : List (Cell W)) (k : ℕ) (part : Cell W) (p : IsPartAt list k part) where
  got : slice_get (map value_of list) k ≡ Some (value_of p.cell)
  got = item_at value_of list k p.cell p.got

  live_raised : IsLive w made (map value_of list) → IsLive w made (map value_of (slice_set list k part))
  live_raised h =
      let few = h.few in
      let more = single_more (map value_of list) k (value_of p.cell) (value_of part) got (wide_part p.cell part p.cell_valid p.part_valid p.above) in
      rw (map-set value_of list k part) (record {
        kinds = pairs_changed _ (cells w) (map value_of list) k (value_of p.cell) (value_of part) h.kinds got (λ c i. part_of_kind c.kind p.cell part p.above i);
        few = omega (arith, few, more);
      })

  pub live_if_raised : (live : Bool) → IsLiveIf w made (space_if live list) → IsLiveIf w made (space_if live (slice_set list k part))
  live_if_raised true h = live_raised h
  live_if_raised false h = h

-- ---- demands on the cells of a machine

pub space_is : {W : ℕ} (live : Bool) (list : List (Cell W)) (space : List Abs) → space_if live list ≡ Some space → (live ≡ true) × (map value_of list ≡ space)
space_is true list space e = (refl, cc)
space_is false list space e = cc

read_cell : {W : ℕ} (list : List (Cell W)) (k : ℕ) (c : Cell W) → slice_get list k ≡ Some c → cell_in (map value_of list) k ≡ value_of c
read_cell list k c e = get_or_from_slice_get (map value_of list) k (value_of c) (only_of (pos 0)) (item_at value_of list k c e)

-- the cell of a target
pub target_within : {W : ℕ} (op : Op) (live : Bool) (list : List (Cell W)) (k : ℕ) → IsTarget op (space_if live list) k → k < length list
target_within op true list k h = rw (length-map list value_of) at h.0
target_within op false list k h = absurd h

pub target_suits : {W : ℕ} (op : Op) (live : Bool) (list : List (Cell W)) (k : ℕ) (c : Cell W) → IsTarget op (space_if live list) k
    → slice_get list k ≡ Some c → Suits op (value_of c)
target_suits op true list k c h e = subst (Suits op) (read_cell list k c e) h.1
target_suits op false list k c h e = absurd h

-- the cell of an access is one that the operation suits
pub is_target : {W : ℕ} (w : World) (op : Op) (live : Bool) (list : List (Cell W)) (made x k : ℕ) (args : List ℤ) → live ≡ true
    → IsLiveIf w made (space_if live list) → x < length w.choices
    → cell_at w x args ≡ Some k → ((a : Abs) → IsOf (choice_of w x).kind a → Suits op a) → IsTarget op (space_if live list) k
is_target w op false list made x k args e h d at suits = absurd (true≢false (sym e))
is_target w op true list made x k args e h d at suits =
    let there = (cells_have_numbers w).access x k args d at in
    let c = pairs_item (λ c a. IsOf c.kind a) (cells w) (map value_of list) k _ h.kinds there in
    (c.1.0, suits (cell_in (map value_of list) k) (pairs_at (λ c a. IsOf c.kind a) (cells w) (map value_of list) k _ (cell_in (map value_of list) k) h.kinds there (c.1.1 ∙ ap (λ a. Some a) (sym (get_or_from_slice_get (map value_of list) k c.0 (only_of (pos 0)) c.1.1)))))
  where
    pairs_item : {X Y : Type 0} (R : X → Y → Type 0) (xs : List X) (ys : List Y) (k : ℕ) (x : X) → Pairs R xs ys → slice_get xs k ≡ Some x
        → (y : Y) × ((k < length ys) × (slice_get ys k ≡ Some y))
    pairs_item R [] ys k x h e = cc
    pairs_item R (x ∷ xs) [] k y h e = absurd h
    pairs_item R (x ∷ xs) (y ∷ ys) zero z h e = (y, (omega arith, refl))
    pairs_item R (x ∷ xs) (y ∷ ys) (suc k) z h e = let r = pairs_item R xs ys k z h.1 e in let l = r.1.0 in (r.0, (omega (arith, l), r.1.1))

module _ {W : ℕ} (m : Fields W) (op : Op) (b : Abs) (space : List Abs) (k to : ℕ) (c : Cell W) (there : space_if m.live m.row.cells ≡ Some space) (got : slice_get m.row.cells k ≡ Some c) where
  abbrev core : Core
  core = (view_of m).core

  at_cell : cell_in space k ≡ value_of c
  at_cell = ap (λ s. cell_in s k) (sym (space_is m.live m.row.cells space there).1) ∙ read_cell m.row.cells k c got

  pub demand_met : meets (op, b) (value_of c) ≡ true → on_demand (setup_in m) core space to core.stack (op, b) k ≡ record core { pc = m.pc + 1 }
  demand_met e = rw (at_cell, e) refl

  not_met : meets (op, b) (value_of c) ≡ false
      → on_demand (setup_in m) core space to core.stack (op, b) k ≡ on_raised (setup_in m) core space k to core.stack (raised (op, b) (value_of c))
  not_met e = rw (at_cell, e) refl

  pub demand_fails : meets (op, b) (value_of c) ≡ false → raised (op, b) (value_of c) ≡ None → on_demand (setup_in m) core space to core.stack (op, b) k ≡ record core { pc = to }
  demand_fails e f = not_met e ∙ ap (on_raised (setup_in m) core space k to core.stack) f

  pub demand_raises : (part : Cell W) → meets (op, b) (value_of c) ≡ false → raised (op, b) (value_of c) ≡ Some (value_of part)
      → on_demand (setup_in m) core space to core.stack (op, b) k ≡ record core { pc = m.pc + 1; space = space_if m.live (slice_set m.row.cells k part); queue = woken (setup_in m) k m.queue.waiting }
  demand_raises part e f =
      let is = space_is m.live m.row.cells space there in
      not_met e ∙ ap (on_raised (setup_in m) core space k to core.stack) f
      ∙ ap (λ (s : Option (List Abs)). record core { pc = m.pc + 1; space = s; queue = woken (setup_in m) k m.queue.waiting })
      (ap (λ s. Some (slice_set s k (value_of part))) (sym is.1) ∙ ap (λ s. Some s) (sym (map-set value_of m.row.cells k part)) ∙ sym (ap (λ t. space_if t (slice_set m.row.cells k part)) is.0))

-- the machine with a cell raised
pub sound_raised : {W : ℕ} (m : Fields W) (k : ℕ) (part : Cell W) (row : RowOf (Cell W)) (queue : TaskQueue) (pc : ℕ) → MachineInvariant m
    → IsPartAt m.row.cells k part
    → row ≡ record m.row { cells = slice_set m.row.cells k part } → queue.count ≡ m.queue.count → pc < 2 ^ 32 → MachineInvariant (record m { row = row; queue = queue; pc = pc })
sound_raised {W} m k part row queue pc inv p e same place = subst (λ (r : RowOf (Cell W)). MachineInvariant (record m { row = r; queue = queue; pc = pc })) (sym e) (record {
  fits = inv.fits;
  cells = record {
    cells = length-set m.row.cells k part ∙ inv.cells.cells;
    marks = inv.cells.marks;
    choices_fit = inv.cells.choices_fit;
    values_fit = inv.cells.values_fit;
    shown_fit = inv.cells.shown_fit;
  };
  ops = inv.ops;
  readers = inv.readers;
  plans = inv.plans;
  tasks = same ∙ inv.tasks;
  stack_room = inv.stack_room;
  registers_all = inv.registers_all;
  searched = record {
    marked = inv.searched.marked;
    origin = inv.searched.origin;
    space = live_if_raised (world_of m.code.schema m.inst) (length m.choices.latest) m.row.cells k part p m.live inv.searched.space;
    made = inv.searched.made;
  };
  place = place;
  counts = inv.counts;
})
