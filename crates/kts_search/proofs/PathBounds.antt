-- The tasks that may be left at an origin are at most as many as the bound on paths.
use Rattle.std.proofs.Common.{◌≡◌, ℕ, suc, ◌+◌, ◌*◌, ◌≤◌, ⊎_elim, true, ℤ, pos, ◌-ℤ◌, int_lt, nat_abs, List, [], ◌∷◌, length, map, sum_by, Some, refl, sym, ap, ◌∙◌, subst, arith}
use Rattle.std.specs.Prelude.{slice_get}
use Rattle.std.specs.List.{list_all, range_with_len}
use Rattle.std.proofs.Math.Nat.{mul-le-mul_left}
use Rattle.std.proofs.lemmas.Bool.{and_parts, and_from, true≢false}
use Rattle.std.proofs.lemmas.Int.{ints}
use Rattle.std.proofs.lemmas.List.FromFn.{length-range_with_len}
use Rattle.std.proofs.lemmas.List.Sums.{sum_by-cons}
use Rattle.std.proofs.lemmas.Option.{get_or_from_slice_get}
use Rattle.kts_base.proofs.Orders.{yes_int_lt}
use Rattle.kts_abs.specs.Spaces.{IsSpace, type_value}
use Rattle.kts_abs.specs.Values.{Abs, Win, Mem, Refines, has, is_cell, rises_from, room_of}
use Rattle.kts_abs.proofs.Rising.{has_head, has_rest, has_cases, member_above, positions_rise}
use Rattle.kts_abs.proofs.WindowEnds.{inside_from}
use Rattle.kts_code.specs.Queues.{all_tasks}
use Rattle.kts_code.specs.Setups.{Setup, world_in, cell_of}
use Rattle.kts_index.specs.Pairs.{pairs}
use Rattle.kts_index.specs.TaskBound.{rises_of, cell_bound, bound}
use Rattle.kts_index.proofs.BoundSums.{rises-int}
use Rattle.kts_index.proofs.TaskNumbers.{length-tasks}
use Rattle.kts_spec.specs.declared.declarations.ValueType.{ValueType}
use Rattle.kts_spec.specs.declared.declarations.ValueType.TheVariants.{Int, Member}
use Rattle.kts_spec.specs.Data.{task_count}
use Rattle.kts_spec.specs.Related.{Pairs}
use Rattle.kts_spec.specs.Schedules.{Cell, cells}
use Rattle.kts_spec.specs.Worlds.{World, size_of}
use Rattle.kts_search.specs.Propagation.{reader_count, rises_left, tasks_left}
use Rattle.kts_search.specs.Searches.{path_bound}
use Rattle.kts_search.proofs.WaitingTasks.{no_cell}

-- a rising list with its members in another is no longer
fewer_members : (n : ℤ) (ms ns : List ℤ) → rises_from n ms ≡ true → rises_from n ns ≡ true → ((m : ℤ) → has ms m ≡ true → has ns m ≡ true)
    → length ms ≤ length ns
fewer_members n [] ns r s h = omega arith
fewer_members n (x ∷ ms) [] r s h = absurd (true≢false (sym (h x (has_head x ms))))
fewer_members n (x ∷ ms) (y ∷ ns) r s h =
    let p = (and_parts (int_lt n x) (rises_from x ms) r).1 in
    let q = (and_parts (int_lt n y) (rises_from y ns) s).1 in
    ⊎_elim
    (λ (e : x ≡ y).
    let rest = fewer_members y ms ns (subst (λ z. rises_from z ms ≡ true) e p) q
    (λ m k. ⊎_elim (λ (same : m ≡ y). let above = member_above x ms m p k in absurd (omega (arith, ints))) (λ i. i) (has_cases y ns m (h m (has_rest x ms m k)))) in
    omega arith)
    (λ (i : has ns x ≡ true).
    let above = member_above y ns x q i in
    let rest = fewer_members y (x ∷ ms) ns (and_from (int_lt y x) (rises_from x ms) (yes_int_lt y x above) p) q
    (λ m k. ⊎_elim
    (λ (same : m ≡ y). absurd (⊎_elim (λ (e : m ≡ x). omega (arith, ints)) (λ l. let higher = member_above x ms m p l in omega (arith, ints)) (has_cases x ms m k)))
    (λ j. j)
    (has_cases y ns m (h m k))) in
    omega arith)
    (has_cases y ns x (h x (has_head x ms)))

-- a cell has at most the room of its type
room_part : (w : World) (kind : ValueType) (a : Abs) → Refines a (type_value w kind) → is_cell a ≡ true → room_of a ≤ rises_of w kind
room_part w (Int lo hi) (Win v) h c =
    let i = inside_from v (lo, hi) h in
    let le : nat_abs (v.1 -ℤ v.0) ≤ nat_abs (hi -ℤ lo) = omega (arith, ints, i.solid, i.low, i.high) in
    subst (λ n. room_of (Win v) ≤ n) (sym (rises-int w lo hi)) le
room_part w (Int lo hi) (Mem ms) h c = absurd h
room_part w (Member i) (Win v) h c = absurd h
room_part w (Member i) (Mem []) h c = absurd (true≢false (sym c))
room_part w (Member i) (Mem (x ∷ ms)) h c =
    let ns = map pos (range_with_len 0 (size_of w i)) in
    let low = pos 0 -ℤ pos 1 in
    let rise = positions_rise 0 (size_of w i) low (omega (arith, ints)) in
    let above = member_above low ns x rise (h.within x (has_head x ms)) in
    let few = fewer_members low (x ∷ ms) ns (and_from (int_lt low x) (rises_from x ms) (yes_int_lt low x above) c) rise h.within in
    omega (arith, few)

module _ (m : Setup) where
  abbrev w : World
  w = world_in m

  abbrev bound_of_cell : Cell → ℕ
  bound_of_cell = cell_bound m.code.index m.code.schema m.inst

  -- the sum over the cells from one on
  rises_bound : (cs : List Cell) (i : ℕ) (t : List Abs) → ((j : ℕ) (c : Cell) → slice_get cs j ≡ Some c → cell_of m (i + j) ≡ c)
      → Pairs Refines t (map (λ (c : Cell). type_value w c.kind) cs) → list_all is_cell t ≡ true
      → rises_left (reader_count m) i t ≤ sum_by bound_of_cell cs
  rises_bound [] i [] named h k = omega arith
  rises_bound [] i (a ∷ t) named h k = absurd h
  rises_bound (c ∷ cs) i [] named h k = absurd h
  rises_bound (c ∷ cs) i (a ∷ t) named h k =
      let p = and_parts (is_cell a) (list_all is_cell t) k in
      let zero_more : i + 0 ≡ i = omega arith in
      let same : cell_of m i ≡ c = ap (cell_of m) (sym zero_more) ∙ named 0 c refl in
      let readers_of = length (pairs m.code.index m.code.schema m.inst c.choice c.args) in
      let count : reader_count m i ≡ readers_of = ap (λ (d : Cell). length (pairs m.code.index m.code.schema m.inst d.choice d.args)) same in
      let less : readers_of * room_of a ≤ readers_of * rises_of w c.kind = mul-le-mul_left readers_of (room_part w c.kind a h.0 p.0) in
      let times : reader_count m i * room_of a ≡ readers_of * room_of a = ap (λ n. n * room_of a) count in
      let rest = rises_bound cs (suc i) t (λ j d e. let next : suc i + j ≡ i + suc j = omega arith in ap (cell_of m) next ∙ named (suc j) d e) h.1 p.1 in
      omega (arith, sum_by-cons bound_of_cell c cs, less, times, rest)

  -- all of them
  pub path_within : (t : List Abs) → IsSpace w t → tasks_left m t (all_tasks m) ≤ path_bound m
  unfolding bound
  path_within t space =
      let none_more : (j : ℕ) → 0 + j ≡ j = λ j. omega arith in
      let rises = rises_bound (cells w) 0 t (λ j c e. ap (cell_of m) (none_more j) ∙ get_or_from_slice_get (cells w) j c no_cell e) space.above space.cells in
      omega (arith, rises, length-range_with_len 0 (task_count w m.code.schema.tasks), length-tasks w 0 m.code.schema.tasks)
