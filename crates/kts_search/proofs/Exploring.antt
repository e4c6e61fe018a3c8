-- The search of a space, in every order of tasks: its walk is written, within a number of steps.
use Rattle.std.proofs.Common.{◌≡◌, ◌≢◌, ℕ, zero, suc, ◌+◌, ◌*◌, ◌<◌, ◌≤◌, inl, inr, ⊎_elim, Bool, true, false, cond, List, [], ◌∷◌, ◌++◌, length, map, Option, Some, None, refl, sym, ap, ◌∙◌, subst, arith, append_assoc, length-append}
use Rattle.std.specs.Prelude.{option_map, is_some, slice_set}
use Rattle.std.proofs.Math.Nat.{mul-le-mul_right}
use Rattle.std.proofs.lemmas.List.{append-nil}
use Rattle.std.proofs.lemmas.Bool.{cases_Bool}
use Rattle.kts_abs.specs.Items.{Item, node, schedule}
use Rattle.kts_abs.specs.Spaces.{IsSpace, IsSide, is_wide, least_in, least_alone, least_dropped, split_cell, left, right, schedules_in}
use Rattle.kts_abs.specs.Values.{Abs}
use Rattle.kts_abs.proofs.Splits.{Changes, alone_changes, dropped_changes}
use Rattle.kts_abs.proofs.Sides.{split as split_space}
use Rattle.kts_base.specs.Limits.{most_variables}
use Rattle.kts_clause.specs.declared.clause.Clause.{Clause}
use Rattle.kts_code.specs.declared.instructions.Instr.TheVariants.{Node, Pick, Emit, Back, Jump}
use Rattle.kts_code.specs.Machine.{with_cell, on_pick}
use Rattle.kts_code.specs.Queues.{woken}
use Rattle.kts_code.specs.Reaches.{Reaches}
use Rattle.kts_code.specs.Setups.{Setup, world_in}
use Rattle.kts_code.specs.States.{Register, ChoicePoint}
use Rattle.kts_code.proofs.Systems.{at_once, and_then, in_more, less_known}
use Rattle.kts_emit.specs.Effects.{Kept}
use Rattle.kts_plan.specs.Plans.{clauses_of_spec}
use Rattle.kts_plan.specs.Solutions.{cell_at, IsLeast, Solves}
use Rattle.kts_plan.specs.Walks.{Walk, Nothing, Dropped, One, Both, passes}
use Rattle.kts_spec.specs.declared.spec.Spec.{Spec}
use Rattle.kts_spec.specs.Worlds.{World}
use Rattle.kts_search.specs.Bases.{Tracked, track}
use Rattle.kts_search.specs.Propagation.{IsRight, IsQueue, Settled, Least, Nothing as Unsolved, reader_count, tasks_left}
use Rattle.kts_search.specs.SearchCodes.{SearchCode, Stands, Stand, at}
use Rattle.kts_search.proofs.CellChanges.{cell_is, left_changed, fewer_schedules}
use Rattle.kts_search.proofs.Settling.{settle}
use Rattle.kts_search.proofs.Spaces.{side_is}
use Rattle.kts_search.proofs.TaskTurns.{begins, woken_queue}
use Rattle.kts_search.proofs.TaskWays.{with_path, way_right}
use Rattle.kts_search.proofs.TrackedRuns.{on, at_instr, at_plain, no_head, Lifted, Lift, lift}
use Rattle.kts_search.proofs.WaitingTasks.{few_woken}

-- the split cell is a cell of the space, and wide
record IsWideAt (t : List Abs) (k : ℕ) : Type 0 where
  inside : k < length t
  wide : is_wide (cell_at t k) ≡ true

later_wide : (a : Abs) (t : List Abs) (k : ℕ) (o : Option ℕ) → ((j : ℕ) → o ≡ Some j → IsWideAt t j) → option_map suc o ≡ Some k → IsWideAt (a ∷ t) k
later_wide a t k None h e = cc
later_wide a t k (Some j) h e =
    let i : suc j ≡ k = cc in
    let x = h j refl in
    subst (IsWideAt (a ∷ t)) i (record { inside = let y = x.inside in omega arith; wide = x.wide })

wide_at : (t : List Abs) (k : ℕ) → split_cell t ≡ Some k → IsWideAt t k
wide_at [] k e = cc
wide_at (a ∷ t) k e =
    ⊎_elim
    (λ (h : is_wide a ≡ true). let z = rw h at e in let i : 0 ≡ k = cc in subst (IsWideAt (a ∷ t)) i (record { inside = omega arith; wide = h }))
    (λ (h : is_wide a ≡ false). later_wide a t k (split_cell t) (λ j i. wide_at t j i) (rw h at e))
    (cases_Bool (is_wide a))

-- the length of a list that is not empty
some_length : {X : Type 0} (xs : List X) → xs ≢ [] → (n : ℕ) × (length xs ≡ suc n)
some_length [] h = absurd (h refl)
some_length (x ∷ xs) h = (length xs, refl)

-- three parts of a list
in_parts : {X : Type 0} (a b c : List X) (x : X) → ((a ++ x ∷ []) ++ b) ++ c ≡ a ++ (x ∷ b ++ c)
in_parts a b c x = append_assoc (a ++ x ∷ []) b c ∙ append_assoc a (x ∷ []) (b ++ c)

module _ (spec : Spec) (m : Setup) (task_weight filter_weight : ℕ) (code : SearchCode spec m task_weight filter_weight) where
  open code use {split, found, stop, placed, filter}

  abbrev w : World
  w = world_in m

  abbrev clauses : List Clause
  clauses = clauses_of_spec spec

  -- one side of a split of a solution is ready to be explored
  record IsReady (most path k : ℕ) (side : List Abs) : Type 0 where
    queue : IsQueue spec m side (woken m k [])
    left : path + tasks_left m side (woken m k []) ≤ most

  ready : (f : Abs → Abs) → Changes f → (most path k : ℕ) (t side : List Abs) → IsSide w t k f side → IsSpace w t → Solves w clauses t
      → split_cell t ≡ Some k
      → path + tasks_left m t [] ≤ most → IsReady most path k side
  ready f c most path k t side is space solves e le =
      let at_k = wide_at t k e in
      let a = cell_at t k in
      let cell = cell_is t k space.cells at_k.inside in
      let within = c.within a at_k.wide cell in
      let x = left_changed (reader_count m) t 0 k (f a) at_k.inside (c.room a at_k.wide cell) in
      let y = few_woken m k [] in
      let z : 0 + k ≡ k = omega arith in
      let zz = ap (reader_count m) z in
      let made : IsReady most path k (slice_set t k (f a)) = record {
        queue = woken_queue spec m task_weight filter_weight code t k (f a) [] space at_k.inside within (λ j i. absurd i) (λ j u. inr (inl (solves j)));
        left = omega arith;
      } in
      subst (IsReady most path k) (sym is.one_cell) made

  -- where the search of a space ends, with its walk written
  pub data Walked (most top : ℕ) (s : List Abs) (choices : List ChoicePoint) (out : List Item) : Tracked → Type 0 where
    Wrote : (registers : List Register) (t : List Abs) (q : List ℕ) (path : ℕ) (base : Option (List Abs)) (moves : ℕ) (items : List Item)
        → length registers ≡ most_variables
        → Walk w clauses s items → path ≤ most → moves ≤ top
        → Walked most top s choices out (on base moves (at (found + 1) registers t q choices path (out ++ items)))

  -- the same with what was written in another form
  wrote : (most top : ℕ) (s : List Abs) (choices : List ChoicePoint) (out list : List Item) (registers : List Register) (t : List Abs) (q : List ℕ) (path : ℕ) (base : Option (List Abs)) (moves : ℕ) (items : List Item)
      → length registers ≡ most_variables
      → Walk w clauses s items → path ≤ most → moves ≤ top → out ++ items ≡ list
      → Walked most top s choices out (on base moves (at (found + 1) registers t q choices path list))
  wrote most top s choices out list registers t q path base moves items len walk le few e =
      subst (λ l. Walked most top s choices out (on base moves (at (found + 1) registers t q choices path l))) e
      (Wrote registers t q path base moves items len walk le few)

  module _ (most : ℕ) where
    abbrev Runs : Tracked → ℕ → (Tracked → Type 0) → Type 0
    Runs x n P = Reaches (track m) (IsRight spec m most) x n P

    -- after the right side, the walk of the space is written
    ended : (top top2 : ℕ) (s t : List Abs) (k : ℕ) (choices : List ChoicePoint) (out a : List Item) → IsLeast w clauses s t
        → passes w clauses t ≡ true → split_cell t ≡ Some k → Walk w clauses (left t) a → top2 ≤ top
        → (x : Tracked) → Walked most top2 (right t) choices ((out ++ node t ∷ []) ++ a) x → Runs x 0 (Walked most top s choices out)
    ended top top2 s t k choices out a least pass e walk_l less x (Wrote registers t2 q2 path base moves d len walk_r le few) =
        let both = Both s t k a d least pass e walk_l walk_r in
        at_once (wrote most top s choices out (((out ++ node t ∷ []) ++ a) ++ d) registers t2 q2 path base moves (node t ∷ a ++ d) len both le
        (omega arith) (sym (in_parts out a d (node t))))

    -- after the left side, the last choice is undone and the run goes on with the right side
    undone : (top k path : ℕ) (l r t : List Abs) (choices : List ChoicePoint) (list : List Item) (n : ℕ) (P : Tracked → Type 0)
        → with_cell least_dropped k t ≡ r → path ≤ most
        → ((registers : List Register) (a : List Item) (moves : ℕ) → length registers ≡ most_variables → moves ≤ suc top → Walk w clauses l a
        → Runs (on (Some r) moves (at 1 registers r (woken m k []) choices path (list ++ a))) n P)
        → (x : Tracked) → Walked most top l (record { cell = k; space = t; path = path } ∷ choices) list x → Runs x (2 + n) P
    undone top k path l r t choices list n P is le next x (Wrote registers t2 q2 path2 base moves a len walk le2 few) =
        let more : List ChoicePoint = record { cell = k; space = t; path = path } ∷ choices in
        in_more (omega arith)
        (at_plain (at (found + 1) registers t2 q2 more path2 (list ++ a)).core (list ++ a) base moves (Back stop) refl placed.back refl (λ e. cc) le2 (λ pick.
        subst (λ z. Runs (on (Some z) (suc moves) (at (found + 1 + 1) registers z (woken m k []) choices path (list ++ a))) (1 + n) P) (sym is)
        (at_plain (at (found + 1 + 1) registers r (woken m k []) choices path (list ++ a)).core (list ++ a) (Some r) (suc moves)
        (Jump 1) refl placed.further refl (λ e. cc) le
        (λ pick2. next registers a (suc moves) len (omega arith) walk))))

    -- a space is explored from the head of the loop, whatever was done before
    abbrev Explores : ℕ → ℕ → Type 0
    Explores c n = (registers : List Register) (s : List Abs) (q : List ℕ) (choices : List ChoicePoint) (path moves : ℕ) (out : List Item) → length registers ≡ most_variables
        → length (schedules_in w s) ≤ suc n → IsSpace w s → IsQueue spec m s q → path + tasks_left m s q ≤ most
        → Runs (on (Some s) moves (at 1 registers s q choices path out)) ((1 + 2 * n) * c) (Walked most (moves + 2 * n) s choices out)

    module _ (c : ℕ) (c_is : 8 + most * task_weight + filter_weight ≤ c) where
      -- a wide solution is explored by its sides
      both_sides : (n moves : ℕ) (registers : List Register) (s t : List Abs) (choices : List ChoicePoint) (path : ℕ) (out : List Item) (k : ℕ)
          → length registers ≡ most_variables
          → length (schedules_in w t) ≤ suc n → IsLeast w clauses s t → path + tasks_left m t [] ≤ most → passes w clauses t ≡ true
          → split_cell t ≡ Some k
          → ((j : ℕ) → j < n → Explores c j)
          → Runs (on (Some (with_cell least_alone k t)) (suc moves) (at (split + 1) registers (with_cell least_alone k t) (woken m k [])
          (record { cell = k; space = t; path = path } ∷ choices) path (out ++ node t ∷ [])))
          (3 + 2 * n * c) (Walked most (moves + 2 * n) s choices out)
      both_sides n moves registers s t choices path out k len size least le pass e explore =
          let sp = split_space w t k least.space e in
          let l = left t in
          let r = right t in
          let more : List ChoicePoint = record { cell = k; space = t; path = path } ∷ choices in
          let ready_l = ready least_alone alone_changes most path k t l sp.left_side least.space least.solves e le in
          let ready_r = ready least_dropped dropped_changes most path k t r sp.right_side least.space least.solves e le in
          let n_l = some_length (schedules_in w l) sp.left_side.some in
          let n_r = some_length (schedules_in w r) sp.right_side.some in
          let sum : length (schedules_in w t) ≡ length (schedules_in w l) + length (schedules_in w r) = ap length sp.schedules
          ∙ length-append (schedules_in w l) (schedules_in w r) in
          let few : n_l.0 + n_r.0 + 1 ≤ n = omega (arith, n_l.1, n_r.1) in
          let size_l : length (schedules_in w l) ≤ suc n_l.0 = omega (arith, n_l.1) in
          let size_r : length (schedules_in w r) ≤ suc n_r.0 = omega (arith, n_r.1) in
          let list = out ++ node t ∷ [] in
          let top_l = suc moves + 2 * n_l.0 in
          let right_runs = λ (regs : List Register) (a : List Item) (moves_r : ℕ) (len_r : length regs ≡ most_variables) (few_r : moves_r ≤ suc top_l)
          (walk_l : Walk w clauses l a).
          and_then (explore n_r.0 (omega arith) regs r (woken m k []) choices path moves_r (list ++ a) len_r size_r sp.right_side.space ready_r.queue ready_r.left)
          (ended (moves + 2 * n) (moves_r + 2 * n_r.0) s t k choices out a least pass e walk_l (omega arith)) in
          let times : (n_l.0 + n_r.0 + 1) * c ≤ n * c = mul-le-mul_right c few in
          subst (λ z. Runs (on (Some z) (suc moves) (at (split + 1) registers z (woken m k []) more path list)) (3 + 2 * n * c)
          (Walked most (moves + 2 * n) s choices out)) (sym (side_is sp.left_side))
          (in_more (omega arith)
          (at_plain (at (split + 1) registers l (woken m k []) more path list).core list (Some l) (suc moves) (Jump 1) refl placed.deeper refl
          (λ e. cc) (omega arith) (λ pick.
          and_then (explore n_l.0 (omega arith) registers l (woken m k []) more path (suc moves) list len size_l sp.left_side.space ready_l.queue ready_l.left)
          (undone top_l k path l r t choices list ((1 + 2 * n_r.0) * c + 0) (Walked most (moves + 2 * n) s choices out) (side_is sp.right_side)
          (omega arith) right_runs))))

      -- a solution that passes is printed or explored by its sides
      picked : (n moves : ℕ) (registers : List Register) (s t : List Abs) (choices : List ChoicePoint) (path : ℕ) (out : List Item)
          → length registers ≡ most_variables
          → length (schedules_in w t) ≤ suc n → IsLeast w clauses s t → path + tasks_left m t [] ≤ most → passes w clauses t ≡ true
          → ((j : ℕ) → j < n → Explores c j) → (o : Option ℕ) → split_cell t ≡ o
          → (let y = on_pick m (at split registers t [] choices path (out ++ node t ∷ [])).core t found o in Runs
          (on (cond (is_some o) y.space (Some s)) (cond (is_some o) (suc moves) moves) (record { core = y; items = out ++ node t ∷ [] }))
          (3 + 2 * n * c) (Walked most (moves + 2 * n) s choices out))
      picked n moves registers s t choices path out len size least le pass explore None e =
          let list = out ++ node t ∷ [] in
          in_more (omega arith)
          (at_plain (at found registers t [] choices path list).core list (Some s) moves Emit refl placed.emit refl (λ e. cc) (omega arith) (λ pick.
          at_once (wrote most (moves + 2 * n) s choices out (list ++ schedule (map least_in t) ∷ []) registers t [] path (Some s) moves
          (node t ∷ schedule (map least_in t) ∷ []) len (One s t least pass e) (omega arith) (omega arith)
          (sym (append_assoc out (node t ∷ []) (schedule (map least_in t) ∷ []))))))
      picked n moves registers s t choices path out len size least le pass explore (Some k) e =
          both_sides n moves registers s t choices path out k len size least le pass e explore

      -- after the filters
      filtered : (n moves : ℕ) (s t : List Abs) (choices : List ChoicePoint) (path : ℕ) (out : List Item) → length (schedules_in w t) ≤ suc n
          → IsLeast w clauses s t → path + tasks_left m t [] ≤ most
          → ((j : ℕ) → j < n → Explores c j)
          → (v : Bool) → passes w clauses t ≡ v → (x : Tracked)
          → Lifted (Some s) moves (Stands (cond v split (found + 1)) t [] choices path (out ++ node t ∷ [])) x
          → Runs x (4 + 2 * n * c) (Walked most (moves + 2 * n) s choices out)
      filtered n moves s t choices path out size least le explore false pass x (Lift y (Stand registers len)) =
          in_more (omega arith) (at_once (Wrote registers t [] path (Some s) moves (node t ∷ []) len (Dropped s t least pass) (omega arith) (omega arith)))
      filtered n moves s t choices path out size least le explore true pass x (Lift y (Stand registers len)) =
          let list = out ++ node t ∷ [] in
          in_more (omega arith)
          (at_plain (at split registers t [] choices path list).core list (Some s) moves (Pick found) refl placed.pick refl (λ e. cc) (omega arith)
          (λ pick. picked n moves registers s t choices path out len size least le pass explore (split_cell t) refl))

      -- after the propagation
      settled : (n moves : ℕ) (s : List Abs) (choices : List ChoicePoint) (out : List Item) → length (schedules_in w s) ≤ suc n
          → ((j : ℕ) → j < n → Explores c j)
          → (x : Tracked) → Settled spec m s moves (found + 1) most choices out x
          → Runs x (1 + (filter_weight + (4 + 2 * n * c))) (Walked most (moves + 2 * n) s choices out)
      settled n moves s choices out size explore x (Unsolved registers t q path len none le) =
          in_more (omega arith)
          (at_once (wrote most (moves + 2 * n) s choices out out registers t q path (Some s) moves [] len (Nothing s none) le (omega arith) (append-nil out)))
      settled n moves s choices out size explore x (Least registers t path len least le) =
          let less = fewer_schedules w s t least.above in
          let here = at 2 registers t [] choices path out in
          let list = out ++ node t ∷ [] in
          let is_right : IsRight spec m most (on (Some s) moves here) = record {
            node = λ e. least;
            head = λ l. absurd (no_head m here Node placed.node refl l);
            path = omega arith;
          } in
          at_instr here.core out (Some s) moves Node refl placed.node is_right (λ pick.
          and_then (less_known (way_right spec m most path Kept s moves (omega arith) (λ e. cc))
          (lift (Some s) moves (λ y h. h.way.of_tasks) (with_path Kept (filter registers t choices path list len least.space))))
          (filtered n moves s t choices path out (omega arith) least le explore (passes w clauses t) refl))

      -- a space with at most n + 1 schedules takes at most 1 + 2 n rounds
      pub explore : (fuel n : ℕ) → n < fuel → Explores c n
      explore zero n less = absurd (omega arith)
      explore (suc fuel) n less = λ registers s q choices path moves out len size space queue few.
          in_more (omega arith)
          (and_then (settle spec m task_weight filter_weight code s most moves choices out most registers s q path len
          (begins spec m task_weight filter_weight code s q space queue) (omega arith) few)
          (settled n moves s choices out size (λ j k. explore fuel j (omega arith))))
