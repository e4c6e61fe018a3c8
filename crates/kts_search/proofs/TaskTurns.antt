-- One task is taken, whichever it is: what is kept, and that fewer are left.
use Rattle.std.proofs.Common.{◌≡◌, ℕ, ◌+◌, ◌<◌, ◌≤◌, ◌⊎◌, inl, inr, ⊎_elim, Bool, true, false, cond, List, length, slice_set, Option, Some, None, refl, sym, ap, ◌∙◌, subst, arith}
use Rattle.std.proofs.lemmas.Bool.{cases_Bool, cases_eq, cases_lt}
use Rattle.kts_abs.specs.Demands.{Demand, Meets, Suits, meets, raised}
use Rattle.kts_abs.specs.Spaces.{IsAbove, IsSpace}
use Rattle.kts_abs.specs.Values.{Abs, Refines, is_cell}
use Rattle.kts_abs.proofs.Listed.{In}
use Rattle.kts_abs.proofs.Raises.{demands_are_met, met_demands_stay, raises_lower_room}
use Rattle.kts_abs.proofs.Splits.{above_along, above_self}
use Rattle.kts_clause.specs.declared.clause.Clause.{Clause}
use Rattle.kts_code.specs.Queues.{all_tasks, waits, woken}
use Rattle.kts_code.specs.Setups.{Setup, world_in}
use Rattle.kts_emit.specs.Effects.{Effect, Kept, Raised, Emptied, effect_of, effect_of_raise}
use Rattle.kts_plan.specs.Asks.{asks_in}
use Rattle.kts_plan.specs.Plans.{clauses_of_spec}
use Rattle.kts_plan.specs.Solutions.{cell_at, asked_is_met, is_met, Solves, NoneAbove}
use Rattle.kts_plan.specs.TaskReads.{is_paired_with}
use Rattle.kts_plan.proofs.AskedCells.{asks_are_of_cells}
use Rattle.kts_plan.proofs.NarrowerBounds.{asks_are_monotone}
use Rattle.kts_plan.proofs.UnreadCells.{unread_cells}
use Rattle.kts_spec.specs.declared.spec.Spec.{Spec}
use Rattle.kts_spec.specs.Data.{task_count}
use Rattle.kts_spec.specs.Worlds.{World}
use Rattle.kts_search.specs.Propagation.{IsQueue, reader_count, tasks_left}
use Rattle.kts_search.specs.SearchCodes.{SearchCode}
use Rattle.kts_search.proofs.CellChanges.{get_changed, get_other, cell_is, suits_part, above_get, above_changed, changed_above, space_changed, left_changed}
use Rattle.kts_search.proofs.WaitingTasks.{waits_in, in_waits, Popped, still_waits, is_woken, waited_or_woken, few_woken, all_wait, all_are_tasks, reader_is_task, paired_reader, past_tasks}

module _ (spec : Spec) (m : Setup) (task_weight filter_weight : ℕ) (code : SearchCode spec m task_weight filter_weight) where
  open code use {declared, covers}

  abbrev w : World
  w = world_in m

  abbrev clauses : List Clause
  clauses = clauses_of_spec spec

  -- ---- what is asked

  asked_inside : (k : ℕ) (t : List Abs) (a : ℕ × Demand) → IsSpace w t → asks_in w clauses k t ≡ Some a → a.0 < length t
  asked_inside k t a = subst (λ v. IsSpace v t → asks_in v clauses k t ≡ Some a → a.0 < length t) (sym declared.world) (asks_are_of_cells.cell spec m.inst k t a)

  asked_suits : (k : ℕ) (t : List Abs) (a : ℕ × Demand) → IsSpace w t → asks_in w clauses k t ≡ Some a → Suits a.1.0 (cell_at t a.0)
  asked_suits k t a =
      subst (λ v. IsSpace v t → asks_in v clauses k t ≡ Some a → Suits a.1.0 (cell_at t a.0)) (sym declared.world) (asks_are_of_cells.suits spec m.inst k t a)

  -- ---- queues

  -- all tasks are a queue for every space
  pub all_queue : (t : List Abs) → IsQueue spec m t (all_tasks m)
  all_queue t = record {
    tasks = λ k h. all_are_tasks m k (waits_in (all_tasks m) k h);
    unmet = λ k.
        ⊎_elim
        (λ (less : k < task_count w m.code.schema.tasks). inl (in_waits (all_tasks m) k (all_wait m k less)))
        (λ (le : task_count w m.code.schema.tasks ≤ k).
        let none = asks_are_of_cells.none w clauses k t (past_tasks m clauses declared.tasks covers k le) in
        inr (subst (λ o. asked_is_met o t ≡ true) (sym none) refl))
        (cases_lt k (task_count w m.code.schema.tasks));
  }

  -- where a cell has changed, what was met is met
  met_after : (o : Option (ℕ × Demand)) (t : List Abs) (c : ℕ) (v : Abs) → c < length t → Refines v (cell_at t c) → asked_is_met o t ≡ true
      → asked_is_met o (slice_set t c v) ≡ true
  met_after None t c v h le e = refl
  met_after (Some a) t c v h le e =
      ⊎_elim
      (λ (same : c ≡ a.0).
      let new : cell_at (slice_set t c v) a.0 ≡ v = ap (λ n. cell_at (slice_set t c v) n) (sym same) ∙ get_changed t c v h in
      let below = subst (λ n. Refines v (cell_at t n)) same le in
      subst (λ x. meets a.1 x ≡ true) (sym new) (met_demands_stay.narrower a.1 (cell_at t a.0) v below e))
      (λ (other : c ≡ a.0 → ⊥). subst (λ x. meets a.1 x ≡ true) (sym (get_other t c a.0 v other)) e)
      (cases_eq c a.0)

  -- where a cell that a task does not read has changed, what the task asked is met as before
  still_met : (j c : ℕ) (t : List Abs) (v : Abs) → IsSpace w t → is_paired_with w clauses j c ≡ false → c < length t → Refines v (cell_at t c)
      → is_met w clauses j t ≡ true → is_met w clauses j (slice_set t c v) ≡ true
  still_met j c t v s unpaired h le e =
      subst (λ o. asked_is_met o (slice_set t c v) ≡ true) (sym (unread_cells w clauses j c t v s h unpaired)) (met_after (asks_in w clauses j t) t c v h le e)

  -- after a cell has changed, the queue with its readers holds all that is not met
  pub woken_queue : (t : List Abs) (c : ℕ) (v : Abs) (q : List ℕ) → IsSpace w t → c < length t → Refines v (cell_at t c)
      → ((k : ℕ) → In k q → k < task_count w m.code.schema.tasks)
      → ((j : ℕ) → is_paired_with w clauses j c ≡ false → In j q ⊎ ((is_met w clauses j t ≡ true) ⊎ (is_met w clauses j (slice_set t c v) ≡ true)))
      → IsQueue spec m (slice_set t c v) (woken m c q)
  woken_queue t c v q s h le real met = record {
    tasks = λ k e. ⊎_elim (λ i. real k i) (λ i. reader_is_task m c k i) (waited_or_woken m c q k (waits_in (woken m c q) k e));
    unmet = λ j.
        ⊎_elim
        (λ (x : is_paired_with w clauses j c ≡ true). inl (in_waits (woken m c q) j (is_woken m c q j (paired_reader m clauses declared.tasks covers j c x))))
        (λ (x : is_paired_with w clauses j c ≡ false).
        ⊎_elim
        (λ (i : In j q). inl (in_waits (woken m c q) j (still_waits m c q j i)))
        (λ z. ⊎_elim (λ (y : is_met w clauses j t ≡ true). inr (still_met j c t v s x h le y)) (λ y. inr y) z)
        (met j x))
        (cases_Bool (is_paired_with w clauses j c));
  }

  -- ---- what every turn keeps

  -- t lies between s and all solutions above s, and all tasks that it does not meet wait
  pub record IsBetween (s t : List Abs) (q : List ℕ) : Type 0 where
    pub space : IsSpace w t
    pub above : IsAbove s t
    pub below : (u : List Abs) → IsSpace w u → IsAbove s u → Solves w clauses u → IsAbove t u
    pub queue : IsQueue spec m t q

  -- what follows from a turn in t, while the rest wait
  abbrev pub Follows : List Abs → List Abs → List ℕ → ℕ → Effect → Type 0
  Follows s t rest n Kept = IsBetween s t rest × (tasks_left m t rest < n)
  Follows s t rest n (Raised c a) = IsBetween s (slice_set t c a) (woken m c rest) × (tasks_left m (slice_set t c a) (woken m c rest) < n)
  Follows s t rest n Emptied = NoneAbove w clauses s

  pub begins : (s : List Abs) (q : List ℕ) → IsSpace w s → IsQueue spec m s q → IsBetween s s q
  begins s q h queue = record { space = h; above = above_self s h.cells; below = λ u i le z. le; queue = queue }

  module _ (s t : List Abs) (k : ℕ) (rest : List ℕ) (space : IsSpace w t) (above : IsAbove s t)
      (below : (u : List Abs) → IsSpace w u → IsAbove s u → Solves w clauses u → IsAbove t u)
      (real : (j : ℕ) → In j rest → j < task_count w m.code.schema.tasks)
      (met : (j : ℕ) → (j ≡ k) ⊎ (In j rest ⊎ (is_met w clauses j t ≡ true))) (n : ℕ) (less : tasks_left m t rest < n) where
    -- the task that was taken is met
    is_done : is_met w clauses k t ≡ true → Follows s t rest n Kept
    is_done e = (
      record {
        space = space;
        above = above;
        below = below;
        queue = record {
          tasks = λ j h. real j (waits_in rest j h);
          unmet = λ j. ⊎_elim (λ (z : j ≡ k). inr (subst (λ i. is_met w clauses i t ≡ true) (sym z) e))
              (λ z. ⊎_elim (λ i. inl (in_waits rest j i)) (λ y. inr y) z) (met j);
        };
      },
      less,
    )

    -- the cell that is asked for
    module _ (a : ℕ × Demand) (asked : asks_in w clauses k t ≡ Some a) where
      c_in : a.0 < length t
      c_in = asked_inside k t a space asked

      abbrev now : Abs
      now = cell_at t a.0

      cell : is_cell now ≡ true
      cell = cell_is t a.0 space.cells c_in

      suits : Suits a.1.0 now
      suits = asked_suits k t a space asked

      -- in a solution above, the cell is a part that meets the demand
      part_in : (u : List Abs) → IsSpace w u → IsAbove s u → Solves w clauses u → Refines (cell_at u a.0) now
      part_in u i h sol = above_get t u a.0 (below u i h sol) c_in

      met_in : (u : List Abs) → IsSpace w u → IsAbove s u → Solves w clauses u → meets a.1 (cell_at u a.0) ≡ true
      met_in u i h sol = asks_are_monotone.met w clauses k t u a (below u i h sol) asked (sol k)

      -- what the test of a part means
      part_means : (v : Abs) → Refines v now → meets a.1 v ≡ true → Meets a.1 v
      part_means v h e = (demands_are_met a.1.0 a.1.1 v (suits_part a.1.0 now v suits h)).test.0 e

      raised_follows : (o : Option Abs) → meets a.1 now ≡ false → raised a.1 now ≡ o → Follows s t rest n (effect_of_raise a.0 o)
      raised_follows None unmet r = record {
        none =
            λ u i h sol. (demands_are_met a.1.0 a.1.1 now suits).none r (cell_at u a.0) (part_in u i h sol)
            (part_means (cell_at u a.0) (part_in u i h sol) (met_in u i h sol));
      }
      raised_follows (Some v) unmet r =
          let c = a.0 in
          let up = (demands_are_met a.1.0 a.1.1 now suits).some v r in
          let new_cell = raises_lower_room.cell a.1.0 a.1.1 now v suits cell r in
          let room = raises_lower_room.less a.1.0 a.1.1 now v suits cell unmet r in
          let new_met : meets a.1 v ≡ true = (demands_are_met a.1.0 a.1.1 v (suits_part a.1.0 now v suits up.part)).test.1 up.met in
          let x = left_changed (reader_count m) t 0 c v c_in room in
          let y = few_woken m c rest in
          let z : 0 + c ≡ c = omega arith in
          let zz = ap (reader_count m) z in (
            record {
              space = space_changed w t c v space new_cell up.part c_in;
              above = above_along s t (slice_set t c v) (above_changed t c v space.cells up.part c_in) above;
              below =
                  λ u i h sol. changed_above t u c v (below u i h sol)
                  (up.greatest (cell_at u c) (part_in u i h sol) (part_means (cell_at u c) (part_in u i h sol) (met_in u i h sol)));
              queue = woken_queue t c v rest space c_in up.part real
                  (λ j unpaired. ⊎_elim
                  (λ (same : j ≡ k).
                  let e : asks_in w clauses j (slice_set t c v) ≡ Some a = unread_cells w clauses j c t v space c_in unpaired
                  ∙ ap (λ i. asks_in w clauses i t) same ∙ asked in
                  inr (inr (subst (λ o. asked_is_met o (slice_set t c v) ≡ true) (sym e) (subst (λ b. meets a.1 b ≡ true) (sym (get_changed t c v c_in)) new_met))))
                  (λ z. ⊎_elim (λ (i : In j rest). inl i) (λ (e : is_met w clauses j t ≡ true). inr (inl e)) z)
                  (met j));
            },
            omega arith,
          )

      demand_follows : (b : Bool) → meets a.1 now ≡ b → Follows s t rest n (cond b Kept (effect_of_raise a.0 (raised a.1 now)))
      demand_follows true e = is_done (subst (λ o. asked_is_met o t ≡ true) (sym asked) e)
      demand_follows false e = raised_follows (raised a.1 now) e refl

      some_follows : Follows s t rest n (effect_of t (Some a))
      some_follows = demand_follows (meets a.1 now) refl

    follows_asked : (o : Option (ℕ × Demand)) → asks_in w clauses k t ≡ o → Follows s t rest n (effect_of t o)
    follows_asked None e = is_done (subst (λ o. asked_is_met o t ≡ true) (sym e) refl)
    follows_asked (Some a) e = some_follows a e

  -- whichever task is taken, the facts are kept and fewer tasks are left, or there is no solution
  pub follows : (s t : List Abs) (q : List ℕ) (k : ℕ) (rest : List ℕ) → IsBetween s t q → Popped q k rest
      → Follows s t rest (tasks_left m t q) (effect_of t (asks_in w clauses k t))
  follows s t q k rest kept pop =
      follows_asked s t k rest kept.space kept.above kept.below
      (λ j i. kept.queue.tasks j (in_waits q j (pop.back j (inr i))))
      (λ j. ⊎_elim (λ (e : waits q j ≡ true). ⊎_elim (λ z. inl z) (λ z. inr (inl z)) (pop.out j (waits_in q j e))) (λ e. inr (inr e)) (kept.queue.unmet j))
      (tasks_left m t q) (let e = pop.size in omega arith) (asks_in w clauses k t) refl

  -- a task that waits is a task
  pub popped_task : (s t : List Abs) (q : List ℕ) (k : ℕ) (rest : List ℕ) → IsBetween s t q → Popped q k rest → k < task_count w m.code.schema.tasks
  popped_task s t q k rest kept pop = kept.queue.tasks k (in_waits q k (pop.back k (inl refl)))
