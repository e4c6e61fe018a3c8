-- Runs told by the tasks that they take, and runs told by places in the queue, are the same.
use Rattle.std.proofs.Common.{◌≡◌, ℕ, zero, suc, ◌<◌, List, [], ◌∷◌, ◌++◌, length, true, false, cond, ◌&&◌, Option, Some, None, refl, sym, ap, ◌∙◌, subst, arith, ⊎_elim}
use Rattle.std.specs.Prelude.{slice_get, is_some, nat_lt}
use Rattle.std.proofs.lemmas.Bool.{cases_Bool, and_parts}
use Rattle.kts_abs.specs.Values.{Abs}
use Rattle.kts_code.specs.declared.instructions.Instr.{Instr}
use Rattle.kts_code.specs.declared.instructions.Instr.TheVariants as i
use Rattle.kts_code.specs.declared.modes.Mode.{Mode}
use Rattle.kts_code.specs.declared.modes.Mode.TheVariants.{Going, Halted, Trapped}
use Rattle.kts_code.specs.Machine.{act, written, add_item, step_in, step, steps, run_of, on_take, oldest}
use Rattle.kts_code.specs.NamedTasks.{has_tasks, takes_by, takes_in, takes, IsStep, Taken, NoneTaken, IsRun, Opening, Further, RunsNameTasks}
use Rattle.kts_code.specs.Operands.{with_space}
use Rattle.kts_code.specs.Queues.{pop, put_front}
use Rattle.kts_code.specs.Setups.{Setup}
use Rattle.kts_code.specs.States.{Core, State, opening}
use Rattle.kts_code.proofs.Systems.{steps_agree}
use Rattle.kts_code.proofs.Runs.{any_pick}

-- the task at a place of a queue, and those before and behind it
record Popped (pick : ℕ) (queue : List ℕ) : Type 0 where
  task : ℕ
  before : List ℕ
  behind : List ℕ
  popped : pop pick queue ≡ Some (task, before ++ behind)
  whole : queue ≡ before ++ task ∷ behind

-- at each place of a queue that is not empty there is one
pop_splits : (pick t : ℕ) (queue : List ℕ) → Popped pick (t ∷ queue)
pop_splits zero t queue = record { task = t; before = []; behind = queue; popped = refl; whole = refl }
pop_splits (suc pick) t [] = record { task = t; before = []; behind = []; popped = refl; whole = refl }
pop_splits (suc pick) t (u ∷ queue) =
    let p = pop_splits pick u queue in
    record { task = p.task; before = t ∷ p.before; behind = p.behind; popped = ap (put_front t) p.popped; whole = ap (λ l. t ∷ l) p.whole }

-- each waiting task is at a place
pop_at : (before : List ℕ) (t : ℕ) (behind : List ℕ) → pop (length before) (before ++ t ∷ behind) ≡ Some (t, before ++ behind)
pop_at [] t behind = refl
pop_at (u ∷ []) t behind = refl
pop_at (u ∷ v ∷ before) t behind = ap (put_front u) (pop_at (v ∷ before) t behind)

-- what is known where a step takes a task
record Taking (m : Setup) (c : Core) : Type 0 where
  going : c.mode ≡ Going
  to : ℕ
  at : slice_get m.code.instrs c.pc ≡ Some (i.Take to)
  space : List Abs
  within : c.space ≡ Some space
  first : ℕ
  others : List ℕ
  waiting : c.queue ≡ first ∷ others

taking_in : (mode : Mode) (m : Setup) (c : Core) → takes_in mode m c ≡ true → (mode ≡ Going) × (takes_by (slice_get m.code.instrs c.pc) c ≡ true)
taking_in Going m c e = (refl, e)
taking_in Halted m c e = cc
taking_in (Trapped _) m c e = cc

taking_by : (o : Option Instr) (c : Core) → takes_by o c ≡ true → (to : ℕ) × (o ≡ Some (i.Take to)) × ((is_some c.space && has_tasks c.queue) ≡ true)
taking_by (Some (i.Take to)) c e = (to, refl, e)
taking_by _ c e = cc

some_space : (o : Option (List Abs)) → is_some o ≡ true → (space : List Abs) × (o ≡ Some space)
some_space None e = cc
some_space (Some space) e = (space, refl)

some_task : (queue : List ℕ) → has_tasks queue ≡ true → (t : ℕ) × (others : List ℕ) × (queue ≡ t ∷ others)
some_task [] e = cc
some_task (t ∷ queue) e = (t, queue, refl)

taking : (m : Setup) (c : Core) → takes m c ≡ true → Taking m c
taking m c e =
    let a = taking_in c.mode m c e in
    let b = taking_by (slice_get m.code.instrs c.pc) c a.1 in
    let p = and_parts (is_some c.space) (has_tasks c.queue) b.2 in
    let s = some_space c.space p.0 in
    let q = some_task c.queue p.1 in
    record { going = a.0; to = b.0; at = b.1; space = s.0; within = s.1; first = q.0; others = q.1; waiting = q.2 }

-- the step that takes the task at a place
take_step : (m : Setup) (pick : ℕ) (s : State) (k : Taking m s.core) (r : ℕ × List ℕ) → pop pick s.core.queue ≡ Some r
    → step m pick s ≡ record { core = on_take m s.core k.to (Some r); items = s.items }
take_step m pick s k r popped =
    ap (λ mode. step_in mode m pick s) k.going
    ∙ ap (λ o. let x : State = record { core = act m pick o s.core; items = add_item (written o s.core) s.items } in x) k.at
    ∙ ap (λ o. let x : State = record { core = with_space o s.core (λ space. on_take m s.core k.to (pop pick s.core.queue)); items = s.items } in x) k.within
    ∙ ap (λ o. let x : State = record { core = on_take m s.core k.to o; items = s.items } in x) popped

-- a step that takes no task, whatever is picked
quiet_step : (mode : Mode) (m : Setup) (p q : ℕ) (s : State) → takes_in mode m s.core ≡ false → step_in mode m p s ≡ step_in mode m q s
quiet_step Going m p q s e =
    let o = slice_get m.code.instrs s.core.pc in
    ap (λ c. let x : State = record { core = c; items = add_item (written o s.core) s.items } in x) (any_pick m p q o s.core e)
quiet_step Halted m p q s e = refl
quiet_step (Trapped _) m p q s e = refl

pub picks_matter : (m : Setup) (s : State) (p q : ℕ) → takes m s.core ≡ false → step m p s ≡ step m q s
picks_matter m s p q e = quiet_step s.core.mode m p q s e

-- a step by a place, told by the task
step_named : (m : Setup) (pick : ℕ) (s : State) → (tasks : List ℕ) × IsStep m s tasks (step m pick s)
step_named m pick s =
    ⊎_elim
    (λ (yes : takes m s.core ≡ true).
    let k = taking m s.core yes in
    let p = pop_splits pick k.first k.others in
    let popped = ap (pop pick) k.waiting ∙ p.popped in
    let whole = k.waiting ∙ p.whole in
    (p.task ∷ [], subst (IsStep m s (p.task ∷ [])) (sym (take_step m pick s k (p.task, p.before ++ p.behind) popped)) (Taken s k.to p.task p.before p.behind yes k.at whole)))
    (λ (no : takes m s.core ≡ false). ([], subst (IsStep m s []) (picks_matter m s 0 pick no) (NoneTaken s no)))
    (cases_Bool (takes m s.core))

-- a step told by its task, by a place
step_placed : (m : Setup) (s : State) (tasks : List ℕ) (s2 : State) → IsStep m s tasks s2 → (pick : ℕ) × (step m pick s ≡ s2)
step_placed m _ _ _ (Taken s to t before behind taken at whole) =
    let k = taking m s.core taken in
    let same : k.to ≡ to = cc in
    let popped = ap (pop (length before)) whole ∙ pop_at before t behind in
    (length before, take_step m (length before) s k (t, before ++ behind) popped ∙ ap (λ l. let x : State = record { core = on_take m s.core l (Some (t, before ++ behind)); items = s.items } in x) same)
step_placed m _ _ _ (NoneTaken s none) = (0, refl)

-- these picks for the first n steps, and then this one
abbrev extended : (ℕ → ℕ) → ℕ → ℕ → ℕ → ℕ
extended picks n pick k = cond (nat_lt k n) (picks k) pick

pub named : (m : Setup) (picks : ℕ → ℕ) (n : ℕ) → (tasks : List ℕ) × IsRun m tasks n (run_of m picks n)
named m picks zero = ([], Opening)
named m picks (suc n) =
    let r = named m picks n in
    let s = step_named m (picks n) (run_of m picks n) in
    (r.0 ++ s.0, Further r.0 s.0 n (run_of m picks n) (step m (picks n) (run_of m picks n)) r.1 s.1)

pub placed : (m : Setup) (tasks : List ℕ) (n : ℕ) (s : State) → IsRun m tasks n s → (picks : ℕ → ℕ) × (run_of m picks n ≡ s)
placed m _ _ _ Opening = (oldest, refl)
placed m _ _ _ (Further tasks more n s s2 run next) =
    let r = placed m tasks n s run in
    let p = step_placed m s more s2 next in
    let all = extended r.0 n p.0 in
    let first : (k : ℕ) → k < n → all k ≡ r.0 k = λ k less. let e : nat_lt k n ≡ true = search arith in ap (λ b. cond b (r.0 k) p.0) e in
    let last : all n ≡ p.0 = let e : nat_lt n n ≡ false = search arith in ap (λ b. cond b (r.0 n) p.0) e in
    (all, ap (λ k. step m k (steps (step m) all n opening)) last ∙ ap (step m p.0) (steps_agree (step m) all r.0 n opening first ∙ r.1) ∙ p.1)

pub runs_name_tasks : (m : Setup) → RunsNameTasks m
runs_name_tasks m = record { named = named m; placed = placed m }
