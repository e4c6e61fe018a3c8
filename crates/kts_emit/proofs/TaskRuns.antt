-- Bodies do what tasks ask: from any state that is ready, and from that after a task was taken.
use Rattle.std.proofs.Common.{◌≡◌, ℕ, zero, suc, ◌+◌, ◌<◌, ◌≤◌, inl, inr, ⊎_elim, List, [], ◌∷◌, ◌++◌, length, map, Some, refl, sym, ap, ◌∙◌, subst, arith, true}
use Rattle.std.specs.Prelude.{slice_get, slice_index_or, option_map, option_and_then}
use Rattle.std.specs.List.{range_with_len}
use Rattle.std.proofs.lemmas.List.{length-map}
use Rattle.std.proofs.lemmas.Option.{slice_get-get_or, slice_get-map, get_or_from_slice_get}
use Rattle.kts_abs.specs.declared.demand.Op.TheVariants.{AtLeast}
use Rattle.kts_abs.specs.Spaces.{IsSpace}
use Rattle.kts_abs.specs.Values.{Abs}
use Rattle.kts_abs.proofs.Listed.{In, each_in, map_in}
use Rattle.kts_base.specs.Limits.{most_variables}
use Rattle.kts_clause.specs.declared.clause.Clause.{Clause}
use Rattle.kts_code.specs.declared.instructions.Instr.{Instr}
use Rattle.kts_code.specs.declared.modes.Mode.TheVariants.{Going}
use Rattle.kts_code.specs.Machine.{fresh_registers}
use Rattle.kts_code.specs.Queues.{registers_of}
use Rattle.kts_code.specs.Setups.{Setup, world_in}
use Rattle.kts_code.specs.States.{State}
use Rattle.kts_code.proofs.Places.{HasAt, has_front, has_back}
use Rattle.kts_code.proofs.Systems.{and_then, at_once, steps_are}
use Rattle.kts_index.specs.TaskOrder.{Task, task_at, sizes_of_prefix}
use Rattle.kts_index.proofs.TaskNumbers.{tasks_have_numbers}
use Rattle.kts_plan.specs.declared.bound.Bound.TheVariants.{Rest}
use Rattle.kts_plan.specs.Asks.{asks, task_asks, asks_in}
use Rattle.kts_plan.specs.Constraints.{Constraint, constraints_of, prefixes_of, tasks_of}
use Rattle.kts_plan.specs.Plans.{clauses_of_spec}
use Rattle.kts_plan.proofs.NumberedItems.{got_in}
use Rattle.kts_plan.proofs.Tuples.{task_tuple}
use Rattle.kts_spec.specs.declared.spec.Spec.{Spec}
use Rattle.kts_spec.specs.Data.{is_valid}
use Rattle.kts_spec.specs.Schedules.{tuples}
use Rattle.kts_spec.specs.TypedValues.{InScope}
use Rattle.kts_spec.specs.Worlds.{World, size_of}
use Rattle.kts_emit.specs.Bodies.{body_code}
use Rattle.kts_emit.specs.BodyRuns.{HasDeclarations, body_places, DoesTask, BodiesDoWhatTasksAsk, DoBody, bodies_code, entries_from, with_task, some_weight, body_weight_of, TakenTasksDoWhatTheyAsk}
use Rattle.kts_emit.specs.BodyWeights.{body_weight, length_of_body}
use Rattle.kts_emit.specs.Effects.{Effect, Kept, Raised, Emptied, effect_of, HasMoved, HasDone}
use Rattle.kts_emit.specs.Pushes.{IsReady, HasVariables}
use Rattle.kts_emit.proofs.EmittedRuns.{there}
use Rattle.kts_emit.proofs.LongBodies.{bodies_have_length}
use Rattle.kts_emit.proofs.CodeRuns.{stands, context, named}
use Rattle.kts_emit.proofs.ConstraintRuns.{body_goes}
use Rattle.kts_emit.proofs.DemandSteps.{context_after, place_after, StandsIn, Ends}
use Rattle.kts_emit.proofs.SpaceValues.{ranged_above}
use Rattle.kts_emit.proofs.SpecConstraints.{constraint_typed}

-- ---- from a state that is ready

moved : (s s2 : State) (space space2 : List Abs) (queue2 : List ℕ) (place : ℕ) → s.core.mode ≡ Going → length s.core.registers ≡ most_variables
    → StandsIn (record (context s space) { space = space2; queue = queue2 }) place s.core.stack s2 → HasMoved place space2 queue2 s s2
moved s s2 space space2 queue2 place going count h = record {
  place_is = ap (λ (t : State). t.core.pc) h.is;
  space_is = ap (λ (t : State). t.core.space) h.is;
  queue_is = ap (λ (t : State). t.core.queue) h.is;
  stack = ap (λ (t : State). t.core.stack) h.is;
  registers = ap (λ (t : State). length t.core.registers) h.is ∙ h.count ∙ sym count;
  choices = ap (λ (t : State). t.core.choices) h.is;
  path = ap (λ (t : State). t.core.path) h.is;
  mode = ap (λ (t : State). t.core.mode) h.is ∙ sym going;
  items = ap (λ (t : State). t.items) h.is;
}

has_done : (m : Setup) (space : List Abs) (done fail : ℕ) (effect : Effect) (s s2 : State) → s.core.mode ≡ Going → length s.core.registers ≡ most_variables
    → StandsIn (context_after m (context s space) effect) (place_after done fail effect) s.core.stack s2 → HasDone m space done fail effect s s2
has_done m space done fail Kept s s2 going count h = moved s s2 space space s.core.queue done going count h
has_done m space done fail (Raised k a) s s2 going count h = moved s s2 space _ _ done going count h
has_done m space done fail Emptied s s2 going count h = moved s s2 space space s.core.queue fail going count h

body_does : (spec : Spec) (m : Setup) (space : List Abs) → HasDeclarations spec m.code.schema → is_valid m.code.schema m.inst ≡ true
    → IsSpace (world_in m) space → (d : ℕ) (c : Constraint) → slice_get (constraints_of (clauses_of_spec spec)) d ≡ Some c
    → (tuple : List ℕ) (done fail : ℕ) (s : State) → IsReady m space c.prefix tuple body_places s
    → HasAt m.code.instrs s.core.pc (body_code c done fail s.core.pc (length c.prefix))
    → DoesTask m space (asks (world_in m) tuple space c) done fail (body_weight (size_of (world_in m)) c) s
body_does spec m space same valid is_space d c e tuple done fail s ready has =
    let typed = constraint_typed spec m.code.schema same d c e in
    let ranged = ranged_above m.code.schema m.inst space valid is_space.above in
    let r = context s space in
    let effect = effect_of space (asks (world_in m) tuple space c) in
    let weight = body_weight (size_of (world_in m)) c in
    let run = body_goes m r valid is_space.above ranged c.prefix tuple done fail typed.few s.core.stack ready.room c typed.others typed.head s.core.pc
    s.core.registers has ready.registers ready.variables in
    let here = subst (λ z. Ends m r done fail s.core.stack effect z weight) (sym (named s space ready.going ready.within)) run in
    let as_long : weight + 0 ≡ weight = omega arith in
    steps_are as_long (and_then here (λ s2 h. at_once (has_done m space done fail effect s s2 ready.going ready.registers h)))

pub bodies_do_what_tasks_ask : BodiesDoWhatTasksAsk
bodies_do_what_tasks_ask spec m space same valid is_space d c e tuple done fail s ready there =
    body_does spec m space same valid is_space d c e tuple done fail s ready
    (stands m.code.instrs s.core.pc (body_code c done fail s.core.pc (length c.prefix)) there)

-- a body behind a buffer's instructions, in code that begins with both
pub body_runs : (c : Constraint) (done fail : ℕ) (old new : List Instr) → new ≡ old ++ body_code c done fail (length old) (length c.prefix)
    → DoBody c done fail (length old) new
body_runs c done fail old new is spec m space behind whole same valid is_space d e tuple s at ready =
    let n = length c.prefix in
    let stands_there = there (body_code c done fail) old new behind m.code.instrs n is whole s.core.pc at n refl in
    bodies_do_what_tasks_ask spec m space same valid is_space d c e tuple done fail s ready stands_there

-- ---- bodies one after the other

some_constraint : (a b : Constraint) → Some a ≡ Some b → a ≡ b
some_constraint a b e = cc

-- the body of each constraint stands at its entry
entry_has : (code : List Instr) (done fail : ℕ) (cs : List Constraint) (place k : ℕ) (c : Constraint) → slice_get cs k ≡ Some c
    → HasAt code place (bodies_code done fail cs place)
    → HasAt code (slice_index_or (entries_from place cs) k 0) (body_code c done fail (slice_index_or (entries_from place cs) k 0) (length c.prefix))
entry_has code done fail [] place k c e has = cc
entry_has code done fail (d ∷ cs) place zero c e has =
    subst (λ (c : Constraint). HasAt code place (body_code c done fail place (length c.prefix))) (some_constraint d c e)
    (has_front code place (body_code d done fail place (length d.prefix)) (bodies_code done fail cs (place + length_of_body d)) has)
entry_has code done fail (d ∷ cs) place (suc k) c e has =
    let first = body_code d done fail place (length d.prefix) in
    let next = place + length_of_body d in
    let back = has_back code place first (bodies_code done fail cs next) has in
    entry_has code done fail cs next k c e
    (subst (λ n. HasAt code (place + n) (bodies_code done fail cs next)) (bodies_have_length d done fail place (length d.prefix)) back)

-- ---- registers of a task

registers_count : (n : ℕ) (prefix tuple : List ℕ) → length (registers_of n prefix tuple) ≡ n
registers_count zero prefix tuple = refl
registers_count (suc n) [] tuple = ap suc (registers_count n [] [])
registers_count (suc n) (i ∷ prefix) [] = ap suc (registers_count n [] [])
registers_count (suc n) (i ∷ prefix) (m ∷ tuple) = ap suc (registers_count n prefix tuple)

registers_have : (w : World) (n : ℕ) (prefix tuple : List ℕ) → length prefix ≤ n → InScope w prefix tuple → HasVariables w prefix tuple (registers_of n prefix tuple)
registers_have w n [] [] le h = tt
registers_have w n [] (m ∷ tuple) le h = absurd h
registers_have w n (i ∷ prefix) [] le h = absurd h
registers_have w zero (i ∷ prefix) (m ∷ tuple) le h = absurd (omega arith)
registers_have w (suc n) (i ∷ prefix) (m ∷ tuple) le h = (refl, h.0, registers_have w n prefix tuple (omega arith) h.1)

range_below : (n a m : ℕ) → In m (range_with_len a n) → m < a + n
range_below zero a m h = absurd h
range_below (suc n) a m (inl e) = omega (arith, e)
range_below (suc n) a m (inr h) = let r = range_below n (a + 1) m h in omega (arith, r)

-- the members of a tuple are those of its indexes
tuple_in_scope : (w : World) (prefix tuple : List ℕ) → In tuple (tuples (sizes_of_prefix w prefix)) → InScope w prefix tuple
tuple_in_scope w [] tuple h = subst (InScope w []) (sym (⊎_elim (λ (e : tuple ≡ []). e) (λ z. absurd z) h)) tt
tuple_in_scope w (i ∷ prefix) tuple h =
    let f = each_in (λ m. map (λ (rest : List ℕ). m ∷ rest) (tuples (sizes_of_prefix w prefix))) tuple (range_with_len 0 (size_of w i)) h in
    let g = map_in (λ (rest : List ℕ). f.item ∷ rest) tuple (tuples (sizes_of_prefix w prefix)) f.is in
    let below = range_below (size_of w i) 0 f.item f.held in
    let less : f.item < size_of w i = omega (arith, below) in
    subst (InScope w (i ∷ prefix)) (sym g.is) (less, tuple_in_scope w prefix g.item g.held)

-- ---- the task of a number

abbrev no_constraint : Constraint
no_constraint = record { prefix = []; others = []; head = record { choice = 0; args = []; op = AtLeast; bound = Rest [] } }

-- a task that is there, with its constraint
record IsThere (w : World) (clauses : List Clause) (t : ℕ) (task : Task) : Type 0 where
  at : slice_get (tasks_of w clauses) t ≡ Some task
  constraint : Constraint
  of : slice_get (constraints_of clauses) task.definite ≡ Some constraint
  prefix : slice_index_or (prefixes_of clauses) task.definite [] ≡ constraint.prefix
  inside : InScope w constraint.prefix task.tuple

is_there : (w : World) (clauses : List Clause) (t : ℕ) → t < length (tasks_of w clauses) → IsThere w clauses t (task_at w (prefixes_of clauses) t)
is_there w clauses t less =
    let task = task_at w (prefixes_of clauses) t in
    let at = slice_get-get_or (tasks_of w clauses) t (record { definite = 0; tuple = [] }) less in
    let number = ((tasks_have_numbers w (prefixes_of clauses)).at t task).0 at in
    let many = length-map (constraints_of clauses) (λ (c : Constraint). c.prefix) in
    let declared : task.definite < length (constraints_of clauses) = omega (arith, number.declared, many) in
    let c = slice_index_or (constraints_of clauses) task.definite no_constraint in
    let of : slice_get (constraints_of clauses) task.definite ≡ Some c = slice_get-get_or (constraints_of clauses) task.definite no_constraint declared in
    let prefix = slice_get-map (λ (c : Constraint). c.prefix) (constraints_of clauses) task.definite ∙ ap (option_map (λ (c : Constraint). c.prefix)) of in
    record {
      at = at;
      constraint = c;
      of = of;
      prefix = get_or_from_slice_get (prefixes_of clauses) task.definite c.prefix [] prefix;
      inside = tuple_in_scope w c.prefix task.tuple (task_tuple w clauses task c (got_in (tasks_of w clauses) t task at) of);
    }

pub taken_tasks_do_what_they_ask : TakenTasksDoWhatTheyAsk
taken_tasks_do_what_they_ask spec m place done fail space has valid is_space t to queue s less going within =
    let w = world_in m in
    let clauses = clauses_of_spec spec in
    let same : task_at w m.code.schema.tasks t ≡ task_at w (prefixes_of clauses) t = ap (λ tasks. task_at w tasks t) has.tasks in
    let there = subst (IsThere w clauses t) (sym same) (is_there w clauses t less) in
    let task = task_at w m.code.schema.tasks t in
    let c = there.constraint in
    let typed = constraint_typed spec m.code.schema has.declarations task.definite c there.of in
    let prefix : slice_index_or m.code.schema.tasks task.definite [] ≡ c.prefix = ap (λ tasks. slice_index_or tasks task.definite []) has.tasks ∙ there.prefix in
    let fresh : fresh_registers m task ≡ registers_of most_variables c.prefix task.tuple = ap (λ l. registers_of most_variables l task.tuple) prefix in
    let variables = subst (HasVariables w c.prefix task.tuple) (sym fresh) (registers_have w most_variables c.prefix task.tuple typed.few there.inside) in
    let places = has.places in
    let s2 = with_task m to t queue s in
    let ready : IsReady m space c.prefix task.tuple body_places s2 = record {
      going = going;
      within = within;
      registers = ap (λ l. length l) fresh ∙ registers_count most_variables c.prefix task.tuple;
      variables = variables;
      room = omega arith;
    } in
    let all = stands m.code.instrs place (bodies_code done fail (constraints_of clauses) place) has.bodies in
    let entry : slice_index_or (entries_from place (constraints_of clauses)) task.definite 0 ≡ slice_index_or m.code.entries task.definite 0 =
    sym (ap (λ entries. slice_index_or entries task.definite 0) has.entries) in
    let body = subst (λ p. HasAt m.code.instrs p (body_code c done fail p (length c.prefix))) entry
    (entry_has m.code.instrs done fail (constraints_of clauses) place task.definite c there.of all) in
    let run = body_does spec m space has.declarations valid is_space task.definite c there.of task.tuple done fail s2 ready body in
    let asked : asks w task.tuple space c ≡ asks_in w clauses t space =
    sym (ap (option_and_then (task_asks w clauses space)) there.at ∙ ap (option_and_then (asks w task.tuple space)) there.of) in
    let weight : body_weight (size_of w) c ≡ body_weight_of w clauses t =
    sym (ap (λ (u : Task). some_weight w (slice_get (constraints_of clauses) u.definite)) (sym same) ∙ ap (some_weight w) there.of) in
    subst (λ o. DoesTask m space o done fail (body_weight_of w clauses t) s2) asked
    (subst (λ n. DoesTask m space (asks w task.tuple space c) done fail n s2) weight run)
