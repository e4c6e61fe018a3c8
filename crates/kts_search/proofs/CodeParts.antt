-- The code of a specification has the parts of a search.
use Rattle.std.proofs.Common.{◌≡◌, ℕ, suc, ◌+◌, ◌<◌, ◌≤◌, inl, inr, List, [], ◌∷◌, ◌++◌, length, map, fold, Some, true, cond, not, refl, sym, ap, ◌∙◌, subst, arith, append_assoc, length-append}
use Rattle.std.specs.Prelude.{max, slice_get}
use Rattle.std.specs.List.{list_all}
use Rattle.std.proofs.lemmas.List.{append-nil}
use Rattle.std.proofs.lemmas.Option.{slice_get-get_or}
use Rattle.kts_abs.specs.Spaces.{IsSpace}
use Rattle.kts_abs.specs.Values.{Abs}
use Rattle.kts_abs.proofs.Listed.{In, in_map}
use Rattle.kts_clause.specs.declared.clause.Clause.{Clause}
use Rattle.kts_code.specs.declared.instructions.Instr.{Instr}
use Rattle.kts_code.specs.declared.instructions.Instr.TheVariants as instr
use Rattle.kts_code.specs.Machine.{step}
use Rattle.kts_code.specs.Reaches.{Reaches}
use Rattle.kts_code.specs.Setups.{Setup, world_in}
use Rattle.kts_code.specs.States.{Item, Register, ChoicePoint}
use Rattle.kts_code.proofs.Places.{has_back, has_front, has_all}
use Rattle.kts_code.proofs.Systems.{at_once}
use Rattle.kts_emit.specs.BodyRuns.{HasBodies, bodies_code, body_weight_of}
use Rattle.kts_emit.specs.Effects.{Kept, IsOnTheWay}
use Rattle.kts_emit.specs.Fragments.{Fragment}
use Rattle.kts_emit.specs.Pushes.{StandsAt}
use Rattle.kts_emit.proofs.TaskRuns.{taken_tasks_do_what_they_ask}
use Rattle.kts_index.specs.TaskOrder.{task_at, tasks}
use Rattle.kts_index.proofs.TaskNumbers.{length-tasks}
use Rattle.kts_plan.specs.Asks.{is_false}
use Rattle.kts_plan.specs.Constraints.{constraints_of, prefixes_of, tasks_of}
use Rattle.kts_plan.specs.Plans.{clauses_of_spec}
use Rattle.kts_plan.specs.Walks.{clause_in, passes, residual_clauses}
use Rattle.kts_plan.proofs.NumberedItems.{got_in}
use Rattle.kts_spec.specs.declared.declarations.Family.{Family}
use Rattle.kts_spec.specs.declared.spec.Spec.{Spec}
use Rattle.kts_spec.specs.Data.{is_valid, task_count}
use Rattle.kts_spec.specs.Related.{AllOf}
use Rattle.kts_spec.specs.Worlds.{World, world_of}
use Rattle.kts_search.specs.ClauseFilters.{filters_by, weight_by, PushesClause}
use Rattle.kts_search.specs.Instrs.{head, tail}
use Rattle.kts_search.specs.SearchCodes.{LoopPlaces, at, Stands, Stand, TaskRuns, SearchCode}
use Rattle.kts_search.specs.SearchParts.{code_with, IsCodeOf, FiltersLead, weight_of_task, largest_task, SpecificationsSearch}
use Rattle.kts_search.proofs.ClauseTests.{filters_lead}

-- ---- places

-- where the loop and the bodies stand
record Parts (instrs bodies : List Instr) (n : ℕ) : Type 0 where
  placed : LoopPlaces instrs (3 + n) (5 + n) (8 + n)
  behind : StandsAt instrs (9 + n) bodies

parts_of : (filters bodies : List Instr) → Parts (code_with filters bodies) bodies (length filters)
parts_of filters bodies =
    let n = length filters in
    let code = code_with filters bodies in
    let h = has_all code [] in
    let end = has_front code (3 + n) (tail n) bodies (has_back code 3 filters (tail n ++ bodies) h.1.1.1) in
    let e5 : 3 + n + 1 + 1 ≡ 5 + n = omega arith in
    let e6 : 3 + n + 1 + 1 + 1 ≡ 5 + n + 1 = omega arith in
    let e7 : 3 + n + 1 + 1 + 1 + 1 ≡ 5 + n + 1 + 1 = omega arith in
    let e8 : 3 + n + 1 + 1 + 1 + 1 + 1 ≡ 8 + n = omega arith in
    record {
      placed = record {
        start = h.0;
        take = h.1.0;
        node = h.1.1.0;
        pick = end.0;
        deeper = end.1.0;
        emit = subst (λ k. slice_get code k ≡ Some instr.Emit) e5 end.1.1.0;
        back = subst (λ k. slice_get code k ≡ Some (instr.Back (8 + n))) e6 end.1.1.1.0;
        further = subst (λ k. slice_get code k ≡ Some (instr.Jump 1)) e7 end.1.1.1.1.0;
        halt = subst (λ k. slice_get code k ≡ Some instr.Halt) e8 end.1.1.1.1.1.0;
      };
      behind = record {
        before = head n ++ (filters ++ tail n);
        behind = [];
        whole =
            sym (append_assoc (head n) (filters ++ tail n) (bodies ++ [])
            ∙ ap (λ l. head n ++ l) (append_assoc filters (tail n) (bodies ++ []) ∙ ap (λ l. filters ++ (tail n ++ l)) (append-nil bodies)));
        begins = omega (arith, length-append (head n) (filters ++ tail n), length-append filters (tail n));
      };
    }

-- ---- weights

more_max : (a b n : ℕ) → n ≤ a → n ≤ max a b
more_max a b n h = grind arith

later_max : (a b : ℕ) → b ≤ max a b
later_max a b = grind arith

-- each number is at most the largest
begun_max : (xs : List ℕ) (a n : ℕ) → n ≤ a → n ≤ fold max a xs
begun_max [] a n h = h
begun_max (x ∷ xs) a n h = begun_max xs (max a x) n (more_max a x n h)

at_most_max : (xs : List ℕ) (a n : ℕ) → In n xs → n ≤ fold max a xs
at_most_max [] a n h = absurd h
at_most_max (x ∷ xs) a n (inl e) = begun_max xs (max a x) n (subst (λ k. k ≤ max a x) (sym e) (later_max a x))
at_most_max (x ∷ xs) a n (inr h) = at_most_max xs (max a x) n h

-- the weight of the task of a number
task_within : (w : World) (clauses : List Clause) (k : ℕ) → k < length (tasks_of w clauses)
    → suc (body_weight_of w clauses k) ≤ largest_task w clauses
task_within w clauses k less =
    let task = task_at w (prefixes_of clauses) k in
    let there = slice_get-get_or (tasks_of w clauses) k (record { definite = 0; tuple = [] }) less in
    at_most_max (map (weight_of_task w clauses) (tasks_of w clauses)) 0 (weight_of_task w clauses task)
    (in_map (weight_of_task w clauses) task (tasks_of w clauses) (got_in (tasks_of w clauses) k task there))

-- ---- the whole code

module _ (spec : Spec) (m : Setup) (filters : List Instr) (weight : ℕ) (is : IsCodeOf spec m filters) (valid : is_valid m.code.schema m.inst ≡ true) where
  abbrev w : World
  w = world_in m

  abbrev clauses : List Clause
  clauses = clauses_of_spec spec

  abbrev n : ℕ
  n = length filters

  parts : Parts m.code.instrs (bodies_code 1 (6 + n) (constraints_of clauses) (9 + n)) n
  parts =
      subst (λ code. Parts code (bodies_code 1 (6 + n) (constraints_of clauses) (9 + n)) n) (sym is.instrs)
      (parts_of filters (bodies_code 1 (6 + n) (constraints_of clauses) (9 + n)))

  bodies : HasBodies spec m (9 + n) 1 (6 + n)
  bodies = record { declarations = is.declarations; tasks = is.tasks; entries = is.entries; bodies = parts.behind; places = is.places }

  same_world : w ≡ world_of spec.schema m.inst
  same_world =
      let made : List Family → List Family → World =
      λ givens choices. record w { givens = givens; choices = choices } in
      ap (λ givens. made givens m.code.schema.choices) is.declarations.givens ∙ ap (λ choices. made spec.schema.givens choices) is.declarations.choices

  all_tasks : task_count w m.code.schema.tasks ≡ length (tasks_of w clauses)
  all_tasks = sym (length-tasks w 0 m.code.schema.tasks) ∙ ap (λ ps. length (tasks w ps)) is.tasks

  task_runs : (k : ℕ) (registers : List Register) (space : List Abs) (queue rest : List ℕ) (choices : List ChoicePoint) (path : ℕ) (items : List Item)
      → k < task_count w m.code.schema.tasks → IsSpace w space
      → TaskRuns spec m (5 + n + 1) (largest_task w clauses) k space rest (at 1 registers space queue choices path items)
  task_runs k registers space queue rest choices path items less space_is =
      let there : k < length (tasks_of w clauses) = omega (arith, all_tasks) in
      let fail : 6 + n ≡ 5 + n + 1 = omega arith in
      let s = at 1 registers space queue choices path items in
      subst (λ place. TaskRuns spec m place (largest_task w clauses) k space rest s) fail (record {
        steps = body_weight_of w clauses k;
        few = task_within w clauses k there;
        runs = taken_tasks_do_what_they_ask spec m (9 + n) 1 (6 + n) space bodies valid space_is k 2 rest s there refl refl;
      })

  pub filtered : FiltersLead spec m n weight → SearchCode spec m (largest_task w clauses) weight
  filtered lead = record {
    split = 3 + n;
    found = 5 + n;
    stop = 8 + n;
    declared = record { valid = valid; world = same_world; indexes = is.declarations.indexes; tasks = is.tasks };
    placed = parts.placed;
    covers = is.covers;
    task = task_runs;
    filter = λ registers space choices path items len space_is.
        let fail : 6 + n ≡ 5 + n + 1 = omega arith in
        subst (λ place. Reaches (step m) (IsOnTheWay m Kept) (at 3 registers space [] choices path items) weight
        (Stands (cond (passes w clauses space) (3 + n) place) space [] choices path items)) fail
        (lead registers space choices path items len space_is);
  }

-- without residual clauses each space passes
all_pass : (spec : Spec) (m : Setup) → residual_clauses (clauses_of_spec spec) ≡ [] → FiltersLead spec m 0 0
all_pass spec m none registers space choices path items len is =
    let pass : passes (world_in m) (clauses_of_spec spec) space ≡ true = ap (list_all (λ c. not (is_false (clause_in (world_in m) space c)))) none in
    at_once (subst (λ b. Stands (cond b 3 6) space [] choices path items (at 3 registers space [] choices path items)) (sym pass) (Stand registers len))

-- the filters by the residual clauses lead
clauses_lead : (spec : Spec) (m : Setup) (code : Clause → Fragment) (weight : Clause → ℕ) (n : ℕ)
    → length (filters_by code (residual_clauses (clauses_of_spec spec)) 3 (6 + n)) ≡ n
    → IsCodeOf spec m (filters_by code (residual_clauses (clauses_of_spec spec)) 3 (6 + n))
    → AllOf (λ c. PushesClause m (code c) (weight c) c) (residual_clauses (clauses_of_spec spec))
    → FiltersLead spec m (length (filters_by code (residual_clauses (clauses_of_spec spec)) 3 (6 + n))) (weight_by weight (residual_clauses (clauses_of_spec spec)))
clauses_lead spec m code weight n size is each registers space choices path items len space_is =
    let cs = residual_clauses (clauses_of_spec spec) in
    let filters = filters_by code cs 3 (6 + n) in
    let there : StandsAt m.code.instrs 3 filters = record {
      before = head (length filters);
      behind = tail (length filters) ++ bodies_code 1 (6 + length filters) (constraints_of (clauses_of_spec spec)) (9 + length filters);
      whole = is.instrs;
      begins = refl;
    } in
    let run = filters_lead m code weight space choices path items space_is (6 + n) cs 3 registers each len there in
    let fail : 6 + n ≡ 6 + length filters = omega (arith, size) in
    subst (λ to. Reaches (step m) (IsOnTheWay m Kept) (at 3 registers space [] choices path items) (weight_by weight cs)
    (Stands (cond (passes (world_in m) (clauses_of_spec spec) space) (3 + length filters) to) space [] choices path items)) fail run

pub specifications_search : SpecificationsSearch
specifications_search = record {
  filtered = filtered;
  by_clauses = λ spec m code weight n size is valid each.
      filtered spec m (filters_by code (residual_clauses (clauses_of_spec spec)) 3 (6 + n)) (weight_by weight (residual_clauses (clauses_of_spec spec))) is valid
      (clauses_lead spec m code weight n size is each);
  unfiltered = λ spec m is valid none. filtered spec m [] 0 is valid (all_pass spec m none);
}
