-- Truth at all tuples of members, and the tasks of a constraint.
use Rattle.std.proofs.Common.{◌≡◌, refl, sym, ap, ◌∙◌, subst, inl, ⊎_elim, ℕ, ◌+◌, List, [], ◌∷◌, ◌++◌, append_assoc, append-nil, map, Bool, true, ◌&&◌, Some, arith}
use Rattle.std.specs.Prelude.{slice_get, option_map, option_and_then}
use Rattle.std.specs.List.{range_with_len, enumerate_from}
use Rattle.std.proofs.lemmas.Option.{slice_get-map}
use Rattle.kts_spec.specs.Domain.{over}
use Rattle.kts_spec.specs.MeaningEquations.{for_all}
use Rattle.kts_spec.specs.Schedules.{tuples}
use Rattle.kts_spec.specs.Worlds.{World}
use Rattle.kts_spec.proofs.Meanings.{over_and}
use Rattle.kts_abs.specs.Values.{Abs}
use Rattle.kts_abs.proofs.Listed.{In, each_in, in_each, map_in, in_map}
use Rattle.kts_clause.specs.declared.clause.Clause.{Clause}
use Rattle.kts_index.specs.TaskOrder.{Task, sizes_of_prefix, tasks_of_constraint}
use Rattle.kts_plan.specs.Asks.{asks, task_asks, asks_in}
use Rattle.kts_plan.specs.Constraints.{Constraint, constraints_of, prefixes_of, tasks_of}
use Rattle.kts_plan.proofs.NumberedItems.{numbered_is, in_numbered, in_got, list_all_in, in_list_all}

-- a test that holds with all members holds at each tuple
for_all_at : (sizes : List ℕ) (test : List ℕ → Bool) (vars tuple : List ℕ) → for_all sizes test vars ≡ true → In tuple (tuples sizes) → test (vars ++ tuple) ≡ true
for_all_at [] test vars tuple h i = ⊎_elim (λ (e : tuple ≡ []). ap (λ t. test (vars ++ t)) e ∙ ap test (append-nil vars) ∙ h) (λ z. absurd z) i
for_all_at (n ∷ sizes) test vars tuple h i =
    let f = each_in (λ m. map (λ (rest : List ℕ). m ∷ rest) (tuples sizes)) tuple (range_with_len 0 n) i in
    let g = map_in (λ (rest : List ℕ). f.item ∷ rest) tuple (tuples sizes) f.is in
    let at = for_all_at sizes test (vars ++ f.item ∷ []) g.item (list_all_in (λ m. for_all sizes test (vars ++ m ∷ [])) (range_with_len 0 n) f.item h f.held) g.held in
    ap (λ t. test (vars ++ t)) g.is ∙ ap test (sym (append_assoc vars (f.item ∷ []) g.item)) ∙ at

-- and the other way round
at_for_all : (sizes : List ℕ) (test : List ℕ → Bool) (vars : List ℕ) → ((tuple : List ℕ) → In tuple (tuples sizes) → test (vars ++ tuple) ≡ true) → for_all sizes test vars ≡ true
at_for_all [] test vars h = ap test (sym (append-nil vars)) ∙ h [] (inl refl)
at_for_all (n ∷ sizes) test vars h =
    in_list_all (λ m. for_all sizes test (vars ++ m ∷ [])) (range_with_len 0 n) (λ m l.
    at_for_all sizes test (vars ++ m ∷ []) (λ tuple i.
    ap test (append_assoc vars (m ∷ []) tuple)
    ∙ h (m ∷ tuple) (in_each (λ m. map (λ (rest : List ℕ). m ∷ rest) (tuples sizes)) m (m ∷ tuple) (range_with_len 0 n) l (in_map (λ (rest : List ℕ). m ∷ rest) tuple (tuples sizes) i))))

pub over_at : (sizes : List ℕ) (test : List ℕ → Bool) (tuple : List ℕ) → over ◌&&◌ true sizes test [] ≡ true → In tuple (tuples sizes) → test tuple ≡ true
over_at sizes test tuple h i = for_all_at sizes test [] tuple (sym (over_and sizes test []) ∙ h) i

pub at_over : (sizes : List ℕ) (test : List ℕ → Bool) → ((tuple : List ℕ) → In tuple (tuples sizes) → test tuple ≡ true) → over ◌&&◌ true sizes test [] ≡ true
at_over sizes test h = over_and sizes test [] ∙ at_for_all sizes test [] h

-- ---- tasks

prefix_at : (clauses : List Clause) (d : ℕ) (c : Constraint) → slice_get (constraints_of clauses) d ≡ Some c → slice_get (prefixes_of clauses) d ≡ Some c.prefix
prefix_at clauses d c e = slice_get-map (λ (c : Constraint). c.prefix) (constraints_of clauses) d ∙ ap (option_map (λ (c : Constraint). c.prefix)) e

some_prefix : (a b : List ℕ) → Some a ≡ Some b → a ≡ b
some_prefix a b e = cc

-- the tuple of a task is one of its constraint's prefix
pub task_tuple : (w : World) (clauses : List Clause) (task : Task) (c : Constraint) → In task (tasks_of w clauses) → slice_get (constraints_of clauses) task.definite ≡ Some c → In task.tuple (tuples (sizes_of_prefix w c.prefix))
task_tuple w clauses task c i e =
    let p = each_in (tasks_of_constraint w) task (enumerate_from 0 (prefixes_of clauses)) i in
    let n = numbered_is 0 (prefixes_of clauses) p.item p.held in
    let t = map_in (λ (tuple : List ℕ). record { definite = p.item.0; tuple = tuple }) task (tuples (sizes_of_prefix w p.item.1)) p.is in
    let at : n.place ≡ task.definite = (let a = n.number in let b = ap (λ (t : Task). t.definite) t.is in omega arith) in
    let same = some_prefix p.item.1 c.prefix (sym n.is ∙ ap (slice_get (prefixes_of clauses)) at ∙ prefix_at clauses task.definite c e) in
    subst (λ tuple. In tuple (tuples (sizes_of_prefix w c.prefix))) (sym (ap (λ (t : Task). t.tuple) t.is)) (subst (λ prefix. In t.item (tuples (sizes_of_prefix w prefix))) same t.held)

pub zero_plus : (n : ℕ) → 0 + n ≡ n
zero_plus n = omega arith

-- each tuple of its prefix gives a task, which asks what the constraint asks there
pub record HasTask (w : World) (clauses : List Clause) (tuple : List ℕ) (c : Constraint) : Type 0 where
  pub number : ℕ
  pub asks : (space : List Abs) → asks_in w clauses number space ≡ asks w tuple space c

pub tuple_task : (w : World) (clauses : List Clause) (d : ℕ) (c : Constraint) (tuple : List ℕ) → slice_get (constraints_of clauses) d ≡ Some c → In tuple (tuples (sizes_of_prefix w c.prefix)) → HasTask w clauses tuple c
tuple_task w clauses d c tuple e i =
    let task : Task = record { definite = d; tuple = tuple } in
    let there = in_each (tasks_of_constraint w) (d, c.prefix) task (enumerate_from 0 (prefixes_of clauses)) (subst (λ n. In (n, c.prefix) (enumerate_from 0 (prefixes_of clauses))) (zero_plus d) (in_numbered 0 (prefixes_of clauses) d c.prefix (prefix_at clauses d c e)))
    (in_map (λ (tuple : List ℕ). let t : Task = record { definite = d; tuple = tuple } in t) tuple (tuples (sizes_of_prefix w c.prefix)) i) in
    let k = in_got (tasks_of w clauses) task there in
    record { number = k.0; asks = λ space. ap (option_and_then (task_asks w clauses space)) k.1 ∙ ap (option_and_then (asks w tuple space)) e }
