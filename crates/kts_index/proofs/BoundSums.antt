-- The bound on tasks, sum by sum.
use Rattle.std.proofs.Common.{◌≡◌, refl, sym, ap, ◌∙◌, ℕ, ◌+◌, ◌-◌, ◌*◌, ◌<◌, ◌≤◌, List, [], ◌∷◌, length, map, take, get_or, sum_by, flat_map, true, ◌&&◌, ℤ, ◌-ℤ◌, ◌+ℤ◌, ◌≤ℤ◌, int_le, neg_ℤ, pos, nat_abs, arith}
use Rattle.std.specs.List.{range_with_len, enumerate_from}
use Rattle.std.proofs.lemmas.Bool.{and_parts}
use Rattle.kts_base.specs.Limits.{most_tasks, most_type_end}
use Rattle.std.proofs.lemmas.Int.{ints}
use Rattle.std.proofs.lemmas.List.{length-map, take_all}
use Rattle.std.proofs.lemmas.List.FromFn.{length-range_with_len, length-enumerate_from, get_or-enumerate_from}
use Rattle.std.proofs.lemmas.List.Sums.{length-filter, count_by-le-length, sum_by_more, sum_by-cons, sum_by-append}
use Rattle.std.proofs.lemmas.Nat.{mul-le}
use Rattle.kts_spec.specs.Data.{task_count}
use Rattle.kts_index.specs.declared.pattern.Pattern.{Pattern}
use Rattle.kts_index.specs.Pairs.{is_pair, pairs}
use Rattle.kts_index.specs.TaskOrder.{tasks}
use Rattle.kts_index.proofs.TaskNumbers.{length-tasks}
use Rattle.kts_index.proofs.TupleOrder.{tuples-at}
use Rattle.kts_spec.proofs.TuplePlaces.{tuple_count}
use Rattle.kts_spec.proofs.Conditions.{instance_facts}
use Rattle.kts_spec.specs.declared.declarations.Family.{Family}
use Rattle.kts_spec.specs.Places.{count_of}
use Rattle.kts_spec.specs.Schedules.{numbers, tuples, cells_of}
use Rattle.kts_spec.specs.Schemas.{is_type, is_end, no_family}
use Rattle.kts_spec.specs.Worlds.{World, size_of, sizes_of, world_of}
use Rattle.kts_spec.specs.declared.declarations.ValueType.TheVariants.{Int, Member}
use Rattle.kts_spec.specs.declared.schema.Schema.{Schema}
use Rattle.kts_spec.specs.declared.instance.Instance.{Instance}
use Rattle.kts_spec.specs.Data.{is_valid}
use Rattle.kts_index.specs.TaskBound.{rises_of, cell_bound, bound}
use Rattle.kts_index.specs.TupleNumbers.{tuple_at, sizes_in}

-- ---- the number of values of a type, less one

-- of whole numbers
pub rises-int : (w : World) (lo hi : ℤ) → rises_of w (Int lo hi) ≡ nat_abs (hi -ℤ lo)
rises-int w lo hi =
    let n = nat_abs (hi -ℤ lo) in
    let e : length (numbers lo hi) ≡ n + 1 = length-map (range_with_len 0 (n + 1)) (λ i. lo +ℤ pos i) ∙ length-range_with_len 0 (n + 1) in
    omega (arith, e)

-- of members
pub rises-member : (w : World) (i : ℕ) → rises_of w (Member i) ≡ size_of w i - 1
rises-member w i = ap (λ n. n - 1) (length-map (range_with_len 0 (size_of w i)) pos ∙ length-range_with_len 0 (size_of w i))

-- ---- the types of choices

-- the ends of a type are not far from each other
pub ends_near : (n : ℕ) (lo hi : ℤ) → is_type n (Int lo hi) ≡ true → nat_abs (hi -ℤ lo) ≤ 2 * most_type_end
ends_near n lo hi h =
    let p = and_parts (is_end lo && is_end hi) (int_le lo hi) h in
    let q = and_parts (is_end lo) (is_end hi) p.0 in
    let r = and_parts (int_le (neg_ℤ (pos most_type_end)) lo) (int_le lo (pos most_type_end)) q.0 in
    let s = and_parts (int_le (neg_ℤ (pos most_type_end)) hi) (int_le hi (pos most_type_end)) q.1 in
    let a = at_most (neg_ℤ (pos most_type_end)) lo r.0 in
    let b = at_most hi (pos most_type_end) s.1 in
    let c = at_most lo hi p.1 in
    omega (arith, ints)
  where
    at_most : (a b : ℤ) → int_le a b ≡ true → a ≤ℤ b
    at_most a b h = grind (arith, ints)

-- ---- how many tasks are paired with a cell

-- no more than there are tasks
pub pairs_few : (patterns : List Pattern) (schema : Schema) (inst : Instance) (x : ℕ) (cell : List ℕ) → is_valid schema inst ≡ true
    → length (pairs patterns schema inst x cell) ≤ most_tasks
unfolding pairs
pairs_few patterns schema inst x cell valid =
    let w = world_of schema inst in
    let n = length (tasks w schema.tasks) in
    let test = is_pair patterns schema inst x cell in
    let f = (instance_facts schema inst valid).few_tasks in
    let e : n ≡ task_count w schema.tasks = length-tasks w 0 schema.tasks in
    omega (arith, length-filter test (range_with_len 0 n), count_by-le-length test (range_with_len 0 n), length-range_with_len 0 n)

-- one tuple more, as at a step of a loop
module _ (xs : List ℕ) (f : List ℕ → ℕ) where
  pub sum_more : (p : ℕ) → p < count_of xs → sum_by f (take (p + 1) (tuples xs)) ≡ sum_by f (take p (tuples xs)) + f (tuple_at xs p)
  sum_more p h =
      sum_by_more f (tuples xs) p [] (rw (tuple_count xs) h) ∙ ap (λ t. sum_by f (take p (tuples xs)) + f t) (tuples-at xs p h)

  -- after the last step
  pub sum_all : sum_by f (take (count_of xs) (tuples xs)) ≡ sum_by f (tuples xs)
  sum_all = ap (sum_by f) (take_all (count_of xs) (tuples xs) (omega (arith, tuple_count xs)))

-- so that the bound of a cell fits a word
pub product_few : (a r : ℕ) → a ≤ most_tasks → r ≤ 2 * most_type_end → a * r ≤ most_tasks * (2 * most_type_end)
product_few a r h k = mul-le a r most_tasks (2 * most_type_end) h k

-- ---- the whole bound

-- sums over lists that are made of others
sum_by-map : {X Y : Type 0} (f : Y → ℕ) (g : X → Y) (xs : List X) → sum_by f (map g xs) ≡ sum_by (λ x. f (g x)) xs
sum_by-map f g [] = refl
sum_by-map f g (x ∷ xs) = sum_by-cons f (g x) (map g xs) ∙ (ap (λ s. f (g x) + s) (sum_by-map f g xs) ∙ sym (sum_by-cons (λ x. f (g x)) x xs))

-- of pieces joined end to end
sum_by-flat_map : {X Y : Type 0} (f : Y → ℕ) (g : X → List Y) (xs : List X) → sum_by f (flat_map g xs) ≡ sum_by (λ x. sum_by f (g x)) xs
sum_by-flat_map f g [] = refl
sum_by-flat_map f g (x ∷ xs) =
    sum_by-append f (g x) (flat_map g xs) ∙ (ap (λ s. sum_by f (g x) + s) (sum_by-flat_map f g xs) ∙ sym (sum_by-cons (λ x. sum_by f (g x)) x xs))

module _ (patterns : List Pattern) (schema : Schema) (inst : Instance) where
  abbrev world : World
  world = world_of schema inst

  -- the bounds of the cells of one choice
  abbrev pub choice_sum : ℕ × Family → ℕ
  choice_sum e = sum_by (cell_bound patterns schema inst) (cells_of world e)

  -- the sum over its tuples
  pub of_choice : (x : ℕ) (family : Family)
      → sum_by (λ cell. length (pairs patterns schema inst x cell) * rises_of world family.kind) (tuples (sizes_in inst family.args)) ≡ choice_sum (x, family)
  of_choice x family = sym (sum_by-map (cell_bound patterns schema inst) (λ args. record { choice = x; args = args; kind = family.kind }) (tuples (sizes_of world family)))

  -- the bound as far as the first so many choices
  abbrev pub bound_to : ℕ → ℕ
  bound_to i = task_count world schema.tasks + sum_by choice_sum (take i (enumerate_from 0 schema.choices))

  -- one choice more
  pub bound_more : (i : ℕ) → i < length schema.choices → bound_to (i + 1) ≡ bound_to i + choice_sum (i, get_or schema.choices i no_family)
  bound_more i h =
      let es = enumerate_from 0 schema.choices in
      let m = sum_by_more choice_sum es i (0, no_family) (rw (length-enumerate_from 0 schema.choices) h) in
      let e : get_or es i (0, no_family) ≡ (i, get_or schema.choices i no_family) =
      get_or-enumerate_from 0 schema.choices i (0, no_family) h ∙ ap (λ j. (j, get_or schema.choices i no_family)) (omega arith) in
      let k : choice_sum (get_or es i (0, no_family)) ≡ choice_sum (i, get_or schema.choices i no_family) = ap choice_sum e in
      omega arith

  -- after the last one
  pub bound_all : bound_to (length schema.choices) ≡ bound patterns schema inst
  unfolding bound
  bound_all =
      let es = enumerate_from 0 schema.choices in
      let a : take (length schema.choices) es ≡ es = take_all (length schema.choices) es (omega (arith, length-enumerate_from 0 schema.choices)) in
      let b = length-tasks world 0 schema.tasks in
      let s = sum_by-flat_map (cell_bound patterns schema inst) (cells_of world) es in
      rw (a, b, s) refl
