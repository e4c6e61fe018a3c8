-- A task that is not paired with a cell does not see what the cell becomes.
use Rattle.std.proofs.Common.{◌≡◌, refl, sym, ap, ◌∙◌, subst, ◌⊎◌, inl, inr, ⊎_elim, ℕ, zero, suc, ◌+◌, ◌<◌, ◌≤◌, ℤ, pos, nat_abs, List, [], ◌∷◌, ◌++◌, append_assoc, length, map, take, Bool, true, false, ◌&&◌, nat_eq, nat_lt, Option, Some, None, slice_index, slice_index_or, get_or, append-nil, ◌*◌, cond, arith}
use Rattle.std.specs.Prelude.{slice_get, slice_set, flat_map, option_map, option_and_then}
use Rattle.std.proofs.lemmas.Bool.{and_from, eq-eqb, true≢false}
use Rattle.std.proofs.lemmas.List.{length-map}
use Rattle.std.proofs.lemmas.Option.{slice_get-get_or, slice_get-map, get_or_from_slice_get}
use Rattle.kts_base.proofs.Orders.{nat_lt_yes}
use Rattle.kts_spec.specs.declared.declarations.ValueType.TheVariants.{Member}
use Rattle.kts_spec.specs.declared.tree.Term.{Term, roll-Term}
use Rattle.kts_spec.specs.declared.tree.Formula.{Formula}
use Rattle.kts_spec.specs.declared.tree.Formula.TheOpen as one
use Rattle.kts_spec.specs.declared.tree.Formula.TheFolds.{fold-roll-Term, map-Term}
use Rattle.kts_spec.specs.Domain.{value, at_each}
use Rattle.kts_spec.specs.Places.{is_in, cell, cell_count, lookup, place, count_of}
use Rattle.kts_spec.specs.Reads.{Access, reads_of, reads_in}
use Rattle.kts_spec.specs.Related.{Pairs, AllOf, Related}
use Rattle.kts_spec.specs.Schedules.{Cell, cells, all}
use Rattle.kts_spec.specs.Worlds.{World, size_of, choice_of}
use Rattle.kts_spec.proofs.CellPlaces.{cells_have_numbers, place_of}
use Rattle.kts_spec.proofs.Inductions.{FormulaPart, Part, bare, by_terms}
use Rattle.kts_spec.proofs.Relations.{all_left, all_right, related_term, related_formula}
use Rattle.kts_spec.proofs.Rolls.{value-roll}
use Rattle.kts_abs.specs.declared.truth.Tri.{Tri}
use Rattle.kts_abs.specs.InSpace.{in_space, value_in, truth_in, only_of, any_of, accessed}
use Rattle.kts_abs.specs.Spaces.{IsAbove, types, type_value}
use Rattle.kts_abs.specs.Values.{Abs, Win, Mem, Refines, members_of, window_of}
use Rattle.kts_abs.specs.Windows.{Window}
use Rattle.kts_abs.proofs.Listed.{In, each_in, map_in}
use Rattle.kts_clause.specs.declared.clause.Clause.{Clause}
use Rattle.kts_clause.specs.declared.literal.Literal.{Literal}
use Rattle.kts_clause.specs.ClauseTruth.{signed}
use Rattle.kts_index.specs.Pairs.{has_member, argument_agrees, arguments_agree}
use Rattle.kts_index.specs.TaskOrder.{Task, sizes_of_prefix}
use Rattle.kts_index.proofs.TaskNumbers.{tasks_have_numbers}
use Rattle.kts_plan.specs.declared.bound.Bound.{Bound}
use Rattle.kts_plan.specs.declared.bound.Bound.TheVariants.{Rest, Side}
use Rattle.kts_plan.specs.Asks.{is_false, with_addend, literal_in, all_false, sum_in, bound_in, head_cell, asked, asks, task_asks}
use Rattle.kts_plan.specs.Constraints.{Constraint, constraints_of, prefixes_of, tasks_of}
use Rattle.kts_plan.specs.TaskLaws.{UnreadCellsDoNotCount}
use Rattle.kts_plan.specs.TaskReads.{bound_reads, constraint_reads, variable_step, variable_of, one_of_first, prefix_arguments, access_agrees, some_reads, task_is_paired}
use Rattle.kts_plan.proofs.NumberedItems.{none_any}

-- ---- arguments that are prefix variables

variable_of-roll : (x : one.Term-F Formula Term) → variable_of (roll-Term x) ≡ variable_step (map-Term Formula Term (Unit {0}) (Option ℕ) (λ _. tt) variable_of x)
unfolding variable_of
variable_of-roll x = fold-roll-Term (Unit {0}) (Option ℕ) (λ _. tt) variable_step x

none_some : {X : Type 0} (x : X) → None ≡ Some x → ⊥
none_some x e = cc

some_one : {X : Type 0} (x y : X) → Some x ≡ Some y → x ≡ y
some_one x y e = cc

module _ (w : World) (s : List Abs) where
  abbrev IsVariable : Term → Type 0
  IsVariable t = (vars : List ℕ) (k : ℕ) → variable_of t ≡ Some k → value_in w s t vars ≡ Mem (pos (slice_index vars k) ∷ [])

  variable_case : (y : one.Term-F FormulaPart (Part IsVariable)) (vars : List ℕ) (k : ℕ) → variable_step (map-Term Formula Term (Unit {0}) (Option ℕ) (λ _. tt) variable_of (bare IsVariable y)) ≡ Some k
      → value_in w s (roll-Term (bare IsVariable y)) vars ≡ Mem (pos (slice_index vars k) ∷ [])
  variable_case (one.Var j) vars k e =
      ap (λ (f : List ℕ → Abs). f vars) (value-roll (size_of w) (in_space w s) (one.Var j)) ∙ ap (λ n. Mem (pos (slice_index vars n) ∷ [])) (some_one j k e)
  variable_case other vars k e = absurd (none_some k e)

  is_variable : (t : Term) → IsVariable t
  is_variable t = by_terms IsVariable (λ y vars k e. variable_case y vars k (sym (variable_of-roll (bare IsVariable y)) ∙ e)) t

slice_front : (xs ys : List ℕ) (k : ℕ) → k < length xs → slice_index (xs ++ ys) k ≡ slice_index xs k
slice_front [] ys k h = absurd (omega arith)
slice_front (x ∷ xs) ys zero h = refl
slice_front (x ∷ xs) ys (suc k) h = slice_front xs ys k (omega arith)

member_there : (xs : List ℕ) (k : ℕ) → k < length xs → has_member xs k (slice_index xs k) ≡ true
member_there [] k h = absurd (omega arith)
member_there (x ∷ xs) zero h = eq-eqb x x refl
member_there (x ∷ xs) (suc k) h = member_there xs k (omega arith)

module _ (w : World) (s : List Abs) (tuple rest : List ℕ) (n : ℕ) (long : n ≤ length tuple) where
  abbrev members : Term → List ℤ
  members t = members_of (value_in w s t (tuple ++ rest))

  -- a member that an argument allows agrees with the tuple where the argument is a prefix variable
  argument_fits : (t : Term) (m : ℤ) (o : Option ℕ) → variable_of t ≡ o → In m (members t) → argument_agrees tuple (one_of_first n o) (nat_abs m) ≡ true
  argument_fits t m None e h = refl
  argument_fits t m (Some k) e h = by (nat_lt k n) refl
    where
      by : (b : Bool) → nat_lt k n ≡ b → argument_agrees tuple (cond b (Some k) None) (nat_abs m) ≡ true
      by false f = refl
      by true f =
          let below = nat_lt_yes k n f in
          let v = is_variable w s t (tuple ++ rest) k e in
          let one : In m (pos (slice_index (tuple ++ rest) k) ∷ []) = subst (λ a. In m (members_of a)) v h in
          let is : m ≡ pos (slice_index (tuple ++ rest) k) = ⊎_elim (λ q. q) (λ z. absurd z) one in
          let at = slice_front tuple rest k (omega arith) in
          subst (λ j. has_member tuple k j ≡ true) (sym (ap nat_abs is ∙ at)) (member_there tuple k (omega arith))

  arguments_fit : (args : List Term) (ms : List ℤ) → In ms (all (map members_of (at_each (tuple ++ rest) (map (value_in w s) args)))) → arguments_agree tuple (prefix_arguments n args) (map nat_abs ms) ≡ true
  arguments_fit [] ms h = refl
  arguments_fit (a ∷ args) ms h =
      let more = all (map members_of (at_each (tuple ++ rest) (map (value_in w s) args))) in
      let f = each_in (λ m. map (λ (others : List ℤ). m ∷ others) more) ms (members a) h in
      let g = map_in (λ (others : List ℤ). f.item ∷ others) ms more f.is in
      subst (λ zs. arguments_agree tuple (prefix_arguments n (a ∷ args)) (map nat_abs zs) ≡ true) (sym g.is)
      (and_from (argument_agrees tuple (one_of_first n (variable_of a)) (nat_abs f.item)) (arguments_agree tuple (prefix_arguments n args) (map nat_abs g.item))
      (argument_fits a f.item (variable_of a) refl f.held) (arguments_fit args g.item g.held))

-- ---- cells that change

set_other : (t : List Abs) (c k : ℕ) (v z : Abs) → (k ≡ c → ⊥) → slice_index_or (slice_set t c v) k z ≡ slice_index_or t k z
set_other [] c k v z h = refl
set_other (a ∷ t) zero zero v z h = absurd (h refl)
set_other (a ∷ t) zero (suc k) v z h = refl
set_other (a ∷ t) (suc c) zero v z h = refl
set_other (a ∷ t) (suc c) (suc k) v z h = set_other t c k v z (λ e. h (ap suc e))

lookup_other : (t : List Abs) (c : ℕ) (o : Option ℕ) (v z : Abs) → (o ≡ Some c → ⊥) → lookup (slice_set t c v) o z ≡ lookup t o z
lookup_other t c None v z h = refl
lookup_other t c (Some k) v z h = set_other t c k v z (λ e. h (ap (λ n. Some n) e))

map_same : {X Y : Type 0} (f g : X → Y) (xs : List X) → ((x : X) → In x xs → f x ≡ g x) → map f xs ≡ map g xs
map_same f g [] h = refl
map_same f g (x ∷ xs) h = let a = h x (inl refl) in let b = map_same f g xs (λ y k. h y (inr k)) in cc

pub pairs_same : {X : Type 0} (xs ys : List X) → Pairs (λ x y. x ≡ y) xs ys → xs ≡ ys
pairs_same [] [] h = refl
pairs_same [] (y ∷ ys) h = absurd h
pairs_same (x ∷ xs) [] h = absurd h
pairs_same (x ∷ xs) (y ∷ ys) h = let a = h.0 in let b = pairs_same xs ys h.1 in cc

-- no access to the cell agrees with it
abbrev Misses : World → ℕ → ℕ → List ℕ → Access → Type 0
Misses w c n tuple a = (ms : List ℤ) → cell w a.0 ms ≡ Some c → arguments_agree tuple (prefix_arguments n a.1) (map nat_abs ms) ≡ true → ⊥

-- the variables begin with the tuple
abbrev Begins : List ℕ → List ℕ → Type 0
Begins tuple vars = (rest : List ℕ) × (vars ≡ tuple ++ rest)

module _ (w : World) (t : List Abs) (c : ℕ) (v : Abs) (tuple : List ℕ) (n : ℕ) (long : n ≤ length tuple) where
  abbrev changed : List Abs
  changed = slice_set t c v

  abbrev reduced : List Term → List ℕ → List Abs
  reduced args vars = at_each vars (map (value_in w changed) args)

  choice_same : (x : ℕ) (args : List Term) (vars : List ℕ) → Begins tuple vars → Misses w c n tuple (x, args) → (ys : List Abs) → reduced args vars ≡ ys
      → accessed (choice_of w x).kind (cell w x) changed (reduced args vars) ≡ accessed (choice_of w x).kind (cell w x) t ys
  choice_same x args vars begins miss ys e =
      let z = only_of (pos 0) in
      let h : (ms : List ℤ) → In ms (all (map members_of (reduced args vars))) → lookup changed (cell w x ms) z ≡ lookup t (cell w x ms) z = λ ms k.
      lookup_other t c (cell w x ms) v z (λ q. miss ms q (arguments_fit w changed tuple begins.0 n long args ms (subst (λ vs. In ms (all (map members_of (reduced args vs)))) begins.1 k))) in
      ap (any_of (choice_of w x).kind) (map_same (λ ms. lookup changed (cell w x ms) z) (λ ms. lookup t (cell w x ms) z) (all (map members_of (reduced args vars))) h)
      ∙ ap (accessed (choice_of w x).kind (cell w x) t) e

  same : Related (size_of w) (in_space w changed) (in_space w t) (λ a b. a ≡ b) (λ p q. p ≡ q) (Begins tuple) (Misses w c n tuple)
  same = record {
    number = λ n. refl;
    member = λ m. refl;
    given = λ f xs ys k. rw (pairs_same xs ys k) refl;
    choice = λ x args vars b m k. choice_same x args vars b m (at_each vars (map (value (size_of w) (in_space w t)) args)) (pairs_same (reduced args vars) (at_each vars (map (value (size_of w) (in_space w t)) args)) k);
    deeper = λ vars m b. (b.0 ++ m ∷ [], ap (λ vs. vs ++ m ∷ []) b.1 ∙ append_assoc tuple b.0 (m ∷ []));
    add = λ a b p q h k. rw (h, k) refl;
    sub = λ a b p q h k. rw (h, k) refl;
    mul = λ a b p q h k. rw (h, k) refl;
    least = λ a b p q h k. rw (h, k) refl;
    greatest = λ a b p q h k. rw (h, k) refl;
    gate = λ a b p q h k. rw (h, k) refl;
    le = λ a b p q h k. rw (h, k) refl;
    eq = λ a b p q h k. rw (h, k) refl;
    same = λ a b p q h k. rw (h, k) refl;
    yes = refl;
    no = refl;
    both = λ a b p q h k. rw (h, k) refl;
    either = λ a b p q h k. rw (h, k) refl;
    neg = λ p r h. rw h refl;
  }

  here : Begins tuple tuple
  here = ([], sym (append-nil tuple))

  value_same : (a : Term) → AllOf (Misses w c n tuple) (reads_of a) → value_in w changed a tuple ≡ value_in w t a tuple
  value_same a h = related_term (size_of w) (in_space w changed) (in_space w t) (λ a b. a ≡ b) (λ p q. p ≡ q) (Begins tuple) (Misses w c n tuple) same a tuple here h

  truth_same : (p : Formula) → AllOf (Misses w c n tuple) (reads_in p) → truth_in w changed p tuple ≡ truth_in w t p tuple
  truth_same p h = related_formula (size_of w) (in_space w changed) (in_space w t) (λ a b. a ≡ b) (λ p q. p ≡ q) (Begins tuple) (Misses w c n tuple) same p tuple here h

  sign_same : (b : Bool) (p q : Tri) → p ≡ q → signed (size_of w) (in_space w changed) b p ≡ signed (size_of w) (in_space w t) b q
  sign_same true p q e = rw e refl
  sign_same false p q e = e

  literals_same : (ls : List Literal) → AllOf (Misses w c n tuple) (flat_map (λ (l : Literal). reads_in l.formula) ls) → all_false w changed tuple ls ≡ all_false w t tuple ls
  literals_same [] h = refl
  literals_same (l ∷ ls) h =
      let later = flat_map (λ (l : Literal). reads_in l.formula) ls in
      let first = sign_same l.negative _ _ (truth_same l.formula (all_left (Misses w c n tuple) (reads_in l.formula) later h)) in
      let others = literals_same ls (all_right (Misses w c n tuple) (reads_in l.formula) later h) in
      ap (λ p. is_false p && all_false w changed tuple ls) first ∙ ap (λ b. is_false (literal_in w t tuple l) && b) others

  sum_same : (addends : List (Bool × Term)) (total : Window) → AllOf (Misses w c n tuple) (flat_map (λ (a : Bool × Term). reads_of a.1) addends) → sum_in w changed tuple total addends ≡ sum_in w t tuple total addends
  sum_same [] total h = refl
  sum_same (a ∷ addends) total h =
      let later = flat_map (λ (a : Bool × Term). reads_of a.1) addends in
      sum_same addends (with_addend total a.0 (window_of (value_in w changed a.1 tuple))) (all_right (Misses w c n tuple) (reads_of a.1) later h)
      ∙ ap (λ u. sum_in w t tuple (with_addend total a.0 (window_of u)) addends) (value_same a.1 (all_left (Misses w c n tuple) (reads_of a.1) later h))

  bound_same : (b : Bound) → AllOf (Misses w c n tuple) (bound_reads b) → bound_in w changed tuple b ≡ bound_in w t tuple b
  bound_same (Rest addends) h = ap (λ u. Win u) (sum_same addends (pos 0, pos 0) h)
  bound_same (Side a) h = value_same a h

  constraint_same : (k : Constraint) → AllOf (Misses w c n tuple) (constraint_reads k) → asks w tuple changed k ≡ asks w tuple t k
  constraint_same k h =
      let front = flat_map (λ (l : Literal). reads_in l.formula) k.others in
      ap (λ b. asked b (head_cell w tuple k.head) (k.head.op, bound_in w changed tuple k.head.bound)) (literals_same k.others (all_left (Misses w c n tuple) front (bound_reads k.head.bound) h))
      ∙ ap (λ b. asked (all_false w t tuple k.others) (head_cell w tuple k.head) (k.head.op, b)) (bound_same k.head.bound (all_right (Misses w c n tuple) front (bound_reads k.head.bound) h))

-- ---- which cell an access may name

take_all : {X : Type 0} (xs : List X) (k : ℕ) → length xs ≤ k → take k xs ≡ xs
take_all [] zero h = refl
take_all [] (suc k) h = refl
take_all (x ∷ xs) zero h = absurd (omega arith)
take_all (x ∷ xs) (suc k) h = ap (λ l. x ∷ l) (take_all xs k (omega arith))

split : (x n : ℕ) → (x < n) ⊎ (n ≤ x)
split x zero = inr (omega arith)
split zero (suc n) = inl (omega arith)
split (suc x) (suc n) = ⊎_elim (λ h. inl (omega arith)) (λ h. inr (omega arith)) (split x n)

-- an access names a cell of a declared choice alone
pub declared : (w : World) (x c : ℕ) (ms : List ℤ) → c < length (cells w) → cell w x ms ≡ Some c → x < length w.choices
declared w x c ms l e =
    ⊎_elim (λ h. h)
    (λ h.
    let p = place_of w x c ms e in
    let all = ap (cell_count w) (take_all w.choices x h) in
    let count = (cells_have_numbers w).count in
    let sum = p.2 in
    absurd (omega arith))
    (split x (length w.choices))

pub named_cell : (w : World) (x c : ℕ) (ms : List ℤ) → c < length (cells w) → cell w x ms ≡ Some c → slice_get (cells w) c ≡ Some (record { choice = x; args = map nat_abs ms; kind = (choice_of w x).kind })
named_cell w x c ms l e = (cells_have_numbers w).access x c ms (declared w x c ms l e) e

-- the number of cells
pairs_length : {X Y : Type 0} (R : X → Y → Type 0) (xs : List X) (ys : List Y) → Pairs R xs ys → length xs ≡ length ys
pairs_length R [] [] h = refl
pairs_length R [] (y ∷ ys) h = absurd h
pairs_length R (x ∷ xs) [] h = absurd h
pairs_length R (x ∷ xs) (y ∷ ys) h = ap suc (pairs_length R xs ys h.1)

pub space_length : (w : World) (t : List Abs) → IsAbove (types w) t → length t ≡ length (cells w)
space_length w t h = pairs_length Refines t (types w) h ∙ length-map (cells w) (λ (c : Cell). type_value w c.kind)

-- an access that does not agree with a cell misses it
misses : (w : World) (c n : ℕ) (tuple : List ℕ) (d : Cell) (a : Access) → c < length (cells w) → slice_get (cells w) c ≡ Some d → access_agrees d.choice d.args n tuple a ≡ false → Misses w c n tuple a
misses w c n tuple d a l there f = λ ms e g.
    let is : record { choice = a.0; args = map nat_abs ms; kind = (choice_of w a.0).kind } ≡ d = some_one _ d (sym (named_cell w a.0 c ms l e) ∙ there) in
    let yes : access_agrees a.0 (map nat_abs ms) n tuple a ≡ true = and_from (nat_eq a.0 a.0) (arguments_agree tuple (prefix_arguments n a.1) (map nat_abs ms)) (eq-eqb a.0 a.0 refl) g in
    true≢false (sym (subst (λ (d : Cell). access_agrees d.choice d.args n tuple a ≡ true) is yes) ∙ f)

all_miss : (w : World) (c n : ℕ) (tuple : List ℕ) (d : Cell) (others : List Access) → c < length (cells w) → slice_get (cells w) c ≡ Some d → AllOf (λ a. access_agrees d.choice d.args n tuple a ≡ false) others → AllOf (Misses w c n tuple) others
all_miss w c n tuple d [] l there h = tt
all_miss w c n tuple d (a ∷ others) l there h = (misses w c n tuple d a l there h.0, all_miss w c n tuple d others l there h.1)

-- ---- tasks

placed_length : (sizes : List ℕ) (args : List ℤ) (k : ℕ) → place sizes args ≡ Some k → length args ≡ length sizes
placed_length [] [] k e = refl
placed_length [] (m ∷ args) k e = absurd (none_some k e)
placed_length (n ∷ sizes) [] k e = absurd (none_some k e)
placed_length (n ∷ sizes) (m ∷ args) k e = ap suc (by (λ j f. placed_length sizes args j f) (is_in n m) (place sizes args) refl e)
  where
    by : ((j : ℕ) → place sizes args ≡ Some j → length args ≡ length sizes) → (b : Bool) (o : Option ℕ) → place sizes args ≡ o → cond b (option_map (λ p. nat_abs m * count_of sizes + p) o) None ≡ Some k → length args ≡ length sizes
    by rest false o f g = absurd (none_some k g)
    by rest true None f g = absurd (none_some k g)
    by rest true (Some j) f g = rest j f

-- the tuple of a task is as long as the prefix of its constraint
pub tuple_length : (w : World) (clauses : List Clause) (k : ℕ) (task : Task) (c : Constraint) → slice_get (tasks_of w clauses) k ≡ Some task → slice_get (constraints_of clauses) task.definite ≡ Some c → length task.tuple ≡ length c.prefix
tuple_length w clauses k task c e f =
    let is = ((tasks_have_numbers w (prefixes_of clauses)).at k task).0 e in
    let p = slice_get-map (λ (c : Constraint). c.prefix) (constraints_of clauses) task.definite ∙ ap (option_map (λ (c : Constraint). c.prefix)) f in
    let q = get_or_from_slice_get (prefixes_of clauses) task.definite c.prefix [] p in
    let l = placed_length (sizes_of_prefix w (slice_index_or (prefixes_of clauses) task.definite [])) (map pos task.tuple) is.at is.placed in
    sym (length-map task.tuple pos) ∙ l ∙ ap (λ is. length (sizes_of_prefix w is)) q ∙ length-map c.prefix (size_of w)

module _ (w : World) (clauses : List Clause) (t : List Abs) (c : ℕ) (v : Abs) (d : Cell) (l : c < length (cells w)) (there : slice_get (cells w) c ≡ Some d) where
  constraint_unread : (task : Task) (o : Option Constraint) → slice_get (constraints_of clauses) task.definite ≡ o → ((k : Constraint) → o ≡ Some k → length task.tuple ≡ length k.prefix) → some_reads o task.tuple (Some d) ≡ false
      → option_and_then (asks w task.tuple (slice_set t c v)) o ≡ option_and_then (asks w task.tuple t) o
  constraint_unread task None e long h = refl
  constraint_unread task (Some k) e long h =
      let n = length k.prefix in
      let same = long k refl in
      constraint_same w t c v task.tuple n (omega arith) k (all_miss w c n task.tuple d (constraint_reads k) l there (none_any (access_agrees d.choice d.args n task.tuple) (constraint_reads k) h))

  task_unread : (k : ℕ) (o : Option Task) → slice_get (tasks_of w clauses) k ≡ o → task_is_paired clauses o (Some d) ≡ false
      → option_and_then (task_asks w clauses (slice_set t c v)) o ≡ option_and_then (task_asks w clauses t) o
  task_unread k None e h = refl
  task_unread k (Some task) e h =
      constraint_unread task (slice_get (constraints_of clauses) task.definite) refl (λ j f. tuple_length w clauses k task j e f) h

abbrev no_cell : Cell
no_cell = record { choice = 0; args = []; kind = Member 0 }

pub unread_cells : UnreadCellsDoNotCount
unread_cells w clauses k c t v space l h =
    let same = space_length w t space.above in
    let inside : c < length (cells w) = omega arith in
    let there = slice_get-get_or (cells w) c no_cell inside in
    task_unread w clauses t c v (get_or (cells w) c no_cell) inside there k (slice_get (tasks_of w clauses) k) refl
    (subst (λ o. task_is_paired clauses (slice_get (tasks_of w clauses) k) o ≡ false) there h)
