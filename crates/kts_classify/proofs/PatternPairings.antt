-- The patterns of a plan pair a task with the cells that it reads.
use Rattle.std.proofs.Common.{◌≡◌, refl, sym, ap, ◌∙◌, ℕ, zero, suc, ◌+◌, List, [], ◌∷◌, ◌++◌, length, map, fold, Bool, true, false, ◌&&◌, ◌||◌, Some, nat_eq, if◌then◌else◌, arith}
use Rattle.std.specs.Prelude.{flat_map, slice_get}
use Rattle.std.specs.List.{enumerate_from, list_any}
use Rattle.std.proofs.lemmas.Bool.{and_parts}
use Rattle.std.proofs.lemmas.Bool.Decides.{nat_tests}
use Rattle.kts_spec.proofs.AddendRanges.{all_append}
use Rattle.kts_spec.proofs.Conditions.{same_number}
use Rattle.kts_spec.specs.Related.{AllOf}
use Rattle.kts_spec.specs.Reads.{Access}
use Rattle.kts_spec.specs.Schedules.{Cell}
use Rattle.kts_index.specs.Pairs.{agrees, arguments_agree, is_paired}
use Rattle.kts_index.specs.TaskOrder.{Task}
use Rattle.kts_index.specs.declared.pattern.Pattern.{Pattern}
use Rattle.kts_plan.specs.Constraints.{Constraint}
use Rattle.kts_plan.specs.TaskReads.{constraint_reads, access_agrees, some_reads}
use Rattle.kts_plan.specs.declared.plan.Plan.{Plan}
use Rattle.kts_classify.specs.PatternLaws.{PatternsPair}
use Rattle.kts_classify.specs.PlanPatterns.{access_pattern, is_alike, with_new, distinct, constraint_patterns, constraints_in}
use Rattle.kts_classify.proofs.PrefixVariables.{same_is}

any_both : {X : Type 0} (p : X → Bool) (xs ys : List X) → list_any p (xs ++ ys) ≡ (list_any p xs || list_any p ys)
any_both p [] ys = refl
any_both p (x ∷ xs) ys = ap (λ b. p x || b) (any_both p xs ys) ∙ along (p x) (list_any p xs) (list_any p ys)
  where
    along : (a b c : Bool) → (a || (b || c)) ≡ ((a || b) || c)
    along a b c = grind arith

any_each : {X Y : Type 0} (p : Y → Bool) (f : X → List Y) (xs : List X) → list_any p (flat_map f xs) ≡ list_any (λ x. list_any p (f x)) xs
any_each p f [] = refl
any_each p f (x ∷ xs) = any_both p (f x) (flat_map f xs) ∙ ap (λ b. list_any p (f x) || b) (any_each p f xs)

any_mapped : {X Y : Type 0} (p : Y → Bool) (f : X → Y) (xs : List X) → list_any p (map f xs) ≡ list_any (λ x. p (f x)) xs
any_mapped p f [] = refl
any_mapped p f (x ∷ xs) = ap (λ b. p (f x) || b) (any_mapped p f xs)

or_false : (b : Bool) → (b || false) ≡ b
or_false b = grind arith

module _ (x : ℕ) (cell tuple : List ℕ) where
  -- whether a pattern agrees, whatever its constraint
  abbrev fits : Pattern → Bool
  fits p = nat_eq p.choice x && arguments_agree tuple p.args cell

  alike_fit : (p q : Pattern) → is_alike p q ≡ true → fits p ≡ fits q
  alike_fit p q e =
      let both = and_parts (nat_eq p.choice q.choice) _ e in
      ap (λ c. nat_eq c x && arguments_agree tuple p.args cell) (same_number p.choice q.choice both.0) ∙ ap (λ args. nat_eq q.choice x && arguments_agree tuple args cell) (same_is p.args q.args both.1)

  -- a pattern that stands already adds nothing
  stands_already : (ps : List Pattern) (p : Pattern) → list_any (is_alike p) ps ≡ true → (list_any fits ps || fits p) ≡ list_any fits ps
  stands_already [] p e = cc
  stands_already (q ∷ ps) p e = by (is_alike p q) refl (stands_already ps p)
    where
      twice : (a b : Bool) → ((a || b) || a) ≡ (a || b)
      twice a b = grind arith

      along : (a b c : Bool) → ((a || b) || c) ≡ (a || (b || c))
      along a b c = grind arith

      by : (b : Bool) → is_alike p q ≡ b → (list_any (is_alike p) ps ≡ true → (list_any fits ps || fits p) ≡ list_any fits ps) → (list_any fits (q ∷ ps) || fits p) ≡ list_any fits (q ∷ ps)
      by true h rest = ap (λ b. (fits q || list_any fits ps) || b) (alike_fit p q h) ∙ twice (fits q) (list_any fits ps)
      by false h rest = along (fits q) (list_any fits ps) (fits p) ∙ ap (λ b. fits q || b) (rest (sym (ap (λ b. b || list_any (is_alike p) ps) h) ∙ e))

  any_new : (ps : List Pattern) (p : Pattern) → list_any fits (with_new ps p) ≡ (list_any fits ps || fits p)
  any_new ps p = by (list_any (is_alike p) ps) refl
    where
      by : (b : Bool) → list_any (is_alike p) ps ≡ b → list_any fits (if b then ps else ps ++ p ∷ []) ≡ (list_any fits ps || fits p)
      by true h = sym (stands_already ps p h)
      by false h = any_both fits ps (p ∷ []) ∙ ap (λ b. list_any fits ps || b) (or_false (fits p))

  any_from : (qs ps : List Pattern) → list_any fits (fold with_new ps qs) ≡ (list_any fits ps || list_any fits qs)
  any_from [] ps = sym (or_false (list_any fits ps))
  any_from (q ∷ qs) ps = any_from qs (with_new ps q) ∙ ap (λ b. b || list_any fits qs) (any_new ps q) ∙ along (list_any fits ps) (fits q) (list_any fits qs)
    where
      along : (a b c : Bool) → ((a || b) || c) ≡ (a || (b || c))
      along a b c = grind arith

  -- the patterns of one constraint
  module _ (definite d : ℕ) where
    abbrev IsOf : Pattern → Type 0
    IsOf p = p.definite ≡ d

    of_new : (ps : List Pattern) (p : Pattern) → AllOf IsOf ps → IsOf p → AllOf IsOf (with_new ps p)
    of_new ps p h e = by (list_any (is_alike p) ps)
      where
        by : (b : Bool) → AllOf IsOf (if b then ps else ps ++ p ∷ [])
        by true = h
        by false = all_append IsOf ps (p ∷ []) h (e, tt)

    of_fold : (qs ps : List Pattern) → AllOf IsOf ps → AllOf IsOf qs → AllOf IsOf (fold with_new ps qs)
    of_fold [] ps h g = h
    of_fold (q ∷ qs) ps h g = of_fold qs (with_new ps q) (of_new ps q h g.0) g.1

    of_mapped : (n : ℕ) (rs : List Access) → AllOf IsOf (map (access_pattern d n) rs)
    of_mapped n [] = tt
    of_mapped n (r ∷ rs) = (refl, of_mapped n rs)

    agree_all : (ps : List Pattern) → AllOf IsOf ps → list_any (agrees x cell (record { definite = definite; tuple = tuple })) ps ≡ (nat_eq d definite && list_any fits ps)
    agree_all [] h = nothing (nat_eq d definite)
      where
        nothing : (b : Bool) → false ≡ (b && false)
        nothing b = grind arith
    agree_all (p ∷ ps) h =
        ap (λ b. ((nat_eq p.definite definite && nat_eq p.choice x) && arguments_agree tuple p.args cell) || b) (agree_all ps h.1)
        ∙ ap (λ k. ((nat_eq k definite && nat_eq p.choice x) && arguments_agree tuple p.args cell) || (nat_eq d definite && list_any fits ps)) h.0
        ∙ both (nat_eq d definite) (nat_eq p.choice x) (arguments_agree tuple p.args cell) (list_any fits ps)
      where
        both : (a b c e : Bool) → (((a && b) && c) || (a && e)) ≡ (a && ((b && c) || e))
        both a b c e = grind arith

    constraint_pairs : (c : Constraint) → list_any (agrees x cell (record { definite = definite; tuple = tuple })) (constraint_patterns (d, c))
        ≡ (nat_eq d definite && list_any (access_agrees x cell (length c.prefix) tuple) (constraint_reads c))
    constraint_pairs c =
        let ps = map (access_pattern d (length c.prefix)) (constraint_reads c) in
        agree_all (distinct ps) (of_fold ps [] tt (of_mapped (length c.prefix) (constraint_reads c)))
        ∙ ap (λ b. nat_eq d definite && b) (any_from ps [] ∙ any_mapped fits (access_pattern d (length c.prefix)) (constraint_reads c))

  -- the constraints after that of the task
  later : (definite : ℕ) (cs : List Constraint) (k j : ℕ) → k ≡ suc (definite + j) → list_any (λ n. list_any (agrees x cell (record { definite = definite; tuple = tuple })) (constraint_patterns n)) (enumerate_from k cs) ≡ false
  later definite [] k j e = refl
  later definite (c ∷ cs) k j e =
      let here : nat_eq k definite ≡ false = grind (arith, nat_tests) in
      let rest = later definite cs (k + 1) (suc j) (omega (arith, e)) in
      ap (λ b. b || list_any (λ n. list_any (agrees x cell (record { definite = definite; tuple = tuple })) (constraint_patterns n)) (enumerate_from (k + 1) cs)) (constraint_pairs definite k c ∙ ap (λ b. b && list_any (access_agrees x cell (length c.prefix) tuple) (constraint_reads c)) here)
      ∙ rest

  pairs_from : (definite : ℕ) (kind : Cell) → kind.choice ≡ x → kind.args ≡ cell → (cs : List Constraint) (k j : ℕ) → definite ≡ k + j
      → list_any (λ n. list_any (agrees x cell (record { definite = definite; tuple = tuple })) (constraint_patterns n)) (enumerate_from k cs) ≡ some_reads (slice_get cs j) tuple (Some kind)
  pairs_from definite kind ex ec [] k j e = refl
  pairs_from definite kind ex ec (c ∷ cs) k zero e =
      let here : nat_eq k definite ≡ true = grind (arith, nat_tests) in
      let rest = later definite cs (k + 1) 0 (omega (arith, e)) in
      ap (λ b. b || list_any (λ n. list_any (agrees x cell (record { definite = definite; tuple = tuple })) (constraint_patterns n)) (enumerate_from (k + 1) cs)) (constraint_pairs definite k c ∙ ap (λ b. b && list_any (access_agrees x cell (length c.prefix) tuple) (constraint_reads c)) here)
      ∙ ap (λ b. list_any (access_agrees x cell (length c.prefix) tuple) (constraint_reads c) || b) rest ∙ or_false _
      ∙ ap (λ y. list_any (access_agrees y cell (length c.prefix) tuple) (constraint_reads c)) (sym ex) ∙ ap (λ l. list_any (access_agrees kind.choice l (length c.prefix) tuple) (constraint_reads c)) (sym ec)
  pairs_from definite kind ex ec (c ∷ cs) k (suc j) e =
      let here : nat_eq k definite ≡ false = grind (arith, nat_tests) in
      ap (λ b. b || list_any (λ n. list_any (agrees x cell (record { definite = definite; tuple = tuple })) (constraint_patterns n)) (enumerate_from (k + 1) cs)) (constraint_pairs definite k c ∙ ap (λ b. b && list_any (access_agrees x cell (length c.prefix) tuple) (constraint_reads c)) here)
      ∙ pairs_from definite kind ex ec cs (k + 1) j (omega (arith, e))

pub patterns_pair : (plan : Plan) (task : Task) (cell : Cell) → PatternsPair plan task cell
unfolding is_paired
patterns_pair plan task cell =
    let zero_more : task.definite ≡ 0 + task.definite = omega arith in
    any_each (agrees cell.choice cell.args task) constraint_patterns (enumerate_from 0 (constraints_in plan)) ∙ pairs_from cell.choice cell.args task.tuple task.definite cell refl refl (constraints_in plan) 0 task.definite zero_more
