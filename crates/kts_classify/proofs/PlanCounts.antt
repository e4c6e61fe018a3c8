-- The plan of a specification has few clauses, literals and constraints, and its numbers name them.
use Rattle.std.proofs.Common.{◌≡◌, refl, sym, ap, ◌∙◌, ℕ, suc, zero, ◌+◌, ◌*◌, ◌^◌, ◌<◌, ◌≤◌, List, [], ◌∷◌, ◌++◌, length, map, Bool, true, false, ◌&&◌, Some, append_assoc, length-append, get_or, arith, nat_lt}
use Rattle.std.specs.Prelude.{flat_map, filter, slice_get}
use Rattle.std.specs.List.{enumerate_from, list_all, sum_by}
use Rattle.std.proofs.lemmas.Bool.{and_parts, and_from, leb-true, ltb-true, lt-ltb}
use Rattle.kts_spec.specs.Related.{AllOf}
use Rattle.std.proofs.lemmas.List.{length-map}
use Rattle.std.proofs.lemmas.List.Folds.{list_all-append}
use Rattle.std.proofs.lemmas.List.Sums.{sum_by-append, sum_by-cons}
use Rattle.kts_base.specs.Limits.{most_trees, most_formulas}
use Rattle.kts_spec.specs.Answers.{formulas_of}
use Rattle.kts_spec.specs.Sizes.{size_of_formula, keeps_limits, has_short_prefixes}
use Rattle.kts_spec.specs.Specifications.{is_formula}
use Rattle.kts_spec.specs.Typing.{is_typed}
use Rattle.kts_spec.specs.declared.spec.Spec.{Spec}
use Rattle.kts_spec.specs.declared.schema.Schema.{Schema}
use Rattle.kts_spec.specs.declared.tree.Formula.{Formula}
use Rattle.kts_spec.proofs.Conditions.{spec_facts}
use Rattle.kts_clause.specs.ClauseFacts.{clause_trees}
use Rattle.kts_clause.specs.Clauses.{clauses_of}
use Rattle.kts_clause.specs.declared.clause.Clause.{Clause}
use Rattle.kts_clause.specs.declared.literal.Literal.{Literal}
use Rattle.kts_clause.proofs.ClauseCounts.{clauses_few, clauses_small}
use Rattle.kts_plan.specs.Heads.{heads_of}
use Rattle.kts_plan.specs.PlanNumbers.{are_few, names_literal, is_plan}
use Rattle.kts_plan.specs.Plans.{clauses_of_spec, definites_of_literal, definites_of_clause, definites_of, is_residual, residuals_of}
use Rattle.kts_plan.specs.declared.definite.Definite.{Definite}
use Rattle.kts_plan.specs.declared.head.Head.{Head}
use Rattle.kts_classify.proofs.HeadCounts.{heads_few, has_tree}

-- a formula of a specification has few trees
pub formula_trees : (schema : Schema) (p : Formula) → is_formula schema p ≡ true → (size_of_formula p).trees ≤ most_trees
unfolding is_formula
formula_trees schema p h =
    let kept = (and_parts (is_typed schema p [] && has_short_prefixes p 0) (keeps_limits (size_of_formula p)) h).1 in
    leb-true (size_of_formula p).trees most_trees (and_parts _ _ (and_parts _ _ kept).0).0

-- formulas with few trees each
abbrev AreSmall : List Formula → Type 0
AreSmall = AllOf (λ p. (size_of_formula p).trees ≤ most_trees)

all_formulas : (schema : Schema) (formulas : List (List ℕ × Formula)) → list_all (λ f. is_formula schema f.1) formulas ≡ true → AreSmall (map (λ f. f.1) formulas)
all_formulas schema [] h = tt
all_formulas schema (f ∷ formulas) h =
    let both = and_parts (is_formula schema f.1) (list_all (λ f. is_formula schema f.1) formulas) h in
    (formula_trees schema f.1 both.0, all_formulas schema formulas both.1)

abbrev clauses_from : ℕ → List Formula → List Clause
clauses_from k ps = flat_map (λ (numbered : ℕ × Formula). clauses_of numbered.0 numbered.1) (enumerate_from k ps)

count_clauses : (ps : List Formula) (k : ℕ) → AreSmall ps → length (clauses_from k ps) ≤ length ps * most_trees
count_clauses [] k h = omega arith
count_clauses (p ∷ ps) k h =
    let both = length-append (clauses_of k p) (clauses_from (k + 1) ps) in
    let here = clauses_few k p in
    let small = h.0 in
    let more = count_clauses ps (k + 1) h.1 in
    omega (arith, both, here, small, more)

count_trees : (ps : List Formula) (k : ℕ) → AreSmall ps → sum_by clause_trees (clauses_from k ps) ≤ length ps * most_trees
count_trees [] k h = omega arith
count_trees (p ∷ ps) k h =
    let both = sum_by-append clause_trees (clauses_of k p) (clauses_from (k + 1) ps) in
    let here = clauses_small k p in
    let small = h.0 in
    let more = count_trees ps (k + 1) h.1 in
    omega (arith, both, here, small, more)

-- ---- constraints

abbrev trees_of : Literal → ℕ
trees_of l = (size_of_formula l.formula).trees

count_heads : (n : ℕ) (ls : List Literal) (k : ℕ) → length (flat_map (definites_of_literal n) (enumerate_from k ls)) ≤ 2 * sum_by trees_of ls
count_heads n [] k = omega arith
count_heads n (l ∷ ls) k =
    let both = length-append (definites_of_literal n (k, l)) (flat_map (definites_of_literal n) (enumerate_from (k + 1) ls)) in
    let here = length-map (heads_of l) (λ (h : Head). let d : Definite = record { clause = n; literal = k; head = h } in d) in
    let few = heads_few l in
    let more = count_heads n ls (k + 1) in
    let sum = sum_by-cons trees_of l ls in
    omega (arith, both, here, few, more, sum)

pub count_definites : (cs : List Clause) (k : ℕ) → length (flat_map definites_of_clause (enumerate_from k cs)) ≤ 2 * sum_by clause_trees cs
count_definites [] k = omega arith
count_definites (c ∷ cs) k =
    let both = length-append (definites_of_clause (k, c)) (flat_map definites_of_clause (enumerate_from (k + 1) cs)) in
    let here = count_heads k c.literals 0 in
    let more = count_definites cs (k + 1) in
    let sum = sum_by-cons clause_trees c cs in
    omega (arith, both, here, more, sum)

count_literals : (ls : List Literal) → length ls ≤ sum_by trees_of ls
count_literals [] = omega arith
count_literals (l ∷ ls) = let some = has_tree l.formula in let more = count_literals ls in let sum = sum_by-cons trees_of l ls in omega (arith, some, more, sum)

few_literals : (cs : List Clause) (n : ℕ) → sum_by clause_trees cs ≤ n → n < 2 ^ 32 → list_all (λ (c : Clause). are_few c.literals) cs ≡ true
few_literals [] n h lt = refl
few_literals (c ∷ cs) n h lt =
    let sum = sum_by-cons clause_trees c cs in
    let here = count_literals c.literals in
    and_from _ _ (lt-ltb (length c.literals) (2 ^ 32) (omega (arith, sum, here))) (few_literals cs n (omega (arith, sum)) lt)

-- ---- numbers

all_flat : {X Y : Type 0} (p : Y → Bool) (f : X → List Y) (xs : List X) → ((x : X) → list_all p (f x) ≡ true) → list_all p (flat_map f xs) ≡ true
all_flat p f [] h = refl
all_flat p f (x ∷ xs) h = list_all-append p (f x) (flat_map f xs) ∙ and_from _ _ (h x) (all_flat p f xs h)

all_mapped : {X Y : Type 0} (p : Y → Bool) (f : X → Y) (b : Bool) (xs : List X) → ((x : X) → p (f x) ≡ b) → b ≡ true → list_all p (map f xs) ≡ true
all_mapped p f b [] h e = refl
all_mapped p f b (x ∷ xs) h e = and_from _ _ (h x ∙ e) (all_mapped p f b xs h e)

abbrev is_named : List Clause → Definite → Bool
is_named clauses d = names_literal (slice_get clauses d.clause) d.literal

names_in : (clauses : List Clause) (n : ℕ) (c : Clause) → slice_get clauses n ≡ Some c → (ls : List Literal) (k : ℕ) → k + length ls ≡ length c.literals
    → list_all (is_named clauses) (flat_map (definites_of_literal n) (enumerate_from k ls)) ≡ true
names_in clauses n c e [] k long = refl
names_in clauses n c e (l ∷ ls) k long =
    let there : nat_lt k (length c.literals) ≡ true = lt-ltb k (length c.literals) (omega (arith, long)) in
    list_all-append (is_named clauses) (definites_of_literal n (k, l)) (flat_map (definites_of_literal n) (enumerate_from (k + 1) ls))
    ∙ and_from _ _
    (all_mapped (is_named clauses) (λ (h : Head). let d : Definite = record { clause = n; literal = k; head = h } in d) (nat_lt k (length c.literals)) (heads_of l) (λ h. ap (λ o. names_literal o k) e) there)
    (names_in clauses n c e ls (k + 1) (omega (arith, long)))

at_end : {X : Type 0} (before : List X) (x : X) (rest : List X) → slice_get (before ++ x ∷ rest) (length before) ≡ Some x
at_end [] x rest = refl
at_end (y ∷ before) x rest = at_end before x rest

names_from : (clauses before rest : List Clause) (n : ℕ) → n ≡ length before → clauses ≡ before ++ rest → list_all (is_named clauses) (flat_map definites_of_clause (enumerate_from n rest)) ≡ true
names_from clauses before [] n long e = refl
names_from clauses before (c ∷ rest) n long e =
    let there : slice_get clauses n ≡ Some c = ap (λ cs. slice_get cs n) e ∙ ap (slice_get (before ++ c ∷ rest)) long ∙ at_end before c rest in
    let more = length-append before (c ∷ []) in
    list_all-append (is_named clauses) (definites_of_clause (n, c)) (flat_map definites_of_clause (enumerate_from (n + 1) rest))
    ∙ and_from _ _ (names_in clauses n c there c.literals 0 (omega arith)) (names_from clauses (before ++ c ∷ []) rest (n + 1) (omega (arith, more)) (e ∙ sym (append_assoc before (c ∷ []) rest)))

abbrev number_of : ℕ × Clause → ℕ
number_of numbered = numbered.0

residuals_from : (n : ℕ) (cs : List Clause) (k : ℕ) → k + length cs ≤ n → list_all (λ r. nat_lt r n) (map number_of (filter (λ (numbered : ℕ × Clause). is_residual numbered.1) (enumerate_from k cs))) ≡ true
residuals_from n [] k h = refl
residuals_from n (c ∷ cs) k h = by (is_residual c) refl (residuals_from n cs (k + 1) (omega arith))
  where
    by : (b : Bool) → is_residual c ≡ b → list_all (λ r. nat_lt r n) (map number_of (filter (λ (numbered : ℕ × Clause). is_residual numbered.1) (enumerate_from (k + 1) cs))) ≡ true
        → list_all (λ r. nat_lt r n) (map number_of (filter (λ (numbered : ℕ × Clause). is_residual numbered.1) ((k, c) ∷ enumerate_from (k + 1) cs))) ≡ true
    by true e rest = rw e (and_from _ _ (lt-ltb k n (omega arith)) rest)
    by false e rest = rw e rest

count_residuals : (cs : List Clause) (k : ℕ) → length (map number_of (filter (λ (numbered : ℕ × Clause). is_residual numbered.1) (enumerate_from k cs))) ≤ length cs
count_residuals [] k = omega arith
count_residuals (c ∷ cs) k = by (is_residual c) refl (count_residuals cs (k + 1))
  where
    by : (b : Bool) → is_residual c ≡ b → length (map number_of (filter (λ (numbered : ℕ × Clause). is_residual numbered.1) (enumerate_from (k + 1) cs))) ≤ length cs
        → length (map number_of (filter (λ (numbered : ℕ × Clause). is_residual numbered.1) ((k, c) ∷ enumerate_from (k + 1) cs))) ≤ length (c ∷ cs)
    by true e more = rw e (omega (arith, more))
    by false e more = rw e (omega (arith, more))

-- ---- the plan

pub few_clauses : (spec : Spec) → length (clauses_of_spec spec) ≤ most_formulas * most_trees
few_clauses spec =
    let facts = spec_facts spec in
    let count = count_clauses (formulas_of spec) 0 (all_formulas spec.schema spec.formulas facts.formulas) in
    let long = length-map spec.formulas (λ (f : List ℕ × Formula). f.1) in
    let few = facts.few_formulas in
    omega (arith, count, long, few)

pub few_trees : (spec : Spec) → sum_by clause_trees (clauses_of_spec spec) ≤ most_formulas * most_trees
few_trees spec =
    let facts = spec_facts spec in
    let count = count_trees (formulas_of spec) 0 (all_formulas spec.schema spec.formulas facts.formulas) in
    let long = length-map spec.formulas (λ (f : List ℕ × Formula). f.1) in
    let few = facts.few_formulas in
    omega (arith, count, long, few)

pub literals_few : (spec : Spec) → list_all (λ (c : Clause). are_few c.literals) (clauses_of_spec spec) ≡ true
literals_few spec = few_literals (clauses_of_spec spec) (most_formulas * most_trees) (few_trees spec) (omega arith)

pub plan_is : (spec : Spec) → is_plan (clauses_of_spec spec) (definites_of (clauses_of_spec spec)) (residuals_of (clauses_of_spec spec)) ≡ true
unfolding is_plan
plan_is spec =
    let cs = clauses_of_spec spec in
    let clauses = few_clauses spec in
    let definites = count_definites cs 0 in
    let trees = few_trees spec in
    let residuals = count_residuals cs 0 in
    and_from _ _
    (and_from _ _
    (and_from _ _
    (and_from _ _ (and_from _ _ (lt-ltb (length cs) (2 ^ 32) (omega (arith, clauses))) (literals_few spec)) (lt-ltb (length (definites_of cs)) (2 ^ 32) (omega (arith, definites, trees))))
    (lt-ltb (length (residuals_of cs)) (2 ^ 32) (omega (arith, residuals, clauses))))
    (names_from cs [] cs 0 refl refl)) (residuals_from (length cs) cs 0 (omega arith))

-- ---- items

pub all_at : {X : Type 0} (p : X → Bool) (xs : List X) (k : ℕ) (x : X) → list_all p xs ≡ true → k < length xs → x ≡ get_or xs k x → p x ≡ true
all_at p [] k x h lt e = absurd (omega arith)
all_at p (y ∷ xs) zero x h lt e = ap p e ∙ (and_parts (p y) (list_all p xs) h).0
all_at p (y ∷ xs) (suc k) x h lt e = all_at p xs k x (and_parts (p y) (list_all p xs) h).1 (omega arith) e

-- a formula of a specification, as the code has it
pub item_trees : (spec : Spec) (items : List (List ℕ × Formula)) (k : ℕ) (f : List ℕ × Formula) → items ≡ spec.formulas → k < length items → f ≡ get_or items k f → (size_of_formula f.1).trees ≤ most_trees
item_trees spec items k f e lt is = formula_trees spec.schema f.1 (all_at (λ (f : List ℕ × Formula). is_formula spec.schema f.1) items k f (ap (list_all (λ (f : List ℕ × Formula). is_formula spec.schema f.1)) e ∙ (spec_facts spec).formulas) lt is)

-- a clause of a specification, as the code has it
pub item_literals : (spec : Spec) (items : List Clause) (k : ℕ) (c : Clause) → items ≡ clauses_of_spec spec → k < length items → c ≡ get_or items k c → length c.literals < 2 ^ 32
item_literals spec items k c e lt is = ltb-true (length c.literals) (2 ^ 32) (all_at (λ (c : Clause). are_few c.literals) items k c (ap (list_all (λ (c : Clause). are_few c.literals)) e ∙ literals_few spec) lt is)
