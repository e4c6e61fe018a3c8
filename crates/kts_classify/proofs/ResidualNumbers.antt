-- The clauses without constraints, by their numbers.
use Rattle.std.proofs.Common.{◌≡◌, refl, sym, ap, ◌∙◌, ℕ, ◌+◌, List, [], ◌∷◌, ◌++◌, length, map, take, Bool, true, false, ◌&&◌, if◌then◌else◌, nat_eq, arith, length-append}
use Rattle.std.specs.Prelude.{flat_map, filter}
use Rattle.std.specs.List.{enumerate_from, list_all}
use Rattle.std.proofs.lemmas.Bool.Decides.{nat_tests}
use Rattle.kts_classify.proofs.HeadLists.{numbered_all}
use Rattle.kts_clause.specs.declared.clause.Clause.{Clause}
use Rattle.kts_clause.specs.declared.literal.Literal.{Literal}
use Rattle.kts_plan.specs.Heads.{heads_of}
use Rattle.kts_plan.specs.Plans.{definites_of_literal, definites_of_clause, definites_of, has_no_head, is_residual, residuals_of}
use Rattle.kts_plan.specs.declared.definite.Definite.{Definite}
use Rattle.kts_plan.specs.declared.head.Head.{Head}

-- the number of a clause without constraints
abbrev pub residual_number : ℕ × Clause → List ℕ
residual_number numbered = if is_residual numbered.1 then numbered.0 ∷ [] else []

kept_numbers : (numbered : List (ℕ × Clause)) → map (λ (n : ℕ × Clause). n.0) (filter (λ (n : ℕ × Clause). is_residual n.1) numbered) ≡ flat_map residual_number numbered
kept_numbers [] = refl
kept_numbers (n ∷ ns) = by (is_residual n.1) refl (kept_numbers ns)
  where
    by : (b : Bool) → is_residual n.1 ≡ b → map (λ (n : ℕ × Clause). n.0) (filter (λ (n : ℕ × Clause). is_residual n.1) ns) ≡ flat_map residual_number ns
        → map (λ (n : ℕ × Clause). n.0) (filter (λ (n : ℕ × Clause). is_residual n.1) (n ∷ ns)) ≡ flat_map residual_number (n ∷ ns)
    by true e rest = rw e (ap (λ l. n.0 ∷ l) rest)
    by false e rest = rw e rest

pub residuals_are : (clauses : List Clause) → residuals_of clauses ≡ flat_map residual_number (enumerate_from 0 clauses)
residuals_are clauses = kept_numbers (enumerate_from 0 clauses)

-- ---- a clause is residual where no constraint is appended

abbrev is_zero : ℕ → Bool
is_zero n = nat_eq n 0

none_of_both : (a b : ℕ) → is_zero (a + b) ≡ (is_zero a && is_zero b)
none_of_both a b = grind (arith, nat_tests)

no_head : (hs : List Head) (f : Head → Definite) → is_zero (length (map f hs)) ≡ has_no_head hs
no_head [] f = refl
no_head (h ∷ hs) f = grind (arith, nat_tests)

no_heads : (n : ℕ) (ls : List Literal) (k : ℕ) → is_zero (length (flat_map (definites_of_literal n) (enumerate_from k ls))) ≡ list_all (λ (l : Literal). has_no_head (heads_of l)) ls
no_heads n [] k = refl
no_heads n (l ∷ ls) k =
    ap is_zero (length-append (definites_of_literal n (k, l)) (flat_map (definites_of_literal n) (enumerate_from (k + 1) ls)))
    ∙ none_of_both (length (definites_of_literal n (k, l))) (length (flat_map (definites_of_literal n) (enumerate_from (k + 1) ls)))
    ∙ ap (λ b. b && is_zero (length (flat_map (definites_of_literal n) (enumerate_from (k + 1) ls)))) (no_head (heads_of l) (λ (h : Head). let d : Definite = record { clause = n; literal = k; head = h } in d))
    ∙ ap (λ b. has_no_head (heads_of l) && b) (no_heads n ls (k + 1))

same_length : (a b : ℕ) → nat_eq (a + b) a ≡ is_zero b
same_length a b = grind (arith, nat_tests)

pub residual_is : (n : ℕ) (c : Clause) (before after : List Definite) → after ≡ before ++ definites_of_clause (n, c) → nat_eq (length after) (length before) ≡ is_residual c
residual_is n c before after e =
    ap (λ ds. nat_eq (length ds) (length before)) e ∙ ap (λ m. nat_eq m (length before)) (length-append before (definites_of_clause (n, c)))
    ∙ same_length (length before) (length (definites_of_clause (n, c))) ∙ no_heads n c.literals 0

-- ---- after the last clause

pub definites_end : (items clauses : List Clause) (k : ℕ) (ds : List Definite) → items ≡ clauses → k ≡ length items → ds ≡ flat_map definites_of_clause (take k (enumerate_from 0 items)) → ds ≡ definites_of clauses
definites_end items clauses k ds e end h = h ∙ numbered_all definites_of_clause items k end ∙ ap (λ xs. flat_map definites_of_clause (enumerate_from 0 xs)) e

pub residuals_end : (items clauses : List Clause) (k : ℕ) (rs : List ℕ) → items ≡ clauses → k ≡ length items → rs ≡ flat_map residual_number (take k (enumerate_from 0 items)) → rs ≡ residuals_of clauses
residuals_end items clauses k rs e end h = h ∙ numbered_all residual_number items k end ∙ ap (λ xs. flat_map residual_number (enumerate_from 0 xs)) e ∙ sym (residuals_are clauses)
