-- The clauses of a formula of a specification have prefixes of constraints, and well typed literals within the limits.
use Rattle.std.proofs.Common.{◌≡◌, refl, sym, ap, ◌∙◌, subst, ℕ, suc, ◌+◌, ◌≤◌, List, [], ◌∷◌, ◌++◌, length, map, fold, arith, Bool, true, false, ◌&&◌, nat_le, length-append}
use Rattle.std.specs.Prelude.{Option, flat_map}
use Rattle.std.specs.List.{list_all}
use Rattle.std.proofs.lemmas.List.Folds.{list_all-append}
use Rattle.std.proofs.lemmas.Bool.{and_parts, and_from, leb-true, le-leb}
use Rattle.kts_base.specs.Limits.{most_trees, most_depth, most_addends, most_prefix}
use Rattle.kts_spec.specs.Related.{AllOf}
use Rattle.kts_spec.specs.Schemas.{is_prefix}
use Rattle.kts_spec.specs.Sizes.{Size, no_trees, beside, all_beside, formula_size, size_of_term, size_of_formula, keeps_limits, formula_prefix, has_short_prefixes}
use Rattle.kts_spec.specs.Specifications.{is_formula}
use Rattle.kts_spec.specs.Typing.{Kind, may_bind, is_index, formula_typed, kind_of, is_typed}
use Rattle.kts_spec.specs.declared.schema.Schema.{Schema}
use Rattle.kts_spec.specs.declared.tree.Term.{Term}
use Rattle.kts_spec.specs.declared.tree.Formula.{Formula, roll-Formula}
use Rattle.kts_spec.specs.declared.tree.Formula.TheOpen as one
use Rattle.kts_spec.specs.declared.tree.Formula.TheFolds.{map-Formula}
use Rattle.kts_spec.proofs.AddendRanges.{all_append}
use Rattle.kts_spec.proofs.Rolls.{is_typed-roll, size_of_formula-roll, has_short_prefixes-roll}
use Rattle.kts_clause.specs.ClauseFacts.{LiteralFacts, ClauseFacts}
use Rattle.kts_clause.specs.Clauses.{Parts, Disjunction, FormulaPart, self, positive, negated, one_clause, parts_step, parts_of, disjunctions, numbered_from, clauses_of}
use Rattle.kts_clause.specs.declared.literal.Literal.{Literal}
use Rattle.kts_clause.proofs.FormulaInductions.{AnyTerm, Part, formulas, bare, by_formulas}
use Rattle.kts_clause.proofs.PartRolls.{with_each, with_parts, parts-roll, self_is}

all_flat : {X Y : Type 0} (Q : Y → Type 0) (f : X → List Y) (xs : List X) → AllOf (λ x. AllOf Q (f x)) xs → AllOf Q (flat_map f xs)
all_flat Q f [] h = tt
all_flat Q f (x ∷ xs) h = all_append Q (f x) (flat_map f xs) h.0 (all_flat Q f xs h.1)

all_also : {X : Type 0} (P Q : X → Type 0) (xs : List X) → ((x : X) → P x → Q x) → AllOf P xs → AllOf Q xs
all_also P Q [] f h = tt
all_also P Q (x ∷ xs) f h = (f x h.0, all_also P Q xs f h.1)

-- ---- sizes within the limits

record IsWithin (s : Size) : Type 0 where
  trees : s.trees ≤ most_trees
  depth : s.depth ≤ most_depth
  widest : s.widest ≤ most_addends

within_from : (s : Size) → keeps_limits s ≡ true → IsWithin s
within_from s h =
    let all = and_parts (nat_le s.trees most_trees && nat_le s.depth most_depth) (nat_le s.widest most_addends) h in
    let both = and_parts (nat_le s.trees most_trees) (nat_le s.depth most_depth) all.0 in
    record { trees = leb-true s.trees most_trees both.0; depth = leb-true s.depth most_depth both.1; widest = leb-true s.widest most_addends all.1 }

within_kept : (s : Size) → IsWithin s → keeps_limits s ≡ true
within_kept s w = and_from _ _ (and_from _ _ (le-leb s.trees most_trees w.trees) (le-leb s.depth most_depth w.depth)) (le-leb s.widest most_addends w.widest)

-- trees side by side
first_within : (ss : List Size) (s : Size) → IsWithin (fold beside s ss) → IsWithin s
first_within [] s h = h
first_within (x ∷ ss) s h =
    let r = first_within ss (beside s x) h in
    let trees = r.trees in let depth = r.depth in let widest = r.widest in
    record { trees = omega arith; depth = omega arith; widest = omega arith }

each_within : (ss : List Size) (s : Size) → IsWithin (fold beside s ss) → AllOf IsWithin ss
each_within [] s h = tt
each_within (x ∷ ss) s h =
    let r = first_within ss (beside s x) h in
    let trees = r.trees in let depth = r.depth in let widest = r.widest in
    (record { trees = omega arith; depth = omega arith; widest = omega arith }, each_within ss (beside s x) h)

module _ (schema : Schema) where
  abbrev Sounds : List ℕ → List Literal → Type 0
  Sounds scope = AllOf (LiteralFacts schema scope)

  record IsSound (c : Disjunction) : Type 0 where
    prefix : is_prefix (length schema.indexes) c.prefix ≡ true
    literals : Sounds c.prefix c.literals

  -- what a formula gives is sound where the formula is
  record AreSound (typed : List ℕ → Bool) (size : Size) (short : ℕ → Bool) (p : Parts) : Type 0 where
    plus : (scope : List ℕ) → typed scope ≡ true → IsWithin size → Sounds scope p.plus
    minus : (scope : List ℕ) → typed scope ≡ true → IsWithin size → Sounds scope p.minus
    clauses : (prefix : List ℕ) → typed prefix ≡ true → IsWithin size → is_prefix (length schema.indexes) prefix ≡ true → short (length prefix) ≡ true → AllOf IsSound (p.clauses prefix)

  abbrev Claim : Formula → Type 0
  Claim p = AreSound (is_typed schema p) (size_of_formula p) (has_short_prefixes p) (parts_of p)

  abbrev parts : List (Part Claim) → List FormulaPart
  parts ps = with_each (formulas Claim ps)

  abbrev typed_step : one.Formula-F Formula Term → List ℕ → Bool
  typed_step x = formula_typed schema (map-Formula Formula Term (List ℕ → Bool) (List ℕ → Option Kind) (is_typed schema) (kind_of schema) x)

  abbrev size_step : one.Formula-F Formula Term → Size
  size_step x = formula_size (map-Formula Formula Term Size Size size_of_formula size_of_term x)

  abbrev short_step : one.Formula-F Formula Term → ℕ → Bool
  short_step x = formula_prefix (map-Formula Formula Term (ℕ → Bool) (Unit {0}) has_short_prefixes (λ _. tt) x)

  -- the formula itself, with a sign
  self_sound : (x : one.Formula-F Formula Term) (negative : Bool) (scope : List ℕ) → typed_step x scope ≡ true → IsWithin (size_step x) → LiteralFacts schema scope (record { negative = negative; formula = self (with_parts x) })
  self_sound x negative scope e w = record {
    typed = ap (λ p. is_typed schema p scope) (self_is x) ∙ ap (λ (f : List ℕ → Bool). f scope) (is_typed-roll schema x) ∙ e;
    limited = ap (λ p. keeps_limits (size_of_formula p)) (self_is x) ∙ ap keeps_limits (size_of_formula-roll x) ∙ within_kept (size_step x) w;
  }

  plus_self : (x : one.Formula-F Formula Term) (scope : List ℕ) → typed_step x scope ≡ true → IsWithin (size_step x) → Sounds scope (positive (self (with_parts x)))
  plus_self x scope e w = (self_sound x false scope e w, tt)

  minus_self : (x : one.Formula-F Formula Term) (scope : List ℕ) → typed_step x scope ≡ true → IsWithin (size_step x) → Sounds scope (negated (self (with_parts x)))
  minus_self x scope e w = (self_sound x true scope e w, tt)

  -- one clause of these literals
  one_sound : (ls : List Literal) (x : one.Formula-F Formula Term) → ((scope : List ℕ) → typed_step x scope ≡ true → IsWithin (size_step x) → Sounds scope ls)
      → (prefix : List ℕ) → typed_step x prefix ≡ true → IsWithin (size_step x) → is_prefix (length schema.indexes) prefix ≡ true → short_step x (length prefix) ≡ true → AllOf IsSound (one_clause ls prefix)
  one_sound ls x h prefix e w few short = (record { prefix = few; literals = h prefix e w }, tt)

  -- a formula under one tree more
  under_tree : (s : Size) → suc s.trees ≤ most_trees → suc s.depth ≤ most_depth → s.widest ≤ most_addends → IsWithin s
  under_tree s trees depth widest = record { trees = omega arith; depth = omega arith; widest = widest }

  sizes_within : (ps : List (Part Claim)) → IsWithin (size_step (one.And (formulas Claim ps))) → AllOf IsWithin (map size_of_formula (formulas Claim ps))
  sizes_within ps w = let sizes = map size_of_formula (formulas Claim ps) in each_within sizes no_trees (under_tree (all_beside sizes) w.trees w.depth w.widest)

  -- the literals of each part
  each_literal : (pick : Parts → List Literal) (scope : List ℕ) (ps : List (Part Claim)) → ((p : Part Claim) → is_typed schema p.0 scope ≡ true → IsWithin (size_of_formula p.0) → Sounds scope (pick (parts_of p.0)))
      → list_all (λ (p : List ℕ → Bool). p scope) (map (is_typed schema) (formulas Claim ps)) ≡ true → AllOf IsWithin (map size_of_formula (formulas Claim ps)) → Sounds scope (flat_map (λ (p : FormulaPart). pick p.1) (parts ps))
  each_literal pick scope [] h e w = tt
  each_literal pick scope (p ∷ ps) h e w =
      let both = and_parts (is_typed schema p.0 scope) (list_all (λ (p : List ℕ → Bool). p scope) (map (is_typed schema) (formulas Claim ps))) e in
      all_append (LiteralFacts schema scope) (pick (parts_of p.0)) _ (h p both.0 w.0) (each_literal pick scope ps h both.1 w.1)

  -- the clauses of each part
  each_clause : (prefix : List ℕ) (ps : List (Part Claim)) → list_all (λ (p : List ℕ → Bool). p prefix) (map (is_typed schema) (formulas Claim ps)) ≡ true → AllOf IsWithin (map size_of_formula (formulas Claim ps))
      → is_prefix (length schema.indexes) prefix ≡ true → list_all (λ (p : ℕ → Bool). p (length prefix)) (map has_short_prefixes (formulas Claim ps)) ≡ true → AllOf IsSound (flat_map (λ (p : FormulaPart). p.1.clauses prefix) (parts ps))
  each_clause prefix [] e w few short = tt
  each_clause prefix (p ∷ ps) e w few short =
      let both = and_parts (is_typed schema p.0 prefix) (list_all (λ (p : List ℕ → Bool). p prefix) (map (is_typed schema) (formulas Claim ps))) e in
      let shorts = and_parts (has_short_prefixes p.0 (length prefix)) (list_all (λ (p : ℕ → Bool). p (length prefix)) (map has_short_prefixes (formulas Claim ps))) short in
      all_append IsSound ((parts_of p.0).clauses prefix) _ (p.1.clauses prefix both.0 w.0 few shorts.0) (each_clause prefix ps both.1 w.1 few shorts.1)

  -- the prefix under further variables
  longer_prefix : (prefix indexes : List ℕ) → is_prefix (length schema.indexes) prefix ≡ true → may_bind schema prefix indexes ≡ true → nat_le (length prefix + length indexes) most_prefix ≡ true → is_prefix (length schema.indexes) (prefix ++ indexes) ≡ true
  longer_prefix prefix indexes few bind short =
      let before = and_parts (nat_le (length prefix) most_prefix) (list_all (is_index schema) prefix) few in
      let bound = and_parts (nat_le 1 (length indexes) && list_all (is_index schema) indexes) _ bind in
      let there = and_parts (nat_le 1 (length indexes)) (list_all (is_index schema) indexes) bound.0 in
      and_from _ _ (ap (λ n. nat_le n most_prefix) (length-append prefix indexes) ∙ short)
      (list_all-append (is_index schema) prefix indexes ∙ and_from _ _ before.1 there.1)

  case : (y : one.Formula-F (Part Claim) AnyTerm) → AreSound (typed_step (bare Claim y)) (size_step (bare Claim y)) (short_step (bare Claim y)) (parts_step (with_parts (bare Claim y)))
  case (one.Compare c a b) = let x = one.Compare c a.0 b.0 in record { plus = plus_self x; minus = minus_self x; clauses = one_sound (positive (self (with_parts x))) x (plus_self x) }
  case (one.And ps) =
      let x = one.And (formulas Claim ps) in
      record {
        plus = plus_self x;
        minus = λ scope e w.
            let typed = and_parts (nat_le 2 (length (map (is_typed schema) (formulas Claim ps)))) (list_all (λ (p : List ℕ → Bool). p scope) (map (is_typed schema) (formulas Claim ps))) e in
            each_literal (λ p. p.minus) scope ps (λ p. p.1.minus scope) typed.1 (sizes_within ps w);
        clauses = λ prefix e w few short.
            let typed = and_parts (nat_le 2 (length (map (is_typed schema) (formulas Claim ps)))) (list_all (λ (p : List ℕ → Bool). p prefix) (map (is_typed schema) (formulas Claim ps))) e in
            each_clause prefix ps typed.1 (sizes_within ps w) few short;
      }
  case (one.Or ps) =
      let x = one.Or (formulas Claim ps) in
      let plus : (scope : List ℕ) → typed_step x scope ≡ true → IsWithin (size_step x) → Sounds scope (flat_map (λ (p : FormulaPart). p.1.plus) (parts ps)) =
      λ scope e w.
      let typed = and_parts (nat_le 2 (length (map (is_typed schema) (formulas Claim ps)))) (list_all (λ (p : List ℕ → Bool). p scope) (map (is_typed schema) (formulas Claim ps))) e in
      each_literal (λ p. p.plus) scope ps (λ p. p.1.plus scope) typed.1 (sizes_within ps w) in
      record { plus = plus; minus = minus_self x; clauses = one_sound (flat_map (λ (p : FormulaPart). p.1.plus) (parts ps)) x plus }
  case (one.Not p) =
      let x = one.Not p.0 in
      let plus : (scope : List ℕ) → typed_step x scope ≡ true → IsWithin (size_step x) → Sounds scope (parts_of p.0).minus = λ scope e w. p.1.minus scope e (under_tree (size_of_formula p.0) w.trees w.depth w.widest) in
      record { plus = plus; minus = λ scope e w. p.1.plus scope e (under_tree (size_of_formula p.0) w.trees w.depth w.widest); clauses = one_sound (parts_of p.0).minus x plus }
  case (one.Implies p q) =
      let x = one.Implies p.0 q.0 in
      let plus : (scope : List ℕ) → typed_step x scope ≡ true → IsWithin (size_step x) → Sounds scope ((parts_of p.0).minus ++ (parts_of q.0).plus) =
      λ scope e w.
      let both = and_parts (is_typed schema p.0 scope) (is_typed schema q.0 scope) e in
      let trees = w.trees in let depth = w.depth in let widest = w.widest in
      all_append (LiteralFacts schema scope) (parts_of p.0).minus (parts_of q.0).plus
      (p.1.minus scope both.0 (record { trees = omega arith; depth = omega arith; widest = omega arith }))
      (q.1.plus scope both.1 (record { trees = omega arith; depth = omega arith; widest = omega arith })) in
      record { plus = plus; minus = minus_self x; clauses = one_sound ((parts_of p.0).minus ++ (parts_of q.0).plus) x plus }
  case (one.Forall indexes p) =
      let x = one.Forall indexes p.0 in
      record {
        plus = plus_self x;
        minus = minus_self x;
        clauses = λ prefix e w few short.
            let typed = and_parts (may_bind schema prefix indexes) (is_typed schema p.0 (prefix ++ indexes)) e in
            let shorts = and_parts (nat_le (length prefix + length indexes) most_prefix) (has_short_prefixes p.0 (length prefix + length indexes)) short in
            p.1.clauses (prefix ++ indexes) typed.1 (under_tree (size_of_formula p.0) w.trees w.depth w.widest) (longer_prefix prefix indexes few typed.0 shorts.0)
            (ap (has_short_prefixes p.0) (length-append prefix indexes) ∙ shorts.1);
      }
  case (one.Exists indexes p) = let x = one.Exists indexes p.0 in record { plus = plus_self x; minus = minus_self x; clauses = one_sound (positive (self (with_parts x))) x (plus_self x) }

  each : (y : one.Formula-F (Part Claim) AnyTerm) → Claim (roll-Formula (bare Claim y))
  each y =
      let x = bare Claim y in
      let p = roll-Formula x in
      subst (λ (f : List ℕ → Bool). AreSound f (size_of_formula p) (has_short_prefixes p) (parts_of p)) (sym (is_typed-roll schema x))
      (subst (λ (s : Size). AreSound (typed_step x) s (has_short_prefixes p) (parts_of p)) (sym (size_of_formula-roll x))
      (subst (λ (f : ℕ → Bool). AreSound (typed_step x) (size_step x) f (parts_of p)) (sym (has_short_prefixes-roll x))
      (subst (λ (q : Parts). AreSound (typed_step x) (size_step x) (short_step x) q) (sym (parts-roll x)) (case y))))

  sound : (p : Formula) → Claim p
  sound = by_formulas Claim each

  -- numbered or not
  with_numbers : (number k : ℕ) (cs : List Disjunction) → AllOf IsSound cs → AllOf (ClauseFacts schema) (numbered_from number k cs)
  with_numbers number k [] h = tt
  with_numbers number k (c ∷ cs) h = (record { prefix = h.0.prefix; literals = h.0.literals }, with_numbers number (k + 1) cs h.1)

pub clauses_typed : (number : ℕ) (p : Formula) (schema : Schema) → is_formula schema p ≡ true → AllOf (ClauseFacts schema) (clauses_of number p)
unfolding is_formula
clauses_typed number p schema h =
    let small = and_parts (is_typed schema p [] && has_short_prefixes p 0) (keeps_limits (size_of_formula p)) h in
    let typed = and_parts (is_typed schema p []) (has_short_prefixes p 0) small.0 in
    with_numbers schema number 0 (disjunctions p []) ((sound schema p).clauses [] typed.0 (within_from (size_of_formula p) small.1) refl typed.1)
