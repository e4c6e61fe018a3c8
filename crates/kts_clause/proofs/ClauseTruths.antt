-- A formula is as true as its clauses.
use Rattle.std.proofs.Common.{◌≡◌, refl, sym, ap, ◌∙◌, subst, ℕ, ◌+◌, List, [], ◌∷◌, ◌++◌, map, fold}
use Rattle.std.specs.Prelude.{flat_map}
use Rattle.std.specs.List.{range_with_len}
use Rattle.kts_spec.specs.declared.tree.Term.{Term}
use Rattle.kts_spec.specs.declared.tree.Formula.{Formula, roll-Formula}
use Rattle.kts_spec.specs.declared.tree.Formula.TheOpen as one
use Rattle.kts_spec.specs.declared.tree.Formula.TheFolds.{map-Formula}
use Rattle.kts_spec.specs.Domain.{Domain, value, truth, over, formula_step}
use Rattle.kts_spec.specs.Meaning.{on_schedule}
use Rattle.kts_spec.specs.Worlds.{size_of}
use Rattle.kts_spec.proofs.Rolls.{truth-roll}
use Rattle.kts_clause.specs.ClauseTruth.{literal_truth, some_true, clause_truth, all_true, ClausesMean}
use Rattle.kts_clause.specs.Clauses.{Parts, Disjunction, FormulaPart, self, positive, negated, one_clause, parts_step, parts_of, numbered_from, clauses_of}
use Rattle.kts_clause.specs.declared.literal.Literal.{Literal}
use Rattle.kts_clause.proofs.FormulaInductions.{AnyTerm, Part, formulas, bare, by_formulas}
use Rattle.kts_clause.proofs.PartRolls.{with_each, with_parts, parts-roll, self_is}
use Rattle.kts_clause.proofs.TruthAlgebras.{IsTruthAlgebra, on_schedules, fold_cons, fold_both, fold_same, fold_swap}

maps : {X Y Z : Type 0} (g : Y → Z) (f : X → Y) (xs : List X) → map g (map f xs) ≡ map (λ x. g (f x)) xs
maps g f [] = refl
maps g f (x ∷ xs) = ap (λ l. g (f x) ∷ l) (maps g f xs)

module _ {T B : Type 0} (size : ℕ → ℕ) (d : Domain T B) (laws : IsTruthAlgebra d) where
  abbrev is_true : Formula → List ℕ → B
  is_true = truth size d

  abbrev some : List Literal → List ℕ → B
  some = some_true size d

  abbrev overs : List ℕ → (List ℕ → B) → List ℕ → B
  overs = over d.both d.yes

  -- a disjunction, whatever members the variables of its prefix are
  abbrev holds : List ℕ → Disjunction → B
  holds vars c = overs (map size c.prefix) (some c.literals) vars

  abbrev all_hold : List Disjunction → List ℕ → B
  all_hold cs vars = fold d.both d.yes (map (holds vars) cs)

  pub record Means (f : List ℕ → B) (p : Parts) : Type 0 where
    pub plus : (vars : List ℕ) → some p.plus vars ≡ f vars
    pub minus : (vars : List ℕ) → some p.minus vars ≡ d.neg (f vars)
    pub clauses : (prefix vars : List ℕ) → all_hold (p.clauses prefix) vars ≡ overs (map size prefix) f vars

  abbrev Claim : Formula → Type 0
  Claim p = Means (is_true p) (parts_of p)

  abbrev parts : List (Part Claim) → List FormulaPart
  parts ps = with_each (formulas Claim ps)

  over_more : (is js : List ℕ) (p : List ℕ → B) (vars : List ℕ) → overs (map size (is ++ js)) p vars ≡ overs (map size is) (overs (map size js) p) vars
  over_more [] js p vars = refl
  over_more (i ∷ is) js p vars = fold_same B d.both d.yes laws.both_on laws.both_yes laws.yes_both _ _ (range_with_len 0 (size i)) (λ m. over_more is js p (vars ++ m ∷ []))

  over_same : (sizes : List ℕ) (p q : List ℕ → B) (vars : List ℕ) → ((vs : List ℕ) → p vs ≡ q vs) → overs sizes p vars ≡ overs sizes q vars
  over_same [] p q vars h = h vars
  over_same (n ∷ sizes) p q vars h = fold_same B d.both d.yes laws.both_on laws.both_yes laws.yes_both _ _ (range_with_len 0 n) (λ m. over_same sizes p q (vars ++ m ∷ []) h)

  over_fold : {X : Type 0} (g : X → List ℕ → B) (xs : List X) (sizes vars : List ℕ) → fold d.both d.yes (map (λ x. overs sizes (g x) vars) xs) ≡ overs sizes (λ vs. fold d.both d.yes (map (λ x. g x vs) xs)) vars
  over_fold g xs [] vars = refl
  over_fold g xs (n ∷ sizes) vars =
      fold_swap B d.both d.yes laws.both_on laws.both_yes laws.yes_both laws.both_turn (λ x m. overs sizes (g x) (vars ++ m ∷ [])) xs (range_with_len 0 n)
      ∙ fold_same B d.both d.yes laws.both_on laws.both_yes laws.yes_both _ _ (range_with_len 0 n) (λ m. over_fold g xs sizes (vars ++ m ∷ []))

  neg_fold : {X : Type 0} (g : X → B) (xs : List X) → d.neg (fold d.both d.yes (map g xs)) ≡ fold d.either d.no (map (λ x. d.neg (g x)) xs)
  neg_fold g [] = laws.neg_yes
  neg_fold g (x ∷ xs) =
      ap d.neg (fold_cons B d.both d.yes laws.both_on laws.both_yes laws.yes_both (g x) (map g xs)) ∙ laws.neg_both _ _
      ∙ ap (d.either (d.neg (g x))) (neg_fold g xs) ∙ sym (fold_cons B d.either d.no laws.either_on laws.either_no laws.no_either (d.neg (g x)) (map (λ x. d.neg (g x)) xs))

  -- the literals of all parts together
  some_each : (pick : Parts → List Literal) (g : Formula → B) (vars : List ℕ) (ps : List (Part Claim)) → ((p : Part Claim) → some (pick (parts_of p.0)) vars ≡ g p.0)
      → some (flat_map (λ (p : FormulaPart). pick p.1) (parts ps)) vars ≡ fold d.either d.no (map g (formulas Claim ps))
  some_each pick g vars [] h = refl
  some_each pick g vars (p ∷ ps) h =
      fold_both B d.either d.no laws.either_on laws.either_no laws.no_either (literal_truth size d vars) (pick (parts_of p.0)) _
      ∙ ap (λ b. d.either b (some (flat_map (λ (p : FormulaPart). pick p.1) (parts ps)) vars)) (h p)
      ∙ ap (d.either (g p.0)) (some_each pick g vars ps h)
      ∙ sym (fold_cons B d.either d.no laws.either_on laws.either_no laws.no_either (g p.0) (map g (formulas Claim ps)))

  -- the clauses of all parts together
  all_each : (prefix vars : List ℕ) (ps : List (Part Claim))
      → all_hold (flat_map (λ (p : FormulaPart). p.1.clauses prefix) (parts ps)) vars ≡ fold d.both d.yes (map (λ p. overs (map size prefix) (is_true p) vars) (formulas Claim ps))
  all_each prefix vars [] = refl
  all_each prefix vars (p ∷ ps) =
      let g = λ (p : Formula). overs (map size prefix) (is_true p) vars in
      fold_both B d.both d.yes laws.both_on laws.both_yes laws.yes_both (holds vars) ((parts_of p.0).clauses prefix) _
      ∙ ap (λ b. d.both b (all_hold (flat_map (λ (p : FormulaPart). p.1.clauses prefix) (parts ps)) vars)) (p.1.clauses prefix vars)
      ∙ ap (d.both (g p.0)) (all_each prefix vars ps)
      ∙ sym (fold_cons B d.both d.yes laws.both_on laws.both_yes laws.yes_both (g p.0) (map g (formulas Claim ps)))

  one_holds : (f : List ℕ → B) (ls : List Literal) → ((vars : List ℕ) → some ls vars ≡ f vars) → (prefix vars : List ℕ) → all_hold (one_clause ls prefix) vars ≡ overs (map size prefix) f vars
  one_holds f ls h prefix vars = laws.yes_both (overs (map size prefix) (some ls) vars) ∙ over_same (map size prefix) (some ls) f vars h

  -- what the truth of a formula is by its variant
  unrolled : (x : one.Formula-F Formula Term) (vars : List ℕ) → is_true (roll-Formula x) vars ≡ formula_step size d (map-Formula Formula Term (List ℕ → B) (List ℕ → T) (truth size d) (value size d) x) vars
  unrolled x vars = ap (λ (f : List ℕ → B). f vars) (truth-roll size d x)

  plus_self : (x : one.Formula-F Formula Term) (vars : List ℕ) → some (positive (self (with_parts x))) vars ≡ is_true (roll-Formula x) vars
  plus_self x vars = laws.no_either _ ∙ ap (λ (p : Formula). is_true p vars) (self_is x)

  minus_self : (x : one.Formula-F Formula Term) (vars : List ℕ) → some (negated (self (with_parts x))) vars ≡ d.neg (is_true (roll-Formula x) vars)
  minus_self x vars = laws.no_either _ ∙ ap (λ (p : Formula). d.neg (is_true p vars)) (self_is x)

  case : (y : one.Formula-F (Part Claim) AnyTerm) → Means (is_true (roll-Formula (bare Claim y))) (parts_step (with_parts (bare Claim y)))
  case (one.Compare c a b) =
      let x = one.Compare c a.0 b.0 in
      record { plus = plus_self x; minus = minus_self x; clauses = one_holds (is_true (roll-Formula x)) (positive (self (with_parts x))) (plus_self x) }
  case (one.And ps) =
      let fs = formulas Claim ps in
      let x = one.And fs in
      let e = λ (vars : List ℕ). unrolled x vars ∙ ap (fold d.both d.yes) (maps (λ (f : List ℕ → B). f vars) is_true fs) in
      record {
        plus = plus_self x;
        minus = λ vars. some_each (λ p. p.minus) (λ p. d.neg (is_true p vars)) vars ps (λ p. p.1.minus vars) ∙ sym (neg_fold (λ p. is_true p vars) fs) ∙ ap d.neg (sym (e vars));
        clauses = λ prefix vars. all_each prefix vars ps ∙ over_fold is_true fs (map size prefix) vars ∙ over_same (map size prefix) _ _ vars (λ vs. sym (e vs));
      }
  case (one.Or ps) =
      let fs = formulas Claim ps in
      let x = one.Or fs in
      let plus : (vars : List ℕ) → some (flat_map (λ (p : FormulaPart). p.1.plus) (parts ps)) vars ≡ is_true (roll-Formula x) vars =
      λ vars. some_each (λ p. p.plus) (λ p. is_true p vars) vars ps (λ p. p.1.plus vars) ∙ sym (unrolled x vars ∙ ap (fold d.either d.no) (maps (λ (f : List ℕ → B). f vars) is_true fs)) in
      record { plus = plus; minus = minus_self x; clauses = one_holds (is_true (roll-Formula x)) (flat_map (λ (p : FormulaPart). p.1.plus) (parts ps)) plus }
  case (one.Not p) =
      let x = one.Not p.0 in
      let plus : (vars : List ℕ) → some (parts_of p.0).minus vars ≡ is_true (roll-Formula x) vars = λ vars. p.1.minus vars ∙ sym (unrolled x vars) in
      record { plus = plus; minus = λ vars. p.1.plus vars ∙ sym (laws.neg_neg _) ∙ ap d.neg (sym (unrolled x vars)); clauses = one_holds (is_true (roll-Formula x)) (parts_of p.0).minus plus }
  case (one.Implies p q) =
      let x = one.Implies p.0 q.0 in
      let plus : (vars : List ℕ) → some ((parts_of p.0).minus ++ (parts_of q.0).plus) vars ≡ is_true (roll-Formula x) vars =
      λ vars. fold_both B d.either d.no laws.either_on laws.either_no laws.no_either (literal_truth size d vars) (parts_of p.0).minus (parts_of q.0).plus
      ∙ ap (λ b. d.either b (some (parts_of q.0).plus vars)) (p.1.minus vars) ∙ ap (d.either (d.neg (is_true p.0 vars))) (q.1.plus vars) ∙ sym (unrolled x vars) in
      record { plus = plus; minus = minus_self x; clauses = one_holds (is_true (roll-Formula x)) ((parts_of p.0).minus ++ (parts_of q.0).plus) plus }
  case (one.Forall indexes p) =
      let x = one.Forall indexes p.0 in
      record {
        plus = plus_self x;
        minus = minus_self x;
        clauses = λ prefix vars. p.1.clauses (prefix ++ indexes) vars ∙ over_more prefix indexes (is_true p.0) vars ∙ over_same (map size prefix) _ _ vars (λ vs. sym (unrolled x vs));
      }
  case (one.Exists indexes p) =
      let x = one.Exists indexes p.0 in
      record { plus = plus_self x; minus = minus_self x; clauses = one_holds (is_true (roll-Formula x)) (positive (self (with_parts x))) (plus_self x) }

  each : (y : one.Formula-F (Part Claim) AnyTerm) → Claim (roll-Formula (bare Claim y))
  each y = subst (λ (p : Parts). Means (is_true (roll-Formula (bare Claim y))) p) (sym (parts-roll (bare Claim y))) (case y)

  pub means : (p : Formula) → Claim p
  means = by_formulas Claim each

  -- the numbers of clauses do not matter
  numbers_off : (number k : ℕ) (cs : List Disjunction) (vars : List ℕ) → map (clause_truth size d vars) (numbered_from number k cs) ≡ map (holds vars) cs
  numbers_off number k [] vars = refl
  numbers_off number k (c ∷ cs) vars = ap (λ l. holds vars c ∷ l) (numbers_off number (k + 1) cs vars)

  -- the truth of a formula is that of its clauses
  pub clauses_mean : (number : ℕ) (p : Formula) (vars : List ℕ) → all_true size d (clauses_of number p) vars ≡ is_true p vars
  clauses_mean number p vars = ap (fold d.both d.yes) (numbers_off number 0 ((parts_of p).clauses []) vars) ∙ (means p).clauses [] vars

pub all_mean : (number : ℕ) (p : Formula) → ClausesMean number p
all_mean number p = record {
  on_schedules = λ w schedule. clauses_mean (size_of w) (on_schedule w schedule) (on_schedules w schedule) number p;
}
