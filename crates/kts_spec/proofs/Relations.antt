-- Two domains whose operations keep two relations give related values and truths: one induction.
use Rattle.std.proofs.Common.{◌≡◌, refl, subst, ℕ, List, [], ◌∷◌, ◌++◌, map, pos, fold}
use Rattle.std.specs.List.{range_with_len}
use Rattle.kts_spec.specs.declared.tree.Comparison.{Comparison}
use Rattle.kts_spec.specs.declared.tree.Comparison.TheVariants.{Le, Lt, Ge, Gt, Eq, Ne, Same, Other}
use Rattle.kts_spec.specs.declared.tree.Term.{Term, roll-Term}
use Rattle.kts_spec.specs.declared.tree.Formula.{Formula, roll-Formula}
use Rattle.kts_spec.specs.declared.tree.Formula.TheOpen as one
use Rattle.kts_spec.specs.declared.tree.Formula.TheFolds.{ind-Term, ind-Formula, map-Term, map-Formula}
use Rattle.kts_spec.specs.Domain.{Domain, value, truth, term_step, formula_step, at_each, of_two, comparison_truth, over}
use Rattle.kts_spec.specs.Reads.{Access, all_reads, term_reads, formula_reads, reads_of, reads_in}
use Rattle.kts_spec.specs.Related.{Pairs, AllOf, Related}
use Rattle.kts_spec.proofs.Rolls.{value-roll, truth-roll, reads_of-roll, reads_in-roll}

-- what holds of all items holds of those of the front, and of the rest
pub all_left : {X : Type 0} (P : X → Type 0) (xs ys : List X) → AllOf P (xs ++ ys) → AllOf P xs
all_left P [] ys h = tt
all_left P (x ∷ xs) ys h = (h.0, all_left P xs ys h.1)

pub all_right : {X : Type 0} (P : X → Type 0) (xs ys : List X) → AllOf P (xs ++ ys) → AllOf P ys
all_right P [] ys h = h
all_right P (x ∷ xs) ys h = all_right P xs ys h.1

-- folds by operations that keep a relation, over related lists
pub folds_related : {X Y : Type 0} (Q : X → Y → Type 0) (f : X → X → X) (g : Y → Y → Y) (xs : List X) (ys : List Y) (a : X) (b : Y) → ((p q : X) (r s : Y) → Q p r → Q q s → Q (f p q) (g r s)) → Q a b → Pairs Q xs ys → Q (fold f a xs) (fold g b ys)
folds_related Q f g [] [] a b k q h = q
folds_related Q f g [] (y ∷ ys) a b k q h = absurd h
folds_related Q f g (x ∷ xs) [] a b k q h = absurd h
folds_related Q f g (x ∷ xs) (y ∷ ys) a b k q h = folds_related Q f g xs ys (f a x) (g b y) k (k a x b y q h.0) h.1

-- related at each number
pub maps_related : {X Y : Type 0} (Q : X → Y → Type 0) (f : ℕ → X) (g : ℕ → Y) (ns : List ℕ) → ((n : ℕ) → Q (f n) (g n)) → Pairs Q (map f ns) (map g ns)
maps_related Q f g [] h = tt
maps_related Q f g (n ∷ ns) h = (h n, maps_related Q f g ns h)

abbrev OfTerms : Type 0
OfTerms = Term × List Access

abbrev OfFormulas : Type 0
OfFormulas = Formula × List Access

firsts_are : (ts : List Term) → map (λ (p : OfTerms). p.0) (map (λ (t : Term). (t, reads_of t)) ts) ≡ ts
firsts_are [] = refl
firsts_are (t ∷ ts) = cc (firsts_are ts)

module _ {T U B C : Type 0} (size : ℕ → ℕ) (d : Domain T B) (e : Domain U C) (R : T → U → Type 0) (S : B → C → Type 0) (Scope : List ℕ → Type 0) (Okay : Access → Type 0) (rel : Related size d e R S Scope Okay) where
  abbrev OfTerm : Term → Type 0
  OfTerm t = (vars : List ℕ) → Scope vars → AllOf Okay (reads_of t) → R (value size d t vars) (value size e t vars)

  abbrev OfFormula : Formula → Type 0
  OfFormula p = (vars : List ℕ) → Scope vars → AllOf Okay (reads_in p) → S (truth size d p vars) (truth size e p vars)

  abbrev Part : Type 0
  Part = (t : Term) × OfTerm t

  abbrev FormulaPart : Type 0
  FormulaPart = (p : Formula) × OfFormula p

  abbrev terms : List Part → List Term
  terms = map (λ (p : Part). p.0)

  abbrev formulas : List FormulaPart → List Formula
  formulas = map (λ (p : FormulaPart). p.0)

  terms_pair : (parts : List Part) (vars : List ℕ) → Scope vars → AllOf Okay (all_reads (map (λ (t : Term). (t, reads_of t)) (terms parts))) → Pairs R (at_each vars (map (value size d) (terms parts))) (at_each vars (map (value size e) (terms parts)))
  terms_pair [] vars s h = tt
  terms_pair (p ∷ parts) vars s h = (p.1 vars s (all_left Okay _ _ h), terms_pair parts vars s (all_right Okay (reads_of p.0) _ h))

  formulas_pair : (parts : List FormulaPart) (vars : List ℕ) → Scope vars → AllOf Okay (all_reads (map (λ (p : Formula). (p, reads_in p)) (formulas parts))) → Pairs S (at_each vars (map (truth size d) (formulas parts))) (at_each vars (map (truth size e) (formulas parts)))
  formulas_pair [] vars s h = tt
  formulas_pair (p ∷ parts) vars s h = (p.1 vars s (all_left Okay _ _ h), formulas_pair parts vars s (all_right Okay (reads_in p.0) _ h))

  twos : (xs : List T) (ys : List U) (f : T → T → T) (g : U → U → U) → ((a b : T) (v w : U) → R a v → R b w → R (f a b) (g v w)) → Pairs R xs ys → R (of_two f (d.number (pos 0)) xs) (of_two g (e.number (pos 0)) ys)
  twos [] [] f g k h = rel.number (pos 0)
  twos [] (y ∷ ys) f g k h = absurd h
  twos (x ∷ xs) [] f g k h = absurd h
  twos (x ∷ []) (y ∷ []) f g k h = rel.number (pos 0)
  twos (x ∷ []) (y ∷ (y2 ∷ ys)) f g k h = absurd h.1
  twos (x ∷ (x2 ∷ xs)) (y ∷ []) f g k h = absurd h.1
  twos (x ∷ (x2 ∷ [])) (y ∷ (y2 ∷ [])) f g k h = k x x2 y y2 h.0 h.1.0
  twos (x ∷ (x2 ∷ [])) (y ∷ (y2 ∷ (y3 ∷ ys))) f g k h = absurd h.1.1
  twos (x ∷ (x2 ∷ (x3 ∷ xs))) (y ∷ (y2 ∷ [])) f g k h = absurd h.1.1
  twos (x ∷ (x2 ∷ (x3 ∷ xs))) (y ∷ (y2 ∷ (y3 ∷ ys))) f g k h = rel.number (pos 0)

  -- truths put together over the same members
  pub overs_related : (f : B → B → B) (g : C → C → C) (a : B) (b : C) (sizes vars : List ℕ) (p : List ℕ → B) (q : List ℕ → C) → ((p q : B) (r s : C) → S p r → S q s → S (f p q) (g r s)) → S a b → Scope vars → ((vs : List ℕ) → Scope vs → S (p vs) (q vs)) → S (over f a sizes p vars) (over g b sizes q vars)
  overs_related f g a b [] vars p q k z s h = h vars s
  overs_related f g a b (n ∷ sizes) vars p q k z s h =
      folds_related S f g _ _ a b k z (maps_related S _ _ (range_with_len 0 n) (λ m. overs_related f g a b sizes (vars ++ m ∷ []) p q k z (rel.deeper vars m s) h))

  compare : (c : Comparison) (a b : T) (v w : U) → R a v → R b w → S (comparison_truth size d c a b) (comparison_truth size e c v w)
  compare Le a b v w h k = rel.le a b v w h k
  compare Lt a b v w h k = rel.neg _ _ (rel.le b a w v k h)
  compare Ge a b v w h k = rel.le b a w v k h
  compare Gt a b v w h k = rel.neg _ _ (rel.le a b v w h k)
  compare Eq a b v w h k = rel.eq a b v w h k
  compare Ne a b v w h k = rel.neg _ _ (rel.eq a b v w h k)
  compare Same a b v w h k = rel.same a b v w h k
  compare Other a b v w h k = rel.neg _ _ (rel.same a b v w h k)

  abbrev bare : one.Term-F FormulaPart Part → one.Term-F Formula Term
  bare y = map-Term FormulaPart Part Formula Term (λ p. p.0) (λ p. p.0) y

  abbrev bare_formula : one.Formula-F FormulaPart Part → one.Formula-F Formula Term
  bare_formula y = map-Formula FormulaPart Part Formula Term (λ p. p.0) (λ p. p.0) y

  term_case : (y : one.Term-F FormulaPart Part) (vars : List ℕ) → Scope vars → AllOf Okay (term_reads (map-Term Formula Term OfFormulas OfTerms (λ p. (p, reads_in p)) (λ t. (t, reads_of t)) (bare y)))
      → R (term_step size d (map-Term Formula Term (List ℕ → B) (List ℕ → T) (truth size d) (value size d) (bare y)) vars) (term_step size e (map-Term Formula Term (List ℕ → C) (List ℕ → U) (truth size e) (value size e) (bare y)) vars)
  term_case (one.Number n) vars s h = rel.number n
  term_case (one.Var k) vars s h = rel.member _
  term_case (one.Given f args) vars s h = rel.given f _ _ (terms_pair args vars s h)
  term_case (one.Choice x args) vars s h = rel.choice x (terms args) vars s (subst (λ l. Okay (x, l)) (firsts_are (terms args)) h.0) (terms_pair args vars s h.1)
  term_case (one.Add parts) vars s h = folds_related R _ _ _ _ _ _ rel.add (rel.number (pos 0)) (terms_pair parts vars s h)
  term_case (one.Sub parts) vars s h = twos _ _ _ _ rel.sub (terms_pair parts vars s h)
  term_case (one.Mul parts) vars s h = twos _ _ _ _ rel.mul (terms_pair parts vars s h)
  term_case (one.Min parts) vars s h = twos _ _ _ _ rel.least (terms_pair parts vars s h)
  term_case (one.Max parts) vars s h = twos _ _ _ _ rel.greatest (terms_pair parts vars s h)
  term_case (one.Sum index p a) vars s h =
      folds_related R _ _ _ _ _ _ rel.add (rel.number (pos 0))
      (maps_related R _ _ (range_with_len 0 (size index)) (λ m. rel.gate _ _ _ _ (p.1 (vars ++ m ∷ []) (rel.deeper vars m s) (all_left Okay _ _ h)) (a.1 (vars ++ m ∷ []) (rel.deeper vars m s) (all_right Okay (reads_in p.0) _ h))))

  formula_case : (y : one.Formula-F FormulaPart Part) (vars : List ℕ) → Scope vars → AllOf Okay (formula_reads (map-Formula Formula Term OfFormulas OfTerms (λ p. (p, reads_in p)) (λ t. (t, reads_of t)) (bare_formula y)))
      → S (formula_step size d (map-Formula Formula Term (List ℕ → B) (List ℕ → T) (truth size d) (value size d) (bare_formula y)) vars) (formula_step size e (map-Formula Formula Term (List ℕ → C) (List ℕ → U) (truth size e) (value size e) (bare_formula y)) vars)
  formula_case (one.Compare c a b) vars s h = compare c _ _ _ _ (a.1 vars s (all_left Okay _ _ h)) (b.1 vars s (all_right Okay (reads_of a.0) _ h))
  formula_case (one.And parts) vars s h = folds_related S _ _ _ _ _ _ rel.both rel.yes (formulas_pair parts vars s h)
  formula_case (one.Or parts) vars s h = folds_related S _ _ _ _ _ _ rel.either rel.no (formulas_pair parts vars s h)
  formula_case (one.Not p) vars s h = rel.neg _ _ (p.1 vars s h)
  formula_case (one.Implies p q) vars s h = rel.either _ _ _ _ (rel.neg _ _ (p.1 vars s (all_left Okay _ _ h))) (q.1 vars s (all_right Okay (reads_in p.0) _ h))
  formula_case (one.Forall indexes p) vars s h = overs_related _ _ _ _ (map size indexes) vars _ _ rel.both rel.yes s (λ vs t. p.1 vs t h)
  formula_case (one.Exists indexes p) vars s h = overs_related _ _ _ _ (map size indexes) vars _ _ rel.either rel.no s (λ vs t. p.1 vs t h)

  term_all : (y : one.Term-F FormulaPart Part) → OfTerm (roll-Term (bare y))
  term_all y vars s h = rw (value-roll size d (bare y), value-roll size e (bare y)) (term_case y vars s (subst (AllOf Okay) (reads_of-roll (bare y)) h))

  formula_all : (y : one.Formula-F FormulaPart Part) → OfFormula (roll-Formula (bare_formula y))
  formula_all y vars s h = rw (truth-roll size d (bare_formula y), truth-roll size e (bare_formula y)) (formula_case y vars s (subst (AllOf Okay) (reads_in-roll (bare_formula y)) h))

  -- the values of a term are related
  pub related_term : (t : Term) → OfTerm t
  related_term t = ind-Term OfFormula OfTerm (λ x y e. subst (λ z. OfFormula (roll-Formula z)) e (formula_all y)) (λ x y e. subst (λ z. OfTerm (roll-Term z)) e (term_all y)) t

  -- the truths of a formula are related
  pub related_formula : (p : Formula) → OfFormula p
  related_formula p = ind-Formula OfFormula OfTerm (λ x y e. subst (λ z. OfFormula (roll-Formula z)) e (formula_all y)) (λ x y e. subst (λ z. OfTerm (roll-Term z)) e (term_all y)) p
