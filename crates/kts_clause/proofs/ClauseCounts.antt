-- A formula has no more clauses than trees, and its literals have no more trees.
use Rattle.std.proofs.Common.{◌≡◌, refl, sym, ap, ◌∙◌, subst, ℕ, ◌+◌, ◌≤◌, List, [], ◌∷◌, ◌++◌, length, map, fold, arith}
use Rattle.std.specs.Prelude.{flat_map}
use Rattle.std.specs.List.{sum_by}
use Rattle.std.proofs.lemmas.List.Concat.{length-flat_map}
use Rattle.std.proofs.lemmas.List.Sums.{sum_by-append, sum_by-cons}
use Rattle.kts_spec.specs.declared.tree.Formula.{Formula, roll-Formula}
use Rattle.kts_spec.specs.declared.tree.Term.{Term}
use Rattle.kts_spec.specs.declared.tree.Formula.TheOpen as one
use Rattle.kts_spec.specs.declared.tree.Formula.TheFolds.{map-Formula}
use Rattle.kts_spec.specs.declared.tree.Comparison.{Comparison}
use Rattle.kts_spec.specs.declared.tree.Comparison.TheVariants.{Le, Lt, Ge, Gt, Eq, Ne, Same, Other}
use Rattle.kts_spec.specs.Sizes.{Size, no_trees, beside, comparison_over, formula_size, size_of_term, size_of_formula}
use Rattle.kts_spec.proofs.Rolls.{size_of_formula-roll}
use Rattle.kts_clause.specs.declared.literal.Literal.{Literal}
use Rattle.kts_clause.specs.ClauseFacts.{clause_trees}
use Rattle.kts_clause.proofs.Numbering.{numbered_length}
use Rattle.kts_clause.specs.Clauses.{Parts, Disjunction, FormulaPart, self, parts_step, parts_of, disjunctions, numbered, numbered_from, clauses_of}
use Rattle.kts_clause.proofs.FormulaInductions.{AnyTerm, Part, formulas, bare, by_formulas}
use Rattle.kts_clause.proofs.PartRolls.{with_each, with_parts, parts-roll, self_is}

-- the trees of a formula, of literals, and of clauses
abbrev pub trees : Formula → ℕ
trees p = (size_of_formula p).trees

abbrev pub literal_trees : List Literal → ℕ
literal_trees = sum_by (λ (l : Literal). trees l.formula)

abbrev pub disjunction_trees : List Disjunction → ℕ
disjunction_trees = sum_by (λ (d : Disjunction). literal_trees d.literals)

-- what parts give has no more of them
pub record IsSmall (most : ℕ) (p : Parts) : Type 0 where
  pub plus : literal_trees p.plus ≤ most
  pub minus : literal_trees p.minus ≤ most
  pub clauses : (prefix : List ℕ) → disjunction_trees (p.clauses prefix) ≤ most
  pub count : (prefix : List ℕ) → length (p.clauses prefix) ≤ most

abbrev Small : Formula → Type 0
Small p = IsSmall (trees p) (parts_of p)

sum_flat : {X Y : Type 0} (f : Y → ℕ) (g : X → List Y) (xs : List X) → sum_by f (flat_map g xs) ≡ sum_by (λ x. sum_by f (g x)) xs
sum_flat f g [] = refl
sum_flat f g (x ∷ xs) =
    sum_by-append f (g x) (flat_map g xs) ∙ ap (λ n. sum_by f (g x) + n) (sum_flat f g xs) ∙ sym (sum_by-cons (λ x. sum_by f (g x)) x xs)

-- what each part has, together
each_small : (pick : Parts → ℕ) → ((p : Part Small) → pick (parts_of p.0) ≤ trees p.0) → (ps : List (Part Small)) (s : Size)
    → s.trees + sum_by (λ (p : FormulaPart). pick p.1) (with_each (formulas Small ps)) ≤ (fold beside s (map size_of_formula (formulas Small ps))).trees
each_small pick h [] s = omega arith
each_small pick h (p ∷ ps) s =
    let here = h p in
    let rest = each_small pick h ps (beside s (size_of_formula p.0)) in
    let first = sum_by-cons (λ (p : FormulaPart). pick p.1) (p.0, parts_of p.0) (with_each (formulas Small ps)) in
    omega (arith, here, rest, first)

abbrev size_step : one.Formula-F Formula Term → Size
size_step x = formula_size (map-Formula Formula Term Size Size size_of_formula size_of_term x)

self_trees : (x : one.Formula-F Formula Term) → trees (self (with_parts x)) ≡ (size_step x).trees
self_trees x = ap trees (self_is x) ∙ ap (λ (s : Size). s.trees) (size_of_formula-roll x)

case : (y : one.Formula-F (Part Small) AnyTerm) → trees (self (with_parts (bare Small y))) ≡ (size_step (bare Small y)).trees → 1 ≤ (size_step (bare Small y)).trees → IsSmall (size_step (bare Small y)).trees (parts_step (with_parts (bare Small y)))
case (one.Compare c a b) e some = record { plus = omega (arith, e); minus = omega (arith, e); clauses = λ prefix. omega (arith, e); count = λ prefix. omega (arith, some) }
case (one.And ps) e some =
    let cs = with_each (formulas Small ps) in record {
      plus = omega (arith, e);
      minus =
          let same = sum_flat (λ (l : Literal). trees l.formula) (λ (p : FormulaPart). p.1.minus) cs in
          let each = each_small (λ p. literal_trees p.minus) (λ p. p.1.minus) ps no_trees in
          omega (arith, same, each);
      clauses = λ prefix.
          let same = sum_flat (λ (d : Disjunction). literal_trees d.literals) (λ (p : FormulaPart). p.1.clauses prefix) cs in
          let each = each_small (λ p. disjunction_trees (p.clauses prefix)) (λ p. p.1.clauses prefix) ps no_trees in
          omega (arith, same, each);
      count = λ prefix.
          let same = length-flat_map (λ (p : FormulaPart). p.1.clauses prefix) cs in
          let each = each_small (λ p. length (p.clauses prefix)) (λ p. p.1.count prefix) ps no_trees in
          omega (arith, same, each);
    }
case (one.Or ps) e some =
    let cs = with_each (formulas Small ps) in
    let same = sum_flat (λ (l : Literal). trees l.formula) (λ (p : FormulaPart). p.1.plus) cs in
    let each = each_small (λ p. literal_trees p.plus) (λ p. p.1.plus) ps no_trees in
    record { plus = omega (arith, same, each); minus = omega (arith, e); clauses = λ prefix. omega (arith, same, each); count = λ prefix. omega (arith, some) }
case (one.Not p) e some =
    let plus = p.1.plus in
    let minus = p.1.minus in
    record { plus = omega (arith, minus); minus = omega (arith, plus); clauses = λ prefix. omega (arith, minus); count = λ prefix. omega (arith, some) }
case (one.Implies p q) e some =
    let first = p.1.minus in
    let second = q.1.plus in
    let both = sum_by-append (λ (l : Literal). trees l.formula) (parts_of p.0).minus (parts_of q.0).plus in
    record { plus = omega (arith, first, second, both); minus = omega (arith, e); clauses = λ prefix. omega (arith, first, second, both); count = λ prefix. omega (arith, some) }
case (one.Forall indexes p) e some = record {
  plus = omega (arith, e);
  minus = omega (arith, e);
  clauses = λ prefix. let inner = p.1.clauses (prefix ++ indexes) in omega (arith, inner);
  count = λ prefix. let inner = p.1.count (prefix ++ indexes) in omega (arith, inner);
}
case (one.Exists indexes p) e some = record { plus = omega (arith, e); minus = omega (arith, e); clauses = λ prefix. omega (arith, e); count = λ prefix. omega (arith, some) }

over_trees : (c : Comparison) (s : Size) → 1 ≤ (comparison_over c s).trees
over_trees Le s = omega arith
over_trees Lt s = omega arith
over_trees Ge s = omega arith
over_trees Gt s = omega arith
over_trees Eq s = omega arith
over_trees Ne s = omega arith
over_trees Same s = omega arith
over_trees Other s = omega arith

has_tree : (x : one.Formula-F Formula Term) → 1 ≤ (size_step x).trees
has_tree (one.Compare c a b) = over_trees c (beside (size_of_term a) (size_of_term b))
has_tree (one.And ps) = omega arith
has_tree (one.Or ps) = omega arith
has_tree (one.Not p) = omega arith
has_tree (one.Implies p q) = omega arith
has_tree (one.Forall indexes p) = omega arith
has_tree (one.Exists indexes p) = omega arith

each : (y : one.Formula-F (Part Small) AnyTerm) → Small (roll-Formula (bare Small y))
each y =
    let x = bare Small y in
    let size : (size_step x).trees ≡ trees (roll-Formula x) = ap (λ (s : Size). s.trees) (sym (size_of_formula-roll x)) in
    subst (λ n. IsSmall n (parts_of (roll-Formula x))) size
    (subst (λ (p : Parts). IsSmall (size_step x).trees p) (sym (parts-roll x)) (case y (self_trees x) (has_tree x)))

pub all_small : (p : Formula) → Small p
all_small = by_formulas Small each

-- numbered or not
numbered_trees : (number k : ℕ) (cs : List Disjunction) → sum_by clause_trees (numbered_from number k cs) ≡ disjunction_trees cs
numbered_trees number k [] = refl
numbered_trees number k (c ∷ cs) =
    sum_by-cons clause_trees (numbered number (k, c)) (numbered_from number (k + 1) cs) ∙ ap (λ n. literal_trees c.literals + n) (numbered_trees number (k + 1) cs)
    ∙ sym (sum_by-cons (λ (d : Disjunction). literal_trees d.literals) c cs)

pub clauses_few : (number : ℕ) (p : Formula) → length (clauses_of number p) ≤ trees p
clauses_few number p = let same = numbered_length number (disjunctions p []) 0 in let few = (all_small p).count [] in omega (arith, same, few)

pub clauses_small : (number : ℕ) (p : Formula) → sum_by clause_trees (clauses_of number p) ≤ trees p
clauses_small number p = let same = numbered_trees number 0 (disjunctions p []) in let small = (all_small p).clauses [] in omega (arith, same, small)
