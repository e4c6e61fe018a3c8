-- In a space that knows more, every value allows less.
use Rattle.std.proofs.Common.{ℕ, List, [], ◌∷◌, map, pos, refl}
use Rattle.std.specs.Ordering.{int_eq}
use Rattle.kts_spec.specs.declared.tree.Term.{Term}
use Rattle.kts_spec.specs.declared.tree.Formula.{Formula}
use Rattle.kts_spec.specs.Domain.{at_each, value}
use Rattle.kts_spec.specs.Places.{cell, entry}
use Rattle.kts_spec.specs.Reads.{Access, reads_of, reads_in}
use Rattle.kts_spec.specs.Related.{AllOf, Related}
use Rattle.kts_spec.specs.Worlds.{World, size_of, given_of, choice_of, table_of}
use Rattle.kts_spec.proofs.Relations.{related_term, related_formula}
use Rattle.kts_abs.specs.declared.truth.Tri.TheVariants.{F, T}
use Rattle.kts_abs.specs.Abstraction.{Finer}
use Rattle.kts_abs.specs.InSpace.{in_space, only_of, value_in, truth_in}
use Rattle.kts_abs.specs.Soundness.{ValuesAreMonotone}
use Rattle.kts_abs.specs.Spaces.{IsAbove}
use Rattle.kts_abs.specs.Truth.{may_be}
use Rattle.kts_abs.specs.Values.{Abs, has, Refines, window_of, members_of}
use Rattle.kts_abs.proofs.Accesses.{window_finer, members_finer, only_finer, table_finer, access_finer}
use Rattle.kts_abs.proofs.Hulls.{gates}
use Rattle.kts_abs.proofs.Kleene.{ands, ors, nots, surer_finer}
use Rattle.kts_abs.proofs.Orders.{at_most, equal}
use Rattle.kts_abs.proofs.Pairings.{same_abstracts, values}
use Rattle.kts_abs.proofs.Products.{products}
use Rattle.kts_abs.proofs.Rising.{has_head}
use Rattle.kts_abs.proofs.Sums.{sums, differences, lesser, greater}

-- the operations in the two spaces
monotone : (w : World) (s t : List Abs) → IsAbove s t → Related (size_of w) (in_space w t) (in_space w s) Refines (Finer may_be) (λ _. Unit {0}) (λ _. Unit {0})
monotone w s t above = record {
  number = only_finer;
  member = λ m. record { witness = pos m; allowed = has_head (pos m) []; within = λ n h. h };
  given = λ f xs ys h. access_finer (given_of w f).kind (entry w f) (map only_of (table_of w f)) (map only_of (table_of w f)) xs ys (table_finer (table_of w f)) h;
  choice = λ x args vars _ _ h. access_finer (choice_of w x).kind (cell w x) t s (at_each vars (map (value (size_of w) (in_space w t)) args)) (at_each vars (map (value (size_of w) (in_space w s)) args)) above h;
  deeper = λ vars m _. tt;
  add = λ a b c d h k. sums.monotone (window_of a) (window_of c) (window_of b) (window_of d) (window_finer a c h) (window_finer b d k);
  sub = λ a b c d h k. differences.monotone (window_of a) (window_of c) (window_of b) (window_of d) (window_finer a c h) (window_finer b d k);
  mul = λ a b c d h k. products.monotone (window_of a) (window_of c) (window_of b) (window_of d) (window_finer a c h) (window_finer b d k);
  least = λ a b c d h k. lesser.monotone (window_of a) (window_of c) (window_of b) (window_of d) (window_finer a c h) (window_finer b d k);
  greatest = λ a b c d h k. greater.monotone (window_of a) (window_of c) (window_of b) (window_of d) (window_finer a c h) (window_finer b d k);
  gate = λ p a q c h k. gates.monotone p q (window_of a) (window_of c) h (window_finer a c k);
  le = λ a b c d h k. at_most.monotone (window_of a) (window_of c) (window_of b) (window_of d) (window_finer a c h) (window_finer b d k);
  eq = λ a b c d h k. equal.monotone (window_of a) (window_of c) (window_of b) (window_of d) (window_finer a c h) (window_finer b d k);
  same = λ a b c d h k. (same_abstracts int_eq has values).monotone (members_of a) (members_of c) (members_of b) (members_of d) (members_finer a c h) (members_finer b d k);
  yes = surer_finer T T refl;
  no = surer_finer F F refl;
  both = λ p q r s h k. ands.monotone p r q s h k;
  either = λ p q r s h k. ors.monotone p r q s h k;
  neg = λ p r h. nots.monotone p r h;
}

-- each access is okay
pub all_okay : (accesses : List Access) → AllOf (λ _. Unit {0}) accesses
all_okay [] = tt
all_okay (access ∷ accesses) = (tt, all_okay accesses)

-- a term allows less
pub value_monotone : (w : World) (s t : List Abs) → IsAbove s t → (a : Term) (vars : List ℕ) → Refines (value_in w t a vars) (value_in w s a vars)
value_monotone w s t above a vars = related_term (size_of w) (in_space w t) (in_space w s) Refines (Finer may_be) (λ _. Unit {0}) (λ _. Unit {0}) (monotone w s t above) a vars tt (all_okay (reads_of a))

-- a formula is surer
pub truth_monotone : (w : World) (s t : List Abs) → IsAbove s t → (p : Formula) (vars : List ℕ) → Finer may_be (truth_in w t p vars) (truth_in w s p vars)
truth_monotone w s t above p vars = related_formula (size_of w) (in_space w t) (in_space w s) Refines (Finer may_be) (λ _. Unit {0}) (λ _. Unit {0}) (monotone w s t above) p vars tt (all_okay (reads_in p))

pub is_monotone : ValuesAreMonotone
is_monotone = record { value = value_monotone; truth = truth_monotone }
