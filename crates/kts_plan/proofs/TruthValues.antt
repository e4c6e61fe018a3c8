-- What conjunction, disjunction and negation of truth values in a space keep.
use Rattle.std.proofs.Common.{◌≡◌, refl, List, ℕ}
use Rattle.kts_abs.specs.declared.truth.Tri.{Tri}
use Rattle.kts_abs.specs.declared.truth.Tri.TheVariants.{F, U, T}
use Rattle.kts_abs.specs.InSpace.{in_space}
use Rattle.kts_abs.specs.Truth.{and_of, or_of, not_of}
use Rattle.kts_abs.specs.Values.{Abs}
use Rattle.kts_spec.specs.Worlds.{World, size_of}
use Rattle.kts_clause.proofs.ClauseTruths.{clauses_mean}
use Rattle.kts_clause.proofs.TruthAlgebras.{IsTruthAlgebra}
use Rattle.kts_plan.specs.ClausesInSpaces.{ClausesHoldInSpaces}

and_turn : (p q : Tri) → and_of p q ≡ and_of q p
and_turn F F = refl
and_turn F U = refl
and_turn F T = refl
and_turn U F = refl
and_turn U U = refl
and_turn U T = refl
and_turn T F = refl
and_turn T U = refl
and_turn T T = refl

and_on : (p q r : Tri) → and_of (and_of p q) r ≡ and_of p (and_of q r)
and_on F q r = refl
and_on T q r = refl
and_on U F r = refl
and_on U T r = refl
and_on U U F = refl
and_on U U U = refl
and_on U U T = refl

or_on : (p q r : Tri) → or_of (or_of p q) r ≡ or_of p (or_of q r)
or_on F q r = refl
or_on T q r = refl
or_on U F r = refl
or_on U T r = refl
or_on U U F = refl
or_on U U U = refl
or_on U U T = refl

or_no : (p : Tri) → or_of p F ≡ p
or_no F = refl
or_no U = refl
or_no T = refl

not_and : (p q : Tri) → not_of (and_of p q) ≡ or_of (not_of p) (not_of q)
not_and F q = refl
not_and T q = refl
not_and U F = refl
not_and U U = refl
not_and U T = refl

not_not : (p : Tri) → not_of (not_of p) ≡ p
not_not F = refl
not_not U = refl
not_not T = refl

in_spaces : (w : World) (s : List Abs) → IsTruthAlgebra (in_space w s)
in_spaces w s = record {
  either_on = or_on;
  either_no = or_no;
  no_either = λ p. refl;
  both_on = and_on;
  both_yes = λ p. and_turn p T;
  yes_both = λ p. refl;
  both_turn = and_turn;
  neg_both = not_and;
  neg_yes = refl;
  neg_neg = not_not;
}

pub clauses_in_spaces : ClausesHoldInSpaces
clauses_in_spaces number p w s vars = clauses_mean (size_of w) (in_space w s) (in_spaces w s) number p vars
