-- How true clauses are, in any domain of truth values.
use Rattle.std.specs.Prelude.{◌≡◌, ℕ, ℤ, List, map, Bool, true, false, fold}
use Rattle.kts_spec.specs.Domain.{Domain, truth, over}
use Rattle.kts_spec.specs.Meaning.{on_schedule, truth_on}
use Rattle.kts_spec.specs.Worlds.{World, size_of}
use Rattle.kts_spec.specs.declared.tree.Formula.{Formula}
use Rattle.kts_clause.specs.Clauses.{clauses_of}
use Rattle.kts_clause.specs.declared.clause.Clause.{Clause}
use Rattle.kts_clause.specs.declared.literal.Literal.{Literal}

module _ {T B : Type 0} (size : ℕ → ℕ) (d : Domain T B) where
  -- a truth value, or its negation
  abbrev pub signed : Bool → B → B
  signed true b = d.neg b
  signed false b = b

  -- a literal, at these members as the variables in scope
  abbrev pub literal_truth : List ℕ → Literal → B
  literal_truth vars l = signed l.negative (truth size d l.formula vars)

  -- one of these literals
  abbrev pub some_true : List Literal → List ℕ → B
  some_true ls vars = fold d.either d.no (map (literal_truth vars) ls)

  -- one of a clause's literals, whatever members the further variables of its prefix are
  abbrev pub clause_truth : List ℕ → Clause → B
  clause_truth vars c = over d.both d.yes (map size c.prefix) (some_true c.literals) vars

  -- all of these clauses
  abbrev pub all_true : List Clause → List ℕ → B
  all_true cs vars = fold d.both d.yes (map (clause_truth vars) cs)

-- a formula is as true as its clauses, on every schedule
pub record ClausesMean (number : ℕ) (p : Formula) : Type 0 where
  pub on_schedules : (w : World) (schedule : List ℤ) (vars : List ℕ)
      → all_true (size_of w) (on_schedule w schedule) (clauses_of number p) vars ≡ truth_on w schedule p vars
