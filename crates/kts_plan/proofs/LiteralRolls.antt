-- What literals say and which accesses are bare, one variant at a time.
use Rattle.std.proofs.Common.{◌≡◌, refl, sym, ap, ◌∙◌, subst, List, [], ◌∷◌, map, Bool, true, Option, Some, None}
use Rattle.std.specs.List.{list_all}
use Rattle.std.proofs.lemmas.Bool.{and_parts}
use Rattle.kts_spec.specs.declared.tree.Term.{Term, roll-Term}
use Rattle.kts_spec.specs.declared.tree.Formula.{Formula, roll-Formula}
use Rattle.kts_spec.specs.declared.tree.Formula.TheOpen as one
use Rattle.kts_spec.specs.declared.tree.Formula.TheFolds.{map-Term, map-Formula, para-roll-Term, para-roll-Formula, ind-Term}
use Rattle.kts_spec.specs.Reads.{Access, reads_of}
use Rattle.kts_spec.specs.Related.{AllOf}
use Rattle.kts_spec.proofs.KindParts.{if_some}
use Rattle.kts_plan.specs.BareAccesses.{is_none, reads_nothing, bare_step, bare}
use Rattle.kts_plan.specs.Assertions.{Assertion, assertion_step, assertion_of}

pub bare-roll : (x : one.Term-F Formula Term) → bare (roll-Term x) ≡ bare_step (map-Term Formula Term (Formula × Unit {0}) (Term × Option Access) (λ p. (p, tt)) (λ t. (t, bare t)) x)
unfolding bare
bare-roll x = para-roll-Term (Unit {0}) (Option Access) (λ _. tt) bare_step x

abbrev pub assertion_at : one.Formula-F Formula Term → Bool → Assertion
assertion_at x = assertion_step (map-Formula Formula Term (Formula × (Bool → Assertion)) (Term × Unit {0}) (λ p. (p, assertion_of p)) (λ t. (t, tt)) x)

pub assertion_of-roll : (x : one.Formula-F Formula Term) → assertion_of (roll-Formula x) ≡ assertion_at x
unfolding assertion_of
assertion_of-roll x = para-roll-Formula (Bool → Assertion) (Unit {0}) assertion_step (λ _. tt) x

-- the access of a term, whose arguments read nothing
pub record IsBare (t : Term) (a : Access) : Type 0 where
  pub whole : roll-Term (one.Choice a.0 a.1) ≡ t
  pub fixed : AllOf (λ u. reads_of u ≡ []) a.1

abbrev pub with_bare : List Term → List (Term × Option Access)
with_bare = map (λ (t : Term). (t, bare t))

pub args_back : (ts : List Term) → map (λ (p : Term × Option Access). p.0) (with_bare ts) ≡ ts
args_back [] = refl
args_back (t ∷ ts) = cc (args_back ts)

none_read : (others : List Access) → is_none others ≡ true → others ≡ []
none_read [] e = refl
none_read (a ∷ others) e = cc

args_fixed : (ts : List Term) → list_all (λ (t : Term × Option Access). reads_nothing t.0) (with_bare ts) ≡ true → AllOf (λ u. reads_of u ≡ []) ts
args_fixed [] e = tt
args_fixed (t ∷ ts) e =
    let both = and_parts (reads_nothing t) (list_all (λ (t : Term × Option Access). reads_nothing t.0) (with_bare ts)) e in
    (none_read (reads_of t) both.0, args_fixed ts both.1)

some_access : (a b : Access) → Some a ≡ Some b → a ≡ b
some_access a b e = cc

none_access : (a : Access) → None ≡ Some a → ⊥
none_access a e = cc

bare_case : (x : one.Term-F Formula Term) (a : Access) → bare_step (map-Term Formula Term (Formula × Unit {0}) (Term × Option Access) (λ p. (p, tt)) (λ t. (t, bare t)) x) ≡ Some a → IsBare (roll-Term x) a
bare_case (one.Choice x ts) a e =
    let p = if_some (list_all (λ (t : Term × Option Access). reads_nothing t.0) (with_bare ts)) (Some (x, map (λ (p : Term × Option Access). p.0) (with_bare ts))) a e in
    let is : (x, ts) ≡ a = ap (λ l. (x, l)) (sym (args_back ts)) ∙ some_access (x, map (λ (p : Term × Option Access). p.0) (with_bare ts)) a p.1 in
    subst (λ (b : Access). IsBare (roll-Term (one.Choice x ts)) b) is (record { whole = refl; fixed = args_fixed ts p.0 })
bare_case other a e = absurd (none_access a e)

pub bare_is : (t : Term) (a : Access) → bare t ≡ Some a → IsBare t a
bare_is t = ind-Term (λ _. Unit {0}) (λ t. (a : Access) → bare t ≡ Some a → IsBare t a) (λ x y e. tt) (λ x y e. by x) t
  where
    by : (x : one.Term-F Formula Term) (a : Access) → bare (roll-Term x) ≡ Some a → IsBare (roll-Term x) a
    by x a e = bare_case x a (sym (bare-roll x) ∙ e)
