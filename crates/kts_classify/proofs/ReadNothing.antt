-- Which terms and formulas read no choice, and which accesses are bare, as one equation a variant.
use Rattle.std.proofs.Common.{◌≡◌, refl, sym, ap, ◌∙◌, subst, ℕ, ℤ, List, [], ◌∷◌, ◌++◌, map, Bool, true, false, ◌&&◌, Option, Some, None, if◌then◌else◌}
use Rattle.std.specs.Prelude.{flat_map}
use Rattle.std.specs.List.{list_all}
use Rattle.kts_spec.specs.declared.tree.Comparison.{Comparison}
use Rattle.kts_spec.specs.declared.tree.Term.{Term, roll-Term}
use Rattle.kts_spec.specs.declared.tree.Term.TheVariants as term
use Rattle.kts_spec.specs.declared.tree.Formula.{Formula}
use Rattle.kts_spec.specs.declared.tree.Formula.TheVariants as formula
use Rattle.kts_spec.specs.declared.tree.Formula.TheOpen as one
use Rattle.kts_spec.specs.declared.tree.Formula.TheFolds.{ind-Term, map-Term, para-roll-Term}
use Rattle.kts_spec.specs.Reads.{Access, reads_of, reads_in}
use Rattle.kts_spec.proofs.ReadEquations.{reads_of-Number, reads_of-Var, reads_of-Given, reads_of-Choice, reads_of-Add, reads_of-Sub, reads_of-Mul, reads_of-Min, reads_of-Max, reads_of-Sum, reads_in-Compare, reads_in-And, reads_in-Or, reads_in-Not, reads_in-Implies, reads_in-Forall, reads_in-Exists}
use Rattle.kts_plan.specs.BareAccesses.{is_none, reads_nothing, bare_step, bare}

-- whether a formula reads no choice
abbrev pub formula_reads_nothing : Formula → Bool
formula_reads_nothing p = is_none (reads_in p)

none_of_both : (xs ys : List Access) → is_none (xs ++ ys) ≡ (is_none xs && is_none ys)
none_of_both [] ys = refl
none_of_both (x ∷ xs) ys = refl

none_of_each : {X : Type 0} (f : X → List Access) (xs : List X) → is_none (flat_map f xs) ≡ list_all (λ x. is_none (f x)) xs
none_of_each f [] = refl
none_of_each f (x ∷ xs) = none_of_both (f x) (flat_map f xs) ∙ ap (λ b. is_none (f x) && b) (none_of_each f xs)

pub nothing-Number : (n : ℤ) → reads_nothing (term.Number n) ≡ true
nothing-Number n = ap is_none (reads_of-Number n)

pub nothing-Var : (k : ℕ) → reads_nothing (term.Var k) ≡ true
nothing-Var k = ap is_none (reads_of-Var k)

pub nothing-Given : (f : ℕ) (args : List Term) → reads_nothing (term.Given f args) ≡ list_all reads_nothing args
nothing-Given f args = ap is_none (reads_of-Given f args) ∙ none_of_each reads_of args

pub nothing-Choice : (x : ℕ) (args : List Term) → reads_nothing (term.Choice x args) ≡ false
nothing-Choice x args = ap is_none (reads_of-Choice x args)

pub nothing-Add : (parts : List Term) → reads_nothing (term.Add parts) ≡ list_all reads_nothing parts
nothing-Add parts = ap is_none (reads_of-Add parts) ∙ none_of_each reads_of parts

pub nothing-Sub : (parts : List Term) → reads_nothing (term.Sub parts) ≡ list_all reads_nothing parts
nothing-Sub parts = ap is_none (reads_of-Sub parts) ∙ none_of_each reads_of parts

pub nothing-Mul : (parts : List Term) → reads_nothing (term.Mul parts) ≡ list_all reads_nothing parts
nothing-Mul parts = ap is_none (reads_of-Mul parts) ∙ none_of_each reads_of parts

pub nothing-Min : (parts : List Term) → reads_nothing (term.Min parts) ≡ list_all reads_nothing parts
nothing-Min parts = ap is_none (reads_of-Min parts) ∙ none_of_each reads_of parts

pub nothing-Max : (parts : List Term) → reads_nothing (term.Max parts) ≡ list_all reads_nothing parts
nothing-Max parts = ap is_none (reads_of-Max parts) ∙ none_of_each reads_of parts

pub nothing-Sum : (i : ℕ) (p : Formula) (a : Term) → reads_nothing (term.Sum i p a) ≡ (formula_reads_nothing p && reads_nothing a)
nothing-Sum i p a = ap is_none (reads_of-Sum i p a) ∙ none_of_both (reads_in p) (reads_of a)

pub nothing-Compare : (c : Comparison) (a b : Term) → formula_reads_nothing (formula.Compare c a b) ≡ (reads_nothing a && reads_nothing b)
nothing-Compare c a b = ap is_none (reads_in-Compare c a b) ∙ none_of_both (reads_of a) (reads_of b)

pub nothing-And : (parts : List Formula) → formula_reads_nothing (formula.And parts) ≡ list_all formula_reads_nothing parts
nothing-And parts = ap is_none (reads_in-And parts) ∙ none_of_each reads_in parts

pub nothing-Or : (parts : List Formula) → formula_reads_nothing (formula.Or parts) ≡ list_all formula_reads_nothing parts
nothing-Or parts = ap is_none (reads_in-Or parts) ∙ none_of_each reads_in parts

pub nothing-Not : (p : Formula) → formula_reads_nothing (formula.Not p) ≡ formula_reads_nothing p
nothing-Not p = ap is_none (reads_in-Not p)

pub nothing-Implies : (p q : Formula) → formula_reads_nothing (formula.Implies p q) ≡ (formula_reads_nothing p && formula_reads_nothing q)
nothing-Implies p q = ap is_none (reads_in-Implies p q) ∙ none_of_both (reads_in p) (reads_in q)

pub nothing-Forall : (indexes : List ℕ) (p : Formula) → formula_reads_nothing (formula.Forall indexes p) ≡ formula_reads_nothing p
nothing-Forall indexes p = ap is_none (reads_in-Forall indexes p)

pub nothing-Exists : (indexes : List ℕ) (p : Formula) → formula_reads_nothing (formula.Exists indexes p) ≡ formula_reads_nothing p
nothing-Exists indexes p = ap is_none (reads_in-Exists indexes p)

pub ruleset nothing = (nothing-Number, nothing-Var, nothing-Given, nothing-Choice, nothing-Add, nothing-Sub, nothing-Mul, nothing-Min, nothing-Max, nothing-Sum, nothing-Compare, nothing-And, nothing-Or, nothing-Not, nothing-Implies, nothing-Forall, nothing-Exists)

-- ---- bare accesses

abbrev with_bare : List Term → List (Term × Option Access)
with_bare = map (λ (t : Term). (t, bare t))

bare-roll : (x : one.Term-F Formula Term) → bare (roll-Term x) ≡ bare_step (map-Term Formula Term (Formula × Unit {0}) (Term × Option Access) (λ p. (p, tt)) (λ t. (t, bare t)) x)
unfolding bare
bare-roll x = para-roll-Term (Unit {0}) (Option Access) (λ _. tt) bare_step x

args_back : (ts : List Term) → map (λ (p : Term × Option Access). p.0) (with_bare ts) ≡ ts
args_back [] = refl
args_back (t ∷ ts) = cc (args_back ts)

all_same : (ts : List Term) → list_all (λ (t : Term × Option Access). reads_nothing t.0) (with_bare ts) ≡ list_all reads_nothing ts
all_same [] = refl
all_same (t ∷ ts) = ap (λ b. reads_nothing t && b) (all_same ts)

-- an access is bare where its arguments read nothing
pub bare-Choice : (x : ℕ) (args : List Term) → bare (term.Choice x args) ≡ (if list_all reads_nothing args then Some (x, args) else None)
bare-Choice x args =
    ap bare (sym (term.rolls-Choice x args)) ∙ bare-roll (one.Choice x args)
    ∙ ap (λ ts. if list_all (λ (t : Term × Option Access). reads_nothing t.0) (with_bare args) then Some (x, ts) else None) (args_back args)
    ∙ ap (λ b. if b then Some (x, args) else None) (all_same args)

-- a term that is no access is not
not_bare_step : (x : one.Term-F Formula Term) → ((c : ℕ) (args : List Term) → roll-Term x ≡ term.Choice c args → ⊥) → bare (roll-Term x) ≡ None
not_bare_step (one.Choice x args) h = absurd (h x args (term.rolls-Choice x args))
not_bare_step x h = bare-roll x

pub not_bare : (t : Term) → ((c : ℕ) (args : List Term) → t ≡ term.Choice c args → ⊥) → bare t ≡ None
not_bare t =
    ind-Term (λ _. Unit {0}) (λ t. ((c : ℕ) (args : List Term) → t ≡ term.Choice c args → ⊥) → bare t ≡ None) (λ x y e. tt)
    (λ x y e. subst (λ z. ((c : ℕ) (args : List Term) → roll-Term z ≡ term.Choice c args → ⊥) → bare (roll-Term z) ≡ None) e (not_bare_step (map-Term _ _ Formula Term (λ p. p.0) (λ p. p.0) y))) t
