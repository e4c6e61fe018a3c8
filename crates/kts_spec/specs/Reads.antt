-- The accesses to choices in a term or a formula, in the order of the text.
use Rattle.std.specs.Prelude.{ℕ, List, [], ◌∷◌, ◌++◌, map, flat_map}
use Rattle.kts_spec.specs.declared.tree.Term.{Term}
use Rattle.kts_spec.specs.declared.tree.Formula.{Formula}
use Rattle.kts_spec.specs.declared.tree.Formula.TheOpen.{Formula-F, Compare, And, Or, Not, Implies, Forall, Exists, Term-F, Number, Var, Given, Choice, Add, Sub, Mul, Min, Max, Sum}
use Rattle.kts_spec.specs.declared.tree.Formula.TheFolds.{para-Formula, para-Term}

-- a choice and its arguments
abbrev pub Access : Type 0
Access = ℕ × List Term

-- the accesses in trees side by side; each tree stands before its own
abbrev pub all_reads : {X : Type 0} → List (X × List Access) → List Access
all_reads = flat_map (λ part. part.1)

abbrev pub term_reads : Term-F (Formula × List Access) (Term × List Access) → List Access
term_reads (Number n) = []
term_reads (Var k) = []
term_reads (Given f args) = all_reads args
term_reads (Choice x args) = (x, map (λ arg. arg.0) args) ∷ all_reads args
term_reads (Add parts) = all_reads parts
term_reads (Sub parts) = all_reads parts
term_reads (Mul parts) = all_reads parts
term_reads (Min parts) = all_reads parts
term_reads (Max parts) = all_reads parts
term_reads (Sum index p a) = p.1 ++ a.1

abbrev pub formula_reads : Formula-F (Formula × List Access) (Term × List Access) → List Access
formula_reads (Compare c a b) = a.1 ++ b.1
formula_reads (And parts) = all_reads parts
formula_reads (Or parts) = all_reads parts
formula_reads (Not p) = p.1
formula_reads (Implies p q) = p.1 ++ q.1
formula_reads (Forall indexes p) = p.1
formula_reads (Exists indexes p) = p.1

-- the accesses in a term
unfoldable pub reads_of : Term → List Access
reads_of = para-Term (List Access) (List Access) formula_reads term_reads

-- the accesses in a formula
unfoldable pub reads_in : Formula → List Access
reads_in = para-Formula (List Access) (List Access) formula_reads term_reads
