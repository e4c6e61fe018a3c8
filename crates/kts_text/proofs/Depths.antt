-- The trees of a text nest as little as the text.
use Rattle.std.proofs.Common.{sym, subst, ℕ, ◌+◌, ◌-◌, ◌≤◌, List, length, arith}
use Rattle.kts_base.specs.Limits.{most_nesting}
use Rattle.kts_text.specs.Forest.{Forest, nest}
use Rattle.kts_text.specs.Grammar.{Text, nothing, white, comment, letters, nested, spelled, forest, IsText, TreesOf}

nest-forest-le : (text : Text) (deep at : ℕ) → IsText deep text → nest (forest at text) ≤ deep
unfolding nest
nest-forest-le nothing deep at h = omega arith
nest-forest-le (white byte after) deep at h = nest-forest-le after deep (at + 1) h.1
nest-forest-le (comment bytes after) deep at h = nest-forest-le after deep (at + length bytes + 2) h.1
nest-forest-le (letters bytes after) deep at h = nest-forest-le after deep (at + length bytes) h.2
nest-forest-le (nested inside after) deep at h =
    let some = h.0 in
    let a : nest (forest (at + 1) inside) ≤ deep - 1 = nest-forest-le inside (deep - 1) (at + 1) h.1 in
    let b = nest-forest-le after deep (at + length (spelled inside) + 2) h.2 in
    omega arith

-- the trees of a file nest no deeper than they may
pub shallow_trees : (bytes : List ℕ) (trees : Forest) → TreesOf bytes trees → nest trees ≤ most_nesting
shallow_trees bytes trees found = let s = found.0 in subst (λ (t : Forest). nest t ≤ most_nesting) (sym s.5) (nest-forest-le s.0 most_nesting 0 s.2)
