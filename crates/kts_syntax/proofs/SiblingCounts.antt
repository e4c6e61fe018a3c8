-- How many trees there are at a cursor.
use Rattle.std.proofs.Common.{◌≡◌, sym, ap, ℕ, suc, ◌+◌, ◌≤◌, nat_lt, List, [], ◌∷◌, length, Bool, true, false, if◌then◌else◌, arith}
use Rattle.std.specs.Prelude.{slice_range}
use Rattle.kts_text.specs.Forest.{Forest, none, atom, list, trees_at}
use Rattle.kts_text.specs.declared.node.Node.{Node}
use Rattle.kts_syntax.specs.Sizes.{count}

count_step : (a b c : Bool) (start end n : ℕ) (bytes : List ℕ) (x y : Forest) → count x ≤ n
    → count (if a then none else (if b then x else (if c then atom start bytes x else list start end y x))) ≤ suc n
unfolding count
count_step true b c start end n bytes x y h = omega arith
count_step false true c start end n bytes x y h = omega arith
count_step false false true start end n bytes x y h = omega arith
count_step false false false start end n bytes x y h = omega arith

-- no more than nodes
pub count-trees_at-le : (text : List ℕ) (depth : ℕ) (nodes : List Node) → count (trees_at text depth nodes) ≤ length nodes
unfolding trees_at count
count-trees_at-le text depth [] = omega arith
count-trees_at-le text depth (node ∷ nodes) =
    count_step (nat_lt node.depth depth) (nat_lt depth node.depth) node.atom node.start node.end (length nodes) (slice_range text node.start node.end)
    (trees_at text depth nodes) (trees_at text (depth + 1) nodes) (count-trees_at-le text depth nodes)

pub count-none : (trees : Forest) → none ≡ trees → count trees ≡ 0
unfolding count
count-none trees e = ap count (sym e)

pub count-atom : (at : ℕ) (bytes : List ℕ) (after trees : Forest) → atom at bytes after ≡ trees → count trees ≡ suc (count after)
unfolding count
count-atom at bytes after trees e = ap count (sym e)

pub count-list : (start end : ℕ) (inside after trees : Forest) → list start end inside after ≡ trees → count trees ≡ suc (count after)
unfolding count
count-list start end inside after trees e = ap count (sym e)

pub ruleset counts = (count-trees_at-le, count-none, count-atom, count-list)
