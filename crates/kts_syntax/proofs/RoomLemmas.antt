-- Readings that are built while there is room for their trees.
use Rattle.std.proofs.Common.{◌≡◌, refl, sym, ◌∙◌, ap, ℕ, zero, suc, ◌+◌, ◌-◌, ◌<◌, List, [], ◌∷◌, ◌++◌, map, Bool, true, false, if◌then◌else◌, nat_le, Ok, Err, arith}
use Rattle.std.proofs.lemmas.Bool.Decides.{nat_tests}
use Rattle.kts_base.specs.Limits.{most_written_trees}
use Rattle.kts_base.specs.Reads.{and_then}
use Rattle.kts_text.specs.Forest.{Forest, none}
use Rattle.kts_syntax.specs.Faults.{fault}
use Rattle.kts_syntax.specs.Heads.{layout_of}
use Rattle.kts_syntax.specs.Readings.{Reading, first_name, name_at, number_at, term_atom, atom_part, with_last, rest, expr_of, no_parts, list_head, parts_in, expr}
use Rattle.kts_syntax.specs.Rooms.{Built, trees_of, trees_below, trees_in_part, trees_at_part}
use Rattle.kts_syntax.specs.Sizes.{trees, total, size_step}
use Rattle.kts_syntax.specs.Tops.{first_formula, bounded, formula_of}
use Rattle.kts_syntax.specs.Words.{is_like_number}
use Rattle.kts_syntax.specs.declared.expr.Expr.{Expr, roll-Expr}
use Rattle.kts_syntax.specs.declared.expr.Expr.TheOpen.{Expr-F}
use Rattle.kts_syntax.specs.declared.expr.Expr.TheFolds.{fold_out-Expr, fold-roll-Expr}
use Rattle.kts_syntax.specs.declared.fault.FormKind.TheVariants.{TooMany}
use Rattle.kts_syntax.specs.declared.form.Form.TheVariants.{Formula}
use Rattle.kts_syntax.specs.declared.head.Head.{Head}
use Rattle.kts_syntax.specs.declared.head.Head.TheVariants.{Number, Use}
use Rattle.kts_syntax.specs.declared.layout.Layout.{Layout}
use Rattle.kts_syntax.specs.declared.layout.Role.{Role}
use Rattle.kts_syntax.specs.declared.layout.Role.TheVariants as role
use Rattle.kts_syntax.specs.declared.parts.Part.{Part}
use Rattle.kts_syntax.specs.declared.parts.Part.TheVariants.{Bound, Operand}
use Rattle.kts_syntax.specs.declared.parts.Parts.{Parts}
use Rattle.kts_syntax.specs.declared.word.Word.{Word}
use Rattle.kts_syntax.proofs.Inversions.{ok_is, both_ok}
use Rattle.kts_syntax.proofs.PartLemmas.{parts_after, parts_in-none, parts_read}

-- ---- counts of trees

pub trees-out : (expr : Expr) → trees expr ≡ suc (trees_below expr)
unfolding trees
trees-out expr = fold_out-Expr ℕ size_step expr

below-roll : (x : Expr-F Expr) → trees_below (roll-Expr x) ≡ total (map trees x.parts)
unfolding trees
below-roll x = let all : trees (roll-Expr x) ≡ suc (total (map trees x.parts)) = fold-roll-Expr ℕ size_step x in let one = trees-out (roll-Expr x) in omega (arith, all, one)

total-last : (exprs : List Expr) (e : Expr) → total (map trees (exprs ++ e ∷ [])) ≡ total (map trees exprs) + trees e
total-last [] e = omega arith
total-last (x ∷ xs) e = let more = total-last xs e in omega (arith, more)

part_taken : (front : Parts) (part : Part) → trees_of (with_last front part) ≡ trees_of front + (trees_in_part part + trees_at_part part)
unfolding with_last
part_taken front (Bound b) = omega arith
part_taken front (Operand e) = let sum = total-last front.exprs e in let one = trees-out e in omega (arith, sum, one)

-- an atom that is a part has no trees below it
term_alone : (at : ℕ) (bytes : List ℕ) (e : Expr) → term_atom at bytes ≡ Ok e → trees_below e ≡ 0
unfolding term_atom
term_alone at bytes e q = by (is_like_number bytes) q
  where
    by : (b : Bool) → (if b then and_then (number_at at bytes) (λ n. Ok (expr_of at (Number n) no_parts)) else and_then (name_at at bytes) (λ word. Ok (expr_of at (Use word) no_parts))) ≡ Ok e → trees_below e ≡ 0
    by true q = let read = both_ok (number_at at bytes) _ e q in ap trees_below (sym (ok_is (expr_of at (Number read.0) no_parts) e read.2)) ∙ below-roll _
    by false q = let read = both_ok (name_at at bytes) _ e q in ap trees_below (sym (ok_is (expr_of at (Use read.0) no_parts) e read.2)) ∙ below-roll _

pub atom_alone : (role : Role) (at : ℕ) (bytes : List ℕ) (part : Part) → atom_part role at bytes ≡ Ok part → trees_in_part part ≡ 0
unfolding atom_part
atom_alone role.Binder at bytes part q = absurd cc
atom_alone role.Formula at bytes part q = absurd cc
atom_alone role.Term at bytes part q = let read = both_ok (term_atom at bytes) _ part q in ap trees_in_part (sym (ok_is (Operand read.0) part read.2)) ∙ term_alone at bytes read.0 read.1

-- ---- parts, one after another

-- parts of some trees were read, which have taken room; those at a cursor are left
pub record Goes (layout : Layout) (trees : Forest) (room : ℕ) (parts : Parts) (ahead : Layout) (left : Forest) (more : ℕ) : Type 0 where
  pub front : Parts
  pub so_far : parts_after front (parts_in ahead left) ≡ parts_in layout trees
  pub taken : more ≡ room - trees_of front
  pub same : 0 < more → parts ≡ front

all_after : (read : Reading Parts) → parts_after no_parts read ≡ read
all_after (Ok parts) = refl
all_after (Err f) = refl

pub goes_first : (layout : Layout) (trees : Forest) (room : ℕ) (parts : Parts) → parts ≡ no_parts → Goes layout trees room parts layout trees room
goes_first layout trees room parts empty = record { front = no_parts; so_far = all_after (parts_in layout trees); taken = omega arith; same = λ _. empty }

module _ (layout next : Layout) (trees after : Forest) (room more : ℕ) (parts front : Parts) (taken : more ≡ room - trees_of front) (same : 0 < more → parts ≡ front) where
  -- one part more, which was built in the room if some is left
  pub goes_on : (inner last : ℕ) (part whole : Part) (now : Parts) → parts_after (with_last front whole) (parts_in next after) ≡ parts_in layout trees → inner ≡ more - trees_in_part whole
      → (0 < inner → part ≡ whole) → last ≡ inner - trees_at_part part → (0 < last → now ≡ with_last parts part) → Goes layout trees room now next after last
  goes_on inner last part whole now so_far below built own pushed = record {
    front = with_last front whole;
    so_far = so_far;
    taken = by inner below built own;
    same = λ some.
        let is_part = built (omega (arith, some, own)) in
        let is_front = same (omega (arith, some, own, below)) in
        pushed some ∙ (λ i. with_last (is_front i) (is_part i));
  }
    where
      by : (inner : ℕ) → inner ≡ more - trees_in_part whole → (0 < inner → part ≡ whole) → last ≡ inner - trees_at_part part → last ≡ room - trees_of (with_last front whole)
      by zero below built own = let sum = part_taken front whole in omega (arith, sum, taken, below, own)
      by (suc n) below built own =
          let sum = part_taken front whole in
          let one = ap trees_at_part (built (omega arith)) in
          omega (arith, sum, taken, below, own, one)

pub goes_to_end : (layout : Layout) (trees : Forest) (room : ℕ) (parts : Parts) (ahead : Layout) (left : Forest) (more : ℕ) → Goes layout trees room parts ahead left more → none ≡ left
    → Built trees_of room more parts (parts_in layout trees)
goes_to_end layout trees room parts ahead left more goes end =
    record { whole = goes.front; is = parts_in-none ahead left goes.front (parts_in layout trees) end goes.so_far; taken = goes.taken; same = goes.same }

-- ---- expressions

pub expr_built : (role : Role) (start : ℕ) (inside after : Forest) (head : Head) (layout : Layout) (room left : ℕ) (parts : Parts) (e : Expr) → list_head role start inside ≡ Ok head → after ≡ rest inside
    → layout ≡ layout_of head → Built trees_of room left parts (parts_in layout after) → e ≡ expr_of start head parts → Built trees_below room left e (expr role start inside)
expr_built role start inside after head layout room left parts e is is_after is_layout built is_expr = record {
  whole = expr_of start head built.whole;
  is = parts_read role start inside after head layout is is_after is_layout built.whole built.is;
  taken = let sum = below-roll (record { at = start; head = head; binders = built.whole.binders; parts = built.whole.exprs }) in omega (arith, sum, built.taken);
  same = λ some. is_expr ∙ ap (expr_of start head) (built.same some);
}

module _ (left : ℕ) (e : Expr) (read : Reading Expr) (built : Built trees_below most_written_trees left e read) where
  small : (n b : ℕ) → n ≡ suc b → b < most_written_trees → nat_le n most_written_trees ≡ true
  small n b one h = grind (arith, nat_tests)

  large : (n b : ℕ) → n ≡ suc b → most_written_trees - b ≡ 0 → nat_le n most_written_trees ≡ false
  large n b one h = grind (arith, nat_tests)

  -- a formula that was built isn't too large, and one that wasn't is
  pub built_small : 0 < left → (read ≡ Ok e) × (nat_le (trees e) most_written_trees ≡ true)
  built_small some =
      let same = built.same some in
      let fits = small (trees built.whole) (trees_below built.whole) (trees-out built.whole) (omega (arith, some, built.taken)) in
      (built.is ∙ ap Ok (sym same), ap (λ (x : Expr). nat_le (trees x) most_written_trees) same ∙ fits)

  pub built_large : left ≡ 0 → (x : Expr) × (read ≡ Ok x) × (nat_le (trees x) most_written_trees ≡ false)
  built_large none_left = (built.whole, built.is, large (trees built.whole) (trees_below built.whole) (trees-out built.whole) (sym built.taken ∙ none_left))

some_left : (n : ℕ) → (n ≡ 0 → ⊥) → 0 < n
some_left zero h = absurd (h refl)
some_left (suc n) h = omega arith

module _ (start : ℕ) (parts more : Forest) (word : Word) (left : ℕ) (e : Expr) (is_word : first_name parts ≡ Ok word) (is_more : more ≡ rest parts) (built : Built trees_below most_written_trees left e (first_formula more)) where
  pub formula_built : (left ≡ 0 → ⊥) → formula_of start parts ≡ Ok (Formula word e)
  unfolding formula_of bounded
  formula_built some = let small = built_small left e (first_formula more) built (some_left left some) in rw (is_word, ← is_more, small.0, small.1) refl

  pub formula_large : left ≡ 0 → formula_of start parts ≡ Err (fault TooMany start)
  unfolding formula_of bounded
  formula_large none_left = let large = built_large left e (first_formula more) built none_left in rw (is_word, ← is_more, large.1, large.2) refl
