-- A name more among those that are declared.
use Rattle.std.proofs.Common.{◌≡◌, refl, sym, ◌∙◌, ap, ℕ, List, [], ◌∷◌, ◌++◌, Bool, true, false, not, ◌&&◌, ◌||◌}
use Rattle.std.specs.List.{list_all, list_any}
use Rattle.std.proofs.lemmas.Bool.{and_parts, and_from, or_parts}
use Rattle.std.proofs.lemmas.Cmp.{nat_list_eq_equiv}
use Rattle.std.proofs.lemmas.List.Folds.{list_all-append, list_any-append}
use Rattle.kts_spec.specs.Names.{same_name, is_among, is_distinct}

pub same_symm : (a b : List ℕ) → same_name a b ≡ same_name b a
same_symm = nat_list_eq_equiv.symm

or_middle : (u v w : Bool) → (u || v) ≡ false → w ≡ false → (u || (w || v)) ≡ false
or_middle true v w e f = absurd cc
or_middle false v w e f = rw f e

and_middle : (u v w : Bool) → (u && v) ≡ true → w ≡ true → (u && (w && v)) ≡ true
and_middle true v w e f = rw f e
and_middle false v w e f = absurd cc

among_in : (xs ys : List (List ℕ)) (n m : List ℕ) → is_among (xs ++ ys) m ≡ false → same_name m n ≡ false → is_among (xs ++ n ∷ ys) m ≡ false
among_in xs ys n m a other =
    list_any-append (same_name m) xs (n ∷ ys) ∙ or_middle (list_any (same_name m) xs) (list_any (same_name m) ys) (same_name m n) (sym (list_any-append (same_name m) xs ys) ∙ a) other

pub all_in : (p : List ℕ → Bool) (xs ys : List (List ℕ)) (n : List ℕ) → list_all p (xs ++ ys) ≡ true → p n ≡ true → list_all p (xs ++ n ∷ ys) ≡ true
all_in p xs ys n a here =
    list_all-append p xs (n ∷ ys) ∙ and_middle (list_all p xs) (list_all p ys) (p n) (sym (list_all-append p xs ys) ∙ a) here

pub distinct_in : (xs ys : List (List ℕ)) (n : List ℕ) → is_distinct (xs ++ ys) ≡ true → is_among (xs ++ ys) n ≡ false → is_distinct (xs ++ n ∷ ys) ≡ true
distinct_in [] ys n d a = and_from (not (is_among ys n)) (is_distinct ys) (ap not a) d
distinct_in (x ∷ xs) ys n d a =
    let both = and_parts (not (is_among (xs ++ ys) x)) (is_distinct (xs ++ ys)) d in
    let other = or_parts (same_name n x) (is_among (xs ++ ys) n) a in
    and_from (not (is_among (xs ++ n ∷ ys) x)) (is_distinct (xs ++ n ∷ ys))
    (ap not (among_in xs ys n x (not_true (is_among (xs ++ ys) x) both.0) (same_symm x n ∙ other.0))) (distinct_in xs ys n both.1 other.1)
  where
    not_true : (b : Bool) → not b ≡ true → b ≡ false
    not_true true e = absurd cc
    not_true false e = refl
