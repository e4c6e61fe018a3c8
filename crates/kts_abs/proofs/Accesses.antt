-- Accesses to cells in a space that knows more.
use Rattle.std.proofs.Common.{refl, sym, ◌∙◌, subst, ℕ, zero, suc, List, [], ◌∷◌, map, ℤ, pos, ◌≤ℤ◌, inl, arith}
use Rattle.std.specs.Prelude.{flat_map, slice_index_or, Option, Some, None}
use Rattle.std.proofs.lemmas.Int.{ints}
use Rattle.kts_spec.specs.declared.declarations.ValueType.{ValueType}
use Rattle.kts_spec.specs.declared.declarations.ValueType.TheVariants.{Int, Member}
use Rattle.kts_spec.specs.Places.{lookup}
use Rattle.kts_spec.specs.Related.{Pairs}
use Rattle.kts_spec.specs.Schedules.{all}
use Rattle.kts_abs.specs.Abstraction.{Finer}
use Rattle.kts_abs.specs.InSpace.{rising, hull_of_all, any_of, only_of, accessed}
use Rattle.kts_abs.specs.Values.{Abs, Win, Mem, has, Refines, window_of, members_of, ends_of}
use Rattle.kts_abs.specs.Windows.{in_window}
use Rattle.kts_abs.specs.WindowLaws.{low_end}
use Rattle.kts_abs.proofs.WindowEnds.{Inside, inside_from, finer_from}
use Rattle.kts_abs.proofs.Listed.{In, within_from, finer_within, in_map, map_in, in_each, each_in, in_rising, rising_in, ends_have, ends_inside, hull_has, hull_inside}
use Rattle.kts_abs.proofs.Rising.{numbers_has}

-- what is finer is finer as a window, and as a list
pub window_finer : (a b : Abs) → Refines a b → Finer in_window (window_of a) (window_of b)
window_finer (Win v) (Win w) h = h
window_finer (Win v) (Mem ns) h = absurd h
window_finer (Mem ms) (Win w) h = absurd h
window_finer (Mem ms) (Mem ns) h =
    let k = within_from ms ns h in
    finer_from (ends_of ms) (ends_of ns) (ends_inside ms k.first (ends_of ns) k.solid (λ n l. ends_have ns n (k.all n l)))

pub members_finer : (a b : Abs) → Refines a b → Finer has (members_of a) (members_of b)
members_finer (Win v) (Win w) h =
    let i = inside_from v w h in
    let l : w.0 ≤ℤ w.1 = omega (arith, ints) in
    record {
      witness = v.0;
      allowed = numbers_has v.0 v.1 v.0 i.solid ∙ low_end v i.solid;
      within = λ n k. numbers_has w.0 w.1 n l ∙ h.within n (sym (numbers_has v.0 v.1 n i.solid) ∙ k);
    }
members_finer (Win v) (Mem ns) h = absurd h
members_finer (Mem ms) (Win w) h = absurd h
members_finer (Mem ms) (Mem ns) h = h

-- a number alone lies within itself
pub only_finer : (n : ℤ) → Refines (only_of n) (only_of n)
only_finer n = finer_from (n, n) (n, n) (record { solid = omega (arith, ints); low = omega (arith, ints); high = omega (arith, ints) })

-- ---- tuples of arguments

-- arguments that allow something have a tuple of values
first_tuple : (xs ys : List Abs) → Pairs Refines xs ys → (t : List ℤ) × In t (all (map members_of xs))
first_tuple [] ys h = ([], inl refl)
first_tuple (x ∷ xs) [] h = absurd h
first_tuple (x ∷ xs) (y ∷ ys) h =
    let s = within_from (members_of x) (members_of y) (members_finer x y h.0) in
    let r = first_tuple xs ys h.1 in
    (s.first ∷ r.0, in_each (λ m. map (λ rest. m ∷ rest) (all (map members_of xs))) s.first (s.first ∷ r.0) (members_of x) s.solid (in_map (λ rest. s.first ∷ rest) r.0 (all (map members_of xs)) r.1))

-- wider arguments have every tuple of the finer ones
more_tuples : (xs ys : List Abs) (t : List ℤ) → Pairs Refines xs ys → In t (all (map members_of xs)) → In t (all (map members_of ys))
more_tuples [] [] t h k = k
more_tuples [] (y ∷ ys) t h k = absurd h
more_tuples (x ∷ xs) [] t h k = absurd h
more_tuples (x ∷ xs) (y ∷ ys) t h k =
    let s = within_from (members_of x) (members_of y) (members_finer x y h.0) in
    let f = each_in (λ m. map (λ rest. m ∷ rest) (all (map members_of xs))) t (members_of x) k in
    let g = map_in (λ rest. f.item ∷ rest) t (all (map members_of xs)) f.is in
    in_each (λ m. map (λ rest. m ∷ rest) (all (map members_of ys))) f.item t (members_of y) (s.all f.item f.held)
    (subst (λ u. In u (map (λ rest. f.item ∷ rest) (all (map members_of ys)))) (sym g.is)
    (in_map (λ rest. f.item ∷ rest) g.item (all (map members_of ys)) (more_tuples xs ys g.item h.1 g.held)))

-- ---- cells

-- the cell at a place; out of range both read 0
at_finer : (cs ds : List Abs) (p : ℕ) → Pairs Refines cs ds → Refines (slice_index_or cs p (only_of (pos 0))) (slice_index_or ds p (only_of (pos 0)))
at_finer [] [] p h = only_finer (pos 0)
at_finer [] (d ∷ ds) p h = absurd h
at_finer (c ∷ cs) [] p h = absurd h
at_finer (c ∷ cs) (d ∷ ds) zero h = h.0
at_finer (c ∷ cs) (d ∷ ds) (suc p) h = at_finer cs ds p h.1

lookup_finer : (cs ds : List Abs) (o : Option ℕ) → Pairs Refines cs ds → Refines (lookup cs o (only_of (pos 0))) (lookup ds o (only_of (pos 0)))
lookup_finer cs ds None h = only_finer (pos 0)
lookup_finer cs ds (Some p) h = at_finer cs ds p h

-- given values are the same in every space
pub table_finer : (ns : List ℤ) → Pairs Refines (map only_of ns) (map only_of ns)
table_finer [] = tt
table_finer (n ∷ ns) = (only_finer n, table_finer ns)

-- what some of the first allow, some of the second allow
any_finer : {X : Type 0} (kind : ValueType) (f g : X → Abs) (x : X) (xs ys : List X) → In x xs → ((y : X) → In y xs → In y ys) → ((y : X) → Refines (f y) (g y)) → Refines (any_of kind (map f xs)) (any_of kind (map g ys))
any_finer (Member i) f g x xs ys h k l =
    let s = within_from (members_of (f x)) (members_of (g x)) (members_finer (f x) (g x) (l x)) in
    finer_within (rising (flat_map members_of (map f xs))) (rising (flat_map members_of (map g ys))) (record {
      first = s.first;
      solid = in_rising s.first (flat_map members_of (map f xs)) (in_each members_of (f x) s.first (map f xs) (in_map f x xs h) s.solid);
      all = λ m a.
          let c = each_in members_of m (map f xs) (rising_in m (flat_map members_of (map f xs)) a) in
          let e = map_in f c.item xs c.held in
          let t = within_from (members_of (f e.item)) (members_of (g e.item)) (members_finer (f e.item) (g e.item) (l e.item)) in
          in_rising m (flat_map members_of (map g ys)) (in_each members_of (g e.item) m (map g ys) (in_map g e.item ys (k e.item e.held)) (t.all m (subst (λ z. In m (members_of z)) e.is c.is)));
    })
any_finer (Int lo hi) f g x xs ys h k l =
    finer_from (hull_of_all (map window_of (map f xs))) (hull_of_all (map window_of (map g ys))) (hull_inside window_of (f x) (map f xs) (hull_of_all (map window_of (map g ys))) (in_map f x xs h)
    (λ z a.
    let e = map_in f z xs a in
    let v = inside_from (window_of (f e.item)) (window_of (g e.item)) (window_finer (f e.item) (g e.item) (l e.item)) in
    let w = hull_has window_of (g e.item) (map g ys) (in_map g e.item ys (k e.item e.held)) (omega (arith, ints, v.solid, v.low, v.high)) in
    subst (λ u. Inside (window_of u) (hull_of_all (map window_of (map g ys)))) (sym e.is) (record { solid = v.solid; low = omega (arith, ints, v.low, w.low); high = omega (arith, ints, v.high, w.high) })))

-- an access in a space that knows more, at finer arguments
pub access_finer : (kind : ValueType) (place : List ℤ → Option ℕ) (cs ds xs ys : List Abs) → Pairs Refines cs ds → Pairs Refines xs ys → Refines (accessed kind place cs xs) (accessed kind place ds ys)
access_finer kind place cs ds xs ys c h =
    let t = first_tuple xs ys h in
    any_finer kind (λ tuple. lookup cs (place tuple) (only_of (pos 0))) (λ tuple. lookup ds (place tuple) (only_of (pos 0))) t.0 (all (map members_of xs)) (all (map members_of ys)) t.1 (λ u k. more_tuples xs ys u h k) (λ u. lookup_finer cs ds (place u) c)
