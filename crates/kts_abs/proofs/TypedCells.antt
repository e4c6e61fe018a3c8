-- What the cells of a family hold in a space, and what an access to them gives: values of the family's type.
use Rattle.std.proofs.Common.{◌≡◌, refl, sym, ◌∙◌, ap, subst, inl, inr, ℕ, zero, suc, ◌+◌, List, [], ◌∷◌, map, true, Option, None, Some, slice_get, slice_index_or, ℤ, pos, nat_abs, arith}
use Rattle.std.specs.Prelude.{flat_map}
use Rattle.std.proofs.lemmas.Int.{ints}
use Rattle.std.proofs.lemmas.Option.{slice_get_within, get_or_from_slice_get}
use Rattle.kts_spec.specs.declared.declarations.ValueType.{ValueType}
use Rattle.kts_spec.specs.declared.declarations.ValueType.TheVariants.{Int, Member}
use Rattle.kts_spec.specs.declared.declarations.Family.{Family}
use Rattle.kts_spec.specs.CellOrder.{AreMembers}
use Rattle.kts_spec.specs.Data.{is_value, are_tables}
use Rattle.kts_spec.specs.Places.{place, offset, cell, entry, lookup}
use Rattle.kts_spec.specs.Related.{Pairs}
use Rattle.kts_spec.specs.Schedules.{all, Cell, cells, values_of}
use Rattle.kts_spec.specs.Schemas.{no_family}
use Rattle.kts_spec.specs.Typing.{MemberOf, kind_of_type}
use Rattle.kts_spec.specs.Worlds.{World, size_of, sizes_of, given_of, choice_of, table_of}
use Rattle.kts_spec.proofs.CellPlaces.{cell_of, cell_at, number_at}
use Rattle.kts_spec.proofs.TuplePlaces.{has_place, tuple_at}
use Rattle.kts_spec.proofs.TypedAccesses.{given_fits, value_of_kind}
use Rattle.kts_abs.specs.InSpace.{in_space, only_of, any_of, accessed, rising, hull_of_all}
use Rattle.kts_abs.specs.Spaces.{IsAbove, types, type_value}
use Rattle.kts_abs.specs.Values.{Abs, Win, Mem, Refines, window_of, members_of}
use Rattle.kts_abs.proofs.AbstractKinds.{HasKind, window_in, SomeMembers, set_in, some_members, one_member, positions_are_members}
use Rattle.kts_abs.proofs.Accesses.{window_finer, members_finer}
use Rattle.kts_abs.proofs.Listed.{In, within_from, in_map, map_in, in_each, each_in, in_rising, rising_in, hull_inside}
use Rattle.kts_abs.proofs.Splits.{numbers_one}
use Rattle.kts_abs.proofs.WindowEnds.{Inside, inside_from}

-- as a window, or as a list, it has some values of the type and no others
Suits : World → ValueType → Abs → Type 0
Suits w (Int lo hi) a = Inside (window_of a) (lo, hi)
Suits w (Member i) a = SomeMembers (size_of w i) (members_of a)

-- what is finer than the type
finer_suits : (w : World) (kind : ValueType) (a : Abs) → Refines a (type_value w kind) → Suits w kind a
unfolding Suits
finer_suits w (Int lo hi) a h = inside_from (window_of a) (lo, hi) (window_finer a (Win (lo, hi)) h)
finer_suits w (Member i) a h =
    let s = within_from (members_of a) (values_of w (Member i)) (members_finer a (Mem (values_of w (Member i))) h) in
    record { first = s.first; solid = s.solid; inside = λ m k. positions_are_members (size_of w i) m (s.all m k) }

-- a value of the type alone
value_suits : (w : World) (kind : ValueType) (v : ℤ) → is_value w kind v ≡ true → Suits w kind (only_of v)
unfolding Suits
value_suits w (Int lo hi) v h = let p = value_of_kind w (Int lo hi) v h in record { solid = omega (arith, ints); low = p.0; high = p.1 }
value_suits w (Member i) v h = subst (SomeMembers (size_of w i)) (sym (numbers_one v)) (one_member (size_of w i) v h)

-- what several of the type allow together
any_has_kind : {X : Type 0} (w : World) (kind : ValueType) (f : X → Abs) (x : X) (xs : List X) → In x xs → ((y : X) → In y xs → Suits w kind (f y))
    → HasKind w (kind_of_type kind) (any_of kind (map f xs))
unfolding Suits
any_has_kind w (Int lo hi) f x xs h k =
    window_in (hull_of_all (map window_of (map f xs))) (lo, hi)
    (hull_inside window_of (f x) (map f xs) (lo, hi) (in_map f x xs h)
    (λ z a. let e = map_in f z xs a in subst (λ u. Inside (window_of u) (lo, hi)) (sym e.is) (k e.item e.held)))
any_has_kind w (Member i) f x xs h k =
    let s = k x h in
    set_in (size_of w i) (rising (flat_map members_of (map f xs))) (record {
      first = s.first;
      solid = in_rising s.first (flat_map members_of (map f xs)) (in_each members_of (f x) s.first (map f xs) (in_map f x xs h) s.solid);
      inside = λ m a.
          let c = each_in members_of m (map f xs) (rising_in m (flat_map members_of (map f xs)) a) in
          let e = map_in f c.item xs c.held in
          (k e.item e.held).inside m (subst (λ z. In m (members_of z)) e.is c.is);
    })

-- ---- tuples of arguments

-- arguments that are sets of members
abbrev pub Arguments : World → List ℕ → List Abs → Type 0
Arguments w = Pairs (λ i x. HasKind w (MemberOf i) x)

-- they have a tuple
some_tuple : (w : World) (is : List ℕ) (xs : List Abs) → Arguments w is xs → (t : List ℤ) × In t (all (map members_of xs))
some_tuple w [] [] h = ([], inl refl)
some_tuple w [] (x ∷ xs) h = absurd h
some_tuple w (i ∷ is) [] h = absurd h
some_tuple w (i ∷ is) (x ∷ xs) h =
    let s = some_members (size_of w i) x h.0 in
    let r = some_tuple w is xs h.1 in (
      s.first ∷ r.0,
      in_each (λ m. map (λ rest. m ∷ rest) (all (map members_of xs))) s.first (s.first ∷ r.0) (members_of x) s.solid
          (in_map (λ rest. s.first ∷ rest) r.0 (all (map members_of xs)) r.1),
    )

-- and only tuples of members
tuple_in : (w : World) (is : List ℕ) (xs : List Abs) (t : List ℤ) → Arguments w is xs → In t (all (map members_of xs)) → AreMembers (map (size_of w) is) t
tuple_in w [] [] t h (inl e) = subst (λ u. AreMembers [] u) (sym e) tt
tuple_in w [] [] t h (inr k) = absurd k
tuple_in w [] (x ∷ xs) t h k = absurd h
tuple_in w (i ∷ is) [] t h k = absurd h
tuple_in w (i ∷ is) (x ∷ xs) t h k =
    let s = some_members (size_of w i) x h.0 in
    let f = each_in (λ m. map (λ rest. m ∷ rest) (all (map members_of xs))) t (members_of x) k in
    let g = map_in (λ rest. f.item ∷ rest) t (all (map members_of xs)) f.is in
    subst (λ u. AreMembers (map (size_of w) (i ∷ is)) u) (sym g.is) (s.inside f.item f.held, tuple_in w is xs g.item h.1 g.held)

-- ---- accesses

-- an access to cells that are of the type at each tuple
access_has_kind : (w : World) (family : Family) (place : List ℤ → Option ℕ) (held args : List Abs) → Arguments w family.args args
    → ((t : List ℤ) → AreMembers (sizes_of w family) t → Suits w family.kind (lookup held (place t) (only_of (pos 0))))
    → HasKind w (kind_of_type family.kind) (accessed family.kind place held args)
access_has_kind w family place held args h k =
    let t = some_tuple w family.args args h in
    any_has_kind w family.kind (λ tuple. lookup held (place tuple) (only_of (pos 0))) t.0 (all (map members_of args)) t.1
    (λ u m. k u (tuple_in w family.args args u h m))

lookup_only : (ns : List ℤ) (o : Option ℕ) → lookup (map only_of ns) o (only_of (pos 0)) ≡ only_of (lookup ns o (pos 0))
lookup_only ns None = refl
lookup_only ns (Some p) = at ns p
  where
    at : (ns : List ℤ) (p : ℕ) → slice_index_or (map only_of ns) p (only_of (pos 0)) ≡ only_of (slice_index_or ns p (pos 0))
    at [] p = refl
    at (n ∷ ns) zero = refl
    at (n ∷ ns) (suc p) = at ns p

-- an access to a given
pub given_has_kind : (w : World) (f : ℕ) (family : Family) (space args : List Abs) → are_tables w w.givens w.tables ≡ true
    → slice_get w.givens f ≡ Some family → Arguments w family.args args → HasKind w (kind_of_type family.kind) ((in_space w space).given f args)
given_has_kind w f family space args tables e h =
    let same : given_of w f ≡ family = get_or_from_slice_get w.givens f family no_family e in
    subst (λ (u : Family). HasKind w (kind_of_type family.kind) (accessed u.kind (entry w f) (map only_of (table_of w f)) args)) (sym same)
    (access_has_kind w family (entry w f) (map only_of (table_of w f)) args h (λ t k.
    subst (Suits w family.kind) (sym (lookup_only (table_of w f) (entry w f t)))
    (value_suits w family.kind (lookup (table_of w f) (entry w f t) (pos 0)) (given_fits w f family t tables e k))))

-- the cells of a space are of their types
cells_suit : (w : World) (cs : List Cell) (space : List Abs) → Pairs Refines space (map (λ (c : Cell). type_value w c.kind) cs)
    → Pairs (λ (c : Cell) a. Suits w c.kind a) cs space
cells_suit w [] [] h = tt
cells_suit w [] (a ∷ space) h = absurd h
cells_suit w (c ∷ cs) [] h = absurd h
cells_suit w (c ∷ cs) (a ∷ space) h = (finer_suits w c.kind a h.0, cells_suit w cs space h.1)

-- an item beside one of a list
pair_at : {X Y : Type 0} (P : X → Y → Type 0) (xs : List X) (ys : List Y) (k : ℕ) (x : X) (d : Y) → Pairs P xs ys → slice_get xs k ≡ Some x
    → P x (slice_index_or ys k d)
pair_at P [] ys k x d h e = cc
pair_at P (z ∷ xs) [] k x d h e = absurd h
pair_at P (z ∷ xs) (y ∷ ys) zero x d h e = let same : z ≡ x = cc in subst (λ u. P u y) same h.0
pair_at P (z ∷ xs) (y ∷ ys) (suc k) x d h e = pair_at P xs ys k x d h.1 e

-- the cell of a choice at members
choice_suits : (w : World) (x : ℕ) (family : Family) (space : List Abs) (args : List ℤ) → Pairs (λ (c : Cell) a. Suits w c.kind a) (cells w) space
    → slice_get w.choices x ≡ Some family → AreMembers (sizes_of w family) args → Suits w family.kind (lookup space (cell w x args) (only_of (pos 0)))
choice_suits w x family space args h e inside =
    let same : choice_of w x ≡ family = get_or_from_slice_get w.choices x family no_family e in
    let here = has_place (sizes_of w family) args inside in
    let place_is = ap (λ (u : Family). place (sizes_of w u) args) same ∙ here.is in
    let tuple = tuple_at (sizes_of w (choice_of w x)) args here.at place_is in
    let stands = cell_at w x here.at (map nat_abs args) (slice_get_within w.choices x family e) tuple in
    let suits = pair_at (λ (c : Cell) a. Suits w c.kind a) (cells w) space (offset w x + here.at) (cell_of w x (map nat_abs args)) (only_of (pos 0)) h stands in
    subst (λ o. Suits w family.kind (lookup space o (only_of (pos 0)))) (sym (number_at w x here.at args place_is))
    (subst (λ (u : Family). Suits w u.kind (slice_index_or space (offset w x + here.at) (only_of (pos 0)))) same suits)

-- an access to a choice
pub choice_has_kind : (w : World) (x : ℕ) (family : Family) (space args : List Abs) → IsAbove (types w) space
    → slice_get w.choices x ≡ Some family → Arguments w family.args args → HasKind w (kind_of_type family.kind) ((in_space w space).choice x args)
choice_has_kind w x family space args above e h =
    let same : choice_of w x ≡ family = get_or_from_slice_get w.choices x family no_family e in
    let suit = cells_suit w (cells w) space above in
    subst (λ (u : Family). HasKind w (kind_of_type family.kind) (accessed u.kind (cell w x) space args)) (sym same)
    (access_has_kind w family (cell w x) space args h (λ t k. choice_suits w x family space t suit e k))
