-- In a space of one schedule, every value is the one of that schedule.
use Rattle.std.proofs.Common.{◌≡◌, refl, sym, ap, ◌∙◌, subst, ℕ, zero, suc, List, [], ◌∷◌, ◌++◌, map, ℤ, pos, ◌+ℤ◌, ◌-ℤ◌, ◌*ℤ◌, true, false, inl, ⊎_elim, arith}
use Rattle.std.specs.Prelude.{slice_index_or, Option, Some, None}
use Rattle.std.specs.Int.{int_min, int_max}
use Rattle.std.specs.Ordering.{int_eq}
use Rattle.std.proofs.lemmas.Int.{ints}
use Rattle.kts_spec.specs.declared.declarations.ValueType.{ValueType}
use Rattle.kts_spec.specs.declared.declarations.ValueType.TheVariants.{Int, Member}
use Rattle.kts_spec.specs.declared.tree.Term.{Term}
use Rattle.kts_spec.specs.declared.tree.Formula.{Formula}
use Rattle.kts_spec.specs.Domain.{at_each, value}
use Rattle.kts_spec.specs.Meaning.{int_same, on_schedule, value_on, truth_on}
use Rattle.kts_spec.specs.Places.{cell, entry, lookup}
use Rattle.kts_spec.specs.Reads.{reads_of, reads_in}
use Rattle.kts_spec.specs.Related.{Pairs, Related}
use Rattle.kts_spec.specs.Schedules.{all}
use Rattle.kts_spec.specs.Worlds.{World, size_of, given_of, choice_of, table_of}
use Rattle.kts_spec.proofs.Relations.{related_term, related_formula}
use Rattle.kts_abs.specs.Abstraction.{Only, Abstracts}
use Rattle.kts_abs.specs.InSpace.{in_space, only_of, on_windows, any_of, accessed, rising, value_in, truth_in}
use Rattle.kts_abs.specs.Members.{same_of}
use Rattle.kts_abs.specs.Soundness.{ValuesAreExact}
use Rattle.kts_abs.specs.Truth.{may_be, certain}
use Rattle.kts_abs.specs.Values.{Abs, Win, Mem, has, IsOne, window_of, members_of, ends_of}
use Rattle.kts_abs.specs.Windows.{Window, in_window, kept_where, eq_of}
use Rattle.kts_abs.specs.WindowLaws.{only_at}
use Rattle.kts_abs.proofs.Hulls.{gates}
use Rattle.kts_abs.proofs.WindowEnds.{only_is}
use Rattle.kts_abs.proofs.Kleene.{ands, ors, nots, certain_only, only_certain}
use Rattle.kts_abs.proofs.Listed.{in_has, has_in}
use Rattle.kts_abs.proofs.Monotone.{all_okay}
use Rattle.kts_abs.proofs.Orders.{at_most, equal}
use Rattle.kts_abs.proofs.Pairings.{same_abstracts, values}
use Rattle.kts_abs.proofs.Products.{products}
use Rattle.kts_abs.proofs.Splits.{numbers_one}
use Rattle.kts_abs.proofs.Sums.{sums, differences, lesser, greater}

-- a value that stands for one number, as a window and as a list
pub window_one : (n : ℤ) (a : Abs) → IsOne n a → window_of a ≡ (n, n)
window_one n (Win w) h = h
window_one n (Mem ms) h = ap ends_of h

pub members_one : (n : ℤ) (a : Abs) → IsOne n a → members_of a ≡ n ∷ []
members_one n (Win w) h = ap (λ w. members_of (Win w)) h ∙ numbers_one n
members_one n (Mem ms) h = h

-- as a window and as a list it has that number alone
window_only : (n : ℤ) (a : Abs) → IsOne n a → Only in_window n (window_of a)
window_only n a h = let e = window_one n a h in only_at (window_of a) n (ap (λ w. w.0) e) (ap (λ w. w.1) e)

members_only : (n : ℤ) (a : Abs) → IsOne n a → Only has n (members_of a)
members_only n a h = subst (λ ms. Only has n ms) (sym (members_one n a h)) (record { allowed = in_has (n ∷ []) n (inl refl); alone = λ m k. ⊎_elim (λ e. e) (λ z. absurd z) (has_in (n ∷ []) m k) })

-- ---- accesses

-- arguments of one value have one tuple
tuple_one : (ns : List ℤ) (xs : List Abs) → Pairs IsOne ns xs → all (map members_of xs) ≡ ns ∷ []
tuple_one [] [] h = refl
tuple_one [] (x ∷ xs) h = absurd h
tuple_one (n ∷ ns) [] h = absurd h
tuple_one (n ∷ ns) (x ∷ xs) h = rw (members_one n x h.0, tuple_one ns xs h.1) refl

-- the value of a cell of one value; out of range both read 0
at_one : (ns : List ℤ) (cs : List Abs) (p : ℕ) → Pairs IsOne ns cs → IsOne (slice_index_or ns p (pos 0)) (slice_index_or cs p (only_of (pos 0)))
at_one [] [] p h = refl
at_one [] (c ∷ cs) p h = absurd h
at_one (n ∷ ns) [] p h = absurd h
at_one (n ∷ ns) (c ∷ cs) zero h = h.0
at_one (n ∷ ns) (c ∷ cs) (suc p) h = at_one ns cs p h.1

lookup_one : (ns : List ℤ) (cs : List Abs) (o : Option ℕ) → Pairs IsOne ns cs → IsOne (lookup ns o (pos 0)) (lookup cs o (only_of (pos 0)))
lookup_one ns cs None h = refl
lookup_one ns cs (Some p) h = at_one ns cs p h

table_one : (ns : List ℤ) → Pairs IsOne ns (map only_of ns)
table_one [] = tt
table_one (n ∷ ns) = (refl, table_one ns)

-- what one value of a cell allows
any_one : (kind : ValueType) (n : ℤ) (a : Abs) → IsOne n a → IsOne n (any_of kind (a ∷ []))
any_one (Int lo hi) n a h = window_one n a h
any_one (Member i) n a h = ap (λ ms. rising (ms ++ [])) (members_one n a h)

-- an access to cells of one value
access_one : (kind : ValueType) (place : List ℤ → Option ℕ) (ns args : List ℤ) (cs xs : List Abs) → Pairs IsOne ns cs → Pairs IsOne args xs → IsOne (lookup ns (place args) (pos 0)) (accessed kind place cs xs)
access_one kind place ns args cs xs h k = rw (tuple_one args xs k) (any_one kind (lookup ns (place args) (pos 0)) (lookup cs (place args) (only_of (pos 0))) (lookup_one ns cs (place args) h))

-- ---- operations

-- an operation on windows of one number
on_one : (f : ℤ → ℤ → ℤ) (g : Window → Window → Window) → Abstracts in_window in_window in_window f g → (x y : ℤ) (a b : Abs) → IsOne x a → IsOne y b → IsOne (f x y) (on_windows g a b)
on_one f g p x y a b h k = only_is (g (window_of a) (window_of b)) (f x y) (p.exact (window_of a) (window_of b) x y (window_only x a h) (window_only y b k))

-- two tests of equality
same_eq : (x y : ℤ) → int_same x y ≡ int_eq x y
same_eq x y = grind (arith, ints)

-- the operations on a schedule and in its space
exact : (w : World) (t : List Abs) (schedule : List ℤ) → Pairs IsOne schedule t → Related (size_of w) (on_schedule w schedule) (in_space w t) IsOne (Only may_be) (λ _. Unit {0}) (λ _. Unit {0})
exact w t schedule one = record {
  number = λ n. refl;
  member = λ m. refl;
  given = λ f xs ys h. access_one (given_of w f).kind (entry w f) (table_of w f) xs (map only_of (table_of w f)) ys (table_one (table_of w f)) h;
  choice = λ x args vars _ _ h. access_one (choice_of w x).kind (cell w x) schedule (at_each vars (map (value (size_of w) (on_schedule w schedule)) args)) t (at_each vars (map (value (size_of w) (in_space w t)) args)) one h;
  deeper = λ vars m _. tt;
  add = λ x y a b. on_one ◌+ℤ◌ _ sums x y a b;
  sub = λ x y a b. on_one ◌-ℤ◌ _ differences x y a b;
  mul = λ x y a b. on_one ◌*ℤ◌ _ products x y a b;
  least = λ x y a b. on_one int_min _ lesser x y a b;
  greatest = λ x y a b. on_one int_max _ greater x y a b;
  gate = λ b x p a h k. only_is _ (kept_where b x) (gates.exact p (window_of a) b x h (window_only x a k));
  le = λ x y a b h k. at_most.exact (window_of a) (window_of b) x y (window_only x a h) (window_only y b k);
  eq = λ x y a b h k. subst (λ z. Only may_be z (eq_of (window_of a) (window_of b))) (sym (same_eq x y)) (equal.exact (window_of a) (window_of b) x y (window_only x a h) (window_only y b k));
  same = λ x y a b h k. subst (λ z. Only may_be z (same_of int_eq (members_of a) (members_of b))) (sym (same_eq x y)) ((same_abstracts int_eq has values).exact (members_of a) (members_of b) x y (members_only x a h) (members_only y b k));
  yes = certain_only true;
  no = certain_only false;
  both = λ b c p q h k. ands.exact p q b c h k;
  either = λ b c p q h k. ors.exact p q b c h k;
  neg = λ b p h. nots.exact p b h;
}

-- a term has the value of the schedule alone
pub value_exact : (w : World) (t : List Abs) (schedule : List ℤ) → Pairs IsOne schedule t → (a : Term) (vars : List ℕ) → IsOne (value_on w schedule a vars) (value_in w t a vars)
value_exact w t schedule one a vars = related_term (size_of w) (on_schedule w schedule) (in_space w t) IsOne (Only may_be) (λ _. Unit {0}) (λ _. Unit {0}) (exact w t schedule one) a vars tt (all_okay (reads_of a))

-- a formula has the truth of the schedule
pub truth_exact : (w : World) (t : List Abs) (schedule : List ℤ) → Pairs IsOne schedule t → (p : Formula) (vars : List ℕ) → truth_in w t p vars ≡ certain (truth_on w schedule p vars)
truth_exact w t schedule one p vars = only_certain _ _ (related_formula (size_of w) (on_schedule w schedule) (in_space w t) IsOne (Only may_be) (λ _. Unit {0}) (λ _. Unit {0}) (exact w t schedule one) p vars tt (all_okay (reads_in p)))

pub is_exact : ValuesAreExact
is_exact = record { value = value_exact; truth = truth_exact }
