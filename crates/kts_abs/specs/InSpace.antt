-- What terms and formulas mean in a space: abstract values, which allow each value that the schedules in it give.
use Rattle.std.specs.Prelude.{if◌then◌else◌, ℕ, ℤ, pos, int_lt, List, [], ◌∷◌, map, flat_map, Option}
use Rattle.std.specs.Ordering.{int_eq}
use Rattle.kts_spec.specs.declared.declarations.ValueType.{ValueType}
use Rattle.kts_spec.specs.declared.declarations.ValueType.TheVariants.{Int, Member}
use Rattle.kts_spec.specs.declared.tree.Term.{Term}
use Rattle.kts_spec.specs.declared.tree.Formula.{Formula}
use Rattle.kts_spec.specs.Domain.{Domain, value, truth}
use Rattle.kts_spec.specs.Places.{cell, entry, lookup}
use Rattle.kts_spec.specs.Schedules.{all}
use Rattle.kts_spec.specs.Worlds.{World, size_of, given_of, choice_of, table_of}
use Rattle.kts_abs.specs.declared.truth.Tri.{Tri}
use Rattle.kts_abs.specs.declared.truth.Tri.TheVariants.{F, T}
use Rattle.kts_abs.specs.Members.{same_of}
use Rattle.kts_abs.specs.Truth.{and_of, or_of, not_of}
use Rattle.kts_abs.specs.Values.{Abs, Win, Mem, window_of, members_of}
use Rattle.kts_abs.specs.Windows.{Window, sum_of, difference_of, product_of, least_of, greatest_of, hull_of, gated, le_of, eq_of}

-- the number at its place in a rising list
abbrev pub placed : ℤ → List ℤ → List ℤ
placed n [] = n ∷ []
placed n (m ∷ ms) = if int_eq n m then m ∷ ms else if int_lt n m then n ∷ m ∷ ms else m ∷ placed n ms

-- the numbers of a list, rising and each once
abbrev pub rising : List ℤ → List ℤ
rising [] = []
rising (n ∷ ns) = placed n (rising ns)

-- the least window round all of them; of none, 0
abbrev pub hull_of_all : List Window → Window
hull_of_all [] = (pos 0, pos 0)
hull_of_all (w ∷ []) = w
hull_of_all (w ∷ v ∷ ws) = hull_of w (hull_of_all (v ∷ ws))

-- what one of them allows, as a value of the type
abbrev pub any_of : ValueType → List Abs → Abs
any_of (Int lo hi) values = Win (hull_of_all (map window_of values))
any_of (Member i) values = Mem (rising (flat_map members_of values))

-- the number alone
abbrev pub only_of : ℤ → Abs
only_of n = Win (n, n)

-- an access to the cells of a family, at each tuple of values that its arguments allow
abbrev pub accessed : ValueType → (List ℤ → Option ℕ) → List Abs → List Abs → Abs
accessed kind place cells args = any_of kind (map (λ tuple. lookup cells (place tuple) (only_of (pos 0))) (all (map members_of args)))

-- an operation on windows
abbrev pub on_windows : (Window → Window → Window) → Abs → Abs → Abs
on_windows f a b = Win (f (window_of a) (window_of b))

-- windows, sets and three truth values; an access out of range gives 0
abbrev pub in_space : World → List Abs → Domain Abs Tri
in_space w space = record {
  number = only_of;
  member = λ m. Mem (pos m ∷ []);
  given = λ f args. accessed (given_of w f).kind (entry w f) (map only_of (table_of w f)) args;
  choice = λ x args. accessed (choice_of w x).kind (cell w x) space args;
  add = on_windows sum_of;
  sub = on_windows difference_of;
  mul = on_windows product_of;
  least = on_windows least_of;
  greatest = on_windows greatest_of;
  gate = λ p a. Win (gated p (window_of a));
  le = λ a b. le_of (window_of a) (window_of b);
  eq = λ a b. eq_of (window_of a) (window_of b);
  same = λ a b. same_of int_eq (members_of a) (members_of b);
  yes = T;
  no = F;
  both = and_of;
  either = or_of;
  neg = not_of;
}

-- the abstract value of a term in a space, at these members as the variables in scope
abbrev pub value_in : World → List Abs → Term → List ℕ → Abs
value_in w space = value (size_of w) (in_space w space)

-- the abstract truth of a formula there
abbrev pub truth_in : World → List Abs → Formula → List ℕ → Tri
truth_in w space = truth (size_of w) (in_space w space)
