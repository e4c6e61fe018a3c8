-- In each space above the first, the value of a well typed term has the kind of the term.
use Rattle.std.proofs.Common.{◌≡◌, refl, subst, List, true, ℤ, ◌≤ℤ◌, arith}
use Rattle.std.proofs.lemmas.Int.{ints, clamps}
use Rattle.kts_spec.specs.declared.instance.Instance.{Instance}
use Rattle.kts_spec.specs.declared.schema.Schema.{Schema}
use Rattle.kts_spec.specs.Data.{is_valid}
use Rattle.kts_spec.specs.Ranges.{Range, product_range}
use Rattle.kts_spec.specs.Typing.{Whole, MemberOf, kind_of}
use Rattle.kts_spec.specs.Worlds.{World, world_of, size_of}
use Rattle.kts_spec.proofs.Conditions.{instance_facts}
use Rattle.kts_spec.proofs.KindParts.{whole_of_some}
use Rattle.kts_spec.proofs.TypedAccesses.{few_members}
use Rattle.kts_spec.proofs.ValueRanges.{with_zero}
use Rattle.kts_abs.specs.declared.truth.Tri.{Tri}
use Rattle.kts_abs.specs.declared.truth.Tri.TheVariants.{F, U, T}
use Rattle.kts_abs.specs.Abstraction.{Abstracts}
use Rattle.kts_abs.specs.InSpace.{in_space, on_windows}
use Rattle.kts_abs.specs.Ranged.{IsWindowIn, ValuesHaveRanges}
use Rattle.kts_abs.specs.Spaces.{IsAbove, types}
use Rattle.kts_abs.specs.Values.{Abs, window_of}
use Rattle.kts_abs.specs.Windows.{Window, in_window, sum_of, difference_of, product_of, least_of, greatest_of, least_of_four, greatest_of_four, gated}
use Rattle.kts_abs.proofs.AbstractKinds.{HasKind, window_in, inside_range, number_in, position_in}
use Rattle.kts_abs.proofs.KindInductions.{KeepsKinds, kinds_are_kept}
use Rattle.kts_abs.proofs.Products.{products}
use Rattle.kts_abs.proofs.Sides.{initial_is}
use Rattle.kts_abs.proofs.Sums.{sums, differences, lesser, greater}
use Rattle.kts_abs.proofs.TypedCells.{given_has_kind, choice_has_kind}
use Rattle.kts_abs.proofs.WindowEnds.{Inside, inside_from, finer_from}

-- an operation gives a window in what it gives for the ranges
operation_in : (f : ℤ → ℤ → ℤ) (g : Window → Window → Window) → Abstracts in_window in_window in_window f g
    → (v u : Range) (a b : Abs) → IsWindowIn v a → IsWindowIn u b → IsWindowIn (g v u) (on_windows g a b)
operation_in f g laws v u a b h k =
    window_in (g (window_of a) (window_of b)) (g v u) (inside_from (g (window_of a) (window_of b)) (g v u)
    (laws.monotone (window_of a) v (window_of b) u (finer_from (window_of a) v (inside_range v a h)) (finer_from (window_of b) u (inside_range u b k))))

-- both definitions of a product are one
product_same : (v u : Range) → product_of v u ≡ product_range v u
unfolding product_of least_of_four greatest_of_four
product_same v u = refl

gated_inside : (p : Tri) (v r : Window) → Inside v r → Inside (gated p v) (with_zero r)
gated_inside F v r h = record { solid = omega (arith, ints); low = omega (arith, ints, clamps); high = omega (arith, ints, clamps) }
gated_inside U v r h = record { solid = omega (arith, ints, clamps); low = omega (arith, ints, clamps); high = omega (arith, ints, clamps) }
gated_inside T v r h = record { solid = h.solid; low = omega (arith, ints, clamps); high = omega (arith, ints, clamps) }

wider_in : (v u : Range) (a : Abs) → u.0 ≤ℤ v.0 → v.1 ≤ℤ u.1 → IsWindowIn v a → IsWindowIn u a
wider_in v u a low high h =
    let below = h.low in let above = h.high in
    record { window = h.window; is = h.is; low = omega (arith, ints); rising = h.rising; high = omega (arith, ints) }

-- the operations in a space keep kinds
space_keeps_kinds : (schema : Schema) (inst : Instance) (space : List Abs) → is_valid schema inst ≡ true → IsAbove (types (world_of schema inst)) space
    → KeepsKinds schema (world_of schema inst) (in_space (world_of schema inst) space) (HasKind (world_of schema inst))
space_keeps_kinds schema inst space valid above =
    let w : World = world_of schema inst in
    let facts = instance_facts schema inst valid in
    record {
      few = λ i. few_members inst.members i facts.members;
      number = number_in;
      member = λ i m l. position_in (size_of w i) m l;
      given = λ f family args e h. given_has_kind w f family space args facts.tables e h;
      choice = λ x family args e h. choice_has_kind w x family space args above e h;
      add = operation_in _ sum_of sums;
      sub = operation_in _ difference_of differences;
      mul = λ v u a b h k. subst (λ r. IsWindowIn r (on_windows product_of a b)) (product_same v u) (operation_in _ product_of products v u a b h k);
      least = operation_in _ least_of lesser;
      greatest = operation_in _ greatest_of greater;
      gate = λ p v a h. window_in (gated p (window_of a)) (with_zero v) (gated_inside p (window_of a) v (inside_range v a h));
      wider = wider_in;
    }

pub values_have_ranges : ValuesHaveRanges
values_have_ranges schema inst valid first space is above =
    let w : World = world_of schema inst in
    let types_below : IsAbove (types w) space = subst (λ z. IsAbove z space) (initial_is w first is).types above in
    let keeps = space_keeps_kinds schema inst space valid types_below in
    let kept = kinds_are_kept schema w (in_space w space) (HasKind w) keeps in
    record {
      whole = λ scope vars inside t r e. kept t scope vars (Whole r) inside (whole_of_some (kind_of schema t scope) r e);
      member = λ scope vars inside t i e. kept t scope vars (MemberOf i) inside e;
    }
