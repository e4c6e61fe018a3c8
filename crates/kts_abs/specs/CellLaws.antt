-- The laws of cells are those of windows and of sets.
use Rattle.std.proofs.Common.{◌≡◌, ◌≢◌, refl, ap, subst, true, ℕ, ◌<◌, ◌≤◌, Option, Some, None}
use Rattle.std.specs.Prelude.{option_map}
use Rattle.kts_semi.specs.Ends.{InEnds, inside, overlap}
use Rattle.kts_semi.specs.EndLaws.{window_laws}
use Rattle.kts_semi.specs.Semilattice.{IsSemi, IsLeast}
use Rattle.kts_sets.specs.Choices.{IsChoice, within, common}
use Rattle.kts_sets.specs.ChoiceLaws.{choice_laws}
use Rattle.kts_abs.specs.declared.cell.Cell.{Cell}
use Rattle.kts_abs.specs.declared.cell.Cell.TheVariants.{Win, Mem}
use Rattle.kts_abs.specs.Cells.{IsValid, is_above, joined, extent}

-- the order within a kind is that of its values
reflexive : {W : ℕ} → (a : Cell W) → IsValid a → is_above a a ≡ true
reflexive (Win w) v = window_laws.reflexive w v
reflexive (Mem ms) v = choice_laws.reflexive ms v

transitive : {W : ℕ} → (a b c : Cell W) → IsValid a → IsValid b → IsValid c → is_above a b ≡ true → is_above b c ≡ true → is_above a c ≡ true
transitive (Win u) (Win v) (Win w) p q r h k = window_laws.transitive u v w p q r h k
transitive (Win u) (Win v) (Mem w) p q r h k = k
transitive (Win u) (Mem v) c p q r h k = cc
transitive (Mem u) (Win v) c p q r h k = cc
transitive (Mem u) (Mem v) (Win w) p q r h k = k
transitive (Mem u) (Mem v) (Mem w) p q r h k = choice_laws.transitive u v w p q r h k

antisymmetric : {W : ℕ} → (a b : Cell W) → IsValid a → IsValid b → is_above a b ≡ true → is_above b a ≡ true → a ≡ b
antisymmetric (Win v) (Win w) p q h k = ap (λ u. Win u) (window_laws.antisymmetric v w p q h k)
antisymmetric (Win v) (Mem ns) p q h k = cc
antisymmetric (Mem ms) (Win w) p q h k = cc
antisymmetric (Mem ms) (Mem ns) p q h k = ap (λ us. Mem us) (choice_laws.antisymmetric ms ns p q h k)

-- what a join within a kind comes from
mapped : {X Y : Type 0} (f : X → Y) (o : Option X) (y : Y) → option_map f o ≡ Some y → (x : X) × (o ≡ Some x) × (f x ≡ y)
mapped f None y e = cc
mapped f (Some x) y e = (x, refl, cc)

-- nothing comes of nothing alone
mapped_none : {X Y : Type 0} (f : X → Y) (o : Option X) → option_map f o ≡ None → o ≡ None
mapped_none f None e = refl
mapped_none f (Some x) e = cc

-- a join is the least value above both
some_join : {W : ℕ} → (a b c : Cell W) → IsValid a → IsValid b → joined a b ≡ Some c → IsLeast IsValid is_above a b c
some_join {W} (Win v) (Win w) c p q e =
    let m = mapped (λ u. Win u) (overlap v w) c e in
    let l = window_laws.some v w m.0 p q m.1 in
    subst (IsLeast IsValid is_above (Win v) (Win w)) m.2 (record { valid = l.valid; left = l.left; right = l.right; least = least l })
  where
    least : IsLeast InEnds inside v w (mapped (λ u. Win u) (overlap v w) c e).0 → (d : Cell W) → IsValid d → is_above (Win v) d ≡ true → is_above (Win w) d ≡ true → is_above (Win (mapped (λ u. Win u) (overlap v w) c e).0) d ≡ true
    least l (Win d) r h k = l.least d r h k
    least l (Mem d) r h k = h
some_join (Win v) (Mem ns) c p q e = cc
some_join (Mem ms) (Win w) c p q e = cc
some_join {W} (Mem ms) (Mem ns) c p q e =
    let m = mapped (λ us. Mem us) (common ms ns) c e in
    let l = choice_laws.some ms ns m.0 p q m.1 in
    subst (IsLeast IsValid is_above (Mem ms) (Mem ns)) m.2 (record { valid = l.valid; left = l.left; right = l.right; least = least l })
  where
    least : IsLeast IsChoice within ms ns (mapped (λ us. Mem us) (common ms ns) c e).0 → (d : Cell W) → IsValid d → is_above (Mem ms) d ≡ true → is_above (Mem ns) d ≡ true → is_above (Mem (mapped (λ us. Mem us) (common ms ns) c e).0) d ≡ true
    least l (Win d) r h k = h
    least l (Mem d) r h k = l.least d r h k

-- where there is none, nothing is above both
none_join : {W : ℕ} → (a b c : Cell W) → IsValid a → IsValid b → joined a b ≡ None → IsValid c → is_above a c ≡ true → is_above b c ≡ true → ⊥
none_join (Win v) (Win w) (Win u) p q e r h k = window_laws.none v w u p q (mapped_none _ (overlap v w) e) r h k
none_join (Win v) b (Mem us) p q e r h k = cc
none_join (Win v) (Mem ns) (Win u) p q e r h k = cc
none_join (Mem ms) b (Win u) p q e r h k = cc
none_join (Mem ms) (Win w) (Mem us) p q e r h k = cc
none_join (Mem ms) (Mem ns) (Mem us) p q e r h k = choice_laws.none ms ns us p q (mapped_none _ (common ms ns) e) r h k

positive : {W : ℕ} → (a : Cell W) → IsValid a → 1 ≤ extent a
positive (Win w) p = window_laws.positive w p
positive (Mem ms) p = choice_laws.positive ms p

-- a strict rise lowers the extent
falls : {W : ℕ} → (a b : Cell W) → IsValid a → IsValid b → is_above a b ≡ true → a ≢ b → extent b < extent a
falls (Win v) (Win w) p q h n = window_laws.falls v w p q h (λ e. n (ap (λ u. Win u) e))
falls (Win v) (Mem ns) p q h n = cc
falls (Mem ms) (Win w) p q h n = cc
falls (Mem ms) (Mem ns) p q h n = choice_laws.falls ms ns p q h (λ e. n (ap (λ us. Mem us) e))

pub cell_laws : {W : ℕ} → IsSemi {A = Cell W} IsValid is_above joined extent
cell_laws = record {
  reflexive = reflexive;
  transitive = transitive;
  antisymmetric = antisymmetric;
  some = some_join;
  none = none_join;
  positive = positive;
  falls = falls;
}
