-- What the kind of a term says of the kinds of its parts.
use Rattle.std.proofs.Common.{◌≡◌, refl, List, [], ◌∷◌, Bool, true, false, Option, None, Some, if◌then◌else◌}
use Rattle.std.specs.Prelude.{option_map, option_and_then}
use Rattle.kts_spec.specs.declared.declarations.Family.{Family}
use Rattle.kts_spec.specs.Ranges.{Range, is_bounded}
use Rattle.kts_spec.specs.Related.{Pairs}
use Rattle.kts_spec.specs.Typing.{Kind, Whole, MemberOf, whole_of, whole_within, ranges, with_two, two_wholes, kind_of_type, are_members, kind_of_use}

-- what a choice or a chain that gave something was made of
pub if_some : {X : Type 0} (b : Bool) (o : Option X) (x : X) → (if b then o else None) ≡ Some x → (b ≡ true) × (o ≡ Some x)
if_some true o x e = (refl, e)
if_some false o x e = cc

pub then_some : {X Y : Type 0} (f : X → Option Y) (o : Option X) (y : Y) → option_and_then f o ≡ Some y → (x : X) × (o ≡ Some x) × (f x ≡ Some y)
then_some f None y e = cc
then_some f (Some x) y e = (x, refl, e)

pub map_some : {X Y : Type 0} (f : X → Y) (o : Option X) (y : Y) → option_map f o ≡ Some y → (x : X) × (o ≡ Some x) × (f x ≡ y)
map_some f None y e = cc
map_some f (Some x) y e = (x, refl, cc)

-- a whole number of this range
abbrev pub IsWhole : Option Kind → Range → Type 0
IsWhole k w = k ≡ Some (Whole w)

pub whole_of_some : (k : Option Kind) (w : Range) → option_and_then whole_of k ≡ Some w → IsWhole k w
whole_of_some None w e = cc
whole_of_some (Some (Whole v)) w e = cc
whole_of_some (Some (MemberOf i)) w e = cc

pub same_whole : (v w : Range) → Whole v ≡ Whole w → v ≡ w
same_whole v w e = cc

pub record WholeIs (w : Range) (k : Kind) : Type 0 where
  pub is : k ≡ Whole w
  pub bounded : is_bounded w ≡ true

pub whole_within_some : (w : Range) (k : Kind) → whole_within w ≡ Some k → WholeIs w k
whole_within_some w k e = by_test (is_bounded w) refl e
  where
    by_test : (b : Bool) → is_bounded w ≡ b → option_map Whole (if b then Some w else None) ≡ Some k → WholeIs w k
    by_test true t e = record { is = cc; bounded = t }
    by_test false t e = cc

-- terms that have ranges are whole numbers of these
pub ranges_some : (ks : List (Option Kind)) (ws : List Range) → ranges ks ≡ Some ws → Pairs IsWhole ks ws
ranges_some [] [] e = tt
ranges_some [] (w ∷ ws) e = cc
ranges_some (k ∷ ks) ws e =
    let first = then_some (λ w. option_map (λ rest. w ∷ rest) (ranges ks)) (option_and_then whole_of k) ws e in
    let others = map_some (λ rest. first.0 ∷ rest) (ranges ks) ws first.2 in
    joined ws first.0 others.0 others.2 (whole_of_some k first.0 first.1) (ranges_some ks others.0 others.1)
  where
    joined : (ws : List Range) (v : Range) (vs : List Range) → v ∷ vs ≡ ws → IsWhole k v → Pairs IsWhole ks vs → Pairs IsWhole (k ∷ ks) ws
    joined ws v vs e h hs = rw (← e) (h, hs)

-- an operation on two whole numbers
pub record TwoWholes (f : Range → Range → Range) (ks : List (Option Kind)) (k : Kind) : Type 0 where
  pub left : Range
  pub right : Range
  pub are : Pairs IsWhole ks (left ∷ right ∷ [])
  pub gives : WholeIs (f left right) k

pub two_wholes_some : (f : Range → Range → Range) (ks : List (Option Kind)) (k : Kind) → two_wholes f ks ≡ Some k → TwoWholes f ks k
two_wholes_some f ks k e =
    let both = then_some (with_two f) (ranges ks) k e in
    by_length both.0 (ranges_some ks both.0 both.1) both.2
  where
    by_length : (ws : List Range) → Pairs IsWhole ks ws → with_two f ws ≡ Some k → TwoWholes f ks k
    by_length [] h e = cc
    by_length (v ∷ []) h e = cc
    by_length (v ∷ w ∷ []) h e = record { left = v; right = w; are = h; gives = whole_within_some (f v w) k e }
    by_length (v ∷ w ∷ (z ∷ ws)) h e = cc

-- an access to a family
pub record UseOf (o : Option Family) (ks : List (Option Kind)) (k : Kind) : Type 0 where
  pub family : Family
  pub there : o ≡ Some family
  pub members : are_members family.args ks ≡ true
  pub is : kind_of_type family.kind ≡ k

pub kind_of_use_some : (o : Option Family) (ks : List (Option Kind)) (k : Kind) → kind_of_use o ks ≡ Some k → UseOf o ks k
kind_of_use_some None ks k e = cc
kind_of_use_some (Some family) ks k e =
    let p = if_some (are_members family.args ks) (Some (kind_of_type family.kind)) k e in
    record { family = family; there = refl; members = p.0; is = (let h = p.1 in cc) }
