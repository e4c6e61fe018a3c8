-- The types of cells, choice by choice.
use Rattle.std.proofs.Common.{◌≡◌, refl, sym, ◌∙◌, ap, subst, ℕ, zero, suc, ◌+◌, ◌<◌, ◌≤◌, Bool, true, false, ◌&&◌, nat_eq, List, [], ◌∷◌, ◌++◌, length, map, flat_map, replicate, take, slice_get, slice_index_or, Some, arith, append_assoc, length-append}
use Rattle.std.specs.List.{list_all, enumerate_from}
use Rattle.std.proofs.lemmas.Bool.{ne_eqb, true≢false}
use Rattle.std.proofs.Math.Numerals.{add-one}
use Rattle.std.proofs.lemmas.List.{append-nil, length-replicate, take_all}
use Rattle.std.proofs.lemmas.Option.{slice_get-get_or}
use Rattle.std.proofs.lemmas.List.Folds.{list_all-append}
use Rattle.kts_abs.specs.declared.cell.Cell.{Cell as MachineCell}
use Rattle.kts_abs.specs.Cells.{IsValid, value_of}
use Rattle.kts_abs.proofs.Positions.{cell_is}
use Rattle.kts_abs.specs.Spaces.{type_value, types, IsAbove}
use Rattle.kts_abs.specs.Values.{Abs, Win, Mem, is_cell, Refines}
use Rattle.kts_machine.specs.OfKind.{IsOf, HasKinds}
use Rattle.kts_machine.specs.TypeCells.{IsOpening, types_of}
use Rattle.kts_spec.specs.declared.declarations.Family.{Family}
use Rattle.kts_spec.specs.declared.declarations.ValueType.{ValueType}
use Rattle.kts_spec.specs.declared.declarations.ValueType.TheVariants.{Int, Member}
use Rattle.kts_spec.specs.Places.{count_of, cell_count}
use Rattle.kts_spec.specs.Related.{Pairs}
use Rattle.kts_spec.specs.Schedules.{Cell, cells, cells_of, tuples}
use Rattle.kts_spec.specs.declared.instance.Instance.{Instance}
use Rattle.kts_spec.specs.declared.schema.Schema.{Schema}
use Rattle.kts_spec.specs.Data.{is_valid}
use Rattle.kts_spec.specs.Schemas.{no_family}
use Rattle.kts_spec.specs.Worlds.{World, world_of, sizes_of, choice_of}
use Rattle.kts_mean.specs.Bounds.{members_of}
use Rattle.kts_mean.proofs.FamilyFacts.{FamilyFacts}
use Rattle.kts_machine.proofs.DataFacts.{choice_facts, family_read}
use Rattle.kts_machine.proofs.RaisedCells.{take-got}
use Rattle.kts_spec.proofs.CellPlaces.{cells_have_numbers}
use Rattle.kts_spec.proofs.TuplePlaces.{tuples_have_places}

abbrev type_of : World → Cell → Abs
type_of w c = type_value w c.kind

map-append : {X Y : Type 0} (f : X → Y) (xs ys : List X) → map f (xs ++ ys) ≡ map f xs ++ map f ys
map-append f [] ys = refl
map-append f (x ∷ xs) ys = ap (λ zs. f x ∷ zs) (map-append f xs ys)

same_kind : (w : World) (x : ℕ) (family : Family) (list : List (List ℕ)) →
    map (type_of w) (map (λ args. record { choice = x; args = args; kind = family.kind }) list) ≡ replicate (length list) (type_value w family.kind)
same_kind w x family [] = refl
same_kind w x family (args ∷ list) = ap (λ ks. type_value w family.kind ∷ ks) (same_kind w x family list)

kinds_from : (w : World) (x : ℕ) (families : List Family) → map (type_of w) (flat_map (cells_of w) (enumerate_from x families)) ≡ types_of w families
kinds_from w x [] = refl
kinds_from w x (family ∷ families) =
    map-append (type_of w) (cells_of w (x, family)) (flat_map (cells_of w) (enumerate_from (x + 1) families))
    ∙ ap (λ ks. ks ++ map (type_of w) (flat_map (cells_of w) (enumerate_from (x + 1) families)))
    (same_kind w x family (tuples (sizes_of w family)) ∙ ap (λ n. replicate n (type_value w family.kind)) (tuples_have_places (sizes_of w family)).count)
    ∙ ap (λ ks. replicate (count_of (sizes_of w family)) (type_value w family.kind) ++ ks) (kinds_from w (x + 1) families)

pub types_are : (w : World) → types w ≡ types_of w w.choices
types_are w = kinds_from w 0 w.choices

flat_map-append : {X Y : Type 0} (f : X → List Y) (xs ys : List X) → flat_map f (xs ++ ys) ≡ flat_map f xs ++ flat_map f ys
flat_map-append f [] ys = refl
flat_map-append f (x ∷ xs) ys = ap (λ zs. f x ++ zs) (flat_map-append f xs ys) ∙ sym (append_assoc (f x) (flat_map f xs) (flat_map f ys))

pub types_of-more : (w : World) (families : List Family) (family : Family) →
    types_of w (families ++ family ∷ []) ≡ types_of w families ++ replicate (count_of (sizes_of w family)) (type_value w family.kind)
types_of-more w families family =
    flat_map-append (λ (f : Family). replicate (count_of (sizes_of w f)) (type_value w f.kind)) families (family ∷ [])
    ∙ ap (λ ks. types_of w families ++ ks) (append-nil (replicate (count_of (sizes_of w family)) (type_value w family.kind)))

-- the type of a cell depends on the numbers of members alone
pub type_value-members : (schema : Schema) (inst : Instance) (kind : ValueType) → type_value (members_of inst) kind ≡ type_value (world_of schema inst) kind
type_value-members schema inst (Int lo hi) = refl
type_value-members schema inst (Member i) = refl

pub types_long : (w : World) → length (types w) ≡ cell_count w w.choices
types_long w = long (cells w) ∙ (cells_have_numbers w).count
  where
    long : (cs : List Cell) → length (map (type_of w) cs) ≡ length cs
    long [] = refl
    long (c ∷ cs) = ap suc (long cs)

-- ---- cells that are pushed

all_same : (n : ℕ) (a : Abs) → is_cell a ≡ true → list_all is_cell (replicate n a) ≡ true
all_same zero a e = refl
all_same (suc n) a e = ap (λ b. b && list_all is_cell (replicate n a)) e ∙ all_same n a e

none_same : (n : ℕ) (a : Abs) → is_cell a ≡ false → list_all is_cell (replicate n a) ≡ nat_eq n 0
none_same zero a e = refl
none_same (suc n) a e = ap (λ b. b && list_all is_cell (replicate n a)) e ∙ sym (ne_eqb (suc n) 0 (λ z. absurd (omega (arith, z))))

map-replicate : {W : ℕ} → (n : ℕ) (c : MachineCell W) → map value_of (replicate n c) ≡ replicate n (value_of c)
map-replicate {W} zero c = refl
map-replicate {W} (suc n) c = ap (λ ks. value_of c ∷ ks) (map-replicate n c)

and_true : (b : Bool) → (b && true) ≡ b
and_true true = refl
and_true false = refl

and_left : (a b : Bool) → (a && b) ≡ true → a ≡ true
and_left true b e = refl
and_left false b e = e

and_right : (a b : Bool) → (a && b) ≡ true → b ≡ true
and_right true b e = e
and_right false b e = absurd (true≢false (sym e))

pub IsOpening-none : {W : ℕ} → let none : List (MachineCell W) = [] in IsOpening [] none true
IsOpening-none {W} = record { long = refl; whole = refl; same = λ e. refl }

-- cells of a type that has values
pub IsOpening-some : {W : ℕ} → (kinds : List Abs) (cells : List (MachineCell W)) (is_whole : Bool) (n : ℕ) (c : MachineCell W) (a : Abs) → IsOpening kinds cells is_whole →
    value_of c ≡ a → IsValid c → IsOpening (kinds ++ replicate n a) (cells ++ replicate n c) is_whole
IsOpening-some {W} kinds cells is_whole n c a h v valid = let e : is_cell a ≡ true = sym (ap is_cell v) ∙ cell_is c valid in record {
  long = omega (arith, h.long, length-append cells (replicate n c), length-append kinds (replicate n a), length-replicate n c, length-replicate n a);
  whole = h.whole ∙ sym (list_all-append is_cell kinds (replicate n a) ∙ ap (λ b. list_all is_cell kinds && b) (all_same n a e) ∙ and_true (list_all is_cell kinds));
  same = λ w. map-append value_of cells (replicate n c) ∙ ap (λ ks. ks ++ map value_of (replicate n c)) (h.same w)
      ∙ ap (λ ks. kinds ++ ks) (map-replicate n c ∙ ap (replicate n) v);
}

-- cells of a type that has none
pub IsOpening-empty : {W : ℕ} → (kinds : List Abs) (cells : List (MachineCell W)) (is_whole : Bool) (n : ℕ) (c : MachineCell W) (a : Abs) → IsOpening kinds cells is_whole →
    is_cell a ≡ false → IsOpening (kinds ++ replicate n a) (cells ++ replicate n c) (is_whole && nat_eq n 0)
IsOpening-empty {W} kinds cells is_whole n c a h e = record {
  long = omega (arith, h.long, length-append cells (replicate n c), length-append kinds (replicate n a), length-replicate n c, length-replicate n a);
  whole = ap (λ b. b && nat_eq n 0) h.whole ∙ sym (list_all-append is_cell kinds (replicate n a) ∙ ap (λ b. list_all is_cell kinds && b) (none_same n a e));
  same = λ w. none_pushed n (and_right is_whole (nat_eq n 0) w) (h.same (and_left is_whole (nat_eq n 0) w));
}
  where
    none_pushed : (k : ℕ) → nat_eq k 0 ≡ true → map value_of cells ≡ kinds → map value_of (cells ++ replicate k c) ≡ kinds ++ replicate k a
    none_pushed zero z s = ap (map value_of) (append-nil cells) ∙ s ∙ sym (append-nil kinds)
    none_pushed (suc k) z s = absurd (true≢false (sym z ∙ ne_eqb (suc k) 0 (λ e. absurd (omega (arith, e)))))

-- ---- kinds of cells

pub kinds_of_types : (w : World) → HasKinds w (types w)
kinds_of_types w = each (cells w)
  where
    one : (kind : ValueType) → IsOf kind (type_value w kind)
    one (Int lo hi) = tt
    one (Member i) = tt

    each : (cs : List Cell) → Pairs (λ (c : Cell) a. IsOf c.kind a) cs (map (type_of w) cs)
    each [] = tt
    each (c ∷ cs) = (one c.kind, each cs)

pub kinds_above : (w : World) (space : List Abs) → IsAbove (types w) space → HasKinds w space
kinds_above w space h = each (cells w) space h
  where
    one : (kind : ValueType) (a : Abs) → Refines a (type_value w kind) → IsOf kind a
    one (Int lo hi) (Win v) r = tt
    one (Int lo hi) (Mem ms) r = r
    one (Member i) (Win v) r = r
    one (Member i) (Mem ms) r = tt

    each : (cs : List Cell) (space : List Abs) → Pairs Refines space (map (type_of w) cs) → Pairs (λ (c : Cell) a. IsOf c.kind a) cs space
    each [] [] h = tt
    each [] (a ∷ space) h = h
    each (c ∷ cs) [] h = h
    each (c ∷ cs) (a ∷ space) h = (one c.kind a h.0, each cs space h.1)

-- ---- the choice that a loop over the choices is at

pub record IsChoiceAt (schema : Schema) (inst : Instance) (x : ℕ) (family : Family) : Type 0 where
  pub declared : x < length schema.choices
  pub is : family ≡ choice_of (world_of schema inst) x
  pub facts : FamilyFacts (length inst.members) family
  pub there : slice_get schema.choices x ≡ Some family

pub choice_at : (schema : Schema) (inst : Instance) (valid : is_valid schema inst ≡ true) (families list : List Family) (x : ℕ) (family : Family) →
    list ≡ families → families ≡ schema.choices → x < length list → family ≡ slice_index_or list x family → IsChoiceAt schema inst x family
choice_at schema inst valid families list x family e f within read =
    let same = e ∙ f in
    let declared : x < length schema.choices = subst (λ (l : List Family). x < length l) same within in
    let is : family ≡ choice_of (world_of schema inst) x = family_read list schema.choices x family same declared read in
    record {
      declared = declared;
      is = is;
      facts = subst (FamilyFacts (length inst.members)) (sym is) (choice_facts schema inst valid x declared);
      there = slice_get-get_or schema.choices x no_family declared ∙ ap Some (sym is);
    }

-- one choice more
pub opening-more : {W : ℕ} → (schema : Schema) (inst : Instance) (x : ℕ) (family : Family) (cells : List (MachineCell W)) (is_whole : Bool) → IsChoiceAt schema inst x family →
    IsOpening (types_of (world_of schema inst) (take x schema.choices) ++ replicate (count_of (sizes_of (world_of schema inst) family)) (type_value (members_of inst) family.kind)) cells is_whole →
    IsOpening (types_of (world_of schema inst) (take (x + 1) schema.choices)) cells is_whole
opening-more {W} schema inst x family cells is_whole at h =
    let w = world_of schema inst in
    let more : types_of w (take (x + 1) schema.choices) ≡ types_of w (take x schema.choices) ++ replicate (count_of (sizes_of w family)) (type_value (members_of inst) family.kind) =
    ap (λ n. types_of w (take n schema.choices)) (add-one x) ∙ ap (types_of w) (take-got schema.choices x family at.there)
    ∙ types_of-more w (take x schema.choices) family
    ∙ ap (λ a. types_of w (take x schema.choices) ++ replicate (count_of (sizes_of w family)) a) (sym (type_value-members schema inst family.kind)) in
    subst (λ kinds. IsOpening kinds cells is_whole) (sym more) h

pub opening-all : {W : ℕ} → (schema : Schema) (inst : Instance) (x : ℕ) (cells : List (MachineCell W)) (is_whole : Bool) → length schema.choices ≤ x →
    IsOpening (types_of (world_of schema inst) (take x schema.choices)) cells is_whole → IsOpening (types (world_of schema inst)) cells is_whole
opening-all {W} schema inst x cells is_whole end h =
    let w = world_of schema inst in
    subst (λ kinds. IsOpening kinds cells is_whole) (ap (types_of w) (take_all x schema.choices end) ∙ sym (types_are w)) h
