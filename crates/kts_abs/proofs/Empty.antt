-- Where a type is empty, there is no schedule.
use Rattle.std.proofs.Common.{◌≡◌, refl, sym, ◌∙◌, ap, ⊎_elim, true, false, ℕ, zero, suc, ◌+◌, ℤ, pos, List, [], ◌∷◌, length, map, Bool, ◌&&◌, None, arith}
use Rattle.std.proofs.lemmas.Int.{ints}
use Rattle.std.specs.Prelude.{flat_map, int_le}
use Rattle.std.specs.List.{list_all, range_with_len, enumerate_from}
use Rattle.std.proofs.lemmas.Bool.{and_parts, and_from, cases_Bool, true≢false}
use Rattle.std.proofs.lemmas.List.Folds.{list_all-append}
use Rattle.kts_spec.specs.declared.declarations.Family.{Family}
use Rattle.kts_spec.specs.declared.declarations.ValueType.{ValueType}
use Rattle.kts_spec.specs.declared.declarations.ValueType.TheVariants.{Int, Member}
use Rattle.kts_spec.specs.declared.instance.Instance.{Instance}
use Rattle.kts_spec.specs.declared.schema.Schema.{Schema}
use Rattle.kts_spec.specs.Facts.{SchemasKeep}
use Rattle.kts_spec.specs.Schemas.{is_end, is_type, is_family}
use Rattle.kts_spec.specs.Schedules.{Cell, cells, cells_of, tuples, values_of, schedules, all}
use Rattle.kts_spec.specs.Worlds.{World, world_of, size_of, sizes_of}
use Rattle.kts_abs.specs.Spaces.{type_value, types, initial}
use Rattle.kts_abs.specs.Values.{is_cell, Mem}
use Rattle.kts_abs.proofs.Rising.{positions_rise}

-- whether the ends of a type are in order
abbrev is_ordered : ValueType → Bool
is_ordered (Int lo hi) = int_le lo hi
is_ordered (Member i) = true

-- a cell's type is that of its choice
ordered_cells : (x : ℕ) (kind : ValueType) (rows : List (List ℕ)) → is_ordered kind ≡ true
    → list_all (λ (c : Cell). is_ordered c.kind) (map (λ args. record { choice = x; args = args; kind = kind }) rows) ≡ true
ordered_cells x kind [] h = refl
ordered_cells x kind (row ∷ rows) h =
    and_from (is_ordered kind) (list_all (λ (c : Cell). is_ordered c.kind) (map (λ args. record { choice = x; args = args; kind = kind }) rows)) h (ordered_cells x kind rows h)

-- the types of all cells are ordered where those of the choices are
ordered_choices : (w : World) (x : ℕ) (families : List Family) → list_all (λ (f : Family). is_ordered f.kind) families ≡ true
    → list_all (λ (c : Cell). is_ordered c.kind) (flat_map (cells_of w) (enumerate_from x families)) ≡ true
ordered_choices w x [] h = refl
ordered_choices w x (f ∷ families) h =
    let p = and_parts (is_ordered f.kind) (list_all (λ (f : Family). is_ordered f.kind) families) h in
    list_all-append (λ (c : Cell). is_ordered c.kind) (cells_of w (x, f)) (flat_map (cells_of w) (enumerate_from (x + 1) families))
    ∙ and_from (list_all (λ (c : Cell). is_ordered c.kind) (cells_of w (x, f))) (list_all (λ (c : Cell). is_ordered c.kind) (flat_map (cells_of w) (enumerate_from (x + 1) families)))
    (ordered_cells x f.kind (tuples (sizes_of w f)) p.0) (ordered_choices w (x + 1) families p.1)

-- an ordered type that no cell can have has no values
no_members : (n : ℕ) → is_cell (Mem (map pos (range_with_len 0 n))) ≡ false → map pos (range_with_len 0 n) ≡ []
no_members zero h = refl
no_members (suc n) h = absurd (true≢false (sym (positions_rise (0 + 1) n (pos 0) (omega (arith, ints))) ∙ h))

-- an ordered type that no cell can have has no values
no_values : (w : World) (kind : ValueType) → is_ordered kind ≡ true → is_cell (type_value w kind) ≡ false → values_of w kind ≡ []
no_values w (Int lo hi) h k = absurd (true≢false (sym h ∙ k))
no_values w (Member i) h k = no_members (size_of w i) k

-- a value put before no schedule gives none
nothing_first : (xs : List ℤ) → flat_map (λ x. map (λ rest. x ∷ rest) []) xs ≡ []
nothing_first [] = refl
nothing_first (x ∷ xs) = nothing_first xs

-- where one cell has no value there is no schedule
no_schedule : (w : World) (cs : List Cell) → list_all (λ (c : Cell). is_ordered c.kind) cs ≡ true → list_all is_cell (map (λ (c : Cell). type_value w c.kind) cs) ≡ false
    → all (map (λ (c : Cell). values_of w c.kind) cs) ≡ []
no_schedule w [] h k = absurd (true≢false k)
no_schedule w (c ∷ cs) h k =
    let p = and_parts (is_ordered c.kind) (list_all (λ (c : Cell). is_ordered c.kind) cs) h in
    ⊎_elim
    (λ (t : is_cell (type_value w c.kind) ≡ true).
    let r = no_schedule w cs p.1 (rw t at k) in
    ap (λ rows. flat_map (λ x. map (λ rest. x ∷ rest) rows) (values_of w c.kind)) r ∙ nothing_first (values_of w c.kind))
    (λ (t : is_cell (type_value w c.kind) ≡ false).
    ap (flat_map (λ x. map (λ rest. x ∷ rest) (all (map (λ (c : Cell). values_of w c.kind) cs)))) (no_values w c.kind p.0 t))
    (cases_Bool (is_cell (type_value w c.kind)))

none_from_ordered : (w : World) → list_all (λ (f : Family). is_ordered f.kind) w.choices ≡ true → initial w ≡ None → schedules w ≡ []
none_from_ordered w h e =
    ⊎_elim
    (λ (t : list_all is_cell (types w) ≡ true). let z = rw t at e in cc)
    (λ (t : list_all is_cell (types w) ≡ false). no_schedule w (cells w) (ordered_choices w 0 w.choices h) t)
    (cases_Bool (list_all is_cell (types w)))

ordered_type : (n : ℕ) (kind : ValueType) → is_type n kind ≡ true → is_ordered kind ≡ true
ordered_type n (Int lo hi) e = (and_parts (is_end lo && is_end hi) (int_le lo hi) e).1
ordered_type n (Member i) e = refl

ordered_families : (n : ℕ) (families : List Family) → list_all (is_family n) families ≡ true → list_all (λ (f : Family). is_ordered f.kind) families ≡ true
ordered_families n [] e = refl
ordered_families n (f ∷ families) e =
    let p = and_parts (is_family n f) (list_all (is_family n) families) e in
    and_from (is_ordered f.kind) (list_all (λ (f : Family). is_ordered f.kind) families) (ordered_type n f.kind (and_parts _ (is_type n f.kind) p.0).1) (ordered_families n families p.1)

-- where there is no space of all schedules of a schema there is no schedule
pub none_initial : SchemasKeep → (schema : Schema) (inst : Instance) → initial (world_of schema inst) ≡ None → schedules (world_of schema inst) ≡ []
none_initial keep schema inst e =
    none_from_ordered (world_of schema inst) (ordered_families (length schema.indexes) schema.choices (keep schema).choices) e
