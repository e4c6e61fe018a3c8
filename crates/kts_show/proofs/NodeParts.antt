-- The text of a node, cell by cell.
use Rattle.std.proofs.Common.{◌≡◌, refl, sym, ◌∙◌, ap, subst, ℕ, ◌+◌, ◌<◌, ◌≤◌, arith, List, [], ◌∷◌, ◌++◌, length, map, take, drop, get_or, Some, slice_get, slice_index_or, append_assoc, Result}
use Rattle.std.specs.Prelude.{flat_map, zip}
use Rattle.std.specs.List.{enumerate_from}
use Rattle.std.proofs.lemmas.List.{get_or-map, length-map, drop_all, take-map, drop-map}
use Rattle.std.proofs.lemmas.List.Concat.{flat_map-append}
use Rattle.std.proofs.lemmas.Option.{get_or_from_slice_get}
use Rattle.kts_base.specs.Writes.{Log, Done, Stopped, Wrote}
use Rattle.kts_base.proofs.Pieces.{stops_first, after}
use Rattle.kts_spec.specs.declared.declarations.Family.{Family}
use Rattle.kts_spec.specs.declared.instance.Instance.{Instance}
use Rattle.kts_spec.specs.declared.schema.Schema.{Schema}
use Rattle.kts_spec.specs.Places.{count_of, cell_count}
use Rattle.kts_spec.specs.Schedules.{Cell, tuples, cells_of, cells}
use Rattle.kts_spec.specs.Schemas.{no_family, family_at}
use Rattle.kts_spec.specs.Texts.{key_text}
use Rattle.kts_spec.specs.Worlds.{World, world_of}
use Rattle.kts_spec.proofs.CellPlaces.{more_cells}
use Rattle.kts_spec.proofs.TuplePlaces.{tuple_count}
use Rattle.kts_abs.specs.declared.cell.Cell.{Cell as Known}
use Rattle.kts_abs.specs.Cells.{value_of}
use Rattle.kts_abs.specs.Values.{Abs}
use Rattle.kts_show.specs.Keys.{sizes_in}
use Rattle.kts_abs.specs.NodeTexts.{value_names}
use Rattle.kts_abs.specs.NodeTexts.{range_text, known_text, known_cell_text}
use Rattle.kts_show.proofs.Walks.{drop_at, walk_here, walk_end}

-- what comes before what is known of a cell
pub known_parts : (name first comma second key range : List ℕ) → first ++ (comma ++ second) ≡ key
    → (32 ∷ (name ++ (40 ∷ (first ++ (comma ++ (second ++ (41 ∷ 61 ∷ []))))))) ++ range ≡ 32 ∷ (name ++ (40 ∷ (key ++ (41 ∷ (61 ∷ range)))))
known_parts name first comma second key range e = rw (← e) (simp append_assoc)

module _ (inst : Instance) (family : Family) (tuple : List ℕ) (a : Abs) (first second third : List ℕ) (e : first ++ (second ++ third) ≡ key_text inst family.args tuple) where
  abbrev head : List ℕ
  head = 32 ∷ (family.name ++ (40 ∷ (first ++ (second ++ (third ++ (41 ∷ 61 ∷ []))))))

  known_is : head ++ range_text (value_names inst family.kind) a ≡ known_text inst family (tuple, a)
  known_is = known_parts family.name first second third (key_text inst family.args tuple) (range_text (value_names inst family.kind) a) e

  pub known_first : {old new : Log} → Stopped old new head → Stopped old new (known_text inst family (tuple, a))
  known_first {old} {new} s = subst (λ (t : List ℕ). Stopped old new t) known_is (stops_first (range_text (value_names inst family.kind) a) s)

  pub known_whole : {T E : Type 0} {old mid : Log} → (result : Result T E) (new : Log) → Done old mid head → Wrote result mid new (range_text (value_names inst family.kind) a) → Wrote result old new (known_text inst family (tuple, a))
  known_whole {old = old} result new d r = subst (λ (t : List ℕ). Wrote result old new t) known_is (after result new (range_text (value_names inst family.kind) a) d r)

-- ---- the cells of one choice

module _ {W : ℕ} (inst : Instance) (family : Family) (own : List (Known W)) (whole : length own ≡ count_of (sizes_in inst family)) (k : ℕ) where
  abbrev known : List (List ℕ × Abs)
  known = zip (tuples (sizes_in inst family)) (map value_of own)

  pub cell_here : (cell : Known W) → k < length own → cell ≡ get_or own k cell
      → flat_map (known_text inst family) (drop k known) ≡ known_text inst family (slice_index_or (tuples (sizes_in inst family)) k [], value_of cell) ++ flat_map (known_text inst family) (drop (k + 1) known)
  cell_here cell h e =
      let long = length-map own value_of in
      walk_here (known_text inst family) (sizes_in inst family) (map value_of own) (long ∙ whole) k (value_of cell) (value_of cell) (omega (arith, long, h))
      (ap value_of e ∙ sym (get_or-map value_of own k cell (value_of cell) h))

  pub cell_end : length own ≤ k → flat_map (known_text inst family) (drop k known) ≡ []
  cell_end h = let long = length-map own value_of in walk_end (known_text inst family) (sizes_in inst family) (map value_of own) (long ∙ whole) k (omega (arith, long, h))

zip_append : {X Y : Type 0} (ts us : List X) (vs : List Y) → length ts ≤ length vs → zip (ts ++ us) vs ≡ zip ts (take (length ts) vs) ++ zip us (drop (length ts) vs)
zip_append [] us vs h = refl
zip_append (t ∷ ts) us [] h = absurd (omega arith)
zip_append (t ∷ ts) us (v ∷ vs) h = ap (λ ps. (t, v) ∷ ps) (zip_append ts us vs (omega arith))

module _ (schema : Schema) (inst : Instance) where
  abbrev w : World
  w = world_of schema inst

  -- the cells of the choices from one on
  abbrev pub cells_from : ℕ → List Cell
  cells_from x = flat_map (cells_of w) (enumerate_from x (drop x schema.choices))

  -- what is known of them
  abbrev pub known_from : ℕ → List Abs → List ℕ
  known_from x space = flat_map (known_cell_text schema inst) (zip (cells_from x) space)

  of_choice : (x : ℕ) (family : Family) (ts : List (List ℕ)) (space : List Abs) → family_at schema.choices x ≡ family
      → flat_map (known_cell_text schema inst) (zip (map (λ args. let c : Cell = record { choice = x; args = args; kind = family.kind } in c) ts) space) ≡ flat_map (known_text inst family) (zip ts space)
  of_choice x family [] space e = refl
  of_choice x family (t ∷ ts) [] e = refl
  of_choice x family (t ∷ ts) (a ∷ space) e =
      ap (λ (f : Family). known_text inst f (t, a) ++ flat_map (known_cell_text schema inst) (zip (map (λ args. let c : Cell = record { choice = x; args = args; kind = family.kind } in c) ts) space)) e
      ∙ ap (λ rest. known_text inst family (t, a) ++ rest) (of_choice x family ts space e)

  module _ (x : ℕ) (family : Family) (there : slice_get schema.choices x ≡ Some family) where
    abbrev count : ℕ
    count = count_of (sizes_in inst family)

    cells_here : cells_from x ≡ cells_of w (x, family) ++ cells_from (x + 1)
    cells_here = ap (λ families. flat_map (cells_of w) (enumerate_from x families)) (drop_at schema.choices x family there)

    pub known_here : (space : List Abs) (n : ℕ) → n ≡ count → n ≤ length space
        → known_from x space ≡ flat_map (known_text inst family) (zip (tuples (sizes_in inst family)) (take n space)) ++ known_from (x + 1) (drop n space)
    known_here space n same fits =
        let own = cells_of w (x, family) in
        let long : length own ≡ n = length-map (tuples (sizes_in inst family)) (λ args. let c : Cell = record { choice = x; args = args; kind = family.kind } in c) ∙ tuple_count (sizes_in inst family) ∙ sym same in
        ap (λ cs. flat_map (known_cell_text schema inst) (zip cs space)) cells_here
        ∙ ap (flat_map (known_cell_text schema inst)) (zip_append own (cells_from (x + 1)) space (omega (arith, long, fits)))
        ∙ flat_map-append (known_cell_text schema inst) (zip own (take (length own) space)) (zip (cells_from (x + 1)) (drop (length own) space))
        ∙ ap (λ k. flat_map (known_cell_text schema inst) (zip own (take k space)) ++ known_from (x + 1) (drop k space)) long
        ∙ ap (λ t. t ++ known_from (x + 1) (drop n space)) (of_choice x family (tuples (sizes_in inst family)) (take n space) (get_or_from_slice_get schema.choices x family no_family there))

    -- the same of the machine's cells
    pub own_here : {W : ℕ} (cells : List (Known W)) (n : ℕ) → n ≡ count → n ≤ length cells
        → known_from x (map value_of cells) ≡ flat_map (known_text inst family) (zip (tuples (sizes_in inst family)) (map value_of (take n cells))) ++ known_from (x + 1) (map value_of (drop n cells))
    own_here cells n same fits =
        let long = length-map cells value_of in
        known_here (map value_of cells) n same (omega (arith, long, fits))
        ∙ ap (λ own. flat_map (known_text inst family) (zip (tuples (sizes_in inst family)) own) ++ known_from (x + 1) (drop n (map value_of cells))) (take-map value_of n cells)
        ∙ ap (λ rest. flat_map (known_text inst family) (zip (tuples (sizes_in inst family)) (map value_of (take n cells))) ++ known_from (x + 1) rest) (drop-map value_of n cells)

    -- the cells of the choices from one on are its own and the others
    pub left_more : cell_count w (drop x schema.choices) ≡ count + cell_count w (drop (x + 1) schema.choices)
    left_more = ap (cell_count w) (drop_at schema.choices x family there) ∙ more_cells w family (drop (x + 1) schema.choices)

  pub known_end : (x : ℕ) (space : List Abs) → length schema.choices ≤ x → known_from x space ≡ []
  known_end x space h = ap (λ families. flat_map (known_cell_text schema inst) (zip (flat_map (cells_of w) (enumerate_from x families)) space)) (drop_all x schema.choices h)
