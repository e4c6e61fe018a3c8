-- The values of the cells of one choice: where they stand among all values, and the lines on them.
use Rattle.std.proofs.Common.{◌≡◌, refl, sym, ◌∙◌, ap, subst, ℕ, zero, suc, ◌+◌, ◌-◌, ◌<◌, ◌≤◌, add-one, arith, List, [], ◌∷◌, ◌++◌, length, take, drop, get_or, true, Some, ℤ, slice_get, length-drop, decimal, codes, append_assoc, Result}
use Rattle.std.specs.Prelude.{flat_map, zip}
use Rattle.std.specs.List.{range_with_len}
use Rattle.std.proofs.lemmas.List.{drop-drop}
use Rattle.std.proofs.lemmas.Option.{get_or_from_slice_get}
use Rattle.kts_base.specs.Limits.{most_cells}
use Rattle.kts_base.specs.Writes.{Log, Done, Stopped, Wrote}
use Rattle.kts_base.proofs.Pieces.{stops_first, stops_later, after}
use Rattle.kts_spec.specs.declared.declarations.Family.{Family}
use Rattle.kts_spec.specs.declared.instance.Instance.{Instance}
use Rattle.kts_spec.specs.declared.schema.Schema.{Schema}
use Rattle.kts_spec.specs.Data.{is_valid}
use Rattle.kts_spec.specs.Places.{count_of, cell_count, offset}
use Rattle.kts_spec.specs.Schedules.{tuples}
use Rattle.kts_spec.specs.Schemas.{is_family, family_at, no_family}
use Rattle.kts_spec.specs.Texts.{newline, space, member_name, index_of, entry_text, holder_text, choice_line, choice_lines, manifests_text, manifest_line, schedule_text}
use Rattle.kts_spec.specs.Worlds.{World, world_of, sizes_of}
use Rattle.kts_spec.proofs.CellPlaces.{more_cells}
use Rattle.kts_spec.proofs.Conditions.{schema_facts, instance_facts}
use Rattle.kts_spec.proofs.TermRanges.{all_get}
use Rattle.kts_spec.proofs.TuplePlaces.{tuple_count}
use Rattle.kts_show.specs.Keys.{IsOver, sizes_in}
use Rattle.kts_show.specs.OwnTexts.{own_entries, own_line, own_manifest_line}
use Rattle.kts_show.proofs.Walks.{item_there, zip_take, range_here, range_end}

-- ---- how many cells come before those of a choice

module _ (w : World) where
  cells_more : (families : List Family) (x : ℕ) (family : Family) → slice_get families x ≡ Some family → cell_count w (take (suc x) families) ≡ cell_count w (take x families) + count_of (sizes_of w family)
  cells_more [] x family e = cc
  cells_more (f ∷ families) zero family e =
      let same : f ≡ family = cc in
      let one = more_cells w f [] in
      let none : cell_count w [] ≡ 0 = refl in
      rw (← same) (omega (arith, one, none))
  cells_more (f ∷ families) (suc x) family e =
      let later = more_cells w f (take (suc x) families) in
      let here = more_cells w f (take x families) in
      let rest = cells_more families x family e in
      omega (arith, later, here, rest)

  pub cells_next : (families : List Family) (x : ℕ) (family : Family) → slice_get families x ≡ Some family → cell_count w (take (x + 1) families) ≡ cell_count w (take x families) + count_of (sizes_of w family)
  cells_next families x family e = rw add-one (cells_more families x family e)

  pub cells_within : (families : List Family) (x : ℕ) → cell_count w (take x families) ≤ cell_count w families
  cells_within families zero = let none : cell_count w [] ≡ 0 = refl in omega (arith, none)
  cells_within [] (suc x) = let none : cell_count w [] ≡ 0 = refl in omega (arith, none)
  cells_within (f ∷ families) (suc x) =
      let later = more_cells w f (take x families) in
      let all = more_cells w f families in
      let rest = cells_within families x in
      omega (arith, later, all, rest)

-- ---- a choice that is declared

module _ (schema : Schema) (inst : Instance) (x : ℕ) (family : Family) (there : slice_get schema.choices x ≡ Some family) where
  abbrev w : World
  w = world_of schema inst

  abbrev count : ℕ
  count = count_of (sizes_in inst family)

  pub choice_over : is_valid schema inst ≡ true → IsOver inst family
  choice_over valid =
      let kept = instance_facts schema inst valid in
      record {
        declared = subst (λ n. is_family n family ≡ true) (sym kept.indexes) (all_get (is_family (length schema.indexes)) schema.choices x family (schema_facts schema).choices there);
        members = kept.members;
      }

  pub few_cells : is_valid schema inst ≡ true → count ≤ most_cells
  few_cells valid =
      let next = cells_next w schema.choices x family there in
      let all = cells_within w schema.choices (x + 1) in
      let few = (instance_facts schema inst valid).few_cells in
      omega (arith, next, all, few)

  pub family_is : family_at schema.choices x ≡ family
  family_is = get_or_from_slice_get schema.choices x family no_family there

  module _ {X : Type 0} (values rest : List X) (n : ℕ) (same : n ≡ count) (here : rest ≡ drop (offset w x) values) where
    -- its values are there
    pub section_fits : length values ≡ cell_count w schema.choices → n ≤ length rest
    section_fits whole =
        let next = cells_next w schema.choices x family there in
        let all = cells_within w schema.choices (x + 1) in
        let left = ap length here ∙ length-drop (offset w x) values in
        omega (arith, next, all, left, whole, same)

    -- those of the next choice stand after them
    pub next_section : drop n rest ≡ drop (offset w (x + 1)) values
    next_section =
        let next = cells_next w schema.choices x family there in
        ap (drop n) here ∙ drop-drop n (offset w x) values ∙ ap (λ k. drop k values) (ap (λ k. offset w x + k) same ∙ sym next)

  module _ (values rest : List ℤ) (n : ℕ) (same : n ≡ count) (here : rest ≡ drop (offset w x) values) where
    own_are : own_entries inst family (drop (offset w x) values) ≡ own_entries inst family (take n rest)
    own_are =
        let ts = tuples (sizes_in inst family) in
        zip_take ts (drop (offset w x) values)
        ∙ ap (λ k. zip ts (take k (drop (offset w x) values))) (tuple_count (sizes_in inst family) ∙ sym same)
        ∙ ap (λ vs. zip ts (take n vs)) (sym here)

    -- the line of a choice is that on its own values
    pub line_is : choice_line schema inst values x ≡ own_line inst family (take n rest)
    line_is =
        ap (λ (f : Family). own_line inst f (drop (offset w x) values)) family_is
        ∙ ap (λ es. family.name ++ (flat_map (entry_text inst family) es ++ newline)) own_are

    -- the line of a member in a manifest as well
    pub manifest_is : (m : ℕ) → manifest_line schema inst values x m ≡ own_manifest_line inst family (take n rest) m
    manifest_is m =
        ap (λ (f : Family). own_manifest_line inst f (drop (offset w x) values) m) family_is
        ∙ ap (λ es. codes "manifest " ++ (family.name ++ (space ∷ (member_name inst (index_of family.kind) m ++ (flat_map (holder_text inst family m) es ++ newline))))) own_are

    pub lines_here : x < length schema.choices → flat_map (choice_line schema inst values) (range_with_len x (length schema.choices - x)) ≡ own_line inst family (take n rest) ++ flat_map (choice_line schema inst values) (range_with_len (x + 1) (length schema.choices - (x + 1)))
    lines_here h =
        ap (flat_map (choice_line schema inst values)) (range_here x (length schema.choices) h)
        ∙ ap (λ t. t ++ flat_map (choice_line schema inst values) (range_with_len (x + 1) (length schema.choices - (x + 1)))) line_is

-- the item of a loop over the choices
pub choice_there : (schema : Schema) (items : List Family) → items ≡ schema.choices → (x : ℕ) (item : Family) → x < length items → item ≡ get_or items x item → slice_get schema.choices x ≡ Some item
choice_there schema items same x item h e = subst (λ families. slice_get families x ≡ Some item) same (item_there items x item h e)

pub lines_end : (schema : Schema) (inst : Instance) (values : List ℤ) (x : ℕ) → length schema.choices ≤ x → flat_map (choice_line schema inst values) (range_with_len x (length schema.choices - x)) ≡ []
lines_end schema inst values x h = ap (flat_map (choice_line schema inst values)) (range_end x (length schema.choices) h)

-- ---- the text of a schedule: the line of its number, and the other lines

module _ (schema : Schema) (inst : Instance) (n : ℕ) (values : List ℤ) where
  abbrev others : List ℕ
  others = choice_lines schema inst values ++ manifests_text schema inst values

  -- the line of its number
  abbrev pub number_line : List ℕ
  number_line = codes "schedule " ++ (decimal n ++ newline)

  text_parts : number_line ++ others ≡ schedule_text schema inst n values
  text_parts = ap (λ t. codes "schedule " ++ t) (append_assoc (decimal n) newline others)

  pub text_first : {a b : Log} → Stopped a b number_line → Stopped a b (schedule_text schema inst n values)
  text_first {a} {b} s = subst (λ (t : List ℕ). Stopped a b t) text_parts (stops_first others s)

  pub text_second : {a b c : Log} → Done a b number_line → Stopped b c (choice_lines schema inst values) → Stopped a c (schedule_text schema inst n values)
  text_second {a} {c = c} d s = subst (λ (t : List ℕ). Stopped a c t) text_parts (stops_later d (stops_first (manifests_text schema inst values) s))

  pub text_whole : {T E : Type 0} {a b d : Log} → (result : Result T E) (c : Log) → Done a b number_line → Done b d (choice_lines schema inst values) → Wrote result d c (manifests_text schema inst values)
      → Wrote result a c (schedule_text schema inst n values)
  text_whole {a = a} result c p q r = subst (λ (t : List ℕ). Wrote result a c t) text_parts (after result c others p (after result c (manifests_text schema inst values) q r))
