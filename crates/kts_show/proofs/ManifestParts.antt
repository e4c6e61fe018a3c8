-- The lines of manifests, one after another.
use Rattle.std.proofs.Common.{◌≡◌, refl, sym, ◌∙◌, ap, subst, ℕ, ◌+◌, ◌-◌, ◌<◌, ◌≤◌, arith, List, [], ◌∷◌, ◌++◌, length, take, drop, get_or, true, false, nat_eq, nat_lt, ℤ, Some, slice_get, slice_index_or, codes, append_assoc, Result}
use Rattle.std.specs.Prelude.{flat_map}
use Rattle.std.specs.List.{range_with_len}
use Rattle.std.proofs.lemmas.Bool.{and_parts}
use Rattle.std.proofs.lemmas.List.{get_or_read, length-take-le}
use Rattle.std.proofs.lemmas.Option.{slice_get-get_or}
use Rattle.kts_base.specs.Writes.{Log, Done, Stopped, Wrote}
use Rattle.kts_base.proofs.Orders.{nat_lt_yes}
use Rattle.kts_base.proofs.Pieces.{stops_first, stops_later, after}
use Rattle.kts_spec.specs.declared.declarations.Family.{Family}
use Rattle.kts_spec.specs.declared.declarations.Decl.{Decl}
use Rattle.kts_spec.specs.declared.declarations.Decl.TheVariants.{Manifest}
use Rattle.kts_spec.specs.declared.declarations.ValueType.{ValueType}
use Rattle.kts_spec.specs.declared.declarations.ValueType.TheVariants.{Int, Member}
use Rattle.kts_spec.specs.declared.instance.Instance.{Instance}
use Rattle.kts_spec.specs.declared.schema.Schema.{Schema}
use Rattle.kts_spec.specs.Facts.{is_manifest}
use Rattle.kts_spec.specs.Places.{count_of, cell_count, offset}
use Rattle.kts_spec.specs.Schemas.{family_at, has_members, assigns_members}
use Rattle.kts_spec.specs.Texts.{newline, space, index_of, member_name, manifest_line, declared_lines}
use Rattle.kts_spec.specs.Worlds.{world_of}
use Rattle.kts_spec.proofs.Conditions.{schema_facts}
use Rattle.kts_spec.proofs.TermRanges.{all_get}
use Rattle.kts_show.specs.Keys.{sizes_in}
use Rattle.kts_abs.specs.NodeTexts.{value_names}
use Rattle.kts_show.specs.OwnTexts.{own_holders_text, own_manifest_line}
use Rattle.kts_show.proofs.Sections.{family_is, section_fits, manifest_is}
use Rattle.kts_show.proofs.Walks.{flat_here, flat_end, range_here, range_end}

-- a choice with a manifest gives members of an index
pub has_index : (family : Family) → assigns_members family ≡ true → has_members family.kind ≡ true
has_index family h = (and_parts (nat_eq (length family.args) 1) (has_members family.kind) h).1

pub names_are : (inst : Instance) (kind : ValueType) → has_members kind ≡ true → value_names inst kind ≡ slice_index_or inst.members (index_of kind) []
names_are inst (Int lo hi) h = absurd (let no : false ≡ true = h in cc)
names_are inst (Member i) h = refl

pub name_is : (inst : Instance) (kind : ValueType) (names : List (List ℕ)) (m : ℕ) (name : List ℕ) → has_members kind ≡ true → names ≡ value_names inst kind → m < length names → name ≡ get_or names m name → name ≡ member_name inst (index_of kind) m
name_is inst kind names m name h e l r =
    get_or_read names m name l r [] ∙ ap (λ (ns : List (List ℕ)). slice_index_or ns m []) (e ∙ names_are inst kind h)

-- the manifest that a declaration asks for is of a choice that is there
pub manifest_declared : (choices : List Family) (x : ℕ) → is_manifest choices (Manifest x) ≡ true → x < length choices
manifest_declared choices x h = nat_lt_yes x (length choices) (and_parts (nat_lt x (length choices)) (assigns_members (family_at choices x)) h).0

pub manifest_assigns : (choices : List Family) (x : ℕ) → is_manifest choices (Manifest x) ≡ true → assigns_members (family_at choices x) ≡ true
manifest_assigns choices x h = (and_parts (nat_lt x (length choices)) (assigns_members (family_at choices x)) h).1

-- the declaration at a place
module _ (schema : Schema) (items : List Decl) (same : items ≡ schema.decls) (k : ℕ) (default : Decl) (h : k < length items) where
  decl_there : slice_get schema.decls k ≡ Some (get_or items k default)
  decl_there = subst (λ decls. slice_get decls k ≡ Some (get_or items k default)) same (slice_get-get_or items k default h)

  pub decl_fits : is_manifest schema.choices (get_or items k default) ≡ true
  decl_fits = all_get (is_manifest schema.choices) schema.decls k (get_or items k default) (schema_facts schema).manifests decl_there

pub decls_here : (schema : Schema) (inst : Instance) (values : List ℤ) (items : List Decl) → items ≡ schema.decls → (k : ℕ) (default : Decl) → k < length items
    → flat_map (declared_lines schema inst values) (drop k schema.decls) ≡ declared_lines schema inst values (get_or items k default) ++ flat_map (declared_lines schema inst values) (drop (k + 1) schema.decls)
decls_here schema inst values items same k default h =
    flat_here (declared_lines schema inst values) schema.decls k (get_or items k default) (decl_there schema items same k default h)

pub decls_end : (schema : Schema) (inst : Instance) (values : List ℤ) (items : List Decl) → items ≡ schema.decls → (k : ℕ) → length items ≤ k → flat_map (declared_lines schema inst values) (drop k schema.decls) ≡ []
decls_end schema inst values items same k h = flat_end (declared_lines schema inst values) schema.decls k (let l = ap length same in omega (arith, l, h))

module _ (schema : Schema) (inst : Instance) (values : List ℤ) (x : ℕ) where
  -- how many members the index of the choice has
  abbrev pub member_count : ℕ
  member_count = length (slice_index_or inst.members (index_of (family_at schema.choices x).kind) [])

  -- the lines from a member on
  abbrev pub lines_from : ℕ → List ℕ
  lines_from m = flat_map (manifest_line schema inst values x) (range_with_len m (member_count - m))

  pub manifest_here : (family : Family) (own : List ℤ) (m : ℕ) → slice_get schema.choices x ≡ Some family
      → own ≡ take (count_of (sizes_in inst family)) (drop (offset (world_of schema inst) x) values) → m < member_count → lines_from m ≡ own_manifest_line inst family own m ++ lines_from (m + 1)
  manifest_here family own m there e h =
      ap (flat_map (manifest_line schema inst values x)) (range_here m member_count h)
      ∙ ap (λ t. t ++ lines_from (m + 1))
      (manifest_is schema inst x family there values (drop (offset (world_of schema inst) x) values) (count_of (sizes_in inst family)) refl refl m
      ∙ ap (λ vs. own_manifest_line inst family vs m) (sym e))

  pub manifest_end : (m : ℕ) → member_count ≤ m → lines_from m ≡ []
  manifest_end m h = ap (flat_map (manifest_line schema inst values x)) (range_end m member_count h)

-- ---- a manifest that is declared

module _ (schema : Schema) (inst : Instance) (values : List ℤ) (x : ℕ) (family : Family) (there : slice_get schema.choices x ≡ Some family) (assigns : assigns_members (family_at schema.choices x) ≡ true) where
  pub member_index : has_members family.kind ≡ true
  member_index = subst (λ (f : Family). has_members f.kind ≡ true) (family_is schema inst x family there) (has_index (family_at schema.choices x) assigns)

  module _ (own : List ℤ) (is : own ≡ take (count_of (sizes_in inst (family_at schema.choices x))) (drop (offset (world_of schema inst) x) values)) where
    pub own_is : own ≡ take (count_of (sizes_in inst family)) (drop (offset (world_of schema inst) x) values)
    own_is = is ∙ ap (λ (f : Family). take (count_of (sizes_in inst f)) (drop (offset (world_of schema inst) x) values)) (family_is schema inst x family there)

    pub own_long : length values ≡ cell_count (world_of schema inst) schema.choices → length own ≡ count_of (sizes_in inst family)
    own_long whole =
        let rest = drop (offset (world_of schema inst) x) values in
        let fits = section_fits schema inst x family there values rest (count_of (sizes_in inst family)) refl refl whole in
        ap length own_is ∙ length-take-le (count_of (sizes_in inst family)) rest fits

  module _ (names : List (List ℕ)) (kind : ValueType) (same : kind ≡ family.kind) (e : names ≡ value_names inst kind) where
    pub value_names_are : names ≡ value_names inst family.kind
    value_names_are = e ∙ ap (value_names inst) same

    pub names_long : length names ≡ member_count schema inst values x
    names_long =
        ap length (value_names_are ∙ names_are inst family.kind member_index)
        ∙ ap (λ (f : Family). length (slice_index_or inst.members (index_of f.kind) [])) (sym (family_is schema inst x family there))

-- ---- the writes of a line

module _ (inst : Instance) (family : Family) (own : List ℤ) (m : ℕ) where
  -- what comes before the holders
  abbrev pub line_head : List ℕ
  line_head = codes "manifest " ++ (family.name ++ (space ∷ (member_name inst (index_of family.kind) m ++ [])))

  line_parts : line_head ++ (own_holders_text inst family own m ++ newline) ≡ own_manifest_line inst family own m
  line_parts =
      ap (λ (t : List ℕ). codes "manifest " ++ t)
      (append_assoc family.name (space ∷ (member_name inst (index_of family.kind) m ++ [])) (own_holders_text inst family own m ++ newline)
      ∙ ap (λ (t : List ℕ). family.name ++ (space ∷ t)) (append_assoc (member_name inst (index_of family.kind) m) [] (own_holders_text inst family own m ++ newline)))

  pub line_first : {a b : Log} → Stopped a b line_head → Stopped a b (own_manifest_line inst family own m)
  line_first {a} {b} s = subst (λ (t : List ℕ). Stopped a b t) line_parts (stops_first (own_holders_text inst family own m ++ newline) s)

  pub line_second : {a b c : Log} → Done a b line_head → Stopped b c (own_holders_text inst family own m) → Stopped a c (own_manifest_line inst family own m)
  line_second {a} {c = c} d s = subst (λ (t : List ℕ). Stopped a c t) line_parts (stops_later d (stops_first newline s))

  pub line_whole : {T E : Type 0} {a b d : Log} → (result : Result T E) (c : Log) → Done a b line_head → Done b d (own_holders_text inst family own m) → Wrote result d c newline → Wrote result a c (own_manifest_line inst family own m)
  line_whole {a = a} result c p q r = subst (λ (t : List ℕ). Wrote result a c t) line_parts (after result c (own_holders_text inst family own m ++ newline) p (after result c newline q r))
