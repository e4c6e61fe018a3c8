-- What schedules print are lines.
use Rattle.std.proofs.Common.{refl, ℕ, ◌+◌, ℤ, List, [], ◌∷◌, length, inl, inr, false}
use Rattle.std.specs.Prelude.{codes, decimal, flat_map, slice_index_or}
use Rattle.std.specs.List.{range_with_len}
use Rattle.kts_code.specs.Printed.{Item, node, schedule, items_text}
use Rattle.kts_spec.specs.declared.declarations.Decl.{Decl}
use Rattle.kts_spec.specs.declared.declarations.Decl.TheVariants.{Index, Given, Choose, Manifest}
use Rattle.kts_spec.specs.declared.declarations.Family.{Family}
use Rattle.kts_spec.specs.declared.instance.Instance.{Instance}
use Rattle.kts_spec.specs.declared.schema.Schema.{Schema}
use Rattle.kts_spec.specs.Schemas.{family_at}
use Rattle.kts_spec.specs.Texts.{newline, space, member_name, index_of, entry_text, entries, holder_text, choice_lines, choice_line, manifests_text, manifest_line, declared_lines, schedule_text}
use Rattle.kts_spec.specs.Worlds.{world_of}
use Rattle.kts_top.specs.LastLines.{Line, Lines}
use Rattle.kts_top.proofs.LastLineLemmas.{line_after, line_then, lines_then, lines_each}

module _ (schema : Schema) (inst : Instance) where
  line_end : Line newline
  line_end = ([], refl)

  abbrev family : ℕ → Family
  family x = family_at schema.choices x

  choice_is : (values : List ℤ) (x : ℕ) → Lines (choice_line schema inst values x)
  choice_is values x =
      let cells = flat_map (entry_text inst (family x)) (entries (world_of schema inst) values x) in
      inr (line_after (family x).name _ (line_after cells newline line_end))

  manifest_is : (values : List ℤ) (x m : ℕ) → Lines (manifest_line schema inst values x m)
  manifest_is values x m =
      let holders = flat_map (holder_text inst (family x) m) (entries (world_of schema inst) values x) in
      let member = member_name inst (index_of (family x).kind) m in
      inr (line_after (codes "manifest ") _ (line_after (family x).name _ (line_after (space ∷ []) _ (line_after member _ (line_after holders newline line_end)))))

  declared : (values : List ℤ) (decl : Decl) → Lines (declared_lines schema inst values decl)
  declared values (Manifest x) = lines_each (manifest_line schema inst values x) (manifest_is values x) (range_with_len 0 (length (slice_index_or inst.members (index_of (family x).kind) [])))
  declared values (Index x) = inl refl
  declared values (Given x) = inl refl
  declared values (Choose x) = inl refl

  pub schedule_is : (k : ℕ) (values : List ℤ) → Line (schedule_text schema inst k values)
  schedule_is k values =
      let choices = lines_each (choice_line schema inst values) (choice_is values) (range_with_len 0 (length schema.choices)) in
      let manifests = lines_each (declared_lines schema inst values) (declared values) schema.decls in
      let rest = lines_then (choice_lines schema inst values) (manifests_text schema inst values) choices manifests in
      line_after (codes "schedule ") _ (line_after (decimal k) _ (line_then newline _ line_end rest))

  -- so is what a run prints, where nodes aren't traced
  pub items_lines : (n : ℕ) (items : List Item) → Lines (items_text false schema inst n items)
  items_lines n [] = inl refl
  items_lines n (node _ ∷ items) = items_lines n items
  items_lines n (schedule values ∷ items) = lines_then (schedule_text schema inst (n + 1) values) _ (inr (schedule_is (n + 1) values)) (items_lines (n + 1) items)
