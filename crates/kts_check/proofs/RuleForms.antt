-- The checker gives of forms what the typing rules say they mean.
use Rattle.std.proofs.Common.{◌≡◌, ◌≢◌, refl, sym, ◌∙◌, ap, subst, ℕ, ℤ, int_le, List, [], ◌∷◌, ◌++◌, length, Bool, true, false, ◌&&◌, Option, None, Some, Ok, nat_eq, nat_le, slice_get, arith}
use Rattle.std.specs.Prelude.{pos, neg_ℤ, ◌↔◌}
use Rattle.std.specs.List.{list_any, AllByRecursion}
use Rattle.std.proofs.lemmas.Bool.{and_parts, and_from, or_parts}
use Rattle.std.proofs.lemmas.Bool.Decides.{nat_tests}
use Rattle.kts_base.specs.Reads.{each_from}
use Rattle.kts_spec.specs.Schemas.{is_end, has_members, assigns_members}
use Rattle.kts_spec.specs.declared.declarations.Decl.{Decl}
use Rattle.kts_spec.specs.declared.declarations.Decl.TheVariants as decl
use Rattle.kts_spec.specs.declared.declarations.Family.{Family}
use Rattle.kts_spec.specs.declared.declarations.ValueType.{ValueType}
use Rattle.kts_spec.specs.declared.declarations.ValueType.TheVariants as type
use Rattle.kts_base.specs.Limits.{most_type_end}
use Rattle.kts_syntax.specs.Fitting.{is_named, expr_fits, form_fits, forms_fit, ast_fits}
use Rattle.kts_syntax.specs.Sizes.{trees}
use Rattle.kts_syntax.specs.Tops.{Ast, has_room}
use Rattle.kts_syntax.specs.Words.{is_word}
use Rattle.kts_syntax.specs.declared.form.Form.{Form}
use Rattle.kts_syntax.specs.declared.form.Form.TheVariants as form
use Rattle.kts_syntax.specs.declared.form.Shape.{Shape}
use Rattle.kts_syntax.specs.declared.form.Shape.TheVariants as shape
use Rattle.kts_syntax.specs.declared.layout.Role.TheVariants as role
use Rattle.kts_syntax.specs.declared.word.Word.{Word}
use Rattle.kts_check.specs.Forms.{family, formula_declaration, is_manifest_of, manifest_of, manifest, declaration_of, with_declaration, declarations_of, Parts, parts_with, parts_of}
use Rattle.kts_check.specs.Declarations.{Declarations, no_declarations, entry_of, index_of, indexes_of, new_name, type_of}
use Rattle.kts_check.specs.Rules.{Declares, IsUndeclared, IsFormula}
use Rattle.kts_check.specs.Typed.{IsEnd, AreIndexes, no_index, IsType, IsFamily, AssignsMembers, Means, AllMean, no_form, one_form, Typed}
use Rattle.kts_check.specs.declared.entry.Entry.{Entry}
use Rattle.kts_check.specs.declared.entry.Entry.TheVariants as entry
use Rattle.kts_check.specs.declared.declaration.Declaration.{Declaration}
use Rattle.kts_check.specs.declared.declaration.Declaration.TheVariants as means
use Rattle.kts_check.specs.declared.phrase.Phrase.TheVariants as phrase
use Rattle.kts_check.proofs.Inversions.{ok, ok_is, both_ok, test_ok, taken_ok}
use Rattle.kts_check.proofs.FormFacts.{NewFacts, new_facts, family_facts, stated_facts}
use Rattle.kts_check.proofs.RuleBinders.{index_if, index_then}
use Rattle.kts_check.proofs.RuleFound.{found_if}
use Rattle.kts_check.proofs.RuleKept.{formula_says}
use Rattle.kts_base.proofs.Orders.{int_le_yes, yes_int_le}

pub end_if : (n : ℤ) → is_end n ≡ true → IsEnd n
end_if n e = let both = and_parts (int_le (neg_ℤ (pos most_type_end)) n) (int_le n (pos most_type_end)) e in record { low = int_le_yes (neg_ℤ (pos most_type_end)) n both.0; high = int_le_yes n (pos most_type_end) both.1 }

pub end_then : (n : ℤ) → IsEnd n → is_end n ≡ true
end_then n h = and_from (int_le (neg_ℤ (pos most_type_end)) n) (int_le n (pos most_type_end)) (yes_int_le (neg_ℤ (pos most_type_end)) n h.low) (yes_int_le n (pos most_type_end) h.high)

-- ---- manifests

one_argument : (args : List ℕ) → nat_eq (length args) 1 ≡ true → (i : ℕ) × (args ≡ i ∷ [])
one_argument [] e = absurd cc
one_argument (i ∷ []) e = (i, refl)
one_argument (i ∷ j ∷ is) e = absurd (grind (arith, nat_tests))

member_type : (t : ValueType) → has_members t ≡ true → (i : ℕ) × (t ≡ type.Member i)
member_type (type.Int low high) e = absurd cc
member_type (type.Member i) e = (i, refl)

assigns_if : (f : Family) → assigns_members f ≡ true → AssignsMembers f
assigns_if f e =
    let both = and_parts (nat_eq (length f.args) 1) (has_members f.kind) e in
    let a = one_argument f.args both.0 in
    let t = member_type f.kind both.1 in
    record { argument = a.0; value = t.0; arguments = a.1; type = t.1 }

pub assigns_then : (f : Family) → AssignsMembers f → assigns_members f ≡ true
assigns_then f h = rw (h.arguments, h.type) refl

pub other_if : (x : ℕ) (other : Decl) → is_manifest_of x other ≡ false → other ≢ decl.Manifest x
other_if x (decl.Index i) e is = absurd cc
other_if x (decl.Given f) e is = absurd cc
other_if x (decl.Choose y) e is = absurd cc
other_if x (decl.Manifest y) e is = let same : y ≡ x = cc in absurd (grind (arith, nat_tests))

other_then : (x : ℕ) (other : Decl) → other ≢ decl.Manifest x → is_manifest_of x other ≡ false
other_then x (decl.Index i) h = refl
other_then x (decl.Given f) h = refl
other_then x (decl.Choose y) h = refl
other_then x (decl.Manifest y) h = by (nat_eq x y) refl
  where
    by : (b : Bool) → nat_eq x y ≡ b → b ≡ false
    by true e = let same : y ≡ x = grind (arith, nat_tests) in absurd (h (ap decl.Manifest same))
    by false e = refl

pub others_if : (x : ℕ) (ds : List Decl) → list_any (is_manifest_of x) ds ≡ false → AllByRecursion (λ other. other ≢ decl.Manifest x) ds
others_if x [] e = tt
others_if x (y ∷ ds) e = let both = or_parts (is_manifest_of x y) (list_any (is_manifest_of x) ds) e in (other_if x y both.0, others_if x ds both.1)

pub others_then : (x : ℕ) (ds : List Decl) → AllByRecursion (λ other. other ≢ decl.Manifest x) ds → list_any (is_manifest_of x) ds ≡ false
others_then x [] h = refl
others_then x (y ∷ ds) h = rw (other_then x y h.0, others_then x ds h.1) refl

module _ (d : Declarations) where
  -- ---- names, arguments and types

  pub new_then : (word : Word) → IsUndeclared d word.name → new_name d.names word ≡ ok word.name
  unfolding new_name
  new_then word h = rw h refl

  new_if : (word : Word) (name : List ℕ) → NewFacts d.names word name → IsUndeclared d word.name
  new_if word name facts = subst (λ (n : List ℕ). entry_of d.names n ≡ None) (sym facts.same) facts.fresh

  indexes_if : (words : List Word) (is : List ℕ) → indexes_of d.names words ≡ Ok is → AreIndexes d words is
  unfolding each_from
  indexes_if [] is e = subst (AreIndexes d []) (ok_is [] is e) no_index
  indexes_if (word ∷ words) is e =
      let one = both_ok (index_of d.names word) _ is e in
      let others = both_ok (indexes_of d.names words) _ is one.2 in
      subst (AreIndexes d (word ∷ words)) (ok_is (one.0 ∷ others.0) is others.2) (AreIndexes.index (index_if d word one.0 one.1) (indexes_if words others.0 others.1))

  pub indexes_then : {words : List Word} {is : List ℕ} → AreIndexes d words is → indexes_of d.names words ≡ ok is
  unfolding each_from
  indexes_then no_index = refl
  indexes_then (AreIndexes.index {word = word} {i = i} h more) = rw (index_then d word i h, indexes_then more) refl

  type_if : (s : Shape) (t : ValueType) → type_of d.names s ≡ Ok t → IsType d s t
  unfolding type_of
  type_if (shape.Int low high at) t e =
      let tested = test_ok (is_end low && is_end high && int_le low high) (Ok (type.Int low high)) _ t e in
      let all = and_parts (is_end low && is_end high) (int_le low high) tested.0 in
      let ends = and_parts (is_end low) (is_end high) all.0 in
      subst (IsType d (shape.Int low high at)) (ok_is (type.Int low high) t tested.1) (IsType.numbers (end_if low ends.0) (end_if high ends.1) (int_le_yes low high all.1))
  type_if (shape.Named word) t e =
      let i = both_ok (index_of d.names word) _ t e in
      subst (IsType d (shape.Named word)) (ok_is (type.Member i.0) t i.2) (IsType.members (index_if d word i.0 i.1))

  pub type_then : {s : Shape} {t : ValueType} → IsType d s t → type_of d.names s ≡ ok t
  unfolding type_of
  type_then (IsType.numbers {low = low} {high = high} h j l) =
      let all = and_from (is_end low && is_end high) (int_le low high) (and_from (is_end low) (is_end high) (end_then low h) (end_then high j)) (yes_int_le low high l) in rw all refl
  type_then (IsType.members {word = word} {i = i} h) = rw (index_then d word i h) refl

  family_if : (word : Word) (args : List Word) (written : Shape) (f : Family) → family d.names word args written ≡ Ok f → IsFamily d word args written f
  family_if word args written f e =
      let facts = family_facts d.names word args written f e in
      record {
        name = sym facts.named.same;
        new = new_if word f.name facts.named;
        arguments = indexes_if args f.args facts.indexes;
        type = type_if written f.kind facts.type;
      }

  pub family_then : (word : Word) (args : List Word) (written : Shape) (f : Family) → IsFamily d word args written f → family d.names word args written ≡ ok f
  unfolding family
  family_then word args written f h =
      rw (new_then word h.new, indexes_then h.arguments, type_then h.type) (ap (λ (n : List ℕ). ok (record { name = n; args = f.args; kind = f.kind })) (sym h.name))

  -- ---- forms

  manifest_of_if : (word : Word) (x : ℕ) (o : Option Family) (m : Declaration) → Declares d word.name (entry.Choice x) → slice_get d.choices x ≡ o → manifest_of d word.at x o ≡ Ok m → Means d (form.Manifest word) m
  manifest_of_if word x None m named found e = absurd cc
  manifest_of_if word x (Some f) m named found e =
      let tested = test_ok (assigns_members f) _ _ m e in
      let free = taken_ok (list_any (is_manifest_of x) d.decls) (Ok (means.Manifest x)) _ m tested.1 in
      subst (Means d (form.Manifest word)) (ok_is (means.Manifest x) m free.1) (Means.manifest named found (assigns_if f tested.0) (others_if x d.decls free.0))

  manifest_if : (word : Word) (o : Option Entry) (m : Declaration) → entry_of d.names word.name ≡ o → manifest d word.at o ≡ Ok m → Means d (form.Manifest word) m
  unfolding manifest
  manifest_if word None m named e = absurd cc
  manifest_if word (Some (entry.Index i)) m named e = absurd cc
  manifest_if word (Some (entry.Given f)) m named e = absurd cc
  manifest_if word (Some entry.Formula) m named e = absurd cc
  manifest_if word (Some (entry.Choice x)) m named e = manifest_of_if word x (slice_get d.choices x) m named refl e

  form_if : (f : Form) (m : Declaration) → form_fits f ≡ true → declaration_of d f ≡ Ok m → Means d f m
  unfolding declaration_of form_fits
  form_if (form.Index word) m fit e =
      let name = both_ok (new_name d.names word) _ m e in
      let facts = new_facts d.names word name.0 name.1 in
      subst (Means d (form.Index word)) (ap means.Index facts.same ∙ ok_is (means.Index name.0) m name.2) (Means.index (new_if word name.0 facts))
  form_if (form.Given word args written) m fit e =
      let f = both_ok (family d.names word args written) _ m e in
      subst (Means d (form.Given word args written)) (ok_is (means.Given f.0) m f.2) (Means.given (family_if word args written f.0 f.1))
  form_if (form.Choose word args written) m fit e =
      let f = both_ok (family d.names word args written) _ m e in
      subst (Means d (form.Choose word args written)) (ok_is (means.Choice f.0) m f.2) (Means.choice (family_if word args written f.0 f.1))
  form_if (form.Formula word expr) m fit e =
      let facts = stated_facts d word expr m e in
      let front = and_parts (is_named word && expr_fits expr role.Formula) (nat_le (trees expr) 1000) fit in
      let fitting = and_parts (is_named word) (expr_fits expr role.Formula) front.0 in
      let follows = found_if d facts.name expr role.Formula [] (Some 0) (phrase.Truth facts.statement) fitting.1 facts.says in
      subst (Means d (form.Formula word expr)) (ap (λ (n : List ℕ). means.Formula n facts.statement) facts.named.same ∙ facts.is)
      (Means.formula (new_if word facts.name facts.named) (subst (λ (n : List ℕ). IsFormula d n [] (Some 0) expr facts.statement) (sym facts.named.same) follows))
  form_if (form.Manifest word) m fit e = manifest_if word (entry_of d.names word.name) m refl e

  pub form_then : {f : Form} {m : Declaration} → Means d f m → declaration_of d f ≡ ok m
  unfolding declaration_of formula_declaration manifest
  form_then (Means.index {word = word} h) = rw (new_then word h) refl
  form_then (Means.given {word = word} {args = args} {written = written} {family = f} h) = rw (family_then word args written f h) refl
  form_then (Means.choice {word = word} {args = args} {written = written} {family = f} h) = rw (family_then word args written f h) refl
  form_then (Means.formula {word = word} {expr = expr} h is) = rw (new_then word h, formula_says d word.name is) refl
  form_then (Means.manifest {word = word} {x = x} {family = f} named found assigns others) = rw (named, found, assigns_then f assigns, others_then x d.decls others) refl

-- ---- files

forms_if : (d : Declarations) (before fs : List Form) (end : Declarations) → forms_fit before fs ≡ true → declarations_of d fs ≡ Ok end → AllMean d fs end
unfolding declarations_of forms_fit
forms_if d before [] end fit e = subst (AllMean d []) (ok_is d end e) no_form
forms_if d before (f ∷ fs) end fit e =
    let fitting = and_parts (form_fits f && has_room before f) (forms_fit (before ++ f ∷ []) fs) fit in
    let one = both_ok (declaration_of d f) _ end e in
    one_form (form_if d f one.0 (and_parts (form_fits f) (has_room before f) fitting.0).0 one.1) (forms_if (with_declaration d one.0) (before ++ f ∷ []) fs end fitting.1 one.2)

pub forms_then : {d : Declarations} {fs : List Form} {end : Declarations} → AllMean d fs end → declarations_of d fs ≡ ok end
unfolding declarations_of
forms_then no_form = refl
forms_then (one_form {d = d} h more) = rw (form_then d h) (forms_then more)

typed_if : (ast : Ast) (parts : Parts) → ast_fits ast ≡ true → parts_of ast ≡ Ok parts → Typed ast parts
unfolding parts_of ast_fits
typed_if ast parts fit e =
    let all = both_ok (declarations_of no_declarations ast.forms) _ parts e in
    record {
      end = all.0;
      forms = forms_if no_declarations [] ast.forms all.0 (and_parts (is_word ast.name) (forms_fit [] ast.forms) fit).1 all.1;
      says = sym (ok_is (parts_with ast.name all.0) parts all.2);
    }

pub typed_then : (ast : Ast) (parts : Parts) → Typed ast parts → parts_of ast ≡ Ok parts
unfolding parts_of
typed_then ast parts t = rw (forms_then t.forms) (ap ok (sym t.says))

-- a file that may be written says a specification exactly where the rules say so
pub typing_holds : (ast : Ast) (parts : Parts) → ast_fits ast ≡ true → (parts_of ast ≡ Ok parts) ↔ Typed ast parts
typing_holds ast parts fit = (typed_if ast parts fit, typed_then ast parts)
