-- The checker gives of forms the first fault that the rules of faults give.
use Rattle.std.proofs.Common.{zero, suc, ◌<◌, ◌||◌, ◌≡◌, ◌≢◌, refl, sym, ◌∙◌, ap, subst, ℕ, ◌≤◌, ℤ, ◌≤ℤ◌, int_le, List, [], ◌∷◌, ◌++◌, length, Bool, true, false, ◌&&◌, Option, None, Some, is_some, if◌then◌else◌, Ok, Err, nat_eq, nat_le, slice_get, ◌⊎◌, inl, inr, arith}
use Rattle.std.specs.Prelude.{◌↔◌, Contains, slice_index_or}
use Rattle.std.specs.List.{list_any}
use Rattle.std.proofs.lemmas.Bool.{and_parts, and_from}
use Rattle.std.proofs.lemmas.Bool.Decides.{nat_tests}
use Rattle.kts_base.specs.Reads.{and_then, each_from}
use Rattle.kts_spec.specs.Names.{same_name}
use Rattle.kts_spec.specs.Schemas.{is_end, has_members, assigns_members}
use Rattle.kts_spec.specs.declared.declarations.Decl.{Decl}
use Rattle.kts_spec.specs.declared.declarations.Decl.TheVariants as decl
use Rattle.kts_spec.specs.declared.declarations.Family.{Family}
use Rattle.kts_spec.specs.declared.declarations.ValueType.{ValueType}
use Rattle.kts_spec.specs.declared.declarations.ValueType.TheVariants as type
use Rattle.kts_syntax.specs.Fitting.{is_named, expr_fits, form_fits, forms_fit, ast_fits}
use Rattle.kts_syntax.specs.Sizes.{trees}
use Rattle.kts_syntax.specs.Tops.{Ast, has_room}
use Rattle.kts_syntax.specs.Words.{is_word}
use Rattle.kts_syntax.specs.declared.expr.Expr.{Expr}
use Rattle.kts_syntax.specs.declared.form.Form.{Form}
use Rattle.kts_syntax.specs.declared.form.Form.TheVariants as form
use Rattle.kts_syntax.specs.declared.form.Shape.{Shape}
use Rattle.kts_syntax.specs.declared.form.Shape.TheVariants as shape
use Rattle.kts_syntax.specs.declared.layout.Role.TheVariants as role
use Rattle.kts_syntax.specs.declared.word.Word.{Word}
use Rattle.kts_check.specs.Faults.{Judged, fault, fail}
use Rattle.kts_check.specs.Faulty.{IndexesFault, TypeFault, FamilyFault, ManifestFault, DeclarationFault, FirstFault}
use Rattle.kts_check.specs.Forms.{family, as_formula, formula_declaration, is_manifest_of, manifest_of, manifest, declaration_of, with_declaration, declarations_of, Parts, parts_of}
use Rattle.kts_check.specs.Declarations.{Declarations, no_declarations, entry_of, index_of, indexes_of, new_name, type_of}
use Rattle.kts_check.specs.Rules.{Declares, IsUndeclared}
use Rattle.kts_check.specs.Sound.{IsThere}
use Rattle.kts_check.specs.Trees.{phrase_of}
use Rattle.kts_check.specs.Typed.{IsEnd, AreIndexes, no_index, IsType, IsFamily, AssignsMembers, Means, AllMean, no_form, one_form, Typed}
use Rattle.kts_check.specs.declared.entry.Entry.{Entry}
use Rattle.kts_check.specs.declared.entry.Entry.TheVariants as entry
use Rattle.kts_check.specs.Faults.{SpecFault}
use Rattle.kts_check.specs.declared.fault.SpecKind.TheVariants.{NameTaken, WrongKind, BadRange}
use Rattle.kts_check.specs.declared.declaration.Declaration.{Declaration}
use Rattle.kts_check.specs.declared.declaration.Declaration.TheVariants as means
use Rattle.kts_check.specs.declared.phrase.Phrase.{Phrase}
use Rattle.kts_check.specs.declared.phrase.Phrase.TheVariants as phrase
use Rattle.kts_check.proofs.FaultBinders.{err, err_is, index_fails}
use Rattle.kts_check.proofs.FaultFound.{beyond, fault_if}
use Rattle.kts_check.proofs.FaultKept.{expr_fails}
use Rattle.kts_check.proofs.FaultNames.{either, IndexIs, good, bad, index_is}
use Rattle.kts_check.proofs.NameLemmas.{look_some}
use Rattle.kts_base.proofs.Orders.{nat_le_yes}
use Rattle.kts_check.proofs.RuleBinders.{index_then}
use Rattle.kts_check.proofs.RuleFound.{found_if}
use Rattle.kts_check.proofs.RuleForms.{typing_holds, end_if, end_then, assigns_then, others_if, new_then, indexes_then, form_then, typed_then}
use Rattle.kts_base.proofs.Orders.{int_le_yes, yes_int_le}
use Rattle.kts_check.proofs.SoundSteps.{one_longer}

-- ---- tests

-- a test of what doesn't hold fails
no_then : {P : Type 0} (b : Bool) → (b ≡ true → P) → (P → ⊥) → b ≡ false
no_then true holds fails = absurd (fails (holds refl))
no_then false holds fails = refl

-- two ends are those of a type
record AreEnds (low high : ℤ) : Type 0 where
  first : IsEnd low
  last : IsEnd high
  ordered : low ≤ℤ high

ends_if : (low high : ℤ) → (is_end low && is_end high && int_le low high) ≡ true → AreEnds low high
ends_if low high e =
    let all = and_parts (is_end low && is_end high) (int_le low high) e in
    let ends = and_parts (is_end low) (is_end high) all.0 in
    record { first = end_if low ends.0; last = end_if high ends.1; ordered = int_le_yes low high all.1 }

ends_then : (low high : ℤ) → AreEnds low high → (is_end low && is_end high && int_le low high) ≡ true
ends_then low high h = and_from (is_end low && is_end high) (int_le low high) (and_from (is_end low) (is_end high) (end_then low h.first) (end_then high h.last)) (yes_int_le low high h.ordered)

assigns_if : (args : List ℕ) (t : ValueType) → (nat_eq (length args) 1 && has_members t) ≡ true → (i j : ℕ) × (args ≡ i ∷ []) × (t ≡ type.Member j)
assigns_if [] t e = absurd cc
assigns_if (i ∷ []) (type.Int low high) e = absurd cc
assigns_if (i ∷ []) (type.Member j) e = (i, j, refl, refl)
assigns_if (i ∷ k ∷ is) t e = let both = and_parts (nat_eq (length (i ∷ k ∷ is)) 1) (has_members t) e in absurd (let h = both.0 in grind (arith, nat_tests))

assigns_of : (f : Family) → assigns_members f ≡ true → AssignsMembers f
assigns_of f e = let a = assigns_if f.args f.kind e in record { argument = a.0; value = a.1; arguments = a.2; type = a.3 }

other_then : (x : ℕ) (other : Decl) → other ≢ decl.Manifest x → is_manifest_of x other ≡ false
other_then x (decl.Index i) h = refl
other_then x (decl.Given f) h = refl
other_then x (decl.Choose y) h = refl
other_then x (decl.Manifest y) h = no_then (nat_eq x y) (λ e. let same : y ≡ x = grind (arith, nat_tests) in ap decl.Manifest same) h

-- there is a manifest of a choice, by the test and by its place
manifest_is_it : (x : ℕ) (y : Decl) → is_manifest_of x y ≡ true → y ≡ decl.Manifest x
manifest_is_it x (decl.Index i) e = absurd cc
manifest_is_it x (decl.Given f) e = absurd cc
manifest_is_it x (decl.Choose z) e = absurd cc
manifest_is_it x (decl.Manifest z) e = let same : z ≡ x = grind (arith, nat_tests) in ap decl.Manifest same

manifest_itself : (x : ℕ) (y : Decl) → y ≡ decl.Manifest x → is_manifest_of x y ≡ true
manifest_itself x y e = let same : nat_eq x x ≡ true = grind (arith, nat_tests) in ap (is_manifest_of x) e ∙ same

contains_if : (x : ℕ) (ds : List Decl) → list_any (is_manifest_of x) ds ≡ true → Contains ds (decl.Manifest x)
contains_if x [] e = absurd cc
contains_if x (y ∷ ds) e = by (is_manifest_of x y) refl e (contains_if x ds)
  where
    by : (b : Bool) → is_manifest_of x y ≡ b → (b || list_any (is_manifest_of x) ds) ≡ true → (list_any (is_manifest_of x) ds ≡ true → Contains ds (decl.Manifest x)) → Contains (y ∷ ds) (decl.Manifest x)
    by true is e more = (0, omega arith, manifest_is_it x y is)
    by false is e more = let there = more e in let low = there.1 in (suc there.0, omega arith, there.2)

contains_then : (x : ℕ) (ds : List Decl) (k : ℕ) → k < length ds → slice_index_or ds k (decl.Manifest x) ≡ decl.Manifest x → list_any (is_manifest_of x) ds ≡ true
contains_then x [] k low e = absurd (omega arith)
contains_then x (y ∷ ds) zero low e = rw (manifest_itself x y e) refl
contains_then x (y ∷ ds) (suc k) low e = by (is_manifest_of x y) (contains_then x ds k (omega arith) e)
  where
    by : (b : Bool) → list_any (is_manifest_of x) ds ≡ true → (b || list_any (is_manifest_of x) ds) ≡ true
    by true more = refl
    by false more = more

-- ---- what names stand for

-- what each name stands for is there
abbrev AllThere : Declarations → Type 0
AllThere d = (name : List ℕ) (e : Entry) → entry_of d.names name ≡ Some e → IsThere d e

there_none : AllThere no_declarations
there_none name e is = absurd cc

-- one name more
there_more : (d end : Declarations) (name : List ℕ) (en : Entry) → AllThere d → end.names ≡ d.names ++ (name, en) ∷ [] → ((e : Entry) → IsThere d e → IsThere end e) → IsThere end en → AllThere end
there_more d end name en there names keeps here other e is =
    elim (look_some (same_name other) d.names name en e (sym (ap (λ t. entry_of t other) names) ∙ is)) [
      | inl before ↦ keeps e (there other e before)
      | inr same ↦ subst (IsThere end) same here
    ]

there_on : (d : Declarations) (m : Declaration) → AllThere d → AllThere (with_declaration d m)
unfolding with_declaration
there_on d (means.Index name) there = there_more d (with_declaration d (means.Index name)) name (entry.Index (length d.indexes)) there refl by (let n = one_longer d.indexes name in omega arith)
  where
    by : (e : Entry) → IsThere d e → IsThere (with_declaration d (means.Index name)) e
    by (entry.Index i) h = let n = one_longer d.indexes name in omega arith
    by (entry.Given g) h = h
    by (entry.Choice x) h = h
    by entry.Formula h = tt
there_on d (means.Given f) there = there_more d (with_declaration d (means.Given f)) f.name (entry.Given (length d.givens)) there refl by (let n = one_longer d.givens f in omega arith)
  where
    by : (e : Entry) → IsThere d e → IsThere (with_declaration d (means.Given f)) e
    by (entry.Index i) h = h
    by (entry.Given g) h = let n = one_longer d.givens f in omega arith
    by (entry.Choice x) h = h
    by entry.Formula h = tt
there_on d (means.Choice f) there = there_more d (with_declaration d (means.Choice f)) f.name (entry.Choice (length d.choices)) there refl by (let n = one_longer d.choices f in omega arith)
  where
    by : (e : Entry) → IsThere d e → IsThere (with_declaration d (means.Choice f)) e
    by (entry.Index i) h = h
    by (entry.Given g) h = h
    by (entry.Choice x) h = let n = one_longer d.choices f in omega arith
    by entry.Formula h = tt
there_on d (means.Formula name p) there = there_more d (with_declaration d (means.Formula name p)) name entry.Formula there refl by tt
  where
    by : (e : Entry) → IsThere d e → IsThere (with_declaration d (means.Formula name p)) e
    by (entry.Index i) h = h
    by (entry.Given g) h = h
    by (entry.Choice x) h = h
    by entry.Formula h = tt
there_on d (means.Manifest x) there = λ name e is. by e (there name e is)
  where
    by : (e : Entry) → IsThere d e → IsThere (with_declaration d (means.Manifest x)) e
    by (entry.Index i) h = h
    by (entry.Given g) h = h
    by (entry.Choice y) h = h
    by entry.Formula h = tt

module _ (d : Declarations) where
  -- ---- forms, as they were judged

  -- a name that a form declares
  data NewIs (word : Word) : Judged (List ℕ) → Type 0 where
    fresh : IsUndeclared d word.name → NewIs word (Ok word.name)
    reference_of : {e : Entry} → Declares d word.name e → NewIs word (Err (fault NameTaken word.at))

  new_is : (word : Word) → NewIs word (new_name d.names word)
  unfolding new_name
  new_is word = by (entry_of d.names word.name) refl
    where
      by : (o : Option Entry) → entry_of d.names word.name ≡ o → NewIs word (if is_some o then fail NameTaken word.at else Ok word.name)
      by None e = fresh e
      by (Some x) e = reference_of e

  -- names of indexes
  data IndexesAre (words : List Word) : Judged (List ℕ) → Type 0 where
    indexes : {is : List ℕ} → AreIndexes d words is → IndexesAre words (Ok is)
    wrong_index : {g : SpecFault} → IndexesFault d words g → IndexesAre words (Err g)

  index_more : (word : Word) (words : List Word) (r : Judged ℕ) (q : Judged (List ℕ)) → IndexIs d word r → IndexesAre words q → IndexesAre (word ∷ words) (and_then r (λ i. and_then q (λ is. Ok (i ∷ is))))
  index_more word words _ q (bad h) more = wrong_index (IndexesFault.first h)
  index_more word words _ _ (good h) (indexes more) = indexes (AreIndexes.index h more)
  index_more word words _ _ (good h) (wrong_index more) = wrong_index (IndexesFault.later h more)

  indexes_are : (words : List Word) → IndexesAre words (indexes_of d.names words)
  unfolding each_from
  indexes_are [] = indexes no_index
  indexes_are (word ∷ words) = index_more word words (index_of d.names word) (indexes_of d.names words) (index_is d word) (indexes_are words)

  -- a type
  data TypeIs (s : Shape) : Judged ValueType → Type 0 where
    a_type : {t : ValueType} → IsType d s t → TypeIs s (Ok t)
    wrong_type : {g : SpecFault} → TypeFault d s g → TypeIs s (Err g)

  type_is : (s : Shape) → TypeIs s (type_of d.names s)
  unfolding type_of
  type_is (shape.Int low high at) = by (is_end low && is_end high && int_le low high) refl
    where
      by : (b : Bool) → (is_end low && is_end high && int_le low high) ≡ b → TypeIs (shape.Int low high at) (if b then Ok (type.Int low high) else fail BadRange at)
      by true e = let ends = ends_if low high e in a_type (IsType.numbers ends.first ends.last ends.ordered)
      by false e = wrong_type (TypeFault.range (λ h j l. let yes = ends_then low high (record { first = h; last = j; ordered = l }) in cc))
  type_is (shape.Named word) = by (index_of d.names word) (index_is d word)
    where
      by : (r : Judged ℕ) → IndexIs d word r → TypeIs (shape.Named word) (and_then r (λ i. Ok (type.Member i)))
      by _ (good h) = a_type (IsType.members h)
      by _ (bad h) = wrong_type (TypeFault.index h)

  -- a given or a choice
  data FamilyIs (word : Word) (args : List Word) (s : Shape) : Judged Family → Type 0 where
    a_family : {f : Family} → IsFamily d word args s f → FamilyIs word args s (Ok f)
    wrong_family : {g : SpecFault} → FamilyFault d word args s g → FamilyIs word args s (Err g)

  family_is : (word : Word) (args : List Word) (s : Shape) → FamilyIs word args s (family d.names word args s)
  unfolding family
  family_is word args s = by (new_name d.names word) (indexes_of d.names args) (type_of d.names s) (new_is word) (indexes_are args) (type_is s)
    where
      by : (r : Judged (List ℕ)) (q : Judged (List ℕ)) (t : Judged ValueType) → NewIs word r → IndexesAre args q → TypeIs s t
          → FamilyIs word args s (and_then r (λ name. and_then q (λ is. and_then t (λ t. Ok (record { name = name; args = is; kind = t })))))
      by _ q t (reference_of h) a b = wrong_family (FamilyFault.name h)
      by _ _ t (fresh h) (wrong_index j) b = wrong_family (FamilyFault.argument h j)
      by _ _ _ (fresh h) (indexes j) (wrong_type l) = wrong_family (FamilyFault.type h j l)
      by _ _ _ (fresh h) (indexes j) (a_type l) = a_family (record { name = refl; new = h; arguments = j; type = l })

  -- a form
  data FormIs (f : Form) : Judged Declaration → Type 0 where
    a_meaning : {m : Declaration} → Means d f m → FormIs f (Ok m)
    wrong_form : {g : SpecFault} → DeclarationFault d f g → FormIs f (Err g)

  manifest_by : (word : Word) (x : ℕ) (f : Family) → Declares d word.name (entry.Choice x) → slice_get d.choices x ≡ Some f → FormIs (form.Manifest word) (manifest_of d word.at x (Some f))
  manifest_by word x f named found = by (assigns_members f) (list_any (is_manifest_of x) d.decls) refl refl
    where
      by : (b c : Bool) → assigns_members f ≡ b → list_any (is_manifest_of x) d.decls ≡ c → FormIs (form.Manifest word) (if b then (if c then fail NameTaken word.at else Ok (means.Manifest x)) else fail WrongKind word.at)
      by false c p q = wrong_form (DeclarationFault.manifest (ManifestFault.other_choice named found (λ h. let yes = assigns_then f h in cc)))
      by true true p q = wrong_form (DeclarationFault.manifest (ManifestFault.again named found (assigns_of f p) (contains_if x d.decls q)))
      by true false p q = a_meaning (Means.manifest named found (assigns_of f p) (others_if x d.decls q))

  manifest_is : AllThere d → (word : Word) (o : Option Entry) → entry_of d.names word.name ≡ o → FormIs (form.Manifest word) (manifest d word.at o)
  unfolding manifest
  manifest_is there word None e = wrong_form (DeclarationFault.manifest (ManifestFault.unknown e))
  manifest_is there word (Some (entry.Index i)) e = wrong_form (DeclarationFault.manifest (ManifestFault.no_choice e (λ x same. cc)))
  manifest_is there word (Some (entry.Given g)) e = wrong_form (DeclarationFault.manifest (ManifestFault.no_choice e (λ x same. cc)))
  manifest_is there word (Some entry.Formula) e = wrong_form (DeclarationFault.manifest (ManifestFault.no_choice e (λ x same. cc)))
  manifest_is there word (Some (entry.Choice x)) e = by (slice_get d.choices x) refl
    where
      by : (o : Option Family) → slice_get d.choices x ≡ o → FormIs (form.Manifest word) (manifest_of d word.at x o)
      by None found = let low = there word.name (entry.Choice x) e in absurd (beyond d.choices x low found)
      by (Some f) found = manifest_by word x f e found

  formula_is : AllThere d → (word : Word) (expr : Expr) → expr_fits expr role.Formula ≡ true → trees expr ≤ 1000 → FormIs (form.Formula word expr) (formula_declaration d word expr)
  unfolding formula_declaration
  formula_is there word expr fit low = by (new_name d.names word) (new_is word)
    where
      says : IsUndeclared d word.name → (r : Judged Phrase) → phrase_of d word.name expr [] (Some 0) ≡ r → FormIs (form.Formula word expr) (and_then r (λ s. and_then (as_formula word.at s) (λ p. Ok (means.Formula word.name p))))
      says h (Ok (phrase.Truth p)) e = a_meaning (Means.formula h (found_if d word.name expr role.Formula [] (Some 0) (phrase.Truth p) fit e))
      says h (Ok (phrase.Value t k)) e = absurd (found_if d word.name expr role.Formula [] (Some 0) (phrase.Value t k) fit e)
      says h (Err g) e = wrong_form (DeclarationFault.formula h (fault_if d there word.name expr role.Formula [] (Some 0) g fit low e))

      by : (r : Judged (List ℕ)) → NewIs word r → FormIs (form.Formula word expr) (and_then r (λ name. and_then (phrase_of d name expr [] (Some 0)) (λ s. and_then (as_formula word.at s) (λ p. Ok (means.Formula name p)))))
      by _ (reference_of h) = wrong_form (DeclarationFault.name h)
      by _ (fresh h) = says h (phrase_of d word.name expr [] (Some 0)) refl

  form_is : AllThere d → (f : Form) → form_fits f ≡ true → FormIs f (declaration_of d f)
  unfolding declaration_of form_fits
  form_is there (form.Index word) fit = by (new_name d.names word) (new_is word)
    where
      by : (r : Judged (List ℕ)) → NewIs word r → FormIs (form.Index word) (and_then r (λ name. Ok (means.Index name)))
      by _ (reference_of h) = wrong_form (DeclarationFault.index h)
      by _ (fresh h) = a_meaning (Means.index h)
  form_is there (form.Given word args s) fit = by (family d.names word args s) (family_is word args s)
    where
      by : (r : Judged Family) → FamilyIs word args s r → FormIs (form.Given word args s) (and_then r (λ f. Ok (means.Given f)))
      by _ (a_family h) = a_meaning (Means.given h)
      by _ (wrong_family h) = wrong_form (DeclarationFault.given h)
  form_is there (form.Choose word args s) fit = by (family d.names word args s) (family_is word args s)
    where
      by : (r : Judged Family) → FamilyIs word args s r → FormIs (form.Choose word args s) (and_then r (λ f. Ok (means.Choice f)))
      by _ (a_family h) = a_meaning (Means.choice h)
      by _ (wrong_family h) = wrong_form (DeclarationFault.choice h)
  form_is there (form.Formula word expr) fit =
      let all = and_parts (is_named word && expr_fits expr role.Formula) (nat_le (trees expr) 1000) fit in
      let front = and_parts (is_named word) (expr_fits expr role.Formula) all.0 in
      formula_is there word expr front.1 (nat_le_yes (trees expr) 1000 all.1)
  form_is there (form.Manifest word) fit = manifest_is there word (entry_of d.names word.name) refl

  -- ---- forms, as the rules say

  new_fails : (word : Word) (e : Entry) → Declares d word.name e → new_name d.names word ≡ fail NameTaken word.at
  unfolding new_name
  new_fails word e h = rw h refl

  indexes_fail : {words : List Word} {g : SpecFault} → IndexesFault d words g → indexes_of d.names words ≡ err g
  unfolding each_from
  indexes_fail (IndexesFault.first h) = rw (index_fails d h) refl
  indexes_fail (IndexesFault.later {word = word} {i = i} h more) = rw (index_then d word i h, indexes_fail more) refl

  type_fails : {s : Shape} {g : SpecFault} → TypeFault d s g → type_of d.names s ≡ err g
  unfolding type_of
  type_fails (TypeFault.range {low = low} {high = high} wrong) =
      let no = no_then (is_end low && is_end high && int_le low high) (ends_if low high) (λ ends. wrong ends.first ends.last ends.ordered) in rw no refl
  type_fails (TypeFault.index h) = rw (index_fails d h) refl

  family_fails : {word : Word} {args : List Word} {s : Shape} {g : SpecFault} → FamilyFault d word args s g → family d.names word args s ≡ err g
  unfolding family
  family_fails (FamilyFault.name {word = word} {e = e} h) = rw (new_fails word e h) refl
  family_fails (FamilyFault.argument {word = word} h j) = rw (new_then d word h, indexes_fail j) refl
  family_fails (FamilyFault.type {word = word} h j l) = rw (new_then d word h, indexes_then d j, type_fails l) refl

  other_kind : (at : ℕ) (e : Entry) → ((x : ℕ) → e ≢ entry.Choice x) → manifest d at (Some e) ≡ fail WrongKind at
  unfolding manifest
  other_kind at (entry.Index i) n = refl
  other_kind at (entry.Given g) n = refl
  other_kind at (entry.Choice x) n = absurd (n x refl)
  other_kind at entry.Formula n = refl

  manifest_fails : {word : Word} {g : SpecFault} → ManifestFault d word g → manifest d word.at (entry_of d.names word.name) ≡ err g
  unfolding manifest
  manifest_fails (ManifestFault.unknown h) = rw h refl
  manifest_fails (ManifestFault.no_choice {word = word} {e = e} h n) = rw h (other_kind word.at e n)
  manifest_fails (ManifestFault.other_choice {family = f} h found n) = let no = no_then (assigns_members f) (assigns_of f) n in rw (h, found, no) refl
  manifest_fails (ManifestFault.again {x = x} {family = f} h found assigns there) =
      rw (h, found, assigns_then f assigns, contains_then x d.decls there.0 there.1 there.2) refl

  form_fails : {f : Form} {g : SpecFault} → DeclarationFault d f g → declaration_of d f ≡ err g
  unfolding declaration_of formula_declaration
  form_fails (DeclarationFault.index {word = word} {e = e} h) = rw (new_fails word e h) refl
  form_fails (DeclarationFault.given h) = rw (family_fails h) refl
  form_fails (DeclarationFault.choice h) = rw (family_fails h) refl
  form_fails (DeclarationFault.name {word = word} {e = e} h) = rw (new_fails word e h) refl
  form_fails (DeclarationFault.formula {word = word} h j) = rw (new_then d word h, expr_fails d word.name j) refl
  form_fails (DeclarationFault.manifest h) = manifest_fails h

-- ---- files

-- the first form at fault among forms, after what is declared
record FirstAmong (d : Declarations) (fs : List Form) (g : SpecFault) : Type 0 where
  before : List Form
  one : Form
  later : List Form
  end : Declarations
  forms : fs ≡ before ++ one ∷ later
  mean : AllMean d before end
  first : DeclarationFault end one g

forms_found : (d : Declarations) (before fs : List Form) (g : SpecFault) → AllThere d → forms_fit before fs ≡ true → declarations_of d fs ≡ Err g → FirstAmong d fs g
unfolding declarations_of forms_fit
forms_found d before [] g there fit e = absurd cc
forms_found d before (f ∷ fs) g there fit e =
    let fitting = and_parts (form_fits f && has_room before f) (forms_fit (before ++ f ∷ []) fs) fit in
    by (declaration_of d f) (form_is d there f (and_parts (form_fits f) (has_room before f) fitting.0).0) (λ m more. forms_found (with_declaration d m) (before ++ f ∷ []) fs g (there_on d m there) fitting.1 more) e
  where
    by : (r : Judged Declaration) → FormIs d f r → ((m : Declaration) → declarations_of (with_declaration d m) fs ≡ Err g → FirstAmong (with_declaration d m) fs g) → and_then r (λ m. declarations_of (with_declaration d m) fs) ≡ Err g → FirstAmong d (f ∷ fs) g
    by _ (wrong_form {g = h} w) rest e =
        record { before = []; one = f; later = fs; end = d; forms = refl; mean = no_form; first = subst (DeclarationFault d f) (err_is {A = Declarations} h g e) w }
    by _ (a_meaning {m = m} h) rest e =
        let r = rest m e in
        record { before = f ∷ r.before; one = r.one; later = r.later; end = r.end; forms = ap (λ (l : List Form). f ∷ l) r.forms; mean = one_form h r.mean; first = r.first }

forms_fail : {d : Declarations} {before : List Form} {end : Declarations} → AllMean d before end → (f : Form) (later : List Form) (g : SpecFault) → DeclarationFault end f g → declarations_of d (before ++ f ∷ later) ≡ err g
unfolding declarations_of
forms_fail (no_form {d = d}) f later g h = rw (form_fails d h) refl
forms_fail (one_form {d = d} {form = x} j more) f later g h = rw (form_then d j) (forms_fail more f later g h)

fault_found : (ast : Ast) (g : SpecFault) → ast_fits ast ≡ true → parts_of ast ≡ Err g → FirstFault ast g
unfolding parts_of ast_fits
fault_found ast g fit e =
    elim (either (declarations_of no_declarations ast.forms) _ g e) [
      | inl failed ↦
          let r = forms_found no_declarations [] ast.forms g there_none (and_parts (is_word ast.name) (forms_fit [] ast.forms) fit).1 failed in
          record { before = r.before; form = r.one; after = r.later; declared = r.end; forms = r.forms; mean = r.mean; first = r.first }
      | inr all ↦ absurd (let h = all.2 in cc)
    ]

fault_kept : (ast : Ast) (g : SpecFault) → FirstFault ast g → parts_of ast ≡ Err g
unfolding parts_of
fault_kept ast g h =
    let failed : declarations_of no_declarations ast.forms ≡ err g = rw h.forms (forms_fail h.mean h.form h.after g h.first) in rw failed refl

-- a file that may be written is refused with a fault exactly where the rules of faults give it
pub fault_holds : (ast : Ast) (g : SpecFault) → ast_fits ast ≡ true → (parts_of ast ≡ Err g) ↔ FirstFault ast g
fault_holds ast g fit = (fault_found ast g fit, fault_kept ast g)

-- such a file is well typed, or has a first fault
pub one_holds : (ast : Ast) → ast_fits ast ≡ true → ((parts : Parts) × Typed ast parts) ⊎ ((g : SpecFault) × FirstFault ast g)
one_holds ast fit = by (parts_of ast) refl
  where
    by : (r : Judged Parts) → parts_of ast ≡ r → ((parts : Parts) × Typed ast parts) ⊎ ((g : SpecFault) × FirstFault ast g)
    by (Ok parts) e = inl (parts, (typing_holds ast parts fit).0 e)
    by (Err g) e = inr (g, fault_found ast g fit e)

-- a file that has a first fault has no other one, and isn't well typed
pub only_one : (ast : Ast) (parts : Parts) (g h : SpecFault) → FirstFault ast g → (FirstFault ast h → h ≡ g) × (Typed ast parts → ⊥)
only_one ast parts g h first = (λ other. let a = fault_kept ast g first in let b = fault_kept ast h other in cc, λ typed. let a = fault_kept ast g first in let b = typed_then ast parts typed in cc)
