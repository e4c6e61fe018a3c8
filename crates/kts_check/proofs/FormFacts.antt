-- What a form that was accepted is made of.
use Rattle.std.proofs.Common.{◌≡◌, refl, ◌∙◌, ap, subst, ℕ, ◌<◌, List, [], ◌∷◌, length, true, false, ◌&&◌, Option, None, Some, Ok, is_some, nat_lt, slice_get, arith}
use Rattle.std.specs.Prelude.{int_le}
use Rattle.std.specs.List.{list_all, list_any}
use Rattle.std.proofs.lemmas.Bool.{and_from}
use Rattle.std.proofs.lemmas.Bool.Decides.{nat_tests}
use Rattle.kts_base.specs.Reads.{each_from}
use Rattle.kts_spec.specs.Schemas.{is_end, is_type, assigns_members}
use Rattle.kts_spec.specs.declared.declarations.Family.{Family}
use Rattle.kts_spec.specs.declared.declarations.ValueType.{ValueType}
use Rattle.kts_spec.specs.declared.declarations.ValueType.TheVariants.{Int, Member}
use Rattle.kts_spec.specs.declared.tree.Formula.{Formula as Statement}
use Rattle.kts_syntax.specs.declared.expr.Expr.{Expr}
use Rattle.kts_syntax.specs.declared.form.Form.{Form}
use Rattle.kts_syntax.specs.declared.form.Form.TheVariants as form
use Rattle.kts_syntax.specs.declared.form.Shape.{Shape}
use Rattle.kts_syntax.specs.declared.form.Shape.TheVariants as shape
use Rattle.kts_syntax.specs.declared.word.Word.{Word}
use Rattle.kts_check.specs.Forms.{family, as_formula, formula_declaration, is_manifest_of, manifest_of, manifest, declaration_of, IsNew}
use Rattle.kts_check.specs.Declarations.{Declarations, Names, entry_of, as_index, index_of, indexes_of, new_name, type_of}
use Rattle.kts_check.specs.Sound.{IsThere}
use Rattle.kts_check.specs.Trees.{phrase_of}
use Rattle.kts_check.specs.declared.entry.Entry.{Entry}
use Rattle.kts_check.specs.declared.entry.Entry.TheVariants as entry
use Rattle.kts_check.specs.declared.declaration.Declaration.{Declaration}
use Rattle.kts_check.specs.declared.declaration.Declaration.TheVariants.{Index, Given, Choice, Formula, Manifest}
use Rattle.kts_check.specs.declared.phrase.Phrase.{Phrase}
use Rattle.kts_check.specs.declared.phrase.Phrase.TheVariants as phrase
use Rattle.kts_check.proofs.Inversions.{ok_is, both_ok, test_ok, taken_ok}

absent : (o : Option Entry) → is_some o ≡ false → o ≡ None
absent None e = refl
absent (Some x) e = absurd cc

-- a new name is that of its word, and isn't declared
pub record NewFacts (names : Names) (word : Word) (name : List ℕ) : Type 0 where
  pub same : word.name ≡ name
  pub fresh : entry_of names name ≡ None

pub new_facts : (names : Names) (word : Word) (name : List ℕ) → new_name names word ≡ Ok name → NewFacts names word name
unfolding new_name
new_facts names word name e =
    let free = taken_ok (is_some (entry_of names word.name)) (Ok word.name) _ name e in
    let same = ok_is word.name name free.1 in
    record { same = same; fresh = subst (λ (n : List ℕ). entry_of names n ≡ None) same (absent (entry_of names word.name) free.0) }

pub record FamilyFacts (names : Names) (word : Word) (args : List Word) (shape : Shape) (f : Family) : Type 0 where
  pub named : NewFacts names word f.name
  pub indexes : indexes_of names args ≡ Ok f.args
  pub type : type_of names shape ≡ Ok f.kind

pub family_facts : (names : Names) (word : Word) (args : List Word) (shape : Shape) (f : Family) → family names word args shape ≡ Ok f → FamilyFacts names word args shape f
unfolding family
family_facts names word args shape f e =
    let name = both_ok (new_name names word) _ f e in
    let is = both_ok (indexes_of names args) _ f name.2 in
    let t = both_ok (type_of names shape) _ f is.2 in
    subst (FamilyFacts names word args shape) (ok_is _ f t.2) (record { named = new_facts names word name.0 name.1; indexes = is.1; type = t.1 })

formula_of : (at : ℕ) (s : Phrase) (p : Statement) → as_formula at s ≡ Ok p → s ≡ phrase.Truth p
formula_of at (phrase.Value t k) p e = absurd cc
formula_of at (phrase.Truth q) p e = ap phrase.Truth (ok_is q p e)

pub record StatedFacts (d : Declarations) (word : Word) (expr : Expr) (m : Declaration) : Type 0 where
  pub name : List ℕ
  pub statement : Statement
  pub is : Formula name statement ≡ m
  pub named : NewFacts d.names word name
  pub says : phrase_of d name expr [] (Some 0) ≡ Ok (phrase.Truth statement)

pub stated_facts : (d : Declarations) (word : Word) (expr : Expr) (m : Declaration) → formula_declaration d word expr ≡ Ok m → StatedFacts d word expr m
unfolding formula_declaration
stated_facts d word expr m e =
    let name = both_ok (new_name d.names word) _ m e in
    let s = both_ok (phrase_of d name.0 expr [] (Some 0)) _ m name.2 in
    let p = both_ok (as_formula word.at s.0) _ m s.2 in
    record { name = name.0; statement = p.0; is = ok_is _ m p.2; named = new_facts d.names word name.0 name.1; says = s.1 ∙ ap Ok (formula_of word.at s.0 p.0 p.1) }

pub record ManifestFacts (d : Declarations) (m : Declaration) : Type 0 where
  pub choice : ℕ
  pub family : Family
  pub is : Manifest choice ≡ m
  pub found : slice_get d.choices choice ≡ Some family
  pub assigns : assigns_members family ≡ true
  pub first : list_any (is_manifest_of choice) d.decls ≡ false

manifest_of_facts : (d : Declarations) (at x : ℕ) (o : Option Family) (m : Declaration) → slice_get d.choices x ≡ o → manifest_of d at x o ≡ Ok m → ManifestFacts d m
manifest_of_facts d at x None m is e = absurd cc
manifest_of_facts d at x (Some f) m is e =
    let tested = test_ok (assigns_members f) _ _ m e in
    let free = taken_ok (list_any (is_manifest_of x) d.decls) (Ok (Manifest x)) _ m tested.1 in
    record { choice = x; family = f; is = ok_is (Manifest x) m free.1; found = is; assigns = tested.0; first = free.0 }

pub manifest_facts : (d : Declarations) (at : ℕ) (o : Option Entry) (m : Declaration) → manifest d at o ≡ Ok m → ManifestFacts d m
unfolding manifest
manifest_facts d at None m e = absurd cc
manifest_facts d at (Some (entry.Index i)) m e = absurd cc
manifest_facts d at (Some (entry.Given f)) m e = absurd cc
manifest_facts d at (Some entry.Formula) m e = absurd cc
manifest_facts d at (Some (entry.Choice x)) m e = manifest_of_facts d at x (slice_get d.choices x) m refl e

-- a name that a form declares is new
pub new_on : (d : Declarations) (f : Form) (m : Declaration) → declaration_of d f ≡ Ok m → IsNew d m
unfolding declaration_of
new_on d (form.Index word) m e =
    let name = both_ok (new_name d.names word) _ m e in subst (IsNew d) (ok_is (Index name.0) m name.2) (new_facts d.names word name.0 name.1).fresh
new_on d (form.Given word args shape) m e =
    let f = both_ok (family d.names word args shape) _ m e in subst (IsNew d) (ok_is (Given f.0) m f.2) (family_facts d.names word args shape f.0 f.1).named.fresh
new_on d (form.Choose word args shape) m e =
    let f = both_ok (family d.names word args shape) _ m e in subst (IsNew d) (ok_is (Choice f.0) m f.2) (family_facts d.names word args shape f.0 f.1).named.fresh
new_on d (form.Formula word expr) m e =
    let facts = stated_facts d word expr m e in subst (IsNew d) facts.is facts.named.fresh
new_on d (form.Manifest word) m e =
    let facts = manifest_facts d word.at (entry_of d.names word.name) m e in subst (IsNew d) facts.is tt

-- ---- types

module _ (d : Declarations) (there : (name : List ℕ) (e : Entry) → entry_of d.names name ≡ Some e → IsThere d e) where
  index_by : (name : List ℕ) (o : Option Entry) (at i : ℕ) → entry_of d.names name ≡ o → as_index o at ≡ Ok i → nat_lt i (length d.indexes) ≡ true
  index_by name None at i is e = absurd cc
  index_by name (Some (entry.Given f)) at i is e = absurd cc
  index_by name (Some (entry.Choice x)) at i is e = absurd cc
  index_by name (Some entry.Formula) at i is e = absurd cc
  index_by name (Some (entry.Index j)) at i is e =
      let low : j < length d.indexes = there name (entry.Index j) is in subst (λ (k : ℕ). nat_lt k (length d.indexes) ≡ true) (ok_is j i e) (grind (arith, nat_tests))

  pub index_there : (word : Word) (i : ℕ) → index_of d.names word ≡ Ok i → nat_lt i (length d.indexes) ≡ true
  unfolding index_of
  index_there word i e = index_by word.name (entry_of d.names word.name) word.at i refl e

  pub args_there : (words : List Word) (is : List ℕ) → indexes_of d.names words ≡ Ok is → (length is ≡ length words) × (list_all (λ i. nat_lt i (length d.indexes)) is ≡ true)
  unfolding each_from
  args_there [] is e = subst (λ (l : List ℕ). (length l ≡ 0) × (list_all (λ i. nat_lt i (length d.indexes)) l ≡ true)) (ok_is [] is e) (refl, refl)
  args_there (word ∷ words) is e =
      let one = both_ok (index_of d.names word) _ is e in
      let others = both_ok (indexes_of d.names words) _ is one.2 in
      let more = args_there words others.0 others.1 in
      subst (λ (l : List ℕ). (length l ≡ length (word ∷ words)) × (list_all (λ i. nat_lt i (length d.indexes)) l ≡ true)) (ok_is (one.0 ∷ others.0) is others.2)
      ((let same = more.0 in omega arith), and_from (nat_lt one.0 (length d.indexes)) (list_all (λ i. nat_lt i (length d.indexes)) others.0) (index_there word one.0 one.1) more.1)

  pub type_there : (s : Shape) (t : ValueType) → type_of d.names s ≡ Ok t → is_type (length d.indexes) t ≡ true
  unfolding type_of
  type_there (shape.Int low high at) t e =
      let tested = test_ok (is_end low && is_end high && int_le low high) (Ok (Int low high)) _ t e in
      subst (λ (t : ValueType). is_type (length d.indexes) t ≡ true) (ok_is (Int low high) t tested.1) tested.0
  type_there (shape.Named word) t e =
      let i = both_ok (index_of d.names word) _ t e in
      subst (λ (t : ValueType). is_type (length d.indexes) t ≡ true) (ok_is (Member i.0) t i.2) (index_there word i.0 i.1)
