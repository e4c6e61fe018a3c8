-- Declarations: each is of an index or a given that is there, and no index that is read has too many members.
use Rattle.std.proofs.Common.{◌≡◌, refl, sym, subst, ℕ, zero, suc, ◌<◌, ◌≤◌, List, [], ◌∷◌, ◌++◌, length, fold, get_or, arith, true, nat_eq, Ok, ◌^◌}
use Rattle.std.specs.Prelude.{ℤ, nat_le, nat_lt}
use Rattle.std.specs.List.{list_all}
use Rattle.std.proofs.lemmas.Bool.{and_parts, and_from}
use Rattle.std.proofs.lemmas.Bool.Decides.{nat_tests}
use Rattle.serde_json.specs.Data.{Data}
use Rattle.kts_base.specs.Limits.{most_members}
use Rattle.kts_base.specs.Reads.{and_then}
use Rattle.kts_base.proofs.Orders.{yes_nat_le}
use Rattle.kts_spec.specs.declared.declarations.Decl.{Decl}
use Rattle.kts_spec.specs.declared.declarations.Decl.TheVariants.{Index, Given, Choose, Manifest}
use Rattle.kts_spec.specs.declared.instance.Instance.{Instance}
use Rattle.kts_spec.specs.declared.schema.Schema.{Schema}
use Rattle.kts_spec.specs.Schemas.{DeclaredCounts, nothing_declared, declared_with, is_declaration, are_declarations, has_counts, family_at, is_family, is_prefix, is_schema}
use Rattle.kts_data.specs.Drafts.{AreFew, IsThere}
use Rattle.kts_data.specs.Faults.{fold_read}
use Rattle.kts_data.specs.Instances.{index_name, members_of, table_of, with_declaration, with_members, with_values}
use Rattle.kts_data.specs.Json.{value_under}
use Rattle.kts_data.proofs.MemberLemmas.{and_then_ok, few_members}

-- ---- each is there

-- numbers that the test calls equal are equal
same : (a b : ℕ) → nat_eq a b ≡ true → a ≡ b
same a b e = grind (arith, nat_tests)

-- no index is undeclared again
indexes_grow : (d : DeclaredCounts) (decls : List Decl) → d.indexes ≤ (fold declared_with d decls).indexes
indexes_grow d [] = omega arith
indexes_grow d (Index i ∷ decls) = let h = indexes_grow (declared_with d (Index i)) decls in omega arith
indexes_grow d (Given f ∷ decls) = indexes_grow (declared_with d (Given f)) decls
indexes_grow d (Choose x ∷ decls) = indexes_grow (declared_with d (Choose x)) decls
indexes_grow d (Manifest x ∷ decls) = indexes_grow (declared_with d (Manifest x)) decls

-- and no given
givens_grow : (d : DeclaredCounts) (decls : List Decl) → d.givens ≤ (fold declared_with d decls).givens
givens_grow d [] = omega arith
givens_grow d (Index i ∷ decls) = givens_grow (declared_with d (Index i)) decls
givens_grow d (Given f ∷ decls) = let h = givens_grow (declared_with d (Given f)) decls in omega arith
givens_grow d (Choose x ∷ decls) = givens_grow (declared_with d (Choose x)) decls
givens_grow d (Manifest x ∷ decls) = givens_grow (declared_with d (Manifest x)) decls

module _ (schema : Schema) where
  -- a declaration that comes next is there at the end
  next_there : (d : DeclaredCounts) (x : Decl) (decls : List Decl) → is_declaration schema.givens schema.choices d x ≡ true
      → (fold declared_with d (x ∷ decls)).indexes ≤ length schema.indexes → (fold declared_with d (x ∷ decls)).givens ≤ length schema.givens → IsThere schema x
  next_there d (Index i) decls e indexes givens = omega (arith, same i d.indexes e, indexes_grow (declared_with d (Index i)) decls)
  next_there d (Given f) decls e indexes givens =
      let number = (and_parts (nat_eq f d.givens) (is_family d.indexes (family_at schema.givens f)) e).0 in
      omega (arith, same f d.givens number, givens_grow (declared_with d (Given f)) decls)
  next_there d (Choose x) decls e indexes givens = tt
  next_there d (Manifest x) decls e indexes givens = tt

  -- the declaration at a place is there at the end
  there_at : (d : DeclaredCounts) (decls : List Decl) (k : ℕ) (x : Decl) → are_declarations schema.givens schema.choices d decls ≡ true
      → (fold declared_with d decls).indexes ≤ length schema.indexes → (fold declared_with d decls).givens ≤ length schema.givens
      → k < length decls → x ≡ get_or decls k x → IsThere schema x
  there_at d [] k x e indexes givens h is = absurd (omega arith)
  there_at d (y ∷ decls) zero x e indexes givens h is =
      let here = (and_parts (is_declaration schema.givens schema.choices d y) (are_declarations schema.givens schema.choices (declared_with d y) decls) e).0 in
      subst (IsThere schema) (sym is) (next_there d y decls here indexes givens)
  there_at d (y ∷ decls) (suc k) x e indexes givens h is =
      let later = (and_parts (is_declaration schema.givens schema.choices d y) (are_declarations schema.givens schema.choices (declared_with d y) decls) e).1 in
      there_at (declared_with d y) decls k x later indexes givens (omega arith) is

  -- each declaration of a schema is of an index or a given that is there
  pub is_there : (k : ℕ) (x : Decl) → k < length schema.decls → x ≡ get_or schema.decls k x → IsThere schema x
  unfolding is_schema
  is_there k x h is =
      let last = fold declared_with nothing_declared schema.decls in
      let nine = and_parts _ (list_all (is_prefix (length schema.indexes)) schema.tasks) schema.is_schema in
      let eight = and_parts _ (nat_lt (length schema.tasks) (2 ^ 32)) nine.0 in
      let seven = and_parts _ (has_counts schema.indexes schema.givens schema.choices last) eight.0 in
      let six = and_parts _ (are_declarations schema.givens schema.choices nothing_declared schema.decls) seven.0 in
      let numbers = and_parts _ (nat_eq last.choices (length schema.choices)) seven.1 in
      let two = and_parts (nat_eq last.indexes (length schema.indexes)) (nat_eq last.givens (length schema.givens)) numbers.0 in
      there_at nothing_declared schema.decls k x six.1 (omega (arith, same _ _ two.0)) (omega (arith, same _ _ two.1)) h is

-- ---- no index has too many members

-- one index more that has few enough members
few_more : (members : List (List (List ℕ))) (names : List (List ℕ)) → AreFew members → length names ≤ most_members → AreFew (members ++ names ∷ [])
few_more [] names few h = and_from _ _ (yes_nat_le (length names) most_members h) refl
few_more (first ∷ members) names few h =
    let parts = and_parts (nat_le (length first) most_members) (list_all (λ (names : List (List ℕ)). nat_le (length names) most_members) members) few in
    and_from _ _ parts.0 (few_more members names parts.1 h)

module _ (schema : Schema) (d : Data) where
  -- after one declaration more
  few_after : (inst after : Instance) (x : Decl) → with_declaration schema d inst x ≡ Ok after → AreFew inst.members → AreFew after.members
  unfolding with_declaration
  few_after inst after (Index i) e few =
      let name = index_name schema i in
      let names = and_then_ok (and_then (value_under name d) (members_of name)) (λ (names : List (List ℕ)). Ok (with_members inst names)) after e in
      let found = and_then_ok (value_under name d) (members_of name) names.0 names.1 in
      let is : with_members inst names.0 ≡ after = cc (names.2) in
      subst (λ (i : Instance). AreFew i.members) is (few_more inst.members names.0 few (few_members name found.0 names.0 found.2))
  few_after inst after (Given f) e few =
      let family = family_at schema.givens f in
      let values = and_then_ok (and_then (value_under family.name d) (table_of inst.members family)) (λ (values : List ℤ). Ok (with_values inst values)) after e in
      let is : with_values inst values.0 ≡ after = cc (values.2) in
      subst (λ (i : Instance). AreFew i.members) is few
  few_after inst after (Choose x) e few = let is : inst ≡ after = cc in subst (λ (i : Instance). AreFew i.members) is few
  few_after inst after (Manifest x) e few = let is : inst ≡ after = cc in subst (λ (i : Instance). AreFew i.members) is few

  -- no index that is read has too many members
  pub few_all : (inst after : Instance) (decls : List Decl) → fold_read (with_declaration schema d) inst decls ≡ Ok after → AreFew inst.members → AreFew after.members
  unfolding fold_read
  few_all inst after [] e few = let is : inst ≡ after = cc in subst (λ (i : Instance). AreFew i.members) is few
  few_all inst after (x ∷ decls) e few =
      let one = and_then_ok (with_declaration schema d inst x) (λ (next : Instance). fold_read (with_declaration schema d) next decls) after e in
      few_all one.0 after decls one.2 (few_after inst one.0 x one.1 few)
