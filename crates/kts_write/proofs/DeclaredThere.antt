-- What the declarations of a schema name is in it.
use Rattle.std.proofs.Common.{◌≡◌, ℕ, ◌^◌, ◌≤◌, arith, List, [], ◌∷◌, length, fold, true, ◌&&◌, nat_eq, nat_lt}
use Rattle.std.specs.List.{list_all, AllByRecursion}
use Rattle.std.proofs.lemmas.Bool.{and_parts}
use Rattle.std.proofs.lemmas.Bool.Decides.{nat_tests}
use Rattle.kts_spec.specs.declared.declarations.Decl.{Decl}
use Rattle.kts_spec.specs.declared.declarations.Decl.TheVariants.{Index, Given, Choose, Manifest}
use Rattle.kts_spec.specs.declared.declarations.Family.{Family}
use Rattle.kts_spec.specs.declared.schema.Schema.{Schema}
use Rattle.kts_spec.specs.Schemas.{DeclaredCounts, nothing_declared, declared_with, is_declaration, are_declarations, has_counts, is_family}
use Rattle.kts_spec.specs.Schemas.{family_at, is_prefix, is_schema}
use Rattle.kts_write.specs.Declarations.{IsWithin, IsIn}

same_number : (a b : ℕ) → nat_eq a b ≡ true → a ≡ b
same_number a b e = grind (arith, nat_tests)

-- no more of each kind than these
pub record AtMost (d : DeclaredCounts) (is gs cs : ℕ) : Type 0 where
  pub indexes : d.indexes ≤ is
  pub givens : d.givens ≤ gs
  pub choices : d.choices ≤ cs

module _ (givens choices : List Family) (is gs cs : ℕ) where
  pub are_within : (d : DeclaredCounts) (decls : List Decl) → are_declarations givens choices d decls ≡ true
      → AtMost (fold declared_with d decls) is gs cs → AllByRecursion (IsWithin is gs cs) decls × AtMost d is gs cs
  are_within d [] e h = (tt, h)
  are_within d (Index i ∷ decls) e h =
      let both = and_parts (is_declaration givens choices d (Index i)) _ e in
      let rest = are_within (declared_with d (Index i)) decls both.1 h in
      let same = same_number i d.indexes both.0 in
      let more = rest.1.indexes in
      ((omega (arith, more, same), rest.0), record { indexes = omega (arith, more); givens = rest.1.givens; choices = rest.1.choices })
  are_within d (Given f ∷ decls) e h =
      let both = and_parts (is_declaration givens choices d (Given f)) _ e in
      let rest = are_within (declared_with d (Given f)) decls both.1 h in
      let same = same_number f d.givens (and_parts (nat_eq f d.givens) (is_family d.indexes (family_at givens f)) both.0).0 in
      let more = rest.1.givens in
      ((omega (arith, more, same), rest.0), record { indexes = rest.1.indexes; givens = omega (arith, more); choices = rest.1.choices })
  are_within d (Choose x ∷ decls) e h =
      let both = and_parts (is_declaration givens choices d (Choose x)) _ e in
      let rest = are_within (declared_with d (Choose x)) decls both.1 h in
      let same = same_number x d.choices (and_parts (nat_eq x d.choices) (is_family d.indexes (family_at choices x)) both.0).0 in
      let more = rest.1.choices in
      ((omega (arith, more, same), rest.0), record { indexes = rest.1.indexes; givens = rest.1.givens; choices = omega (arith, more) })
  are_within d (Manifest x ∷ decls) e h =
      let both = and_parts (is_declaration givens choices d (Manifest x)) _ e in
      let rest = are_within (declared_with d (Manifest x)) decls both.1 h in
      ((tt, rest.0), record { indexes = rest.1.indexes; givens = rest.1.givens; choices = rest.1.choices })

pub all_there : (schema : Schema) → AllByRecursion (IsIn schema) schema.decls
unfolding is_schema
all_there schema =
    let nine = and_parts _ (list_all (is_prefix (length schema.indexes)) schema.tasks) schema.is_schema in
    let eight = and_parts _ (nat_lt (length schema.tasks) (2 ^ 32)) nine.0 in
    let seven = and_parts _ (has_counts schema.indexes schema.givens schema.choices (fold declared_with nothing_declared schema.decls)) eight.0 in
    let six = and_parts _ (are_declarations schema.givens schema.choices nothing_declared schema.decls) seven.0 in
    let last = fold declared_with nothing_declared schema.decls in
    let two = and_parts (nat_eq last.indexes (length schema.indexes) && nat_eq last.givens (length schema.givens))
    (nat_eq last.choices (length schema.choices)) seven.1 in
    let one = and_parts (nat_eq last.indexes (length schema.indexes)) (nat_eq last.givens (length schema.givens)) two.0 in
    let is = same_number _ _ one.0 in
    let gs = same_number _ _ one.1 in
    let cs = same_number _ _ two.1 in
    (are_within schema.givens schema.choices (length schema.indexes) (length schema.givens) (length schema.choices) nothing_declared schema.decls six.1
    (record { indexes = omega (arith, is); givens = omega (arith, gs); choices = omega (arith, cs) })).0
