-- What declarations a specification may have.
use Rattle.std.specs.Prelude.{ℕ, suc, ◌^◌, ℤ, pos, neg_ℤ, int_le, List, [], ◌∷◌, ◌++◌, length, map, fold, slice_index_or, Bool, true, false, not, ◌&&◌, nat_eq, nat_lt, nat_le}
use Rattle.std.specs.List.{list_all, list_any}
use Rattle.kts_spec.specs.declared.declarations.ValueType.{ValueType}
use Rattle.kts_spec.specs.declared.declarations.ValueType.TheVariants.{Int, Member}
use Rattle.kts_spec.specs.declared.declarations.Family.{Family}
use Rattle.kts_spec.specs.declared.declarations.Decl.{Decl}
use Rattle.kts_spec.specs.declared.declarations.Decl.TheVariants.{Index, Given, Choose, Manifest}
use Rattle.kts_base.specs.Limits.{most_indexes, most_givens, most_choices, most_arguments, most_prefix, most_type_end}
use Rattle.kts_spec.specs.Names.{is_language_name, is_distinct}

-- a whole number that a type may have as its end
abbrev pub is_end : ℤ → Bool
is_end n = int_le (neg_ℤ (pos most_type_end)) n && int_le n (pos most_type_end)

-- a type over the first so many indexes
abbrev pub is_type : ℕ → ValueType → Bool
is_type indexes (Int lo hi) = is_end lo && is_end hi && int_le lo hi
is_type indexes (Member i) = nat_lt i indexes

-- a given or a choice over the first so many indexes
abbrev pub is_family : ℕ → Family → Bool
is_family indexes family =
    nat_le (length family.args) most_arguments && list_all (λ i. nat_lt i indexes) family.args && is_type indexes family.kind

-- whether a type is an index
abbrev pub has_members : ValueType → Bool
has_members (Int lo hi) = false
has_members (Member i) = true

-- a choice that gives each member of one index a member
abbrev pub assigns_members : Family → Bool
assigns_members family = nat_eq (length family.args) 1 && has_members family.kind

-- the family that stands for one that is not there
abbrev pub no_family : Family
no_family = record { name = []; args = []; kind = Int (pos 0) (pos 0) }

-- the family of this number
abbrev pub family_at : List Family → ℕ → Family
family_at families f = slice_index_or families f no_family

-- how many of each kind are declared before some place of the file, and which manifests
pub record DeclaredCounts : Type 0 where
  pub indexes : ℕ
  pub givens : ℕ
  pub choices : ℕ
  pub manifests : List ℕ

-- at the file's start
abbrev pub nothing_declared : DeclaredCounts
nothing_declared = record { indexes = 0; givens = 0; choices = 0; manifests = [] }

-- what is declared after one declaration more
abbrev pub declared_with : DeclaredCounts → Decl → DeclaredCounts
declared_with d (Index i) = record d { indexes = suc d.indexes }
declared_with d (Given f) = record d { givens = suc d.givens }
declared_with d (Choose x) = record d { choices = suc d.choices }
declared_with d (Manifest x) = record d { manifests = x ∷ d.manifests }

module _ (givens choices : List Family) where
  -- a declaration is the next of its kind, and uses only what is declared
  abbrev pub is_declaration : DeclaredCounts → Decl → Bool
  is_declaration d (Index i) = nat_eq i d.indexes
  is_declaration d (Given f) = nat_eq f d.givens && is_family d.indexes (family_at givens f)
  is_declaration d (Choose x) = nat_eq x d.choices && is_family d.indexes (family_at choices x)
  is_declaration d (Manifest x) =
      nat_lt x d.choices && assigns_members (family_at choices x) && not (list_any (nat_eq x) d.manifests)

  -- the declarations of a file after those that are declared
  abbrev pub are_declarations : DeclaredCounts → List Decl → Bool
  are_declarations d [] = true
  are_declarations d (decl ∷ decls) = is_declaration d decl && are_declarations (declared_with d decl) decls

-- a constraint has at most three variables, each of an index that is there
abbrev pub is_prefix : ℕ → List ℕ → Bool
is_prefix indexes prefix = nat_le (length prefix) most_prefix && list_all (λ i. nat_lt i indexes) prefix

-- the names of indexes, givens and choices
abbrev pub declared_names : List (List ℕ) → List Family → List Family → List (List ℕ)
declared_names indexes givens choices =
    indexes ++ (map (λ (f : Family). f.name) givens ++ map (λ (f : Family). f.name) choices)

-- whether as many of each kind are declared as there are
abbrev pub has_counts : List (List ℕ) → List Family → List Family → DeclaredCounts → Bool
has_counts indexes givens choices d =
    nat_eq d.indexes (length indexes) && nat_eq d.givens (length givens) && nat_eq d.choices (length choices)

-- the parts of a schema: each declaration stands once and in order, after those that it uses, under a name of its own
unfoldable pub is_schema : List ℕ → List Decl → List (List ℕ) → List Family → List Family → List (List ℕ) → Bool
is_schema name decls indexes givens choices tasks =
    is_language_name name
    && nat_le (length indexes) most_indexes && nat_le (length givens) most_givens && nat_le (length choices) most_choices
    && list_all is_language_name (declared_names indexes givens choices)
    && is_distinct (declared_names indexes givens choices)
    && are_declarations givens choices nothing_declared decls
    && has_counts indexes givens choices (fold declared_with nothing_declared decls)
    && nat_lt (length tasks) (2 ^ 32) && list_all (is_prefix (length indexes)) tasks
