-- Data that are valid for a schema, and beside them near ones that are not.
use Rattle.std.specs.Prelude.{◌≡◌, refl, true, false, ℕ, ℤ, pos, neg_ℤ, List, [], ◌∷◌, ◌++◌, map, codes, replicate}
use Rattle.std.specs.List.{range_with_len}
use Rattle.kts_spec.specs.declared.declarations.ValueType.TheVariants.{Member}
use Rattle.kts_spec.specs.declared.declarations.Family.{Family}
use Rattle.kts_spec.specs.declared.declarations.Decl.{Decl}
use Rattle.kts_spec.specs.declared.declarations.Decl.TheVariants.{Index, Given, Choose}
use Rattle.kts_spec.specs.declared.schema.Schema.{Schema}
use Rattle.kts_spec.specs.declared.instance.Instance.{Instance}
use Rattle.kts_spec.specs.Data.{is_valid}
use Rattle.kts_spec.specs.Examples.{family, below, request_data}
use Rattle.kts_spec.specs.Schemas.{is_schema}

abbrev pub IsValid : Schema → Instance → Type 0
IsValid schema inst = is_valid schema inst ≡ true

abbrev pub IsInvalid : Schema → Instance → Type 0
IsInvalid schema inst = is_valid schema inst ≡ false

-- these declarations under the name `s`
abbrev pub schema_of : (decls : List Decl) (indexes : List (List ℕ)) (givens choices : List Family) (tasks : List (List ℕ)) → is_schema (codes "s") decls indexes givens choices tasks ≡ true → Schema
schema_of decls indexes givens choices tasks keeps = record {
  name = codes "s";
  decls = decls;
  indexes = indexes;
  givens = givens;
  choices = choices;
  tasks = tasks;
  is_schema = keeps;
}

-- so many names, each of one byte
abbrev pub names : ℕ → List (List ℕ)
names n = map (λ byte. byte ∷ []) (range_with_len 0 n)

-- data without givens, with so many members of each index
abbrev pub sized : List ℕ → Instance
sized sizes = record { members = map names sizes; values = [] }

-- two requests `a` and `b` and one trip, and when each request is released
abbrev pub released : List ℤ → Instance
released values = request_data (codes "a" ∷ codes "b" ∷ []) (codes "t1" ∷ []) values

-- the same requests, and no values of any given
abbrev pub without_table : Instance
without_table = record { members = (codes "a" ∷ codes "b" ∷ []) ∷ (codes "t1" ∷ []) ∷ []; values = [] }

-- the same, and a table more than there are givens
abbrev pub with_table_more : Instance
with_table_more = record { members = (codes "a" ∷ []) ∷ (codes "t1" ∷ []) ∷ []; values = (pos 1 ∷ []) ∷ (pos 1 ∷ []) ∷ [] }

-- members of these names in the only index
abbrev pub named : List (List ℕ) → Instance
named members = record { members = members ∷ []; values = [] }

-- ---- one index

-- (index I)
pub one_index_is_schema : is_schema (codes "s") (Index 0 ∷ []) (codes "I" ∷ []) [] [] [] ≡ true
unfolding is_schema
one_index_is_schema = refl

abbrev pub one_index : Schema
one_index = schema_of (Index 0 ∷ []) (codes "I" ∷ []) [] [] [] one_index_is_schema

-- ---- a choice of two arguments, and one without

-- (index I) (index J) (choose x (I J) (int 0 1)) (choose y () (int 0 1))
abbrev pub two_choices : List Family
two_choices = family (codes "x") (0 ∷ 1 ∷ []) (below 1) ∷ family (codes "y") [] (below 1) ∷ []

abbrev pub two_choice_decls : List Decl
two_choice_decls = Index 0 ∷ Index 1 ∷ Choose 0 ∷ Choose 1 ∷ []

pub grid_and_one_is_schema : is_schema (codes "s") two_choice_decls (codes "I" ∷ codes "J" ∷ []) [] two_choices [] ≡ true
unfolding is_schema
grid_and_one_is_schema = refl

abbrev pub grid_and_one : Schema
grid_and_one = schema_of two_choice_decls (codes "I" ∷ codes "J" ∷ []) [] two_choices [] grid_and_one_is_schema

-- ---- constraints on all pairs and triples

-- so many constraints on triples of two members of I and one of J, and so many without variables
abbrev pub prefixes : ℕ → ℕ → List (List ℕ)
prefixes triples others = replicate triples (0 ∷ 0 ∷ 1 ∷ []) ++ replicate others []

-- (index I) (index J), with ten constraints on triples
pub ten_triples_is_schema : is_schema (codes "s") (Index 0 ∷ Index 1 ∷ []) (codes "I" ∷ codes "J" ∷ []) [] [] (prefixes 10 0) ≡ true
unfolding is_schema
ten_triples_is_schema = refl

abbrev pub ten_triples : Schema
ten_triples = schema_of (Index 0 ∷ Index 1 ∷ []) (codes "I" ∷ codes "J" ∷ []) [] [] (prefixes 10 0) ten_triples_is_schema

-- the same, with one constraint more, which has no variable
pub ten_triples_and_one_is_schema : is_schema (codes "s") (Index 0 ∷ Index 1 ∷ []) (codes "I" ∷ codes "J" ∷ []) [] [] (prefixes 10 1) ≡ true
unfolding is_schema
ten_triples_and_one_is_schema = refl

abbrev pub ten_triples_and_one : Schema
ten_triples_and_one = schema_of (Index 0 ∷ Index 1 ∷ []) (codes "I" ∷ codes "J" ∷ []) [] [] (prefixes 10 1) ten_triples_and_one_is_schema

-- ---- a given whose values are members

-- (index I) (given next (I) I)
pub next_is_schema : is_schema (codes "s") (Index 0 ∷ Given 0 ∷ []) (codes "I" ∷ []) (family (codes "next") (0 ∷ []) (Member 0) ∷ []) [] [] ≡ true
unfolding is_schema
next_is_schema = refl

abbrev pub next_schema : Schema
next_schema = schema_of (Index 0 ∷ Given 0 ∷ []) (codes "I" ∷ []) (family (codes "next") (0 ∷ []) (Member 0) ∷ []) [] [] next_is_schema

-- three members, and what comes after each
abbrev pub next_of : List ℤ → Instance
next_of values = record { members = names 3 ∷ []; values = values ∷ [] }

-- a list of three numbers
abbrev pub triple : ℤ → ℤ → ℤ → List ℤ
triple a b c = a ∷ b ∷ c ∷ []

-- a number below 0
abbrev pub minus : ℕ → ℤ
minus n = neg_ℤ (pos n)
