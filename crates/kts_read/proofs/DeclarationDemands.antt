-- The fault of a line is that of the first demand that it doesn't meet.
use Rattle.std.proofs.Common.{◌≡◌, refl, ◌∙◌, ℕ, ℤ, ◌==◌, List, [], ◌∷◌, length, drop, Bool, true, false, not, ◌&&◌, nat_lt, if◌then◌else◌, Option, None, Some, Result, Ok, Err}
use Rattle.std.specs.Prelude.{codes, int_le}
use Rattle.std.specs.List.{list_all}
use Rattle.kts_base.specs.Limits.{most_indexes, most_givens, most_choices}
use Rattle.kts_base.specs.Names.{is_between}
use Rattle.kts_base.specs.Reads.{and_then, each_from}
use Rattle.kts_spec.specs.Names.{is_language_name}
use Rattle.kts_spec.specs.Schemas.{is_end, assigns_members, family_at}
use Rattle.kts_spec.specs.declared.declarations.Family.{Family}
use Rattle.kts_spec.specs.declared.declarations.ValueType.{ValueType}
use Rattle.kts_spec.specs.declared.declarations.ValueType.TheVariants.{Member}
use Rattle.kts_read.specs.DeclarationLines.{is_taken, new_name, with_index, index_line, end_or, end_at, number_or, index_at, ordered, int_type, member_type, args_from, family_of, named_family, family_in, with_given, given_line, with_choice, choose_line, has_manifest, with_manifest, manifest_of, manifest_line}
use Rattle.kts_read.specs.Demands.{first_unmet, is_there, is_new, index_demands, are_ends, typed_demands, family_demands, may_show, manifest_demands}
use Rattle.kts_read.specs.Words.{is_text, word, number_of, number_below}
use Rattle.kts_read.specs.declared.declarations.Declared.{Declared}
use Rattle.kts_read.specs.declared.fault.CodeKind.{CodeKind}
use Rattle.kts_read.specs.declared.fault.CodeKind.TheVariants.{BadWord, WrongCount, BadName, BadNumber, TooLong}
use Rattle.kts_read.proofs.ArgumentLoops.{args_at}
use Rattle.kts_read.proofs.Unmet.{unread, if_meets, then_meets, made_meets, test_meets, both_meet}

-- ---- declarations

-- the word is a new name, or the fault is that it is none
new_or : (x : Declared) (bytes : List ℕ) (P : Option (List ℕ) → Bool → Type 0) → P (Some bytes) true → P None false → P (new_name x bytes) (is_new x bytes)
new_or x bytes P there none = by_tests (is_taken x bytes) (is_language_name bytes)
  where
    by_tests : (taken sound : Bool) → P (if taken then None else (if sound then Some bytes else None)) (not taken && sound)
    by_tests true sound = none
    by_tests false true = there
    by_tests false false = none

pub index_meets : (x : Declared) (words : List (List ℕ)) → unread (index_line x words) ≡ first_unmet (index_demands x words)
unfolding index_line
index_meets x words =
    if_meets (length words == 2) WrongCount _ ((BadName, is_new x (word words 1)) ∷ (TooLong, nat_lt (length x.indexes) most_indexes) ∷ []) (λ _. new_or x (word words 1)
    (λ found new. unread (with_index x found) ≡ first_unmet ((BadName, new) ∷ (TooLong, nat_lt (length x.indexes) most_indexes) ∷ []))
    (test_meets (nat_lt (length x.indexes) most_indexes) TooLong _) refl)

number_meets : (found : Option ℕ) → unread (number_or found) ≡ first_unmet ((BadNumber, is_there found) ∷ [])
number_meets None = refl
number_meets (Some n) = refl

pub args_meet : (indexes : ℕ) (words : List (List ℕ)) → unread (args_at indexes words) ≡ first_unmet ((BadNumber, list_all (λ arg. is_there (number_below indexes arg)) words) ∷ [])
unfolding each_from index_at
args_meet indexes [] = refl
args_meet indexes (w ∷ ws) =
    then_meets (index_at indexes w) _ ((BadNumber, is_there (number_below indexes w)) ∷ []) ((BadNumber, list_all (λ arg. is_there (number_below indexes arg)) ws) ∷ []) (number_meets (number_below indexes w))
    (λ index _. made_meets (args_at indexes ws) (λ bs. index ∷ bs) ((BadNumber, list_all (λ arg. is_there (number_below indexes arg)) ws) ∷ []) (args_meet indexes ws))
    ∙ both_meet BadNumber (is_there (number_below indexes w)) (list_all (λ arg. is_there (number_below indexes arg)) ws) []

end_without : (lo : ℤ) (a : Bool) → unread (and_then (if a then Ok lo else Err BadNumber) (λ lo. and_then (end_or None) (λ hi. ordered lo hi))) ≡ Some BadNumber
end_without lo true = refl
end_without lo false = refl

ends_tested : (lo hi : ℤ) (a b : Bool) → unread (and_then (if a then Ok lo else Err BadNumber) (λ lo. and_then (if b then Ok hi else Err BadNumber) (λ hi. ordered lo hi))) ≡ first_unmet ((BadNumber, a && b && int_le lo hi) ∷ [])
ends_tested lo hi true true = test_meets (int_le lo hi) BadNumber _
ends_tested lo hi true false = refl
ends_tested lo hi false b = refl

ends_meet : (lo hi : Option ℤ) → unread (and_then (end_or lo) (λ lo. and_then (end_or hi) (λ hi. ordered lo hi))) ≡ first_unmet ((BadNumber, are_ends lo hi) ∷ [])
ends_meet None hi = refl
ends_meet (Some lo) None = end_without lo (is_end lo)
ends_meet (Some lo) (Some hi) = ends_tested lo hi (is_end lo) (is_end hi)

int_meets : (words : List (List ℕ)) → unread (int_type words) ≡ first_unmet ((BadNumber, are_ends (number_of (word words 3)) (number_of (word words 4))) ∷ [])
unfolding int_type end_at
int_meets words = ends_meet (number_of (word words 3)) (number_of (word words 4))

member_meets : (indexes : ℕ) (words : List (List ℕ)) → unread (member_type indexes words) ≡ first_unmet ((BadNumber, is_there (number_below indexes (word words 3))) ∷ [])
unfolding member_type index_at
member_meets indexes words = by_number (number_below indexes (word words 3))
  where
    by_number : (found : Option ℕ) → unread (and_then (number_or found) (λ i. Ok (Member i))) ≡ first_unmet ((BadNumber, is_there found) ∷ [])
    by_number None = refl
    by_number (Some n) = refl

-- a family, where there is room for it
module _ (x : Declared) (words : List (List ℕ)) (room : Bool) (made : Family → Declared) where
  abbrev placed : Family → Result Declared CodeKind
  placed family = if room then Ok (made family) else Err TooLong

  -- the indexes of arguments
  abbrev are_indexes : List (List ℕ) → Bool
  are_indexes args = list_all (λ arg. is_there (number_below (length x.indexes) arg)) args

  args_then : (name : List ℕ) (k : ValueType) (args : Result (List ℕ) CodeKind) (fit : Bool) → unread args ≡ first_unmet ((BadNumber, fit) ∷ [])
      → unread (and_then (family_of name (Ok k) args) placed) ≡ first_unmet ((BadNumber, fit) ∷ (TooLong, room) ∷ [])
  args_then name k (Ok args) true e = test_meets room TooLong _
  args_then name k (Ok args) false e = absurd cc
  args_then name k (Err fault) true e = absurd cc
  args_then name k (Err fault) false e = e

  kind_then : (name : List ℕ) (kind : Result ValueType CodeKind) (type : Bool) → unread kind ≡ first_unmet ((BadNumber, type) ∷ []) → (args : Result (List ℕ) CodeKind) (fit : Bool) → unread args ≡ first_unmet ((BadNumber, fit) ∷ [])
      → unread (and_then (family_of name kind args) placed) ≡ first_unmet ((BadNumber, type) ∷ (BadNumber, fit) ∷ (TooLong, room) ∷ [])
  kind_then name (Ok k) true e args fit a = args_then name k args fit a
  kind_then name (Ok k) false e args fit a = absurd cc
  kind_then name (Err fault) true e args fit a = absurd cc
  kind_then name (Err fault) false e args fit a = e

  kind_meets : (name : List ℕ) (kind : Result ValueType CodeKind) (type : Bool) (from : ℕ) → unread kind ≡ first_unmet ((BadNumber, type) ∷ [])
      → unread (and_then (family_of name kind (args_from (length x.indexes) from words)) placed) ≡ first_unmet ((BadNumber, type) ∷ (BadNumber, are_indexes (drop from words)) ∷ (TooLong, room) ∷ [])
  unfolding args_from
  kind_meets name kind type from e = kind_then name kind type e (args_at (length x.indexes) (drop from words)) (are_indexes (drop from words)) (args_meet (length x.indexes) (drop from words))

  typed_meets : (count : Bool) (kind : Result ValueType CodeKind) (type : Bool) (from : ℕ) → unread kind ≡ first_unmet ((BadNumber, type) ∷ [])
      → unread (and_then (if count then named_family (new_name x (word words 1)) kind (args_from (length x.indexes) from words) else Err WrongCount) placed) ≡ first_unmet (typed_demands x words count type (drop from words) room)
  typed_meets true kind type from e =
      new_or x (word words 1)
      (λ found new. unread (and_then (named_family found kind (args_from (length x.indexes) from words)) placed) ≡ first_unmet ((BadName, new) ∷ (BadNumber, type) ∷ (BadNumber, are_indexes (drop from words)) ∷ (TooLong, room) ∷ []))
      (kind_meets (word words 1) kind type from e) refl
  typed_meets false kind type from e = refl

  by_count : (few int mem : Bool)
      → unread (and_then (if few then Err WrongCount
      else (if int then (if is_between 5 7 (length words) then named_family (new_name x (word words 1)) (int_type words) (args_from (length x.indexes) 5 words) else Err WrongCount)
      else (if mem then (if is_between 4 6 (length words) then named_family (new_name x (word words 1)) (member_type (length x.indexes) words) (args_from (length x.indexes) 4 words) else Err WrongCount)
      else Err BadWord))) placed)
      ≡ first_unmet (if few then (WrongCount, false) ∷ []
      else (if int then typed_demands x words (is_between 5 7 (length words)) (are_ends (number_of (word words 3)) (number_of (word words 4))) (drop 5 words) room
      else (if mem then typed_demands x words (is_between 4 6 (length words)) (is_there (number_below (length x.indexes) (word words 3))) (drop 4 words) room
      else (BadWord, false) ∷ [])))
  by_count true int mem = refl
  by_count false true mem = typed_meets (is_between 5 7 (length words)) (int_type words) (are_ends (number_of (word words 3)) (number_of (word words 4))) 5 (int_meets words)
  by_count false false true = typed_meets (is_between 4 6 (length words)) (member_type (length x.indexes) words) (is_there (number_below (length x.indexes) (word words 3))) 4 (member_meets (length x.indexes) words)
  by_count false false false = refl

  pub family_meets : unread (and_then (family_in x words) placed) ≡ first_unmet (family_demands x words room)
  unfolding family_in
  family_meets = by_count (nat_lt (length words) 3) (is_text (word words 2) (codes "int")) (is_text (word words 2) (codes "mem"))

pub given_meets : (x : Declared) (words : List (List ℕ)) → unread (given_line x words) ≡ first_unmet (family_demands x words (nat_lt (length x.givens) most_givens))
unfolding given_line with_given
given_meets x words = family_meets x words (nat_lt (length x.givens) most_givens) _

pub choose_meets : (x : Declared) (words : List (List ℕ)) → unread (choose_line x words) ≡ first_unmet (family_demands x words (nat_lt (length x.choices) most_choices))
unfolding choose_line with_choice
choose_meets x words = family_meets x words (nat_lt (length x.choices) most_choices) _

-- ---- a manifest

manifest_tests : (assigns shown : Bool) (y : Declared) → unread (if assigns then (if shown then Err BadNumber else Ok y) else Err BadNumber) ≡ first_unmet ((BadNumber, assigns && not shown) ∷ [])
manifest_tests true true y = refl
manifest_tests true false y = refl
manifest_tests false shown y = refl

manifest_number : (x : Declared) (found : Option ℕ) → unread (manifest_of x found) ≡ first_unmet ((BadNumber, may_show x found) ∷ [])
unfolding with_manifest
manifest_number x None = refl
manifest_number x (Some choice) = manifest_tests (assigns_members (family_at x.choices choice)) (has_manifest x.decls choice) _

pub manifest_meets : (x : Declared) (words : List (List ℕ)) → unread (manifest_line x words) ≡ first_unmet (manifest_demands x words)
unfolding manifest_line
manifest_meets x words = if_meets (length words == 2) WrongCount _ ((BadNumber, may_show x (number_below (length x.choices) (word words 1))) ∷ []) (λ _. manifest_number x (number_below (length x.choices) (word words 1)))
