-- The fault of the line of a constraint or a pattern is that of the first demand that it doesn't meet.
use Rattle.std.proofs.Common.{◌≡◌, refl, ◌∙◌, ℕ, ℤ, pos, ◌+◌, ◌==◌, List, [], ◌∷◌, ◌++◌, length, drop, Bool, true, false, ◌||◌, nat_lt, nat_eq, if◌then◌else◌, Option, None, Some, Ok, min}
use Rattle.std.specs.Prelude.{codes, int_le, slice_index, slice_index_or}
use Rattle.std.specs.List.{list_all}
use Rattle.kts_base.specs.Limits.{most_instructions, most_prefix}
use Rattle.kts_base.specs.Names.{is_between}
use Rattle.kts_base.specs.Reads.{each_from}
use Rattle.kts_spec.specs.Schemas.{family_at}
use Rattle.kts_read.specs.ConstraintLines.{entry_or, entry_in, with_task, task_line, place_or, place_in, places_in, with_pattern, constraint_of, pattern_of, choice_of, wake_line}
use Rattle.kts_read.specs.DeclarationLines.{args_from}
use Rattle.kts_read.specs.Demands.{Demand, first_unmet, is_there, is_entry, task_demands, is_variable_of, is_place_word, are_place_words, constraint_demands, choice_demands, wake_demands}
use Rattle.kts_read.specs.Words.{is_text, word, number_of, whole_in, number_below}
use Rattle.kts_read.specs.declared.constraints.Constraints.{Constraints}
use Rattle.kts_read.specs.declared.declarations.Declared.{Declared}
use Rattle.kts_read.specs.declared.fault.CodeKind.TheVariants.{WrongCount, BadNumber, TooLong}
use Rattle.kts_read.proofs.ArgumentLoops.{args_at}
use Rattle.kts_read.proofs.DeclarationDemands.{args_meet}
use Rattle.kts_read.proofs.PlaceLoops.{places_at}
use Rattle.kts_read.proofs.Unmet.{unread, if_meets, then_meets, made_meets, test_meets, both_meet}

-- ---- constraints

entry_meets : (found : Option ℤ) → unread (entry_or found) ≡ first_unmet ((BadNumber, is_entry found) ∷ [])
entry_meets None = refl
entry_meets (Some z) = test_meets (int_le (pos 0) z) BadNumber _

pub task_meets : (indexes : ℕ) (c : Constraints) (words : List (List ℕ)) → unread (task_line indexes c words) ≡ first_unmet (task_demands indexes c words)
unfolding task_line with_task args_from entry_in
task_meets indexes c words =
    let room : List Demand = (TooLong, nat_lt (length c.entries) most_instructions) ∷ [] in
    let args : List Demand = (BadNumber, list_all (λ arg. is_there (number_below indexes arg)) (drop 2 words)) ∷ [] in
    let entry : List Demand = (BadNumber, is_entry (number_of (word words 1))) ∷ [] in
    if_meets (is_between 2 5 (length words)) WrongCount _ (entry ++ (args ++ room)) (λ _.
    then_meets (entry_or (number_of (word words 1))) _ entry (args ++ room) (entry_meets (number_of (word words 1))) (λ place _.
    then_meets (args_at indexes (drop 2 words)) _ args room (args_meet indexes (drop 2 words)) (λ prefix _.
    test_meets (nat_lt (length c.entries) most_instructions) TooLong _)))

-- ---- patterns

place_tests : (prefix : List ℕ) (index : ℕ) (star : Bool) (found : Option ℕ) → unread (if star then Ok None else place_or prefix index found) ≡ first_unmet ((BadNumber, star || is_variable_of prefix index found) ∷ [])
place_tests prefix index true found = refl
place_tests prefix index false None = refl
place_tests prefix index false (Some k) = test_meets (nat_eq (slice_index prefix k) index) BadNumber _

place_meets : (prefix : List ℕ) (index : ℕ) (bytes : List ℕ) → unread (place_in prefix index bytes) ≡ first_unmet ((BadNumber, is_place_word prefix index bytes) ∷ [])
unfolding place_in
place_meets prefix index bytes = place_tests prefix index (is_text bytes (codes "*")) (whole_in 0 (min (length prefix) most_prefix) bytes)

places_meet : (prefix : List ℕ) (words : List (List ℕ)) (k : ℕ) (args : List ℕ) → unread (places_at prefix words k args) ≡ first_unmet ((BadNumber, are_place_words prefix words k args) ∷ [])
unfolding each_from
places_meet prefix words k [] = refl
places_meet prefix words k (index ∷ args) =
    then_meets (place_in prefix index (word words k)) _ ((BadNumber, is_place_word prefix index (word words k)) ∷ []) ((BadNumber, are_place_words prefix words (k + 1) args) ∷ []) (place_meets prefix index (word words k))
    (λ place _. made_meets (places_at prefix words (k + 1) args) (λ places. place ∷ places) ((BadNumber, are_place_words prefix words (k + 1) args) ∷ []) (places_meet prefix words (k + 1) args))
    ∙ both_meet BadNumber (is_place_word prefix index (word words k)) (are_place_words prefix words (k + 1) args) []

constraint_meets : (c : Constraints) (choice : ℕ) (args : List ℕ) (words : List (List ℕ)) (found : Option ℕ) → unread (constraint_of c choice args words found) ≡ first_unmet (constraint_demands c args words found)
unfolding places_in with_pattern
constraint_meets c choice args words None = refl
constraint_meets c choice args words (Some d) =
    then_meets (places_at (slice_index_or c.prefixes d []) words 3 args) _ ((BadNumber, are_place_words (slice_index_or c.prefixes d []) words 3 args) ∷ []) ((TooLong, nat_lt (length c.patterns) most_instructions) ∷ []) (places_meet (slice_index_or c.prefixes d []) words 3 args)
    (λ places _. test_meets (nat_lt (length c.patterns) most_instructions) TooLong _)

choice_meets : (x : Declared) (c : Constraints) (words : List (List ℕ)) (found : Option ℕ) → unread (choice_of x c words found) ≡ first_unmet (choice_demands x c words found)
unfolding pattern_of
choice_meets x c words None = refl
choice_meets x c words (Some choice) =
    if_meets (length words == length (family_at x.choices choice).args + 3) WrongCount _ (constraint_demands c (family_at x.choices choice).args words (number_below (length c.prefixes) (word words 1))) (λ _. constraint_meets c choice (family_at x.choices choice).args words (number_below (length c.prefixes) (word words 1)))

pub wake_meets : (x : Declared) (c : Constraints) (words : List (List ℕ)) → unread (wake_line x c words) ≡ first_unmet (wake_demands x c words)
unfolding wake_line
wake_meets x c words = if_meets (is_between 3 5 (length words)) WrongCount _ (choice_demands x c words (number_below (length x.choices) (word words 2))) (λ _. choice_meets x c words (number_below (length x.choices) (word words 2)))
