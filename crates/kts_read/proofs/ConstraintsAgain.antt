-- The lines of constraints and of patterns are read again.
use Rattle.std.proofs.Common.{◌≡◌, refl, ◌∙◌, ap, ℕ, zero, suc, pos, ◌+◌, ◌<◌, ◌≤◌, ◌==◌, List, [], ◌∷◌, length, map, drop, add-one, min, Bool, true, false, ◌&&◌, nat_eq, nat_lt, nat_le, if◌then◌else◌, Option, None, Some, Ok, Err, arith}
use Rattle.std.specs.Prelude.{codes, decimal, int_le, slice_index, slice_index_or, Result}
use Rattle.std.specs.List.{list_all}
use Rattle.std.proofs.lemmas.Bool.{and_parts}
use Rattle.std.proofs.lemmas.Bool.Decides.{nat_tests}
use Rattle.kts_base.specs.Limits.{most_instructions, most_prefix, most_number}
use Rattle.kts_base.specs.Names.{is_between}
use Rattle.kts_base.specs.Numerals.{is_digit}
use Rattle.kts_base.specs.Reads.{each_from}
use Rattle.kts_code.specs.CodeTexts.{task_words, place_word, wake_words}
use Rattle.kts_code.specs.WellFormed.{is_place, are_places}
use Rattle.kts_index.specs.declared.pattern.Pattern.{Pattern}
use Rattle.kts_spec.specs.Schemas.{is_prefix, family_at}
use Rattle.kts_read.specs.ConstraintLines.{entry_or, entry_in, with_task, task_line, place_in, places_in, with_pattern, pattern_of, wake_line}
use Rattle.kts_read.specs.DeclarationLines.{args_from}
use Rattle.kts_read.specs.Goods.{fits_pattern}
use Rattle.kts_read.specs.Words.{is_text, word}
use Rattle.kts_read.specs.declared.constraints.Constraints.{Constraints}
use Rattle.kts_read.specs.declared.declarations.Declared.{Declared}
use Rattle.kts_read.specs.declared.fault.CodeKind.{CodeKind}
use Rattle.kts_read.specs.declared.fault.CodeKind.TheVariants.{BadNumber}
use Rattle.kts_read.proofs.Cleans.{AreClean, decimal_clean, literal}
use Rattle.kts_read.proofs.ConstraintAdds.{more_task, more_pattern}
use Rattle.kts_read.proofs.FamiliesAgain.{below_again, args_again, decimals_clean}
use Rattle.kts_read.proofs.FamilyLines.{map_count}
use Rattle.kts_read.proofs.NumberTexts.{are_digits, number_of-signed, le_small}
use Rattle.kts_read.proofs.PlaceLoops.{places_at}
use Rattle.kts_read.proofs.Tests.{lt_found, lt_test, yes_le, whole_again}

-- ---- a constraint

abbrev natural : ℕ → Result ℕ CodeKind
natural n = Ok n

entry_test : (n : ℕ) (t : Bool) → t ≡ true → (if t then natural n else Err BadNumber) ≡ natural n
entry_test n true h = refl
entry_test n false h = absurd cc

entry_again : (n : ℕ) → n ≤ most_number → entry_in (decimal n) ≡ natural n
unfolding entry_in
entry_again n small = ap entry_or (number_of-signed (pos n) (le_small n small)) ∙ entry_test n (int_le (pos 0) (pos n)) (yes_le 0 n (omega arith))

two_to_five : (n : ℕ) → n ≤ 3 → is_between 2 5 (suc (suc n)) ≡ true
two_to_five n h = grind (arith, nat_tests)

prefix_count : (n : ℕ) → nat_le n most_prefix ≡ true → n ≤ 3
prefix_count n h = grind (arith, nat_tests)

pub few_in_prefix : (indexes : ℕ) (prefix : List ℕ) → is_prefix indexes prefix ≡ true → length prefix ≤ 3
few_in_prefix indexes prefix h = prefix_count (length prefix) (and_parts (nat_le (length prefix) most_prefix) (list_all (λ i. nat_lt i indexes) prefix) h).0

pub task_again : (indexes : ℕ) (c : Constraints) (entry : ℕ) (prefix : List ℕ) → indexes ≤ most_instructions → entry ≤ most_number → is_prefix indexes prefix ≡ true → length c.entries < most_instructions
    → task_line indexes c (task_words (entry, prefix)) ≡ Ok (more_task c entry prefix)
unfolding task_line with_task args_from
task_again indexes c entry prefix few small sound room =
    let both = and_parts (nat_le (length prefix) most_prefix) (list_all (λ i. nat_lt i indexes) prefix) sound in
    let count : length (map decimal prefix) ≤ 3 = omega (arith, map_count decimal prefix, few_in_prefix indexes prefix sound) in
    rw (two_to_five (length (map decimal prefix)) count, entry_again entry small, args_again indexes prefix both.1 few, lt_test (length c.entries) most_instructions room) refl

pub task_clean : (indexes entry : ℕ) (prefix : List ℕ) → indexes ≤ most_instructions → entry ≤ most_number → is_prefix indexes prefix ≡ true → AreClean (decimal entry ∷ map decimal prefix)
task_clean indexes entry prefix few small sound =
    (decimal_clean entry small, decimals_clean indexes prefix (and_parts (nat_le (length prefix) most_prefix) (list_all (λ i. nat_lt i indexes) prefix) sound).1 few)

-- ---- the places of a pattern

-- digits aren't the word for any member
digits_no_star : (ds : List ℕ) → list_all is_digit ds ≡ true → is_text ds (codes "*") ≡ false
digits_no_star [] h = refl
digits_no_star (d ∷ ds) h = other d (is_text ds []) (and_parts (is_digit d) (list_all is_digit ds) h).0
  where
    other : (d : ℕ) (t : Bool) → is_digit d ≡ true → (nat_eq d 42 && t) ≡ false
    other d t h = grind (arith, nat_tests)

abbrev placed : Option ℕ → Result (Option ℕ) CodeKind
placed p = Ok p

place_again : (prefix : List ℕ) (index : ℕ) (p : Option ℕ) → length prefix ≤ 3 → is_place prefix index p ≡ true → place_in prefix index (place_word p) ≡ placed p
unfolding place_in
place_again prefix index None few h = refl
place_again prefix index (Some k) few h =
    let both = and_parts (nat_lt k (length prefix)) (nat_eq (slice_index prefix k) index) h in
    let less = lt_found k (length prefix) both.0 in
    rw (digits_no_star (decimal k) (are_digits k (omega (arith, less, few))), whole_again 0 (min (length prefix) most_prefix) k (omega arith) (omega (arith, less, few)) (omega (arith, less, few)), both.1) refl

pub word_here : (words : List (List ℕ)) (k : ℕ) (w : List ℕ) (ws : List (List ℕ)) → drop k words ≡ w ∷ ws → (word words k ≡ w) × (drop (suc k) words ≡ ws)
word_here [] zero w ws e = absurd cc
word_here [] (suc k) w ws e = absurd cc
word_here (x ∷ xs) zero w ws e = (cc, cc)
word_here (x ∷ xs) (suc k) w ws e = word_here xs k w ws e

places_again : (prefix : List ℕ) (words : List (List ℕ)) (k : ℕ) (args : List ℕ) (places : List (Option ℕ)) → length prefix ≤ 3 → are_places prefix args places ≡ true → drop k words ≡ map place_word places → places_at prefix words k args ≡ Ok places
unfolding each_from
places_again prefix words k [] [] few h e = refl
places_again prefix words k [] (p ∷ ps) few h e = absurd cc
places_again prefix words k (index ∷ args) [] few h e = absurd cc
places_again prefix words k (index ∷ args) (p ∷ ps) few h e =
    let both = and_parts (is_place prefix index p) (are_places prefix args ps) h in
    let here = word_here words k (place_word p) (map place_word ps) e in
    let next : drop (k + 1) words ≡ map place_word ps = rw add-one here.1 in
    rw (here.0, place_again prefix index p few both.0, places_again prefix words (k + 1) args ps few both.1 next) refl

places_count : (prefix args : List ℕ) (places : List (Option ℕ)) → are_places prefix args places ≡ true → length places ≡ length args
places_count prefix [] [] h = refl
places_count prefix [] (p ∷ ps) h = absurd cc
places_count prefix (index ∷ args) [] h = absurd cc
places_count prefix (index ∷ args) (p ∷ ps) h = ap suc (places_count prefix args ps (and_parts (is_place prefix index p) (are_places prefix args ps) h).1)

places_clean : (prefix args : List ℕ) (places : List (Option ℕ)) → length prefix ≤ 3 → are_places prefix args places ≡ true → AreClean (map place_word places)
places_clean prefix [] [] few h = tt
places_clean prefix [] (p ∷ ps) few h = absurd cc
places_clean prefix (index ∷ args) [] few h = absurd cc
places_clean prefix (index ∷ args) (None ∷ ps) few h = (literal (codes "*") (omega arith) refl, places_clean prefix args ps few (and_parts (is_place prefix index None) (are_places prefix args ps) h).1)
places_clean prefix (index ∷ args) (Some k ∷ ps) few h =
    let both = and_parts (is_place prefix index (Some k)) (are_places prefix args ps) h in
    let less = lt_found k (length prefix) (and_parts (nat_lt k (length prefix)) (nat_eq (slice_index prefix k) index) both.0).0 in
    (decimal_clean k (omega (arith, less, few)), places_clean prefix args ps few both.1)

-- ---- a pattern

three_to_five : (n : ℕ) → n ≤ 2 → is_between 3 5 (suc (suc (suc n))) ≡ true
three_to_five n h = grind (arith, nat_tests)

same_count : (a b : ℕ) → a ≡ b → (suc (suc (suc a)) == b + 3) ≡ true
same_count a b e = grind (arith, nat_tests)

module _ (x : Declared) (c : Constraints) (p : Pattern) (fit : fits_pattern x.choices c.prefixes p ≡ true) where
  abbrev args : List ℕ
  args = (family_at x.choices p.choice).args

  abbrev prefix : List ℕ
  prefix = slice_index_or c.prefixes p.definite []

  both : ((nat_lt p.definite (length c.prefixes) && nat_lt p.choice (length x.choices)) ≡ true) × (are_places prefix args p.args ≡ true)
  both = and_parts (nat_lt p.definite (length c.prefixes) && nat_lt p.choice (length x.choices)) (are_places prefix args p.args) fit

  there : (nat_lt p.definite (length c.prefixes) ≡ true) × (nat_lt p.choice (length x.choices) ≡ true)
  there = and_parts (nat_lt p.definite (length c.prefixes)) (nat_lt p.choice (length x.choices)) both.0

  pub wake_again : length args ≤ 2 → length prefix ≤ 3 → length x.choices ≤ most_instructions → length c.prefixes ≤ most_instructions → length c.patterns < most_instructions → wake_line x c (wake_words p) ≡ Ok (more_pattern c p)
  unfolding wake_line pattern_of places_in with_pattern
  wake_again few_args few_prefix few_choices few_prefixes room =
      let count : length (map place_word p.args) ≡ length args = map_count place_word p.args ∙ places_count prefix args p.args both.1 in
      rw (
        three_to_five (length (map place_word p.args)) (omega (arith, count, few_args)),
        below_again (length x.choices) p.choice (lt_found p.choice (length x.choices) there.1) few_choices,
        same_count (length (map place_word p.args)) (length args) count,
        below_again (length c.prefixes) p.definite (lt_found p.definite (length c.prefixes) there.0) few_prefixes,
        places_again prefix (wake_words p) 3 args p.args few_prefix both.1 refl,
        lt_test (length c.patterns) most_instructions room,
      ) refl

  pub wake_clean : length prefix ≤ 3 → length x.choices ≤ most_instructions → length c.prefixes ≤ most_instructions → AreClean (wake_words p)
  wake_clean few_prefix few_choices few_prefixes =
      let d = lt_found p.definite (length c.prefixes) there.0 in
      let k = lt_found p.choice (length x.choices) there.1 in
      (literal (codes "wake") (omega arith) refl, (decimal_clean p.definite (omega (arith, d, few_prefixes)), (decimal_clean p.choice (omega (arith, k, few_choices)), places_clean prefix args p.args few_prefix both.1)))
