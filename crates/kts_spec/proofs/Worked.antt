-- The examples compute, once each formula is the test that it means.
use Rattle.std.proofs.Common.{◌≡◌, arith, refl, ◌∙◌, ap, ℕ, ℤ, pos, List, [], ◌∷◌, ◌++◌, length, map, take, slice_index, Bool, true, not, ◌&&◌, ◌||◌, if◌then◌else◌}
use Rattle.std.specs.Prelude.{filter, int_le}
use Rattle.std.specs.List.{range_with_len}
use Rattle.std.specs.Fmt.{digits}
use Rattle.kts_spec.specs.declared.ending.Ending.TheVariants.{End, Budget}
use Rattle.kts_spec.specs.declared.instance.Instance.{Instance}
use Rattle.kts_spec.specs.declared.schema.Schema.{Schema}
use Rattle.kts_spec.specs.declared.tree.Comparison.TheVariants.{Le, Ge, Gt}
use Rattle.kts_spec.specs.declared.tree.Formula.{Formula}
use Rattle.kts_spec.specs.declared.tree.Formula.TheVariants as formula
use Rattle.kts_spec.specs.Answers.{is_kept, kept_of}
use Rattle.kts_spec.specs.Data.{is_valid}
use Rattle.kts_spec.specs.MeaningEquations.{for_all, for_some, total}
use Rattle.kts_spec.specs.Meaning.{truth_on, int_same}
use Rattle.kts_spec.specs.Places.{cell, entry, lookup}
use Rattle.kts_spec.specs.Schedules.{schedules}
use Rattle.kts_spec.specs.Specifications.{is_spec, is_formula}
use Rattle.kts_spec.specs.Texts.{text}
use Rattle.kts_spec.specs.Worlds.{World, world_of, size_of, table_of}
use Rattle.kts_spec.proofs.Meanings.{on_schedules, same_list_all, same_list_any, truth_on-Implies, truth_on-Forall, truth_on-Exists}
use Rattle.kts_spec.proofs.TreeSizes.{sizes}
use Rattle.kts_spec.proofs.Typings.{typings}
use Rattle.kts_spec.specs.Examples.{Formulas, Prints, Allows, PrintsAtFirst, one_choice, at_most_one, no_data, at_most_one_text, at_most_one_begun, no_choice, at_most, no_choice_text, none_line, release_schema, released, release, idle_at_zero, elsewhere, start_at_zero, number, release_and_idle, released_at, one_trip_text, no_request, no_request_text, no_trip, nothing, nothing_text, two_trips, two_trips_answer, idle_answer, load_schema, load_on_trip, capacity, two_loads, capacity_text, leg_schema, separated, separation, one_leg, separation_text, grid_schema, row_sum, full_row, two_by_two, full_row_begun}

-- ---- equal tests keep the same

filter_same : (f g : List ℤ → Bool) (xs : List (List ℤ)) → ((s : List ℤ) → f s ≡ g s) → filter f xs ≡ filter g xs
filter_same f g [] h = refl
filter_same f g (x ∷ xs) h = let e = h x in let rest = filter_same f g xs h in cc

kept_by : (w : World) (formulas : List Formula) (test : List ℤ → Bool) → ((s : List ℤ) → is_kept w formulas s ≡ test s) → kept_of w formulas ≡ filter test (schedules w)
kept_by w formulas test h = filter_same (is_kept w formulas) test (schedules w) h

for_all_same : (f g : List ℕ → Bool) (sizes vars : List ℕ) → ((vs : List ℕ) → f vs ≡ g vs) → for_all sizes f vars ≡ for_all sizes g vars
for_all_same f g [] vars h = h vars
for_all_same f g (n ∷ sizes) vars h = same_list_all _ _ (range_with_len 0 n) (λ m. for_all_same f g sizes (vars ++ m ∷ []) h)

for_some_same : (f g : List ℕ → Bool) (sizes vars : List ℕ) → ((vs : List ℕ) → f vs ≡ g vs) → for_some sizes f vars ≡ for_some sizes g vars
for_some_same f g [] vars h = h vars
for_some_same f g (n ∷ sizes) vars h = same_list_any _ _ (range_with_len 0 n) (λ m. for_some_same f g sizes (vars ++ m ∷ []) h)

abbrev formulas_in : Formulas → List Formula
formulas_in = map (λ f. f.1)

-- what is printed for an answer that is known, and for a part of it
prints : (schema : Schema) (formulas : Formulas) (inst : Instance) (bytes : List ℕ) (xs : List (List ℤ)) → is_spec schema formulas ≡ true → is_valid schema inst ≡ true
    → kept_of (world_of schema inst) (formulas_in formulas) ≡ xs → text schema inst xs (End (length xs)) ≡ bytes → Prints schema formulas inst bytes
prints schema formulas inst bytes xs a v e t = record { accepted = a; valid = v; printed = ap (λ list. text schema inst list (End (length list))) e ∙ t }

prints_at_first : (schema : Schema) (formulas : Formulas) (inst : Instance) (k : ℕ) (bytes : List ℕ) (xs : List (List ℤ)) → is_spec schema formulas ≡ true → is_valid schema inst ≡ true
    → kept_of (world_of schema inst) (formulas_in formulas) ≡ xs → text schema inst (take k xs) (Budget k) ≡ bytes → PrintsAtFirst schema formulas inst k bytes
prints_at_first schema formulas inst k bytes xs a v e t = record { accepted = a; valid = v; printed = ap (λ list. text schema inst (take k list) (Budget k)) e ∙ t }

-- ---- the specifications are accepted

one_choice_accepted : is_spec one_choice at_most_one ≡ true
unfolding is_spec is_formula
one_choice_accepted = simp (typings, sizes) refl

pub release_accepted : is_spec release_schema release ≡ true
unfolding is_spec is_formula
release_accepted = simp (typings, sizes) refl

both_accepted : is_spec release_schema release_and_idle ≡ true
unfolding is_spec is_formula
both_accepted = simp (typings, sizes) refl

capacity_accepted : is_spec load_schema capacity ≡ true
unfolding is_spec is_formula
capacity_accepted = simp (typings, sizes) refl

separation_accepted : is_spec leg_schema separation ≡ true
unfolding is_spec is_formula
separation_accepted = simp (typings, sizes) refl

full_row_accepted : is_spec grid_schema full_row ≡ true
unfolding is_spec is_formula
full_row_accepted = simp (typings, sizes) refl

-- ---- what the formulas test

module _ (w : World) (s : List ℤ) where
  -- a variable, an access to a choice, an access to a given
  abbrev at : List ℕ → ℕ → ℤ
  at vars k = pos (slice_index vars k)

  abbrev chosen : ℕ → List ℤ → ℤ
  chosen x args = lookup s (cell w x args) (pos 0)

  abbrev told : ℕ → List ℤ → ℤ
  told f args = lookup (table_of w f) (entry w f args) (pos 0)

  abbrev released_test : List ℕ → Bool
  released_test vars = not (int_same (chosen 0 (at vars 0 ∷ [])) (at vars 1)) || int_le (told 0 (at vars 0 ∷ [])) (chosen 1 (at vars 1 ∷ []))

  released_is : (vars : List ℕ) → truth_on w s released vars ≡ released_test vars
  released_is vars = simp on_schedules

  release_is : truth_on w s (formula.Forall (0 ∷ 1 ∷ []) released) [] ≡ for_all (map (size_of w) (0 ∷ 1 ∷ [])) released_test []
  release_is = truth_on-Forall w s [] (0 ∷ 1 ∷ []) released ∙ for_all_same _ _ (map (size_of w) (0 ∷ 1 ∷ [])) [] released_is

  abbrev elsewhere_test : List ℕ → Bool
  elsewhere_test vars = not (int_same (chosen 0 (at vars 1 ∷ [])) (at vars 0))

  elsewhere_is : (vars : List ℕ) → truth_on w s elsewhere vars ≡ elsewhere_test vars
  elsewhere_is vars = simp on_schedules

  unused_is : (vars : List ℕ) → truth_on w s (formula.Forall (0 ∷ []) elsewhere) vars ≡ for_all (map (size_of w) (0 ∷ [])) elsewhere_test vars
  unused_is vars = truth_on-Forall w s vars (0 ∷ []) elsewhere ∙ for_all_same _ _ (map (size_of w) (0 ∷ [])) vars elsewhere_is

  abbrev idle_test : List ℕ → Bool
  idle_test vars = not (for_all (map (size_of w) (0 ∷ [])) elsewhere_test vars) || int_same (chosen 1 (at vars 0 ∷ [])) (pos 0)

  idle_at_zero_is : (vars : List ℕ) → truth_on w s idle_at_zero vars ≡ idle_test vars
  idle_at_zero_is vars =
      truth_on-Implies w s vars (formula.Forall (0 ∷ []) elsewhere) start_at_zero
      ∙ (let e = unused_is vars in let f : truth_on w s start_at_zero vars ≡ int_same (chosen 1 (at vars 0 ∷ [])) (pos 0) = simp on_schedules in cc)

  idle_is : truth_on w s (formula.Forall (1 ∷ []) idle_at_zero) [] ≡ for_all (map (size_of w) (1 ∷ [])) idle_test []
  idle_is = truth_on-Forall w s [] (1 ∷ []) idle_at_zero ∙ for_all_same _ _ (map (size_of w) (1 ∷ [])) [] idle_at_zero_is

  -- the load on a trip
  abbrev load_of : List ℕ → ℤ
  load_of vars = total (map (λ m. if int_same (chosen 0 (at (vars ++ m ∷ []) 1 ∷ [])) (at (vars ++ m ∷ []) 0) then told 0 (at (vars ++ m ∷ []) 1 ∷ []) else pos 0) (range_with_len 0 (size_of w 0)))

  capacity_is : truth_on w s (formula.Forall (1 ∷ []) (formula.Compare Le load_on_trip (number 5))) [] ≡ for_all (map (size_of w) (1 ∷ [])) (λ vars. int_le (load_of vars) (pos 5)) []
  capacity_is =
      truth_on-Forall w s [] (1 ∷ []) (formula.Compare Le load_on_trip (number 5))
      ∙ for_all_same _ _ (map (size_of w) (1 ∷ [])) [] at_each_trip
    where
      at_each_trip : (vars : List ℕ) → truth_on w s (formula.Compare Le load_on_trip (number 5)) vars ≡ int_le (load_of vars) (pos 5)
      at_each_trip vars = simp on_schedules

  floor_is : truth_on w s (formula.Forall (1 ∷ []) (formula.Compare Ge load_on_trip (number 3))) [] ≡ for_all (map (size_of w) (1 ∷ [])) (λ vars. int_le (pos 3) (load_of vars)) []
  floor_is =
      truth_on-Forall w s [] (1 ∷ []) (formula.Compare Ge load_on_trip (number 3))
      ∙ for_all_same _ _ (map (size_of w) (1 ∷ [])) [] at_each_trip
    where
      at_each_trip : (vars : List ℕ) → truth_on w s (formula.Compare Ge load_on_trip (number 3)) vars ≡ int_le (pos 3) (load_of vars)
      at_each_trip vars = simp on_schedules

  abbrev separated_test : List ℕ → Bool
  separated_test vars = int_le (total (chosen 0 (told 0 (at vars 0 ∷ []) ∷ []) ∷ told 2 [] ∷ [])) (chosen 0 (told 1 (at vars 0 ∷ []) ∷ []))

  separated_is : (vars : List ℕ) → truth_on w s separated vars ≡ separated_test vars
  separated_is vars = simp on_schedules

  separation_is : truth_on w s (formula.Forall (1 ∷ []) separated) [] ≡ for_all (map (size_of w) (1 ∷ [])) separated_test []
  separation_is = truth_on-Forall w s [] (1 ∷ []) separated ∙ for_all_same _ _ (map (size_of w) (1 ∷ [])) [] separated_is

  abbrev row_total : List ℕ → ℤ
  row_total vars = total (map (λ m. chosen 0 (at (vars ++ m ∷ []) 0 ∷ at (vars ++ m ∷ []) 1 ∷ [])) (range_with_len 0 (size_of w 1)))

  full_row_is : truth_on w s (formula.Exists (0 ∷ []) (formula.Compare Gt row_sum (number 1))) [] ≡ for_some (map (size_of w) (0 ∷ [])) (λ vars. not (int_le (row_total vars) (pos 1))) []
  full_row_is =
      truth_on-Exists w s [] (0 ∷ []) (formula.Compare Gt row_sum (number 1))
      ∙ for_some_same _ _ (map (size_of w) (0 ∷ [])) [] at_each_row
    where
      at_each_row : (vars : List ℕ) → truth_on w s (formula.Compare Gt row_sum (number 1)) vars ≡ not (int_le (row_total vars) (pos 1))
      at_each_row vars = simp on_schedules

-- ---- the examples

one_kept : (a b : Bool) → a ≡ b → (a && true) ≡ b
one_kept a b e = grind (arith, e)

two_kept : (a b c d : Bool) → a ≡ b → c ≡ d → (a && (c && true)) ≡ (b && d)
two_kept a b c d e f = grind (arith, e, f)

-- one choice

abbrev one_choice_world : World
one_choice_world = world_of one_choice no_data

abbrev one_choice_test : List ℤ → Bool
one_choice_test s = int_le (chosen one_choice_world s 0 []) (pos 1)

one_choice_is : (s : List ℤ) → is_kept one_choice_world (formulas_in at_most_one) s ≡ one_choice_test s
one_choice_is s = simp on_schedules (one_kept _ _ refl)

one_choice_kept : kept_of one_choice_world (formulas_in at_most_one) ≡ filter one_choice_test (schedules one_choice_world)
one_choice_kept = kept_by one_choice_world (formulas_in at_most_one) one_choice_test one_choice_is

pub one_choice_prints : Prints one_choice at_most_one no_data at_most_one_text
unfolding is_valid digits
one_choice_prints = prints one_choice at_most_one no_data at_most_one_text _ one_choice_accepted refl one_choice_kept refl

pub one_choice_prints_at_first : PrintsAtFirst one_choice at_most_one no_data 1 at_most_one_begun
unfolding is_valid digits
one_choice_prints_at_first = prints_at_first one_choice at_most_one no_data 1 at_most_one_begun _ one_choice_accepted refl one_choice_kept refl

-- no choice

module _ (a b : ℕ) where
  no_choice_is : (s : List ℤ) → is_kept (world_of no_choice no_data) (formulas_in (at_most a b)) s ≡ int_le (pos a) (pos b)
  no_choice_is s = simp on_schedules (one_kept _ _ refl)

  no_choice_kept : kept_of (world_of no_choice no_data) (formulas_in (at_most a b)) ≡ filter (λ s. int_le (pos a) (pos b)) (schedules (world_of no_choice no_data))
  no_choice_kept = kept_by (world_of no_choice no_data) (formulas_in (at_most a b)) (λ s. int_le (pos a) (pos b)) no_choice_is

true_accepted : is_spec no_choice (at_most 0 0) ≡ true
unfolding is_spec is_formula
true_accepted = simp (typings, sizes) refl

false_accepted : is_spec no_choice (at_most 1 0) ≡ true
unfolding is_spec is_formula
false_accepted = simp (typings, sizes) refl

pub no_choice_prints : Prints no_choice (at_most 0 0) no_data no_choice_text
unfolding is_valid digits
no_choice_prints = prints no_choice (at_most 0 0) no_data no_choice_text _ true_accepted refl (no_choice_kept 0 0) refl

pub no_choice_prints_none : Prints no_choice (at_most 1 0) no_data none_line
unfolding is_valid digits
no_choice_prints_none = prints no_choice (at_most 1 0) no_data none_line _ false_accepted refl (no_choice_kept 1 0) refl

-- requests on trips

module _ (inst : Instance) where
  abbrev requests : World
  requests = world_of release_schema inst

  abbrev release_test : List ℤ → Bool
  release_test s = for_all (map (size_of requests) (0 ∷ 1 ∷ [])) (released_test requests s) []

  release_kept : kept_of requests (formulas_in release) ≡ filter release_test (schedules requests)
  release_kept = kept_by requests (formulas_in release) release_test (λ s. one_kept _ _ (release_is requests s))

  abbrev both_test : List ℤ → Bool
  both_test s = release_test s && for_all (map (size_of requests) (1 ∷ [])) (idle_test requests s) []

  both_kept : kept_of requests (formulas_in release_and_idle) ≡ filter both_test (schedules requests)
  both_kept = kept_by requests (formulas_in release_and_idle) both_test (λ s. two_kept _ _ _ _ (release_is requests s) (idle_is requests s))

pub one_trip_prints : Prints release_schema release (released_at 2) one_trip_text
unfolding is_valid digits
one_trip_prints = prints release_schema release (released_at 2) one_trip_text _ release_accepted refl (release_kept (released_at 2)) refl

pub late_release_prints_none : Prints release_schema release (released_at 4) none_line
unfolding is_valid digits
late_release_prints_none = prints release_schema release (released_at 4) none_line _ release_accepted refl (release_kept (released_at 4)) refl

pub no_request_prints : Prints release_schema release no_request no_request_text
unfolding is_valid digits
no_request_prints = prints release_schema release no_request no_request_text _ release_accepted refl (release_kept no_request) refl

pub no_trip_prints_none : Prints release_schema release no_trip none_line
unfolding is_valid digits
no_trip_prints_none = prints release_schema release no_trip none_line _ release_accepted refl (release_kept no_trip) refl

pub nothing_prints : Prints release_schema release nothing nothing_text
unfolding is_valid digits
nothing_prints = prints release_schema release nothing nothing_text _ release_accepted refl (release_kept nothing) refl

pub two_trips_allow : Allows release_schema release two_trips two_trips_answer
unfolding is_valid
two_trips_allow = record { accepted = release_accepted; valid = refl; answered = release_kept two_trips }

pub idle_allows : Allows release_schema release_and_idle two_trips idle_answer
unfolding is_valid
idle_allows = record { accepted = both_accepted; valid = refl; answered = both_kept two_trips }

-- loads

abbrev loads : World
loads = world_of load_schema two_loads

abbrev load_test : List ℤ → Bool
load_test s =
    for_all (map (size_of loads) (1 ∷ [])) (λ vars. int_le (load_of loads s vars) (pos 5)) []
    && for_all (map (size_of loads) (1 ∷ [])) (λ vars. int_le (pos 3) (load_of loads s vars)) []

load_kept : kept_of loads (formulas_in capacity) ≡ filter load_test (schedules loads)
load_kept = kept_by loads (formulas_in capacity) load_test (λ s. two_kept _ _ _ _ (capacity_is loads s) (floor_is loads s))

pub capacity_prints : Prints load_schema capacity two_loads capacity_text
unfolding is_valid digits
capacity_prints = prints load_schema capacity two_loads capacity_text _ capacity_accepted refl load_kept refl

-- legs

abbrev legs : World
legs = world_of leg_schema one_leg

abbrev leg_test : List ℤ → Bool
leg_test s = for_all (map (size_of legs) (1 ∷ [])) (separated_test legs s) []

leg_kept : kept_of legs (formulas_in separation) ≡ filter leg_test (schedules legs)
leg_kept = kept_by legs (formulas_in separation) leg_test (λ s. one_kept _ _ (separation_is legs s))

pub separation_prints : Prints leg_schema separation one_leg separation_text
unfolding is_valid digits
separation_prints = prints leg_schema separation one_leg separation_text _ separation_accepted refl leg_kept refl

-- a grid

abbrev grid : World
grid = world_of grid_schema two_by_two

abbrev grid_test : List ℤ → Bool
grid_test s = for_some (map (size_of grid) (0 ∷ [])) (λ vars. not (int_le (row_total grid s vars) (pos 1))) []

grid_kept : kept_of grid (formulas_in full_row) ≡ filter grid_test (schedules grid)
grid_kept = kept_by grid (formulas_in full_row) grid_test (λ s. one_kept _ _ (full_row_is grid s))

pub full_row_prints_at_first : PrintsAtFirst grid_schema full_row two_by_two 2 full_row_begun
unfolding is_valid digits
full_row_prints_at_first = prints_at_first grid_schema full_row two_by_two 2 full_row_begun _ full_row_accepted refl grid_kept refl
