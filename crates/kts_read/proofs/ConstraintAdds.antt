-- What the lines of constraints and of patterns add.
use Rattle.std.proofs.Common.{◌≡◌, refl, sym, ◌∙◌, ap, subst, ℕ, ℤ, pos, negsuc, suc, ◌+◌, ◌<◌, ◌≤◌, ◌==◌, List, [], ◌∷◌, ◌++◌, length, length-append, length-drop, drop, drop-cons, add-one, map, min, Bool, true, false, ◌&&◌, nat_lt, nat_le, nat_eq, if◌then◌else◌, Option, None, Some, Ok, arith}
use Rattle.std.specs.Prelude.{codes, decimal, int_le, zip, slice_index, slice_index_or}
use Rattle.std.specs.List.{list_all}
use Rattle.std.proofs.lemmas.Bool.{and_parts, and_from}
use Rattle.std.proofs.lemmas.List.{drop_all}
use Rattle.kts_base.specs.Limits.{most_instructions, most_prefix, most_number}
use Rattle.kts_base.specs.Names.{is_between}
use Rattle.kts_base.specs.Reads.{each_from}
use Rattle.kts_code.specs.CodeTexts.{task_words, place_word, wake_words}
use Rattle.kts_code.specs.WellFormed.{is_place, are_places}
use Rattle.kts_index.specs.declared.pattern.Pattern.{Pattern}
use Rattle.kts_spec.specs.Schemas.{is_prefix, family_at}
use Rattle.kts_spec.specs.declared.declarations.Family.{Family}
use Rattle.kts_read.specs.ConstraintLines.{entry_or, entry_in, with_task, task_line, place_or, place_in, places_in, with_pattern, constraint_of, pattern_of, choice_of, wake_line}
use Rattle.kts_read.specs.DeclarationLines.{args_from}
use Rattle.kts_read.specs.Goods.{AreTasks, ArePatterns, fits_pattern}
use Rattle.kts_read.specs.Words.{is_text, word, number_of, whole_in, number_below}
use Rattle.kts_read.specs.Written.{task_lines, wake_lines}
use Rattle.kts_read.specs.declared.constraints.Constraints.{Constraints}
use Rattle.kts_read.specs.declared.declarations.Declared.{Declared}
use Rattle.kts_read.proofs.ArgumentLoops.{args_at}
use Rattle.kts_read.proofs.FamilyLines.{args_found, map_count}
use Rattle.kts_read.proofs.MoreDeclarations.{map_more}
use Rattle.kts_read.proofs.NumberTexts.{text_same, number_text}
use Rattle.kts_read.proofs.PlaceLoops.{places_at}
use Rattle.kts_read.proofs.Tests.{if_ok, ok_same, then_ok, accepted, same_length, no_negative, whole_found, below_found, between_parts, lt_found, lt_test, le_test}

-- ---- lines

pub all_more : {X : Type 0} (test : X → Bool) (xs : List X) (x : X) → list_all test xs ≡ true → test x ≡ true → list_all test (xs ++ x ∷ []) ≡ true
all_more test [] x all one = and_from (test x) true one refl
all_more test (y ∷ ys) x all one = let both = and_parts (test y) (list_all test ys) all in and_from (test y) (list_all test (ys ++ x ∷ [])) both.0 (all_more test ys x both.1 one)

zip_more : {X Y : Type 0} (xs : List X) (ys : List Y) (x : X) (y : Y) → length xs ≡ length ys → zip (xs ++ x ∷ []) (ys ++ y ∷ []) ≡ zip xs ys ++ (x, y) ∷ []
zip_more [] [] x y e = refl
zip_more [] (b ∷ ys) x y e = absurd (omega (arith, e))
zip_more (a ∷ xs) [] x y e = absurd (omega (arith, e))
zip_more (a ∷ xs) (b ∷ ys) x y e = ap (λ rest. (a, b) ∷ rest) (zip_more xs ys x y (omega (arith, e)))

-- ---- a constraint

entry_found : (bytes : List ℕ) (n : ℕ) → entry_in bytes ≡ Ok n → (bytes ≡ decimal n) × (nat_le n most_number ≡ true)
unfolding entry_in
entry_found bytes n e = by_number (number_of bytes) refl e
  where
    by_number : (found : Option ℤ) → number_of bytes ≡ found → entry_or found ≡ Ok n → (bytes ≡ decimal n) × (nat_le n most_number ≡ true)
    by_number None f s = absurd cc
    by_number (Some (pos m)) f s =
        let c = if_ok (int_le (pos 0) (pos m)) (accepted m) _ n s in
        let same : m ≡ n = ok_same m n c.1 in
        let t = number_text bytes (pos m) f in
        (t.0 ∙ ap decimal same, sym (ap (λ k. nat_le k most_number) same) ∙ t.1)
    by_number (Some (negsuc m)) f s = let c = if_ok (int_le (pos 0) (negsuc m)) (accepted (suc m)) _ n s in absurd (no_negative 0 m c.0)

from_two : (words : List (List ℕ)) → 2 ≤ length words → words ≡ word words 0 ∷ word words 1 ∷ drop 2 words
from_two [] h = absurd (omega (arith, h))
from_two (a ∷ []) h = absurd (omega (arith, h))
from_two (a ∷ b ∷ ws) h = refl

-- what the line of a constraint makes of the constraints
pub record AddsTask (indexes : ℕ) (c : Constraints) (words : List (List ℕ)) (e : Constraints) : Type 0 where
  pub good : AreTasks indexes e
  pub lines : task_lines e ≡ task_lines c ++ words ∷ []
  pub patterns : e.patterns ≡ c.patterns
  pub some : 1 ≤ length e.entries

abbrev pub more_task : Constraints → ℕ → List ℕ → Constraints
more_task c entry prefix = record { entries = c.entries ++ entry ∷ []; prefixes = c.prefixes ++ prefix ∷ []; patterns = c.patterns }

task_more : (indexes : ℕ) (c : Constraints) (entry : ℕ) (prefix : List ℕ) (words : List (List ℕ)) → AreTasks indexes c → length c.entries < most_instructions → nat_le entry most_number ≡ true → is_prefix indexes prefix ≡ true → words ≡ codes "task" ∷ decimal entry ∷ map decimal prefix
    → AddsTask indexes c words (more_task c entry prefix)
task_more indexes c entry prefix words a room small sound is =
    let e = length-append c.entries (entry ∷ []) in
    let p = length-append c.prefixes (prefix ∷ []) in
    let same = a.same in
    record {
      good = record {
        same = omega (arith, e, p, same);
        small = all_more (λ to. nat_le to most_number) c.entries entry a.small small;
        few = omega (arith, p, same, room);
        prefixes = all_more (is_prefix indexes) c.prefixes prefix a.prefixes sound;
      };
      lines =
          ap (map task_words) (zip_more c.entries c.prefixes entry prefix a.same) ∙ map_more task_words (zip c.entries c.prefixes) (entry, prefix)
          ∙ ap (λ (w : List (List ℕ)). task_lines c ++ w ∷ []) (sym is);
      patterns = refl;
      some = omega (arith, e);
    }

pub task_adds : (indexes : ℕ) (c e : Constraints) (words : List (List ℕ)) → AreTasks indexes c → word words 0 ≡ codes "task" → task_line indexes c words ≡ Ok e → AddsTask indexes c words e
unfolding task_line with_task args_from
task_adds indexes c e words a first s =
    let count = if_ok (is_between 2 5 (length words)) _ _ e s in
    let between = between_parts 2 5 (length words) count.0 in
    let entry = then_ok (entry_in (word words 1)) _ e count.1 in
    let prefix = then_ok (args_at indexes (drop 2 words)) _ e entry.2 in
    let room = if_ok (nat_lt (length c.entries) most_instructions) _ _ e prefix.2 in
    let args = args_found indexes (drop 2 words) prefix.0 prefix.1 in
    let few : length prefix.0 ≤ most_prefix = omega (arith, length-drop 2 words, ap length args.0, map_count decimal prefix.0, between.1) in
    let sound : is_prefix indexes prefix.0 ≡ true = and_from (nat_le (length prefix.0) most_prefix) (list_all (λ i. nat_lt i indexes) prefix.0) (le_test (length prefix.0) most_prefix few) args.1 in
    let is : words ≡ codes "task" ∷ decimal entry.0 ∷ map decimal prefix.0 =
    from_two words between.0 ∙ ap (λ (w : List ℕ). w ∷ word words 1 ∷ drop 2 words) first ∙ ap (λ (w : List ℕ). codes "task" ∷ w ∷ drop 2 words) (entry_found (word words 1) entry.0 entry.1).0
    ∙ ap (λ (ws : List (List ℕ)). codes "task" ∷ decimal entry.0 ∷ ws) args.0 in
    subst (AddsTask indexes c words) (ok_same _ _ room.1) (task_more indexes c entry.0 prefix.0 words a (lt_found _ _ room.0) (entry_found (word words 1) entry.0 entry.1).1 sound is)

-- ---- a pattern

place_found : (prefix : List ℕ) (index : ℕ) (bytes : List ℕ) (p : Option ℕ) → place_in prefix index bytes ≡ Ok p → (bytes ≡ place_word p) × (is_place prefix index p ≡ true)
unfolding place_in
place_found prefix index bytes p e = by_star (is_text bytes (codes "*")) refl e
  where
    by_number : (found : Option ℕ) → whole_in 0 (min (length prefix) most_prefix) bytes ≡ found → place_or prefix index found ≡ Ok p → (bytes ≡ place_word p) × (is_place prefix index p ≡ true)
    by_number None f s = absurd cc
    by_number (Some k) f s =
        let c = if_ok (nat_eq (slice_index prefix k) index) (accepted (Some k)) _ p s in
        let w = whole_found 0 (min (length prefix) most_prefix) k bytes f in
        let less = w.2 in
        let same : Some k ≡ p = ok_same (Some k) p c.1 in
        rw (← same) (w.0, and_from (nat_lt k (length prefix)) (nat_eq (slice_index prefix k) index) (lt_test k (length prefix) (omega (arith, less))) c.0)

    by_star : (t : Bool) → is_text bytes (codes "*") ≡ t → (if t then accepted None else place_or prefix index (whole_in 0 (min (length prefix) most_prefix) bytes)) ≡ Ok p → (bytes ≡ place_word p) × (is_place prefix index p ≡ true)
    by_star true t s = let same : None ≡ p = ok_same None p s in rw (← same) (text_same bytes (codes "*") t, refl)
    by_star false t s = by_number (whole_in 0 (min (length prefix) most_prefix) bytes) refl s

pub drop_here : (words : List (List ℕ)) (k n : ℕ) → length words ≡ k + suc n → drop k words ≡ word words k ∷ drop (k + 1) words
drop_here words k n h = drop-cons words k [] (omega (arith, h)) ∙ rw add-one refl

places_found : (prefix : List ℕ) (words : List (List ℕ)) (k : ℕ) (args : List ℕ) (places : List (Option ℕ)) → places_at prefix words k args ≡ Ok places → length words ≡ k + length args → (drop k words ≡ map place_word places) × (are_places prefix args places ≡ true)
unfolding each_from
places_found prefix words k [] places e h = let same : [] ≡ places = cc in rw (← same) (drop_all k words (omega (arith, h)), refl)
places_found prefix words k (index ∷ args) places e h =
    let a = then_ok (place_in prefix index (word words k)) _ places e in
    let b = then_ok (places_at prefix words (k + 1) args) _ places a.2 in
    let one = place_found prefix index (word words k) a.0 a.1 in
    let more = places_found prefix words (k + 1) args b.0 b.1 (omega (arith, h)) in
    let same : a.0 ∷ b.0 ≡ places = ok_same _ _ b.2 in
    rw (← same) (
      drop_here words k (length args) h ∙ ap (λ (w : List ℕ). w ∷ drop (k + 1) words) one.0 ∙ ap (λ (ws : List (List ℕ)). place_word a.0 ∷ ws) more.0,
      and_from (is_place prefix index a.0) (are_places prefix args b.0) one.1 more.1,
    )

from_three : (words : List (List ℕ)) → 3 ≤ length words → words ≡ word words 0 ∷ word words 1 ∷ word words 2 ∷ drop 3 words
from_three [] h = absurd (omega (arith, h))
from_three (a ∷ []) h = absurd (omega (arith, h))
from_three (a ∷ b ∷ []) h = absurd (omega (arith, h))
from_three (a ∷ b ∷ c ∷ ws) h = refl

-- what the line of a pattern makes of the constraints
pub record AddsPattern (choices : List Family) (c : Constraints) (words : List (List ℕ)) (e : Constraints) : Type 0 where
  pub good : ArePatterns choices e
  pub lines : wake_lines e ≡ wake_lines c ++ words ∷ []
  pub entries : e.entries ≡ c.entries
  pub prefixes : e.prefixes ≡ c.prefixes
  pub some : 1 ≤ length e.patterns

abbrev pub more_pattern : Constraints → Pattern → Constraints
more_pattern c p = record { entries = c.entries; prefixes = c.prefixes; patterns = c.patterns ++ p ∷ [] }

pattern_more : (choices : List Family) (c : Constraints) (p : Pattern) (words : List (List ℕ)) → ArePatterns choices c → length c.patterns < most_instructions → fits_pattern choices c.prefixes p ≡ true → words ≡ wake_words p → AddsPattern choices c words (more_pattern c p)
pattern_more choices c p words a room sound is =
    let n = length-append c.patterns (p ∷ []) in
    record {
      good = record { few = omega (arith, n, room); fit = all_more (fits_pattern choices c.prefixes) c.patterns p a.fit sound };
      lines = map_more wake_words c.patterns p ∙ ap (λ (w : List (List ℕ)). wake_lines c ++ w ∷ []) (sym is);
      entries = refl;
      prefixes = refl;
      some = omega (arith, n);
    }

pub wake_adds : (x : Declared) (c e : Constraints) (words : List (List ℕ)) → ArePatterns x.choices c → word words 0 ≡ codes "wake" → wake_line x c words ≡ Ok e → AddsPattern x.choices c words e
unfolding wake_line pattern_of places_in with_pattern
wake_adds x c e words a first s =
    let count = if_ok (is_between 3 5 (length words)) _ _ e s in by_choice (number_below (length x.choices) (word words 2)) refl (between_parts 3 5 (length words) count.0).0 count.1
  where
    by_constraint : (choice : ℕ) (found : Option ℕ) → number_below (length c.prefixes) (word words 1) ≡ found → (word words 2 ≡ decimal choice) × (choice < length x.choices) → length words ≡ length (family_at x.choices choice).args + 3 → 3 ≤ length words
        → constraint_of c choice (family_at x.choices choice).args words found ≡ Ok e → AddsPattern x.choices c words e
    by_constraint choice None f there count some s = absurd cc
    by_constraint choice (Some d) f there count some s =
        let args = (family_at x.choices choice).args in
        let prefix = slice_index_or c.prefixes d [] in
        let n = below_found (length c.prefixes) d (word words 1) f in
        let places = then_ok (places_at (slice_index_or c.prefixes d []) words 3 (family_at x.choices choice).args) _ e s in
        let room = if_ok (nat_lt (length c.patterns) most_instructions) _ _ e places.2 in
        let found = places_found (slice_index_or c.prefixes d []) words 3 (family_at x.choices choice).args places.0 places.1 (omega (arith, count)) in
        let p : Pattern = record { definite = d; choice = choice; args = places.0 } in
        let sound : fits_pattern x.choices c.prefixes (record { definite = d; choice = choice; args = places.0 }) ≡ true =
        and_from (nat_lt d (length c.prefixes) && nat_lt choice (length x.choices)) (are_places (slice_index_or c.prefixes d []) (family_at x.choices choice).args places.0)
        (and_from (nat_lt d (length c.prefixes)) (nat_lt choice (length x.choices)) (lt_test d (length c.prefixes) n.1) (lt_test choice (length x.choices) there.1)) found.1 in
        let is : words ≡ wake_words (record { definite = d; choice = choice; args = places.0 }) =
        from_three words some ∙ ap (λ (w : List ℕ). w ∷ word words 1 ∷ word words 2 ∷ drop 3 words) first ∙ ap (λ (w : List ℕ). codes "wake" ∷ w ∷ word words 2 ∷ drop 3 words) n.0
        ∙ ap (λ (w : List ℕ). codes "wake" ∷ decimal d ∷ w ∷ drop 3 words) there.0 ∙ ap (λ (ws : List (List ℕ)). codes "wake" ∷ decimal d ∷ decimal choice ∷ ws) found.0 in
        subst (AddsPattern x.choices c words) (ok_same _ _ room.1) (pattern_more x.choices c (record { definite = d; choice = choice; args = places.0 }) words a (lt_found _ _ room.0) sound is)

    by_choice : (found : Option ℕ) → number_below (length x.choices) (word words 2) ≡ found → 3 ≤ length words → choice_of x c words found ≡ Ok e → AddsPattern x.choices c words e
    by_choice None f some s = absurd cc
    by_choice (Some choice) f some s =
        let n = below_found (length x.choices) choice (word words 2) f in
        let l = if_ok (length words == length (family_at x.choices choice).args + 3) _ _ e s in
        by_constraint choice (number_below (length c.prefixes) (word words 1)) refl n (same_length _ _ l.0) some l.1
