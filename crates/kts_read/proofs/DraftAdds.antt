-- The lines that a draft was read from, and what each line adds.
use Rattle.std.proofs.Common.{◌≡◌, refl, sym, ◌∙◌, ap, subst, ℕ, ℤ, pos, negsuc, suc, ◌+◌, ◌<◌, ◌≤◌, ◌==◌, List, [], ◌∷◌, ◌++◌, append_assoc, append-nil, length, length-append, map, Bool, true, false, not, ◌&&◌, nat_lt, nat_le, if◌then◌else◌, Option, None, Some, Ok, arith}
use Rattle.std.specs.Prelude.{codes, decimal, int_le}
use Rattle.std.specs.List.{list_all, prefix_len}
use Rattle.std.proofs.lemmas.Bool.Decides.{nat_tests}
use Rattle.kts_base.specs.Limits.{most_instructions, most_stack, most_number}
use Rattle.kts_code.specs.declared.instructions.Instr.{Instr}
use Rattle.kts_code.specs.CodeTexts.{header_words, name_words, wake_words, stack_words, size_words, instr_words, end_words}
use Rattle.kts_spec.specs.Names.{is_language_name}
use Rattle.kts_spec.specs.Schemas.{is_prefix}
use Rattle.kts_read.specs.ConstraintLines.{no_constraints, task_line, wake_line}
use Rattle.kts_read.specs.DeclarationLines.{index_line, given_line, choose_line, manifest_line}
use Rattle.kts_read.specs.Faults.{at_line}
use Rattle.kts_read.specs.Goods.{AreDeclared, AreTasks, ArePatterns, IsOpen, Opens, Unsized, IsStack, HasSize, Good, instr_fits, fits_pattern}
use Rattle.kts_read.specs.InstructionLines.{instr_line}
use Rattle.kts_read.specs.Reading.{nothing, begun, named, declaring, constrained, stacked, sized, coded, ended, with_name, name_line, stack_or, stack_in, size_or, size_in, placed_count, size_line, stack_line, pattern_line, constraint_line, declaration_line, counts_in, end_line, body_line}
use Rattle.kts_read.specs.Words.{is_text, word, name_in, number_of, whole_in}
use Rattle.kts_read.specs.Written.{AllWords, decl_lines, task_lines, wake_lines, name_or, heads, written}
use Rattle.kts_read.specs.declared.constraints.Constraints.{Constraints}
use Rattle.kts_read.specs.declared.declarations.Declared.{Declared}
use Rattle.kts_read.specs.declared.draft.Draft.{Draft}
use Rattle.kts_read.specs.declared.draft.Part.{Part}
use Rattle.kts_read.specs.declared.draft.Part.TheVariants.{Tasks, Wakes, Instructions}
use Rattle.kts_read.proofs.ConstraintAdds.{AddsTask, task_adds, AddsPattern, wake_adds, all_more}
use Rattle.kts_read.proofs.DeclarationAdds.{Declares, index_declares, given_declares, choose_declares, manifest_declares}
use Rattle.kts_read.proofs.InstrAdds.{IsRoomy, SaysInstr, instr_found}
use Rattle.kts_read.proofs.MoreDeclarations.{map_more}
use Rattle.kts_read.proofs.NumberTexts.{text_same, number_text}
use Rattle.kts_read.proofs.Tests.{if_ok, else_ok, ok_same, taken_same, then_ok, ok_at, test_of, same_length, one_word, two_words, name_found, whole_found, at_least_pos, lt_found, not_lt}

-- what a line makes of a draft that was read from these lines
pub record Adds (front : AllWords) (words : List (List ℕ)) (e : Draft) : Type 0 where
  pub good : Good e.part e
  pub lines : written e e.part ≡ front ++ words ∷ []

-- ---- places of lines

decl_place : (a b t w : AllWords) (line : List (List ℕ)) → b ≡ a ++ line ∷ [] → t ≡ [] → w ≡ [] → b ++ (t ++ w) ≡ (a ++ (t ++ w)) ++ line ∷ []
decl_place a b t w line e f g = rw (e, f, g) (append-nil (a ++ line ∷ []) ∙ ap (λ (l : AllWords). l ++ line ∷ []) (sym (append-nil a)))

task_place : (a t u w : AllWords) (line : List (List ℕ)) → u ≡ t ++ line ∷ [] → w ≡ [] → a ++ (u ++ w) ≡ (a ++ (t ++ w)) ++ line ∷ []
task_place a t u w line e f =
    rw (e, f) (ap (λ (l : AllWords). a ++ l) (append-nil (t ++ line ∷ []) ∙ ap (λ (l : AllWords). l ++ line ∷ []) (sym (append-nil t))) ∙ sym (append_assoc a (t ++ []) (line ∷ [])))

wake_place : (a t w v : AllWords) (line : List (List ℕ)) → v ≡ w ++ line ∷ [] → a ++ (t ++ v) ≡ (a ++ (t ++ w)) ++ line ∷ []
wake_place a t w v line e =
    rw e (ap (λ (l : AllWords). a ++ l) (sym (append_assoc t w (line ∷ []))) ∙ sym (append_assoc a (t ++ w) (line ∷ [])))

headed : (name : List ℕ) (a b : AllWords) (line : List (List ℕ)) → b ≡ a ++ line ∷ [] → header_words ∷ name_words name ∷ b ≡ (header_words ∷ name_words name ∷ a) ++ line ∷ []
headed name a b line e = ap (λ (l : AllWords). header_words ∷ name_words name ∷ l) e

-- ---- the name

none_declared : AreDeclared (nothing.declared)
none_declared = record {
  few_indexes = omega arith;
  few_givens = omega arith;
  few_choices = omega arith;
  named = refl;
  distinct = refl;
  declared = (λ gs cs. refl);
  indexes = refl;
  givens = refl;
  choices = refl;
}

pub none_open : (name : List ℕ) → is_language_name name ≡ true → IsOpen (Some name) nothing.declared no_constraints
none_open name h = record {
  name = name;
  named = refl;
  is_name = h;
  declared = none_declared;
  tasks = record { same = refl; small = refl; few = omega arith; prefixes = refl };
  patterns = record { few = omega arith; fit = refl };
}

pub name_adds : (d e : Draft) (words : List (List ℕ)) → d ≡ begun nothing → name_line d words ≡ Ok e → Adds (header_words ∷ []) words e
unfolding name_line
name_adds d e words good step =
    let a = if_ok (is_text (word words 0) (codes "spec")) _ _ e step in
    let b = if_ok (length words == 2) _ _ e a.1 in
    by_name (name_in (word words 1)) refl b.1 (two_words words (same_length _ _ b.0)) (text_same _ _ a.0)
  where
    by_name : (found : Option (List ℕ)) → name_in (word words 1) ≡ found → with_name d found ≡ Ok e → words ≡ word words 0 ∷ word words 1 ∷ [] → word words 0 ≡ codes "spec" → Adds (header_words ∷ []) words e
    by_name None f s two first = absurd cc
    by_name (Some name) f s two first =
        let n = name_found (word words 1) name f in
        let is : words ≡ name_words name = two ∙ ap (λ (w : List ℕ). w ∷ word words 1 ∷ []) first ∙ ap (λ (w : List ℕ). codes "spec" ∷ w ∷ []) n.0 in
        let made : Adds (header_words ∷ []) (name_words name) (named (begun nothing) name) = record { good = (none_open name n.1, record { no_stack = refl; no_size = refl; no_instrs = refl }, refl); lines = refl } in
        subst (λ (e : Draft). Adds (header_words ∷ []) words e) (ap (λ (x : Draft). named x name) (sym good) ∙ ok_same _ _ s) (rw is made)

-- ---- the stack

-- what the line of the stack says
pub record SaysStack (words : List (List ℕ)) (stack : ℕ) : Type 0 where
  pub second : words ≡ word words 0 ∷ decimal stack ∷ []
  pub bounds : IsStack stack

pub stack_found : (words : List (List ℕ)) (stack : ℕ) → stack_in words ≡ Ok stack → SaysStack words stack
unfolding stack_in
stack_found words stack e =
    let c = if_ok (length words == 2) _ _ stack e in by_number (whole_in 1 (suc most_stack) (word words 1)) refl c.1 (two_words words (same_length _ _ c.0))
  where
    by_number : (found : Option ℕ) → whole_in 1 (suc most_stack) (word words 1) ≡ found → stack_or found ≡ Ok stack → words ≡ word words 0 ∷ word words 1 ∷ [] → SaysStack words stack
    by_number None f s two = absurd cc
    by_number (Some n) f s two =
        let w = whole_found 1 (suc most_stack) n (word words 1) f in
        let low = w.1 in
        let less = w.2 in
        let same : n ≡ stack = ok_same n stack s in
        record {
          second = two ∙ ap (λ (w : List ℕ). word words 0 ∷ w ∷ []) (w.0 ∙ ap decimal same);
          bounds = record { some = omega (arith, low, same); few = omega (arith, less, same) };
        }

pub stack_adds : (d e : Draft) (words : List (List ℕ)) → Opens d → Unsized d → stack_line d words ≡ Ok e → Adds (heads d) words e
unfolding stack_line
stack_adds d e words o none step =
    let a = if_ok (is_text (word words 0) (codes "stack")) _ _ e step in
    let b = then_ok (stack_in words) _ e a.1 in
    let says = stack_found words b.0 b.1 in
    let is : words ≡ stack_words b.0 = says.second ∙ ap (λ (w : List ℕ). w ∷ decimal b.0 ∷ []) (text_same _ _ a.0) in
    let made : Adds (heads d) (stack_words b.0) (stacked d b.0) = record { good = (o, says.bounds, none.no_size, none.no_instrs); lines = refl } in
    subst (λ (e : Draft). Adds (heads d) words e) (ok_same _ _ b.2) (subst (λ (ws : List (List ℕ)). Adds (heads d) ws (stacked d b.0)) (sym is) made)

-- ---- patterns

pattern_made : (d : Draft) (c : Constraints) (words : List (List ℕ)) → Opens d → Unsized d → AddsPattern d.declared.choices d.constraints words c → Adds (heads d) words (constrained d Wakes c)
pattern_made d c words o none a = record {
  good = (
    record {
      name = o.name;
      named = o.named;
      is_name = o.is_name;
      declared = o.declared;
      tasks = record { same = ap length a.entries ∙ o.tasks.same ∙ sym (ap length a.prefixes); small = ap (list_all (λ to. nat_le to most_number)) a.entries ∙ o.tasks.small; few = few; prefixes = ap (list_all (is_prefix (length d.declared.indexes))) a.prefixes ∙ o.tasks.prefixes };
      patterns = a.good;
    },
    none,
    a.some,
  );
  lines = headed (name_or d.name) _ _ words (ap (λ (t : AllWords). decl_lines d.declared ++ (t ++ wake_lines c)) tasks ∙ wake_place (decl_lines d.declared) (task_lines d.constraints) (wake_lines d.constraints) (wake_lines c) words a.lines);
}
  where
    few : length c.prefixes ≤ most_instructions
    few = let n = ap length a.prefixes in let old = o.tasks.few in omega (arith, n, old)

    tasks : task_lines c ≡ task_lines d.constraints
    tasks = rw (a.entries, a.prefixes) refl

pub pattern_adds : (d e : Draft) (words : List (List ℕ)) → Opens d → Unsized d → pattern_line d words ≡ Ok e → Adds (heads d) words e
unfolding pattern_line
pattern_adds d e words o none step =
    test_of (is_text (word words 0) (codes "wake")) _ _ _ (Adds (heads d) words e) step
    (λ t s. let c = then_ok (wake_line d.declared d.constraints words) _ e s in
    subst (Adds (heads d) words) (ok_same _ _ c.2) (pattern_made d c.0 words o none (wake_adds d.declared d.constraints c.0 words o.patterns (text_same _ _ t) c.1)))
    (λ f s. stack_adds d e words o none s)

-- ---- constraints

task_made : (d : Draft) (c : Constraints) (words : List (List ℕ)) → Opens d → d.constraints.patterns ≡ [] → Unsized d → AddsTask (length d.declared.indexes) d.constraints words c → Adds (heads d) words (constrained d Tasks c)
task_made d c words o unread none a = record {
  good = (record { name = o.name; named = o.named; is_name = o.is_name; declared = o.declared; tasks = a.good; patterns = record { few = few; fit = ap (list_all (fits_pattern d.declared.choices c.prefixes)) empty } }, none, empty, a.some);
  lines = headed (name_or d.name) _ _ words (ap (λ (w : AllWords). decl_lines d.declared ++ (task_lines c ++ w)) wakes ∙ task_place (decl_lines d.declared) (task_lines d.constraints) (task_lines c) (wake_lines d.constraints) words a.lines (ap (map wake_words) unread));
}
  where
    empty : c.patterns ≡ []
    empty = a.patterns ∙ unread

    few : length c.patterns ≤ most_instructions
    few = let n = ap length (a.patterns ∙ unread) in omega (arith, n)

    wakes : wake_lines c ≡ wake_lines d.constraints
    wakes = ap (map wake_words) a.patterns

pub constraint_adds : (d e : Draft) (words : List (List ℕ)) → Opens d → d.constraints.patterns ≡ [] → Unsized d → constraint_line d words ≡ Ok e → Adds (heads d) words e
unfolding constraint_line
constraint_adds d e words o unread none step =
    test_of (is_text (word words 0) (codes "task")) _ _ _ (Adds (heads d) words e) step
    (λ t s. let c = then_ok (task_line (length d.declared.indexes) d.constraints words) _ e s in
    subst (Adds (heads d) words) (ok_same _ _ c.2) (task_made d c.0 words o unread none (task_adds (length d.declared.indexes) d.constraints c.0 words o.tasks (text_same _ _ t) c.1)))
    (λ f s. pattern_adds d e words o none s)

-- ---- declarations

decl_made : (d : Draft) (x : Declared) (words : List (List ℕ)) → Opens d → d.constraints ≡ no_constraints → Unsized d → Declares d.declared words x → Adds (heads d) words (declaring d x)
decl_made d x words o unread none a = record {
  good = (record { name = o.name; named = o.named; is_name = o.is_name; declared = a.good; tasks = tasks d.constraints unread; patterns = patterns d.constraints unread }, none, unread);
  lines = headed (name_or d.name) _ _ words (decl_place (decl_lines d.declared) (decl_lines x) (task_lines d.constraints) (wake_lines d.constraints) words a.lines (ap task_lines unread) (ap wake_lines unread));
}
  where
    tasks : (c : Constraints) → c ≡ no_constraints → AreTasks (length x.indexes) c
    tasks c e = rw e (record { same = refl; small = refl; few = omega arith; prefixes = refl })

    patterns : (c : Constraints) → c ≡ no_constraints → ArePatterns x.choices c
    patterns c e = rw e (record { few = omega arith; fit = refl })

pub declaration_adds : (d e : Draft) (words : List (List ℕ)) → Opens d → d.constraints ≡ no_constraints → Unsized d → declaration_line d words ≡ Ok e → Adds (heads d) words e
unfolding declaration_line
declaration_adds d e words o unread none step =
    test_of (is_text (word words 0) (codes "index")) _ _ _ (Adds (heads d) words e) step
    (λ t s. let x = then_ok (index_line d.declared words) _ e s in
    subst (Adds (heads d) words) (ok_same _ _ x.2) (decl_made d x.0 words o unread none (index_declares d.declared x.0 words o.declared (text_same _ _ t) x.1)))
    (λ f s. test_of (is_text (word words 0) (codes "given")) _ _ _ (Adds (heads d) words e) s
    (λ t s. let x = then_ok (given_line d.declared words) _ e s in
    subst (Adds (heads d) words) (ok_same _ _ x.2) (decl_made d x.0 words o unread none (given_declares d.declared x.0 words o.declared (text_same _ _ t) x.1)))
    (λ f s. test_of (is_text (word words 0) (codes "choose")) _ _ _ (Adds (heads d) words e) s
    (λ t s. let x = then_ok (choose_line d.declared words) _ e s in
    subst (Adds (heads d) words) (ok_same _ _ x.2) (decl_made d x.0 words o unread none (choose_declares d.declared x.0 words o.declared (text_same _ _ t) x.1)))
    (λ f s. test_of (is_text (word words 0) (codes "manifest")) _ _ _ (Adds (heads d) words e) s
    (λ t s. let x = then_ok (manifest_line d.declared words) _ e s in
    subst (Adds (heads d) words) (ok_same _ _ x.2) (decl_made d x.0 words o unread none (manifest_declares d.declared x.0 words o.declared (text_same _ _ t) x.1)))
    (λ f s. constraint_adds d e words o (ap (λ (c : Constraints). c.patterns) unread) none s))))

-- ---- the size

all_placed : (test : ℕ → Bool) (entries : List ℕ) → length entries ≤ prefix_len test entries → list_all test entries ≡ true
all_placed test [] h = refl
all_placed test (x ∷ xs) h = by_test (test x) h (all_placed test xs)
  where
    by_test : (t : Bool) → suc (length xs) ≤ (if t then 1 + prefix_len test xs else 0) → (length xs ≤ prefix_len test xs → list_all test xs ≡ true) → (t && list_all test xs) ≡ true
    by_test true g rest = rest (omega (arith, g))
    by_test false g rest = absurd (omega (arith, g))

-- what the line of the size says
pub record SaysSize (words : List (List ℕ)) (size : ℕ) : Type 0 where
  pub spelled : words ≡ size_words size
  pub some : 1 ≤ size
  pub few : size ≤ most_instructions

pub size_found : (words : List (List ℕ)) (size : ℕ) → size_in words ≡ Ok size → SaysSize words size
unfolding size_in
size_found words size e =
    let first = if_ok (is_text (word words 0) (codes "code")) _ _ size e in
    let two = if_ok (length words == 2) _ _ size first.1 in
    by_number (number_of (word words 1)) refl two.1 (two_words words (same_length _ _ two.0) ∙ ap (λ (w : List ℕ). w ∷ word words 1 ∷ []) (text_same _ _ first.0))
  where
    by_number : (found : Option ℤ) → number_of (word words 1) ≡ found → size_or found ≡ Ok size → words ≡ codes "code" ∷ word words 1 ∷ [] → SaysSize words size
    by_number None f s two = absurd cc
    by_number (Some (negsuc m)) f s two = absurd cc
    by_number (Some (pos n)) f s two =
        let low = else_ok (not (int_le (pos 1) (pos n))) _ _ size s in
        let high = if_ok (int_le (pos n) (pos most_instructions)) _ _ size low.1 in
        let same : n ≡ size = ok_same n size high.1 in
        let some : 1 ≤ n = grind (arith, nat_tests, low.0) in
        let few = at_least_pos n most_instructions high.0 in
        record {
          spelled = two ∙ ap (λ (w : List ℕ). codes "code" ∷ w ∷ []) ((number_text (word words 1) (pos n) f).0 ∙ ap decimal same);
          some = omega (arith, some, same);
          few = omega (arith, few, same);
        }

few_none : (instrs : List Instr) (n : ℕ) → instrs ≡ [] → length instrs ≤ n
few_none instrs n e = let zero = ap length e in omega (arith, zero)

size_made : (d : Draft) (n : ℕ) → Opens d → IsStack d.stack → d.instrs ≡ [] → 1 ≤ n → n ≤ most_instructions → length d.constraints.entries ≤ prefix_len (λ to. nat_lt to n) d.constraints.entries
    → Adds (heads d ++ stack_words d.stack ∷ []) (size_words n) (sized d n)
size_made d n o stack none some few all = record {
  good = (
    o,
    stack,
    record {
      some = some;
      small = few;
      placed = all_placed (λ to. nat_lt to n) d.constraints.entries all;
      few = few_none d.instrs n none;
      fit = ap (list_all (instr_fits (counts_in (sized d n)))) none;
    },
  );
  lines = ap (λ (l : AllWords). heads d ++ stack_words d.stack ∷ size_words n ∷ l) (ap (map instr_words) none) ∙ sym (append_assoc (heads d) (stack_words d.stack ∷ []) (size_words n ∷ []));
}

pub size_adds : (at : ℕ) (d e : Draft) (words : List (List ℕ)) → Opens d → IsStack d.stack → d.instrs ≡ [] → size_line at d words ≡ Ok e → Adds (heads d ++ stack_words d.stack ∷ []) words e
unfolding size_line placed_count
size_adds at d e words o stack none step =
    let a = then_ok (at_line at (size_in words)) _ e step in
    let says = size_found words a.0 (ok_at at (size_in words) a.0 a.1) in
    let all = else_ok (nat_lt (prefix_len (λ to. nat_lt to a.0) d.constraints.entries) (length d.constraints.entries)) _ _ e a.2 in
    subst (λ (e : Draft). Adds (heads d ++ stack_words d.stack ∷ []) words e) (taken_same _ _ all.1)
    (subst (λ (ws : List (List ℕ)). Adds (heads d ++ stack_words d.stack ∷ []) ws (sized d a.0)) (sym says.spelled) (size_made d a.0 o stack none says.some says.few (not_lt _ _ all.0)))

-- ---- instructions and the end

pub roomy : (d : Draft) → Opens d → HasSize d → IsRoomy (counts_in d)
roomy d o s =
    let i = o.declared.few_indexes in
    let g = o.declared.few_givens in
    let c = o.declared.few_choices in
    record { labels = s.small; indexes = omega (arith, i); givens = omega (arith, g); choices = omega (arith, c) }

pub end_adds : (d e : Draft) (words : List (List ℕ)) → Opens d → IsStack d.stack → HasSize d → d.size ≤ length d.instrs → end_line d words ≡ Ok e → Adds (heads d ++ stack_words d.stack ∷ size_words d.size ∷ map instr_words d.instrs) words e
unfolding end_line
end_adds d e words o stack s full step =
    let a = if_ok (is_text (word words 0) (codes "end")) _ _ e step in
    let b = if_ok (length words == 1) _ _ e a.1 in
    let is : words ≡ end_words = one_word words (same_length _ _ b.0) ∙ ap (λ (w : List ℕ). w ∷ []) (text_same _ _ a.0) in
    let few = s.few in
    let made : Adds (heads d ++ stack_words d.stack ∷ size_words d.size ∷ map instr_words d.instrs) end_words (ended d) = record {
      good = (o, stack, s, omega (arith, few, full));
      lines = sym (append_assoc (heads d) (stack_words d.stack ∷ size_words d.size ∷ map instr_words d.instrs) (end_words ∷ []));
    } in
    subst (λ (e : Draft). Adds (heads d ++ stack_words d.stack ∷ size_words d.size ∷ map instr_words d.instrs) words e) (ok_same _ _ b.1) (rw is made)

pub body_adds : (d e : Draft) (words : List (List ℕ)) → d.part ≡ Instructions → Opens d → IsStack d.stack → HasSize d → body_line d words ≡ Ok e → Adds (heads d ++ stack_words d.stack ∷ size_words d.size ∷ map instr_words d.instrs) words e
unfolding body_line
body_adds d e words at o stack s step =
    test_of (nat_lt (length d.instrs) d.size) _ _ _ (Adds (heads d ++ stack_words d.stack ∷ size_words d.size ∷ map instr_words d.instrs) words e) step
    (λ t r.
    let i = then_ok (instr_line (counts_in d) words) _ e r in
    let says = instr_found (counts_in d) words i.0 (roomy d o s) i.1 in
    subst (λ (e : Draft). Adds (heads d ++ stack_words d.stack ∷ size_words d.size ∷ map instr_words d.instrs) words e) (ok_same _ _ i.2) (coded_adds i.0 (lt_found _ _ t) says))
    (λ f r. end_adds d e words o stack s (not_lt _ _ f) r)
  where
    coded_adds : (instr : Instr) → length d.instrs < d.size → SaysInstr (counts_in d) words instr → Adds (heads d ++ stack_words d.stack ∷ size_words d.size ∷ map instr_words d.instrs) words (coded d instr)
    coded_adds instr room says =
        let n = length-append d.instrs (instr ∷ []) in
        let good : Good Instructions (coded d instr) =
        (o, stack, record { some = s.some; small = s.small; placed = s.placed; few = omega (arith, n, room); fit = all_more (instr_fits (counts_in d)) d.instrs instr s.fit says.sound }) in
        let lines : written (coded d instr) Instructions ≡ (heads d ++ stack_words d.stack ∷ size_words d.size ∷ map instr_words d.instrs) ++ words ∷ [] =
        ap (λ (l : AllWords). heads d ++ stack_words d.stack ∷ size_words d.size ∷ l) (map_more instr_words d.instrs instr ∙ ap (λ (w : List (List ℕ)). map instr_words d.instrs ++ w ∷ []) (sym says.spelled))
        ∙ sym (append_assoc (heads d) (stack_words d.stack ∷ size_words d.size ∷ map instr_words d.instrs) (words ∷ [])) in
        record { good = subst (λ (p : Part). Good p (coded d instr)) (sym at) good; lines = ap (written (coded d instr)) at ∙ lines }
