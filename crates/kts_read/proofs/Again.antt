-- What is written of a draft is read again.
use Rattle.std.proofs.Common.{◌≡◌, refl, sym, ◌∙◌, ap, subst, ℕ, ◌<◌, ◌≤◌, List, [], ◌∷◌, ◌++◌, append_assoc, length, length-append, map, true, nat_lt, nat_le, Option, Some, Ok, arith}
use Rattle.std.specs.Prelude.{codes, decimal, slice_index_or, zip}
use Rattle.std.specs.List.{list_all}
use Rattle.std.proofs.lemmas.Bool.{and_parts}
use Rattle.std.proofs.lemmas.Bool.Decides.{nat_tests}
use Rattle.kts_base.specs.Limits.{most_instructions, most_number}
use Rattle.kts_code.specs.declared.instructions.Instr.{Instr}
use Rattle.kts_code.specs.CodeTexts.{header_words, name_words, task_words, place_word, wake_words, stack_words, size_words, instr_words, end_words, word_of, values_of}
use Rattle.kts_index.specs.declared.pattern.Pattern.{Pattern}
use Rattle.kts_spec.specs.Names.{is_language_name}
use Rattle.kts_spec.specs.Schemas.{is_prefix}
use Rattle.std.specs.Fmt.{signed_decimal}
use Rattle.kts_write.specs.Encodings.{kinds_of}
use Rattle.kts_read.specs.DeclarationLines.{no_declarations}
use Rattle.kts_read.specs.Goods.{AreDeclared, AreTasks, ArePatterns, Opens, Unsized, IsStack, HasSize, Good, instr_fits, fits_pattern}
use Rattle.kts_read.specs.Reading.{nothing, begun, constrained, ended, stack_line, counts_in}
use Rattle.kts_read.specs.Written.{AllWords, decl_lines, task_lines, wake_lines, name_or, heads, written}
use Rattle.kts_read.specs.declared.constraints.Constraints.{Constraints}
use Rattle.kts_read.specs.declared.declarations.Declared.{Declared}
use Rattle.kts_read.specs.declared.draft.Draft.{Draft}
use Rattle.kts_read.specs.declared.draft.Part.{Part}
use Rattle.kts_read.specs.declared.draft.Part.TheVariants.{Header, Named, Declarations, Tasks, Wakes, Size, Instructions, Whole}
use Rattle.kts_read.proofs.Arrivals.{Leads, leads_by, Arrives, arrives_first, arrives_more, arrives_all}
use Rattle.kts_read.proofs.BodyAgain.{stack_again, size_line_again, body_again, end_again, fit_clean}
use Rattle.kts_read.proofs.Cleans.{decimal_clean, literal}
use Rattle.kts_read.proofs.ConstraintsAgain.{few_in_prefix, task_again, task_clean, wake_again, wake_clean}
use Rattle.kts_read.proofs.DeclarationSteps.{all_item, opened, declarations_arrive}
use Rattle.kts_read.proofs.DeclarationsAgain.{all_at}
use Rattle.kts_read.proofs.DraftAdds.{roomy}
use Rattle.kts_read.proofs.HeadLines.{header_arrives, name_leads, later, later_more, later_some, heading, no_header, map_both, entries_in, prefixes_in, zip_firsts, zip_seconds, zip_some, draft, constraints, same_draft, same_constraints, task_there, wake_there, stack_there, few_args}
use Rattle.kts_read.proofs.InstrLaws.{clean_word}
use Rattle.kts_read.proofs.MoreDeclarations.{map_more}
use Rattle.kts_read.proofs.Tests.{lt_found}

le_found : (a b : ℕ) → nat_le a b ≡ true → a ≤ b
le_found a b h = grind (arith, nat_tests)

-- ---- constraints and patterns

module _ (name : List ℕ) (x : Declared) (c : Constraints) (a : AreDeclared x) (t : AreTasks (length x.indexes) c) (w : ArePatterns x.choices c) where
  abbrev pairs : List (ℕ × List ℕ)
  pairs = zip c.entries c.prefixes

  few_indexes : length x.indexes ≤ most_instructions
  few_indexes = let f = a.few_indexes in omega (arith, f)

  few_choices : length x.choices ≤ most_instructions
  few_choices = let f = a.few_choices in omega (arith, f)

  -- after these constraints
  abbrev tasked : List (ℕ × List ℕ) → Draft
  tasked done = draft (later Declarations Tasks done) (Some name) x (constraints (entries_in done) (prefixes_in done) []) 0 0 []

  -- after all constraints and these patterns
  abbrev waked : List Pattern → Draft
  waked done = draft (heading pairs done) (Some name) x (constraints c.entries c.prefixes done) 0 0 []

  module _ (done : List (ℕ × List ℕ)) (entry : ℕ) (prefix : List ℕ) (more : List (ℕ × List ℕ)) (all : done ++ (entry, prefix) ∷ more ≡ pairs) where
    first : entries_in done ++ entry ∷ entries_in more ≡ c.entries
    first = sym (map_both (λ (q : ℕ × List ℕ). q.0) done ((entry, prefix) ∷ more)) ∙ ap entries_in all ∙ zip_firsts c.entries c.prefixes t.same

    second : prefixes_in done ++ prefix ∷ prefixes_in more ≡ c.prefixes
    second = sym (map_both (λ (q : ℕ × List ℕ). q.1) done ((entry, prefix) ∷ more)) ∙ ap prefixes_in all ∙ zip_seconds c.entries c.prefixes t.same

    small : entry ≤ most_number
    small = le_found entry most_number (all_at (λ to. nat_le to most_number) (entries_in done) (entries_in more) entry (ap (list_all (λ to. nat_le to most_number)) first ∙ t.small))

    sound : is_prefix (length x.indexes) prefix ≡ true
    sound = all_at (is_prefix (length x.indexes)) (prefixes_in done) (prefixes_in more) prefix (ap (list_all (is_prefix (length x.indexes))) second ∙ t.prefixes)

    room : length (entries_in done) < most_instructions
    room =
        let n = length-append (entries_in done) (entry ∷ entries_in more) in
        let e = ap length first in
        let s = t.same in
        let f = t.few in
        omega (arith, n, e, s, f)

    task_makes : constrained (tasked done) Tasks (constraints (entries_in done ++ entry ∷ []) (prefixes_in done ++ prefix ∷ []) []) ≡ tasked (done ++ (entry, prefix) ∷ [])
    task_makes =
        same_draft Tasks (later Declarations Tasks (done ++ (entry, prefix) ∷ [])) _ _ x _ _ _ _ _ _ _ _ (sym (later_more Declarations Tasks done (entry, prefix))) refl
        (same_constraints _ _ _ _ [] (sym (map_more (λ (q : ℕ × List ℕ). q.0) done (entry, prefix))) (sym (map_more (λ (q : ℕ × List ℕ). q.1) done (entry, prefix)))) refl refl refl

    task_leads : Leads (tasked done) (task_words (entry, prefix)) (tasked (done ++ (entry, prefix) ∷ []))
    task_leads =
        leads_by (tasked done) (tasked (done ++ (entry, prefix) ∷ [])) (codes "task") (decimal entry ∷ map decimal prefix) (λ e. no_header done [] e)
        (literal (codes "task") (omega arith) refl, task_clean (length x.indexes) entry prefix few_indexes small sound)
        (λ at. task_there at (tasked done) entry prefix done ∙ rw (task_again (length x.indexes) (constraints (entries_in done) (prefixes_in done) []) entry prefix few_indexes small sound room) (ap Ok task_makes))

  each_task : (done : List (ℕ × List ℕ)) (q : ℕ × List ℕ) (more : List (ℕ × List ℕ)) → done ++ q ∷ more ≡ pairs → Leads (tasked done) (task_words q) (tasked (done ++ q ∷ []))
  each_task done q more all = task_leads done q.0 q.1 more all

  module _ (done : List Pattern) (p : Pattern) (more : List Pattern) (all : done ++ p ∷ more ≡ c.patterns) where
    fit : fits_pattern x.choices c.prefixes p ≡ true
    fit = all_at (fits_pattern x.choices c.prefixes) done more p (ap (list_all (fits_pattern x.choices c.prefixes)) all ∙ w.fit)

    there : (p.definite < length c.prefixes) × (p.choice < length x.choices)
    there =
        let both = and_parts _ _ fit in
        let two = and_parts (nat_lt p.definite (length c.prefixes)) (nat_lt p.choice (length x.choices)) both.0 in
        (lt_found p.definite (length c.prefixes) two.0, lt_found p.choice (length x.choices) two.1)

    few_prefix : length (slice_index_or c.prefixes p.definite []) ≤ 3
    few_prefix = few_in_prefix (length x.indexes) (slice_index_or c.prefixes p.definite []) (all_item (is_prefix (length x.indexes)) c.prefixes p.definite [] t.prefixes there.0)

    wake_room : length done < most_instructions
    wake_room = let n = length-append done (p ∷ more) in let e = ap length all in let f = w.few in omega (arith, n, e, f)

    wake_makes : constrained (waked done) Wakes (constraints c.entries c.prefixes (done ++ p ∷ [])) ≡ waked (done ++ p ∷ [])
    wake_makes = same_draft Wakes (heading pairs (done ++ p ∷ [])) _ _ x _ _ _ _ _ _ _ _ (sym (later_more (later Declarations Tasks pairs) Wakes done p)) refl refl refl refl refl

    wake_leads : Leads (waked done) (wake_words p) (waked (done ++ p ∷ []))
    wake_leads =
        leads_by (waked done) (waked (done ++ p ∷ [])) (codes "wake") (decimal p.definite ∷ decimal p.choice ∷ map place_word p.args) (λ e. no_header pairs done e)
        (wake_clean x (constraints c.entries c.prefixes done) p fit few_prefix few_choices t.few)
        (λ at. wake_there at (waked done) p pairs done ∙ rw (wake_again x (constraints c.entries c.prefixes done) p fit (few_args x a p.choice there.1) few_prefix few_choices t.few wake_room) (ap Ok wake_makes))

  tasks_arrive : (front : AllWords) → Arrives front (opened name x) → Arrives (front ++ task_lines c) (waked [])
  tasks_arrive front arrived =
      subst (λ (e : Draft). Arrives (front ++ task_lines c) e)
      (same_draft _ _ _ _ x _ _ _ _ _ _ _ _ refl refl (same_constraints _ _ _ _ [] (zip_firsts c.entries c.prefixes t.same) (zip_seconds c.entries c.prefixes t.same)) refl refl refl)
      (arrives_all tasked task_words pairs each_task front arrived)

  abbrev all_heads : AllWords
  all_heads = header_words ∷ name_words name ∷ (decl_lines x ++ (task_lines c ++ wake_lines c))

  pub heads_arrive : is_language_name name ≡ true → Arrives all_heads (waked c.patterns)
  heads_arrive named =
      let start : Arrives (header_words ∷ name_words name ∷ []) (opened name no_declarations) = arrives_more (header_words ∷ []) (name_words name) (begun nothing) (opened name no_declarations) header_arrives (name_leads name named) in
      let declared = declarations_arrive x a name (header_words ∷ name_words name ∷ []) start in
      let tasks = tasks_arrive (header_words ∷ name_words name ∷ decl_lines x) declared in
      let wakes = arrives_all waked wake_words c.patterns wake_leads ((header_words ∷ name_words name ∷ decl_lines x) ++ task_lines c) tasks in
      subst (λ (ls : AllWords). Arrives ls (waked c.patterns)) (append_assoc (header_words ∷ name_words name ∷ decl_lines x) (task_lines c) (wake_lines c)) wakes

-- ---- the lines before the sizes

abbrev part_of : Draft → Part
part_of d = heading (zip d.constraints.entries d.constraints.prefixes) d.constraints.patterns

-- the draft in the part that its lines lead to, where the sizes aren't said
abbrev headed : Draft → Draft
headed d = draft (part_of d) d.name d.declared d.constraints 0 0 []

headed_arrives : (d : Draft) → Opens d → Arrives (heads d) (headed d)
headed_arrives d o =
    let arrived = heads_arrive o.name d.declared d.constraints o.declared o.tasks o.patterns o.is_name in
    subst (λ (known : Option (List ℕ)). Arrives (header_words ∷ name_words (name_or known) ∷ (decl_lines d.declared ++ (task_lines d.constraints ++ wake_lines d.constraints))) (draft (part_of d) known d.declared d.constraints 0 0 []))
    (sym o.named) arrived

open_arrives : (d : Draft) → Opens d → Unsized d → part_of d ≡ d.part → Arrives (heads d) d
open_arrives d o u same =
    subst (λ (e : Draft). Arrives (heads d) e) (same_draft (part_of d) d.part _ _ d.declared _ _ 0 d.stack 0 d.size [] d.instrs same refl refl (sym u.no_stack) (sym u.no_size) (sym u.no_instrs)) (headed_arrives d o)

-- ---- the sizes

abbrev with_stack : Draft → Draft
with_stack d = draft Size d.name d.declared d.constraints d.stack 0 []

stack_leads : (d : Draft) → IsStack d.stack → Leads (headed d) (stack_words d.stack) (with_stack d)
unfolding stack_line
stack_leads d s =
    let pairs = zip d.constraints.entries d.constraints.prefixes in
    let few = s.few in
    leads_by (headed d) (with_stack d) (codes "stack") (decimal d.stack ∷ []) (λ e. no_header (zip d.constraints.entries d.constraints.prefixes) d.constraints.patterns e)
    (literal (codes "stack") (omega arith) refl, (decimal_clean d.stack (omega (arith, few)), tt))
    (λ at. stack_there at (headed d) d.stack (zip d.constraints.entries d.constraints.prefixes) d.constraints.patterns ∙ rw (stack_again d.stack s) refl)

stack_arrives : (d : Draft) → Opens d → IsStack d.stack → Arrives (heads d ++ stack_words d.stack ∷ []) (with_stack d)
stack_arrives d o s = arrives_more (heads d) (stack_words d.stack) (headed d) (with_stack d) (headed_arrives d o) (stack_leads d s)

-- after these instructions
abbrev bodied : Draft → List Instr → Draft
bodied d done = draft Instructions d.name d.declared d.constraints d.stack d.size done

size_leads : (d : Draft) → HasSize d → Leads (with_stack d) (size_words d.size) (bodied d [])
size_leads d h =
    let few = h.small in
    leads_by (with_stack d) (bodied d []) (codes "code") (decimal d.size ∷ []) (λ e. cc) (literal (codes "code") (omega arith) refl, (decimal_clean d.size (omega (arith, few)), tt))
    (λ at. size_line_again at (with_stack d) d.size h.some h.small h.placed)

size_arrives : (d : Draft) → Opens d → IsStack d.stack → HasSize d → Arrives (heads d ++ stack_words d.stack ∷ size_words d.size ∷ []) (bodied d [])
size_arrives d o s h =
    subst (λ (ls : AllWords). Arrives ls (bodied d [])) (append_assoc (heads d) (stack_words d.stack ∷ []) (size_words d.size ∷ []))
    (arrives_more (heads d ++ stack_words d.stack ∷ []) (size_words d.size) (with_stack d) (bodied d []) (stack_arrives d o s) (size_leads d h))

-- ---- the instructions and the end

each_instr : (d : Draft) → Opens d → HasSize d → (done : List Instr) (i : Instr) (more : List Instr) → done ++ i ∷ more ≡ d.instrs → Leads (bodied d done) (instr_words i) (bodied d (done ++ i ∷ []))
unfolding instr_fits
each_instr d o h done i more all =
    let r = roomy d o h in
    let n = length-append done (i ∷ more) in
    let e = ap length all in
    let few = h.few in
    let fit : instr_fits (counts_in d) i ≡ true = all_at (instr_fits (counts_in d)) done more i (ap (list_all (instr_fits (counts_in d))) all ∙ h.fit) in
    leads_by (bodied d done) (bodied d (done ++ i ∷ [])) (word_of i) (map signed_decimal (values_of i)) (λ e. cc) (clean_word i, fit_clean (counts_in d) r (kinds_of i) (values_of i) fit)
    (λ at. rw (body_again (bodied d done) i r (omega (arith, n, e, few)) fit) refl)

instrs_arrive : (d : Draft) → Opens d → IsStack d.stack → HasSize d → Arrives (heads d ++ stack_words d.stack ∷ size_words d.size ∷ map instr_words d.instrs) (bodied d d.instrs)
instrs_arrive d o s h =
    subst (λ (ls : AllWords). Arrives ls (bodied d d.instrs)) (append_assoc (heads d) (stack_words d.stack ∷ size_words d.size ∷ []) (map instr_words d.instrs))
    (arrives_all (bodied d) instr_words d.instrs (each_instr d o h) (heads d ++ stack_words d.stack ∷ size_words d.size ∷ []) (size_arrives d o s h))

end_leads : (d : Draft) → length d.instrs ≡ d.size → Leads (bodied d d.instrs) end_words (ended (bodied d d.instrs))
end_leads d full =
    leads_by (bodied d d.instrs) (ended (bodied d d.instrs)) (codes "end") [] (λ e. cc) (literal (codes "end") (omega arith) refl, tt) (λ at. rw (end_again (bodied d d.instrs) (sym full)) refl)

whole_arrives : (d : Draft) → Opens d → IsStack d.stack → HasSize d → length d.instrs ≡ d.size → Arrives (written d Whole) (ended (bodied d d.instrs))
whole_arrives d o s h full =
    subst (λ (ls : AllWords). Arrives ls (ended (bodied d d.instrs))) (append_assoc (heads d) (stack_words d.stack ∷ size_words d.size ∷ map instr_words d.instrs) (end_words ∷ []))
    (arrives_more (heads d ++ stack_words d.stack ∷ size_words d.size ∷ map instr_words d.instrs) end_words (bodied d d.instrs) (ended (bodied d d.instrs)) (instrs_arrive d o s h) (end_leads d full))

-- ---- all parts

some_pairs : (d : Draft) → Opens d → 1 ≤ length d.constraints.entries → 1 ≤ length (zip d.constraints.entries d.constraints.prefixes)
some_pairs d o h = zip_some d.constraints.entries d.constraints.prefixes o.tasks.same h

good_arrives : (d : Draft) (part : Part) → d.part ≡ part → Good part d → Arrives (written d part) d
good_arrives d Header is good = subst (λ (e : Draft). Arrives [] e) (sym good) arrives_first
good_arrives d Named is good = subst (λ (e : Draft). Arrives (header_words ∷ []) e) (sym good) header_arrives
good_arrives d Declarations is good = open_arrives d good.0 good.1 (ap (λ (c : Constraints). heading (zip c.entries c.prefixes) c.patterns) good.2 ∙ sym is)
good_arrives d Tasks is good =
    open_arrives d good.0 good.1 (ap (heading (zip d.constraints.entries d.constraints.prefixes)) good.2 ∙ later_some Declarations Tasks (zip d.constraints.entries d.constraints.prefixes) (some_pairs d good.0 good.3) ∙ sym is)
good_arrives d Wakes is good = open_arrives d good.0 good.1 (later_some (later Declarations Tasks (zip d.constraints.entries d.constraints.prefixes)) Wakes d.constraints.patterns good.2 ∙ sym is)
good_arrives d Size is good =
    subst (λ (e : Draft). Arrives (heads d ++ stack_words d.stack ∷ []) e) (same_draft Size d.part _ _ d.declared _ _ d.stack d.stack 0 d.size [] d.instrs (sym is) refl refl refl (sym good.2) (sym good.3)) (stack_arrives d good.0 good.1)
good_arrives d Instructions is good =
    subst (λ (e : Draft). Arrives (written d Instructions) e) (same_draft Instructions d.part _ _ d.declared _ _ d.stack d.stack d.size d.size d.instrs d.instrs (sym is) refl refl refl refl refl) (instrs_arrive d good.0 good.1 good.2)
good_arrives d Whole is good =
    subst (λ (e : Draft). Arrives (written d Whole) e) (same_draft Whole d.part _ _ d.declared _ _ d.stack d.stack d.size d.size d.instrs d.instrs (sym is) refl refl refl refl refl) (whole_arrives d good.0 good.1 good.2 good.3)

-- the lines of a draft are read to it
pub arrives : (d : Draft) → Good d.part d → Arrives (written d d.part) d
arrives d good = good_arrives d d.part refl good
