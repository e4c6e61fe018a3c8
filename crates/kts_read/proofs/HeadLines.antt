-- The lines before that of the sizes, where each may stand.
use Rattle.std.proofs.Common.{◌≡◌, refl, sym, ◌∙◌, ap, subst, ℕ, suc, ◌<◌, ◌≤◌, List, [], ◌∷◌, ◌++◌, append-nil, length, map, fold, Bool, true, false, ◌&&◌, nat_eq, nat_lt, nat_le, Option, Ok, arith}
use Rattle.std.specs.Prelude.{codes, zip}
use Rattle.std.specs.List.{list_all}
use Rattle.std.proofs.lemmas.Bool.{and_parts}
use Rattle.std.proofs.lemmas.Bool.Decides.{nat_tests}
use Rattle.kts_base.specs.Limits.{most_arguments}
use Rattle.kts_base.specs.Reads.{and_then}
use Rattle.kts_code.specs.declared.instructions.Instr.{Instr}
use Rattle.kts_code.specs.CodeTexts.{header_words, name_words, task_words, wake_words, stack_words}
use Rattle.kts_index.specs.declared.pattern.Pattern.{Pattern}
use Rattle.kts_spec.specs.Names.{is_language_name}
use Rattle.kts_spec.specs.Schemas.{DeclaredCounts, nothing_declared, declared_with, is_declaration, are_declarations, family_at, is_family}
use Rattle.kts_spec.specs.declared.declarations.Decl.{Decl}
use Rattle.kts_spec.specs.declared.declarations.Decl.TheVariants.{Index, Given, Choose, Manifest}
use Rattle.kts_spec.specs.declared.declarations.Family.{Family}
use Rattle.kts_read.specs.ConstraintLines.{task_line, wake_line}
use Rattle.kts_read.specs.DeclarationLines.{no_declarations}
use Rattle.kts_read.specs.Faults.{at_line}
use Rattle.kts_read.specs.Goods.{AreDeclared}
use Rattle.kts_read.specs.Reading.{nothing, begun, constrained, name_line, stack_line, pattern_line, constraint_line, declaration_line, words_line, line_step}
use Rattle.kts_read.specs.declared.constraints.Constraints.{Constraints}
use Rattle.kts_read.specs.declared.declarations.Declared.{Declared}
use Rattle.kts_read.specs.declared.draft.Draft.{Draft}
use Rattle.kts_read.specs.declared.draft.Part.{Part}
use Rattle.kts_read.specs.declared.draft.Part.TheVariants.{Header, Declarations, Tasks, Wakes}
use Rattle.kts_read.proofs.Arrivals.{Leads, leads_by, Arrives, arrives_first, arrives_more}
use Rattle.kts_read.proofs.Cleans.{AreClean, name_clean, literal, no_end_of_line}
use Rattle.kts_read.proofs.DeclarationSteps.{opened}
use Rattle.kts_read.proofs.Tests.{eq_found, lt_found, not_lt}

-- ---- the first lines

header_clean : AreClean header_words
header_clean = (literal (codes "kts") (omega arith) refl, (literal (codes "1") (omega arith) refl, tt))

header_leads : Leads nothing header_words (begun nothing)
unfolding line_step
header_leads = record { steps = (λ at. refl); whole = no_end_of_line (codes "kts") (codes "1" ∷ []) header_clean }

pub name_leads : (name : List ℕ) → is_language_name name ≡ true → Leads (begun nothing) (name_words name) (opened name no_declarations)
unfolding name_line
name_leads name h = leads_by (begun nothing) (opened name no_declarations) (codes "spec") (name ∷ []) (λ e. cc) (literal (codes "spec") (omega arith) refl, (name_clean name h, tt)) (λ at. rw h refl)

pub header_arrives : Arrives (header_words ∷ []) (begun nothing)
header_arrives = arrives_more [] header_words nothing (begun nothing) arrives_first header_leads

-- ---- parts of the file

-- the second part, once there is something
abbrev pub later : {X : Type 0} → Part → Part → List X → Part
later before after [] = before
later before after (x ∷ xs) = after

pub later_more : {X : Type 0} (before after : Part) (xs : List X) (x : X) → later before after (xs ++ x ∷ []) ≡ after
later_more before after [] x = refl
later_more before after (y ∷ xs) x = refl

pub later_some : {X : Type 0} (before after : Part) (xs : List X) → 1 ≤ length xs → later before after xs ≡ after
later_some before after [] h = absurd (omega arith)
later_some before after (x ∷ xs) h = refl

abbrev pub heading : List (ℕ × List ℕ) → List Pattern → Part
heading pairs patterns = later (later Declarations Tasks pairs) Wakes patterns

pub no_header : (pairs : List (ℕ × List ℕ)) (patterns : List Pattern) → heading pairs patterns ≡ Header → ⊥
no_header [] [] e = cc
no_header (q ∷ pairs) [] e = cc
no_header pairs (p ∷ patterns) e = cc

pub map_both : {X Y : Type 0} (f : X → Y) (xs ys : List X) → map f (xs ++ ys) ≡ map f xs ++ map f ys
map_both f [] ys = refl
map_both f (x ∷ xs) ys = ap (λ rest. f x ∷ rest) (map_both f xs ys)

-- ---- constraints

abbrev pub entries_in : List (ℕ × List ℕ) → List ℕ
entries_in pairs = map (λ (q : ℕ × List ℕ). q.0) pairs

abbrev pub prefixes_in : List (ℕ × List ℕ) → List (List ℕ)
prefixes_in pairs = map (λ (q : ℕ × List ℕ). q.1) pairs

pub zip_firsts : (xs : List ℕ) (ys : List (List ℕ)) → length xs ≡ length ys → entries_in (zip xs ys) ≡ xs
zip_firsts [] ys e = refl
zip_firsts (x ∷ xs) [] e = absurd (omega (arith, e))
zip_firsts (x ∷ xs) (y ∷ ys) e = ap (λ (rest : List ℕ). x ∷ rest) (zip_firsts xs ys (omega (arith, e)))

pub zip_seconds : (xs : List ℕ) (ys : List (List ℕ)) → length xs ≡ length ys → prefixes_in (zip xs ys) ≡ ys
zip_seconds [] [] e = refl
zip_seconds [] (y ∷ ys) e = absurd (omega (arith, e))
zip_seconds (x ∷ xs) [] e = absurd (omega (arith, e))
zip_seconds (x ∷ xs) (y ∷ ys) e = ap (λ (rest : List (List ℕ)). y ∷ rest) (zip_seconds xs ys (omega (arith, e)))

pub zip_some : (xs : List ℕ) (ys : List (List ℕ)) → length xs ≡ length ys → 1 ≤ length xs → 1 ≤ length (zip xs ys)
zip_some [] ys e h = absurd (omega arith)
zip_some (x ∷ xs) [] e h = absurd (omega (arith, e))
zip_some (x ∷ xs) (y ∷ ys) e h = omega arith

abbrev pub draft : Part → Option (List ℕ) → Declared → Constraints → ℕ → ℕ → List Instr → Draft
draft part name x c stack size instrs = record { part = part; name = name; declared = x; constraints = c; stack = stack; size = size; instrs = instrs }

abbrev pub constraints : List ℕ → List (List ℕ) → List Pattern → Constraints
constraints entries prefixes patterns = record { entries = entries; prefixes = prefixes; patterns = patterns }

pub same_draft : (p q : Part) (n m : Option (List ℕ)) (x : Declared) (c b : Constraints) (s t z y : ℕ) (i j : List Instr) → p ≡ q → n ≡ m → c ≡ b → s ≡ t → z ≡ y → i ≡ j → draft p n x c s z i ≡ draft q m x b t y j
same_draft p q n m x c b s t z y i j e f g h k l = rw (e, f, g, h, k, l) refl

pub same_constraints : (e f : List ℕ) (p q : List (List ℕ)) (w : List Pattern) → e ≡ f → p ≡ q → constraints e p w ≡ constraints f q w
same_constraints e f p q w r s = rw (r, s) refl

-- the line of a constraint, where it may stand
pub task_there : (at : ℕ) (d : Draft) (entry : ℕ) (prefix : List ℕ) (done : List (ℕ × List ℕ)) → words_line at d (task_words (entry, prefix)) (later Declarations Tasks done)
    ≡ at_line at (and_then (task_line (length d.declared.indexes) d.constraints (task_words (entry, prefix))) (λ c. Ok (constrained d Tasks c)))
unfolding declaration_line constraint_line
task_there at d entry prefix [] = refl
task_there at d entry prefix (q ∷ done) = refl

-- the line of a pattern
pub wake_there : (at : ℕ) (d : Draft) (p : Pattern) (pairs : List (ℕ × List ℕ)) (done : List Pattern) → words_line at d (wake_words p) (heading pairs done)
    ≡ at_line at (and_then (wake_line d.declared d.constraints (wake_words p)) (λ c. Ok (constrained d Wakes c)))
unfolding declaration_line constraint_line pattern_line
wake_there at d p [] [] = refl
wake_there at d p (q ∷ pairs) [] = refl
wake_there at d p pairs (w ∷ done) = refl

-- the line of the stack
pub stack_there : (at : ℕ) (d : Draft) (n : ℕ) (pairs : List (ℕ × List ℕ)) (done : List Pattern) → words_line at d (stack_words n) (heading pairs done) ≡ at_line at (stack_line d (stack_words n))
unfolding declaration_line constraint_line pattern_line
stack_there at d n [] [] = refl
stack_there at d n (q ∷ pairs) [] = refl
stack_there at d n pairs (w ∷ done) = refl

-- ---- choices have few arguments

family_few : (indexes : ℕ) (f : Family) → is_family indexes f ≡ true → length f.args ≤ 2
family_few indexes f h = few (length f.args) (and_parts (nat_le (length f.args) most_arguments) _ (and_parts (nat_le (length f.args) most_arguments && list_all (λ i. nat_lt i indexes) f.args) _ h).0).0
  where
    few : (n : ℕ) → nat_le n most_arguments ≡ true → n ≤ 2
    few n h = grind (arith, nat_tests)

choice_few : (gs cs : List Family) (s : DeclaredCounts) (ds : List Decl) (k : ℕ) → are_declarations gs cs s ds ≡ true → s.choices ≤ k → k < (fold declared_with s ds).choices → length (family_at cs k).args ≤ 2
choice_few gs cs s [] k h low high = absurd (omega (arith, low, high))
choice_few gs cs s (Index i ∷ ds) k h low high = choice_few gs cs (declared_with s (Index i)) ds k (and_parts (is_declaration gs cs s (Index i)) _ h).1 low high
choice_few gs cs s (Given f ∷ ds) k h low high = choice_few gs cs (declared_with s (Given f)) ds k (and_parts (is_declaration gs cs s (Given f)) _ h).1 low high
choice_few gs cs s (Manifest f ∷ ds) k h low high = choice_few gs cs (declared_with s (Manifest f)) ds k (and_parts (is_declaration gs cs s (Manifest f)) _ h).1 low high
choice_few gs cs s (Choose f ∷ ds) k h low high =
    let both = and_parts (is_declaration gs cs s (Choose f)) _ h in
    let one = and_parts (nat_eq f s.choices) (is_family s.indexes (family_at cs f)) both.0 in
    by_place (nat_lt s.choices k) refl (eq_found f s.choices one.0) (family_few s.indexes (family_at cs f) one.1) (λ more. choice_few gs cs (declared_with s (Choose f)) ds k both.1 more high)
  where
    by_place : (t : Bool) → nat_lt s.choices k ≡ t → f ≡ s.choices → length (family_at cs f).args ≤ 2 → (suc s.choices ≤ k → length (family_at cs k).args ≤ 2) → length (family_at cs k).args ≤ 2
    by_place true e same here rest = let less = lt_found s.choices k e in rest (omega (arith, less))
    by_place false e same here rest = let more = not_lt s.choices k e in let is : f ≡ k = omega (arith, same, more, low) in subst (λ (n : ℕ). length (family_at cs n).args ≤ 2) is here

pub few_args : (x : Declared) → AreDeclared x → (k : ℕ) → k < length x.choices → length (family_at x.choices k).args ≤ 2
few_args x a k h =
    let count = a.choices in
    let sound : are_declarations x.givens x.choices nothing_declared x.decls ≡ true =
    ap (λ gs. are_declarations gs x.choices nothing_declared x.decls) (sym (append-nil x.givens))
    ∙ ap (λ cs. are_declarations (x.givens ++ []) cs nothing_declared x.decls) (sym (append-nil x.choices)) ∙ a.declared [] [] in
    choice_few x.givens x.choices nothing_declared x.decls k sound (omega arith) (omega (arith, count, h))
