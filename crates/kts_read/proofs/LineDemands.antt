-- The fault of a line is that of the first demand that it doesn't meet.
use Rattle.std.proofs.Common.{◌≡◌, refl, sym, ◌∙◌, ap, ℕ, ◌+◌, ◌<◌, ◌≤◌, ◌==◌, List, [], ◌∷◌, length, Bool, true, false, nat_lt, if◌then◌else◌, None, Some, Result, Ok, Err, ◌⊎◌, inl, inr}
use Rattle.std.specs.Prelude.{codes}
use Rattle.kts_base.specs.Limits.{most_givens, most_choices, most_instructions}
use Rattle.kts_base.specs.Reads.{and_then}
use Rattle.kts_code.specs.CodeTexts.{size_words}
use Rattle.kts_spec.specs.Names.{is_language_name}
use Rattle.kts_read.specs.ConstraintLines.{task_line, wake_line}
use Rattle.kts_read.specs.DeclarationLines.{index_line, given_line, choose_line, manifest_line}
use Rattle.kts_read.specs.Demands.{Demand, first_unmet, name_demands, index_demands, family_demands, manifest_demands, task_demands, wake_demands, stack_demands, size_demands, instr_demands, end_demands, pattern_demands, constraint_part_demands, declaration_demands, body_demands, word_demands, line_demands}
use Rattle.kts_read.specs.Faults.{fault, at_line}
use Rattle.kts_read.specs.FirstFault.{IsUnmet, IsBeyond}
use Rattle.kts_read.specs.InstructionLines.{instr_line}
use Rattle.kts_read.specs.Lines.{is_line, words_in, is_empty}
use Rattle.kts_read.specs.Reading.{begun, declaring, constrained, coded, sized, with_name, name_line, size_in, placed_count, placed, size_line, pattern_line, constraint_line, declaration_line, counts_in, body_line, other_line, is_header, later_line, line_step, last_step, finished}
use Rattle.kts_read.specs.Words.{is_text, word}
use Rattle.kts_read.specs.declared.draft.Draft.{Draft}
use Rattle.kts_read.specs.declared.draft.Part.{Part}
use Rattle.kts_read.specs.declared.draft.Part.TheVariants.{Header, Named, Declarations, Tasks, Wakes, Size, Instructions, Whole}
use Rattle.kts_read.specs.declared.fault.CodeFault.{CodeFault}
use Rattle.kts_read.specs.declared.fault.CodeKind.{CodeKind}
use Rattle.kts_read.specs.declared.fault.CodeKind.TheVariants.{BadHeader, BadLine, WrongCount, BadName, BadLabel}
use Rattle.kts_read.proofs.BodyDemands.{stack_meets, size_meets, instr_meets, end_meets}
use Rattle.kts_read.proofs.ConstraintDemands.{task_meets, wake_meets}
use Rattle.kts_read.proofs.DeclarationDemands.{index_meets, given_meets, choose_meets, manifest_meets}
use Rattle.kts_read.proofs.DraftAdds.{size_found}
use Rattle.kts_read.proofs.Tests.{lt_found}
use Rattle.kts_read.proofs.Unmet.{unread, if_meets, either_meets, made_meets}

-- ---- the lines of each part

name_tests : (d : Draft) (bytes : List ℕ) (t : Bool) → unread (with_name d (if t then Some bytes else None)) ≡ first_unmet ((BadName, t) ∷ [])
name_tests d bytes true = refl
name_tests d bytes false = refl

name_meets : (d : Draft) (words : List (List ℕ)) → unread (name_line d words) ≡ first_unmet (name_demands words)
unfolding name_line
name_meets d words =
    let named : List Demand = (BadName, is_language_name (word words 1)) ∷ [] in
    if_meets (is_text (word words 0) (codes "spec")) BadLine _ ((WrongCount, length words == 2) ∷ named) (λ _. if_meets (length words == 2) WrongCount _ named (λ _. name_tests d (word words 1) (is_language_name (word words 1))))

pattern_meets : (d : Draft) (words : List (List ℕ)) → unread (pattern_line d words) ≡ first_unmet (pattern_demands d words)
unfolding pattern_line
pattern_meets d words =
    either_meets (is_text (word words 0) (codes "wake")) _ _ (wake_demands d.declared d.constraints words) (stack_demands words) (λ _. made_meets (wake_line d.declared d.constraints words) (λ c. constrained d Wakes c) (wake_demands d.declared d.constraints words) (wake_meets d.declared d.constraints words))
    (λ _. stack_meets d words)

constraint_part_meets : (d : Draft) (words : List (List ℕ)) → unread (constraint_line d words) ≡ first_unmet (constraint_part_demands d words)
unfolding constraint_line
constraint_part_meets d words =
    either_meets (is_text (word words 0) (codes "task")) _ _ (task_demands (length d.declared.indexes) d.constraints words) (pattern_demands d words)
    (λ _. made_meets (task_line (length d.declared.indexes) d.constraints words) (λ c. constrained d Tasks c) (task_demands (length d.declared.indexes) d.constraints words) (task_meets (length d.declared.indexes) d.constraints words))
    (λ _. pattern_meets d words)

declaration_meets : (d : Draft) (words : List (List ℕ)) → unread (declaration_line d words) ≡ first_unmet (declaration_demands d words)
unfolding declaration_line
declaration_meets d words =
    let x = d.declared in
    let givens = family_demands d.declared words (nat_lt (length d.declared.givens) most_givens) in
    let choices = family_demands d.declared words (nat_lt (length d.declared.choices) most_choices) in
    let other = constraint_part_demands d words in
    let third = if is_text (word words 0) (codes "manifest") then manifest_demands d.declared words else other in
    let second = if is_text (word words 0) (codes "choose") then choices else third in
    let first = if is_text (word words 0) (codes "given") then givens else second in
    either_meets (is_text (word words 0) (codes "index")) _ _ (index_demands d.declared words) first (λ _. made_meets (index_line d.declared words) (λ x. declaring d x) (index_demands d.declared words) (index_meets d.declared words)) (λ _.
    either_meets (is_text (word words 0) (codes "given")) _ _ givens second (λ _. made_meets (given_line d.declared words) (λ x. declaring d x) givens (given_meets d.declared words)) (λ _.
    either_meets (is_text (word words 0) (codes "choose")) _ _ choices third (λ _. made_meets (choose_line d.declared words) (λ x. declaring d x) choices (choose_meets d.declared words)) (λ _.
    either_meets (is_text (word words 0) (codes "manifest")) _ _ (manifest_demands d.declared words) other (λ _. made_meets (manifest_line d.declared words) (λ x. declaring d x) (manifest_demands d.declared words) (manifest_meets d.declared words)) (λ _.
    constraint_part_meets d words))))

body_meets : (d : Draft) (words : List (List ℕ)) → unread (body_line d words) ≡ first_unmet (body_demands d words)
unfolding body_line
body_meets d words =
    either_meets (nat_lt (length d.instrs) d.size) _ _ (instr_demands (counts_in d) words) (end_demands words) (λ _. made_meets (instr_line (counts_in d) words) (λ instr. coded d instr) (instr_demands (counts_in d) words) (instr_meets (counts_in d) words)) (λ _. end_meets d words)

-- a line of words, but that of the size
pub other_meets : (d : Draft) (words : List (List ℕ)) (part : Part) → (part ≡ Size → ⊥) → unread (other_line d words part) ≡ first_unmet (word_demands d words part)
other_meets d words Header h = refl
other_meets d words Named h = name_meets d words
other_meets d words Declarations h = declaration_meets d words
other_meets d words Tasks h = constraint_part_meets d words
other_meets d words Wakes h = pattern_meets d words
other_meets d words Size h = absurd (h refl)
other_meets d words Instructions h = body_meets d words
other_meets d words Whole h = refl

-- ---- a line, and its number

-- the fault is that of the first demand that isn't met, at the line of this number
abbrev pub Tells : List Demand → ℕ → CodeFault → Type 0
Tells ds at f = (first_unmet ds ≡ Some f.kind) × (f.line ≡ at)

abbrev refused : {X : Type 0} → CodeKind → ℕ → Result X CodeFault
refused kind at = Err (fault kind at)

fault_tells : {X : Type 0} (at : ℕ) (kind : CodeKind) (ds : List Demand) (f : CodeFault) → Some kind ≡ first_unmet ds → refused {X = X} kind at ≡ Err f → Tells ds at f
fault_tells at kind ds f e s =
    let same : fault kind at ≡ f = cc in (sym e ∙ ap (λ (g : CodeFault). Some g.kind) same, ap (λ (g : CodeFault). g.line) (sym same))

pub reading_tells : {X : Type 0} (at : ℕ) (r : Result X CodeKind) (ds : List Demand) (f : CodeFault) → unread r ≡ first_unmet ds → at_line at r ≡ Err f → Tells ds at f
reading_tells at (Ok x) ds f e s = absurd cc
reading_tells at (Err kind) ds f e s = fault_tells at kind ds f e s

line_tells : (at : ℕ) (t : Bool) (r : Result Draft CodeKind) (ds : List Demand) (f : CodeFault) → unread r ≡ first_unmet ds → (if t then at_line at r else Err (fault BadLine at)) ≡ Err f → Tells ((BadLine, t) ∷ ds) at f
line_tells at true r ds f e s = reading_tells at r ds f e s
line_tells at false r ds f e s = fault_tells at BadLine ((BadLine, false) ∷ ds) f refl s

header_tells : (at : ℕ) (d : Draft) (t : Bool) (f : CodeFault) → (if t then Ok (begun d) else Err (fault BadHeader at)) ≡ Err f → Tells ((BadHeader, t) ∷ (BadLine, true) ∷ []) at f
header_tells at d true f s = absurd cc
header_tells at d false f s = fault_tells at BadHeader ((BadHeader, false) ∷ (BadLine, true) ∷ []) f refl s

whole_tells : (at : ℕ) (t : Bool) (f : CodeFault) → (if t then refused {X = Draft} BadLine at else refused BadLine at) ≡ Err f → Tells ((BadLine, false) ∷ []) at f
whole_tells at true f s = fault_tells at BadLine ((BadLine, false) ∷ []) f refl s
whole_tells at false f s = fault_tells at BadLine ((BadLine, false) ∷ []) f refl s

-- ---- the line of the size

-- the line is met, and a body begins beyond the code that it says
pub record Passes (d : Draft) (words : List (List ℕ)) (f : CodeFault) : Type 0 where
  pub size : ℕ
  pub met : None ≡ first_unmet (size_demands words)
  pub says : words ≡ size_words size
  pub few : size ≤ most_instructions
  pub beyond : placed_count size d.constraints.entries < length d.constraints.entries
  pub told : f ≡ fault BadLabel (3 + length d.declared.decls + placed_count size d.constraints.entries)

placed_tells : (d : Draft) (size : ℕ) (words : List (List ℕ)) (f : CodeFault) (k : ℕ) → placed_count size d.constraints.entries ≡ k → None ≡ first_unmet (size_demands words) → words ≡ size_words size → size ≤ most_instructions → (t : Bool) → nat_lt k (length d.constraints.entries) ≡ t
    → (if t then Err (fault BadLabel (3 + length d.declared.decls + k)) else Ok (sized d size)) ≡ Err f → Passes d words f
placed_tells d size words f k same met says few true less s =
    let told : fault BadLabel (3 + length d.declared.decls + k) ≡ f = cc in
    record { size = size; met = met; says = says; few = few; beyond = rw same (lt_found k (length d.constraints.entries) less); told = rw same (sym told) }
placed_tells d size words f k same met says few false less s = absurd cc

size_tells : (at : ℕ) (d : Draft) (words : List (List ℕ)) (f : CodeFault) → size_line at d words ≡ Err f → Tells (size_demands words) at f ⊎ Passes d words f
unfolding size_line
size_tells at d words f s = by_size (size_in words) refl s
  where
    by_size : (r : Result ℕ CodeKind) → size_in words ≡ r → and_then (at_line at r) (λ size. placed d size (placed_count size d.constraints.entries)) ≡ Err f → Tells (size_demands words) at f ⊎ Passes d words f
    by_size (Ok size) e s =
        inr (placed_tells d size words f (placed_count size d.constraints.entries) refl (sym (ap unread e) ∙ size_meets words) (size_found words size e).spelled (size_found words size e).few (nat_lt (placed_count size d.constraints.entries) (length d.constraints.entries)) refl s)
    by_size (Err kind) e s = inl (fault_tells at kind (size_demands words) f (sym (ap unread e) ∙ size_meets words) s)

-- ---- any line

-- the line passes, where it is the one of the size
size_line_tells : (at : ℕ) (d : Draft) (line : List ℕ) (f : CodeFault) (t : Bool) → is_line line ≡ t → (if t then size_line at d (words_in line) else Err (fault BadLine at)) ≡ Err f
    → Tells ((BadLine, t) ∷ size_demands (words_in line)) at f ⊎ ((t ≡ true) × Passes d (words_in line) f)
size_line_tells at d line f true e s =
    elim (size_tells at d (words_in line) f s) as (λ v. Tells ((BadLine, true) ∷ size_demands (words_in line)) at f ⊎ ((true ≡ true) × Passes d (words_in line) f)) [ inl unmet ↦ inl unmet | inr passes ↦ inr (refl, passes) ]
size_line_tells at d line f false e s = inl (fault_tells at BadLine ((BadLine, false) ∷ size_demands (words_in line)) f refl s)

passes_beyond : (d : Draft) (line : List ℕ) (f : CodeFault) → d.part ≡ Size → is_line line ≡ true → Passes d (words_in line) f → IsBeyond d line true f
passes_beyond d line f is clean p = record {
  size = p.size;
  part = is;
  met = ap (λ (part : Part). first_unmet (line_demands true d line part)) is ∙ ap (λ t. first_unmet ((BadLine, t) ∷ size_demands (words_in line))) clean ∙ sym p.met;
  says = p.says;
  few = p.few;
  beyond = p.beyond;
  told = p.told;
}

later_tells : (at : ℕ) (d : Draft) (line : List ℕ) (f : CodeFault) (part : Part) → d.part ≡ part → later_line at d line part ≡ Err f → Tells (line_demands true d line part) at f ⊎ IsBeyond d line true f
later_tells at d line f Header is s = inl (header_tells at d (is_header line) f s)
later_tells at d line f Named is s = inl (line_tells at (is_line line) (other_line d (words_in line) Named) (word_demands d (words_in line) Named) f (other_meets d (words_in line) Named (λ e. cc)) s)
later_tells at d line f Declarations is s = inl (line_tells at (is_line line) (other_line d (words_in line) Declarations) (word_demands d (words_in line) Declarations) f (other_meets d (words_in line) Declarations (λ e. cc)) s)
later_tells at d line f Tasks is s = inl (line_tells at (is_line line) (other_line d (words_in line) Tasks) (word_demands d (words_in line) Tasks) f (other_meets d (words_in line) Tasks (λ e. cc)) s)
later_tells at d line f Wakes is s = inl (line_tells at (is_line line) (other_line d (words_in line) Wakes) (word_demands d (words_in line) Wakes) f (other_meets d (words_in line) Wakes (λ e. cc)) s)
later_tells at d line f Size is s =
    elim (size_line_tells at d line f (is_line line) refl s) as (λ v. Tells (line_demands true d line Size) at f ⊎ IsBeyond d line true f) [
      | inl unmet ↦ inl unmet
      | inr passes ↦ inr (passes_beyond d line f is passes.0 passes.1)
    ]
later_tells at d line f Instructions is s = inl (line_tells at (is_line line) (other_line d (words_in line) Instructions) (word_demands d (words_in line) Instructions) f (other_meets d (words_in line) Instructions (λ e. cc)) s)
later_tells at d line f Whole is s = inl (whole_tells at (is_line line) f s)

-- a line that is ended, and isn't taken
pub step_tells : (at : ℕ) (d : Draft) (line : List ℕ) (f : CodeFault) → line_step at d line ≡ Err f → IsUnmet d line true at f ⊎ IsBeyond d line true f
unfolding line_step
step_tells at d line f s = later_tells at d line f d.part refl s

abbrev no_draft : CodeKind → Result Draft CodeKind
no_draft kind = Err kind

header_last : (t : Bool) → unread (if t then no_draft BadLine else no_draft BadHeader) ≡ first_unmet ((BadHeader, t) ∷ (BadLine, false) ∷ [])
header_last true = refl
header_last false = refl

whole_last : (d : Draft) (t : Bool) → unread (if t then Ok d else Err BadLine) ≡ first_unmet ((BadLine, t) ∷ [])
whole_last d true = refl
whole_last d false = refl

pub last_meets : (d : Draft) (line : List ℕ) (part : Part) → unread (last_step d line part) ≡ first_unmet (line_demands false d line part)
last_meets d line Header = header_last (is_header line)
last_meets d line Named = refl
last_meets d line Declarations = refl
last_meets d line Tasks = refl
last_meets d line Wakes = refl
last_meets d line Size = refl
last_meets d line Instructions = refl
last_meets d line Whole = whole_last d (is_empty line)

-- what isn't ended, and isn't the end
pub finish_tells : (at : ℕ) (d : Draft) (line : List ℕ) (f : CodeFault) → at_line at (finished d line) ≡ Err f → IsUnmet d line false at f
unfolding finished
finish_tells at d line f s = reading_tells at (last_step d line d.part) (line_demands false d line d.part) f (last_meets d line d.part) s
