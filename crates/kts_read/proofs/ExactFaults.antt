-- A first fault is the fault of the reading, so there is one at most.
use Rattle.std.proofs.Common.{◌≡◌, refl, sym, ◌∙◌, ap, ℕ, ◌+◌, ◌<◌, ◌≤◌, List, [], ◌∷◌, length, Bool, true, false, if◌then◌else◌, None, Some, Result, Ok, Err, ◌⊎◌, inl, inr, arith}
use Rattle.std.specs.Prelude.{decimal}
use Rattle.std.proofs.lemmas.Fmt.{decimal_injective}
use Rattle.kts_base.specs.Limits.{most_instructions}
use Rattle.kts_base.specs.Reads.{and_then}
use Rattle.kts_code.specs.declared.code.Code.{Code}
use Rattle.kts_code.specs.CodeTexts.{size_words, code_text}
use Rattle.kts_read.specs.Demands.{Demand, first_unmet, size_demands, word_demands, line_demands}
use Rattle.kts_read.specs.Faults.{fault, at_line}
use Rattle.kts_read.specs.FirstFault.{IsUnmet, IsBeyond, is_ended, IsFirstFault}
use Rattle.kts_read.specs.Lines.{is_line, words_in}
use Rattle.kts_read.specs.Reading.{nothing, begun, size_in, placed_count, placed, size_line, other_line, is_header, later_line, line_step, finished, last_step, read_from, code_read, draft_of}
use Rattle.kts_read.specs.Words.{word}
use Rattle.kts_read.specs.Written.{written}
use Rattle.kts_read.specs.declared.draft.Draft.{Draft}
use Rattle.kts_read.specs.declared.draft.Part.{Part}
use Rattle.kts_read.specs.declared.draft.Part.TheVariants.{Header, Named, Declarations, Tasks, Wakes, Size, Instructions, Whole}
use Rattle.kts_read.specs.declared.fault.CodeFault.{CodeFault}
use Rattle.kts_read.specs.declared.fault.CodeKind.{CodeKind}
use Rattle.kts_read.specs.declared.fault.CodeKind.TheVariants.{BadHeader, BadLine, BadLabel}
use Rattle.kts_read.proofs.Again.{arrives}
use Rattle.kts_read.proofs.BodyDemands.{size_meets}
use Rattle.kts_read.proofs.CodeDrafts.{text_read}
use Rattle.kts_read.proofs.DraftAdds.{size_found}
use Rattle.kts_read.proofs.LineDemands.{Tells, other_meets, last_meets}
use Rattle.kts_read.proofs.Tests.{lt_test}
use Rattle.kts_read.proofs.Unmet.{unread}

abbrev refused : {X : Type 0} → CodeFault → Result X CodeFault
refused f = Err f

fault_is : (kind : CodeKind) (at : ℕ) (f : CodeFault) → Some kind ≡ Some f.kind → f.line ≡ at → fault kind at ≡ f
fault_is kind at f e l = let same : kind ≡ f.kind = cc in ap (λ k. fault k at) same ∙ ap (fault f.kind) (sym l)

-- a reading fails as it tells
reading_told : {X : Type 0} (at : ℕ) (r : Result X CodeKind) (ds : List Demand) (f : CodeFault) → unread r ≡ first_unmet ds → Tells ds at f → at_line at r ≡ refused f
reading_told at (Ok x) ds f e t = let none : None ≡ Some f.kind = e ∙ t.0 in absurd (no_kind f.kind none)
  where
    no_kind : (k : CodeKind) → None ≡ Some k → ⊥
    no_kind k e = cc
reading_told at (Err kind) ds f e t = ap refused (fault_is kind at f (e ∙ t.0) t.1)

line_told : (at : ℕ) (t : Bool) (r : Result Draft CodeKind) (ds : List Demand) (f : CodeFault) → unread r ≡ first_unmet ds → Tells ((BadLine, t) ∷ ds) at f → (if t then at_line at r else Err (fault BadLine at)) ≡ refused f
line_told at true r ds f e told = reading_told at r ds f e told
line_told at false r ds f e told = ap refused (fault_is BadLine at f told.0 told.1)

header_told : (at : ℕ) (d : Draft) (t : Bool) (f : CodeFault) → Tells ((BadHeader, t) ∷ (BadLine, true) ∷ []) at f → (if t then Ok (begun d) else Err (fault BadHeader at)) ≡ refused f
header_told at d true f told = absurd (no_kind f.kind told.0)
  where
    no_kind : (k : CodeKind) → None ≡ Some k → ⊥
    no_kind k e = cc
header_told at d false f told = ap refused (fault_is BadHeader at f told.0 told.1)

whole_told : (at : ℕ) (t : Bool) (f : CodeFault) → Tells ((BadLine, false) ∷ []) at f → (if t then refused {X = Draft} (fault BadLine at) else refused (fault BadLine at)) ≡ refused f
whole_told at true f told = ap refused (fault_is BadLine at f told.0 told.1)
whole_told at false f told = ap refused (fault_is BadLine at f told.0 told.1)

-- ---- the line of the size

size_told : (at : ℕ) (d : Draft) (words : List (List ℕ)) (f : CodeFault) → Tells (size_demands words) at f → size_line at d words ≡ refused f
unfolding size_line
size_told at d words f told = ap (λ r. and_then r (λ size. placed d size (placed_count size d.constraints.entries))) (reading_told at (size_in words) (size_demands words) f (size_meets words) told)

size_there : (r : Result ℕ CodeKind) → None ≡ unread r → (n : ℕ) × (r ≡ Ok n)
size_there (Ok n) e = (n, refl)
size_there (Err kind) e = absurd cc

second_word : (a b : ℕ) → size_words a ≡ size_words b → decimal a ≡ decimal b
second_word a b e = ap (λ (ws : List (List ℕ)). word ws 1) e

beyond_told : (at : ℕ) (d : Draft) (words : List (List ℕ)) (size : ℕ) → size ≤ most_instructions → None ≡ first_unmet (size_demands words) → words ≡ size_words size → placed_count size d.constraints.entries < length d.constraints.entries
    → size_line at d words ≡ refused (fault BadLabel (3 + length d.declared.decls + placed_count size d.constraints.entries))
unfolding size_line
beyond_told at d words size small met says beyond =
    let read = size_there (size_in words) (met ∙ sym (size_meets words)) in
    let found = size_found words read.0 read.1 in
    let few = found.few in
    let same : read.0 ≡ size = decimal_injective read.0 size (omega (arith, few)) (omega (arith, small)) (second_word read.0 size (sym found.spelled ∙ says)) in
    rw (read.1 ∙ ap Ok same, lt_test (placed_count size d.constraints.entries) (length d.constraints.entries) beyond) refl

size_line_told : (at : ℕ) (d : Draft) (line : List ℕ) (f : CodeFault) (t : Bool) → Tells ((BadLine, t) ∷ size_demands (words_in line)) at f → (if t then size_line at d (words_in line) else Err (fault BadLine at)) ≡ refused f
size_line_told at d line f true told = size_told at d (words_in line) f told
size_line_told at d line f false told = ap refused (fault_is BadLine at f told.0 told.1)

size_line_beyond : (at : ℕ) (d : Draft) (line : List ℕ) (size : ℕ) (t : Bool) → size ≤ most_instructions → first_unmet ((BadLine, t) ∷ size_demands (words_in line)) ≡ None → words_in line ≡ size_words size → placed_count size d.constraints.entries < length d.constraints.entries
    → (if t then size_line at d (words_in line) else Err (fault BadLine at)) ≡ refused (fault BadLabel (3 + length d.declared.decls + placed_count size d.constraints.entries))
size_line_beyond at d line size true few met says beyond = beyond_told at d (words_in line) size few (sym met) says beyond
size_line_beyond at d line size false few met says beyond = absurd cc

-- ---- any line

later_told : (at : ℕ) (d : Draft) (line : List ℕ) (f : CodeFault) (part : Part) → Tells (line_demands true d line part) at f → later_line at d line part ≡ refused f
later_told at d line f Header told = header_told at d (is_header line) f told
later_told at d line f Named told = line_told at (is_line line) (other_line d (words_in line) Named) (word_demands d (words_in line) Named) f (other_meets d (words_in line) Named (λ e. cc)) told
later_told at d line f Declarations told = line_told at (is_line line) (other_line d (words_in line) Declarations) (word_demands d (words_in line) Declarations) f (other_meets d (words_in line) Declarations (λ e. cc)) told
later_told at d line f Tasks told = line_told at (is_line line) (other_line d (words_in line) Tasks) (word_demands d (words_in line) Tasks) f (other_meets d (words_in line) Tasks (λ e. cc)) told
later_told at d line f Wakes told = line_told at (is_line line) (other_line d (words_in line) Wakes) (word_demands d (words_in line) Wakes) f (other_meets d (words_in line) Wakes (λ e. cc)) told
later_told at d line f Size told = size_line_told at d line f (is_line line) told
later_told at d line f Instructions told = line_told at (is_line line) (other_line d (words_in line) Instructions) (word_demands d (words_in line) Instructions) f (other_meets d (words_in line) Instructions (λ e. cc)) told
later_told at d line f Whole told = whole_told at (is_line line) f told

step_told : (at : ℕ) (d : Draft) (line : List ℕ) (f : CodeFault) → IsUnmet d line true at f → line_step at d line ≡ refused f
unfolding line_step
step_told at d line f told = later_told at d line f d.part told

later_beyond : (at : ℕ) (d : Draft) (line : List ℕ) (f : CodeFault) (part : Part) → part ≡ Size → IsBeyond d line true f → d.part ≡ part → later_line at d line part ≡ refused f
later_beyond at d line f Header e b is = absurd cc
later_beyond at d line f Named e b is = absurd cc
later_beyond at d line f Declarations e b is = absurd cc
later_beyond at d line f Tasks e b is = absurd cc
later_beyond at d line f Wakes e b is = absurd cc
later_beyond at d line f Size e b is = size_line_beyond at d line b.size (is_line line) b.few (ap (λ (part : Part). first_unmet (line_demands true d line part)) (sym is) ∙ b.met) b.says b.beyond ∙ ap refused (sym b.told)
later_beyond at d line f Instructions e b is = absurd cc
later_beyond at d line f Whole e b is = absurd cc

step_beyond : (at : ℕ) (d : Draft) (line : List ℕ) (f : CodeFault) → IsBeyond d line true f → line_step at d line ≡ refused f
unfolding line_step
step_beyond at d line f b = later_beyond at d line f d.part b.part b refl

-- a line that isn't ended says no size
no_size : (d : Draft) (line : List ℕ) (f : CodeFault) → IsBeyond d line false f → ⊥
no_size d line f b = some_kind (sym (ap (λ (part : Part). first_unmet (line_demands false d line part)) b.part) ∙ b.met)
  where
    some_kind : Some BadLine ≡ None → ⊥
    some_kind e = cc

-- ---- the fault of the reading

module _ (bytes : List ℕ) (f : CodeFault) where
  from_draft : (d : Draft) (line : List ℕ) (rest : List (List ℕ)) → IsUnmet d line (is_ended rest) (length (written d d.part) + 1) f ⊎ IsBeyond d line (is_ended rest) f → read_from d (length (written d d.part) + 1) (line ∷ rest) ≡ refused f
  unfolding read_from finished
  from_draft d line [] (inl told) = reading_told (length (written d d.part) + 1) (last_step d line d.part) (line_demands false d line d.part) f (last_meets d line d.part) told
  from_draft d line [] (inr beyond) = absurd (no_size d line f beyond)
  from_draft d line (next ∷ lines) (inl told) = ap (λ r. and_then r (λ after. read_from after (length (written d d.part) + 1 + 1) (next ∷ lines))) (step_told (length (written d d.part) + 1) d line f told)
  from_draft d line (next ∷ lines) (inr beyond) = ap (λ r. and_then r (λ after. read_from after (length (written d d.part) + 1 + 1) (next ∷ lines))) (step_beyond (length (written d d.part) + 1) d line f beyond)

  pub first_read : IsFirstFault bytes f → code_read bytes ≡ refused f
  unfolding code_read
  first_read first =
      let d = first.draft in
      ap (read_from nothing 1) first.pieces ∙ (arrives first.draft first.good).reads (first.line ∷ first.rest) (first.line, first.rest, refl) ∙ from_draft first.draft first.line first.rest first.at_fault

-- there is one first fault
pub one_fault : (bytes : List ℕ) (f g : CodeFault) → IsFirstFault bytes f → IsFirstFault bytes g → f ≡ g
one_fault bytes f g a b = let same : refused {X = Draft} f ≡ refused g = sym (first_read bytes f a) ∙ first_read bytes g b in cc

-- the text of code has none
pub no_fault : (code : Code) (f : CodeFault) → IsFirstFault (code_text code) f → ⊥
no_fault code f a = let read : refused f ≡ Ok (draft_of code) = sym (first_read (code_text code) f a) ∙ text_read code in cc
