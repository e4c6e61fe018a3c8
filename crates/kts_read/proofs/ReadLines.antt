-- Code read line by line.
use Rattle.std.proofs.Common.{◌≡◌, refl, sym, ◌∙◌, ap, ℕ, ◌+◌, List, [], ◌∷◌, Result, Ok, Err, true, false, ◌⊎◌, inl, inr}
use Rattle.kts_base.specs.Reads.{and_then}
use Rattle.kts_read.specs.Lines.{split, is_line, words_in}
use Rattle.kts_read.specs.Faults.{IsRefused, fault, told_at, at_line}
use Rattle.kts_read.specs.Reading.{line_step, later_line, words_line, finished, read_from, code_read, nothing}
use Rattle.kts_read.specs.declared.draft.Part.{Part}
use Rattle.kts_read.specs.declared.draft.Part.TheVariants.{Header, Named, Declarations, Tasks, Wakes, Size, Instructions, Whole}
use Rattle.kts_read.specs.declared.draft.Draft.{Draft}
use Rattle.kts_read.specs.declared.fault.CodeFault.{CodeFault}
use Rattle.kts_read.specs.declared.fault.CodeKind.{CodeKind}
use Rattle.kts_read.specs.declared.fault.CodeKind.TheVariants.{BadHeader, BadLine, BadWord, WrongCount, BadName, BadNumber, BadLabel, TooLong, NoMemory}
use Rattle.kts_read.proofs.Joins.{Pieces, some_piece}

pub on_pieces : (d : Draft) (at : ℕ) (line : List ℕ) (ps : List (List ℕ)) → Pieces ps → read_from d at (line ∷ ps) ≡ and_then (line_step at d line) (λ after. read_from after (at + 1) ps)
unfolding read_from
on_pieces d at line ps some = rw some.2 refl

the_last : (d : Draft) (at : ℕ) (line : List ℕ) → read_from d at (line ∷ []) ≡ at_line at (finished d line)
unfolding read_from
the_last d at line = refl

module _ (d : Draft) (at : ℕ) (rest line : List ℕ) where
  -- a line is read, and then those after it
  pub line_read : (after : List ℕ) (e : Draft) (total : Result Draft CodeFault) → split 10 rest ≡ line ∷ split 10 after → line_step at d line ≡ Ok e → read_from d at (split 10 rest) ≡ total → read_from e (at + 1) (split 10 after) ≡ total
  line_read after e total pieces step so_far =
      let here : read_from d at (split 10 rest) ≡ read_from e (at + 1) (split 10 after) = ap (read_from d at) pieces ∙ on_pieces d at line (split 10 after) (some_piece 10 after) ∙ rw step refl in
      sym here ∙ so_far

  pub line_fails : (after : List ℕ) (f : CodeFault) (total : Result Draft CodeFault) → split 10 rest ≡ line ∷ split 10 after → line_step at d line ≡ Err f → read_from d at (split 10 rest) ≡ total → total ≡ Err f
  line_fails after f total pieces step so_far =
      let here : read_from d at (split 10 rest) ≡ Err f = ap (read_from d at) pieces ∙ on_pieces d at line (split 10 after) (some_piece 10 after) ∙ rw step refl in
      sym so_far ∙ here

  pub last_read : (total : Result Draft CodeFault) → split 10 rest ≡ line ∷ [] → read_from d at (split 10 rest) ≡ total → total ≡ at_line at (finished d line)
  last_read total pieces so_far = sym so_far ∙ ap (read_from d at) pieces ∙ the_last d at line

-- a line of words, after the first line
pub later_words : (at : ℕ) (d : Draft) (line : List ℕ) (part : Part) → (part ≡ Header → ⊥) → is_line line ≡ true → later_line at d line part ≡ words_line at d (words_in line) part
later_words at d line Header h e = absurd (h refl)
later_words at d line Named h e = rw e refl
later_words at d line Declarations h e = rw e refl
later_words at d line Tasks h e = rw e refl
later_words at d line Wakes h e = rw e refl
later_words at d line Size h e = rw e refl
later_words at d line Instructions h e = rw e refl
later_words at d line Whole h e = rw e refl

pub later_bad : (at : ℕ) (d : Draft) (line : List ℕ) (part : Part) → (part ≡ Header → ⊥) → is_line line ≡ false → later_line at d line part ≡ Err (fault BadLine at)
later_bad at d line Header h e = absurd (h refl)
later_bad at d line Named h e = rw e refl
later_bad at d line Declarations h e = rw e refl
later_bad at d line Tasks h e = rw e refl
later_bad at d line Wakes h e = rw e refl
later_bad at d line Size h e = rw e refl
later_bad at d line Instructions h e = rw e refl
later_bad at d line Whole h e = rw e refl

pub step_words : (at : ℕ) (d : Draft) (line : List ℕ) → (d.part ≡ Header → ⊥) → is_line line ≡ true → line_step at d line ≡ words_line at d (words_in line) d.part
unfolding line_step
step_words at d line h e = later_words at d line d.part h e

pub step_bad : (at : ℕ) (d : Draft) (line : List ℕ) → (d.part ≡ Header → ⊥) → is_line line ≡ false → line_step at d line ≡ Err (fault BadLine at)
unfolding line_step
step_bad at d line h e = later_bad at d line d.part h e

pub code_read_is : (bytes : List ℕ) → code_read bytes ≡ read_from nothing 1 (split 10 bytes)
unfolding code_read
code_read_is bytes = refl

-- ---- what is told of the end

abbrev refused : CodeFault → Result Draft CodeFault
refused f = Err f

other_told : (at : ℕ) (kind : CodeKind) (r : Result Draft CodeKind) (total : Result Draft CodeFault) → total ≡ at_line at r → (kind ≡ NoMemory → ⊥) → (kind ≡ NoMemory) ⊎ (r ≡ Err kind) → IsRefused (fault kind at) ⊎ (total ≡ refused (fault kind at))
other_told at kind r total t other (inl none) = absurd (other none)
other_told at kind r total t other (inr fails) = inr (t ∙ ap (at_line at) fails)

pub told_last : (at : ℕ) (kind : CodeKind) (r : Result Draft CodeKind) (total : Result Draft CodeFault) → total ≡ at_line at r → (kind ≡ NoMemory) ⊎ (r ≡ Err kind) → IsRefused (told_at at kind) ⊎ (total ≡ refused (told_at at kind))
told_last at BadHeader r total t h = other_told at BadHeader r total t (λ e. cc) h
told_last at BadLine r total t h = other_told at BadLine r total t (λ e. cc) h
told_last at BadWord r total t h = other_told at BadWord r total t (λ e. cc) h
told_last at WrongCount r total t h = other_told at WrongCount r total t (λ e. cc) h
told_last at BadName r total t h = other_told at BadName r total t (λ e. cc) h
told_last at BadNumber r total t h = other_told at BadNumber r total t (λ e. cc) h
told_last at BadLabel r total t h = other_told at BadLabel r total t (λ e. cc) h
told_last at TooLong r total t h = other_told at TooLong r total t (λ e. cc) h
told_last at NoMemory r total t h = inl refl
