-- A fault of the reading is at the first line at fault.
use Rattle.std.proofs.Common.{◌≡◌, refl, sym, ◌∙◌, ap, ℕ, ◌+◌, List, [], ◌∷◌, ◌++◌, append_assoc, length, length-append, map, Result, Ok, Err, ◌⊎◌, inl, inr, arith}
use Rattle.std.specs.Prelude.{IfErr}
use Rattle.kts_base.specs.Reads.{Gives}
use Rattle.kts_code.specs.declared.code.Code.{Code}
use Rattle.kts_read.specs.Faults.{IsRefused}
use Rattle.kts_read.specs.FirstFault.{IsFirstFault}
use Rattle.kts_read.specs.Goods.{Good}
use Rattle.kts_read.specs.Lines.{split, line_of}
use Rattle.kts_read.specs.Reading.{nothing, line_step, read_from, code_read, draft_of}
use Rattle.kts_read.specs.Written.{written}
use Rattle.kts_read.specs.declared.draft.Draft.{Draft}
use Rattle.kts_read.specs.declared.fault.CodeFault.{CodeFault}
use Rattle.kts_read.proofs.Found.{Steps, step_adds}
use Rattle.kts_read.proofs.Joins.{some_piece}
use Rattle.kts_read.proofs.LineDemands.{step_tells, finish_tells}
use Rattle.kts_read.proofs.MoreDeclarations.{map_more}

by_step : (r : Result Draft CodeFault) (P : Type 0) → ((e : Draft) → r ≡ Ok e → P) → ((f : CodeFault) → r ≡ Err f → P) → P
by_step (Ok e) P good bad = good e refl
by_step (Err f) P good bad = bad f refl

abbrev refused : CodeFault → Result Draft CodeFault
refused f = Err f

same_fault : (f g : CodeFault) → refused f ≡ Err g → f ≡ g
same_fault f g e = cc

-- the lines after one line more
lines_on : (d e : Draft) (line next : List ℕ) (lines : List (List ℕ)) → Steps d line e → map line_of (written d d.part) ++ line ∷ next ∷ lines ≡ map line_of (written e e.part) ++ next ∷ lines
lines_on d e line next lines one =
    let so_far : map line_of (written e e.part) ≡ map line_of (written d d.part) ++ line ∷ [] =
    ap (map line_of) one.lines ∙ map_more line_of (written d d.part) one.words ∙ ap (λ (l : List ℕ). map line_of (written d d.part) ++ l ∷ []) (sym one.spelled) in
    sym (ap (λ (ls : List (List ℕ)). ls ++ next ∷ lines) so_far ∙ append_assoc (map line_of (written d d.part)) (line ∷ []) (next ∷ lines))

count_on : (d e : Draft) (line : List ℕ) → Steps d line e → length (written d d.part) + 1 + 1 ≡ length (written e e.part) + 1
count_on d e line one = let more = ap length one.lines ∙ length-append (written d d.part) (one.words ∷ []) in omega (arith, more)

module _ (bytes : List ℕ) (f : CodeFault) where
  first_from : (lines : List (List ℕ)) (line : List ℕ) (d : Draft) → Good d.part d → split 10 bytes ≡ map line_of (written d d.part) ++ line ∷ lines
      → read_from d (length (written d d.part) + 1) (line ∷ lines) ≡ Err f → IsFirstFault bytes f
  unfolding read_from
  first_from [] line d good pieces s =
      record { draft = d; line = line; rest = []; good = good; pieces = pieces; at_fault = inl (finish_tells (length (written d d.part) + 1) d line f s) }
  first_from (next ∷ lines) line d good pieces s =
      by_step (line_step (length (written d d.part) + 1) d line) (IsFirstFault bytes f)
      (λ e step.
      let one = step_adds (length (written d d.part) + 1) d e line good step in
      let on : read_from e (length (written e e.part) + 1) (next ∷ lines) ≡ Err f = ap (λ at. read_from e at (next ∷ lines)) (sym (count_on d e line one)) ∙ rw step at s in
      first_from lines next e one.good (pieces ∙ lines_on d e line next lines one) on)
      (λ g step.
      let same = same_fault g f (rw step at s) in
      record { draft = d; line = line; rest = next ∷ lines; good = good; pieces = pieces; at_fault = step_tells (length (written d d.part) + 1) d line f (step ∙ ap refused same) })

  -- the fault of the reading is the first
  pub first_fault : code_read bytes ≡ Err f → IsFirstFault bytes f
  unfolding code_read
  first_fault fails = let some = some_piece 10 bytes in first_from some.1 some.0 nothing refl some.2 (rw some.2 at fails)

pub first_from_reading : (bytes : List ℕ) (result : Result Code CodeFault) → Gives IsRefused draft_of result (code_read bytes) → IfErr result (λ fault. IsRefused fault ⊎ IsFirstFault bytes fault)
first_from_reading bytes (Ok code) g = tt
first_from_reading bytes (Err f) (inl refused) = inl refused
first_from_reading bytes (Err f) (inr fails) = inr (first_fault bytes f fails)
