-- A file of code is read as its code, or as its first fault.
use Rattle.std.proofs.Common.{◌≡◌, refl, sym, ◌∙◌, ap, ℕ, List, length, Bool, true, false, Option, None, Some, Result, Ok, Err}
use Rattle.std.specs.Prelude.{option_and_then}
use Rattle.kts_base.specs.Reads.{and_then}
use Rattle.kts_code.specs.declared.code.Code.{Code}
use Rattle.kts_code.specs.CodeTexts.{code_text}
use Rattle.kts_code.specs.WellFormed.{is_code}
use Rattle.kts_spec.specs.Schemas.{is_schema}
use Rattle.kts_spec.specs.declared.schema.Schema.{Schema}
use Rattle.kts_read.specs.CodeFiles.{schema_if, schema_in, code_if, code_with, code_in, or_no_fault, code_of, CodeFiles}
use Rattle.kts_read.specs.FirstFault.{IsFirstFault}
use Rattle.kts_read.specs.Goods.{Good}
use Rattle.kts_read.specs.Lines.{split}
use Rattle.kts_read.specs.Reading.{nothing, read_from, code_read, draft_of}
use Rattle.kts_read.specs.Written.{name_or}
use Rattle.kts_read.specs.declared.draft.Draft.{Draft}
use Rattle.kts_read.specs.declared.draft.Part.{Part}
use Rattle.kts_read.specs.declared.draft.Part.TheVariants.{Whole}
use Rattle.kts_read.specs.declared.fault.CodeFault.{CodeFault}
use Rattle.kts_read.proofs.CodeDrafts.{code_good, text_read, one_of_draft}
use Rattle.kts_read.proofs.ExactFaults.{first_read}
use Rattle.kts_read.proofs.FirstFaults.{first_fault}
use Rattle.kts_read.proofs.Found.{Reads, reading_whole, found}
use Rattle.kts_read.proofs.WholeCode.{schema_of, code_of as sound_code}

-- ---- the code of a whole draft

module _ (d : Draft) where
  -- whether its declarations are sound
  abbrev schema_test : Bool
  schema_test = is_schema (name_or d.name) d.declared.decls d.declared.indexes d.declared.givens d.declared.choices d.constraints.prefixes

  abbrev made : schema_test ≡ true → Schema
  made sound = record {
    name = name_or d.name;
    decls = d.declared.decls;
    indexes = d.declared.indexes;
    givens = d.declared.givens;
    choices = d.declared.choices;
    tasks = d.constraints.prefixes;
    is_schema = sound;
  }

  if_sound : (test : Bool) (e : schema_test ≡ test) → schema_test ≡ true → (sound : schema_test ≡ true) × (schema_if d test e ≡ Some (made sound))
  if_sound true e sound = (e, refl)
  if_sound false e sound = absurd cc

  -- whether it is code with this schema
  abbrev code_test : Schema → Bool
  code_test schema = is_code schema d.constraints.entries d.constraints.patterns d.stack d.instrs

  abbrev made_code : (schema : Schema) → code_test schema ≡ true → Code
  made_code schema sound = record { schema = schema; entries = d.constraints.entries; index = d.constraints.patterns; stack = d.stack; instrs = d.instrs; is_code = sound }

  if_code : (schema : Schema) (test : Bool) (e : code_test schema ≡ test) → code_test schema ≡ true
      → (sound : code_test schema ≡ true) × (code_if d schema test e ≡ Some (made_code schema sound))
  if_code schema true e sound = (e, refl)
  if_code schema false e sound = absurd cc

-- the draft with this part, this name and this size
abbrev with_parts : Draft → Part → Option (List ℕ) → ℕ → Draft
with_parts d part name size =
    record { part = part; name = name; declared = d.declared; constraints = d.constraints; stack = d.stack; size = size; instrs = d.instrs }

parts_same : (d : Draft) (part : Part) (name : Option (List ℕ)) (size : ℕ) → part ≡ d.part → name ≡ d.name → size ≡ d.size → with_parts d part name size ≡ d
parts_same d part name size p n s = ap (λ part. with_parts d part name size) p ∙ ap (λ name. with_parts d d.part name size) n ∙ ap (with_parts d d.part d.name) s

named_so : (name : Option (List ℕ)) (said : List ℕ) → name ≡ Some said → Some (name_or name) ≡ name
named_so name said e = rw e refl

-- a whole draft is that of some code
whole_draft : (d : Draft) → d.part ≡ Whole → Good Whole d → (code : Code) × (code_in d ≡ Some code) × (draft_of code ≡ d)
unfolding schema_in code_with
whole_draft d whole good =
    let opens = good.0 in
    let named : Some (name_or d.name) ≡ d.name = named_so d.name opens.name opens.named in
    let schema = if_sound d (schema_test d) refl (schema_of d (name_or d.name) opens (sym named)) in
    let code = if_code d (made d schema.0) (code_test d (made d schema.0)) refl
    (sound_code d (made d schema.0) good (record { indexes = refl; givens = refl; choices = refl; tasks = refl })) in (
      made_code d (made d schema.0) code.0,
      ap (option_and_then (code_with d)) schema.1 ∙ code.1,
      parts_same d Whole (Some (name_or d.name)) (length d.instrs) (sym whole) named good.3,
    )

-- ---- what a file is read as

abbrev coded : Code → Result Code CodeFault
coded code = Ok code

abbrev failed : CodeFault → Result Code CodeFault
failed f = Err f

abbrev refused : CodeFault → Result Draft CodeFault
refused f = Err f

abbrev from_reading : Result Draft CodeFault → Result Code CodeFault
from_reading read = and_then read (λ d. or_no_fault (code_in d))

-- from what is read the code is had
code_had : (bytes : List ℕ) (d : Draft) → code_read bytes ≡ Ok d → (code : Code) × (from_reading (Ok d) ≡ coded code) × (draft_of code ≡ d)
code_had bytes d read =
    let reads = reading_whole bytes d read in
    let code = whole_draft d reads.whole reads.good in
    (code.0, ap or_no_fault code.1, code.2)

module _ (bytes : List ℕ) where
  by_reading : (P : Type 0) → ((d : Draft) → code_read bytes ≡ Ok d → P) → ((f : CodeFault) → code_read bytes ≡ Err f → P) → P
  by_reading P good bad = by (code_read bytes) refl
    where
      by : (read : Result Draft CodeFault) → code_read bytes ≡ read → P
      by (Ok d) e = good d e
      by (Err f) e = bad f e

  text_of_code : (code : Code) → code_of bytes ≡ Ok code → bytes ≡ code_text code
  unfolding code_of
  text_of_code code is =
      by_reading (bytes ≡ code_text code)
      (λ d read.
      let had = code_had bytes d read in
      let both : coded had.0 ≡ coded code = sym had.1 ∙ ap from_reading (sym read) ∙ is in
      let same : had.0 ≡ code = cc in
      found bytes code (read ∙ ap Ok (sym had.2 ∙ ap draft_of same)))
      (λ f read. let both : failed f ≡ coded code = ap from_reading (sym read) ∙ is in absurd cc)

  code_of_text : (code : Code) → bytes ≡ code_text code → code_of bytes ≡ Ok code
  unfolding code_of
  code_of_text code is =
      let read : code_read bytes ≡ Ok (draft_of code) = ap code_read is ∙ text_read code in
      let had = code_had bytes (draft_of code) read in
      ap from_reading read ∙ had.1 ∙ ap coded (one_of_draft had.0 code had.2)

  first_of_fault : (f : CodeFault) → code_of bytes ≡ Err f → IsFirstFault bytes f
  unfolding code_of
  first_of_fault f is =
      by_reading (IsFirstFault bytes f)
      (λ d read. let had = code_had bytes d read in let both : coded had.0 ≡ failed f = sym had.1 ∙ ap from_reading (sym read) ∙ is in absurd cc)
      (λ g read.
      let both : failed g ≡ failed f = ap from_reading (sym read) ∙ is in
      let same : g ≡ f = cc in
      first_fault bytes f (read ∙ ap refused same))

  fault_of_first : (f : CodeFault) → IsFirstFault bytes f → code_of bytes ≡ Err f
  unfolding code_of
  fault_of_first f first = ap from_reading (first_read bytes f first)

pub code_files : CodeFiles
code_files = record {
  code = (λ bytes code. (text_of_code bytes code, code_of_text bytes code));
  fault = (λ bytes f. (first_of_fault bytes f, fault_of_first bytes f));
}
