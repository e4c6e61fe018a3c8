-- How `generate` ends by a specification's code, and how `run` goes on by a code file.
use Rattle.std.proofs.Common.{◌≡◌, ◌⊎◌, inl, inr, sym, ap, subst, ℕ, List, Option, Some, None, Ok, Err}
use Rattle.kts_base.specs.declared.status.Status.{Status}
use Rattle.kts_base.specs.declared.status.Status.TheVariants as status
use Rattle.kts_base.specs.Writes.{Log}
use Rattle.kts_code.specs.declared.code.Code.{Code}
use Rattle.kts_code.specs.CodeTexts.{code_text}
use Rattle.kts_read.specs.declared.fault.CodeFault.{CodeFault}
use Rattle.kts_read.specs.CodeFiles.{code_of, CodeFiles}
use Rattle.kts_read.specs.Faults.{IsNoMemory, IsRefused}
use Rattle.kts_read.specs.FirstFault.{IsFirstFault}
use Rattle.kts_search.specs.WholeFaults.{IsTooLong}
use Rattle.kts_search.specs.WholeScheme.{length_of_whole, whole_scheme}
use Rattle.kts_spec.specs.declared.spec.Spec.{Spec}
use Rattle.kts_top.specs.Endings.{Ends, EndsOrLacks, ended}
use Rattle.kts_top.specs.Lines.{refused_length}
use Rattle.kts_top.specs.Owed.{generation, generation_of}

-- ---- `generate`

module _ {s : Status} {old new : Log} (spec : Spec) where
  by_code : (code : Option Code) → whole_scheme spec ≡ code → Ends s old new (generation (length_of_whole spec) code) → EndsOrLacks s old new (generation_of (Some spec))
  by_code code e ends = ended (subst (λ (c : Option Code). Ends s old new (generation (length_of_whole spec) c)) (sym e) ends)

  -- the code was put
  pub code_put : (code : Code) → whole_scheme spec ≡ Some code → Ends s old new (record { status = status.Done; bytes = code_text code }) → EndsOrLacks s old new (generation_of (Some spec))
  code_put code e ends = by_code (Some code) e ends

  -- the line of its length was put
  pub length_put : (n : ℕ) → IsTooLong spec n → Ends s old new (refused_length n) → EndsOrLacks s old new (generation_of (Some spec))
  length_put n long ends = by_code None long.no_code (subst (λ n. Ends s old new (refused_length n)) long.length_is ends)

-- ---- `run`

module _ (files : CodeFiles) (bytes : List ℕ) where
  -- a file that is the text of code holds this code
  pub code_held : (code : Code) → bytes ≡ code_text code → code_of bytes ≡ Ok code
  code_held code is = (files.code bytes code).1 is

  -- one with a first fault holds this fault
  pub fault_held : (fault : CodeFault) → IsRefused fault ⊎ IsFirstFault bytes fault → IsNoMemory fault.kind ⊎ (code_of bytes ≡ Err fault)
  fault_held fault (inl refused) = inl (ap (λ (f : CodeFault). f.kind) refused)
  fault_held fault (inr first) = inr ((files.fault bytes fault).1 first)
