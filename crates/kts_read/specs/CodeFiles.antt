-- What a file of code holds: code, or the first line at fault.
use Rattle.std.specs.Prelude.{◌≡◌, ◌↔◌, ℕ, List, Bool, true, false, Option, Some, None, option_and_then, Result, Ok, Err, refl}
use Rattle.kts_base.specs.Reads.{and_then}
use Rattle.kts_code.specs.declared.code.Code.{Code}
use Rattle.kts_code.specs.CodeTexts.{code_text}
use Rattle.kts_code.specs.WellFormed.{is_code}
use Rattle.kts_spec.specs.declared.schema.Schema.{Schema}
use Rattle.kts_spec.specs.Schemas.{is_schema}
use Rattle.kts_read.specs.declared.draft.Draft.{Draft}
use Rattle.kts_read.specs.declared.fault.CodeFault.{CodeFault}
use Rattle.kts_read.specs.declared.fault.CodeKind.TheVariants.{NoMemory}
use Rattle.kts_read.specs.Faults.{fault}
use Rattle.kts_read.specs.FirstFault.{IsFirstFault}
use Rattle.kts_read.specs.Reading.{code_read}
use Rattle.kts_read.specs.Written.{name_or}

-- the declarations and prefixes of a draft, where the test of them is passed
abbrev pub schema_if : (d : Draft) (test : Bool)
    → is_schema (name_or d.name) d.declared.decls d.declared.indexes d.declared.givens d.declared.choices d.constraints.prefixes ≡ test → Option Schema
schema_if d true sound =
    Some (record {
      name = name_or d.name;
      decls = d.declared.decls;
      indexes = d.declared.indexes;
      givens = d.declared.givens;
      choices = d.declared.choices;
      tasks = d.constraints.prefixes;
      is_schema = sound;
    })
schema_if d false unsound = None

unfoldable pub schema_in : Draft → Option Schema
schema_in d =
    schema_if d (is_schema (name_or d.name) d.declared.decls d.declared.indexes d.declared.givens d.declared.choices d.constraints.prefixes) refl

-- the code of a draft, where the test of it is passed
abbrev pub code_if : (d : Draft) (schema : Schema) (test : Bool) → is_code schema d.constraints.entries d.constraints.patterns d.stack d.instrs ≡ test
    → Option Code
code_if d schema true sound =
    Some (record { schema = schema; entries = d.constraints.entries; index = d.constraints.patterns; stack = d.stack; instrs = d.instrs; is_code = sound })
code_if d schema false unsound = None

unfoldable pub code_with : Draft → Schema → Option Code
code_with d schema = code_if d schema (is_code schema d.constraints.entries d.constraints.patterns d.stack d.instrs) refl

abbrev pub code_in : Draft → Option Code
code_in d = option_and_then (code_with d) (schema_in d)

-- what all lines of a file say is code, so the fault of no line is never told
abbrev pub or_no_fault : Option Code → Result Code CodeFault
or_no_fault None = Err (fault NoMemory 0)
or_no_fault (Some code) = Ok code

-- the code of a file, or the first line at fault
unfoldable pub code_of : List ℕ → Result Code CodeFault
code_of bytes = and_then (code_read bytes) (λ d. or_no_fault (code_in d))

-- exactly the text of code is read as this code, and exactly a file with a first line at fault as this fault
pub record CodeFiles : Type 0 where
  pub code : (bytes : List ℕ) (code : Code) → (code_of bytes ≡ Ok code) ↔ (bytes ≡ code_text code)
  pub fault : (bytes : List ℕ) (f : CodeFault) → (code_of bytes ≡ Err f) ↔ IsFirstFault bytes f
