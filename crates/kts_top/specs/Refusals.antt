-- The refusals of a file's content, of data and of plans, each with its line.
use Rattle.std.specs.Prelude.{ℕ, List, ◌++◌, codes, decimal}
use Rattle.kts_base.specs.declared.status.Status.TheVariants.{Refused}
use Rattle.kts_check.specs.Faults.{kind_text as spec_text}
use Rattle.kts_data.specs.Faults.{fault_text}
use Rattle.kts_data.specs.declared.fault.DataFault.{DataFault}
use Rattle.kts_spec.specs.Texts.{newline}
use Rattle.kts_read.specs.Faults.{kind_text as code_kind_text}
use Rattle.kts_read.specs.declared.fault.CodeFault.{CodeFault}
use Rattle.kts_syntax.specs.Faults.{kind_text as form_text}
use Rattle.kts_text.specs.Faults.{kind_text as tree_text}
use Rattle.kts_top.specs.declared.content_fault.ContentFault.{ContentFault}
use Rattle.kts_top.specs.declared.content_fault.ContentFault.TheVariants.{Trees, Form, Spec}
use Rattle.kts_top.specs.Lines.{Owed}

-- the line of a fault: of what, the text of its kind, and its place
abbrev pub refused_at : List ℕ → List ℕ → ℕ → Owed
refused_at what text at = record { status = Refused; bytes = what ++ (text ++ (codes " at " ++ (decimal at ++ newline))) }

-- the refusal of a file that has no forms that are well typed
abbrev pub refusal : ContentFault → Owed
refusal (Trees fault) = refused_at (codes "refused trees ") (tree_text fault.kind) fault.at
refusal (Form fault) = refused_at (codes "refused form ") (form_text fault.kind) fault.at
refusal (Spec fault) = refused_at (codes "refused spec ") (spec_text fault.kind) fault.at

-- the line of a fault in data or in a plan: of what, and the text of the fault
abbrev pub refused_value : List ℕ → DataFault → Owed
refused_value what fault = record { status = Refused; bytes = what ++ (fault_text fault ++ newline) }

abbrev pub refused_data : DataFault → Owed
refused_data fault = refused_value (codes "refused data ") fault

abbrev pub refused_plan : DataFault → Owed
refused_plan fault = refused_value (codes "refused plan ") fault

-- the line of the first line of a code file that is at fault
abbrev pub refused_code : CodeFault → Owed
refused_code fault = record { status = Refused; bytes = codes "refused code " ++ (code_kind_text fault.kind ++ (codes " at line " ++ (decimal fault.line ++ newline))) }
