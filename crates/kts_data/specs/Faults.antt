-- What is wrong with data, under which name, and at which element.
use Rattle.std.specs.Prelude.{◌≡◌, ℕ, List, [], ◌∷◌, ◌++◌, Option, Some, None, Result, Ok, Err, codes, decimal}
use Rattle.kts_base.specs.Reads.{and_then}
use Rattle.kts_data.specs.declared.fault.DataFault.{DataFault}
use Rattle.kts_data.specs.declared.fault.Reason.{Reason}
use Rattle.kts_data.specs.declared.fault.Reason.TheVariants.{NotJson, NotObject, MissingName, UnknownName, NotList, WrongLength, NotText, BadName, Repeated, NotWhole, OutOfRange, UnknownMember, TooManyMembers, TooManyCells, TooManyTasks, NoMemory}

abbrev pub fault : Option (List ℕ) → ℕ → Reason → DataFault
fault name element reason = record { name = name; element = element; reason = reason }

-- memory was refused
abbrev pub no_memory : DataFault
no_memory = fault None 0 NoMemory

abbrev pub IsNoMemory : DataFault → Type 0
IsNoMemory f = f ≡ no_memory

-- what is read of data, or what is wrong
abbrev pub Read : Type 0 → Type 0
Read A = Result A DataFault

-- the value, or that fault
abbrev pub or_fault : {A : Type 0} → Option A → DataFault → Read A
or_fault (Some a) f = Ok a
or_fault None f = Err f

-- what is read of each of a list, in order, beside what was read before it; or the first fault
unfoldable pub fold_read : {S D : Type 0} → (S → D → Read S) → S → List D → Read S
fold_read step s [] = Ok s
fold_read step s (d ∷ ds) = and_then (step s d) (λ t. fold_read step t ds)

-- ---- the text of a fault

-- a reason, with its count where it has one
abbrev pub reason_text : Reason → List ℕ
reason_text NotJson = codes "NotJson"
reason_text NotObject = codes "NotObject"
reason_text MissingName = codes "MissingName"
reason_text UnknownName = codes "UnknownName"
reason_text NotList = codes "NotList"
reason_text WrongLength = codes "WrongLength"
reason_text NotText = codes "NotText"
reason_text BadName = codes "BadName"
reason_text Repeated = codes "Repeated"
reason_text NotWhole = codes "NotWhole"
reason_text OutOfRange = codes "OutOfRange"
reason_text UnknownMember = codes "UnknownMember"
reason_text (TooManyMembers n) = codes "TooManyMembers " ++ decimal n
reason_text (TooManyCells n) = codes "TooManyCells " ++ decimal n
reason_text (TooManyTasks n) = codes "TooManyTasks " ++ decimal n
reason_text NoMemory = codes "NoMemory"

-- a name, and a dash where there is none
abbrev pub name_text : Option (List ℕ) → List ℕ
name_text (Some name) = name
name_text None = codes "-"

-- the reason, the name and the element
unfoldable pub fault_text : DataFault → List ℕ
fault_text f = reason_text f.reason ++ (codes " " ++ (name_text f.name ++ (codes " " ++ decimal f.element)))
