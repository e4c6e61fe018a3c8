-- What is wrong with a line, and which line it is, counted from 1.
use Rattle.std.specs.Prelude.{◌≡◌, ℕ, List, Result, Ok, Err, codes}
use Rattle.kts_read.specs.declared.fault.CodeFault.{CodeFault}
use Rattle.kts_read.specs.declared.fault.CodeKind.{CodeKind}
use Rattle.kts_read.specs.declared.fault.CodeKind.TheVariants.{BadHeader, BadLine, BadWord, WrongCount, BadName, BadNumber, BadLabel, TooLong, NoMemory}

-- the word by which a kind is printed
abbrev pub kind_text : CodeKind → List ℕ
kind_text BadHeader = codes "BadHeader"
kind_text BadLine = codes "BadLine"
kind_text BadWord = codes "BadWord"
kind_text WrongCount = codes "WrongCount"
kind_text BadName = codes "BadName"
kind_text BadNumber = codes "BadNumber"
kind_text BadLabel = codes "BadLabel"
kind_text TooLong = codes "TooLong"
kind_text NoMemory = codes "NoMemory"

-- memory was refused
abbrev pub IsNoMemory : CodeKind → Type 0
IsNoMemory kind = kind ≡ NoMemory

abbrev pub fault : CodeKind → ℕ → CodeFault
fault kind line = record { kind = kind; line = line }

-- memory was refused, which is the fault of no line
abbrev pub IsRefused : CodeFault → Type 0
IsRefused f = f ≡ fault NoMemory 0

-- what is told where a line gives this kind
abbrev pub told_at : ℕ → CodeKind → CodeFault
told_at line NoMemory = fault NoMemory 0
told_at line kind = fault kind line

-- the fault of the line of this number
abbrev pub at_line : {X : Type 0} → ℕ → Result X CodeKind → Result X CodeFault
at_line line (Ok x) = Ok x
at_line line (Err kind) = Err (fault kind line)
