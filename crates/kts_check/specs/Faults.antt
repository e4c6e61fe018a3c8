-- What is wrong with a specification, and where.
use Rattle.std.specs.Prelude.{◌≡◌, ℕ, List, ◌++◌, Result, Err, codes}
use Rattle.std.specs.Fmt.{signed_decimal}
use Rattle.kts_base.specs.declared.fault.Fault.{Fault}
use Rattle.kts_check.specs.declared.fault.SpecKind.{SpecKind}
use Rattle.kts_check.specs.declared.fault.SpecKind.TheVariants.{UnknownName, NameTaken, WrongKind, WrongCount, BadRange, Unbounded, TooMany, NoMemory}

-- a kind of fault at a place
abbrev pub SpecFault : Type 0
SpecFault = Fault SpecKind

-- a value, or the fault that comes first
abbrev pub Judged : Type 0 → Type 0
Judged A = Result A SpecFault

-- a fault at a place
abbrev pub fault : SpecKind → ℕ → SpecFault
fault kind at = record { kind = kind; at = at }

-- a judgement that gives a fault
abbrev pub fail : {A : Type 0} → SpecKind → ℕ → Judged A
fail kind at = Err (fault kind at)

-- memory was refused
abbrev pub IsNoMemory : SpecFault → Type 0
IsNoMemory f = f ≡ fault NoMemory 0

-- what is printed of a kind
abbrev pub kind_text : SpecKind → List ℕ
kind_text UnknownName = codes "UnknownName"
kind_text NameTaken = codes "NameTaken"
kind_text WrongKind = codes "WrongKind"
kind_text WrongCount = codes "WrongCount"
kind_text BadRange = codes "BadRange"
kind_text (Unbounded low high) = codes "Unbounded " ++ (signed_decimal low ++ (codes " " ++ signed_decimal high))
kind_text TooMany = codes "TooMany"
kind_text NoMemory = codes "NoMemory"
