-- What is wrong with a tree, and where the tree begins.
use Rattle.std.specs.Prelude.{◌≡◌, ℕ, List, Result, Err, codes}
use Rattle.kts_base.specs.declared.fault.Fault.{Fault}
use Rattle.kts_syntax.specs.declared.fault.FormKind.{FormKind}
use Rattle.kts_syntax.specs.declared.fault.FormKind.TheVariants.{NotAForm, WrongCount, BadNumber, TooMany, NoMemory}

abbrev pub FormFault : Type 0
FormFault = Fault FormKind

abbrev pub fault : FormKind → ℕ → FormFault
fault kind at = record { kind = kind; at = at }

abbrev pub fail : {A : Type 0} → FormKind → ℕ → Result A FormFault
fail kind at = Err (fault kind at)

-- memory was refused
abbrev pub IsNoMemory : FormFault → Type 0
IsNoMemory f = f ≡ fault NoMemory 0

-- the word by which a kind is printed
abbrev pub kind_text : FormKind → List ℕ
kind_text NotAForm = codes "NotAForm"
kind_text WrongCount = codes "WrongCount"
kind_text BadNumber = codes "BadNumber"
kind_text TooMany = codes "TooMany"
kind_text NoMemory = codes "NoMemory"
