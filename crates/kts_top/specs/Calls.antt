-- What is promised of a call of the program.
use Rattle.std.specs.Prelude.{◌≡◌, ◌≢◌, ◌⊎◌, ℕ, ◌+◌, ◌<◌, List, Option, Some, None}
use Rattle.kts_base.specs.declared.status.Status.{Status}
use Rattle.kts_base.specs.declared.status.Status.TheVariants.{Done as Completed, Refused, Usage, Budget, NoMemory, ReadFault, WriteFault, Trap}
use Rattle.kts_base.specs.Counts.{Rose, told_after}
use Rattle.kts_base.specs.Stores.{Store}
use Rattle.kts_base.specs.Writes.{Log, Done}
use Rattle.kts_top.specs.Commands.{Command, run}
use Rattle.kts_top.specs.Endings.{Ends}
use Rattle.kts_top.specs.Lines.{Owed, usage as usage_line, fault_read, no_memory}
use Rattle.kts_top.specs.Manual.{IsCommand}
use Rattle.kts_top.specs.Options.{RunOptions}
use Rattle.kts_top.specs.Owed.{Want, end, load, wanted, owed}

-- a call: its words and its status, and its files and its sink before and after
pub record Call : Type 0 where
  pub words : List (List ℕ)
  pub status : Status
  pub files : Store
  pub files_after : Store
  pub out : Log
  pub out_after : Log

-- the words are a command, by the manual
abbrev pub IsCommandLine : List (List ℕ) → Type 0
IsCommandLine words = (command : Command) × IsCommand command words

-- the words are `run` of a code file
abbrev pub IsRunLine : List (List ℕ) → Type 0
IsRunLine words = (code table : List ℕ) × (options : RunOptions) × IsCommand (run code table options) words

-- what wants this comes to load the file of number n, under this path, by what each load gives, where its next file has the number k
abbrev pub Loads : (ℕ → List ℕ → Option (List ℕ)) → ℕ → Want → ℕ → List ℕ → Type 0
Loads given k (end owed) n path = ⊥
Loads given k (load first next) n path = ((n ≡ k) × (path ≡ first)) ⊎ ((bytes : List ℕ) × (given k first ≡ Some bytes) × Loads given (k + 1) (next bytes) n path)

-- the words are a command that comes to load the file of number n, under this path, by what each load gives
abbrev pub LoadsFile : List (List ℕ) → (ℕ → List ℕ → Option (List ℕ)) → ℕ → List ℕ → Type 0
LoadsFile words given n path = (command : Command) × IsCommand command words × Loads given 1 (wanted command) n path

-- ---- what is owed

-- files tell all that they hold: nothing under a path, or these bytes
abbrev pub Tells : Store → (List ℕ → Option (List ℕ)) → Type 0
Tells files held = (path : List ℕ) → files.held path ≡ Some (held path)

-- each load may give so much, by what files tell: where they tell of a path, it is this
abbrev pub MayHold : Store → (ℕ → List ℕ → Option (List ℕ)) → Type 0
MayHold files held = (k : ℕ) (path : List ℕ) (content : Option (List ℕ)) → files.held path ≡ Some content → held k path ≡ content

-- how a call ended where this is owed, by what each load gives: so, or with the line of a load that failed, or with that of refused
-- memory
pub data Answers (call : Call) (given : ℕ → List ℕ → Option (List ℕ)) (owed : Owed) : Type 0 where
  owing : Ends call.status call.out call.out_after owed → Answers call given owed
  unread : (k : ℕ) (path : List ℕ) → LoadsFile call.words given k path → Rose call.files.faults call.files_after.faults
      → Ends call.status call.out call.out_after (fault_read k) → Answers call given owed
  starved : IsCommandLine call.words → Ends call.status call.out call.out_after no_memory → Answers call given owed

-- ---- causes

-- the load of file k failed, or nothing is held there; it was the last of k loads, and its line was put
pub record FailsAt (call : Call) (given : ℕ → List ℕ → Option (List ℕ)) (k : ℕ) (path : List ℕ) : Type 0 where
  pub wants : LoadsFile call.words given k path
  pub failed : Rose call.files.faults call.files_after.faults ⊎ (call.files.held path ≡ Some None)
  pub loads : call.files_after.loads ≡ told_after k call.files.loads
  pub line : Done call.out call.out_after (fault_read k).bytes

-- a status that files, memory and the sink have no part in
abbrev pub IsVerdict : Status → Type 0
IsVerdict Completed = Unit {0}
IsVerdict Refused = Unit {0}
IsVerdict Budget = Unit {0}
IsVerdict Trap = Unit {0}
IsVerdict Usage = ⊥
IsVerdict NoMemory = ⊥
IsVerdict ReadFault = ⊥
IsVerdict WriteFault = ⊥

-- what holds of each call, whatever its files tell
pub record Causes (call : Call) : Type 0 where
  -- what each load gives, as far as files tell
  pub given : ℕ → List ℕ → Option (List ℕ)
  pub may : MayHold call.files given
  -- the call ends as is owed for that
  pub some : Answers call given (owed call.words given)
  -- such a status is the one that is owed for it, and all that is owed was put
  pub verdict : IsVerdict call.status → (call.status ≡ (owed call.words given).status) × Done call.out call.out_after (owed call.words given).bytes
  -- the usage is put exactly where the words are no command
  pub usage : call.status ≡ Usage → (IsCommandLine call.words → ⊥) × Done call.out call.out_after usage_line.bytes
  pub no_command : (IsCommandLine call.words → ⊥) → (call.status ≡ Usage) ⊎ (call.status ≡ WriteFault)
  -- a read fault is a load that failed, or a file that isn't there; and a load that failed is a read fault
  pub read : call.status ≡ ReadFault → (k : ℕ) × (path : List ℕ) × FailsAt call given k path
  pub fault : call.files.faults < call.files_after.faults → (call.status ≡ ReadFault) ⊎ (call.status ≡ WriteFault)
  -- memory is wanted only by a command
  pub memory : call.status ≡ NoMemory → IsCommandLine call.words × Done call.out call.out_after no_memory.bytes
  -- a write fault is a write that failed
  pub write : call.status ≡ WriteFault → Rose call.out.faults call.out_after.faults
  pub calm : call.status ≢ WriteFault → call.out_after.faults ≡ call.out.faults
  -- only the code of a file may trap: generated code never does
  pub trap : call.status ≡ Trap → IsRunLine call.words
  -- so many files were loaded, up to one that the command comes to
  pub loads : (n : ℕ) × (call.files_after.loads ≡ told_after n call.files.loads) × ((n ≡ 0) ⊎ ((path : List ℕ) × LoadsFile call.words given n path))
  -- what files hold stays, and files are left alone where no file is loaded
  pub held : call.files_after.held ≡ call.files.held
  pub idle : ((path : List ℕ) → LoadsFile call.words given 1 path → ⊥) → call.files_after ≡ call.files
