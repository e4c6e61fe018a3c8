-- Files and a sink in memory, which fail where they were told to, and a sink that counts.
use Rattle.std.specs.Prelude.{◌≡◌, ◌⊎◌, ◌+◌, ◌-◌, ◌<◌, ℕ, nat_eq, length, min, take, List, [], ◌∷◌, ◌++◌, Option, None, Some, Contains, if◌then◌else◌, IsSome}
use Rattle.std.specs.Cmp.Lexicographic.{pointwise}
use Rattle.kts_base.specs.Bytes.{counted, told}
use Rattle.kts_base.specs.Counts.{next_count, told_count}
use Rattle.kts_base.specs.Stores.{Store}
use Rattle.kts_base.specs.Writes.{Log}

-- what files in memory are: names with their bytes, the loads that fail, how many were made and failed, and what the latest took
pub record Shelf : Type 0 where
  pub entries : List (List ℕ × List ℕ)
  pub failing : List ℕ
  pub loads : ℕ
  pub faults : ℕ
  pub taken : ℕ

-- what is held under a path: of two entries with one name the first counts
abbrev pub held_in : List (List ℕ × List ℕ) → List ℕ → Option (List ℕ)
held_in [] path = None
held_in (entry ∷ entries) path = if pointwise nat_eq entry.0 path then Some entry.1 else held_in entries path

-- what files in memory tell: all that they hold, and the number of their loads while it is below its last value
abbrev pub store_of : Shelf → Store
store_of shelf = record { held = λ path. Some (held_in shelf.entries path); faults = shelf.faults; taken = shelf.taken; loads = told_count shelf.loads }

-- a load of this path fails: it is listed, or nothing is held there
abbrev pub FailsToLoad : Shelf → List ℕ → Type 0
FailsToLoad shelf path = Contains shelf.failing shelf.loads ⊎ (held_in shelf.entries path ≡ None)

-- how many bytes are taken of what is held
abbrev pub size_of : Option (List ℕ) → ℕ
size_of None = 0
size_of (Some bytes) = length bytes

-- the files after a load that is listed: it is counted as a load and as a fault, and takes nothing
abbrev pub after_fault : Shelf → Shelf
after_fault shelf = record { entries = shelf.entries; failing = shelf.failing; loads = next_count shelf.loads; faults = next_count shelf.faults; taken = 0 }

-- the files after any other load of this path: it is counted, and takes what is held
abbrev pub after_load : Shelf → List ℕ → Shelf
after_load shelf path = record { entries = shelf.entries; failing = shelf.failing; loads = next_count shelf.loads; faults = shelf.faults; taken = size_of (held_in shelf.entries path) }

-- what a sink in memory is: its bytes and its room, the puts that fail after so many bytes, and how many were made and failed
pub record Page : Type 0 where
  pub bytes : List ℕ
  pub room : ℕ
  pub failing : List (ℕ × ℕ)
  pub puts : ℕ
  pub faults : ℕ

-- what a sink in memory tells: all that was written
abbrev pub log_of : Page → Log
log_of page = record { written = told page.bytes; faults = page.faults }

-- what a sink that counts is: how many bytes were put, and how many puts failed
pub record Tally : Type 0 where
  pub count : ℕ
  pub faults : ℕ

-- what a sink that counts tells: how much was written
abbrev pub tally_log : Tally → Log
tally_log tally = record { written = counted tally.count; faults = tally.faults }

-- after how many bytes the put of a number fails: of two entries for one put the first counts
abbrev pub stop_of : List (ℕ × ℕ) → ℕ → Option ℕ
stop_of [] number = None
stop_of (entry ∷ entries) number = if nat_eq entry.0 number then Some entry.1 else stop_of entries number

-- a put of this piece fails: it isn't empty, and it is listed or goes past the room
pub record FailsToPut (page : Page) (piece : List ℕ) : Type 0 where
  pub some : 0 < length piece
  pub cause : IsSome (stop_of page.failing page.puts) ⊎ (page.room < length page.bytes + length piece)

-- how much of a piece a put that fails appends: at most what was listed, and what fits
abbrev pub most_of : Option ℕ → ℕ → ℕ
most_of None free = free
most_of (Some count) free = min count free

-- how many puts there were after one of this piece: an empty one isn't counted
abbrev pub puts_after : List ℕ → ℕ → ℕ
puts_after [] puts = puts
puts_after (byte ∷ bytes) puts = next_count puts

-- the sink after a put that wrote its piece
abbrev pub after_put : Page → List ℕ → Page
after_put page piece = record { bytes = page.bytes ++ piece; room = page.room; failing = page.failing; puts = puts_after piece page.puts; faults = page.faults }

-- the sink after a put that failed: it is counted, and so is the fault, and what was allowed of its piece is written
abbrev pub after_cut : Page → List ℕ → Page
after_cut page piece = record {
  bytes = page.bytes ++ take (most_of (stop_of page.failing page.puts) (page.room - length page.bytes)) piece;
  room = page.room;
  failing = page.failing;
  puts = next_count page.puts;
  faults = next_count page.faults;
}
