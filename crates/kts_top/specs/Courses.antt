-- How a call went on: what files did at each load, and how the call ended.
use Rattle.std.specs.Prelude.{◌≡◌, ◌≢◌, ◌⊎◌, ℕ, ◌+◌, ◌≤◌, ◌<◌, List, length, Option, Some, None}
use Rattle.kts_base.specs.declared.status.Status.{Status}
use Rattle.kts_base.specs.Counts.{Rose, told_next}
use Rattle.kts_base.specs.Limits.{most_file_bytes}
use Rattle.kts_base.specs.Stores.{Store}
use Rattle.kts_base.specs.Writes.{Log}
use Rattle.kts_top.specs.Commands.{Command}
use Rattle.kts_top.specs.Endings.{Ends}
use Rattle.kts_top.specs.Lines.{Owed, usage, fault_read, refused_file, no_memory}
use Rattle.kts_top.specs.Owed.{Want, end, load, wanted}

-- after each load: what files hold stays, and the load is counted
pub record Loaded (before after : Store) : Type 0 where
  pub held : after.held ≡ before.held
  pub loads : after.loads ≡ told_next before.loads

-- a load gave these bytes
pub record IsRead (before after : Store) (path bytes : List ℕ) : Type 0 where
  pub loaded : Loaded before after
  pub calm : after.faults ≡ before.faults
  pub there : before.held path ≢ Some None
  pub short : length bytes ≤ most_file_bytes
  pub same : (told : List ℕ) → before.held path ≡ Some (Some told) → bytes ≡ told

module _ (status : Status) (old new : Log) (after : Store) where
  -- the load of the file of number k gave nothing, and the call ended with the line of that
  pub data Unread (k : ℕ) (before : Store) (path : List ℕ) : Type 0 where
    failed : Loaded before after → Rose before.faults after.faults ⊎ (before.held path ≡ Some None) → Ends status old new (fault_read k) → Unread k before path
    long : Loaded before after → after.faults ≡ before.faults → before.held path ≢ Some None
        → ((bytes : List ℕ) → before.held path ≡ Some (Some bytes) → most_file_bytes < length bytes)
        → Ends status old new (refused_file k) → Unread k before path
    starved : Loaded before after → after.faults ≡ before.faults → Ends status old new no_memory → Unread k before path

  -- how a command went on that wanted this, where its next file has the number k
  pub data Course : ℕ → Store → Want → Type 0 where
    ended : {k : ℕ} {before : Store} {owed : Owed} → after ≡ before → Ends status old new owed → Course k before (end owed)
    lacked : {k : ℕ} {before : Store} {want : Want} → after ≡ before → Ends status old new no_memory → Course k before want
    unread : {k : ℕ} {before : Store} {path : List ℕ} {next : List ℕ → Want} → Unread k before path → Course k before (load path next)
    read : {k : ℕ} {before : Store} {path : List ℕ} {next : List ℕ → Want} (middle : Store) (bytes : List ℕ)
        → IsRead before middle path bytes → Course (k + 1) middle (next bytes) → Course k before (load path next)

  -- how words went on that are this command, or none
  abbrev pub CourseOf : Store → Option Command → Type 0
  CourseOf before None = (after ≡ before) × Ends status old new usage
  CourseOf before (Some command) = Course 1 before (wanted command)
