-- How a command ended, over a sink whose writes may fail.
use Rattle.std.specs.Prelude.{◌≡◌, ◌≢◌}
use Rattle.kts_base.specs.declared.status.Status.{Status}
use Rattle.kts_base.specs.declared.status.Status.TheVariants.{WriteFault}
use Rattle.kts_base.specs.Writes.{Log, Done, Stopped}
use Rattle.kts_top.specs.Lines.{Owed, no_memory}

module _ (status : Status) (old new : Log) where
  -- with what is owed, or by a write that failed after a front of it
  pub data Ends (owed : Owed) : Type 0 where
    whole : status ≡ owed.status → status ≢ WriteFault → Done old new owed.bytes → Ends owed
    part : status ≡ WriteFault → Stopped old new owed.bytes → Ends owed

  -- so, or because memory was refused
  pub data EndsOrLacks (owed : Owed) : Type 0 where
    ended : Ends owed → EndsOrLacks owed
    lacked : Ends no_memory → EndsOrLacks owed

  -- with what is owed, but where this holds: there because memory was refused
  pub data EndsUnless (Lacks : Type 0) (owed : Owed) : Type 0 where
    as_owed : (Lacks → ⊥) → Ends owed → EndsUnless Lacks owed
    for_memory : Lacks → Ends no_memory → EndsUnless Lacks owed
