-- What a command that ended so says of the sink.
use Rattle.std.proofs.Common.{◌≡◌, ◌≢◌, ◌⊎◌, inl, inr, sym, ◌∙◌}
use Rattle.kts_base.specs.declared.status.Status.{Status}
use Rattle.kts_base.specs.declared.status.Status.TheVariants.{WriteFault}
use Rattle.kts_base.specs.Counts.{Rose}
use Rattle.kts_base.specs.Writes.{Log, Done}
use Rattle.kts_top.specs.Endings.{Ends, whole, part}
use Rattle.kts_top.specs.Lines.{Owed}

module _ {status : Status} {old new : Log} {owed : Owed} where
  pub either_status : Ends status old new owed → (status ≡ owed.status) ⊎ (status ≡ WriteFault)
  either_status (whole e written done) = inl e
  either_status (part e stopped) = inr e

  -- a status that isn't owed is not given
  pub other_status : Ends status old new owed → (s : Status) → owed.status ≢ s → s ≢ WriteFault → status ≢ s
  other_status (whole e written done) s h k is = h (sym e ∙ is)
  other_status (part e stopped) s h k is = k (sym is ∙ e)

  -- where no write failed all was done
  pub done_of : Ends status old new owed → status ≢ WriteFault → Done old new owed.bytes
  done_of (whole e written done) h = done
  done_of (part e stopped) h = absurd (h e)

  pub calm_of : Ends status old new owed → status ≢ WriteFault → new.faults ≡ old.faults
  calm_of (whole e written done) h = done.calm
  calm_of (part e stopped) h = absurd (h e)

  pub rose_of : Ends status old new owed → status ≡ WriteFault → Rose old.faults new.faults
  rose_of (whole e written done) h = absurd (written h)
  rose_of (part e stopped) h = stopped.rose

-- of two facts the second, where the first can't hold
pub second : {A B : Type 0} → (A → ⊥) → A ⊎ B → B
second never (inl a) = absurd (never a)
second never (inr b) = b
