-- Why a buffer takes no more code.
use Rattle.std.specs.Prelude.{◌≡◌, ◌<◌, ◌≤◌, ℕ, ◌+◌, ◌-◌, ◌^◌, min}
use Rattle.kts_base.specs.Limits.{most_instructions}
use Rattle.kts_emit.specs.declared.buffer.EmitFault.{EmitFault}
use Rattle.kts_emit.specs.declared.buffer.EmitFault.TheVariants.{Full, NoMemory}

-- with so many instructions more than there are, the length would be n, which is too long; n stops at its type's end
pub record IsTooLong (before more n : ℕ) : Type 0 where
  pub length_is : n ≡ min (before + more) (2 ^ 64 - 1)
  pub past : most_instructions < before + more

-- why so many instructions were not appended: they would be too many, or memory was refused for as many as may stand there
abbrev pub IsRefused : ℕ → ℕ → EmitFault → Type 0
IsRefused before more (Full n) = IsTooLong before more n
IsRefused before more NoMemory = before + more ≤ most_instructions
