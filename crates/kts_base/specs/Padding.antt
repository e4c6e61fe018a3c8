-- A name in an array of forty bytes, with zeros after it.
use Rattle.std.specs.Prelude.{◌≡◌, ℕ, ◌≤◌, ◌-◌, List, length, take, drop, replicate, true}
use Rattle.kts_base.specs.Limits.{most_name_bytes}
use Rattle.kts_base.specs.Names.{is_name}

-- the first bytes are a name, the others are zero
pub record IsPadded (bytes : List ℕ) (count : ℕ) : Type 0 where
  pub few : count ≤ most_name_bytes
  pub whole : length bytes ≡ most_name_bytes
  pub rest : drop count bytes ≡ replicate (most_name_bytes - count) 0
  pub name : is_name (take count bytes) ≡ true
