-- What is owed, and the lines that are owed whatever a file holds.
use Rattle.std.specs.Prelude.{ℕ, List, ◌++◌, codes, decimal}
use Rattle.kts_base.specs.declared.status.Status.{Status}
use Rattle.kts_base.specs.declared.status.Status.TheVariants.{Refused, Usage, NoMemory, ReadFault}
use Rattle.kts_spec.specs.Texts.{newline}

-- a status, and the bytes that are written
pub record Owed : Type 0 where
  pub status : Status
  pub bytes : List ℕ

-- the words are no command
abbrev pub usage : Owed
usage = record {
  status = Usage;
  bytes = codes "usage: kts check SPEC | classify SPEC | generate SPEC | run CODE DATA [OPTIONS] | solve SPEC [DATA] [OPTIONS] | audit SPEC DATA PLAN | sample N\n";
}

-- the file of a number could not be read
abbrev pub fault_read : ℕ → Owed
fault_read k = record { status = ReadFault; bytes = codes "fault read " ++ (decimal k ++ newline) }

-- the file of a number is too long
abbrev pub refused_file : ℕ → Owed
refused_file k = record { status = Refused; bytes = codes "refused file " ++ (decimal k ++ newline) }

-- the code would have so many instructions, which are too many
abbrev pub refused_length : ℕ → Owed
refused_length n = record { status = Refused; bytes = codes "refused length " ++ (decimal n ++ newline) }

-- memory was refused
abbrev pub no_memory : Owed
no_memory = record { status = NoMemory; bytes = codes "no memory\n" }
