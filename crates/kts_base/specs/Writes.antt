-- What a writer has done, where its sink may fail at any piece.
use Rattle.std.specs.Prelude.{◌≡◌, ℕ, List, ◌++◌, Result, MatchResult}
use Rattle.kts_base.specs.Bytes.{Written, Appends, AppendsFront}
use Rattle.kts_base.specs.Counts.{Rose}

-- what a sink tells: of the bytes written, and how often it has failed
pub record Log : Type 0 where
  pub written : Written
  pub faults : ℕ

-- the whole text was appended, and no fault was counted
pub record Done (old new : Log) (text : List ℕ) : Type 0 where
  pub appended : Appends old.written new.written text
  pub calm : new.faults ≡ old.faults

-- a front of the text was appended, and a fault was counted
pub record Stopped (old new : Log) (text : List ℕ) : Type 0 where
  pub appended : AppendsFront old.written new.written text
  pub rose : Rose old.faults new.faults

-- a writer of this text: all of it, or a front of it and a fault
abbrev pub Wrote : {T E : Type 0} → Result T E → Log → Log → List ℕ → Type 0
Wrote result old new text = MatchResult result (λ _. Done old new text) (λ _. Stopped old new text)

-- in the midst of a text: what was written, and what is left, are all of it
pub record Part (old new : Log) (left all : List ℕ) : Type 0 where
  pub front : List ℕ
  pub done : Done old new front
  pub whole : front ++ left ≡ all
