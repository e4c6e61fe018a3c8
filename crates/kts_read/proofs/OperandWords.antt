-- The operands of an instruction, one after another.
use Rattle.std.proofs.Common.{◌≡◌, refl, ◌∙◌, ap, ℕ, ℤ, ◌+◌, ◌<◌, ◌≤◌, List, [], length, take, drop, get_or, Result, Ok, Err}
use Rattle.std.specs.Prelude.{slice_set}
use Rattle.std.proofs.lemmas.List.{get_or_default, take_more_set}
use Rattle.kts_base.specs.Reads.{each_from, with_front}
use Rattle.kts_base.proofs.Each.{each_fails, each_on, each_done}
use Rattle.kts_read.specs.InstructionLines.{operand, operands}
use Rattle.kts_read.specs.Words.{word}
use Rattle.kts_read.specs.declared.operands.Counts.{Counts}
use Rattle.kts_read.specs.declared.fault.CodeKind.{CodeKind}
use Rattle.kts_write.specs.declared.table.OperandKind.{OperandKind}

pub with_nothing : {B F : Type 0} (r : Result (List B) F) → with_front [] r ≡ r
with_nothing (Ok bs) = refl
with_nothing (Err e) = refl

module _ (counts : Counts) (kinds : List OperandKind) (words : List (List ℕ)) where
  abbrev pub from : ℕ → List OperandKind → Result (List ℤ) CodeKind
  from = each_from (λ k kind. operand counts kind (word words k)) (λ k (kind : OperandKind). k + 1)

  pub begins_so : with_front [] (from 1 (drop 0 kinds)) ≡ operands counts kinds words
  unfolding operands
  begins_so = with_nothing (from 1 kinds)

  pub goes_so : (values : List ℤ) (k : ℕ) (value : ℤ) (d : OperandKind) → k < length kinds → k < length values → operand counts (get_or kinds k d) (get_or words (k + 1) []) ≡ Ok value
      → with_front (take k values) (from (k + 1) (drop k kinds)) ≡ operands counts kinds words
      → with_front (take (k + 1) (slice_set values k value)) (from (k + 1 + 1) (drop (k + 1) kinds)) ≡ operands counts kinds words
  goes_so values k value d h g is so_far =
      ap (λ (front : List ℤ). with_front front (from (k + 1 + 1) (drop (k + 1) kinds))) (take_more_set values k value g)
      ∙ each_on _ _ (k + 1) kinds k (get_or kinds k d) (take k values) value _ h (get_or_default kinds k d (get_or kinds k d) h) is so_far

  pub fails_so : (front : List ℤ) (k : ℕ) (kind : CodeKind) (d : OperandKind) → k < length kinds → operand counts (get_or kinds k d) (get_or words (k + 1) []) ≡ Err kind
      → with_front front (from (k + 1) (drop k kinds)) ≡ operands counts kinds words → operands counts kinds words ≡ Err kind
  fails_so front k kind d h is so_far = each_fails _ _ (k + 1) kinds k (get_or kinds k d) front kind _ h (get_or_default kinds k d (get_or kinds k d) h) is so_far

  pub ends_so : (front : List ℤ) (k : ℕ) → length kinds ≤ k → with_front front (from (k + 1) (drop k kinds)) ≡ operands counts kinds words → operands counts kinds words ≡ Ok front
  ends_so front k h so_far = each_done _ _ (k + 1) kinds k front _ h so_far
