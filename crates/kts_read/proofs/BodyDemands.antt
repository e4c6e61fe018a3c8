-- The fault of a line of the sizes or of the body is that of the first demand that it doesn't meet.
use Rattle.std.proofs.Common.{◌≡◌, refl, ℕ, ℤ, pos, suc, ◌+◌, ◌==◌, List, [], ◌∷◌, length, Bool, true, false, not, ◌&&◌, if◌then◌else◌, Option, None, Some, Result, Ok, Err}
use Rattle.std.specs.Prelude.{codes, int_le, int_lt, nat_abs}
use Rattle.std.proofs.lemmas.Bool.{and_parts}
use Rattle.kts_base.specs.Limits.{most_instructions, most_stack}
use Rattle.kts_base.specs.Reads.{and_then, each_from}
use Rattle.kts_code.specs.declared.instructions.Instr.{Instr}
use Rattle.kts_write.specs.declared.table.OperandKind.{OperandKind}
use Rattle.kts_write.specs.declared.table.OperandKind.TheVariants as kinds
use Rattle.kts_write.specs.Encodings.{kinds_of, with_values}
use Rattle.kts_read.specs.Demands.{Demand, first_unmet, is_there, stack_demands, is_size, is_few, size_demands, is_operand, is_inside, operand_demands, operation_demands, instr_demands, end_demands}
use Rattle.kts_read.specs.InstructionLines.{operation_of, is_label, fits, fitting, operand, operands, with_operation, instr_line}
use Rattle.kts_read.specs.Reading.{stacked, stack_or, stack_in, size_or, size_in, stack_line, end_line}
use Rattle.kts_read.specs.Words.{is_text, word, number_of, whole_in}
use Rattle.kts_read.specs.declared.draft.Draft.{Draft}
use Rattle.kts_read.specs.declared.fault.CodeKind.{CodeKind}
use Rattle.kts_read.specs.declared.fault.CodeKind.TheVariants.{BadLine, WrongCount, BadNumber, BadLabel, TooLong}
use Rattle.kts_read.specs.declared.operands.Counts.{Counts}
use Rattle.kts_read.proofs.Unmet.{unread, if_meets, unless_meets, then_meets, made_meets, test_meets}

-- ---- the sizes

stack_tests : (d : Draft) (two : Bool) (found : Option ℕ) → unread (and_then (if two then stack_or found else Err WrongCount) (λ stack. Ok (stacked d stack))) ≡ first_unmet ((WrongCount, two) ∷ (BadNumber, is_there found) ∷ [])
stack_tests d true None = refl
stack_tests d true (Some stack) = refl
stack_tests d false found = refl

pub stack_meets : (d : Draft) (words : List (List ℕ)) → unread (stack_line d words) ≡ first_unmet (stack_demands words)
unfolding stack_line stack_in
stack_meets d words =
    if_meets (is_text (word words 0) (codes "stack")) BadLine _ ((WrongCount, length words == 2) ∷ (BadNumber, is_there (whole_in 1 (suc most_stack) (word words 1))) ∷ []) (λ _. stack_tests d (length words == 2) (whole_in 1 (suc most_stack) (word words 1)))

size_tests : (n : ℕ) (some few : Bool) → unread (if not some then Err BadNumber else (if few then Ok n else Err TooLong)) ≡ first_unmet ((BadNumber, some) ∷ (TooLong, few) ∷ [])
size_tests n true true = refl
size_tests n true false = refl
size_tests n false few = refl

size_number : (found : Option ℤ) → unread (size_or found) ≡ first_unmet ((BadNumber, is_size found) ∷ (TooLong, is_few found) ∷ [])
size_number None = refl
size_number (Some z) = size_tests (nat_abs z) (int_le (pos 1) z) (int_le z (pos most_instructions))

pub size_meets : (words : List (List ℕ)) → unread (size_in words) ≡ first_unmet (size_demands words)
unfolding size_in
size_meets words =
    let size : List Demand = (BadNumber, is_size (number_of (word words 1))) ∷ (TooLong, is_few (number_of (word words 1))) ∷ [] in
    if_meets (is_text (word words 0) (codes "code")) BadLine _ ((WrongCount, length words == 2) ∷ size) (λ _. if_meets (length words == 2) WrongCount _ size (λ _. size_number (number_of (word words 1))))

-- ---- instructions

false_true : false ≡ true → ⊥
false_true e = cc

-- a number of a place is no negative number
natural : (counts : Counts) (kind : OperandKind) (z : ℤ) → fits counts kind z ≡ true → is_label kind ≡ true → int_le (pos 0) z ≡ true
unfolding fits
natural counts kinds.Label z f l = (and_parts (int_le (pos 0) z) (int_lt z (pos counts.labels)) f).0
natural counts kinds.Given z f l = absurd cc
natural counts kinds.Choice z f l = absurd cc
natural counts kinds.Number z f l = absurd cc
natural counts kinds.Register z f l = absurd cc
natural counts kinds.Index z f l = absurd cc

operand_tests : (z : ℤ) (label natural fit : Bool) → (fit ≡ true → label ≡ true → natural ≡ true)
    → unread (if fit then Ok z else Err (if label && natural then BadLabel else BadNumber)) ≡ first_unmet ((BadNumber, if label then natural else fit) ∷ (BadLabel, if label then fit else true) ∷ [])
operand_tests z true true true h = refl
operand_tests z true true false h = refl
operand_tests z true false true h = absurd (false_true (h refl refl))
operand_tests z true false false h = refl
operand_tests z false natural true h = refl
operand_tests z false natural false h = refl

operand_number : (counts : Counts) (kind : OperandKind) (found : Option ℤ) → unread (fitting counts kind found) ≡ first_unmet ((BadNumber, is_operand counts kind found) ∷ (BadLabel, is_inside counts kind found) ∷ [])
operand_number counts kind None = refl
operand_number counts kind (Some z) = operand_tests z (is_label kind) (int_le (pos 0) z) (fits counts kind z) (natural counts kind z)

operand_meets : (counts : Counts) (kind : OperandKind) (bytes : List ℕ) → unread (operand counts kind bytes) ≡ first_unmet ((BadNumber, is_operand counts kind (number_of bytes)) ∷ (BadLabel, is_inside counts kind (number_of bytes)) ∷ [])
unfolding operand
operand_meets counts kind bytes = operand_number counts kind (number_of bytes)

module _ (counts : Counts) (words : List (List ℕ)) where
  abbrev from : ℕ → List OperandKind → Result (List ℤ) CodeKind
  from = each_from (λ k kind. operand counts kind (word words k)) (λ k (kind : OperandKind). k + 1)

  operands_meet : (k : ℕ) (ks : List OperandKind) → unread (from k ks) ≡ first_unmet (operand_demands counts words k ks)
  unfolding each_from
  operands_meet k [] = refl
  operands_meet k (kind ∷ ks) =
      then_meets (operand counts kind (word words k)) _
      ((BadNumber, is_operand counts kind (number_of (word words k))) ∷ (BadLabel, is_inside counts kind (number_of (word words k))) ∷ []) (operand_demands counts words (k + 1) ks)
      (operand_meets counts kind (word words k))
      (λ z _. made_meets (from (k + 1) ks) (λ zs. z ∷ zs) (operand_demands counts words (k + 1) ks) (operands_meet (k + 1) ks))

  operation_meets : (found : Option Instr) → unread (with_operation counts words found) ≡ first_unmet (operation_demands counts words found)
  unfolding operands
  operation_meets None = refl
  operation_meets (Some instr) =
      if_meets (length words == length (kinds_of instr) + 1) WrongCount _ (operand_demands counts words 1 (kinds_of instr)) (λ _. made_meets (from 1 (kinds_of instr)) (λ values. with_values instr values) (operand_demands counts words 1 (kinds_of instr)) (operands_meet 1 (kinds_of instr)))

  pub instr_meets : unread (instr_line counts words) ≡ first_unmet (instr_demands counts words)
  unfolding instr_line
  instr_meets = unless_meets (is_text (word words 0) (codes "end")) BadLine _ (operation_demands counts words (operation_of (word words 0))) (λ _. operation_meets (operation_of (word words 0)))

pub end_meets : (d : Draft) (words : List (List ℕ)) → unread (end_line d words) ≡ first_unmet (end_demands words)
unfolding end_line
end_meets d words = if_meets (is_text (word words 0) (codes "end")) BadLine _ ((WrongCount, length words == 1) ∷ []) (λ _. test_meets (length words == 1) WrongCount _)
