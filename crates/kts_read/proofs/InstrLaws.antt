-- What the table of instructions says, one case each.
use Rattle.std.proofs.Common.{◌≡◌, refl, ℕ, ℤ, ◌<◌, List, [], ◌∷◌, length, take, true, false, Some, arith}
use Rattle.std.specs.Prelude.{codes}
use Rattle.std.specs.List.{list_all}
use Rattle.kts_base.specs.Names.{is_between}
use Rattle.kts_code.specs.declared.instructions.Instr.{Instr}
use Rattle.kts_code.specs.declared.instructions.Instr.TheVariants as i
use Rattle.kts_code.specs.CodeTexts.{word_of}
use Rattle.kts_write.specs.Encodings.{kinds_of, with_values}
use Rattle.kts_read.specs.InstructionLines.{operation_of}
use Rattle.kts_read.specs.Words.{is_text}

-- a word of letters, as a line has them
pub record IsClean (word : List ℕ) : Type 0 where
  pub some : 0 < length word
  pub letters : list_all (λ byte. is_between 33 126 byte) word ≡ true

-- what is after the operands doesn't count
pub with_front_values : (instr : Instr) (values : List ℤ) → with_values instr (take (length (kinds_of instr)) values) ≡ with_values instr values
unfolding kinds_of with_values
with_front_values (i.Start a) [] = refl
with_front_values (i.Start a) (v ∷ values) = refl
with_front_values (i.Take a) [] = refl
with_front_values (i.Take a) (v ∷ values) = refl
with_front_values i.Node values = refl
with_front_values (i.Pick a) [] = refl
with_front_values (i.Pick a) (v ∷ values) = refl
with_front_values i.Emit values = refl
with_front_values (i.Back a) [] = refl
with_front_values (i.Back a) (v ∷ values) = refl
with_front_values i.Halt values = refl
with_front_values (i.Jump a) [] = refl
with_front_values (i.Jump a) (v ∷ values) = refl
with_front_values (i.Test a) [] = refl
with_front_values (i.Test a) (v ∷ values) = refl
with_front_values (i.Need a) [] = refl
with_front_values (i.Need a) (v ∷ values) = refl
with_front_values (i.AtLeast a b) [] = refl
with_front_values (i.AtLeast a b) (v ∷ []) = refl
with_front_values (i.AtLeast a b) (v ∷ w ∷ values) = refl
with_front_values (i.AtMost a b) [] = refl
with_front_values (i.AtMost a b) (v ∷ []) = refl
with_front_values (i.AtMost a b) (v ∷ w ∷ values) = refl
with_front_values (i.Within a b) [] = refl
with_front_values (i.Within a b) (v ∷ []) = refl
with_front_values (i.Within a b) (v ∷ w ∷ values) = refl
with_front_values (i.Without a b) [] = refl
with_front_values (i.Without a b) (v ∷ []) = refl
with_front_values (i.Without a b) (v ∷ w ∷ values) = refl
with_front_values (i.Num a) [] = refl
with_front_values (i.Num a) (v ∷ values) = refl
with_front_values (i.Var a) [] = refl
with_front_values (i.Var a) (v ∷ values) = refl
with_front_values (i.Given a) [] = refl
with_front_values (i.Given a) (v ∷ values) = refl
with_front_values (i.Choice a) [] = refl
with_front_values (i.Choice a) (v ∷ values) = refl
with_front_values i.Add values = refl
with_front_values i.Sub values = refl
with_front_values i.Mul values = refl
with_front_values i.Min values = refl
with_front_values i.Max values = refl
with_front_values i.Le values = refl
with_front_values i.Eq values = refl
with_front_values i.Same values = refl
with_front_values i.And values = refl
with_front_values i.Or values = refl
with_front_values i.Not values = refl
with_front_values i.Gate values = refl
with_front_values (i.First a b c) [] = refl
with_front_values (i.First a b c) (v ∷ []) = refl
with_front_values (i.First a b c) (v ∷ w ∷ []) = refl
with_front_values (i.First a b c) (v ∷ w ∷ x ∷ values) = refl
with_front_values (i.Next a b) [] = refl
with_front_values (i.Next a b) (v ∷ []) = refl
with_front_values (i.Next a b) (v ∷ w ∷ values) = refl
with_front_values i.True values = refl
with_front_values i.False values = refl

-- the word and the kinds of operands don't depend on the operands
pub same_word : (instr : Instr) (values : List ℤ) → word_of (with_values instr values) ≡ word_of instr
unfolding word_of with_values
same_word (i.Start a) values = refl
same_word (i.Take a) values = refl
same_word i.Node values = refl
same_word (i.Pick a) values = refl
same_word i.Emit values = refl
same_word (i.Back a) values = refl
same_word i.Halt values = refl
same_word (i.Jump a) values = refl
same_word (i.Test a) values = refl
same_word (i.Need a) values = refl
same_word (i.AtLeast a b) values = refl
same_word (i.AtMost a b) values = refl
same_word (i.Within a b) values = refl
same_word (i.Without a b) values = refl
same_word (i.Num a) values = refl
same_word (i.Var a) values = refl
same_word (i.Given a) values = refl
same_word (i.Choice a) values = refl
same_word i.Add values = refl
same_word i.Sub values = refl
same_word i.Mul values = refl
same_word i.Min values = refl
same_word i.Max values = refl
same_word i.Le values = refl
same_word i.Eq values = refl
same_word i.Same values = refl
same_word i.And values = refl
same_word i.Or values = refl
same_word i.Not values = refl
same_word i.Gate values = refl
same_word (i.First a b c) values = refl
same_word (i.Next a b) values = refl
same_word i.True values = refl
same_word i.False values = refl

pub same_kinds : (instr : Instr) (values : List ℤ) → kinds_of (with_values instr values) ≡ kinds_of instr
unfolding kinds_of with_values
same_kinds (i.Start a) values = refl
same_kinds (i.Take a) values = refl
same_kinds i.Node values = refl
same_kinds (i.Pick a) values = refl
same_kinds i.Emit values = refl
same_kinds (i.Back a) values = refl
same_kinds i.Halt values = refl
same_kinds (i.Jump a) values = refl
same_kinds (i.Test a) values = refl
same_kinds (i.Need a) values = refl
same_kinds (i.AtLeast a b) values = refl
same_kinds (i.AtMost a b) values = refl
same_kinds (i.Within a b) values = refl
same_kinds (i.Without a b) values = refl
same_kinds (i.Num a) values = refl
same_kinds (i.Var a) values = refl
same_kinds (i.Given a) values = refl
same_kinds (i.Choice a) values = refl
same_kinds i.Add values = refl
same_kinds i.Sub values = refl
same_kinds i.Mul values = refl
same_kinds i.Min values = refl
same_kinds i.Max values = refl
same_kinds i.Le values = refl
same_kinds i.Eq values = refl
same_kinds i.Same values = refl
same_kinds i.And values = refl
same_kinds i.Or values = refl
same_kinds i.Not values = refl
same_kinds i.Gate values = refl
same_kinds (i.First a b c) values = refl
same_kinds (i.Next a b) values = refl
same_kinds i.True values = refl
same_kinds i.False values = refl

-- the instruction with operands 0 is found by its word
pub found_by_word : (instr : Instr) → operation_of (word_of instr) ≡ Some (with_values instr [])
unfolding operation_of word_of with_values
found_by_word (i.Start a) = refl
found_by_word (i.Take a) = refl
found_by_word i.Node = refl
found_by_word (i.Pick a) = refl
found_by_word i.Emit = refl
found_by_word (i.Back a) = refl
found_by_word i.Halt = refl
found_by_word (i.Jump a) = refl
found_by_word (i.Test a) = refl
found_by_word (i.Need a) = refl
found_by_word (i.AtLeast a b) = refl
found_by_word (i.AtMost a b) = refl
found_by_word (i.Within a b) = refl
found_by_word (i.Without a b) = refl
found_by_word (i.Num a) = refl
found_by_word (i.Var a) = refl
found_by_word (i.Given a) = refl
found_by_word (i.Choice a) = refl
found_by_word i.Add = refl
found_by_word i.Sub = refl
found_by_word i.Mul = refl
found_by_word i.Min = refl
found_by_word i.Max = refl
found_by_word i.Le = refl
found_by_word i.Eq = refl
found_by_word i.Same = refl
found_by_word i.And = refl
found_by_word i.Or = refl
found_by_word i.Not = refl
found_by_word i.Gate = refl
found_by_word (i.First a b c) = refl
found_by_word (i.Next a b) = refl
found_by_word i.True = refl
found_by_word i.False = refl

-- operands are set anew
pub with_again : (instr : Instr) (values more : List ℤ) → with_values (with_values instr values) more ≡ with_values instr more
unfolding with_values
with_again (i.Start a) values more = refl
with_again (i.Take a) values more = refl
with_again i.Node values more = refl
with_again (i.Pick a) values more = refl
with_again i.Emit values more = refl
with_again (i.Back a) values more = refl
with_again i.Halt values more = refl
with_again (i.Jump a) values more = refl
with_again (i.Test a) values more = refl
with_again (i.Need a) values more = refl
with_again (i.AtLeast a b) values more = refl
with_again (i.AtMost a b) values more = refl
with_again (i.Within a b) values more = refl
with_again (i.Without a b) values more = refl
with_again (i.Num a) values more = refl
with_again (i.Var a) values more = refl
with_again (i.Given a) values more = refl
with_again (i.Choice a) values more = refl
with_again i.Add values more = refl
with_again i.Sub values more = refl
with_again i.Mul values more = refl
with_again i.Min values more = refl
with_again i.Max values more = refl
with_again i.Le values more = refl
with_again i.Eq values more = refl
with_again i.Same values more = refl
with_again i.And values more = refl
with_again i.Or values more = refl
with_again i.Not values more = refl
with_again i.Gate values more = refl
with_again (i.First a b c) values more = refl
with_again (i.Next a b) values more = refl
with_again i.True values more = refl
with_again i.False values more = refl

-- no instruction is called so
pub no_end : (instr : Instr) → is_text (word_of instr) (codes "end") ≡ false
unfolding word_of
no_end (i.Start a) = refl
no_end (i.Take a) = refl
no_end i.Node = refl
no_end (i.Pick a) = refl
no_end i.Emit = refl
no_end (i.Back a) = refl
no_end i.Halt = refl
no_end (i.Jump a) = refl
no_end (i.Test a) = refl
no_end (i.Need a) = refl
no_end (i.AtLeast a b) = refl
no_end (i.AtMost a b) = refl
no_end (i.Within a b) = refl
no_end (i.Without a b) = refl
no_end (i.Num a) = refl
no_end (i.Var a) = refl
no_end (i.Given a) = refl
no_end (i.Choice a) = refl
no_end i.Add = refl
no_end i.Sub = refl
no_end i.Mul = refl
no_end i.Min = refl
no_end i.Max = refl
no_end i.Le = refl
no_end i.Eq = refl
no_end i.Same = refl
no_end i.And = refl
no_end i.Or = refl
no_end i.Not = refl
no_end i.Gate = refl
no_end (i.First a b c) = refl
no_end (i.Next a b) = refl
no_end i.True = refl
no_end i.False = refl

-- a word has letters alone
pub clean_word : (instr : Instr) → IsClean (word_of instr)
unfolding word_of
clean_word (i.Start a) = record { some = omega arith; letters = refl }
clean_word (i.Take a) = record { some = omega arith; letters = refl }
clean_word i.Node = record { some = omega arith; letters = refl }
clean_word (i.Pick a) = record { some = omega arith; letters = refl }
clean_word i.Emit = record { some = omega arith; letters = refl }
clean_word (i.Back a) = record { some = omega arith; letters = refl }
clean_word i.Halt = record { some = omega arith; letters = refl }
clean_word (i.Jump a) = record { some = omega arith; letters = refl }
clean_word (i.Test a) = record { some = omega arith; letters = refl }
clean_word (i.Need a) = record { some = omega arith; letters = refl }
clean_word (i.AtLeast a b) = record { some = omega arith; letters = refl }
clean_word (i.AtMost a b) = record { some = omega arith; letters = refl }
clean_word (i.Within a b) = record { some = omega arith; letters = refl }
clean_word (i.Without a b) = record { some = omega arith; letters = refl }
clean_word (i.Num a) = record { some = omega arith; letters = refl }
clean_word (i.Var a) = record { some = omega arith; letters = refl }
clean_word (i.Given a) = record { some = omega arith; letters = refl }
clean_word (i.Choice a) = record { some = omega arith; letters = refl }
clean_word i.Add = record { some = omega arith; letters = refl }
clean_word i.Sub = record { some = omega arith; letters = refl }
clean_word i.Mul = record { some = omega arith; letters = refl }
clean_word i.Min = record { some = omega arith; letters = refl }
clean_word i.Max = record { some = omega arith; letters = refl }
clean_word i.Le = record { some = omega arith; letters = refl }
clean_word i.Eq = record { some = omega arith; letters = refl }
clean_word i.Same = record { some = omega arith; letters = refl }
clean_word i.And = record { some = omega arith; letters = refl }
clean_word i.Or = record { some = omega arith; letters = refl }
clean_word i.Not = record { some = omega arith; letters = refl }
clean_word i.Gate = record { some = omega arith; letters = refl }
clean_word (i.First a b c) = record { some = omega arith; letters = refl }
clean_word (i.Next a b) = record { some = omega arith; letters = refl }
clean_word i.True = record { some = omega arith; letters = refl }
clean_word i.False = record { some = omega arith; letters = refl }
