-- The lines of the sizes and of the instructions, and the last line, are read again.
use Rattle.std.proofs.Common.{◌≡◌, refl, ◌∙◌, ap, ℕ, suc, ℤ, pos, negsuc, ◌+◌, ◌<◌, ◌≤◌, ◌==◌, List, [], ◌∷◌, length, map, drop, add-one, Bool, true, false, not, ◌&&◌, nat_lt, if◌then◌else◌, Ok, Err, arith}
use Rattle.std.specs.Prelude.{neg_ℤ, int_le, int_lt, Result}
use Rattle.std.specs.Fmt.{signed_decimal}
use Rattle.std.specs.List.{list_all, prefix_len}
use Rattle.std.proofs.lemmas.Bool.{and_parts}
use Rattle.std.proofs.lemmas.Bool.Decides.{nat_tests}
use Rattle.std.proofs.lemmas.Int.{ints}
use Rattle.kts_base.specs.Limits.{most_instructions, most_stack, most_number, most_variables}
use Rattle.kts_base.specs.Reads.{each_from}
use Rattle.kts_code.specs.declared.instructions.Instr.{Instr}
use Rattle.kts_code.specs.CodeTexts.{values_of, stack_words, size_words, instr_words, end_words}
use Rattle.kts_code.specs.WellFormed.{is_code_number}
use Rattle.kts_write.specs.declared.table.OperandKind.{OperandKind}
use Rattle.kts_write.specs.declared.table.OperandKind.TheVariants as kinds
use Rattle.kts_write.specs.Encodings.{kinds_of, with_values}
use Rattle.kts_read.specs.Goods.{IsStack, all_fit, instr_fits}
use Rattle.kts_read.specs.InstructionLines.{fits, operand, operands, instr_line}
use Rattle.kts_read.specs.Reading.{sized, size_or, stack_in, size_in, placed_count, placed, size_line, counts_in, coded, ended, end_line, body_line}
use Rattle.kts_read.specs.Words.{word}
use Rattle.kts_read.specs.declared.draft.Draft.{Draft}
use Rattle.kts_read.specs.declared.fault.CodeKind.{CodeKind}
use Rattle.kts_read.specs.declared.fault.CodeKind.TheVariants.{BadNumber, TooLong}
use Rattle.kts_read.specs.declared.operands.Counts.{Counts}
use Rattle.kts_read.proofs.Cleans.{AreClean, signed_clean}
use Rattle.kts_read.proofs.ConstraintsAgain.{word_here}
use Rattle.kts_read.proofs.InstrAdds.{IsRoomy, in_range, all_held}
use Rattle.kts_read.proofs.HeldOperands.{with_own}
use Rattle.kts_read.proofs.InstrLaws.{with_again, same_kinds, found_by_word, no_end, clean_word}
use Rattle.kts_read.proofs.NumberTexts.{IsSmall, number_of-signed, le_small}
use Rattle.kts_read.proofs.Tests.{yes_le, whole_again, lt_test}

-- ---- the sizes

pub stack_again : (stack : ℕ) → IsStack stack → stack_in (stack_words stack) ≡ Ok stack
unfolding stack_in
stack_again stack s =
    let some = s.some in
    let few = s.few in
    rw (whole_again 1 (suc most_stack) stack some (omega (arith, few)) (omega (arith, few))) refl

abbrev sizes : ℕ → Result ℕ CodeKind
sizes n = Ok n

size_test : (n : ℕ) (some few : Bool) → some ≡ true → few ≡ true → (if not some then Err BadNumber else (if few then sizes n else Err TooLong)) ≡ sizes n
size_test n true true h g = refl
size_test n true false h g = absurd cc
size_test n false few h g = absurd cc

size_again : (size : ℕ) → 1 ≤ size → size ≤ most_instructions → size_in (size_words size) ≡ sizes size
unfolding size_in
size_again size some few =
    ap size_or (number_of-signed (pos size) (le_small size (omega (arith, few)))) ∙ size_test size (int_le (pos 1) (pos size)) (int_le (pos size) (pos most_instructions)) (yes_le 1 size some) (yes_le size most_instructions few)

all_counted : (test : ℕ → Bool) (xs : List ℕ) → list_all test xs ≡ true → prefix_len test xs ≡ length xs
all_counted test [] h = refl
all_counted test (x ∷ xs) h = let both = and_parts (test x) (list_all test xs) h in rw (both.0, all_counted test xs both.1) (one_more (length xs))
  where
    one_more : (n : ℕ) → 1 + n ≡ suc n
    one_more n = omega arith

not_below : (n : ℕ) → nat_lt n n ≡ false
not_below n = grind (arith, nat_tests)

placed_again : (d : Draft) (size : ℕ) → list_all (λ to. nat_lt to size) d.constraints.entries ≡ true → placed d size (placed_count size d.constraints.entries) ≡ Ok (sized d size)
unfolding placed_count
placed_again d size all = rw (all_counted (λ to. nat_lt to size) d.constraints.entries all, not_below (length d.constraints.entries)) refl

pub size_line_again : (at : ℕ) (d : Draft) (size : ℕ) → 1 ≤ size → size ≤ most_instructions → list_all (λ to. nat_lt to size) d.constraints.entries ≡ true → size_line at d (size_words size) ≡ Ok (sized d size)
unfolding size_line
size_line_again at d size some few all = rw (size_again size some few) (placed_again d size all)

-- ---- operands

ranged_small : (z : ℤ) (end : ℕ) → end ≤ most_instructions → (int_le (pos 0) z && int_lt z (pos end)) ≡ true → IsSmall z
ranged_small z end few h = let r = in_range z end h in let less = r.2 in rw r.1 (le_small r.0 (omega (arith, less, few)))

code_small : (z : ℤ) → is_code_number z ≡ true → IsSmall z
code_small (pos n) h =
    let both = and_parts (int_le (neg_ℤ (pos most_number)) (pos n)) (int_le (pos n) (pos most_number)) h in let b : n ≤ most_number = grind (arith, ints) in le_small n b
code_small (negsuc n) h =
    let both = and_parts (int_le (neg_ℤ (pos most_number)) (negsuc n)) (int_le (negsuc n) (pos most_number)) h in let b : suc n ≤ most_number = grind (arith, ints) in le_small (suc n) b

module _ (counts : Counts) (r : IsRoomy counts) where
  fits_small : (kind : OperandKind) (z : ℤ) → fits counts kind z ≡ true → IsSmall z
  unfolding fits
  fits_small kinds.Label z h = ranged_small z counts.labels r.labels h
  fits_small kinds.Given z h = ranged_small z counts.givens r.givens h
  fits_small kinds.Choice z h = ranged_small z counts.choices r.choices h
  fits_small kinds.Number z h = code_small z h
  fits_small kinds.Register z h = ranged_small z most_variables (omega arith) h
  fits_small kinds.Index z h = ranged_small z counts.indexes r.indexes h

  operand_again : (kind : OperandKind) (z : ℤ) → fits counts kind z ≡ true → operand counts kind (signed_decimal z) ≡ Ok z
  unfolding operand
  operand_again kind z h = rw (number_of-signed z (fits_small kind z h), h) refl

  operands_again : (words : List (List ℕ)) (k : ℕ) (ks : List OperandKind) (zs : List ℤ) → all_fit counts ks zs ≡ true → drop k words ≡ map signed_decimal zs
      → each_from (λ k kind. operand counts kind (word words k)) (λ k (kind : OperandKind). k + 1) k ks ≡ Ok zs
  unfolding each_from
  operands_again words k [] [] h e = refl
  operands_again words k [] (z ∷ zs) h e = absurd cc
  operands_again words k (kind ∷ ks) [] h e = absurd cc
  operands_again words k (kind ∷ ks) (z ∷ zs) h e =
      let both = and_parts (fits counts kind z) (all_fit counts ks zs) h in
      let here = word_here words k (signed_decimal z) (map signed_decimal zs) e in
      let next : drop (k + 1) words ≡ map signed_decimal zs = rw add-one here.1 in
      rw (here.0, operand_again kind z both.0, operands_again words (k + 1) ks zs both.1 next) refl

  fit_count : (ks : List OperandKind) (zs : List ℤ) → all_fit counts ks zs ≡ true → length (map signed_decimal zs) ≡ length ks
  fit_count [] [] h = refl
  fit_count [] (z ∷ zs) h = absurd cc
  fit_count (k ∷ ks) [] h = absurd cc
  fit_count (k ∷ ks) (z ∷ zs) h = ap suc (fit_count ks zs (and_parts (fits counts k z) (all_fit counts ks zs) h).1)

  pub fit_clean : (ks : List OperandKind) (zs : List ℤ) → all_fit counts ks zs ≡ true → AreClean (map signed_decimal zs)
  fit_clean [] [] h = tt
  fit_clean [] (z ∷ zs) h = absurd cc
  fit_clean (k ∷ ks) [] h = absurd cc
  fit_clean (k ∷ ks) (z ∷ zs) h = let both = and_parts (fits counts k z) (all_fit counts ks zs) h in (signed_clean z (fits_small k z both.0), fit_clean ks zs both.1)

  same_count : (a b : ℕ) → a ≡ b → (suc a == b + 1) ≡ true
  same_count a b e = grind (arith, nat_tests)

  pub instr_again : (i : Instr) → instr_fits counts i ≡ true → instr_line counts (instr_words i) ≡ Ok i
  unfolding instr_line instr_fits operands
  instr_again i fit =
      let read = operands_again (instr_words i) 1 (kinds_of i) (values_of i) fit refl in
      let count = same_count (length (map signed_decimal (values_of i))) (length (kinds_of i)) (fit_count (kinds_of i) (values_of i) fit) in
      let own : with_values (with_values i []) (values_of i) ≡ i = with_again i [] (values_of i) ∙ with_own i (all_held counts (kinds_of i) (values_of i) r fit) in
      rw (no_end i, found_by_word i, same_kinds i [], count, read, own) refl

-- ---- the lines of the body

pub body_again : (d : Draft) (i : Instr) → IsRoomy (counts_in d) → length d.instrs < d.size → instr_fits (counts_in d) i ≡ true → body_line d (instr_words i) ≡ Ok (coded d i)
unfolding body_line
body_again d i r room fit = rw (lt_test (length d.instrs) d.size room, instr_again (counts_in d) r i fit) refl

pub end_again : (d : Draft) → d.size ≡ length d.instrs → body_line d end_words ≡ Ok (ended d)
unfolding body_line end_line
end_again d full = rw (full, not_below (length d.instrs)) refl

pub instr_clean : (counts : Counts) (i : Instr) → IsRoomy counts → instr_fits counts i ≡ true → AreClean (instr_words i)
unfolding instr_fits
instr_clean counts i r fit = (clean_word i, fit_clean counts r (kinds_of i) (values_of i) fit)
