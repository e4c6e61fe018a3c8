-- The operands of an instruction fit exactly where the instruction is well formed.
use Rattle.std.proofs.Common.{◌≡◌, refl, ℕ, pos, length, true, ◌&&◌, arith}
use Rattle.std.specs.Prelude.{int_le, int_lt, nat_lt}
use Rattle.std.proofs.lemmas.Bool.{and_parts, and_from}
use Rattle.kts_base.specs.Limits.{most_variables}
use Rattle.kts_code.specs.declared.instructions.Instr.{Instr}
use Rattle.kts_code.specs.declared.instructions.Instr.TheVariants as i
use Rattle.kts_code.specs.CodeTexts.{values_of}
use Rattle.kts_code.specs.WellFormed.{is_code_number, is_choice, is_index, is_register, is_instr}
use Rattle.kts_spec.specs.declared.schema.Schema.{Schema}
use Rattle.kts_write.specs.declared.table.OperandKind.TheVariants as kinds
use Rattle.kts_write.specs.Encodings.{kinds_of}
use Rattle.kts_read.specs.declared.operands.Counts.{Counts}
use Rattle.kts_read.specs.Goods.{instr_fits}
use Rattle.kts_read.specs.InstructionLines.{fits}
use Rattle.kts_read.proofs.Tests.{lt_test, lt_found, below_pos, yes_le, yes_lt}

-- what there is in code of so many places
abbrev pub counts : Schema → ℕ → Counts
counts schema places = record { labels = places; indexes = length schema.indexes; givens = length schema.givens; choices = length schema.choices }

below : (n end : ℕ) → (int_le (pos 0) (pos n) && int_lt (pos n) (pos end)) ≡ true → nat_lt n end ≡ true
below n end h = lt_test n end (below_pos n end (and_parts (int_le (pos 0) (pos n)) (int_lt (pos n) (pos end)) h).1)

ranged : (n end : ℕ) → nat_lt n end ≡ true → (int_le (pos 0) (pos n) && int_lt (pos n) (pos end)) ≡ true
ranged n end h = and_from (int_le (pos 0) (pos n)) (int_lt (pos n) (pos end)) (yes_le 0 n (omega arith)) (yes_lt n end (lt_found n end h))

pub well_formed : (schema : Schema) (places : ℕ) (instr : Instr) → instr_fits (counts schema places) instr ≡ true → is_instr schema places instr ≡ true
unfolding instr_fits kinds_of values_of fits
well_formed schema places (i.Start a) h = let p0 = and_parts (fits (counts schema places) kinds.Label (pos a)) true h in below a (places) p0.0
well_formed schema places (i.Take a) h = let p0 = and_parts (fits (counts schema places) kinds.Label (pos a)) true h in below a (places) p0.0
well_formed schema places i.Node h = refl
well_formed schema places (i.Pick a) h = let p0 = and_parts (fits (counts schema places) kinds.Label (pos a)) true h in below a (places) p0.0
well_formed schema places i.Emit h = refl
well_formed schema places (i.Back a) h = let p0 = and_parts (fits (counts schema places) kinds.Label (pos a)) true h in below a (places) p0.0
well_formed schema places i.Halt h = refl
well_formed schema places (i.Jump a) h = let p0 = and_parts (fits (counts schema places) kinds.Label (pos a)) true h in below a (places) p0.0
well_formed schema places (i.Test a) h = let p0 = and_parts (fits (counts schema places) kinds.Label (pos a)) true h in below a (places) p0.0
well_formed schema places (i.Need a) h = let p0 = and_parts (fits (counts schema places) kinds.Label (pos a)) true h in below a (places) p0.0
well_formed schema places (i.AtLeast a b) h =
    let p0 = and_parts (fits (counts schema places) kinds.Choice (pos a)) (fits (counts schema places) kinds.Label (pos b) && true) h in
    let p1 = and_parts (fits (counts schema places) kinds.Label (pos b)) true p0.1 in
    and_from (is_choice schema a) (nat_lt b places) (below a (length schema.choices) p0.0) (below b (places) p1.0)
well_formed schema places (i.AtMost a b) h =
    let p0 = and_parts (fits (counts schema places) kinds.Choice (pos a)) (fits (counts schema places) kinds.Label (pos b) && true) h in
    let p1 = and_parts (fits (counts schema places) kinds.Label (pos b)) true p0.1 in
    and_from (is_choice schema a) (nat_lt b places) (below a (length schema.choices) p0.0) (below b (places) p1.0)
well_formed schema places (i.Within a b) h =
    let p0 = and_parts (fits (counts schema places) kinds.Choice (pos a)) (fits (counts schema places) kinds.Label (pos b) && true) h in
    let p1 = and_parts (fits (counts schema places) kinds.Label (pos b)) true p0.1 in
    and_from (is_choice schema a) (nat_lt b places) (below a (length schema.choices) p0.0) (below b (places) p1.0)
well_formed schema places (i.Without a b) h =
    let p0 = and_parts (fits (counts schema places) kinds.Choice (pos a)) (fits (counts schema places) kinds.Label (pos b) && true) h in
    let p1 = and_parts (fits (counts schema places) kinds.Label (pos b)) true p0.1 in
    and_from (is_choice schema a) (nat_lt b places) (below a (length schema.choices) p0.0) (below b (places) p1.0)
well_formed schema places (i.Num a) h = let p0 = and_parts (is_code_number a) true h in p0.0
well_formed schema places (i.Var a) h =
    let p0 = and_parts (fits (counts schema places) kinds.Register (pos a)) true h in
    below a (most_variables) p0.0
well_formed schema places (i.Given a) h =
    let p0 = and_parts (fits (counts schema places) kinds.Given (pos a)) true h in
    below a (length schema.givens) p0.0
well_formed schema places (i.Choice a) h =
    let p0 = and_parts (fits (counts schema places) kinds.Choice (pos a)) true h in
    below a (length schema.choices) p0.0
well_formed schema places i.Add h = refl
well_formed schema places i.Sub h = refl
well_formed schema places i.Mul h = refl
well_formed schema places i.Min h = refl
well_formed schema places i.Max h = refl
well_formed schema places i.Le h = refl
well_formed schema places i.Eq h = refl
well_formed schema places i.Same h = refl
well_formed schema places i.And h = refl
well_formed schema places i.Or h = refl
well_formed schema places i.Not h = refl
well_formed schema places i.Gate h = refl
well_formed schema places (i.First a b c) h =
    let p0 = and_parts (fits (counts schema places) kinds.Register (pos a)) (fits (counts schema places) kinds.Index (pos b) && (fits (counts schema places) kinds.Label (pos c) && true)) h in
    let p1 = and_parts (fits (counts schema places) kinds.Index (pos b)) (fits (counts schema places) kinds.Label (pos c) && true) p0.1 in
    let p2 = and_parts (fits (counts schema places) kinds.Label (pos c)) true p1.1 in
    and_from (is_register a && is_index schema b) (nat_lt c places) (and_from (is_register a) (is_index schema b) (below a (most_variables) p0.0) (below b (length schema.indexes) p1.0)) (below c (places) p2.0)
well_formed schema places (i.Next a b) h =
    let p0 = and_parts (fits (counts schema places) kinds.Register (pos a)) (fits (counts schema places) kinds.Label (pos b) && true) h in
    let p1 = and_parts (fits (counts schema places) kinds.Label (pos b)) true p0.1 in
    and_from (is_register a) (nat_lt b places) (below a (most_variables) p0.0) (below b (places) p1.0)
well_formed schema places i.True h = refl
well_formed schema places i.False h = refl

pub operands_fit : (schema : Schema) (places : ℕ) (instr : Instr) → is_instr schema places instr ≡ true → instr_fits (counts schema places) instr ≡ true
unfolding instr_fits kinds_of values_of fits
operands_fit schema places (i.Start a) h = and_from (fits (counts schema places) kinds.Label (pos a)) true (ranged a (places) h) refl
operands_fit schema places (i.Take a) h = and_from (fits (counts schema places) kinds.Label (pos a)) true (ranged a (places) h) refl
operands_fit schema places i.Node h = refl
operands_fit schema places (i.Pick a) h = and_from (fits (counts schema places) kinds.Label (pos a)) true (ranged a (places) h) refl
operands_fit schema places i.Emit h = refl
operands_fit schema places (i.Back a) h = and_from (fits (counts schema places) kinds.Label (pos a)) true (ranged a (places) h) refl
operands_fit schema places i.Halt h = refl
operands_fit schema places (i.Jump a) h = and_from (fits (counts schema places) kinds.Label (pos a)) true (ranged a (places) h) refl
operands_fit schema places (i.Test a) h = and_from (fits (counts schema places) kinds.Label (pos a)) true (ranged a (places) h) refl
operands_fit schema places (i.Need a) h = and_from (fits (counts schema places) kinds.Label (pos a)) true (ranged a (places) h) refl
operands_fit schema places (i.AtLeast a b) h =
    let q1 = and_parts (is_choice schema a) (nat_lt b places) h in
    and_from (fits (counts schema places) kinds.Choice (pos a)) (fits (counts schema places) kinds.Label (pos b) && true) (ranged a (length schema.choices) q1.0) (and_from (fits (counts schema places) kinds.Label (pos b)) true (ranged b (places) q1.1) refl)
operands_fit schema places (i.AtMost a b) h =
    let q1 = and_parts (is_choice schema a) (nat_lt b places) h in
    and_from (fits (counts schema places) kinds.Choice (pos a)) (fits (counts schema places) kinds.Label (pos b) && true) (ranged a (length schema.choices) q1.0) (and_from (fits (counts schema places) kinds.Label (pos b)) true (ranged b (places) q1.1) refl)
operands_fit schema places (i.Within a b) h =
    let q1 = and_parts (is_choice schema a) (nat_lt b places) h in
    and_from (fits (counts schema places) kinds.Choice (pos a)) (fits (counts schema places) kinds.Label (pos b) && true) (ranged a (length schema.choices) q1.0) (and_from (fits (counts schema places) kinds.Label (pos b)) true (ranged b (places) q1.1) refl)
operands_fit schema places (i.Without a b) h =
    let q1 = and_parts (is_choice schema a) (nat_lt b places) h in
    and_from (fits (counts schema places) kinds.Choice (pos a)) (fits (counts schema places) kinds.Label (pos b) && true) (ranged a (length schema.choices) q1.0) (and_from (fits (counts schema places) kinds.Label (pos b)) true (ranged b (places) q1.1) refl)
operands_fit schema places (i.Num a) h = and_from (is_code_number a) true (h) refl
operands_fit schema places (i.Var a) h = and_from (fits (counts schema places) kinds.Register (pos a)) true (ranged a (most_variables) h) refl
operands_fit schema places (i.Given a) h = and_from (fits (counts schema places) kinds.Given (pos a)) true (ranged a (length schema.givens) h) refl
operands_fit schema places (i.Choice a) h = and_from (fits (counts schema places) kinds.Choice (pos a)) true (ranged a (length schema.choices) h) refl
operands_fit schema places i.Add h = refl
operands_fit schema places i.Sub h = refl
operands_fit schema places i.Mul h = refl
operands_fit schema places i.Min h = refl
operands_fit schema places i.Max h = refl
operands_fit schema places i.Le h = refl
operands_fit schema places i.Eq h = refl
operands_fit schema places i.Same h = refl
operands_fit schema places i.And h = refl
operands_fit schema places i.Or h = refl
operands_fit schema places i.Not h = refl
operands_fit schema places i.Gate h = refl
operands_fit schema places (i.First a b c) h =
    let q2 = and_parts (is_register a && is_index schema b) (nat_lt c places) h in
    let q1 = and_parts (is_register a) (is_index schema b) q2.0 in
    and_from (fits (counts schema places) kinds.Register (pos a)) (fits (counts schema places) kinds.Index (pos b) && (fits (counts schema places) kinds.Label (pos c) && true)) (ranged a (most_variables) q1.0) (and_from (fits (counts schema places) kinds.Index (pos b)) (fits (counts schema places) kinds.Label (pos c) && true) (ranged b (length schema.indexes) q1.1) (and_from (fits (counts schema places) kinds.Label (pos c)) true (ranged c (places) q2.1) refl))
operands_fit schema places (i.Next a b) h =
    let q1 = and_parts (is_register a) (nat_lt b places) h in
    and_from (fits (counts schema places) kinds.Register (pos a)) (fits (counts schema places) kinds.Label (pos b) && true) (ranged a (most_variables) q1.0) (and_from (fits (counts schema places) kinds.Label (pos b)) true (ranged b (places) q1.1) refl)
operands_fit schema places i.True h = refl
operands_fit schema places i.False h = refl
