-- What the line of an instruction says.
use Rattle.std.proofs.Common.{◌≡◌, refl, sym, ◌∙◌, ap, subst, ℕ, ℤ, pos, negsuc, suc, ◌+◌, ◌<◌, ◌≤◌, ◌==◌, List, [], ◌∷◌, length, drop, map, Bool, true, false, ◌&&◌, if◌then◌else◌, Option, None, Some, Ok, find, arith}
use Rattle.std.specs.Prelude.{codes, int_le, int_lt}
use Rattle.std.specs.Fmt.{signed_decimal}
use Rattle.std.proofs.lemmas.Bool.{and_parts, and_from}
use Rattle.std.proofs.lemmas.List.{drop_all}
use Rattle.std.proofs.lemmas.Int.{ints}
use Rattle.kts_base.specs.Limits.{most_instructions, most_variables}
use Rattle.kts_base.specs.Reads.{and_then, each_from}
use Rattle.kts_code.specs.declared.instructions.Instr.{Instr}
use Rattle.kts_code.specs.CodeTexts.{word_of, values_of, instr_words}
use Rattle.kts_write.specs.declared.table.OperandKind.{OperandKind}
use Rattle.kts_write.specs.declared.table.OperandKind.TheVariants as kinds
use Rattle.kts_write.specs.Encodings.{kinds_of, with_values, samples, place_of, register_of}
use Rattle.kts_read.specs.Goods.{all_fit, instr_fits}
use Rattle.kts_read.specs.InstructionLines.{operation_of, fits, fitting, operand, operands, with_operation, instr_line}
use Rattle.kts_read.specs.Words.{is_text, word, number_of}
use Rattle.kts_read.specs.declared.operands.Counts.{Counts}
use Rattle.kts_read.proofs.ConstraintAdds.{drop_here}
use Rattle.kts_read.proofs.HeldOperands.{Holds, HoldsAll, values_set}
use Rattle.kts_read.proofs.InstrLaws.{same_word, same_kinds}
use Rattle.kts_read.proofs.NumberTexts.{text_same, number_text}
use Rattle.kts_read.proofs.Tests.{if_ok, else_ok, ok_same, then_ok, accepted, same_length, below_pos, no_negative}

-- ---- the word

found_step : (p : Instr → Bool) (y x : Instr) (ys : List Instr) (t : Bool) → p y ≡ t → (if t then Some y else find p ys) ≡ Some x → (find p ys ≡ Some x → p x ≡ true) → p x ≡ true
found_step p y x ys true f e more = let same : y ≡ x = cc in rw same at f
found_step p y x ys false f e more = more e

found_is : (p : Instr → Bool) (xs : List Instr) (x : Instr) → find p xs ≡ Some x → p x ≡ true
found_is p [] x e = absurd cc
found_is p (y ∷ ys) x e = found_step p y x ys (p y) refl e (found_is p ys x)

pub operation_word : (bytes : List ℕ) (instr : Instr) → operation_of bytes ≡ Some instr → bytes ≡ word_of instr
unfolding operation_of
operation_word bytes instr e = sym (text_same (word_of instr) bytes (found_is (λ i. is_text (word_of i) bytes) samples instr e))

-- ---- the operands

fitting_ok : (counts : Counts) (kind : OperandKind) (bytes : List ℕ) (z : ℤ) → operand counts kind bytes ≡ Ok z → (bytes ≡ signed_decimal z) × (fits counts kind z ≡ true)
unfolding operand
fitting_ok counts kind bytes z e = by_number (number_of bytes) refl e
  where
    by_number : (found : Option ℤ) → number_of bytes ≡ found → fitting counts kind found ≡ Ok z → (bytes ≡ signed_decimal z) × (fits counts kind z ≡ true)
    by_number None f s = absurd cc
    by_number (Some y) f s = let c = if_ok (fits counts kind y) (accepted y) _ z s in let same : y ≡ z = ok_same y z c.1 in rw (← same) ((number_text bytes y f).0, c.0)

operands_found : (counts : Counts) (words : List (List ℕ)) (k : ℕ) (ks : List OperandKind) (zs : List ℤ) → each_from (λ k kind. operand counts kind (word words k)) (λ k (kind : OperandKind). k + 1) k ks ≡ Ok zs → length words ≡ k + length ks
    → (drop k words ≡ map signed_decimal zs) × (all_fit counts ks zs ≡ true)
unfolding each_from
operands_found counts words k [] zs e h = let same : [] ≡ zs = cc in rw (← same) (drop_all k words (omega (arith, h)), refl)
operands_found counts words k (kind ∷ ks) zs e h =
    let a = then_ok (operand counts kind (word words k)) _ zs e in
    let b = then_ok (each_from (λ k kind. operand counts kind (word words k)) (λ k (kind : OperandKind). k + 1) (k + 1) ks) _ zs a.2 in
    let one = fitting_ok counts kind (word words k) a.0 a.1 in
    let more = operands_found counts words (k + 1) ks b.0 b.1 (omega (arith, h)) in
    let same : a.0 ∷ b.0 ≡ zs = ok_same _ _ b.2 in
    rw (← same) (
      drop_here words k (length ks) h ∙ ap (λ (w : List ℕ). w ∷ drop (k + 1) words) one.0 ∙ ap (λ (ws : List (List ℕ)). signed_decimal a.0 ∷ ws) more.0,
      and_from (fits counts kind a.0) (all_fit counts ks b.0) one.1 more.1,
    )

-- ---- numbers that fit are held

-- no more of anything than there may be instructions
pub record IsRoomy (counts : Counts) : Type 0 where
  pub labels : counts.labels ≤ most_instructions
  pub indexes : counts.indexes ≤ most_instructions
  pub givens : counts.givens ≤ most_instructions
  pub choices : counts.choices ≤ most_instructions

place_same : (n : ℕ) → n < 4294967296 → place_of (pos n) ≡ n
place_same n h =
    let e : (int_le (pos 0) (pos n) && int_le (pos n) (pos 4294967295)) ≡ true = and_from (int_le (pos 0) (pos n)) (int_le (pos n) (pos 4294967295)) (grind (arith, ints)) (grind (arith, ints)) in rw e refl

register_same : (n : ℕ) → n < 256 → register_of (pos n) ≡ n
register_same n h =
    let e : (int_le (pos 0) (pos n) && int_le (pos n) (pos 255)) ≡ true = and_from (int_le (pos 0) (pos n)) (int_le (pos n) (pos 255)) (grind (arith, ints)) (grind (arith, ints)) in rw e refl

pub in_range : (z : ℤ) (end : ℕ) → (int_le (pos 0) z && int_lt z (pos end)) ≡ true → (n : ℕ) × (z ≡ pos n) × (n < end)
in_range (pos n) end h = (n, refl, below_pos n end (and_parts (int_le (pos 0) (pos n)) (int_lt (pos n) (pos end)) h).1)
in_range (negsuc n) end h = absurd (no_negative 0 n (and_parts (int_le (pos 0) (negsuc n)) (int_lt (negsuc n) (pos end)) h).0)

placed : (z : ℤ) (end : ℕ) → end ≤ most_instructions → (int_le (pos 0) z && int_lt z (pos end)) ≡ true → pos (place_of z) ≡ z
placed z end few h = let r = in_range z end h in let less = r.2 in rw r.1 (ap pos (place_same r.0 (omega (arith, less, few))))

registered : (z : ℤ) → (int_le (pos 0) z && int_lt z (pos most_variables)) ≡ true → pos (register_of z) ≡ z
registered z h = let r = in_range z most_variables h in let less = r.2 in rw r.1 (ap pos (register_same r.0 (omega (arith, less))))

pub held : (counts : Counts) (kind : OperandKind) (z : ℤ) → IsRoomy counts → fits counts kind z ≡ true → Holds kind z
unfolding fits
held counts kinds.Label z r h = placed z counts.labels r.labels h
held counts kinds.Given z r h = placed z counts.givens r.givens h
held counts kinds.Choice z r h = placed z counts.choices r.choices h
held counts kinds.Number z r h = tt
held counts kinds.Register z r h = registered z h
held counts kinds.Index z r h = placed z counts.indexes r.indexes h

pub all_held : (counts : Counts) (ks : List OperandKind) (zs : List ℤ) → IsRoomy counts → all_fit counts ks zs ≡ true → HoldsAll ks zs
all_held counts [] [] r h = tt
all_held counts [] (z ∷ zs) r h = absurd cc
all_held counts (k ∷ ks) [] r h = absurd cc
all_held counts (k ∷ ks) (z ∷ zs) r h = let both = and_parts (fits counts k z) (all_fit counts ks zs) h in (held counts k z r both.0, all_held counts ks zs r both.1)

-- ---- the line

first_and_others : (words : List (List ℕ)) (n : ℕ) → length words ≡ suc n → words ≡ word words 0 ∷ drop 1 words
first_and_others [] n h = absurd (omega (arith, h))
first_and_others (w ∷ ws) n h = refl

pub record SaysInstr (counts : Counts) (words : List (List ℕ)) (instr : Instr) : Type 0 where
  pub spelled : words ≡ instr_words instr
  pub sound : instr_fits counts instr ≡ true

pub instr_found : (counts : Counts) (words : List (List ℕ)) (instr : Instr) → IsRoomy counts → instr_line counts words ≡ Ok instr → SaysInstr counts words instr
unfolding instr_line operands instr_fits
instr_found counts words instr roomy step = let a = else_ok (is_text (word words 0) (codes "end")) _ _ instr step in by_sample (operation_of (word words 0)) refl a.1
  where
    made : (sample : Instr) (values : List ℤ) → word words 0 ≡ word_of sample → length words ≡ length (kinds_of sample) + 1 → (drop 1 words ≡ map signed_decimal values) × (all_fit counts (kinds_of sample) values ≡ true)
        → SaysInstr counts words (with_values sample values)
    made sample values first count found =
        let set : values_of (with_values sample values) ≡ values = values_set sample values (all_held counts (kinds_of sample) values roomy found.1) in
        record {
          spelled =
              first_and_others words (length (kinds_of sample)) (omega (arith, count)) ∙ ap (λ (w : List ℕ). w ∷ drop 1 words) (first ∙ sym (same_word sample values))
              ∙ ap (λ (ws : List (List ℕ)). word_of (with_values sample values) ∷ ws) (found.0 ∙ ap (map signed_decimal) (sym set));
          sound = rw (same_kinds sample values, set) found.1;
        }

    by_sample : (found : Option Instr) → operation_of (word words 0) ≡ found → with_operation counts words found ≡ Ok instr → SaysInstr counts words instr
    by_sample None f s = absurd cc
    by_sample (Some sample) f s =
        let a = if_ok (length words == length (kinds_of sample) + 1) (and_then (operands counts (kinds_of sample) words) (λ values. accepted (with_values sample values))) _ instr s in
        let count = same_length (length words) (length (kinds_of sample) + 1) a.0 in
        let b = then_ok (operands counts (kinds_of sample) words) (λ values. accepted (with_values sample values)) instr a.1 in
        subst (SaysInstr counts words) (ok_same _ _ b.2)
        (made sample b.0 (operation_word (word words 0) sample f) count (operands_found counts words 1 (kinds_of sample) b.0 b.1 (omega (arith, count))))
