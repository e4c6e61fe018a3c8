-- What each function that drafts has appended after its steps: the code of the form.
use Rattle.std.proofs.Common.{◌≡◌, ℕ, suc, ◌+◌, ◌*◌, ◌≤◌, Bool, true, false, cond, List, [], ◌∷◌, ◌++◌, length, sym, ap, ◌∙◌, arith, length-append, append_assoc}
use Rattle.std.specs.Prelude.{pos}
use Rattle.kts_code.specs.declared.instructions.Instr.{Instr}
use Rattle.kts_code.specs.declared.instructions.Instr.TheVariants.{First, Num, Gate, Add, Not, Or}
use Rattle.kts_spec.specs.declared.tree.Comparison.{Comparison}
use Rattle.kts_emit.specs.Fragments.{Fragment, sequence, operation, loop, begun, nested_loops}
use Rattle.kts_emit.specs.Codes.{negated, is_turned, test_code, comparison_code}
use Rattle.kts_emit.specs.Drafts.{openings, with_end, with_ends}
use Rattle.kts_emit.proofs.DraftedCode.{operation_next, two_drafted, loop_closed, loops_there, loops_closed, openings_long}

-- operands and what stands after them
pub operation_drafted : (base : ℕ) (draft : List Instr) (cs : List Fragment) (last : List Instr) (n : ℕ)
    → (draft ++ sequence cs (base + length draft) n) ++ last ≡ draft ++ operation cs last (base + length draft) n
operation_drafted base draft cs last n = append_assoc draft (sequence cs (base + length draft) n) last

pub not_drafted : (base : ℕ) (draft : List Instr) (c : Fragment) (n : ℕ)
    → (draft ++ c (base + length draft) n) ++ Not ∷ [] ≡ draft ++ negated c (base + length draft) n
not_drafted base draft c n = sym (operation_next base draft c (Not ∷ []) [] n)

pub implies_drafted : (base : ℕ) (draft k : List Instr) (c d : Fragment) (n : ℕ) → k ≡ (draft ++ c (base + length draft) n) ++ Not ∷ []
    → (k ++ d (base + length k) n) ++ Or ∷ [] ≡ draft ++ operation (negated c ∷ d ∷ []) (Or ∷ []) (base + length draft) n
implies_drafted base draft k c d n e =
    let f : k ≡ draft ++ negated c (base + length draft) n = e ∙ not_drafted base draft c n in
    ap (λ l. (l ++ d (base + length l) n) ++ Or ∷ []) f ∙ two_drafted base draft (negated c) d (Or ∷ []) n

-- the place behind an opening
opened_at : (base : ℕ) (draft k two : List Instr) (n : ℕ) → k ≡ draft ++ two → length two ≡ n → base + length k ≡ base + length draft + n
opened_at base draft k two n e long = omega (arith, ap length e, length-append draft two)

pub sum_drafted : (base : ℕ) (draft k1 k2 k3 k4 k5 k6 : List Instr) (c d : Fragment) (n m at index : ℕ) → m ≡ suc n → at ≡ length draft
    → k1 ≡ draft ++ (Num (pos 0) ∷ (First n index 0 ∷ [])) → k2 ≡ k1 ++ c (base + length k1) m → k3 ≡ k2 ++ d (base + length k2) m
    → k4 ≡ k3 ++ Gate ∷ [] → k5 ≡ k4 ++ Add ∷ [] → k6 ≡ with_end base n index at k5
    → k6 ≡ draft ++ begun (Num (pos 0)) (loop index (operation (c ∷ d ∷ []) (Gate ∷ Add ∷ []))) (base + length draft) n
sum_drafted base draft k1 k2 k3 k4 k5 k6 c d n m at index em ea e1 e2 e3 e4 e5 e6 =
    let two = Num (pos 0) ∷ (First n index 0 ∷ []) in
    let place = base + length draft in
    let body = operation (c ∷ d ∷ []) (Gate ∷ Add ∷ []) in
    let is = body (place + 1 + 1) (suc n) in
    let p : base + length k1 ≡ place + 1 + 1 = omega (arith, ap length e1, length-append draft two) in
    let f2 : k2 ≡ k1 ++ c (base + length k1) (suc n) = e2 ∙ ap (λ q. k1 ++ c (base + length k1) q) em in
    let f3 : k3 ≡ (k1 ++ c (base + length k1) (suc n)) ++ d (base + length (k1 ++ c (base + length k1) (suc n))) (suc n) =
    e3 ∙ ap (λ q. k2 ++ d (base + length k2) q) em ∙ ap (λ l. l ++ d (base + length l) (suc n)) f2 in
    let f5 : k5 ≡ k3 ++ (Gate ∷ Add ∷ []) = e5 ∙ ap (λ l. l ++ Add ∷ []) e4 ∙ append_assoc k3 (Gate ∷ []) (Add ∷ []) in
    let whole : k5 ≡ draft ++ (Num (pos 0) ∷ (First n index 0 ∷ is)) =
    f5 ∙ ap (λ l. l ++ (Gate ∷ Add ∷ [])) f3 ∙ two_drafted base k1 c d (Gate ∷ Add ∷ []) (suc n)
    ∙ ap (λ q. k1 ++ body q (suc n)) p ∙ ap (λ l. l ++ is) e1 ∙ append_assoc draft two is in
    e6 ∙ ap (λ q. with_end base n index q k5) ea ∙ ap (with_end base n index (length draft)) whole
    ∙ loop_closed base draft (Num (pos 0)) n index is

pub bound_drafted : (base : ℕ) (start join : Instr) (draft k1 k2 k3 : List Instr) (indexes : List ℕ) (c : Fragment) (n m at : ℕ)
    → m ≡ n + length indexes → at ≡ length draft → k1 ≡ draft ++ openings start indexes n → k2 ≡ k1 ++ c (base + length k1) m
    → k3 ≡ with_ends base join indexes at n k2 → k3 ≡ draft ++ nested_loops start join indexes c (base + length draft) n
bound_drafted base start join draft k1 k2 k3 indexes c n m at em ea e1 e2 e3 =
    let k = length indexes in
    let place = base + length draft in
    let p : base + length k1 ≡ place + 2 * k =
    omega (arith, ap length e1, length-append draft (openings start indexes n), openings_long start indexes n) in
    let is = c (place + 2 * k) (n + k) in
    let whole : k2 ≡ draft ++ (openings start indexes n ++ is) =
    e2 ∙ ap (λ q. k1 ++ c (base + length k1) q) em ∙ ap (λ q. k1 ++ c q (n + k)) p ∙ ap (λ l. l ++ is) e1
    ∙ append_assoc draft (openings start indexes n) is in
    e3 ∙ ap (λ q. with_ends base join indexes q n k2) ea ∙ ap (with_ends base join indexes (length draft) n) whole
    ∙ loops_closed base start join indexes n draft is ∙ ap (λ l. draft ++ l) (sym (loops_there start join indexes c place n))

pub loops_open : (base : ℕ) (start : Instr) (draft k1 k2 : List Instr) (indexes : List ℕ) (c : Fragment) (n m at : ℕ) → at ≡ length draft
    → k1 ≡ draft ++ openings start indexes n → k2 ≡ k1 ++ c (base + length k1) m → at + 2 * length indexes ≤ length k2
loops_open base start draft k1 k2 indexes c n m at ea e1 e2 =
    let first = length-append draft (openings start indexes n) in
    omega (arith, ap length e1, ap length e2, first, length-append k1 (c (base + length k1) m), openings_long start indexes n)

pub comparison_drafted : (base : ℕ) (o : Comparison) (draft k1 k2 k3 : List Instr) (a b : Fragment) (n : ℕ) → is_turned o ≡ false
    → k1 ≡ draft ++ a (base + length draft) n → k2 ≡ k1 ++ b (base + length k1) n → k3 ≡ k2 ++ test_code o
    → k3 ≡ draft ++ comparison_code o a b (base + length draft) n
comparison_drafted base o draft k1 k2 k3 a b n t e1 e2 e3 =
    e3 ∙ ap (λ l. l ++ test_code o) (e2 ∙ ap (λ l. l ++ b (base + length l) n) e1) ∙ two_drafted base draft a b (test_code o) n
    ∙ ap (λ (q : Bool). draft ++ operation (cond q (b ∷ a ∷ []) (a ∷ b ∷ [])) (test_code o) (base + length draft) n) (sym t)

pub turned_drafted : (base : ℕ) (o : Comparison) (draft k1 k2 k3 : List Instr) (a b : Fragment) (n : ℕ) → is_turned o ≡ true
    → k1 ≡ draft ++ b (base + length draft) n → k2 ≡ k1 ++ a (base + length k1) n → k3 ≡ k2 ++ test_code o
    → k3 ≡ draft ++ comparison_code o a b (base + length draft) n
turned_drafted base o draft k1 k2 k3 a b n t e1 e2 e3 =
    e3 ∙ ap (λ l. l ++ test_code o) (e2 ∙ ap (λ l. l ++ a (base + length l) n) e1) ∙ two_drafted base draft b a (test_code o) n
    ∙ ap (λ (q : Bool). draft ++ operation (cond q (b ∷ a ∷ []) (a ∷ b ∷ [])) (test_code o) (base + length draft) n) (sym t)
