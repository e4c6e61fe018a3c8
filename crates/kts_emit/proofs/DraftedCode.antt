-- What is drafted, piece by piece: `base` is the place at which the draft will stand.
use Rattle.std.proofs.Common.{◌≡◌, ℕ, zero, suc, ◌+◌, ◌*◌, Bool, true, false, List, [], ◌∷◌, ◌++◌, length, refl, sym, ap, ◌∙◌, arith, length-append, append_assoc}
use Rattle.std.specs.Prelude.{slice_set}
use Rattle.std.proofs.lemmas.List.{append-nil}
use Rattle.kts_code.specs.declared.instructions.Instr.{Instr}
use Rattle.kts_code.specs.declared.instructions.Instr.TheVariants.{First, Next}
use Rattle.kts_emit.specs.Fragments.{Fragment, sequence, operation, chain_rest, chain, loop, begun, nested_loops}
use Rattle.kts_emit.specs.Drafts.{openings, with_end, with_ends}

-- the place behind a draft with these instructions more
place_after : (base : ℕ) (draft is : List Instr) → base + length draft + length is ≡ base + length (draft ++ is)
place_after base draft is = omega (arith, length-append draft is)

-- one code more of a sequence
pub sequence_next : (base : ℕ) (draft : List Instr) (c : Fragment) (cs : List Fragment) (n : ℕ)
    → draft ++ sequence (c ∷ cs) (base + length draft) n
    ≡ (draft ++ c (base + length draft) n) ++ sequence cs (base + length (draft ++ c (base + length draft) n)) n
sequence_next base draft c cs n =
    let is = c (base + length draft) n in
    sym (append_assoc draft is (sequence cs (base + length draft + length is) n))
    ∙ ap (λ p. (draft ++ is) ++ sequence cs p n) (place_after base draft is)

-- the first code of several that are joined, and one more
pub chain_next : (base : ℕ) (i : Instr) (draft : List Instr) (c : Fragment) (cs : List Fragment) (n : ℕ)
    → draft ++ chain i (c ∷ cs) (base + length draft) n
    ≡ (draft ++ c (base + length draft) n) ++ chain_rest i cs (base + length (draft ++ c (base + length draft) n)) n
chain_next base i draft c cs n =
    let is = c (base + length draft) n in
    sym (append_assoc draft is (chain_rest i cs (base + length draft + length is) n))
    ∙ ap (λ p. (draft ++ is) ++ chain_rest i cs p n) (place_after base draft is)

pub chain_rest_next : (base : ℕ) (i : Instr) (draft : List Instr) (c : Fragment) (cs : List Fragment) (n : ℕ)
    → draft ++ chain_rest i (c ∷ cs) (base + length draft) n
    ≡ ((draft ++ c (base + length draft) n) ++ i ∷ []) ++ chain_rest i cs (base + length ((draft ++ c (base + length draft) n) ++ i ∷ [])) n
chain_rest_next base i draft c cs n =
    let is = c (base + length draft) n in
    let p = base + length draft + length is + 1 in
    let e : p ≡ base + length ((draft ++ is) ++ i ∷ []) = omega (arith, length-append draft is, length-append (draft ++ is) (i ∷ [])) in
    sym (append_assoc draft is (i ∷ chain_rest i cs p n)) ∙ sym (append_assoc (draft ++ is) (i ∷ []) (chain_rest i cs p n))
    ∙ ap (λ q. ((draft ++ is) ++ i ∷ []) ++ chain_rest i cs q n) e

-- the second instruction after these is replaced
set_second : (pre : List Instr) (start f g : Instr) (rest : List Instr) (j : ℕ) → j ≡ length pre + 1
    → slice_set (pre ++ (start ∷ (f ∷ rest))) j g ≡ pre ++ (start ∷ (g ∷ rest))
set_second [] start f g rest zero e = absurd (omega arith)
set_second [] start f g rest (suc zero) e = refl
set_second [] start f g rest (suc (suc j)) e = absurd (omega arith)
set_second (i ∷ pre) start f g rest zero e = absurd (omega arith)
set_second (i ∷ pre) start f g rest (suc j) e = ap (λ l. i ∷ l) (set_second pre start f g rest j (omega arith))

-- a loop whose label is set after its body
pub loop_closed : (base : ℕ) (pre : List Instr) (start : Instr) (n index : ℕ) (is : List Instr)
    → with_end base n index (length pre) (pre ++ (start ∷ (First n index 0 ∷ is)))
    ≡ pre ++ (start ∷ (First n index (base + length pre + 1 + 1 + length is + 1) ∷ (is ++ Next n (base + length pre + 1 + 1) ∷ [])))
loop_closed base pre start n index is =
    let last = Next n (base + length pre + 1 + 1) in
    let whole = pre ++ (start ∷ (First n index 0 ∷ is)) in
    let label = base + length whole + 1 in
    let e : label ≡ base + length pre + 1 + 1 + length is + 1 = omega (arith, length-append pre (start ∷ (First n index 0 ∷ is))) in
    ap (λ l. slice_set l (length pre + 1) (First n index label)) (append_assoc pre (start ∷ (First n index 0 ∷ is)) (last ∷ []))
    ∙ set_second pre start (First n index 0) (First n index label) (is ++ last ∷ []) (length pre + 1) refl
    ∙ ap (λ k. pre ++ (start ∷ (First n index k ∷ (is ++ last ∷ [])))) e

-- the code of the parts that are left, where the first comes next or not
abbrev pub chain_left : Bool → Instr → List Fragment → Fragment
chain_left true i codes = chain i codes
chain_left false i codes = chain_rest i codes

-- loops are opened by two instructions each
pub openings_long : (start : Instr) (indexes : List ℕ) (n : ℕ) → length (openings start indexes n) ≡ 2 * length indexes
openings_long start [] n = refl
openings_long start (index ∷ indexes) n = omega (arith, openings_long start indexes (suc n))

-- what is left of an operation, of which the first operand has been drafted
pub operation_next : (base : ℕ) (draft : List Instr) (c : Fragment) (last : List Instr) (cs : List Fragment) (n : ℕ)
    → draft ++ operation (c ∷ cs) last (base + length draft) n
    ≡ (draft ++ c (base + length draft) n) ++ operation cs last (base + length (draft ++ c (base + length draft) n)) n
operation_next base draft c last cs n =
    let is = c (base + length draft) n in
    sym (append_assoc draft (sequence (c ∷ cs) (base + length draft) n) last) ∙ ap (λ l. l ++ last) (sequence_next base draft c cs n)
    ∙ append_assoc (draft ++ is) (sequence cs (base + length (draft ++ is)) n) last

-- one loop round these instructions
abbrev looped : Instr → Instr → ℕ → ℕ → ℕ → List Instr → List Instr
looped start join index p n is = begun start (loop index (operation ((λ _ _. is) ∷ []) (join ∷ []))) p n

-- loops round a body depend on its code at its own place alone
pub loops_there : (start join : Instr) (indexes : List ℕ) (c : Fragment) (p n : ℕ)
    → nested_loops start join indexes c p n
    ≡ nested_loops start join indexes (λ _ _. c (p + 2 * length indexes) (n + length indexes)) p n
loops_there start join [] c p n =
    let e : p ≡ p + 2 * 0 = omega arith in
    let f : n ≡ n + 0 = omega arith in
    ap (λ q. c q n) e ∙ ap (c (p + 2 * 0)) f
loops_there start join (index ∷ indexes) c p n =
    let all = index ∷ indexes in
    let e : p + 1 + 1 + 2 * length indexes ≡ p + 2 * length all = omega arith in
    let f : suc n + length indexes ≡ n + length all = omega arith in
    let inner = loops_there start join indexes c (p + 1 + 1) (suc n) in
    let body =
    ap (λ q. nested_loops start join indexes (λ _ _. c q (suc n + length indexes)) (p + 1 + 1) (suc n)) e
    ∙ ap (λ k. nested_loops start join indexes (λ _ _. c (p + 2 * length all) k) (p + 1 + 1) (suc n)) f in
    ap (looped start join index p n) (inner ∙ body)

-- nested loops whose labels are set after their body
pub loops_closed : (base : ℕ) (start join : Instr) (indexes : List ℕ) (n : ℕ) (pre is : List Instr)
    → with_ends base join indexes (length pre) n (pre ++ (openings start indexes n ++ is))
    ≡ pre ++ nested_loops start join indexes (λ _ _. is) (base + length pre) n
loops_closed base start join [] n pre is = refl
loops_closed base start join (index ∷ indexes) n pre is =
    let two = start ∷ (First n index 0 ∷ []) in
    let pre2 = pre ++ two in
    let p : length pre2 ≡ length pre + 1 + 1 = omega (arith, length-append pre two) in
    let split = sym (append_assoc pre two (openings start indexes (suc n) ++ is)) in
    let inner = nested_loops start join indexes (λ _ _. is) (base + length pre + 1 + 1) (suc n) in
    let there = loops_closed base start join indexes (suc n) pre2 is in
    let q : base + length pre2 ≡ base + length pre + 1 + 1 = omega (arith, p) in
    let h : with_ends base join indexes (length pre + 1 + 1) (suc n) (pre ++ (openings start (index ∷ indexes) n ++ is)) ≡ pre2 ++ inner =
    ap (with_ends base join indexes (length pre + 1 + 1) (suc n)) split
    ∙ ap (λ k. with_ends base join indexes k (suc n) (pre2 ++ (openings start indexes (suc n) ++ is))) (sym p) ∙ there
    ∙ ap (λ k. pre2 ++ nested_loops start join indexes (λ _ _. is) k (suc n)) q in
    let body = (inner ++ []) ++ join ∷ [] in
    let joined_up : (pre2 ++ inner) ++ join ∷ [] ≡ pre ++ (start ∷ (First n index 0 ∷ body)) =
    ap (λ l. (pre2 ++ l) ++ join ∷ []) (sym (append-nil inner)) ∙ append_assoc pre2 (inner ++ []) (join ∷ []) ∙ append_assoc pre two body in
    ap (with_end base n index (length pre)) (ap (λ l. l ++ join ∷ []) h ∙ joined_up) ∙ loop_closed base pre start n index body

-- two operands and what stands after them
pub two_drafted : (base : ℕ) (draft : List Instr) (c d : Fragment) (last : List Instr) (n : ℕ)
    → ((draft ++ c (base + length draft) n) ++ d (base + length (draft ++ c (base + length draft) n)) n) ++ last
    ≡ draft ++ operation (c ∷ d ∷ []) last (base + length draft) n
two_drafted base draft c d last n =
    sym (operation_next base draft c last (d ∷ []) n ∙ operation_next base (draft ++ c (base + length draft) n) d last [] n)
