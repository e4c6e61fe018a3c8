-- What is drafted of a body, piece by piece.
use Rattle.std.proofs.Common.{◌≡◌, ℕ, zero, suc, ◌+◌, ◌-◌, ◌^◌, ◌≤◌, min, take, drop, List, [], ◌∷◌, ◌++◌, length, map, refl, sym, ap, ◌∙◌, arith, append_assoc, append-nil, length-append}
use Rattle.kts_base.specs.Limits.{most_instructions}
use Rattle.kts_clause.specs.declared.literal.Literal.{Literal}
use Rattle.kts_code.specs.declared.instructions.Instr.{Instr}
use Rattle.kts_plan.specs.Constraints.{Constraint}
use Rattle.kts_plan.specs.Heads.{all_but}
use Rattle.kts_emit.specs.Fragments.{Fragment, sequence, operation, chain_rest}
use Rattle.kts_emit.specs.Bodies.{followed, body_code}
use Rattle.kts_emit.specs.BodyWeights.{length_of_body}
use Rattle.kts_emit.specs.Weights.{chain_rest_weight}
use Rattle.kts_emit.proofs.EmittedCode.{room_for}
use Rattle.kts_emit.proofs.LongBodies.{bodies_have_length}

-- the items before one and those behind it
pub all_but_is : {X : Type 0} (k : ℕ) (xs : List X) → all_but k xs ≡ take k xs ++ drop (suc k) xs
all_but_is zero [] = refl
all_but_is (suc k) [] = refl
all_but_is zero (x ∷ xs) = refl
all_but_is (suc k) (x ∷ xs) = ap (λ l. x ∷ l) (all_but_is k xs)

-- one fragment and then another, each for its place
pub followed_drafted : (base : ℕ) (draft : List Instr) (code next : Fragment) (n : ℕ)
    → (draft ++ code (base + length draft) n) ++ next (base + length (draft ++ code (base + length draft) n)) n
    ≡ draft ++ followed code next (base + length draft) n
followed_drafted base draft code next n =
    let is = code (base + length draft) n in
    let place : base + length (draft ++ is) ≡ base + length draft + length is = omega (arith, length-append draft is) in
    ap (λ p. (draft ++ is) ++ next p n) place ∙ append_assoc draft is (next (base + length draft + length is) n)

-- codes that an instruction follows, and others
chain_rest-append : (i : Instr) (cs bs : List Fragment) (p n : ℕ)
    → chain_rest i (cs ++ bs) p n ≡ followed (chain_rest i cs) (chain_rest i bs) p n
chain_rest-append i [] bs p n = let e : p ≡ p + 0 = omega arith in ap (λ q. chain_rest i bs q n) e
chain_rest-append i (a ∷ cs) bs p n =
    let is = a p n in
    let q = p + length is + 1 in
    let rest = chain_rest i cs q n in
    let e : q + length rest ≡ p + length (is ++ i ∷ rest) = omega (arith, length-append is (i ∷ rest)) in
    ap (λ l. is ++ i ∷ l) (chain_rest-append i cs bs q n) ∙ ap (λ x. is ++ i ∷ (rest ++ chain_rest i bs x n)) e
    ∙ sym (append_assoc is (i ∷ rest) (chain_rest i bs (p + length (is ++ i ∷ rest)) n))

map-parts : {X Y : Type 0} (f : X → Y) (cs bs : List X) → map f (cs ++ bs) ≡ map f cs ++ map f bs
map-parts f [] bs = refl
map-parts f (a ∷ cs) bs = ap (λ l. f a ∷ l) (map-parts f cs bs)

-- the codes of the literals but for one
pub others_drafted : (i : Instr) (code : Literal → Fragment) (base : ℕ) (draft first second : List Instr) (ls before behind : List Literal) (k n : ℕ)
    → before ≡ take k ls → behind ≡ drop (suc k) ls → first ≡ draft ++ chain_rest i (map code before) (base + length draft) n
    → second ≡ first ++ chain_rest i (map code behind) (base + length first) n
    → second ≡ draft ++ chain_rest i (map code (all_but k ls)) (base + length draft) n
others_drafted i code base draft first second ls before behind k n b a f s =
    let front = chain_rest i (map code before) in
    let back = chain_rest i (map code behind) in
    let p = base + length draft in
    let parts : map code (all_but k ls) ≡ map code before ++ map code behind =
    ap (map code) (all_but_is k ls ∙ ap (λ l. l ++ drop (suc k) ls) (sym b) ∙ ap (λ l. before ++ l) (sym a)) ∙ map-parts code before behind in
    s ∙ ap (λ l. l ++ back (base + length l) n) f ∙ followed_drafted base draft front back n
    ∙ ap (λ l. draft ++ l) (sym (ap (λ codes. chain_rest i codes p n) parts ∙ chain_rest-append i (map code before) (map code behind) p n))

-- one operand more
sequence-append : (cs : List Fragment) (c : Fragment) (p n : ℕ) → sequence (cs ++ c ∷ []) p n ≡ followed (sequence cs) c p n
sequence-append [] c p n = let e : p ≡ p + 0 = omega arith in append-nil (c p n) ∙ ap (λ q. c q n) e
sequence-append (d ∷ cs) c p n =
    let is = d p n in
    let q = p + length is in
    let rest = sequence cs q n in
    let e : q + length rest ≡ p + length (is ++ rest) = omega (arith, length-append is rest) in
    ap (λ l. is ++ l) (sequence-append cs c q n) ∙ ap (λ x. is ++ (rest ++ c x n)) e
    ∙ sym (append_assoc is rest (c (p + length (is ++ rest)) n))

-- operands, one more, and two instructions behind them
pub head_drafted : (base : ℕ) (draft : List Instr) (cs : List Fragment) (c : Fragment) (x y : Instr) (n : ℕ)
    → (((draft ++ sequence cs (base + length draft) n) ++ c (base + length (draft ++ sequence cs (base + length draft) n)) n) ++ x ∷ []) ++ y ∷ []
    ≡ draft ++ operation (cs ++ c ∷ []) (x ∷ (y ∷ [])) (base + length draft) n
head_drafted base draft cs c x y n =
    let p = base + length draft in
    let all = followed (sequence cs) c p n in
    ap (λ l. (l ++ x ∷ []) ++ y ∷ []) (followed_drafted base draft (sequence cs) c n) ∙ append_assoc (draft ++ all) (x ∷ []) (y ∷ [])
    ∙ append_assoc draft all (x ∷ (y ∷ [])) ∙ ap (λ l. draft ++ (l ++ (x ∷ (y ∷ [])))) (sym (sequence-append cs c p n))

-- a body that was counted fits
pub body_fits : (draft : List Instr) (c : Constraint) (done fail used vars count : ℕ) → draft ≡ body_code c done fail used vars
    → count ≡ min (length_of_body c) (2 ^ 64 - 1) → used + count ≤ most_instructions → used + length draft ≤ most_instructions
body_fits draft c done fail used vars count e counted fits =
    let long = ap length e ∙ bodies_have_length c done fail used vars in
    let room = room_for used count (length_of_body c) counted fits in
    omega arith

chain_rest_weight-append : (cs bs : List ℕ) → chain_rest_weight (cs ++ bs) ≡ chain_rest_weight cs + chain_rest_weight bs
chain_rest_weight-append [] bs = omega arith
chain_rest_weight-append (a ∷ cs) bs = omega (arith, chain_rest_weight-append cs bs)

-- the length of the literals but for one
pub others_counted : (weight : Literal → ℕ) (k : ℕ) (ls before behind : List Literal) → before ≡ take k ls → behind ≡ drop (suc k) ls
    → chain_rest_weight (map weight (all_but k ls)) ≡ chain_rest_weight (map weight before) + chain_rest_weight (map weight behind)
others_counted weight k ls before behind b a =
    ap (λ l. chain_rest_weight (map weight l)) (all_but_is k ls ∙ ap (λ l. l ++ drop (suc k) ls) (sym b) ∙ ap (λ l. before ++ l) (sym a))
    ∙ ap chain_rest_weight (map-parts weight before behind) ∙ chain_rest_weight-append (map weight before) (map weight behind)
