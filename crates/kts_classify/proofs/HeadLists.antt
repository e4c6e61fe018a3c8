-- The heads of the addends of a sum, in order, and the rest of an addend.
use Rattle.std.proofs.Common.{◌≡◌, refl, sym, ap, ◌∙◌, subst, ℕ, zero, suc, ◌+◌, ◌<◌, List, [], ◌∷◌, ◌++◌, length, map, take, drop, get_or, Bool, true, false, not, Some, None, arith, ◌-◌, length-drop}
use Rattle.std.specs.Prelude.{flat_map}
use Rattle.std.specs.List.{enumerate_from}
use Rattle.std.proofs.lemmas.List.{map-append, take_more, append-nil}
use Rattle.std.proofs.lemmas.List.FromFn.{length-enumerate_from, get_or-enumerate_from}
use Rattle.std.proofs.lemmas.Grind.{flat_map-append}
use Rattle.kts_spec.specs.Addends.{Addend}
use Rattle.kts_spec.specs.declared.tree.Term.{Term}
use Rattle.kts_abs.specs.declared.demand.Op.{Op}
use Rattle.kts_abs.specs.declared.demand.Op.TheVariants.{AtLeast, AtMost}
use Rattle.kts_spec.specs.Reads.{Access}
use Rattle.kts_plan.specs.BareAccesses.{bare}
use Rattle.kts_plan.specs.Heads.{all_but, op_below, rest}
use Rattle.kts_plan.specs.declared.bound.Bound.{Bound}
use Rattle.kts_plan.specs.declared.bound.Bound.TheVariants.{Rest}
use Rattle.kts_plan.specs.declared.head.Head.{Head}
use Rattle.kts_classify.specs.HeadPlaces.{heads_in_sum}
use Rattle.kts_classify.specs.SignedTerms.{sign_of, signed_as}

drop_none : {X : Type 0} (n : ℕ) → drop {A = X} n [] ≡ []
drop_none zero = refl
drop_none (suc n) = refl

-- the other items are those before and those after
pub all_but_is : {X : Type 0} (k : ℕ) (xs : List X) → all_but k xs ≡ take k xs ++ drop (k + 1) xs
all_but_is zero [] = sym (drop_none (0 + 1))
all_but_is (suc k) [] = sym (drop_none (suc k + 1))
all_but_is zero (x ∷ xs) = refl
all_but_is (suc k) (x ∷ xs) =
    let n : suc (k + 1) ≡ suc k + 1 = omega arith in
    ap (λ l. x ∷ l) (all_but_is k xs) ∙ ap (λ m. take (suc k) (x ∷ xs) ++ drop m (x ∷ xs)) n

pub all_but_map : {X Y : Type 0} (f : X → Y) (k : ℕ) (xs : List X) → all_but k (map f xs) ≡ map f (all_but k xs)
all_but_map f zero [] = refl
all_but_map f (suc k) [] = refl
all_but_map f zero (x ∷ xs) = refl
all_but_map f (suc k) (x ∷ xs) = ap (λ l. f x ∷ l) (all_but_map f k xs)

-- the bound of an addend is the other addends, of its sign where it is taken away, else of the other sign
pub rest_is : (m : Bool) (others : List Addend) → rest (sign_of m) others ≡ Rest (map (signed_as (not m)) others)
rest_is true others = refl
rest_is false others = refl

-- the items that a numbered list gives so far
pub numbered_more : {X Y : Type 0} (f : ℕ × X → List Y) (xs : List X) (k : ℕ) (d : X) → k < length xs
    → flat_map f (take (k + 1) (enumerate_from 0 xs)) ≡ flat_map f (take k (enumerate_from 0 xs)) ++ f (k, get_or xs k d)
numbered_more f xs k d lt =
    let long : k < length (enumerate_from 0 xs) = subst (λ n. k < n) (sym (length-enumerate_from 0 xs)) lt in
    let zero_more : 0 + k ≡ k = omega arith in
    ap (flat_map f) (take_more (enumerate_from 0 xs) k (0, d) long) ∙ flat_map-append f (take k (enumerate_from 0 xs)) (get_or (enumerate_from 0 xs) k (0, d) ∷ [])
    ∙ ap (λ l. flat_map f (take k (enumerate_from 0 xs)) ++ l)
    (append-nil (f (get_or (enumerate_from 0 xs) k (0, d))) ∙ ap f (get_or-enumerate_from 0 xs k (0, d) lt ∙ ap (λ n. (n, get_or xs k d)) zero_more))

-- the same where the item is known
pub numbered_step : {X Y : Type 0} (f : ℕ × X → List Y) (xs : List X) (k : ℕ) (x : X) → k < length xs → x ≡ get_or xs k x
    → flat_map f (take (k + 1) (enumerate_from 0 xs)) ≡ flat_map f (take k (enumerate_from 0 xs)) ++ f (k, x)
numbered_step f xs k x lt is = numbered_more f xs k x lt ∙ ap (λ y. flat_map f (take k (enumerate_from 0 xs)) ++ f (k, y)) (sym is)

take_all_of : {X : Type 0} (xs : List X) (n : ℕ) → n ≡ length xs → take n xs ≡ xs
take_all_of [] zero e = refl
take_all_of [] (suc n) e = absurd (omega arith)
take_all_of (x ∷ xs) zero e = absurd (omega arith)
take_all_of (x ∷ xs) (suc n) e = ap (λ l. x ∷ l) (take_all_of xs n (omega arith))

-- all of them
pub numbered_all : {X Y : Type 0} (f : ℕ × X → List Y) (xs : List X) (n : ℕ) → n ≡ length xs → flat_map f (take n (enumerate_from 0 xs)) ≡ flat_map f (enumerate_from 0 xs)
numbered_all f xs n e = ap (flat_map f) (take_all_of (enumerate_from 0 xs) n (e ∙ sym (length-enumerate_from 0 xs)))

-- ---- the heads of one addend

pub at_map : {X Y : Type 0} (f : X → Y) (xs : List X) (k : ℕ) (x : X) (d : Y) → k < length xs → x ≡ get_or xs k x → get_or (map f xs) k d ≡ f x
at_map f [] k x d lt e = absurd (omega arith)
at_map f (y ∷ xs) zero x d lt e = ap f (sym e)
at_map f (y ∷ xs) (suc k) x d lt e = at_map f xs k x d (omega arith) e

pub no_heads : (zero : Bool) (a : Addend) (others : List Addend) → bare a.term ≡ None → heads_in_sum zero a others ≡ []
no_heads true a others e = rw e refl
no_heads false a others e = rw e refl

-- the head of an access
abbrev pub head_with : Op → Bound → Access → Head
head_with op bound access = record { choice = access.0; args = access.1; op = op; bound = bound }

pub one_head : (a : Addend) (others : List Addend) (access : Access) → bare a.term ≡ Some access → heads_in_sum false a others ≡ head_with (op_below a.sign) (rest a.sign others) access ∷ []
one_head a others access e = rw e refl

pub two_heads : (a : Addend) (others : List Addend) (access : Access) → bare a.term ≡ Some access
    → heads_in_sum true a others ≡ head_with AtLeast (rest a.sign others) access ∷ head_with AtMost (rest a.sign others) access ∷ []
two_heads a others access e = rw e refl

-- ---- the other addends

maps : {X Y Z : Type 0} (g : Y → Z) (f : X → Y) (xs : List X) → map g (map f xs) ≡ map (λ x. g (f x)) xs
maps g f [] = refl
maps g f (x ∷ xs) = ap (λ l. g (f x) ∷ l) (maps g f xs)

pub others_signed : {X : Type 0} (f : X → Addend) (m : Bool) (k : ℕ) (xs : List X) (none first all : List (Bool × Term)) → none ≡ []
    → first ≡ none ++ map (λ x. signed_as m (f x)) (take k xs) → all ≡ first ++ map (λ x. signed_as m (f x)) (take (length xs - (k + 1)) (drop (k + 1) xs))
    → all ≡ map (signed_as m) (all_but k (map f xs))
others_signed f m k xs none first all e h g =
    let last : take (length xs - (k + 1)) (drop (k + 1) xs) ≡ drop (k + 1) xs = take_all_of (drop (k + 1) xs) (length xs - (k + 1)) (sym (length-drop (k + 1) xs)) in
    g ∙ ap (λ l. l ++ map (λ x. signed_as m (f x)) (take (length xs - (k + 1)) (drop (k + 1) xs))) (h ∙ ap (λ l. l ++ map (λ x. signed_as m (f x)) (take k xs)) e)
    ∙ ap (λ l. map (λ x. signed_as m (f x)) (take k xs) ++ map (λ x. signed_as m (f x)) l) last
    ∙ sym (ap (map (signed_as m)) (all_but_map f k xs ∙ ap (map f) (all_but_is k xs)) ∙ maps (signed_as m) f (take k xs ++ drop (k + 1) xs) ∙ map-append (λ x. signed_as m (f x)) (take k xs) (drop (k + 1) xs))
