-- Ranges of several whole numbers.
use Rattle.std.proofs.Common.{◌≡◌, refl, sym, ◌∙◌, ap, ℕ, suc, ◌+◌, ◌<◌, ◌≤◌, ◌^◌, ℤ, ◌+ℤ◌, add-one, List, [], ◌∷◌, length, drop, get_or, Bool, true, false, ◌&&◌, Option, None, Some, to_z, of_z}
use Rattle.std.proofs.Math.Seq.{drop-cons}
use Rattle.std.proofs.lemmas.List.{drop_all}
use Rattle.std.proofs.lemmas.Int.{to_z-of_z}
use mir.Syntax.{w128}
use lib.Signed.{mag}
use Rattle.kts_spec.specs.Ranges.{Range, sum_range}
use Rattle.kts_check.specs.Measures.{total_from, is_member, are_members}
use Rattle.kts_check.specs.declared.kind.Kind.{Kind}
use Rattle.kts_check.specs.declared.kind.Kind.TheVariants.{Whole, Member}

pub pairs : {A B : Type 0} (a c : A) (b d : B) → a ≡ c → b ≡ d → ◌≡◌ {A = A × B} (a, b) (c, d)
pairs a c b d p q = cc

-- a number of 128 bits that was kept as its bits
pub kept : (z : ℤ) → mag z < 2 ^ 127 → to_z w128 (of_z w128 z) ≡ z
kept z h = to_z-of_z w128 z (record { sfits = h })

total_here : (r : Range) (ks : List Kind) (i : ℕ) (z : Kind) → i < length ks → total_from r (drop i ks) ≡ total_from r (get_or ks i z ∷ drop (i + 1) ks)
total_here r ks i z h = ap (total_from r) (drop-cons ks i z h) ∙ rw add-one refl

pub total_none : (r : Range) (ks : List Kind) (i j : ℕ) (z : Kind) (whole : Option Range) → i < length ks → get_or ks i z ≡ Member j → total_from r (drop i ks) ≡ whole → None ≡ whole
total_none r ks i j z whole h is so_far =
    let here : total_from r (drop i ks) ≡ None = total_here r ks i z h ∙ ap (λ (k : Kind). total_from r (k ∷ drop (i + 1) ks)) is in sym here ∙ so_far

pub total_on : (r : Range) (ks : List Kind) (i : ℕ) (low high a b : ℤ) (z : Kind) (whole : Option Range) → i < length ks → get_or ks i z ≡ Whole low high → a ≡ r.0 +ℤ low → b ≡ r.1 +ℤ high → total_from r (drop i ks) ≡ whole
    → total_from (a, b) (drop (i + 1) ks) ≡ whole
total_on r ks i low high a b z whole h is p q so_far =
    let here : total_from r (drop i ks) ≡ total_from (sum_range r (low, high)) (drop (i + 1) ks) = total_here r ks i z h ∙ ap (λ (k : Kind). total_from r (k ∷ drop (i + 1) ks)) is in
    ap (λ (s : Range). total_from s (drop (i + 1) ks)) (pairs a (r.0 +ℤ low) b (r.1 +ℤ high) p q) ∙ sym here ∙ so_far

pub total_end : (r : Range) (ks : List Kind) (i : ℕ) (whole : Option Range) → length ks ≤ i → total_from r (drop i ks) ≡ whole → Some r ≡ whole
total_end r ks i whole h so_far = sym (ap (total_from r) (drop_all i ks h)) ∙ so_far

members_here : (is : List ℕ) (ks : List Kind) (n z : ℕ) (w : Kind) → n < length is → n < length ks
    → are_members (drop n is) (drop n ks) ≡ (is_member (get_or is n z) (get_or ks n w) && are_members (drop (n + 1) is) (drop (n + 1) ks))
unfolding are_members
members_here is ks n z w h l =
    ap (λ (xs : List ℕ). are_members xs (drop n ks)) (drop-cons is n z h) ∙ ap (are_members (get_or is n z ∷ drop (suc n) is)) (drop-cons ks n w l) ∙ rw add-one refl

pub members_fail : (is : List ℕ) (ks : List Kind) (n z : ℕ) (w : Kind) (r whole : Bool) → n < length is → n < length ks → r ≡ is_member (get_or is n z) (get_or ks n w) → r ≡ false
    → are_members (drop n is) (drop n ks) ≡ whole → false ≡ whole
members_fail is ks n z w r whole h l made not so_far =
    let here : are_members (drop n is) (drop n ks) ≡ false = members_here is ks n z w h l ∙ rw (← made, not) refl in sym here ∙ so_far

pub members_on : (is : List ℕ) (ks : List Kind) (n z : ℕ) (w : Kind) (r whole : Bool) → n < length is → n < length ks → r ≡ is_member (get_or is n z) (get_or ks n w) → r ≡ true
    → are_members (drop n is) (drop n ks) ≡ whole → are_members (drop (n + 1) is) (drop (n + 1) ks) ≡ whole
members_on is ks n z w r whole h l made met so_far =
    let here : are_members (drop n is) (drop n ks) ≡ are_members (drop (n + 1) is) (drop (n + 1) ks) = members_here is ks n z w h l ∙ rw (← made, met) refl in sym here ∙ so_far

pub members_end : (is : List ℕ) (ks : List Kind) (n : ℕ) (whole : Bool) → length is ≤ n → length ks ≤ n → are_members (drop n is) (drop n ks) ≡ whole → true ≡ whole
unfolding are_members
members_end is ks n whole h l so_far =
    let here : are_members (drop n is) (drop n ks) ≡ true = ap (λ (xs : List ℕ). are_members xs (drop n ks)) (drop_all n is h) ∙ ap (are_members []) (drop_all n ks l) in sym here ∙ so_far
