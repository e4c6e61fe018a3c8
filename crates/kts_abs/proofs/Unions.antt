-- Unions of sets.
use Rattle.std.proofs.Common.{◌≡◌, ◌≢◌, refl, sym, ◌∙◌, ap, ⊎_elim, false, ◌||◌, ℕ, ◌<◌, ◌≤◌, Some, List, [], ◌∷◌, arith}
use Rattle.std.proofs.lemmas.Bool.{or_cases, or_left, or_right, cases_lt, true≢false}
use Rattle.kts_sets.specs.Sets.{limit, set_of, elem, IsSet}
use Rattle.kts_sets.specs.SetLaws.{elem-set, elem-set_out}
use Rattle.kts_sets.specs.Choices.{IsChoice, unless_empty}
use Rattle.kts_abs.specs.Abstraction.{Finer}
use Rattle.kts_abs.specs.Members.{has_member, union_of}
use Rattle.kts_abs.specs.MemberLaws.{elem-head}

-- no member of a set reaches the limit
set_below : (a : List ℕ) (m : ℕ) → IsSet a → limit ≤ m → elem m a ≡ false
set_below a m s l = ap (elem m) s.is ∙ elem-set_out (λ m. elem m a) m l

-- a union has the members of either
pub elem-union : (a b : List ℕ) (m : ℕ) → IsSet a → IsSet b → elem m (union_of a b) ≡ (elem m a || elem m b)
elem-union a b m s t =
    ⊎_elim
    (λ (l : m < limit). elem-set (λ m. elem m a || elem m b) m l)
    (λ (l : limit ≤ m). elem-set_out (λ m. elem m a || elem m b) m l ∙ sym (rw (set_below a m s l, set_below b m t l) refl))
    (cases_lt m limit)

-- the union of sets with a member has one
pub union_some : (a b : List ℕ) → IsChoice a → IsChoice b → union_of a b ≢ []
unfolding elem
union_some [] b u v e = omega (arith, u.some)
union_some (m ∷ a) b u v e =
    let h = elem-union (m ∷ a) b m u.set v.set ∙ or_left (elem m (m ∷ a)) (elem m b) (elem-head m a) in
    true≢false (sym h ∙ ap (elem m) e)

-- the union of sets, each of which has a member
pub union_within : (a b c d : List ℕ) → IsChoice a → IsChoice b → IsChoice c → IsChoice d → Finer has_member a c → Finer has_member b d → Finer has_member (union_of a b) (union_of c d)
union_within a b c d u v w x h k = record {
  witness = h.witness;
  allowed = elem-union a b h.witness u.set v.set ∙ or_left (elem h.witness a) (elem h.witness b) h.allowed;
  within = λ m e. elem-union c d m w.set x.set ∙ ⊎_elim
      (λ i. or_left (elem m c) (elem m d) (h.within m i))
      (λ i. or_right (elem m c) (elem m d) (k.within m i))
      (or_cases (elem m a) (elem m b) (sym (elem-union a b m u.set v.set) ∙ e));
}

-- the same union where the sets came through calls
pub union-at : (a b s t joined : List ℕ) → joined ≡ set_of (λ m. elem m s || elem m t) → s ≡ a → t ≡ b → joined ≡ union_of a b
union-at a b s t joined e i j = e ∙ ap (λ z. set_of (λ m. elem m z || elem m t)) i ∙ ap (λ z. set_of (λ m. elem m a || elem m z)) j

-- what was chosen is the set
pub chosen : (ms ns : List ℕ) → Some ns ≡ unless_empty ms → ns ≡ ms
chosen [] ns e = cc
chosen (m ∷ ms) ns e = cc
