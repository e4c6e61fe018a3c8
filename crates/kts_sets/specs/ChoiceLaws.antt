-- The laws of sets with a member.
use Rattle.std.proofs.Common.{◌≡◌, ◌≢◌, refl, sym, ◌∙◌, ap, subst, ℕ, suc, ◌<◌, ◌≤◌, inl, inr, Bool, true, false, ◌&&◌, ◌||◌, List, [], ◌∷◌, length, nat_eq, Some, None, arith}
use Rattle.std.specs.List.{filter, list_all}
use Rattle.std.proofs.lemmas.Bool.{eqb-true, eq-eqb, ne_eqb, cases_Bool, cases_lt, cases_eq, and_parts, and_from, or_cases, true≢false}
use Rattle.std.proofs.lemmas.Option.{none-some}
use Rattle.std.proofs.Math.Bool.{or-true}
use Rattle.kts_semi.specs.Semilattice.{IsSemi, IsLeast}
use Rattle.kts_sets.specs.Sets.{elem, IsSet}
use Rattle.kts_sets.specs.SetLaws.{elem-filter, IsSet-filter, same_set}
use Rattle.kts_sets.specs.Choices.{IsChoice, within, unless_empty, common}

-- ---- members of lists

elem-empty : (m : ℕ) → elem m [] ≡ false
unfolding elem
elem-empty m = refl

elem_later : (m x : ℕ) (xs : List ℕ) → elem m xs ≡ true → elem m (x ∷ xs) ≡ true
unfolding elem
elem_later m x xs e = ap (λ b. nat_eq m x || b) e ∙ or-true (nat_eq m x)

elem_head : (x : ℕ) (xs : List ℕ) → elem x (x ∷ xs) ≡ true
unfolding elem
elem_head x xs = ap (λ b. b || elem x xs) (eq-eqb x x refl)

some_elem : (xs : List ℕ) → 1 ≤ length xs → (m : ℕ) × (elem m xs ≡ true)
some_elem [] h = absurd (omega arith)
some_elem (x ∷ xs) h = (x, elem_head x xs)

-- ---- inclusion

-- each of b is in a
abbrev pub Includes : List ℕ → List ℕ → Type 0
Includes a b = (m : ℕ) → elem m b ≡ true → elem m a ≡ true

-- the test of inclusion finds included lists alone
pub within-Includes : (a b : List ℕ) → within a b ≡ true → Includes a b
unfolding elem
within-Includes a [] h m e = absurd (true≢false (sym e))
within-Includes a (x ∷ xs) h m e = let p = and_parts (elem x a) (within a xs) h in
    elim (or_cases (nat_eq m x) (elem m xs) e) [
      | inl s ↦ ap (λ k. elem k a) (eqb-true m x s) ∙ p.0
      | inr r ↦ within-Includes a xs p.1 m r
    ]

-- the test of inclusion finds each included list
pub Includes-within : (a b : List ℕ) → Includes a b → within a b ≡ true
Includes-within a [] h = refl
Includes-within a (x ∷ xs) h = and_from (elem x a) (within a xs) (h x (elem_head x xs)) (Includes-within a xs (λ m e. h m (elem_later m x xs e)))

same_Bool : (b c : Bool) → (b ≡ true → c ≡ true) → (c ≡ true → b ≡ true) → b ≡ c
same_Bool true c f g = sym (f refl)
same_Bool false true f g = g refl
same_Bool false false f g = refl

includes_both : (a b : List ℕ) → IsSet a → IsSet b → Includes a b → Includes b a → a ≡ b
includes_both a b s t f g = same_set a b s t (λ m. same_Bool (elem m a) (elem m b) (g m) (f m))

-- ---- the part that passes a test

length-filter-≤ : (p : ℕ → Bool) (xs : List ℕ) → length (filter p xs) ≤ length xs
length-filter-≤ p [] = omega arith
length-filter-≤ p (x ∷ xs) = elim (cases_Bool (p x)) [
  | inl e ↦ rw e (omega (arith, length-filter-≤ p xs))
  | inr e ↦ rw e (omega (arith, length-filter-≤ p xs))
]

nat_eq-suc : (m n : ℕ) → nat_eq (suc m) (suc n) ≡ nat_eq m n
nat_eq-suc m n = elim (cases_eq m n) [
  | inl e ↦ eq-eqb (suc m) (suc n) (ap suc e) ∙ sym (eq-eqb m n e)
  | inr e ↦ ne_eqb (suc m) (suc n) (λ s. e (omega (arith, s))) ∙ sym (ne_eqb m n e)
]

-- a filter keeps the length exactly where every element passes
pub length-filter-all : (p : ℕ → Bool) (xs : List ℕ) → nat_eq (length (filter p xs)) (length xs) ≡ list_all p xs
length-filter-all p [] = refl
length-filter-all p (x ∷ xs) = elim (cases_Bool (p x)) [
  | inl e ↦ rw e (nat_eq-suc (length (filter p xs)) (length xs) ∙ length-filter-all p xs)
  | inr e ↦ rw e (ne_eqb (length (filter p xs)) (suc (length xs)) (λ s. omega (arith, s, length-filter-≤ p xs)))
]

-- ---- what two sets share

elem-both : (a b : List ℕ) (m : ℕ) → elem m (filter (λ m. elem m b) a) ≡ (elem m b && elem m a)
elem-both a b m = elem-filter (λ m. elem m b) m a

some_is : {a b : List ℕ} → Some a ≡ Some b → a ≡ b
some_is h = ap (λ o. elim o as (λ _. List ℕ) [ Some x ↦ x | None ↦ [] ]) h

some_of : (xs c : List ℕ) → unless_empty xs ≡ Some c → (xs ≡ c) × (1 ≤ length xs)
some_of [] c e = absurd (none-some c e)
some_of (x ∷ xs) c e = (some_is e, omega arith)

none_of : (xs : List ℕ) → unless_empty xs ≡ None → xs ≡ []
none_of [] e = refl
none_of (x ∷ xs) e = absurd (none-some (x ∷ xs) (sym e))

least_common : (a b : List ℕ) → IsChoice a → 1 ≤ length (filter (λ m. elem m b) a) → IsLeast IsChoice within a b (filter (λ m. elem m b) a)
least_common a b u h = record {
  valid = record { set = IsSet-filter (λ m. elem m b) a u.set; some = h };
  left = Includes-within a (filter (λ m. elem m b) a) (λ m e. (and_parts (elem m b) (elem m a) (sym (elem-both a b m) ∙ e)).1);
  right = Includes-within b (filter (λ m. elem m b) a) (λ m e. (and_parts (elem m b) (elem m a) (sym (elem-both a b m) ∙ e)).0);
  least = λ d v k l. Includes-within (filter (λ m. elem m b) a) d (λ m e. elem-both a b m ∙ and_from (elem m b) (elem m a) (within-Includes b d l m e) (within-Includes a d k m e));
}

elem-included : (a b : List ℕ) → Includes a b → (m : ℕ) → elem m b ≡ elem m (filter (λ m. elem m b) a)
elem-included a b h m = same_Bool (elem m b) (elem m (filter (λ m. elem m b) a))
    (λ e. elem-both a b m ∙ and_from (elem m b) (elem m a) e (h m e))
    (λ e. (and_parts (elem m b) (elem m a) (sym (elem-both a b m) ∙ e)).0)

falls_within : (a b : List ℕ) → IsChoice a → IsChoice b → Includes a b → a ≢ b → length b < length a
falls_within a b u v h n =
    let e : b ≡ filter (λ m. elem m b) a = same_set b (filter (λ m. elem m b) a) v.set (IsSet-filter (λ m. elem m b) a u.set) (elem-included a b h) in
    elim (cases_lt (length b) (length a)) [
      | inl l ↦ l
      | inr l ↦
          let whole : length (filter (λ m. elem m b) a) ≡ length a = omega (arith, ap length e, length-filter-≤ (λ m. elem m b) a) in
          absurd (n (includes_both a b u.set v.set h (within-Includes b a (sym (length-filter-all (λ m. elem m b) a) ∙ eq-eqb (length (filter (λ m. elem m b) a)) (length a) whole))))
    ]

pub choice_laws : IsSemi IsChoice within common length
choice_laws = record {
  reflexive = λ a v. Includes-within a a (λ m e. e);
  transitive = λ a b c u v w h k. Includes-within a c (λ m e. within-Includes a b h m (within-Includes b c k m e));
  antisymmetric = λ a b u v h k. includes_both a b u.set v.set (within-Includes a b h) (within-Includes b a k);
  some = λ a b c u v e. let s = some_of (filter (λ m. elem m b) a) c e in subst (IsLeast IsChoice within a b) s.0 (least_common a b u s.1);
  none = λ a b c u v e w h k. let f = some_elem c w.some in
      true≢false (sym (elem-both a b f.0 ∙ and_from (elem f.0 b) (elem f.0 a) (within-Includes b c k f.0 f.1) (within-Includes a c h f.0 f.1)) ∙ ap (elem f.0) (none_of (filter (λ m. elem m b) a) e) ∙ elem-empty f.0);
  positive = λ a v. v.some;
  falls = λ a b u v h n. falls_within a b u v (within-Includes a b h) n;
}
