-- What the checker's tests say in the terms of the typing rules, and the other way round.
use Rattle.std.proofs.Common.{◌≡◌, ◌≢◌, refl, sym, ◌∙◌, ap, subst, ℕ, suc, ◌+◌, ℤ, int_le, List, [], ◌∷◌, Bool, true, false, ◌&&◌, ◌||◌, Option, None, Some, is_some, if◌then◌else◌, arith}
use Rattle.std.specs.Prelude.{pos, neg_ℤ}
use Rattle.std.proofs.lemmas.Bool.{and_parts, and_from, both_ways}
use Rattle.std.proofs.lemmas.Slice.Eq.{bytes_eq-Decides}
use Rattle.kts_spec.specs.Names.{same_name}
use Rattle.kts_spec.specs.Ranges.{Range}
use Rattle.kts_spec.specs.Typing.{Kind as KindOf, Whole as WholeOf, MemberOf, kind_of_type}
use Rattle.kts_spec.specs.declared.declarations.ValueType.{ValueType}
use Rattle.kts_spec.specs.declared.declarations.ValueType.TheVariants as type
use Rattle.kts_base.specs.Limits.{most_number, most_prefix}
use Rattle.kts_check.specs.Measures.{is_limited, kind_of}
use Rattle.kts_check.specs.Contexts.{has_room, further}
use Rattle.kts_check.specs.Rules.{IsVariable, IsNoVariable, IsLimited, HasLimitedEnds, Way, past, HasRoom}
use Rattle.kts_check.specs.Scopes.{Scope, variable_from}
use Rattle.kts_check.specs.declared.entry.Entry.{Entry}
use Rattle.kts_check.specs.declared.kind.Kind.{Kind}
use Rattle.kts_check.specs.declared.kind.Kind.TheVariants.{Whole, Member}
use Rattle.kts_check.proofs.Inversions.{some_is}
use Rattle.kts_base.proofs.Orders.{nat_lt_yes, yes_nat_lt, int_le_yes, yes_int_le}

small_if : (n : ℤ) → is_limited n ≡ true → IsLimited n
small_if n e =
    let both = and_parts (int_le (neg_ℤ (pos most_number)) n) (int_le n (pos most_number)) e in
    record { low = int_le_yes (neg_ℤ (pos most_number)) n both.0; high = int_le_yes n (pos most_number) both.1 }

small_then : (n : ℤ) → IsLimited n → is_limited n ≡ true
small_then n s = and_from (int_le (neg_ℤ (pos most_number)) n) (int_le n (pos most_number)) (yes_int_le (neg_ℤ (pos most_number)) n s.low) (yes_int_le n (pos most_number) s.high)

pub within_if : (w : Range) → (is_limited w.0 && is_limited w.1) ≡ true → HasLimitedEnds w
within_if w e = let both = and_parts (is_limited w.0) (is_limited w.1) e in record { least = small_if w.0 both.0; greatest = small_if w.1 both.1 }

pub within_then : (w : Range) → HasLimitedEnds w → (is_limited w.0 && is_limited w.1) ≡ true
within_then w s = and_from (is_limited w.0) (is_limited w.1) (small_then w.0 s.least) (small_then w.1 s.greatest)

-- ---- names

name_is : (a b : List ℕ) → same_name a b ≡ true → a ≡ b
name_is a b e = (bytes_eq-Decides a b).0 e

name_itself : (a : List ℕ) → same_name a a ≡ true
name_itself a = (bytes_eq-Decides a a).1 refl

pub other_if : (a b : List ℕ) → same_name a b ≡ false → a ≢ b
other_if a b e same = both_ways (same_name a b) e ((bytes_eq-Decides a b).1 same)

pub other_then : (a b : List ℕ) → a ≢ b → same_name a b ≡ false
other_then a b other = by (same_name a b) refl
  where
    by : (t : Bool) → same_name a b ≡ t → t ≡ false
    by true e = absurd (other (name_is a b e))
    by false e = refl

pub free_if : {A : Type 0} (a : Option Entry) (b : Bool) (c : Option A) → (is_some a || b || is_some c) ≡ false → (a ≡ None) × (b ≡ false) × (c ≡ None)
free_if (Some x) b c e = absurd cc
free_if None true c e = absurd cc
free_if None false (Some x) e = absurd cc
free_if None false None e = (refl, refl, refl)

pub free_then : {A : Type 0} (a : Option Entry) (b : Bool) (c : Option A) → a ≡ None → b ≡ false → c ≡ None → (is_some a || b || is_some c) ≡ false
free_then a b c p q r = rw (p, q, r) refl

-- ---- variables

pub variable_if : (scope : Scope) (name : List ℕ) (j n i : ℕ) → variable_from j scope name ≡ Some (n, i) → (k : ℕ) × (n ≡ j + k) × IsVariable scope name k i
variable_if [] name j n i e = absurd cc
variable_if ((other, x) ∷ scope) name j n i e = by (same_name other name) refl (variable_if scope name (suc j) n i) e
  where
    by : (b : Bool) → same_name other name ≡ b → (variable_from (suc j) scope name ≡ Some (n, i) → (k : ℕ) × (n ≡ suc j + k) × IsVariable scope name k i) → (if b then Some (j, x) else variable_from (suc j) scope name) ≡ Some (n, i) → (k : ℕ) × (n ≡ j + k) × IsVariable ((other, x) ∷ scope) name k i
    by true is more e =
        let same = name_is other name is in
        let pair = some_is (j, x) (n, i) e in
        let number : j ≡ n = ap (λ (p : ℕ × ℕ). p.0) pair in
        let index : x ≡ i = ap (λ (p : ℕ × ℕ). p.1) pair in
        (0, sym number ∙ (omega arith), subst (λ (y : ℕ). IsVariable ((other, x) ∷ scope) name 0 y) index (subst (λ (m : List ℕ). IsVariable ((other, x) ∷ scope) m 0 x) same IsVariable.first))
    by false is more e =
        let there = more e in
        let number = there.1 in
        (suc there.0, omega arith, IsVariable.later (other_if other name is) there.2)

pub variable_then : {scope : Scope} {name : List ℕ} {k i : ℕ} → IsVariable scope name k i → (j : ℕ) → variable_from j scope name ≡ Some (j + k, i)
variable_then (IsVariable.first {name = name} {i = i} {scope = scope}) j = rw (name_itself name) (ap (λ (n : ℕ). Some (n, i)) (omega arith))
variable_then (IsVariable.later {other = other} {name = name} {k = k} {i = i} h more) j = rw (other_then other name h) (variable_then more (suc j) ∙ ap (λ (n : ℕ). Some (n, i)) (omega arith))

pub unbound_if : (scope : Scope) (name : List ℕ) (j : ℕ) → variable_from j scope name ≡ None → IsNoVariable scope name
unbound_if [] name j e = tt
unbound_if ((other, x) ∷ scope) name j e = by (same_name other name) refl (unbound_if scope name (suc j)) e
  where
    by : (b : Bool) → same_name other name ≡ b → (variable_from (suc j) scope name ≡ None → IsNoVariable scope name) → (if b then Some (j, x) else variable_from (suc j) scope name) ≡ None → IsNoVariable ((other, x) ∷ scope) name
    by true is more e = absurd cc
    by false is more e = (other_if other name is, more e)

pub unbound_then : (scope : Scope) (name : List ℕ) (j : ℕ) → IsNoVariable scope name → variable_from j scope name ≡ None
unbound_then [] name j h = refl
unbound_then ((other, x) ∷ scope) name j h = rw (other_then other name h.0) (unbound_then scope name (suc j) h.1)

-- ---- the way

pub room_if : (way : Way) → has_room way ≡ true → HasRoom way
room_if None e n is = absurd cc
room_if (Some k) e n is = let same = some_is k n is in let low = nat_lt_yes k most_prefix e in omega arith

pub room_then : (way : Way) → HasRoom way → has_room way ≡ true
room_then None h = refl
room_then (Some k) h = yes_nat_lt k most_prefix (h k refl)

pub past_one : (way : Way) → further way ≡ past way 1
past_one None = refl
past_one (Some k) = refl

pub past_none : (way : Way) → past way 0 ≡ way
past_none None = refl
past_none (Some k) = ap Some (omega arith)

pub past_more : (way : Way) (n : ℕ) → past (past way 1) n ≡ past way (suc n)
past_more None n = refl
past_more (Some k) n = ap Some (omega arith)

-- ---- kinds

-- a kind as the checker has it
abbrev pub kind_back : KindOf → Kind
kind_back (WholeOf w) = Whole w.0 w.1
kind_back (MemberOf i) = Member i

pub type_back : (t : ValueType) → kind_back (kind_of_type t) ≡ kind_of t
unfolding kind_of
type_back (type.Int low high) = refl
type_back (type.Member i) = refl
