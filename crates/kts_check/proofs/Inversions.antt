-- What a judgement that gave a value was made of.
use Rattle.std.proofs.Common.{◌≡◌, refl, ap, ℕ, List, [], ◌∷◌, Bool, true, false, ◌&&◌, if◌then◌else◌, Option, None, Some, Ok, Err}
use Rattle.std.proofs.lemmas.Bool.{and_parts, and_from}
use Rattle.std.specs.Prelude.{pos, int_le, neg_ℤ}
use Rattle.kts_base.specs.Reads.{and_then}
use Rattle.kts_base.specs.Limits.{most_number}
use Rattle.kts_spec.specs.Ranges.{Range, is_bounded}
use Rattle.kts_spec.specs.Typing.{whole_within, Whole as WholeOf, MemberOf, Kind as KindOf}
use Rattle.kts_spec.specs.declared.tree.Term.{Term}
use Rattle.kts_check.specs.Faults.{Judged}
use Rattle.kts_check.specs.Measures.{is_limited, limited_term}
use Rattle.kts_check.specs.Contexts.{reference, Context, plain_context, reference_context}
use Rattle.kts_check.specs.Scopes.{Scope}
use Rattle.kts_check.specs.Trees.{only, both}
use Rattle.kts_check.specs.declared.entry.Entry.{Entry}
use Rattle.kts_check.specs.declared.entry.Entry.TheVariants as entry
use Rattle.kts_check.specs.Faults.{SpecFault}
use Rattle.kts_check.specs.declared.kind.Kind.{Kind}
use Rattle.kts_check.specs.declared.kind.Kind.TheVariants.{Whole, Member}
use Rattle.kts_check.specs.declared.phrase.Phrase.{Phrase}
use Rattle.kts_check.specs.declared.phrase.Phrase.TheVariants.{Value}

abbrev pub ok : {A : Type 0} → A → Judged A
ok x = Ok x

pub ok_is : {A : Type 0} (x y : A) → ok x ≡ ok y → x ≡ y
ok_is x y e = cc

pub value_no_fault : {A : Type 0} (r : Judged A) (x : A) (f : SpecFault) → r ≡ Ok x → r ≡ Err f → ⊥
value_no_fault r x f p q = cc

pub both_ok : {A B : Type 0} (r : Judged A) (f : A → Judged B) (y : B) → and_then r f ≡ Ok y → (x : A) × (r ≡ Ok x) × (f x ≡ Ok y)
both_ok (Ok x) f y e = (x, refl, e)
both_ok (Err g) f y e = absurd cc

pub test_ok : {A : Type 0} (b : Bool) (r : Judged A) (f : SpecFault) (y : A) → (if b then r else Err f) ≡ Ok y → (b ≡ true) × (r ≡ Ok y)
test_ok true r f y e = (refl, e)
test_ok false r f y e = absurd cc

pub taken_ok : {A : Type 0} (b : Bool) (r : Judged A) (f : SpecFault) (y : A) → (if b then Err f else r) ≡ Ok y → (b ≡ false) × (r ≡ Ok y)
taken_ok true r f y e = absurd cc
taken_ok false r f y e = (refl, e)

pub some_is : {A : Type 0} (x y : A) → Some x ≡ Some y → x ≡ y
some_is x y e = cc

pub only_ok : {A : Type 0} (at : ℕ) (xs : List A) (x : A) → only at xs ≡ Ok x → xs ≡ x ∷ []
unfolding only
only_ok at [] x e = absurd cc
only_ok at (y ∷ []) x e = ap (λ z. z ∷ []) (ok_is y x e)
only_ok at (y ∷ (z ∷ zs)) x e = absurd cc

pub both_are : {A : Type 0} (at : ℕ) (xs : List A) (p : A × A) → both at xs ≡ Ok p → xs ≡ p.0 ∷ p.1 ∷ []
unfolding both
both_are at [] p e = absurd cc
both_are at (y ∷ []) p e = absurd cc
both_are at (y ∷ z ∷ []) p e = let same = ok_is (y, z) p e in ap (λ (q : _ × _). q.0 ∷ q.1 ∷ []) same
both_are at (y ∷ z ∷ (x ∷ xs)) p e = absurd cc

-- what a kind is in the typing of a specification
abbrev pub kind_shown : Kind → KindOf
kind_shown (Whole low high) = WholeOf (low, high)
kind_shown (Member i) = MemberOf i

within_if : (r : Range) → (is_limited r.0 && is_limited r.1) ≡ true → whole_within r ≡ Some (WholeOf r)
within_if r e =
    let small = and_parts (is_limited r.0) (is_limited r.1) e in
    let low = and_parts (int_le (neg_ℤ (pos most_number)) r.0) (int_le r.0 (pos most_number)) small.0 in
    let high = and_parts (int_le (neg_ℤ (pos most_number)) r.1) (int_le r.1 (pos most_number)) small.1 in
    let fits : is_bounded r ≡ true = and_from (int_le (neg_ℤ (pos most_number)) r.0) (int_le r.1 (pos most_number)) low.0 high.1 in rw fits refl

pub measured_ok : (at : ℕ) (t : Term) (range : Option Range) (s : Phrase) → limited_term at t range ≡ Ok s → (r : Range) × (range ≡ Some r) × (Value t (Whole r.0 r.1) ≡ s) × (whole_within r ≡ Some (WholeOf r))
measured_ok at t None s e = absurd cc
measured_ok at t (Some r) s e =
    let tested = test_ok (is_limited r.0 && is_limited r.1) (Ok (Value t (Whole r.0 r.1))) _ s e in
    (r, refl, ok_is (Value t (Whole r.0 r.1)) s tested.1, within_if r tested.0)

-- a name is used where it stands
pub usable_place : (at : ℕ) (alone : Bool) (o : Option (ℕ × ℕ)) (en : Option Entry) (scope : Scope) (p : Context) → reference_context at alone o en scope ≡ Ok p → plain_context scope None ≡ p
unfolding reference_context reference
usable_place at true (Some v) en scope p e = ok_is _ p e
usable_place at false (Some v) en scope p e = absurd cc
usable_place at alone None None scope p e = absurd cc
usable_place at alone None (Some (entry.Index i)) scope p e = absurd cc
usable_place at alone None (Some entry.Formula) scope p e = absurd cc
usable_place at alone None (Some (entry.Given f)) scope p e = ok_is _ p e
usable_place at alone None (Some (entry.Choice x)) scope p e = ok_is _ p e
