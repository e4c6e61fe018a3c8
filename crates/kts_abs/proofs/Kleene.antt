-- Strong Kleene logic, by trying all truth values.
use Rattle.std.proofs.Common.{◌≡◌, refl, sym, ◌∙◌, ap, subst, Bool, true, false, not, ◌&&◌, ◌||◌}
use Rattle.std.proofs.lemmas.Bool.{and_parts, and_from}
use Rattle.kts_abs.specs.Abstraction.{Finer, Only, Abstracts, AbstractsOne}
use Rattle.kts_abs.specs.declared.truth.Tri.{Tri}
use Rattle.kts_abs.specs.declared.truth.Tri.TheVariants.{F, U, T}
use Rattle.kts_abs.specs.Truth.{may_be, surer, certain, not_of, and_of, or_of}
use Rattle.kts_abs.specs.TruthLaws.{some_value, order_holds, order_comes}

abbrev all_three : (Tri → Bool) → Bool
all_three f = f F && (f U && f T)

abbrev all_two : (Bool → Bool) → Bool
all_two f = f true && f false

abbrev implies : Bool → Bool → Bool
implies a b = not a || b

-- what passes at each truth value passes at any
each_three : (f : Tri → Bool) → all_three f ≡ true → (p : Tri) → f p ≡ true
each_three f h F = (and_parts (f F) (f U && f T) h).0
each_three f h U = (and_parts (f U) (f T) (and_parts (f F) (f U && f T) h).1).0
each_three f h T = (and_parts (f U) (f T) (and_parts (f F) (f U && f T) h).1).1

each_two : (f : Bool → Bool) → all_two f ≡ true → (b : Bool) → f b ≡ true
each_two f h true = (and_parts (f true) (f false) h).0
each_two f h false = (and_parts (f true) (f false) h).1

-- a test that implies another
implied : (a b : Bool) → implies a b ≡ true → a ≡ true → b ≡ true
implied true b h k = h
implied false b h k = cc

-- finer is surer, and surer is finer
pub finer_surer : (p q : Tri) → Finer may_be p q → surer q p ≡ true
finer_surer p q f = order_comes q p f.within

pub surer_finer : (p q : Tri) → surer q p ≡ true → Finer may_be p q
surer_finer p q h = let w = some_value p in record { witness = w.0; allowed = w.1; within = order_holds q p h }

-- what may be one truth value alone is certain, and the other way round
pub only_certain : (p : Tri) (b : Bool) → Only may_be b p → p ≡ certain b
only_certain F true o = let h = o.allowed in cc
only_certain F false o = refl
only_certain U true o = let h = o.alone false refl in cc
only_certain U false o = let h = o.alone true refl in cc
only_certain T true o = refl
only_certain T false o = let h = o.allowed in cc

pub certain_only : (b : Bool) → Only may_be b (certain b)
certain_only true = record { allowed = refl; alone = elim [ true ↦ λ h. refl | false ↦ λ h. cc ] }
certain_only false = record { allowed = refl; alone = elim [ true ↦ λ h. cc | false ↦ λ h. refl ] }

abbrev sound_test : (Bool → Bool → Bool) → (Tri → Tri → Tri) → Bool
sound_test f g = all_three (λ p. all_three (λ q. all_two (λ x. all_two (λ y. implies (may_be p x && may_be q y) (may_be (g p q) (f x y))))))

abbrev monotone_test : (Tri → Tri → Tri) → Bool
monotone_test g = all_three (λ p. all_three (λ q. all_three (λ r. all_three (λ s. implies (surer r p && surer s q) (surer (g r s) (g p q))))))

-- an operation that passes the tests
kleene : (f : Bool → Bool → Bool) (g : Tri → Tri → Tri) → sound_test f g ≡ true → monotone_test g ≡ true → ((x y : Bool) → g (certain x) (certain y) ≡ certain (f x y)) → Abstracts may_be may_be may_be f g
kleene f g s m e = record {
  sound = λ p q x y h k.
      let at_p = each_three (λ p. all_three (λ q. all_two (λ x. all_two (λ y. implies (may_be p x && may_be q y) (may_be (g p q) (f x y)))))) s p in
      let at_q = each_three (λ q. all_two (λ x. all_two (λ y. implies (may_be p x && may_be q y) (may_be (g p q) (f x y))))) at_p q in
      let at_x = each_two (λ x. all_two (λ y. implies (may_be p x && may_be q y) (may_be (g p q) (f x y)))) at_q x in
      let at_y = each_two (λ y. implies (may_be p x && may_be q y) (may_be (g p q) (f x y))) at_x y in
      implied (may_be p x && may_be q y) (may_be (g p q) (f x y)) at_y (and_from (may_be p x) (may_be q y) h k);
  monotone = λ p r q s' h k.
      let at_p = each_three (λ p. all_three (λ q. all_three (λ r. all_three (λ s. implies (surer r p && surer s q) (surer (g r s) (g p q)))))) m p in
      let at_q = each_three (λ q. all_three (λ r. all_three (λ s. implies (surer r p && surer s q) (surer (g r s) (g p q))))) at_p q in
      let at_r = each_three (λ r. all_three (λ s. implies (surer r p && surer s q) (surer (g r s) (g p q)))) at_q r in
      let at_s = each_three (λ s. implies (surer r p && surer s q) (surer (g r s) (g p q))) at_r s' in
      surer_finer (g p q) (g r s') (implied (surer r p && surer s' q) (surer (g r s') (g p q)) at_s (and_from (surer r p) (surer s' q) (finer_surer p r h) (finer_surer q s' k)));
  exact = λ p q x y h k.
      let i : g p q ≡ certain (f x y) = rw (only_certain p x h, only_certain q y k) (e x y) in
      subst (λ z. Only may_be (f x y) z) (sym i) (certain_only (f x y));
}

and_exact : (x y : Bool) → and_of (certain x) (certain y) ≡ certain (x && y)
and_exact true true = refl
and_exact true false = refl
and_exact false y = refl

or_exact : (x y : Bool) → or_of (certain x) (certain y) ≡ certain (x || y)
or_exact true y = refl
or_exact false true = refl
or_exact false false = refl

pub ands : Abstracts may_be may_be may_be ◌&&◌ and_of
ands = kleene ◌&&◌ and_of refl refl and_exact

pub ors : Abstracts may_be may_be may_be ◌||◌ or_of
ors = kleene ◌||◌ or_of refl refl or_exact

not_sound : (p : Tri) (x : Bool) → may_be p x ≡ true → may_be (not_of p) (not x) ≡ true
not_sound F true h = cc
not_sound F false h = refl
not_sound U x h = refl
not_sound T true h = refl
not_sound T false h = cc

not_surer : (p q : Tri) → surer q p ≡ true → surer (not_of q) (not_of p) ≡ true
not_surer p U h = refl
not_surer F F h = refl
not_surer T T h = refl
not_surer F T h = h
not_surer U F h = h
not_surer U T h = h
not_surer T F h = h

not_exact : (x : Bool) → not_of (certain x) ≡ certain (not x)
not_exact true = refl
not_exact false = refl

pub nots : AbstractsOne may_be may_be not not_of
nots = record {
  sound = not_sound;
  monotone = λ p q h. surer_finer (not_of p) (not_of q) (not_surer p q (finer_surer p q h));
  exact = λ p x h.
      let i : not_of p ≡ certain (not x) = ap not_of (only_certain p x h) ∙ not_exact x in
      subst (λ z. Only may_be (not x) z) (sym i) (certain_only (not x));
}
