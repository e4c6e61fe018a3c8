-- What undoing the entries of a trail gives.
use Rattle.std.proofs.Common.{◌≡◌, ◌≢◌, refl, sym, ◌∙◌, ap, subst, ℕ, suc, zero, ◌<◌, ◌≤◌, inl, inr, true, ◌||◌, nat_eq, List, [], ◌∷◌, ◌++◌, length, take, drop, All, Some, slice_get, slice_index_or, slice_set, arith}
use Rattle.std.proofs.lemmas.List.{length-set, drop_all}
use Rattle.std.proofs.lemmas.List.Elements.{All-nil}
use Rattle.std.proofs.lemmas.Bool.{eqb-true, cases_Bool, cases_eq, true≢false}
use Rattle.kts_rows.specs.declared.trail.Slot.{Slot}
use Rattle.kts_rows.specs.declared.trail.Entry.{Entry}
use Rattle.kts_rows.specs.Trails.{undone, has_entry, IsIn}
use Rattle.kts_rows.proofs.Spare.{some_is}
use Rattle.kts_rows.proofs.Every.{All-head, All-tail, All-cons}

pub length-undone : {L : Type 0} (entries : List (Entry L)) (slots : List (Slot L)) → length (undone entries slots) ≡ length slots
unfolding undone
length-undone [] slots = refl
length-undone (e ∷ es) slots = length-set (undone es slots) e.at e.before ∙ length-undone es slots

undone-append : {L : Type 0} (xs ys : List (Entry L)) (slots : List (Slot L)) → undone (xs ++ ys) slots ≡ undone xs (undone ys slots)
unfolding undone
undone-append [] ys slots = refl
undone-append (x ∷ xs) ys slots = ap (λ s. slice_set s x.at x.before) (undone-append xs ys slots)

pub undone-none : {L : Type 0} (slots : List (Slot L)) → undone [] slots ≡ slots
unfolding undone
undone-none slots = refl

pub undone-latest : {L : Type 0} (xs : List (Entry L)) (e : Entry L) (slots : List (Slot L)) →
    undone (xs ++ e ∷ []) slots ≡ undone xs (slice_set slots e.at e.before)
unfolding undone
undone-latest xs e slots = undone-append xs (e ∷ []) slots

-- the part from t on is the part up to s and the part from s on
drop_parts : {X : Type 0} (xs : List X) (t s : ℕ) → t ≤ s → drop t xs ≡ drop t (take s xs) ++ drop s xs
drop_parts [] zero zero h = refl
drop_parts [] zero (suc s) h = refl
drop_parts [] (suc t) zero h = absurd (omega arith)
drop_parts [] (suc t) (suc s) h = refl
drop_parts (x ∷ xs) zero zero h = refl
drop_parts (x ∷ xs) zero (suc s) h = ap (λ ys. x ∷ ys) (drop_parts xs zero s (omega arith))
drop_parts (x ∷ xs) (suc t) zero h = absurd (omega arith)
drop_parts (x ∷ xs) (suc t) (suc s) h = drop_parts xs t s (omega arith)

undone_parts : {L : Type 0} (trail : List (Entry L)) (slots : List (Slot L)) (t s : ℕ) → t ≤ s →
    undone (drop t trail) slots ≡ undone (drop t (take s trail)) (undone (drop s trail) slots)
undone_parts trail slots t s h = ap (λ es. undone es slots) (drop_parts trail t s h) ∙ undone-append (drop t (take s trail)) (drop s trail) slots

-- rows that were the same at a place of the trail were the same at each place before it
pub undone_before : {L : Type 0} (trail trail' : List (Entry L)) (slots slots' : List (Slot L)) (t s : ℕ) → t ≤ s →
    take s trail' ≡ take s trail → undone (drop s trail') slots' ≡ undone (drop s trail) slots → undone (drop t trail') slots' ≡ undone (drop t trail) slots
undone_before trail trail' slots slots' t s h same_trail same_slots =
    undone_parts trail' slots' t s h
    ∙ ap (λ es. undone (drop t es) (undone (drop s trail') slots')) same_trail
    ∙ ap (undone (drop t (take s trail))) same_slots
    ∙ sym (undone_parts trail slots t s h)

set_back : {X : Type 0} (xs : List X) (at : ℕ) (before next : X) → slice_get xs at ≡ Some before → slice_set (slice_set xs at next) at before ≡ xs
set_back [] at before next e = refl
set_back (x ∷ xs) zero before next e = ap (λ y. y ∷ xs) (sym (some_is e))
set_back (x ∷ xs) (suc at) before next e = ap (λ ys. x ∷ ys) (set_back xs at before next e)

-- an entry of what a place had undoes a write there
pub undone-entry : {L : Type 0} (es : List (Entry L)) (slots : List (Slot L)) (at : ℕ) (before next : Slot L) → slice_get slots at ≡ Some before →
    undone (es ++ record { at = at; before = before } ∷ []) (slice_set slots at next) ≡ undone es slots
undone-entry es slots at before next e = undone-latest es (record { at = at; before = before }) (slice_set slots at next)
    ∙ ap (undone es) (set_back slots at before next e)

set_twice : {X : Type 0} (xs : List X) (at : ℕ) (v w : X) → slice_set (slice_set xs at v) at w ≡ slice_set xs at w
set_twice [] at v w = refl
set_twice (x ∷ xs) zero v w = refl
set_twice (x ∷ xs) (suc at) v w = ap (λ ys. x ∷ ys) (set_twice xs at v w)

set_apart : {X : Type 0} (xs : List X) (a b : ℕ) (v w : X) → a ≢ b → slice_set (slice_set xs a v) b w ≡ slice_set (slice_set xs b w) a v
set_apart [] a b v w n = refl
set_apart (x ∷ xs) zero zero v w n = absurd (n refl)
set_apart (x ∷ xs) zero (suc b) v w n = refl
set_apart (x ∷ xs) (suc a) zero v w n = refl
set_apart (x ∷ xs) (suc a) (suc b) v w n = ap (λ ys. x ∷ ys) (set_apart xs a b v w (λ e. n (ap suc e)))

-- a write changes what is undone at its place alone
undone-set : {L : Type 0} (es : List (Entry L)) (slots : List (Slot L)) (at : ℕ) (v b : Slot L) →
    slice_set (undone es (slice_set slots at v)) at b ≡ slice_set (undone es slots) at b
unfolding undone
undone-set [] slots at v b = set_twice slots at v b
undone-set (e ∷ es) slots at v b = elim (cases_eq e.at at) [
  | inl same ↦ ap (λ k. slice_set (slice_set (undone es (slice_set slots at v)) k e.before) at b) same
      ∙ set_twice (undone es (slice_set slots at v)) at e.before b
      ∙ undone-set es slots at v b
      ∙ sym (ap (λ k. slice_set (slice_set (undone es slots) k e.before) at b) same ∙ set_twice (undone es slots) at e.before b)
  | inr other ↦ set_apart (undone es (slice_set slots at v)) e.at at e.before b other ∙ ap (λ s. slice_set s e.at e.before) (undone-set es slots at v b)
      ∙ sym (set_apart (undone es slots) e.at at e.before b other)
]

-- an older entry of the place undoes a write there
pub undone-covered : {L : Type 0} (es : List (Entry L)) (slots : List (Slot L)) (at : ℕ) (v : Slot L) → has_entry at es ≡ true →
    undone es (slice_set slots at v) ≡ undone es slots
unfolding undone
undone-covered [] slots at v h = absurd (true≢false (sym h))
undone-covered (e ∷ es) slots at v h = elim (cases_Bool (nat_eq at e.at)) [
  | inl same ↦ let s : at ≡ e.at = eqb-true at e.at same in
      ap (λ k. slice_set (undone es (slice_set slots at v)) k e.before) (sym s) ∙ undone-set es slots at v e.before
      ∙ ap (λ k. slice_set (undone es slots) k e.before) s
  | inr other ↦ ap (λ s. slice_set s e.at e.before) (undone-covered es slots at v (sym (ap (λ b. b || has_entry at es) other) ∙ h))
]

-- ---- one entry undone

-- the last of a list
latest_is : {X : Type 0} (xs : List X) (n : ℕ) (x : X) → length xs ≡ suc n → x ≡ slice_index_or xs n x → drop n xs ≡ x ∷ []
latest_is [] n x l e = absurd (omega (arith, l))
latest_is (y ∷ []) zero x l e = ap (λ z. z ∷ []) (sym e)
latest_is (y ∷ z ∷ zs) zero x l e = absurd (omega (arith, l))
latest_is (y ∷ ys) (suc n) x l e = latest_is ys n x (omega (arith, l)) e

pub drop-latest : {X : Type 0} (xs : List X) (n start : ℕ) (x : X) → length xs ≡ suc n → start ≤ n → x ≡ slice_index_or xs n x →
    drop start xs ≡ drop start (take n xs) ++ x ∷ []
drop-latest xs n start x l h e = drop_parts xs start n h ∙ ap (λ ys. drop start (take n xs) ++ ys) (latest_is xs n x l e)

pub take-take : {X : Type 0} (xs : List X) (n start : ℕ) → start ≤ n → take start (take n xs) ≡ take start xs
take-take xs n zero h = refl
take-take [] zero (suc s) h = refl
take-take [] (suc n) (suc s) h = refl
take-take (x ∷ xs) zero (suc s) h = absurd (omega arith)
take-take (x ∷ xs) (suc n) (suc s) h = ap (λ ys. x ∷ ys) (take-take xs n s (omega arith))

All-latest : {X : Type 0} (P : X → Type 0) (xs : List X) (x : X) → All P (xs ++ x ∷ []) → P x
All-latest P [] x h = All-head P x [] h
All-latest P (y ∷ ys) x h = All-latest P ys x (All-tail P y (ys ++ x ∷ []) h)

All-front : {X : Type 0} (P : X → Type 0) (xs : List X) (x : X) → All P (xs ++ x ∷ []) → All P xs
All-front P [] x h = All-nil P
All-front P (y ∷ ys) x h = All-cons P y ys (All-head P y (ys ++ x ∷ []) h) (All-front P ys x (All-tail P y (ys ++ x ∷ []) h))

-- the latest entry of a trail, which goes
pub record IsLatest {L : Type 0} (from n : ℕ) (trail : List (Entry L)) (entry : Entry L) : Type 0 where
  pub long : length trail ≡ suc n
  pub within : from ≤ n
  pub is : entry ≡ slice_index_or trail n entry

pub place-latest : {L : Type 0} (start n width : ℕ) (trail : List (Entry L)) (entry : Entry L) → IsLatest start n trail entry →
    All (IsIn width) (drop start trail) → entry.at < width
place-latest start n width trail entry h p =
    All-latest (IsIn width) (drop start (take n trail)) entry (subst (All (IsIn width)) (drop-latest trail n start entry h.long h.within h.is) p)

pub places-earlier : {L : Type 0} (start n width : ℕ) (trail : List (Entry L)) (entry : Entry L) → IsLatest start n trail entry →
    All (IsIn width) (drop start trail) → All (IsIn width) (drop start (take n trail))
places-earlier start n width trail entry h p =
    All-front (IsIn width) (drop start (take n trail)) entry (subst (All (IsIn width)) (drop-latest trail n start entry h.long h.within h.is) p)

pub undone-step : {L : Type 0} (start n : ℕ) (trail : List (Entry L)) (slots : List (Slot L)) (entry : Entry L) → IsLatest start n trail entry →
    undone (drop start (take n trail)) (slice_set slots entry.at entry.before) ≡ undone (drop start trail) slots
undone-step start n trail slots entry h =
    sym (ap (λ es. undone es slots) (drop-latest trail n start entry h.long h.within h.is) ∙ undone-latest (drop start (take n trail)) entry slots)

pub undone-past : {L : Type 0} (start : ℕ) (trail : List (Entry L)) (slots : List (Slot L)) → length trail ≤ start → undone (drop start trail) slots ≡ slots
undone-past start trail slots h = ap (λ es. undone es slots) (drop_all start trail h) ∙ undone-none slots
