-- The levels of a row's slots: at each mark, what was written since has an entry since.
use Rattle.std.proofs.Common.{◌≡◌, ◌≢◌, refl, sym, ◌∙◌, ap, subst, ℕ, suc, zero, ◌+◌, ◌*◌, ◌<◌, ◌≤◌, inl, inr, Bool, true, false, ◌||◌, nat_eq, List, [], ◌∷◌, ◌++◌, length, take, drop, map, All, Some, slice_get, slice_set, arith, length-append}
use Rattle.std.proofs.lemmas.List.{length-set, length-take, take_all, drop_all, take-append-le, drop-append-le}
use Rattle.std.proofs.lemmas.List.Elements.{All-nil, All-append}
use Rattle.std.proofs.lemmas.Bool.{eq-eqb, cases_Bool, cases_eq, cases_lt, lt-ltb, le-ltb, true≢false}
use Rattle.std.proofs.lemmas.Option.{none-some}
use Rattle.kts_rows.specs.declared.trail.Slot.{Slot}
use Rattle.kts_rows.specs.declared.trail.Entry.{Entry}
use Rattle.kts_rows.specs.Trails.{undone, has_entry, entered, height, IsIn, IsLevel, Levels, cells_of, cells_at, bottom_slot, bottoms}
use Rattle.kts_rows.proofs.Spare.{some_is}
use Rattle.kts_rows.proofs.Every.{All-head, All-tail, All-cons, All-get, All-set, All-weaken}
use Rattle.kts_rows.proofs.Undo.{undone-none, undone-entry, undone-covered, undone_before}

-- ---- lists

or_true : (b : Bool) → (b || true) ≡ true
or_true true = refl
or_true false = refl

set_same : {X : Type 0} (xs : List X) (at : ℕ) (v x : X) → slice_get (slice_set xs at v) at ≡ Some x → v ≡ x
set_same [] at v x e = absurd (none-some x e)
set_same (y ∷ ys) zero v x e = some_is e
set_same (y ∷ ys) (suc at) v x e = set_same ys at v x e

set_other : {X : Type 0} (xs : List X) (at k : ℕ) (v : X) → k ≢ at → slice_get (slice_set xs at v) k ≡ slice_get xs k
set_other [] at k v n = refl
set_other (y ∷ ys) zero zero v n = absurd (n refl)
set_other (y ∷ ys) zero (suc k) v n = refl
set_other (y ∷ ys) (suc at) zero v n = refl
set_other (y ∷ ys) (suc at) (suc k) v n = set_other ys at k v (λ e. n (ap suc e))

-- ---- how high a row is

height-set : {L : Type 0} (slots : List (Slot L)) (at : ℕ) (before next : Slot L) → slice_get slots at ≡ Some before →
    height (slice_set slots at next) + before.level ≡ height slots + next.level
unfolding height
height-set [] at before next e = absurd (none-some before e)
height-set (x ∷ xs) zero before next e = omega (arith, ap (λ s. s.level) (some_is e))
height-set (x ∷ xs) (suc at) before next e = omega (arith, height-set xs at before next e)

height-le : {L : Type 0} (level : ℕ) (slots : List (Slot L)) → All (λ slot. slot.level ≤ level) slots → height slots ≤ length slots * level
unfolding height
height-le level [] h = omega arith
height-le level (x ∷ xs) h =
    omega (arith, All-head (λ slot. slot.level ≤ level) x xs h, height-le level xs (All-tail (λ slot. slot.level ≤ level) x xs h))

-- what a row's slots and trail have, whatever its marks
pub record IsClimbed {L : Type 0} (level : ℕ) (trail : List (Entry L)) (slots : List (Slot L)) : Type 0 where
  pub levels : All (λ slot. slot.level ≤ level) slots
  pub climbed : length trail ≤ height slots

pub climbed : {L : Type 0} (trail : List (Entry L)) (slots : List (Slot L)) (starts : List ℕ) → Levels trail slots starts → IsClimbed (length starts) trail slots
unfolding Levels
climbed trail slots [] h = record {
  levels = All-weaken (λ slot. slot.level ≡ 0) (λ slot. slot.level ≤ 0) slots (λ slot e. omega (arith, e)) h.1;
  climbed = omega (arith, h.0);
}
climbed trail slots (start ∷ starts) h = record { levels = h.0.levels; climbed = h.0.climbed }

-- a place below the level of the marks leaves room for its entry
pub entry_fits : {L : Type 0} (trail : List (Entry L)) (slots : List (Slot L)) (starts : List ℕ) (at : ℕ) (before : Slot L) (depth room : ℕ) →
    Levels trail slots starts →
    slice_get slots at ≡ Some before → length starts ≤ depth → length slots * depth ≤ room → before.level < length starts → length trail < room
entry_fits {L = L} trail slots starts at before depth room h e d r below =
    let c = climbed trail slots starts h in
    let next : Slot L = record { value = before.value; level = length starts } in
    let set = slice_set slots at next in
    let high = height-le (length starts) set (All-set (λ slot. slot.level ≤ length starts) slots at next c.levels (omega arith)) in
    let long = length-set slots at next in
    let sum = height-set slots at before next e in
    let more : length slots * length starts ≤ length slots * depth = grind arith in
    let high' : height set ≤ length slots * length starts = subst (λ n. height set ≤ n * length starts) long high in
    omega (arith, c.climbed, sum, high', more)

All-bottoms : {L : Type 0} (cells : List L) → All (λ slot. slot.level ≡ 0) (bottoms cells)
All-bottoms [] = All-nil (λ slot. slot.level ≡ 0)
All-bottoms (c ∷ cs) = All-cons (λ slot. slot.level ≡ 0) (bottom_slot c) (bottoms cs) refl (All-bottoms cs)

-- ---- a mark

pub Levels-mark : {L : Type 0} (trail : List (Entry L)) (slots : List (Slot L)) (starts : List ℕ) → Levels trail slots starts →
    Levels trail slots (length trail ∷ starts)
unfolding Levels
Levels-mark trail slots starts h =
    let c = climbed trail slots starts h in
    let none = drop_all (length trail) trail (omega arith) in
    let now = ap (λ es. undone es slots) none ∙ undone-none slots in (
      record {
        within = omega arith;
        places = subst (All (IsIn (length slots))) (sym none) (All-nil (IsIn (length slots)));
        levels = All-weaken (λ slot. slot.level ≤ length starts) (λ slot. slot.level ≤ length (length trail ∷ starts)) slots (λ slot l. omega
            (arith, l)) c.levels;
        entries = λ at slot e same. absurd (omega (arith, same, All-get (λ s. s.level ≤ length starts) slots at slot c.levels e));
        climbed = c.climbed;
      },
      subst (λ es. Levels es (undone (drop (length trail) trail) slots) starts) (sym (take_all (length trail) trail (omega arith)))
          (subst (λ ss. Levels trail ss starts) (sym now) h),
    )

-- ---- a write

has_entry-append : {L : Type 0} (at : ℕ) (xs ys : List (Entry L)) → has_entry at xs ≡ true → has_entry at (xs ++ ys) ≡ true
has_entry-append at [] ys h = absurd (true≢false (sym h))
has_entry-append at (x ∷ xs) ys h = elim (cases_Bool (nat_eq at x.at)) [
  | inl same ↦ ap (λ b. b || has_entry at (xs ++ ys)) same
  | inr other ↦ ap (λ b. b || has_entry at (xs ++ ys)) other ∙ has_entry-append at xs ys (sym (ap (λ b. b || has_entry at xs) other) ∙ h)
]

has_entry-latest : {L : Type 0} (xs : List (Entry L)) (e : Entry L) → has_entry e.at (xs ++ e ∷ []) ≡ true
has_entry-latest [] e = ap (λ b. b || false) (eq-eqb e.at e.at refl)
has_entry-latest (x ∷ xs) e = ap (λ b. nat_eq e.at x.at || b) (has_entry-latest xs e) ∙ or_true (nat_eq e.at x.at)

-- the part of a write that the latest mark sees, where the place gets an entry
IsLevel-enter : {L : Type 0} (level from : ℕ) (trail : List (Entry L)) (slots : List (Slot L)) (at : ℕ) (before next : Slot L) → IsLevel level from trail slots →
    slice_get slots at ≡ Some before → at < length slots → before.level < level → next.level ≡ level →
    IsLevel level from (trail ++ record { at = at; before = before } ∷ []) (slice_set slots at next)
IsLevel-enter {L = L} level from trail slots at before next h e inside below same =
    let entry : Entry L = record { at = at; before = before } in
    let late = drop-append-le from trail (entry ∷ []) h.within in
    let long = length-append trail (entry ∷ []) in
    record {
      within = omega (arith, h.within, long);
      places = rw (late, length-set slots at next)
          (All-append (IsIn (length slots)) (drop from trail) (entry ∷ []) h.places (All-cons (IsIn (length slots)) entry [] inside (All-nil (IsIn
          (length slots)))));
      levels = All-set (λ slot. slot.level ≤ level) slots at next h.levels (omega (arith, same));
      entries = λ k slot got top. subst (λ es. has_entry k es ≡ true) (sym late) (elim (cases_eq k at) [
        | inl here ↦ subst (λ p. has_entry p (drop from trail ++ entry ∷ []) ≡ true) (sym here) (has_entry-latest (drop from trail) entry)
        | inr other ↦ has_entry-append k (drop from trail) (entry ∷ []) (h.entries k slot (sym (set_other slots at k next other) ∙ got) top)
      ]);
      climbed = omega (arith, h.climbed, long, height-set slots at before next e, same, below);
    }

-- the same where it has one since that mark
IsLevel-keep : {L : Type 0} (level from : ℕ) (trail : List (Entry L)) (slots : List (Slot L)) (at : ℕ) (before next : Slot L) → IsLevel level from trail slots →
    slice_get slots at ≡ Some before → before.level ≡ level → next.level ≡ level → IsLevel level from trail (slice_set slots at next)
IsLevel-keep level from trail slots at before next h e top same = record {
  within = h.within;
  places = rw (length-set slots at next) h.places;
  levels = All-set (λ slot. slot.level ≤ level) slots at next h.levels (omega (arith, same));
  entries = λ k slot got high. elim (cases_eq k at) [
    | inl here ↦ subst (λ p. has_entry p (drop from trail) ≡ true) (sym here) (h.entries at before e top)
    | inr other ↦ h.entries k slot (sym (set_other slots at k next other) ∙ got) high
  ];
  climbed = omega (arith, h.climbed, height-set slots at before next e, same, top);
}

-- what a write leaves of the row at a place of the trail
record IsKept {L : Type 0} (from : ℕ) (trail trail' : List (Entry L)) (slots slots' : List (Slot L)) : Type 0 where
  before : take from trail' ≡ take from trail
  undone : undone (drop from trail') slots' ≡ undone (drop from trail) slots

-- one step of the levels, from what a write keeps below it
Levels-step : {L : Type 0} (trail trail' : List (Entry L)) (slots slots' : List (Slot L)) (start : ℕ) (starts : List ℕ) →
    IsLevel (length (start ∷ starts)) start trail' slots' →
    IsKept start trail trail' slots slots' → Levels (take start trail) (undone (drop start trail) slots) starts → Levels trail' slots' (start ∷ starts)
unfolding Levels
Levels-step trail trail' slots slots' start starts now kept h = (
  now,
  subst (λ es. Levels es (undone (drop start trail') slots') starts) (sym kept.before)
      (subst (λ ss. Levels (take start trail) ss starts) (sym kept.undone) h),
)

latest_level : {L : Type 0} (trail : List (Entry L)) (slots : List (Slot L)) (start : ℕ) (starts : List ℕ) → Levels trail slots (start ∷ starts) →
    IsLevel (length (start ∷ starts)) start trail slots
unfolding Levels
latest_level trail slots start starts h = h.0

pub earlier_levels : {L : Type 0} (trail : List (Entry L)) (slots : List (Slot L)) (start : ℕ) (starts : List ℕ) → Levels trail slots (start ∷ starts) →
    Levels (take start trail) (undone (drop start trail) slots) starts
unfolding Levels
earlier_levels trail slots start starts h = h.1

-- the trail after a write, and the row at the latest mark
IsKept-enter : {L : Type 0} (from : ℕ) (trail : List (Entry L)) (slots : List (Slot L)) (at : ℕ) (before next : Slot L) → from ≤ length trail →
    slice_get slots at ≡ Some before →
    IsKept from trail (trail ++ record { at = at; before = before } ∷ []) slots (slice_set slots at next)
IsKept-enter {L = L} from trail slots at before next h e =
    let entry : Entry L = record { at = at; before = before } in
    record {
      before = take-append-le from trail (entry ∷ []) h;
      undone = ap (λ es. undone es (slice_set slots at next)) (drop-append-le from trail (entry ∷ []) h) ∙ undone-entry (drop from trail) slots at before next e;
    }

IsKept-keep : {L : Type 0} (from : ℕ) (trail : List (Entry L)) (slots : List (Slot L)) (at : ℕ) (next : Slot L) → has_entry at (drop from trail) ≡ true →
    IsKept from trail trail slots (slice_set slots at next)
IsKept-keep from trail slots at next h = record { before = refl; undone = undone-covered (drop from trail) slots at next h }

pub slice_get-below : {X : Type 0} (xs : List X) (at : ℕ) (x : X) → slice_get xs at ≡ Some x → at < length xs
slice_get-below [] at x e = absurd (none-some x e)
slice_get-below (y ∷ ys) zero x e = omega arith
slice_get-below (y ∷ ys) (suc at) x e = omega (arith, slice_get-below ys at x e)

-- a write at a row with marks
pub record IsWrite {L : Type 0} (trail trail' : List (Entry L)) (slots slots' : List (Slot L)) (starts : List ℕ) : Type 0 where
  pub levels : Levels trail' slots' starts
  pub marks : map (cells_at trail' slots') starts ≡ map (cells_at trail slots) starts

-- the cells at the marks that a place of the trail is after
cells_at-before : {L : Type 0} (trail trail' : List (Entry L)) (slots slots' : List (Slot L)) (from : ℕ) (starts : List ℕ) → All (λ start. start ≤ from) starts →
    IsKept from trail trail' slots slots' → map (cells_at trail' slots') starts ≡ map (cells_at trail slots) starts
cells_at-before trail trail' slots slots' from [] h k = refl
cells_at-before trail trail' slots slots' from (start ∷ starts) h k =
    ap (λ ss. cells_of ss ∷ map (cells_at trail' slots') starts)
    (undone_before trail trail' slots slots' start from (All-head (λ s. s ≤ from) start starts h) k.before k.undone)
    ∙ ap (λ rest. cells_at trail slots start ∷ rest) (cells_at-before trail trail' slots slots' from starts (All-tail (λ s. s ≤ from) start starts h) k)

starts_within : {L : Type 0} (trail : List (Entry L)) (slots : List (Slot L)) (starts : List ℕ) → Levels trail slots starts →
    All (λ start. start ≤ length trail) starts
starts_within trail slots [] h = All-nil (λ start. start ≤ length trail)
starts_within trail slots (start ∷ starts) h =
    let within = (latest_level trail slots start starts h).within in
    let earlier = starts_within (take start trail) (undone (drop start trail) slots) starts (earlier_levels trail slots start starts h) in
    All-cons (λ s. s ≤ length trail) start starts within
    (All-weaken (λ s. s ≤ length (take start trail)) (λ s. s ≤ length trail) starts (λ s l. omega (arith, l, length-take start trail)) earlier)

starts_before : {L : Type 0} (trail : List (Entry L)) (slots : List (Slot L)) (start : ℕ) (starts : List ℕ) → Levels trail slots (start ∷ starts) →
    All (λ s. s ≤ start) (start ∷ starts)
starts_before trail slots start starts h =
    All-cons (λ s. s ≤ start) start starts (omega arith)
    (All-weaken (λ s. s ≤ length (take start trail)) (λ s. s ≤ start) starts (λ s l. omega (arith, l, length-take start trail))
    (starts_within (take start trail) (undone (drop start trail) slots) starts (earlier_levels trail slots start starts h)))

-- a write at the level of the marks keeps the levels and the cells at the marks
pub Levels-write : {L : Type 0} (trail : List (Entry L)) (slots : List (Slot L)) (starts : List ℕ) (at : ℕ) (before next : Slot L) → Levels trail slots starts →
    slice_get slots at ≡ Some before → next.level ≡ length starts → IsWrite trail (entered (length starts) at before trail) slots (slice_set slots at next) starts
unfolding Levels
Levels-write trail slots [] at before next h e same = record {
  levels = rw (le-ltb before.level 0 (omega arith)) (h.0, All-set (λ slot. slot.level ≡ 0) slots at next h.1 same);
  marks = refl;
}
Levels-write {L = L} trail slots (start ∷ starts) at before next h e same =
    let now = latest_level trail slots start starts h in
    let earlier = earlier_levels trail slots start starts h in
    let all = starts_before trail slots start starts h in
    let inside = slice_get-below slots at before e in
    let top = All-get (λ s. s.level ≤ length (start ∷ starts)) slots at before now.levels e in
    elim (cases_lt before.level (length (start ∷ starts))) [
      | inl below ↦ let new : List (Entry L) = trail ++ record { at = at; before = before } ∷ [] in
          let kept = IsKept-enter start trail slots at before next now.within e in
          rw (lt-ltb before.level (length (start ∷ starts)) below) (record {
            levels = Levels-step trail new slots (slice_set slots at next) start starts
                (IsLevel-enter (length (start ∷ starts)) start trail slots at before next now e inside below same) kept earlier;
            marks = cells_at-before trail new slots (slice_set slots at next) start (start ∷ starts) all kept;
          })
      | inr above ↦ let high : before.level ≡ length (start ∷ starts) = omega (arith, top, above) in
          let kept = IsKept-keep start trail slots at next (now.entries at before e high) in
          rw (le-ltb before.level (length (start ∷ starts)) above) (record {
            levels = Levels-step trail trail slots (slice_set slots at next) start starts
                (IsLevel-keep (length (start ∷ starts)) start trail slots at before next now e high same) kept earlier;
            marks = cells_at-before trail trail slots (slice_set slots at next) start (start ∷ starts) all kept;
          })
    ]

-- ---- the way back

pub places_since : {L : Type 0} (trail : List (Entry L)) (slots : List (Slot L)) (start : ℕ) (starts : List ℕ) → Levels trail slots (start ∷ starts) →
    All (IsIn (length slots)) (drop start trail)
places_since trail slots start starts h = (latest_level trail slots start starts h).places

pub cells_at-back : {L : Type 0} (trail : List (Entry L)) (slots : List (Slot L)) (start : ℕ) (starts : List ℕ) → Levels trail slots (start ∷ starts) →
    map (cells_at (take start trail) (undone (drop start trail) slots)) starts ≡ map (cells_at trail slots) starts
cells_at-back trail slots start starts h =
    let none = drop_all start (take start trail) (omega (arith, length-take start trail)) in
    cells_at-before trail (take start trail) slots (undone (drop start trail) slots) start starts
    (All-tail (λ s. s ≤ start) start starts (starts_before trail slots start starts h))
    (record {
      before = take_all start (take start trail) (omega (arith, length-take start trail));
      undone = ap (λ es. undone es (undone (drop start trail) slots)) none ∙ undone-none (undone (drop start trail) slots);
    })

-- ---- a row as opened

pub Levels-bottom : {L : Type 0} (cells : List L) → Levels [] (bottoms cells) []
unfolding Levels
Levels-bottom cells = (refl, All-bottoms cells)
