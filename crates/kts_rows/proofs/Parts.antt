-- The parts of a row after each call.
use Rattle.std.proofs.Common.{◌≡◌, refl, sym, ◌∙◌, ap, subst, ℕ, suc, zero, ◌*◌, ◌<◌, ◌≤◌, List, [], ◌∷◌, ◌++◌, length, map, take, drop, reverse, All, Some, slice_get, slice_set, slice_index_or, arith}
use Rattle.std.proofs.lemmas.List.{length-reverse, length-map, length-set, length-append, reverse-append, drop_all}
use Rattle.std.proofs.lemmas.List.Elements.{All-nil}
use Rattle.kts_rows.specs.declared.trail.Slot.{Slot}
use Rattle.kts_rows.specs.declared.trail.Entry.{Entry}
use Rattle.kts_rows.specs.Rows.{RowOf, IsRow}
use Rattle.kts_rows.specs.Trails.{value_of, cells_of, cells_at, bottom_slot, bottoms, undone, entered, IsIn, Levels, AreParts}
use Rattle.kts_rows.proofs.Every.{All-cons}
use Rattle.kts_rows.proofs.Undo.{length-undone, undone-none}
use Rattle.kts_rows.proofs.Climbs.{Levels-bottom, Levels-mark, Levels-write, earlier_levels, places_since, cells_at-back, entry_fits}

-- what an index reads
pub slice_get-read : {X : Type 0} (xs : List X) (at : ℕ) (x : X) → at < length xs → x ≡ slice_index_or xs at x → slice_get xs at ≡ Some x
slice_get-read [] at x h e = absurd (omega arith)
slice_get-read (y ∷ ys) zero x h e = ap Some (sym e)
slice_get-read (y ∷ ys) (suc at) x h e = slice_get-read ys at x (omega arith) e

pub cells_of-bottoms : {L : Type 0} (cells : List L) → cells_of (bottoms cells) ≡ cells
cells_of-bottoms [] = refl
cells_of-bottoms (c ∷ cs) = ap (λ xs. c ∷ xs) (cells_of-bottoms cs)

pub cells_of-set : {L : Type 0} (slots : List (Slot L)) (at : ℕ) (next : Slot L) → cells_of (slice_set slots at next) ≡ slice_set (cells_of slots) at next.value
cells_of-set [] at next = refl
cells_of-set (x ∷ xs) zero next = refl
cells_of-set (x ∷ xs) (suc at) next = ap (λ ys. x.value ∷ ys) (cells_of-set xs at next)

reverse-latest : {X : Type 0} (xs : List X) (x : X) → reverse (xs ++ x ∷ []) ≡ x ∷ reverse xs
reverse-latest xs x = reverse-append xs (x ∷ [])

-- ---- a row as opened

pub AreParts-bottom : {L : Type 0} (opened : List L) (slots : List (Slot L)) (trail : List (Entry L)) (starts : List ℕ) (depth marks_room entries_room : ℕ) →
    slots ≡ bottoms opened → trail ≡ [] → starts ≡ [] → depth ≤ marks_room → length opened * depth ≤ entries_room →
    AreParts opened slots trail starts depth marks_room entries_room
AreParts-bottom opened slots trail starts depth marks_room entries_room s t none m r =
    let long = length-map opened bottom_slot in
    rw (s, t, none) (record {
      width = sym long;
      marks = omega arith;
      marks_fit = m;
      entries_fit = rw long r;
      levels = Levels-bottom opened;
    })

-- ---- a mark

pub AreParts-mark : {L : Type 0} (opened : List L) (slots : List (Slot L)) (trail : List (Entry L)) (starts starts' : List ℕ)
    (start depth marks_room marks_room' entries_room : ℕ) →
    AreParts opened slots trail starts depth marks_room entries_room → starts' ≡ starts ++ start ∷ [] → start ≡ length trail → length starts < depth →
    marks_room ≤ marks_room' →
    AreParts opened slots trail starts' depth marks_room' entries_room
AreParts-mark opened slots trail starts starts' start depth marks_room marks_room' entries_room h more top room grown =
    rw (more, top) (record {
      width = h.width;
      marks = omega (arith, length-append starts (length trail ∷ []), room);
      marks_fit = omega (arith, h.marks_fit, grown);
      entries_fit = h.entries_fit;
      levels = subst (Levels trail slots) (sym (reverse-latest starts (length trail))) (Levels-mark trail slots (reverse starts) h.levels);
    })

pub marks-mark : {L : Type 0} (slots : List (Slot L)) (trail : List (Entry L)) (starts starts' : List ℕ) (start : ℕ) → starts' ≡ starts ++ start ∷ [] →
    start ≡ length trail →
    map (cells_at trail slots) (reverse starts') ≡ cells_of slots ∷ map (cells_at trail slots) (reverse starts)
marks-mark slots trail starts starts' start more top =
    ap (λ ss. map (cells_at trail slots) (reverse ss)) more
    ∙ ap (map (cells_at trail slots)) (reverse-latest starts start)
    ∙ ap (λ es. cells_of (undone es slots) ∷ map (cells_at trail slots) (reverse starts)) (drop_all start trail (omega (arith, top)))
    ∙ ap (λ ss. cells_of ss ∷ map (cells_at trail slots) (reverse starts)) (undone-none slots)

-- ---- the way back

latest_first : {L : Type 0} (trail : List (Entry L)) (slots : List (Slot L)) (starts starts' : List ℕ) (start : ℕ) → Levels trail slots (reverse starts) →
    starts ≡ starts' ++ start ∷ [] →
    Levels trail slots (start ∷ reverse starts')
latest_first trail slots starts starts' start h less = subst (Levels trail slots) (ap reverse less ∙ reverse-latest starts' start) h

pub places-back : {L : Type 0} (trail : List (Entry L)) (slots : List (Slot L)) (starts starts' : List ℕ) (start : ℕ) → Levels trail slots (reverse starts) →
    starts ≡ starts' ++ start ∷ [] →
    All (IsIn (length slots)) (drop start trail)
places-back trail slots starts starts' start h less = places_since trail slots start (reverse starts') (latest_first trail slots starts starts' start h less)

pub AreParts-back : {L : Type 0} (opened : List L) (slots slots' : List (Slot L)) (trail trail' : List (Entry L)) (starts starts' : List ℕ)
    (start depth marks_room marks_room' entries_room entries_room' : ℕ) →
    AreParts opened slots trail starts depth marks_room entries_room → starts ≡ starts' ++ start ∷ [] → slots' ≡ undone (drop start trail) slots →
    trail' ≡ take start trail →
    marks_room ≤ marks_room' → entries_room ≤ entries_room' → AreParts opened slots' trail' starts' depth marks_room' entries_room'
AreParts-back opened slots slots' trail trail' starts starts' start depth marks_room marks_room' entries_room entries_room' h less s t grown more =
    let long = length-undone (drop start trail) slots in
    rw (s, t) (record {
      width = h.width ∙ sym long;
      marks = omega (arith, h.marks, ap length less, length-append starts' (start ∷ []));
      marks_fit = omega (arith, h.marks_fit, grown);
      entries_fit = rw long (omega (arith, h.entries_fit, more));
      levels = earlier_levels trail slots start (reverse starts') (latest_first trail slots starts starts' start h.levels less);
    })

pub marks-back : {L : Type 0} (slots slots' : List (Slot L)) (trail trail' : List (Entry L)) (starts starts' : List ℕ) (start : ℕ) →
    Levels trail slots (reverse starts) → starts ≡ starts' ++ start ∷ [] →
    slots' ≡ undone (drop start trail) slots → trail' ≡ take start trail →
    map (cells_at trail slots) (reverse starts) ≡ cells_of slots' ∷ map (cells_at trail' slots') (reverse starts')
marks-back slots slots' trail trail' starts starts' start h less s t =
    rw (s, t) (ap (λ ss. map (cells_at trail slots) ss) (ap reverse less ∙ reverse-latest starts' start)
    ∙ ap (λ rest. cells_at trail slots start ∷ rest) (sym (cells_at-back trail slots start (reverse starts')
    (latest_first trail slots starts starts' start h less))))

-- ---- a write

-- the write of a cell at the level of the marks
pub AreParts-write : {L : Type 0} (opened : List L) (slots : List (Slot L)) (trail trail' : List (Entry L)) (starts : List ℕ)
    (at level depth marks_room entries_room entries_room' : ℕ) (before next : Slot L) →
    AreParts opened slots trail starts depth marks_room entries_room → slice_get slots at ≡ Some before → level ≡ length starts → next.level ≡ level →
    trail' ≡ entered level at before trail →
    entries_room ≤ entries_room' → AreParts opened (slice_set slots at next) trail' starts depth marks_room entries_room'
AreParts-write opened slots trail trail' starts at level depth marks_room entries_room entries_room' before next h got top same t more =
    let long = length-set slots at next in
    let high = top ∙ sym (length-reverse starts) in
    rw t (record {
      width = h.width ∙ sym long;
      marks = h.marks;
      marks_fit = h.marks_fit;
      entries_fit = rw long (omega (arith, h.entries_fit, more));
      levels = subst (λ n. Levels (entered n at before trail) (slice_set slots at next) (reverse starts)) (sym high)
          (Levels-write trail slots (reverse starts) at before next h.levels got (same ∙ high)).levels;
    })

pub marks-write : {L : Type 0} (slots : List (Slot L)) (trail trail' : List (Entry L)) (starts : List ℕ) (at level : ℕ) (before next : Slot L) →
    Levels trail slots (reverse starts) →
    slice_get slots at ≡ Some before → level ≡ length starts → next.level ≡ level → trail' ≡ entered level at before trail →
    map (cells_at trail' (slice_set slots at next)) (reverse starts) ≡ map (cells_at trail slots) (reverse starts)
marks-write slots trail trail' starts at level before next h got top same t =
    let high = top ∙ sym (length-reverse starts) in
    ap (λ es. map (cells_at es (slice_set slots at next)) (reverse starts)) (t ∙ ap (λ n. entered n at before trail) high)
    ∙ (Levels-write trail slots (reverse starts) at before next h got (same ∙ high)).marks

pub entry_fits-write : {L : Type 0} (opened : List L) (slots : List (Slot L)) (trail : List (Entry L)) (starts : List ℕ)
    (at level depth marks_room entries_room : ℕ) (before : Slot L) →
    AreParts opened slots trail starts depth marks_room entries_room → slice_get slots at ≡ Some before → level ≡ length starts → before.level < level →
    length trail < entries_room
entry_fits-write opened slots trail starts at level depth marks_room entries_room before h got top below =
    let long = length-reverse starts in
    entry_fits trail slots (reverse starts) at before depth entries_room h.levels got (omega (arith, h.marks, long)) h.entries_fit (omega
    (arith, long, top, below))

-- ---- what callers see

marks_long : {L : Type 0} (n : ℕ) (trail : List (Entry L)) (slots : List (Slot L)) (starts : List ℕ) → length slots ≡ n →
    All (λ mark. length mark ≡ n) (map (cells_at trail slots) starts)
marks_long {L = L} n trail slots [] e = All-nil (λ (mark : List L). length mark ≡ n)
marks_long {L = L} n trail slots (start ∷ starts) e =
    All-cons (λ (mark : List L). length mark ≡ n) (cells_at trail slots start) (map (cells_at trail slots) starts)
    (length-map (undone (drop start trail) slots) value_of ∙ length-undone (drop start trail) slots ∙ e) (marks_long n trail slots starts e)

-- the row that the parts are seen as
abbrev row_of : {L : Type 0} → List L → List (Slot L) → List (Entry L) → List ℕ → ℕ → RowOf L
row_of opened slots trail starts depth = record { opened = opened; cells = cells_of slots; marks = map (cells_at trail slots) (reverse starts); depth = depth }

pub IsRow-parts : {L : Type 0} (opened : List L) (slots : List (Slot L)) (trail : List (Entry L)) (starts : List ℕ) (depth marks_room entries_room : ℕ) →
    AreParts opened slots trail starts depth marks_room entries_room → IsRow (row_of opened slots trail starts depth)
IsRow-parts opened slots trail starts depth marks_room entries_room h = record {
  opened = h.width ∙ sym (length-map slots value_of);
  marks = marks_long (length (cells_of slots)) trail slots (reverse starts) (sym (length-map slots value_of));
  room = omega (arith, h.marks, length-map (reverse starts) (cells_at trail slots), length-reverse starts);
}
