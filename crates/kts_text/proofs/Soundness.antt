-- What is read is in the grammar.
use Rattle.std.proofs.Common.{◌≡◌, refl, sym, ◌∙◌, ap, subst, ℕ, zero, suc, ◌+◌, ◌-◌, ◌<◌, ◌≤◌, List, [], ◌∷◌, ◌++◌, length, append_assoc, ◌⊎◌, inl, inr, Ok, Err, arith}
use Rattle.std.specs.List.{AllByRecursion}
use Rattle.std.proofs.lemmas.Bool.{cases_eq, cases_lt}
use Rattle.std.proofs.lemmas.Bool.Decides.{nat_tests}
use Rattle.kts_base.specs.Limits.{most_atom_bytes, most_nesting}
use Rattle.kts_text.specs.Bytes.{class, close_parenthesis, line_feed, open_parenthesis, semicolon}
use Rattle.kts_text.specs.Ends.{fill, filled, nodes_read, not_empty, some_nodes}
use Rattle.kts_text.specs.Forest.{Forest, none, atom, list, flat}
use Rattle.kts_text.specs.Grammar.{IsLast, IsLine, IsText, NoAtom, Text, TreesOf, comment, forest, letters, nested, nothing, spelled, white}
use Rattle.kts_text.specs.Scan.{Ending, Read, closed, letter, letters_in_front, opened, outside, scan, step, with_node}
use Rattle.kts_text.specs.declared.class.Class.{Class}
use Rattle.kts_text.specs.declared.class.Class.TheVariants.{White, Semicolon, Open, Close, Letter, Bad}
use Rattle.kts_text.specs.declared.node.Node.{Node}
use Rattle.kts_text.specs.declared.scan.Mode.{Mode}
use Rattle.kts_text.specs.declared.scan.Mode.TheVariants as modes
use Rattle.std.proofs.lemmas.List.{append-nil}
use Rattle.kts_text.proofs.Completeness.{nodes, spelled_read}
use Rattle.kts_text.proofs.Steps.{comment_ends, comment_on, deep, not_deep, extra, not_extra, long_atom, first_letter, later_letter}

-- what stands after the text at this depth: the closing, and the text of the list around
Tail : ℕ → List ℕ → Type 0
Tail zero tail = IsLast tail
Tail (suc d) tail = (t : Text) × (rest : List ℕ) × IsText (most_nesting - d) t × (tail ≡ close_parenthesis ∷ (spelled t ++ rest)) × Tail d rest

record Rest (d : ℕ) (bytes : List ℕ) : Type 0 where
  text : Text
  tail : List ℕ
  ok : IsText (most_nesting - d) text
  is : bytes ≡ spelled text ++ tail
  end : Tail d tail

-- and no atom stands in front
record Free (d : ℕ) (bytes : List ℕ) : Type 0 where
  rest : Rest d bytes
  no_atom : NoAtom rest.text

-- the rest of an atom, and what stands after it
record Within (n d : ℕ) (bytes : List ℕ) : Type 0 where
  front : List ℕ
  after : List ℕ
  ok : AllByRecursion (λ b. class b ≡ Letter) front
  few : n + length front ≤ most_atom_bytes
  is : bytes ≡ front ++ after
  free : Free d after

-- the rest of a comment
Line : ℕ → List ℕ → Type 0
Line d bytes = ((d ≡ 0) × IsLine bytes) ⊎ (c : List ℕ) × (after : List ℕ) × IsLine c × (bytes ≡ c ++ line_feed ∷ after) × Rest d after

After : Mode → ℕ → List ℕ → Type 0
After modes.Comment d bytes = Line d bytes
After (modes.Outside zero) d bytes = Rest d bytes
After (modes.Outside (suc n)) d bytes = Within (suc n) d bytes

abbrev pub Pair : Type 0
Pair = List Node × List Ending

opened_ok : (at d : ℕ) (r : Read) (p : Pair) → opened at d r ≡ Ok p → (q : Pair) × (r ≡ Ok q)
opened_ok at d (Ok q) p e = (q, refl)
opened_ok at d (Err f) p e = absurd cc

closed_ok : (at : ℕ) (r : Read) (p : Pair) → closed at r ≡ Ok p → (q : Pair) × (r ≡ Ok q)
closed_ok at (Ok q) p e = (q, refl)
closed_ok at (Err f) p e = absurd cc

node_ok : (x : Node) (r : Read) (p : Pair) → with_node x r ≡ Ok p → (q : Pair) × (r ≡ Ok q)
node_ok x (Ok q) p e = (q, refl)
node_ok x (Err f) p e = absurd cc

is_semicolon : (b : ℕ) → class b ≡ Semicolon → b ≡ semicolon
unfolding class
is_semicolon b e = grind (arith, nat_tests)

is_open : (b : ℕ) → class b ≡ Open → b ≡ open_parenthesis
unfolding class
is_open b e = grind (arith, nat_tests)

is_close : (b : ℕ) → class b ≡ Close → b ≡ close_parenthesis
unfolding class
is_close b e = grind (arith, nat_tests)

nothing_left : (d : ℕ) → d ≡ 0 → Free d []
unfolding Tail
nothing_left zero e = record { rest = record { text = nothing; tail = []; ok = tt; is = refl; end = tt }; no_atom = tt }
nothing_left (suc d) e = absurd (omega arith)

white_left : (d b : ℕ) (bs : List ℕ) → class b ≡ White → Rest d bs → Free d (b ∷ bs)
white_left d b bs e r = record { rest = record { text = white b r.text; tail = r.tail; ok = (e, r.ok); is = ap (λ (l : List ℕ). b ∷ l) r.is; end = r.end }; no_atom = tt }

last_left : (d b : ℕ) (bs : List ℕ) → b ≡ semicolon → d ≡ 0 → IsLine bs → Free d (b ∷ bs)
unfolding Tail
last_left zero b bs e z h = record { rest = record { text = nothing; tail = b ∷ bs; ok = tt; is = refl; end = (e, h) }; no_atom = tt }
last_left (suc d) b bs e z h = absurd (omega arith)

line_left : (d b : ℕ) (bs : List ℕ) → b ≡ semicolon → Line d bs → Free d (b ∷ bs)
unfolding Line
line_left d b bs e (inl h) = last_left d b bs e h.0 h.1
line_left d b bs e (inr h) = record { rest = record { text = comment h.0 h.4.text; tail = h.4.tail; ok = (h.2, h.4.ok); is = rw (e, h.3, h.4.is) (ap (λ (l : List ℕ). semicolon ∷ l) (sym (append_assoc h.0 (line_feed ∷ spelled h.4.text) h.4.tail))); end = h.4.end }; no_atom = tt }

list_left : (d b : ℕ) (bs : List ℕ) → b ≡ open_parenthesis → d < most_nesting → Rest (suc d) bs → Free d (b ∷ bs)
unfolding Tail
list_left d b bs e h r =
    let x = r.end in
    let i : most_nesting - suc d ≡ most_nesting - d - 1 = omega arith in
    let ok : IsText (most_nesting - d - 1) r.text = rw (sym i) r.ok in
    record { rest = record { text = nested r.text x.0; tail = x.1; ok = (omega arith, ok, x.2); is = rw (e, r.is, x.3) (ap (λ (l : List ℕ). open_parenthesis ∷ l) (sym (append_assoc (spelled r.text) (close_parenthesis ∷ spelled x.0) x.1))); end = x.4 }; no_atom = tt }

close_left : (d b : ℕ) (bs : List ℕ) → b ≡ close_parenthesis → Rest d bs → Free (suc d) (b ∷ bs)
unfolding Tail
close_left d b bs e r = record { rest = record { text = nothing; tail = b ∷ bs; ok = tt; is = refl; end = (r.text, r.tail, r.ok, rw (e, r.is) refl, r.end) }; no_atom = tt }

atom_left : (d b : ℕ) (bs : List ℕ) → class b ≡ Letter → Within 1 d bs → Rest d (b ∷ bs)
atom_left d b bs e w = record { text = letters (b ∷ w.front) w.free.rest.text; tail = w.free.rest.tail; ok = (record { some = omega arith; few = omega (arith, w.few); letters = (e, w.ok) }, w.free.no_atom, w.free.rest.ok); is = rw (w.is, w.free.rest.is) (ap (λ (l : List ℕ). b ∷ l) (sym (append_assoc w.front (spelled w.free.rest.text) w.free.rest.tail))); end = w.free.rest.end }

more_left : (n d b : ℕ) (bs : List ℕ) → class b ≡ Letter → Within (n + 1) d bs → Within n d (b ∷ bs)
more_left n d b bs e w = record { front = b ∷ w.front; after = w.after; ok = (e, w.ok); few = omega (arith, w.few); is = ap (λ (l : List ℕ). b ∷ l) w.is; free = w.free }

after_free : (n d : ℕ) (bytes : List ℕ) → n ≤ most_atom_bytes → Free d bytes → After (modes.Outside n) d bytes
unfolding After
after_free zero d bytes h f = f.rest
after_free (suc n) d bytes h f = record { front = []; after = bytes; ok = tt; few = omega arith; is = refl; free = f }

AtMost : Mode → Type 0
AtMost modes.Comment = Unit {0}
AtMost (modes.Outside n) = n ≤ most_atom_bytes

Ih : ℕ → List ℕ → Type 0
Ih at bs = (m : Mode) (d : ℕ) (p : Pair) → d ≤ most_nesting → AtMost m → scan m d at bs ≡ Ok p → After m d bs

letter_left : (n d at b len : ℕ) (bs : List ℕ) (p : Pair) → class b ≡ Letter → d ≤ most_nesting → n < most_atom_bytes → letter n d at len (scan (modes.Outside (n + 1)) d (at + 1) bs) ≡ Ok p → Ih (at + 1) bs → After (modes.Outside n) d (b ∷ bs)
unfolding After Ih AtMost
letter_left zero d at b len bs p e h lt q ih =
    let x = node_ok _ _ p (sym (first_letter 0 d at len (scan (modes.Outside 1) d (at + 1) bs) refl) ∙ q) in
    atom_left d b bs e (ih (modes.Outside 1) d x.0 h (omega arith) x.1)
letter_left (suc n) d at b len bs p e h lt q ih =
    let i : suc n + 1 ≡ suc (suc n) = omega arith in
    let r = sym (later_letter (suc n) d at len (scan (modes.Outside (suc n + 1)) d (at + 1) bs) lt (λ z. omega arith)) ∙ q in
    let w = ih (modes.Outside (suc (suc n))) d p h (omega arith) (subst (λ (k : ℕ). scan (modes.Outside k) d (at + 1) bs ≡ Ok p) i r) in
    more_left (suc n) d b bs e (subst (λ (k : ℕ). Within k d bs) (sym i) w)

text_left : (n d at b len : ℕ) (bs : List ℕ) (p : Pair) (k : Class) → class b ≡ k → d ≤ most_nesting → n ≤ most_atom_bytes → outside n k d at len (λ m e. scan m e (at + 1) bs) ≡ Ok p → Ih (at + 1) bs → After (modes.Outside n) d (b ∷ bs)
unfolding outside After Ih AtMost
text_left n d at b len bs p White e h l q ih = after_free n d (b ∷ bs) l (white_left d b bs e (ih (modes.Outside 0) d p h (omega arith) q))
text_left n d at b len bs p Semicolon e h l q ih = after_free n d (b ∷ bs) l (line_left d b bs (is_semicolon b e) (ih modes.Comment d p h tt q))
text_left n d at b len bs p Open e h l q ih =
    elim (cases_eq d most_nesting) [
      | inl z ↦ let f = sym (deep n d at len (λ m e. scan m e (at + 1) bs) z) ∙ q in absurd cc
      | inr z ↦
          let x = opened_ok at d (scan (modes.Outside 0) (d + 1) (at + 1) bs) p (sym (not_deep n d at len (λ m e. scan m e (at + 1) bs) z) ∙ q) in
          let i : d + 1 ≡ suc d = omega arith in
          let lt : d < most_nesting = omega arith in
          let r : Rest (suc d) bs = ih (modes.Outside 0) (suc d) x.0 (omega arith) (omega arith) (subst (λ (k : ℕ). scan (modes.Outside 0) k (at + 1) bs ≡ Ok x.0) i x.1) in
          after_free n d (b ∷ bs) l (list_left d b bs (is_open b e) lt r)
    ]
text_left n zero at b len bs p Close e h l q ih = let f = sym (extra n 0 at len (λ m e. scan m e (at + 1) bs) refl) ∙ q in absurd cc
text_left n (suc d) at b len bs p Close e h l q ih =
    let x = closed_ok (at + 1) (scan (modes.Outside 0) (suc d - 1) (at + 1) bs) p (sym (not_extra n (suc d) at len (λ m e. scan m e (at + 1) bs) (λ z. omega arith)) ∙ q) in
    let i : suc d - 1 ≡ d = omega arith in
    let r : Rest d bs = ih (modes.Outside 0) d x.0 (omega arith) (omega arith) (subst (λ (k : ℕ). scan (modes.Outside 0) k (at + 1) bs ≡ Ok x.0) i x.1) in
    after_free n (suc d) (b ∷ bs) l (close_left d b bs (is_close b e) r)
text_left n d at b len bs p Letter e h l q ih =
    elim (cases_lt n most_atom_bytes) [
      | inl lt ↦ letter_left n d at b len bs p e h lt q ih
      | inr le ↦ let f = sym (long_atom n d at len (scan (modes.Outside (n + 1)) d (at + 1) bs) le) ∙ q in absurd cc
    ]
text_left n d at b len bs p Bad e h l q ih = absurd cc

ended : (m : Mode) (d at : ℕ) (p : Pair) → scan m d at [] ≡ Ok p → d ≡ 0
unfolding scan
ended m d at p q = grind (arith, nat_tests)

left : (bs : List ℕ) (at : ℕ) → Ih at bs
unfolding Ih AtMost After Line scan step
left [] at modes.Comment d p h l q = inl (ended modes.Comment d at p q, tt)
left [] at (modes.Outside n) d p h l q = after_free n d [] l (nothing_left d (ended (modes.Outside n) d at p q))
left (b ∷ bs) at modes.Comment d p h l q =
    elim (cases_eq b line_feed) [
      | inl e ↦ inr ([], bs, tt, ap (λ (k : ℕ). k ∷ bs) e, left bs (at + 1) (modes.Outside 0) d p h (omega arith) (sym (comment_ends b d at (letters_in_front (b ∷ bs)) (λ m e. scan m e (at + 1) bs) e) ∙ q))
      | inr e ↦ more b bs d e (left bs (at + 1) modes.Comment d p h tt (sym (comment_on b d at (letters_in_front (b ∷ bs)) (λ m e. scan m e (at + 1) bs) e) ∙ q))
    ]
  where
    more : (b : ℕ) (bs : List ℕ) (d : ℕ) → (b ≡ line_feed → ⊥) → Line d bs → Line d (b ∷ bs)
    more b bs d e (inl h) = inl (h.0, (e, h.1))
    more b bs d e (inr h) = inr (b ∷ h.0, h.1, (e, h.2), ap (λ (l : List ℕ). b ∷ l) h.3, h.4)
left (b ∷ bs) at (modes.Outside n) d p h l q = text_left n d at b (letters_in_front (b ∷ bs)) bs p (class b) refl h l q (left bs (at + 1))

-- what is read as a whole is spelled so
pub spells : (bytes : List ℕ) (p : Pair) → scan (modes.Outside 0) 0 0 bytes ≡ Ok p → (t : Text) × (c : List ℕ) × IsText most_nesting t × IsLast c × (bytes ≡ spelled t ++ c)
unfolding Ih AtMost After Tail
spells bytes p q =
    let r = left bytes 0 (modes.Outside 0) 0 p (omega arith) (omega arith) q in
    (r.text, r.tail, r.ok, r.end, r.is)

pub ok_pair : (p q : Pair) (r : Read) → r ≡ Ok p → r ≡ Ok q → p.0 ≡ q.0
ok_pair p q r e f = ap (λ (x : Pair). x.0) (ok_same p q (sym e ∙ f))
  where
    done : Pair → Read
    done x = Ok x

    ok_same : (p q : Pair) → done p ≡ done q → p ≡ q
    ok_same p q e = cc

from_some : (at : ℕ) (ms ns : List Node) → some_nodes at ms ≡ Ok ns → (ms ≡ ns) × (0 < length ms)
from_some at [] ns e = absurd cc
from_some at (m ∷ ms) ns e = (cc, omega arith)

by_read : (bytes : List ℕ) (ns : List Node) (r : Read) → scan (modes.Outside 0) 0 0 bytes ≡ r → not_empty (length bytes) (filled [] [] r) ≡ Ok ns → (trees : Forest) × TreesOf bytes trees × (ns ≡ flat 0 trees)
unfolding fill
by_read bytes ns (Err f) e q = absurd cc
by_read bytes ns (Ok p) e q =
    let s = spells bytes p e in
    let some = from_some (length bytes) p.0 ns q in
    let again = ap (scan (modes.Outside 0) 0 0) s.4 ∙ spelled_read s.0 s.1 s.2 s.3 in
    let are : p.0 ≡ nodes 0 0 s.0 = ok_pair p (nodes 0 0 s.0 ++ [], []) (scan (modes.Outside 0) 0 0 bytes) e again ∙ append-nil (nodes 0 0 s.0) in
    (forest 0 s.0, ((s.0, s.1, s.2, s.3, s.4, refl), λ z. none_left (forest 0 s.0) z (rw (← are) some.1)), sym some.0 ∙ are)
  where
    none_left : (trees : Forest) → trees ≡ none → 0 < length (flat 0 trees) → ⊥
    none_left none z h = absurd (omega arith)
    none_left (atom at bytes after) z h = absurd cc
    none_left (list start end inside after) z h = absurd cc

pub sound : (bytes : List ℕ) (ns : List Node) → nodes_read bytes ≡ Ok ns → (trees : Forest) × TreesOf bytes trees × (ns ≡ flat 0 trees)
unfolding nodes_read
sound bytes ns q = by_read bytes ns (scan (modes.Outside 0) 0 0 bytes) refl q
