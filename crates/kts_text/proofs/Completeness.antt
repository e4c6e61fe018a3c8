-- What the grammar has is read.
use Rattle.std.proofs.Common.{◌≡◌, ◌≢◌, refl, sym, ◌∙◌, ap, ℕ, suc, ◌+◌, ◌-◌, ◌<◌, ◌≤◌, List, [], ◌∷◌, ◌++◌, length, append_assoc, ◌⊎◌, inl, inr, Ok, Err, arith}
use Rattle.std.specs.List.{AllByRecursion}
use Rattle.std.proofs.lemmas.List.{append-nil, length-append}
use Rattle.kts_base.specs.Limits.{most_atom_bytes, most_nesting}
use Rattle.kts_text.specs.Bytes.{class, close_parenthesis, line_feed, open_parenthesis, semicolon}
use Rattle.kts_text.specs.Ends.{fill, filled, nodes_read}
use Rattle.kts_text.specs.Forest.{Forest, none, atom, list, atom_node, flat, list_node}
use Rattle.kts_text.specs.Grammar.{IsLast, IsLine, IsText, NoAtom, Text, TreesOf, comment, forest, letters, nested, nothing, spelled, white}
use Rattle.kts_text.specs.Scan.{Ending, Read, after_nodes, closed, letter_more, letters_in_front, opened, outside, scan, step, with_node}
use Rattle.kts_text.specs.declared.class.Class.{Class}
use Rattle.kts_text.specs.declared.class.Class.TheVariants.{White, Semicolon, Open, Close, Letter, Bad}
use Rattle.kts_text.specs.declared.node.Node.{Node}
use Rattle.kts_text.specs.declared.scan.Mode.{Mode}
use Rattle.kts_text.specs.declared.scan.Mode.TheVariants as modes
use Rattle.kts_text.proofs.Steps.{comment_ends, comment_on, not_deep, not_extra, first_letter, later_letter}
use Rattle.kts_text.proofs.WholeFiles.{ends_with}

-- the nodes of a text
abbrev pub nodes : ℕ → ℕ → Text → List Node
nodes at d t = flat d (forest at t)

-- what was read, with these nodes in front
abbrev pub before : List Node → Read → Read
before ns (Ok p) = Ok (ns ++ p.0, after_nodes (length ns) p.1)
before ns (Err f) = Err f

after_none : (es : List Ending) → after_nodes 0 es ≡ es
after_none [] = refl
after_none (e ∷ es) = let h : 0 + e.nodes ≡ e.nodes = omega arith in rw (h, after_none es) refl

after_both : (m n : ℕ) (es : List Ending) → after_nodes m (after_nodes n es) ≡ after_nodes (m + n) es
after_both m n [] = refl
after_both m n (e ∷ es) = let h : m + (n + e.nodes) ≡ m + n + e.nodes = omega arith in rw (h, after_both m n es) refl

before_none : (r : Read) → before [] r ≡ r
before_none (Ok p) = ap (λ (es : List Ending). Ok (p.0, es)) (after_none p.1)
before_none (Err f) = refl

-- ---- one byte in front

pub white_in : (n d at b : ℕ) (bs : List ℕ) → class b ≡ White → scan (modes.Outside n) d at (b ∷ bs) ≡ scan (modes.Outside 0) d (at + 1) bs
unfolding scan step outside
white_in n d at b bs e = rw e refl

semicolon_in : (n d at : ℕ) (bs : List ℕ) → scan (modes.Outside n) d at (semicolon ∷ bs) ≡ scan modes.Comment d (at + 1) bs
unfolding scan step outside class
semicolon_in n d at bs = refl

line_in : (d at b : ℕ) (bs : List ℕ) → (b ≡ line_feed → ⊥) → scan modes.Comment d at (b ∷ bs) ≡ scan modes.Comment d (at + 1) bs
unfolding scan
line_in d at b bs h = comment_on b d at (letters_in_front (b ∷ bs)) (λ n e. scan n e (at + 1) bs) h

pub line_end_in : (d at : ℕ) (bs : List ℕ) → scan modes.Comment d at (line_feed ∷ bs) ≡ scan (modes.Outside 0) d (at + 1) bs
unfolding scan
line_end_in d at bs = comment_ends line_feed d at (letters_in_front (line_feed ∷ bs)) (λ n e. scan n e (at + 1) bs) refl

open_in : (n d at : ℕ) (bs : List ℕ) → (d ≡ most_nesting → ⊥) → scan (modes.Outside n) d at (open_parenthesis ∷ bs) ≡ opened at d (scan (modes.Outside 0) (d + 1) (at + 1) bs)
unfolding scan step class
open_in n d at bs h = not_deep n d at (letters_in_front (open_parenthesis ∷ bs)) (λ n e. scan n e (at + 1) bs) h

pub close_in : (n d at : ℕ) (bs : List ℕ) → scan (modes.Outside n) (d + 1) at (close_parenthesis ∷ bs) ≡ closed (at + 1) (scan (modes.Outside 0) d (at + 1) bs)
unfolding scan step class
close_in n d at bs =
    let e : d + 1 - 1 ≡ d = omega arith in
    not_extra n (d + 1) at (letters_in_front (close_parenthesis ∷ bs)) (λ n e. scan n e (at + 1) bs) (λ h. omega arith) ∙ rw e refl

pub first_in : (d at b : ℕ) (bs : List ℕ) → class b ≡ Letter → scan (modes.Outside 0) d at (b ∷ bs) ≡ with_node (atom_node at (at + letters_in_front (b ∷ bs)) d) (scan (modes.Outside 1) d (at + 1) bs)
unfolding scan step outside
first_in d at b bs e = rw e (first_letter 0 d at (letters_in_front bs + 1) (scan (modes.Outside 1) d (at + 1) bs) refl)

later_in : (n d at b : ℕ) (bs : List ℕ) → class b ≡ Letter → n < most_atom_bytes → (n ≡ 0 → ⊥) → scan (modes.Outside n) d at (b ∷ bs) ≡ scan (modes.Outside (n + 1)) d (at + 1) bs
unfolding scan step outside
later_in n d at b bs e h g = rw e (later_letter n d at (letters_in_front bs + 1) (scan (modes.Outside (n + 1)) d (at + 1) bs) h g)

-- where no letter stands in front, the bytes of the atom before don't count
no_letter : (n d at len : ℕ) (k : Class) (go : Mode → ℕ → Read) (m : ℕ) → letter_more k m ≡ 0 → outside n k d at len go ≡ outside 0 k d at len go
unfolding outside
no_letter n d at len White go m h = refl
no_letter n d at len Semicolon go m h = refl
no_letter n d at len Open go m h = refl
no_letter n d at len Close go m h = refl
no_letter n d at len Letter go m h = absurd (omega arith)
no_letter n d at len Bad go m h = refl

atom_over : (n d at : ℕ) (bs : List ℕ) → letters_in_front bs ≡ 0 → scan (modes.Outside n) d at bs ≡ scan (modes.Outside 0) d at bs
unfolding scan step
atom_over n d at [] h = refl
atom_over n d at (b ∷ bs) h = no_letter n d at (letters_in_front (b ∷ bs)) (class b) (λ m e. scan m e (at + 1) bs) (letters_in_front bs) h

-- ---- many bytes in front

moved : (m : Mode) (d i j : ℕ) (bs : List ℕ) → i ≡ j → scan m d i bs ≡ scan m d j bs
moved m d i j bs e = ap (λ (k : ℕ). scan m d k bs) e

line : (c : List ℕ) (d at : ℕ) (bs : List ℕ) → IsLine c → scan modes.Comment d at (c ++ line_feed ∷ bs) ≡ scan (modes.Outside 0) d (at + length c + 1) bs
line [] d at bs h = line_end_in d at bs ∙ moved (modes.Outside 0) d (at + 1) (at + 0 + 1) bs (omega arith)
line (b ∷ c) d at bs h = line_in d at b (c ++ line_feed ∷ bs) h.0 ∙ line c d (at + 1) bs h.1 ∙ moved (modes.Outside 0) d (at + 1 + length c + 1) (at + suc (length c) + 1) bs (omega arith)

letters_over : (a : List ℕ) (n d at : ℕ) (bs : List ℕ) → AllByRecursion (λ b. class b ≡ Letter) a → 0 < n → n + length a ≤ most_atom_bytes → scan (modes.Outside n) d at (a ++ bs) ≡ scan (modes.Outside (n + length a)) d (at + length a) bs
letters_over [] n d at bs h k l = let e : n ≡ n + 0 = omega arith in let f : at ≡ at + 0 = omega arith in rw (← e, ← f) refl
letters_over (b ∷ a) n d at bs h k l =
    let e : n + 1 + length a ≡ n + suc (length a) = omega arith in
    let f : at + 1 + length a ≡ at + suc (length a) = omega arith in
    later_in n d at b (a ++ bs) h.0 (omega arith) (λ z. omega arith) ∙ letters_over a (n + 1) d (at + 1) bs h.1 (omega arith) (omega arith) ∙ rw (e, f) refl

letters_counted : (a bs : List ℕ) → AllByRecursion (λ b. class b ≡ Letter) a → letters_in_front bs ≡ 0 → letters_in_front (a ++ bs) ≡ length a
letters_counted [] bs h e = e
letters_counted (b ∷ a) bs h e = rw h.0 (omega (arith, letters_counted a bs h.1 e))

pub no_letters_in_front : (t : Text) (room : ℕ) (more : List ℕ) → IsText room t → NoAtom t → letters_in_front more ≡ 0 → letters_in_front (spelled t ++ more) ≡ 0
unfolding class
no_letters_in_front nothing room more h g e = e
no_letters_in_front (white b t) room more h g e = rw h.0 refl
no_letters_in_front (comment c t) room more h g e = refl
no_letters_in_front (letters a t) room more h g e = absurd g
no_letters_in_front (nested u t) room more h g e = refl

-- ---- a text in front

with_before : (x : Node) (ns : List Node) (r : Read) → with_node x (before ns r) ≡ before (x ∷ ns) r
with_before x ns (Ok p) =
    let h : 1 + length ns ≡ suc (length ns) = omega arith in
    ap (λ (es : List Ending). Ok (x ∷ (ns ++ p.0), es)) (after_both 1 (length ns) p.1 ∙ ap (λ (n : ℕ). after_nodes n p.1) h)
with_before x ns (Err f) = refl

closed_list : (at e d : ℕ) (us ns : List Node) (r : Read) → opened at d (before us (closed e (before ns r))) ≡ before (list_node at e (length us) d ∷ (us ++ ns)) r
closed_list at e d us ns (Ok p) =
    let h : 1 + (length us + length ns) ≡ suc (length (us ++ ns)) = omega (arith, length-append us ns) in
    let ends : after_nodes 1 (after_nodes (length us) (after_nodes (length ns) p.1)) ≡ after_nodes (suc (length (us ++ ns))) p.1 =
    ap (after_nodes 1) (after_both (length us) (length ns) p.1) ∙ after_both 1 (length us + length ns) p.1 ∙ ap (λ (n : ℕ). after_nodes n p.1) h in
    let count : length us + 0 ≡ length us = omega arith in
    rw count (ap (λ (ms : List Node). Ok (list_node at e (length us) d ∷ ms, after_nodes 1 (after_nodes (length us) (after_nodes (length ns) p.1)))) (sym (append_assoc us ns p.0)))
    ∙ ap (λ (es : List Ending). Ok (list_node at e (length us) d ∷ ((us ++ ns) ++ p.0), es)) ends
closed_list at e d us ns (Err f) = refl

Before : Text → ℕ → Type 0
Before t n = (n ≡ 0) ⊎ NoAtom t

read_text : (t : Text) (n d at room : ℕ) (more : List ℕ) → IsText room t → d + room ≡ most_nesting → Before t n → letters_in_front more ≡ 0 → scan (modes.Outside n) d at (spelled t ++ more) ≡ before (nodes at d t) (scan (modes.Outside 0) d (at + length (spelled t)) more)
unfolding Before class
read_text nothing n d at room more h e g stop =
    let f : at ≡ at + 0 = omega arith in
    atom_over n d at more stop ∙ moved (modes.Outside 0) d at (at + 0) more f ∙ sym (before_none (scan (modes.Outside 0) d (at + 0) more))
read_text (white b t) n d at room more h e g stop =
    white_in n d at b (spelled t ++ more) h.0 ∙ read_text t 0 d (at + 1) room more h.1 e (inl refl) stop
    ∙ ap (before (nodes (at + 1) d t)) (moved (modes.Outside 0) d (at + 1 + length (spelled t)) (at + suc (length (spelled t))) more (omega arith))
read_text (comment c t) n d at room more h e g stop =
    let i : at + 1 + length c + 1 ≡ at + length c + 2 = omega arith in
    ap (λ (bs : List ℕ). scan (modes.Outside n) d at (semicolon ∷ bs)) (append_assoc c (line_feed ∷ spelled t) more)
    ∙ semicolon_in n d at (c ++ line_feed ∷ (spelled t ++ more)) ∙ line c d (at + 1) (spelled t ++ more) h.0
    ∙ moved (modes.Outside 0) d (at + 1 + length c + 1) (at + length c + 2) (spelled t ++ more) i
    ∙ read_text t 0 d (at + length c + 2) room more h.1 e (inl refl) stop
    ∙ ap (before (nodes (at + length c + 2) d t)) (moved (modes.Outside 0) d (at + length c + 2 + length (spelled t)) (at + suc (length (c ++ line_feed ∷ spelled t))) more (omega (arith, length-append {A = ℕ} c (line_feed ∷ spelled t))))
read_text (letters [] t) n d at room more h e g stop = absurd (omega (arith, h.0.some))
read_text (letters (b ∷ a) t) n d at room more h e (inr g) stop = absurd g
read_text (letters (b ∷ a) t) n d at room more h e (inl g) stop =
    let rest = spelled t ++ more in
    let stops = no_letters_in_front t room more h.2 h.1 stop in
    let all = h.0.letters in
    let first = first_in d at b (a ++ rest) all.0 in
    let size : letters_in_front (b ∷ (a ++ rest)) ≡ suc (length a) = letters_counted (b ∷ a) rest all stops in
    let over : scan (modes.Outside 1) d (at + 1) (a ++ rest) ≡ scan (modes.Outside (1 + length a)) d (at + 1 + length a) rest = letters_over a 1 d (at + 1) rest all.1 (omega arith) (omega (arith, h.0.few)) in
    let i : at + 1 + length a ≡ at + suc (length a) = omega arith in
    let then = read_text t (1 + length a) d (at + suc (length a)) room more h.2 e (inr h.1) stop in
    let end = moved (modes.Outside 0) d (at + suc (length a) + length (spelled t)) (at + suc (length (a ++ spelled t))) more (omega (arith, length-append {A = ℕ} a (spelled t))) in
    let x : Node = atom_node at (at + suc (length a)) d in
    ap (λ (bs : List ℕ). scan (modes.Outside n) d at (b ∷ bs)) (append_assoc a (spelled t) more)
    ∙ ap (λ (k : ℕ). scan (modes.Outside k) d at (b ∷ (a ++ rest))) g
    ∙ first ∙ ap (λ (k : ℕ). with_node (atom_node at (at + k) d) (scan (modes.Outside 1) d (at + 1) (a ++ rest))) size
    ∙ ap (with_node x) (over ∙ moved (modes.Outside (1 + length a)) d (at + 1 + length a) (at + suc (length a)) rest i ∙ then ∙ ap (before (nodes (at + suc (length a)) d t)) end)
    ∙ with_before x (nodes (at + suc (length a)) d t) (scan (modes.Outside 0) d (at + suc (length (a ++ spelled t))) more)
read_text (nested u t) n d at room more h e g stop =
    let rest = spelled t ++ more in
    let k = length (spelled u) in
    let inner = read_text u 0 (d + 1) (at + 1) (room - 1) (close_parenthesis ∷ rest) h.1 (omega (arith, h.0)) (inl refl) (close_stops rest) in
    let i : at + 1 + k + 1 ≡ at + k + 2 = omega arith in
    let outer = read_text t 0 d (at + k + 2) room more h.2 e (inl refl) stop in
    let end = moved (modes.Outside 0) d (at + k + 2 + length (spelled t)) (at + suc (length (spelled u ++ close_parenthesis ∷ spelled t))) more (omega (arith, length-append {A = ℕ} (spelled u) (close_parenthesis ∷ spelled t))) in
    let last = close_in 0 d (at + 1 + k) rest ∙ ap (λ (j : ℕ). closed j (scan (modes.Outside 0) d j rest)) i ∙ ap (closed (at + k + 2)) (outer ∙ ap (before (nodes (at + k + 2) d t)) end) in
    ap (λ (bs : List ℕ). scan (modes.Outside n) d at (open_parenthesis ∷ bs)) (append_assoc (spelled u) (close_parenthesis ∷ spelled t) more)
    ∙ open_in n d at (spelled u ++ close_parenthesis ∷ rest) (λ z. omega (arith, h.0))
    ∙ ap (opened at d) (inner ∙ ap (before (nodes (at + 1) (d + 1) u)) last)
    ∙ closed_list at (at + k + 2) d (nodes (at + 1) (d + 1) u) (nodes (at + k + 2) d t) (scan (modes.Outside 0) d (at + suc (length (spelled u ++ close_parenthesis ∷ spelled t))) more)
  where
    close_stops : (bs : List ℕ) → letters_in_front (close_parenthesis ∷ bs) ≡ 0
    close_stops bs = refl

-- ---- the whole

to_end : (c : List ℕ) (at : ℕ) → IsLine c → scan modes.Comment 0 at c ≡ Ok ([], [])
unfolding scan
to_end [] at h = refl
to_end (b ∷ c) at h = line_in 0 at b c h.0 ∙ to_end c (at + 1) h.1

last_read : (c : List ℕ) (at : ℕ) → IsLast c → scan (modes.Outside 0) 0 at c ≡ Ok ([], [])
unfolding scan
last_read [] at h = refl
last_read (b ∷ c) at h = ap (λ (k : ℕ). scan (modes.Outside 0) 0 at (k ∷ c)) h.0 ∙ semicolon_in 0 0 at c ∙ to_end c (at + 1) h.1

last_stops : (c : List ℕ) → IsLast c → letters_in_front c ≡ 0
unfolding class
last_stops [] h = refl
last_stops (b ∷ c) h = rw h.0 refl

pub spelled_read : (t : Text) (c : List ℕ) → IsText most_nesting t → IsLast c → scan (modes.Outside 0) 0 0 (spelled t ++ c) ≡ Ok (nodes 0 0 t ++ [], [])
unfolding Before
spelled_read t c h l = read_text t 0 0 0 most_nesting c h (omega arith) (inl refl) (last_stops c l) ∙ ap (before (nodes 0 0 t)) (last_read c (0 + length (spelled t)) l)

filled_read : (ns : List Node) → filled [] [] (Ok (ns ++ [], [])) ≡ Ok ns
unfolding fill
filled_read ns = ap Ok (append-nil ns)

pub no_nodes : (depth : ℕ) (trees : Forest) → trees ≢ none → length (flat depth trees) ≡ 0 → ⊥
no_nodes depth none some e = some refl
no_nodes depth (atom at bytes after) some e = absurd (omega arith)
no_nodes depth (list start end inside after) some e = absurd (omega arith)

pub complete : (bytes : List ℕ) (trees : Forest) → TreesOf bytes trees → nodes_read bytes ≡ Ok (flat 0 trees)
complete bytes trees x =
    let s = x.0 in
    let read : scan (modes.Outside 0) 0 0 bytes ≡ Ok (flat 0 trees ++ [], []) = rw (s.4, s.5) (spelled_read s.0 s.1 s.2 s.3) in
    ends_with bytes (flat 0 trees) (ap (filled [] []) read ∙ filled_read (flat 0 trees)) (no_nodes 0 trees x.1)
