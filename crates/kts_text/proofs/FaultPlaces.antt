-- The first fault is where no file can go on.
use Rattle.std.proofs.Common.{◌≡◌, refl, sym, ◌∙◌, ap, subst, ℕ, zero, suc, ◌+◌, ◌-◌, ◌<◌, ◌≤◌, List, [], ◌∷◌, ◌++◌, length, replicate, ◌⊎◌, inl, inr, Ok, Err, arith, true, false}
use Rattle.std.proofs.lemmas.Bool.{cases_eq, cases_lt}
use Rattle.kts_base.specs.Limits.{most_atom_bytes, most_nesting}
use Rattle.kts_text.specs.Bytes.{class, close_parenthesis, line_feed}
use Rattle.kts_text.specs.Ends.{fill, filled, nodes_read, not_empty, some_nodes}
use Rattle.kts_text.specs.Faults.{TreeFault, tree_fault}
use Rattle.kts_text.specs.FirstFault.{CanGoOn, kind_of, IsFirstFault}
use Rattle.kts_text.specs.Forest.{Forest, none, atom, list, flat, atom_node}
use Rattle.kts_text.specs.Grammar.{TreesOf, Spells, forest}
use Rattle.kts_text.specs.Scan.{Ending, Read, after_nodes, closed, letters_in_front, list_ended, opened, outside, scan, step, with_node}
use Rattle.std.proofs.Common.{Bool, nat_eq}
use Rattle.std.specs.Prelude.{if◌then◌else◌}
use Rattle.kts_text.specs.declared.class.Class.{Class}
use Rattle.kts_text.specs.declared.class.Class.TheVariants.{White, Semicolon, Open, Close, Letter, Bad}
use Rattle.kts_text.specs.declared.node.Node.{Node}
use Rattle.kts_text.specs.declared.fault.TreeKind.TheVariants.{Unclosed, Empty}
use Rattle.kts_text.specs.declared.scan.Mode.{Mode}
use Rattle.kts_text.specs.declared.scan.Mode.TheVariants as modes
use Rattle.std.proofs.Common.{take, get_or, append_assoc}
use Rattle.std.proofs.lemmas.List.{take_at, take_all, length-append, append-nil}
use Rattle.kts_text.proofs.Soundness.{sound, spells, ok_pair}
use Rattle.kts_text.proofs.Completeness.{nodes, complete, spelled_read, line_end_in, white_in, first_in, close_in}
use Rattle.kts_text.proofs.Steps.{comment_ends, comment_on, deep, not_deep, extra, not_extra, long_atom, first_letter, later_letter}
use Rattle.kts_text.proofs.WholeFiles.{fails_at, ends_with}

abbrev Pair : Type 0
Pair = List Node × List Ending

-- what is done to what was read: a fault stays, and no node is lost
record Wrap (w : Read → Read) : Type 0 where
  gives : (p : Pair) → (q : Pair) × (w (Ok p) ≡ Ok q) × (length p.0 ≤ length q.0)
  err : (f : TreeFault) → w (Err f) ≡ Err f

plain : Wrap (λ r. r)
plain = record { gives = λ p. (p, refl, omega arith); err = λ f. refl }

noded : (x : Node) → Wrap (with_node x)
noded x = record { gives = λ p. ((x ∷ p.0, after_nodes 1 p.1), refl, omega arith); err = λ f. refl }

closes : (e : ℕ) → Wrap (closed e)
closes e = record { gives = λ p. ((p.0, record { place = e; nodes = 0 } ∷ p.1), refl, omega arith); err = λ f. refl }

longer : (at d : ℕ) (ns : List Node) (es : List Ending) → length ns ≤ length (list_ended at d ns es).0
longer at d ns [] = omega arith
longer at d ns (e ∷ es) = omega arith

opens : (at d : ℕ) → Wrap (opened at d)
opens at d = record { gives = λ p. (list_ended at d p.0 p.1, refl, longer at d p.0 p.1); err = λ f. refl }

back : (w : Read → Read) (r : Read) (f : TreeFault) → Wrap w → w r ≡ Err f → r ≡ Err f
back w (Ok p) f h e = let g = (h.gives p).1 in let c : Ok (h.gives p).0 ≡ Err f = sym g ∙ e in absurd cc
back w (Err g) f h e = sym (h.err g) ∙ e

-- a byte goes on in another state, or is at fault whatever follows
record Leads (m : Mode) (d at b : ℕ) : Type 1 where
  mode : Mode
  depth : ℕ
  w : List ℕ → Read → Read
  wrap : (xs : List ℕ) → Wrap (w xs)
  is : (xs : List ℕ) → scan m d at (b ∷ xs) ≡ w xs (scan mode depth (at + 1) xs)

record Fails (m : Mode) (d at b : ℕ) : Type 0 where
  is : (xs : List ℕ) → scan m d at (b ∷ xs) ≡ Err (tree_fault (kind_of (class b)) at)

data Next (m : Mode) (d at b : ℕ) : Type 1 where
  leads : Leads m d at b → Next m d at b
  fails : Fails m d at b → Next m d at b

here : (n d at b : ℕ) (k : Class) (xs : List ℕ) → class b ≡ k → scan (modes.Outside n) d at (b ∷ xs) ≡ outside n k d at (letters_in_front (b ∷ xs)) (λ m e. scan m e (at + 1) xs)
unfolding scan step
here n d at b k xs e = ap (λ (j : Class). outside n j d at (letters_in_front (b ∷ xs)) (λ m e. scan m e (at + 1) xs)) e

go : ℕ → List ℕ → Mode → ℕ → Read
go at xs m e = scan m e (at + 1) xs

letter_next : (n d at b : ℕ) → class b ≡ Letter → Next (modes.Outside n) d at b
unfolding outside
letter_next n d at b e =
    elim (cases_lt n most_atom_bytes) [
      | inl lt ↦ elim (cases_eq n 0) [
        | inl z ↦ leads (record { mode = modes.Outside (n + 1); depth = d; w = λ xs. with_node (atom_node at (at + letters_in_front (b ∷ xs)) d); wrap = λ xs. noded _; is = λ xs. here n d at b Letter xs e ∙ first_letter n d at (letters_in_front (b ∷ xs)) (scan (modes.Outside (n + 1)) d (at + 1) xs) z })
        | inr z ↦ leads (record { mode = modes.Outside (n + 1); depth = d; w = λ xs r. r; wrap = λ xs. plain; is = λ xs. here n d at b Letter xs e ∙ later_letter n d at (letters_in_front (b ∷ xs)) (scan (modes.Outside (n + 1)) d (at + 1) xs) lt z })
      ]
      | inr le ↦ fails (record { is = λ xs. here n d at b Letter xs e ∙ long_atom n d at (letters_in_front (b ∷ xs)) (scan (modes.Outside (n + 1)) d (at + 1) xs) le ∙ ap (λ (k : Class). Err (tree_fault (kind_of k) at)) (sym e) })
    ]

text_next : (n d at b : ℕ) (k : Class) → class b ≡ k → Next (modes.Outside n) d at b
unfolding outside
text_next n d at b White e = leads (record { mode = modes.Outside 0; depth = d; w = λ xs r. r; wrap = λ xs. plain; is = λ xs. here n d at b White xs e })
text_next n d at b Semicolon e = leads (record { mode = modes.Comment; depth = d; w = λ xs r. r; wrap = λ xs. plain; is = λ xs. here n d at b Semicolon xs e })
text_next n d at b Open e =
    elim (cases_eq d most_nesting) [
      | inl z ↦ fails (record { is = λ xs. here n d at b Open xs e ∙ deep n d at (letters_in_front (b ∷ xs)) (λ m e. scan m e (at + 1) xs) z ∙ ap (λ (k : Class). Err (tree_fault (kind_of k) at)) (sym e) })
      | inr z ↦ leads (record { mode = modes.Outside 0; depth = d + 1; w = λ xs. opened at d; wrap = λ xs. opens at d; is = λ xs. here n d at b Open xs e ∙ not_deep n d at (letters_in_front (b ∷ xs)) (λ m e. scan m e (at + 1) xs) z })
    ]
text_next n d at b Close e =
    elim (cases_eq d 0) [
      | inl z ↦ fails (record { is = λ xs. here n d at b Close xs e ∙ extra n d at (letters_in_front (b ∷ xs)) (λ m e. scan m e (at + 1) xs) z ∙ ap (λ (k : Class). Err (tree_fault (kind_of k) at)) (sym e) })
      | inr z ↦ leads (record { mode = modes.Outside 0; depth = d - 1; w = λ xs. closed (at + 1); wrap = λ xs. closes (at + 1); is = λ xs. here n d at b Close xs e ∙ not_extra n d at (letters_in_front (b ∷ xs)) (λ m e. scan m e (at + 1) xs) z })
    ]
text_next n d at b Letter e = letter_next n d at b e
text_next n d at b Bad e = fails (record { is = λ xs. here n d at b Bad xs e ∙ ap (λ (k : Class). Err (tree_fault (kind_of k) at)) (sym e) })

next : (m : Mode) (d at b : ℕ) → Next m d at b
unfolding scan step
next modes.Comment d at b =
    elim (cases_eq b line_feed) [
      | inl e ↦ leads (record { mode = modes.Outside 0; depth = d; w = λ xs r. r; wrap = λ xs. plain; is = λ xs. comment_ends b d at (letters_in_front (b ∷ xs)) (λ m e. scan m e (at + 1) xs) e })
      | inr e ↦ leads (record { mode = modes.Comment; depth = d; w = λ xs r. r; wrap = λ xs. plain; is = λ xs. comment_on b d at (letters_in_front (b ∷ xs)) (λ m e. scan m e (at + 1) xs) e })
    ]
next (modes.Outside n) d at b = text_next n d at b (class b) refl

-- ---- every state can be closed

Made : Mode → ℕ → ℕ → List ℕ → Type 0
Made m d at xs = (q : Pair) × (scan m d at xs ≡ Ok q) × (0 < length q.0)

closers : (n d at : ℕ) → (q : Pair) × (scan (modes.Outside n) d at (replicate d close_parenthesis) ≡ Ok q)
unfolding scan
closers n zero at = (([], []), refl)
closers n (suc d) at =
    let r = closers 0 d (at + 1) in
    let i : d + 1 ≡ suc d = omega arith in
    ((r.0.0, record { place = at + 1; nodes = 0 } ∷ r.0.1), subst (λ (k : ℕ). scan (modes.Outside n) k at (close_parenthesis ∷ replicate d close_parenthesis) ≡ Ok (r.0.0, record { place = at + 1; nodes = 0 } ∷ r.0.1)) i (close_in n d at (replicate d close_parenthesis) ∙ ap (closed (at + 1)) r.1))

-- any letter will do
abbrev small_a : ℕ
small_a = 97

ending : ℕ → List ℕ
ending d = line_feed ∷ small_a ∷ replicate d close_parenthesis

made : (m : Mode) (d at : ℕ) → Made m d at (ending d)
unfolding Made ending class
made modes.Comment d at = let r = closers 1 d (at + 1 + 1) in ((_ ∷ r.0.0, after_nodes 1 r.0.1), line_end_in d at (small_a ∷ replicate d close_parenthesis) ∙ first_in d (at + 1) small_a (replicate d close_parenthesis) refl ∙ ap (with_node _) r.1, omega arith)
made (modes.Outside n) d at = let r = closers 1 d (at + 1 + 1) in ((_ ∷ r.0.0, after_nodes 1 r.0.1), white_in n d at line_feed (small_a ∷ replicate d close_parenthesis) refl ∙ first_in d (at + 1) small_a (replicate d close_parenthesis) refl ∙ ap (with_node _) r.1, omega arith)

-- ---- where a scan stops

record Stop (m : Mode) (d at : ℕ) (bytes : List ℕ) (f : TreeFault) : Type 0 where
  front : List ℕ
  deep_at : ℕ
  goes : Made m d at (front ++ ending deep_at)
  place : f.at ≡ at + length front
  why : ((bytes ≡ front) × (f.kind ≡ Unclosed)) ⊎ (b : ℕ) × (rest : List ℕ) × (bytes ≡ front ++ b ∷ rest) × (f.kind ≡ kind_of (class b)) × ((more : List ℕ) → scan m d at (front ++ b ∷ more) ≡ Err f)

abbrev none_read : Read
none_read = Ok ([], [])

at_end : (m : Mode) (d at : ℕ) (f : TreeFault) → scan m d at [] ≡ Err f → tree_fault Unclosed at ≡ f
unfolding scan
at_end m d at f e = by (nat_eq d 0) e
  where
    by : (t : Bool) → (if t then none_read else Err (tree_fault Unclosed at)) ≡ Err f → tree_fault Unclosed at ≡ f
    by true e = absurd cc
    by false e = cc

abbrev failed : TreeFault → Read
failed z = Err z

same_fault : (x y : TreeFault) (u : Read) → u ≡ failed x → u ≡ failed y → x ≡ y
same_fault x y u p q = let c : failed x ≡ failed y = sym p ∙ q in cc

made_more : (m : Mode) (d at b : ℕ) (h : Leads m d at b) (xs : List ℕ) → Made h.mode h.depth (at + 1) xs → Made m d at (b ∷ xs)
unfolding Made
made_more m d at b h xs r = let g = (h.wrap xs).gives r.0 in (g.0, h.is xs ∙ ap (h.w xs) r.1 ∙ g.1, omega (arith, g.2, r.2))

stop_by : (b : ℕ) (bs : List ℕ) (m : Mode) (d at : ℕ) (f : TreeFault) → ((m : Mode) (d at : ℕ) (f : TreeFault) → scan m d at bs ≡ Err f → Stop m d at bs f) → Next m d at b → scan m d at (b ∷ bs) ≡ Err f → Stop m d at (b ∷ bs) f
stop_by b bs m d at f ih (fails h) e =
    let is : tree_fault (kind_of (class b)) at ≡ f = same_fault _ f (scan m d at (b ∷ bs)) (h.is bs) e in
    record { front = []; deep_at = d; goes = made m d at; place = let p : f.at ≡ at = ap (λ (g : TreeFault). g.at) (sym is) in omega (arith, p); why = inr (b, bs, refl, ap (λ (g : TreeFault). g.kind) (sym is), λ more. h.is more ∙ ap Err is) }
stop_by b bs m d at f ih (leads h) e =
    let r = ih h.mode h.depth (at + 1) f (back (h.w bs) (scan h.mode h.depth (at + 1) bs) f (h.wrap bs) (sym (h.is bs) ∙ e)) in
    record {
      front = b ∷ r.front;
      deep_at = r.deep_at;
      goes = made_more m d at b h (r.front ++ ending r.deep_at) r.goes;
      place = omega (arith, r.place);
      why = elim r.why [
        | inl x ↦ inl (ap (λ (l : List ℕ). b ∷ l) x.0, x.1)
        | inr y ↦ inr (y.0, y.1, ap (λ (l : List ℕ). b ∷ l) y.2, y.3, λ more. h.is (r.front ++ y.0 ∷ more) ∙ ap (h.w (r.front ++ y.0 ∷ more)) (y.4 more) ∙ (h.wrap (r.front ++ y.0 ∷ more)).err f)
      ];
    }

stop : (bytes : List ℕ) (m : Mode) (d at : ℕ) (f : TreeFault) → scan m d at bytes ≡ Err f → Stop m d at bytes f
stop [] m d at f e =
    let is = at_end m d at f e in
    record { front = []; deep_at = d; goes = made m d at; place = let p : f.at ≡ at = ap (λ (g : TreeFault). g.at) (sym is) in omega (arith, p); why = inl (refl, ap (λ (g : TreeFault). g.kind) (sym is)) }
stop (b ∷ bs) m d at f e = stop_by b bs m d at f (stop bs) (next m d at b) e

-- what doesn't fail can go on
on_by : (b : ℕ) (bs : List ℕ) (m : Mode) (d at : ℕ) (p : Pair) → ((m : Mode) (d at : ℕ) (p : Pair) → scan m d at bs ≡ Ok p → (e : ℕ) × Made m d at (bs ++ ending e)) → Next m d at b → scan m d at (b ∷ bs) ≡ Ok p → (e : ℕ) × Made m d at ((b ∷ bs) ++ ending e)
on_by b bs m d at p ih (fails h) q = let c = sym (h.is bs) ∙ q in absurd cc
on_by b bs m d at p ih (leads h) q = by (scan h.mode h.depth (at + 1) bs) refl
  where
    by : (r : Read) → scan h.mode h.depth (at + 1) bs ≡ r → (e : ℕ) × Made m d at ((b ∷ bs) ++ ending e)
    by (Ok x) i = let r = ih h.mode h.depth (at + 1) x i in (r.0, made_more m d at b h (bs ++ ending r.0) r.1)
    by (Err f) i = let c : Err f ≡ Ok p = sym ((h.wrap bs).err f) ∙ ap (h.w bs) (sym i) ∙ sym (h.is bs) ∙ q in absurd cc

on : (bytes : List ℕ) (m : Mode) (d at : ℕ) (p : Pair) → scan m d at bytes ≡ Ok p → (e : ℕ) × Made m d at (bytes ++ ending e)
on [] m d at p q = (d, made m d at)
on (b ∷ bs) m d at p q = on_by b bs m d at p (on bs) (next m d at b) q

-- ---- the law

can_go_on : (front : List ℕ) (e : ℕ) → Made (modes.Outside 0) 0 0 (front ++ ending e) → CanGoOn front
unfolding Made fill
can_go_on front e r = let s = sound (front ++ ending e) r.0.0 (ends_with (front ++ ending e) r.0.0 (ap (filled [] []) r.1) (λ z. omega (arith, r.2))) in (ending e, s.0, s.1)

never : (bytes : List ℕ) (f : TreeFault) (trees : Forest) → scan (modes.Outside 0) 0 0 bytes ≡ Err f → TreesOf bytes trees → ⊥
never bytes f trees e t = let c = sym (fails_at bytes f (ap (filled [] []) e)) ∙ complete bytes trees t in absurd cc

never_spelled : (bytes : List ℕ) (f : TreeFault) → scan (modes.Outside 0) 0 0 bytes ≡ Err f → Spells bytes none → ⊥
never_spelled bytes f e s = let c = sym e ∙ ap (scan (modes.Outside 0) 0 0) s.4 ∙ spelled_read s.0 s.1 s.2 s.3 in absurd cc

here_is : (front : List ℕ) (b : ℕ) (rest : List ℕ) → get_or (front ++ b ∷ rest) (length front) 0 ≡ b
here_is [] b rest = refl
here_is (x ∷ front) b rest = here_is front b rest

take_more_is : (front : List ℕ) (b : ℕ) (rest : List ℕ) → take (length front + 1) (front ++ b ∷ rest) ≡ front ++ b ∷ []
take_more_is front b rest = let e : length front + 1 ≡ suc (length front) = omega arith in rw e (by front)
  where
    by : (front : List ℕ) → take (suc (length front)) (front ++ b ∷ rest) ≡ front ++ b ∷ []
    by [] = refl
    by (x ∷ front) = ap (λ (l : List ℕ). x ∷ l) (by front)

stopped_end : (front : List ℕ) (f : TreeFault) → scan (modes.Outside 0) 0 0 front ≡ Err f → CanGoOn front → f.kind ≡ Unclosed → IsFirstFault front f.kind (length front)
stopped_end front f e can k = record {
  within = omega arith;
  before = rw (all front) can;
  at_byte = λ lt. absurd (omega arith);
  at_end = λ _. (λ ns t. never front f ns e t, inr (k, never_spelled front f e));
}
  where
    all : (xs : List ℕ) → take (length xs) xs ≡ xs
    all xs = take_all (length xs) xs (omega arith)

stopped_at : (front : List ℕ) (b : ℕ) (rest : List ℕ) (f : TreeFault) → ((more : List ℕ) → scan (modes.Outside 0) 0 0 (front ++ b ∷ more) ≡ Err f) → CanGoOn front → f.kind ≡ kind_of (class b) → IsFirstFault (front ++ b ∷ rest) f.kind (length front)
stopped_at front b rest f e can k = record {
  within = omega (arith, length-append {A = ℕ} front (b ∷ rest));
  before = rw (take_at front (b ∷ rest) (length front) refl) can;
  at_byte = λ lt. (λ go. stuck (rw (take_more_is front b rest) at go), k ∙ ap (λ (x : ℕ). kind_of (class x)) (sym (here_is front b rest)));
  at_end = λ z. absurd (omega (arith, length-append {A = ℕ} front (b ∷ rest)));
}
  where
    stuck : CanGoOn (front ++ b ∷ []) → ⊥
    stuck go = never (front ++ b ∷ go.0) f go.1 (e go.0) (subst (λ (l : List ℕ). TreesOf l go.1) (append_assoc front (b ∷ []) go.0) go.2)

by_stop : (bytes : List ℕ) (f : TreeFault) → scan (modes.Outside 0) 0 0 bytes ≡ Err f → Stop (modes.Outside 0) 0 0 bytes f → IsFirstFault bytes f.kind f.at
by_stop bytes f e s =
    let at : f.at ≡ length s.front = omega (arith, s.place) in
    let can = can_go_on s.front s.deep_at s.goes in
    subst (λ (n : ℕ). IsFirstFault bytes f.kind n) (sym at) (elim s.why [
      | inl x ↦ subst (λ (l : List ℕ). IsFirstFault l f.kind (length s.front)) (sym x.0) (stopped_end s.front f (ap (scan (modes.Outside 0) 0 0) (sym x.0) ∙ e) can x.1)
      | inr y ↦ subst (λ (l : List ℕ). IsFirstFault l f.kind (length s.front)) (sym y.2) (stopped_at s.front y.0 y.1 f y.4 can y.3)
    ])

empty_of : (at : ℕ) (ms : List Node) (f : TreeFault) → some_nodes at ms ≡ Err f → (ms ≡ []) × (tree_fault Empty at ≡ f)
empty_of at [] f e = (refl, cc)
empty_of at (m ∷ ms) f e = absurd cc

no_tree : (bytes : List ℕ) (p : Pair) (f : TreeFault) → scan (modes.Outside 0) 0 0 bytes ≡ Ok p → p.0 ≡ [] → nodes_read bytes ≡ Err f → IsFirstFault bytes Empty (length bytes)
no_tree bytes p f e empty q =
    let s = spells bytes p e in
    let again = ap (scan (modes.Outside 0) 0 0) s.4 ∙ spelled_read s.0 s.1 s.2 s.3 in
    let are : [] ≡ nodes 0 0 s.0 = sym empty ∙ ok_pair p (nodes 0 0 s.0 ++ [], []) (scan (modes.Outside 0) 0 0 bytes) e again ∙ append-nil (nodes 0 0 s.0) in
    let g = on bytes (modes.Outside 0) 0 0 p e in
    record {
      within = omega arith;
      before = rw (take_all (length bytes) bytes (omega arith)) (can_go_on bytes g.0 g.1);
      at_byte = λ lt. absurd (omega arith);
      at_end = λ _. (λ ns t. clash ns t, inl (refl, (s.0, s.1, s.2, s.3, s.4, none_of (forest 0 s.0) are)));
    }
  where
    clash : (trees : Forest) → TreesOf bytes trees → ⊥
    clash trees t = let c = sym q ∙ complete bytes trees t in absurd cc

    none_of : (trees : Forest) → [] ≡ flat 0 trees → none ≡ trees
    none_of none h = refl
    none_of (atom at bytes after) h = absurd cc
    none_of (list start end inside after) h = absurd cc

by_read : (bytes : List ℕ) (f : TreeFault) (r : Read) → scan (modes.Outside 0) 0 0 bytes ≡ r → not_empty (length bytes) (filled [] [] r) ≡ Err f → nodes_read bytes ≡ Err f → IsFirstFault bytes f.kind f.at
unfolding fill
by_read bytes f (Ok p) e q all =
    let x = empty_of (length bytes) p.0 f q in
    subst (λ (g : TreeFault). IsFirstFault bytes g.kind g.at) x.1 (no_tree bytes p f e x.0 all)
by_read bytes f (Err g) e q all =
    let i : g ≡ f = cc in
    let h = e ∙ ap Err i in
    by_stop bytes f h (stop bytes (modes.Outside 0) 0 0 f h)

pub first_fault : (bytes : List ℕ) (f : TreeFault) → nodes_read bytes ≡ Err f → IsFirstFault bytes f.kind f.at
unfolding nodes_read
first_fault bytes f q = by_read bytes f (scan (modes.Outside 0) 0 0 bytes) refl q q
