-- An expression's text is read back to it.
use Rattle.std.proofs.Common.{◌≡◌, refl, sym, ◌∙◌, ap, subst, ℕ, suc, ◌+◌, ◌-◌, ◌<◌, ◌≤◌, ◌==◌, min, max, ℤ, List, [], ◌∷◌, ◌++◌, append_assoc, length, map, Bool, true, false, ◌&&◌, if◌then◌else◌, Ok, arith}
use Rattle.std.proofs.lemmas.List.{length-map, map-append}
use Rattle.std.specs.Prelude.{nat_le}
use Rattle.std.proofs.lemmas.Bool.{and_parts}
use Rattle.std.proofs.lemmas.Bool.Decides.{nat_tests}
use Rattle.kts_text.specs.Forest.{Forest, none, atom}
use Rattle.kts_text.specs.Grammar.{letters, forest}
use Rattle.kts_syntax.specs.Fitting.{is_named, is_small, expr_fits, exprs_fit, parts_fit, binder_fits, is_binder, is_empty, has_role, head_fits}
use Rattle.kts_syntax.specs.Heads.{role_in, layout_after, layout_of, has_parts}
use Rattle.kts_syntax.specs.Places.{binder_aside, head_aside, aside_step, expr_aside}
use Rattle.kts_syntax.specs.Readings.{Reading, name_at, number_at, first_name, two_names, binder, term_atom, atom_part, list_part, list_head, head_before, expr_of, no_parts, with_part, in_front, parts_in, expr}
use Rattle.kts_syntax.specs.Sizes.{count, most, expr_nest}
use Rattle.kts_syntax.specs.Texts.{spaced, list_text, listed, binder_text, head_text, text_step, expr_text}
use Rattle.kts_syntax.specs.Words.{is_word}
use Rattle.kts_syntax.specs.declared.expr.Expr.{Expr, roll-Expr}
use Rattle.kts_syntax.specs.declared.expr.Expr.TheOpen.{Expr-F}
use Rattle.kts_syntax.specs.declared.expr.Expr.TheFolds.{fold-roll-Expr, ind-Expr}
use Rattle.kts_syntax.specs.declared.head.Head.{Head}
use Rattle.kts_syntax.specs.declared.head.Head.TheVariants.{Number, Use}
use Rattle.kts_syntax.specs.declared.layout.Layout.{Layout}
use Rattle.kts_syntax.specs.declared.layout.Role.{Role}
use Rattle.kts_syntax.specs.declared.layout.Role.TheVariants.{Binder, Term, Formula}
use Rattle.kts_syntax.specs.declared.parts.Part.{Part}
use Rattle.kts_syntax.specs.declared.parts.Part.TheVariants.{Bound, Operand}
use Rattle.kts_syntax.specs.declared.parts.Parts.{Parts}
use Rattle.kts_syntax.specs.declared.word.Word.{Word}
use Rattle.kts_syntax.proofs.Fits.{expr_fits-roll}
use Rattle.kts_syntax.proofs.HeadLemmas.{head_atom, at_place, same_aside, same_layout, head_again}
use Rattle.kts_syntax.proofs.Nesting.{nest-roll}
use Rattle.kts_syntax.proofs.WordLemmas.{name_atom, name_no_number, word_of-name, number_of-signed, like_number-signed}
use Rattle.kts_syntax.proofs.Written.{Piece, leaf, each, headed, bytes_of, bytes_of-headed, spaced-append, Stands, AllStand, headed_stands, count-each, place_after, piece_part, parts_in_each, binder_piece, piece_step, expr_piece}

-- ---- equations of the folds

abbrev alone : Expr-F Expr → Bool
alone x = length x.binders == 0 && length x.parts == 0

expr_piece-roll : (x : Expr-F Expr) → expr_piece (roll-Expr x) ≡ (if alone x then leaf (head_text x.head) else headed (head_text x.head) (map binder_piece x.binders ++ map expr_piece x.parts))
unfolding expr_piece
expr_piece-roll x = fold-roll-Expr Piece piece_step x ∙ rw (length-map x.parts expr_piece) refl

expr_text-roll : (x : Expr-F Expr) → expr_text (roll-Expr x) ≡ (if alone x then head_text x.head else listed (head_text x.head) (map binder_text x.binders) (map expr_text x.parts))
unfolding expr_text
expr_text-roll x = fold-roll-Expr (List ℕ) text_step x ∙ rw (length-map x.parts expr_text) refl

expr_aside-roll : (x : Expr-F Expr) → expr_aside (roll-Expr x) ≡ roll-Expr (record { at = 0; head = head_aside x.head; binders = map binder_aside x.binders; parts = map expr_aside x.parts })
unfolding expr_aside
expr_aside-roll x = fold-roll-Expr Expr aside_step x

-- ---- the bytes

abbrev IsSpelled : Expr → Type 0
IsSpelled e = bytes_of (expr_piece e) ≡ expr_text e

abbrev expr_with : {P : Expr → Type 0} → Expr-F ((e : Expr) × P e) → Expr-F Expr
expr_with y = record { at = y.at; head = y.head; binders = y.binders; parts = map (λ p. p.0) y.parts }

binders_spelled : (bs : List (Word × Word × ℕ)) → map bytes_of (map binder_piece bs) ≡ map binder_text bs
unfolding binder_text
binders_spelled [] = refl
binders_spelled (b ∷ bs) =
    ap (λ l. l ∷ map bytes_of (map binder_piece bs)) (bytes_of-headed b.0.name (leaf b.1.name ∷ [])) ∙ ap (λ l. list_text b.0.name (b.1.name ∷ []) ∷ l) (binders_spelled bs)

exprs_spelled : (ps : List ((e : Expr) × IsSpelled e)) → map bytes_of (map expr_piece (map (λ p. p.0) ps)) ≡ map expr_text (map (λ p. p.0) ps)
exprs_spelled [] = refl
exprs_spelled (p ∷ ps) = ap (λ l. l ∷ map bytes_of (map expr_piece (map (λ p. p.0) ps))) p.1 ∙ ap (λ l. expr_text p.0 ∷ l) (exprs_spelled ps)

listed_text : (head : List ℕ) (xs ys : List (List ℕ)) → list_text head (xs ++ ys) ≡ listed head xs ys
listed_text head xs ys = ap (λ (l : List ℕ). 40 ∷ (head ++ l)) (ap (λ (l : List ℕ). l ++ 41 ∷ []) (spaced-append xs ys) ∙ append_assoc (spaced xs) (spaced ys) (41 ∷ []))

spelled_by : (b : Bool) (head : List ℕ) (bs : List (Word × Word × ℕ)) (ps : List ((e : Expr) × IsSpelled e))
    → bytes_of (if b then leaf head else headed head (map binder_piece bs ++ map expr_piece (map (λ p. p.0) ps))) ≡ (if b then head else listed head (map binder_text bs) (map expr_text (map (λ p. p.0) ps)))
spelled_by true head bs ps = refl
spelled_by false head bs ps =
    bytes_of-headed head (map binder_piece bs ++ map expr_piece (map (λ p. p.0) ps))
    ∙ ap (list_text head) (map-append bytes_of (map binder_piece bs) (map expr_piece (map (λ p. p.0) ps)) ∙ ap (λ l. l ++ map bytes_of (map expr_piece (map (λ p. p.0) ps))) (binders_spelled bs)
    ∙ ap (λ l. map binder_text bs ++ l) (exprs_spelled ps))
    ∙ listed_text head (map binder_text bs) (map expr_text (map (λ p. p.0) ps))

pub expr_spelled : (e : Expr) → bytes_of (expr_piece e) ≡ expr_text e
expr_spelled = ind-Expr IsSpelled (λ x y is. subst (λ z. IsSpelled (roll-Expr z)) is (step y))
  where
    step : (y : Expr-F ((e : Expr) × IsSpelled e)) → IsSpelled (roll-Expr (expr_with y))
    step y = ap bytes_of (expr_piece-roll (expr_with y)) ∙ spelled_by (alone (expr_with y)) (head_text y.head) y.binders y.parts ∙ sym (expr_text-roll (expr_with y))

-- ---- the grammar

abbrev CanStand : Expr → Type 0
CanStand e = (role : Role) (deep : ℕ) → expr_fits e role ≡ true → expr_nest e ≤ deep → Stands deep (expr_piece e)

all_stand-append : (deep : ℕ) (xs ys : List Piece) → AllStand deep xs → AllStand deep ys → AllStand deep (xs ++ ys)
all_stand-append deep [] ys p q = q
all_stand-append deep (x ∷ xs) ys p q = (p.0, all_stand-append deep xs ys p.1 q)

-- a binder is a list of two names
binder_stands : (deep : ℕ) (b : Word × Word × ℕ) → 0 < deep → binder_fits b ≡ true → Stands deep (binder_piece b)
binder_stands deep b some fit =
    let both = and_parts (is_named b.0) (is_named b.1) fit in
    headed_stands deep b.0.name (leaf b.1.name ∷ []) some (name_atom b.0.name both.0) (name_atom b.1.name both.1, tt)

most-first : (n : ℕ) (ns : List ℕ) (deep : ℕ) → most (n ∷ ns) ≤ deep → (n ≤ deep) × (most ns ≤ deep)
most-first n ns deep h = (omega arith, omega arith)

exprs_stand : (ps : List ((e : Expr) × CanStand e)) (layout : Layout) (deep : ℕ) → exprs_fit layout (map expr_fits (map (λ p. p.0) ps)) ≡ true → most (map expr_nest (map (λ p. p.0) ps)) ≤ deep
    → AllStand deep (map expr_piece (map (λ p. p.0) ps))
exprs_stand [] layout deep fit shallow = tt
exprs_stand (p ∷ ps) layout deep fit shallow =
    let others = map expr_fits (map (λ p. p.0) ps) in
    let both = and_parts (expr_fits p.0 (role_in layout (is_empty others))) (exprs_fit (layout_after layout) others) fit in
    let low = most-first (expr_nest p.0) (map expr_nest (map (λ p. p.0) ps)) deep shallow in
    (p.1 (role_in layout (is_empty others)) deep both.0 low.0, exprs_stand ps (layout_after layout) deep both.1 low.1)

parts_stand : (bs : List (Word × Word × ℕ)) (ps : List ((e : Expr) × CanStand e)) (layout : Layout) (deep : ℕ) → parts_fit layout bs (map expr_fits (map (λ p. p.0) ps)) ≡ true
    → min 1 (length bs) ≤ deep → most (map expr_nest (map (λ p. p.0) ps)) ≤ deep → AllStand deep (map binder_piece bs ++ map expr_piece (map (λ p. p.0) ps))
parts_stand [] ps layout deep fit few shallow = exprs_stand ps layout deep fit shallow
parts_stand (b ∷ bs) ps layout deep fit few shallow =
    let others = map expr_fits (map (λ p. p.0) ps) in
    let two = and_parts (is_binder (role_in layout (is_empty bs && is_empty others)) && binder_fits b) (parts_fit (layout_after layout) bs others) fit in
    let one = and_parts (is_binder (role_in layout (is_empty bs && is_empty others))) (binder_fits b) two.0 in
    (binder_stands deep b (omega arith) one.1, parts_stand bs ps (layout_after layout) deep two.1 (omega arith) shallow)

stands_by : (b : Bool) (head : Head) (bs : List (Word × Word × ℕ)) (ps : List ((e : Expr) × CanStand e)) (k deep : ℕ) → head_fits head k ≡ true
    → parts_fit (layout_of head) bs (map expr_fits (map (λ p. p.0) ps)) ≡ true → (if b then 0 else suc (max (min 1 (length bs)) (most (map expr_nest (map (λ p. p.0) ps))))) ≤ deep
    → Stands deep (if b then leaf (head_text head) else headed (head_text head) (map binder_piece bs ++ map expr_piece (map (λ p. p.0) ps)))
stands_by true head bs ps k deep fit parts shallow = head_atom head k fit
stands_by false head bs ps k deep fit parts shallow =
    headed_stands deep (head_text head) (map binder_piece bs ++ map expr_piece (map (λ p. p.0) ps)) (omega arith) (head_atom head k fit)
    (parts_stand bs ps (layout_of head) (deep - 1) parts (omega arith) (omega arith))

-- what an expression's fitting says of its head and its parts
record FitFacts (x : Expr-F Expr) (role : Role) : Type 0 where
  own : has_role x.head role ≡ true
  head : head_fits x.head (length x.binders + length x.parts) ≡ true
  parts : parts_fit (layout_of x.head) x.binders (map expr_fits x.parts) ≡ true

fit_facts : (x : Expr-F Expr) (role : Role) → expr_fits (roll-Expr x) role ≡ true → FitFacts x role
fit_facts x role fit =
    let n = length x.binders + length x.parts in
    let two = and_parts (has_role x.head role && head_fits x.head n) (parts_fit (layout_of x.head) x.binders (map expr_fits x.parts)) (sym (expr_fits-roll x role) ∙ fit) in
    let one = and_parts (has_role x.head role) (head_fits x.head n) two.0 in
    record { own = one.0; head = one.1; parts = two.1 }

pub expr_stands : (e : Expr) (role : Role) (deep : ℕ) → expr_fits e role ≡ true → expr_nest e ≤ deep → Stands deep (expr_piece e)
expr_stands = ind-Expr CanStand (λ x y is. subst (λ z. CanStand (roll-Expr z)) is (step y))
  where
    step : (y : Expr-F ((e : Expr) × CanStand e)) → CanStand (roll-Expr (expr_with y))
    step y role deep fit shallow =
        let facts = fit_facts (expr_with y) role fit in
        subst (Stands deep) (sym (expr_piece-roll (expr_with y)))
        (stands_by (alone (expr_with y)) y.head y.binders y.parts _ deep facts.head facts.parts (subst (λ (n : ℕ). n ≤ deep) (nest-roll (expr_with y)) shallow))

-- ---- the reading of names

pub name_again : (at : ℕ) (bytes : List ℕ) → is_word bytes ≡ true → name_at at bytes ≡ Ok (record { name = bytes; at = at })
unfolding name_at
name_again at bytes named = rw (word_of-name bytes named) refl

two_names_again : (start at place : ℕ) (first second : List ℕ) (more : Forest) → is_word first ≡ true → is_word second ≡ true
    → two_names start (atom at first (atom place second more)) ≡ Ok (record { name = first; at = at }, record { name = second; at = place }, start)
unfolding two_names first_name
two_names_again start at place first second more a b = rw (name_again at first a, name_again place second b) refl

-- a binder's piece, read as a binder
binder_again : (at : ℕ) (b : Word × Word × ℕ) → binder_fits b ≡ true → (r : Word × Word × ℕ) × (piece_part Binder at (binder_piece b) ≡ Ok (Bound r)) × (binder_aside r ≡ binder_aside b)
unfolding list_part binder count
binder_again at b fit =
    let both = and_parts (is_named b.0) (is_named b.1) fit in
    let place = at + 1 + length b.0.name + 1 in (
      (record { name = b.0.name; at = at + 1 }, record { name = b.1.name; at = place }, at),
      rw (two_names_again at (at + 1) place b.0.name b.1.name none both.0 both.1) refl,
      refl,
    )

-- ---- the reading of expressions

-- a piece that is read as an expression, places aside this one
pub record IsAgain (role : Role) (at : ℕ) (e : Expr) : Type 0 where
  pub read : Expr
  pub is : piece_part role at (expr_piece e) ≡ Ok (Operand read)
  pub same : expr_aside read ≡ expr_aside e

abbrev pub CanRead : Expr → Type 0
CanRead e = (role : Role) (at : ℕ) → expr_fits e role ≡ true → IsAgain role at e

-- trees that are read as these parts, places aside
record AreAgain (layout : Layout) (t : Forest) (bs : List (Word × Word × ℕ)) (es : List Expr) : Type 0 where
  read : Parts
  is : parts_in layout t ≡ Ok read
  binders : map binder_aside read.binders ≡ map binder_aside bs
  exprs : map expr_aside read.exprs ≡ map expr_aside es

nothing_again : (layout : Layout) → parts_in layout none ≡ Ok no_parts
unfolding parts_in
nothing_again layout = refl

empty_pieces : (es : List Expr) → is_empty (map expr_piece es) ≡ is_empty (map expr_fits es)
empty_pieces [] = refl
empty_pieces (e ∷ es) = refl

empty_parts : (bs : List (Word × Word × ℕ)) (es : List Expr) → is_empty (map binder_piece bs ++ map expr_piece es) ≡ (is_empty bs && is_empty (map expr_fits es))
empty_parts [] es = empty_pieces es
empty_parts (b ∷ bs) es = refl

in_front_ok : (first : Reading Part) (others : Reading Parts) (p : Part) (ps : Parts) → first ≡ Ok p → others ≡ Ok ps → in_front first others ≡ Ok (with_part p ps)
in_front_ok first others p ps e q = rw (e, q) refl

-- one piece more is read in front
front_again : (layout : Layout) (p : Piece) (ps : List Piece) (at : ℕ) (last : Bool) (first : Part) (others : Parts) → is_empty ps ≡ last → piece_part (role_in layout last) (at + 1) p ≡ Ok first
    → parts_in (layout_after layout) (forest (place_after at p) (each ps)) ≡ Ok others → parts_in layout (forest at (each (p ∷ ps))) ≡ Ok (with_part first others)
front_again layout p ps at last first others is e q =
    parts_in_each layout p ps at
    ∙ in_front_ok (piece_part (role_in layout (is_empty ps)) (at + 1) p) (parts_in (layout_after layout) (forest (place_after at p) (each ps))) first others
    (ap (λ (b : Bool). piece_part (role_in layout b) (at + 1) p) is ∙ e) q

exprs_again : (ps : List ((e : Expr) × CanRead e)) (layout : Layout) (at : ℕ) → exprs_fit layout (map expr_fits (map (λ p. p.0) ps)) ≡ true
    → AreAgain layout (forest at (each (map expr_piece (map (λ p. p.0) ps)))) [] (map (λ p. p.0) ps)
unfolding with_part
exprs_again [] layout at fit = record { read = no_parts; is = nothing_again layout; binders = refl; exprs = refl }
exprs_again (p ∷ ps) layout at fit =
    let es = map (λ (p : (e : Expr) × CanRead e). p.0) ps in
    let both = and_parts (expr_fits p.0 (role_in layout (is_empty (map expr_fits es)))) (exprs_fit (layout_after layout) (map expr_fits es)) fit in
    let one = p.1 (role_in layout (is_empty (map expr_fits es))) (at + 1) both.0 in
    let more = exprs_again ps (layout_after layout) (place_after at (expr_piece p.0)) both.1 in
    record {
      read = with_part (Operand one.read) more.read;
      is = front_again layout (expr_piece p.0) (map expr_piece es) at (is_empty (map expr_fits es)) (Operand one.read) more.read (empty_pieces es) one.is more.is;
      binders = more.binders;
      exprs = ap (λ e. e ∷ map expr_aside more.read.exprs) one.same ∙ ap (λ l. expr_aside p.0 ∷ l) more.exprs;
    }

as_binder : (role : Role) (b : Word × Word × ℕ) (at : ℕ) → is_binder role ≡ true → binder_fits b ≡ true → (r : Word × Word × ℕ) × (piece_part role at (binder_piece b) ≡ Ok (Bound r)) × (binder_aside r ≡ binder_aside b)
as_binder Binder b at is fit = binder_again at b fit
as_binder Term b at is fit = absurd cc
as_binder Formula b at is fit = absurd cc

parts_again : (bs : List (Word × Word × ℕ)) (ps : List ((e : Expr) × CanRead e)) (layout : Layout) (at : ℕ) → parts_fit layout bs (map expr_fits (map (λ p. p.0) ps)) ≡ true
    → AreAgain layout (forest at (each (map binder_piece bs ++ map expr_piece (map (λ p. p.0) ps)))) bs (map (λ p. p.0) ps)
unfolding with_part
parts_again [] ps layout at fit = exprs_again ps layout at fit
parts_again (b ∷ bs) ps layout at fit =
    let es = map (λ (p : (e : Expr) × CanRead e). p.0) ps in
    let last = is_empty bs && is_empty (map expr_fits es) in
    let two = and_parts (is_binder (role_in layout last) && binder_fits b) (parts_fit (layout_after layout) bs (map expr_fits es)) fit in
    let one = and_parts (is_binder (role_in layout last)) (binder_fits b) two.0 in
    let first = as_binder (role_in layout last) b (at + 1) one.0 one.1 in
    let more = parts_again bs ps (layout_after layout) (place_after at (binder_piece b)) two.1 in
    record {
      read = with_part (Bound first.0) more.read;
      is = front_again layout (binder_piece b) (map binder_piece bs ++ map expr_piece es) at last (Bound first.0) more.read (empty_parts bs es) first.1 more.is;
      binders = ap (λ e. e ∷ map binder_aside more.read.binders) first.2 ∙ ap (λ l. binder_aside b ∷ l) more.binders;
      exprs = more.exprs;
    }

-- a number or a name alone
number_again : (at : ℕ) (z : ℤ) → is_small z ≡ true → atom_part Term at (head_text (Number z)) ≡ Ok (Operand (expr_of at (Number z) no_parts))
unfolding atom_part term_atom number_at head_text
number_again at z small = rw (like_number-signed z small, number_of-signed z small) refl

use_again : (at : ℕ) (word : Word) → is_named word ≡ true → atom_part Term at (head_text (Use word)) ≡ Ok (Operand (expr_of at (Use (record { name = word.name; at = at })) no_parts))
unfolding atom_part term_atom head_text
use_again at word named = rw (name_no_number word.name named, name_again at word.name named) refl

-- ---- the whole

list_part_ok : (role : Role) (bound : Reading (Word × Word × ℕ)) (read : Role → Reading Expr) (e : Expr) → is_binder role ≡ false → read role ≡ Ok e → list_part role bound read ≡ Ok (Operand e)
unfolding list_part
list_part_ok Binder bound read e operand is = absurd cc
list_part_ok Term bound read e operand is = rw is refl
list_part_ok Formula bound read e operand is = rw is refl

-- a list's head, read again before its parts
list_head_again : (role : Role) (start at k : ℕ) (head : Head) (after : Forest) → has_role head role ≡ true → head_fits head k ≡ true → (k == 0) ≡ false → count after ≡ k
    → list_head role start (atom at (head_text head) after) ≡ Ok (at_place at head)
unfolding list_head head_before
list_head_again role start at k head after own fit some n =
    let again = head_again role head k at own fit some in rw (n, again.0, again.1) refl

list_again : (role : Role) (start at k : ℕ) (head : Head) (after : Forest) (parts : Parts) → has_role head role ≡ true → head_fits head k ≡ true → (k == 0) ≡ false → count after ≡ k
    → parts_in (layout_of head) after ≡ Ok parts → expr role start (atom at (head_text head) after) ≡ Ok (expr_of start (at_place at head) parts)
unfolding expr
list_again role start at k head after parts own fit some n is =
    rw (list_head_again role start at k head after own fit some n, same_layout at head, is) refl

-- an expression of these, places aside
abbrev plain : Head → List (Word × Word × ℕ) → List Expr → Expr
plain head bs es = roll-Expr (record { at = 0; head = head_aside head; binders = map binder_aside bs; parts = map expr_aside es })

aside-expr_of : (at : ℕ) (head : Head) (parts : Parts) → expr_aside (expr_of at head parts) ≡ plain head parts.binders parts.exprs
aside-expr_of at head parts = expr_aside-roll (record { at = at; head = head; binders = parts.binders; parts = parts.exprs })

alone_again : (role : Role) (at : ℕ) (head : Head) → has_role head role ≡ true → head_fits head 0 ≡ true → (e : Expr) × (atom_part role at (head_text head) ≡ Ok (Operand e)) × (expr_aside e ≡ plain head [] [])
unfolding has_role head_fits has_parts head_aside
alone_again Binder at head own fit = absurd cc
alone_again Term at (Number z) own fit = (expr_of at (Number z) no_parts, number_again at z fit, aside-expr_of at (Number z) no_parts)
alone_again Term at (Use word) own fit =
    let head = Use (record { name = word.name; at = at }) in
    (expr_of at head no_parts, use_again at word (and_parts (is_named word) (nat_le 0 2) fit).0, aside-expr_of at head no_parts)
alone_again Term at _ own fit = absurd cc
alone_again Formula at (Number z) own fit = absurd cc
alone_again Formula at (Use word) own fit = absurd cc
alone_again Formula at _ own fit = absurd cc

none_of : {A : Type 0} (xs : List A) → (length xs == 0) ≡ true → xs ≡ []
none_of [] h = refl
none_of (x ∷ xs) h = absurd (positive (length xs) h)
  where
    positive : (n : ℕ) → (suc n == 0) ≡ true → ⊥
    positive n h = grind (arith, nat_tests)

some_part : (a b : ℕ) → (a == 0 && b == 0) ≡ false → (a + b == 0) ≡ false
some_part a b h = grind (arith, nat_tests)

operand_role : (head : Head) (role : Role) → has_role head role ≡ true → is_binder role ≡ false
unfolding has_role
operand_role head Binder own = absurd cc
operand_role head Term own = refl
operand_role head Formula own = refl

many_pieces : (bs : List (Word × Word × ℕ)) (es : List Expr) → length (map binder_piece bs ++ map expr_piece es) ≡ length bs + length es
many_pieces [] es = length-map es expr_piece ∙ omega arith
many_pieces (b ∷ bs) es = ap suc (many_pieces bs es) ∙ omega arith

-- a piece that is read as an expression with this head and these parts, places aside
record PieceAgain (role : Role) (at : ℕ) (piece : Piece) (head : Head) (bs : List (Word × Word × ℕ)) (es : List Expr) : Type 0 where
  read : Expr
  is : piece_part role at piece ≡ Ok (Operand read)
  same : expr_aside read ≡ plain head bs es

piece_again : (b : Bool) (role : Role) (at : ℕ) (head : Head) (bs : List (Word × Word × ℕ)) (ps : List ((e : Expr) × CanRead e)) → (length bs == 0 && length (map (λ p. p.0) ps) == 0) ≡ b
    → has_role head role ≡ true → head_fits head (length bs + length (map (λ p. p.0) ps)) ≡ true → parts_fit (layout_of head) bs (map expr_fits (map (λ p. p.0) ps)) ≡ true
    → PieceAgain role at (if b then leaf (head_text head) else headed (head_text head) (map binder_piece bs ++ map expr_piece (map (λ p. p.0) ps))) head bs (map (λ p. p.0) ps)
piece_again true role at head bs ps is own fit parts =
    let es = map (λ (p : (e : Expr) × CanRead e). p.0) ps in
    let tests = and_parts (length bs == 0) (length es == 0) is in
    let no_bs = none_of bs tests.0 in
    let no_es = none_of es tests.1 in
    let again = alone_again role at head own (subst (λ (es : List Expr). head_fits head (0 + length es) ≡ true) no_es (subst (λ (bs : List (Word × Word × ℕ)). head_fits head (length bs + length es) ≡ true) no_bs fit)) in
    record {
      read = again.0;
      is = again.1;
      same = again.2 ∙ ap (λ (bs : List (Word × Word × ℕ)). plain head bs []) (sym no_bs) ∙ ap (plain head bs) (sym no_es);
    }
piece_again false role at head bs ps is own fit parts =
    let es = map (λ (p : (e : Expr) × CanRead e). p.0) ps in
    let pieces = map binder_piece bs ++ map expr_piece es in
    let place = at + 1 + length (head_text head) in
    let again = parts_again bs ps (layout_of head) place parts in
    let read = expr_of at (at_place (at + 1) head) again.read in
    record {
      read = read;
      is = list_part_ok role _ (λ r. expr r at (forest (at + 1) (letters (head_text head) (each pieces)))) read (operand_role head role own)
          (list_again role at (at + 1) (length bs + length es) head (forest place (each pieces)) again.read own fit (some_part (length bs) (length es) is) (count-each pieces place ∙ many_pieces bs es) again.is);
      same = aside-expr_of at (at_place (at + 1) head) again.read
          ∙ (λ i. roll-Expr (record { at = 0; head = same_aside (at + 1) head i; binders = again.binders i; parts = again.exprs i }));
    }

pub expr_again : (e : Expr) → CanRead e
expr_again = ind-Expr CanRead (λ x y is. subst (λ z. CanRead (roll-Expr z)) is (step y))
  where
    step : (y : Expr-F ((e : Expr) × CanRead e)) → CanRead (roll-Expr (expr_with y))
    step y role at fit =
        let x = expr_with y in
        let facts = fit_facts x role fit in
        let again = piece_again (alone x) role at y.head y.binders y.parts refl facts.own facts.head facts.parts in
        record {
          read = again.read;
          is = ap (piece_part role at) (expr_piece-roll x) ∙ again.is;
          same = again.same ∙ sym (expr_aside-roll x);
        }
