-- The text of an expression as a piece of a file of trees.
use Rattle.std.proofs.Common.{◌≡◌, refl, sym, ◌∙◌, ap, ℕ, suc, ◌+◌, ◌-◌, ◌<◌, ◌==◌, List, [], ◌∷◌, ◌++◌, append_assoc, length, map, Bool, ◌&&◌, if◌then◌else◌}
use Rattle.kts_text.specs.Bytes.{class}
use Rattle.kts_text.specs.Grammar.{Text, nothing, white, letters, nested, spelled, forest, IsAtom, NoAtom, IsText}
use Rattle.kts_syntax.specs.Fitting.{is_empty}
use Rattle.kts_syntax.specs.Readings.{Reading, is_none, rest, binder, expr, atom_part, list_part, in_front, parts_in}
use Rattle.kts_syntax.specs.Heads.{role_in, layout_after}
use Rattle.kts_syntax.specs.Sizes.{count}
use Rattle.kts_syntax.specs.Texts.{spaced, list_text, head_text}
use Rattle.kts_syntax.specs.declared.expr.Expr.{Expr}
use Rattle.kts_syntax.specs.declared.expr.Expr.TheOpen.{Expr-F}
use Rattle.kts_syntax.specs.declared.expr.Expr.TheFolds.{fold-Expr}
use Rattle.kts_syntax.specs.declared.layout.Layout.{Layout}
use Rattle.kts_syntax.specs.declared.layout.Role.{Role}
use Rattle.kts_syntax.specs.declared.parts.Part.{Part}
use Rattle.kts_syntax.specs.declared.word.Word.{Word}

-- an atom of these bytes, or a list in which this stands
pub data Piece : Type 0 where
  leaf : List ℕ → Piece
  branch : Text → Piece

abbrev pub put : Piece → Text → Text
put (leaf bytes) after = letters bytes after
put (branch inside) after = nested inside after

-- pieces, each after a space
abbrev pub each : List Piece → Text
each [] = nothing
each (p ∷ ps) = white 32 (put p (each ps))

-- a list of an atom and these pieces
abbrev pub headed : List ℕ → List Piece → Piece
headed first others = branch (letters first (each others))

abbrev pub bytes_of : Piece → List ℕ
bytes_of (leaf bytes) = bytes
bytes_of (branch inside) = 40 ∷ (spelled inside ++ 41 ∷ [])

-- ---- the bytes

pub spelled-put : (p : Piece) (after : Text) → spelled (put p after) ≡ bytes_of p ++ spelled after
spelled-put (leaf bytes) after = refl
spelled-put (branch inside) after = ap (λ (l : List ℕ). 40 ∷ l) (sym (append_assoc (spelled inside) (41 ∷ []) (spelled after)))

pub spelled-each : (ps : List Piece) → spelled (each ps) ≡ spaced (map bytes_of ps)
spelled-each [] = refl
spelled-each (p ∷ ps) = ap (λ (l : List ℕ). 32 ∷ l) (spelled-put p (each ps) ∙ ap (λ (l : List ℕ). bytes_of p ++ l) (spelled-each ps))

pub bytes_of-headed : (first : List ℕ) (others : List Piece) → bytes_of (headed first others) ≡ list_text first (map bytes_of others)
bytes_of-headed first others =
    ap (λ (l : List ℕ). 40 ∷ l) (append_assoc first (spelled (each others)) (41 ∷ []) ∙ ap (λ (l : List ℕ). first ++ (l ++ 41 ∷ [])) (spelled-each others))

pub spaced-append : (xs ys : List (List ℕ)) → spaced (xs ++ ys) ≡ spaced xs ++ spaced ys
spaced-append [] ys = refl
spaced-append (x ∷ xs) ys = ap (λ (l : List ℕ). 32 ∷ l) (ap (λ (l : List ℕ). x ++ l) (spaced-append xs ys) ∙ sym (append_assoc x (spaced xs) (spaced ys)))

-- ---- the grammar

-- the piece is what it is called, and nests at most so deep
abbrev pub Stands : ℕ → Piece → Type 0
Stands deep (leaf bytes) = IsAtom bytes
Stands deep (branch inside) = (0 < deep) × IsText (deep - 1) inside

abbrev pub AllStand : ℕ → List Piece → Type 0
AllStand deep [] = Unit {0}
AllStand deep (p ∷ ps) = Stands deep p × AllStand deep ps

no_atom : (ps : List Piece) → NoAtom (each ps)
no_atom [] = tt
no_atom (p ∷ ps) = tt

pub put_stands : (deep : ℕ) (p : Piece) (after : Text) → Stands deep p → NoAtom after → IsText deep after → IsText deep (put p after)
put_stands deep (leaf bytes) after h apart is = (h, apart, is)
put_stands deep (branch inside) after h apart is = (h.0, h.1, is)

pub each_stand : (deep : ℕ) (ps : List Piece) → AllStand deep ps → IsText deep (each ps)
unfolding class
each_stand deep [] h = tt
each_stand deep (p ∷ ps) h = (refl, put_stands deep p (each ps) h.0 (no_atom ps) (each_stand deep ps h.1))

pub headed_stands : (deep : ℕ) (first : List ℕ) (others : List Piece) → 0 < deep → IsAtom first → AllStand (deep - 1) others → Stands deep (headed first others)
headed_stands deep first others some letters_first stand = (some, (letters_first, no_atom others, each_stand (deep - 1) others stand))

-- ---- the trees

pub count-each : (ps : List Piece) (at : ℕ) → count (forest at (each ps)) ≡ length ps
unfolding count
count-each [] at = refl
count-each (leaf bytes ∷ ps) at = ap suc (count-each ps _)
count-each (branch inside ∷ ps) at = ap suc (count-each ps _)

pub is_none-each : (ps : List Piece) (at : ℕ) → is_none (forest at (each ps)) ≡ is_empty ps
is_none-each [] at = refl
is_none-each (leaf bytes ∷ ps) at = refl
is_none-each (branch inside ∷ ps) at = refl

-- where the pieces after a first one begin
abbrev pub place_after : ℕ → Piece → ℕ
place_after at (leaf bytes) = at + 1 + length bytes
place_after at (branch inside) = at + 1 + length (spelled inside) + 2

pub rest-each : (p : Piece) (ps : List Piece) (at : ℕ) → rest (forest at (each (p ∷ ps))) ≡ forest (place_after at p) (each ps)
rest-each (leaf bytes) ps at = refl
rest-each (branch inside) ps at = refl

-- a piece as a part
abbrev pub piece_part : Role → ℕ → Piece → Reading Part
piece_part role at (leaf bytes) = atom_part role at bytes
piece_part role at (branch inside) = list_part role (binder at (forest (at + 1) inside)) (λ r. expr r at (forest (at + 1) inside))

pub parts_in_each : (layout : Layout) (p : Piece) (ps : List Piece) (at : ℕ) → parts_in layout (forest at (each (p ∷ ps)))
    ≡ in_front (piece_part (role_in layout (is_empty ps)) (at + 1) p) (parts_in (layout_after layout) (forest (place_after at p) (each ps)))
unfolding parts_in
parts_in_each layout (leaf bytes) ps at =
    ap (λ (b : Bool). in_front (piece_part (role_in layout b) (at + 1) (leaf bytes)) (parts_in (layout_after layout) (forest (place_after at (leaf bytes)) (each ps)))) (is_none-each ps _)
parts_in_each layout (branch inside) ps at =
    ap (λ (b : Bool). in_front (piece_part (role_in layout b) (at + 1) (branch inside)) (parts_in (layout_after layout) (forest (place_after at (branch inside)) (each ps)))) (is_none-each ps _)

-- ---- expressions

abbrev pub binder_piece : Word × Word × ℕ → Piece
binder_piece b = headed b.0.name (leaf b.1.name ∷ [])

abbrev pub piece_step : Expr-F Piece → Piece
piece_step expr =
    if length expr.binders == 0 && length expr.parts == 0 then leaf (head_text expr.head)
    else headed (head_text expr.head) (map binder_piece expr.binders ++ expr.parts)

unfoldable pub expr_piece : Expr → Piece
expr_piece = fold-Expr Piece piece_step
