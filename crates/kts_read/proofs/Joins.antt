-- Pieces joined and split again.
use Rattle.std.proofs.Common.{◌≡◌, ◌≢◌, refl, sym, ◌∙◌, ap, map, append_assoc, append-nil, ℕ, ◌==◌, List, [], ◌∷◌, ◌++◌, Bool, true, false, if◌then◌else◌, arith}
use Rattle.std.specs.List.{join_with_byte, flat_map, AllByRecursion}
use Rattle.std.proofs.lemmas.Bool.Decides.{nat_tests}
use Rattle.kts_read.specs.Lines.{prepend, split, line_of}
use Rattle.kts_code.specs.CodeTexts.{line_text}
use Rattle.kts_read.proofs.Splits.{split_other, split_there}

-- there is a first piece
abbrev pub Pieces : List (List ℕ) → Type 0
Pieces ps = (p : List ℕ) × (qs : List (List ℕ)) × (ps ≡ p ∷ qs)

prepend_pieces : (a : List ℕ) (ps : List (List ℕ)) → Pieces (prepend a ps)
prepend_pieces a [] = (a, [], refl)
prepend_pieces a (p ∷ ps) = (a ++ p, ps, refl)

pub some_piece : (at : ℕ) (bytes : List ℕ) → Pieces (split at bytes)
unfolding split
some_piece at [] = ([], [], refl)
some_piece at (b ∷ bs) = elim (b == at) as (λ t. Pieces (if t then [] ∷ split at bs else prepend (b ∷ []) (split at bs))) [ true ↦ ([], split at bs, refl) | false ↦ prepend_pieces (b ∷ []) (split at bs) ]

joined_prepend : (at b : ℕ) (ps : List (List ℕ)) → Pieces ps → join_with_byte at (prepend (b ∷ []) ps) ≡ b ∷ join_with_byte at ps
joined_prepend at b [] some = absurd cc
joined_prepend at b (p ∷ []) some = refl
joined_prepend at b (p ∷ q ∷ ps) some = refl

joined_empty : (at : ℕ) (ps : List (List ℕ)) → Pieces ps → join_with_byte at ([] ∷ ps) ≡ at ∷ join_with_byte at ps
joined_empty at [] some = absurd cc
joined_empty at (p ∷ ps) some = refl

same_byte : (a b : ℕ) → (b == a) ≡ true → a ≡ b
same_byte a b e = grind (arith, nat_tests)

joined_step : (at b : ℕ) (bs : List ℕ) (t : Bool) → (b == at) ≡ t → join_with_byte at (split at bs) ≡ bs → join_with_byte at (if t then [] ∷ split at bs else prepend (b ∷ []) (split at bs)) ≡ b ∷ bs
joined_step at b bs true e h = joined_empty at (split at bs) (some_piece at bs) ∙ ap (λ (l : List ℕ). at ∷ l) h ∙ ap (λ (c : ℕ). c ∷ bs) (same_byte at b e)
joined_step at b bs false e h = joined_prepend at b (split at bs) (some_piece at bs) ∙ ap (λ (l : List ℕ). b ∷ l) h

-- pieces joined are the bytes
pub joined_again : (at : ℕ) (bytes : List ℕ) → join_with_byte at (split at bytes) ≡ bytes
unfolding split
joined_again at [] = refl
joined_again at (b ∷ bs) = joined_step at b bs (b == at) refl (joined_again at bs)

-- no byte is of this value
abbrev pub Without : ℕ → List ℕ → Type 0
Without at bytes = AllByRecursion (λ b. b ≢ at) bytes

pub split_piece : (at : ℕ) (piece rest : List ℕ) → Without at piece → split at (piece ++ at ∷ rest) ≡ piece ∷ split at rest
split_piece at [] rest h = split_there at at rest refl
split_piece at (b ∷ bs) rest h = split_other at b (bs ++ at ∷ rest) h.0 ∙ ap (prepend (b ∷ [])) (split_piece at bs rest h.1)

pub split_one : (at : ℕ) (piece : List ℕ) → Without at piece → split at piece ≡ piece ∷ []
unfolding split
split_one at [] h = refl
split_one at (b ∷ bs) h = split_other at b bs h.0 ∙ ap (prepend (b ∷ [])) (split_one at bs h.1)

-- pieces are those that were joined
pub split_joined : (at : ℕ) (p : List ℕ) (ps : List (List ℕ)) → AllByRecursion (Without at) (p ∷ ps) → split at (join_with_byte at (p ∷ ps)) ≡ p ∷ ps
split_joined at p [] h = split_one at p h.0
split_joined at p (q ∷ qs) h = split_piece at p (join_with_byte at (q ∷ qs)) h.0 ∙ ap (λ (ls : List (List ℕ)). p ∷ ls) (split_joined at q qs h.1)

-- lines of words, and nothing after the last one's end
pub ended_joined : (lines : List (List (List ℕ))) → join_with_byte 10 (map line_of lines ++ [] ∷ []) ≡ flat_map line_text lines
ended_joined [] = refl
ended_joined (p ∷ []) = sym (append-nil (line_of p ++ 10 ∷ []))
ended_joined (p ∷ q ∷ ps) =
    ap (λ (l : List ℕ). line_of p ++ 10 ∷ l) (ended_joined (q ∷ ps)) ∙ sym (append_assoc (line_of p) (10 ∷ []) (flat_map line_text (q ∷ ps)))

pub split_ended : (lines : List (List (List ℕ))) → AllByRecursion (λ words. Without 10 (line_of words)) lines → split 10 (flat_map line_text lines) ≡ map line_of lines ++ [] ∷ []
unfolding split
split_ended [] h = refl
split_ended (p ∷ ps) h =
    ap (split 10) (append_assoc (line_of p) (10 ∷ []) (flat_map line_text ps)) ∙ split_piece 10 (line_of p) (flat_map line_text ps) h.0
    ∙ ap (λ (ls : List (List ℕ)). line_of p ∷ ls) (split_ended ps h.1)
