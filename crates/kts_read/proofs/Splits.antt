-- Bytes in pieces, one byte after another.
use Rattle.std.proofs.Common.{◌≡◌, ◌≢◌, refl, sym, ◌∙◌, ap, ℕ, zero, suc, ◌+◌, ◌-◌, ◌<◌, ◌≤◌, ◌==◌, List, [], ◌∷◌, ◌++◌, length, take, drop, get_or, Bool, true, false, if◌then◌else◌, length-drop, Option, None, Some, arith, add-one, append_assoc, append-nil}
use Rattle.std.proofs.lemmas.Bool.Decides.{nat_tests}
use Rattle.std.proofs.Math.Seq.{drop-cons}
use Rattle.std.proofs.lemmas.List.{take_more, drop_all, take_all}
use Rattle.kts_read.specs.Lines.{prepend, split, piece_before}

prepend_twice : (a b : List ℕ) (ps : List (List ℕ)) → prepend a (prepend b ps) ≡ prepend (a ++ b) ps
prepend_twice a b [] = refl
prepend_twice a b (p ∷ ps) = ap (λ (q : List ℕ). q ∷ ps) (sym (append_assoc a b p))

pub prepend_none : (at : ℕ) (bytes : List ℕ) → prepend [] (split at bytes) ≡ split at bytes
unfolding split
prepend_none at [] = refl
prepend_none at (b ∷ bs) = by_test (b == at)
  where
    by_test : (t : Bool) → prepend [] (if t then [] ∷ split at bs else prepend (b ∷ []) (split at bs)) ≡ (if t then [] ∷ split at bs else prepend (b ∷ []) (split at bs))
    by_test true = refl
    by_test false = prepend_twice [] (b ∷ []) (split at bs)

pub split_other : (at b : ℕ) (bs : List ℕ) → b ≢ at → split at (b ∷ bs) ≡ prepend (b ∷ []) (split at bs)
unfolding split
split_other at b bs h = let e : (b == at) ≡ false = grind (arith, nat_tests) in rw e refl

pub split_there : (at b : ℕ) (bs : List ℕ) → b ≡ at → split at (b ∷ bs) ≡ [] ∷ split at bs
unfolding split
split_there at b bs h = let e : (b == at) ≡ true = grind (arith, nat_tests) in rw e refl

here : (bytes : List ℕ) (i : ℕ) → i < length bytes → drop i bytes ≡ get_or bytes i 0 ∷ drop (i + 1) bytes
here bytes i h = drop-cons bytes i 0 h ∙ rw add-one refl

-- a byte of another value belongs to the piece
pub split_on : (at : ℕ) (bytes : List ℕ) (i : ℕ) → i < length bytes → get_or bytes i 0 ≢ at → prepend (take i bytes) (split at (drop i bytes)) ≡ prepend (take (i + 1) bytes) (split at (drop (i + 1) bytes))
split_on at bytes i h other =
    ap (λ bs. prepend (take i bytes) (split at bs)) (here bytes i h)
    ∙ ap (prepend (take i bytes)) (split_other at (get_or bytes i 0) (drop (i + 1) bytes) other)
    ∙ prepend_twice (take i bytes) (get_or bytes i 0 ∷ []) (split at (drop (i + 1) bytes))
    ∙ ap (λ front. prepend front (split at (drop (i + 1) bytes))) (sym (take_more bytes i 0 h))

-- a byte of this value ends it
pub split_ends : (at : ℕ) (bytes : List ℕ) (i : ℕ) → i < length bytes → get_or bytes i 0 ≡ at → prepend (take i bytes) (split at (drop i bytes)) ≡ take i bytes ∷ split at (drop (i + 1) bytes)
split_ends at bytes i h same =
    ap (λ bs. prepend (take i bytes) (split at bs)) (here bytes i h)
    ∙ ap (prepend (take i bytes)) (split_there at (get_or bytes i 0) (drop (i + 1) bytes) same)
    ∙ ap (λ (p : List ℕ). p ∷ split at (drop (i + 1) bytes)) (append-nil (take i bytes))

-- none is left
pub split_last : (at : ℕ) (bytes : List ℕ) (i : ℕ) → length bytes ≤ i → prepend (take i bytes) (split at (drop i bytes)) ≡ bytes ∷ []
unfolding split
split_last at bytes i h =
    ap (λ bs. prepend (take i bytes) (split at bs)) (drop_all i bytes h) ∙ ap (λ (p : List ℕ). p ∷ []) (append-nil (take i bytes) ∙ take_all i bytes h)

-- the bytes after a place, as code takes them
pub after_place : (bytes : List ℕ) (i : ℕ) → take (length bytes - i) (drop i bytes) ≡ drop i bytes
after_place bytes i = take_all (length bytes - i) (drop i bytes) (omega (arith, length-drop i bytes))

-- a piece is passed over
pub piece_on : (at : ℕ) (piece bytes rest : List ℕ) (k : ℕ) → split at bytes ≡ piece ∷ split at rest → 0 < k → get_or (split at rest) (k - 1) [] ≡ get_or (split at bytes) k []
piece_on at piece bytes rest zero e h = absurd (omega arith)
piece_on at piece bytes rest (suc k) e h = let s : suc k - 1 ≡ k = omega arith in rw (e, s) refl

-- none is after the last
pub no_piece : (at : ℕ) (piece bytes : List ℕ) (k : ℕ) → split at bytes ≡ piece ∷ [] → 0 < k → get_or (split at bytes) k [] ≡ []
no_piece at piece bytes zero e h = absurd (omega arith)
no_piece at piece bytes (suc k) e h = rw e refl

pub first_piece : (at : ℕ) (piece bytes : List ℕ) (rest : Option (List ℕ)) → split at bytes ≡ piece_before at piece rest → get_or (split at bytes) 0 [] ≡ piece
first_piece at piece bytes None e = rw e refl
first_piece at piece bytes (Some rest) e = rw e refl
