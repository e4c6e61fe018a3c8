-- How many letters stand at a place.
use Rattle.std.proofs.Common.{◌≡◌, ℕ, zero, suc, ◌+◌, ◌<◌, ◌≤◌, List, [], ◌∷◌, length, drop, get_or, ap, refl, ◌∙◌, add-one, arith}
use Rattle.std.proofs.Math.Seq.{drop-cons}
use Rattle.kts_text.specs.Bytes.{class}
use Rattle.kts_text.specs.Scan.{letter_more, letters_in_front}
use Rattle.kts_text.specs.declared.class.Class.TheVariants.{Letter}

pub letters_here : (bytes : List ℕ) (i : ℕ) → i < length bytes → letters_in_front (drop i bytes) ≡ letter_more (class (get_or bytes i 0)) (letters_in_front (drop (i + 1) bytes))
letters_here bytes i h = ap letters_in_front (drop-cons bytes i 0 h) ∙ rw add-one refl

pub letters_go_on : (bytes : List ℕ) (i : ℕ) → i < length bytes → class (get_or bytes i 0) ≡ Letter → letters_in_front (drop i bytes) ≡ letters_in_front (drop (i + 1) bytes) + 1
letters_go_on bytes i h e = letters_here bytes i h ∙ rw e refl

pub letters_past : (bytes : List ℕ) (i : ℕ) → length bytes ≤ i → letters_in_front (drop i bytes) ≡ 0
letters_past [] zero h = refl
letters_past [] (suc i) h = refl
letters_past (b ∷ bs) zero h = absurd (omega arith)
letters_past (b ∷ bs) (suc i) h = letters_past bs i (omega arith)
