-- One byte of the scan.
use Rattle.std.proofs.Common.{◌≡◌, ℕ, ◌+◌, ◌-◌, ◌<◌, ◌≤◌, List, length, drop, get_or, refl, ◌∙◌, add-one, arith}
use Rattle.std.proofs.Math.Seq.{drop-cons}
use Rattle.kts_base.specs.Limits.{most_atom_bytes, most_nesting}
use Rattle.kts_text.specs.Bytes.{class, line_feed}
use Rattle.kts_text.specs.Faults.{tree_fault}
use Rattle.kts_text.specs.Forest.{atom_node}
use Rattle.kts_text.specs.Scan.{Read, closed, letter, letters_in_front, opened, outside, scan, step, with_node}
use Rattle.std.proofs.Common.{Err}
use Rattle.kts_text.specs.declared.scan.Mode.{Mode}
use Rattle.kts_text.specs.declared.scan.Mode.TheVariants.{Comment, Outside}
use Rattle.kts_text.specs.declared.class.Class.{Class}
use Rattle.kts_text.specs.declared.class.Class.TheVariants.{White, Semicolon, Open, Close, Letter, Bad}
use Rattle.std.proofs.lemmas.Bool.Decides.{nat_tests}
use Rattle.kts_text.specs.declared.fault.TreeKind.TheVariants.{BadByte, LongAtom, Deep, Extra}

-- ---- the tests of a step

pub comment_ends : (b d at len : ℕ) (go : Mode → ℕ → Read) → b ≡ line_feed → step Comment b d at len go ≡ go (Outside 0) d
unfolding step
comment_ends b d at len go e = grind (arith, nat_tests)

pub comment_on : (b d at len : ℕ) (go : Mode → ℕ → Read) → (b ≡ line_feed → ⊥) → step Comment b d at len go ≡ go Comment d
unfolding step
comment_on b d at len go e = grind (arith, nat_tests)

pub deep : (n d at len : ℕ) (go : Mode → ℕ → Read) → d ≡ most_nesting → outside n Open d at len go ≡ Err (tree_fault Deep at)
unfolding outside
deep n d at len go e = grind (arith, nat_tests)

pub not_deep : (n d at len : ℕ) (go : Mode → ℕ → Read) → (d ≡ most_nesting → ⊥) → outside n Open d at len go ≡ opened at d (go (Outside 0) (d + 1))
unfolding outside
not_deep n d at len go e = grind (arith, nat_tests)

pub extra : (n d at len : ℕ) (go : Mode → ℕ → Read) → d ≡ 0 → outside n Close d at len go ≡ Err (tree_fault Extra at)
unfolding outside
extra n d at len go e = grind (arith, nat_tests)

pub not_extra : (n d at len : ℕ) (go : Mode → ℕ → Read) → (d ≡ 0 → ⊥) → outside n Close d at len go ≡ closed (at + 1) (go (Outside 0) (d - 1))
unfolding outside
not_extra n d at len go e = grind (arith, nat_tests)

pub long_atom : (n d at len : ℕ) (rest : Read) → most_atom_bytes ≤ n → letter n d at len rest ≡ Err (tree_fault LongAtom at)
unfolding letter
long_atom n d at len rest h = grind (arith, nat_tests)

pub first_letter : (n d at len : ℕ) (rest : Read) → n ≡ 0 → letter n d at len rest ≡ with_node (atom_node at (at + len) d) rest
unfolding letter
first_letter n d at len rest h = grind (arith, nat_tests)

pub later_letter : (n d at len : ℕ) (rest : Read) → n < most_atom_bytes → (n ≡ 0 → ⊥) → letter n d at len rest ≡ rest
unfolding letter
later_letter n d at len rest h e = grind (arith, nat_tests)

-- ---- the scan at a byte

pub scan_here : (m : Mode) (d at : ℕ) (bytes : List ℕ) → at < length bytes → scan m d at (drop at bytes) ≡ step m (get_or bytes at 0) d at (letters_in_front (drop at bytes)) (λ n e. scan n e (at + 1) (drop (at + 1) bytes))
unfolding scan
scan_here m d at bytes h = rw (drop-cons bytes at 0 h, add-one) refl

text_here : (m : Mode) (n : ℕ) (k : Class) (d at : ℕ) (bytes : List ℕ) → at < length bytes → m ≡ Outside n → k ≡ class (get_or bytes at 0) → scan m d at (drop at bytes) ≡ outside n k d at (letters_in_front (drop at bytes)) (λ n e. scan n e (at + 1) (drop (at + 1) bytes))
unfolding step
text_here m n k d at bytes h e f = rw (e, f) (scan_here (Outside n) d at bytes h)

module _ (m : Mode) (n d at : ℕ) (bytes : List ℕ) (inside : at < length bytes) where
  pub on_line : m ≡ Comment → (get_or bytes at 0 ≡ line_feed → ⊥) → scan m d at (drop at bytes) ≡ scan Comment d (at + 1) (drop (at + 1) bytes)
  on_line e f = rw e (scan_here Comment d at bytes inside ∙ comment_on (get_or bytes at 0) d at (letters_in_front (drop at bytes)) (λ n e. scan n e (at + 1) (drop (at + 1) bytes)) f)

  pub on_line_end : m ≡ Comment → get_or bytes at 0 ≡ line_feed → scan m d at (drop at bytes) ≡ scan (Outside 0) d (at + 1) (drop (at + 1) bytes)
  on_line_end e f = rw e (scan_here Comment d at bytes inside ∙ comment_ends (get_or bytes at 0) d at (letters_in_front (drop at bytes)) (λ n e. scan n e (at + 1) (drop (at + 1) bytes)) f)

  pub on_white : m ≡ Outside n → White ≡ class (get_or bytes at 0) → scan m d at (drop at bytes) ≡ scan (Outside 0) d (at + 1) (drop (at + 1) bytes)
  unfolding outside
  on_white e f = text_here m n White d at bytes inside e f

  pub on_semicolon : m ≡ Outside n → Semicolon ≡ class (get_or bytes at 0) → scan m d at (drop at bytes) ≡ scan Comment d (at + 1) (drop (at + 1) bytes)
  unfolding outside
  on_semicolon e f = text_here m n Semicolon d at bytes inside e f

  pub on_bad : m ≡ Outside n → Bad ≡ class (get_or bytes at 0) → scan m d at (drop at bytes) ≡ Err (tree_fault BadByte at)
  unfolding outside
  on_bad e f = text_here m n Bad d at bytes inside e f

  pub on_deep : m ≡ Outside n → Open ≡ class (get_or bytes at 0) → d ≡ most_nesting → scan m d at (drop at bytes) ≡ Err (tree_fault Deep at)
  on_deep e f h = text_here m n Open d at bytes inside e f ∙ deep n d at (letters_in_front (drop at bytes)) (λ n e. scan n e (at + 1) (drop (at + 1) bytes)) h

  pub on_open : m ≡ Outside n → Open ≡ class (get_or bytes at 0) → (d ≡ most_nesting → ⊥) → scan m d at (drop at bytes) ≡ opened at d (scan (Outside 0) (d + 1) (at + 1) (drop (at + 1) bytes))
  on_open e f h = text_here m n Open d at bytes inside e f ∙ not_deep n d at (letters_in_front (drop at bytes)) (λ n e. scan n e (at + 1) (drop (at + 1) bytes)) h

  pub on_extra : m ≡ Outside n → Close ≡ class (get_or bytes at 0) → d ≡ 0 → scan m d at (drop at bytes) ≡ Err (tree_fault Extra at)
  on_extra e f h = text_here m n Close d at bytes inside e f ∙ extra n d at (letters_in_front (drop at bytes)) (λ n e. scan n e (at + 1) (drop (at + 1) bytes)) h

  pub on_close : m ≡ Outside n → Close ≡ class (get_or bytes at 0) → (d ≡ 0 → ⊥) → scan m d at (drop at bytes) ≡ closed (at + 1) (scan (Outside 0) (d - 1) (at + 1) (drop (at + 1) bytes))
  on_close e f h = text_here m n Close d at bytes inside e f ∙ not_extra n d at (letters_in_front (drop at bytes)) (λ n e. scan n e (at + 1) (drop (at + 1) bytes)) h

  pub on_long : m ≡ Outside n → Letter ≡ class (get_or bytes at 0) → most_atom_bytes ≤ n → scan m d at (drop at bytes) ≡ Err (tree_fault LongAtom at)
  unfolding outside
  on_long e f h = text_here m n Letter d at bytes inside e f ∙ long_atom n d at (letters_in_front (drop at bytes)) (scan (Outside (n + 1)) d (at + 1) (drop (at + 1) bytes)) h

  pub on_first : m ≡ Outside n → Letter ≡ class (get_or bytes at 0) → n ≡ 0 → scan m d at (drop at bytes) ≡ with_node (atom_node at (at + letters_in_front (drop at bytes)) d) (scan (Outside 1) d (at + 1) (drop (at + 1) bytes))
  unfolding outside
  on_first e f h = text_here m n Letter d at bytes inside e f ∙ first_letter n d at (letters_in_front (drop at bytes)) (scan (Outside (n + 1)) d (at + 1) (drop (at + 1) bytes)) h ∙ rw h refl

  pub on_later : m ≡ Outside n → Letter ≡ class (get_or bytes at 0) → n < most_atom_bytes → (n ≡ 0 → ⊥) → scan m d at (drop at bytes) ≡ scan (Outside (n + 1)) d (at + 1) (drop (at + 1) bytes)
  unfolding outside
  on_later e f h g = text_here m n Letter d at bytes inside e f ∙ later_letter n d at (letters_in_front (drop at bytes)) (scan (Outside (n + 1)) d (at + 1) (drop (at + 1) bytes)) h g
