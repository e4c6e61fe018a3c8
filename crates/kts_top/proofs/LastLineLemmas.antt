-- The last line of lines.
use Rattle.std.proofs.Common.{◌≡◌, inl, inr, refl, sym, ap, ◌∙◌, subst, ℕ, zero, suc, ◌+◌, ◌/◌, ◌%◌, ◌==◌, arith, List, [], ◌∷◌, ◌++◌, append_assoc, append-nil, Bool, true, false, ◌||◌, ◌&&◌, cond, nat_eq}
use Rattle.std.specs.List.{list_all}
use Rattle.std.specs.Prelude.{decimal, nat_lt, flat_map}
use Rattle.std.proofs.lemmas.Bool.Decides.{nat_tests}
use Rattle.std.proofs.lemmas.List.Folds.{list_all-append}
use Rattle.std.specs.Fmt.{digit_glyph, digits_onto, digits}
use Rattle.kts_spec.specs.Texts.{newline}
use Rattle.kts_top.specs.LastLines.{Line, Lines, line_follows, last_line}

-- ---- bytes that end no line

abbrev pub Plain : List ℕ → Type 0
Plain bytes = list_all (λ byte. nat_lt 10 byte) bytes ≡ true

glyph_plain : (upper : Bool) (d : ℕ) → nat_lt 10 (digit_glyph upper d) ≡ true
glyph_plain upper d = by (nat_lt d 10) upper
  where
    by : (a b : Bool) → nat_lt 10 (cond a (48 + d) (cond b (55 + d) (87 + d))) ≡ true
    by true b = grind (arith, nat_tests)
    by false true = grind (arith, nat_tests)
    by false false = grind (arith, nat_tests)

either_plain : (last : Bool) (x y : List ℕ) → Plain x → Plain y → Plain (cond last x y)
either_plain true x y p q = p
either_plain false x y p q = q

onto_plain : (k n : ℕ) (acc : List ℕ) → Plain acc → Plain (digits_onto k 10 false n acc)
onto_plain zero n acc p = p
onto_plain (suc k) n acc p =
    let glyph = digit_glyph false (n % 10) in
    let more : Plain (glyph ∷ acc) = ap (λ b. b && list_all (λ byte. nat_lt 10 byte) acc) (glyph_plain false (n % 10)) ∙ p in
    either_plain (n / 10 == 0) (glyph ∷ acc) _ more (onto_plain k (n / 10) (glyph ∷ acc) more)

pub decimal_plain : (n : ℕ) → Plain (decimal n)
unfolding digits
decimal_plain n = onto_plain 64 n [] refl

pub plain_append : (x y : List ℕ) → Plain x → Plain y → Plain (x ++ y)
plain_append x y p q = list_all-append (λ (byte : ℕ). nat_lt 10 byte) x y ∙ ap (λ b. b && list_all (λ byte. nat_lt 10 byte) y) p ∙ q

-- ---- the last line

not_end : (byte : ℕ) (rest : Bool) → (nat_lt 10 byte && rest) ≡ true → (nat_eq byte 10 ≡ false) × (rest ≡ true)
not_end byte rest h = grind (arith, nat_tests)

-- nothing follows the end of a line that is plain
one_line : (x : List ℕ) → Plain x → line_follows (x ++ newline) ≡ false
one_line [] p = refl
one_line (byte ∷ []) p = ap (λ b. b || false) (not_end byte true p).0
one_line (byte ∷ next ∷ bytes) p =
    let parts = not_end byte (list_all (λ b. nat_lt 10 b) (next ∷ bytes)) p in
    ap (λ b. b || line_follows (next ∷ bytes ++ newline)) parts.0 ∙ one_line (next ∷ bytes) parts.1

-- a text of one line is its last line
alone : (x : List ℕ) → line_follows x ≡ false → last_line x ≡ x
alone [] h = refl
alone (byte ∷ bytes) h = ap (λ b. cond b (last_line bytes) (byte ∷ bytes)) h

either_true : (b : Bool) → (b || true) ≡ true
either_true true = refl
either_true false = refl

follows : (t : List ℕ) (first : ℕ) (l : List ℕ) → line_follows (t ++ (10 ∷ first ∷ l)) ≡ true
follows [] first l = refl
follows (byte ∷ []) first l = either_true (nat_eq byte 10)
follows (byte ∷ next ∷ t) first l = ap (λ b. nat_eq byte 10 || b) (follows (next ∷ t) first l) ∙ either_true (nat_eq byte 10)

-- the last line stands behind each line's end
behind : (t : List ℕ) (first : ℕ) (l : List ℕ) → last_line (t ++ (10 ∷ first ∷ l)) ≡ last_line (first ∷ l)
behind [] first l = refl
behind (byte ∷ t) first l =
    ap (λ b. cond b (last_line (t ++ (10 ∷ first ∷ l))) (byte ∷ (t ++ (10 ∷ first ∷ l)))) (follows (byte ∷ t) first l) ∙ behind t first l

-- ---- lines

pub line_after : (x y : List ℕ) → Line y → Line (x ++ y)
line_after x y p = (x ++ p.0, ap (λ t. x ++ t) p.1 ∙ sym (append_assoc x p.0 newline))

pub line_then : (x y : List ℕ) → Line x → Lines y → Line (x ++ y)
line_then x y p (inl none) = (p.0, ap (λ t. x ++ t) none ∙ append-nil x ∙ p.1)
line_then x y p (inr more) = line_after x y more

pub lines_then : (x y : List ℕ) → Lines x → Lines y → Lines (x ++ y)
lines_then x y (inl none) q = subst (λ t. Lines (t ++ y)) (sym none) q
lines_then x y (inr line) q = inr (line_then x y line q)

pub lines_each : {A : Type 0} (f : A → List ℕ) → ((a : A) → Lines (f a)) → (xs : List A) → Lines (flat_map f xs)
lines_each f each [] = inl refl
lines_each f each (x ∷ xs) = lines_then (f x) (flat_map f xs) (each x) (lines_each f each xs)

-- the last line behind lines
pub last_is : (text x : List ℕ) → Lines text → Plain x → last_line (text ++ (x ++ newline)) ≡ x ++ newline
last_is text x (inl none) p = rw none (alone (x ++ newline) (one_line x p))
last_is text x (inr line) p = by x p
  where
    by : (x : List ℕ) → Plain x → last_line (text ++ (x ++ newline)) ≡ x ++ newline
    by [] p = rw (line.1, append_assoc line.0 newline newline) (behind line.0 10 [])
    by (byte ∷ bytes) p =
        rw (line.1, append_assoc line.0 newline (byte ∷ bytes ++ newline)) (behind line.0 byte (bytes ++ newline) ∙ alone (byte ∷ bytes ++ newline) (one_line (byte ∷ bytes) p))
