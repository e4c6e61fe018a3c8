-- The text of a line, piece by piece, and of lines one after another.
use Rattle.std.proofs.Common.{◌≡◌, refl, sym, ◌∙◌, ap, ℕ, ◌+◌, ◌<◌, ◌≤◌, ◌⊎◌, inl, inr, suc, min, add-one, arith, List, [], ◌∷◌, ◌++◌, length, map}
use Rattle.std.proofs.Common.{drop, get_or, append_assoc, append-nil}
use Rattle.std.specs.Prelude.{decimal, codes, flat_map, zip}
use Rattle.std.specs.List.{join_with_byte}
use Rattle.std.proofs.Math.Seq.{drop-cons}
use Rattle.std.proofs.lemmas.List.{drop_all}
use Rattle.kts_code.specs.declared.code.Code.{Code}
use Rattle.kts_code.specs.declared.instructions.Instr.{Instr}
use Rattle.kts_code.specs.CodeTexts.{header_words, name_words, type_words, family_words, decl_words, task_words, wake_words, stack_words, size_words}
use Rattle.kts_code.specs.CodeTexts.{instr_words, end_words, line_text, code_lines, code_text}
use Rattle.kts_spec.specs.declared.declarations.Family.{Family}
use Rattle.kts_spec.specs.declared.schema.Schema.{Schema}
use Rattle.kts_spec.specs.Texts.{space, newline}
use Rattle.kts_write.specs.Spaced.{spaced}

-- ---- one line

joined_spaced : (w : List ℕ) (ws : List (List ℕ)) → join_with_byte space (w ∷ ws) ≡ w ++ spaced ws
joined_spaced w [] = sym (append-nil w)
joined_spaced w (x ∷ xs) = ap (λ (l : List ℕ). w ++ 32 ∷ l) (joined_spaced x xs)

-- a first word, the others, and the end
pub line_spaced : (w : List ℕ) (ws : List (List ℕ)) → line_text (w ∷ ws) ≡ w ++ (spaced ws ++ newline)
line_spaced w ws = ap (λ (l : List ℕ). l ++ newline) (joined_spaced w ws) ∙ append_assoc w (spaced ws) newline

spaced-append : (a b : List (List ℕ)) → spaced (a ++ b) ≡ spaced a ++ spaced b
spaced-append [] b = refl
spaced-append (x ∷ xs) b = ap (λ (l : List ℕ). 32 ∷ (x ++ l)) (spaced-append xs b) ∙ ap (λ (l : List ℕ). 32 ∷ l) (sym (append_assoc x (spaced xs) (spaced b)))

-- some words, more words, and the end
pub line_parts : (w : List ℕ) (front more : List (List ℕ)) → (w ++ spaced front) ++ (spaced more ++ newline) ≡ line_text (w ∷ (front ++ more))
line_parts w front more =
    append_assoc w (spaced front) (spaced more ++ newline)
    ∙ ap (λ (l : List ℕ). w ++ l) (sym (append_assoc (spaced front) (spaced more) newline) ∙ ap (λ (l : List ℕ). l ++ newline) (sym (spaced-append front more)))
    ∙ sym (line_spaced w (front ++ more))

pub two_pieces : (a b : List ℕ) → a ++ 32 ∷ (b ++ 10 ∷ []) ≡ line_text (a ∷ b ∷ [])
two_pieces a b = sym (append_assoc a (32 ∷ b) (10 ∷ []))

-- a name in front of a type and of arguments
pub family_pieces : (word : List ℕ) (f : Family)
    → (word ++ 32 ∷ (f.name ++ [])) ++ (spaced (type_words f.kind) ++ (spaced (map decimal f.args) ++ newline)) ≡ line_text (word ∷ family_words f)
family_pieces word f =
    let types = type_words f.kind in
    let args = map decimal f.args in
    ap (λ (l : List ℕ). (word ++ spaced (f.name ∷ [])) ++ l)
    (sym (append_assoc (spaced types) (spaced args) newline) ∙ ap (λ (l : List ℕ). l ++ newline) (sym (spaced-append types args)))
    ∙ line_parts word (f.name ∷ []) (types ++ args)

-- ---- words in a loop

module _ {A : Type 0} (text : A → List ℕ) (xs : List A) (i : ℕ) where
  pub spaced_at : (d : A) → i < length xs → spaced (map text (drop i xs)) ≡ (32 ∷ text (get_or xs i d)) ++ spaced (map text (drop (i + 1) xs))
  spaced_at d h = ap (λ ys. spaced (map text ys)) (drop-cons xs i d h) ∙ rw add-one refl

  pub spaced_end : length xs ≤ i → spaced (map text (drop i xs)) ≡ []
  spaced_end h = ap (λ ys. spaced (map text ys)) (drop_all i xs h)

-- ---- lines in a loop

abbrev pub lines_text : List (List (List ℕ)) → List ℕ
lines_text lines = flat_map line_text lines

module _ {A : Type 0} (words : A → List (List ℕ)) (xs : List A) (i : ℕ) where
  pub lines_at : (d : A) → i < length xs → lines_text (map words (drop i xs)) ≡ line_text (words (get_or xs i d)) ++ lines_text (map words (drop (i + 1) xs))
  lines_at d h = ap (λ ys. lines_text (map words ys)) (drop-cons xs i d h) ∙ rw add-one refl

  pub lines_here : (x : A) → i < length xs → x ≡ get_or xs i x
      → lines_text (map words (drop i xs)) ≡ line_text (words x) ++ lines_text (map words (drop (i + 1) xs))
  lines_here x h is = lines_at x h ∙ ap (λ y. line_text (words y) ++ lines_text (map words (drop (i + 1) xs))) (sym is)

  pub lines_end : length xs ≤ i → lines_text (map words (drop i xs)) ≡ []
  lines_end h = ap (λ ys. lines_text (map words ys)) (drop_all i xs h)

-- ---- constraints, beside their places

module _ (entries : List ℕ) (prefixes : List (List ℕ)) (k : ℕ) where
  pub tasks_here : (x : ℕ) (p : List ℕ) → k < length entries → k < length prefixes → p ≡ get_or prefixes k p
      → lines_text (map task_words (zip (drop k entries) (drop k prefixes)))
      ≡ line_text (task_words (get_or entries k x, p)) ++ lines_text (map task_words (zip (drop (k + 1) entries) (drop (k + 1) prefixes)))
  tasks_here x p a b is =
      ap (λ es. lines_text (map task_words (zip es (drop k prefixes)))) (drop-cons entries k x a)
      ∙ ap (λ ps. lines_text (map task_words (zip (get_or entries k x ∷ drop (suc k) entries) ps))) (drop-cons prefixes k p b)
      ∙ rw (← is, add-one) refl

  few : length entries ≤ k → lines_text (map task_words (zip (drop k entries) (drop k prefixes))) ≡ []
  few h = ap (λ es. lines_text (map task_words (zip es (drop k prefixes)))) (drop_all k entries h)

  no_second : (es : List ℕ) → lines_text (map task_words (zip es (let none : List (List ℕ) = [] in none))) ≡ []
  no_second [] = refl
  no_second (e ∷ es) = refl

  few_prefixes : length prefixes ≤ k → lines_text (map task_words (zip (drop k entries) (drop k prefixes))) ≡ []
  few_prefixes h = ap (λ ps. lines_text (map task_words (zip (drop k entries) ps))) (drop_all k prefixes h) ∙ no_second (drop k entries)

  either : min (length entries) (length prefixes) ≤ k → (length entries ≤ k) ⊎ (length prefixes ≤ k)
  either h = grind arith

  pub tasks_end : min (length entries) (length prefixes) ≤ k → lines_text (map task_words (zip (drop k entries) (drop k prefixes))) ≡ []
  tasks_end h = elim (either h) [ inl a ↦ few a | inr b ↦ few_prefixes b ]

-- ---- all of the code

lines-append : (a b : List (List (List ℕ))) → lines_text (a ++ b) ≡ lines_text a ++ lines_text b
lines-append [] b = refl
lines-append (l ∷ ls) b = ap (λ (t : List ℕ). line_text l ++ t) (lines-append ls b) ∙ sym (append_assoc (line_text l) (lines_text ls) (lines_text b))

-- the lines of a schema, in two pieces
pub schema_pieces : (schema : Schema) → (codes "kts 1\nspec " ++ (schema.name ++ newline)) ++ lines_text (map (decl_words schema) schema.decls)
    ≡ lines_text (header_words ∷ name_words schema.name ∷ map (decl_words schema) schema.decls)
schema_pieces schema =
    let rest = lines_text (map (decl_words schema) schema.decls) in
    ap (λ (l : List ℕ). codes "kts 1\n" ++ (l ++ rest)) (sym (append_assoc (codes "spec ") schema.name newline))

-- the sizes, the instructions and the end
pub body_pieces : (stack : ℕ) (instrs : List Instr)
    → lines_text (stack_words stack ∷ size_words (length instrs) ∷ []) ++ (lines_text (map instr_words instrs) ++ codes "end\n")
    ≡ lines_text (stack_words stack ∷ size_words (length instrs) ∷ (map instr_words instrs ++ end_words ∷ []))
body_pieces stack instrs =
    let sizes = stack_words stack ∷ size_words (length instrs) ∷ [] in
    ap (λ (l : List ℕ). lines_text sizes ++ l) (sym (lines-append (map instr_words instrs) (end_words ∷ [])))
    ∙ sym (lines-append sizes (map instr_words instrs ++ end_words ∷ []))

pub code_pieces : (code : Code) → lines_text (header_words ∷ name_words code.schema.name ∷ map (decl_words code.schema) code.schema.decls)
    ++ ((lines_text (map task_words (zip code.entries code.schema.tasks)) ++ lines_text (map wake_words code.index))
    ++ lines_text (stack_words code.stack ∷ size_words (length code.instrs) ∷ (map instr_words code.instrs ++ end_words ∷ [])))
    ≡ code_text code
unfolding code_text code_lines
code_pieces code =
    let front = header_words ∷ name_words code.schema.name ∷ map (decl_words code.schema) code.schema.decls in
    let tasks = map task_words (zip code.entries code.schema.tasks) in
    let wakes = map wake_words code.index in
    let body = stack_words code.stack ∷ size_words (length code.instrs) ∷ (map instr_words code.instrs ++ end_words ∷ []) in
    ap (λ (l : List ℕ). lines_text front ++ l)
    (append_assoc (lines_text tasks) (lines_text wakes) (lines_text body)
    ∙ ap (λ (l : List ℕ). lines_text tasks ++ l) (sym (lines-append wakes body)) ∙ sym (lines-append tasks (wakes ++ body)))
    ∙ sym (lines-append front (tasks ++ (wakes ++ body)))
