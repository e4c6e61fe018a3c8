-- Words as the manual has them, and as they are read.
use Rattle.std.proofs.Common.{◌≡◌, ◌↔◌, sym, refl, ◌∙◌, ap, subst, ℕ, List, [], ◌∷◌, ◌++◌, Bool, true, false, ◌&&◌, not, nat_eq, Option, Some, None, cond, arith}
use Rattle.std.specs.Prelude.{codes, option_map}
use Rattle.std.specs.Cmp.Lexicographic.{same_text}
use Rattle.std.proofs.lemmas.Bool.{and_parts, and_from}
use Rattle.std.proofs.lemmas.Bool.Decides.{nat_tests}
use Rattle.std.proofs.lemmas.Option.{same_Some, none-some, cond_some}
use Rattle.kts_top.specs.Options.{RunOptions}
use Rattle.kts_top.specs.Commands.{IsSized, Command, check, classify, generate, run, solve_data, solve, audit, sample, one_file, run_of, solve_with, solve_of, audit_of, sample_of, command_of}
use Rattle.kts_top.specs.Manual.{IsFileWord, Told, told_budget, told_first, told_trace, AreTold, IsOptions, IsCommand, check_words, classify_words, generate_words, run_words, solve_data_words, solve_words, audit_words, sample_words}
use Rattle.kts_base.specs.Numerals.{numeral_within}
use Rattle.kts_top.specs.Options.{options_of}
use Rattle.kts_top.specs.Words.{is_word, is_file_word}
use Rattle.kts_base.proofs.Decimals.{number_told, number_read}
use Rattle.kts_top.proofs.OptionsTold.{are_options, options_are}

-- ---- file words

-- the test of a file word
file_word : (word : List ℕ) → is_file_word word ≡ true → IsFileWord word
file_word [] h = absurd cc
file_word (byte ∷ bytes) h = record { some = λ e. cc; no_dash = λ rest e. no_dash rest e }
  where
    no_dash : (rest : List ℕ) → byte ∷ bytes ≡ 45 ∷ rest → ⊥
    no_dash rest e = let same : byte ≡ 45 = cc in grind (arith, nat_tests, h, same)

file_word_test : (word : List ℕ) → IsFileWord word → is_file_word word ≡ true
file_word_test [] file = absurd (file.some refl)
file_word_test (byte ∷ bytes) file = by (nat_eq byte 45) refl
  where
    number : (n : ℕ) → nat_eq n 45 ≡ true → n ≡ 45
    number n h = grind (arith, nat_tests)

    by : (b : Bool) → nat_eq byte 45 ≡ b → not b ≡ true
    by true is = absurd (file.no_dash bytes (ap (λ (n : ℕ). n ∷ bytes) (number byte is)))
    by false is = refl

-- ---- read

-- what an option that was mapped was
mapped : {A B : Type 0} (f : A → B) (o : Option A) (y : B) → option_map f o ≡ Some y → (x : A) × (o ≡ Some x) × (f x ≡ y)
mapped f None y e = absurd (none-some y e)
mapped f (Some x) y e = (x, refl, same_Some (f x) y e)

-- what is had only where a test holds
only : {A : Type 0} (b : Bool) (x : Option A) (y : A) → cond b x None ≡ Some y → (b ≡ true) × (x ≡ Some y)
only true x y e = (refl, e)
only false x y e = absurd (none-some y e)

-- the one file word of these
record OneFile (spec : List ℕ) (words : List (List ℕ)) : Type 0 where
  file : IsFileWord spec
  words_are : words ≡ spec ∷ []

one_file_read : (words : List (List ℕ)) (spec : List ℕ) → one_file words ≡ Some spec → OneFile spec words
one_file_read [] spec e = absurd (none-some spec e)
one_file_read (word ∷ []) spec e =
    let is = cond_some (is_file_word word) word spec e in
    record { file = subst IsFileWord is.1 (file_word word is.0); words_are = ap (λ (w : List ℕ). w ∷ []) is.1 }
one_file_read (word ∷ other ∷ words) spec e = absurd (none-some spec e)

module _ (name : List ℕ) (command : Command) where
  -- a command of one file
  one_read : (make : List ℕ → Command) (text : List ℕ) → ((spec : List ℕ) (words : List (List ℕ)) → IsFileWord spec → words ≡ text ∷ spec ∷ [] → IsCommand (make spec) words)
      → (words : List (List ℕ)) → name ≡ text → option_map make (one_file words) ≡ Some command → IsCommand command (name ∷ words)
  one_read make text told words is e =
      let m = mapped make (one_file words) command e in
      let file = one_file_read words m.0 m.1 in
      subst (λ c. IsCommand c (name ∷ words)) m.2 (told m.0 (name ∷ words) file.file (ap (λ (n : List ℕ). n ∷ words) is ∙ ap (λ (ws : List (List ℕ)). text ∷ ws) file.words_are))

  run_read : (words : List (List ℕ)) → name ≡ codes "run" → run_of words ≡ Some command → IsCommand command (name ∷ words)
  run_read [] is e = absurd (none-some command e)
  run_read (code ∷ []) is e = absurd (none-some command e)
  run_read (code ∷ table ∷ words) is e =
      let told = only (is_file_word code && is_file_word table) (option_map (run code table) (options_of words)) command e in
      let files = and_parts (is_file_word code) (is_file_word table) told.0 in
      let m = mapped (run code table) (options_of words) command told.1 in
      subst (λ c. IsCommand c (name ∷ code ∷ table ∷ words)) m.2 (run_words (file_word code files.0) (file_word table files.1) (are_options m.0 words m.1) (ap (λ (n : List ℕ). n ∷ code ∷ table ∷ words) is))

  solve_told : (spec : List ℕ) (words : List (List ℕ)) → name ≡ codes "solve" → is_file_word spec ≡ true → option_map (solve spec) (options_of words) ≡ Some command → IsCommand command (name ∷ spec ∷ words)
  solve_told spec words is file e =
      let m = mapped (solve spec) (options_of words) command e in
      subst (λ c. IsCommand c (name ∷ spec ∷ words)) m.2 (solve_words (file_word spec file) (are_options m.0 words m.1) (ap (λ (n : List ℕ). n ∷ spec ∷ words) is))

  solve_by : (spec table : List ℕ) (words : List (List ℕ)) (b : Bool) → name ≡ codes "solve" → is_file_word spec ≡ true → is_file_word table ≡ b
      → cond b (option_map (solve_data spec table) (options_of words)) (option_map (solve spec) (options_of (table ∷ words))) ≡ Some command → IsCommand command (name ∷ spec ∷ table ∷ words)
  solve_by spec table words true is file is_table e =
      let m = mapped (solve_data spec table) (options_of words) command e in
      subst (λ c. IsCommand c (name ∷ spec ∷ table ∷ words)) m.2 (solve_data_words (file_word spec file) (file_word table is_table) (are_options m.0 words m.1) (ap (λ (n : List ℕ). n ∷ spec ∷ table ∷ words) is))
  solve_by spec table words false is file is_table e = solve_told spec (table ∷ words) is file e

  solve_more : (spec : List ℕ) (words : List (List ℕ)) → name ≡ codes "solve" → is_file_word spec ≡ true → solve_with spec words ≡ Some command → IsCommand command (name ∷ spec ∷ words)
  solve_more spec [] is file e = solve_told spec [] is file e
  solve_more spec (table ∷ words) is file e = solve_by spec table words (is_file_word table) is file refl e

  solve_read : (words : List (List ℕ)) → name ≡ codes "solve" → solve_of words ≡ Some command → IsCommand command (name ∷ words)
  solve_read [] is e = absurd (none-some command e)
  solve_read (spec ∷ words) is e = let told = only (is_file_word spec) (solve_with spec words) command e in solve_more spec words is told.0 told.1

  audit_read : (words : List (List ℕ)) → name ≡ codes "audit" → audit_of words ≡ Some command → IsCommand command (name ∷ words)
  audit_read [] is e = absurd (none-some command e)
  audit_read (spec ∷ []) is e = absurd (none-some command e)
  audit_read (spec ∷ table ∷ []) is e = absurd (none-some command e)
  audit_read (spec ∷ table ∷ plan ∷ []) is e =
      let told = cond_some (is_file_word spec && (is_file_word table && is_file_word plan)) (audit spec table plan) command e in
      let first = and_parts (is_file_word spec) (is_file_word table && is_file_word plan) told.0 in
      let others = and_parts (is_file_word table) (is_file_word plan) first.1 in
      subst (λ c. IsCommand c (name ∷ spec ∷ table ∷ plan ∷ [])) told.1
      (audit_words (file_word spec first.0) (file_word table others.0) (file_word plan others.1) (ap (λ (n : List ℕ). n ∷ spec ∷ table ∷ plan ∷ []) is))
  audit_read (spec ∷ table ∷ plan ∷ other ∷ words) is e = absurd (none-some command e)

  sample_read : (words : List (List ℕ)) → name ≡ codes "sample" → sample_of words ≡ Some command → IsCommand command (name ∷ words)
  sample_read [] is e = absurd (none-some command e)
  sample_read (size ∷ []) is e =
      let m = mapped sample (numeral_within 1 64 size) command e in
      subst (λ c. IsCommand c (name ∷ size ∷ [])) m.2 (sample_words (number_told 1 64 size m.0 (omega arith) m.1) (ap (λ (n : List ℕ). n ∷ size ∷ []) is))
  sample_read (size ∷ other ∷ words) is e = absurd (none-some command e)

  module _ (words : List (List ℕ)) where
    same : (text : List ℕ) → is_word name text ≡ true → name ≡ text
    same text is = same_text name text (sym is)

    form_read : (c l g r s a n : Bool) → is_word name (codes "check") ≡ c → is_word name (codes "classify") ≡ l → is_word name (codes "generate") ≡ g → is_word name (codes "run") ≡ r
        → is_word name (codes "solve") ≡ s → is_word name (codes "audit") ≡ a → is_word name (codes "sample") ≡ n
        → cond c (option_map check (one_file words)) (cond l (option_map classify (one_file words)) (cond g (option_map generate (one_file words)) (cond r (run_of words) (cond s (solve_of words) (cond a (audit_of words) (cond n (sample_of words) None)))))) ≡ Some command
        → IsCommand command (name ∷ words)
    form_read true l g r s a n is_c is_l is_g is_r is_s is_a is_n e = one_read check (codes "check") (λ spec ws file are. check_words file are) words (same (codes "check") is_c) e
    form_read false true g r s a n is_c is_l is_g is_r is_s is_a is_n e = one_read classify (codes "classify") (λ spec ws file are. classify_words file are) words (same (codes "classify") is_l) e
    form_read false false true r s a n is_c is_l is_g is_r is_s is_a is_n e = one_read generate (codes "generate") (λ spec ws file are. generate_words file are) words (same (codes "generate") is_g) e
    form_read false false false true s a n is_c is_l is_g is_r is_s is_a is_n e = run_read words (same (codes "run") is_r) e
    form_read false false false false true a n is_c is_l is_g is_r is_s is_a is_n e = solve_read words (same (codes "solve") is_s) e
    form_read false false false false false true n is_c is_l is_g is_r is_s is_a is_n e = audit_read words (same (codes "audit") is_a) e
    form_read false false false false false false true is_c is_l is_g is_r is_s is_a is_n e = sample_read words (same (codes "sample") is_n) e
    form_read false false false false false false false is_c is_l is_g is_r is_s is_a is_n e = absurd (none-some command e)

-- words are the command that is read
pub read_is_command : (words : List (List ℕ)) (command : Command) → command_of words ≡ Some command → IsCommand command words
read_is_command [] command e = absurd (none-some command e)
read_is_command (name ∷ words) command e = form_read name command words _ _ _ _ _ _ _ refl refl refl refl refl refl refl e

-- the size of a sample is within its limits
pub sized : (words : List (List ℕ)) (command : Command) → command_of words ≡ Some command → IsSized command
sized words command e = by command (read_is_command words command e)
  where
    by : (c : Command) → IsCommand c words → IsSized c
    by (sample size) (sample_words number is) = (number.least, number.most)
    by (check spec) is = tt
    by (classify spec) is = tt
    by (generate spec) is = tt
    by (run code table options) is = tt
    by (solve_data spec table options) is = tt
    by (solve spec options) is = tt
    by (audit spec table plan) is = tt

-- ---- told, and so read

-- words that tell options don't begin with a file word
option_word : (tolds : List Told) (word : List ℕ) (words : List (List ℕ)) → AreTold tolds (word ∷ words) → is_file_word word ≡ false
option_word [] word words none = absurd cc
option_word (told_budget n ∷ tolds) word words (here, rest, (number, told, is), later, whole) =
    let all : word ∷ words ≡ codes "--budget" ∷ number ∷ rest = whole ∙ ap (λ (h : List (List ℕ)). h ++ rest) is in
    let name : word ≡ codes "--budget" = cc in
    ap is_file_word name
option_word (told_first n ∷ tolds) word words (here, rest, (number, told, is), later, whole) =
    let all : word ∷ words ≡ codes "--first" ∷ number ∷ rest = whole ∙ ap (λ (h : List (List ℕ)). h ++ rest) is in
    let name : word ≡ codes "--first" = cc in
    ap is_file_word name
option_word (told_trace ∷ tolds) word words (here, rest, is, later, whole) =
    let all : word ∷ words ≡ codes "--trace" ∷ rest = whole ∙ ap (λ (h : List (List ℕ)). h ++ rest) is in
    let name : word ≡ codes "--trace" = cc in
    ap is_file_word name

-- so they are no table
no_table : (spec : List ℕ) (options : RunOptions) (words : List (List ℕ)) → IsOptions options words → solve_with spec words ≡ Some (solve spec options)
no_table spec options [] told = ap (option_map (solve spec)) (options_are options [] told)
no_table spec options (word ∷ words) told =
    ap (λ t. cond t (option_map (solve_data spec word) (options_of words)) (option_map (solve spec) (options_of (word ∷ words)))) (option_word told.tolds word words told.spelled)
    ∙ ap (option_map (solve spec)) (options_are options (word ∷ words) told)

-- a command of one file is read
one_told : (make : List ℕ → Command) (spec : List ℕ) → IsFileWord spec → option_map make (one_file (spec ∷ [])) ≡ Some (make spec)
one_told make spec file = ap (λ t. option_map make (cond t (Some spec) None)) (file_word_test spec file)

-- the command that words are is read
pub command_is_read : (words : List (List ℕ)) (command : Command) → IsCommand command words → command_of words ≡ Some command
command_is_read words command (check_words {spec = spec} file is) = ap command_of is ∙ one_told check spec file
command_is_read words command (classify_words {spec = spec} file is) = ap command_of is ∙ one_told classify spec file
command_is_read words command (generate_words {spec = spec} file is) = ap command_of is ∙ one_told generate spec file
command_is_read words command (run_words {code = code} {table = table} {options = options} {told = told} first second options_told is) =
    ap command_of is
    ∙ ap (λ t. cond t (option_map (run code table) (options_of told)) None) (and_from (is_file_word code) (is_file_word table) (file_word_test code first) (file_word_test table second))
    ∙ ap (option_map (run code table)) (options_are options told options_told)
command_is_read words command (solve_data_words {spec = spec} {table = table} {options = options} {told = told} first second options_told is) =
    ap command_of is
    ∙ ap (λ t. cond t (solve_with spec (table ∷ told)) None) (file_word_test spec first)
    ∙ ap (λ t. cond t (option_map (solve_data spec table) (options_of told)) (option_map (solve spec) (options_of (table ∷ told)))) (file_word_test table second)
    ∙ ap (option_map (solve_data spec table)) (options_are options told options_told)
command_is_read words command (solve_words {spec = spec} {options = options} {told = told} file options_told is) =
    ap command_of is
    ∙ ap (λ t. cond t (solve_with spec told) None) (file_word_test spec file)
    ∙ no_table spec options told options_told
command_is_read words command (audit_words {spec = spec} {table = table} {plan = plan} first second third is) =
    ap command_of is
    ∙ ap (λ t. cond t (Some (audit spec table plan)) None)
    (and_from (is_file_word spec) (is_file_word table && is_file_word plan) (file_word_test spec first) (and_from (is_file_word table) (is_file_word plan) (file_word_test table second) (file_word_test plan third)))
command_is_read words command (sample_words {size = size} {word = word} number is) =
    ap command_of is ∙ ap (option_map sample) (number_read 1 64 word size (omega arith) number)

-- words are a command by the manual exactly where they are read as it
pub words_law : (words : List (List ℕ)) (command : Command) → (command_of words ≡ Some command) ↔ IsCommand command words
words_law words command = (read_is_command words command, command_is_read words command)
