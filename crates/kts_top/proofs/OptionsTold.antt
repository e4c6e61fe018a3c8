-- Options as they are told, and as they are read.
use Rattle.std.proofs.Common.{◌≡◌, ◌≢◌, ◌⊎◌, inl, inr, sym, refl, ◌∙◌, ap, subst, ℕ, ◌^◌, List, [], ◌∷◌, ◌++◌, Bool, true, false, Option, Some, None, cond, option_and_then, arith}
use Rattle.std.specs.Prelude.{codes, option_map}
use Rattle.std.specs.Cmp.Lexicographic.{same_text, other_text}
use Rattle.std.proofs.lemmas.Option.{same_Some, none-some, option_and_then_some}
use Rattle.kts_top.specs.Options.{RunOptions}
use Rattle.kts_top.specs.Manual.{Told, told_budget, told_first, told_trace, name_of, AreTold, IsAmong, AreUnlike, Say, IsOptions}
use Rattle.kts_base.specs.Numerals.{IsNumber, numeral_within}
use Rattle.kts_top.specs.Options.{no_options, budget_beside, with_budget, first_beside, with_first, with_trace, with_number, options_after, options_of}
use Rattle.kts_top.specs.Words.{is_word}
use Rattle.kts_base.proofs.Decimals.{number_told, number_read}

-- ---- one option beside others

-- none of its kind was told
abbrev Lack : RunOptions → Told → Type 0
Lack options (told_budget n) = options.budget ≡ None
Lack options (told_first n) = options.first ≡ None
Lack options told_trace = options.trace ≡ false

-- the options with one more
abbrev beside : RunOptions → Told → RunOptions
beside options (told_budget n) = record { budget = Some n; first = options.first; trace = options.trace }
beside options (told_first n) = record { budget = options.budget; first = Some n; trace = options.trace }
beside options told_trace = record { budget = options.budget; first = options.first; trace = true }

budget_first : codes "--budget" ≢ codes "--first"
budget_first = other_text (codes "--budget") (codes "--first") refl

budget_trace : codes "--budget" ≢ codes "--trace"
budget_trace = other_text (codes "--budget") (codes "--trace") refl

first_trace : codes "--first" ≢ codes "--trace"
first_trace = other_text (codes "--first") (codes "--trace") refl

-- what is said beside an option was said before, or is that option
said_beside : (options : RunOptions) (told other : Told) → Say (beside options told) other → Say options other ⊎ (other ≡ told)
said_beside options (told_budget n) (told_budget m) h = inr (ap told_budget (sym (same_Some n m h)))
said_beside options (told_budget n) (told_first m) h = inl h
said_beside options (told_budget n) told_trace h = inl h
said_beside options (told_first n) (told_budget m) h = inl h
said_beside options (told_first n) (told_first m) h = inr (ap told_first (sym (same_Some n m h)))
said_beside options (told_first n) told_trace h = inl h
said_beside options told_trace (told_budget m) h = inl h
said_beside options told_trace (told_first m) h = inl h
said_beside options told_trace told_trace h = inr refl

-- what was said before is said beside an option
still_said : (options : RunOptions) (told other : Told) → Lack options told → Say options other → Say (beside options told) other
still_said options (told_budget n) (told_budget m) lack h = absurd (none-some m (sym lack ∙ h))
still_said options (told_budget n) (told_first m) lack h = h
still_said options (told_budget n) told_trace lack h = h
still_said options (told_first n) (told_budget m) lack h = h
still_said options (told_first n) (told_first m) lack h = absurd (none-some m (sym lack ∙ h))
still_said options (told_first n) told_trace lack h = h
still_said options told_trace (told_budget m) lack h = h
still_said options told_trace (told_first m) lack h = h
still_said options told_trace told_trace lack h = refl

-- an option that was added is said
said_itself : (options : RunOptions) (told : Told) → Say (beside options told) told
said_itself options (told_budget n) = refl
said_itself options (told_first n) = refl
said_itself options told_trace = refl

-- what is lacking beside an option was lacking before, and is of another name
lack_beside : (options : RunOptions) (told other : Told) → Lack (beside options told) other → Lack options other × (name_of other ≢ name_of told)
lack_beside options (told_budget n) (told_budget m) h = absurd (none-some n (sym h))
lack_beside options (told_budget n) (told_first m) h = (h, λ e. budget_first (sym e))
lack_beside options (told_budget n) told_trace h = (h, λ e. budget_trace (sym e))
lack_beside options (told_first n) (told_budget m) h = (h, budget_first)
lack_beside options (told_first n) (told_first m) h = absurd (none-some n (sym h))
lack_beside options (told_first n) told_trace h = (h, λ e. first_trace (sym e))
lack_beside options told_trace (told_budget m) h = (h, budget_trace)
lack_beside options told_trace (told_first m) h = (h, first_trace)
lack_beside options told_trace told_trace h = absurd cc

-- what lacks, of another name, lacks beside an option
still_lack : (options : RunOptions) (told other : Told) → Lack options other → name_of other ≢ name_of told → Lack (beside options told) other
still_lack options (told_budget n) (told_budget m) h unlike = absurd (unlike refl)
still_lack options (told_budget n) (told_first m) h unlike = h
still_lack options (told_budget n) told_trace h unlike = h
still_lack options (told_first n) (told_budget m) h unlike = h
still_lack options (told_first n) (told_first m) h unlike = absurd (unlike refl)
still_lack options (told_first n) told_trace h unlike = h
still_lack options told_trace (told_budget m) h unlike = h
still_lack options told_trace (told_first m) h unlike = h
still_lack options told_trace told_trace h unlike = absurd (unlike refl)

-- ---- options one after another

-- these are told beside others, each where none of its kind was told before
abbrev Add : List Told → RunOptions → RunOptions → Type 0
Add [] start options = start ≡ options
Add (told ∷ tolds) start options = Lack start told × Add tolds (beside start told) options

-- what options say to which these were added
record Added (tolds : List Told) (start options : RunOptions) : Type 0 where
  said : (told : Told) → Say options told → Say start told ⊎ IsAmong told tolds
  kept : (told : Told) → Say start told → Say options told
  says : (told : Told) → IsAmong told tolds → Say options told
  lack : (told : Told) → IsAmong told tolds → Lack start told
  unlike : AreUnlike tolds

module _ (first : Told) (tolds : List Told) (start options : RunOptions) (lack : Lack start first) (later : Added tolds (beside start first) options) where
  said_first : (told : Told) → Say start told ⊎ (told ≡ first) → Say start told ⊎ IsAmong told (first ∷ tolds)
  said_first told (inl h) = inl h
  said_first told (inr h) = inr (inl h)

  said_more : (told : Told) → Say (beside start first) told ⊎ IsAmong told tolds → Say start told ⊎ IsAmong told (first ∷ tolds)
  said_more told (inl h) = said_first told (said_beside start first told h)
  said_more told (inr h) = inr (inr h)

  says_more : (told : Told) → IsAmong told (first ∷ tolds) → Say options told
  says_more told (inl e) = later.kept told (subst (Say (beside start first)) (sym e) (said_itself start first))
  says_more told (inr h) = later.says told h

  lack_more : (told : Told) → IsAmong told (first ∷ tolds) → Lack start told
  lack_more told (inl e) = subst (Lack start) (sym e) lack
  lack_more told (inr h) = (lack_beside start first told (later.lack told h)).0

  added_more : Added (first ∷ tolds) start options
  added_more = record {
    said = λ told h. said_more told (later.said told h);
    kept = λ told h. later.kept told (still_said start first told lack h);
    says = says_more;
    lack = lack_more;
    unlike = (λ other h. (lack_beside start first other (later.lack other h)).1, later.unlike);
  }

-- options to which others were added say what they said, and what was added
added : (tolds : List Told) (start options : RunOptions) → Add tolds start options → Added tolds start options
added [] start options same = record {
  said = λ told h. inl (subst (λ o. Say o told) (sym same) h);
  kept = λ told h. subst (λ o. Say o told) same h;
  says = λ told h. absurd h;
  lack = λ told h. absurd h;
  unlike = tt;
}
added (first ∷ tolds) start options (lack, add) = added_more first tolds start options lack (added tolds (beside start first) options add)

-- what lacks in options, unlike one another, can be added
can_add : (tolds : List Told) (start : RunOptions) → AreUnlike tolds → ((told : Told) → IsAmong told tolds → Lack start told) → (options : RunOptions) × Add tolds start options
can_add [] start unlike lack = (start, refl)
can_add (first ∷ tolds) start unlike lack =
    let rest = can_add tolds (beside start first) unlike.1 (λ told h. still_lack start first told (lack told (inr h)) (unlike.0 told h)) in
    (rest.0, (lack first (inl refl), rest.1))

nothing_said : (told : Told) → Say no_options told → ⊥
nothing_said (told_budget n) h = none-some n h
nothing_said (told_first n) h = none-some n h
nothing_said told_trace h = cc

nothing_told : (told : Told) → Lack no_options told
nothing_told (told_budget n) = refl
nothing_told (told_first n) = refl
nothing_told told_trace = refl

-- two numbers that are told alike
same_option : (x y : Option ℕ) → ((n : ℕ) → x ≡ Some n → y ≡ Some n) → ((n : ℕ) → y ≡ Some n → x ≡ Some n) → x ≡ y
same_option None None there back = refl
same_option None (Some n) there back = back n refl
same_option (Some n) y there back = sym (there n refl)

same_test : (x y : Bool) → (x ≡ true → y ≡ true) → (y ≡ true → x ≡ true) → x ≡ y
same_test false false there back = refl
same_test false true there back = back refl
same_test true y there back = sym (there refl)

-- options that say the same
same_options : (one two : RunOptions) → ((told : Told) → Say one told → Say two told) → ((told : Told) → Say two told → Say one told) → one ≡ two
same_options one two there back =
    let b = same_option one.budget two.budget (λ n. there (told_budget n)) (λ n. back (told_budget n)) in
    let f = same_option one.first two.first (λ n. there (told_first n)) (λ n. back (told_first n)) in
    let t = same_test one.trace two.trace (there told_trace) (back told_trace) in
    λ i. record { budget = b i; first = f i; trace = t i }

-- ---- read

-- the options that were read, as they are told
record Read (words : List (List ℕ)) (start options : RunOptions) : Type 0 where
  tolds : List Told
  spelled : AreTold tolds words
  add : Add tolds start options

module _ {A : Type 0} where
  only_true : (b : Bool) (x : Option A) (y : A) → cond b x None ≡ Some y → (b ≡ true) × (x ≡ Some y)
  only_true true x y e = (refl, e)
  only_true false x y e = absurd (none-some y e)

  only_false : (b : Bool) (x y : A) → cond b None (Some x) ≡ Some y → (b ≡ false) × (x ≡ y)
  only_false true x y e = absurd (none-some y e)
  only_false false x y e = (refl, same_Some x y e)

-- a budget that was read
budget_added : (budget first : Option ℕ) (trace : Bool) (word : List ℕ) (told : RunOptions) → budget_beside budget first trace word ≡ Some told
    → (budget ≡ None) × (n : ℕ) × IsNumber 0 (10 ^ 18) word n × (beside (record { budget = budget; first = first; trace = trace }) (told_budget n) ≡ told)
budget_added (Some n) first trace word told e = absurd (none-some told e)
budget_added None first trace word told e = let n = by (numeral_within 0 (10 ^ 18) word) refl e in (refl, n.0, n.1, n.2)
  where
    by : (o : Option ℕ) → numeral_within 0 (10 ^ 18) word ≡ o → option_map (λ n. beside (record { budget = None; first = first; trace = trace }) (told_budget n)) o ≡ Some told
        → (n : ℕ) × IsNumber 0 (10 ^ 18) word n × (beside (record { budget = None; first = first; trace = trace }) (told_budget n) ≡ told)
    by None is h = absurd (none-some told h)
    by (Some n) is h = (n, number_told 0 (10 ^ 18) word n (omega arith) is, same_Some _ told h)

-- a number of schedules that was read
first_added : (budget first : Option ℕ) (trace : Bool) (word : List ℕ) (told : RunOptions) → first_beside budget first trace word ≡ Some told
    → (first ≡ None) × (n : ℕ) × IsNumber 1 (10 ^ 18) word n × (beside (record { budget = budget; first = first; trace = trace }) (told_first n) ≡ told)
first_added budget (Some n) trace word told e = absurd (none-some told e)
first_added budget None trace word told e = let n = by (numeral_within 1 (10 ^ 18) word) refl e in (refl, n.0, n.1, n.2)
  where
    by : (o : Option ℕ) → numeral_within 1 (10 ^ 18) word ≡ o → option_map (λ n. beside (record { budget = budget; first = None; trace = trace }) (told_first n)) o ≡ Some told
        → (n : ℕ) × IsNumber 1 (10 ^ 18) word n × (beside (record { budget = budget; first = None; trace = trace }) (told_first n) ≡ told)
    by None is h = absurd (none-some told h)
    by (Some n) is h = (n, number_told 1 (10 ^ 18) word n (omega arith) is, same_Some _ told h)

module _ (start options : RunOptions) (rest : List (List ℕ)) where
  -- an option that tells all, before those that were read
  trace_before : (name : List ℕ) (told : RunOptions) → name ≡ codes "--trace" → with_trace start ≡ Some told → Read rest told options → Read (name ∷ rest) start options
  trace_before name told is with read =
      let step = only_false start.trace (beside start told_trace) told with in
      record {
        tolds = told_trace ∷ read.tolds;
        spelled = (codes "--trace" ∷ [], rest, refl, read.spelled, ap (λ (n : List ℕ). n ∷ rest) is);
        add = (step.0, subst (λ o. Add read.tolds o options) (sym step.1) read.add);
      }

  -- a budget, before those that were read
  budget_before : (name word : List ℕ) (told : RunOptions) → name ≡ codes "--budget" → with_budget start word ≡ Some told → Read rest told options → Read (name ∷ word ∷ rest) start options
  budget_before name word told is with read =
      let step = budget_added start.budget start.first start.trace word told with in
      record {
        tolds = told_budget step.1 ∷ read.tolds;
        spelled = (codes "--budget" ∷ word ∷ [], rest, (word, step.2, refl), read.spelled, ap (λ (n : List ℕ). n ∷ word ∷ rest) is);
        add = (step.0, subst (λ o. Add read.tolds o options) (sym step.3) read.add);
      }

  -- a number of schedules, before those that were read
  first_before : (name word : List ℕ) (told : RunOptions) → name ≡ codes "--first" → with_first start word ≡ Some told → Read rest told options → Read (name ∷ word ∷ rest) start options
  first_before name word told is with read =
      let step = first_added start.budget start.first start.trace word told with in
      record {
        tolds = told_first step.1 ∷ read.tolds;
        spelled = (codes "--first" ∷ word ∷ [], rest, (word, step.2, refl), read.spelled, ap (λ (n : List ℕ). n ∷ word ∷ rest) is);
        add = (step.0, subst (λ o. Add read.tolds o options) (sym step.3) read.add);
      }

  -- an option with a number, before those that were read
  number_before : (name word : List ℕ) (told : RunOptions) (b f : Bool) → is_word name (codes "--budget") ≡ b → is_word name (codes "--first") ≡ f
      → cond b (with_budget start word) (cond f (with_first start word) None) ≡ Some told → Read rest told options → Read (name ∷ word ∷ rest) start options
  number_before name word told true f is_budget is_first with read = budget_before name word told (same_text name (codes "--budget") (sym is_budget)) with read
  number_before name word told false true is_budget is_first with read = first_before name word told (same_text name (codes "--first") (sym is_first)) with read
  number_before name word told false false is_budget is_first with read = absurd (none-some told with)

-- the options of two words and more
module _ (start options : RunOptions) (name word : List ℕ) (words : List (List ℕ))
    (after_one : (told : RunOptions) → options_after told (word ∷ words) ≡ Some options → Read (word ∷ words) told options)
    (after_two : (told : RunOptions) → options_after told words ≡ Some options → Read words told options) where
  read_more : (t : Bool) → is_word name (codes "--trace") ≡ t
      → cond t (option_and_then (λ told. options_after told (word ∷ words)) (with_trace start)) (option_and_then (λ told. options_after told words) (with_number start name word)) ≡ Some options
      → Read (name ∷ word ∷ words) start options
  read_more true is e =
      option_and_then_some (λ told. options_after told (word ∷ words)) (with_trace start) options e
      (λ told with rest. trace_before start options (word ∷ words) name told (same_text name (codes "--trace") (sym is)) with (after_one told rest))
  read_more false is e =
      option_and_then_some (λ told. options_after told words) (with_number start name word) options e
      (λ told with rest. number_before start options words name word told _ _ refl refl with (after_two told rest))

-- options are read from words that tell them
read : (words : List (List ℕ)) (start options : RunOptions) → options_after start words ≡ Some options → Read words start options
read [] start options e = record { tolds = []; spelled = refl; add = same_Some start options e }
read (name ∷ []) start options e =
    let trace = only_true (is_word name (codes "--trace")) (with_trace start) options e in
    trace_before start options [] name options (same_text name (codes "--trace") (sym trace.0)) trace.1 (record { tolds = []; spelled = refl; add = refl })
read (name ∷ word ∷ words) start options e =
    read_more start options name word words (λ told. read (word ∷ words) told options) (λ told. read words told options) (is_word name (codes "--trace")) refl e

-- ---- told, and so read

module _ (start options : RunOptions) where
  trace_read : (rest : List (List ℕ)) → start.trace ≡ false → options_after (beside start told_trace) rest ≡ Some options → options_after start (codes "--trace" ∷ rest) ≡ Some options
  trace_read [] lack e = ap (λ t. cond t None (Some (beside start told_trace))) lack ∙ e
  trace_read (word ∷ words) lack e = ap (λ t. option_and_then (λ told. options_after told (word ∷ words)) (cond t None (Some (beside start told_trace)))) lack ∙ e

  module _ (rest : List (List ℕ)) (word : List ℕ) (n : ℕ) where
    budget_read : start.budget ≡ None → IsNumber 0 (10 ^ 18) word n → options_after (beside start (told_budget n)) rest ≡ Some options
        → options_after start (codes "--budget" ∷ word ∷ rest) ≡ Some options
    budget_read lack number e =
        ap (λ b. option_and_then (λ told. options_after told rest) (budget_beside b start.first start.trace word)) lack
        ∙ ap (λ o. option_and_then (λ told. options_after told rest) (option_map (λ m. beside start (told_budget m)) o)) (number_read 0 (10 ^ 18) word n (omega arith) number)
        ∙ e

    first_read : start.first ≡ None → IsNumber 1 (10 ^ 18) word n → options_after (beside start (told_first n)) rest ≡ Some options
        → options_after start (codes "--first" ∷ word ∷ rest) ≡ Some options
    first_read lack number e =
        ap (λ b. option_and_then (λ told. options_after told rest) (first_beside start.budget b start.trace word)) lack
        ∙ ap (λ o. option_and_then (λ told. options_after told rest) (option_map (λ m. beside start (told_first m)) o)) (number_read 1 (10 ^ 18) word n (omega arith) number)
        ∙ e

-- words that tell options are read as them
told_read : (tolds : List Told) (start options : RunOptions) (words : List (List ℕ)) → AreTold tolds words → Add tolds start options → options_after start words ≡ Some options
told_read [] start options words none same = ap (options_after start) none ∙ ap Some same
told_read (told_budget n ∷ tolds) start options words (here, rest, (word, number, is), later, whole) (lack, add) =
    ap (options_after start) (whole ∙ ap (λ (h : List (List ℕ)). h ++ rest) is) ∙ budget_read start options rest word n lack number (told_read tolds (beside start (told_budget n)) options rest later add)
told_read (told_first n ∷ tolds) start options words (here, rest, (word, number, is), later, whole) (lack, add) =
    ap (options_after start) (whole ∙ ap (λ (h : List (List ℕ)). h ++ rest) is) ∙ first_read start options rest word n lack number (told_read tolds (beside start (told_first n)) options rest later add)
told_read (told_trace ∷ tolds) start options words (here, rest, is, later, whole) (lack, add) =
    ap (options_after start) (whole ∙ ap (λ (h : List (List ℕ)). h ++ rest) is) ∙ trace_read start options rest lack (told_read tolds (beside start told_trace) options rest later add)

-- ---- both ways

-- nothing was said before
among : (tolds : List Told) (told : Told) → Say no_options told ⊎ IsAmong told tolds → IsAmong told tolds
among tolds told (inl h) = absurd (nothing_said told h)
among tolds told (inr h) = h

pub are_options : (options : RunOptions) (words : List (List ℕ)) → options_of words ≡ Some options → IsOptions options words
are_options options words e =
    let told = read words no_options options e in
    let facts = added told.tolds no_options options told.add in
    record {
      tolds = told.tolds;
      spelled = told.spelled;
      unlike = facts.unlike;
      exactly = λ one. (λ h. among told.tolds one (facts.said one h), facts.says one);
    }

pub options_are : (options : RunOptions) (words : List (List ℕ)) → IsOptions options words → options_of words ≡ Some options
options_are options words told =
    let add = can_add told.tolds no_options told.unlike (λ one h. nothing_told one) in
    let facts = added told.tolds no_options add.0 add.1 in
    let same = same_options add.0 options (λ one h. (told.exactly one).1 (among told.tolds one (facts.said one h))) (λ one h. facts.says one ((told.exactly one).0 h)) in
    told_read told.tolds no_options add.0 words told.spelled add.1 ∙ ap Some same
