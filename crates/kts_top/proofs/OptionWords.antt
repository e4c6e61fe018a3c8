-- RunOptions that are told one after another.
use Rattle.std.proofs.Common.{◌≡◌, sym, ◌∙◌, ap, ℕ, ◌-◌, ◌≤◌, arith, List, [], ◌∷◌, length, take, drop, get_or, map, Some, true, false, cond, option_and_then}
use Rattle.std.specs.Prelude.{codes}
use Rattle.std.proofs.lemmas.List.{take_all}
use Rattle.kts_top.specs.Options.{RunOptions}
use Rattle.kts_top.specs.Options.{options_after, with_number, with_trace}
use Rattle.kts_top.specs.Words.{is_word}

module _ {X : Type 0} (text : X → List ℕ) (options told : RunOptions) where
  -- a word that tells all
  pub after_one : (words : List X) (name : X) → 2 ≤ length words → name ≡ get_or words 0 name → true ≡ is_word (text name) (codes "--trace") → with_trace options ≡ Some told
      → options_after told (map text (take (length words - 1) (drop 1 words))) ≡ options_after options (map text words)
  after_one [] name two n trace with = absurd (omega (arith, two))
  after_one (a ∷ []) name two n trace with = absurd (omega (arith, two))
  after_one (a ∷ b ∷ words) name two n trace with =
      let whole = take_all (length (a ∷ b ∷ words) - 1) (b ∷ words) (omega arith) in
      let is : true ≡ is_word (text a) (codes "--trace") = trace ∙ ap (λ x. is_word (text x) (codes "--trace")) n in
      ap (λ ws. options_after told (map text ws)) whole
      ∙ ap (λ o. option_and_then (λ other. options_after other (text b ∷ map text words)) o) (sym with)
      ∙ ap (λ t. cond t (option_and_then (λ other. options_after other (text b ∷ map text words)) (with_trace options)) (option_and_then (λ other. options_after other (map text words)) (with_number options (text a) (text b)))) is

  -- a word, and the number after it
  pub after_two : (words : List X) (name number : X) → 2 ≤ length words → name ≡ get_or words 0 name → number ≡ get_or words 1 number → false ≡ is_word (text name) (codes "--trace")
      → with_number options (text name) (text number) ≡ Some told → options_after told (map text (take (length words - 2) (drop 2 words))) ≡ options_after options (map text words)
  after_two [] name number two n k trace with = absurd (omega (arith, two))
  after_two (a ∷ []) name number two n k trace with = absurd (omega (arith, two))
  after_two (a ∷ b ∷ words) name number two n k trace with =
      let whole = take_all (length (a ∷ b ∷ words) - 2) words (omega arith) in
      let is : false ≡ is_word (text a) (codes "--trace") = trace ∙ ap (λ x. is_word (text x) (codes "--trace")) n in
      let same : with_number options (text a) (text b) ≡ Some told = sym (ap (λ x. with_number options (text x) (text number)) n ∙ ap (λ x. with_number options (text a) (text x)) k) ∙ with in
      ap (λ ws. options_after told (map text ws)) whole
      ∙ ap (λ o. option_and_then (λ other. options_after other (map text words)) o) (sym same)
      ∙ ap (λ t. cond t (option_and_then (λ other. options_after other (text b ∷ map text words)) (with_trace options)) (option_and_then (λ other. options_after other (map text words)) (with_number options (text a) (text b)))) is
