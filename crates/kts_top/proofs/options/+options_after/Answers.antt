use Rattle.std.proofs.Common.{◌∙◌, sym, ap, string_bytes}
use Rattle.std.specs.Prelude.{codes}
use Rattle.kts_top.specs.Options.{with_number}
use Rattle.kts_top.specs.Words.{is_word}
use Rattle.kts_top.proofs.OptionWords.{after_one, after_two}
use Rattle.kts_top.proofs.options.+options_after.Goals as goal

pub returns-in-Some : goal.returns-in-Some
returns-in-Some t c =
    let trace = c.if-is_word-2.ensures ∙ ap (λ w. is_word w (codes "--trace")) c.as_str-in-len2-up.ensures.value in
    c.options_after.ensures ∙ after_one string_bytes c.args.options c.in-Some.told c.args.words.now c.name-item-2.result c.in-len2-up.len_at_least c.name-item-2.is trace
    (sym c.with_trace-then-is_word-2.ensures ∙ c.in-Some.is)

pub returns-in-Some-with_number : goal.returns-in-Some-with_number
returns-in-Some-with_number t c =
    let trace = c.if-is_word-2.ensures ∙ ap (λ w. is_word w (codes "--trace")) c.as_str-in-len2-up.ensures.value in
    let name = ap (λ w. with_number c.args.options w c.as_str-in-len2-up-3.result.now) c.as_str-in-len2-up-2.ensures.value in
    let number = ap (λ w. with_number c.args.options (string_bytes c.name-item-2.result) w) c.as_str-in-len2-up-3.ensures.value in
    c.options_after-in-Some-with_number.ensures ∙ after_two string_bytes c.args.options c.in-Some-with_number.told c.args.words.now c.name-item-2.result c.word-item.result c.in-len2-up.len_at_least c.name-item-2.is c.word-item.is trace
    (sym (name ∙ number) ∙ (sym c.with_number.ensures ∙ c.in-Some-with_number.is))
