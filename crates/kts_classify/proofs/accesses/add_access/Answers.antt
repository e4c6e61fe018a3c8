use Rattle.std.proofs.Common.{◌≡◌, sym, ap, ◌∙◌, [], ◌∷◌, ◌++◌, drop}
use Rattle.std.specs.List.{list_any}
use Rattle.std.proofs.lemmas.Result.{on_ok_weaker}
use Rattle.kts_classify.specs.PlanPatterns.{access_pattern, is_alike}
use Rattle.kts_classify.proofs.Extensions.{rest_of, extended_same, extended_new}
use Rattle.kts_classify.proofs.accesses.add_access.Goals as goal

pub returns-then-stands : goal.returns-then-stands
returns-then-stands c =
    let p = access_pattern c.args.reader.definite c.args.reader.variables (c.args.choice, c.args.args.now) in
    let first = c.args.reader.first in
    let is = ap (λ l. list_any (is_alike p) (drop first l)) (sym c.as_slice.ensures) ∙ ap (list_any (is_alike p)) (sym (rest_of first c.as_slice.result.now)) ∙ sym c.if-stands.ensures in
    sym (extended_same first c.args.patterns.now p is)

pub returns : goal.returns
returns c =
    let p = access_pattern c.args.reader.definite c.args.reader.variables (c.args.choice, c.args.args.now) in
    let first = c.args.reader.first in
    let is = ap (λ l. list_any (is_alike p) (drop first l)) (sym c.as_slice.ensures) ∙ ap (list_any (is_alike p)) (sym (rest_of first c.as_slice.result.now)) ∙ sym c.if-stands.ensures in
    let args = c.new.ensures.args ∙ c.in_ok-args.ensures in
    let made : c.new.result ≡ p = λ i. record { definite = c.new.ensures.definite i; choice = c.new.ensures.choice i; args = args i } in
    on_ok_weaker c.push.result (λ e. e ∙ ap (λ q. c.args.patterns.now ++ q ∷ []) made ∙ sym (extended_new first c.args.patterns.now p is)) c.push.ensures.ok
