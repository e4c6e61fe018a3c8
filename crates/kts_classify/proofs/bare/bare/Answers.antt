use Rattle.std.proofs.Common.{◌≡◌, sym, ap, ◌∙◌, subst, true, false, Some, None, if◌then◌else◌}
use Rattle.std.specs.List.{list_all}
use Rattle.kts_plan.specs.BareAccesses.{bare, reads_nothing}
use Rattle.kts_classify.proofs.ReadNothing.{bare-Choice, not_bare}
use Rattle.kts_classify.proofs.bare.bare.Goals as goal

pub returns-then-read_nothing : goal.returns-then-read_nothing
returns-then-read_nothing c =
    let x = c.in-Choice.x in
    let args = c.in-Choice.args in
    let all : list_all reads_nothing args ≡ true = subst (λ ts. list_all reads_nothing ts ≡ true) c.as_slice-args.ensures (sym c.if-read_nothing.ensures) in
    ap (λ ts. Some (x, ts)) c.as_slice-args.ensures ∙ sym (ap bare c.in-Choice.is ∙ bare-Choice x args ∙ ap (λ b. if b then Some (x, args) else None) all)

pub returns-else-read_nothing : goal.returns-else-read_nothing
returns-else-read_nothing c =
    let x = c.in-Choice.x in
    let args = c.in-Choice.args in
    let some : list_all reads_nothing args ≡ false = subst (λ ts. list_all reads_nothing ts ≡ false) c.as_slice-args.ensures (sym c.if-read_nothing.ensures) in
    sym (ap bare c.in-Choice.is ∙ bare-Choice x args ∙ ap (λ b. if b then Some (x, args) else None) some)

pub returns-in_default : goal.returns-in_default
returns-in_default c = sym (not_bare c.args.term.now c.in_default.not-Choice)
