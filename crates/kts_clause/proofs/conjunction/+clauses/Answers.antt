use Rattle.std.proofs.Common.{rules, ap, ◌∙◌, ◌++◌, ◌-◌, length}
use Rattle.kts_spec.specs.declared.tree.Formula.{Formula, the_lemmas}
use Rattle.kts_clause.specs.Clauses.{disjunctions, numbered_from}
use Rattle.kts_clause.proofs.LiteralForms.{disjunctions-And, disjunctions-Forall, one_is}
use Rattle.kts_clause.proofs.Numbering.{part_added, part_fits}
use Rattle.kts_clause.proofs.conjunction.+clauses.Goals as goal

pub add_clauses-add_each-requires : goal.add_clauses-add_each-requires
add_clauses-add_each-requires t c =
    let same = disjunctions-And c.in-And.parts c.args.prefix.now in
    (search (rules, the_lemmas), (c.requires.begun, rw (c.as_slice.ensures, ← same, ← c.in-And.is) c.requires.room))

pub add_clauses-add_clauses-requires : goal.add_clauses-add_clauses-requires
add_clauses-add_clauses-requires t c =
    let same = disjunctions-Forall c.in-Forall.indexes c.in-Forall.p c.args.prefix.now in (
      search (rules, the_lemmas),
      (c.requires.begun, rw (c.get.ensures, c.in_ok-append-in-Forall.ensures, c.as_slice-in-Forall.ensures, ← same, ← c.in-Forall.is) c.requires.room),
    )

pub add_clauses-returns-in-And-clause-added : goal.add_clauses-returns-in-And-clause-added
add_clauses-returns-in-And-clause-added t c =
    let same = disjunctions-And c.in-And.parts c.args.prefix.now in
    rw (c.in-And.is, same, ← c.as_slice.ensures) c.add_each.ensures.added

pub add_clauses-returns-in_ok-add_clauses-in-Forall-clause-added :
    goal.add_clauses-returns-in_ok-add_clauses-in-Forall-clause-added
add_clauses-returns-in_ok-add_clauses-in-Forall-clause-added t c =
    let same = disjunctions-Forall c.in-Forall.indexes c.in-Forall.p c.args.prefix.now in
    let longer = c.in_ok-append-in-Forall.ensures ∙ ap (λ l. c.args.prefix.now ++ l) c.as_slice-in-Forall.ensures in
    rw (c.in-Forall.is, same, ← longer, ← c.get.ensures) c.in_ok-add_clauses-in-Forall.ensures.added

pub add_clauses-returns-in_default : goal.add_clauses-returns-in_default
add_clauses-returns-in_default t c =
    let one = one_is c.args.f.now c.args.prefix.now (record { no_and = c.in_default.not-And; no_forall = c.in_default.not-Forall }) in
    record { same = search rules; added = rw (one, ← c.as_slice-in_default.ensures) c.add_one.ensures }

pub add_each-add_clauses-requires : goal.add_each-add_clauses-requires
add_each-add_clauses-requires t c =
    let f = λ (p : Formula). disjunctions p c.args.prefix.now in
    let fits = part_fits f c.args.number c.args.first c.args.clauses.now c.loop-part.clauses c.args.parts.now c.loop-part.part-index c.part-item.result c.requires.begun c.loop-part-test.true c.part-item.is c.loop-part.invariant.added c.requires.room in
    (search (rules, the_lemmas), (fits.begun, rw (c.loop-part.invariant.same) fits.room))

pub add_each-loop-part-preserved : goal.add_each-loop-part-preserved
add_each-loop-part-preserved t c =
    let before = c.loop-part.invariant in
    let now = c.in_ok-add_clauses.ensures in
    let f = λ (p : Formula). disjunctions p c.args.prefix.now in
    let more = part_added f c.args.number c.args.first c.args.clauses.now c.loop-part.clauses c.args.parts.now c.loop-part.part-index c.part-item.result c.requires.begun c.loop-part-test.true c.part-item.is before.added in
    record { same = now.same ∙ before.same; added = now.added ∙ ap (λ x. c.loop-part.clauses ++ numbered_from c.args.number (length c.loop-part.clauses - c.args.first) (disjunctions c.part-item.result x)) before.same ∙ more }
