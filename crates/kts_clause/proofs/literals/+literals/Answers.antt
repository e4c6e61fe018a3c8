use Rattle.std.proofs.Common.{append_assoc, ◌≡◌, ◌++◌, false}
use Rattle.kts_clause.specs.Clauses.{literals_of}
use Rattle.kts_clause.proofs.LiteralForms.{only, plus-And, minus-And, plus-Or, minus-Or, of-Not, plus-Implies, minus-Implies, whole_is}
use Rattle.kts_clause.proofs.literals.+literals.Goals as goal
use Rattle.kts_clause.proofs.literals.+literals.Goals.{add_literals-in_default-via-in-And+else-negative, add_literals-in_default-via-in-Or+else-not-negative, add_literals-in_default-via-in-Implies+else-not-negative-2, add_literals-in_default-via-in_default}

pub add_literals-returns-in-And : goal.add_literals-returns-in-And
add_literals-returns-in-And t c = rw (c.in-And.is, c.if-negative.true, minus-And, ← c.as_slice.ensures) c.add_each.ensures

pub add_literals-returns-in-Or : goal.add_literals-returns-in-Or
add_literals-returns-in-Or t c = rw (c.in-Or.is, c.if-not-negative.true, plus-Or, ← c.as_slice-in-Or.ensures) c.add_each-in-Or.ensures

pub add_literals-returns-in-Not : goal.add_literals-returns-in-Not
add_literals-returns-in-Not t c = rw (c.in-Not.is, of-Not, ← c.get.ensures) c.add_literals.ensures

pub add_literals-returns-in_ok-add_literals-in-Implies :
    goal.add_literals-returns-in_ok-add_literals-in-Implies
add_literals-returns-in_ok-add_literals-in-Implies t c =
    let both : c.add_literals-in-Implies.new.literals ++ literals_of false c.get-in-Implies-2.result.now ≡ c.args.literals.now ++ literals_of c.args.negative c.args.f.now =
    rw (c.in_ok-add_literals-in-Implies.ensures, c.get-in-Implies.ensures, c.get-in-Implies-2.ensures, c.in-Implies.is, c.if-not-negative-2.true, plus-Implies) (append_assoc c.args.literals.now _ _) in
    rw (← both) c.add_literals-in-Implies-2.ensures

pub add_literals-returns-in_ok-copy-in_default : goal.add_literals-returns-in_ok-copy-in_default
add_literals-returns-in_ok-copy-in_default t c =
    let alone : literals_of c.args.negative c.args.f.now ≡ only c.args.negative c.args.f.now =
    elim c.in_default.branch [
      | add_literals-in_default-via-in-And+else-negative w ↦ rw (w.in-And.is, w.if-negative.false) (plus-And w.in-And.parts)
      | add_literals-in_default-via-in-Or+else-not-negative w ↦ rw (w.in-Or.is, w.if-not-negative.false) (minus-Or w.in-Or.parts)
      | add_literals-in_default-via-in-Implies+else-not-negative-2 w ↦ rw (w.in-Implies.is, w.if-not-negative-2.false) (minus-Implies w.in-Implies.p w.in-Implies.q)
      | add_literals-in_default-via-in_default w ↦
          let h = w.in_default in
          whole_is c.args.negative c.args.f.now (record { no_and = h.not-And; no_or = h.not-Or; no_not = h.not-Not; no_implies = h.not-Implies })
    ] in
    rw (alone, ← c.new.ensures.negative, ← c.in_ok-copy-in_default.ensures, ← c.new.ensures.formula) c.push.ensures.ok
