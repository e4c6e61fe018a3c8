use Rattle.std.proofs.Common.{◌≡◌, ◌<◌, ◌/◌, length, arith, ap, sym, ◌∙◌, List, ℕ, ◌∷◌, ◌++◌, []}
use Rattle.kts_show.proofs.TupleKeys.{few_arguments, few_names, two_or_more, names_of, one_name, two_names, quotient_within}
use Rattle.kts_show.proofs.key.key_at.Goals as goal

pub returns-then-indexes-eq1 : goal.returns-then-indexes-eq1
returns-then-indexes-eq1 c =
    let args = c.args.family.now.args in
    let same = c.as_slice-indexes.ensures ∙ c.args-2.ensures in
    let one : length args ≡ 1 = ap length (sym same) ∙ c.if-indexes-eq1.true in
    let names = names_of c.args.inst.now.members args c.as_slice-indexes.result.now c.members-first.result.now 0 same c.members-first.ensures in
    ap (λ (x : List ℕ). x ++ ([] ++ [])) c.bytes.ensures.bytes
    ∙ one_name c.args.inst.now args c.args.at c.members-first.result.now c.index-first-at.result one c.requires.within names c.index-first-at.is

module _ (c : goal.After-members-second) where
  within : c.args.at / length c.members-second.result.now < length c.members-first.result.now
  within =
      let args = c.args.family.now.args in
      let indexes = c.as_slice-indexes.result.now in
      let same = c.as_slice-indexes.ensures ∙ c.args-2.ensures in
      let two = two_or_more indexes (sym c.is_empty.ensures ∙ c.if-is_empty.false) c.if-indexes-eq1.false in
      let count = ap length same in
      let first = names_of c.args.inst.now.members args indexes c.members-first.result.now 0 same c.members-first.ensures in
      let second = names_of c.args.inst.now.members args indexes c.members-second.result.now 1 same c.members-second.ensures in
      quotient_within c.args.inst.now args c.args.at c.members-first.result.now c.members-second.result.now (omega (arith, two, count)) (few_arguments c.args.inst.now c.args.family.now c.requires.over) c.requires.within first second

pub offset_bounds-first-at-2 : goal.offset_bounds-first-at-2
offset_bounds-first-at-2 c =
    let few = few_names c.args.inst.now c.args.family.now _ c.members-first.result.now c.requires.over c.members-first.ensures in
    let less = within c in
    omega (arith, few, less)

pub bounds-first-at-2 : goal.bounds-first-at-2
bounds-first-at-2 c = within c

pub returns : goal.returns
returns c =
    let args = c.args.family.now.args in
    let indexes = c.as_slice-indexes.result.now in
    let same = c.as_slice-indexes.ensures ∙ c.args-2.ensures in
    let two = two_or_more indexes (sym c.is_empty.ensures ∙ c.if-is_empty.false) c.if-indexes-eq1.false in
    let count = ap length same in
    let first = names_of c.args.inst.now.members args indexes c.members-first.result.now 0 same c.members-first.ensures in
    let second = names_of c.args.inst.now.members args indexes c.members-second.result.now 1 same c.members-second.ensures in
    ap (λ (x : List ℕ). x ++ ((44 ∷ []) ++ c.bytes-3.result.now)) c.bytes-2.ensures.bytes
    ∙ ap (λ (y : List ℕ). c.index-first-at-2.result ++ ((44 ∷ []) ++ y)) c.bytes-3.ensures.bytes
    ∙ two_names c.args.inst.now args c.args.at c.members-first.result.now c.members-second.result.now c.index-first-at-2.result c.index-second-at.result (omega (arith, two, count)) (few_arguments c.args.inst.now c.args.family.now c.requires.over) c.requires.within first second c.index-first-at-2.is c.index-second-at.is
