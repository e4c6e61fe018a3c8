use Rattle.std.proofs.Common.{◌≡◌, ◌+◌, ◌≤◌, sym, ◌∙◌, ap, subst, [], List, ℕ, length, drop, reverse, arith}
use Rattle.std.specs.Prelude.{option_map}
use Rattle.kts_abs.specs.Cells.{value_of}
use Rattle.kts_base.specs.Limits.{most_arguments}
use Rattle.kts_code.specs.HeadSteps.{bound_of, tuple_of, on_demand}
use Rattle.kts_code.specs.Operands.{sets_of}
use Rattle.kts_spec.specs.declared.declarations.ValueType.{ValueType}
use Rattle.kts_spec.specs.declared.schema.Schema.{Schema}
use Rattle.kts_spec.specs.Places.{cell}
use Rattle.kts_spec.specs.Schemas.{family_at}
use Rattle.kts_spec.specs.Worlds.{world_of, choice_of}
use Rattle.kts_machine.specs.Items.{positions_of}
use Rattle.kts_machine.specs.OperandViews.{shown}
use Rattle.kts_machine.specs.Targets.{setup_with}
use Rattle.kts_machine.proofs.DataFacts.{choice_facts}
use Rattle.kts_machine.proofs.HeadTargets.{top_is, on_a_cell}
use Rattle.kts_machine.proofs.targets.top_target.Goals as goal

pub tuple-requires : goal.tuple-requires
tuple-requires g c =
    let few = c.requires.few_words in
    let same : c.choice_args-indexes.result.now ≡ (choice_of (world_of c.args.code.now.schema c.args.inst.now) c.args.x).args =
    c.choice_args-indexes.ensures ∙ ap (λ (s : Schema). (family_at s.choices c.args.x).args) c.schema-schema.ensures in
    let args = (choice_facts c.args.code.now.schema c.args.inst.now c.requires.valid c.args.x c.requires.declared).few in
    (omega arith, (few, subst (λ l. length l ≤ most_arguments) (sym same) args))

pub returns-clause-ok : goal.returns-clause-ok
returns-clause-ok g c origin s space to e =
    let items = c.args.stack.now.items in
    let m = setup_with c.args.code.now c.args.inst.now origin in
    let indexes = c.choice_args-indexes.result.now in
    let same : indexes ≡ (choice_of (world_of c.args.code.now.schema c.args.inst.now) c.args.x).args =
    c.choice_args-indexes.ensures ∙ ap (λ (s : Schema). (family_at s.choices c.args.x).args) c.schema-schema.ensures in
    let kind : c.choice_kind.result ≡ (choice_of (world_of c.args.code.now.schema c.args.inst.now) c.args.x).kind =
    c.choice_kind.ensures ∙ ap (λ (s : Schema). (family_at s.choices c.args.x).kind) c.schema-schema.ensures in
    let top = top_is items (shown c.in-Some.top) (sym c.at.ensures ∙ ap (option_map shown) c.in-Some.is) in
    let all = ap length e in
    let count = ap length same in
    let len = c.len.ensures in
    let test = c.if-len-indexes.false in
    let bound = ap (λ (k : ValueType). bound_of c.args.op k (shown c.in-Some.top)) (sym kind) ∙ sym c.bound.ensures ∙ ap (option_map value_of) c.in-Some-bound.is in
    let tuple = ap (λ (l : List ℕ). tuple_of (sets_of (reverse l) (drop 1 items) [])) (sym same) ∙ c.in-Some-tuple.ensures.some in
    let at = ap (λ (s : Schema). cell (world_of s c.args.inst.now) c.args.x (positions_of c.in-Some-tuple.tuple)) (sym c.schema-schema.ensures) ∙ sym c.cell.ensures ∙ c.in-Some-cell.is in
    let swap : 1 + length indexes ≡ length indexes + 1 = omega arith in
    on_a_cell m s c.args.op c.args.x to space (shown c.in-Some.top) (drop 1 items) (e ∙ top) (omega (arith, all, count, len, test)) (value_of c.in-Some-bound.bound) bound
    (positions_of c.in-Some-tuple.tuple) (drop (1 + length indexes) items) tuple c.in-Some-cell.cell at
    ∙ ap (λ (n : ℕ). on_demand m s space to (drop n items) (c.args.op, value_of c.in-Some-bound.bound) c.in-Some-cell.cell) swap
