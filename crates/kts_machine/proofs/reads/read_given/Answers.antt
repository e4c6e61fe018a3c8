use Rattle.std.proofs.Common.{◌≡◌, sym, ◌∙◌, ap, subst, [], length, arith, rules}
use Rattle.kts_code.specs.States.{operand_of}
use Rattle.kts_mean.specs.Bounds.{AllIn}
use Rattle.kts_mean.proofs.EvaluatorFacts.{same_tables}
use Rattle.kts_spec.specs.declared.declarations.Family.{Family}
use Rattle.kts_spec.specs.Schemas.{no_family}
use Rattle.kts_spec.specs.Typing.{kind_of_type}
use Rattle.kts_spec.specs.Worlds.{world_of, given_of, table_of}
use Rattle.kts_spec.proofs.Conditions.{instance_facts}
use Rattle.kts_machine.specs.Items.{sets_of}
use Rattle.kts_machine.proofs.AccessFacts.{given_kinds, given_read}
use Rattle.kts_machine.proofs.DataFacts.{given_facts, sizes, item_read}
use Rattle.kts_machine.proofs.reads.read_given.Goals as goal

pub bounds-as_slice-f-2 : goal.bounds-as_slice-f-2
bounds-as_slice-f-2 g c =
    let same = same_tables (world_of c.args.schema.now c.args.inst.now) (instance_facts c.args.schema.now c.args.inst.now c.requires.valid).tables in
    let list = ap length (c.as_slice-3.ensures ∙ c.values.ensures) in
    let declared = c.requires.declared in
    omega (arith, same, list, declared)

pub read-cell-requires : goal.read-cell-requires
read-cell-requires g c =
    let schema = c.args.schema.now in
    let inst = c.args.inst.now in
    let one = c.requires.one_word in
    let few = c.requires.few_words in
    let declared = c.requires.declared in
    let same = same_tables (world_of schema inst) (instance_facts schema inst c.requires.valid).tables in
    let family : c.index-as_slice-f.result ≡ given_of (world_of schema inst) c.args.f =
    item_read c.as_slice.result.now schema.givens c.args.f c.index-as_slice-f.result no_family (c.as_slice.ensures ∙ c.givens.ensures) declared c.index-as_slice-f.is in
    let args : c.as_slice-2.result.now ≡ (given_of (world_of schema inst) c.args.f).args = c.as_slice-2.ensures ∙ c.args-2.ensures ∙ ap (λ (f : Family). f.args) family in
    let kind = c.kind.ensures ∙ ap (λ (f : Family). f.kind) family in
    let table : c.as_slice-4.result.now ≡ table_of (world_of schema inst) c.args.f =
    c.as_slice-4.ensures ∙ item_read c.as_slice-3.result.now inst.values c.args.f c.index-as_slice-f-2.result [] (c.as_slice-3.ensures ∙ c.values.ensures) (omega (arith, same, declared)) c.index-as_slice-f-2.is in (
      omega arith,
      (
        search rules,
        (
          search rules,
          (
            record {
              one_word = one;
              few_words = few;
              declared = subst (AllIn (length inst.members)) (sym args) (given_facts schema inst c.requires.valid c.args.f declared).declared;
              few_members = sizes schema inst c.requires.valid;
              kinds = given_kinds schema inst c.requires.valid c.args.f c.as_slice-4.result.now c.as_slice-2.result.now c.kind.result declared args kind table;
            },
            ap length args ∙ c.requires.long,
          ),
        ),
      ),
    )

pub returns : goal.returns
returns g c =
    let schema = c.args.schema.now in
    let inst = c.args.inst.now in
    let declared = c.requires.declared in
    let same = same_tables (world_of schema inst) (instance_facts schema inst c.requires.valid).tables in
    let family : c.index-as_slice-f.result ≡ given_of (world_of schema inst) c.args.f =
    item_read c.as_slice.result.now schema.givens c.args.f c.index-as_slice-f.result no_family (c.as_slice.ensures ∙ c.givens.ensures) declared c.index-as_slice-f.is in
    let args : c.as_slice-2.result.now ≡ (given_of (world_of schema inst) c.args.f).args = c.as_slice-2.ensures ∙ c.args-2.ensures ∙ ap (λ (f : Family). f.args) family in
    let kind = c.kind.ensures ∙ ap (λ (f : Family). f.kind) family in
    let table : c.as_slice-4.result.now ≡ table_of (world_of schema inst) c.args.f =
    c.as_slice-4.ensures ∙ item_read c.as_slice-3.result.now inst.values c.args.f c.index-as_slice-f-2.result [] (c.as_slice-3.ensures ∙ c.values.ensures) (omega (arith, same, declared)) c.index-as_slice-f-2.is in
    c.operand.ensures ∙ ap (operand_of (kind_of_type c.kind.result)) c.read-cell.ensures
    ∙ given_read schema inst c.requires.valid c.args.f c.as_slice-4.result.now c.as_slice-2.result.now c.kind.result (sets_of c.args.sets.now) args kind table
