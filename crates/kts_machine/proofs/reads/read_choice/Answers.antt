use Rattle.std.proofs.Common.{◌≡◌, sym, ◌∙◌, ap, subst, length, map, arith, rules}
use Rattle.kts_abs.specs.Cells.{value_of}
use Rattle.kts_code.specs.States.{operand_of}
use Rattle.kts_mean.specs.Bounds.{AllIn}
use Rattle.kts_spec.specs.declared.declarations.Family.{Family}
use Rattle.kts_spec.specs.Typing.{kind_of_type}
use Rattle.kts_spec.specs.Worlds.{world_of, choice_of}
use Rattle.kts_machine.specs.Items.{sets_of}
use Rattle.kts_machine.proofs.AccessFacts.{choice_kinds, choice_read}
use Rattle.kts_machine.proofs.DataFacts.{few_choices, choice_facts, sizes, family_read}
use Rattle.kts_machine.proofs.reads.read_choice.Goals as goal

pub first-requires : goal.first-requires
first-requires g c = few_choices c.args.schema.now c.args.inst.now c.requires.valid c.args.x c.requires.declared

pub read-cell-requires : goal.read-cell-requires
read-cell-requires g c =
    let schema = c.args.schema.now in
    let inst = c.args.inst.now in
    let one = c.requires.one_word in
    let few = c.requires.few_words in
    let family : c.index-as_slice-x.result ≡ choice_of (world_of schema inst) c.args.x =
    family_read c.as_slice.result.now schema.choices c.args.x c.index-as_slice-x.result (c.as_slice.ensures ∙ c.choices.ensures) c.requires.declared c.index-as_slice-x.is in
    let args : c.as_slice-2.result.now ≡ (choice_of (world_of schema inst) c.args.x).args = c.as_slice-2.ensures ∙ c.args-2.ensures ∙ ap (λ (f : Family). f.args) family in
    let kind = c.kind.ensures ∙ ap (λ (f : Family). f.kind) family in
    let first = c.first.ensures ∙ c.requires.offsets c.args.x c.requires.declared in (
      omega arith,
      (
        search rules,
        (
          search rules,
          (
            record {
              one_word = one;
              few_words = few;
              declared = subst (AllIn (length inst.members)) (sym args) (choice_facts schema inst c.requires.valid c.args.x c.requires.declared).declared;
              few_members = sizes schema inst c.requires.valid;
              kinds = choice_kinds schema inst c.requires.valid c.args.x c.args.row.now.cells c.as_slice-2.result.now c.kind.result c.first.result c.requires.declared c.requires.kinds args kind first;
            },
            ap length args ∙ c.requires.long,
          ),
        ),
      ),
    )

pub returns : goal.returns
returns g c =
    let schema = c.args.schema.now in
    let inst = c.args.inst.now in
    let family : c.index-as_slice-x.result ≡ choice_of (world_of schema inst) c.args.x =
    family_read c.as_slice.result.now schema.choices c.args.x c.index-as_slice-x.result (c.as_slice.ensures ∙ c.choices.ensures) c.requires.declared c.index-as_slice-x.is in
    let args : c.as_slice-2.result.now ≡ (choice_of (world_of schema inst) c.args.x).args = c.as_slice-2.ensures ∙ c.args-2.ensures ∙ ap (λ (f : Family). f.args) family in
    let kind = c.kind.ensures ∙ ap (λ (f : Family). f.kind) family in
    let first = c.first.ensures ∙ c.requires.offsets c.args.x c.requires.declared in
    c.operand.ensures ∙ ap (operand_of (kind_of_type c.kind.result)) c.read-cell.ensures
    ∙ choice_read schema inst c.requires.valid c.args.x (map value_of c.args.row.now.cells) c.as_slice-2.result.now c.kind.result c.first.result (sets_of c.args.sets.now) args kind first
