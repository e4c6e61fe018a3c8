use Rattle.std.proofs.Common.{◌≡◌, sym, ◌∙◌, ap, subst, length, map, arith, slice_index, Some}
use Rattle.kts_mean.specs.Bounds.{AllIn}
use Rattle.kts_spec.specs.declared.declarations.Family.{Family}
use Rattle.kts_spec.specs.Places.{place}
use Rattle.kts_spec.specs.Worlds.{world_of, choice_of}
use Rattle.kts_machine.specs.Items.{positions_of}
use Rattle.kts_machine.proofs.DataFacts.{choice_facts, sizes, few_choices, number_below, family_read}
use Rattle.kts_machine.proofs.offsets.Offsets.cell.Goals as goal

module _ (c : goal.After-as_slice-indexes) where
  args_are : c.as_slice-indexes.result.now ≡ (choice_of (world_of c.args.schema.now c.args.inst.now) c.args.x).args
  args_are =
      c.as_slice-indexes.ensures ∙ c.args-2.ensures
      ∙ ap (λ (f : Family). f.args) (family_read c.as_slice.result.now c.args.schema.now.choices c.args.x c.index-as_slice-x.result (c.as_slice.ensures ∙ c.choices.ensures) c.requires.declared c.index-as_slice-x.is)

pub place-requires-clause-declared : goal.place-requires-clause-declared
place-requires-clause-declared c =
    subst (AllIn (length c.args.inst.now.members)) (sym (args_are c)) (choice_facts c.args.schema.now c.args.inst.now c.requires.valid c.args.x c.requires.declared).declared

pub place-requires-clause-sizes : goal.place-requires-clause-sizes
place-requires-clause-sizes c = sizes c.args.schema.now c.args.inst.now c.requires.valid

pub first-requires : goal.first-requires
first-requires c = few_choices c.args.schema.now c.args.inst.now c.requires.valid c.args.x c.requires.declared

pub overflow_add-result : goal.overflow_add-result
overflow_add-result c =
    let w = world_of c.args.schema.now c.args.inst.now in
    let sizes = slice_index (map length c.args.inst.now.members) in
    let args : c.as_slice-indexes.result.now ≡ (choice_of w c.args.x).args =
    c.as_slice-indexes.ensures ∙ c.args-2.ensures
    ∙ ap (λ (f : Family). f.args) (family_read c.as_slice.result.now c.args.schema.now.choices c.args.x c.index-as_slice-x.result (c.as_slice.ensures ∙ c.choices.ensures) c.requires.declared c.index-as_slice-x.is) in
    let there : place (map sizes (choice_of w c.args.x).args) (positions_of c.args.tuple) ≡ Some c.in-Some.at =
    ap (λ l. place (map sizes l) (positions_of c.args.tuple)) (sym args) ∙ sym c.place.ensures ∙ c.in-Some.is in
    let few = number_below c.args.schema.now c.args.inst.now c.requires.valid c.args.x c.in-Some.at (positions_of c.args.tuple) c.requires.declared there in
    let first = c.first.ensures ∙ c.requires.offsets c.args.x c.requires.declared in
    omega (arith, few, first)
