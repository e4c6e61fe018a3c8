use Rattle.std.proofs.Common.{◌≡◌, sym, ◌∙◌, ap, subst, length, map, arith, ◌-◌, ◌≤◌, slice_index, Some}
use Rattle.kts_base.specs.Limits.{most_arguments}
use Rattle.kts_mean.specs.Bounds.{AllIn}
use Rattle.kts_spec.specs.declared.declarations.Family.{Family}
use Rattle.kts_spec.specs.Places.{place, offset}
use Rattle.kts_spec.specs.Worlds.{world_of, choice_of}
use Rattle.kts_machine.specs.Items.{items_of, positions_of}
use Rattle.kts_machine.proofs.DataFacts.{choice_facts, few_choices, family_read, owner_is}
use Rattle.kts_machine.proofs.offsets.Offsets.owner.Goals as goal

pub first-requires : goal.first-requires
first-requires c = few_choices c.args.schema.now c.args.inst.now c.requires.valid c.loop-x.x c.loop-x.invariant.declared

pub first-requires-2 : goal.first-requires-2
first-requires-2 c = few_choices c.args.schema.now c.args.inst.now c.requires.valid c.loop-x.x c.loop-x.invariant.declared

module _ (c : goal.After-first-2) where
  args_are : c.as_slice-indexes.result.now ≡ (choice_of (world_of c.args.schema.now c.args.inst.now) c.loop-x.x).args
  args_are =
      c.as_slice-indexes.ensures ∙ c.args-2.ensures
      ∙ ap (λ (f : Family). f.args) (family_read c.as_slice-choices.result.now c.args.schema.now.choices c.loop-x.x c.index-choices-x.result (c.as_slice-choices.ensures ∙ c.choices.ensures) c.loop-x.invariant.declared c.index-choices-x.is)

pub tuple_at-requires-clause-declared : goal.tuple_at-requires-clause-declared
tuple_at-requires-clause-declared c =
    subst (AllIn (length c.args.inst.now.members)) (sym (args_are c)) (choice_facts c.args.schema.now c.args.inst.now c.requires.valid c.loop-x.x c.loop-x.invariant.declared).declared

pub tuple_at-requires-clause-few : goal.tuple_at-requires-clause-few
tuple_at-requires-clause-few c =
    subst (λ l. length l ≤ most_arguments) (sym (args_are c)) (choice_facts c.args.schema.now c.args.inst.now c.requires.valid c.loop-x.x c.loop-x.invariant.declared).few

read : (c : goal.After-tuple_at) → c.as_slice-indexes.result.now ≡ (choice_of (world_of c.args.schema.now c.args.inst.now) c.loop-x.x).args
read c =
    c.as_slice-indexes.ensures ∙ c.args-2.ensures
    ∙ ap (λ (f : Family). f.args) (family_read c.as_slice-choices.result.now c.args.schema.now.choices c.loop-x.x c.index-choices-x.result (c.as_slice-choices.ensures ∙ c.choices.ensures) c.loop-x.invariant.declared c.index-choices-x.is)

pub returns : goal.returns
returns c =
    let first = c.first.ensures ∙ c.requires.offsets c.loop-x.x c.loop-x.invariant.declared in
    let again = c.first-2.ensures ∙ c.requires.offsets c.loop-x.x c.loop-x.invariant.declared in
    let below : offset (world_of c.args.schema.now c.args.inst.now) c.loop-x.x ≤ c.args.k = omega (arith, first, c.loop-x-test.false) in
    owner_is c.args.schema.now c.args.inst.now c.requires.valid c.loop-x.x c.args.k (items_of c.tuple_at.result) c.loop-x.invariant.declared below
    (ap (λ l. place (map (slice_index (map length c.args.inst.now.members)) l) (positions_of c.tuple_at.result)) (sym (read c)) ∙ c.tuple_at.ensures ∙ ap (λ n. Some (c.args.k - n)) again)
