-- The arguments of a head, which its step finds below the bound: they name a cell of the space.
use Rattle.std.proofs.Common.{◌≡◌, ℕ, suc, ◌+◌, ◌*◌, ◌<◌, ◌≤◌, List, [], ◌∷◌, length, map, Some, true, false, refl, sym, ap, ◌∙◌, arith}
use Rattle.std.specs.Prelude.{ℤ, slice_get, nat_lt, option_map, nat_abs, reverse}
use Rattle.std.proofs.lemmas.Bool.Decides.{nat_tests}
use Rattle.std.proofs.lemmas.List.{append-nil, length-map}
use Rattle.std.proofs.lemmas.Option.{slice_get_within}
use Rattle.kts_abs.specs.InSpace.{value_in}
use Rattle.kts_abs.specs.Ranged.{ValuesAreRanged}
use Rattle.kts_abs.specs.Spaces.{IsAbove, types}
use Rattle.kts_abs.specs.Values.{Abs, IsOne, members_of}
use Rattle.kts_abs.specs.Demands.{only_member}
use Rattle.kts_abs.proofs.Exact.{members_one}
use Rattle.kts_base.specs.Limits.{most_variables, most_depth}
use Rattle.kts_code.specs.HeadSteps.{bound_of, only_members, tuple_of, on_tuple, on_cell, on_head}
use Rattle.kts_code.specs.Operands.{arguments_of, sets_of}
use Rattle.kts_code.specs.Setups.{Setup, world_in}
use Rattle.kts_code.specs.States.{Operand, Register}
use Rattle.kts_plan.specs.declared.head.Head.{Head}
use Rattle.kts_plan.specs.Asks.{head_cell}
use Rattle.kts_plan.proofs.UnreadCells.{space_length}
use Rattle.kts_spec.specs.declared.declarations.Family.{Family}
use Rattle.kts_spec.specs.declared.schema.Schema.{Schema}
use Rattle.kts_spec.specs.declared.tree.Term.{Term}
use Rattle.kts_spec.specs.CellOrder.{AreMembers}
use Rattle.kts_spec.specs.Data.{is_valid}
use Rattle.kts_spec.specs.Domain.{at_each}
use Rattle.kts_spec.specs.Meaning.{value_on}
use Rattle.kts_spec.specs.MeaningEquations.{values_on}
use Rattle.kts_spec.specs.Related.{Pairs}
use Rattle.kts_spec.specs.Schedules.{Cell, cells}
use Rattle.kts_spec.specs.TypedValues.{InScope}
use Rattle.kts_spec.specs.Typing.{MemberOf}
use Rattle.kts_spec.specs.Worlds.{World, size_of, choice_of}
use Rattle.kts_spec.proofs.CellPlaces.{cells_have_numbers}
use Rattle.kts_emit.specs.Codes.{term_code}
use Rattle.kts_emit.specs.Weights.{weight_of_term}
use Rattle.kts_emit.proofs.Accesses.{set_values, sets_found, many_piled}
use Rattle.kts_emit.proofs.BoundValues.{typed_pushes}
use Rattle.kts_emit.proofs.Contexts.{Context, core_at}
use Rattle.kts_emit.proofs.Operations.{AllPush, piled}
use Rattle.kts_emit.proofs.SpaceValues.{fixed_one, one_in}
use Rattle.kts_emit.proofs.TypedConstraints.{TypedArgument}

module _ (setup : Setup) (r : Context) (valid : is_valid setup.code.schema setup.inst ≡ true)
    (ranged : ValuesAreRanged setup.code.schema (world_in setup) r.space) (scope : List ℕ) (le : length scope ≤ most_variables) where
  abbrev w : World
  w = world_in setup

  abbrev schema : Schema
  schema = setup.code.schema

  abbrev Arguments : List ℕ → List Term → Type 0
  Arguments = Pairs (TypedArgument schema scope)

  abbrev sets_pushed : List ℕ → List Term → List (List ℕ → Operand)
  sets_pushed is args = set_values is (map (value_in w r.space) args)

  pub arguments_push : (is : List ℕ) (args : List Term) (need : ℕ) → Arguments is args → 2 * most_depth + 10 ≤ need
      → AllPush setup r need scope (map term_code args) (map (weight_of_term (size_of w)) args) (sets_pushed is args)
  arguments_push [] [] need h room = tt
  arguments_push [] (t ∷ args) need h room = absurd h
  arguments_push (i ∷ is) [] need h room = absurd h
  arguments_push (i ∷ is) (t ∷ args) need h room =
      let first = h.0 in
      (typed_pushes setup r valid ranged t scope (MemberOf i) need le first.typed first.flat room, arguments_push is args need h.1 room)

  pub many_arguments : (is : List ℕ) (args : List Term) → Arguments is args → length is ≡ length args
  many_arguments [] [] h = refl
  many_arguments [] (t ∷ args) h = absurd h
  many_arguments (i ∷ is) [] h = absurd h
  many_arguments (i ∷ is) (t ∷ args) h = ap suc (many_arguments is args h.1)

  module _ (vars : List ℕ) (inside : InScope w scope vars) where
    -- an argument is the set of one member
    argument_one : (t : Term) (i : ℕ) → TypedArgument schema scope i t → IsOne (value_on w [] t vars) (value_in w r.space t vars)
    argument_one t i h = fixed_one w r.space t vars h.fixed

    only_one : (n : ℤ) (a : Abs) → IsOne n a → only_member (members_of a) ≡ Some n
    only_one n a h = ap only_member (members_one n a h)

    arguments_only : (is : List ℕ) (args : List Term) → Arguments is args
        → only_members (map members_of (at_each vars (map (value_in w r.space) args))) ≡ Some (values_on w [] args vars)
    arguments_only [] [] h = refl
    arguments_only [] (t ∷ args) h = absurd h
    arguments_only (i ∷ is) [] h = absurd h
    arguments_only (i ∷ is) (t ∷ args) h =
        let only = only_one (value_on w [] t vars) (value_in w r.space t vars) (argument_one t i h.0) in
        rw (only, arguments_only is args h.1) refl

    arguments_in : (is : List ℕ) (args : List Term) → Arguments is args → AreMembers (map (size_of w) is) (values_on w [] args vars)
    arguments_in [] [] h = tt
    arguments_in [] (t ∷ args) h = absurd h
    arguments_in (i ∷ is) [] h = absurd h
    arguments_in (i ∷ is) (t ∷ args) h =
        let set = ranged.member scope vars inside t i h.0.typed in
        (one_in (size_of w i) (value_on w [] t vars) (value_in w r.space t vars) set (argument_one t i h.0), arguments_in is args h.1)

    -- ---- the cell

    pub record HeadCell (h : Head) : Type 0 where
      pub number : ℕ
      pub is : head_cell w vars h ≡ Some number
      pub held : number < length r.space

    pub cell_found : (h : Head) (family : Family) → IsAbove (types w) r.space → slice_get schema.choices h.choice ≡ Some family
        → Arguments (choice_of w h.choice).args h.args → HeadCell h
    cell_found h family above there args =
        let members = values_on w [] h.args vars in
        let places = cells_have_numbers w in
        let k = (places.members h.choice members).0 (arguments_in (choice_of w h.choice).args h.args args) in
        let declared = slice_get_within schema.choices h.choice family there in
        let c : Cell = record { choice = h.choice; args = map nat_abs members; kind = (choice_of w h.choice).kind } in
        let at = slice_get_within (cells w) k.0 c (places.access h.choice k.0 members declared k.1) in
        let same = space_length w r.space above in
        record { number = k.0; is = k.1; held = omega arith }

    -- ---- the step

    -- the step of a head takes its operands for the demand on its cell
    pub head_acts : (h : Head) → Arguments (choice_of w h.choice).args h.args → (p : ℕ) (stack : List Operand) (registers : List Register) (x : Operand) (b : Abs)
        → bound_of h.op (choice_of w h.choice).kind x ≡ Some b → (fail : ℕ)
        → on_head setup (core_at r p (x ∷ piled setup r (sets_pushed (choice_of w h.choice).args h.args) vars stack) registers) h.op h.choice fail r.space
        ≡ on_cell setup (core_at r p (x ∷ piled setup r (sets_pushed (choice_of w h.choice).args h.args) vars stack) registers) r.space fail stack (h.op, b) (head_cell w vars h)
    head_acts h args p stack registers x b known fail =
        let family = choice_of w h.choice in
        let us = map (value_in w r.space) h.args in
        let sets = map members_of (at_each vars us) in
        let under = piled setup r (set_values family.args us) vars stack in
        let full = x ∷ under in
        let s = core_at r p full registers in
        let count = many_arguments family.args h.args args in
        let long = length-map h.args (value_in w r.space) in
        let same : length family.args ≡ length us = omega arith in
        let many = many_piled setup r family.args us vars stack same in
        let enough : nat_lt (length full) (suc (length family.args)) ≡ false = grind (arith, nat_tests) in
        let found : sets_of (reverse family.args) under [] ≡ Some (sets, stack) = ap (λ l. sets_of l under []) (sym (append-nil (reverse family.args)))
        ∙ sets_found setup r family.args [] us vars stack [] same ∙ ap (λ l. Some (l, stack)) (append-nil sets) in
        let tuple : tuple_of (arguments_of family under) ≡ Some (values_on w [] h.args vars, stack) =
        ap tuple_of found ∙ ap (option_map (λ members. (members, stack))) (arguments_only family.args h.args args) in
        rw enough
        (ap (λ o. on_tuple setup s r.space h.op h.choice fail o (tuple_of (arguments_of family under))) known
        ∙ ap (λ o. on_tuple setup s r.space h.op h.choice fail (Some b) o) tuple)
