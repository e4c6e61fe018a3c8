-- Numbers, variables and accesses to families: what their code pushes.
use Rattle.std.proofs.Common.{◌≡◌, ℕ, suc, ◌+◌, ◌<◌, ◌≤◌, List, [], ◌∷◌, ◌++◌, length, Option, Some, None, true, false, cond, refl, sym, ap, ◌∙◌, arith, append_assoc, map, nat_eq}
use Rattle.std.specs.Prelude.{slice_get, slice_index, nat_lt, ℤ, pos, reverse}
use Rattle.std.proofs.lemmas.Grind.{reverse_onto}
use Rattle.std.proofs.lemmas.List.{append-nil}
use Rattle.std.proofs.lemmas.Bool.Decides.{nat_tests}
use Rattle.kts_abs.specs.InSpace.{only_of}
use Rattle.kts_abs.specs.Values.{Abs, members_of}
use Rattle.kts_code.specs.declared.instructions.Instr.TheVariants.{Num, Var, Given, Choice}
use Rattle.kts_code.specs.Operands.{on_var, on_arguments, sets_of, read_at, on_access}
use Rattle.kts_code.specs.Setups.{Setup, world_in}
use Rattle.kts_code.specs.States.{Operand, Win, Set, Register}
use Rattle.kts_spec.specs.declared.declarations.Family.{Family}
use Rattle.kts_spec.specs.Domain.{at_each}
use Rattle.kts_spec.specs.Places.{cell, entry}
use Rattle.kts_spec.specs.Worlds.{World, given_of, choice_of, table_of}
use Rattle.kts_emit.specs.Fragments.{Fragment, operation}
use Rattle.kts_emit.specs.Weights.{sequence_weight}
use Rattle.kts_emit.proofs.Contexts.{Context, core_at, pushed}
use Rattle.kts_emit.proofs.Variables.{held_at}
use Rattle.kts_emit.proofs.Operations.{Pushes, AllPush, piled, makes_one, operation_pushes}

-- members of these indexes, as operands
abbrev pub set_values : List ℕ → List (List ℕ → Abs) → List (List ℕ → Operand)
set_values (i ∷ is) (a ∷ us) = (λ vars. Set i (members_of (a vars))) ∷ set_values is us
set_values is us = []

-- an index is itself
pub index_equals : (i : ℕ) → nat_eq i i ≡ true
index_equals i = grind (arith, nat_tests)

reverse_more : (is : List ℕ) (i : ℕ) (js : List ℕ) → reverse (i ∷ is) ++ js ≡ reverse is ++ (i ∷ js)
reverse_more is i js = ap (λ l. l ++ js) (reverse_onto is i []) ∙ append_assoc (reverse is) (i ∷ []) js

module _ (setup : Setup) (r : Context) where
  abbrev w : World
  w = world_in setup

  abbrev Over : Fragment → ℕ → ℕ → List ℕ → (List ℕ → Operand) → Type 0
  Over = Pushes setup r

  pub number_pushes : (n : ℤ) (need : ℕ) (scope : List ℕ) → 1 ≤ need → Over (operation [] (Num n ∷ [])) 1 need scope (λ vars. Win (n, n))
  number_pushes n need scope some =
      operation_pushes setup r [] [] [] (Num n ∷ []) 1 0 need scope (λ vars. Win (n, n)) tt
      (makes_one setup r (Num n) refl scope [] (λ vars. Win (n, n))
      (λ vars p stack registers h less. pushed setup.code.stack r p stack stack registers (Win (n, n)) less)) (omega arith) some

  pub variable_pushes : (k i need : ℕ) (scope : List ℕ) → slice_get scope k ≡ Some i → 1 ≤ need
      → Over (operation [] (Var k ∷ [])) 1 need scope (λ vars. Set i (pos (slice_index vars k) ∷ []))
  variable_pushes k i need scope e some =
      operation_pushes setup r [] [] [] (Var k ∷ []) 1 0 need scope (λ vars. Set i (pos (slice_index vars k) ∷ [])) tt
      (makes_one setup r (Var k) refl scope [] (λ vars. Set i (pos (slice_index vars k) ∷ [])) (λ vars p stack registers h less.
      ap (on_var setup.code.stack (core_at r p stack registers)) (held_at w scope vars registers k i h e)
      ∙ pushed setup.code.stack r p stack stack registers (Set i (pos (slice_index vars k) ∷ [])) less)) (omega arith) some

  -- the arguments are found on the stack
  pub sets_found : (is js : List ℕ) (us : List (List ℕ → Abs)) (vars : List ℕ) (stack : List Operand) (known : List (List ℤ)) → length is ≡ length us
      → sets_of (reverse is ++ js) (piled setup r (set_values is us) vars stack) known ≡ sets_of js stack (map members_of (at_each vars us) ++ known)
  sets_found [] js [] vars stack known e = refl
  sets_found [] js (a ∷ us) vars stack known e = absurd (omega arith)
  sets_found (i ∷ is) js [] vars stack known e = absurd (omega arith)
  sets_found (i ∷ is) js (a ∷ us) vars stack known e =
      let ms = members_of (a vars) in
      let more = map members_of (at_each vars us) ++ known in
      ap (λ l. sets_of l (piled setup r (set_values is us) vars (Set i ms ∷ stack)) known) (reverse_more is i js)
      ∙ sets_found is (i ∷ js) us vars (Set i ms ∷ stack) known (omega arith)
      ∙ ap (λ b. cond b (sets_of js stack (ms ∷ more)) None) (index_equals i)

  pub many_piled : (is : List ℕ) (us : List (List ℕ → Abs)) (vars : List ℕ) (stack : List Operand) → length is ≡ length us
      → length (piled setup r (set_values is us) vars stack) ≡ length is + length stack
  many_piled [] [] vars stack e = omega arith
  many_piled [] (a ∷ us) vars stack e = absurd (omega arith)
  many_piled (i ∷ is) [] vars stack e = absurd (omega arith)
  many_piled (i ∷ is) (a ∷ us) vars stack e = let h = many_piled is us vars (Set i (members_of (a vars)) ∷ stack) (omega arith) in omega arith

  -- what an access finds
  pub accesses : (family : Family) (place : List ℤ → Option ℕ) (cells : List Abs) (us : List (List ℕ → Abs)) (vars : List ℕ) (p : ℕ)
      (stack : List Operand) (registers : List Register) → length family.args ≡ length us → length stack < setup.code.stack
      → on_access setup.code.stack (core_at r p (piled setup r (set_values family.args us) vars stack) registers) family place cells ≡ core_at r
      (p + 1) (read_at family place cells (map members_of (at_each vars us)) ∷ stack) registers
  accesses family place cells us vars p stack registers e less =
      let full = piled setup r (set_values family.args us) vars stack in
      let sets = map members_of (at_each vars us) in
      let many = many_piled family.args us vars stack e in
      let enough : nat_lt (length full) (length family.args) ≡ false = grind (arith, nat_tests) in
      let found : sets_of (reverse family.args) full [] ≡ Some (sets, stack) = ap (λ l. sets_of l full []) (sym (append-nil (reverse family.args)))
      ∙ sets_found family.args [] us vars stack [] e ∙ ap (λ l. Some (l, stack)) (append-nil sets) in
      rw (enough)
      (ap (on_arguments setup.code.stack (core_at r p full registers) family place cells) found
      ∙ pushed setup.code.stack r p full stack registers (read_at family place cells sets) less)

  pub given_pushes : (f : ℕ) (codes : List Fragment) (ns : List ℕ) (us : List (List ℕ → Abs)) (inner need : ℕ) (scope : List ℕ)
      → length (given_of w f).args ≡ length us
      → AllPush setup r inner scope codes ns (set_values (given_of w f).args us) → inner + length codes ≤ suc need → 1 ≤ need
      → Over (operation codes (Given f ∷ [])) (sequence_weight ns + 1) need scope
      (λ vars. read_at (given_of w f) (entry w f) (map only_of (table_of w f)) (map members_of (at_each vars us)))
  given_pushes f codes ns us inner need scope e all fits some =
      let family = given_of w f in
      let value : List ℕ → Operand = λ vars. read_at family (entry w f) (map only_of (table_of w f)) (map members_of (at_each vars us)) in
      operation_pushes setup r codes ns (set_values family.args us) (Given f ∷ []) 1 inner need scope value all
      (makes_one setup r (Given f) refl scope (set_values family.args us) value
      (λ vars p stack registers h less. accesses family (entry w f) (map only_of (table_of w f)) us vars p stack registers e less)) fits some

  pub choice_pushes : (x : ℕ) (codes : List Fragment) (ns : List ℕ) (us : List (List ℕ → Abs)) (inner need : ℕ) (scope : List ℕ)
      → length (choice_of w x).args ≡ length us
      → AllPush setup r inner scope codes ns (set_values (choice_of w x).args us) → inner + length codes ≤ suc need → 1 ≤ need
      → Over (operation codes (Choice x ∷ [])) (sequence_weight ns + 1) need scope
      (λ vars. read_at (choice_of w x) (cell w x) r.space (map members_of (at_each vars us)))
  choice_pushes x codes ns us inner need scope e all fits some =
      let family = choice_of w x in
      let value : List ℕ → Operand = λ vars. read_at family (cell w x) r.space (map members_of (at_each vars us)) in
      operation_pushes setup r codes ns (set_values family.args us) (Choice x ∷ []) 1 inner need scope value all
      (makes_one setup r (Choice x) refl scope (set_values family.args us) value
      (λ vars p stack registers h less. accesses family (cell w x) r.space us vars p stack registers e less)) fits some
