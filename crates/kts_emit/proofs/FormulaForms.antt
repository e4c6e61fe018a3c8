-- The code of each form of formula pushes its abstract truth, where the codes of its parts do.
use Rattle.std.proofs.Common.{◌≡◌, ℕ, suc, ◌+◌, ◌*◌, ◌-◌, ◌<◌, ◌≤◌, List, [], ◌∷◌, ◌++◌, length, map, fold, Option, Some, Bool, true, ◌&&◌, refl, arith, nat_le, length-append}
use Rattle.std.specs.Prelude.{ℤ, max}
use Rattle.std.specs.Ordering.{int_eq}
use Rattle.std.specs.List.{list_all}
use Rattle.std.proofs.lemmas.Bool.{and_parts}
use Rattle.kts_abs.specs.declared.truth.Tri.{Tri}
use Rattle.kts_abs.specs.declared.truth.Tri.TheVariants.{F, T}
use Rattle.kts_abs.specs.InSpace.{in_space, value_in, truth_in}
use Rattle.kts_abs.specs.Members.{same_of}
use Rattle.kts_abs.specs.Truth.{and_of, or_of, not_of}
use Rattle.kts_abs.specs.Values.{Abs, window_of, members_of}
use Rattle.kts_abs.specs.Windows.{Window, le_of, eq_of}
use Rattle.kts_base.specs.Limits.{most_variables}
use Rattle.kts_base.proofs.Orders.{nat_le_yes}
use Rattle.kts_code.specs.declared.instructions.Instr.{Instr}
use Rattle.kts_code.specs.declared.instructions.Instr.TheVariants.{Le, Eq, Same, And, Or, Not, True, False}
use Rattle.kts_code.specs.Machine.{act}
use Rattle.kts_code.specs.Setups.{Setup, world_in}
use Rattle.kts_code.specs.States.{Operand, Truth, Register, operand_of}
use Rattle.kts_code.proofs.Runs.{is_inner}
use Rattle.kts_spec.specs.declared.tree.Comparison.{Comparison}
use Rattle.kts_spec.specs.declared.tree.Comparison.TheVariants as c
use Rattle.kts_spec.specs.declared.schema.Schema.{Schema}
use Rattle.kts_spec.specs.declared.tree.Term.{Term}
use Rattle.kts_spec.specs.declared.tree.Formula.{Formula}
use Rattle.kts_spec.specs.declared.tree.Formula.TheOpen as one
use Rattle.kts_spec.specs.declared.tree.Formula.TheFolds.{map-Formula}
use Rattle.kts_spec.specs.Domain.{at_each, comparison_truth, over, formula_step}
use Rattle.kts_spec.specs.Sizes.{Size, beside, all_beside, size_of_term, size_of_formula, formula_size}
use Rattle.kts_spec.specs.Typing.{Kind, Whole, MemberOf, are_comparable, may_bind, kind_of, is_typed, formula_typed}
use Rattle.kts_spec.specs.Worlds.{World, size_of}
use Rattle.kts_emit.specs.Fragments.{Fragment, operation, chain, nested_loops}
use Rattle.kts_emit.specs.Codes.{negated, comparison_code, term_code, formula_code}
use Rattle.kts_emit.specs.Codes as codes
use Rattle.kts_emit.specs.Weights.{chain_weight, test_weight, nested_weight, formula_weight, weight_of_term, weight_of_formula}
use Rattle.kts_emit.proofs.Contexts.{Context, core_at, pushed}
use Rattle.kts_emit.proofs.Operations.{Makes, makes_two, operation_pushes, more_room}
use Rattle.kts_emit.proofs.Instructions.{two_push, truths, le_makes, eq_makes, same_makes, or_makes, not_makes, not_pushes}
use Rattle.kts_emit.proofs.Chains.{Joins, chain_pushes, Always, and_joins, or_joins}
use Rattle.kts_emit.proofs.Binders.{loops_push}
use Rattle.kts_emit.proofs.TypedParts.{both_are, one_is, all_deep, comparison_depth, below, bind_fits}
use Rattle.kts_emit.proofs.Claims.{Over, Part, FormulaPart, bare_formula, formulas, formulas_push, many_formulas, always_fit}

module _ (setup : Setup) (r : Context) where
  abbrev w : World
  w = world_in setup

  abbrev schema : Schema
  schema = setup.code.schema

  abbrev value : Term → List ℕ → Abs
  value = value_in w r.space

  abbrev truth : Formula → List ℕ → Tri
  truth = truth_in w r.space

  abbrev pub truth_at : one.Formula-F (FormulaPart setup r) (Part setup r) → List ℕ → Tri
  truth_at y = formula_step (size_of w) (in_space w r.space) (map-Formula Formula Term (List ℕ → Tri) (List ℕ → Abs) truth value (bare_formula setup r y))

  abbrev pub typed_at : one.Formula-F (FormulaPart setup r) (Part setup r) → List ℕ → Bool
  typed_at y = formula_typed schema
      (map-Formula Formula Term (List ℕ → Bool) (List ℕ → Option Kind) (is_typed schema) (kind_of schema) (bare_formula setup r y))

  abbrev pub formula_size_at : one.Formula-F (FormulaPart setup r) (Part setup r) → Size
  formula_size_at y = formula_size (map-Formula Formula Term Size Size size_of_formula size_of_term (bare_formula setup r y))

  abbrev pub formula_code_at : one.Formula-F (FormulaPart setup r) (Part setup r) → Fragment
  formula_code_at y = codes.formula_step (map-Formula Formula Term Fragment Fragment formula_code term_code (bare_formula setup r y))

  abbrev pub formula_weight_at : one.Formula-F (FormulaPart setup r) (Part setup r) → ℕ
  formula_weight_at y =
      formula_weight (size_of w) (map-Formula Formula Term ℕ ℕ (weight_of_formula (size_of w)) (weight_of_term (size_of w)) (bare_formula setup r y))

  -- two terms setup r and the instructions after them
  sides_push : (a b : (Part setup r)) (k l : Kind) (last : List Instr) (n weight : ℕ) (scope : List ℕ) (need depth : ℕ) (made : List ℕ → Operand)
      → length scope ≤ most_variables → kind_of schema a.0 scope ≡ Some k → kind_of schema b.0 scope ≡ Some l
      → (size_of_term a.0).depth ≤ depth → (size_of_term b.0).depth ≤ depth → 2 * suc depth + 10 ≤ need + length scope
      → Makes setup r last n scope ((λ vars. operand_of k (value a.0 vars)) ∷ (λ vars. operand_of l (value b.0 vars)) ∷ []) made
      → weight_of_term (size_of w) a.0 + (weight_of_term (size_of w) b.0 + 0) + n ≡ weight
      → Over setup r (operation (term_code a.0 ∷ term_code b.0 ∷ []) last) weight need scope made
  sides_push a b k l last n weight scope need depth made le ka kb da db room ends heavy =
      let u = below need depth (length scope) le room in
      let first = a.1 scope k u.inner le ka (omega (arith, u.room)) in
      let second = b.1 scope l u.inner le kb (omega (arith, u.room)) in
      let same : need ≤ need = omega arith in
      more_room setup r heavy same
      (operation_pushes setup r (term_code a.0 ∷ term_code b.0 ∷ []) (weight_of_term (size_of w) a.0 ∷ weight_of_term (size_of w) b.0 ∷ [])
      ((λ vars. operand_of k (value a.0 vars)) ∷ (λ vars. operand_of l (value b.0 vars)) ∷ []) last n u.inner need scope made
      (first, (second, tt)) ends (omega (arith, u.fewer)) (omega (arith, u.fewer)))

  abbrev window : (Part setup r) → List ℕ → Window
  window a vars = window_of (value a.0 vars)

  abbrev set : (Part setup r) → List ℕ → List ℤ
  set a vars = members_of (value a.0 vars)

  compare_case : (o : Comparison) (a b : (Part setup r)) (scope : List ℕ) (need depth : ℕ) → length scope ≤ most_variables
      → are_comparable o (kind_of schema a.0 scope) (kind_of schema b.0 scope) ≡ true
      → (size_of_term a.0).depth ≤ depth → (size_of_term b.0).depth ≤ depth → 2 * suc depth + 10 ≤ need + length scope
      → Over setup r (comparison_code o (term_code a.0) (term_code b.0))
      (weight_of_term (size_of w) a.0 + weight_of_term (size_of w) b.0 + test_weight o) need scope
      (λ vars. Truth (comparison_truth (size_of w) (in_space w r.space) o (value a.0 vars) (value b.0 vars)))
  compare_case c.Le a b scope need depth le e da db room =
      let s = both_are (kind_of schema a.0 scope) (kind_of schema b.0 scope) e in
      sides_push a b (Whole s.0) (Whole s.1) (Le ∷ []) 1 _ scope need depth _ le s.2 s.3 da db room (le_makes setup r scope (window a) (window b))
      (omega arith)
  compare_case c.Lt a b scope need depth le e da db room =
      let s = both_are (kind_of schema a.0 scope) (kind_of schema b.0 scope) e in
      let t : List ℕ → Tri = λ vars. le_of (window b vars) (window a vars) in
      sides_push b a (Whole s.1) (Whole s.0) (Le ∷ (Not ∷ [])) 2 _ scope need depth _ le s.3 s.2 db da room
      (makes_two setup r Le Not scope _ (λ vars. Truth (t vars)) (λ vars. Truth (not_of (t vars))) (le_makes setup r scope (window b) (window a))
      (not_makes setup r scope t)) (omega arith)
  compare_case c.Ge a b scope need depth le e da db room =
      let s = both_are (kind_of schema a.0 scope) (kind_of schema b.0 scope) e in
      sides_push b a (Whole s.1) (Whole s.0) (Le ∷ []) 1 _ scope need depth _ le s.3 s.2 db da room (le_makes setup r scope (window b) (window a))
      (omega arith)
  compare_case c.Gt a b scope need depth le e da db room =
      let s = both_are (kind_of schema a.0 scope) (kind_of schema b.0 scope) e in
      let t : List ℕ → Tri = λ vars. le_of (window a vars) (window b vars) in
      sides_push a b (Whole s.0) (Whole s.1) (Le ∷ (Not ∷ [])) 2 _ scope need depth _ le s.2 s.3 da db room
      (makes_two setup r Le Not scope _ (λ vars. Truth (t vars)) (λ vars. Truth (not_of (t vars))) (le_makes setup r scope (window a) (window b))
      (not_makes setup r scope t)) (omega arith)
  compare_case c.Eq a b scope need depth le e da db room =
      let s = both_are (kind_of schema a.0 scope) (kind_of schema b.0 scope) e in
      sides_push a b (Whole s.0) (Whole s.1) (Eq ∷ []) 1 _ scope need depth _ le s.2 s.3 da db room (eq_makes setup r scope (window a) (window b))
      (omega arith)
  compare_case c.Ne a b scope need depth le e da db room =
      let s = both_are (kind_of schema a.0 scope) (kind_of schema b.0 scope) e in
      let t : List ℕ → Tri = λ vars. eq_of (window a vars) (window b vars) in
      sides_push a b (Whole s.0) (Whole s.1) (Eq ∷ (Not ∷ [])) 2 _ scope need depth _ le s.2 s.3 da db room
      (makes_two setup r Eq Not scope _ (λ vars. Truth (t vars)) (λ vars. Truth (not_of (t vars))) (eq_makes setup r scope (window a) (window b))
      (not_makes setup r scope t)) (omega arith)
  compare_case c.Same a b scope need depth le e da db room =
      let s = one_is (kind_of schema a.0 scope) (kind_of schema b.0 scope) e in
      sides_push a b (MemberOf s.0) (MemberOf s.0) (Same ∷ []) 1 _ scope need depth _ le s.1 s.2 da db room
      (same_makes setup r scope s.0 (set a) (set b)) (omega arith)
  compare_case c.Other a b scope need depth le e da db room =
      let s = one_is (kind_of schema a.0 scope) (kind_of schema b.0 scope) e in
      let t : List ℕ → Tri = λ vars. same_of int_eq (set a vars) (set b vars) in
      sides_push a b (MemberOf s.0) (MemberOf s.0) (Same ∷ (Not ∷ [])) 2 _ scope need depth _ le s.1 s.2 da db room
      (makes_two setup r Same Not scope _ (λ vars. Truth (t vars)) (λ vars. Truth (not_of (t vars))) (same_makes setup r scope s.0 (set a) (set b))
      (not_makes setup r scope t)) (omega arith)

  -- several formulas setup r and an operation
  chain_of_formulas_pushes : (i : Instr) → is_inner (Some i) ≡ true
      → (f : Tri → Tri → Tri) (z : Tri) (parts : List (FormulaPart setup r)) (scope : List ℕ) (need : ℕ)
      → Joins setup r i f (λ t. Truth t) (Always setup r) → ((x : Tri) → Truth (f z x) ≡ Truth x) → length scope ≤ most_variables
      → (nat_le 2 (length (map (is_typed schema) (formulas setup r parts))) && list_all (λ p. p scope)
      (map (is_typed schema) (formulas setup r parts))) ≡ true
      → 2 * suc (all_beside (map size_of_formula (formulas setup r parts))).depth + 10 ≤ need + length scope
      → Over setup r (chain i (map formula_code (formulas setup r parts)))
      (chain_weight (map (weight_of_formula (size_of w)) (formulas setup r parts))) need scope
      (λ vars. Truth (fold f z (at_each vars (map truth (formulas setup r parts)))))
  chain_of_formulas_pushes i inner_i f z parts scope need joins starts le e room =
      let tests = and_parts (nat_le 2 (length (map (is_typed schema) (formulas setup r parts))))
      (list_all (λ p. p scope) (map (is_typed schema) (formulas setup r parts))) e in
      let two = nat_le_yes 2 (length (map (is_typed schema) (formulas setup r parts))) tests.0 in
      let sizes = map size_of_formula (formulas setup r parts) in
      let most = (all_beside sizes).depth in
      let b = below need most (length scope) le room in
      let run = formulas_push setup r parts scope most b.inner le (all_deep sizes) b.room tests.1 in
      let many = many_formulas setup r parts in
      chain_pushes setup r i inner_i f z (λ t. Truth t) (Always setup r) joins starts (map formula_code (formulas setup r parts))
      (map (weight_of_formula (size_of w)) (formulas setup r parts)) (map truth (formulas setup r parts)) b.inner need scope run
      (λ vars inside. always_fit setup r f z (at_each vars (map truth (formulas setup r parts)))) (omega arith) (omega (arith, b.fewer))

  -- a formula under binders
  bound_pushes : (start op : Instr) → is_inner (Some start) ≡ true → is_inner (Some op) ≡ true → (combine : Tri → Tri → Tri) (unit : Tri)
      → ((p : ℕ) (stack : List Operand) (registers : List Register) → length stack < setup.code.stack
      → act setup 0 (Some start) (core_at r p stack registers) ≡ core_at r (p + 1) (Truth unit ∷ stack) registers)
      → Joins setup r op combine (λ t. Truth t) (Always setup r)
      → (indexes : List ℕ) (p : (FormulaPart setup r)) (scope : List ℕ) (need : ℕ) → length scope ≤ most_variables
      → (may_bind schema scope indexes && is_typed schema p.0 (scope ++ indexes)) ≡ true
      → 2 * suc (size_of_formula p.0).depth + 10 ≤ need + length scope
      → Over setup r (nested_loops start op indexes (formula_code p.0))
      (nested_weight (size_of w) indexes (weight_of_formula (size_of w) p.0)) need scope
      (λ vars. Truth (over combine unit (map (size_of w) indexes) (truth p.0) vars))
  bound_pushes start op inner_start inner_op combine unit begins joins indexes p scope need le e room =
      let tests = and_parts (may_bind schema scope indexes) (is_typed schema p.0 (scope ++ indexes)) e in
      let fits = bind_fits schema scope indexes tests.0 in
      let long = length-append scope indexes in
      let inner = need - length indexes in
      let h = p.1 (scope ++ indexes) inner (omega (arith, fits)) tests.1 (omega (arith, fits)) in
      loops_push setup r start op inner_start inner_op combine unit begins joins indexes scope (formula_code p.0)
      (weight_of_formula (size_of w) p.0) inner need (truth p.0) h (omega (arith, fits)) (omega (arith, fits)) fits

  pub formula_case : (y : one.Formula-F (FormulaPart setup r) (Part setup r)) (scope : List ℕ) (need : ℕ) → length scope ≤ most_variables
      → typed_at y scope ≡ true → 2 * (formula_size_at y).depth + 10 ≤ need + length scope
      → Over setup r (formula_code_at y) (formula_weight_at y) need scope (λ vars. Truth (truth_at y vars))
  formula_case (one.Compare o a b) scope need le e room =
      let sa = size_of_term a.0 in
      let sb = size_of_term b.0 in
      let deep = comparison_depth o (beside sa sb) in
      compare_case o a b scope need (max sa.depth sb.depth) le e (omega arith) (omega arith) (omega (arith, deep))
  formula_case (one.And parts) scope need le e room = chain_of_formulas_pushes And refl and_of T parts scope need (and_joins setup r) (λ x. refl) le e room
  formula_case (one.Or parts) scope need le e room = chain_of_formulas_pushes Or refl or_of F parts scope need (or_joins setup r) (λ x. refl) le e room
  formula_case (one.Not p) scope need le e room =
      let h = p.1 scope need le e (omega arith) in
      let n = weight_of_formula (size_of w) p.0 in
      let heavy : n + 0 + 1 ≡ n + 1 = omega arith in
      let same : need ≤ need = omega arith in
      more_room setup r heavy same (not_pushes setup r (formula_code p.0) n need scope (truth p.0) h (omega arith))
  formula_case (one.Implies p q) scope need le e room =
      let tests = and_parts (is_typed schema p.0 scope) (is_typed schema q.0 scope) e in
      let sp = size_of_formula p.0 in
      let sq = size_of_formula q.0 in
      let b = below need (max sp.depth sq.depth) (length scope) le room in
      let np = weight_of_formula (size_of w) p.0 in
      let nq = weight_of_formula (size_of w) q.0 in
      let hp = p.1 scope b.inner le tests.0 (omega (arith, b.room)) in
      let hq = q.1 scope b.inner le tests.1 (omega (arith, b.room)) in
      let t : List ℕ → Tri = λ vars. not_of (truth p.0 vars) in
      let no = not_pushes setup r (formula_code p.0) np b.inner scope (truth p.0) hp (omega (arith, b.some)) in
      let heavy : np + 0 + 1 + (nq + 0) + 1 ≡ np + 1 + nq + 1 = omega arith in
      let same : need ≤ need = omega arith in
      more_room setup r heavy same
      (two_push setup r (negated (formula_code p.0)) (formula_code q.0) (np + 0 + 1) nq (truths setup r t) (truths setup r (truth q.0))
      (λ vars. Truth (or_of (t vars) (truth q.0 vars))) Or b.inner need scope no hq (or_makes setup r scope t (truth q.0)) (omega (arith, b.fewer))
      (omega (arith, b.fewer)))
  formula_case (one.Forall indexes p) scope need le e room =
      bound_pushes True And refl refl and_of T (λ q stack registers less. pushed setup.code.stack r q stack stack registers (Truth T) less)
      (and_joins setup r) indexes p scope need le e room
  formula_case (one.Exists indexes p) scope need le e room =
      bound_pushes False Or refl refl or_of F (λ q stack registers less. pushed setup.code.stack r q stack stack registers (Truth F) less)
      (or_joins setup r) indexes p scope need le e room
