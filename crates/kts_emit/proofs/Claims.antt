-- What is claimed of the code of a term and of a formula, and what follows for several of them.
use Rattle.std.proofs.Common.{◌≡◌, ℕ, suc, ◌+◌, ◌*◌, ◌≤◌, List, [], ◌∷◌, length, map, Option, Some, true, refl, sym, ap, subst, arith}
use Rattle.std.specs.List.{list_all}
use Rattle.std.proofs.lemmas.Bool.{and_parts}
use Rattle.kts_abs.specs.declared.truth.Tri.{Tri}
use Rattle.kts_abs.specs.InSpace.{value_in, truth_in}
use Rattle.kts_abs.specs.Values.{Abs, window_of}
use Rattle.kts_base.specs.Limits.{most_variables}
use Rattle.kts_code.specs.Setups.{Setup, world_in}
use Rattle.kts_code.specs.States.{Operand, Win, Truth, operand_of}
use Rattle.kts_spec.specs.declared.schema.Schema.{Schema}
use Rattle.kts_spec.specs.declared.tree.Term.{Term}
use Rattle.kts_spec.specs.declared.tree.Formula.{Formula}
use Rattle.kts_spec.specs.declared.tree.Formula.TheOpen as one
use Rattle.kts_spec.specs.declared.tree.Formula.TheFolds.{map-Term, map-Formula}
use Rattle.kts_spec.specs.Domain.{at_each}
use Rattle.kts_spec.specs.Ranges.{Range}
use Rattle.kts_spec.specs.Related.{Pairs}
use Rattle.kts_spec.specs.Sizes.{Size, size_of_term, size_of_formula}
use Rattle.kts_spec.specs.Typing.{Kind, Whole, MemberOf, are_members, kind_of, is_typed}
use Rattle.kts_spec.specs.Worlds.{World, size_of}
use Rattle.kts_spec.proofs.KindParts.{IsWhole}
use Rattle.kts_emit.specs.Fragments.{Fragment}
use Rattle.kts_emit.specs.Codes.{term_code, formula_code}
use Rattle.kts_emit.specs.Weights.{weight_of_term, weight_of_formula}
use Rattle.kts_emit.proofs.Contexts.{Context}
use Rattle.kts_emit.proofs.Operations.{Pushes, AllPush}
use Rattle.kts_emit.proofs.Accesses.{set_values}
use Rattle.kts_emit.proofs.Chains.{StepsFit, shown_each, window_shown, Always}
use Rattle.kts_emit.proofs.TypedParts.{first_member, AreDeep}

module _ (setup : Setup) (r : Context) where
  abbrev w : World
  w = world_in setup

  abbrev schema : Schema
  schema = setup.code.schema

  abbrev pub value : Term → List ℕ → Abs
  value = value_in w r.space

  abbrev pub truth : Formula → List ℕ → Tri
  truth = truth_in w r.space

  abbrev pub Over : Fragment → ℕ → ℕ → List ℕ → (List ℕ → Operand) → Type 0
  Over = Pushes setup r

  -- the claim on a term, and on a formula
  abbrev pub OfTerm : Term → Type 0
  OfTerm t = (scope : List ℕ) (k : Kind) (need : ℕ) → length scope ≤ most_variables → kind_of schema t scope ≡ Some k
      → 2 * (size_of_term t).depth + 10 ≤ need + length scope
      → Over (term_code t) (weight_of_term (size_of w) t) need scope (λ vars. operand_of k (value t vars))

  abbrev pub OfFormula : Formula → Type 0
  OfFormula p = (scope : List ℕ) (need : ℕ) → length scope ≤ most_variables → is_typed schema p scope ≡ true
      → 2 * (size_of_formula p).depth + 10 ≤ need + length scope
      → Over (formula_code p) (weight_of_formula (size_of w) p) need scope (λ vars. Truth (truth p vars))

  abbrev pub Part : Type 0
  Part = (t : Term) × OfTerm t

  abbrev pub FormulaPart : Type 0
  FormulaPart = (p : Formula) × OfFormula p

  -- a form without what is claimed of its parts
  abbrev pub bare : one.Term-F FormulaPart Part → one.Term-F Formula Term
  bare y = map-Term FormulaPart Part Formula Term (λ p. p.0) (λ p. p.0) y

  abbrev pub bare_formula : one.Formula-F FormulaPart Part → one.Formula-F Formula Term
  bare_formula y = map-Formula FormulaPart Part Formula Term (λ p. p.0) (λ p. p.0) y

  abbrev pub terms : List Part → List Term
  terms = map (λ (p : Part). p.0)

  abbrev pub formulas : List FormulaPart → List Formula
  formulas = map (λ (p : FormulaPart). p.0)

  abbrev pub kinds : List Part → List ℕ → List (Option Kind)
  kinds parts scope = at_each scope (map (kind_of schema) (terms parts))

  abbrev pub values : List Part → List (List ℕ → Abs)
  values parts = map value (terms parts)

  abbrev pub weights : List Part → List ℕ
  weights parts = map (weight_of_term (size_of w)) (terms parts)

  abbrev pub sizes : List Part → List Size
  sizes parts = map size_of_term (terms parts)

  pub many_codes : (parts : List Part) → length (map term_code (terms parts)) ≡ length parts
  many_codes [] = refl
  many_codes (p ∷ parts) = ap suc (many_codes parts)

  pub many_values : (parts : List Part) (is scope : List ℕ) → are_members is (kinds parts scope) ≡ true
      → (length is ≡ length (values parts)) × (length is ≡ length parts)
  many_values [] [] scope e = (refl, refl)
  many_values [] (i ∷ is) scope e = cc
  many_values (p ∷ parts) [] scope e = cc
  many_values (p ∷ parts) (i ∷ is) scope e =
      let m = first_member i is (kind_of schema p.0 scope) (kinds parts scope) e in
      let h = many_values parts is scope m.others in
      (ap suc h.0, ap suc h.1)

  -- arguments push their sets
  pub arguments_push : (parts : List Part) (is scope : List ℕ) (most inner : ℕ) → length scope ≤ most_variables → AreDeep most (sizes parts)
      → 2 * most + 10 ≤ inner + length scope → are_members is (kinds parts scope) ≡ true
      → AllPush setup r inner scope (map term_code (terms parts)) (weights parts) (set_values is (values parts))
  arguments_push [] [] scope most inner le deep room e = tt
  arguments_push [] (i ∷ is) scope most inner le deep room e = cc
  arguments_push (p ∷ parts) [] scope most inner le deep room e = cc
  arguments_push (p ∷ parts) (i ∷ is) scope most inner le deep room e =
      let m = first_member i is (kind_of schema p.0 scope) (kinds parts scope) e in
      (p.1 scope (MemberOf i) inner le m.first (omega (arith, deep.0)), arguments_push parts is scope most inner le deep.1 room m.others)

  -- whole numbers push their windows
  pub wholes_push : (parts : List Part) (ws : List Range) (scope : List ℕ) (most inner : ℕ) → length scope ≤ most_variables
      → AreDeep most (sizes parts) → 2 * most + 10 ≤ inner + length scope → Pairs IsWhole (kinds parts scope) ws
      → AllPush setup r inner scope (map term_code (terms parts)) (weights parts) (shown_each setup r (window_shown setup r) (values parts))
  wholes_push [] ws scope most inner le deep room h = tt
  wholes_push (p ∷ parts) [] scope most inner le deep room h = absurd h
  wholes_push (p ∷ parts) (v ∷ ws) scope most inner le deep room h =
      (p.1 scope (Whole v) inner le h.0 (omega (arith, deep.0)), wholes_push parts ws scope most inner le deep.1 room h.1)

  -- formulas push their truths
  pub formulas_push : (parts : List FormulaPart) (scope : List ℕ) (most inner : ℕ) → length scope ≤ most_variables
      → AreDeep most (map size_of_formula (formulas parts)) → 2 * most + 10 ≤ inner + length scope
      → list_all (λ p. p scope) (map (is_typed schema) (formulas parts)) ≡ true
      → AllPush setup r inner scope (map formula_code (formulas parts)) (map (weight_of_formula (size_of w)) (formulas parts))
      (shown_each setup r (λ t. Truth t) (map truth (formulas parts)))
  formulas_push [] scope most inner le deep room e = tt
  formulas_push (p ∷ parts) scope most inner le deep room e =
      let both = and_parts (is_typed schema p.0 scope) _ e in
      (p.1 scope inner le both.0 (omega (arith, deep.0)), formulas_push parts scope most inner le deep.1 room both.1)

  pub always_fit : (f : Tri → Tri → Tri) (a : Tri) (xs : List Tri) → StepsFit setup r f (Always setup r) a xs
  always_fit f a [] = tt
  always_fit f a (x ∷ xs) = (tt, always_fit f (f a x) xs)

  pub many_formulas : (parts : List FormulaPart) → length (map formula_code (formulas parts)) ≡ length (map (is_typed schema) (formulas parts))
  many_formulas [] = refl
  many_formulas (p ∷ parts) = ap suc (many_formulas parts)

  pub many_kinds : (parts : List Part) → length (map (kind_of schema) (terms parts)) ≡ length parts
  many_kinds [] = refl
  many_kinds (p ∷ parts) = ap suc (many_kinds parts)

  -- the operand of a whole number
  pub as_whole : (code : Fragment) (weight need : ℕ) (scope : List ℕ) (k : Kind) (v : Range) (f : List ℕ → Abs) → k ≡ Whole v
      → Over code weight need scope (λ vars. Win (window_of (f vars))) → Over code weight need scope (λ vars. operand_of k (f vars))
  as_whole code weight need scope k v f e h = subst (λ l. Over code weight need scope (λ vars. operand_of l (f vars))) (sym e) h
