-- The code of each form of term pushes its abstract value, where the codes of its parts do.
use Rattle.std.proofs.Common.{◌≡◌, ℕ, zero, suc, ◌+◌, ◌*◌, ◌<◌, ◌≤◌, List, [], ◌∷◌, ◌++◌, length, map, Option, Some, Bool, true, ◌&&◌, refl, sym, ap, subst, arith, nat_le, slice_get, length-append}
use Rattle.std.specs.Prelude.{pos, max, option_and_then}
use Rattle.std.proofs.lemmas.Bool.{and_parts}
use Rattle.std.proofs.lemmas.Int.{ints}
use Rattle.std.proofs.lemmas.Option.{get_or_from_slice_get}
use Rattle.kts_abs.specs.declared.truth.Tri.{Tri}
use Rattle.kts_abs.specs.InSpace.{in_space, value_in, truth_in, only_of, on_windows}
use Rattle.kts_abs.specs.Ranged.{ValuesAreRanged}
use Rattle.kts_abs.specs.Values.{Abs, window_of}
use Rattle.kts_abs.specs.Windows.{Window, fitted, sum_of, difference_of, product_of, least_of, greatest_of}
use Rattle.kts_base.specs.Limits.{most_variables, most_members, most_parts, most_arguments}
use Rattle.kts_base.proofs.Orders.{nat_le_yes}
use Rattle.kts_code.specs.declared.instructions.Instr.{Instr}
use Rattle.kts_code.specs.declared.instructions.Instr.TheVariants.{Var, Given, Choice, Add, Sub, Mul, Min, Max}
use Rattle.kts_code.specs.Setups.{Setup, world_in}
use Rattle.kts_code.specs.States.{Win, operand_of}
use Rattle.kts_spec.specs.declared.declarations.Family.{Family}
use Rattle.kts_spec.specs.declared.schema.Schema.{Schema}
use Rattle.kts_spec.specs.declared.tree.Term.{Term}
use Rattle.kts_spec.specs.declared.tree.Formula.{Formula}
use Rattle.kts_spec.specs.declared.tree.Formula.TheOpen as one
use Rattle.kts_spec.specs.declared.tree.Formula.TheFolds.{map-Term}
use Rattle.kts_spec.specs.Data.{is_valid}
use Rattle.kts_spec.specs.Domain.{at_each, of_two, term_step}
use Rattle.kts_spec.specs.Ranges.{Range, total_range, difference_range, product_range, least_range, greatest_range, sum_over_range}
use Rattle.kts_spec.specs.Related.{Pairs}
use Rattle.kts_spec.specs.Schemas.{no_family}
use Rattle.kts_spec.specs.Sizes.{Size, all_beside, size_of_term, size_of_formula, term_size}
use Rattle.kts_spec.specs.TypedValues.{InScope}
use Rattle.kts_spec.specs.Typing.{Kind, Whole, MemberOf, whole_of, whole_within, ranges, kind_of_type, are_members, may_bind, kind_of, is_typed, term_kind}
use Rattle.kts_spec.specs.Worlds.{World, size_of, given_of, choice_of}
use Rattle.kts_spec.proofs.Conditions.{schema_facts, instance_facts}
use Rattle.kts_spec.proofs.KindParts.{if_some, then_some, map_some, IsWhole, whole_of_some, whole_within_some, ranges_some, two_wholes_some, kind_of_use_some}
use Rattle.kts_spec.proofs.TermRanges.{range_within}
use Rattle.kts_spec.proofs.TypedAccesses.{few_members}
use Rattle.kts_emit.specs.Fragments.{Fragment, operation}
use Rattle.kts_emit.specs.Codes.{term_code, formula_code}
use Rattle.kts_emit.specs.Codes as codes
use Rattle.kts_emit.specs.Weights.{sequence_weight, term_weight, weight_of_term, weight_of_formula}
use Rattle.kts_emit.proofs.Contexts.{Context}
use Rattle.kts_emit.proofs.Variables.{scope_more}
use Rattle.kts_emit.proofs.Operations.{Makes}
use Rattle.kts_emit.proofs.Accesses.{number_pushes, variable_pushes, given_pushes, choice_pushes}
use Rattle.kts_emit.proofs.Instructions.{two_push, wins, least_makes, greatest_makes, sub_makes, mul_makes}
use Rattle.kts_emit.proofs.Chains.{StepsFit, chain_pushes, FitsSum, window_shown, add_joins, add_starts}
use Rattle.kts_emit.proofs.Binders.{addend, so_far, sum_pushes}
use Rattle.kts_emit.proofs.SumFits.{Reached, reached_none, reached_sum, reached_gated, sum_fitted}
use Rattle.kts_emit.proofs.TypedParts.{few_arguments, AreDeep, all_deep, below, bind_fits}
use Rattle.kts_emit.proofs.Claims.{Over, Part, FormulaPart, bare, terms, kinds, values, weights, sizes, many_codes, many_values, many_kinds, arguments_push, wholes_push, as_whole}

module _ (setup : Setup) (r : Context) (valid : is_valid setup.code.schema setup.inst ≡ true)
    (ranged : ValuesAreRanged setup.code.schema (world_in setup) r.space) where
  abbrev w : World
  w = world_in setup

  abbrev schema : Schema
  schema = setup.code.schema

  abbrev value : Term → List ℕ → Abs
  value = value_in w r.space

  abbrev truth : Formula → List ℕ → Tri
  truth = truth_in w r.space

  few : (i : ℕ) → size_of w i ≤ most_members
  few i = few_members setup.inst.members i (instance_facts schema setup.inst valid).members

  -- the window of a whole number
  pub reached : (t : Term) (scope vars : List ℕ) (v : Range) → InScope w scope vars → kind_of schema t scope ≡ Some (Whole v)
      → Reached 1 (window_of (value t vars))
  reached t scope vars v inside e =
      let i = ranged.whole scope vars inside t v (ap (option_and_then whole_of) e) in
      let b = range_within schema t scope v e in
      let h : Reached 1 i.window = record { low = omega (arith, ints, i.low, b.low); high = omega (arith, ints, i.high, b.high); solid = i.rising } in
      subst (λ (a : Abs). Reached 1 (window_of a)) (sym i.is) h

  -- their sums fit
  wholes_fit : (parts : List (Part setup r)) (ws : List Range) (scope vars : List ℕ) (done : ℕ) (a : Abs) → InScope w scope vars
      → Pairs IsWhole (kinds setup r parts scope) ws → Reached done (window_of a) → done + length parts ≤ most_parts
      → StepsFit setup r (on_windows sum_of) (FitsSum setup r) a (at_each vars (values setup r parts))
  wholes_fit [] ws scope vars done a inside h so_far many = tt
  wholes_fit (p ∷ parts) [] scope vars done a inside h so_far many = absurd h
  wholes_fit (p ∷ parts) (v ∷ ws) scope vars done a inside h so_far many =
      let x = value p.0 vars in
      let more = reached_sum done (window_of a) (window_of x) so_far (reached p.0 scope vars v inside h.0) in (
        sum_fitted (suc done) (sum_of (window_of a) (window_of x)) more (omega arith),
        wholes_fit parts ws scope vars (suc done)
            (on_windows sum_of a x) inside h.1 more (omega arith),
      )

  -- two whole numbers and an instruction
  two_wholes_push : (g : Window → Window → Window) (i : Instr) (parts : List (Part setup r)) (a b : Range) (scope : List ℕ) (most need : ℕ)
      → length scope ≤ most_variables → AreDeep most (sizes setup r parts) → 2 * suc most + 10 ≤ need + length scope
      → Pairs IsWhole (kinds setup r parts scope) (a ∷ b ∷ [])
      → ((vars : List ℕ) → InScope w scope vars
      → Reached 1 (window_of (of_two (on_windows g) (only_of (pos 0)) (at_each vars (values setup r parts)))))
      → ((x y : List ℕ → Window) → ((vars : List ℕ) → InScope w scope vars → fitted (g (x vars) (y vars)) ≡ Some (g (x vars) (y vars)))
      → Makes setup r (i ∷ []) 1 scope (wins setup r x ∷ wins setup r y ∷ []) (λ vars. Win (g (x vars) (y vars))))
      → Over setup r (operation (map term_code (terms setup r parts)) (i ∷ [])) (sequence_weight (weights setup r parts) + 1) need scope
      (λ vars. Win (window_of (of_two (on_windows g) (only_of (pos 0)) (at_each vars (values setup r parts)))))
  two_wholes_push g i [] a b scope most need le deep room h small ends = absurd h
  two_wholes_push g i (p ∷ []) a b scope most need le deep room h small ends = absurd h.1
  two_wholes_push g i (p ∷ (q ∷ [])) a b scope most need le deep room h small ends =
      let u = below need most (length scope) le room in
      let x : List ℕ → Window = λ vars. window_of (value p.0 vars) in
      let y : List ℕ → Window = λ vars. window_of (value q.0 vars) in
      let first = p.1 scope (Whole a) u.inner le h.0 (omega (arith, deep.0, u.room)) in
      let second = q.1 scope (Whole b) u.inner le h.1.0 (omega (arith, deep.1.0, u.room)) in
      two_push setup r (term_code p.0) (term_code q.0) (weight_of_term (size_of w) p.0) (weight_of_term (size_of w) q.0) (wins setup r x)
      (wins setup r y) (λ vars. Win (g (x vars) (y vars))) i u.inner need scope first second
      (ends x y (λ vars inside. sum_fitted 1 (g (x vars) (y vars)) (small vars inside) (omega arith))) (omega (arith, u.fewer))
      (omega (arith, u.fewer))
  two_wholes_push g i (p ∷ (q ∷ (z ∷ parts))) a b scope most need le deep room h small ends = absurd h.1.1

  -- the sum over the first members, and the addend of the next
  added_reached : (i : ℕ) (p : Formula) (a : Term) (scope : List ℕ) (v : Range) → kind_of schema a (scope ++ i ∷ []) ≡ Some (Whole v)
      → (vars : List ℕ) → InScope w scope vars → (m : ℕ) → m ≤ size_of w i
      → Reached m (window_of (so_far setup r i scope (truth p) (λ vars. window_of (value a vars)) vars m))
  added_reached i p a scope v e vars inside zero le = reached_none
  added_reached i p a scope v e vars inside (suc m) le =
      reached_sum m _ _ (added_reached i p a scope v e vars inside m (omega arith))
      (reached_gated (truth p (vars ++ m ∷ [])) (window_of (value a (vars ++ m ∷ [])))
      (reached a (scope ++ i ∷ []) (vars ++ m ∷ []) v (scope_more w scope vars i m inside (omega arith)) e))

  added_fit : (i : ℕ) (p : Formula) (a : Term) (scope : List ℕ) (v : Range) → kind_of schema a (scope ++ i ∷ []) ≡ Some (Whole v) → (vars : List ℕ)
      → InScope w scope vars → (m : ℕ) → m < size_of w i
      → FitsSum setup r (so_far setup r i scope (truth p) (λ vars. window_of (value a vars)) vars m)
      (addend setup r i scope (truth p) (λ vars. window_of (value a vars)) vars m)
  added_fit i p a scope v e vars inside m less =
      sum_fitted (suc m) _ (added_reached i p a scope v e vars inside (suc m) less) (omega (arith, few i))

  -- the meaning, the code and the other measures of a form over those of its parts
  abbrev pub value_at : one.Term-F (FormulaPart setup r) (Part setup r) → List ℕ → Abs
  value_at y = term_step (size_of w) (in_space w r.space) (map-Term Formula Term (List ℕ → Tri) (List ℕ → Abs) truth value (bare setup r y))

  abbrev pub kind_at : one.Term-F (FormulaPart setup r) (Part setup r) → List ℕ → Option Kind
  kind_at y = term_kind schema (map-Term Formula Term (List ℕ → Bool) (List ℕ → Option Kind) (is_typed schema) (kind_of schema) (bare setup r y))

  abbrev pub size_at : one.Term-F (FormulaPart setup r) (Part setup r) → Size
  size_at y = term_size (map-Term Formula Term Size Size size_of_formula size_of_term (bare setup r y))

  abbrev pub code_at : one.Term-F (FormulaPart setup r) (Part setup r) → Fragment
  code_at y = codes.term_step (map-Term Formula Term Fragment Fragment formula_code term_code (bare setup r y))

  abbrev pub weight_at : one.Term-F (FormulaPart setup r) (Part setup r) → ℕ
  weight_at y = term_weight (size_of w) (map-Term Formula Term ℕ ℕ (weight_of_formula (size_of w)) (weight_of_term (size_of w)) (bare setup r y))

  pub term_case : (y : one.Term-F (FormulaPart setup r) (Part setup r)) (scope : List ℕ) (k : Kind) (need : ℕ) → length scope ≤ most_variables
      → kind_at y scope ≡ Some k → 2 * (size_at y).depth + 10 ≤ need + length scope
      → ((v : Range) (vars : List ℕ) → k ≡ Whole v → InScope w scope vars → Reached 1 (window_of (value_at y vars)))
      → Over setup r (code_at y) (weight_at y) need scope (λ vars. operand_of k (value_at y vars))
  term_case (one.Number n) scope k need le e room small =
      let is = whole_within_some (n, n) k e in
      as_whole setup r _ _ _ _ k (n, n) (λ vars. only_of n) is.is (number_pushes setup r n need scope (omega arith))
  term_case (one.Var j) scope k need le e room small =
      let m = map_some MemberOf (slice_get scope j) k e in
      subst (λ l. Over setup r (operation [] (Var j ∷ [])) 1 need scope (λ vars. operand_of l (value_at (one.Var j) vars))) m.2
      (variable_pushes setup r j m.0 need scope m.1 (omega arith))
  term_case (one.Given f args) scope k need le e room small =
      let u = kind_of_use_some (slice_get schema.givens f) (kinds setup r args scope) k e in
      let there : given_of w f ≡ u.family = get_or_from_slice_get schema.givens f u.family no_family u.there in
      let members : are_members (given_of w f).args (kinds setup r args scope) ≡ true =
      subst (λ (family : Family). are_members family.args (kinds setup r args scope) ≡ true) (sym there) u.members in
      let is : kind_of_type (given_of w f).kind ≡ k = subst (λ (family : Family). kind_of_type family.kind ≡ k) (sym there) u.is in
      let two : length (given_of w f).args ≤ most_arguments =
      subst (λ (family : Family). length family.args ≤ most_arguments) (sym there)
      (few_arguments (length schema.indexes) schema.givens f u.family (schema_facts schema).givens u.there) in
      let many = many_values setup r args (given_of w f).args scope members in
      let code = many_codes setup r args in
      let most = (all_beside (sizes setup r args)).depth in
      let b = below need most (length scope) le room in
      let run = arguments_push setup r args (given_of w f).args scope most b.inner le (all_deep (sizes setup r args)) b.room members in
      subst (λ l. Over setup r (operation (map term_code (terms setup r args)) (Given f ∷ [])) (sequence_weight (weights setup r args) + 1) need scope
      (λ vars. operand_of l (value_at (one.Given f args) vars))) is
      (given_pushes setup r f (map term_code (terms setup r args)) (weights setup r args) (values setup r args) b.inner need scope many.0 run
      (omega (arith, many.1, b.fewer)) (omega (arith, b.fewer)))
  term_case (one.Choice x args) scope k need le e room small =
      let u = kind_of_use_some (slice_get schema.choices x) (kinds setup r args scope) k e in
      let there : choice_of w x ≡ u.family = get_or_from_slice_get schema.choices x u.family no_family u.there in
      let members : are_members (choice_of w x).args (kinds setup r args scope) ≡ true =
      subst (λ (family : Family). are_members family.args (kinds setup r args scope) ≡ true) (sym there) u.members in
      let is : kind_of_type (choice_of w x).kind ≡ k = subst (λ (family : Family). kind_of_type family.kind ≡ k) (sym there) u.is in
      let two : length (choice_of w x).args ≤ most_arguments =
      subst (λ (family : Family). length family.args ≤ most_arguments) (sym there)
      (few_arguments (length schema.indexes) schema.choices x u.family (schema_facts schema).choices u.there) in
      let many = many_values setup r args (choice_of w x).args scope members in
      let code = many_codes setup r args in
      let most = (all_beside (sizes setup r args)).depth in
      let b = below need most (length scope) le room in
      let run = arguments_push setup r args (choice_of w x).args scope most b.inner le (all_deep (sizes setup r args)) b.room members in
      subst (λ l. Over setup r (operation (map term_code (terms setup r args)) (Choice x ∷ []))
      (sequence_weight (weights setup r args) + 1) need scope (λ vars. operand_of l (value_at (one.Choice x args) vars))) is
      (choice_pushes setup r x (map term_code (terms setup r args)) (weights setup r args) (values setup r args) b.inner need scope many.0 run
      (omega (arith, many.1, b.fewer)) (omega (arith, b.fewer)))
  term_case (one.Add parts) scope k need le e room small =
      let both = if_some (nat_le 2 (length (map (kind_of schema) (terms setup r parts))) && nat_le
      (length (map (kind_of schema) (terms setup r parts))) most_parts) _ k e in
      let counts = and_parts (nat_le 2 (length (map (kind_of schema) (terms setup r parts))))
      (nat_le (length (map (kind_of schema) (terms setup r parts))) most_parts) both.0 in
      let two = nat_le_yes 2 (length (map (kind_of schema) (terms setup r parts))) counts.0 in
      let most_parts = nat_le_yes (length (map (kind_of schema) (terms setup r parts))) most_parts counts.1 in
      let all = then_some (λ ws. whole_within (total_range ws)) (ranges (kinds setup r parts scope)) k both.1 in
      let is = whole_within_some (total_range all.0) k all.2 in
      let known = ranges_some (kinds setup r parts scope) all.0 all.1 in
      let most = (all_beside (sizes setup r parts)).depth in
      let b = below need most (length scope) le room in
      let run = wholes_push setup r parts all.0 scope most b.inner le (all_deep (sizes setup r parts)) b.room known in
      let many = many_kinds setup r parts in
      let code = many_codes setup r parts in
      as_whole setup r _ _ _ _ k (total_range all.0) (value_at (one.Add parts)) is.is
      (chain_pushes setup r Add refl (on_windows sum_of) (only_of (pos 0)) (window_shown setup r) (FitsSum setup r) (add_joins setup r)
      (add_starts setup r) (map term_code (terms setup r parts)) (weights setup r parts) (values setup r parts) b.inner need scope run
      (λ vars inside. wholes_fit parts all.0 scope vars 0 (only_of (pos 0)) inside known reached_none (omega arith)) (omega arith)
      (omega (arith, b.fewer)))
  term_case (one.Sub parts) scope k need le e room small =
      let t = two_wholes_some difference_range (kinds setup r parts scope) k e in
      as_whole setup r _ _ _ _ k (difference_range t.left t.right) (value_at (one.Sub parts)) t.gives.is
      (two_wholes_push difference_of Sub parts t.left t.right scope (all_beside (sizes setup r parts)).depth need le
      (all_deep (sizes setup r parts)) room t.are (λ vars inside. small (difference_range t.left t.right) vars t.gives.is inside)
      (λ x y fits. sub_makes setup r scope x y fits))
  term_case (one.Mul parts) scope k need le e room small =
      let t = two_wholes_some product_range (kinds setup r parts scope) k e in
      as_whole setup r _ _ _ _ k (product_range t.left t.right) (value_at (one.Mul parts)) t.gives.is
      (two_wholes_push product_of Mul parts t.left t.right scope (all_beside (sizes setup r parts)).depth need le (all_deep (sizes setup r parts)) room t.are
      (λ vars inside. small (product_range t.left t.right) vars t.gives.is inside) (λ x y fits. mul_makes setup r scope x y fits))
  term_case (one.Min parts) scope k need le e room small =
      let t = two_wholes_some least_range (kinds setup r parts scope) k e in
      as_whole setup r _ _ _ _ k (least_range t.left t.right) (value_at (one.Min parts)) t.gives.is
      (two_wholes_push least_of Min parts t.left t.right scope (all_beside (sizes setup r parts)).depth need le (all_deep (sizes setup r parts)) room t.are
      (λ vars inside. small (least_range t.left t.right) vars t.gives.is inside) (λ x y fits. least_makes setup r scope x y))
  term_case (one.Max parts) scope k need le e room small =
      let t = two_wholes_some greatest_range (kinds setup r parts scope) k e in
      as_whole setup r _ _ _ _ k (greatest_range t.left t.right) (value_at (one.Max parts)) t.gives.is
      (two_wholes_push greatest_of Max parts t.left t.right scope (all_beside (sizes setup r parts)).depth need le (all_deep (sizes setup r parts)) room t.are
      (λ vars inside. small (greatest_range t.left t.right) vars t.gives.is inside) (λ x y fits. greatest_makes setup r scope x y))
  term_case (one.Sum i p a) scope k need le e room small =
      let both = if_some (may_bind schema scope (i ∷ []) && is_typed schema p.0 (scope ++ i ∷ [])) _ k e in
      let tests = and_parts (may_bind schema scope (i ∷ [])) (is_typed schema p.0 (scope ++ i ∷ [])) both.0 in
      let fits = bind_fits schema scope (i ∷ []) tests.0 in
      let of = then_some (λ v. whole_within (sum_over_range v)) (option_and_then whole_of (kind_of schema a.0 (scope ++ i ∷ []))) k both.1 in
      let known = whole_of_some (kind_of schema a.0 (scope ++ i ∷ [])) of.0 of.1 in
      let is = whole_within_some (sum_over_range of.0) k of.2 in
      let sp = size_of_formula p.0 in
      let sa = size_of_term a.0 in
      let b = below need (max sp.depth sa.depth) (length scope) le room in
      let long = length-append scope (i ∷ []) in
      let hp = p.1 (scope ++ i ∷ []) b.inner (omega (arith, fits)) tests.1 (omega (arith, b.room)) in
      let ha = a.1 (scope ++ i ∷ []) (Whole of.0) b.inner (omega (arith, fits)) known (omega (arith, b.room)) in
      as_whole setup r _ _ _ _ k (sum_over_range of.0) (value_at (one.Sum i p a)) is.is
      (sum_pushes setup r i scope (truth p.0) (λ vars. window_of (value a.0 vars)) (formula_code p.0) (term_code a.0)
      (weight_of_formula (size_of w) p.0) (weight_of_term (size_of w) a.0) b.inner need hp ha
      (λ vars m inside member. added_fit i p.0 a.0 scope of.0 known vars inside m member) (omega (arith, fits)) b.fewer (omega (arith, b.fewer)))
