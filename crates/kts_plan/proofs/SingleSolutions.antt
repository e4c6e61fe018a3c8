-- In a single space that meets all tasks every clause with a head is true.
use Rattle.std.proofs.Common.{◌≡◌, refl, sym, ap, ◌∙◌, subst, inl, ⊎_elim, ℕ, suc, ℤ, pos, List, [], ◌∷◌, map, Bool, true, false, ◌&&◌, ◌||◌, Some}
use Rattle.std.specs.Prelude.{slice_get}
use Rattle.std.specs.List.{list_all, enumerate_from}
use Rattle.std.proofs.lemmas.Bool.{cases_Bool, true≢false}
use Rattle.kts_spec.specs.declared.instance.Instance.{Instance}
use Rattle.kts_spec.specs.declared.spec.Spec.{Spec}
use Rattle.kts_spec.specs.Meaning.{on_schedule}
use Rattle.kts_spec.specs.Places.{lookup}
use Rattle.kts_spec.specs.Related.{Pairs}
use Rattle.kts_spec.specs.Schedules.{tuples}
use Rattle.kts_spec.specs.Worlds.{World, world_of, size_of}
use Rattle.kts_abs.specs.Demands.{meets}
use Rattle.kts_abs.specs.Spaces.{IsSpace}
use Rattle.kts_abs.specs.Values.{Abs, IsOne}
use Rattle.kts_abs.proofs.Listed.{In, in_each, in_map}
use Rattle.kts_abs.proofs.Raises.{demands_are_met}
use Rattle.kts_clause.specs.declared.clause.Clause.{Clause}
use Rattle.kts_clause.specs.declared.literal.Literal.{Literal}
use Rattle.kts_clause.specs.ClauseFacts.{LiteralFacts}
use Rattle.kts_clause.specs.ClauseTruth.{some_true}
use Rattle.kts_index.specs.TaskOrder.{sizes_of_prefix}
use Rattle.kts_plan.specs.declared.definite.Definite.{Definite}
use Rattle.kts_plan.specs.declared.head.Head.{Head}
use Rattle.kts_plan.specs.Asks.{all_false, bound_in, head_cell, asked, on_cell}
use Rattle.kts_plan.specs.Constraints.{Constraint, constraint_of, constraints_of}
use Rattle.kts_plan.specs.Heads.{all_but, heads_of, heads_of_assertion}
use Rattle.kts_plan.specs.Assertions.{Assertion, AtMostZero, Zero, Alike, Unlike, Opaque, assertion_in}
use Rattle.kts_plan.specs.Plans.{definites_of_literal, definites_of_clause, definites_of, clauses_of_spec, has_no_head, is_residual}
use Rattle.kts_plan.specs.Solutions.{cell_at, asked_is_met, Solves}
use Rattle.kts_plan.proofs.AskedCells.{IsDefinite, constraint_is, clauses_fit, head_cell_is}
use Rattle.kts_plan.proofs.AssertionTruths.{AssertionHolds, AssertionIs, literal_is, bound_on, head_value, IsKept, kept_true}
use Rattle.kts_plan.proofs.HeadKinds.{HeadFits, literal_fits}
use Rattle.kts_plan.proofs.KeptSchedules.{clause_on}
use Rattle.kts_plan.proofs.NumberedItems.{in_numbered, got_in, in_got, all_got, some_split}
use Rattle.kts_plan.proofs.SingleSpaces.{literal_on, false_all, bound_exact, cell_one, meets_fulfils}
use Rattle.kts_plan.proofs.Tuples.{at_over, tuple_task, zero_plus}

-- what is true where a literal says what holds, unless it is opaque
holding_true : (w : World) (ns : List ℤ) (vars : List ℕ) (f : Assertion) (h : Head) (b : Bool) → In h (heads_of_assertion f) → AssertionIs w ns vars f b → AssertionHolds w ns vars f → b ≡ true
holding_true w ns vars (AtMostZero xs) h b i f e = f.1 e
holding_true w ns vars (Zero xs) h b i f e = f.1 e
holding_true w ns vars (Alike x y) h b i f e = f.1 e
holding_true w ns vars (Unlike x y) h b i f e = f.1 e
holding_true w ns vars Opaque h b i f e = absurd i

-- a literal with a head, in a clause that is not residual
pub record HasHead (c : Clause) : Type 0 where
  pub number : ℕ
  pub literal : Literal
  pub at : slice_get c.literals number ≡ Some literal
  pub head : Head
  pub is : In head (heads_of literal)

first_head : (heads : List Head) → has_no_head heads ≡ false → (h : Head) × In h heads
first_head [] e = absurd (true≢false e)
first_head (h ∷ heads) e = (h, inl refl)

literal_with_head : (ls : List Literal) → list_all (λ (l : Literal). has_no_head (heads_of l)) ls ≡ false → (i : ℕ) × (l : Literal) × (slice_get ls i ≡ Some l) × (has_no_head (heads_of l) ≡ false)
literal_with_head [] e = absurd (true≢false e)
literal_with_head (l ∷ ls) e =
    ⊎_elim
    (λ (h : has_no_head (heads_of l) ≡ true). let r = literal_with_head ls (sym (ap (λ b. b && list_all (λ (l : Literal). has_no_head (heads_of l)) ls) h) ∙ e) in (suc r.0, r.1, r.2, r.3))
    (λ (h : has_no_head (heads_of l) ≡ false). (0, l, refl, h))
    (cases_Bool (has_no_head (heads_of l)))

pub headed : (c : Clause) → is_residual c ≡ false → HasHead c
headed c e =
    let r = literal_with_head c.literals e in
    let h = first_head (heads_of r.1) r.3 in
    record { number = r.0; literal = r.1; at = r.2; head = h.0; is = h.1 }

-- each head of each literal of a clause is a definite constraint
definite_at : (clauses : List Clause) (j l : ℕ) (c : Clause) (literal : Literal) (h : Head) → slice_get clauses j ≡ Some c → slice_get c.literals l ≡ Some literal → In h (heads_of literal)
    → In (record { clause = j; literal = l; head = h }) (definites_of clauses)
definite_at clauses j l c literal h e f i =
    let d : Definite = record { clause = j; literal = l; head = h } in
    in_each definites_of_clause (j, c) d (enumerate_from 0 clauses) (subst (λ n. In (n, c) (enumerate_from 0 clauses)) (zero_plus j) (in_numbered 0 clauses j c e))
    (in_each (definites_of_literal j) (l, literal) d (enumerate_from 0 c.literals) (subst (λ n. In (n, literal) (enumerate_from 0 c.literals)) (zero_plus l) (in_numbered 0 c.literals l literal f))
    (in_map (λ (h : Head). let d : Definite = record { clause = j; literal = l; head = h } in d) h (heads_of literal) i))

-- a constraint by its number
constraint_at : (clauses : List Clause) (d : Definite) → In d (definites_of clauses) → (k : ℕ) × (slice_get (constraints_of clauses) k ≡ Some (constraint_of clauses d))
constraint_at clauses d i =
    let g = in_got (constraints_of clauses) (constraint_of clauses d) (in_map (constraint_of clauses) d (definites_of clauses) i) in
    (g.0, g.1)

module _ (spec : Spec) (inst : Instance) where
  abbrev world : World
  world = world_of spec.schema inst

  abbrev clauses : List Clause
  clauses = clauses_of_spec spec

  -- heads of typed literals name cells
  abbrev pub CellsAreThere : Type 0
  CellsAreThere = (scope tuple : List ℕ) (h : Head) → HeadFits spec.schema scope h → In tuple (tuples (sizes_of_prefix world scope)) → (c : ℕ) × (head_cell world tuple h ≡ Some c)

  module _ (ns : List ℤ) (t : List Abs) (one : Pairs IsOne ns t) (space : IsSpace world t) (solves : Solves world clauses t) (there : CellsAreThere) where
    asked_kept : (scope tuple : List ℕ) (h : Head) (c : ℕ) (b : Bool) → HeadFits spec.schema scope h → head_cell world tuple h ≡ Some c → b ≡ true
        → asked_is_met (asked b (head_cell world tuple h) (h.op, bound_in world t tuple h.bound)) t ≡ true → IsKept world ns tuple h
    asked_kept scope tuple h c b fits e f met =
        let m : meets (h.op, bound_in world t tuple h.bound) (cell_at t c) ≡ true =
        sym (ap (λ b. asked_is_met (asked b (head_cell world tuple h) (h.op, bound_in world t tuple h.bound)) t) f ∙ ap (λ o. asked_is_met (on_cell o (h.op, bound_in world t tuple h.bound)) t) e) ∙ met in
        let is = head_cell_is spec.schema inst scope tuple h t c fits space e in
        let value : IsOne (head_value world ns tuple h) (cell_at t c) = subst (λ o. IsOne (lookup ns o (pos 0)) (cell_at t c)) (sym e) (cell_one ns t c one is.inside) in
        meets_fulfils h.op (bound_on world ns tuple h.bound) (head_value world ns tuple h) (bound_in world t tuple h.bound) (cell_at t c) (bound_exact world ns t one tuple h.bound) value ((demands_are_met h.op (bound_in world t tuple h.bound) (cell_at t c) is.suits).test.0 m)

    -- where the other literals of a clause are false, its heads are kept
    heads_kept : (j : ℕ) (c : Clause) (l : ℕ) (literal : Literal) (tuple : List ℕ) → slice_get clauses j ≡ Some c → slice_get c.literals l ≡ Some literal → In tuple (tuples (sizes_of_prefix world c.prefix))
        → some_true (size_of world) (on_schedule world ns) (all_but l c.literals) tuple ≡ false → (g : Head) → In g (heads_of literal) → IsKept world ns tuple g
    heads_kept j c l literal tuple e f inside others g i =
        let d : Definite = record { clause = j; literal = l; head = g } in
        let held = definite_at clauses j l c literal g e f i in
        let k = constraint_at clauses d held in
        let at : IsDefinite clauses d = record { clause = c; there = e; literal = literal; at = f; head = i } in
        let k2 : Constraint = record { prefix = c.prefix; others = all_but l c.literals; head = g } in
        let same : constraint_of clauses d ≡ k2 = constraint_is clauses d at in
        let task = tuple_task world clauses k.0 k2 tuple (k.1 ∙ ap (λ z. Some z) same) inside in
        let met = sym (ap (λ o. asked_is_met o t) (task.asks t)) ∙ solves task.number in
        let typed = (all_got (LiteralFacts spec.schema c.prefix) c.literals l literal (clauses_fit spec c (got_in clauses j c e)).literals f).typed in
        let fits = literal_fits spec.schema c.prefix literal typed g i in
        let cell = there c.prefix tuple g fits inside in
        asked_kept c.prefix tuple g cell.0 (all_false world t tuple (all_but l c.literals)) fits cell.1 (false_all world ns t one tuple (all_but l c.literals) others) met

    or_left : (a b : Bool) → b ≡ true → (a || b) ≡ true
    or_left true b e = refl
    or_left false b e = e

    or_first : (a b : Bool) → a ≡ true → (a || b) ≡ true
    or_first true b e = refl
    or_first false b e = absurd (true≢false (sym e))

    clause_at_tuple : (j : ℕ) (c : Clause) → slice_get clauses j ≡ Some c → (h : HasHead c) → (tuple : List ℕ) → In tuple (tuples (sizes_of_prefix world c.prefix)) → some_true (size_of world) (on_schedule world ns) c.literals tuple ≡ true
    clause_at_tuple j c e h tuple inside =
        let others = some_true (size_of world) (on_schedule world ns) (all_but h.number c.literals) tuple in
        some_split (literal_on world ns t one tuple) c.literals h.number h.literal h.at
        ∙ ⊎_elim
        (λ (o : others ≡ true). or_left (literal_on world ns t one tuple h.literal) others o)
        (λ (o : others ≡ false).
        let typed = (all_got (LiteralFacts spec.schema c.prefix) c.literals h.number h.literal (clauses_fit spec c (got_in clauses j c e)).literals h.at).typed in
        let kept = kept_true world ns tuple (assertion_in h.literal) h.head h.is (heads_kept j c h.number h.literal tuple e h.at inside o) in
        or_first (literal_on world ns t one tuple h.literal) others
        (holding_true world ns tuple (assertion_in h.literal) h.head (literal_on world ns t one tuple h.literal) h.is (literal_is world ns tuple spec.schema c.prefix h.literal typed) kept))
        (cases_Bool others)

    pub clause_true : (c : Clause) → In c clauses → is_residual c ≡ false → clause_on world ns c ≡ true
    clause_true c i e =
        let j = in_got clauses c i in
        at_over (map (size_of world) c.prefix) (some_true (size_of world) (on_schedule world ns) c.literals) (clause_at_tuple j.0 c j.1 (headed c e))
