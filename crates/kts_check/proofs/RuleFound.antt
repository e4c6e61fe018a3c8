-- What the checker finds in an expression that may be written is what the typing rules say.
use Rattle.std.proofs.Common.{◌≡◌, refl, sym, ◌∙◌, ap, subst, ℕ, ◌+◌, ◌≤◌, ℤ, List, [], ◌∷◌, ◌++◌, length, map, Bool, true, ◌&&◌, None, Some, Ok, Err, arith}
use Rattle.std.specs.Prelude.{◌==◌}
use Rattle.std.proofs.lemmas.Bool.{and_parts}
use Rattle.std.proofs.lemmas.Bool.Decides.{nat_tests}
use Rattle.std.proofs.lemmas.List.{length-map}
use Rattle.kts_base.specs.Reads.{and_then}
use Rattle.kts_spec.specs.Ranges.{one_number, difference_range, product_range, least_range, greatest_range}
use Rattle.kts_spec.specs.Typing.{Whole as WholeOf}
use Rattle.kts_spec.specs.declared.tree.Comparison.TheVariants as comparison
use Rattle.kts_spec.specs.declared.tree.Formula.{Formula}
use Rattle.kts_spec.specs.declared.tree.Formula.TheVariants as formula
use Rattle.kts_spec.specs.declared.tree.Term.TheVariants as term
use Rattle.kts_syntax.specs.Fitting.{has_role, head_fits, is_small as is_small_number, is_empty, is_binder, binder_fits, exprs_fit, parts_fit, expr_fits}
use Rattle.kts_syntax.specs.Heads.{has_parts, layout_of, role_in, layout_after}
use Rattle.kts_syntax.specs.declared.expr.Expr.{Expr, roll-Expr}
use Rattle.kts_syntax.specs.declared.expr.Expr.TheOpen.{Expr-F}
use Rattle.kts_syntax.specs.declared.expr.Expr.TheFolds.{ind-Expr}
use Rattle.kts_syntax.specs.declared.head.Head.{Head}
use Rattle.kts_syntax.specs.declared.head.Head.TheVariants.{Add, Sub, Mul, Min, Max, Sum, Le, Lt, Ge, Gt, Eq, Ne, And, Or, Not, Implies, Forall, Exists, Number, Use}
use Rattle.kts_syntax.specs.declared.layout.Layout.TheVariants.{Terms, Formulas, Summed, Filtered, Quantified}
use Rattle.kts_syntax.specs.declared.layout.Role.{Role}
use Rattle.kts_syntax.specs.declared.layout.Role.TheVariants as role
use Rattle.kts_syntax.specs.declared.word.Word.{Word}
use Rattle.kts_syntax.proofs.Fits.{expr_fits-roll}
use Rattle.kts_check.specs.Faults.{Judged}
use Rattle.kts_check.specs.Declarations.{Declarations, entry_of}
use Rattle.kts_check.specs.Contexts.{operator_context, Context, plain_context, reference_context, bind, context_of}
use Rattle.kts_check.specs.Rules.{Binder, written, Way, past, OfNumbers, OfMembers, HasLimitedEnds, Binds, IsTerm, IsFormula, AreFormulas, no_formula}
use Rattle.kts_check.specs.Scopes.{Scope, variable}
use Rattle.kts_check.specs.Trees.{operator_phrase, phrase_of, phrases_at, with_part, no_phrases, of_wholes, of_members, binder_body, only, sum_phrase, tree_phrase}
use Rattle.kts_check.specs.declared.phrase.Phrases.{Phrases}
use Rattle.kts_check.specs.declared.phrase.Phrase.{Phrase}
use Rattle.kts_check.specs.declared.phrase.Phrase.TheVariants.{Truth}
use Rattle.kts_check.proofs.Inversions.{ok_is, both_ok, some_is, usable_place}
use Rattle.kts_check.proofs.RuleBinders.{after, binds_if}
use Rattle.kts_check.proofs.TreeLemmas.{phrase_of-roll}
use Rattle.kts_check.proofs.RuleParts.{Follows, AreTerms, no_term, by_measure, term_more, formula_more, plus_if, operation_if, use_if, sum_if, comparison_if, and_if, or_if, not_if, implies_if, body_if}

-- the role of expressions with a head
abbrev role_of : Head → Role
role_of Add = role.Term
role_of Sub = role.Term
role_of Mul = role.Term
role_of Min = role.Term
role_of Max = role.Term
role_of Sum = role.Term
role_of (Number n) = role.Term
role_of (Use word) = role.Term
role_of head = role.Formula

role_is : (head : Head) (r : Role) → has_role head r ≡ true → role_of head ≡ r
unfolding has_role
role_is head role.Binder e = absurd cc
role_is Add role.Term e = refl
role_is Sub role.Term e = refl
role_is Mul role.Term e = refl
role_is Min role.Term e = refl
role_is Max role.Term e = refl
role_is Sum role.Term e = refl
role_is (Number n) role.Term e = refl
role_is (Use word) role.Term e = refl
role_is head role.Term e = absurd cc
role_is Add role.Formula e = absurd cc
role_is Sub role.Formula e = absurd cc
role_is Mul role.Formula e = absurd cc
role_is Min role.Formula e = absurd cc
role_is Max role.Formula e = absurd cc
role_is Sum role.Formula e = absurd cc
role_is (Number n) role.Formula e = absurd cc
role_is (Use word) role.Formula e = absurd cc
role_is head role.Formula e = refl

-- no binder stands before parts that are all terms, or all formulas
pub terms_bare : (P : List Binder → Type 0) (bs : List Binder) (fs : List (Role → Bool)) → parts_fit Terms bs fs ≡ true → (exprs_fit Terms fs ≡ true → P []) → P bs
unfolding role_in
terms_bare P [] fs e k = k e
terms_bare P (b ∷ bs) fs e k = absurd cc

pub formulas_bare : (P : List Binder → Type 0) (bs : List Binder) (fs : List (Role → Bool)) → parts_fit Formulas bs fs ≡ true → (exprs_fit Formulas fs ≡ true → P []) → P bs
unfolding role_in
formulas_bare P [] fs e k = k e
formulas_bare P (b ∷ bs) fs e k = absurd cc

-- binders stand before one formula
pub quantified : (bs : List Binder) (fs : List (Role → Bool)) → parts_fit Quantified bs fs ≡ true → exprs_fit Quantified fs ≡ true
unfolding layout_after
quantified [] fs e = e
quantified (b ∷ bs) fs e = quantified bs fs (and_parts (is_binder (role_in Quantified (is_empty bs && is_empty fs)) && binder_fits b) (parts_fit Quantified bs fs) e).1

module _ (d : Declarations) (own : List ℕ) where
  -- what the checker finds in an expression that may have a role follows the rules
  abbrev Claim : Expr → Type 0
  Claim e = (r : Role) (scope : Scope) (way : Way) (s : Phrase) → expr_fits e r ≡ true → phrase_of d own e scope way ≡ Ok s → Follows d own r scope way e s

  abbrev Part : Type 0
  Part = (e : Expr) × Claim e

  abbrev exprs : List Part → List Expr
  exprs ps = map (λ (p : Part). p.0) ps

  abbrev fits : List Part → List (Role → Bool)
  fits ps = map expr_fits (exprs ps)

  terms_said : (ps : List Part) (scope : Scope) (way : Way) (phrases : Phrases) → exprs_fit Terms (fits ps) ≡ true → phrases_at scope way (map (phrase_of d own) (exprs ps)) ≡ Ok phrases → AreTerms d own scope (exprs ps) phrases.terms phrases.kinds
  unfolding phrases_at role_in layout_after
  terms_said [] scope way phrases f e = subst (λ (x : Phrases). AreTerms d own scope [] x.terms x.kinds) (ok_is no_phrases phrases e) no_term
  terms_said (p ∷ ps) scope way phrases f e =
      let fit = and_parts (expr_fits p.0 role.Term) (exprs_fit Terms (fits ps)) f in
      let one = both_ok (phrase_of d own p.0 scope way) _ phrases e in
      let others = both_ok (phrases_at scope way (map (phrase_of d own) (exprs ps))) _ phrases one.2 in
      subst (λ (x : Phrases). AreTerms d own scope (p.0 ∷ exprs ps) x.terms x.kinds) (ok_is (with_part one.0 others.0) phrases others.2)
      (term_more d own scope way p.0 (exprs ps) one.0 others.0 (p.1 role.Term scope way one.0 fit.0 one.1) (terms_said ps scope way others.0 fit.1 others.1))

  formulas_said : (ps : List Part) (scope : Scope) (way : Way) (phrases : Phrases) → exprs_fit Formulas (fits ps) ≡ true → phrases_at scope way (map (phrase_of d own) (exprs ps)) ≡ Ok phrases → AreFormulas d own scope way (exprs ps) phrases.formulas
  unfolding phrases_at role_in layout_after
  formulas_said [] scope way phrases f e = subst (λ (x : Phrases). AreFormulas d own scope way [] x.formulas) (ok_is no_phrases phrases e) no_formula
  formulas_said (p ∷ ps) scope way phrases f e =
      let fit = and_parts (expr_fits p.0 role.Formula) (exprs_fit Formulas (fits ps)) f in
      let one = both_ok (phrase_of d own p.0 scope way) _ phrases e in
      let others = both_ok (phrases_at scope way (map (phrase_of d own) (exprs ps))) _ phrases one.2 in
      subst (λ (x : Phrases). AreFormulas d own scope way (p.0 ∷ exprs ps) x.formulas) (ok_is (with_part one.0 others.0) phrases others.2)
      (formula_more d own scope way p.0 (exprs ps) one.0 others.0 (p.1 role.Formula scope way one.0 fit.0 one.1) (formulas_said ps scope way others.0 fit.1 others.1))

  -- what one part says, and what two say
  pub one_said : (x : Expr) (scope : Scope) (way : Way) (phrases : Phrases) → phrases_at scope way (phrase_of d own x ∷ []) ≡ Ok phrases → (r : Phrase) × (phrase_of d own x scope way ≡ Ok r) × (with_part r no_phrases ≡ phrases)
  unfolding phrases_at
  one_said x scope way phrases e = let one = both_ok (phrase_of d own x scope way) _ phrases e in (one.0, one.1, ok_is (with_part one.0 no_phrases) phrases one.2)

  pub two_said : (x y : Expr) (scope : Scope) (way : Way) (phrases : Phrases) → phrases_at scope way (phrase_of d own x ∷ phrase_of d own y ∷ []) ≡ Ok phrases
      → (r q : Phrase) × (phrase_of d own x scope way ≡ Ok r) × (phrase_of d own y scope way ≡ Ok q) × (with_part r (with_part q no_phrases) ≡ phrases)
  unfolding phrases_at
  two_said x y scope way phrases e =
      let one = both_ok (phrase_of d own x scope way) _ phrases e in
      let others = both_ok (phrases_at scope way (phrase_of d own y ∷ [])) _ phrases one.2 in
      let two = one_said y scope way others.0 others.1 in
      (one.0, two.0, one.1, two.1, ap (with_part one.0) two.2 ∙ ok_is (with_part one.0 others.0) phrases others.2)

  module _ (scope : Scope) (way : Way) (at : ℕ) (s : Phrase) where
    -- what a tree is found to say, by its head, its binders and its parts
    abbrev Found : Head → List Binder → List Expr → Type 0
    Found head bs es = and_then (context_of d.names own head bs (length es == 0) scope way) (λ p. and_then (phrases_at p.scope p.way (map (phrase_of d own) es)) (tree_phrase d at head p)) ≡ Ok s

    terms_of : (ps : List Part) (f : Phrases → Judged Phrase) → exprs_fit Terms (fits ps) ≡ true → and_then (phrases_at scope None (map (phrase_of d own) (exprs ps))) f ≡ Ok s
        → (phrases : Phrases) × AreTerms d own scope (exprs ps) phrases.terms phrases.kinds × (f phrases ≡ Ok s)
    terms_of ps f fit e = let parts = both_ok (phrases_at scope None (map (phrase_of d own) (exprs ps))) f s e in (parts.0, terms_said ps scope None parts.0 fit parts.1, parts.2)

    formulas_of : (inner : Way) (ps : List Part) (f : Phrases → Judged Phrase) → exprs_fit Formulas (fits ps) ≡ true → and_then (phrases_at scope inner (map (phrase_of d own) (exprs ps))) f ≡ Ok s
        → (phrases : Phrases) × AreFormulas d own scope inner (exprs ps) phrases.formulas × (f phrases ≡ Ok s)
    formulas_of inner ps f fit e = let parts = both_ok (phrases_at scope inner (map (phrase_of d own) (exprs ps))) f s e in (parts.0, formulas_said ps scope inner parts.0 fit parts.1, parts.2)

    -- a use
    use_said : (word : Word) (ps : List Part) → exprs_fit Terms (fits ps) ≡ true → Found (Use word) [] (exprs ps) → Follows d own role.Term scope way (written at (Use word) [] (exprs ps)) s
    unfolding context_of tree_phrase operator_context operator_phrase
    use_said word ps fit e =
        let es = exprs ps in
        let in_place = both_ok (reference_context word.at (length es == 0) (variable scope word.name) (entry_of d.names word.name) scope) _ s e in
        let same = usable_place word.at (length es == 0) (variable scope word.name) (entry_of d.names word.name) scope in_place.0 in_place.1 in
        let inner = subst (λ (q : Context). and_then (phrases_at q.scope q.way (map (phrase_of d own) es)) (tree_phrase d at (Use word) q) ≡ Ok s) (sym same) in_place.2 in
        let t = terms_of ps (tree_phrase d at (Use word) (plain_context scope None)) fit inner in
        use_if d own scope way at word es t.0.terms t.0.kinds (variable scope word.name) (entry_of d.names word.name) in_place.0 s refl refl in_place.1 t.1 t.2

    number_said : (bs : List Binder) (n : ℤ) (ps : List Part) → head_fits (Number n) (length bs + length ps) ≡ true → Found (Number n) [] (exprs ps) → Follows d own role.Term scope way (written at (Number n) [] (exprs ps)) s
    unfolding context_of tree_phrase phrases_at head_fits operator_context operator_phrase
    number_said bs n [] fit e =
        by_measure d own scope way (written at (Number n) [] []) at (term.Number n) (Some (one_number n)) s e
        (λ w is within. let same = some_is (one_number n) w is in subst (λ w. IsTerm d own scope (written at (Number n) [] []) (term.Number n) (WholeOf w)) same (IsTerm.number {n = n} at (let here = subst HasLimitedEnds (sym same) within in here.least)))
    number_said bs n (p ∷ ps) fit e =
        let none = and_parts (length bs + length (p ∷ ps) == 0) (is_small_number n) fit in absurd (let h = none.0 in grind (arith, nat_tests))

    -- the place after binders
    bound_of : (inner : Way) (bs : List Binder) (f : Context → Judged Phrase) → and_then (bind d.names own (plain_context scope inner) bs) f ≡ Ok s
        → (variables : Scope) × Binds d own scope inner bs variables × (f (after d own (plain_context scope inner) variables) ≡ Ok s)
    bound_of inner bs f e =
        let p = both_ok (bind d.names own (plain_context scope inner) bs) f s e in
        let b = binds_if d own (plain_context scope inner) bs p.0 p.1 in
        (b.0, b.1, subst (λ (q : Context). f q ≡ Ok s) (sym b.2) p.2)

    sum_parts : (b : Binder) (x y : Part) (variables : Scope) (phrases : Phrases) → Binds d own scope None (b ∷ []) variables → expr_fits x.0 role.Formula ≡ true → expr_fits y.0 role.Term ≡ true
        → phrases_at (scope ++ variables) None (phrase_of d own x.0 ∷ phrase_of d own y.0 ∷ []) ≡ Ok phrases → tree_phrase d at Sum (after d own (plain_context scope None) variables) phrases ≡ Ok s → Follows d own role.Term scope way (written at Sum (b ∷ []) (x.0 ∷ y.0 ∷ [])) s
    unfolding tree_phrase operator_phrase
    sum_parts b x y variables phrases binds f t all e =
        let two = two_said x.0 y.0 (scope ++ variables) None phrases all in
        sum_if d own scope way at b x.0 y.0 variables two.0 two.1 s binds (x.1 role.Formula (scope ++ variables) None two.0 f two.2) (y.1 role.Term (scope ++ variables) None two.1 t two.3)
        (subst (λ (z : Phrases). tree_phrase d at Sum (after d own (plain_context scope None) variables) z ≡ Ok s) (sym two.4) e)

    sum_said : (bs : List Binder) (ps : List Part) → head_fits Sum (length bs + length ps) ≡ true → parts_fit Summed bs (fits ps) ≡ true → Found Sum bs (exprs ps) → Follows d own role.Term scope way (written at Sum bs (exprs ps)) s
    unfolding context_of tree_phrase phrases_at head_fits has_parts role_in layout_after bind sum_phrase only operator_context operator_phrase
    sum_said [] ps n fit e = absurd (none (phrases_at scope None (map (phrase_of d own) (exprs ps))) e)
      where
        none : (r : Judged Phrases) → and_then r (tree_phrase d at Sum (plain_context scope None)) ≡ Ok s → ⊥
        none (Ok phrases) e = cc
        none (Err f) e = cc
    sum_said (b ∷ c ∷ bs) ps n fit e =
        let more = and_parts _ (parts_fit Filtered (c ∷ bs) (fits ps)) fit in absurd (let h = more.1 in cc)
    sum_said (b ∷ []) [] n fit e = absurd cc
    sum_said (b ∷ []) (x ∷ []) n fit e = absurd cc
    sum_said (b ∷ []) (x ∷ y ∷ (z ∷ ps)) n fit e = absurd (grind (arith, nat_tests))
    sum_said (b ∷ []) (x ∷ y ∷ []) n fit e =
        let fitting = and_parts _ (expr_fits x.0 role.Formula && (expr_fits y.0 role.Term && true)) fit in
        let first = and_parts (expr_fits x.0 role.Formula) (expr_fits y.0 role.Term && true) fitting.1 in
        let second = and_parts (expr_fits y.0 role.Term) true first.1 in
        let found = bound_of None (b ∷ []) (λ p. and_then (phrases_at p.scope p.way (map (phrase_of d own) (exprs (x ∷ y ∷ [])))) (tree_phrase d at Sum p)) e in
        let phrases = both_ok (phrases_at (scope ++ found.0) None (map (phrase_of d own) (exprs (x ∷ y ∷ [])))) _ s found.2 in
        sum_parts b x y found.0 phrases.0 found.1 first.0 second.0 phrases.1 phrases.2

    body_said : (inner : Way) (head : Head) (make : List ℕ → Formula → Formula) (bs : List Binder) (ps : List Part) → parts_fit Quantified bs (fits ps) ≡ true
        → ((x : Expr) (p : Formula) (variables : Scope) → Binds d own scope inner bs variables → 1 ≤ length variables → IsFormula d own (scope ++ variables) (past inner (length variables)) x p
        → IsFormula d own scope way (written at head bs (x ∷ [])) (make (map (λ (v : List ℕ × ℕ). v.1) variables) p))
        → and_then (bind d.names own (plain_context scope inner) bs) (λ p. and_then (phrases_at p.scope p.way (map (phrase_of d own) (exprs ps))) (λ phrases. and_then (binder_body at p.indexes phrases.formulas) (λ q. Ok (Truth (make p.indexes q))))) ≡ Ok s
        → Follows d own role.Formula scope way (written at head bs (exprs ps)) s
    unfolding phrases_at role_in binder_body only
    body_said inner head make bs [] fit rule e =
        let found = bound_of inner bs _ e in absurd (none (map (λ (v : List ℕ × ℕ). v.1) found.0) found.2)
      where
        none : (is : List ℕ) → and_then (binder_body at is []) (λ q. Ok (Truth (make is q))) ≡ Ok s → ⊥
        none [] e = cc
        none (i ∷ is) e = cc
    body_said inner head make bs (x ∷ y ∷ ps) fit rule e =
        let found = bound_of inner bs _ e in
        let fitting = and_parts (expr_fits x.0 role.Binder) _ (quantified bs (fits (x ∷ y ∷ ps)) fit) in
        let inside = scope ++ found.0 in
        let phrases = both_ok (phrases_at inside (past inner (length found.0)) (map (phrase_of d own) (exprs (x ∷ y ∷ ps)))) _ s found.2 in
        let one = both_ok (phrase_of d own x.0 inside (past inner (length found.0))) _ phrases.0 phrases.1 in
        absurd (x.1 role.Binder inside (past inner (length found.0)) one.0 fitting.0 one.1)
    body_said inner head make bs (x ∷ []) fit rule e =
        let found = bound_of inner bs _ e in
        let fitting = and_parts (expr_fits x.0 role.Formula) true (quantified bs (fits (x ∷ [])) fit) in
        let inside = scope ++ found.0 in
        let along = past inner (length found.0) in
        let phrases = both_ok (phrases_at inside along (map (phrase_of d own) (exprs (x ∷ [])))) _ s found.2 in
        let one = one_said x.0 inside along phrases.0 phrases.1 in
        let is = map (λ (v : List ℕ × ℕ). v.1) found.0 in
        body_if d own scope way along head at bs x.0 found.0 make one.0 s (λ p some h. rule x.0 p found.0 found.1 some h) (x.1 role.Formula inside along one.0 fitting.0 one.1)
        (subst (λ (z : Phrases). and_then (binder_body at is z.formulas) (λ q. Ok (Truth (make is q))) ≡ Ok s) (sym one.2) phrases.2)

    -- a tree, by its head
    found_by : (head : Head) (bs : List Binder) (ps : List Part) → head_fits head (length bs + length ps) ≡ true → parts_fit (layout_of head) bs (fits ps) ≡ true → Found head bs (exprs ps)
        → Follows d own (role_of head) scope way (written at head bs (exprs ps)) s
    unfolding layout_of context_of tree_phrase of_wholes of_members operator_context operator_phrase
    found_by Add bs ps n fit e =
        terms_bare (λ l. Follows d own role.Term scope way (written at Add l (exprs ps)) s) bs (fits ps) fit
        (λ f. let t = terms_of ps (tree_phrase d at Add (plain_context scope None)) f e in plus_if d own scope way at (exprs ps) t.0.terms t.0.kinds s t.1 t.2)
    found_by Sub bs ps n fit e =
        terms_bare (λ l. Follows d own role.Term scope way (written at Sub l (exprs ps)) s) bs (fits ps) fit
        (λ f. let t = terms_of ps (tree_phrase d at Sub (plain_context scope None)) f e in operation_if d own scope way at Sub term.Sub difference_range (exprs ps) t.0.terms t.0.kinds s (λ a b s t v w h j l. IsTerm.minus at h j l) t.1 t.2)
    found_by Mul bs ps n fit e =
        terms_bare (λ l. Follows d own role.Term scope way (written at Mul l (exprs ps)) s) bs (fits ps) fit
        (λ f. let t = terms_of ps (tree_phrase d at Mul (plain_context scope None)) f e in operation_if d own scope way at Mul term.Mul product_range (exprs ps) t.0.terms t.0.kinds s (λ a b s t v w h j l. IsTerm.times at h j l) t.1 t.2)
    found_by Min bs ps n fit e =
        terms_bare (λ l. Follows d own role.Term scope way (written at Min l (exprs ps)) s) bs (fits ps) fit
        (λ f. let t = terms_of ps (tree_phrase d at Min (plain_context scope None)) f e in operation_if d own scope way at Min term.Min least_range (exprs ps) t.0.terms t.0.kinds s (λ a b s t v w h j l. IsTerm.lesser at h j l) t.1 t.2)
    found_by Max bs ps n fit e =
        terms_bare (λ l. Follows d own role.Term scope way (written at Max l (exprs ps)) s) bs (fits ps) fit
        (λ f. let t = terms_of ps (tree_phrase d at Max (plain_context scope None)) f e in operation_if d own scope way at Max term.Max greatest_range (exprs ps) t.0.terms t.0.kinds s (λ a b s t v w h j l. IsTerm.greater at h j l) t.1 t.2)
    found_by Sum bs ps n fit e = sum_said bs ps n fit e
    found_by Le bs ps n fit e =
        terms_bare (λ l. Follows d own role.Formula scope way (written at Le l (exprs ps)) s) bs (fits ps) fit
        (λ f. let t = terms_of ps (tree_phrase d at Le (plain_context scope None)) f e in comparison_if d own scope way at Le s (λ c is. subst (OfNumbers Le) (some_is comparison.Le c is) OfNumbers.le) (λ c is. absurd cc) t.1 t.2)
    found_by Lt bs ps n fit e =
        terms_bare (λ l. Follows d own role.Formula scope way (written at Lt l (exprs ps)) s) bs (fits ps) fit
        (λ f. let t = terms_of ps (tree_phrase d at Lt (plain_context scope None)) f e in comparison_if d own scope way at Lt s (λ c is. subst (OfNumbers Lt) (some_is comparison.Lt c is) OfNumbers.lt) (λ c is. absurd cc) t.1 t.2)
    found_by Ge bs ps n fit e =
        terms_bare (λ l. Follows d own role.Formula scope way (written at Ge l (exprs ps)) s) bs (fits ps) fit
        (λ f. let t = terms_of ps (tree_phrase d at Ge (plain_context scope None)) f e in comparison_if d own scope way at Ge s (λ c is. subst (OfNumbers Ge) (some_is comparison.Ge c is) OfNumbers.ge) (λ c is. absurd cc) t.1 t.2)
    found_by Gt bs ps n fit e =
        terms_bare (λ l. Follows d own role.Formula scope way (written at Gt l (exprs ps)) s) bs (fits ps) fit
        (λ f. let t = terms_of ps (tree_phrase d at Gt (plain_context scope None)) f e in comparison_if d own scope way at Gt s (λ c is. subst (OfNumbers Gt) (some_is comparison.Gt c is) OfNumbers.gt) (λ c is. absurd cc) t.1 t.2)
    found_by Eq bs ps n fit e =
        terms_bare (λ l. Follows d own role.Formula scope way (written at Eq l (exprs ps)) s) bs (fits ps) fit
        (λ f. let t = terms_of ps (tree_phrase d at Eq (plain_context scope None)) f e in comparison_if d own scope way at Eq s (λ c is. subst (OfNumbers Eq) (some_is comparison.Eq c is) OfNumbers.eq) (λ c is. subst (OfMembers Eq) (some_is comparison.Same c is) OfMembers.eq) t.1 t.2)
    found_by Ne bs ps n fit e =
        terms_bare (λ l. Follows d own role.Formula scope way (written at Ne l (exprs ps)) s) bs (fits ps) fit
        (λ f. let t = terms_of ps (tree_phrase d at Ne (plain_context scope None)) f e in comparison_if d own scope way at Ne s (λ c is. subst (OfNumbers Ne) (some_is comparison.Ne c is) OfNumbers.ne) (λ c is. subst (OfMembers Ne) (some_is comparison.Other c is) OfMembers.ne) t.1 t.2)
    found_by And bs ps n fit e =
        formulas_bare (λ l. Follows d own role.Formula scope way (written at And l (exprs ps)) s) bs (fits ps) fit
        (λ f. let t = formulas_of way ps (tree_phrase d at And (plain_context scope way)) f e in and_if d own scope way at (exprs ps) t.0.formulas s t.1 t.2)
    found_by Or bs ps n fit e =
        formulas_bare (λ l. Follows d own role.Formula scope way (written at Or l (exprs ps)) s) bs (fits ps) fit
        (λ f. let t = formulas_of None ps (tree_phrase d at Or (plain_context scope None)) f e in or_if d own scope way at (exprs ps) t.0.formulas s t.1 t.2)
    found_by Not bs ps n fit e =
        formulas_bare (λ l. Follows d own role.Formula scope way (written at Not l (exprs ps)) s) bs (fits ps) fit
        (λ f. let t = formulas_of None ps (tree_phrase d at Not (plain_context scope None)) f e in not_if d own scope way at s t.1 t.2)
    found_by Implies bs ps n fit e =
        formulas_bare (λ l. Follows d own role.Formula scope way (written at Implies l (exprs ps)) s) bs (fits ps) fit
        (λ f. let t = formulas_of None ps (tree_phrase d at Implies (plain_context scope None)) f e in implies_if d own scope way at s t.1 t.2)
    found_by Forall bs ps n fit e = body_said way Forall formula.Forall bs ps fit (λ x p variables binds some h. IsFormula.for_all at binds some h) e
    found_by Exists bs ps n fit e = body_said None Exists formula.Exists bs ps fit (λ x p variables binds some h. IsFormula.for_some at binds some h) e
    found_by (Number z) bs ps n fit e = terms_bare (λ l. Follows d own role.Term scope way (written at (Number z) l (exprs ps)) s) bs (fits ps) fit (λ f. number_said bs z ps n e)
    found_by (Use word) bs ps n fit e = terms_bare (λ l. Follows d own role.Term scope way (written at (Use word) l (exprs ps)) s) bs (fits ps) fit (λ f. use_said word ps f e)

  -- ---- the induction

  abbrev expr_with : Expr-F Part → Expr-F Expr
  expr_with y = record { at = y.at; head = y.head; binders = y.binders; parts = exprs y.parts }

  step : (y : Expr-F Part) → Claim (roll-Expr (expr_with y))
  step y r scope way s fit e =
      let x = expr_with y in
      let all = and_parts (has_role x.head r && head_fits x.head (length x.binders + length x.parts)) (parts_fit (layout_of x.head) x.binders (map expr_fits x.parts)) (sym (expr_fits-roll x r) ∙ fit) in
      let front = and_parts (has_role x.head r) (head_fits x.head (length x.binders + length x.parts)) all.0 in
      let connective_phrase : head_fits y.head (length y.binders + length y.parts) ≡ true = subst (λ (k : ℕ). head_fits y.head (length y.binders + k) ≡ true) (length-map y.parts (λ (q : Part). q.0)) front.1 in
      subst (λ (r : Role). Follows d own r scope way (roll-Expr x) s) (role_is y.head r front.0)
      (found_by scope way y.at s y.head y.binders y.parts connective_phrase all.1 (sym (phrase_of-roll d own x scope way) ∙ e))

  -- what the checker finds follows the rules
  pub found_if : (e : Expr) → Claim e
  found_if = ind-Expr Claim (λ x y is. subst (λ z. Claim (roll-Expr z)) is (step y))
