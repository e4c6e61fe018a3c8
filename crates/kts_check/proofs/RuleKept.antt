-- The checker accepts what is well typed by the typing rules, and gives what they say it means.
use Rattle.std.proofs.Common.{◌≡◌, refl, sym, ◌∙◌, ap, ℕ, suc, ◌≤◌, ℤ, pos, List, [], ◌∷◌, ◌++◌, length, fold, map, true, false, None, Some, Ok, nat_eq, nat_le, slice_get, arith}
use Rattle.std.specs.Prelude.{◌==◌}
use Rattle.std.proofs.lemmas.Bool.{and_from}
use Rattle.std.proofs.lemmas.Bool.Decides.{nat_tests}
use Rattle.std.proofs.lemmas.List.{length-map}
use Rattle.kts_base.specs.Names.{is_between}
use Rattle.kts_spec.specs.Ranges.{Range, one_number, sum_range, total_range, difference_range, product_range, least_range, greatest_range, sum_over_range}
use Rattle.kts_spec.specs.Typing.{Kind as KindOf, Whole as WholeOf, kind_of_type}
use Rattle.kts_spec.specs.declared.declarations.Family.{Family}
use Rattle.kts_base.specs.Limits.{most_parts}
use Rattle.kts_spec.specs.declared.tree.Comparison.{Comparison}
use Rattle.kts_spec.specs.declared.tree.Formula.{Formula}
use Rattle.kts_spec.specs.declared.tree.Formula.TheVariants as formula
use Rattle.kts_spec.specs.declared.tree.Term.{Term}
use Rattle.kts_spec.specs.declared.tree.Term.TheVariants as term
use Rattle.kts_syntax.specs.declared.expr.Expr.{Expr}
use Rattle.kts_syntax.specs.declared.head.Head.{Head}
use Rattle.kts_syntax.specs.declared.head.Head.TheVariants.{Add, Sub, Mul, Min, Max, Sum, Le, Lt, Ge, Gt, Eq, Ne, And, Or, Not, Implies, Forall, Exists, Number, Use}
use Rattle.kts_syntax.specs.declared.word.Word.{Word}
use Rattle.kts_check.specs.Faults.{Judged}
use Rattle.kts_check.specs.Declarations.{Declarations}
use Rattle.kts_check.specs.Measures.{limited_term, total, total_from, two_wholes, range_of_sum, are_members}
use Rattle.kts_check.specs.Contexts.{operator_context, reference, Context, plain_context, reference_context, context_of}
use Rattle.kts_check.specs.Rules.{Binder, written, Declares, IsVariable, IsNoVariable, Way, past, IsLimited, HasLimitedEnds, OfNumbers, OfMembers, Binds, IsTerm, AreMembers, AreWhole, IsFormula, AreFormulas, no_argument, argument, no_part, part, no_formula, one_formula}
use Rattle.kts_check.specs.Scopes.{Scope, variable}
use Rattle.kts_check.specs.Trees.{operator_phrase, reference_phrase, phrase_of, phrases_at, with_part, no_phrases, access_phrase, of_wholes, of_members, comparison_of, addition_phrase, connective_phrase, only, both, comparison_phrase, sum_phrase, negation_phrase, implication_phrase, binder_body, reference_of, tree_phrase}
use Rattle.kts_check.specs.declared.entry.Entry.TheVariants as entry
use Rattle.kts_check.specs.declared.kind.Kind.{Kind}
use Rattle.kts_check.specs.declared.kind.Kind.TheVariants.{Whole, Member}
use Rattle.kts_check.specs.declared.phrase.Phrases.{Phrases}
use Rattle.kts_check.specs.declared.phrase.Phrase.{Phrase}
use Rattle.kts_check.specs.declared.phrase.Phrase.TheVariants.{Value, Truth}
use Rattle.kts_check.proofs.Inversions.{ok}
use Rattle.kts_check.proofs.RuleBinders.{after, binds_then}
use Rattle.kts_check.proofs.RuleTests.{within_then, variable_then, unbound_then, kind_back, type_back}
use Rattle.kts_check.proofs.RuleParts.{as_many_formulas}
use Rattle.kts_check.proofs.TreeLemmas.{phrase_of-roll}

-- a term and its kind, as the checker gives them
abbrev valued : Term → Kind → Judged Phrase
valued t k = Ok (Value t k)

abbrev formula_declaration : Formula → Judged Phrase
formula_declaration p = Ok (Truth p)

-- whole numbers in these ranges
abbrev wholes : List Range → List Kind
wholes ws = map (λ (w : Range). Whole w.0 w.1) ws

-- members of these indexes
abbrev members : List ℕ → List Kind
members is = map Member is

-- what terms say, and what formulas say
abbrev of_terms : List Term → List Kind → Judged Phrases
of_terms ts ks = Ok (record { terms = ts; kinds = ks; formulas = [] })

abbrev of_formulas : List Formula → Judged Phrases
of_formulas ps = Ok (record { terms = []; kinds = []; formulas = ps })

measured_then : (at : ℕ) (t : Term) (w : Range) → HasLimitedEnds w → limited_term at t (Some w) ≡ valued t (Whole w.0 w.1)
measured_then at t w h = rw (within_then w h) refl

total_then : (r : Range) (ws : List Range) → total_from r (wholes ws) ≡ Some (fold sum_range r ws)
total_then r [] = refl
total_then r (w ∷ ws) = total_then (sum_range r w) ws

members_then : (is : List ℕ) → are_members is (members is) ≡ true
unfolding are_members
members_then [] = refl
members_then (i ∷ is) = and_from (nat_eq i i) (are_members is (members is)) (grind (arith, nat_tests)) (members_then is)

between_then : (n : ℕ) → 2 ≤ n → n ≤ most_parts → is_between 2 most_parts n ≡ true
between_then n low high = and_from (nat_le 2 n) (nat_le n most_parts) (grind (arith, nat_tests)) (grind (arith, nat_tests))

no_members : (is : List ℕ) → length (members is) ≡ length is
no_members is = length-map is Member

accessed_then : (at : ℕ) (t : Term) (family : Family) → access_phrase at t (Some family) (members family.args) ≡ valued t (kind_back (kind_of_type family.kind))
unfolding access_phrase
accessed_then at t family =
    let size : (length (members family.args) == length family.args) ≡ true = (let n = no_members family.args in grind (arith, nat_tests)) in
    rw (size, members_then family.args) (ap (valued t) (sym (type_back family.kind)))

module _ (d : Declarations) (own : List ℕ) where
  -- what a tree says, where its parts stand and what they say
  abbrev Says : Scope → Way → Expr → Phrase → Type 0
  Says scope way e s = phrase_of d own e scope way ≡ ok s

  abbrev AllSay : Scope → Way → List Expr → Judged Phrases → Type 0
  AllSay scope way es phrases = phrases_at scope way (map (phrase_of d own) es) ≡ phrases

  one_says : (scope : Scope) (way : Way) (e : Expr) (s : Phrase) (es : List Expr) (phrases : Phrases) → Says scope way e s → AllSay scope way es (ok phrases) → AllSay scope way (e ∷ es) (ok (with_part s phrases))
  unfolding phrases_at
  one_says scope way e s es phrases h more = rw (h, more) refl

  none_says : (scope : Scope) (way : Way) → AllSay scope way [] (ok no_phrases)
  unfolding phrases_at
  none_says scope way = refl

  -- a tree with a head, whose parts stand at a place and say something
  tree_says : (scope : Scope) (way : Way) (at : ℕ) (head : Head) (bs : List Binder) (es : List Expr) (p : Context) (phrases : Phrases)
      → context_of d.names own head bs (length es == 0) scope way ≡ ok p → AllSay p.scope p.way es (ok phrases) → phrase_of d own (written at head bs es) scope way ≡ tree_phrase d at head p phrases
  tree_says scope way at head bs es p phrases e h = phrase_of-roll d own (record { at = at; head = head; binders = bs; parts = es }) scope way ∙ rw (e, h) refl

  module _ (scope : Scope) (way : Way) (at : ℕ) where
    number_says : (n : ℤ) → IsLimited n → Says scope way (written at (Number n) [] []) (Value (term.Number n) (Whole n n))
    unfolding context_of tree_phrase operator_context operator_phrase
    number_says n small =
        tree_says scope way at (Number n) [] [] (plain_context scope None) no_phrases refl (none_says scope None) ∙ measured_then at (term.Number n) (one_number n) (record { least = small; greatest = small })

    variable_says : (word : Word) (k i : ℕ) → IsVariable scope word.name k i → Says scope way (written at (Use word) [] []) (Value (term.Var k) (Member i))
    unfolding context_of tree_phrase reference_context reference_of reference reference_phrase operator_context operator_phrase
    variable_says word k i is =
        let v : variable scope word.name ≡ Some (k, i) = variable_then is 0 ∙ ap (λ (n : ℕ). Some (n, i)) (omega arith) in
        let inside : context_of d.names own (Use word) [] true scope way ≡ ok (plain_context scope None) = rw v refl in
        tree_says scope way at (Use word) [] [] (plain_context scope None) no_phrases inside (none_says scope None) ∙ rw v refl

    given_says : (word : Word) (f : ℕ) (family : Family) (args : List Expr) (ts : List Term) → IsNoVariable scope word.name → Declares d word.name (entry.Given f) → slice_get d.givens f ≡ Some family
        → AllSay scope None args (of_terms ts (members family.args)) → Says scope way (written at (Use word) [] args) (Value (term.Given f ts) (kind_back (kind_of_type family.kind)))
    unfolding context_of tree_phrase reference_context reference_of reference reference_phrase operator_context operator_phrase
    given_says word f family args ts none n found all =
        let v : variable scope word.name ≡ None = unbound_then scope word.name 0 none in
        let inside : context_of d.names own (Use word) [] (length args == 0) scope way ≡ ok (plain_context scope None) = rw (v, n) refl in
        tree_says scope way at (Use word) [] args (plain_context scope None) (record { terms = ts; kinds = members family.args; formulas = [] }) inside all
        ∙ rw (v, n, found) (accessed_then at (term.Given f ts) family)

    choice_says : (word : Word) (x : ℕ) (family : Family) (args : List Expr) (ts : List Term) → IsNoVariable scope word.name → Declares d word.name (entry.Choice x) → slice_get d.choices x ≡ Some family
        → AllSay scope None args (of_terms ts (members family.args)) → Says scope way (written at (Use word) [] args) (Value (term.Choice x ts) (kind_back (kind_of_type family.kind)))
    unfolding context_of tree_phrase reference_context reference_of reference reference_phrase operator_context operator_phrase
    choice_says word x family args ts none n found all =
        let v : variable scope word.name ≡ None = unbound_then scope word.name 0 none in
        let inside : context_of d.names own (Use word) [] (length args == 0) scope way ≡ ok (plain_context scope None) = rw (v, n) refl in
        tree_says scope way at (Use word) [] args (plain_context scope None) (record { terms = ts; kinds = members family.args; formulas = [] }) inside all
        ∙ rw (v, n, found) (accessed_then at (term.Choice x ts) family)

    plus_says : (es : List Expr) (ts : List Term) (ws : List Range) → AllSay scope None es (of_terms ts (wholes ws)) → length ts ≡ length es → 2 ≤ length es → length es ≤ most_parts → HasLimitedEnds (total_range ws)
        → Says scope way (written at Add [] es) (Value (term.Add ts) (kind_back (WholeOf (total_range ws))))
    unfolding context_of tree_phrase addition_phrase total operator_context operator_phrase
    plus_says es ts ws all size low high within =
        let count : is_between 2 most_parts (length ts) ≡ true = between_then (length ts) (omega arith) (omega arith) in
        tree_says scope way at Add [] es (plain_context scope None) (record { terms = ts; kinds = wholes ws; formulas = [] }) refl all
        ∙ rw (count, total_then (pos 0, pos 0) ws) (measured_then at (term.Add ts) (total_range ws) within)

    two_says : (a b : Expr) (s t : Term) (k l : Kind) → Says scope None a (Value s k) → Says scope None b (Value t l) → AllSay scope None (a ∷ b ∷ []) (of_terms (s ∷ t ∷ []) (k ∷ l ∷ []))
    two_says a b s t k l h j =
        one_says scope None a (Value s k) (b ∷ []) (record { terms = t ∷ []; kinds = l ∷ []; formulas = [] }) h (one_says scope None b (Value t l) [] no_phrases j (none_says scope None))

    minus_says : (a b : Expr) (s t : Term) (v w : Range) → Says scope None a (Value s (Whole v.0 v.1)) → Says scope None b (Value t (Whole w.0 w.1)) → HasLimitedEnds (difference_range v w)
        → Says scope way (written at Sub [] (a ∷ b ∷ [])) (Value (term.Sub (s ∷ t ∷ [])) (kind_back (WholeOf (difference_range v w))))
    unfolding context_of tree_phrase two_wholes operator_context operator_phrase
    minus_says a b s t v w h j within =
        tree_says scope way at Sub [] (a ∷ b ∷ []) (plain_context scope None) (record { terms = s ∷ t ∷ []; kinds = Whole v.0 v.1 ∷ Whole w.0 w.1 ∷ []; formulas = [] }) refl (two_says a b s t (Whole v.0 v.1) (Whole w.0 w.1) h j)
        ∙ measured_then at (term.Sub (s ∷ t ∷ [])) (difference_range v w) within

    times_says : (a b : Expr) (s t : Term) (v w : Range) → Says scope None a (Value s (Whole v.0 v.1)) → Says scope None b (Value t (Whole w.0 w.1)) → HasLimitedEnds (product_range v w)
        → Says scope way (written at Mul [] (a ∷ b ∷ [])) (Value (term.Mul (s ∷ t ∷ [])) (kind_back (WholeOf (product_range v w))))
    unfolding context_of tree_phrase two_wholes operator_context operator_phrase
    times_says a b s t v w h j within =
        tree_says scope way at Mul [] (a ∷ b ∷ []) (plain_context scope None) (record { terms = s ∷ t ∷ []; kinds = Whole v.0 v.1 ∷ Whole w.0 w.1 ∷ []; formulas = [] }) refl (two_says a b s t (Whole v.0 v.1) (Whole w.0 w.1) h j)
        ∙ measured_then at (term.Mul (s ∷ t ∷ [])) (product_range v w) within

    lesser_says : (a b : Expr) (s t : Term) (v w : Range) → Says scope None a (Value s (Whole v.0 v.1)) → Says scope None b (Value t (Whole w.0 w.1)) → HasLimitedEnds (least_range v w)
        → Says scope way (written at Min [] (a ∷ b ∷ [])) (Value (term.Min (s ∷ t ∷ [])) (kind_back (WholeOf (least_range v w))))
    unfolding context_of tree_phrase two_wholes operator_context operator_phrase
    lesser_says a b s t v w h j within =
        tree_says scope way at Min [] (a ∷ b ∷ []) (plain_context scope None) (record { terms = s ∷ t ∷ []; kinds = Whole v.0 v.1 ∷ Whole w.0 w.1 ∷ []; formulas = [] }) refl (two_says a b s t (Whole v.0 v.1) (Whole w.0 w.1) h j)
        ∙ measured_then at (term.Min (s ∷ t ∷ [])) (least_range v w) within

    greater_says : (a b : Expr) (s t : Term) (v w : Range) → Says scope None a (Value s (Whole v.0 v.1)) → Says scope None b (Value t (Whole w.0 w.1)) → HasLimitedEnds (greatest_range v w)
        → Says scope way (written at Max [] (a ∷ b ∷ [])) (Value (term.Max (s ∷ t ∷ [])) (kind_back (WholeOf (greatest_range v w))))
    unfolding context_of tree_phrase two_wholes operator_context operator_phrase
    greater_says a b s t v w h j within =
        tree_says scope way at Max [] (a ∷ b ∷ []) (plain_context scope None) (record { terms = s ∷ t ∷ []; kinds = Whole v.0 v.1 ∷ Whole w.0 w.1 ∷ []; formulas = [] }) refl (two_says a b s t (Whole v.0 v.1) (Whole w.0 w.1) h j)
        ∙ measured_then at (term.Max (s ∷ t ∷ [])) (greatest_range v w) within

    sum_says : (b : Binder) (name : List ℕ) (i : ℕ) (x y : Expr) (p : Formula) (t : Term) (w : Range) → Binds d own scope None (b ∷ []) ((name, i) ∷ [])
        → Says (scope ++ (name, i) ∷ []) None x (Truth p) → Says (scope ++ (name, i) ∷ []) None y (Value t (Whole w.0 w.1)) → HasLimitedEnds (sum_over_range w)
        → Says scope way (written at Sum (b ∷ []) (x ∷ y ∷ [])) (Value (term.Sum i p t) (kind_back (WholeOf (sum_over_range w))))
    unfolding context_of tree_phrase sum_phrase only range_of_sum operator_context operator_phrase
    sum_says b name i x y p t w binds h j within =
        let inside = scope ++ (name, i) ∷ [] in
        let all : AllSay inside None (x ∷ y ∷ []) (ok (record { terms = t ∷ []; kinds = Whole w.0 w.1 ∷ []; formulas = p ∷ [] })) =
        one_says inside None x (Truth p) (y ∷ []) (record { terms = t ∷ []; kinds = Whole w.0 w.1 ∷ []; formulas = [] }) h (one_says inside None y (Value t (Whole w.0 w.1)) [] no_phrases j (none_says inside None)) in
        tree_says scope way at Sum (b ∷ []) (x ∷ y ∷ []) (after d own (plain_context scope None) ((name, i) ∷ [])) (record { terms = t ∷ []; kinds = Whole w.0 w.1 ∷ []; formulas = p ∷ [] }) (binds_then d own binds []) all
        ∙ measured_then at (term.Sum i p t) (sum_over_range w) within

    compare_says : (head : Head) (a b : Expr) (s t : Term) (k l : Kind) (c : Comparison) → context_of d.names own head [] false scope way ≡ ok (plain_context scope None)
        → tree_phrase d at head (plain_context scope None) (record { terms = s ∷ t ∷ []; kinds = k ∷ l ∷ []; formulas = [] }) ≡ comparison_phrase at head (s ∷ t ∷ []) (k ∷ l ∷ []) → comparison_of head k l ≡ Some c
        → Says scope None a (Value s k) → Says scope None b (Value t l) → Says scope way (written at head [] (a ∷ b ∷ [])) (Truth (formula.Compare c s t))
    unfolding comparison_phrase both
    compare_says head a b s t k l c inside made is h j =
        tree_says scope way at head [] (a ∷ b ∷ []) (plain_context scope None) (record { terms = s ∷ t ∷ []; kinds = k ∷ l ∷ []; formulas = [] }) inside (two_says a b s t k l h j) ∙ made ∙ rw is refl

    numbers_say : {head : Head} {c : Comparison} → OfNumbers head c → (a b : Expr) (s t : Term) (v w : Range) → Says scope None a (Value s (Whole v.0 v.1)) → Says scope None b (Value t (Whole w.0 w.1))
        → Says scope way (written at head [] (a ∷ b ∷ [])) (Truth (formula.Compare c s t))
    unfolding context_of tree_phrase comparison_of of_wholes operator_context operator_phrase
    numbers_say OfNumbers.le a b s t v w h j = compare_says Le a b s t (Whole v.0 v.1) (Whole w.0 w.1) _ refl refl refl h j
    numbers_say OfNumbers.lt a b s t v w h j = compare_says Lt a b s t (Whole v.0 v.1) (Whole w.0 w.1) _ refl refl refl h j
    numbers_say OfNumbers.ge a b s t v w h j = compare_says Ge a b s t (Whole v.0 v.1) (Whole w.0 w.1) _ refl refl refl h j
    numbers_say OfNumbers.gt a b s t v w h j = compare_says Gt a b s t (Whole v.0 v.1) (Whole w.0 w.1) _ refl refl refl h j
    numbers_say OfNumbers.eq a b s t v w h j = compare_says Eq a b s t (Whole v.0 v.1) (Whole w.0 w.1) _ refl refl refl h j
    numbers_say OfNumbers.ne a b s t v w h j = compare_says Ne a b s t (Whole v.0 v.1) (Whole w.0 w.1) _ refl refl refl h j

    members_say : {head : Head} {c : Comparison} → OfMembers head c → (a b : Expr) (s t : Term) (i : ℕ) → Says scope None a (Value s (Member i)) → Says scope None b (Value t (Member i))
        → Says scope way (written at head [] (a ∷ b ∷ [])) (Truth (formula.Compare c s t))
    unfolding context_of tree_phrase comparison_of of_members operator_context operator_phrase
    members_say OfMembers.eq a b s t i h j =
        let same : nat_eq i i ≡ true = grind (arith, nat_tests) in compare_says Eq a b s t (Member i) (Member i) _ refl refl (rw same refl) h j
    members_say OfMembers.ne a b s t i h j =
        let same : nat_eq i i ≡ true = grind (arith, nat_tests) in compare_says Ne a b s t (Member i) (Member i) _ refl refl (rw same refl) h j

    and_says : (es : List Expr) (ps : List Formula) → AllSay scope way es (of_formulas ps) → length ps ≡ length es → 2 ≤ length es → Says scope way (written at And [] es) (Truth (formula.And ps))
    unfolding context_of tree_phrase connective_phrase operator_context operator_phrase
    and_says es ps all size low =
        let count : nat_le 2 (length ps) ≡ true = grind (arith, nat_tests) in
        tree_says scope way at And [] es (plain_context scope way) (record { terms = []; kinds = []; formulas = ps }) refl all ∙ rw count refl

    or_says : (es : List Expr) (ps : List Formula) → AllSay scope None es (of_formulas ps) → length ps ≡ length es → 2 ≤ length es → Says scope way (written at Or [] es) (Truth (formula.Or ps))
    unfolding context_of tree_phrase connective_phrase operator_context operator_phrase
    or_says es ps all size low =
        let count : nat_le 2 (length ps) ≡ true = grind (arith, nat_tests) in
        tree_says scope way at Or [] es (plain_context scope None) (record { terms = []; kinds = []; formulas = ps }) refl all ∙ rw count refl

    not_says : (a : Expr) (p : Formula) → Says scope None a (Truth p) → Says scope way (written at Not [] (a ∷ [])) (Truth (formula.Not p))
    unfolding context_of tree_phrase negation_phrase only operator_context operator_phrase
    not_says a p h =
        tree_says scope way at Not [] (a ∷ []) (plain_context scope None) (record { terms = []; kinds = []; formulas = p ∷ [] }) refl (one_says scope None a (Truth p) [] no_phrases h (none_says scope None))

    implies_says : (a b : Expr) (p q : Formula) → Says scope None a (Truth p) → Says scope None b (Truth q) → Says scope way (written at Implies [] (a ∷ b ∷ [])) (Truth (formula.Implies p q))
    unfolding context_of tree_phrase implication_phrase both operator_context operator_phrase
    implies_says a b p q h j =
        tree_says scope way at Implies [] (a ∷ b ∷ []) (plain_context scope None) (record { terms = []; kinds = []; formulas = p ∷ q ∷ [] }) refl
        (one_says scope None a (Truth p) (b ∷ []) (record { terms = []; kinds = []; formulas = q ∷ [] }) h (one_says scope None b (Truth q) [] no_phrases j (none_says scope None)))

    body_then : (is : List ℕ) (p : Formula) → 1 ≤ length is → binder_body at is (p ∷ []) ≡ Ok p
    unfolding binder_body only
    body_then [] p h = absurd (omega arith)
    body_then (i ∷ is) p h = refl

    for_all_says : (bs : List Binder) (variables : Scope) (x : Expr) (p : Formula) → Binds d own scope way bs variables → 1 ≤ length variables
        → Says (scope ++ variables) (past way (length variables)) x (Truth p) → Says scope way (written at Forall bs (x ∷ [])) (Truth (formula.Forall (map (λ (v : List ℕ × ℕ). v.1) variables) p))
    unfolding context_of tree_phrase operator_context operator_phrase
    for_all_says bs variables x p binds some h =
        let is = map (λ (v : List ℕ × ℕ). v.1) variables in
        let count : 1 ≤ length is = (let n = length-map variables (λ (v : List ℕ × ℕ). v.1) in omega arith) in
        tree_says scope way at Forall bs (x ∷ []) (after d own (plain_context scope way) variables) (record { terms = []; kinds = []; formulas = p ∷ [] }) (binds_then d own binds [])
        (one_says (scope ++ variables) (past way (length variables)) x (Truth p) [] no_phrases h (none_says (scope ++ variables) (past way (length variables)))) ∙ rw (body_then is p count) refl

    for_some_says : (bs : List Binder) (variables : Scope) (x : Expr) (p : Formula) → Binds d own scope None bs variables → 1 ≤ length variables
        → Says (scope ++ variables) None x (Truth p) → Says scope way (written at Exists bs (x ∷ [])) (Truth (formula.Exists (map (λ (v : List ℕ × ℕ). v.1) variables) p))
    unfolding context_of tree_phrase operator_context operator_phrase
    for_some_says bs variables x p binds some h =
        let is = map (λ (v : List ℕ × ℕ). v.1) variables in
        let count : 1 ≤ length is = (let n = length-map variables (λ (v : List ℕ × ℕ). v.1) in omega arith) in
        tree_says scope way at Exists bs (x ∷ []) (after d own (plain_context scope None) variables) (record { terms = []; kinds = []; formulas = p ∷ [] }) (binds_then d own binds [])
        (one_says (scope ++ variables) None x (Truth p) [] no_phrases h (none_says (scope ++ variables) None)) ∙ rw (body_then is p count) refl

  as_many : {scope : Scope} {es : List Expr} {ts : List Term} {ws : List Range} → AreWhole d own scope es ts ws → length ts ≡ length es
  as_many no_part = refl
  as_many (part h more) = ap suc (as_many more)

  -- ---- the induction

  mutual
    pub term_says : {scope : Scope} {e : Expr} {t : Term} {k : KindOf} → IsTerm d own scope e t k → (way : Way) → phrase_of d own e scope way ≡ valued t (kind_back k)
    term_says {scope} (IsTerm.number {n = n} at small) way = number_says scope way at n small
    term_says {scope} (IsTerm.variable {k = k} {i = i} at word v) way = variable_says scope way at word k i v
    term_says {scope} (IsTerm.given {f = f} {family = family} {args = args} {ts = ts} at word v n found all) way = given_says scope way at word f family args ts v n found (members_say_all all None)
    term_says {scope} (IsTerm.choice {x = x} {family = family} {args = args} {ts = ts} at word v n found all) way = choice_says scope way at word x family args ts v n found (members_say_all all None)
    term_says {scope} (IsTerm.plus {parts = es} {ts = ts} {ws = ws} at all low high within) way = plus_says scope way at es ts ws (wholes_say all None) (as_many all) low high within
    term_says {scope} (IsTerm.minus {a = a} {b = b} {s = s} {t = t} {v = v} {w = w} at h j within) way = minus_says scope way at a b s t v w (term_says h None) (term_says j None) within
    term_says {scope} (IsTerm.times {a = a} {b = b} {s = s} {t = t} {v = v} {w = w} at h j within) way = times_says scope way at a b s t v w (term_says h None) (term_says j None) within
    term_says {scope} (IsTerm.lesser {a = a} {b = b} {s = s} {t = t} {v = v} {w = w} at h j within) way = lesser_says scope way at a b s t v w (term_says h None) (term_says j None) within
    term_says {scope} (IsTerm.greater {a = a} {b = b} {s = s} {t = t} {v = v} {w = w} at h j within) way = greater_says scope way at a b s t v w (term_says h None) (term_says j None) within
    term_says {scope} (IsTerm.sum {b = b} {name = name} {i = i} {condition = x} {body = y} {p = p} {t = t} {w = w} at binds h j within) way = sum_says scope way at b name i x y p t w binds (formula_says h) (term_says j None) within

    pub members_say_all : {scope : Scope} {es : List Expr} {ts : List Term} {is : List ℕ} → AreMembers d own scope es ts is → (way : Way) → phrases_at scope way (map (phrase_of d own) es) ≡ of_terms ts (members is)
    members_say_all {scope} no_argument way = none_says scope way
    members_say_all {scope} (argument {e = e} {t = t} {i = i} {es = es} {ts = ts} {is = is} h more) way =
        one_says scope way e (Value t (Member i)) es (record { terms = ts; kinds = members is; formulas = [] }) (term_says h way) (members_say_all more way)

    pub wholes_say : {scope : Scope} {es : List Expr} {ts : List Term} {ws : List Range} → AreWhole d own scope es ts ws → (way : Way) → phrases_at scope way (map (phrase_of d own) es) ≡ of_terms ts (wholes ws)
    wholes_say {scope} no_part way = none_says scope way
    wholes_say {scope} (part {e = e} {t = t} {w = w} {es = es} {ts = ts} {ws = ws} h more) way =
        one_says scope way e (Value t (Whole w.0 w.1)) es (record { terms = ts; kinds = wholes ws; formulas = [] }) (term_says h way) (wholes_say more way)

    pub formula_says : {scope : Scope} {way : Way} {e : Expr} {p : Formula} → IsFormula d own scope way e p → phrase_of d own e scope way ≡ formula_declaration p
    formula_says {scope} {way} (IsFormula.numbers {a = a} {b = b} {s = s} {t = t} {v = v} {w = w} at of h j) = numbers_say scope way at of a b s t v w (term_says h None) (term_says j None)
    formula_says {scope} {way} (IsFormula.members {a = a} {b = b} {s = s} {t = t} {i = i} at of h j) = members_say scope way at of a b s t i (term_says h None) (term_says j None)
    formula_says {scope} {way} (IsFormula.conjunction {parts = es} {ps = ps} at all low) = and_says scope way at es ps (formulas_say all) (as_many_formulas d own all) low
    formula_says {scope} {way} (IsFormula.disjunction {parts = es} {ps = ps} at all low) = or_says scope way at es ps (formulas_say all) (as_many_formulas d own all) low
    formula_says {scope} {way} (IsFormula.negation {a = a} {p = p} at h) = not_says scope way at a p (formula_says h)
    formula_says {scope} {way} (IsFormula.implication {a = a} {b = b} {p = p} {q = q} at h j) = implies_says scope way at a b p q (formula_says h) (formula_says j)
    formula_says {scope} {way} (IsFormula.for_all {binders = bs} {variables = variables} {body = x} {p = p} at binds some h) = for_all_says scope way at bs variables x p binds some (formula_says h)
    formula_says {scope} {way} (IsFormula.for_some {binders = bs} {variables = variables} {body = x} {p = p} at binds some h) = for_some_says scope way at bs variables x p binds some (formula_says h)

    pub formulas_say : {scope : Scope} {way : Way} {es : List Expr} {ps : List Formula} → AreFormulas d own scope way es ps → phrases_at scope way (map (phrase_of d own) es) ≡ of_formulas ps
    formulas_say {scope} {way} no_formula = none_says scope way
    formulas_say {scope} {way} (one_formula {e = e} {p = p} {es = es} {ps = ps} h more) =
        one_says scope way e (Truth p) es (record { terms = []; kinds = []; formulas = ps }) (formula_says h) (formulas_say more)
