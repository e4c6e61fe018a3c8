-- The checker gives the first fault of an expression that the rules of faults give.
use Rattle.std.proofs.Common.{◌≡◌, ◌≢◌, refl, sym, ◌∙◌, ap, subst, ℕ, suc, ◌≤◌, pos, List, [], ◌∷◌, ◌++◌, length, fold, map, Bool, true, false, ◌&&◌, None, Some, if◌then◌else◌, Ok, nat_eq, arith}
use Rattle.std.specs.Prelude.{◌==◌}
use Rattle.std.proofs.lemmas.Bool.{and_from}
use Rattle.std.proofs.lemmas.Bool.Decides.{nat_tests}
use Rattle.kts_base.specs.Names.{is_between}
use Rattle.kts_spec.specs.Ranges.{Range, sum_range, total_range, difference_range, product_range, least_range, greatest_range, sum_over_range}
use Rattle.kts_spec.specs.Typing.{Kind as KindOf, Whole as WholeOf, MemberOf}
use Rattle.kts_spec.specs.declared.declarations.Family.{Family}
use Rattle.kts_base.specs.Limits.{most_parts}
use Rattle.kts_spec.specs.declared.tree.Formula.{Formula}
use Rattle.kts_spec.specs.declared.tree.Term.{Term}
use Rattle.kts_spec.specs.declared.tree.Term.TheVariants as term
use Rattle.kts_syntax.specs.declared.expr.Expr.{Expr}
use Rattle.kts_syntax.specs.declared.head.Head.{Head}
use Rattle.kts_syntax.specs.declared.head.Head.TheVariants.{Add, Sub, Mul, Min, Max, Sum, Le, Lt, Ge, Gt, Eq, Ne, And, Or, Not, Implies, Forall, Exists, Number, Use}
use Rattle.kts_syntax.specs.declared.word.Word.{Word}
use Rattle.kts_check.specs.Faults.{fail}
use Rattle.kts_check.specs.Faulty.{along, IsNoName, BindsVariables, IsArithmetic, HasRange, IsOrder, IsEquality, AreAlike, UseFault, StandsFor, IsWellTyped, AllTerms, AreMixed, AreAmiss, RuleFault, FaultIn, FaultAmong}
use Rattle.kts_check.specs.Declarations.{Declarations, entry_of}
use Rattle.kts_check.specs.Measures.{limited_term, total, total_from, two, two_wholes, range_of_sum, kind_of, is_limited, are_members, is_member}
use Rattle.kts_check.specs.Contexts.{operator_context, reference, Context, plain_context, reference_context, bind, context_of}
use Rattle.kts_check.specs.Rules.{Binder, written, Way, HasLimitedEnds, Binds, IsTerm, AreWhole, IsFormula}
use Rattle.kts_check.specs.Scopes.{Scope, variable}
use Rattle.kts_check.specs.Trees.{operator_phrase, reference_phrase, phrase_of, phrases_at, access_phrase, of_members, comparison_of, addition_phrase, only, both, comparison_phrase, sum_phrase, reference_of, tree_phrase}
use Rattle.kts_check.specs.Faults.{SpecFault}
use Rattle.kts_check.specs.declared.fault.SpecKind.TheVariants.{WrongKind, WrongCount, Unbounded}
use Rattle.kts_check.specs.declared.kind.Kind.{Kind}
use Rattle.kts_check.specs.declared.kind.Kind.TheVariants.{Whole, Member}
use Rattle.kts_check.specs.declared.phrase.Phrases.{Phrases}
use Rattle.kts_check.specs.declared.phrase.Phrase.{Phrase}
use Rattle.kts_check.specs.declared.phrase.Phrase.TheVariants.{Value, Truth}
use Rattle.kts_check.proofs.Inversions.{ok}
use Rattle.kts_check.proofs.FaultBinders.{err, bind_fails}
use Rattle.kts_base.proofs.Orders.{yes_nat_le}
use Rattle.kts_check.proofs.RuleBinders.{after, binds_then}
use Rattle.kts_check.proofs.RuleKept.{term_says, formula_says, wholes_say}
use Rattle.kts_check.proofs.RuleTests.{within_if, variable_then, unbound_then, kind_back}
use Rattle.kts_check.proofs.TreeLemmas.{phrase_of-roll}

-- ---- measures

measured_fails : (at : ℕ) (t : Term) (w : Range) → (HasLimitedEnds w → ⊥) → limited_term at t (Some w) ≡ fail (Unbounded w.0 w.1) at
measured_fails at t w wide = by (is_limited w.0 && is_limited w.1) refl
  where
    by : (b : Bool) → (is_limited w.0 && is_limited w.1) ≡ b → (if b then Ok (Value t (Whole w.0 w.1)) else fail (Unbounded w.0 w.1) at) ≡ fail (Unbounded w.0 w.1) at
    by true e = absurd (wide (within_if w e))
    by false e = refl

total_of : (r : Range) (ws : List Range) → total_from r (map (λ (w : Range). Whole w.0 w.1) ws) ≡ Some (fold sum_range r ws)
total_of r [] = refl
total_of r (w ∷ ws) = total_of (sum_range r w) ws

between : (n : ℕ) → 2 ≤ n → n ≤ most_parts → is_between 2 most_parts n ≡ true
between n low high = and_from _ _ (yes_nat_le 2 n low) (yes_nat_le n most_parts high)

-- two kinds that aren't alike have no comparison
not_compared : {head : Head} → IsEquality head → (k l : KindOf) → (AreAlike k l → ⊥) → comparison_of head (kind_back k) (kind_back l) ≡ None
unfolding comparison_of
not_compared equality (WholeOf v) (WholeOf w) n = absurd (n AreAlike.numbers)
not_compared equality (WholeOf v) (MemberOf j) n = refl
not_compared equality (MemberOf i) (WholeOf w) n = refl
not_compared {head} equality (MemberOf i) (MemberOf j) n = by (nat_eq i j) refl
  where
    by : (b : Bool) → nat_eq i j ≡ b → (if b then of_members head else None) ≡ None
    by true e = let same : i ≡ j = grind (arith, nat_tests) in absurd (n (subst (λ (m : ℕ). AreAlike (MemberOf i) (MemberOf m)) same AreAlike.members))
    by false e = refl

-- members have no order
not_ordered : {head : Head} → IsOrder head → (i : ℕ) (k : Kind) → comparison_of head (Member i) k ≡ None
unfolding comparison_of of_members
not_ordered order i (Whole a b) = refl
not_ordered {head} order i (Member j) = by order (nat_eq i j)
  where
    by : {head : Head} → IsOrder head → (b : Bool) → (if b then of_members head else None) ≡ None
    by IsOrder.le true = refl
    by IsOrder.lt true = refl
    by IsOrder.ge true = refl
    by IsOrder.gt true = refl
    by order false = refl

module _ (d : Declarations) (own : List ℕ) where
  -- ---- what parts say

  -- parts say these terms of these kinds
  record AreSaid (scope : Scope) (es : List Expr) (ts : List Term) (ks : List Kind) : Type 0 where
    phrases : (way : Way) → phrases_at scope way (map (phrase_of d own) es) ≡ ok (record { terms = ts; kinds = ks; formulas = [] })
    terms : length ts ≡ length es
    kinds : length ks ≡ length es

  none_said : (scope : Scope) → AreSaid scope [] [] []
  unfolding phrases_at
  none_said scope = record { phrases = λ way. refl; terms = refl; kinds = refl }

  more_said : (scope : Scope) (e : Expr) (t : Term) (k : KindOf) (es : List Expr) (ts : List Term) (ks : List Kind) → IsTerm d own scope e t k → AreSaid scope es ts ks → AreSaid scope (e ∷ es) (t ∷ ts) (kind_back k ∷ ks)
  unfolding phrases_at
  more_said scope e t k es ts ks h more = record { phrases = λ way. rw (term_says d own h way, more.phrases way) refl; terms = ap suc more.terms; kinds = ap suc more.kinds }

  typed_said : {scope : Scope} {es : List Expr} → AllTerms d own scope es → (ts : List Term) × (ks : List Kind) × AreSaid scope es ts ks
  typed_said {scope} AllTerms.no_term = ([], [], none_said scope)
  typed_said {scope} (AllTerms.one_term {e = e} {t = t} {k = k} {es = es} h more) =
      let rest = typed_said more in (t ∷ rest.0, kind_back k ∷ rest.1, more_said scope e t k es rest.0 rest.1 h rest.2)

  mixed_said : {scope : Scope} {es : List Expr} → AreMixed d own scope es → (ts : List Term) × (ks : List Kind) × AreSaid scope es ts ks × ((r : Range) → total_from r ks ≡ None)
  mixed_said {scope} (AreMixed.member {e = e} {t = t} {i = i} {es = es} h more) =
      let rest = typed_said more in (t ∷ rest.0, Member i ∷ rest.1, more_said scope e t (MemberOf i) es rest.0 rest.1 h rest.2, λ r. refl)
  mixed_said {scope} (AreMixed.whole {e = e} {t = t} {w = w} {es = es} h more) =
      let rest = mixed_said more in (t ∷ rest.0, Whole w.0 w.1 ∷ rest.1, more_said scope e t (WholeOf w) es rest.0 rest.1 h rest.2, λ r. rest.3 (sum_range r w))

  -- the range of two kinds, where the sum has none
  no_two : (f : Range → Range → Range) (ks : List Kind) → ((r : Range) → total_from r ks ≡ None) → two f ks ≡ None
  unfolding two_wholes
  no_two f [] h = refl
  no_two f (k ∷ []) h = refl
  no_two f (Whole a b ∷ Whole c e ∷ []) h = let g = h (a, b) in absurd cc
  no_two f (Whole a b ∷ Member j ∷ []) h = refl
  no_two f (Member i ∷ Whole c e ∷ []) h = refl
  no_two f (Member i ∷ Member j ∷ []) h = refl
  no_two f (k ∷ l ∷ (m ∷ ks)) h = refl

  other_member : (k : KindOf) (i : ℕ) → k ≢ MemberOf i → is_member i (kind_back k) ≡ false
  other_member (WholeOf w) i n = refl
  other_member (MemberOf j) i n = by (nat_eq i j) refl
    where
      by : (b : Bool) → nat_eq i j ≡ b → b ≡ false
      by true e = let same : j ≡ i = grind (arith, nat_tests) in absurd (n (ap MemberOf same))
      by false e = refl

  amiss_said : {scope : Scope} {es : List Expr} {is : List ℕ} → AreAmiss d own scope es is → (ts : List Term) × (ks : List Kind) × AreSaid scope es ts ks × (length ks ≡ length is) × (are_members is ks ≡ false)
  unfolding are_members
  amiss_said {scope} (AreAmiss.wrong {e = e} {t = t} {k = k} {i = i} {es = es} h n more size) =
      let rest = typed_said more in
      (t ∷ rest.0, kind_back k ∷ rest.1, more_said scope e t k es rest.0 rest.1 h rest.2, ap suc (rest.2.kinds ∙ size), rw (other_member k i n) refl)
  amiss_said {scope} (AreAmiss.right {e = e} {t = t} {i = i} {es = es} h more) =
      let rest = amiss_said more in
      let same : nat_eq i i ≡ true = grind (arith, nat_tests) in
      (t ∷ rest.0, Member i ∷ rest.1, more_said scope e t (MemberOf i) es rest.0 rest.1 h rest.2, ap suc rest.3, rw (same, rest.4) refl)

  wholes_said : {scope : Scope} {es : List Expr} {ts : List Term} {ws : List Range} → AreWhole d own scope es ts ws → length ts ≡ length es
  wholes_said AreWhole.no_part = refl
  wholes_said (AreWhole.part h more) = ap suc (wholes_said more)

  -- ---- trees

  -- a tree with a head, whose parts stand at a place and say something
  tree_says : (scope : Scope) (way : Way) (at : ℕ) (head : Head) (bs : List Binder) (es : List Expr) (p : Context) (phrases : Phrases)
      → context_of d.names own head bs (length es == 0) scope way ≡ ok p → phrases_at p.scope p.way (map (phrase_of d own) es) ≡ ok phrases → phrase_of d own (written at head bs es) scope way ≡ tree_phrase d at head p phrases
  tree_says scope way at head bs es p phrases e h = phrase_of-roll d own (record { at = at; head = head; binders = bs; parts = es }) scope way ∙ rw (e, h) refl

  -- a tree whose parts have a fault
  part_fails : (scope : Scope) (way : Way) (at : ℕ) (head : Head) (bs : List Binder) (es : List Expr) (p : Context) (f : SpecFault)
      → context_of d.names own head bs (length es == 0) scope way ≡ ok p → phrases_at p.scope p.way (map (phrase_of d own) es) ≡ err f → phrase_of d own (written at head bs es) scope way ≡ err f
  part_fails scope way at head bs es p f e h = phrase_of-roll d own (record { at = at; head = head; binders = bs; parts = es }) scope way ∙ rw (e, h) refl

  -- a tree whose name or binders have a fault
  front_fails : (scope : Scope) (way : Way) (at : ℕ) (head : Head) (bs : List Binder) (es : List Expr) (f : SpecFault)
      → context_of d.names own head bs (length es == 0) scope way ≡ err f → phrase_of d own (written at head bs es) scope way ≡ err f
  front_fails scope way at head bs es f e = phrase_of-roll d own (record { at = at; head = head; binders = bs; parts = es }) scope way ∙ rw e refl

  -- ---- names

  use_fails : {scope : Scope} {word : Word} {args : List Expr} {f : SpecFault} → UseFault d scope word args f → reference_context word.at (length args == 0) (variable scope word.name) (entry_of d.names word.name) scope ≡ err f
  unfolding reference_context reference
  use_fails {scope} {word} (UseFault.unknown none h) = rw (unbound_then scope word.name 0 none, h) refl
  use_fails {scope} {word} (UseFault.index none h) = rw (unbound_then scope word.name 0 none, h) refl
  use_fails {scope} {word} (UseFault.formula none h) = rw (unbound_then scope word.name 0 none, h) refl
  use_fails {scope} {word} (UseFault.variable {e = e} {es = es} v) =
      let some : (length (e ∷ es) == 0) ≡ false = grind (arith, nat_tests) in rw (some, variable_then v 0) refl

  -- a name of a given or a choice may stand before arguments, and wants those of its family
  stands_usable : {scope : Scope} {name : List ℕ} {family : Family} → StandsFor d scope name family → (at : ℕ) (alone : Bool) → reference_context at alone (variable scope name) (entry_of d.names name) scope ≡ ok (plain_context scope None)
  unfolding reference_context reference
  stands_usable {scope} {name} (StandsFor.given none h found) at alone = rw (unbound_then scope name 0 none, h) refl
  stands_usable {scope} {name} (StandsFor.choice none h found) at alone = rw (unbound_then scope name 0 none, h) refl

  pub stands_used : {scope : Scope} {name : List ℕ} {family : Family} → StandsFor d scope name family → (at where_ : ℕ) (ts : List Term) (ks : List Kind)
      → (t : Term) × (reference_of d at where_ (variable scope name) (entry_of d.names name) ts ks ≡ access_phrase at t (Some family) ks)
  unfolding reference_of reference reference_phrase
  stands_used {scope} {name} (StandsFor.given {f = f} none h found) at where_ ts ks = (term.Given f ts, rw (unbound_then scope name 0 none, h, found) refl)
  stands_used {scope} {name} (StandsFor.choice {x = x} none h found) at where_ ts ks = (term.Choice x ts, rw (unbound_then scope name 0 none, h, found) refl)

  accessed_count : (at : ℕ) (t : Term) (family : Family) (ks : List Kind) (n : ℕ) → length ks ≡ n → n ≢ length family.args → access_phrase at t (Some family) ks ≡ fail WrongCount at
  unfolding access_phrase
  accessed_count at t family ks n same other = by (length ks == length family.args) refl
    where
      by : (b : Bool) → (length ks == length family.args) ≡ b → (if b then (if are_members family.args ks then Ok (Value t (kind_of family.kind)) else fail WrongKind at) else fail WrongCount at) ≡ fail WrongCount at
      by true e = absurd (other (let h : length ks ≡ length family.args = grind (arith, nat_tests) in sym same ∙ h))
      by false e = refl

  accessed_kind : (at : ℕ) (t : Term) (family : Family) (ks : List Kind) → length ks ≡ length family.args → are_members family.args ks ≡ false → access_phrase at t (Some family) ks ≡ fail WrongKind at
  unfolding access_phrase
  accessed_kind at t family ks same other = let count : (length ks == length family.args) ≡ true = grind (arith, nat_tests) in rw (count, other) refl

  module _ (scope : Scope) (way : Way) (at : ℕ) where
    used_says : (word : Word) (family : Family) (args : List Expr) (ts : List Term) (ks : List Kind) → StandsFor d scope word.name family → AreSaid scope args ts ks
        → (t : Term) × (phrase_of d own (written at (Use word) [] args) scope way ≡ access_phrase at t (Some family) ks)
    unfolding context_of tree_phrase operator_context operator_phrase
    used_says word family args ts ks stands phrases =
        let u = stands_used stands at word.at ts ks in
        (u.0, tree_says scope way at (Use word) [] args (plain_context scope None) (record { terms = ts; kinds = ks; formulas = [] }) (stands_usable stands word.at (length args == 0)) (phrases.phrases None) ∙ u.1)

    operand_fails : {head : Head} → IsArithmetic head → (es : List Expr) (ts : List Term) (ks : List Kind) → AreSaid scope es ts ks → ((r : Range) → total_from r ks ≡ None) → 2 ≤ length es → length es ≤ most_parts
        → phrase_of d own (written at head [] es) scope way ≡ fail WrongKind at
    unfolding context_of tree_phrase addition_phrase total operator_context operator_phrase
    operand_fails IsArithmetic.plus es ts ks phrases none low high =
        let size = phrases.terms in
        let count : is_between 2 most_parts (length ts) ≡ true = between (length ts) (omega arith) (omega arith) in
        tree_says scope way at Add [] es (plain_context scope None) (record { terms = ts; kinds = ks; formulas = [] }) refl (phrases.phrases None) ∙ rw (count, none (pos 0, pos 0)) refl
    operand_fails IsArithmetic.minus es ts ks phrases none low high =
        tree_says scope way at Sub [] es (plain_context scope None) (record { terms = ts; kinds = ks; formulas = [] }) refl (phrases.phrases None) ∙ ap (limited_term at (term.Sub ts)) (no_two difference_range ks none)
    operand_fails IsArithmetic.times es ts ks phrases none low high =
        tree_says scope way at Mul [] es (plain_context scope None) (record { terms = ts; kinds = ks; formulas = [] }) refl (phrases.phrases None) ∙ ap (limited_term at (term.Mul ts)) (no_two product_range ks none)
    operand_fails IsArithmetic.lesser es ts ks phrases none low high =
        tree_says scope way at Min [] es (plain_context scope None) (record { terms = ts; kinds = ks; formulas = [] }) refl (phrases.phrases None) ∙ ap (limited_term at (term.Min ts)) (no_two least_range ks none)
    operand_fails IsArithmetic.greater es ts ks phrases none low high =
        tree_says scope way at Max [] es (plain_context scope None) (record { terms = ts; kinds = ks; formulas = [] }) refl (phrases.phrases None) ∙ ap (limited_term at (term.Max ts)) (no_two greatest_range ks none)

    range_fails : {head : Head} {ws : List Range} {r : Range} → HasRange head ws r → (es : List Expr) (ts : List Term) → AreWhole d own scope es ts ws → 2 ≤ length es → length es ≤ most_parts → (HasLimitedEnds r → ⊥)
        → phrase_of d own (written at head [] es) scope way ≡ fail (Unbounded r.0 r.1) at
    unfolding context_of tree_phrase addition_phrase total two_wholes operator_context operator_phrase
    range_fails (HasRange.plus {ws = ws}) es ts all low high wide =
        let size = wholes_said all in
        let count : is_between 2 most_parts (length ts) ≡ true = between (length ts) (omega arith) (omega arith) in
        tree_says scope way at Add [] es (plain_context scope None) _ refl (wholes_say d own all None) ∙ rw (count, total_of (pos 0, pos 0) ws) (measured_fails at (term.Add ts) (total_range ws) wide)
    range_fails (HasRange.minus {v = v} {w = w}) es ts all low high wide =
        tree_says scope way at Sub [] es (plain_context scope None) _ refl (wholes_say d own all None) ∙ measured_fails at (term.Sub ts) (difference_range v w) wide
    range_fails (HasRange.times {v = v} {w = w}) es ts all low high wide =
        tree_says scope way at Mul [] es (plain_context scope None) _ refl (wholes_say d own all None) ∙ measured_fails at (term.Mul ts) (product_range v w) wide
    range_fails (HasRange.lesser {v = v} {w = w}) es ts all low high wide =
        tree_says scope way at Min [] es (plain_context scope None) _ refl (wholes_say d own all None) ∙ measured_fails at (term.Min ts) (least_range v w) wide
    range_fails (HasRange.greater {v = v} {w = w}) es ts all low high wide =
        tree_says scope way at Max [] es (plain_context scope None) _ refl (wholes_say d own all None) ∙ measured_fails at (term.Max ts) (greatest_range v w) wide

    sum_says : (b : Binder) (name : List ℕ) (i : ℕ) (x y : Expr) (p : Formula) (t : Term) (k : KindOf) → Binds d own scope None (b ∷ []) ((name, i) ∷ [])
        → IsFormula d own (scope ++ (name, i) ∷ []) None x p → IsTerm d own (scope ++ (name, i) ∷ []) y t k
        → phrase_of d own (written at Sum (b ∷ []) (x ∷ y ∷ [])) scope way ≡ limited_term at (term.Sum i p t) (range_of_sum (kind_back k))
    unfolding context_of tree_phrase sum_phrase only phrases_at operator_context operator_phrase
    sum_says b name i x y p t k binds h j =
        tree_says scope way at Sum (b ∷ []) (x ∷ y ∷ []) (after d own (plain_context scope None) ((name, i) ∷ [])) (record { terms = t ∷ []; kinds = kind_back k ∷ []; formulas = p ∷ [] }) (binds_then d own binds [])
        (rw (formula_says d own h, term_says d own j None) refl)

    summed_fails : (t : Term) (j : ℕ) → limited_term at t (range_of_sum (Member j)) ≡ fail WrongKind at
    unfolding range_of_sum
    summed_fails t j = refl

    sum_range_fails : (t : Term) (w : Range) → (HasLimitedEnds (sum_over_range w) → ⊥) → limited_term at t (range_of_sum (Whole w.0 w.1)) ≡ fail (Unbounded (sum_over_range w).0 (sum_over_range w).1) at
    unfolding range_of_sum
    sum_range_fails t w wide = measured_fails at t (sum_over_range w) wide

    compare_fails : (head : Head) (a b : Expr) (s t : Term) (k l : KindOf) → context_of d.names own head [] false scope way ≡ ok (plain_context scope None)
        → tree_phrase d at head (plain_context scope None) (record { terms = s ∷ t ∷ []; kinds = kind_back k ∷ kind_back l ∷ []; formulas = [] }) ≡ comparison_phrase at head (s ∷ t ∷ []) (kind_back k ∷ kind_back l ∷ [])
        → comparison_of head (kind_back k) (kind_back l) ≡ None
        → IsTerm d own scope a s k → IsTerm d own scope b t l → phrase_of d own (written at head [] (a ∷ b ∷ [])) scope way ≡ fail WrongKind at
    unfolding comparison_phrase both phrases_at
    compare_fails head a b s t k l inside made is h j =
        tree_says scope way at head [] (a ∷ b ∷ []) (plain_context scope None) (record { terms = s ∷ t ∷ []; kinds = kind_back k ∷ kind_back l ∷ []; formulas = [] }) inside
        (rw (term_says d own h None, term_says d own j None) refl) ∙ made ∙ rw is refl

    order_fails : {head : Head} → IsOrder head → (a b : Expr) (s t : Term) (k l : KindOf) → comparison_of head (kind_back k) (kind_back l) ≡ None
        → IsTerm d own scope a s k → IsTerm d own scope b t l → phrase_of d own (written at head [] (a ∷ b ∷ [])) scope way ≡ fail WrongKind at
    unfolding context_of tree_phrase operator_context operator_phrase
    order_fails IsOrder.le a b s t k l is h j = compare_fails Le a b s t k l refl refl is h j
    order_fails IsOrder.lt a b s t k l is h j = compare_fails Lt a b s t k l refl refl is h j
    order_fails IsOrder.ge a b s t k l is h j = compare_fails Ge a b s t k l refl refl is h j
    order_fails IsOrder.gt a b s t k l is h j = compare_fails Gt a b s t k l refl refl is h j

    mixed_order : {head : Head} → IsOrder head → (a b : Expr) → AreMixed d own scope (a ∷ b ∷ []) → phrase_of d own (written at head [] (a ∷ b ∷ [])) scope way ≡ fail WrongKind at
    unfolding comparison_of
    mixed_order order a b (AreMixed.member {t = s} {i = i} h (AllTerms.one_term {t = t} {k = l} j AllTerms.no_term)) =
        order_fails order a b s t (MemberOf i) l (not_ordered order i (kind_back l)) h j
    mixed_order order a b (AreMixed.whole {t = s} {w = w} h (AreMixed.member {t = t} {i = i} j AllTerms.no_term)) = order_fails order a b s t (WholeOf w) (MemberOf i) refl h j
    mixed_order order a b (AreMixed.whole h (AreMixed.whole j none)) = elim none [ ]

    equality_fails : {head : Head} → IsEquality head → (a b : Expr) (s t : Term) (k l : KindOf) → (AreAlike k l → ⊥)
        → IsTerm d own scope a s k → IsTerm d own scope b t l → phrase_of d own (written at head [] (a ∷ b ∷ [])) scope way ≡ fail WrongKind at
    unfolding context_of tree_phrase operator_context operator_phrase
    equality_fails IsEquality.eq a b s t k l other h j = compare_fails Eq a b s t k l refl refl (not_compared IsEquality.eq k l other) h j
    equality_fails IsEquality.ne a b s t k l other h j = compare_fails Ne a b s t k l refl refl (not_compared IsEquality.ne k l other) h j

  tree_fails : {scope : Scope} {e : Expr} {f : SpecFault} → RuleFault d own scope e f → (way : Way) → phrase_of d own e scope way ≡ err f
  tree_fails {scope} (RuleFault.count {family = family} {args = args} at word stands typed other) way =
      let phrases = typed_said typed in
      let u = used_says scope way at word family args phrases.0 phrases.1 stands phrases.2 in
      u.1 ∙ accessed_count at u.0 family phrases.1 (length args) phrases.2.kinds other
  tree_fails {scope} (RuleFault.argument {family = family} {args = args} at word stands amiss) way =
      let phrases = amiss_said amiss in
      let u = used_says scope way at word family args phrases.0 phrases.1 stands phrases.2 in
      u.1 ∙ accessed_kind at u.0 family phrases.1 phrases.3 phrases.4
  tree_fails {scope} (RuleFault.operand {parts = es} at arithmetic mixed low high) way =
      let phrases = mixed_said mixed in operand_fails scope way at arithmetic es phrases.0 phrases.1 phrases.2 phrases.3 low high
  tree_fails {scope} (RuleFault.range {parts = es} {ts = ts} at all low high has wide) way = range_fails scope way at has es ts all low high wide
  tree_fails {scope} (RuleFault.sum_phrase {b = b} {name = name} {i = i} {j = j} {condition = x} {body = y} {p = p} {t = t} at binds h l) way =
      sum_says scope way at b name i x y p t (MemberOf j) binds h l ∙ summed_fails scope way at (term.Sum i p t) j
  tree_fails {scope} (RuleFault.sum_range {b = b} {name = name} {i = i} {condition = x} {body = y} {p = p} {t = t} {w = w} at binds h l wide) way =
      sum_says scope way at b name i x y p t (WholeOf w) binds h l ∙ sum_range_fails scope way at (term.Sum i p t) w wide
  tree_fails {scope} (RuleFault.order {a = a} {b = b} at order mixed) way = mixed_order scope way at order a b mixed
  tree_fails {scope} (RuleFault.equality {a = a} {b = b} {s = s} {t = t} {k = k} {l = l} at equality h j other) way = equality_fails scope way at equality a b s t k l other h j

  -- ---- where parts stand

  entered_word : (head : Head) → IsNoName head → (alone : Bool) (scope : Scope) (way : Way) → context_of d.names own head [] alone scope way ≡ ok (plain_context scope (along head way))
  unfolding context_of bind operator_context
  entered_word Add n alone scope way = refl
  entered_word Sub n alone scope way = refl
  entered_word Mul n alone scope way = refl
  entered_word Min n alone scope way = refl
  entered_word Max n alone scope way = refl
  entered_word Sum n alone scope way = refl
  entered_word Le n alone scope way = refl
  entered_word Lt n alone scope way = refl
  entered_word Ge n alone scope way = refl
  entered_word Gt n alone scope way = refl
  entered_word Eq n alone scope way = refl
  entered_word Ne n alone scope way = refl
  entered_word And n alone scope way = refl
  entered_word Or n alone scope way = refl
  entered_word Not n alone scope way = refl
  entered_word Implies n alone scope way = refl
  entered_word Forall n alone scope way = refl
  entered_word Exists n alone scope way = refl
  entered_word (Number z) n alone scope way = refl
  entered_word (Use word) n alone scope way = absurd (n word refl)

  entered_binders : {head : Head} → BindsVariables head → (bs : List Binder) (alone : Bool) (scope : Scope) (way : Way) → context_of d.names own head bs alone scope way ≡ bind d.names own (plain_context scope (along head way)) bs
  unfolding context_of operator_context
  entered_binders BindsVariables.sum bs alone scope way = refl
  entered_binders BindsVariables.for_all bs alone scope way = refl
  entered_binders BindsVariables.for_some bs alone scope way = refl

  use_entered : (scope : Scope) (way : Way) (word : Word) (args : List Expr) (f : SpecFault) → UseFault d scope word args f → context_of d.names own (Use word) [] (length args == 0) scope way ≡ err f
  unfolding context_of operator_context
  use_entered scope way word args f h = use_fails h

  stands_entered : {family : Family} (scope : Scope) (way : Way) (word : Word) (args : List Expr) → StandsFor d scope word.name family → context_of d.names own (Use word) [] (length args == 0) scope way ≡ ok (plain_context scope None)
  unfolding context_of operator_context
  stands_entered scope way word args stands = stands_usable stands word.at (length args == 0)

  -- ---- parts

  typed_says : {scope : Scope} {way : Way} {e : Expr} → IsWellTyped d own scope way e → (s : Phrase) × (phrase_of d own e scope way ≡ ok s)
  typed_says {scope} {way} (IsWellTyped.term {t = t} {k = k} h) = (Value t (kind_back k), term_says d own h way)
  typed_says {scope} {way} (IsWellTyped.formula {p = p} h) = (Truth p, formula_says d own h)

  first_fails : (scope : Scope) (way : Way) (e : Expr) (es : List Expr) (f : SpecFault) → phrase_of d own e scope way ≡ err f → phrases_at scope way (map (phrase_of d own) (e ∷ es)) ≡ err f
  unfolding phrases_at
  first_fails scope way e es f h = rw h refl

  later_fails : (scope : Scope) (way : Way) (e : Expr) (es : List Expr) (f : SpecFault) → IsWellTyped d own scope way e → phrases_at scope way (map (phrase_of d own) es) ≡ err f → phrases_at scope way (map (phrase_of d own) (e ∷ es)) ≡ err f
  unfolding phrases_at
  later_fails scope way e es f typed h = let s = typed_says typed in rw (s.1, h) refl

  -- ---- the induction

  mutual
    pub expr_fails : {scope : Scope} {way : Way} {e : Expr} {f : SpecFault} → FaultIn d own scope way e f → phrase_of d own e scope way ≡ err f
    expr_fails {scope} {way} {f = f} (FaultIn.name {args = args} at word h) = front_fails scope way at (Use word) [] args f (use_entered scope way word args f h)
    expr_fails {scope} {way} {f = f} (FaultIn.argument {args = args} at word stands h) =
        part_fails scope way at (Use word) [] args (plain_context scope None) f (stands_entered scope way word args stands) (parts_fail h)
    expr_fails {scope} {way} {f = f} (FaultIn.part {head = head} {parts = es} at n h) =
        part_fails scope way at head [] es (plain_context scope (along head way)) f (entered_word head n (length es == 0) scope way) (parts_fail h)
    expr_fails {scope} {way} {f = f} (FaultIn.binder {head = head} {bs = bs} at es binds h) =
        front_fails scope way at head bs es f (entered_binders binds bs (length es == 0) scope way ∙ bind_fails d own h [])
    expr_fails {scope} {way} {f = f} (FaultIn.bound_part {variables = variables} {head = head} {bs = bs} {parts = es} at binds binder_index h) =
        part_fails scope way at head bs es (after d own (plain_context scope (along head way)) variables) f (entered_binders binds bs (length es == 0) scope way ∙ binds_then d own binder_index []) (parts_fail h)
    expr_fails {scope} {way} (FaultIn.tree h) = tree_fails h way

    pub parts_fail : {scope : Scope} {way : Way} {es : List Expr} {f : SpecFault} → FaultAmong d own scope way es f → phrases_at scope way (map (phrase_of d own) es) ≡ err f
    parts_fail {scope} {way} {f = f} (FaultAmong.first {e = e} {es = es} h) = first_fails scope way e es f (expr_fails h)
    parts_fail {scope} {way} {f = f} (FaultAmong.later {e = e} {es = es} typed h) = later_fails scope way e es f typed (parts_fail h)
