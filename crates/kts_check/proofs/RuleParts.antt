-- What the checker makes of parts that are well typed follows the typing IsFormula.
use Rattle.std.proofs.Common.{◌≡◌, refl, sym, ap, subst, ℕ, suc, ◌≤◌, List, [], ◌∷◌, ◌++◌, length, fold, map, Bool, true, false, ◌&&◌, Option, None, Some, if◌then◌else◌, Ok, nat_eq, nat_le, arith}
use Rattle.std.proofs.lemmas.Bool.{and_parts}
use Rattle.std.proofs.lemmas.Bool.Decides.{nat_tests}
use Rattle.std.specs.Prelude.{pos, ◌==◌}
use Rattle.kts_base.specs.Names.{is_between}
use Rattle.kts_base.specs.Reads.{and_then}
use Rattle.kts_spec.specs.Ranges.{Range, sum_range, sum_over_range}
use Rattle.kts_spec.specs.Typing.{Whole as WholeOf, MemberOf, kind_of_type}
use Rattle.kts_spec.specs.declared.declarations.Family.{Family}
use Rattle.kts_base.specs.Limits.{most_parts}
use Rattle.kts_spec.specs.declared.tree.Comparison.{Comparison}
use Rattle.kts_spec.specs.declared.tree.Formula.{Formula}
use Rattle.kts_spec.specs.declared.tree.Formula.TheVariants as formula
use Rattle.kts_spec.specs.declared.tree.Term.{Term}
use Rattle.kts_spec.specs.declared.tree.Term.TheVariants as term
use Rattle.kts_syntax.specs.declared.expr.Expr.{Expr}
use Rattle.kts_syntax.specs.declared.head.Head.{Head}
use Rattle.kts_syntax.specs.declared.head.Head.TheVariants.{Add, Sum, And, Or, Not, Implies, Use}
use Rattle.kts_syntax.specs.declared.layout.Role.{Role}
use Rattle.kts_syntax.specs.declared.layout.Role.TheVariants as role
use Rattle.kts_syntax.specs.declared.word.Word.{Word}
use Rattle.kts_check.specs.Declarations.{Declarations, entry_of}
use Rattle.kts_check.specs.Measures.{limited_term, total, total_from, two, two_wholes, range_of_sum, kind_of, is_limited, are_members}
use Rattle.kts_check.specs.Contexts.{reference, Context, reference_context}
use Rattle.kts_check.specs.Rules.{Binder, written, IsVariable, Way, HasLimitedEnds, OfNumbers, OfMembers, Binds, IsTerm, AreMembers, AreWhole, IsFormula, AreFormulas, no_argument, argument, no_part, part, no_formula, one_formula}
use Rattle.kts_check.specs.Scopes.{Scope, variable}
use Rattle.kts_check.specs.Trees.{reference_phrase, with_part, no_phrases, access_phrase, of_wholes, of_members, comparison_of, addition_phrase, connective_phrase, only, both, comparison_by, comparison_phrase, sum_phrase, negation_phrase, implication_phrase, binder_body, reference_of}
use Rattle.kts_check.specs.declared.entry.Entry.{Entry}
use Rattle.kts_check.specs.declared.entry.Entry.TheVariants as entry
use Rattle.kts_check.specs.declared.kind.Kind.{Kind}
use Rattle.kts_check.specs.declared.kind.Kind.TheVariants.{Whole, Member}
use Rattle.kts_check.specs.declared.phrase.Phrases.{Phrases}
use Rattle.kts_check.specs.declared.phrase.Phrase.{Phrase}
use Rattle.kts_check.specs.declared.phrase.Phrase.TheVariants.{Value, Truth}
use Rattle.kts_check.proofs.Inversions.{ok_is, test_ok, some_is, kind_shown}
use Rattle.kts_check.proofs.RuleTests.{within_if, variable_if, unbound_if}
use Rattle.kts_check.proofs.WellTyped.{type_shown}

measured_if : (at : ℕ) (t : Term) (range : Option Range) (s : Phrase) → limited_term at t range ≡ Ok s → (w : Range) × (range ≡ Some w) × (Value t (Whole w.0 w.1) ≡ s) × HasLimitedEnds w
measured_if at t None s e = absurd cc
measured_if at t (Some w) s e =
    let tested = test_ok (is_limited w.0 && is_limited w.1) (Ok (Value t (Whole w.0 w.1))) _ s e in
    (w, refl, ok_is (Value t (Whole w.0 w.1)) s tested.1, within_if w tested.0)

between_if : (n : ℕ) → is_between 2 most_parts n ≡ true → (2 ≤ n) × (n ≤ most_parts)
between_if n e = let h = and_parts (nat_le 2 n) (nat_le n most_parts) e in let low = h.0 in let high = h.1 in (grind (arith, nat_tests), grind (arith, nat_tests))

module _ (d : Declarations) (own : List ℕ) where
  -- what an expression says in a role follows the rules
  abbrev pub Follows : Role → Scope → Way → Expr → Phrase → Type 0
  Follows role.Binder scope way e s = ⊥
  Follows role.Term scope way e (Value t k) = IsTerm d own scope e t (kind_shown k)
  Follows role.Term scope way e (Truth p) = ⊥
  Follows role.Formula scope way e (Value t k) = ⊥
  Follows role.Formula scope way e (Truth p) = IsFormula d own scope way e p

  -- a term that the checker measured
  pub by_measure : (scope : Scope) (way : Way) (e : Expr) (at : ℕ) (t : Term) (range : Option Range) (s : Phrase) → limited_term at t range ≡ Ok s
      → ((w : Range) → range ≡ Some w → HasLimitedEnds w → IsTerm d own scope e t (WholeOf w)) → Follows role.Term scope way e s
  by_measure scope way e at t range s is make =
      let m = measured_if at t range s is in subst (Follows role.Term scope way e) m.2 (make m.0 m.1 m.3)

  module _ (scope : Scope) where
    -- parts are terms
    pub data AreTerms : List Expr → List Term → List Kind → Type 0 where
      no_term : AreTerms [] [] []
      one_term : {e : Expr} {t : Term} {k : Kind} {es : List Expr} {ts : List Term} {ks : List Kind} → IsTerm d own scope e t (kind_shown k) → AreTerms es ts ks → AreTerms (e ∷ es) (t ∷ ts) (k ∷ ks)

  pub term_more : (scope : Scope) (way : Way) (e : Expr) (es : List Expr) (s : Phrase) (phrases : Phrases) → Follows role.Term scope way e s → AreTerms scope es phrases.terms phrases.kinds
      → AreTerms scope (e ∷ es) (with_part s phrases).terms (with_part s phrases).kinds
  term_more scope way e es (Value t k) phrases h more = one_term h more
  term_more scope way e es (Truth p) phrases h more = absurd h

  pub formula_more : (scope : Scope) (way : Way) (e : Expr) (es : List Expr) (s : Phrase) (phrases : Phrases) → Follows role.Formula scope way e s → AreFormulas d own scope way es phrases.formulas
      → AreFormulas d own scope way (e ∷ es) (with_part s phrases).formulas
  formula_more scope way e es (Value t k) phrases h more = absurd h
  formula_more scope way e es (Truth p) phrases h more = one_formula h more

  as_many : {scope : Scope} {es : List Expr} {ts : List Term} {ks : List Kind} → AreTerms scope es ts ks → length ts ≡ length es
  as_many no_term = refl
  as_many (one_term h more) = ap suc (as_many more)

  pub as_many_formulas : {scope : Scope} {way : Way} {es : List Expr} {ps : List Formula} → AreFormulas d own scope way es ps → length ps ≡ length es
  as_many_formulas no_formula = refl
  as_many_formulas (one_formula h more) = ap suc (as_many_formulas more)

  -- ---- terms

  whole_if : {scope : Scope} {es : List Expr} {ts : List Term} {ks : List Kind} → AreTerms scope es ts ks → (r q : Range) → total_from r ks ≡ Some q → (ws : List Range) × AreWhole d own scope es ts ws × (fold sum_range r ws ≡ q)
  whole_if no_term r q e = ([], no_part, some_is r q e)
  whole_if (one_term {k = Whole a b} h more) r q e =
      let rest = whole_if more (sum_range r (a, b)) q e in ((a, b) ∷ rest.0, part h rest.1, rest.2)
  whole_if (one_term {k = Member i} h more) r q e = absurd cc

  pub plus_if : (scope : Scope) (way : Way) (at : ℕ) (es : List Expr) (ts : List Term) (ks : List Kind) (s : Phrase) → AreTerms scope es ts ks → addition_phrase at ts ks ≡ Ok s → Follows role.Term scope way (written at Add [] es) s
  unfolding addition_phrase total
  plus_if scope way at es ts ks s all e =
      let tested = test_ok (is_between 2 most_parts (length ts)) (limited_term at (term.Add ts) (total ks)) _ s e in
      let size = subst (λ (n : ℕ). (2 ≤ n) × (n ≤ most_parts)) (as_many all) (between_if (length ts) tested.0) in
      by_measure scope way (written at Add [] es) at (term.Add ts) (total ks) s tested.1
      (λ w is within. let whole = whole_if all (pos 0, pos 0) w is in
      subst (λ (w : Range). IsTerm d own scope (written at Add [] es) (term.Add ts) (WholeOf w)) whole.2 (IsTerm.plus at whole.1 size.0 size.1 (subst HasLimitedEnds (sym whole.2) within)))

  two_if : (scope : Scope) (Goal : List Expr → List Term → Range → Type 0) (f : Range → Range → Range)
      → ((a b : Expr) (s t : Term) (v w : Range) → IsTerm d own scope a s (WholeOf v) → IsTerm d own scope b t (WholeOf w) → Goal (a ∷ b ∷ []) (s ∷ t ∷ []) (f v w))
      → {es : List Expr} {ts : List Term} {ks : List Kind} → AreTerms scope es ts ks → (q : Range) → two f ks ≡ Some q → Goal es ts q
  unfolding two_wholes
  two_if scope Goal f make no_term q e = absurd cc
  two_if scope Goal f make (one_term h no_term) q e = absurd cc
  two_if scope Goal f make (one_term {e = a} {t = s} {k = Whole v w} h (one_term {e = b} {t = t} {k = Whole x y} j no_term)) q e =
      subst (Goal (a ∷ b ∷ []) (s ∷ t ∷ [])) (some_is (f (v, w) (x, y)) q e) (make a b s t (v, w) (x, y) h j)
  two_if scope Goal f make (one_term {k = Whole v w} h (one_term {k = Member i} j no_term)) q e = absurd cc
  two_if scope Goal f make (one_term {k = Member i} h (one_term j no_term)) q e = absurd cc
  two_if scope Goal f make (one_term h (one_term j (one_term l more))) q e = absurd cc

  -- an operation on two whole numbers
  pub operation_if : (scope : Scope) (way : Way) (at : ℕ) (head : Head) (make : List Term → Term) (f : Range → Range → Range) (es : List Expr) (ts : List Term) (ks : List Kind) (s : Phrase)
      → ((a b : Expr) (s t : Term) (v w : Range) → IsTerm d own scope a s (WholeOf v) → IsTerm d own scope b t (WholeOf w) → HasLimitedEnds (f v w)
      → IsTerm d own scope (written at head [] (a ∷ b ∷ [])) (make (s ∷ t ∷ [])) (WholeOf (f v w)))
      → AreTerms scope es ts ks → limited_term at (make ts) (two f ks) ≡ Ok s → Follows role.Term scope way (written at head [] es) s
  operation_if scope way at head make f es ts ks s rule all e =
      by_measure scope way (written at head [] es) at (make ts) (two f ks) s e
      (λ w is within. two_if scope (λ es ts w. HasLimitedEnds w → IsTerm d own scope (written at head [] es) (make ts) (WholeOf w)) f rule all w is within)

  members_if : {scope : Scope} {es : List Expr} {ts : List Term} {ks : List Kind} → AreTerms scope es ts ks → (is : List ℕ) → are_members is ks ≡ true → AreMembers d own scope es ts is
  unfolding are_members
  members_if no_term [] e = no_argument
  members_if no_term (i ∷ is) e = absurd cc
  members_if (one_term h more) [] e = absurd cc
  members_if (one_term {k = Whole a b} h more) (i ∷ is) e = absurd cc
  members_if {scope} (one_term {e = x} {t = t} {k = Member j} {ks = ks} h more) (i ∷ is) e =
      let both = and_parts (nat_eq i j) (are_members is ks) e in
      let same : j ≡ i = (let h = both.0 in grind (arith, nat_tests)) in
      argument (subst (λ (k : ℕ). IsTerm d own scope x t (MemberOf k)) same h) (members_if more is both.1)

  access_if : (scope : Scope) (way : Way) (e : Expr) (at : ℕ) (es : List Expr) (t : Term) (ts : List Term) (ks : List Kind) (found : Option Family) (s : Phrase)
      → ((family : Family) → found ≡ Some family → AreMembers d own scope es ts family.args → IsTerm d own scope e t (kind_of_type family.kind))
      → AreTerms scope es ts ks → access_phrase at t found ks ≡ Ok s → Follows role.Term scope way e s
  unfolding access_phrase
  access_if scope way e at es t ts ks None s make all is = absurd cc
  access_if scope way e at es t ts ks (Some family) s make all is =
      let tested = test_ok (length ks == length family.args) _ _ s is in
      let members = test_ok (are_members family.args ks) (Ok (Value t (kind_of family.kind))) _ s tested.1 in
      subst (Follows role.Term scope way e) (ok_is (Value t (kind_of family.kind)) s members.1)
      (subst (IsTerm d own scope e t) (type_shown family.kind) (make family refl (members_if all family.args members.0)))

  -- a name that is used
  pub use_if : (scope : Scope) (way : Way) (at : ℕ) (word : Word) (es : List Expr) (ts : List Term) (ks : List Kind) (o : Option (ℕ × ℕ)) (en : Option Entry) (p : Context) (s : Phrase)
      → variable scope word.name ≡ o → entry_of d.names word.name ≡ en → reference_context word.at (length es == 0) o en scope ≡ Ok p → AreTerms scope es ts ks → reference_of d at word.at o en ts ks ≡ Ok s
      → Follows role.Term scope way (written at (Use word) [] es) s
  unfolding reference_context reference_of reference reference_phrase
  use_if scope way at word [] ts ks (Some (k, i)) en p s v n u all e =
      let there = variable_if scope word.name 0 k i v in
      let number : there.0 ≡ k = (let h = there.1 in omega arith) in
      subst (Follows role.Term scope way (written at (Use word) [] [])) (ok_is (Value (term.Var k) (Member i)) s e)
      (IsTerm.variable at word (subst (λ (n : ℕ). IsVariable scope word.name n i) number there.2))
  use_if scope way at word (x ∷ es) ts ks (Some v) en p s is n u all e =
      let some : (length (x ∷ es) == 0) ≡ false = grind (arith, nat_tests) in let h = rw some at u in absurd (cc)
  use_if scope way at word es ts ks None None p s v n u all e = absurd cc
  use_if scope way at word es ts ks None (Some (entry.Index i)) p s v n u all e = absurd cc
  use_if scope way at word es ts ks None (Some entry.Formula) p s v n u all e = absurd cc
  use_if scope way at word es ts ks None (Some (entry.Given f)) p s v n u all e =
      access_if scope way (written at (Use word) [] es) at es (term.Given f ts) ts ks _ s (λ family found members. IsTerm.given at word (unbound_if scope word.name 0 v) n found members) all e
  use_if scope way at word es ts ks None (Some (entry.Choice x)) p s v n u all e =
      access_if scope way (written at (Use word) [] es) at es (term.Choice x ts) ts ks _ s (λ family found members. IsTerm.choice at word (unbound_if scope word.name 0 v) n found members) all e

  pub sum_if : (scope : Scope) (way : Way) (at : ℕ) (b : Binder) (x y : Expr) (variables : Scope) (r q s : Phrase) → Binds d own scope None (b ∷ []) variables
      → Follows role.Formula (scope ++ variables) None x r → Follows role.Term (scope ++ variables) None y q
      → (let phrases = with_part r (with_part q no_phrases) in sum_phrase at (map (λ (v : List ℕ × ℕ). v.1) variables) phrases.formulas phrases.terms phrases.kinds ≡ Ok s) → Follows role.Term scope way (written at Sum (b ∷ []) (x ∷ y ∷ [])) s
  unfolding sum_phrase only range_of_sum
  sum_if scope way at b x y [] r q s binds f t e = absurd cc
  sum_if scope way at b x y (v ∷ w ∷ vs) r q s binds f t e = absurd cc
  sum_if scope way at b x y (v ∷ []) (Value t k) q s binds f h e = absurd f
  sum_if scope way at b x y (v ∷ []) (Truth p) (Truth r) s binds f h e = absurd h
  sum_if scope way at b x y (v ∷ []) (Truth p) (Value t (Member i)) s binds f h e = absurd cc
  sum_if scope way at b x y ((name, i) ∷ []) (Truth p) (Value t (Whole low high)) s binds f h e =
      let goal = written at Sum (b ∷ []) (x ∷ y ∷ []) in
      by_measure scope way goal at (term.Sum i p t) (Some (sum_over_range (low, high))) s e
      (λ w is within. let same = some_is (sum_over_range (low, high)) w is in
      subst (λ (w : Range). IsTerm d own scope goal (term.Sum i p t) (WholeOf w)) same (IsTerm.sum at binds f h (subst HasLimitedEnds (sym same) within)))

  -- ---- formulas

  compared_if : (scope : Scope) (way : Way) (e : Expr) (at : ℕ) (a b : Term) (o : Option Comparison) (s : Phrase) → comparison_by at o a b ≡ Ok s
      → ((c : Comparison) → o ≡ Some c → IsFormula d own scope way e (formula.Compare c a b)) → Follows role.Formula scope way e s
  compared_if scope way e at a b None s is make = absurd cc
  compared_if scope way e at a b (Some c) s is make = subst (Follows role.Formula scope way e) (ok_is (Truth (formula.Compare c a b)) s is) (make c refl)

  pub comparison_if : (scope : Scope) (way : Way) (at : ℕ) (head : Head) (s : Phrase) {es : List Expr} {ts : List Term} {ks : List Kind}
      → ((c : Comparison) → of_wholes head ≡ Some c → OfNumbers head c) → ((c : Comparison) → of_members head ≡ Some c → OfMembers head c)
      → AreTerms scope es ts ks → comparison_phrase at head ts ks ≡ Ok s → Follows role.Formula scope way (written at head [] es) s
  unfolding comparison_phrase both comparison_of
  comparison_if scope way at head s wholes members no_term e = absurd cc
  comparison_if scope way at head s wholes members (one_term h no_term) e = absurd cc
  comparison_if scope way at head s wholes members (one_term {e = x} {t = a} {k = Whole l m} h (one_term {e = y} {t = b} {k = Whole u v} j no_term)) e =
      compared_if scope way (written at head [] (x ∷ y ∷ [])) at a b (of_wholes head) s e (λ c is. IsFormula.numbers at (wholes c is) h j)
  comparison_if scope way at head s wholes members (one_term {k = Whole l m} h (one_term {k = Member i} j no_term)) e = absurd cc
  comparison_if scope way at head s wholes members (one_term {k = Member i} h (one_term {k = Whole u v} j no_term)) e = absurd cc
  comparison_if scope way at head s wholes members (one_term {e = x} {t = a} {k = Member i} h (one_term {e = y} {t = b} {k = Member k} j no_term)) e = by (nat_eq i k) refl e
    where
      by : (r : Bool) → nat_eq i k ≡ r → comparison_by at (if r then of_members head else None) a b ≡ Ok s → Follows role.Formula scope way (written at head [] (x ∷ y ∷ [])) s
      by false is e = absurd cc
      by true is e =
          let same : k ≡ i = grind (arith, nat_tests) in
          compared_if scope way (written at head [] (x ∷ y ∷ [])) at a b (of_members head) s e
          (λ c is. IsFormula.members at (members c is) h (subst (λ (i : ℕ). IsTerm d own scope y b (MemberOf i)) same j))
  comparison_if scope way at head s wholes members (one_term h (one_term j (one_term l more))) e = absurd cc

  pub and_if : (scope : Scope) (way : Way) (at : ℕ) (es : List Expr) (ps : List Formula) (s : Phrase) → AreFormulas d own scope way es ps → connective_phrase at true ps ≡ Ok s → Follows role.Formula scope way (written at And [] es) s
  unfolding connective_phrase
  and_if scope way at es ps s all e =
      let tested = test_ok (nat_le 2 (length ps)) (Ok (Truth (formula.And ps))) _ s e in
      let low : 2 ≤ length es = (let h = tested.0 in let n = as_many_formulas all in grind (arith, nat_tests)) in
      subst (Follows role.Formula scope way (written at And [] es)) (ok_is (Truth (formula.And ps)) s tested.1) (IsFormula.conjunction at all low)

  pub or_if : (scope : Scope) (way : Way) (at : ℕ) (es : List Expr) (ps : List Formula) (s : Phrase) → AreFormulas d own scope None es ps → connective_phrase at false ps ≡ Ok s → Follows role.Formula scope way (written at Or [] es) s
  unfolding connective_phrase
  or_if scope way at es ps s all e =
      let tested = test_ok (nat_le 2 (length ps)) (Ok (Truth (formula.Or ps))) _ s e in
      let low : 2 ≤ length es = (let h = tested.0 in let n = as_many_formulas all in grind (arith, nat_tests)) in
      subst (Follows role.Formula scope way (written at Or [] es)) (ok_is (Truth (formula.Or ps)) s tested.1) (IsFormula.disjunction at all low)

  pub not_if : (scope : Scope) (way : Way) (at : ℕ) (s : Phrase) {es : List Expr} {ps : List Formula} → AreFormulas d own scope None es ps → negation_phrase at ps ≡ Ok s → Follows role.Formula scope way (written at Not [] es) s
  unfolding negation_phrase only
  not_if scope way at s no_formula e = absurd cc
  not_if scope way at s (one_formula {e = x} {p = p} h no_formula) e = subst (Follows role.Formula scope way (written at Not [] (x ∷ []))) (ok_is (Truth (formula.Not p)) s e) (IsFormula.negation at h)
  not_if scope way at s (one_formula h (one_formula j more)) e = absurd cc

  pub implies_if : (scope : Scope) (way : Way) (at : ℕ) (s : Phrase) {es : List Expr} {ps : List Formula} → AreFormulas d own scope None es ps → implication_phrase at ps ≡ Ok s → Follows role.Formula scope way (written at Implies [] es) s
  unfolding implication_phrase both
  implies_if scope way at s no_formula e = absurd cc
  implies_if scope way at s (one_formula h no_formula) e = absurd cc
  implies_if scope way at s (one_formula {e = x} {p = p} h (one_formula {e = y} {p = q} j no_formula)) e =
      subst (Follows role.Formula scope way (written at Implies [] (x ∷ y ∷ []))) (ok_is (Truth (formula.Implies p q)) s e) (IsFormula.implication at h j)
  implies_if scope way at s (one_formula h (one_formula j (one_formula l more))) e = absurd cc

  -- what stands after binders
  pub body_if : (scope : Scope) (way inner : Way) (head : Head) (at : ℕ) (bs : List Binder) (x : Expr) (variables : Scope) (make : List ℕ → Formula → Formula) (r s : Phrase)
      → ((p : Formula) → 1 ≤ length variables → IsFormula d own (scope ++ variables) inner x p → IsFormula d own scope way (written at head bs (x ∷ [])) (make (map (λ (v : List ℕ × ℕ). v.1) variables) p))
      → Follows role.Formula (scope ++ variables) inner x r
      → (let is = map (λ (v : List ℕ × ℕ). v.1) variables in and_then (binder_body at is (with_part r no_phrases).formulas) (λ q. Ok (Truth (make is q))) ≡ Ok s)
      → Follows role.Formula scope way (written at head bs (x ∷ [])) s
  unfolding binder_body only
  body_if scope way inner head at bs x variables make (Value t k) s rule h e = absurd h
  body_if scope way inner head at bs x [] make (Truth p) s rule h e = absurd cc
  body_if scope way inner head at bs x (v ∷ vs) make (Truth p) s rule h e =
      subst (Follows role.Formula scope way (written at head bs (x ∷ []))) (ok_is (Truth (make (map (λ (v : List ℕ × ℕ). v.1) (v ∷ vs)) p)) s e) (rule p (omega arith) h)
