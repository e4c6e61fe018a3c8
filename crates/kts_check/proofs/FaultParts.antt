-- The faults that the checker gives of a tree whose parts are well typed are those of the rules of faults.
use Rattle.std.proofs.Common.{◌≡◌, refl, ap, subst, ℕ, suc, ◌≤◌, pos, List, [], ◌∷◌, ◌++◌, length, fold, map, Bool, true, false, ◌&&◌, Option, None, Some, if◌then◌else◌, Ok, Err, nat_eq, nat_le, arith}
use Rattle.std.specs.Prelude.{◌==◌}
use Rattle.std.proofs.lemmas.Bool.{and_from}
use Rattle.std.proofs.lemmas.Bool.Decides.{nat_tests}
use Rattle.kts_base.specs.Names.{is_between}
use Rattle.kts_base.specs.Reads.{and_then}
use Rattle.kts_spec.specs.Ranges.{Range, sum_range, sum_over_range}
use Rattle.kts_spec.specs.Typing.{MemberOf}
use Rattle.kts_spec.specs.declared.declarations.Family.{Family}
use Rattle.kts_base.specs.Limits.{most_parts}
use Rattle.kts_spec.specs.declared.tree.Comparison.{Comparison}
use Rattle.kts_spec.specs.declared.tree.Formula.{Formula}
use Rattle.kts_spec.specs.declared.tree.Term.{Term}
use Rattle.kts_spec.specs.declared.tree.Term.TheVariants as term
use Rattle.kts_syntax.specs.declared.expr.Expr.{Expr}
use Rattle.kts_syntax.specs.declared.head.Head.{Head}
use Rattle.kts_syntax.specs.declared.head.Head.TheVariants.{Add, Sum, Use}
use Rattle.kts_syntax.specs.declared.layout.Role.TheVariants as role
use Rattle.kts_syntax.specs.declared.word.Word.{Word}
use Rattle.kts_check.specs.Faults.{fault, fail}
use Rattle.kts_check.specs.Faulty.{IsArithmetic, HasRange, IsOrder, IsEquality, AreAlike, StandsFor, AllTerms, AreMixed, AreAmiss, RuleFault}
use Rattle.kts_check.specs.Declarations.{Declarations}
use Rattle.kts_check.specs.Measures.{limited_term, total, total_from, two, two_wholes, range_of_sum, kind_of, is_limited, are_members, is_member}
use Rattle.kts_check.specs.Rules.{Binder, written, Way, HasLimitedEnds, Binds, IsTerm, AreWhole, AreFormulas, no_part, part, no_formula, one_formula}
use Rattle.kts_check.specs.Scopes.{Scope}
use Rattle.kts_check.specs.Trees.{with_part, no_phrases, access_phrase, of_wholes, of_members, comparison_of, addition_phrase, connective_phrase, only, both, comparison_by, comparison_phrase, sum_phrase, negation_phrase, implication_phrase, binder_body}
use Rattle.kts_check.specs.Faults.{SpecFault}
use Rattle.kts_check.specs.declared.fault.SpecKind.TheVariants.{WrongKind, WrongCount, Unbounded}
use Rattle.kts_check.specs.declared.kind.Kind.{Kind}
use Rattle.kts_check.specs.declared.kind.Kind.TheVariants.{Whole, Member}
use Rattle.kts_check.specs.declared.phrase.Phrase.{Phrase}
use Rattle.kts_check.specs.declared.phrase.Phrase.TheVariants.{Value, Truth}
use Rattle.kts_check.proofs.Inversions.{some_is, kind_shown}
use Rattle.kts_check.proofs.FaultBinders.{err_is}
use Rattle.kts_base.proofs.Orders.{yes_nat_le}
use Rattle.kts_check.proofs.RuleParts.{Follows, AreTerms, no_term, one_term, as_many_formulas}
use Rattle.kts_check.proofs.RuleTests.{within_then}

-- a fault of a measure
pub measured_found : (at : ℕ) (t : Term) (o : Option Range) (f : SpecFault) (P : SpecFault → Type 0) → limited_term at t o ≡ Err f
    → (o ≡ None → P (fault WrongKind at)) → ((w : Range) → o ≡ Some w → (HasLimitedEnds w → ⊥) → P (fault (Unbounded w.0 w.1) at)) → P f
measured_found at t None f P e none wide = subst P (err_is {A = Phrase} (fault WrongKind at) f e) (none refl)
measured_found at t (Some w) f P e none wide = by (is_limited w.0 && is_limited w.1) refl e
  where
    by : (b : Bool) → (is_limited w.0 && is_limited w.1) ≡ b → (if b then Ok (Value t (Whole w.0 w.1)) else fail (Unbounded w.0 w.1) at) ≡ Err f → P f
    by true is e = absurd cc
    by false is e = subst P (err_is {A = Phrase} (fault (Unbounded w.0 w.1) at) f e) (wide w refl (λ h. let yes = within_then w h in cc))

unlike : (k : Kind) (i : ℕ) → is_member i k ≡ false → kind_shown k ≡ MemberOf i → ⊥
unlike (Whole a b) i e same = cc
unlike (Member j) i e same = let number : j ≡ i = cc in let yes : nat_eq i j ≡ true = grind (arith, nat_tests) in cc

member_is : (k : Kind) (i : ℕ) → is_member i k ≡ true → kind_shown k ≡ MemberOf i
member_is (Whole a b) i e = absurd cc
member_is (Member j) i e = let same : j ≡ i = grind (arith, nat_tests) in ap MemberOf same

module _ (d : Declarations) (own : List ℕ) where
  -- ---- parts that are terms

  typed_if : {scope : Scope} {es : List Expr} {ts : List Term} {ks : List Kind} → AreTerms d own scope es ts ks → AllTerms d own scope es
  typed_if no_term = AllTerms.no_term
  typed_if (one_term h more) = AllTerms.one_term h (typed_if more)

  terms_count : {scope : Scope} {es : List Expr} {ts : List Term} {ks : List Kind} → AreTerms d own scope es ts ks → length ts ≡ length es
  terms_count no_term = refl
  terms_count (one_term h more) = ap suc (terms_count more)

  kinds_count : {scope : Scope} {es : List Expr} {ts : List Term} {ks : List Kind} → AreTerms d own scope es ts ks → length ks ≡ length es
  kinds_count no_term = refl
  kinds_count (one_term h more) = ap suc (kinds_count more)

  mixed_if : {scope : Scope} {es : List Expr} {ts : List Term} {ks : List Kind} → AreTerms d own scope es ts ks → (r : Range) → total_from r ks ≡ None → AreMixed d own scope es
  mixed_if no_term r e = absurd cc
  mixed_if (one_term {k = Whole a b} h more) r e = AreMixed.whole h (mixed_if more (sum_range r (a, b)) e)
  mixed_if (one_term {k = Member i} h more) r e = AreMixed.member h (typed_if more)

  whole_if : {scope : Scope} {es : List Expr} {ts : List Term} {ks : List Kind} → AreTerms d own scope es ts ks → (r q : Range) → total_from r ks ≡ Some q
      → (ws : List Range) × AreWhole d own scope es ts ws × (fold sum_range r ws ≡ q)
  whole_if no_term r q e = ([], no_part, some_is r q e)
  whole_if (one_term {k = Whole a b} h more) r q e =
      let rest = whole_if more (sum_range r (a, b)) q e in ((a, b) ∷ rest.0, part h rest.1, rest.2)
  whole_if (one_term {k = Member i} h more) r q e = absurd cc

  amiss_if : {scope : Scope} {es : List Expr} {ts : List Term} {ks : List Kind} → AreTerms d own scope es ts ks → (is : List ℕ) → length ks ≡ length is → are_members is ks ≡ false → AreAmiss d own scope es is
  unfolding are_members
  amiss_if no_term [] n e = absurd cc
  amiss_if no_term (i ∷ is) n e = absurd (omega arith)
  amiss_if (one_term h more) [] n e = absurd (omega arith)
  amiss_if {scope} (one_term {e = x} {t = t} {k = k} {es = es} {ks = ks} h more) (i ∷ is) n e = by (is_member i k) refl e (λ f. amiss_if more is (omega arith) f)
    where
      by : (b : Bool) → is_member i k ≡ b → (b && are_members is ks) ≡ false → (are_members is ks ≡ false → AreAmiss d own scope es is) → AreAmiss d own scope (x ∷ es) (i ∷ is)
      by true is e rest = AreAmiss.right (subst (IsTerm d own scope x t) (member_is k i is) h) (rest e)
      by false is e rest = AreAmiss.wrong h (unlike k i is) (typed_if more) (let c = kinds_count more in omega arith)

  -- ---- trees

  module _ (scope : Scope) (at : ℕ) (f : SpecFault) where
    pub access_found : (word : Word) (family : Family) (es : List Expr) (t : Term) (ts : List Term) (ks : List Kind) → StandsFor d scope word.name family → AreTerms d own scope es ts ks
        → access_phrase at t (Some family) ks ≡ Err f → RuleFault d own scope (written at (Use word) [] es) f
    unfolding access_phrase
    access_found word family es t ts ks stands all e = by (length ks == length family.args) (are_members family.args ks) refl refl e
      where
        by : (b c : Bool) → (length ks == length family.args) ≡ b → are_members family.args ks ≡ c
            → (if b then (if c then Ok (Value t (kind_of family.kind)) else fail WrongKind at) else fail WrongCount at) ≡ Err f → RuleFault d own scope (written at (Use word) [] es) f
        by false c n m e =
            subst (RuleFault d own scope (written at (Use word) [] es)) (err_is {A = Phrase} (fault WrongCount at) f e)
            (RuleFault.count at word stands (typed_if all) (λ same. let k = kinds_count all in let yes : (length ks == length family.args) ≡ true = grind (arith, nat_tests) in cc))
        by true true n m e = absurd cc
        by true false n m e =
            subst (RuleFault d own scope (written at (Use word) [] es)) (err_is {A = Phrase} (fault WrongKind at) f e)
            (RuleFault.argument at word stands (amiss_if all family.args (grind (arith, nat_tests)) m))

    pub plus_found : (es : List Expr) (ts : List Term) (ks : List Kind) → AreTerms d own scope es ts ks → 2 ≤ length es → length es ≤ most_parts → addition_phrase at ts ks ≡ Err f → RuleFault d own scope (written at Add [] es) f
    unfolding addition_phrase total
    plus_found es ts ks all low high e =
        let size = terms_count all in
        let count : is_between 2 most_parts (length ts) ≡ true = and_from _ _ (yes_nat_le 2 (length ts) (omega arith)) (yes_nat_le (length ts) most_parts (omega arith)) in
        measured_found at (term.Add ts) (total_from (pos 0, pos 0) ks) f (RuleFault d own scope (written at Add [] es)) (rw count at e)
        (λ none. RuleFault.operand at IsArithmetic.plus (mixed_if all (pos 0, pos 0) none) low high)
        (λ w is wide. let whole = whole_if all (pos 0, pos 0) w is in
        subst (λ (w : Range). (HasLimitedEnds w → ⊥) → RuleFault d own scope (written at Add [] es) (fault (Unbounded w.0 w.1) at)) whole.2 (λ wide. RuleFault.range at whole.1 low high HasRange.plus wide) wide)

    -- an operation on two parts
    pub operation_found : (head : Head) (make : List Term → Term) (g : Range → Range → Range) → IsArithmetic head → ((v w : Range) → HasRange head (v ∷ w ∷ []) (g v w))
        → {es : List Expr} {ts : List Term} {ks : List Kind} → AreTerms d own scope es ts ks → length es ≡ 2 → limited_term at (make ts) (two g ks) ≡ Err f → RuleFault d own scope (written at head [] es) f
    unfolding two_wholes
    operation_found head make g arithmetic has no_term n e = absurd (omega arith)
    operation_found head make g arithmetic has (one_term h no_term) n e = absurd (omega arith)
    operation_found head make g arithmetic has (one_term h (one_term j (one_term l more))) n e = absurd (omega arith)
    operation_found head make g arithmetic has (one_term {e = a} {t = s} {k = Whole v w} h (one_term {e = b} {t = t} {k = Whole x y} j no_term)) n e =
        measured_found at (make (s ∷ t ∷ [])) (Some (g (v, w) (x, y))) f (RuleFault d own scope (written at head [] (a ∷ b ∷ []))) e (λ none. absurd cc)
        (λ r is wide. subst (λ (r : Range). (HasLimitedEnds r → ⊥) → RuleFault d own scope (written at head [] (a ∷ b ∷ [])) (fault (Unbounded r.0 r.1) at)) (some_is (g (v, w) (x, y)) r is)
        (λ wide. RuleFault.range at (part h (part j no_part)) (omega arith) (omega arith) (has (v, w) (x, y)) wide) wide)
    operation_found head make g arithmetic has (one_term {e = a} {k = Whole v w} h (one_term {e = b} {k = Member i} j no_term)) n e =
        subst (RuleFault d own scope (written at head [] (a ∷ b ∷ []))) (err_is {A = Phrase} (fault WrongKind at) f e)
        (RuleFault.operand at arithmetic (AreMixed.whole h (AreMixed.member j AllTerms.no_term)) (omega arith) (omega arith))
    operation_found head make g arithmetic has (one_term {e = a} {k = Member i} h (one_term {e = b} {k = Whole x y} j no_term)) n e =
        subst (RuleFault d own scope (written at head [] (a ∷ b ∷ []))) (err_is {A = Phrase} (fault WrongKind at) f e)
        (RuleFault.operand at arithmetic (AreMixed.member h (AllTerms.one_term j AllTerms.no_term)) (omega arith) (omega arith))
    operation_found head make g arithmetic has (one_term {e = a} {k = Member i} h (one_term {e = b} {k = Member k} j no_term)) n e =
        subst (RuleFault d own scope (written at head [] (a ∷ b ∷ []))) (err_is {A = Phrase} (fault WrongKind at) f e)
        (RuleFault.operand at arithmetic (AreMixed.member h (AllTerms.one_term j AllTerms.no_term)) (omega arith) (omega arith))

    pub sum_found : (b : Binder) (x y : Expr) (variables : Scope) (r q : Phrase) → Binds d own scope None (b ∷ []) variables
        → Follows d own role.Formula (scope ++ variables) None x r → Follows d own role.Term (scope ++ variables) None y q
        → (let phrases = with_part r (with_part q no_phrases) in sum_phrase at (map (λ (v : List ℕ × ℕ). v.1) variables) phrases.formulas phrases.terms phrases.kinds ≡ Err f) → RuleFault d own scope (written at Sum (b ∷ []) (x ∷ y ∷ [])) f
    unfolding sum_phrase only range_of_sum
    sum_found b x y [] r q (binds) h j e = elim binds [ ]
    sum_found b x y (v ∷ w ∷ vs) r q (Binds.binder free declared few room more) h j e = elim more [ ]
    sum_found b x y (v ∷ []) (Value t k) q binds h j e = absurd h
    sum_found b x y (v ∷ []) (Truth p) (Truth r) binds h j e = absurd j
    sum_found b x y ((name, i) ∷ []) (Truth p) (Value t (Member k)) binds h j e =
        subst (RuleFault d own scope (written at Sum (b ∷ []) (x ∷ y ∷ []))) (err_is {A = Phrase} (fault WrongKind at) f e) (RuleFault.sum_phrase at binds h j)
    sum_found b x y ((name, i) ∷ []) (Truth p) (Value t (Whole low high)) binds h j e =
        measured_found at (term.Sum i p t) (Some (sum_over_range (low, high))) f (RuleFault d own scope (written at Sum (b ∷ []) (x ∷ y ∷ []))) e (λ none. absurd cc)
        (λ w is wide. subst (λ (w : Range). (HasLimitedEnds w → ⊥) → RuleFault d own scope (written at Sum (b ∷ []) (x ∷ y ∷ [])) (fault (Unbounded w.0 w.1) at)) (some_is (sum_over_range (low, high)) w is)
        (λ wide. RuleFault.sum_range at binds h j wide) wide)

    wrong_kind : (e : Expr) → fail {A = Phrase} WrongKind at ≡ Err f → RuleFault d own scope e (fault WrongKind at) → RuleFault d own scope e f
    wrong_kind x e h = subst (RuleFault d own scope x) (err_is {A = Phrase} (fault WrongKind at) f e) h

    pub order_found : (head : Head) → IsOrder head → {es : List Expr} {ts : List Term} {ks : List Kind} → AreTerms d own scope es ts ks → length es ≡ 2 → comparison_phrase at head ts ks ≡ Err f → RuleFault d own scope (written at head [] es) f
    unfolding comparison_phrase both comparison_of of_wholes
    order_found head order no_term n e = absurd (omega arith)
    order_found head order (one_term h no_term) n e = absurd (omega arith)
    order_found head order (one_term h (one_term j (one_term l more))) n e = absurd (omega arith)
    order_found head IsOrder.le (one_term {k = Whole v w} h (one_term {k = Whole x y} j no_term)) n e = absurd cc
    order_found head IsOrder.lt (one_term {k = Whole v w} h (one_term {k = Whole x y} j no_term)) n e = absurd cc
    order_found head IsOrder.ge (one_term {k = Whole v w} h (one_term {k = Whole x y} j no_term)) n e = absurd cc
    order_found head IsOrder.gt (one_term {k = Whole v w} h (one_term {k = Whole x y} j no_term)) n e = absurd cc
    order_found head order (one_term {e = a} {k = Whole v w} h (one_term {e = b} {k = Member i} j no_term)) n e =
        wrong_kind (written at head [] (a ∷ b ∷ [])) e (RuleFault.order at order (AreMixed.whole h (AreMixed.member j AllTerms.no_term)))
    order_found head order (one_term {e = a} {k = Member i} h (one_term {e = b} {k = Whole x y} j no_term)) n e =
        wrong_kind (written at head [] (a ∷ b ∷ [])) e (RuleFault.order at order (AreMixed.member h (AllTerms.one_term j AllTerms.no_term)))
    order_found head order (one_term {e = a} {t = s} {k = Member i} h (one_term {e = b} {t = t} {k = Member k} j no_term)) n e = by (if nat_eq i k then of_members head else None) e
      where
        by : (o : Option Comparison) → comparison_by at o s t ≡ Err f → RuleFault d own scope (written at head [] (a ∷ b ∷ [])) f
        by None e = wrong_kind (written at head [] (a ∷ b ∷ [])) e (RuleFault.order at order (AreMixed.member h (AllTerms.one_term j AllTerms.no_term)))
        by (Some c) e = absurd cc

    pub equality_found : (head : Head) → IsEquality head → {es : List Expr} {ts : List Term} {ks : List Kind} → AreTerms d own scope es ts ks → length es ≡ 2 → comparison_phrase at head ts ks ≡ Err f → RuleFault d own scope (written at head [] es) f
    unfolding comparison_phrase both comparison_of of_wholes of_members
    equality_found head equality no_term n e = absurd (omega arith)
    equality_found head equality (one_term h no_term) n e = absurd (omega arith)
    equality_found head equality (one_term h (one_term j (one_term l more))) n e = absurd (omega arith)
    equality_found head IsEquality.eq (one_term {k = Whole v w} h (one_term {k = Whole x y} j no_term)) n e = absurd cc
    equality_found head IsEquality.ne (one_term {k = Whole v w} h (one_term {k = Whole x y} j no_term)) n e = absurd cc
    equality_found head equality (one_term {e = a} {k = Whole v w} h (one_term {e = b} {k = Member i} j no_term)) n e =
        wrong_kind (written at head [] (a ∷ b ∷ [])) e (RuleFault.equality at equality h j (λ alike. elim alike [ ]))
    equality_found head equality (one_term {e = a} {k = Member i} h (one_term {e = b} {k = Whole x y} j no_term)) n e =
        wrong_kind (written at head [] (a ∷ b ∷ [])) e (RuleFault.equality at equality h j (λ alike. elim alike [ ]))
    equality_found head equality (one_term {e = a} {t = s} {k = Member i} h (one_term {e = b} {t = t} {k = Member k} j no_term)) n e = by equality (nat_eq i k) refl e
      where
        other : {i k : ℕ} → nat_eq i k ≡ false → AreAlike (MemberOf i) (MemberOf k) → ⊥
        other {i} is AreAlike.members = let yes : nat_eq i i ≡ true = grind (arith, nat_tests) in cc

        by : {head : Head} → IsEquality head → (r : Bool) → nat_eq i k ≡ r → comparison_by at (if r then of_members head else None) s t ≡ Err f → RuleFault d own scope (written at head [] (a ∷ b ∷ [])) f
        by IsEquality.eq true is e = absurd cc
        by IsEquality.ne true is e = absurd cc
        by {head} equality false is e = wrong_kind (written at head [] (a ∷ b ∷ [])) e (RuleFault.equality at equality h j (other is))

    -- ---- no fault of formulas

    pub no_many : (way : Way) (b : Bool) (es : List Expr) (ps : List Formula) → AreFormulas d own scope way es ps → 2 ≤ length es → connective_phrase at b ps ≡ Err f → ⊥
    unfolding connective_phrase
    no_many way b es ps all low e = let n = as_many_formulas d own all in let count : nat_le 2 (length ps) ≡ true = yes_nat_le 2 (length ps) (omega arith) in let h = rw count at e in cc

    pub no_not : {es : List Expr} {ps : List Formula} → AreFormulas d own scope None es ps → length es ≡ 1 → negation_phrase at ps ≡ Err f → ⊥
    unfolding negation_phrase only
    no_not no_formula n e = omega arith
    no_not (one_formula h no_formula) n e = cc
    no_not (one_formula h (one_formula j more)) n e = omega arith

    pub no_implies : {es : List Expr} {ps : List Formula} → AreFormulas d own scope None es ps → length es ≡ 2 → implication_phrase at ps ≡ Err f → ⊥
    unfolding implication_phrase both
    no_implies no_formula n e = omega arith
    no_implies (one_formula h no_formula) n e = omega arith
    no_implies (one_formula h (one_formula j no_formula)) n e = cc
    no_implies (one_formula h (one_formula j (one_formula l more))) n e = omega arith

    pub no_body : (is : List ℕ) (inside : Scope) (inner : Way) (x : Expr) (make : Formula → Phrase) (r : Phrase) → 1 ≤ length is → Follows d own role.Formula inside inner x r
        → and_then (binder_body at is (with_part r no_phrases).formulas) (λ q. Ok (make q)) ≡ Err f → ⊥
    unfolding binder_body only
    no_body is inside inner x make (Value t k) some h e = h
    no_body [] inside inner x make (Truth p) some h e = omega arith
    no_body (i ∷ is) inside inner x make (Truth p) some h e = cc
