-- Binders bring variables of indexes into scope that are there, and not too many; so what stands after them is well typed.
use Rattle.std.proofs.Common.{◌≡◌, refl, sym, ◌∙◌, ap, subst, ℕ, suc, ◌+◌, ◌<◌, ◌≤◌, List, [], ◌∷◌, ◌++◌, append_assoc, append-nil, length, map, true, ◌&&◌, Option, None, Some, Ok, nat_lt, nat_le, arith}
use Rattle.std.specs.List.{list_all}
use Rattle.std.proofs.lemmas.Bool.{and_parts, and_from}
use Rattle.std.proofs.lemmas.List.{length-map, map-append, length-append}
use Rattle.kts_base.specs.Reads.{and_then}
use Rattle.kts_spec.specs.Sizes.{Size, size_of_term, size_of_formula, has_short_prefixes, all_beside, beside}
use Rattle.kts_spec.specs.Typing.{is_index, may_bind, kind_of as typing_of, is_typed}
use Rattle.kts_base.specs.Limits.{most_variables, most_prefix}
use Rattle.kts_spec.specs.declared.schema.Schema.{Schema}
use Rattle.kts_spec.specs.declared.tree.Formula.{Formula}
use Rattle.kts_spec.specs.declared.tree.Formula.TheVariants as formula
use Rattle.kts_spec.specs.declared.tree.Term.{Term}
use Rattle.kts_spec.specs.declared.tree.Term.TheVariants as term
use Rattle.kts_spec.proofs.Typings.{kind_of-Sum, is_typed-Forall, is_typed-Exists}
use Rattle.kts_spec.proofs.TreeSizes.{size_of_term-Sum, size_of_formula-Forall, size_of_formula-Exists, has_short_prefixes-Forall, has_short_prefixes-Exists}
use Rattle.kts_syntax.specs.declared.word.Word.{Word}
use Rattle.kts_check.specs.Declarations.{Declarations, entry_of, index_of, is_taken}
use Rattle.kts_check.specs.Measures.{range_of_sum}
use Rattle.kts_check.specs.Contexts.{Context, plain_context, binder_index, bind, with_variable, has_room, further}
use Rattle.kts_check.specs.Scopes.{Scope}
use Rattle.kts_check.specs.Sound.{Extends, IsThere}
use Rattle.kts_check.specs.Trees.{only, sum_phrase, binder_body}
use Rattle.kts_check.specs.declared.entry.Entry.{Entry}
use Rattle.kts_check.specs.declared.phrase.Phrases.{Phrases}
use Rattle.kts_check.specs.declared.phrase.Phrase.{Phrase}
use Rattle.kts_check.specs.declared.phrase.Phrase.TheVariants.{Truth}
use Rattle.kts_check.proofs.FormFacts.{index_there as index_known}
use Rattle.kts_check.proofs.GoodTrees.{one_true}
use Rattle.kts_base.proofs.Orders.{nat_lt_yes, yes_nat_lt, yes_nat_le}
use Rattle.kts_check.proofs.Inversions.{ok_is, both_ok, test_ok, taken_ok, some_is, only_ok, kind_shown}
use Rattle.kts_check.proofs.SizeLemmas.{Within, within_more, within_one, within_tree, within_beside}
use Rattle.kts_check.proofs.WellTyped.{kinds_in, shown_all, sum_typed, IsGood, AreGood, good_measured}

module _ (schema : Schema) (d : Declarations) (own : List ℕ) (ext : Extends d schema) (there : (name : List ℕ) (e : Entry) → entry_of d.names name ≡ Some e → IsThere d e) where
  index_there : (word : Word) (i : ℕ) → index_of d.names word ≡ Ok i → is_index schema i ≡ true
  index_there word i e =
      let low : i < length d.indexes = nat_lt_yes i (length d.indexes) (index_known d there word i e) in
      let all : length schema.indexes ≡ length d.indexes + length ext.more_indexes = ap length ext.indexes ∙ length-append d.indexes ext.more_indexes in
      yes_nat_lt i (length schema.indexes) (omega arith)

  record OneBound (p : Context) (i : ℕ) : Type 0 where
    index : is_index schema i ≡ true
    few : length p.scope < 8
    room : has_room p.way ≡ true

  bound_ok : (p : Context) (b : Word × Word × ℕ) (i : ℕ) → binder_index d.names own p b ≡ Ok i → OneBound p i
  unfolding binder_index
  bound_ok p (word, index, at) i e =
      let free = taken_ok (is_taken d.names own p.scope word.name) _ _ i e in
      let found = both_ok (index_of d.names index) _ i free.1 in
      let tested = test_ok (nat_lt (length p.scope) most_variables && has_room p.way) (Ok found.0) _ i found.2 in
      let both = and_parts (nat_lt (length p.scope) most_variables) (has_room p.way) tested.0 in
      record { index = index_there index i (found.1 ∙ tested.1); few = nat_lt_yes (length p.scope) 8 both.0; room = both.1 }

  -- these variables were bound from one place to another
  record AreBound (p q : Context) (is : List ℕ) : Type 0 where
    scope : kinds_in q.scope ≡ kinds_in p.scope ++ is
    indexes : q.indexes ≡ p.indexes ++ is
    are : list_all (is_index schema) is ≡ true
    few : 1 ≤ length is → length p.scope + length is ≤ 8
    way : (k : ℕ) → p.way ≡ Some k → q.way ≡ Some (k + length is)
    short : (k : ℕ) → p.way ≡ Some k → 1 ≤ length is → k + length is ≤ 3

  room_is : (way : Option ℕ) (k : ℕ) → has_room way ≡ true → way ≡ Some k → k < 3
  room_is None k h e = absurd cc
  room_is (Some n) k h e = let same = some_is n k e in let low = nat_lt_yes n 3 h in omega arith

  more_bound : (p q : Context) (name : List ℕ) (i : ℕ) (is : List ℕ) → OneBound p i → AreBound (with_variable p name i) q is → AreBound p q (i ∷ is)
  more_bound p q name i is one more =
      let size : length (p.scope ++ (name, i) ∷ []) ≡ length p.scope + 1 = length-append p.scope ((name, i) ∷ []) in
      let few = one.few in
      record {
        scope = more.scope ∙ ap (λ l. l ++ is) (map-append (λ (v : List ℕ × ℕ). v.1) p.scope ((name, i) ∷ [])) ∙ append_assoc (kinds_in p.scope) (i ∷ []) is;
        indexes = more.indexes ∙ append_assoc p.indexes (i ∷ []) is;
        are = and_from (is_index schema i) (list_all (is_index schema) is) one.index more.are;
        few = (λ some. by_few is more.few size few);
        way = (λ k w. more.way (k + 1) (ap further w) ∙ ap Some (omega arith));
        short = (λ k w some. by_short is k (room_is p.way k one.room w) (more.short (k + 1) (ap further w)));
      }
    where
      by_few : (is : List ℕ) → (1 ≤ length is → length (p.scope ++ (name, i) ∷ []) + length is ≤ 8) → length (p.scope ++ (name, i) ∷ []) ≡ length p.scope + 1 → length p.scope < 8 → length p.scope + length (i ∷ is) ≤ 8
      by_few [] more size few = omega arith
      by_few (j ∷ is) more size few = let h = more (omega arith) in omega arith

      by_short : (is : List ℕ) (k : ℕ) → k < 3 → (1 ≤ length is → (k + 1) + length is ≤ 3) → k + length (i ∷ is) ≤ 3
      by_short [] k low more = omega arith
      by_short (j ∷ is) k low more = let h = more (omega arith) in omega arith

  bind_good : (p : Context) (bs : List (Word × Word × ℕ)) (q : Context) → bind d.names own p bs ≡ Ok q → (is : List ℕ) × AreBound p q is
  unfolding bind
  bind_good p [] q e =
      let same = ok_is p q e in (
        [],
        subst (λ (r : Context). AreBound p r []) same (record {
          scope = sym (append-nil (kinds_in p.scope));
          indexes = sym (append-nil p.indexes);
          are = refl;
          few = (λ some. absurd (omega arith));
          way = (λ k w. w ∙ ap Some (omega arith));
          short = (λ k w some. absurd (omega arith));
        }),
      )
  bind_good p (b ∷ bs) q e =
      let one = both_ok (binder_index d.names own p b) _ q e in
      let more = bind_good (with_variable p b.0.name one.0) bs q one.2 in
      (one.0 ∷ more.0, more_bound p q b.0.name one.0 more.0 (bound_ok p b one.0 one.1) more.1)

  -- the place after binders, from a scope
  pub record IsBound (scope : Scope) (way : Option ℕ) (q : Context) : Type 0 where
    pub kinds : kinds_in q.scope ≡ kinds_in scope ++ q.indexes
    pub are : list_all (is_index schema) q.indexes ≡ true
    pub few : 1 ≤ length q.indexes → length scope + length q.indexes ≤ 8
    pub ways : (k : ℕ) → way ≡ Some k → q.way ≡ Some (k + length q.indexes)
    pub short : (k : ℕ) → way ≡ Some k → 1 ≤ length q.indexes → k + length q.indexes ≤ 3

  pub is_bound : (scope : Scope) (way : Option ℕ) (bs : List (Word × Word × ℕ)) (q : Context) → bind d.names own (plain_context scope way) bs ≡ Ok q → IsBound scope way q
  is_bound scope way bs q e =
      let all = bind_good (plain_context scope way) bs q e in
      let same : all.0 ≡ q.indexes = sym all.1.indexes in
      let b : AreBound (plain_context scope way) q q.indexes = subst (AreBound (plain_context scope way) q) same all.1 in
      record { kinds = b.scope; are = b.are; few = b.few; ways = b.way; short = b.short }

  may : (scope : Scope) (way : Option ℕ) (q : Context) → IsBound scope way q → 1 ≤ length q.indexes → may_bind schema (kinds_in scope) q.indexes ≡ true
  may scope way q b some =
      let few = b.few some in
      let size : length (kinds_in scope) ≡ length scope = length-map scope (λ (v : List ℕ × ℕ). v.1) in
      and_from (nat_le 1 (length q.indexes) && list_all (is_index schema) q.indexes) (nat_le (length (kinds_in scope) + length q.indexes) most_variables)
      (and_from (nat_le 1 (length q.indexes)) (list_all (is_index schema) q.indexes) (yes_nat_le 1 (length q.indexes) some) b.are)
      (yes_nat_le (length (kinds_in scope) + length q.indexes) 8 (omega arith))

  body_ok : (at : ℕ) (is : List ℕ) (ps : List Formula) (p : Formula) → binder_body at is ps ≡ Ok p → (1 ≤ length is) × (ps ≡ p ∷ [])
  unfolding binder_body
  body_ok at [] ps p e = absurd cc
  body_ok at (i ∷ is) ps p e = (omega arith, only_ok at ps p e)

  module _ (scope : Scope) (way start : Option ℕ) (q : Context) (n m at : ℕ) (phrases : Phrases) (s : Phrase) (good : AreGood schema q.scope q.way n m phrases) (b : IsBound scope start q) where
    body_small : (p : Formula) → phrases.formulas ≡ p ∷ [] → Within (size_of_formula p) n m
    body_small p is =
        let room = good.room in
        within_one (size_of_formula p) n m (subst (λ (ps : List Formula). Within (all_beside (map size_of_formula ps)) n m) is
        (within_more (all_beside (map size_of_formula phrases.formulas)) good.formula_trees m n m good.formulas_within (omega arith) (omega arith)))

    body_typed : (p : Formula) → phrases.formulas ≡ p ∷ [] → is_typed schema p (kinds_in scope ++ q.indexes) ≡ true
    body_typed p is = ap (is_typed schema p) (sym b.kinds) ∙ one_true (λ p. is_typed schema p (kinds_in q.scope)) phrases.formulas p is good.typed

    pub good_forall : way ≡ start → and_then (binder_body at q.indexes phrases.formulas) (λ p. Ok (Truth (formula.Forall q.indexes p))) ≡ Ok s → IsGood schema scope way (suc n) (suc m) s
    good_forall same e =
        let body = both_ok (binder_body at q.indexes phrases.formulas) _ s e in
        let ok = body_ok at q.indexes phrases.formulas body.0 body.1 in
        subst (IsGood schema scope way (suc n) (suc m)) (ok_is (Truth (formula.Forall q.indexes body.0)) s body.2) (
          is_typed-Forall schema (kinds_in scope) q.indexes body.0 ∙ and_from (may_bind schema (kinds_in scope) q.indexes) _ (may scope start q b ok.0) (body_typed body.0 ok.1),
          (λ k w. has_short_prefixes-Forall q.indexes body.0 k
              ∙ and_from (nat_le (k + length q.indexes) most_prefix) _ (yes_nat_le (k + length q.indexes) 3 (b.short k (sym same ∙ w) ok.0))
              (one_true (λ p. has_short_prefixes p (k + length q.indexes)) phrases.formulas body.0 ok.1 (good.short (k + length q.indexes) (b.ways k (sym same ∙ w))))),
          subst (λ (z : Size). Within z (suc n) (suc m)) (sym (size_of_formula-Forall q.indexes body.0)) (within_tree (size_of_formula body.0) n m (body_small body.0 ok.1)),
        )

    pub good_exists : and_then (binder_body at q.indexes phrases.formulas) (λ p. Ok (Truth (formula.Exists q.indexes p))) ≡ Ok s → IsGood schema scope way (suc n) (suc m) s
    good_exists e =
        let body = both_ok (binder_body at q.indexes phrases.formulas) _ s e in
        let ok = body_ok at q.indexes phrases.formulas body.0 body.1 in
        subst (IsGood schema scope way (suc n) (suc m)) (ok_is (Truth (formula.Exists q.indexes body.0)) s body.2) (
          is_typed-Exists schema (kinds_in scope) q.indexes body.0 ∙ and_from (may_bind schema (kinds_in scope) q.indexes) _ (may scope start q b ok.0) (body_typed body.0 ok.1),
          (λ k w. has_short_prefixes-Exists q.indexes body.0 k),
          subst (λ (z : Size). Within z (suc n) (suc m)) (sym (size_of_formula-Exists q.indexes body.0)) (within_tree (size_of_formula body.0) n m (body_small body.0 ok.1)),
        )

    pub good_summed : sum_phrase at q.indexes phrases.formulas phrases.terms phrases.kinds ≡ Ok s → IsGood schema scope way (suc n) (suc m) s
    unfolding sum_phrase
    good_summed e =
        let index = both_ok (only at q.indexes) _ s e in
        let body = both_ok (only at phrases.formulas) _ s index.2 in
        let addend = both_ok (only at phrases.terms) _ s body.2 in
        let kind = both_ok (only at phrases.kinds) _ s addend.2 in
        let i = index.0 in let p = body.0 in let t = addend.0 in let k = kind.0 in
        let one : q.indexes ≡ i ∷ [] = only_ok at q.indexes i index.1 in
        let some : 1 ≤ length q.indexes = rw one (omega arith) in
        let ps : phrases.formulas ≡ p ∷ [] = only_ok at phrases.formulas p body.1 in
        let ts : phrases.terms ≡ t ∷ [] = only_ok at phrases.terms t addend.1 in
        let ks : phrases.kinds ≡ k ∷ [] = only_ok at phrases.kinds k kind.1 in
        let typed : typing_of schema t (kinds_in q.scope) ≡ Some (kind_shown k) = first_is _ _ (sym (ap (map (λ t. typing_of schema t (kinds_in q.scope))) ts) ∙ good.kinds ∙ ap shown_all ks) in
        let inner : kinds_in q.scope ≡ kinds_in scope ++ i ∷ [] = b.kinds ∙ ap (λ l. kinds_in scope ++ l) one in
        let allowed : may_bind schema (kinds_in scope) (i ∷ []) ≡ true = ap (may_bind schema (kinds_in scope)) (sym one) ∙ may scope start q b some in
        let met : is_typed schema p (kinds_in scope ++ i ∷ []) ≡ true = ap (λ l. is_typed schema p (kinds_in scope ++ l)) (sym one) ∙ body_typed p ps in
        let has : typing_of schema t (kinds_in scope ++ i ∷ []) ≡ Some (kind_shown k) = ap (typing_of schema t) (sym inner) ∙ typed in
        let room = good.room in
        let term_small : Within (size_of_term t) good.term_trees m = within_one (size_of_term t) good.term_trees m (subst (λ (l : List Term). Within (all_beside (map size_of_term l)) good.term_trees m) ts good.terms_within) in
        let formula_small : Within (size_of_formula p) good.formula_trees m = within_one (size_of_formula p) good.formula_trees m (subst (λ (l : List Formula). Within (all_beside (map size_of_formula l)) good.formula_trees m) ps good.formulas_within) in
        let small = within_more (beside (size_of_formula p) (size_of_term t)) (good.formula_trees + good.term_trees) m n m (within_beside (size_of_formula p) (size_of_term t) good.formula_trees good.term_trees m formula_small term_small) (omega arith) (omega arith) in
        good_measured schema scope way (suc n) (suc m) at (term.Sum i p t) (range_of_sum k) s kind.2
        (λ r is. kind_of-Sum schema (kinds_in scope) i p t ∙ rw (allowed, met, has) (sum_typed r k is))
        (subst (λ (z : Size). Within z (suc n) (suc m)) (sym (size_of_term-Sum i p t)) (within_tree (beside (size_of_formula p) (size_of_term t)) n m small))
      where
        first_is : {A : Type 0} (x y : A) → (x ∷ []) ≡ (y ∷ []) → x ≡ y
        first_is x y e = cc
