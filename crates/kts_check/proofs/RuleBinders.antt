-- The checker binds the variables that the typing rules bind.
use Rattle.std.proofs.Common.{◌≡◌, refl, sym, ◌∙◌, ap, subst, ℕ, suc, ◌<◌, List, [], ◌∷◌, ◌++◌, append_assoc, append-nil, length, map, true, ◌&&◌, Option, None, Some, Ok, nat_lt}
use Rattle.std.proofs.lemmas.Bool.{and_parts, and_from}
use Rattle.kts_spec.specs.Names.{same_name}
use Rattle.kts_base.specs.Limits.{most_variables}
use Rattle.kts_syntax.specs.declared.word.Word.{Word}
use Rattle.kts_check.specs.Declarations.{Declarations, entry_of, as_index, index_of, is_taken}
use Rattle.kts_check.specs.Contexts.{Context, binder_index, bind, with_variable, has_room, further}
use Rattle.kts_check.specs.Rules.{Binder, Declares, Way, past, IsFree, Binds, no_binder, binder}
use Rattle.kts_check.specs.Scopes.{Scope, variable}
use Rattle.kts_check.specs.declared.entry.Entry.{Entry}
use Rattle.kts_check.specs.declared.entry.Entry.TheVariants as entry
use Rattle.kts_check.proofs.Inversions.{ok, ok_is, both_ok, test_ok, taken_ok}
use Rattle.kts_base.proofs.Orders.{nat_lt_yes, yes_nat_lt}
use Rattle.kts_check.proofs.RuleTests.{other_if, other_then, free_if, free_then, unbound_if, unbound_then, room_if, room_then, past_one, past_none, past_more}

-- ---- names of indexes

index_by : (o : Option Entry) (at i : ℕ) → as_index o at ≡ Ok i → o ≡ Some (entry.Index i)
index_by None at i e = absurd cc
index_by (Some (entry.Index j)) at i e = ap (λ (k : ℕ). Some (entry.Index k)) (ok_is j i e)
index_by (Some (entry.Given f)) at i e = absurd cc
index_by (Some (entry.Choice x)) at i e = absurd cc
index_by (Some entry.Formula) at i e = absurd cc

module _ (d : Declarations) where
  pub index_if : (word : Word) (i : ℕ) → index_of d.names word ≡ Ok i → Declares d word.name (entry.Index i)
  unfolding index_of
  index_if word i e = index_by (entry_of d.names word.name) word.at i e

  pub index_then : (word : Word) (i : ℕ) → Declares d word.name (entry.Index i) → index_of d.names word ≡ ok i
  unfolding index_of
  index_then word i e = rw e refl

module _ (d : Declarations) (own : List ℕ) where
  -- ---- one binder

  record IsBinder (p : Context) (word index : Word) (i : ℕ) : Type 0 where
    free : IsFree d own p.scope word.name
    declared : Declares d index.name (entry.Index i)
    few : length p.scope < most_variables
    room : has_room p.way ≡ true

  bound_if : (p : Context) (word index : Word) (at i : ℕ) → binder_index d.names own p (word, index, at) ≡ Ok i → IsBinder p word index i
  unfolding binder_index
  bound_if p word index at i e =
      let free = taken_ok (is_taken d.names own p.scope word.name) _ _ i e in
      let names = free_if (entry_of d.names word.name) (same_name own word.name) (variable p.scope word.name) free.0 in
      let found = both_ok (index_of d.names index) _ i free.1 in
      let tested = test_ok (nat_lt (length p.scope) most_variables && has_room p.way) (Ok found.0) _ i found.2 in
      let both = and_parts (nat_lt (length p.scope) most_variables) (has_room p.way) tested.0 in
      record {
        free = record { undeclared = names.0; other = other_if own word.name names.1; unbound = unbound_if p.scope word.name 0 names.2 };
        declared = index_if d index i (found.1 ∙ tested.1);
        few = nat_lt_yes (length p.scope) most_variables both.0;
        room = both.1;
      }

  bound_then : (p : Context) (word index : Word) (at i : ℕ) → IsBinder p word index i → binder_index d.names own p (word, index, at) ≡ ok i
  unfolding binder_index
  bound_then p word index at i b =
      let free = free_then (entry_of d.names word.name) (same_name own word.name) (variable p.scope word.name) b.free.undeclared (other_then own word.name b.free.other) (unbound_then p.scope word.name 0 b.free.unbound) in
      let room = and_from (nat_lt (length p.scope) most_variables) (has_room p.way) (yes_nat_lt (length p.scope) most_variables b.few) b.room in
      rw (free, index_then d index i b.declared, room) refl

  -- ---- binders

  -- the place after these variables
  abbrev pub after : Context → Scope → Context
  after p variables = record { scope = p.scope ++ variables; indexes = p.indexes ++ map (λ (v : List ℕ × ℕ). v.1) variables; way = past p.way (length variables) }

  after_none : (p : Context) → after p [] ≡ p
  after_none p =
      let s = append-nil p.scope in
      let i = append-nil p.indexes in
      let w = past_none p.way in
      rw (s, i, w) refl

  after_more : (p : Context) (name : List ℕ) (i : ℕ) (more : Scope) → after (with_variable p name i) more ≡ after p ((name, i) ∷ more)
  after_more p name i more =
      let s = append_assoc p.scope ((name, i) ∷ []) more in
      let is = append_assoc p.indexes (i ∷ []) (map (λ (v : List ℕ × ℕ). v.1) more) in
      let w : past (further p.way) (length more) ≡ past p.way (suc (length more)) = ap (λ (way : Way). past way (length more)) (past_one p.way) ∙ past_more p.way (length more) in
      rw (s, is, w) refl

  pub binds_if : (p : Context) (bs : List Binder) (q : Context) → bind d.names own p bs ≡ Ok q → (variables : Scope) × Binds d own p.scope p.way bs variables × (after p variables ≡ q)
  unfolding bind
  binds_if p [] q e = ([], no_binder, after_none p ∙ ok_is p q e)
  binds_if p ((word, index, at) ∷ bs) q e =
      let one = both_ok (binder_index d.names own p (word, index, at)) _ q e in
      let is = bound_if p word index at one.0 one.1 in
      let more = binds_if (with_variable p word.name one.0) bs q one.2 in (
        (word.name, one.0) ∷ more.0,
        binder is.free is.declared is.few (room_if p.way is.room) (subst (λ (way : Way). Binds d own (p.scope ++ (word.name, one.0) ∷ []) way bs more.0) (past_one p.way) more.1),
        sym (after_more p word.name one.0 more.0) ∙ more.2,
      )

  pub binds_then : {scope : Scope} {way : Way} {bs : List Binder} {variables : Scope} → Binds d own scope way bs variables
      → (indexes : List ℕ) → bind d.names own (record { scope = scope; indexes = indexes; way = way }) bs ≡ ok (after (record { scope = scope; indexes = indexes; way = way }) variables)
  unfolding bind
  binds_then {scope = scope} {way = way} no_binder indexes = ap ok (sym (after_none (record { scope = scope; indexes = indexes; way = way })))
  binds_then {scope = scope} {way = way} (binder {word = word} {index = index} {at = at} {i = i} {binders = bs} {more = more} free declared few room later) indexes =
      let p : Context = record { scope = scope; indexes = indexes; way = way } in
      let one = bound_then p word index at i (record { free = free; declared = declared; few = few; room = room_then way room }) in
      rw one (ap (λ (w : Way). bind d.names own (record { scope = scope ++ (word.name, i) ∷ []; indexes = indexes ++ i ∷ []; way = w }) bs) (past_one way)
      ∙ binds_then later (indexes ++ i ∷ []) ∙ ap (λ (w : Way). ok (after (record { scope = scope ++ (word.name, i) ∷ []; indexes = indexes ++ i ∷ []; way = w }) more)) (sym (past_one way))
      ∙ ap ok (after_more p word.name i more))
