-- The faults of names and of binders that the checker gives are those of the rules of faults.
use Rattle.std.proofs.Common.{◌≡◌, refl, ◌∙◌, ap, subst, ℕ, ◌<◌, ◌≤◌, List, [], ◌∷◌, ◌++◌, length, Bool, true, false, ◌&&◌, ◌||◌, Option, None, Some, is_some, if◌then◌else◌, Ok, Err, nat_lt, ◌⊎◌, inl, inr, arith}
use Rattle.std.proofs.lemmas.Bool.Decides.{nat_tests}
use Rattle.std.proofs.lemmas.Slice.Eq.{bytes_eq-Decides}
use Rattle.kts_base.specs.Reads.{and_then}
use Rattle.kts_spec.specs.Names.{same_name}
use Rattle.kts_base.specs.Limits.{most_variables, most_prefix}
use Rattle.kts_syntax.specs.declared.word.Word.{Word}
use Rattle.kts_check.specs.Faults.{Judged, fault, fail}
use Rattle.kts_check.specs.Faulty.{IndexFault, IsTaken, BinderFault, BindersFault}
use Rattle.kts_check.specs.Declarations.{Declarations, entry_of, as_index, index_of, is_taken}
use Rattle.kts_check.specs.Contexts.{Context, binder_index, bind, has_room, with_variable}
use Rattle.kts_check.specs.Rules.{Binder, Declares, Way, past, HasRoom, IsFree}
use Rattle.kts_check.specs.Scopes.{Scope, variable}
use Rattle.kts_check.specs.declared.entry.Entry.{Entry}
use Rattle.kts_check.specs.declared.entry.Entry.TheVariants as entry
use Rattle.kts_check.specs.Faults.{SpecFault}
use Rattle.kts_check.specs.declared.fault.SpecKind.TheVariants.{NameTaken, TooMany}
use Rattle.kts_check.proofs.FaultBinders.{err, err_is}
use Rattle.kts_base.proofs.Orders.{nat_lt_yes}
use Rattle.kts_check.proofs.RuleTests.{other_if, free_if, unbound_if, variable_if, room_if, past_one}

-- the first judgement failed, or the second did
pub either : {A B : Type 0} (r : Judged A) (f : A → Judged B) (g : SpecFault) → and_then r f ≡ Err g → (r ≡ Err g) ⊎ ((x : A) × (r ≡ Ok x) × (f x ≡ Err g))
either (Ok x) f g e = inr (x, refl, e)
either (Err h) f g e = inl (ap err (err_is h g e))

not_below : (n m : ℕ) → nat_lt n m ≡ false → m ≤ n
not_below n m e = grind (arith, nat_tests)

module _ (d : Declarations) where
  -- ---- names of indexes

  -- a name of an index, as it was judged
  pub data IndexIs (word : Word) : Judged ℕ → Type 0 where
    good : {i : ℕ} → Declares d word.name (entry.Index i) → IndexIs word (Ok i)
    bad : {f : SpecFault} → IndexFault d word f → IndexIs word (Err f)

  index_by : (word : Word) (o : Option Entry) → entry_of d.names word.name ≡ o → IndexIs word (as_index o word.at)
  index_by word None e = bad (IndexFault.unknown e)
  index_by word (Some (entry.Index i)) e = good e
  index_by word (Some (entry.Given f)) e = bad (IndexFault.no_index e (λ i same. cc))
  index_by word (Some (entry.Choice x)) e = bad (IndexFault.no_index e (λ i same. cc))
  index_by word (Some entry.Formula) e = bad (IndexFault.no_index e (λ i same. cc))

  pub index_is : (word : Word) → IndexIs word (index_of d.names word)
  unfolding index_of
  index_is word = index_by word (entry_of d.names word.name) refl

module _ (d : Declarations) (own : List ℕ) where
  -- ---- binders

  taken_if : (scope : Scope) (name : List ℕ) → is_taken d.names own scope name ≡ true → IsTaken d own scope name
  taken_if scope name e = by (entry_of d.names name) (same_name own name) (variable scope name) refl refl refl e
    where
      by : (a : Option Entry) (b : Bool) (c : Option (ℕ × ℕ)) → entry_of d.names name ≡ a → same_name own name ≡ b → variable scope name ≡ c → (is_some a || b || is_some c) ≡ true → IsTaken d own scope name
      by (Some x) b c p q r e = IsTaken.declared p
      by None true c p q r e = IsTaken.of_form ((bytes_eq-Decides own name).0 q)
      by None false (Some (k, i)) p q r e = IsTaken.in_scope (variable_if scope name 0 k i r).2
      by None false None p q r e = absurd cc

  free_of : (scope : Scope) (name : List ℕ) → is_taken d.names own scope name ≡ false → IsFree d own scope name
  free_of scope name e =
      let names = free_if (entry_of d.names name) (same_name own name) (variable scope name) e in
      record { undeclared = names.0; other = other_if own name names.1; unbound = unbound_if scope name 0 names.2 }

  -- a binder, as it was judged
  data BoundIs (p : Context) (word index : Word) (at : ℕ) : Judged ℕ → Type 0 where
    binds : {i : ℕ} → IsFree d own p.scope word.name → Declares d index.name (entry.Index i) → length p.scope < most_variables → HasRoom p.way → BoundIs p word index at (Ok i)
    fails : {f : SpecFault} → BinderFault d own p.scope p.way (word, index, at) f → BoundIs p word index at (Err f)

  room_is : (p : Context) (word index : Word) (at i : ℕ) → IsFree d own p.scope word.name → Declares d index.name (entry.Index i)
      → (a : Bool) (way : Way) (b : Bool) → nat_lt (length p.scope) most_variables ≡ a → p.way ≡ way → has_room way ≡ b → BoundIs p word index at (if a && b then Ok i else fail TooMany at)
  room_is p word index at i h j false way b m v n = fails (BinderFault.ninth h j (not_below (length p.scope) most_variables m))
  room_is p word index at i h j true way true m v n = binds h j (nat_lt_yes (length p.scope) most_variables m) (room_if p.way (ap has_room v ∙ n))
  room_is p word index at i h j true None false m v n = absurd cc
  room_is p word index at i h j true (Some k) false m v n =
      fails (subst (λ (w : Way). BinderFault d own p.scope w (word, index, at) (fault TooMany at)) (v_back v) (BinderFault.fourth h j (not_below k most_prefix n)))
    where
      v_back : {w : Way} → w ≡ Some k → Some k ≡ w
      v_back e = cc

  bound_is : (p : Context) (word index : Word) (at : ℕ) → BoundIs p word index at (binder_index d.names own p (word, index, at))
  unfolding binder_index
  bound_is p word index at = by (is_taken d.names own p.scope word.name) refl
    where
      named : (r : Judged ℕ) → IsFree d own p.scope word.name → IndexIs d index r → BoundIs p word index at (and_then r (λ i. if nat_lt (length p.scope) most_variables && has_room p.way then Ok i else fail TooMany at))
      named _ h (good {i = i} j) = room_is p word index at i h j (nat_lt (length p.scope) most_variables) p.way (has_room p.way) refl refl refl
      named _ h (bad j) = fails (BinderFault.index h j)

      by : (t : Bool) → is_taken d.names own p.scope word.name ≡ t
          → BoundIs p word index at (if t then fail NameTaken word.at else and_then (index_of d.names index) (λ i. if nat_lt (length p.scope) most_variables && has_room p.way then Ok i else fail TooMany at))
      by true e = fails (BinderFault.name (taken_if p.scope word.name e))
      by false e = named (index_of d.names index) (free_of p.scope word.name e) (index_is d index)

  pub bind_found : (p : Context) (bs : List Binder) (f : SpecFault) → bind d.names own p bs ≡ Err f → BindersFault d own p.scope p.way bs f
  unfolding bind
  bind_found p [] f e = absurd cc
  bind_found p ((word, index, at) ∷ bs) f e =
      by (binder_index d.names own p (word, index, at)) (bound_is p word index at) (λ i more. subst (λ (w : Way). BindersFault d own (p.scope ++ (word.name, i) ∷ []) w bs f) (past_one p.way) (bind_found (with_variable p word.name i) bs f more)) e
    where
      by : (r : Judged ℕ) → BoundIs p word index at r → ((i : ℕ) → bind d.names own (with_variable p word.name i) bs ≡ Err f → BindersFault d own (p.scope ++ (word.name, i) ∷ []) (past p.way 1) bs f)
          → and_then r (λ i. bind d.names own (with_variable p word.name i) bs) ≡ Err f → BindersFault d own p.scope p.way ((word, index, at) ∷ bs) f
      by _ (binds {i = i} h j few room) rest e = BindersFault.later h j few room (rest i e)
      by _ (fails {f = g} h) rest e = BindersFault.first (subst (BinderFault d own p.scope p.way (word, index, at)) (err_is {A = Context} g f e) h)
