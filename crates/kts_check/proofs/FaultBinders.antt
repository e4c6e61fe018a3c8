-- The checker gives of names and of binders the faults that the rules of faults give.
use Rattle.std.proofs.Common.{◌≡◌, ◌≢◌, refl, ◌∙◌, ap, ℕ, ◌<◌, ◌≤◌, List, [], ◌∷◌, ◌++◌, length, Bool, true, false, ◌&&◌, ◌||◌, Some, is_some, Err, nat_lt, arith}
use Rattle.std.proofs.lemmas.Bool.{and_from}
use Rattle.std.proofs.lemmas.Bool.Decides.{nat_tests}
use Rattle.std.proofs.lemmas.Slice.Eq.{bytes_eq-Decides}
use Rattle.kts_spec.specs.Names.{same_name}
use Rattle.kts_base.specs.Limits.{most_variables, most_prefix}
use Rattle.kts_syntax.specs.declared.word.Word.{Word}
use Rattle.kts_check.specs.Faults.{Judged, fail}
use Rattle.kts_check.specs.Faulty.{IndexFault, IsTaken, BinderFault, BindersFault}
use Rattle.kts_check.specs.Declarations.{Declarations, entry_of, as_index, index_of, is_taken}
use Rattle.kts_check.specs.Contexts.{Context, binder_index, bind, has_room}
use Rattle.kts_check.specs.Rules.{Binder, Declares, Way, HasRoom, IsFree}
use Rattle.kts_check.specs.Scopes.{Scope, variable}
use Rattle.kts_check.specs.declared.entry.Entry.{Entry}
use Rattle.kts_check.specs.declared.entry.Entry.TheVariants as entry
use Rattle.kts_check.specs.Faults.{SpecFault}
use Rattle.kts_check.specs.declared.fault.SpecKind.TheVariants.{WrongKind}
use Rattle.kts_check.proofs.Inversions.{ok}
use Rattle.kts_base.proofs.Orders.{yes_nat_lt}
use Rattle.kts_check.proofs.RuleBinders.{index_then}
use Rattle.kts_check.proofs.RuleTests.{other_then, free_then, unbound_then, variable_then, room_then, past_one}

abbrev pub err : {A : Type 0} → SpecFault → Judged A
err f = Err f

pub err_is : {A : Type 0} (f g : SpecFault) → err {A = A} f ≡ err g → f ≡ g
err_is f g e = cc

-- ---- tests

first_yes : (a b c : Bool) → a ≡ true → (a || b || c) ≡ true
first_yes a b c h = rw h refl

second_yes : (a b c : Bool) → b ≡ true → (a || b || c) ≡ true
second_yes true b c h = refl
second_yes false b c h = rw h refl

third_yes : (a b c : Bool) → c ≡ true → (a || b || c) ≡ true
third_yes true b c h = refl
third_yes false true c h = refl
third_yes false false c h = h

first_no : (a b : Bool) → a ≡ false → (a && b) ≡ false
first_no a b h = rw h refl

second_no : (a b : Bool) → b ≡ false → (a && b) ≡ false
second_no true b h = h
second_no false b h = refl

not_less : (n m : ℕ) → m ≤ n → nat_lt n m ≡ false
not_less n m h = grind (arith, nat_tests)

-- ---- names of indexes

as_other : (e : Entry) (at : ℕ) → ((i : ℕ) → e ≢ entry.Index i) → as_index (Some e) at ≡ fail WrongKind at
as_other (entry.Index i) at n = absurd (n i refl)
as_other (entry.Given f) at n = refl
as_other (entry.Choice x) at n = refl
as_other entry.Formula at n = refl

module _ (d : Declarations) where
  pub index_fails : {word : Word} {f : SpecFault} → IndexFault d word f → index_of d.names word ≡ err f
  unfolding index_of
  index_fails (IndexFault.unknown h) = rw h refl
  index_fails (IndexFault.no_index {word = word} {e = e} h n) = rw h (as_other e word.at n)

module _ (d : Declarations) (own : List ℕ) where
  -- ---- binders

  taken : {scope : Scope} {name : List ℕ} → IsTaken d own scope name → is_taken d.names own scope name ≡ true
  taken {scope} {name} (IsTaken.declared h) = first_yes (is_some (entry_of d.names name)) (same_name own name) (is_some (variable scope name)) (ap is_some h)
  taken {scope} {name} (IsTaken.of_form h) = second_yes (is_some (entry_of d.names name)) (same_name own name) (is_some (variable scope name)) ((bytes_eq-Decides own name).1 h)
  taken {scope} {name} (IsTaken.in_scope h) = third_yes (is_some (entry_of d.names name)) (same_name own name) (is_some (variable scope name)) (ap is_some (variable_then h 0))

  free : (scope : Scope) (name : List ℕ) → IsFree d own scope name → is_taken d.names own scope name ≡ false
  free scope name h = free_then (entry_of d.names name) (same_name own name) (variable scope name) h.undeclared (other_then own name h.other) (unbound_then scope name 0 h.unbound)

  bound_fails : {scope : Scope} {way : Way} {b : Binder} {f : SpecFault} → BinderFault d own scope way b f → (indexes : List ℕ) → binder_index d.names own (record { scope = scope; indexes = indexes; way = way }) b ≡ err f
  unfolding binder_index
  bound_fails {scope} {way} (BinderFault.name h) indexes = rw (taken h) refl
  bound_fails {scope} {way} (BinderFault.index {word = word} h j) indexes = rw (free scope word.name h, index_fails d j) refl
  bound_fails {scope} {way} (BinderFault.ninth {word = word} {index = index} {i = i} h j connective_phrase) indexes =
      let room = first_no (nat_lt (length scope) most_variables) (has_room way) (not_less (length scope) most_variables connective_phrase) in
      rw (free scope word.name h, index_then d index i j, room) refl
  bound_fails {scope} (BinderFault.fourth {word = word} {index = index} {i = i} {n = n} h j connective_phrase) indexes =
      let room = second_no (nat_lt (length scope) most_variables) (has_room (Some n)) (not_less n most_prefix connective_phrase) in
      rw (free scope word.name h, index_then d index i j, room) refl

  bound_ok : (p : Context) (word index : Word) (at i : ℕ) → IsFree d own p.scope word.name → Declares d index.name (entry.Index i) → length p.scope < most_variables → HasRoom p.way
      → binder_index d.names own p (word, index, at) ≡ ok i
  unfolding binder_index
  bound_ok p word index at i h j few room =
      let enough = and_from (nat_lt (length p.scope) most_variables) (has_room p.way) (yes_nat_lt (length p.scope) most_variables few) (room_then p.way room) in
      rw (free p.scope word.name h, index_then d index i j, enough) refl

  pub bind_fails : {scope : Scope} {way : Way} {bs : List Binder} {f : SpecFault} → BindersFault d own scope way bs f → (indexes : List ℕ) → bind d.names own (record { scope = scope; indexes = indexes; way = way }) bs ≡ err f
  unfolding bind
  bind_fails (BindersFault.first h) indexes = rw (bound_fails h indexes) refl
  bind_fails {scope} {way} {f = f} (BindersFault.later {word = word} {index = index} {at = at} {i = i} {bs = bs} h j few room more) indexes =
      let p : Context = record { scope = scope; indexes = indexes; way = way } in
      rw (bound_ok p word index at i h j few room)
      (ap (λ (w : Way). bind d.names own (record { scope = scope ++ (word.name, i) ∷ []; indexes = indexes ++ i ∷ []; way = w }) bs) (past_one way)
      ∙ bind_fails more (indexes ++ i ∷ []))
